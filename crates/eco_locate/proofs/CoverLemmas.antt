-- Inputs that take the nets of others.
use Rattle.std.proofs.Common.{◌≡◌, ℕ, ◌<◌, List, [], ◌∷◌, ◌++◌, length, map, inl, inr, refl, sym, ◌∙◌, ap, subst, arith, length-append}
use Rattle.std.specs.List.{All}
use Rattle.std.proofs.lemmas.List.{append-nil}
use Rattle.std.proofs.lemmas.List.Elements.{All-append, All-contains, All-cons, All-nil, Contains-append_left, Contains-append_right, Contains-append_cases}
use Rattle.std.proofs.lemmas.Grind.{flat_map-append}
use Rattle.eco_lists.proofs.Places.{All_from_places, Contains_at}
use Rattle.eco_meaning.specs.Circuit.{Circuit, names}
use Rattle.eco_meaning.specs.Meaning.{Goal}
use Rattle.eco_gates.specs.declared.gate.NetId.{NetId}
use Rattle.eco_netlist.specs.Netlists.{AreNets}
use Rattle.eco_locate.specs.declared.answer.Excluding.{Excluding}
use Rattle.eco_locate.specs.declared.answer.Located.{Located}
use Rattle.eco_locate.specs.declared.covering.Cover.{Cover}
use Rattle.eco_locate.specs.Covers.{IsCover, IsCoveredBy}
use Rattle.eco_locate.specs.Judged.{Excludes, IsJudged, excluded_nets, nets_in}
use Rattle.eco_locate.specs.Moves.{IsJoint, IsRearranged}
use Rattle.eco_locate.proofs.JudgedLemmas.{judged_all}
use Rattle.eco_locate.proofs.MoveLemmas.{joint_append, joint_none, moved, rearranged_twice}

-- all nets are left, and no input took one
pub cover_begins : (f : Circuit) (goal : Goal) (all : List NetId) (cover : Cover) → AreNets (names f) all → cover.left.items ≡ all → cover.excluding.items ≡ [] → IsCover f goal all cover
cover_begins f goal all cover within left none = record {
  moved = subst (λ (list : List NetId). IsRearranged all list) (sym (append-nil all) ∙ ap (λ (l : List NetId). l ++ []) (sym left) ∙ ap (λ (e : List Excluding). cover.left.items ++ excluded_nets e) (sym none))
      (record { members = λ x. (λ c. c, λ c. c); count = refl });
  told = subst (All (Excludes f goal)) (sym none) (All-nil (Excludes f goal));
  within = subst (AreNets (names f)) (sym left) within;
}

-- what stays of nets is within the netlist
fewer_within : (f : Circuit) (rest more left : List NetId) → IsJoint rest more left → AreNets (names f) left → AreNets (names f) rest
fewer_within f rest more left from within =
    All_from_places (λ net. net.0 < length (names f)) rest (λ k net at.
    All-contains (λ net. net.0 < length (names f)) left net within ((from.members net).1 (inl (Contains_at rest k net at))))

-- an input takes no net
pub cover_stays : (f : Circuit) (goal : Goal) (all rest none : List NetId) (before after : Cover) → IsJoint rest none before.left.items → length none ≡ 0 → after.left.items ≡ rest → after.excluding.items ≡ before.excluding.items → IsCover f goal all before → IsCover f goal all after
cover_stays f goal all rest none before after from empty left same is =
    let had = excluded_nets before.excluding.items in
    record {
      moved = subst (λ (list : List NetId). IsRearranged all list) (ap (λ (l : List NetId). l ++ had) (sym left) ∙ ap (λ (e : List Excluding). after.left.items ++ excluded_nets e) (sym same))
          (rearranged_twice all (before.left.items ++ had) (rest ++ had) is.moved (moved rest none before.left.items had had from (joint_none had none empty)));
      told = subst (All (Excludes f goal)) (sym same) is.told;
      within = subst (AreNets (names f)) (sym left) (fewer_within f rest none before.left.items from is.within);
    }

-- an input takes the nets that it excludes
pub cover_goes : (f : Circuit) (goal : Goal) (all rest : List NetId) (before after : Cover) (new : Excluding) → IsJoint rest new.nets.items before.left.items → after.left.items ≡ rest → after.excluding.items ≡ before.excluding.items ++ new ∷ [] → Excludes f goal new → IsCover f goal all before → IsCover f goal all after
cover_goes f goal all rest before after new from left more excludes is =
    let had = excluded_nets before.excluding.items in
    let nets = new.nets.items in
    let list : excluded_nets (before.excluding.items ++ new ∷ []) ≡ had ++ nets =
    flat_map-append (λ (e : Excluding). e.nets.items) before.excluding.items (new ∷ []) ∙ ap (λ (l : List NetId). had ++ l) (append-nil nets) in
    record {
      moved = subst (λ (list : List NetId). IsRearranged all list) (ap (λ (l : List NetId). rest ++ l) (sym list) ∙ ap (λ (l : List NetId). l ++ excluded_nets (before.excluding.items ++ new ∷ [])) (sym left) ∙ ap (λ (e : List Excluding). after.left.items ++ excluded_nets e) (sym more))
          (rearranged_twice all (before.left.items ++ had) (rest ++ (had ++ nets)) is.moved (moved rest nets before.left.items had (had ++ nets) from (joint_append had nets)));
      told = subst (All (Excludes f goal)) (sym more) (All-append (Excludes f goal) before.excluding.items (new ∷ []) is.told (All-cons (Excludes f goal) new [] excludes (All-nil (Excludes f goal))));
      within = subst (AreNets (names f)) (sym left) (fewer_within f rest nets before.left.items from is.within);
    }

-- another order of what stands behind
behind : {X : Type 0} (front xs ys : List X) → IsRearranged xs ys → IsRearranged (front ++ xs) (front ++ ys)
behind front xs ys same = record {
  members = λ x. (
    λ c. elim (Contains-append_cases front xs x c) [
      | inl here ↦ Contains-append_left front ys x here
      | inr there ↦ Contains-append_right front ys x ((same.members x).0 there)
    ],
    λ c. elim (Contains-append_cases front ys x c) [
      | inl here ↦ Contains-append_left front xs x here
      | inr there ↦ Contains-append_right front xs x ((same.members x).1 there)
    ],
  );
  count = omega (arith, same.count, length-append front xs, length-append front ys);
}

-- the nets are judged with the cover's inputs too
pub covered_judged : (f : Circuit) (goal : Goal) (limit : ℕ) (before after : Located) (cover : Cover) → IsCover f goal (excluded_nets before.excluding.items) cover → IsCoveredBy before cover after → IsJudged f goal limit before → IsJudged f goal limit after
covered_judged f goal limit before after cover covers (inr same) judged = subst (IsJudged f goal limit) (sym same) judged
covered_judged f goal limit before after cover covers (inl (none, same)) judged =
    let new : Located = record before { excluding = cover.excluding } in
    let over = map (λ o. o.net) before.over.items in
    let taken : IsRearranged (excluded_nets before.excluding.items) (excluded_nets cover.excluding.items) =
    subst (λ (left : List NetId). IsRearranged (excluded_nets before.excluding.items) (left ++ excluded_nets cover.excluding.items)) none covers.moved in
    subst (IsJudged f goal limit) (sym same) (judged_all f goal limit new (record {
      driven = nets_in before;
      are = judged.all;
      moved = behind before.listed.items (over ++ excluded_nets before.excluding.items) (over ++ excluded_nets cover.excluding.items)
          (behind over (excluded_nets before.excluding.items) (excluded_nets cover.excluding.items) taken);
      told = record { choices = judged.told.choices; given_up = judged.told.given_up; excluded = covers.told };
    }))
