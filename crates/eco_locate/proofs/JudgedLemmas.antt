-- Nets that are judged one after the other.
use Rattle.std.proofs.Common.{◌≡◌, ℕ, ◌<◌, List, [], ◌∷◌, ◌++◌, length, map, refl, sym, ◌∙◌, ap, subst}
use Rattle.std.specs.List.{All, Contains}
use Rattle.std.proofs.lemmas.List.Elements.{All-contains, All-append, All-cons, All-nil, Contains-append_left, Contains-append_right}
use Rattle.std.proofs.lemmas.Grind.{flat_map-append}
use Rattle.std.proofs.lemmas.List.{append-nil, map-append}
use Rattle.eco_lists.proofs.Members.{Contains_first}
use Rattle.eco_lists.proofs.Places.{All_from_places, Contains_at}
use Rattle.eco_meaning.specs.Circuit.{Circuit, names, IsDriven}
use Rattle.eco_meaning.specs.Meaning.{Goal}
use Rattle.eco_gates.specs.declared.gate.NetId.{NetId}
use Rattle.eco_netlist.specs.Netlists.{AreNets, name_at}
use Rattle.eco_locate.specs.declared.answer.Excluding.{Excluding}
use Rattle.eco_locate.specs.declared.answer.Located.{Located}
use Rattle.eco_locate.specs.declared.answer.Open.{Open}
use Rattle.eco_locate.specs.Moves.{IsJoint}
use Rattle.eco_locate.specs.Judged.{IsListed, IsOver, Excludes, excluded_nets, nets_in, IsTold, IsJudged, IsJudgedTo}
use Rattle.eco_locate.proofs.MoveLemmas.{joint_none, joint_append, joint_first, joint_second, moved, rearranged_twice, as_many}

module _ (f : Circuit) (goal : Goal) (limit : ℕ) where
  -- the nets that are left are driven ones
  among : (left : List NetId) (located : Located) → (is : IsJudgedTo f goal limit left located) → (net : NetId) → Contains left net → Contains is.driven net
  among left located is net c = (is.moved.members net).1 (Contains-append_left left (nets_in located) net c)

  pub left_within : (left : List NetId) (located : Located) → IsJudgedTo f goal limit left located → AreNets (names f) left
  left_within left located is =
      All_from_places (λ net. net.0 < length (names f)) left (λ k net at.
      All-contains (λ (net : NetId). net.0 < length (names f)) is.driven net is.are.within (among left located is net (Contains_at left k net at)))

  pub left_driven : (left : List NetId) (located : Located) (net : NetId) → IsJudgedTo f goal limit left located → Contains left net → IsDriven f (name_at (names f) net.0)
  left_driven left located net is c =
      All-contains (λ (net : NetId). IsDriven f (name_at (names f) net.0)) is.driven net is.are.driven (among left located is net c)

  pub next_within : (left : List NetId) (net : NetId) (located : Located) → IsJudgedTo f goal limit (left ++ net ∷ []) located → net.0 < length (names f)
  next_within left net located is =
      All-contains (λ (net : NetId). net.0 < length (names f)) (left ++ net ∷ []) net (left_within (left ++ net ∷ []) located is) (Contains-append_right left (net ∷ []) net (Contains_first net []))

  pub next_driven : (left : List NetId) (net : NetId) (located : Located) → IsJudgedTo f goal limit (left ++ net ∷ []) located → IsDriven f (name_at (names f) net.0)
  next_driven left net located is = left_driven (left ++ net ∷ []) located net is (Contains-append_right left (net ∷ []) net (Contains_first net []))

  -- when no net is left, all are judged
  pub judged_all : (located : Located) → IsJudgedTo f goal limit [] located → IsJudged f goal limit located
  judged_all located is =
      let (once, back) = as_many is.driven (nets_in located) is.are.once (λ net c. (is.moved.members net).0 c) is.moved.count in
      record {
        all = record {
          within = All_from_places (λ net. net.0 < length (names f)) (nets_in located) (λ k net at.
              All-contains (λ (net : NetId). net.0 < length (names f)) is.driven net is.are.within (back net (Contains_at (nets_in located) k net at)));
          once = once;
          driven = All_from_places (λ net. IsDriven f (name_at (names f) net.0)) (nets_in located) (λ k net at.
              All-contains (λ (net : NetId). IsDriven f (name_at (names f) net.0)) is.driven net is.are.driven (back net (Contains_at (nets_in located) k net at)));
          complete = λ net below drives. (is.moved.members net).0 (is.are.complete net below drives);
        };
        told = is.told;
      }

  -- nets go from those that are left into the lists
  goes : (left rest more : List NetId) (before after : Located) → IsJoint rest more left → IsJoint (nets_in before) more (nets_in after) → IsTold f goal limit after → IsJudgedTo f goal limit left before → IsJudgedTo f goal limit rest after
  goes left rest more before after from to told is = record {
    driven = is.driven;
    are = is.are;
    moved = rearranged_twice is.driven (left ++ nets_in before) (rest ++ nets_in after) is.moved (moved rest more left (nets_in before) (nets_in after) from to);
    told = told;
  }

  -- none goes
  pub goes_nowhere : (left rest none : List NetId) (located : Located) → IsJoint rest none left → length none ≡ 0 → IsJudgedTo f goal limit left located → IsJudgedTo f goal limit rest located
  goes_nowhere left rest none located from empty is =
      goes left rest none located located from (joint_none (nets_in located) none empty) is.told is

  module _ (before after : Located) where
    abbrev had : List NetId
    had = excluded_nets before.excluding.items

    -- the nets that were left over
    abbrev open_before : List NetId
    open_before = map (λ o. o.net) before.over.items

    one_more : {X : Type 0} (P : X → Type 0) (list more : List X) (x : X) → more ≡ list ++ x ∷ [] → All P list → P x → All P more
    one_more P list more x same all one = subst (All P) (sym same) (All-append P list (x ∷ []) all (All-cons P x [] one (All-nil P)))

    pub goes_listed : (left : List NetId) (net : NetId) → after.listed.items ≡ before.listed.items ++ net ∷ [] → after.over.items ≡ before.over.items → after.excluding.items ≡ before.excluding.items → IsListed f goal net →
        IsJudgedTo f goal limit (left ++ net ∷ []) before → IsJudgedTo f goal limit left after
    goes_listed left net listed over excluding choice is =
        let rest = open_before ++ had in
        let lists : nets_in after ≡ (before.listed.items ++ net ∷ []) ++ rest = rw (listed, over, excluding) refl in
        goes (left ++ net ∷ []) left (net ∷ []) before after (joint_append left (net ∷ []))
        (subst (IsJoint (nets_in before) (net ∷ [])) (sym lists)
        (joint_first before.listed.items (net ∷ []) (before.listed.items ++ net ∷ []) rest (joint_append before.listed.items (net ∷ []))))
        (record {
          choices = one_more (IsListed f goal) before.listed.items after.listed.items net listed is.told.choices choice;
          given_up = subst (All (IsOver f goal limit)) (sym over) is.told.given_up;
          excluded = subst (All (Excludes f goal)) (sym excluding) is.told.excluded;
        })
        is

    pub goes_over : (left : List NetId) (new : Open) → after.listed.items ≡ before.listed.items → after.over.items ≡ before.over.items ++ new ∷ [] → after.excluding.items ≡ before.excluding.items → IsOver f goal limit new →
        IsJudgedTo f goal limit (left ++ new.net ∷ []) before → IsJudgedTo f goal limit left after
    goes_over left new listed over excluding given_up is =
        let net = new.net in
        let more = open_before ++ net ∷ [] in
        let nets : map (λ (o : Open). o.net) (before.over.items ++ new ∷ []) ≡ more = map-append (λ (o : Open). o.net) before.over.items (new ∷ []) in
        let lists : nets_in after ≡ before.listed.items ++ (more ++ had) = rw (listed, over, excluding, nets) refl in
        goes (left ++ net ∷ []) left (net ∷ []) before after (joint_append left (net ∷ []))
        (subst (IsJoint (nets_in before) (net ∷ [])) (sym lists)
        (joint_second (open_before ++ had) (net ∷ []) (more ++ had) before.listed.items
        (joint_first open_before (net ∷ []) more had (joint_append open_before (net ∷ [])))))
        (record {
          choices = subst (All (IsListed f goal)) (sym listed) is.told.choices;
          given_up = one_more (IsOver f goal limit) before.over.items after.over.items new over is.told.given_up given_up;
          excluded = subst (All (Excludes f goal)) (sym excluding) is.told.excluded;
        })
        is

    pub goes_excluded : (left rest : List NetId) (new : Excluding) → IsJoint rest new.nets.items left → after.listed.items ≡ before.listed.items → after.over.items ≡ before.over.items → after.excluding.items ≡ before.excluding.items ++ new ∷ [] →
        Excludes f goal new → IsJudgedTo f goal limit left before → IsJudgedTo f goal limit rest after
    goes_excluded left rest new from listed over excluding excludes is =
        let nets = new.nets.items in
        let more : excluded_nets (before.excluding.items ++ new ∷ []) ≡ had ++ nets =
        flat_map-append (λ (e : Excluding). e.nets.items) before.excluding.items (new ∷ []) ∙ ap (λ (l : List NetId). had ++ l) (append-nil nets) in
        let lists : nets_in after ≡ before.listed.items ++ (open_before ++ (had ++ nets)) = rw (listed, over, excluding, more) refl in
        goes left rest nets before after from
        (subst (IsJoint (nets_in before) nets) (sym lists)
        (joint_second (open_before ++ had) nets (open_before ++ (had ++ nets)) before.listed.items
        (joint_second had nets (had ++ nets) open_before (joint_append had nets))))
        (record {
          choices = subst (All (IsListed f goal)) (sym listed) is.told.choices;
          given_up = subst (All (IsOver f goal limit)) (sym over) is.told.given_up;
          excluded = one_more (Excludes f goal) before.excluding.items after.excluding.items new excluding is.told.excluded excludes;
        })
        is
