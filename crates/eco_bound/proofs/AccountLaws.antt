-- The account when it is opened, and with one part more.
use Rattle.std.proofs.Common.{◌≡◌, ◌<◌, ◌≤◌, ◌^◌, ℕ, ◌+◌, inl, inr, Bool, true, false, Option, None, Some, List, [], ◌∷◌, ◌++◌, map, length, refl, sym, ◌∙◌, ap, subst, arith}
use Rattle.std.specs.List.{All, Contains, filter}
use Rattle.std.specs.Option.{unwrap_or}
use Rattle.std.proofs.lemmas.Bool.{cases_Bool, eq-eqb}
use Rattle.std.proofs.lemmas.List.{length-map, length-append, length_push}
use Rattle.std.proofs.lemmas.List.Elements.{All-nil, All-push, All-map, All-contains}
use Rattle.eco_lists.proofs.Members.{Contains-map, map-Contains, Contains_none, Contains-filter}
use Rattle.eco_lists.proofs.Places.{All_from_places, Contains_at}
use Rattle.eco_meaning.specs.Circuit.{Circuit, names, AreTargets}
use Rattle.eco_meaning.specs.Meaning.{IsRectifiable}
use Rattle.eco_meaning.specs.Cost.{Weights, IsCandidate, IsUnpaid, AreTurns}
use Rattle.eco_meaning.specs.Choice.{IsReached}
use Rattle.eco_meaning.specs.Patch.{OfTarget}
use Rattle.eco_meaning.specs.Bound.{Part, IsForcedPart, IsLoad, IsUsedUp, amount_of}
use Rattle.eco_lists.proofs.Values.{some_value}
use Rattle.eco_gates.specs.declared.gate.NetId.{NetId}
use Rattle.eco_netlist.specs.Netlists.{AreNets, bit_of, name_at, names_at}
use Rattle.eco_netlist.specs.Values.{AreValuesAt}
use Rattle.eco_query.specs.Problem.{ProblemValue, HasSomeTargets, HasFewNets}
use Rattle.eco_laws.specs.Sound.{IsSound}
use Rattle.eco_laws.specs.Kept.{TakesAnyInputs}
use Rattle.eco_laws.proofs.Members.{few_names}
use Rattle.eco_laws.proofs.Front.{turns_distinct}
use Rattle.eco_laws.proofs.OneValue.{signal_net}
use Rattle.eco_laws.proofs.InputLemmas.{candidates_suffice}
use Rattle.eco_laws.proofs.Keeping.{kept_is_rectifiable}
use Rattle.eco_bound.specs.declared.payers.Payer.{Payer}
use Rattle.eco_bound.specs.declared.payers.Sight.{Sight}
use Rattle.eco_bound.specs.declared.account.Account.{Account}
use Rattle.eco_bound.specs.Payers.{tells_apart, lowered_by, net_of, is_spent, IsLeastLeft}
use Rattle.eco_bound.specs.Accounts.{ArePayers, HasLeft, IsPaid, IsAccount, IsSight, AreForcing, ShowsSpent, HasPart, IsWeighted, full_payer, payer_name, spent_names, some_left, weight_at}
use Rattle.eco_bound.proofs.PartLaws.{amount_push, load_told, load_alike, use_up_push}
use Rattle.eco_bound.proofs.SightLaws.{sight_tells, sight_alike}
use Rattle.eco_bound.proofs.Lowering.{lowered_told, lowered_silent, nets_lowered, fewer_by_one, some_are_few}

module _ (f : Circuit) (w : Weights) (input_weight : ℕ) (payers : List Payer) (are : ArePayers f w input_weight payers) where
  -- each is a candidate, and each candidate is one of them
  pub payer_net : (payer : Payer) → Contains payers payer → payer.net.0 < length (names f)
  payer_net payer c = All-contains (λ (net : NetId). net.0 < length (names f)) (map net_of payers) payer.net are.nets (Contains-map net_of payers payer c)

  pub payer_is : (payer : Payer) → Contains payers payer → IsCandidate f w input_weight [] (payer_name f payer)
  payer_is payer c =
      (All-contains (IsUnpaid f w input_weight [] []) (names_at (names f) (map net_of payers)) (payer_name f payer) are.turns.sound
      (Contains-map (λ (net : NetId). name_at (names f) net.0) (map net_of payers) payer.net (Contains-map net_of payers payer c))).candidate

  pub payer_named : (name : List ℕ) → IsCandidate f w input_weight [] name → (payer : Payer) × Contains payers payer × (payer_name f payer ≡ name)
  payer_named name is =
      let at = map-Contains (λ (net : NetId). name_at (names f) net.0) (map net_of payers) name (are.turns.complete name (record { candidate = is; unpaid = Contains_none name })) in
      let back = map-Contains net_of payers at.0 at.1 in
      (back.0, back.1, ap (λ (net : NetId). name_at (names f) net.0) back.2 ∙ at.2)

  -- they are no more than the nets
  pub few_payers : IsSound f → length payers ≤ length (names f)
  few_payers sound =
      let list = names_at (names f) (map net_of payers) in
      let few = few_names list (names f) (turns_distinct f w input_weight [] [] list are.turns)
      (λ name c. signal_net f sound name (All-contains (IsUnpaid f w input_weight [] []) list name are.turns.sound c).candidate.signal) in
      let count : length list ≡ length payers = length-map (map net_of payers) (λ (net : NetId). name_at (names f) net.0) ∙ length-map payers net_of in
      omega (arith, few, count)

  -- one that has nothing left is among those that don't
  pub spent_named : (payer : Payer) → Contains payers payer → payer.left ≡ 0 → Contains (spent_names f payers) (payer_name f payer)
  spent_named payer c none =
      Contains-map (λ (net : NetId). name_at (names f) net.0) (map net_of (filter is_spent payers)) payer.net
      (Contains-map net_of (filter is_spent payers) payer (Contains-filter is_spent payers payer c (eq-eqb payer.left 0 none)))

-- what is left to a candidate with one part more
left_with : (f : Circuit) (w : Weights) (input_weight : ℕ) (p : Circuit) (parts : List Part) (part : Part) (sight : Sight) (payer : Payer) → IsSound f → IsSight f part.force1 part.force0 sight →
    payer.net.0 < length (names f) → IsCandidate f w input_weight [] (payer_name f payer) → (tells_apart sight payer.net ≡ true → part.amount ≤ payer.left) →
    HasLeft f w input_weight p parts payer → HasLeft f w input_weight p (parts ++ part ∷ []) (lowered_by sight part.amount payer)
left_with f w input_weight p parts part sight payer sound seen within is enough has =
    let name = payer_name f payer in
    let rest = has.rest in
    elim (cases_Bool (tells_apart sight payer.net)) [
      | inl told ↦
          let above = enough told in
          subst (HasLeft f w input_weight p (parts ++ part ∷ [])) (sym (lowered_told sight part.amount payer told)) (record {
            weight = has.weight;
            weighs = has.weighs;
            load = has.load + part.amount;
            sum = load_told f p name parts part has.load (sight_tells f sound payer.net within is.apart p part sight seen told) has.sum;
            rest = omega (arith, rest, above);
          })
      | inr silent ↦
          subst (HasLeft f w input_weight p (parts ++ part ∷ [])) (sym (lowered_silent sight part.amount payer silent)) (record {
            weight = has.weight;
            weighs = has.weighs;
            load = has.load;
            sum = load_alike f p name parts part has.load (sight_alike f sound payer.net within is.apart p part sight seen silent) has.sum;
            rest = rest;
          })
    ]

-- the problem's lists
abbrev f_of : ProblemValue → Circuit
f_of problem = problem.implementation

module _ (problem : ProblemValue) (account : Account) (sight : Sight) (part : Part) (sound : IsSound (f_of problem)) (is : IsAccount problem account) (seen : IsSight (f_of problem) part.force1 part.force0 sight) (least : IsLeastLeft sight account.payers.items (Some part.amount)) (some : 1 ≤ part.amount) where
  abbrev payers : List Payer
  payers = account.payers.items

  abbrev parts : List Part
  parts = account.parts.items

  -- one candidate more has nothing left
  pub less : some_left (map (lowered_by sight part.amount) payers) < some_left payers
  less = fewer_by_one sight part.amount payers least.0.0 least.0.1 least.0.2 least.0.3 some

  -- the sum stays in range
  pub room : HasFewNets (f_of problem) → part.amount ≤ 4294967295 → account.total + part.amount < 2 ^ 64
  room few small =
      let most = few_payers (f_of problem) problem.weights problem.input_weight payers is.payers sound in
      let count = is.count in
      let bound = is.few in
      let fewer = less in
      omega (arith, few, small, most, count, bound, fewer)

  module _ (forcing : AreForcing problem part.force1 part.force0) (p : Circuit) (takes : TakesAnyInputs p) where
    abbrev f : Circuit
    f = problem.implementation

    paid : IsPaid problem p parts payers
    paid = is.paid p takes

    all_left : All (HasLeft f problem.weights problem.input_weight p (parts ++ part ∷ [])) (map (lowered_by sight part.amount) payers)
    all_left =
        All-map (HasLeft f problem.weights problem.input_weight p (parts ++ part ∷ [])) (lowered_by sight part.amount) payers
        (All_from_places (λ payer. HasLeft f problem.weights problem.input_weight p (parts ++ part ∷ []) (lowered_by sight part.amount payer)) payers
        (λ k payer at.
        let c = Contains_at payers k payer at in
        left_with f problem.weights problem.input_weight p parts part sight payer sound seen (payer_net f problem.weights problem.input_weight payers is.payers payer c)
        (payer_is f problem.weights problem.input_weight payers is.payers payer c)
        (All-contains (λ payer. tells_apart sight payer.net ≡ true → part.amount ≤ payer.left) payers payer least.1 c)
        (All-contains (HasLeft f problem.weights problem.input_weight p parts) payers payer paid.left c)))

    -- the one that had the least is used up
    pub used_up : IsUsedUp f problem.weights problem.input_weight p (parts ++ part ∷ []) (payer_name f least.0.0)
    used_up =
        let payer = least.0.0 in
        let has = All-contains (HasLeft f problem.weights problem.input_weight p parts) payers payer paid.left least.0.1 in
        let rest = has.rest in
        let all = least.0.3 in
        let candidate = payer_is f problem.weights problem.input_weight payers is.payers payer least.0.1 in
        record {
          candidate = candidate;
          weight = has.weight;
          weighs = has.weighs;
          load = subst (IsLoad f p (payer_name f payer) (parts ++ part ∷ [])) (omega (arith, rest, all))
              (load_told f p (payer_name f payer) parts part has.load
              (sight_tells f sound payer.net (payer_net f problem.weights problem.input_weight payers is.payers payer least.0.1) candidate.apart p part sight seen least.0.2) has.sum);
        }

    pub paid_more : IsPaid problem p (parts ++ part ∷ []) (map (lowered_by sight part.amount) payers)
    paid_more = record {
      forced = λ target targets.
          let bits = forcing.forced p takes target targets in
          All-push (IsForcedPart f problem.goal p target) parts part (paid.forced target targets) (record { one = bits.0; zero = bits.1 });
      left = all_left;
      use_up =
          let payer = least.0.0 in
          use_up_push f problem.weights problem.input_weight p parts part (payer_name f payer) paid.use_up
          (sight_tells f sound payer.net (payer_net f problem.weights problem.input_weight payers is.payers payer least.0.1)
          (payer_is f problem.weights problem.input_weight payers is.payers payer least.0.1).apart p part sight seen least.0.2) used_up;
    }

  -- the account with the part
  pub with_part : (new : Account) → AreForcing problem part.force1 part.force0 → part.amount ≤ 4294967295 → HasPart sight part account new → IsAccount problem new
  with_part new forcing small more =
      let lowered = map (lowered_by sight part.amount) payers in
      let list = parts ++ part ∷ [] in
      let f = problem.implementation in
      let nets : map net_of new.payers.items ≡ map net_of payers = ap (map net_of) more.payers ∙ nets_lowered sight part.amount payers in
      let count : length new.parts.items ≡ length parts + 1 = ap length more.parts ∙ length_push parts part in
      let payers_count : length new.payers.items ≡ length payers = ap length more.payers ∙ length-map payers (lowered_by sight part.amount) in
      let left : some_left new.payers.items ≡ some_left lowered = ap some_left more.payers in
      let fewer = less in
      let before = is.count in
      let few = is.few in
      let total = more.total in
      let sum = is.total in
      let amounts : amount_of new.parts.items ≡ amount_of parts + part.amount = ap amount_of more.parts ∙ amount_push parts part in
      record {
        payers = record {
          nets = subst (AreNets (names f)) (sym nets) is.payers.nets;
          turns = subst (λ l. AreTurns f problem.weights problem.input_weight [] [] (names_at (names f) l)) (sym nets) is.payers.turns;
        };
        count = omega (arith, count, payers_count, left, fewer, before);
        total = omega (arith, total, sum, amounts);
        few = omega (arith, total, few, count, small);
        some = subst (All (λ part. 1 ≤ part.amount)) (sym more.parts) (All-push (λ (part : Part). 1 ≤ part.amount) parts part is.some some);
        paid = λ p takes.
            subst (λ l. IsPaid problem p l new.payers.items) (sym more.parts) (subst (IsPaid problem p list) (sym more.payers) (paid_more forcing p takes));
      }

-- where the spent candidates don't suffice, some candidate that isn't spent tells the inputs apart, and no spent one does
module _ (problem : ProblemValue) (payers : List Payer) (one zero : List Bool) (sight : Sight) (sound : IsSound (f_of problem)) (rectifiable : IsRectifiable (f_of problem) problem.goal) (are : ArePayers (f_of problem) problem.weights problem.input_weight payers) (seen : IsSight (f_of problem) one zero sight) (shows : ShowsSpent problem payers one zero) where
  abbrev seen_part : Part
  seen_part = record { amount = 0; force1 = one; force0 = zero }

  pub some_tells : IsLeastLeft sight payers None → ⊥
  some_tells silent =
      let f = problem.implementation in
      let p = shows.p in
      candidates_suffice f problem.goal problem.weights problem.input_weight p [] shows.target [] (names_at (names f) (map net_of payers)) sound are.turns
      ((kept_is_rectifiable f problem.goal p shows.takes).1 rectifiable) one zero
      (record {
        one = shows.conflict.one;
        zero = shows.conflict.zero;
        alike = λ v u at_one at_zero name c.
            let at = map-Contains (λ (net : NetId). name_at (names f) net.0) (map net_of payers) name c in
            let back = map-Contains net_of payers at.0 at.1 in
            let payer = back.0 in
            let same : payer_name f payer ≡ name = ap (λ (net : NetId). name_at (names f) net.0) back.2 ∙ at.2 in
            sym (ap v same)
            ∙ sight_alike f sound payer.net (payer_net f problem.weights problem.input_weight payers are payer back.1) (payer_is f problem.weights problem.input_weight payers are payer back.1).apart p seen_part sight seen
            (All-contains (λ (payer : Payer). tells_apart sight payer.net ≡ false) payers payer silent back.1) v u at_one at_zero
            ∙ ap u same;
      })

  -- a consistent map with the input is reached there
  reached : (x bits : List Bool) → AreValuesAt (f_of problem) x bits → IsReached (f_of problem) shows.p [] x (bit_of (names (f_of problem)) bits)
  reached x bits is = record {
    consistent = is.consistent;
    input = is.input;
    follows = let o = shows.takes (bit_of (names (f_of problem)) bits) in (o.0, o.1, o.2, λ name c. absurd (Contains_none name c));
  }

  pub some_is_left : IsLeastLeft sight payers (Some 0) → ⊥
  some_is_left least =
      let f = problem.implementation in
      let payer = least.0.0 in
      let at_one = reached one sight.ones.items seen.ones in
      let at_zero = reached zero sight.zeros.items seen.zeros in
      sight_tells f sound payer.net (payer_net f problem.weights problem.input_weight payers are payer least.0.1) (payer_is f problem.weights problem.input_weight payers are payer least.0.1).apart shows.p seen_part sight seen
      least.0.2 (bit_of (names f) sight.ones.items) (bit_of (names f) sight.zeros.items) at_one at_zero
      (shows.conflict.alike (bit_of (names f) sight.ones.items) (bit_of (names f) sight.zeros.items) at_one at_zero (payer_name f payer)
      (spent_named f problem.weights problem.input_weight payers are payer least.0.1 least.0.3))

  -- so something is paid
  pub nothing_paid : (least : Option ℕ) → IsLeastLeft sight payers least → unwrap_or least 0 ≡ 0 → ⊥
  nothing_paid None is none = some_tells is
  nothing_paid (Some least) is none = some_is_left (subst (λ (n : ℕ). IsLeastLeft sight payers (Some n)) none is)

-- where the amount isn't 0, it is the least
pub least_is : (sight : Sight) (list : List Payer) (least : Option ℕ) (amount : ℕ) → IsLeastLeft sight list least → amount ≡ unwrap_or least 0 → (amount ≡ 0 → ⊥) → IsLeastLeft sight list (Some amount)
least_is sight list None amount is same some = absurd (some same)
least_is sight list (Some least) amount is same some = subst (λ (n : ℕ). IsLeastLeft sight list (Some n)) (sym same) is

-- the account without a part
no_part : (before : List Part) (part : Part) (behind : List Part) → [] ≡ before ++ part ∷ behind → ⊥
no_part before part behind same =
    let lengths : 0 ≡ length (before ++ part ∷ behind) = ap length same in
    omega (arith, lengths, length-append before (part ∷ behind))

nets_full : (problem : ProblemValue) (turns : List NetId) → map net_of (map (full_payer problem) turns) ≡ turns
nets_full problem [] = refl
nets_full problem (net ∷ turns) = ap (λ list. net ∷ list) (nets_full problem turns)

first_turns : (problem : ProblemValue) (turns : List NetId) → HasSomeTargets problem.implementation → OfTarget problem.implementation 0 (λ earlier target. AreTurns problem.implementation problem.weights problem.input_weight earlier [] (names_at (names problem.implementation) turns)) →
    AreTurns problem.implementation problem.weights problem.input_weight [] [] (names_at (names problem.implementation) turns)
first_turns problem turns some are = let (targets, named, count) = some.counted in go targets named (omega (arith, count, some.some))
  where
    go : (targets : List (List ℕ)) → AreTargets problem.implementation targets → 1 ≤ length targets → AreTurns problem.implementation problem.weights problem.input_weight [] [] (names_at (names problem.implementation) turns)
    go [] named long = absurd (omega (arith, long))
    go (target ∷ behind) named long = are [] target behind named refl

pub weighted_nets : (problem : ProblemValue) (turns : List NetId) → HasSomeTargets problem.implementation → OfTarget problem.implementation 0 (λ earlier target. AreTurns problem.implementation problem.weights problem.input_weight earlier [] (names_at (names problem.implementation) turns)) →
    All (IsWeighted problem) turns
weighted_nets problem turns some are =
    let list = names problem.implementation in
    let is = first_turns problem turns some are in
    All_from_places (IsWeighted problem) turns (λ k net at.
    (All-contains (IsUnpaid problem.implementation problem.weights problem.input_weight [] []) (names_at list turns) (name_at list net.0) is.sound
    (Contains-map (λ (net : NetId). name_at list net.0) turns net (Contains_at turns k net at))).candidate.weighted)

pub opened : (problem : ProblemValue) (turns : List NetId) (account : Account) → HasSomeTargets problem.implementation → AreNets (names problem.implementation) turns → OfTarget problem.implementation 0 (λ earlier target. AreTurns problem.implementation problem.weights problem.input_weight earlier [] (names_at (names problem.implementation) turns)) →
    account.total ≡ 0 → account.parts.items ≡ [] → account.payers.items ≡ map (full_payer problem) turns → IsAccount problem account
opened problem turns account some within are total none full =
    let f = problem.implementation in
    let nets : map net_of account.payers.items ≡ turns = ap (map net_of) full ∙ nets_full problem turns in
    let parts_count : length account.parts.items ≡ 0 = ap length none in
    let few = some_are_few account.payers.items in
    record {
      payers = record {
        nets = subst (AreNets (names f)) (sym nets) within;
        turns = subst (λ l. AreTurns f problem.weights problem.input_weight [] [] (names_at (names f) l)) (sym nets) (first_turns problem turns some are);
      };
      count = omega (arith, few, parts_count);
      total = total ∙ sym (ap amount_of none);
      few = omega (arith, total);
      some = subst (All (λ part. 1 ≤ part.amount)) (sym none) (All-nil (λ (part : Part). 1 ≤ part.amount));
      paid = λ p takes. subst (λ l. IsPaid problem p l account.payers.items) (sym none) (subst (IsPaid problem p []) (sym full) (record {
        forced = λ target targets. All-nil (IsForcedPart f problem.goal p target);
        left = All-map (HasLeft f problem.weights problem.input_weight p []) (full_payer problem) turns
            (All_from_places (λ net. HasLeft f problem.weights problem.input_weight p [] (full_payer problem net)) turns (λ k net at. record {
              weight = unwrap_or (weight_at problem net) 0;
              weighs = some_value (weight_at problem net) 0 (All-contains (IsWeighted problem) turns net (weighted_nets problem turns some are) (Contains_at turns k net at));
              load = 0;
              sum = refl;
              rest = omega arith;
            }));
        use_up = λ before part behind same. absurd (no_part before part behind same);
      }));
    }
