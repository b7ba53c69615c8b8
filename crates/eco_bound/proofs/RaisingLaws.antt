-- The beginning, the candidates that have nothing left, and what two inputs show of them.
use Rattle.std.proofs.Common.{◌≡◌, ◌≢◌, ◌<◌, ℕ, Bool, true, false, Some, option_map, List, [], ◌∷◌, map, take, drop, length, refl, sym, ◌∙◌, ap, subst, arith}
use Rattle.std.specs.List.{All, AllPairs, Contains, filter}
use Rattle.std.proofs.lemmas.Bool.{eqb-true}
use Rattle.std.proofs.lemmas.Option.{slice_get-map}
use Rattle.std.proofs.lemmas.List.Elements.{All-nil, All-map, All-filter, All-contains, All-head}
use Rattle.std.proofs.lemmas.List.Kept.{AllPairs-filter}
use Rattle.eco_lists.proofs.Members.{map-Contains, map-map, only_one, filter-Contains}
use Rattle.eco_lists.proofs.Places.{All_from_places, Contains_at, no_items, pair_at, pairs_from_places}
use Rattle.eco_meaning.specs.Circuit.{Circuit, names, AreTargets, IsTarget}
use Rattle.eco_meaning.specs.Meaning.{IsRectifiable}
use Rattle.eco_meaning.specs.Patch.{Fits}
use Rattle.eco_meaning.specs.Cost.{IsCandidate, weight_of}
use Rattle.eco_meaning.specs.Choice.{IsConflict, IsForced, IsKept}
use Rattle.eco_meaning.specs.Bound.{Bound, IsBoundOf, IsCarried, IsLoad, IsUsedUp}
use Rattle.eco_meaning.specs.Report.{BaseSignal}
use Rattle.eco_gates.specs.declared.gate.NetId.{NetId}
use Rattle.eco_netlist.specs.Netlists.{AreNets, name_at, names_at}
use Rattle.eco_netlist.proofs.NameLemmas.{unmapped}
use Rattle.eco_query.specs.Problem.{ProblemValue, HasSomeTargets}
use Rattle.eco_laws.specs.Kept.{TakesAnyInputs}
use Rattle.eco_laws.specs.Parts.{CarriesOver}
use Rattle.eco_laws.proofs.Bases.{more_suffice}
use Rattle.eco_laws.proofs.Front.{turns_distinct}
use Rattle.eco_laws.proofs.Keeping.{kept_is_rectifiable}
use Rattle.eco_laws.proofs.Reaching.{no_gates_take}
use Rattle.eco_laws.proofs.Shares.{stands_with}
use Rattle.eco_pose.specs.Questions.{AtTarget, AreDistinct}
use Rattle.eco_pose.proofs.SideLaws.{target_at}
use Rattle.eco_desk.specs.Desks.{AreBefore}
use Rattle.eco_base.specs.Asking.{AreReadable}
use Rattle.eco_base.specs.Chosen.{IsReadyToChoose}
use Rattle.eco_functions.specs.Functions.{FunctionsValue}
use Rattle.eco_functions.specs.Standing.{IsPatchWith}
use Rattle.eco_bound.specs.declared.payers.Payer.{Payer}
use Rattle.eco_bound.specs.declared.account.Account.{Account}
use Rattle.eco_bound.specs.Payers.{is_spent, net_of}
use Rattle.eco_bound.specs.Accounts.{AreForcing, ArePayers, HasLeft, IsAccount, ShowsSpent, payer_name, spent_names}
use Rattle.eco_bound.specs.Lower.{AreForcedPairs, IsBeginning, IsForcedPair, IsLowerBound, SpentSuffice}
use Rattle.eco_bound.proofs.AccountLaws.{payer_net, payer_is, payer_named}
use Rattle.eco_bound.proofs.Least.{any_patch_will_do, bound_is_least}

-- pairs of images are images of pairs
pairs_of_map : {X Y : Type 0} (R : Y → Y → Type 0) (g : X → Y) (xs : List X) → AllPairs R (map g xs) → AllPairs (λ a b. R (g a) (g b)) xs
pairs_of_map R g xs all =
    pairs_from_places (λ a b. R (g a) (g b)) xs
    (λ i j x y lt at_i at_j. pair_at R (map g xs) i j (g x) (g y) all lt (slice_get-map g xs i ∙ ap (option_map g) at_i) (slice_get-map g xs j ∙ ap (option_map g) at_j))

pairs_map : {X Y : Type 0} (R : Y → Y → Type 0) (g : X → Y) (xs : List X) → AllPairs (λ a b. R (g a) (g b)) xs → AllPairs R (map g xs)
pairs_map R g xs all =
    pairs_from_places R (map g xs) (λ i j x y lt at_i at_j.
    let a = unmapped g xs i x at_i in
    let b = unmapped g xs j y at_j in
    subst (R x) b.2 (subst (λ z. R z (g b.0)) a.2 (pair_at (λ a b. R (g a) (g b)) xs i j a.0 b.0 all lt a.1 b.1)))

module _ (problem : ProblemValue) (payers : List Payer) (are : ArePayers problem.implementation problem.weights problem.input_weight payers) where
  abbrev f : Circuit
  f = problem.implementation

  abbrev spent : List Payer
  spent = filter is_spent payers

  -- those that have nothing left are nets and candidates, each once
  pub spent_nets : AreNets (names f) (map net_of spent)
  spent_nets =
      All-map (λ (net : NetId). net.0 < length (names f)) net_of spent
      (All-filter is_spent (λ payer. payer.net.0 < length (names f)) payers
      (All_from_places (λ (payer : Payer). payer.net.0 < length (names f)) payers (λ k payer at. payer_net f problem.weights problem.input_weight payers are payer (Contains_at payers k payer at))))

  spent_candidates : All (IsCandidate f problem.weights problem.input_weight []) (spent_names f payers)
  spent_candidates =
      All-map (IsCandidate f problem.weights problem.input_weight []) (λ (net : NetId). name_at (names f) net.0) (map net_of spent)
      (All-map (λ (net : NetId). IsCandidate f problem.weights problem.input_weight [] (name_at (names f) net.0)) net_of spent
      (All-filter is_spent (λ payer. IsCandidate f problem.weights problem.input_weight [] (payer_name f payer)) payers
      (All_from_places (λ payer. IsCandidate f problem.weights problem.input_weight [] (payer_name f payer)) payers
      (λ k payer at. payer_is f problem.weights problem.input_weight payers are payer (Contains_at payers k payer at)))))

  spent_distinct : AreDistinct (spent_names f payers)
  spent_distinct =
      let named : List (List ℕ) → Type 0 = AllPairs (λ a b. a ≢ b) in
      let name = λ (net : NetId). name_at (names f) net.0 in
      let all = subst named (map-map net_of name payers) (turns_distinct f problem.weights problem.input_weight [] [] (names_at (names f) (map net_of payers)) are.turns) in
      subst named (sym (map-map net_of name spent))
      (pairs_map (λ a b. a ≢ b) (payer_name f) spent
      (AllPairs-filter (λ a b. payer_name f a ≢ payer_name f b) is_spent payers (pairs_of_map (λ a b. a ≢ b) (payer_name f) payers all)))

  -- so whether they suffice can be asked
  pub readable : AtTarget f 0 (λ before target behind. AreReadable problem before (spent_names f payers))
  readable before target behind targets len = record {
    candidates = subst (λ earlier. All (IsCandidate f problem.weights problem.input_weight earlier) (spent_names f payers)) (sym (no_items before len)) spent_candidates;
    distinct = spent_distinct;
  }

-- a base of the first target can be chosen where none is paid
pub ready : (problem : ProblemValue) (patch : Circuit) → IsBeginning problem patch → AtTarget problem.implementation 0 (IsReadyToChoose problem patch [])
ready problem patch is before target behind targets len = record {
  patch = is.before before target behind targets len;
  kept = subst (IsKept problem.implementation problem.goal patch) (sym (no_items before len)) ((kept_is_rectifiable problem.implementation problem.goal patch (no_gates_take patch is.gates)).1 is.rectifiable);
  candidates = All-nil (IsCandidate problem.implementation problem.weights problem.input_weight before);
  distinct = λ i j d less within. absurd (omega (arith, less, within));
}

module _ (problem : ProblemValue) (patch : Circuit) (is : IsBeginning problem patch) where
  -- what is said with the patch is said with any netlist
  pub carry : (p : Circuit) → TakesAnyInputs p → CarriesOver problem.implementation patch p []
  carry p takes = stands_with problem.implementation patch p [] (any_patch_will_do problem.implementation patch p (no_gates_take patch is.gates) takes)

  module _ (payers : List Payer) (one zero : List Bool) (found : AtTarget problem.implementation 0 (λ before target behind. IsConflict problem.implementation problem.goal patch before target (Contains (spent_names problem.implementation payers)) one zero)) where
    pub forcing : AreForcing problem one zero
    forcing =
        let (before, target, behind, are, len) = target_at problem.implementation 0 is.number in
        let conflict = found before target behind are len in
        record {
          len_one = conflict.one.len;
          len_zero = conflict.zero.len;
          forced = λ p takes target single.
              let here = found [] target [] single refl in
              ((carry p takes).forced problem.goal target one true here.one, (carry p takes).forced problem.goal target zero false here.zero);
        }

    pub shows : ShowsSpent problem payers one zero
    shows =
        let (before, target, behind, are, len) = target_at problem.implementation 0 is.number in
        record {
          p = patch;
          takes = no_gates_take patch is.gates;
          target = target;
          conflict = subst (λ earlier. IsConflict problem.implementation problem.goal patch earlier target (Contains (spent_names problem.implementation payers)) one zero) (no_items before len) (found before target behind are len);
        }

-- each of the base's pairs forces whatever netlist stands for the patch
pub forcing_pairs : (problem : ProblemValue) (base : List BaseSignal) → AreForcedPairs problem base → All (λ b. AreForcing problem b.force1 b.force0) base
forcing_pairs problem base are =
    let f = problem.implementation in
    All_from_places (λ (b : BaseSignal). AreForcing problem b.force1 b.force0) base (λ k b at.
    let pair = All-contains (IsForcedPair problem are.p are.target) base b are.forced (Contains_at base k b at) in
    record {
      len_one = pair.one.len;
      len_zero = pair.zero.len;
      forced = λ p takes target single.
          let same : target ≡ are.target = only_one target are.target (single.complete are.target (All-head (IsTarget f) are.target [] are.single.sound)) in
          let over = stands_with f are.p p [] (any_patch_will_do f are.p p are.takes takes) in (
            subst (λ t. IsForced f problem.goal p [] t b.force1 true) (sym same) (over.forced problem.goal are.target b.force1 true pair.one),
            subst (λ t. IsForced f problem.goal p [] t b.force0 false) (sym same) (over.forced problem.goal are.target b.force0 false pair.zero),
          );
    })

-- the account when those that have nothing left suffice
module _ (problem : ProblemValue) (patch : Circuit) (is : IsBeginning problem patch) (account : Account) (of_problem : IsAccount problem account) (full : SpentSuffice problem patch account.payers.items) (target : List ℕ) (single : AreTargets problem.implementation (target ∷ [])) (p : Circuit) (takes : TakesAnyInputs p) where
  has_left : (payer : Payer) → Contains account.payers.items payer → HasLeft problem.implementation problem.weights problem.input_weight p account.parts.items payer
  has_left payer c = All-contains (HasLeft problem.implementation problem.weights problem.input_weight p account.parts.items) account.payers.items payer (of_problem.paid p takes).left c

  carried : (name : List ℕ) → IsCandidate problem.implementation problem.weights problem.input_weight [] name → IsCarried problem.implementation problem.weights problem.input_weight p account.parts.items name
  carried name candidate =
      let f = problem.implementation in
      let (payer, c, same) = payer_named f problem.weights problem.input_weight account.payers.items of_problem.payers name candidate in
      let has = has_left payer c in
      let rest = has.rest in
      record {
        weight = has.weight;
        weighs = subst (λ n. weight_of f problem.weights problem.input_weight n ≡ Some has.weight) same has.weighs;
        load = has.load;
        sum = subst (λ n. IsLoad f p n account.parts.items has.load) same has.sum;
        within = omega (arith, rest);
      }

  used_up : (name : List ℕ) → Contains (spent_names problem.implementation account.payers.items) name → IsUsedUp problem.implementation problem.weights problem.input_weight p account.parts.items name
  used_up name c =
      let f = problem.implementation in
      let at = map-Contains (λ (net : NetId). name_at (names f) net.0) (map net_of (filter is_spent account.payers.items)) name c in
      let back = map-Contains net_of (filter is_spent account.payers.items) at.0 at.1 in
      let payer = back.0 in
      let kept = filter-Contains is_spent account.payers.items payer back.1 in
      let same : payer_name f payer ≡ name = ap (λ (net : NetId). name_at (names f) net.0) back.2 ∙ at.2 in
      let has = has_left payer kept.0 in
      let rest = has.rest in
      let none : payer.left ≡ 0 = eqb-true payer.left 0 kept.1 in
      record {
        candidate = subst (IsCandidate f problem.weights problem.input_weight []) same (payer_is f problem.weights problem.input_weight account.payers.items of_problem.payers payer kept.0);
        weight = has.weight;
        weighs = subst (λ n. weight_of f problem.weights problem.input_weight n ≡ Some has.weight) same has.weighs;
        load = subst (λ n. IsLoad f p n account.parts.items has.weight) same (subst (IsLoad f p (payer_name f payer) account.parts.items) (omega (arith, rest, none)) has.sum);
      }

  pub lower_bound : IsLowerBound problem p (record { total = account.total; parts = account.parts.items })
  lower_bound =
      let f = problem.implementation in
      let bound : Bound = record { total = account.total; parts = account.parts.items } in
      let paid = of_problem.paid p takes in
      let of_target : IsBoundOf f problem.goal problem.weights problem.input_weight p target bound = record { single = single; forced = paid.forced target single; carried = carried; total = of_problem.total } in
      record {
        target = target;
        is_bound = of_target;
        some = of_problem.some;
        tight = paid.use_up;
        full = more_suffice f problem.goal p [] target (Contains (spent_names f account.payers.items)) (IsUsedUp f problem.weights problem.input_weight p account.parts.items) used_up
            ((carry problem patch is p takes).suffices problem.goal target (spent_names f account.payers.items) (full target single));
        least = bound_is_least f problem.goal problem.weights problem.input_weight p target bound of_target;
      }

-- the patch of no target
pub beginning : (problem : ProblemValue) (functions : FunctionsValue) (p : Circuit) → HasSomeTargets problem.implementation → IsRectifiable problem.implementation problem.goal → functions.roots ≡ [] →
    IsPatchWith problem.implementation functions p → IsBeginning problem p
beginning problem functions p some rectifiable roots is = record {
  rectifiable = rectifiable;
  number = let more = some.some in (some.count, some.counted, omega (arith, more));
  gates = is.empty roots;
  before = go;
}
  where
    go : AtTarget problem.implementation 0 (AreBefore problem.implementation p)
    go [] target behind are len =
        let all = target ∷ behind in
        let none : length functions.roots ≡ 0 = ap length roots in
        record {
          outputs = (is.fits all are).0 ∙ ap (λ n. take n all) none;
          fits = subst (Fits problem.implementation p) (ap (λ n. drop n all) none) (is.fits all are).1;
        }
    go (first ∷ before) target behind are len = absurd (omega (arith, len))
