-- A bound is of a single target, and its parts are judged one after the other.
use Rattle.std.proofs.Common.{◌≡◌, ℕ, ◌+◌, ◌<◌, ◌≤◌, List, [], ◌∷◌, ◌++◌, length, take, drop, suc, get_or, refl, sym, ◌∙◌, ap, subst, arith}
use Rattle.std.specs.List.{All}
use Rattle.std.proofs.Math.Seq.{split_at}
use Rattle.std.proofs.lemmas.List.{length-map, take_more}
use Rattle.eco_lists.proofs.Places.{All_at, All_from_places}
use Rattle.eco_meaning.specs.Bound.{Part, Bound, IsForcedPart, amount_of}
use Rattle.eco_meaning.specs.Circuit.{AreTargets}
use Rattle.eco_meaning.specs.Report.{TargetGroup, targets_in, targets_of}
use Rattle.eco_netlist.proofs.MisfitLemmas.{targets_unique}
use Rattle.eco_audit.specs.declared.solution.Solution.{Solution}
use Rattle.eco_audit.specs.Bounds.{AreCarried, HasInputs, IsBoundHere, IsForcedPartHere}
use Rattle.eco_audit.specs.Judging.{IsJudged}

-- a list of one item
pub only_item : {X : Type 0} (list : List X) → length list ≡ 1 → (x : X) × (list ≡ x ∷ [])
only_item [] one = absurd (omega (arith, one))
only_item (x ∷ []) one = (x, refl)
only_item (x ∷ y ∷ list) one = absurd (omega (arith, one))

-- a bound tells of the only target
pub bound_is_single : (s : Solution) (bound : Bound) → IsJudged s → IsBoundHere s bound → length s.report.now.groups ≡ 1
bound_is_single s bound is (target, of) =
    let same = targets_unique s.problem.now.implementation (targets_of s.report.now) (target ∷ []) (is.before 1 (omega arith)) of.single in
    sym (length-map s.report.now.groups (λ (g : TargetGroup). g.target)) ∙ ap length same

module _ (s : Solution) (is : IsJudged s) (group : TargetGroup) (only : s.report.now.groups ≡ group ∷ []) where
  pub single : AreTargets s.problem.now.implementation (group.target ∷ [])
  single = subst (λ (groups : List TargetGroup). AreTargets s.problem.now.implementation (targets_in groups)) only (is.before 1 (omega arith))

  -- what makes a bound, and what it is made of
  pub bound_from : (bound : Bound) → bound.total ≡ amount_of bound.parts → All (IsForcedPartHere s [] group) bound.parts → AreCarried s bound.parts → IsBoundHere s bound
  bound_from bound total forced carried = (group.target, record { single = single; forced = forced; carried = carried; total = total })

  pub bound_forces : (bound : Bound) → IsBoundHere s bound → All (IsForcedPartHere s [] group) bound.parts
  bound_forces bound (target, of) =
      let same : target ∷ [] ≡ group.target ∷ [] = targets_unique s.problem.now.implementation (target ∷ []) (group.target ∷ []) of.single single in
      let one : target ≡ group.target = cc same in
      subst (λ (t : List ℕ). All (IsForcedPart s.problem.now.implementation s.problem.now.goal s.patch.now t) bound.parts) one of.forced

-- the inputs of parts that are forced have a bit for each input
pub forced_have_inputs : (s : Solution) (group : TargetGroup) (parts : List Part) → All (IsForcedPartHere s [] group) parts → All (HasInputs s.problem.now.implementation) parts
forced_have_inputs s group parts forced =
    All_from_places (HasInputs s.problem.now.implementation) parts (λ k part at.
    let here = All_at (IsForcedPartHere s [] group) parts k part forced at in
    record { one = here.one.len; zero = here.zero.len })

-- ---- amounts

amount_append : (front back : List Part) → amount_of (front ++ back) ≡ amount_of front + amount_of back
amount_append [] back = omega arith
amount_append (part ∷ front) back = let rest = amount_append front back in omega (arith, rest)

-- the first parts with the next one
pub amount_more : (parts : List Part) (i : ℕ) (part : Part) → part ≡ get_or parts i part → i < length parts → amount_of (take (i + 1) parts) ≡ amount_of (take i parts) + part.amount
amount_more parts i part is within =
    let last = amount_append (take i parts) (part ∷ []) in
    ap amount_of (take_more parts i part within ∙ ap (λ (x : Part). take i parts ++ x ∷ []) (sym is)) ∙ omega (arith, last)

-- are no more than all
pub amount_least : (parts : List Part) (i : ℕ) (part : Part) → part ≡ get_or parts i part → i < length parts → amount_of (take i parts) + part.amount ≤ amount_of parts
amount_least parts i part is within =
    let whole = amount_append (take i parts) (part ∷ drop (suc i) parts) in
    let cut = ap amount_of (split_at parts i part within ∙ ap (λ (x : Part). take i parts ++ x ∷ drop (suc i) parts) (sym is)) in
    omega (arith, cut, whole)
