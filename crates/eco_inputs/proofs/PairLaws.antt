-- Netlists are no problem for one thing at most, and for none where they are one.
use Rattle.std.proofs.Common.{◌≡◌, ◌≢◌, inl, inr, ℕ, Bool, true, false, not, ◌&&◌, List, length, Option, Some, None, sym, ◌∙◌, ap, refl, arith}
use Rattle.std.specs.List.{Contains}
use Rattle.std.specs.Option.{IsSomeAnd}
use Rattle.std.specs.Prelude.{◌↔◌}
use Rattle.std.proofs.lemmas.Bool.{false≢true, or_cases, and_parts}
use Rattle.eco_meaning.specs.Circuit.{Circuit}
use Rattle.eco_meaning.specs.Names.{has}
use Rattle.eco_netlist.proofs.MisfitLemmas.{targets_unique}
use Rattle.eco_netlist.proofs.NameSets.{Contains-from_has, has-from_Contains}
use Rattle.eco_netlist.specs.Refusals.{IsFirst}
use Rattle.eco_query.specs.Pairing.{HasInputsOf, HasOneOutput}
use Rattle.eco_query.specs.Ports.{is_alone}
use Rattle.eco_query.specs.Problem.{HasTargets, IsCareOf, IsProblem, goal_of}
use Rattle.eco_inputs.specs.declared.error.PairMismatch.{PairMismatch}
use Rattle.eco_inputs.specs.declared.error.PairMismatch.TheVariants.{PortsDiffer, CareInputs, CareOutputs, NoTarget, TooManyTargets}
use Rattle.eco_inputs.specs.Inputs.{IsUnpaired}
use Rattle.eco_inputs.proofs.OneRefusal.{one_first}

pub not_both : {b : Bool} → b ≡ true → b ≡ false → ⊥
not_both holds fails = false≢true (sym fails ∙ holds)

-- ---- the single errors

pub one_count : (f : Circuit) (a b : ℕ) → HasTargets f a → HasTargets f b → a ≡ b
one_count f a b (xs, are_xs, a_is) (ys, are_ys, b_is) = sym a_is ∙ ap length (targets_unique f xs ys are_xs are_ys) ∙ b_is

one_alone : (f : Circuit) (care : Option Circuit) (a b : List ℕ) → IsSomeAnd care (λ c. IsFirst (is_alone f c) a) → IsSomeAnd care (λ c. IsFirst (is_alone f c) b) → a ≡ b
one_alone f None a b x y = absurd x
one_alone f (Some c) a b x y = one_first (is_alone f c) a b x y

one_number : (care : Option Circuit) (a b : ℕ) → IsSomeAnd care (λ c. length c.outputs ≡ a) → IsSomeAnd care (λ c. length c.outputs ≡ b) → a ≡ b
one_number None a b x y = absurd x
one_number (Some c) a b x y = sym x ∙ y

pub not_alone : (f : Circuit) (care : Option Circuit) (a : List ℕ) → IsSomeAnd care (λ c. IsFirst (is_alone f c) a) → HasInputsOf f care → ⊥
not_alone f None a x inputs = x
not_alone f (Some c) a x inputs = not_both x.0 (inputs a)

pub not_other : (care : Option Circuit) (count : ℕ) → IsSomeAnd care (λ c. length c.outputs ≡ count) → count ≢ 1 → HasOneOutput care → ⊥
not_other None count x other one = x
not_other (Some c) count x other one = other (sym x ∙ one)

-- ---- two of them

pub one_pair_mismatch : (f g : Circuit) (care : Option Circuit) (a b : PairMismatch) → IsUnpaired f g care a → IsUnpaired f g care b → a ≡ b
one_pair_mismatch f g care (PortsDiffer n) (PortsDiffer m) x y = ap PortsDiffer (one_first _ n m x y)
one_pair_mismatch f g care (PortsDiffer n) (CareInputs m) x y = absurd (not_both x.0 (y.0 n))
one_pair_mismatch f g care (PortsDiffer n) (CareOutputs m) x y = absurd (not_both x.0 (y.0 n))
one_pair_mismatch f g care (PortsDiffer n) NoTarget x y = absurd (not_both x.0 (y.0.ports n))
one_pair_mismatch f g care (PortsDiffer n) (TooManyTargets m) x y = absurd (not_both x.0 (y.0.ports n))
one_pair_mismatch f g care (CareInputs n) (PortsDiffer m) x y = absurd (not_both y.0 (x.0 m))
one_pair_mismatch f g care (CareInputs n) (CareInputs m) x y = ap CareInputs (one_alone f care n m x.1 y.1)
one_pair_mismatch f g care (CareInputs n) (CareOutputs m) x y = absurd (not_alone f care n x.1 y.1)
one_pair_mismatch f g care (CareInputs n) NoTarget x y = absurd (not_alone f care n x.1 y.0.inputs)
one_pair_mismatch f g care (CareInputs n) (TooManyTargets m) x y = absurd (not_alone f care n x.1 y.0.inputs)
one_pair_mismatch f g care (CareOutputs n) (PortsDiffer m) x y = absurd (not_both y.0 (x.0 m))
one_pair_mismatch f g care (CareOutputs n) (CareInputs m) x y = absurd (not_alone f care m y.1 x.1)
one_pair_mismatch f g care (CareOutputs n) (CareOutputs m) x y = ap CareOutputs (one_number care n m x.2 y.2)
one_pair_mismatch f g care (CareOutputs n) NoTarget x y = absurd (not_other care n x.2 x.3 y.0.one_output)
one_pair_mismatch f g care (CareOutputs n) (TooManyTargets m) x y = absurd (not_other care n x.2 x.3 y.0.one_output)
one_pair_mismatch f g care NoTarget (PortsDiffer m) x y = absurd (not_both y.0 (x.0.ports m))
one_pair_mismatch f g care NoTarget (CareInputs m) x y = absurd (not_alone f care m y.1 x.0.inputs)
one_pair_mismatch f g care NoTarget (CareOutputs m) x y = absurd (not_other care m y.2 y.3 x.0.one_output)
one_pair_mismatch f g care NoTarget NoTarget x y = refl
one_pair_mismatch f g care NoTarget (TooManyTargets m) x y = let e = one_count f 0 m x.1 y.1 in absurd (omega (arith, y.2))
one_pair_mismatch f g care (TooManyTargets n) (PortsDiffer m) x y = absurd (not_both y.0 (x.0.ports m))
one_pair_mismatch f g care (TooManyTargets n) (CareInputs m) x y = absurd (not_alone f care m y.1 x.0.inputs)
one_pair_mismatch f g care (TooManyTargets n) (CareOutputs m) x y = absurd (not_other care m y.2 y.3 x.0.one_output)
one_pair_mismatch f g care (TooManyTargets n) NoTarget x y = let e = one_count f n 0 x.1 y.1 in absurd (omega (arith, x.2))
one_pair_mismatch f g care (TooManyTargets n) (TooManyTargets m) x y = ap TooManyTargets (one_count f n m x.1 y.1)

-- ---- none where they are a problem

absent : (list : List (List ℕ)) (name : List ℕ) → not (has list name) ≡ true → Contains list name → ⊥
absent list name gone here = false≢true (sym (ap not (has-from_Contains list name here)) ∙ gone)

-- with the same inputs no name is an input of one alone
shared : (f c : Circuit) (name : List ℕ) → (Contains f.inputs name ↔ Contains c.inputs name) → is_alone f c name ≡ true → ⊥
shared f c name same alone =
    elim (or_cases (has f.inputs name && not (has c.inputs name)) (has c.inputs name && not (has f.inputs name)) alone) [
      | inl one ↦
          let parts = and_parts (has f.inputs name) (not (has c.inputs name)) one in
          absent c.inputs name parts.1 (same.0 (Contains-from_has f.inputs name parts.0))
      | inr other ↦
          let parts = and_parts (has c.inputs name) (not (has f.inputs name)) other in
          absent f.inputs name parts.1 (same.1 (Contains-from_has c.inputs name parts.0))
    ]

none_alone : (f : Circuit) (care : Option Circuit) (name : List ℕ) → IsSomeAnd care (λ c. IsFirst (is_alone f c) name) → ((c : Circuit) → care ≡ Some c → IsCareOf f c) → ⊥
none_alone f None name x are = x
none_alone f (Some c) name x are = shared f c name ((are c refl).inputs name) x.0

none_other : (f : Circuit) (care : Option Circuit) (count : ℕ) → IsSomeAnd care (λ c. length c.outputs ≡ count) → count ≢ 1 → ((c : Circuit) → care ≡ Some c → IsCareOf f c) → ⊥
none_other f None count x other are = x
none_other f (Some c) count x other are = other (sym x ∙ (are c refl).one_output)

pub no_pair_mismatch : (f g : Circuit) (care : Option Circuit) → (a : PairMismatch) → IsUnpaired f g care a → IsProblem f (goal_of g care) → ⊥
no_pair_mismatch f g care (PortsDiffer n) h problem = not_both h.0 (problem.alike n)
no_pair_mismatch f g care (CareInputs n) h problem = none_alone f care n h.1 problem.care
no_pair_mismatch f g care (CareOutputs n) h problem = none_other f care n h.2 h.3 problem.care
no_pair_mismatch f g care NoTarget h problem =
    let e = one_count f 0 problem.targets.count h.1 problem.targets.counted in omega (arith, problem.targets.some)
no_pair_mismatch f g care (TooManyTargets n) h problem =
    let e = one_count f n problem.targets.count h.1 problem.targets.counted in omega (arith, h.2, problem.targets.few)
