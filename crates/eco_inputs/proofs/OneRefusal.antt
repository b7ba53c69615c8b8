-- Declarations are refused for one thing at most.
use Rattle.std.proofs.Common.{◌≡◌, ◌⊎◌, inl, inr, ℕ, Bool, List, [], sym, ◌∙◌, ap, refl}
use Rattle.std.proofs.lemmas.Bool.{false≢true}
use Rattle.std.specs.Cmp.Lexicographic.{slice_cmp}
use Rattle.std.specs.Ordering.{nat_cmp}
use Rattle.eco_lists.proofs.Names.{equal_from}
use Rattle.eco_netlist.specs.declared.draft.TargetRule.{TargetRule}
use Rattle.eco_netlist.specs.declared.refusal.Refusal.{Refusal}
use Rattle.eco_netlist.specs.declared.refusal.Refusal.TheVariants.{DeclaredTwice, PortUndeclared, NotAPort, InputDriven, DrivenTwice, Undriven, Loop}
use Rattle.eco_netlist.specs.Draft.{Declared}
use Rattle.eco_netlist.specs.Refusals.{IsFirst, NeverComes, Refuses, is_declared_twice, is_undeclared_port, is_no_port, is_driven_input, is_driven_twice, is_undriven}
use Rattle.eco_inputs.specs.Kinds.{determined_refusal}

-- the smallest name that has an error is one
pub one_first : (error : List ℕ → Bool) (a b : List ℕ) → IsFirst error a → IsFirst error b → a ≡ b
one_first error a b first second =
    equal_from a b (slice_cmp nat_cmp a b) refl (second.1 a first.0) (first.1 b second.0)

-- an error that some name has, with the smallest; or that none has, and what is known then
abbrev Level : (List ℕ → Bool) → Type 0 → Type 0
Level error Rest = ((name : List ℕ) × IsFirst error name) ⊎ (NeverComes error × Rest)

outcome : (error : List ℕ → Bool) (Rest : Type 0) → (List ℕ → Refusal) → (Rest → Refusal) → Level error Rest → Refusal
outcome error Rest make rest (inl first) = make first.0
outcome error Rest make rest (inr later) = rest later.1

one_at : (error : List ℕ → Bool) (Rest : Type 0) (make : List ℕ → Refusal) (rest : Rest → Refusal) → ((r s : Rest) → rest r ≡ rest s) → (x y : Level error Rest) → outcome error Rest make rest x ≡ outcome error Rest make rest y
unfolding outcome
one_at error Rest make rest one (inl first) (inl second) = ap make (one_first error first.0 second.0 first.1 second.1)
one_at error Rest make rest one (inl first) (inr later) = absurd (false≢true (sym (later.0 first.0) ∙ first.1.0))
one_at error Rest make rest one (inr later) (inl first) = absurd (false≢true (sym (later.0 first.0) ∙ first.1.0))
one_at error Rest make rest one (inr first) (inr second) = one first.1 second.1

-- the errors in their order, the last ones first
abbrev Sixth : TargetRule → Declared → Type 0
Sixth rule d = Level (is_undriven rule d) (Unit {0})

abbrev Fifth : TargetRule → Declared → Type 0
Fifth rule d = Level (is_driven_twice d) (Sixth rule d)

abbrev Fourth : TargetRule → Declared → Type 0
Fourth rule d = Level (is_driven_input d) (Fifth rule d)

abbrev Third : TargetRule → Declared → Type 0
Third rule d = Level (is_no_port d) (Fourth rule d)

abbrev Second : TargetRule → Declared → Type 0
Second rule d = Level (is_undeclared_port d) (Third rule d)

abbrev First : TargetRule → Declared → Type 0
First rule d = Level (is_declared_twice d) (Second rule d)

sixth : (rule : TargetRule) (d : Declared) → Sixth rule d → Refusal
sixth rule d = outcome _ _ Undriven (λ _. Loop [])

fifth : (rule : TargetRule) (d : Declared) → Fifth rule d → Refusal
fifth rule d = outcome _ _ DrivenTwice (sixth rule d)

fourth : (rule : TargetRule) (d : Declared) → Fourth rule d → Refusal
fourth rule d = outcome _ _ InputDriven (fifth rule d)

third : (rule : TargetRule) (d : Declared) → Third rule d → Refusal
third rule d = outcome _ _ NotAPort (fourth rule d)

second : (rule : TargetRule) (d : Declared) → Second rule d → Refusal
second rule d = outcome _ _ PortUndeclared (third rule d)

first : (rule : TargetRule) (d : Declared) → First rule d → Refusal
first rule d = outcome _ _ DeclaredTwice (second rule d)

one_tree : (rule : TargetRule) (d : Declared) (x y : First rule d) → first rule d x ≡ first rule d y
unfolding first second third fourth fifth sixth outcome
one_tree rule d =
    one_at _ _ DeclaredTwice (second rule d) (one_at _ _ PortUndeclared (third rule d) (one_at _ _ NotAPort (fourth rule d)
    (one_at _ _ InputDriven (fifth rule d) (one_at _ _ DrivenTwice (sixth rule d) (one_at _ _ Undriven (λ _. Loop []) (λ r s. refl))))))

-- what a refusal says of the errors
tree_of : (rule : TargetRule) (d : Declared) (why : Refusal) → Refuses rule d why → (tree : First rule d) × (first rule d tree ≡ determined_refusal why)
unfolding first second third fourth fifth sixth outcome
tree_of rule d (DeclaredTwice name) h = (inl (name, h), refl)
tree_of rule d (PortUndeclared name) h = (inr (h.0, inl (name, h.1)), refl)
tree_of rule d (NotAPort name) h = (inr (h.0, inr (h.1, inl (name, h.2))), refl)
tree_of rule d (InputDriven name) h = (inr (h.0, inr (h.1, inr (h.2, inl (name, h.3)))), refl)
tree_of rule d (DrivenTwice name) h = (inr (h.0, inr (h.1, inr (h.2, inr (h.3, inl (name, h.4))))), refl)
tree_of rule d (Undriven name) h = (inr (h.0, inr (h.1, inr (h.2, inr (h.3, inr (h.4, inl (name, h.5)))))), refl)
tree_of rule d (Loop loop) h = (
  inr (
    h.0.declared_once,
    inr (
      h.0.ports_declared,
      inr (
        h.0.only_ports,
        inr (
          h.0.inputs_free,
          inr (
            h.0.driven_once,
            inr (h.0.driven, tt),
          ),
        ),
      ),
    ),
  ),
  refl,
)

pub one_refusal : (rule : TargetRule) (d : Declared) (a b : Refusal) → Refuses rule d a → Refuses rule d b → determined_refusal a ≡ determined_refusal b
one_refusal rule d a b ha hb =
    let x = tree_of rule d a ha in
    let y = tree_of rule d b hb in
    sym x.1 ∙ one_tree rule d x.0 y.0 ∙ y.1
