-- When a cared netlist is one of the implementation: whether an input of one is none of the other.
use Rattle.std.proofs.Common.{◌≡◌, ℕ, Bool, true, false, not, ◌&&◌, ◌||◌, List, ◌++◌, Option, Some, None, refl, sym, ◌∙◌, subst, inl, inr}
use Rattle.std.specs.List.{Contains}
use Rattle.std.specs.Option.{ForSome, IfSome}
use Rattle.std.specs.Prelude.{◌↔◌}
use Rattle.std.proofs.Math.Bool.{or_comm}
use Rattle.std.proofs.lemmas.Bool.{false_from_ne_true, false≢true, or_cases, and_parts}
use Rattle.std.proofs.lemmas.List.Elements.{Contains-append_left, Contains-append_right}
use Rattle.eco_netlist.proofs.NameSets.{Contains-from_has, has-from_Contains}
use Rattle.eco_meaning.specs.Names.{has}
use Rattle.eco_meaning.specs.Circuit.{Circuit, names}
use Rattle.eco_netlist.specs.Refusals.{NeverComes}
use Rattle.eco_netlist.specs.Netlists.{IsChecked}
use Rattle.eco_query.specs.Pairing.{HasInputsOf, HasOneOutput}
use Rattle.eco_query.specs.Ports.{is_alone}
use Rattle.eco_query.specs.Problem.{IsCareOf, IsClosed}
use Rattle.eco_query.proofs.UnlikeLemmas.{input-port}

-- a name that the netlist doesn't have is none of its inputs
pub no_input : (n : Circuit) (name : List ℕ) → IsChecked n → has (names n) name ≡ false → has n.inputs name ≡ false
no_input n name checked absent =
    false_from_ne_true (has n.inputs name) (λ e.
    false≢true (sym absent ∙ has-from_Contains (names n) name (Contains-append_left n.ports n.wires name (input-port n name checked e))))

here_alone : (a b : Bool) → a ≡ true → ((a && not b) || (b && not a)) ≡ not b
here_alone true true e = refl
here_alone true false e = refl
here_alone false b e = absurd (false≢true e)

-- an input is alone where the other netlist doesn't have it
pub alone-input : (n o : Circuit) (name : List ℕ) → has n.inputs name ≡ true → is_alone n o name ≡ not (has o.inputs name)
alone-input n o name here = here_alone (has n.inputs name) (has o.inputs name) here

-- it is the same from either side
pub alone-flip : (l r : Circuit) (name : List ℕ) → is_alone l r name ≡ is_alone r l name
alone-flip l r name = or_comm (has l.inputs name && not (has r.inputs name)) (has r.inputs name && not (has l.inputs name))

-- what is alone is an input of one of the two
pub alone-in_inputs : (l r : Circuit) (name : List ℕ) → is_alone l r name ≡ true → Contains (l.inputs ++ r.inputs) name
alone-in_inputs l r name e =
    elim (or_cases (has l.inputs name && not (has r.inputs name)) (has r.inputs name && not (has l.inputs name)) e) [
      | inl a ↦ Contains-append_left l.inputs r.inputs name (Contains-from_has l.inputs name (and_parts (has l.inputs name) (not (has r.inputs name)) a).0)
      | inr b ↦ Contains-append_right l.inputs r.inputs name (Contains-from_has r.inputs name (and_parts (has r.inputs name) (not (has l.inputs name)) b).0)
    ]

none_alone : (a b : Bool) → ((a && not b) || (b && not a)) ≡ false → a ≡ b
none_alone true true e = refl
none_alone true false e = e
none_alone false true e = sym e
none_alone false false e = refl

-- where no input is alone, the inputs are the same
pub same_inputs : (l r : Circuit) → NeverComes (is_alone l r) → (name : List ℕ) → Contains l.inputs name ↔ Contains r.inputs name
same_inputs l r never name =
    let same : has l.inputs name ≡ has r.inputs name = none_alone (has l.inputs name) (has r.inputs name) (never name) in (
      λ c. Contains-from_has r.inputs name (sym same ∙ has-from_Contains l.inputs name c),
      λ c. Contains-from_has l.inputs name (same ∙ has-from_Contains r.inputs name c),
    )

-- what is tested of a cared netlist makes it one of f
pub care_of : (f : Circuit) (care : Option Circuit) → IfSome care IsChecked → HasInputsOf f care → HasOneOutput care → ForSome care IsClosed → ForSome care (IsCareOf f)
care_of f None checked inputs one_output closed c is = let none : None ≡ Some c = is in cc
care_of f (Some own) checked inputs one_output closed c is =
    let same : own ≡ c = cc in
    subst (IsCareOf f) same
    (record {
      checked = checked;
      inputs = same_inputs f own inputs;
      one_output = one_output;
      closed = closed own refl;
    })
