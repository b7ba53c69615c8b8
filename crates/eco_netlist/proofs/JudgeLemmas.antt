-- The errors by counts are those of the declarations.
use Rattle.std.proofs.Common.{◌≡◌, ℕ, Bool, true, false, not, ◌&&◌, ◌||◌, cond, List, [], ◌∷◌, length, count_by, refl, ap, ◌∙◌, sym, subst, arith, nat_lt}
use Rattle.std.specs.Prelude.{filter}
use Rattle.std.specs.List.{list_any}
use Rattle.std.proofs.lemmas.List.Sums.{length-filter}
use Rattle.eco_meaning.specs.Names.{has, is_target_text}
use Rattle.eco_netlist.specs.declared.draft.FinishError.{FinishError}
use Rattle.eco_netlist.specs.declared.draft.FinishError.TheVariants.{Refused, OutOfMemory}
use Rattle.eco_netlist.specs.declared.draft.TargetRule.{TargetRule}
use Rattle.eco_netlist.specs.declared.refusal_kind.RefusalKind.{RefusalKind}
use Rattle.eco_netlist.specs.declared.refusal_kind.RefusalKind.TheVariants.{DeclaredTwice, PortUndeclared, NotAPort, InputDriven, DrivenTwice, Undriven}
use Rattle.eco_netlist.specs.Draft.{Declared, allows, is_driven, is_read}
use Rattle.eco_netlist.specs.Refusals.{is_declared_twice, is_undeclared_port, is_no_port, is_driven_input, is_driven_twice, IsFirst, NeverComes, Refuses, EndsIn}
use Rattle.eco_netlist.specs.Tallies.{tally_of, stands, is_refused_as, refusal_for, IsRefusedFor}

-- a list has a member that passes where it counts one
kept_at : {X : Type 0} (b : Bool) (x : X) (kept : List X) (any : Bool) → nat_lt 0 (length kept) ≡ any → nat_lt 0 (length (cond b (x ∷ kept) kept)) ≡ (b || any)
kept_at true x kept any e = grind arith
kept_at false x kept any e = e

some_kept : {X : Type 0} (p : X → Bool) (xs : List X) → nat_lt 0 (length (filter p xs)) ≡ list_any p xs
some_kept p [] = refl
some_kept p (x ∷ xs) = kept_at (p x) x (filter p xs) (list_any p xs) (some_kept p xs)

pub counted_any : {X : Type 0} (p : X → Bool) (xs : List X) → nat_lt 0 (count_by p xs) ≡ list_any p xs
counted_any p xs = ap (nat_lt 0) (sym (length-filter p xs)) ∙ some_kept p xs

-- of an output or a net that is read it need not be asked whether it is declared or mentioned
known_net : (allowed text output read input driven header wire : Bool) →
    ((output || read) && not input && not driven && not (allowed && text && not input && not driven))
    ≡ ((output || read) && not input && not driven
    && not (allowed && text && ((header || input || output || wire) || (driven || read)) && not input && not driven))
known_net false text output read input driven header wire = refl
known_net true false output read input driven header wire = refl
known_net true true false false input driven header wire = refl
known_net true true true read true driven header wire = refl
known_net true true true read false true header wire = refl
known_net true true true read false false true wire = refl
known_net true true true read false false false wire = refl
known_net true true false true true driven header wire = refl
known_net true true false true false true header wire = refl
known_net true true false true false false true wire = refl
known_net true true false true false false false true = refl
known_net true true false true false false false false = refl

-- the counts of the declarations have the errors of the declarations
pub stands_declared : (refusal_kind : RefusalKind) (rule : TargetRule) (d : Declared) (name : List ℕ) → stands refusal_kind rule name (tally_of d name) ≡ is_refused_as refusal_kind rule d name
stands_declared DeclaredTwice rule d name = simp counted_any
stands_declared PortUndeclared rule d name = simp counted_any
stands_declared NotAPort rule d name = simp counted_any
stands_declared InputDriven rule d name = simp counted_any
stands_declared DrivenTwice rule d name = refl
stands_declared Undriven rule d name =
    simp counted_any
    (known_net (allows rule) (is_target_text name) (has d.outputs name) (is_read d name) (has d.inputs name) (is_driven d name) (has d.header name) (has d.wires name))

-- no earlier error stands
abbrev pub Earlier : RefusalKind → TargetRule → Declared → Type 0
Earlier DeclaredTwice rule d = Unit {0}
Earlier PortUndeclared rule d = NeverComes (is_declared_twice d)
Earlier NotAPort rule d = NeverComes (is_declared_twice d) × NeverComes (is_undeclared_port d)
Earlier InputDriven rule d = NeverComes (is_declared_twice d) × NeverComes (is_undeclared_port d) × NeverComes (is_no_port d)
Earlier DrivenTwice rule d =
    NeverComes (is_declared_twice d) × NeverComes (is_undeclared_port d) × NeverComes (is_no_port d) × NeverComes (is_driven_input d)
Earlier Undriven rule d =
    NeverComes (is_declared_twice d) × NeverComes (is_undeclared_port d) × NeverComes (is_no_port d) × NeverComes (is_driven_input d)
    × NeverComes (is_driven_twice d)

-- the smallest name with the first error is refused
refuses_first : (refusal_kind : RefusalKind) (rule : TargetRule) (d : Declared) (name : List ℕ) → Earlier refusal_kind rule d → IsFirst (is_refused_as refusal_kind rule d) name → Refuses rule d (refusal_for refusal_kind name)
refuses_first DeclaredTwice rule d name earlier first = first
refuses_first PortUndeclared rule d name earlier first = (earlier, first)
refuses_first NotAPort rule d name earlier first = (earlier.0, earlier.1, first)
refuses_first InputDriven rule d name earlier first = (earlier.0, earlier.1, earlier.2, first)
refuses_first DrivenTwice rule d name earlier first = (earlier.0, earlier.1, earlier.2, earlier.3, first)
refuses_first Undriven rule d name earlier first = (earlier.0, earlier.1, earlier.2, earlier.3, earlier.4, first)

-- what is refused for an error is the declarations' end
pub ends_for : (refusal_kind : RefusalKind) (rule : TargetRule) (d : Declared) (e : FinishError) → Earlier refusal_kind rule d → IsRefusedFor refusal_kind (is_refused_as refusal_kind rule d) e → EndsIn rule d e
ends_for refusal_kind rule d (Refused refusal) earlier is =
    subst (Refuses rule d) (sym is.1) (refuses_first refusal_kind rule d is.0 earlier is.2)
ends_for refusal_kind rule d OutOfMemory earlier is = tt
