-- How often a name stands in each place of the declarations, and the errors by these counts.
use Rattle.std.specs.Prelude.{◌≡◌, ℕ, ◌+◌, ◌<◌, Bool, true, false, not, ◌&&◌, ◌||◌, List, length, nat_eq, nat_lt, count_by, Option, None, Some, Contains, if◌then◌else◌}
use Rattle.std.specs.List.{list_any, slice_index_or}
use Rattle.std.specs.Cmp.Lexicographic.{slice_cmp}
use Rattle.std.specs.Ordering.{nat_cmp, is_lt}
use Rattle.std.specs.Str.{bytes_eq}
use Rattle.eco_meaning.specs.Names.{is_target_text}
use Rattle.eco_gates.specs.declared.gate.NetId.{NetId}
use Rattle.eco_gates.specs.declared.gate.Term.{Term}
use Rattle.eco_gates.specs.declared.gate.Term.TheVariants.{Zero, One, Net}
use Rattle.eco_gates.specs.GateValue.{GateValue}
use Rattle.eco_netlist.specs.declared.draft.Declarations.{Declarations}
use Rattle.eco_netlist.specs.declared.draft.TargetRule.{TargetRule}
use Rattle.eco_netlist.specs.declared.draft.FinishError.{FinishError}
use Rattle.eco_netlist.specs.declared.draft.FinishError.TheVariants.{Refused, OutOfMemory}
use Rattle.eco_netlist.specs.declared.refusal_kind.RefusalKind.{RefusalKind}
use Rattle.eco_netlist.specs.declared.refusal_kind.RefusalKind.TheVariants as refusal_kind
use Rattle.eco_netlist.specs.declared.refusal.Refusal.{Refusal}
use Rattle.eco_netlist.specs.declared.refusal.Refusal.TheVariants as refusal
use Rattle.eco_netlist.specs.declared.tally.Place.{Place}
use Rattle.eco_netlist.specs.declared.tally.Place.TheVariants.{Header, Input, Output, Wire}
use Rattle.eco_netlist.specs.declared.tally.Tally.{Tally}
use Rattle.eco_netlist.specs.Draft.{Declared, is_read, allows}
use Rattle.eco_netlist.specs.Drafted.{declared_of}
use Rattle.eco_netlist.specs.Refusals.{is_declared_twice, is_undeclared_port, is_no_port, is_driven_input, is_driven_twice, is_undriven, IsFirst, IsNoLater}
use Rattle.eco_netlist.specs.Netlists.{name_at}

-- a name that is nowhere
abbrev pub nowhere : Tally
nowhere = record { header = 0; inputs = 0; outputs = 0; wires = 0; drivers = 0; is_read = false }

-- the counts of the name with this number
abbrev pub tally_at : List Tally → ℕ → Tally
tally_at tallies net = slice_index_or tallies net nowhere

-- how often the name stands in a place
abbrev pub count_in : Place → Tally → ℕ
count_in Header t = t.header
count_in Input t = t.inputs
count_in Output t = t.outputs
count_in Wire t = t.wires

-- the counts with another one for this place
abbrev pub with_count : Place → ℕ → Tally → Tally
with_count Header n t = record t { header = n }
with_count Input n t = record t { inputs = n }
with_count Output n t = record t { outputs = n }
with_count Wire n t = record t { wires = n }

-- whether the net has this number
abbrev pub is_net : ℕ → NetId → Bool
is_net net other = nat_eq net other.0

-- whether a gate's input reads the net with this number
abbrev pub reads_net : ℕ → Term → Bool
reads_net net Zero = false
reads_net net One = false
reads_net net (Net other) = is_net net other

-- the counts of the name with this number after one more gate
abbrev pub with_gate : GateValue → ℕ → Tally → Tally
with_gate g net t = record t {
  drivers = t.drivers + (if is_net net g.out then 1 else 0);
  is_read = t.is_read || list_any (reads_net net) g.ins;
}

-- the counts of the name with this number of which these are the gates
abbrev pub with_gates : List GateValue → ℕ → Tally → Tally
with_gates gates net t = record t {
  drivers = count_by (λ g. is_net net g.out) gates;
  is_read = list_any (λ g. list_any (reads_net net) g.ins) gates;
}

-- how often the name stands in each place of the declarations
abbrev pub tally_of : Declared → List ℕ → Tally
tally_of d name = record {
  header = count_by (bytes_eq name) d.header;
  inputs = count_by (bytes_eq name) d.inputs;
  outputs = count_by (bytes_eq name) d.outputs;
  wires = count_by (bytes_eq name) d.wires;
  drivers = count_by (λ g. bytes_eq name g.out) d.gates;
  is_read = is_read d name;
}

-- these are the counts of all names of the declarations, by their numbers
pub record AreTallies (x : Declarations) (tallies : List Tally) : Type 0 where
  pub count : length tallies ≡ length x.names.keys
  pub counts : (net : ℕ) → net < length x.names.keys → tally_at tallies net ≡ tally_of (declared_of x) (name_at x.names.keys net)

-- whether a name with these counts is a target
abbrev pub is_free : TargetRule → List ℕ → Tally → Bool
is_free rule name t = allows rule && is_target_text name && not (nat_lt 0 t.inputs) && not (nat_lt 0 t.drivers)

-- whether a name with these counts has the error
abbrev pub stands : RefusalKind → TargetRule → List ℕ → Tally → Bool
stands refusal_kind.DeclaredTwice rule name t =
    nat_lt 1 t.header || nat_lt 1 t.inputs || nat_lt 1 t.outputs || (nat_lt 0 t.inputs && nat_lt 0 t.outputs) || nat_lt 1 t.wires
stands refusal_kind.PortUndeclared rule name t = nat_lt 0 t.header && not (nat_lt 0 t.inputs) && not (nat_lt 0 t.outputs)
stands refusal_kind.NotAPort rule name t = (nat_lt 0 t.inputs || nat_lt 0 t.outputs) && not (nat_lt 0 t.header)
stands refusal_kind.InputDriven rule name t = nat_lt 0 t.inputs && nat_lt 0 t.drivers
stands refusal_kind.DrivenTwice rule name t = nat_lt 1 t.drivers
stands refusal_kind.Undriven rule name t =
    (nat_lt 0 t.outputs || t.is_read) && not (nat_lt 0 t.inputs) && not (nat_lt 0 t.drivers) && not (is_free rule name t)

-- whether a name has the error in the declarations
abbrev pub is_refused_as : RefusalKind → TargetRule → Declared → List ℕ → Bool
is_refused_as refusal_kind.DeclaredTwice rule d = is_declared_twice d
is_refused_as refusal_kind.PortUndeclared rule d = is_undeclared_port d
is_refused_as refusal_kind.NotAPort rule d = is_no_port d
is_refused_as refusal_kind.InputDriven rule d = is_driven_input d
is_refused_as refusal_kind.DrivenTwice rule d = is_driven_twice d
is_refused_as refusal_kind.Undriven rule d = is_undriven rule d

-- the refusal for the error of this name
abbrev pub refusal_for : RefusalKind → List ℕ → Refusal
refusal_for refusal_kind.DeclaredTwice name = refusal.DeclaredTwice name
refusal_for refusal_kind.PortUndeclared name = refusal.PortUndeclared name
refusal_for refusal_kind.NotAPort name = refusal.NotAPort name
refusal_for refusal_kind.InputDriven name = refusal.InputDriven name
refusal_for refusal_kind.DrivenTwice name = refusal.DrivenTwice name
refusal_for refusal_kind.Undriven name = refusal.Undriven name

-- the error is the refusal for the smallest name that has the error; want of memory tells nothing
abbrev pub IsRefusedFor : RefusalKind → (List ℕ → Bool) → FinishError → Type 0
IsRefusedFor refusal_kind test (Refused refusal) = (name : List ℕ) × (refusal ≡ refusal_for refusal_kind name) × IsFirst test name
IsRefusedFor refusal_kind test OutOfMemory = Unit {0}

-- of the names with these counts, this one is the smallest that has the error, or none has it
abbrev pub IsLeast : RefusalKind → TargetRule → List (List ℕ × Tally) → Option (List ℕ) → Type 0
IsLeast refusal_kind rule pairs None = (name : List ℕ) (t : Tally) → Contains pairs (name, t) → stands refusal_kind rule name t ≡ false
IsLeast refusal_kind rule pairs (Some least) =
    ((t : Tally) × Contains pairs (least, t) × (stands refusal_kind rule least t ≡ true))
    × ((name : List ℕ) (t : Tally) → Contains pairs (name, t) → stands refusal_kind rule name t ≡ true → IsNoLater least name)

-- the smaller of two names, where the second one counts
abbrev pub smaller : Option (List ℕ) → List ℕ → Bool → Option (List ℕ)
smaller least name false = least
smaller None name true = Some name
smaller (Some least) name true = if is_lt (slice_cmp nat_cmp name least) then Some name else Some least
