-- Declarations with more behind them.
use Rattle.std.specs.Prelude.{ℕ, ◌-◌, List, ◌++◌, if◌then◌else◌}
use Rattle.eco_meaning.specs.declared.kind.Kind.{Kind}
use Rattle.eco_meaning.specs.declared.kind.Kind.TheVariants.{Buf, Not}
use Rattle.eco_meaning.specs.Circuit.{NamedGate}
use Rattle.eco_netlist.specs.Draft.{Declared}
use Rattle.eco_aiger.specs.Meaning.{is_complement}

abbrev pub with_header : Declared → List (List ℕ) → Declared
with_header d names = record d { header = d.header ++ names }

abbrev pub with_inputs : Declared → List (List ℕ) → Declared
with_inputs d names = record d { inputs = d.inputs ++ names }

abbrev pub with_outputs : Declared → List (List ℕ) → Declared
with_outputs d names = record d { outputs = d.outputs ++ names }

abbrev pub with_gates : Declared → List NamedGate → Declared
with_gates d gates = record d { gates = d.gates ++ gates }

-- the kind of an output's gate, and the literal that it reads
abbrev pub output_kind : ℕ → Kind × ℕ
output_kind literal = if is_complement literal then (Not, literal - 1) else (Buf, literal)
