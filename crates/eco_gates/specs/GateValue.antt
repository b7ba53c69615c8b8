-- What a contract sees of a gate.
use Rattle.std.specs.Prelude.{List}
use Rattle.eco_meaning.specs.declared.kind.Kind.{Kind}
use Rattle.eco_gates.specs.declared.gate.NetId.{NetId}
use Rattle.eco_gates.specs.declared.gate.Term.{Term}

-- a gate: its kind, the net that it drives, and what its inputs read, in order
pub record GateValue : Type 0 where
  pub kind : Kind
  pub out : NetId
  pub ins : List Term
