-- Gates whose nets are turned, over the numbers of nets.
use Rattle.std.specs.Prelude.{Bool, false, List, if◌then◌else◌}
use Rattle.std.specs.List.{slice_index_or}
use Rattle.eco_meaning.specs.declared.kind.Kind.{Kind}
use Rattle.eco_meaning.specs.declared.kind.Kind.TheVariants.{And, Nand, Or, Nor, Xor, Xnor, Buf, Not}
use Rattle.eco_gates.specs.GateValue.{GateValue}

-- the kind whose value is the opposite one
abbrev pub opposite_kind : Kind → Kind
opposite_kind And = Nand
opposite_kind Nand = And
opposite_kind Or = Nor
opposite_kind Nor = Or
opposite_kind Xor = Xnor
opposite_kind Xnor = Xor
opposite_kind Buf = Not
opposite_kind Not = Buf

-- the gate, of the opposite kind if the bit of its net is 1
abbrev pub turned_gate : List Bool → GateValue → GateValue
turned_gate turns g = record {
  kind = if slice_index_or turns g.out.0 false then opposite_kind g.kind else g.kind;
  out = g.out;
  ins = g.ins;
}
