-- The values of gates by the three ways to join bits.
use Rattle.std.specs.Prelude.{ℕ, ◌*◌, ◌-◌, Bool, true, false, ◌&&◌, ◌||◌, List}
use Rattle.std.specs.List.{list_all, list_any}
use Rattle.eco_meaning.specs.declared.kind.Kind.{Kind}
use Rattle.eco_meaning.specs.declared.kind.Kind.TheVariants.{And, Nand, Or, Nor, Xor, Xnor, Buf, Not}
use Rattle.eco_meaning.specs.Gates.{is_odd}
use Rattle.eco_lists.specs.Bits.{exactly_one}
use Rattle.eco_compile.specs.declared.join.Join.{Join}
use Rattle.eco_compile.specs.declared.join.Join.TheVariants.{All, Any, Odd}

-- whether all bits are 1, some bit is, an odd number of them is
abbrev pub joined : Join → List Bool → Bool
joined All bits = list_all (λ bit. bit) bits
joined Any bits = list_any (λ bit. bit) bits
joined Odd bits = is_odd bits

-- the same of two bits
abbrev pub joined_two : Join → Bool → Bool → Bool
joined_two All a b = a && b
joined_two Any a b = a || b
joined_two Odd a b = exactly_one a b

-- how a gate joins its inputs
abbrev pub join_of : Kind → Join
join_of And = All
join_of Nand = All
join_of Or = Any
join_of Nor = Any
join_of Xor = Odd
join_of Xnor = Odd
join_of Buf = All
join_of Not = All

-- whether a gate's output is the complement of its joined inputs
abbrev pub inverts : Kind → Bool
inverts And = false
inverts Nand = true
inverts Or = false
inverts Nor = true
inverts Xor = false
inverts Xnor = true
inverts Buf = false
inverts Not = true

-- how many nodes it may take to join one more edge
abbrev pub join_nodes : Join → ℕ
join_nodes All = 1
join_nodes Any = 1
join_nodes Odd = 3

-- how many nodes a gate of this kind with so many inputs may take: none for the first input, and for each further one
-- a node, or three where an odd number of 1s is asked for
abbrev pub gate_nodes : Kind → ℕ → ℕ
gate_nodes kind inputs = join_nodes (join_of kind) * (inputs - 1)
