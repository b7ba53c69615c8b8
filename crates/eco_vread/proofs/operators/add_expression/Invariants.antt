use Rattle.std.proofs.Common.{◌≡◌, [], drop, map, Some}
use Rattle.eco_vread.specs.Postfix.{sign_of, expression_of}
use Rattle.eco_vread.specs.Declaring.{driven_by, with_signs, work_of}
use Rattle.eco_vread.proofs.Works.{with_expression}
use Rattle.eco_vread.proofs.operators.add_expression.Given as goal

-- the symbols that are left make the expression of what is made so far
abbrev pub invariant-loop-symbol : goal.invariant-loop-symbol
invariant-loop-symbol l =
    with_signs (driven_by l.nets) (map sign_of (drop l.symbol-index l.value)) (work_of l.draft l.pending)
    ≡ Some (with_expression (driven_by l.nets) (expression_of (map sign_of l.value)) (record { declared = l.initial.draft; operands = []; count = l.before }))
