use Rattle.std.proofs.Common.{rules, arith, ◌∙◌}
use Rattle.eco_vread.specs.Kept.{stack_of, signs_of}
use Rattle.eco_vread.proofs.Stacks.{joined_more, joined_none, joined_looser}
use Rattle.eco_vread.proofs.expression.Reading.join.Goals as goal

pub loop-operator-preserved : goal.loop-operator-preserved
loop-operator-preserved c =
    joined_more c.args.least (stack_of c.loop-operator.self) (stack_of c.finish.new.self) (signs_of c.loop-operator.self) (signs_of c.finish.new.self) c.in-Some.operator (search rules) (omega arith) (search rules) (search rules) ∙ c.loop-operator.invariant

pub returns-then-tightness-least : goal.returns-then-tightness-least
returns-then-tightness-least c =
    joined_looser c.args.least (stack_of c.loop-operator.self) (signs_of c.loop-operator.self) c.in-Some.operator (search rules) (omega arith) ∙ c.loop-operator.invariant

pub returns : goal.returns
returns c =
    joined_none c.args.least (stack_of c.loop-operator.self) (signs_of c.loop-operator.self) (search rules) ∙ c.loop-operator.invariant
