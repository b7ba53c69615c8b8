use Rattle.std.proofs.Common.{rules, ◌∙◌}
use Rattle.eco_vread.specs.Kept.{stack_of, signs_of}
use Rattle.eco_vread.proofs.Stacks.{reduced_more, reduced_end}
use Rattle.eco_vread.proofs.expression.Reading.reduce.Goals as goal

pub loop-self-preserved : goal.loop-self-preserved
loop-self-preserved c =
    reduced_more (stack_of c.loop-self.self) (stack_of c.finish.new.self) (signs_of c.loop-self.self) (signs_of c.finish.new.self) (search rules) (search rules) (search rules) ∙ c.loop-self.invariant

pub returns : goal.returns
returns c = reduced_end (stack_of c.loop-self.self) (signs_of c.loop-self.self) (search rules) ∙ c.loop-self.invariant
