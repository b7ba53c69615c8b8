use Rattle.std.proofs.Common.{rules}
use Rattle.eco_vread.specs.Trees.{left}
use Rattle.eco_vread.specs.Kept.{stack_of, signs_of}
use Rattle.eco_vread.specs.Expressions.Place.{wanted, given}
use Rattle.eco_vread.proofs.Steps.{behind_operator, behind_bracket, behind_unclosed, behind_other}
use Rattle.eco_vread.proofs.expression.Reading.behind.Goals as goal

pub returns-in-Some : goal.returns-in-Some
returns-in-Some c =
    let w = behind_operator (left c.args.at) (left c.in-Some.next) (stack_of c.args.self.now) (signs_of c.args.self.now) c.in-Some.operator (wanted (stack_of c.take.new.self) (signs_of c.take.new.self)) (search rules) (search rules) in
    record { goes = w.0; fewer = w.1 }

pub returns-in_default-behind_mark-clause-goes : goal.returns-in_default-behind_mark-clause-goes
returns-in_default-behind_mark-clause-goes c =
    behind_other (left c.args.at) (stack_of c.args.self.now) (stack_of c.join.new.self) (signs_of c.args.self.now) (signs_of c.join.new.self) (search rules) (search rules) (search rules)

pub returns-then-not-is_bracket_last-clause-goes : goal.returns-then-not-is_bracket_last-clause-goes
returns-then-not-is_bracket_last-clause-goes c =
    behind_unclosed (left c.args.at) (stack_of c.args.self.now) (stack_of c.join.new.self) (signs_of c.args.self.now) (signs_of c.join.new.self) (search rules) (search rules) (search rules)

pub returns : goal.returns
returns c =
    let w = behind_bracket (left c.args.at) (left c.in-Some-behind_mark.next) (stack_of c.args.self.now) (stack_of c.join.new.self) (signs_of c.args.self.now) (signs_of c.join.new.self) (given (stack_of c.close.new.self) (signs_of c.close.new.self)) (search rules) (search rules) (search rules) (search rules) in
    record { goes = w.0; fewer = w.1 }
