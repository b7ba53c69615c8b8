use Rattle.std.proofs.Common.{rules}
use Rattle.eco_vread.specs.Views.{term_of}
use Rattle.eco_vread.specs.Trees.{left}
use Rattle.eco_vread.specs.Kept.{stack_of, signs_of}
use Rattle.eco_vread.specs.Expressions.Place.{wanted, given}
use Rattle.eco_vread.proofs.Steps.{before_tilde, before_bracket, before_term, before_none}
use Rattle.eco_vread.proofs.expression.Reading.before.Goals as goal

pub returns-in-Some : goal.returns-in-Some
returns-in-Some c =
    let w = before_tilde (left c.args.at) (left c.in-Some.next) (stack_of c.args.self.now) (signs_of c.args.self.now) (wanted (stack_of c.wait.new.self) (signs_of c.wait.new.self)) (search rules) (search rules) in
    record { goes = w.0; fewer = w.1 }

pub returns-in-Some-behind_mark : goal.returns-in-Some-behind_mark
returns-in-Some-behind_mark c =
    let w = before_bracket (left c.args.at) (left c.in-Some-behind_mark.next) (stack_of c.args.self.now) (signs_of c.args.self.now) (wanted (stack_of c.wait-in-Some-behind_mark.new.self) (signs_of c.wait-in-Some-behind_mark.new.self)) (search rules) (search rules) (search rules) in
    record { goes = w.0; fewer = w.1 }

pub returns-in_err-term-clause-goes : goal.returns-in_err-term-clause-goes
returns-in_err-term-clause-goes c =
    search (rules, before_none (left c.args.at) (stack_of c.args.self.now) (signs_of c.args.self.now) (search rules) (search rules))

pub returns : goal.returns
returns c =
    let w = before_term (left c.args.at) (left c.in_ok-term.next) (stack_of c.args.self.now) (signs_of c.args.self.now) (term_of c.in_ok-term.term) (given (stack_of c.operand.new.self) (signs_of c.operand.new.self)) (search rules) (search rules) (search rules) (search rules) in
    record { goes = w.0; fewer = w.1 }
