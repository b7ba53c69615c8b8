use Rattle.std.proofs.lemmas.Result.{on_ok_weaker, on_err_weaker}
use Rattle.eco_tseitin.proofs.Fronts.{if_err, front_same, front_then, front_join, front_named}
use Rattle.eco_tseitin.proofs.Naming.{three_named, three_within, three_apart, conjunction_added}
use Rattle.eco_tseitin.proofs.encoder.Encoder.add_conjunction.Goals as goal

pub add_three-requires-clause-within : goal.add_three-requires-clause-within
add_three-requires-clause-within c =
    let three = three_named c.args.self.now c.literal.new.self c.literal-2.new.self c.literal-3.new.self c.args.node c.args.first c.args.second _ _ _ c.requires.named c.in_ok-result_literal.ensures.named c.in_ok-first_literal.ensures.named c.in_ok-second_literal.ensures.named c.in_ok-result_literal.ensures.literal c.in_ok-first_literal.ensures.literal c.in_ok-second_literal.ensures.literal in
    three_within _ _ _ _ _ _ _ _ three

pub add_three-requires-clause-apart : goal.add_three-requires-clause-apart
add_three-requires-clause-apart c =
    let three = three_named c.args.self.now c.literal.new.self c.literal-2.new.self c.literal-3.new.self c.args.node c.args.first c.args.second _ _ _ c.requires.named c.in_ok-result_literal.ensures.named c.in_ok-first_literal.ensures.named c.in_ok-second_literal.ensures.named c.in_ok-result_literal.ensures.literal c.in_ok-first_literal.ensures.literal c.in_ok-second_literal.ensures.literal in
    three_apart _ _ _ _ _ _ _ _ c.requires.operands three

pub returns-clause-ok : goal.returns-clause-ok
returns-clause-ok c =
    let three = three_named c.args.self.now c.literal.new.self c.literal-2.new.self c.literal-3.new.self c.args.node c.args.first c.args.second _ _ _ c.requires.named c.in_ok-result_literal.ensures.named c.in_ok-first_literal.ensures.named c.in_ok-second_literal.ensures.named c.in_ok-result_literal.ensures.literal c.in_ok-first_literal.ensures.literal c.in_ok-second_literal.ensures.literal in
    on_ok_weaker c.add_three.result (λ h. conjunction_added c.args.self.now c.literal-3.new.self c.add_three.new.self c.args.node c.args.first c.args.second _ _ _ three h) c.add_three.ensures.ok

pub returns-in_err-result_literal-clause-err : goal.returns-in_err-result_literal-clause-err
returns-in_err-result_literal-clause-err c = if_err c.from_residual.result (front_same c.args.self.now c.literal.new.self c.in_err-result_literal.ensures.err)

pub returns-in_err-first_literal-clause-err : goal.returns-in_err-first_literal-clause-err
returns-in_err-first_literal-clause-err c =
    let one = c.literal.new.self in
    if_err c.from_residual-in_err-first_literal.result (front_then c.args.self.now one c.literal-2.new.self (front_named c.args.self.now one c.args.node c.in_ok-result_literal.ensures.named) c.in_err-first_literal.ensures.err)

pub returns-in_err-second_literal-clause-err : goal.returns-in_err-second_literal-clause-err
returns-in_err-second_literal-clause-err c =
    let one = c.literal.new.self in
    let two = c.literal-2.new.self in
    if_err c.from_residual-in_err-second_literal.result (front_then c.args.self.now two c.literal-3.new.self
    (front_join c.args.self.now one two (front_named c.args.self.now one c.args.node c.in_ok-result_literal.ensures.named) (front_named one two c.args.first.node c.in_ok-first_literal.ensures.named))
    c.in_err-second_literal.ensures.err)

pub returns-clause-err : goal.returns-clause-err
returns-clause-err c =
    let old = c.args.self.now in
    let one = c.literal.new.self in
    let two = c.literal-2.new.self in
    let three = c.literal-3.new.self in
    on_err_weaker c.add_three.result
    (λ h. front_join old three c.add_three.new.self
    (front_join old two three
    (front_join old one two (front_named old one c.args.node c.in_ok-result_literal.ensures.named) (front_named one two c.args.first.node c.in_ok-first_literal.ensures.named))
    (front_named two three c.args.second.node c.in_ok-second_literal.ensures.named))
    h)
    c.add_three.ensures.err
