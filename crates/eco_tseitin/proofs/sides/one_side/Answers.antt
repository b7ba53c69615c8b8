use Rattle.std.proofs.Common.{[]}
use Rattle.eco_tseitin.proofs.SideLaws.{is_read}
use Rattle.eco_tseitin.proofs.sides.one_side.Goals as goal

pub returns-clause-models : goal.returns-clause-models
returns-clause-models c = λ v holds.
    let told = is_read c.args.aig.now c.args.inputs.now [] c.args.asserted.now c.in_ok-side.side c.in_ok-side.ensures.encoded in
    let found = told.models v holds in
    (found.0, found.1, found.2)

pub returns-clause-answers : goal.returns-clause-answers
returns-clause-answers c = λ w makes.
    let told = is_read c.args.aig.now c.args.inputs.now [] c.args.asserted.now c.in_ok-side.side c.in_ok-side.ensures.encoded in
    let found = told.answers w makes in
    (found.0, found.1, found.2)

pub returns-clause-within : goal.returns-clause-within
returns-clause-within c = (is_read c.args.aig.now c.args.inputs.now [] c.args.asserted.now c.in_ok-side.side c.in_ok-side.ensures.encoded).inputs_within

pub returns-clause-few : goal.returns-clause-few
returns-clause-few c = (is_read c.args.aig.now c.args.inputs.now [] c.args.asserted.now c.in_ok-side.side c.in_ok-side.ensures.encoded).few
