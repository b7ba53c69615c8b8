-- One more function, and perhaps another one in its place.
use Rattle.eco_trace.specs.Split.{Split}
use Rattle.eco_functions.specs.Parts.{functions_of, split_of, most_of}
use Rattle.eco_functions.proofs.Joining.{improved_more, improved_reach}
use Rattle.eco_functions.proofs.parts.Parts.add_target.Goals as goal

pub returns-clause-more : goal.returns-clause-more
returns-clause-more g c =
    let added = c.in_ok-add_interpolant.ensures in
    improved_more (functions_of c.args.self.now) (functions_of c.add_interpolant.new.self) (functions_of c.improve.new.parts) c.args.more.now c.requires.functions added.functions added.more c.in_ok-improve.ensures.improved

pub returns-clause-gates : goal.returns-clause-gates
returns-clause-gates g c =
    let split : Split = split_of c.args.two.now in
    let most = most_of c.args.two.now in
    improved_reach (functions_of c.args.self.now) (functions_of c.add_interpolant.new.self) (functions_of c.improve.new.parts) c.args.more.now split c.args.two.now.shared.now most c.in_ok-add_interpolant.ensures.gates c.in_ok-improve.ensures.improved
