use Rattle.eco_gen.proofs.Pairs.{IsClosed-drawn}
use Rattle.eco_gen.proofs.files.specification_text.Goals as goal

pub returns-clause-read : goal.returns-clause-read
returns-clause-read c =
    let read = rw c.in_ok-netlist.ensures at c.in_ok-text.ensures.closed in
    read (IsClosed-drawn c.args.draws.now.seed c.args.draws.now.size)
