use Rattle.std.proofs.Common.{[]}
use Rattle.eco_aiger.proofs.PieceLaws.{pieces_found}
use Rattle.eco_aiger.proofs.lines.lines_of_pieces.Goals as goal

pub returns-in_ok-add_unended-in-len1-up : goal.returns-in_ok-add_unended-in-len1-up
returns-in_ok-add_unended-in-len1-up c =
    pieces_found c.in_ok-lines-in-len1-up.lines.items c.add_unended.new.lines.items c.args.pieces.now (record { ref_ptr = (0, 0); now = [] }) c.in-len1-up.len_at_least c.in_ok-add_unended-in-len1-up.ensures c.in_ok-lines-in-len1-up.ensures
