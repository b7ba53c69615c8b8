-- The row is listed, or listed now.
use Rattle.std.proofs.Common.{subst}
use Rattle.eco_desk.specs.Boards.{IsListed}
use Rattle.eco_desk.proofs.SweptLaws.{continues_same, listed_tells}
use Rattle.eco_desk.proofs.known_rows.row_edge.Goals as goal

pub returns-in-Some-clause-continues : goal.returns-in-Some-clause-continues
returns-in-Some-clause-continues c = continues_same c.args.swept.now c.requires.merged

pub returns-in-Some-clause-known : goal.returns-in-Some-clause-known
returns-in-Some-clause-known c goal targets are = are

pub returns-in-Some-clause-edge : goal.returns-in-Some-clause-edge
returns-in-Some-clause-edge c goal targets are =
    listed_tells c.args.netlist.now goal targets c.args.swept.now.board c.args.known.now.items c.args.row.now c.in-Some.edge are
    (subst (λ known. IsListed known c.args.row.now c.in-Some.edge) c.as_slice.ensures.value c.in-Some.ensures)
