-- Edges of the base first, then of the rows, while the graph grows.
use Rattle.std.proofs.Common.{◌+◌, List, ◌∷◌, Bool, true, false, length, map, refl, sym, ◌∙◌, subst}
use Rattle.std.specs.List.{All}
use Rattle.eco_meaning.specs.Circuit.{names}
use Rattle.eco_netlist.specs.Netlists.{names_at}
use Rattle.eco_compile.specs.Compiled.{HasOpenNets}
use Rattle.eco_pose.specs.Boards.{AreRowEdges}
use Rattle.eco_pose.proofs.SideLaws.{rows_with_first}
use Rattle.eco_desk.specs.Boards.{AreNetEdges}
use Rattle.eco_desk.proofs.SweptLaws.{base_edges_stay, continues_both, continues_same, rows_stay, known_stays}
use Rattle.eco_desk.proofs.turned.Turn.pair_edges.Goals as goal

pub net_edges-requires-clause-nets : goal.net_edges-requires-clause-nets
net_edges-requires-clause-nets c =
    let n = c.args.self.now.spliced in
    (n, subst (AreNetEdges n c.args.swept.now.board) (sym c.as_slice.ensures.value) c.requires.nets, c.requires.base)

pub row_edges-requires-clause-known : goal.row_edges-requires-clause-known
row_edges-requires-clause-known c =
    let (goal, targets, are) = c.requires.zeros in
    (goal, targets, known_stays c.args.self.now.spliced goal targets c.args.swept.now c.net_edges.new.self c.args.self.now.zeros.items c.net_edges.ensures.continues are)

pub row_edges-requires-clause-count : goal.row_edges-requires-clause-count
row_edges-requires-clause-count c =
    let n = c.args.self.now.spliced in
    subst (All (λ (row : List Bool). HasOpenNets n (length n.inputs + length row))) (sym (c.as_slice-2.ensures.value ∙ c.in_ok-zeros.ensures)) (rows_with_first n false c.args.rest.now c.requires.rests)

pub row_edges-requires-2-clause-known : goal.row_edges-requires-2-clause-known
row_edges-requires-2-clause-known c =
    let (goal, targets, are) = c.requires.ones in (
      goal,
      targets,
      known_stays c.args.self.now.spliced goal targets c.args.swept.now c.row_edges.new.swept c.args.self.now.ones.items
          (continues_both c.args.swept.now c.net_edges.new.self c.row_edges.new.swept c.net_edges.ensures.continues c.row_edges.ensures.continues) are,
    )

pub row_edges-requires-2-clause-count : goal.row_edges-requires-2-clause-count
row_edges-requires-2-clause-count c =
    let n = c.args.self.now.spliced in
    subst (All (λ (row : List Bool). HasOpenNets n (length n.inputs + length row))) (sym (c.as_slice-3.ensures.value ∙ c.in_ok-ones.ensures)) (rows_with_first n true c.args.rest.now c.requires.rests)

pub returns-in_err-zeros-clause-continues : goal.returns-in_err-zeros-clause-continues
returns-in_err-zeros-clause-continues c = continues_same c.args.swept.now c.requires.merged

pub returns-in_err-zeros-clause-stays : goal.returns-in_err-zeros-clause-stays
returns-in_err-zeros-clause-stays c = record {
  number = refl;
  patches = refl;
  spliced = refl;
  nets = refl;
  zeros = λ goal targets are. are;
  ones = λ goal targets are. are;
}

pub returns-in_err-ones-clause-continues : goal.returns-in_err-ones-clause-continues
returns-in_err-ones-clause-continues c = continues_same c.args.swept.now c.requires.merged

pub returns-in_err-ones-clause-stays : goal.returns-in_err-ones-clause-stays
returns-in_err-ones-clause-stays c = record {
  number = refl;
  patches = refl;
  spliced = refl;
  nets = refl;
  zeros = λ goal targets are. are;
  ones = λ goal targets are. are;
}

pub returns-in_err-base-clause-stays : goal.returns-in_err-base-clause-stays
returns-in_err-base-clause-stays c =
    let n = c.args.self.now.spliced in
    record {
      number = refl;
      patches = refl;
      spliced = refl;
      nets = refl;
      zeros = λ goal targets. known_stays n goal targets c.args.swept.now c.net_edges.new.self c.args.self.now.zeros.items c.net_edges.ensures.continues;
      ones = λ goal targets. known_stays n goal targets c.args.swept.now c.net_edges.new.self c.args.self.now.ones.items c.net_edges.ensures.continues;
    }

pub returns-in_err-first-clause-continues : goal.returns-in_err-first-clause-continues
returns-in_err-first-clause-continues c = continues_both c.args.swept.now c.net_edges.new.self c.row_edges.new.swept c.net_edges.ensures.continues c.row_edges.ensures.continues

pub returns-in_err-first-clause-stays : goal.returns-in_err-first-clause-stays
returns-in_err-first-clause-stays c =
    let n = c.args.self.now.spliced in
    let old = c.args.swept.now in
    let mid = c.net_edges.new.self in
    let new = c.row_edges.new.swept in
    record {
      number = refl;
      patches = refl;
      spliced = refl;
      nets = refl;
      zeros = λ goal targets are. c.row_edges.ensures.known goal targets (known_stays n goal targets old mid c.args.self.now.zeros.items c.net_edges.ensures.continues are);
      ones = λ goal targets. known_stays n goal targets old new c.args.self.now.ones.items (continues_both old mid new c.net_edges.ensures.continues c.row_edges.ensures.continues);
    }

pub returns-in_err-second-clause-continues : goal.returns-in_err-second-clause-continues
returns-in_err-second-clause-continues c =
    let old = c.args.swept.now in
    let first = c.row_edges.new.swept in
    continues_both old first c.row_edges-2.new.swept (continues_both old c.net_edges.new.self first c.net_edges.ensures.continues c.row_edges.ensures.continues) c.row_edges-2.ensures.continues

pub returns-in_err-second-clause-stays : goal.returns-in_err-second-clause-stays
returns-in_err-second-clause-stays c =
    let n = c.args.self.now.spliced in
    let old = c.args.swept.now in
    let mid = c.net_edges.new.self in
    let first = c.row_edges.new.swept in
    record {
      number = refl;
      patches = refl;
      spliced = refl;
      nets = refl;
      zeros = λ goal targets are.
          known_stays n goal targets first c.row_edges-2.new.swept c.row_edges.new.known.items c.row_edges-2.ensures.continues
          (c.row_edges.ensures.known goal targets (known_stays n goal targets old mid c.args.self.now.zeros.items c.net_edges.ensures.continues are));
      ones = λ goal targets are.
          c.row_edges-2.ensures.known goal targets (known_stays n goal targets old first c.args.self.now.ones.items (continues_both old mid first c.net_edges.ensures.continues c.row_edges.ensures.continues) are);
    }

pub returns-clause-continues : goal.returns-clause-continues
returns-clause-continues c =
    let old = c.args.swept.now in
    let first = c.row_edges.new.swept in
    continues_both old first c.row_edges-2.new.swept (continues_both old c.net_edges.new.self first c.net_edges.ensures.continues c.row_edges.ensures.continues) c.row_edges-2.ensures.continues

pub returns-clause-stays : goal.returns-clause-stays
returns-clause-stays c =
    let n = c.args.self.now.spliced in
    let old = c.args.swept.now in
    let mid = c.net_edges.new.self in
    let first = c.row_edges.new.swept in
    record {
      number = refl;
      patches = refl;
      spliced = refl;
      nets = refl;
      zeros = λ goal targets are.
          known_stays n goal targets first c.row_edges-2.new.swept c.row_edges.new.known.items c.row_edges-2.ensures.continues
          (c.row_edges.ensures.known goal targets (known_stays n goal targets old mid c.args.self.now.zeros.items c.net_edges.ensures.continues are));
      ones = λ goal targets are.
          c.row_edges-2.ensures.known goal targets (known_stays n goal targets old first c.args.self.now.ones.items (continues_both old mid first c.net_edges.ensures.continues c.row_edges.ensures.continues) are);
    }

pub returns-clause-edges : goal.returns-clause-edges
returns-clause-edges c =
    let n = c.args.self.now.spliced in
    let rest = c.args.rest.now in
    let old = c.args.swept.now in
    let mid = c.net_edges.new.self in
    let first = c.row_edges.new.swept in
    let new = c.row_edges-2.new.swept in
    record {
      count = c.in_ok-base.ensures.count;
      valued = base_edges_stay n (names_at (names n) c.args.base.now) mid new c.in_ok-base.base.items (continues_both mid first new c.row_edges.ensures.continues c.row_edges-2.ensures.continues)
          (c.in_ok-base.ensures.edges n (subst (AreNetEdges n old.board) (sym c.as_slice.ensures.value) c.requires.nets) c.requires.base);
      first = λ goal targets are.
          rows_stay n goal targets first new (map (λ (row : List Bool). false ∷ row) rest) c.in_ok-first.first.items c.row_edges-2.ensures.continues
          (subst (λ rows. AreRowEdges n goal targets first.board.graph first.board.inputs.items rows c.in_ok-first.first.items) (c.as_slice-2.ensures.value ∙ c.in_ok-zeros.ensures)
          (c.in_ok-first.ensures.edges goal targets (known_stays n goal targets old mid c.args.self.now.zeros.items c.net_edges.ensures.continues are)));
      second = λ goal targets are.
          subst (λ rows. AreRowEdges n goal targets new.board.graph new.board.inputs.items rows c.in_ok-second.second.items) (c.as_slice-3.ensures.value ∙ c.in_ok-ones.ensures)
          (c.in_ok-second.ensures.edges goal targets (known_stays n goal targets old first c.args.self.now.ones.items (continues_both old mid first c.net_edges.ensures.continues c.row_edges.ensures.continues) are));
    }
