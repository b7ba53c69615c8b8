use Rattle.std.proofs.Common.{take, drop, codes, length, refl, sym, ◌∙◌, arith}
use Rattle.std.proofs.lemmas.List.{length-map, length-take-le}
use Rattle.eco_meaning.specs.Circuit.{names}
use Rattle.eco_netlist.specs.Netlists.{name_at, names_at}
use Rattle.eco_text.proofs.PrefixLemmas.{printing-fresh}
use Rattle.eco_splice.proofs.GraphPatches.{enough_targets, targets_split}
use Rattle.eco_splice.proofs.graph.graph_draft.Goals as goal

pub slice_bounds-targets-end : goal.slice_bounds-targets-end
slice_bounds-targets-end c =
    let list = names c.args.f.now in
    let targets = c.targets.result.now in
    let enough = enough_targets c.args.f.now (length c.args.roots.now.edges.now) (names_at list targets) c.requires.targets c.targets.ensures.named in
    let count = length-map targets (λ net. name_at list net.0) in
    sym (length-take-le (length c.args.roots.now.edges.now) targets (omega (arith, enough, count)))

pub marked_draft-requires-clause-printing : goal.marked_draft-requires-clause-printing
marked_draft-requires-clause-printing c =
    rw c.as_slice.ensures.value (printing-fresh (codes "eco") (names c.args.f.now) c.in_ok-prefix.prefix.items refl c.in_ok-prefix.ensures.fresh)

pub marked_draft-requires-clause-count : goal.marked_draft-requires-clause-count
marked_draft-requires-clause-count c =
    let list = names c.args.f.now in
    let targets = c.targets.result.now in
    let enough = enough_targets c.args.f.now (length c.args.roots.now.edges.now) (names_at list targets) c.requires.targets c.targets.ensures.named in
    let count = length-map targets (λ net. name_at list net.0) in
    length-take-le (length c.args.roots.now.edges.now) targets (omega (arith, enough, count))

pub returns-clause-exactly : goal.returns-clause-exactly
returns-clause-exactly c =
    let f = c.args.f.now in
    let list = names f in
    let targets = c.targets.result.now in
    let n = length c.args.roots.now.edges.now in
    let enough = enough_targets f n (names_at list targets) c.requires.targets c.targets.ensures.named in
    let count = length-map targets (λ net. name_at list net.0) in
    record {
      prefix = c.as_slice.result.now;
      targets = names_at list (take n targets);
      later = names_at list (drop n targets);
      marks = c.as_slice-2.result.now;
      fresh = rw c.as_slice.ensures.value c.in_ok-prefix.ensures.fresh;
      count = length-map (take n targets) (λ net. name_at list net.0) ∙ length-take-le n targets (omega (arith, enough, count));
      first = targets_split f list targets n c.targets.ensures.named;
      reached = rw c.as_slice-2.ensures.value c.in_ok-marks.ensures;
      made = c.in_ok-draft.ensures.made;
    }
