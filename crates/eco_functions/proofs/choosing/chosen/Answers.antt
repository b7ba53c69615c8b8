use Rattle.std.proofs.Common.{rules, ◌≡◌, inl, sym, subst, List}
use Rattle.eco_aig.specs.declared.edge.Edge.{Edge}
use Rattle.eco_functions.specs.Improving.{ReachNoMoreThan}
use Rattle.eco_functions.proofs.Replacing.{reach_same}
use Rattle.eco_functions.proofs.choosing.chosen.Goals as goal

-- the roots as they were reach what they reach
pub returns-in_ok-to_vec : goal.returns-in_ok-to_vec
returns-in_ok-to_vec c =
    let nodes = c.args.aig.now in
    let roots = c.args.roots.now in
    let same : c.in_ok-to_vec.field-0.items ≡ roots = c.in_ok-to_vec.ensures.items_if_clones_equal (search rules) in
    record {
      chosen = record {
        last = inl same;
        no_more = subst (λ (edges : List Edge). ReachNoMoreThan nodes edges nodes roots) (sym same) (reach_same nodes roots);
      };
    }
