use Rattle.std.proofs.Common.{◌≡◌, ◌++◌, [], List, ℕ, sym, subst}
use Rattle.std.specs.List.{IsDistinct}
use Rattle.std.specs.Str.{bytes_eq}
use Rattle.eco_netlist.proofs.NameSets.{distinct_front}
use Rattle.eco_netlist.proofs.names.joined.Goals as goal

pub add_names-requires : goal.add_names-requires
add_names-requires c =
    let none : c.in_ok-joined.joined.keys ≡ [] = c.in_ok-joined.ensures.empty in
    subst (λ (l : List (List ℕ)). IsDistinct bytes_eq (l ++ c.args.first.now)) (sym none) (distinct_front c.args.first.now c.args.second.now c.requires)
