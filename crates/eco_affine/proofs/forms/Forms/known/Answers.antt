-- No atoms: the constant.
use Rattle.std.proofs.Common.{false, length, ◌≡◌, sym, ap, arith}
use Rattle.eco_lists.proofs.Places.{no_items}
use Rattle.eco_aig.specs.Edges.{plain}
use Rattle.eco_aig.proofs.Conjunctions.{zero_value, value_as}
use Rattle.eco_affine.specs.Forms.{parity}
use Rattle.eco_affine.proofs.forms.Forms.known.Goals as goal

pub returns-in-empty : goal.returns-in-empty
returns-in-empty c =
    let nodes = c.args.aig.now in
    let atoms = c.args.atoms.now in
    let few : length atoms ≡ 0 = omega (arith, c.in-empty.len_below) in
    value_as nodes (plain 0) (λ w. false) (λ w. parity w atoms) (λ w. sym (ap (parity w) (no_items atoms few))) (zero_value nodes c.nodes-nodes.ensures.graph)
