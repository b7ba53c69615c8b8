-- An edge beyond the tables stands before no place.
use Rattle.std.proofs.Common.{arith}
use Rattle.std.proofs.lemmas.Bool.{ltb-true, lt-ltb}
use Rattle.eco_splice.proofs.TableLemmas.{earlier_within}
use Rattle.eco_splice.proofs.places.Places.stands_before.Goals as goal

pub returns-else-edge-len : goal.returns-else-edge-len
returns-else-edge-len c = (
  λ yes.
      let below = ltb-true c.args.edge.node c.len.result yes in
      let beyond = c.if-edge-len.false in
      absurd (omega (arith, below, beyond)),
  λ stands.
      let within = earlier_within _ c.args.self.now c.args.place c.args.edge c.requires.placed c.requires.place stands c.if-edge-eq0.false in
      let count = c.len.ensures in
      lt-ltb c.args.edge.node c.len.result (omega (arith, within, count)),
)
