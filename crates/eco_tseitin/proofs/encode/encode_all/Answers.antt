use Rattle.std.proofs.Common.{sym, subst, take, ◌+◌}
use Rattle.eco_tseitin.specs.Encoded.{Encodes}
use Rattle.eco_tseitin.proofs.Growing.{no_growth}
use Rattle.eco_tseitin.proofs.EncodeLaws.{encodes_more}
use Rattle.eco_tseitin.proofs.encode.encode_all.Goals as goal

pub loop-edge-preserved : goal.loop-edge-preserved
loop-edge-preserved c =
    let graph = c.args.aig.now in
    let old = c.args.encoder.now in
    let new = c.encode.new.self in
    let k = c.loop-edge.edge-index in
    subst (Encodes graph (take (k + 1) c.args.edges.now) old new) (sym c.in_ok-push.ensures.items)
    (encodes_more graph c.args.edges.now k _ old c.loop-edge.encoder new c.loop-edge.lits.items c.in_ok-encode.field-0 c.loop-edge-test.true c.loop-edge.invariant (λ roots asserted is. c.in_ok-encode.ensures.encoding graph roots asserted is (no_growth graph)) c.in_ok-encode.ensures.literal c.in_ok-encode.ensures.nodes)
