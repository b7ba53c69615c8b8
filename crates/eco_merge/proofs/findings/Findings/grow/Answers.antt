-- One more row has grown.
use Rattle.std.proofs.Common.{◌<◌, length, arith}
use Rattle.eco_merge.specs.Rows.{grown}
use Rattle.eco_merge.proofs.Listing.{exchange_next}
use Rattle.eco_merge.proofs.findings.Findings.grow.Goals as goal

pub loop-index-preserved : goal.loop-index-preserved
loop-index-preserved c =
    let within : c.loop-index.index < length c.args.self.now.rows.items = omega arith in
    record {
      rows = exchange_next (grown c.args.first c.args.second) c.args.self.now.rows.items c.loop-index.self.rows.items c.loop-index.index c.index_mut.result.now c.grow.new.self c.loop-index.invariant.rows within c.index_mut.ensures.value c.in_ok-grow.ensures;
      drawn = c.loop-index.invariant.drawn;
      signatures = c.loop-index.invariant.signatures;
      apart = c.loop-index.invariant.apart;
    }
