-- One more entry.
use Rattle.std.proofs.Common.{subst}
use Rattle.eco_merge.specs.Steps.{IsAnswer}
use Rattle.eco_merge.proofs.Listing.{entries_more}
use Rattle.eco_merge.proofs.findings.Findings.is_true.Goals as goal

pub returns-in_ok-push-in-Unknown-clause-findings : goal.returns-in_ok-push-in-Unknown-clause-findings
returns-in_ok-push-in-Unknown-clause-findings g c =
    let claim = c.args.claim in
    let is = subst (IsAnswer c.args.aig.now c.args.limit claim.node claim.other claim.same) c.in-Unknown.is c.in_ok-ask.ensures in
    record {
      rows = c.requires.findings.rows;
      signed = c.requires.findings.signed;
      entries = entries_more c.args.aig.now c.args.limit claim.node claim.other claim.same c.args.self.now.apart.items c.push-in-Unknown.new.self.items c.in-Unknown.entry c.in_ok-push-in-Unknown.ensures.items is c.requires.findings.entries;
    }
