use Rattle.eco_netlist.proofs.DraftedLemmas.{Extends-twice, named_terms-push, AreTerms-push}
use Rattle.eco_netlist.proofs.draft.numbered_terms.Goals as goal

pub loop-term-preserved : goal.loop-term-preserved
loop-term-preserved c =
    let now = c.loop-term.names.keys in
    let new = c.numbered_term.new.names.keys in
    let terms = c.loop-term.ins.items in
    let so_far = c.loop-term.invariant in
    let grown = c.in_ok-numbered_term.ensures.grown in
    record {
      can = tt;
      finite = tt;
      grown = Extends-twice c.args.names.now.keys now new so_far.grown grown;
      named = rw c.in_ok-push.ensures.ok (named_terms-push now new terms c.loop-term.yielded c.in_ok-numbered_term.field-0 c.in-Some.term grown so_far.within so_far.named c.in_ok-numbered_term.ensures.named);
      within = rw c.in_ok-push.ensures.ok (AreTerms-push now new terms c.in_ok-numbered_term.field-0 grown so_far.within c.in_ok-numbered_term.ensures.within);
    }
