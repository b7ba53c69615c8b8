use Rattle.std.proofs.Common.{rules, tests, refl, sym, ap, subst, Ok}
use Rattle.std.specs.Prelude.{◌==◌}
use Rattle.std.proofs.lemmas.List.{length-map}
use Rattle.std.proofs.lemmas.Iterator.Consumers.{YieldsList-from_enumerate, YieldsList-so_far, YieldsList-turn, YieldsList-end}
use Rattle.std.proofs.lemmas.Iterator.Splits.{YieldsList-from_slice_split}
use Rattle.eco_weight.specs.Gathering.{Collects}
use Rattle.eco_weight.specs.Lines.{IsSound}
use Rattle.eco_weight.proofs.FileLemmas.{tell_sound}
use Rattle.eco_lists.proofs.Lines.{all_lines, fault_at, lines-push, lines_in, seen}
use Rattle.eco_weight.proofs.reader.gathered_lines.Goals as goal

pub returns-then-not-branch-clause-fault : goal.returns-then-not-branch-clause-fault
returns-then-not-branch-clause-fault c =
    let so_far = YieldsList-so_far (YieldsList-from_enumerate (YieldsList-from_slice_split _ (λ b. b == 10) c.args.bytes.now (cc) (cc) refl (λ x r q k. search (rules, tests))) (cc)) c.loop-index.yielded _ c.loop-index.yielded_by in
    let turn = YieldsList-turn (YieldsList-from_enumerate (YieldsList-from_slice_split _ (λ b. b == 10) c.args.bytes.now (cc) (cc) refl (λ x r q k. search (rules, tests))) (cc)) c.loop-index.yielded _ c.loop-index.yielded_by _ _ _ c.in-Some.is c.next.ensures.steps in
    let collects = c.loop-index.invariant.collects in
    let fault = c.in_ok-take_line.ensures.fault (ap (λ b. Ok b) c.if-not-branch.true) in
    fault_at IsSound c.args.bytes.now _ (seen c.loop-index.yielded) _ (length-map c.loop-index.yielded _) so_far turn
    (tell_sound (lines_in (seen c.loop-index.yielded)) collects.told collects.tell)
    (λ sound. fault (subst IsSound (sym c.without_return.ensures) sound))

pub loop-index-preserved : goal.loop-index-preserved
loop-index-preserved c =
    let more = c.in_ok-take_line.ensures.sound (ap (λ b. Ok b) c.if-not-branch.false) (lines_in (seen c.loop-index.yielded)) c.loop-index.invariant.collects in
    record {
      can = search rules;
      finite = search rules;
      collects = rw (lines-push, ← c.without_return.ensures) more;
    }

pub returns-clause-ok : goal.returns-clause-ok
returns-clause-ok c =
    let end = YieldsList-end (YieldsList-from_enumerate (YieldsList-from_slice_split _ (λ b. b == 10) c.args.bytes.now (cc) (cc) refl (λ x r q k. search (rules, tests))) (cc)) c.loop-index.yielded _ c.loop-index.yielded_by _ _ c.in-None.is c.next.ensures.steps in
    subst (λ lines. Collects lines c.loop-index.gathered) (all_lines c.args.bytes.now (seen c.loop-index.yielded) end.0) c.loop-index.invariant.collects
