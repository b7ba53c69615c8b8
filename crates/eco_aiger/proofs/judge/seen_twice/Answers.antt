use Rattle.std.proofs.Common.{[], ◌∷◌, ◌+◌, get_or, take, sym, ap, subst, ◌∙◌}
use Rattle.std.specs.Prelude.{nat_eq}
use Rattle.std.proofs.lemmas.Bool.{not-false, not-true}
use Rattle.std.proofs.lemmas.List.{take_all, take_more}
use Rattle.std.proofs.lemmas.Grind.{fold-append}
use Rattle.indexmap.specs.IndexSet.{insert_key, insert_all}
use Rattle.eco_aiger.specs.Defined.{is_twice}
use Rattle.eco_aiger.proofs.JudgeLaws.{Found, twice_then, twice_else}
use Rattle.eco_aiger.proofs.judge.seen_twice.Goals.{then-not-branch, else-not-branch}
use Rattle.eco_aiger.proofs.judge.seen_twice.Goals as goal

pub loop-variable-preserved : goal.loop-variable-preserved
loop-variable-preserved c =
    let list = c.args.list.now in
    let k = c.loop-variable.variable-index in
    record {
      seen =
          c.in_ok-insert.ensures.keys ∙ ap (λ keys. insert_key nat_eq keys (get_or list k 0)) c.loop-variable.invariant.seen
          ∙ sym (ap (insert_all nat_eq []) (take_more list k 0 c.loop-variable-test.true) ∙ fold-append (insert_key nat_eq) [] (take k list) (get_or list k 0 ∷ []));
      least = elim c.if-not-branch.branch [
        | then-not-branch w ↦
            subst (Found (is_twice (take (k + 1) list))) (sym (w.least-is ∙ w.lesser-least.ensures))
            (twice_then list k 0 c.loop-variable.seen.keys c.loop-variable.least c.loop-variable-test.true c.loop-variable.invariant.seen (not-false _ (sym c.in_ok-insert.ensures.added ∙ w.if-not-branch.true)) c.loop-variable.invariant.least)
        | else-not-branch w ↦
            subst (Found (is_twice (take (k + 1) list))) (sym w.least-is)
            (twice_else list k 0 c.loop-variable.seen.keys c.loop-variable.least c.loop-variable-test.true c.loop-variable.invariant.seen (not-true _ (sym c.in_ok-insert.ensures.added ∙ w.if-not-branch.false)) c.loop-variable.invariant.least)
      ];
    }

pub returns : goal.returns
returns c =
    subst (λ l. Found (is_twice l) c.loop-variable.least) (take_all c.loop-variable.variable-index c.args.list.now c.loop-variable-test.false) c.loop-variable.invariant.least
