-- The nets that the words name are at fault, or they can be cut.
use Rattle.std.proofs.Common.{List, ℕ, map, sym, ap, subst}
use Rattle.std.specs.Prelude.{MatchResult}
use Rattle.std.proofs.lemmas.Result.{IfOk-weaker}
use Rattle.eco_meaning.specs.Circuit.{Circuit}
use Rattle.eco_words.specs.CommandLine.{locate_options_of}
use Rattle.eco_inputs.specs.Nets.{AreNamed, IsNetFault, net_fault_text}
use Rattle.eco_cli.specs.Answers.{IsTextAnswer}
use Rattle.eco_cli.proofs.LocateStages.{fault_prepared}
use Rattle.eco_cli.proofs.locate.with_nets.Goals as goal

pub answered-answer-requires-clause-named : goal.answered-answer-requires-clause-named
answered-answer-requires-clause-named c =
    let options = locate_options_of c.args.command.now in
    let words = map (λ name. name.now) c.as_slice.result.now in
    let named = subst (λ r. MatchResult r (λ nets. AreNamed c.old.result.now words nets.items) (IsNetFault c.old.result.now words)) c.in-Ok.is c.in_ok-nets.ensures in
    subst (λ (f : Circuit). AreNamed f options.nets c.as_slice-in-Ok.result.now) c.old.ensures.value
    (subst (λ (list : List (List ℕ)). AreNamed c.old.result.now list c.as_slice-in-Ok.result.now) (ap (map (λ name. name.now)) c.as_slice.ensures.value)
    (subst (AreNamed c.old.result.now words) (sym c.as_slice-in-Ok.ensures.value) named))

pub returns-in-Err : goal.returns-in-Err
returns-in-Err c = λ before after passed.
    let options = locate_options_of c.args.command.now in
    let words = map (λ name. name.now) c.as_slice.result.now in
    let fault = subst (λ r. MatchResult r (λ nets. AreNamed c.old.result.now words nets.items) (IsNetFault c.old.result.now words)) c.in-Err.is c.in_ok-nets.ensures in
    IfOk-weaker c.stopped.result (IsTextAnswer 3 (net_fault_text options.nets c.in-Err.fault)) _
    (fault_prepared options c.args.change.now c.in-Err.fault before after passed
    (subst (λ (f : Circuit). IsNetFault f options.nets c.in-Err.fault) c.old.ensures.value
    (subst (λ (list : List (List ℕ)). IsNetFault c.old.result.now list c.in-Err.fault) (ap (map (λ name. name.now)) c.as_slice.ensures.value) fault)))
    c.stopped.ensures
