-- What `recheck` comes to, from stage to stage.
use Rattle.std.proofs.Common.{inl, List, Result, Ok, Err, MatchResult, sym, subst, refl}
use Rattle.eco_check.specs.Steps.{StepValue}
use Rattle.eco_outside.specs.Store.{StoreView}
use Rattle.eco_trace.specs.Clauses.{Clauses}
use Rattle.eco_words.specs.CommandLine.{RecheckOptions}
use Rattle.std.specs.Prelude.{codes}
use Rattle.eco_cli.specs.declared.answer.Answer.{Answer}
use Rattle.eco_inputs.specs.declared.halt.Halt.{Halt}
use Rattle.eco_inputs.specs.declared.halt.Halt.TheVariants as halt
use Rattle.eco_cli.specs.declared.recheck.RecheckStop.{RecheckStop}
use Rattle.eco_cli.specs.declared.recheck.RecheckStop.TheVariants.{Flawed}
use Rattle.eco_cli.specs.Answers.{IsTextAnswer}
use Rattle.eco_inputs.specs.Reading.{Ends, Halts, IsReported}
use Rattle.eco_cli.specs.Recheck.{AreProof, AreRefuted, IsFlawHalt, long_proof, proof_row, recheck_rows, recheck_rules}
use Rattle.eco_inputs.specs.Rows.{named_row}
use Rattle.eco_cli.specs.Rules.{IsPrepared}

-- something is wrong with the steps
flaw_halts : (options : RecheckOptions) (c : Clauses) (list : List StepValue) (store : StoreView) (why : Halt RecheckStop) → IsFlawHalt c list why → Halts (long_proof options) (named_row Flawed (proof_row c list)) store store why
flaw_halts options c list store (halt.For stop) h =
    (h, subst (λ (s : RecheckStop). IsReported (long_proof options s) store store) (sym h.1) tt)
flaw_halts options c list store (halt.Unread path) h = absurd h
flaw_halts options c list store halt.OutOfMemory h = tt

-- the steps were checked
pub proof_ends : (options : RecheckOptions) (c : Clauses) (list : List StepValue) (store : StoreView) (r : Result (Unit {0}) (Halt RecheckStop)) → MatchResult r (λ done. AreProof c list) (IsFlawHalt c list) → Ends (long_proof options) (named_row Flawed (proof_row c list)) AreRefuted store store r
proof_ends options c list store (Ok done) h = (c, (h, refl), h.1.no_model)
proof_ends options c list store (Err why) h = flaw_halts options c list store why h

-- the clauses have no model
pub refuted_prepared : (options : RecheckOptions) (before after : StoreView) (c : Clauses) → (recheck_rows options).passes before.files c → AreRefuted tt c → (answer : Answer) → IsTextAnswer 0 (codes "refuted\n") answer → IsPrepared (recheck_rules options) before after answer
refuted_prepared options before after c passed refuted answer (zero, none, text) = inl (
  zero,
  record { value = c; passed = passed; answers = record { none = none; no_model = refuted; text = text } },
)
