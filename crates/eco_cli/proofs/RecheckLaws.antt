-- The rows of `recheck` have one outcome: a line for each row.
use Rattle.std.proofs.Common.{◌≡◌, ◌≢◌, ◌⊎◌, inl, inr, Bool, true, false, List, Some, Result, Ok, Err, sym, ◌∙◌, ap, refl}
use Rattle.std.proofs.lemmas.Bool.{false≢true}
use Rattle.eco_check.proofs.CauseLaws.{given_error, proved_no_cause}
use Rattle.eco_check.specs.declared.error.CheckError.{CheckError}
use Rattle.eco_check.specs.declared.error.CheckError.TheVariants as cause
use Rattle.eco_check.specs.Answers.{IsCause}
use Rattle.eco_check.specs.Steps.{StepValue}
use Rattle.eco_outside.specs.Store.{Files}
use Rattle.eco_trace.specs.Clauses.{Clauses}
use Rattle.eco_words.specs.CommandLine.{RecheckOptions}
use Rattle.eco_inputs.specs.declared.TheConstants.{MOST_PROOF_BYTES}
use Rattle.eco_cli.specs.declared.recheck.Flaw.{Flaw}
use Rattle.eco_cli.specs.declared.recheck.Flaw.TheVariants.{BadStep, NoEmptyClause}
use Rattle.eco_cli.specs.declared.recheck.RecheckStop.{RecheckStop}
use Rattle.eco_cli.specs.declared.recheck.RecheckStop.TheVariants.{SamePath, InClauses, InSteps, Flawed}
use Rattle.eco_inputs.specs.Kinds.{cnf_kind, determined_line, trace_kind}
use Rattle.eco_inputs.specs.Reading.{determined_file}
use Rattle.eco_cli.specs.Recheck.{AreProof, IsFlaw, apart_row, clauses_row, from_clauses, from_files, is_flaw, proof_row, recheck_rows, recheck_rules, determined_recheck, steps_row}
use Rattle.eco_inputs.specs.Rows.{IsRow, named_row}
use Rattle.eco_cli.specs.Rules.{IsLawful}
use Rattle.eco_inputs.proofs.KindLaws.{clauses, steps}
use Rattle.eco_inputs.proofs.ReadingLaws.{file_law}
use Rattle.eco_inputs.proofs.RowLaws.{named_law, test_law, then_law}

-- ---- what is wrong with a proof

-- an error of the check as what is wrong
abbrev flaw_of : Flaw → CheckError
flaw_of (BadStep number) = cause.BadStep number
flaw_of NoEmptyClause = cause.NoEmptyClause

is_memory : CheckError → Bool
is_memory cause.OutOfMemory = true
is_memory other = false

not_memory : (flaw : Flaw) → flaw_of flaw ≢ cause.OutOfMemory
unfolding is_memory
not_memory (BadStep number) e = false≢true (ap is_memory e)
not_memory NoEmptyClause e = false≢true (ap is_memory e)

cause_of : (c : Clauses) (list : List StepValue) (flaw : Flaw) → IsFlaw c list flaw → IsCause c.clauses list (flaw_of flaw)
cause_of c list (BadStep number) h = h
cause_of c list NoEmptyClause h = h

-- the flaw of an error
flaw_from : CheckError → Flaw
flaw_from (cause.BadStep number) = BadStep number
flaw_from cause.NoEmptyClause = NoEmptyClause
flaw_from cause.OutOfMemory = NoEmptyClause

flaw_back : (flaw : Flaw) → flaw_from (flaw_of flaw) ≡ flaw
unfolding flaw_from
flaw_back (BadStep number) = refl
flaw_back NoEmptyClause = refl

error_from : Result (Unit {0}) CheckError → CheckError
error_from (Ok done) = cause.OutOfMemory
error_from (Err e) = e

same_error : (d e : CheckError) → d ≢ cause.OutOfMemory → (◌≡◌ {A = Result (Unit {0}) CheckError} (Err d) (Err e)) ⊎ (◌≡◌ {A = Result (Unit {0}) CheckError} (Err d) (Err cause.OutOfMemory)) → d ≡ e
unfolding error_from
same_error d e ne (inl same) = ap error_from same
same_error d e ne (inr none) = absurd (ne (ap error_from none))

one_flaw : (c : Clauses) (list : List StepValue) (a b : Flaw) → IsFlaw c list a → IsFlaw c list b → a ≡ b
one_flaw c list a b x y =
    sym (flaw_back a)
    ∙ ap flaw_from (same_error (flaw_of a) (flaw_of b) (not_memory a)
    (given_error c.clauses list (flaw_of a) (flaw_of b) (cause_of c list a x) (not_memory b) (cause_of c list b y)))
    ∙ flaw_back b

no_flaw : (c : Clauses) (list : List StepValue) (a : Flaw) → IsFlaw c list a → AreProof c list → ⊥
no_flaw c list a x proof =
    proved_no_cause c.clauses list proof.0 (flaw_of a) proof.1 (not_memory a) (cause_of c list a x)

-- ---- the rows, the last ones first

proof_law : (c : Clauses) (list : List StepValue) (files : Files) → IsRow determined_recheck (named_row Flawed (proof_row c list)) (Some files)
proof_law c list files =
    named_law (λ own. own) determined_recheck Flawed (proof_row c list) (Some files) (λ a b same. ap Flawed same)
    (test_law (λ own. own) (IsFlaw c list) (AreProof c list) c (Some files) (one_flaw c list) (no_flaw c list))

clauses_law : (options : RecheckOptions) (c : Clauses) (files : Files) → IsRow determined_recheck (from_clauses options c) (Some files)
clauses_law options c files =
    then_law determined_recheck (named_row InSteps (steps_row options)) (λ list. named_row Flawed (proof_row c list)) (Some files)
    (named_law (determined_file (λ own. own)) determined_recheck InSteps (steps_row options) (Some files) (λ a b same. ap InSteps same)
    (file_law (λ own. own) trace_kind steps options.trace MOST_PROOF_BYTES files))
    (λ list. proof_law c list files)

files_law : (options : RecheckOptions) (files : Files) → IsRow determined_recheck (from_files options) (Some files)
files_law options files =
    then_law determined_recheck (named_row InClauses (clauses_row options)) (from_clauses options) (Some files)
    (named_law (determined_file determined_line) determined_recheck InClauses (clauses_row options) (Some files) (λ a b same. ap InClauses same)
    (file_law determined_line cnf_kind clauses options.cnf MOST_PROOF_BYTES files))
    (λ c. clauses_law options c files)

rows_law : (options : RecheckOptions) (files : Files) → IsRow determined_recheck (recheck_rows options) (Some files)
rows_law options files =
    then_law determined_recheck (apart_row options) (λ _. from_files options) (Some files)
    (test_law determined_recheck (λ why. (why ≡ SamePath) × (options.cnf ≡ options.trace)) (options.cnf ≢ options.trace) tt (Some files)
    (λ a b x y. ap determined_recheck (x.0 ∙ sym y.0)) (λ a x apart. apart x.1))
    (λ _. files_law options files)

determined_no : (why : RecheckStop) → is_flaw (determined_recheck why) ≡ is_flaw why
determined_no SamePath = refl
determined_no (InClauses error) = refl
determined_no (InSteps error) = refl
determined_no (Flawed flaw) = refl

pub recheck_law : (options : RecheckOptions) → IsLawful (recheck_rules options)
recheck_law options = record {
  rows = rows_law options;
  determined = determined_no;
  asked = λ files c passed why stands. absurd ((rows_law options files).apart why c stands passed);
}
