-- The headline follows from what a run leaves: the rows of `synth` that are passed are its files.
use Rattle.std.proofs.Common.{◌≡◌, ◌≢◌, inl, inr, ℕ, Bool, true, false, List, Option, Some, None, if◌then◌else◌, sym, ◌∙◌, ap, subst, refl, arith}
use Rattle.std.proofs.lemmas.Bool.{false≢true}
use Rattle.eco_meaning.specs.Circuit.{Circuit}
use Rattle.eco_outside.specs.Store.{Files}
use Rattle.eco_pose.specs.declared.unfinished.Stuck.{Stuck}
use Rattle.eco_query.specs.Problem.{ProblemValue}
use Rattle.eco_netlist.specs.declared.draft.TargetRule.TheVariants.{Allowed, Never}
use Rattle.eco_vread.specs.Texts.{IsNetlistText}
use Rattle.eco_weight.specs.Files.{AreWeights}
use Rattle.eco_words.specs.CommandLine.{Command, IsExactlyOne, IsGiven, SynthOptions}
use Rattle.eco_words.specs.CommandLine.Command.{synth}
use Rattle.eco_inputs.specs.declared.TheConstants.{MOST_BYTES}
use Rattle.eco_cli.specs.declared.synth.SynthStop.{SynthStop}
use Rattle.eco_cli.specs.Answers.{Write, put_all}
use Rattle.eco_cli.specs.Calls.{Call, IsAnswered, IsPerformed, IsPrinted, IsStopped, is_early_status}
use Rattle.eco_cli.specs.Commands.{rules_of}
use Rattle.eco_cli.specs.Headline.{AreFilesOf, IsCareRead, IsPatchDelivered, IsShownWrong, IsSpecificationText, IsSynthHeadline, Says}
use Rattle.eco_inputs.specs.Inputs.{inputs_of, problem_with}
use Rattle.eco_inputs.specs.Kinds.{aiger_kind, is_aiger, kind_by, netlist_kind, specification_kind}
use Rattle.eco_inputs.specs.Reading.{IsRead, file_row}
use Rattle.eco_inputs.specs.Rows.{optional_row}
use Rattle.eco_cli.specs.Rules.{IsHalted, IsSuccess}
use Rattle.eco_cli.specs.Synth.{is_no, stop_text, problem_rows, synth_rows, synth_rules}
use Rattle.eco_inputs.specs.declared.paths.FileOption.TheVariants.{Patch, Out}
use Rattle.eco_inputs.specs.Paths.{problem_files_of}
use Rattle.eco_inputs.proofs.PathLaws.{last_apart}
use Rattle.eco_cli.proofs.Exactly.{HaltsAt, halted_at}

-- ---- the files

said : {Said : Type 0} (means : List ℕ → Said → Type 0) (told : Option Files) (path : List ℕ) (value : Said) → IsRead means told path MOST_BYTES value → Says told path means value
said means told path value read = record { bytes = read.bytes; of_file = read.of_file; meant = read.holds }

specification_by : (aiger : Bool) (bytes : List ℕ) (g : Circuit) → is_aiger bytes ≡ aiger → (kind_by aiger aiger_kind (netlist_kind Never)).gives bytes g → IsSpecificationText bytes g
specification_by true bytes g is gives = inl (is, gives)
specification_by false bytes g is gives = inr (is, gives)

specification_said : (told : Option Files) (path : List ℕ) (g : Circuit) → IsRead specification_kind.gives told path MOST_BYTES g → Says told path IsSpecificationText g
specification_said told path g read = record {
  bytes = read.bytes;
  of_file = read.of_file;
  meant = specification_by (is_aiger read.bytes) read.bytes g refl read.holds;
}

care_said : (told : Option Files) (path : Option (List ℕ)) (care : Option Circuit) → (optional_row path (λ name. file_row (netlist_kind Never) name MOST_BYTES)).passes told care → IsCareRead told path care
care_said told None care (any, is) = is
care_said told (Some path) care (c, read, (any, is)) = (c, is, said (IsNetlistText Never) told path c read)

-- where the rows that come to a problem are passed, the files are it
files_of : (options : SynthOptions) (told : Option Files) (problem : ProblemValue) → (problem_rows options).passes told problem → AreFilesOf options.problem told problem
files_of options told problem (u, apart, (given, (read, (fgw, (fg, (f, f_read, (g, g_read, (_, fg_is))), (w, w_read, (_, fgw_is))), (care, care_read, (_, read_is))), (_, given_is)), (q, (paired, q_is), (can, same)))) =
    let read_as : read ≡ (((f, g), w), care) = read_is ∙ ap (λ front. (front, care)) (fgw_is ∙ ap (λ netlists. (netlists, w)) fg_is) in
    subst (AreFilesOf options.problem told) (sym (same ∙ q_is ∙ ap (problem_with options.problem) (given_is ∙ ap inputs_of read_as))) (record {
      implementation = said (IsNetlistText Allowed) told options.problem.implementation f f_read;
      specification = specification_said told options.problem.specification g g_read;
      weights = said AreWeights told options.problem.weight w w_read;
      care = care_said told options.problem.care care care_read;
      input_weight = refl;
    })

-- and the patch and the patched netlist are two files
two_files : (options : SynthOptions) (told : Option Files) (problem : ProblemValue) → (problem_rows options).passes told problem → options.patch ≢ options.out
two_files options told problem (u, (apart, any), rest) = last_apart (problem_files_of options.problem) Patch Out options.patch options.out apart

-- ---- status 0

-- a success of the command
SucceedsAt : Call → List Write → List ℕ → Command → Type 0
SucceedsAt call writes text asked = IsSuccess (rules_of asked) call.store_before writes text

succeeds_at : (call : Call) → IsExactlyOne call.words → (options : SynthOptions) (text : List ℕ) → IsGiven call.words (synth options) → (performed : IsPerformed call text) → IsSuccess (synth_rules options) call.store_before performed.writes text
unfolding SucceedsAt
succeeds_at call one options text command performed =
    let answer = performed.answer in
    subst (SucceedsAt call performed.writes text) (one.one_command answer.asked (synth options) answer.command command) answer.success

delivered : (call : Call) (options : SynthOptions) (writes : List Write) (text : List ℕ) → IsSuccess (synth_rules options) call.store_before writes text → call.store_after.files ≡ put_all call.store_before.files writes → IsPrinted call text → IsPatchDelivered call options
delivered call options writes text success files printed =
    let (problem, passed, (rectifiable, is)) = success.passed in
    let solved = success.answers in
    record {
      problem = success.value;
      files = files_of options call.store_before.files success.value (subst ((problem_rows options).passes call.store_before.files) (sym is) passed);
      p = solved.p;
      spliced = solved.spliced;
      report = solved.report;
      patch = solved.patch;
      out = solved.out;
      patch_read = solved.patch_read;
      out_read = solved.out_read;
      apart = two_files options call.store_before.files problem passed;
      written = files ∙ ap (put_all call.store_before.files) solved.written;
      printed = subst (IsPrinted call) solved.text printed;
      meets = solved.meets;
      thrifty = solved.thrifty;
      bound = solved.bound;
    }

-- ---- status 1

-- it stops as the rules of this command say
halts_at : (call : Call) → IsExactlyOne call.words → (options : SynthOptions) (status : ℕ) (text : List ℕ) → IsGiven call.words (synth options) → IsStopped call status text → IsHalted (synth_rules options) call.store_before call.store_after status text
unfolding HaltsAt
halts_at call one options status text command stopped = halted_at call one (synth options) status text command stopped

-- no stop before the question whether a patch helps is an answer of no
early_stop : (options : SynthOptions) (told : Option Files) (why : SynthStop) → (problem_rows options).stands told why → is_no why ≡ false
early_stop options told why (inl (file, is, repeats)) = ap is_no is
early_stop options told why (inr (u, apart, inl (error, is, has))) = ap is_no is
early_stop options told why (inr (u, apart, inr (given, read, inl (error, is, has)))) = ap is_no is
early_stop options told why (inr (u, apart, inr (given, read, inr (problem, paired, many)))) = ap is_no many.told

one_is_no : (answers_no : Bool) (status : ℕ) → status ≡ 1 → status ≡ (if answers_no then 1 else 3) → answers_no ≡ true
one_is_no true status one e = refl
one_is_no false status one e = absurd (omega arith)

wrong_at : (call : Call) (options : SynthOptions) (text : List ℕ) (why : SynthStop) → (synth_rows options).stands call.store_before.files why → is_no why ≡ true → text ≡ stop_text options why → call.store_after.files ≡ call.store_before.files → IsPrinted call text → IsShownWrong call options
wrong_at call options text why (inl early) answers_no says files printed = absurd (false≢true (sym (early_stop options call.store_before.files why early) ∙ answers_no))
wrong_at call options text why (inr (problem, passed, (input, is, wrong))) answers_no says files printed = record {
  problem = problem;
  files = files_of options call.store_before.files problem passed;
  input = input;
  wrong = wrong;
  printed = subst (IsPrinted call) (says ∙ ap (stop_text options) is) printed;
  unchanged = files;
}

shown_wrong : (call : Call) (options : SynthOptions) (status : ℕ) (text : List ℕ) → status ≡ 1 → IsHalted (synth_rules options) call.store_before call.store_after status text → call.store_after.files ≡ call.store_before.files → IsPrinted call text → IsShownWrong call options
shown_wrong call options status text one (inl (why, is, says, stops)) files printed =
    wrong_at call options text why stops.stands (one_is_no (is_no why) status one is) says files printed
shown_wrong call options status text one (inr (path, five, says, stops)) files printed = absurd (omega arith)

-- ---- both

pub headline : (call : Call) → IsExactlyOne call.words → (status : ℕ) (kept : Option Stuck) → IsAnswered call status kept → IsSynthHeadline call status
headline call one status kept all = λ options command. record {
  solved = λ zero. elim (all.done zero).2 [
    | inl performed ↦
        delivered call options performed.writes (all.done zero).0 (succeeds_at call one options (all.done zero).0 command performed) performed.files
        (all.done zero).1
    | inr helped ↦ absurd (one.no_command_help (synth options) command helped.asked)
  ];
  unsolvable = λ is.
      let (text, printed, stopped) = all.refused (ap is_early_status is) in
      shown_wrong call options status text is (halts_at call one options status text command stopped) stopped.files printed;
}
