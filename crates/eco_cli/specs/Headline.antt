-- The headline: what `synth` promises, from the bytes that are read to the bytes that are written. It stands on what is meant
-- by netlists, patches and costs, on the grammars of the files and on the text of a report, and on nothing else of a command.
use Rattle.std.specs.Prelude.{◌≡◌, ◌≢◌, ◌⊎◌, ℕ, Bool, true, false, List, Option, Some, None}
use Rattle.eco_aiger.specs.Texts.{IsAigerText}
use Rattle.eco_meaning.specs.Circuit.{Circuit}
use Rattle.eco_meaning.specs.Meaning.{IsWrong}
use Rattle.eco_meaning.specs.Report.{PatchReport, Meets}
use Rattle.eco_netlist.specs.declared.draft.TargetRule.TheVariants.{Allowed, Never}
use Rattle.eco_outside.specs.Store.{Files, WhereKnown, content, put_file}
use Rattle.eco_plain.specs.Plain.{IsGatesText}
use Rattle.eco_query.specs.Problem.{ProblemValue}
use Rattle.eco_report.specs.Texts.{text_of, unrectifiable_text}
use Rattle.eco_vread.specs.Texts.{IsNetlistText}
use Rattle.eco_weight.specs.Files.{AreWeights}
use Rattle.eco_words.specs.CommandLine.{ProblemOptions, SynthOptions, IsSynth}
use Rattle.eco_cli.specs.Calls.{Call, IsPrinted}
use Rattle.eco_inputs.specs.Kinds.{is_aiger}
use Rattle.eco_cli.specs.Synth.{HasBoundAsked, IsThrifty}

-- the bytes that were read of this file, which are the file's where the store tells its files, say this
pub record Says {Said : Type 0} (told : Option Files) (path : List ℕ) (means : List ℕ → Said → Type 0) (said : Said) : Type 0 where
  pub bytes : List ℕ
  pub of_file : WhereKnown told (λ files. bytes ≡ content files path)
  pub meant : means bytes said

-- a specification: a text in ASCII AIGER where it begins like one, else one in Verilog without targets
abbrev pub IsSpecificationText : List ℕ → Circuit → Type 0
IsSpecificationText bytes g =
    ((is_aiger bytes ≡ true) × IsAigerText bytes g) ⊎ ((is_aiger bytes ≡ false) × IsNetlistText Never bytes g)

-- the cared netlist, where a file of one is named
abbrev pub IsCareRead : Option Files → Option (List ℕ) → Option Circuit → Type 0
IsCareRead told None care = care ≡ None
IsCareRead told (Some path) care = (c : Circuit) × (care ≡ Some c) × Says told path (IsNetlistText Never) c

-- the files that the options name are this problem
pub record AreFilesOf (options : ProblemOptions) (told : Option Files) (problem : ProblemValue) : Type 0 where
  pub implementation : Says told options.implementation (IsNetlistText Allowed) problem.implementation
  pub specification : Says told options.specification IsSpecificationText problem.goal.spec
  pub weights : Says told options.weight AreWeights problem.weights
  pub care : IsCareRead told options.care problem.goal.care
  pub input_weight : problem.input_weight ≡ options.input_weight

-- The files are a problem. The patch and the patched netlist that are read from the bytes written, which are two files in gates
-- alone, and the report that is printed, solve it: the patched netlist is the implementation with the patch in it and has the
-- specification's outputs, the patch reads the reported signals, which cost what is reported, and each is needed. They are the
-- greedy choice; where an effort for bases of least cost is asked for, it is reported of each target what it costs at least. A
-- bound is reported where it is asked for. No other file is changed.
pub record IsPatchDelivered (call : Call) (options : SynthOptions) : Type 0 where
  pub problem : ProblemValue
  pub files : AreFilesOf options.problem call.store_before.files problem
  pub p : Circuit
  pub spliced : Circuit
  pub report : PatchReport
  pub patch : List ℕ
  pub out : List ℕ
  pub patch_read : IsGatesText Never patch p
  pub out_read : IsGatesText Never out spliced
  pub apart : options.patch ≢ options.out
  pub written : call.store_after.files ≡ put_file (put_file call.store_before.files options.patch patch) options.out out
  pub printed : IsPrinted call (text_of report)
  pub meets : Meets problem.implementation problem.goal problem.weights problem.input_weight p spliced report
  pub thrifty : IsThrifty options problem p report
  pub bound : HasBoundAsked options problem p report.bound

-- the files are a problem, and at the printed input no values of the targets are right; no file is changed
pub record IsShownWrong (call : Call) (options : SynthOptions) : Type 0 where
  pub problem : ProblemValue
  pub files : AreFilesOf options.problem call.store_before.files problem
  pub input : List Bool
  pub wrong : IsWrong problem.implementation problem.goal input
  pub printed : IsPrinted call (unrectifiable_text input)
  pub unchanged : call.store_after.files ≡ call.store_before.files

-- what the command `synth` ends with: at status 0 a patch, at status 1 an input that no patch can mend
pub record IsHeadline (call : Call) (status : ℕ) (options : SynthOptions) : Type 0 where
  pub solved : status ≡ 0 → IsPatchDelivered call options
  pub unsolvable : status ≡ 1 → IsShownWrong call options

-- so it is of a call whose words are that command
abbrev pub IsSynthHeadline : Call → ℕ → Type 0
IsSynthHeadline call status = (options : SynthOptions) → IsSynth call.words options → IsHeadline call status options
