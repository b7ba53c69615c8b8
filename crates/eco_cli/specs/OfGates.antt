-- The headline for files in gates alone: what `synth` promises of them, from the bytes that are read to the bytes that are
-- written.
use Rattle.std.specs.Prelude.{◌≡◌, ◌≢◌, ℕ, Bool, List, [], ◌++◌, Option, Some, None}
use Rattle.eco_meaning.specs.Circuit.{Circuit}
use Rattle.eco_meaning.specs.Meaning.{IsWrong}
use Rattle.eco_meaning.specs.Report.{PatchReport, IsPatched, IsReported, AreNeeded}
use Rattle.eco_netlist.specs.declared.draft.TargetRule.{TargetRule}
use Rattle.eco_netlist.specs.declared.draft.TargetRule.TheVariants.{Allowed, Never}
use Rattle.eco_outside.specs.Store.{Files, WhereKnown, content, put_file}
use Rattle.eco_plain.specs.Plain.{IsGatesText}
use Rattle.eco_query.specs.Problem.{ProblemValue}
use Rattle.eco_report.specs.Texts.{text_of, unrectifiable_text}
use Rattle.eco_weight.specs.Files.{AreWeights}
use Rattle.eco_words.specs.CommandLine.{ProblemOptions, SynthOptions, IsSynth}
use Rattle.eco_cli.specs.Calls.{Call, IsPrinted}
use Rattle.eco_cli.specs.Headline.{Says}

-- the bytes that were read of this file, which are the file's if the store tells its files: if they are a text in gates alone,
-- it is one of this netlist
pub record IsTakenFor (told : Option Files) (path : List ℕ) (rule : TargetRule) (n : Circuit) : Type 0 where
  pub bytes : List ℕ
  pub of_file : WhereKnown told (λ files. bytes ≡ content files path)
  pub meant : (other : Circuit) → IsGatesText rule bytes other → other ≡ n

-- the cared netlist, if a file of one is named
abbrev pub IsCareTaken : Option Files → Option (List ℕ) → Option Circuit → Type 0
IsCareTaken told None care = care ≡ None
IsCareTaken told (Some path) care = (c : Circuit) × (care ≡ Some c) × IsTakenFor told path Never c

-- the files that the options name are taken for this problem
pub record AreTakenFor (options : ProblemOptions) (told : Option Files) (problem : ProblemValue) : Type 0 where
  pub implementation : IsTakenFor told options.implementation Allowed problem.implementation
  pub specification : IsTakenFor told options.specification Never problem.goal.spec
  pub weights : Says told options.weight AreWeights problem.weights
  pub care : IsCareTaken told options.care problem.goal.care
  pub input_weight : problem.input_weight ≡ options.input_weight

-- The patch and the patched netlist that are read from the bytes written, which are two files, and the report with which the
-- printed text begins, solve the problem: the patched netlist is the implementation with the patch in it, without a loop, and has
-- the specification's outputs; the patch reads the reported signals, which cost what is reported; and each is needed. No other
-- file is changed.
pub record IsPatchOfGates (call : Call) (options : SynthOptions) : Type 0 where
  pub problem : ProblemValue
  pub files : AreTakenFor options.problem call.store_before.files problem
  pub p : Circuit
  pub spliced : Circuit
  pub report : PatchReport
  pub patch : List ℕ
  pub out : List ℕ
  pub patch_read : IsGatesText Never patch p
  pub out_read : IsGatesText Never out spliced
  pub apart : options.patch ≢ options.out
  pub written : call.store_after.files ≡ put_file (put_file call.store_before.files options.patch patch) options.out out
  pub more : List ℕ
  pub printed : IsPrinted call (text_of (record report { bound = None; least = [] }) ++ more)
  pub patched : IsPatched problem.implementation problem.goal p spliced
  pub reported : IsReported problem.implementation problem.weights problem.input_weight p report
  pub needed : AreNeeded problem.implementation problem.goal p report

-- at the printed input no values of the targets are right; no file is changed
pub record IsWrongOfGates (call : Call) (options : SynthOptions) : Type 0 where
  pub problem : ProblemValue
  pub files : AreTakenFor options.problem call.store_before.files problem
  pub input : List Bool
  pub wrong : IsWrong problem.implementation problem.goal input
  pub printed : IsPrinted call (unrectifiable_text input)
  pub unchanged : call.store_after.files ≡ call.store_before.files

-- what the command `synth` ends with: at status 0 a patch, at status 1 an input that no patch can mend
pub record IsEndOfGates (call : Call) (status : ℕ) (options : SynthOptions) : Type 0 where
  pub solved : status ≡ 0 → IsPatchOfGates call options
  pub unsolvable : status ≡ 1 → IsWrongOfGates call options

-- so it is of a call whose words are that command
abbrev pub IsSynthOfGates : Call → ℕ → Type 0
IsSynthOfGates call status = (options : SynthOptions) → IsSynth call.words options → IsEndOfGates call status options
