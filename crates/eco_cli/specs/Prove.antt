-- The command `prove`: its rows, from the words to the question whether two netlists differ, why it stops, and what it
-- means that it succeeds.
use Rattle.std.specs.Prelude.{◌≡◌, ℕ, ◌≤◌, Bool, true, false, List, [], ◌∷◌, ◌++◌, length, map, codes, decimal, Option, Some, None}
use Rattle.eco_meaning.specs.Circuit.{Circuit}
use Rattle.eco_meaning.specs.Meaning.{everywhere, IsEquivalent, IsRectifiable, IsWrong}
use Rattle.eco_check.specs.Steps.{StepValue}
use Rattle.eco_equality.specs.Equality.{HaveSamePorts, equality_of}
use Rattle.eco_netlist.specs.declared.draft.TargetRule.TheVariants.{Never}
use Rattle.eco_netlist.specs.Refusals.{IsFirst, NeverComes}
use Rattle.eco_outside.specs.Store.{Files}
use Rattle.eco_prooftext.specs.CnfFile.{IsCnfText}
use Rattle.eco_prooftext.specs.Texts.{cnf_text, trace_text}
use Rattle.eco_prooftext.specs.TraceFile.{IsTraceText}
use Rattle.eco_pose.specs.Equality.{IsComparisonStuck}
use Rattle.eco_query.specs.Ports.{is_unlike}
use Rattle.eco_query.specs.Problem.{IsClosed}
use Rattle.eco_report.specs.Texts.{bit_digit}
use Rattle.eco_trace.specs.Clauses.{AreFormed, Clauses}
use Rattle.eco_trace.specs.Resolution.{IsLegal, Proof, clauses_of}
use Rattle.eco_words.specs.CommandLine.{ProveOptions}
use Rattle.eco_inputs.specs.declared.TheConstants.{MOST_BYTES, MOST_PROOF_BYTES}
use Rattle.eco_cli.specs.declared.answer.Answer.{Answer}
use Rattle.eco_inputs.specs.declared.halt.FileError.{FileError}
use Rattle.eco_inputs.specs.declared.halt.Halt.{Halt}
use Rattle.eco_inputs.specs.declared.halt.Halt.TheVariants as halt
use Rattle.eco_inputs.specs.declared.kinds.NetlistError.{NetlistError}
use Rattle.eco_cli.specs.declared.prove.ProveFile.{ProveFile}
use Rattle.eco_cli.specs.declared.prove.ProveFile.TheVariants.{Left, Right, Cnf, Trace}
use Rattle.eco_cli.specs.declared.prove.ProveStop.{ProveStop}
use Rattle.eco_cli.specs.declared.prove.ProveStop.TheVariants.{SamePath, InNetlist, PortsDiffer, Differs}
use Rattle.eco_cli.specs.declared.prove.Sides.{Sides}
use Rattle.eco_cli.specs.Answers.{Write, code_of, writes_of}
use Rattle.eco_inputs.specs.Kinds.{netlist_kind, determined_netlist}
use Rattle.eco_inputs.specs.Paths.{FilesBy, paths_row}
use Rattle.eco_inputs.specs.Reading.{Oversize, file_row, oversize_of, determined_file}
use Rattle.eco_cli.specs.Recheck.{AreProof}
use Rattle.eco_inputs.specs.Rows.{Row, named_row, test_row, then_row}
use Rattle.eco_cli.specs.Rules.{Rules}
use Rattle.eco_cli.specs.Printing.{budget_text}
use Rattle.eco_inputs.specs.Texts.{netlist_text}

-- ---- its files, by the options that name them

-- the option's name
abbrev pub file_name : ProveFile → List ℕ
file_name Left = codes "left"
file_name Right = codes "right"
file_name Cnf = codes "cnf"
file_name Trace = codes "trace"

-- the path that the command gives for it
abbrev pub file_path : ProveOptions → ProveFile → List ℕ
file_path options Left = options.left
file_path options Right = options.right
file_path options Cnf = options.cnf
file_path options Trace = options.trace

-- the files
abbrev pub prove_files_of : ProveOptions → FilesBy ProveFile
prove_files_of options =
    (Left, Some options.left) ∷ (Right, Some options.right) ∷ (Cnf, Some options.cnf) ∷ (Trace, Some options.trace) ∷ []

-- ---- the single rows

-- the file of one netlist has an error; or it gives the netlist, which has no targets
abbrev pub side_row : ProveOptions → ProveFile → Row (Option Files) (FileError NetlistError) Circuit
side_row options file = file_row (netlist_kind Never) (file_path options file) MOST_BYTES

-- the two netlists
abbrev pub sides : Circuit → Circuit → Sides
sides left right = record { left = left; right = right }

-- this name is the smallest that is a port of one netlist alone, or an input of one and an output of the other; or there is
-- none
abbrev pub ports_row : Circuit → Circuit → Row (Option Files) (List ℕ) Sides
ports_row left right =
    test_row (IsFirst (is_unlike left right)) (NeverComes (is_unlike left right)) (sides left right)

-- the netlists differ at some input; or they differ at none
abbrev pub differs_row : Sides → Row (Option Files) (List Bool) Sides
differs_row pair = test_row (IsWrong pair.left (everywhere pair.right)) (IsRectifiable pair.left (everywhere pair.right)) pair

-- ---- the rows in order, the last ones first

abbrev pub ProveRows : Type 1
ProveRows = Row (Option Files) ProveStop Sides

abbrev pub from_left : ProveOptions → Circuit → ProveRows
from_left options left =
    then_row (named_row (InNetlist Right) (side_row options Right)) (λ right. named_row PortsDiffer (ports_row left right))

abbrev pub from_netlists : ProveOptions → ProveRows
from_netlists options = then_row (named_row (InNetlist Left) (side_row options Left)) (from_left options)

-- the rows that come to two netlists with the same ports
abbrev pub sides_rows : ProveOptions → ProveRows
sides_rows options = then_row (named_row SamePath (paths_row (prove_files_of options))) (λ _. from_netlists options)

-- all rows of the command
abbrev pub prove_rows : ProveOptions → ProveRows
prove_rows options = then_row (sides_rows options) (λ pair. named_row Differs (differs_row pair))

-- ---- why it stops

-- what is printed of a stop
abbrev pub prove_text : ProveOptions → ProveStop → List ℕ
prove_text options (SamePath file) = codes "refused samepath " ++ file_path options file ++ codes "\n"
prove_text options (InNetlist file error) = codes "refused " ++ file_name file ++ codes " " ++ netlist_text error ++ codes "\n"
prove_text options (PortsDiffer name) = codes "refused ports " ++ name ++ codes "\n"
prove_text options (Differs input) = codes "differs " ++ map bit_digit input ++ codes "\n"

-- the stop is an answer of no: the netlists differ
abbrev pub is_difference : ProveStop → Bool
is_difference (SamePath file) = false
is_difference (InNetlist file error) = false
is_difference (PortsDiffer name) = false
is_difference (Differs input) = true

-- the file, where the stop is that it is too long
abbrev pub long_side : ProveOptions → ProveStop → Option Oversize
long_side options (SamePath file) = None
long_side options (InNetlist file error) = oversize_of (file_path options file) MOST_BYTES error
long_side options (PortsDiffer name) = None
long_side options (Differs input) = None

-- the stop with what is left open taken out: which loop is shown, which place of an error of the grammar, which input
abbrev pub determined_prove : ProveStop → ProveStop
determined_prove (SamePath file) = SamePath file
determined_prove (InNetlist file error) = InNetlist file (determined_file determined_netlist error)
determined_prove (PortsDiffer name) = PortsDiffer name
determined_prove (Differs input) = Differs []

-- ---- its success

-- The two netlists have equal outputs on every input. The file of clauses has the text of their equality clauses, and is read
-- as these; the file of the trace has the text of a proof, and is read as its steps. Neither is too long for `recheck`, and the
-- steps prove that the clauses have no model, as it asks of them; there are no more of them than the budget allows. The text tells
-- how many there are.
pub record IsProof (options : ProveOptions) (pair : Sides) (writes : List Write) (printed : List ℕ) : Type 0 where
  pub equal : IsEquivalent pair.left (everywhere pair.right)
  pub clauses : List ℕ
  pub trace : List ℕ
  pub written : writes ≡ record { path = options.cnf; bytes = clauses } ∷ record { path = options.trace; bytes = trace } ∷ []
  pub clauses_text : clauses ≡ cnf_text (equality_of pair.left pair.right)
  pub clauses_read : IsCnfText clauses (equality_of pair.left pair.right)
  pub proof : Proof
  pub steps : List StepValue
  pub trace_text : trace ≡ trace_text proof
  pub trace_read : IsTraceText trace steps
  pub clauses_short : length clauses ≤ MOST_PROOF_BYTES
  pub trace_short : length trace ≤ MOST_PROOF_BYTES
  pub proves : AreProof (equality_of pair.left pair.right) steps
  pub within : length steps ≤ options.budget
  pub text : printed ≡ codes "equal " ++ decimal (length steps) ++ codes "\n"

-- the command, at these options
abbrev pub prove_rules : ProveOptions → Rules
prove_rules options = record {
  Stop = ProveStop;
  Value = Sides;
  rows = prove_rows options;
  Matter = Sides;
  asking = sides_rows options;
  gives_up = λ pair stuck text. IsComparisonStuck pair.left pair.right options.budget stuck × (text ≡ budget_text options.budget stuck);
  too_long = long_side options;
  is_no = is_difference;
  says = prove_text options;
  determine = determined_prove;
  answers = IsProof options;
}

-- ---- between its stages

-- no target is in either, and they have the same ports
pub record AreComparable (pair : Sides) : Type 0 where
  pub left_closed : IsClosed pair.left
  pub right_closed : IsClosed pair.right
  pub ports : HaveSamePorts pair.left pair.right

-- the halt says that the ports differ at this name; or that memory could not be had
abbrev pub IsPortHalt : List ℕ → Halt ProveStop → Type 0
IsPortHalt name (halt.For stop) = stop ≡ PortsDiffer name
IsPortHalt name (halt.Unread path) = ⊥
IsPortHalt name halt.OutOfMemory = Unit {0}

-- the files are these two netlists
abbrev pub AreSides : Sides → Sides → Type 0
AreSides made value = made ≡ value

-- clauses and a proof as their types keep them
pub record AreKept (clauses : Clauses) (proof : Proof) : Type 0 where
  pub formed : AreFormed clauses
  pub count : length clauses.clauses ≤ 9223372036854775807
  pub legal : IsLegal proof
  pub few : length (clauses_of proof) ≤ 9223372036854775807

-- the answer writes the text of the clauses and that of the proof, neither of them too long to be read again, to the files of
-- the options, and prints how many steps the proof has
abbrev pub IsProofAnswer : ProveOptions → Clauses → Proof → Answer → Type 0
IsProofAnswer options clauses proof answer =
    (code_of answer.status ≡ 0)
    × (writes_of answer ≡ record { path = options.cnf; bytes = cnf_text clauses } ∷ record { path = options.trace; bytes = trace_text proof } ∷ [])
    × (answer.text.items ≡ codes "equal " ++ decimal (length proof.learnt) ++ codes "\n")
    × (length (cnf_text clauses) ≤ MOST_PROOF_BYTES) × (length (trace_text proof) ≤ MOST_PROOF_BYTES)
