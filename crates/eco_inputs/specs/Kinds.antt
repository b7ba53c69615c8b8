-- The kinds of files that a command reads: netlists, weights, clauses, proofs and reports.
use Rattle.std.specs.Prelude.{ℕ, Bool, true, false, nat_eq, codes, List, []}
use Rattle.std.specs.List.{starts_with}
use Rattle.eco_lists.specs.Lines.{lines_of}
use Rattle.eco_meaning.specs.Circuit.{Circuit}
use Rattle.eco_meaning.specs.Cost.{Weights}
use Rattle.eco_aiger.specs.declared.error.AigerError.{AigerError}
use Rattle.eco_aiger.specs.declared.error.AigerError.TheVariants as aiger
use Rattle.eco_aiger.specs.Texts.{IsAigerText}
use Rattle.eco_aiger.specs.Texts.{IsRefused as IsAigerRefused}
use Rattle.eco_netlist.specs.declared.draft.TargetRule.{TargetRule}
use Rattle.eco_netlist.specs.declared.draft.TargetRule.TheVariants.{Never}
use Rattle.eco_netlist.specs.declared.refusal.Refusal.{Refusal}
use Rattle.eco_netlist.specs.declared.refusal.Refusal.TheVariants as refusal
use Rattle.eco_netlist.specs.Refusals.{Refuses}
use Rattle.eco_vread.specs.Syntax.{File}
use Rattle.eco_vread.specs.Grammar.{IsText}
use Rattle.eco_vread.specs.Meaning.{declared_of}
use Rattle.eco_vread.specs.Texts.{IsNetlistText, IsNoText}
use Rattle.eco_weight.specs.Files.{AreWeights, IsFirstBadLine, IsTwice}
use Rattle.eco_inputs.specs.declared.kinds.NetlistError.{NetlistError}
use Rattle.eco_inputs.specs.declared.kinds.NetlistError.TheVariants.{Syntax, Refused, Aiger}
use Rattle.eco_inputs.specs.declared.kinds.AigerTextError.{AigerTextError}
use Rattle.eco_inputs.specs.declared.kinds.AigerTextError.TheVariants.{Line, DefinedTwice, Undefined}
use Rattle.eco_inputs.specs.declared.reading.Lack.{Lack}
use Rattle.eco_inputs.specs.declared.kinds.WeightTextError.{WeightTextError}
use Rattle.eco_inputs.specs.declared.kinds.WeightTextError.TheVariants as weight
use Rattle.eco_check.specs.Steps.{StepValue}
use Rattle.eco_prooftext.specs.CnfFile.{IsCnfText}
use Rattle.eco_prooftext.specs.TraceFile.{IsTraceText}
use Rattle.eco_prooftext.specs.TraceFile.{IsFirstBadLine as IsFirstBadLineOfTrace}
use Rattle.eco_report.specs.Files.{IsReportText}
use Rattle.eco_report.specs.Files.{IsFirstBadLine as IsFirstBadLineOfReport}
use Rattle.eco_report.specs.declared.file.ReportFile.{ReportFile}
use Rattle.eco_trace.specs.Clauses.{Clauses}
use Rattle.eco_inputs.specs.Reading.{Kind, IsLack}

-- the bytes are a text of no file; or of a file whose declarations are refused for this
abbrev pub HasNetlistError : TargetRule → List ℕ → NetlistError → Type 0
HasNetlistError rule bytes (Syntax at) = IsNoText bytes
HasNetlistError rule bytes (Refused why) = (file : File) × IsText bytes file × Refuses rule (declared_of file) why
HasNetlistError rule bytes (Aiger error) = ⊥

-- a netlist, whose targets are allowed or not
abbrev pub netlist_kind : TargetRule → Kind NetlistError Circuit
netlist_kind rule = record { gives = IsNetlistText rule; lacks = HasNetlistError rule }

-- the bytes begin as a text in ASCII AIGER does
abbrev pub is_aiger : List ℕ → Bool
is_aiger bytes = starts_with nat_eq bytes (codes "aag ")

-- why they are no such text of a netlist
abbrev pub aiger_error : AigerTextError → AigerError
aiger_error (Line number) = aiger.Line number
aiger_error (DefinedTwice variable) = aiger.DefinedTwice variable
aiger_error (Undefined variable) = aiger.Undefined variable

abbrev pub HasAigerTextError : List ℕ → NetlistError → Type 0
HasAigerTextError bytes (Syntax at) = ⊥
HasAigerTextError bytes (Refused why) = IsAigerRefused bytes (aiger.Refused why)
HasAigerTextError bytes (Aiger error) = IsAigerRefused bytes (aiger_error error)

abbrev pub aiger_kind : Kind NetlistError Circuit
aiger_kind = record { gives = IsAigerText; lacks = HasAigerTextError }

-- the same of what is read of them
abbrev pub IsAigerLack : List ℕ → Lack NetlistError → Type 0
IsAigerLack = IsLack aiger_kind

-- of two kinds the first or the second
abbrev pub kind_by : {Error Value : Type 0} → Bool → Kind Error Value → Kind Error Value → Kind Error Value
kind_by true first second = first
kind_by false first second = second

-- a specification: a netlist in AIGER where the bytes begin so, else one in Verilog without targets
abbrev pub specification_kind : Kind NetlistError Circuit
specification_kind = record {
  gives = λ bytes. (kind_by (is_aiger bytes) aiger_kind (netlist_kind Never)).gives bytes;
  lacks = λ bytes. (kind_by (is_aiger bytes) aiger_kind (netlist_kind Never)).lacks bytes;
}

-- the line of this number is the first at fault; or no line is, and this is the smallest name that stands on two
abbrev pub HasWeightTextError : List ℕ → WeightTextError → Type 0
HasWeightTextError bytes (weight.Line number) = IsFirstBadLine (lines_of bytes) number
HasWeightTextError bytes (weight.Twice name) = IsTwice bytes name

-- what signals weigh
abbrev pub weight_kind : Kind WeightTextError Weights
weight_kind = record { gives = AreWeights; lacks = HasWeightTextError }

-- the bytes are the text of no clauses
abbrev pub IsNoCnfText : List ℕ → Type 0
IsNoCnfText bytes = (clauses : Clauses) → IsCnfText bytes clauses → ⊥

-- clauses; which line is told where there are none is left open
abbrev pub cnf_kind : Kind ℕ Clauses
cnf_kind = record { gives = IsCnfText; lacks = λ bytes line. IsNoCnfText bytes }

-- the steps of a proof; where there are none, the line of this number is the first that is neither blank nor a step's
abbrev pub trace_kind : Kind ℕ (List StepValue)
trace_kind = record { gives = IsTraceText; lacks = λ bytes line. IsFirstBadLineOfTrace (lines_of bytes) line }

-- a report; where there is none, the line of this number is the first that can't stand there, or is missing
abbrev pub report_kind : Kind ℕ ReportFile
report_kind = record { gives = IsReportText; lacks = IsFirstBadLineOfReport }

-- ---- what is left open: which line of clauses or of AIGER is at fault, which loop is shown, and which place of an error
-- of the grammar

abbrev pub determined_line : ℕ → ℕ
determined_line line = 0

abbrev pub determined_refusal : Refusal → Refusal
determined_refusal (refusal.DeclaredTwice name) = refusal.DeclaredTwice name
determined_refusal (refusal.PortUndeclared name) = refusal.PortUndeclared name
determined_refusal (refusal.NotAPort name) = refusal.NotAPort name
determined_refusal (refusal.InputDriven name) = refusal.InputDriven name
determined_refusal (refusal.DrivenTwice name) = refusal.DrivenTwice name
determined_refusal (refusal.Undriven name) = refusal.Undriven name
determined_refusal (refusal.Loop loop) = refusal.Loop []

abbrev pub determined_aiger : AigerTextError → AigerTextError
determined_aiger (Line number) = Line 0
determined_aiger (DefinedTwice variable) = DefinedTwice variable
determined_aiger (Undefined variable) = Undefined variable

abbrev pub determined_netlist : NetlistError → NetlistError
determined_netlist (Syntax at) = Syntax 0
determined_netlist (Refused why) = Refused (determined_refusal why)
determined_netlist (Aiger error) = Aiger (determined_aiger error)
