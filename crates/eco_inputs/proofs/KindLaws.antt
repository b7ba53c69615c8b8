-- The bytes of a kind of file have one outcome: a value, or an error but for what is left open.
use Rattle.std.proofs.Common.{◌≡◌, inl, inr, ℕ, Bool, true, false, List, Ok, Err, ap, refl, subst}
use Rattle.std.proofs.lemmas.Bool.{false≢true}
use Rattle.eco_lists.proofs.Lines.{fault_once}
use Rattle.eco_lists.specs.Lines.{cut_at_feeds, lines_of}
use Rattle.eco_meaning.specs.Circuit.{Circuit}
use Rattle.eco_meaning.specs.Cost.{Weights}
use Rattle.eco_netlist.specs.declared.draft.TargetRule.{TargetRule}
use Rattle.eco_netlist.specs.declared.draft.TargetRule.TheVariants.{Never}
use Rattle.eco_netlist.specs.Refusals.{Refuses}
use Rattle.eco_prooftext.proofs.FileLaws.{steps_no_fault, steps_once}
use Rattle.eco_prooftext.proofs.OnceLaws.{lines_once}
use Rattle.eco_prooftext.specs.TraceFile.{IsSound as IsSoundStep}
use Rattle.eco_report.proofs.Answered.{line_there, ok_there}
use Rattle.eco_report.specs.declared.error.ReportError.{ReportError}
use Rattle.eco_report.specs.declared.error.ReportError.TheVariants.{Line as AtLine, OutOfMemory as NoMemory}
use Rattle.eco_vread.proofs.Exclusive.{netlist_unrefused}
use Rattle.eco_vread.proofs.Uniqueness.{one_file, one_netlist, netlist_is_text}
use Rattle.eco_vread.specs.Meaning.{declared_of}
use Rattle.eco_weight.proofs.FileLemmas.{tell_no_fault, tell_once, twice_once, weights_no_twice}
use Rattle.eco_weight.specs.Lines.{IsSound}
use Rattle.eco_inputs.specs.declared.kinds.NetlistError.{NetlistError}
use Rattle.eco_inputs.specs.declared.kinds.NetlistError.TheVariants.{Syntax, Refused, Aiger}
use Rattle.eco_inputs.specs.declared.kinds.WeightTextError.{WeightTextError}
use Rattle.eco_inputs.specs.declared.kinds.WeightTextError.TheVariants.{Line, Twice}
use Rattle.eco_inputs.specs.Kinds.{HasNetlistError, HasWeightTextError, aiger_kind, cnf_kind, is_aiger, kind_by, netlist_kind, report_kind, determined_line, determined_netlist, specification_kind, trace_kind, weight_kind}
use Rattle.eco_inputs.specs.Reading.{IsKind}
use Rattle.eco_inputs.proofs.OneRefusal.{one_refusal}
use Rattle.eco_inputs.proofs.AigerLaws.{aigers}

netlist_once : (rule : TargetRule) (bytes : List ℕ) (a b : NetlistError) → HasNetlistError rule bytes a → HasNetlistError rule bytes b → determined_netlist a ≡ determined_netlist b
netlist_once rule bytes (Aiger error) b x y = absurd x
netlist_once rule bytes (Syntax at) (Aiger error) x y = absurd y
netlist_once rule bytes (Refused why) (Aiger error) x y = absurd y
netlist_once rule bytes (Syntax at) (Syntax other) x y = refl
netlist_once rule bytes (Syntax at) (Refused why) x y = absurd (x y.0 y.1)
netlist_once rule bytes (Refused why) (Syntax at) x y = absurd (y x.0 x.1)
netlist_once rule bytes (Refused why) (Refused other) x y =
    ap Refused (one_refusal rule (declared_of x.0) why other x.2
    (subst (λ file. Refuses rule (declared_of file) other) (one_file bytes y.0 x.0 y.1 x.1) y.2))

netlist_apart : (rule : TargetRule) (bytes : List ℕ) (a : NetlistError) (n : Circuit) → HasNetlistError rule bytes a → (netlist_kind rule).gives bytes n → ⊥
netlist_apart rule bytes (Aiger error) n x y = x
netlist_apart rule bytes (Syntax at) n x y = netlist_is_text rule bytes n y x
netlist_apart rule bytes (Refused why) n x y = netlist_unrefused rule bytes n y x.0 why x.1 x.2

pub netlists : (rule : TargetRule) → IsKind determined_netlist (netlist_kind rule)
netlists rule = record { once = netlist_once rule; apart = netlist_apart rule; same = one_netlist rule }

-- a specification is of one of two kinds
once_by : (b : Bool) (bytes : List ℕ) (x y : NetlistError) → (kind_by b aiger_kind (netlist_kind Never)).lacks bytes x → (kind_by b aiger_kind (netlist_kind Never)).lacks bytes y → determined_netlist x ≡ determined_netlist y
once_by true bytes x y = aigers.once bytes x y
once_by false bytes x y = (netlists Never).once bytes x y

apart_by : (b : Bool) (bytes : List ℕ) (x : NetlistError) (n : Circuit) → (kind_by b aiger_kind (netlist_kind Never)).lacks bytes x → (kind_by b aiger_kind (netlist_kind Never)).gives bytes n → ⊥
apart_by true bytes x n = aigers.apart bytes x n
apart_by false bytes x n = (netlists Never).apart bytes x n

same_by : (b : Bool) (bytes : List ℕ) (n m : Circuit) → (kind_by b aiger_kind (netlist_kind Never)).gives bytes n → (kind_by b aiger_kind (netlist_kind Never)).gives bytes m → n ≡ m
same_by true bytes n m = aigers.same bytes n m
same_by false bytes n m = (netlists Never).same bytes n m

pub specifications : IsKind determined_netlist specification_kind
specifications = record {
  once = λ bytes. once_by (is_aiger bytes) bytes;
  apart = λ bytes. apart_by (is_aiger bytes) bytes;
  same = λ bytes. same_by (is_aiger bytes) bytes;
}

weight_once : (bytes : List ℕ) (a b : WeightTextError) → HasWeightTextError bytes a → HasWeightTextError bytes b → a ≡ b
weight_once bytes (Line n) (Line m) x y = ap Line (fault_once IsSound (lines_of bytes) n m x y)
weight_once bytes (Line n) (Twice name) x y = absurd (tell_no_fault (lines_of bytes) y.pairs n y.told x)
weight_once bytes (Twice name) (Line m) x y = absurd (tell_no_fault (lines_of bytes) x.pairs m x.told y)
weight_once bytes (Twice name) (Twice other) x y = ap Twice (twice_once bytes name other x y)

weight_apart : (bytes : List ℕ) (a : WeightTextError) (w : Weights) → HasWeightTextError bytes a → weight_kind.gives bytes w → ⊥
weight_apart bytes (Line n) w x y = tell_no_fault (lines_of bytes) w n y.told x
weight_apart bytes (Twice name) w x y = weights_no_twice bytes w name y x

pub weights : IsKind (λ own. own) weight_kind
weights = record {
  once = weight_once;
  apart = weight_apart;
  same = λ bytes v w x y. tell_once (lines_of bytes) v w x.told y.told;
}

pub clauses : IsKind determined_line cnf_kind
clauses = record {
  once = λ bytes n m x y. refl;
  apart = λ bytes n c none text. none c text;
  same = λ bytes. lines_once (cut_at_feeds bytes);
}

pub steps : IsKind (λ own. own) trace_kind
steps = record {
  once = λ bytes n m x y. fault_once IsSoundStep (lines_of bytes) n m x y;
  apart = λ bytes n list error text. steps_no_fault (lines_of bytes) list n text error;
  same = λ bytes. steps_once (lines_of bytes);
}

line_of : ReportError → ℕ
line_of (AtLine n) = n
line_of NoMemory = 0

is_want : ReportError → Bool
is_want (AtLine n) = false
is_want NoMemory = true

-- a line isn't want of memory
no_want : (n : ℕ) → ◌≡◌ {A = ReportError} (AtLine n) NoMemory → ⊥
unfolding is_want
no_want n e = false≢true (ap is_want e)

report_once : (bytes : List ℕ) (n m : ℕ) → report_kind.lacks bytes n → report_kind.lacks bytes m → n ≡ m
unfolding line_of
report_once bytes n m x y =
    elim (line_there bytes (Err (AtLine n)) tt x m y) [
      | inl same ↦ ap line_of same
      | inr want ↦ absurd (no_want n want)
    ]

pub reports : IsKind (λ own. own) report_kind
reports = record {
  once = report_once;
  apart = λ bytes n file x y. no_want n (ok_there bytes (Err (AtLine n)) tt x file y);
  same = λ bytes v w x y. ok_there bytes (Ok v) x tt w y;
}
