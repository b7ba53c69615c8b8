-- A text under the rule that allows no targets has none, and no specification has any.
use Rattle.std.proofs.Common.{ℕ, Bool, true, false, List, subst}
use Rattle.eco_meaning.specs.Circuit.{Circuit, IsTarget}
use Rattle.eco_netlist.specs.declared.draft.TargetRule.TheVariants.{Never}
use Rattle.eco_netlist.proofs.ClosedLemmas.{closed_made}
use Rattle.eco_query.specs.Problem.{IsClosed}
use Rattle.eco_vread.specs.Meaning.{declared_of}
use Rattle.eco_vread.specs.Texts.{IsNetlistText}
use Rattle.eco_inputs.specs.Kinds.{aiger_kind, is_aiger, kind_by, netlist_kind, specification_kind}
use Rattle.eco_inputs.proofs.AigerLaws.{closed_aiger}

pub closed_text : (bytes : List ℕ) (n : Circuit) → IsNetlistText Never bytes n → IsClosed n
closed_text bytes n t name target =
    closed_made (declared_of t.file) t.faultless name (subst (λ m. IsTarget m name) t.value target)

closed_by : (b : Bool) (bytes : List ℕ) (n : Circuit) → (kind_by b aiger_kind (netlist_kind Never)).gives bytes n → IsClosed n
closed_by true bytes n t = closed_aiger bytes n t
closed_by false bytes n t = closed_text bytes n t

pub closed_specification : (bytes : List ℕ) (n : Circuit) → specification_kind.gives bytes n → IsClosed n
closed_specification bytes n = closed_by (is_aiger bytes) bytes n
