-- A text of a netlist is not refused.
use Rattle.std.proofs.Common.{ℕ, List, subst}
use Rattle.eco_netlist.proofs.Refused.{never_refused}
use Rattle.eco_meaning.specs.Circuit.{Circuit}
use Rattle.eco_netlist.specs.declared.draft.TargetRule.{TargetRule}
use Rattle.eco_netlist.specs.declared.refusal.Refusal.{Refusal}
use Rattle.eco_netlist.specs.Refusals.{Refuses}
use Rattle.eco_vread.specs.Syntax.{File}
use Rattle.eco_vread.specs.Grammar.{IsText}
use Rattle.eco_vread.specs.Meaning.{declared_of}
use Rattle.eco_vread.specs.Texts.{IsNetlistText}
use Rattle.eco_vread.proofs.Uniqueness.{one_file}

-- a text that spells a netlist is refused for nothing
pub netlist_unrefused : (rule : TargetRule) (bytes : List ℕ) (n : Circuit) → IsNetlistText rule bytes n → (file : File) (refusal : Refusal) → IsText bytes file → Refuses rule (declared_of file) refusal → ⊥
netlist_unrefused rule bytes n text file refusal other refused =
    never_refused rule (declared_of text.file) text.faultless refusal (subst (λ f. Refuses rule (declared_of f) refusal) (one_file bytes file text.file other text.text) refused)
