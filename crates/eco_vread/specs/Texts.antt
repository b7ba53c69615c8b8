-- The netlist of a text.
use Rattle.std.specs.Prelude.{◌≡◌, ℕ, List}
use Rattle.eco_meaning.specs.Circuit.{Circuit}
use Rattle.eco_netlist.specs.declared.draft.TargetRule.{TargetRule}
use Rattle.eco_netlist.specs.Draft.{made}
use Rattle.eco_netlist.specs.Refusals.{IsWellFormed}
use Rattle.eco_vread.specs.Syntax.{File}
use Rattle.eco_vread.specs.Grammar.{IsText}
use Rattle.eco_vread.specs.Meaning.{declared_of}

-- the bytes are a text of this netlist under this rule: a file whose declarations have no error and stand for it
pub record IsNetlistText (rule : TargetRule) (bytes : List ℕ) (n : Circuit) : Type 0 where
  pub file : File
  pub text : IsText bytes file
  pub faultless : IsWellFormed rule (declared_of file)
  pub value : n ≡ made rule (declared_of file)

-- the bytes are a text of no file
abbrev pub IsNoText : List ℕ → Type 0
IsNoText bytes = (file : File) → IsText bytes file → ⊥
