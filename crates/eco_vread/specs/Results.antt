-- What the answers of the reader say.
use Rattle.std.specs.Prelude.{◌≡◌, ℕ, List, Bool, true, false}
use Rattle.eco_meaning.specs.Circuit.{Circuit}
use Rattle.eco_netlist.specs.declared.draft.TargetRule.{TargetRule}
use Rattle.eco_netlist.specs.Draft.{made}
use Rattle.eco_netlist.specs.Refusals.{IsWellFormed, Refuses}
use Rattle.eco_vread.specs.declared.error.ReadError.{ReadError}
use Rattle.eco_vread.specs.declared.error.ReadError.TheVariants.{Syntax, Refused, OutOfMemory}
use Rattle.eco_vread.specs.Syntax.{File}
use Rattle.eco_vread.specs.Grammar.{IsText}
use Rattle.eco_vread.specs.Meaning.{declared_of}
use Rattle.eco_vread.specs.Texts.{IsNoText}

-- an error of the grammar
abbrev pub is_syntax : ReadError → Bool
is_syntax (Syntax at) = true
is_syntax (Refused refusal) = false
is_syntax OutOfMemory = false

-- no refusal of what is declared
abbrev pub IsNoRefusal : ReadError → Type 0
IsNoRefusal (Syntax at) = Unit {0}
IsNoRefusal (Refused refusal) = ⊥
IsNoRefusal OutOfMemory = Unit {0}

-- at an error of the grammar, the bytes are a text of no file
abbrev pub SyntaxMeans : List ℕ → ReadError → Type 0
SyntaxMeans bytes (Syntax at) = IsNoText bytes
SyntaxMeans bytes (Refused refusal) = Unit {0}
SyntaxMeans bytes OutOfMemory = Unit {0}

-- at a refusal, they are a text of a file whose declarations are refused for just this
abbrev pub RefusedMeans : TargetRule → List ℕ → ReadError → Type 0
RefusedMeans rule bytes (Syntax at) = Unit {0}
RefusedMeans rule bytes (Refused refusal) = (file : File) × IsText bytes file × Refuses rule (declared_of file) refusal
RefusedMeans rule bytes OutOfMemory = Unit {0}

-- the netlist of a file; what is refused of a file
abbrev pub IsFileNetlist : TargetRule → File → Circuit → Type 0
IsFileNetlist rule file n = (n ≡ made rule (declared_of file)) × IsWellFormed rule (declared_of file)

abbrev pub FileRefused : TargetRule → File → ReadError → Type 0
FileRefused rule file (Syntax at) = ⊥
FileRefused rule file (Refused refusal) = Refuses rule (declared_of file) refusal
FileRefused rule file OutOfMemory = Unit {0}

-- bytes without a syntax tree
abbrev pub NoTree : List ℕ → ReadError → Type 0
NoTree bytes (Syntax at) = IsNoText bytes
NoTree bytes (Refused refusal) = ⊥
NoTree bytes OutOfMemory = Unit {0}
