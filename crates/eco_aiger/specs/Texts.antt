-- The netlist of a text, and why there is none.
use Rattle.std.specs.Prelude.{◌≡◌, ◌⊎◌, ℕ, List, Option, Some, None}
use Rattle.eco_meaning.specs.Circuit.{Circuit}
use Rattle.eco_netlist.specs.declared.draft.TargetRule.TheVariants.{Never}
use Rattle.eco_netlist.specs.Draft.{made}
use Rattle.eco_netlist.specs.Refusals.{IsWellFormed, Refuses}
use Rattle.eco_aiger.specs.declared.error.AigerError.{AigerError}
use Rattle.eco_aiger.specs.declared.error.AigerError.TheVariants.{Line, DefinedTwice, Undefined, Refused, OutOfMemory}
use Rattle.eco_aiger.specs.Syntax.{File}
use Rattle.eco_aiger.specs.Grammar.{IsText}
use Rattle.eco_aiger.specs.Meaning.{declared_of}
use Rattle.eco_aiger.specs.Defined.{defined_in, used_in, is_twice, is_missing, IsLeast, IsDefinedOnce, IsDefined}

-- the netlist of a file: each variable is defined once, each that is used is defined, and what the file declares has
-- no error and stands for it
pub record IsFileNetlist (f : File) (n : Circuit) : Type 0 where
  pub once : IsDefinedOnce f
  pub all : IsDefined f
  pub faultless : IsWellFormed Never (declared_of f)
  pub value : n ≡ made Never (declared_of f)

-- the bytes are a text of this netlist: that of a file
pub record IsAigerText (bytes : List ℕ) (n : Circuit) : Type 0 where
  pub file : File
  pub text : IsText bytes file
  pub netlist : IsFileNetlist file n

-- a file gives no netlist for this: the first of these causes that stands; want of memory tells nothing of it
abbrev pub RefusesFile : File → AigerError → Type 0
RefusesFile f (Line n) = ⊥
RefusesFile f (DefinedTwice v) = IsLeast (is_twice (defined_in f)) v
RefusesFile f (Undefined v) = IsDefinedOnce f × IsLeast (is_missing (defined_in f) (used_in f)) v
RefusesFile f (Refused refusal) = IsDefinedOnce f × IsDefined f × Refuses Never (declared_of f) refusal
RefusesFile f OutOfMemory = Unit {0}

-- the bytes are a text of no file
abbrev pub IsNoText : List ℕ → Type 0
IsNoText bytes = (f : File) → IsText bytes f → ⊥

-- a text of a file that gives no netlist for this
abbrev pub RefusesText : List ℕ → AigerError → Type 0
RefusesText bytes e = (f : File) × IsText bytes f × RefusesFile f e

-- the bytes give no netlist for this: they are a text of no file, or of one that gives none
abbrev pub IsRefused : List ℕ → AigerError → Type 0
IsRefused bytes (Line n) = IsNoText bytes
IsRefused bytes (DefinedTwice v) = RefusesText bytes (DefinedTwice v)
IsRefused bytes (Undefined v) = RefusesText bytes (Undefined v)
IsRefused bytes (Refused refusal) = RefusesText bytes (Refused refusal)
IsRefused bytes OutOfMemory = Unit {0}

-- what an error tells of the text: which cause in their order, and its variable; want of memory tells nothing
abbrev pub cause_of : AigerError → Option (ℕ × ℕ)
cause_of (Line n) = Some (0, 0)
cause_of (DefinedTwice v) = Some (1, v)
cause_of (Undefined v) = Some (2, v)
cause_of (Refused refusal) = Some (3, 0)
cause_of OutOfMemory = None

-- the two errors tell the same, where both tell something
abbrev pub IsSameCause : AigerError → AigerError → Type 0
IsSameCause e d = (e ≡ OutOfMemory) ⊎ ((d ≡ OutOfMemory) ⊎ (cause_of e ≡ cause_of d))
