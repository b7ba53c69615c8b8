-- What is asked of an input as far as a list of rows tells, and what follows where no answer is left: the rows are bits of the
-- targets that are still open, and come one by one, each from an answer that the rows before it missed.
use Rattle.std.specs.Prelude.{◌≡◌, ℕ, Bool, true, false, not, List, [], ◌∷◌, ◌++◌, length, map, Contains}
use Rattle.eco_meaning.specs.Circuit.{Circuit, Values}
use Rattle.eco_meaning.specs.Meaning.{Goal, IsRight, IsWrong, IsRectifiable}
use Rattle.eco_meaning.specs.Choice.{IsReached, IsForced, AgreeAt, IsConflict, Suffices, AreValues}
use Rattle.eco_laws.specs.Reached.{IsPatchOf}

-- at the input x the netlist is right with none of these rows at its open nets
pub record IsMissed (n : Circuit) (goal : Goal) (nets : List (List ℕ)) (rows : List (List Bool)) (x : List Bool) : Type 0 where
  pub len : length x ≡ length n.inputs
  pub never : (v : Values) → IsRight n goal v → map v n.inputs ≡ x → Contains rows (map v nets) → ⊥

-- at the input x the target must have the bit as far as these rests tell: with the other bit nothing is right where the
-- later targets have a listed rest
pub record IsForcedAmong (f : Circuit) (goal : Goal) (p : Circuit) (earlier : List (List ℕ)) (target : List ℕ) (later : List (List ℕ)) (rests : List (List Bool)) (x : List Bool) (bit : Bool) : Type 0 where
  pub len : length x ≡ length f.inputs
  pub never : (v : Values) → IsReached f p earlier x v → v target ≡ not bit → Contains rests (map v later) → IsRight f goal v → ⊥

-- as far as the rests tell, x forces the target to 1 and y to 0, and the base has the same values at both
pub record IsSeparated (f : Circuit) (goal : Goal) (p : Circuit) (earlier : List (List ℕ)) (target : List ℕ) (later : List (List ℕ)) (rests : List (List Bool)) (base : List (List ℕ)) (x y : List Bool) : Type 0 where
  pub one : IsForcedAmong f goal p earlier target later rests x true
  pub zero : IsForcedAmong f goal p earlier target later rests y false
  pub alike : AgreeAt f p earlier (Contains base) x y

-- at the input x the netlist is right with these bits at the nets, which begin with the fixed ones
pub record IsFixed (n : Circuit) (goal : Goal) (nets : List (List ℕ)) (fixed : List Bool) (x bits : List Bool) : Type 0 where
  pub rest : List Bool
  pub begins : bits ≡ fixed ++ rest
  pub values : Values
  pub right : IsRight n goal values
  pub input : map values n.inputs ≡ x
  pub row : map values nets ≡ bits

-- no bits go on from the fixed ones to some with which the netlist is right at x
abbrev pub IsUnfixed : Circuit → Goal → List (List ℕ) → List Bool → List Bool → Type 0
IsUnfixed n goal nets fixed x = (bits : List Bool) → IsFixed n goal nets fixed x bits → ⊥

-- where the rows miss no input, f can be rectified
abbrev pub NoneMissed : Type 0
NoneMissed =
    (f : Circuit) (goal : Goal) (targets : List (List ℕ)) (rows : List (List Bool)) →
    ((x : List Bool) → IsMissed f goal targets rows x → ⊥) → IsRectifiable f goal

-- where the rests separate no two inputs that are alike on a base, it suffices
abbrev pub NoneSeparated : Type 0
NoneSeparated =
    (f : Circuit) (goal : Goal) (p : Circuit) (earlier : List (List ℕ)) (target : List ℕ) (later : List (List ℕ)) (rests : List (List Bool)) (base : List (List ℕ)) →
    ((x y : List Bool) → IsSeparated f goal p earlier target later rests base x y → ⊥) →
    Suffices f goal p earlier target (Contains base)

-- a missed input with which no bits of the targets are right is wrong
abbrev pub MissedIsWrong : Type 0
MissedIsWrong =
    (f : Circuit) (goal : Goal) (targets : List (List ℕ)) (rows : List (List Bool)) (x : List Bool) →
    IsMissed f goal targets rows x → IsUnfixed f goal targets [] x → IsWrong f goal x

-- the earlier targets have values at an input, those that they have in any map that is reached
abbrev pub EarlierHaveValues : Type 0
EarlierHaveValues =
    (f p : Circuit) (earlier : List (List ℕ)) (x : List Bool) (v : Values) → IsPatchOf f p earlier → IsReached f p earlier x v →
    AreValues f p earlier earlier x (map v earlier)

-- an input that forces a bit among the rests does so, where the other bit goes on to no bits that are right
abbrev pub AmongIsForced : Type 0
AmongIsForced =
    (f : Circuit) (goal : Goal) (p : Circuit) (earlier : List (List ℕ)) (target : List ℕ) (later : List (List ℕ)) (rests : List (List Bool)) (x : List Bool) (bit : Bool) (values : List Bool) →
    IsForcedAmong f goal p earlier target later rests x bit → AreValues f p earlier earlier x values →
    IsUnfixed f goal (earlier ++ target ∷ later) (values ++ not bit ∷ []) x → IsForced f goal p earlier target x bit

-- so two separated inputs are a conflict
abbrev pub SeparatedIsConflict : Type 0
SeparatedIsConflict =
    (f : Circuit) (goal : Goal) (p : Circuit) (earlier : List (List ℕ)) (target : List ℕ) (later : List (List ℕ)) (rests : List (List Bool)) (base : List (List ℕ)) (x y at_x at_y : List Bool) →
    IsSeparated f goal p earlier target later rests base x y →
    AreValues f p earlier earlier x at_x → IsUnfixed f goal (earlier ++ target ∷ later) (at_x ++ false ∷ []) x →
    AreValues f p earlier earlier y at_y → IsUnfixed f goal (earlier ++ target ∷ later) (at_y ++ true ∷ []) y →
    IsConflict f goal p earlier target (Contains base) x y

-- bits with which a missed input is right aren't listed
abbrev pub MissedRowIsNew : Type 0
MissedRowIsNew =
    (f : Circuit) (goal : Goal) (targets : List (List ℕ)) (rows : List (List Bool)) (fixed x bits : List Bool) →
    IsMissed f goal targets rows x → IsFixed f goal targets fixed x bits → Contains rows bits → ⊥

-- and there is one for each target
abbrev pub FixedBitsFit : Type 0
FixedBitsFit =
    (n : Circuit) (goal : Goal) (nets : List (List ℕ)) (fixed x bits : List Bool) → IsFixed n goal nets fixed x bits →
    length bits ≡ length nets

-- a rest with which an input is right that forced the opposite among the rests isn't listed
abbrev pub FixedRestIsNew : Type 0
FixedRestIsNew =
    (f : Circuit) (goal : Goal) (p : Circuit) (earlier : List (List ℕ)) (target : List ℕ) (later : List (List ℕ)) (rests : List (List Bool)) (x : List Bool) (bit : Bool) (values bits : List Bool) →
    IsPatchOf f p earlier → IsForcedAmong f goal p earlier target later rests x bit → AreValues f p earlier earlier x values →
    (fixed : IsFixed f goal (earlier ++ target ∷ later) (values ++ not bit ∷ []) x bits) → Contains rests fixed.rest → ⊥

-- it has a bit for each later target
abbrev pub FixedRestFits : Type 0
FixedRestFits =
    (f : Circuit) (goal : Goal) (p : Circuit) (earlier : List (List ℕ)) (target : List ℕ) (later : List (List ℕ)) (x : List Bool) (bit : Bool) (values bits : List Bool) →
    AreValues f p earlier earlier x values → (fixed : IsFixed f goal (earlier ++ target ∷ later) (values ++ not bit ∷ []) x bits) →
    length fixed.rest ≡ length later
