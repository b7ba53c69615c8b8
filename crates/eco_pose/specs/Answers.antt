-- When clauses ask a question.
use Rattle.std.specs.Prelude.{◌≡◌, ◌≢◌, ℕ, Bool, true, false, List, length, AllPairs}
use Rattle.eco_trace.specs.declared.clause.Lit.{Lit}
use Rattle.eco_trace.specs.declared.clause.Var.{Var}
use Rattle.eco_trace.specs.Clauses.{Valuation, Satisfies, read}
use Rattle.eco_trace.specs.Split.{Split, IsModelOf}
use Rattle.eco_meaning.specs.Circuit.{Circuit, names, AreTargets}
use Rattle.eco_meaning.specs.Meaning.{Goal, IsWrong}
use Rattle.eco_meaning.specs.Choice.{AreValues}
use Rattle.eco_netlist.specs.Netlists.{names_at}
use Rattle.eco_laws.specs.Asked.{IsMissed, IsForcedAmong, IsSeparated, IsFixed}
use Rattle.eco_tseitin.specs.Reading.{read_vars}
use Rattle.eco_tseitin.specs.Sides.{IsApart}
use Rattle.eco_pose.specs.declared.question.Question.{Question}
use Rattle.eco_pose.specs.declared.question.Question.TheVariants.{Rectify, Separate, Fix, Equal}
use Rattle.eco_pose.specs.Posing.{PosedValue, sides_of}
use Rattle.eco_pose.specs.Questions.{AtTarget}

-- each model of the clauses is read as such bits, and all such bits are read from some model
pub record AsksFor (Is : List Bool → Type 0) (lits : List Lit) (clauses : List (List Lit)) : Type 0 where
  pub models : (v : Valuation) → Satisfies v clauses → Is (read v lits)
  pub answers : (bits : List Bool) → Is bits → (v : Valuation) × Satisfies v clauses × (read v lits ≡ bits)

-- each model is read as such a pair, and each such pair is read from some model
pub record AsksForPair (Is : List Bool → List Bool → Type 0) (first second : List Lit) (clauses : List (List Lit)) : Type 0 where
  pub models : (v : Valuation) → Satisfies v clauses → Is (read v first) (read v second)
  pub answers : (x y : List Bool) → Is x y → (v : Valuation) × Satisfies v clauses × (read v first ≡ x) × (read v second ≡ y)

-- the side of the clauses that asks for an input which forces the target to the bit as far as the rests tell: each model of
-- it is read as one, with the base signals' values there as the bits of the shared variables; and each such input, with these
-- values, is read from a model of it
pub record IsSideOf (f : Circuit) (goal : Goal) (p : Circuit) (earlier : List (List ℕ)) (target : List ℕ) (later : List (List ℕ)) (rests : List (List Bool)) (base : List (List ℕ)) (bit : Bool) (split : Split) (shared : List Var) (lits : List Lit) : Type 0 where
  pub forced : (v : Valuation) → IsModelOf split bit v → IsForcedAmong f goal p earlier target later rests (read v lits) bit
  pub valued : (v : Valuation) → IsModelOf split bit v → AreValues f p earlier base (read v lits) (read_vars v shared)
  pub complete : (x bits : List Bool) → IsForcedAmong f goal p earlier target later rests x bit → AreValues f p earlier base x bits →
      (v : Valuation) × IsModelOf split bit v × (read v lits ≡ x) × (read_vars v shared ≡ bits)

-- the clauses ask for two inputs that are separated, the first by the side marked `true`, the second by the other; they have
-- no variables in common but one for each base signal, in order
pub record AsksSeparate (f : Circuit) (goal : Goal) (p : Circuit) (earlier : List (List ℕ)) (target : List ℕ) (later : List (List ℕ)) (rests : List (List Bool)) (base : List (List ℕ)) (posed : PosedValue) : Type 0 where
  pub pairs : AsksForPair (IsSeparated f goal p earlier target later rests base) posed.first posed.second posed.clauses.clauses
  pub one : IsSideOf f goal p earlier target later rests base true (sides_of posed) posed.shared posed.first
  pub other : IsSideOf f goal p earlier target later rests base false (sides_of posed) posed.shared posed.second
  pub apart : IsApart (sides_of posed) posed.shared
  pub marks : length posed.side ≡ length posed.clauses.clauses
  pub count : length posed.shared ≡ length base
  pub distinct : AllPairs (λ x y. x ≢ y) posed.shared

-- The clauses ask the question: for an input at which the implementation is right with no listed row of its targets; for
-- two inputs that are separated; for bits of the targets that go on from the fixed ones and are right at the input; for a
-- cared input at which two netlists have different outputs.
abbrev pub Asks : Circuit → Goal → Question → PosedValue → Type 0
Asks f goal (Rectify values) posed =
    (targets : List (List ℕ)) → AreTargets f targets → AsksFor (IsMissed f goal targets values) posed.first posed.clauses.clauses
Asks f goal (Separate i patches base rest) posed =
    AtTarget f i (λ before target behind. AsksSeparate f goal patches before target behind rest (names_at (names f) base) posed)
Asks f goal (Fix input fixed) posed =
    (targets : List (List ℕ)) → AreTargets f targets → AsksFor (IsFixed f goal targets fixed input) posed.targets posed.clauses.clauses
Asks f goal (Equal left right care) posed =
    AsksFor (IsWrong left (record { spec = right; care = care })) posed.first posed.clauses.clauses
