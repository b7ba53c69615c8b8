-- What a question tells of a tuple of inputs.
use Rattle.std.specs.Prelude.{◌≡◌, ◌≤◌, ℕ, Bool, List, All, length}
use Rattle.eco_meaning.specs.Circuit.{AreTargets}
use Rattle.eco_trace.specs.declared.clause.Lit.{Lit}
use Rattle.eco_trace.specs.Clauses.{Clauses, IsUnsatisfiable, IsVarWithin, Satisfies, Valuation, read}
use Rattle.eco_trace.specs.Resolution.{Proof}
use Rattle.eco_trace.specs.Verdicts.{IsSpent}
use Rattle.eco_tseitin.specs.declared.sides.OneSide.{OneSide}
use Rattle.eco_pose.specs.Answers.{AsksFor}
use Rattle.eco_query.specs.Problem.{ProblemValue}
use Rattle.eco_clash.specs.Clashes.{IsClash}
use Rattle.eco_clash.specs.Questions.{IsFixedThroughout}
use Rattle.eco_tuples.specs.declared.asking.Clash.{Clash}
use Rattle.eco_tuples.specs.declared.asking.Clash.TheVariants.{Shown, Fixed, Open}

-- the literals that are read have variables of the clauses
abbrev pub Asks : OneSide → Type 0
Asks side = All (IsVarWithin side.cnf.vars) side.inputs.items

-- the clauses have no model; or the bits are read from one; or a search learnt just as many clauses from them as the limit allows,
-- each of which was news, and none is empty
abbrev pub IsTold : OneSide → ℕ → Clash → Type 0
IsTold side limit Shown = IsUnsatisfiable side.cnf.clauses
IsTold side limit (Fixed bits) = (v : Valuation) × Satisfies v side.cnf.clauses × (read v side.inputs.items ≡ bits)
IsTold side limit Open = (proof : Proof) × IsSpent side.cnf limit proof

-- a question for bits of the targets that are right throughout the tuple was given up: a search learnt just as many clauses from
-- it as the limit allows, each of which was news, and none is empty
pub record IsLeftOpen (problem : ProblemValue) (tuple : List (List Bool)) (limit : ℕ) : Type 0 where
  pub clauses : Clauses
  pub lits : List Lit
  pub asks : (targets : List (List ℕ)) → AreTargets problem.implementation targets →
      AsksFor (IsFixedThroughout problem.implementation problem.goal targets tuple) lits clauses.clauses
  pub proof : Proof
  pub spent : IsSpent clauses limit proof

-- the tuple clashes; or these bits of the targets are right throughout; or the question was given up
abbrev pub IsClashAnswer : ProblemValue → List (List Bool) → ℕ → Clash → Type 0
IsClashAnswer problem tuple limit Shown =
    (targets : List (List ℕ)) → AreTargets problem.implementation targets → IsClash problem.implementation problem.goal targets tuple
IsClashAnswer problem tuple limit (Fixed bits) =
    (targets : List (List ℕ)) → AreTargets problem.implementation targets → IsFixedThroughout problem.implementation problem.goal targets tuple bits
IsClashAnswer problem tuple limit Open = IsLeftOpen problem tuple limit
