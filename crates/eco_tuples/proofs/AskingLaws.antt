-- What a question tells of a tuple, from what a search tells of its clauses.
use Rattle.std.proofs.Common.{ℕ, Bool, List, subst}
use Rattle.eco_meaning.specs.Circuit.{AreTargets}
use Rattle.eco_tseitin.specs.declared.sides.OneSide.{OneSide}
use Rattle.eco_pose.specs.Answers.{AsksFor}
use Rattle.eco_query.specs.Problem.{ProblemValue}
use Rattle.eco_clash.specs.Questions.{IsFixedThroughout}
use Rattle.eco_clash.proofs.TupleLaws.{unfixed_clashes}
use Rattle.eco_tuples.specs.declared.asking.Clash.{Clash}
use Rattle.eco_tuples.specs.declared.asking.Clash.TheVariants.{Shown, Fixed, Open}
use Rattle.eco_tuples.specs.Graphs.{AreInputsOf}
use Rattle.eco_tuples.specs.Answers.{IsTold, IsClashAnswer}

module _ (problem : ProblemValue) (tuple : List (List Bool)) (limit : ℕ) (side : OneSide) (inputs : AreInputsOf problem.implementation tuple) (asks : (targets : List (List ℕ)) → AreTargets problem.implementation targets → AsksFor (IsFixedThroughout problem.implementation problem.goal targets tuple) side.inputs.items side.cnf.clauses) where
  pub clash_answer : (answer : Clash) → IsTold side limit answer → IsClashAnswer problem tuple limit answer
  clash_answer Shown refuted = λ targets are.
      unfixed_clashes problem.implementation problem.goal targets tuple inputs (λ bits fixed.
      let (v, holds, reads) = (asks targets are).answers bits fixed in
      refuted v holds)
  clash_answer (Fixed bits) (v, holds, reads) = λ targets are.
      subst (IsFixedThroughout problem.implementation problem.goal targets tuple) reads ((asks targets are).models v holds)
  clash_answer Open (proof, spent) = record { clauses = side.cnf; lits = side.inputs.items; asks = asks; proof = proof; spent = spent }
