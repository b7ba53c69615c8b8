-- What a refutation says of the answers that are asked for.
use Rattle.std.proofs.Common.{Bool, List, subst}
use Rattle.eco_trace.specs.declared.clause.Lit.{Lit}
use Rattle.eco_trace.specs.Clauses.{Clauses, IsUnsatisfiable}
use Rattle.eco_trace.specs.Resolution.{Proof}
use Rattle.eco_trace.specs.Verdicts.{IsRefutation}
use Rattle.eco_pose.specs.Answers.{AsksFor}

-- where the clauses are refuted, there is no answer
pub no_answer : (Is : List Bool → Type 0) (lits : List Lit) (c : Clauses) (p : Proof) → AsksFor Is lits c.clauses → IsRefutation c p → IsUnsatisfiable p.originals → (bits : List Bool) → Is bits → ⊥
no_answer Is lits c p asks refuted never bits is =
    let (v, satisfied, same) = asks.answers bits is in
    subst IsUnsatisfiable refuted.originals never v satisfied
