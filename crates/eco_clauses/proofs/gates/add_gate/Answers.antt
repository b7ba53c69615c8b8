-- The literals of the gate's inputs are of the nets' variables.
use Rattle.std.proofs.Common.{◌∙◌, sym, subst, ap, length}
use Rattle.std.specs.List.{All}
use Rattle.eco_gates.specs.Gates.{IsTermBelow}
use Rattle.eco_gates.specs.GateValue.{GateValue}
use Rattle.eco_clauses.proofs.GateSteps.{terms_within}
use Rattle.eco_clauses.proofs.gates.add_gate.Goals as goal

pub add_kind-requires-clause-ins : goal.add_kind-requires-clause-ins
add_kind-requires-clause-ins c =
    let lits = c.args.lits.now in
    let same = c.as_slice.ensures ∙ ap (λ (g : GateValue). g.ins) c.gate.view_is in
    let below = subst (All (IsTermBelow (length lits))) (sym same) c.requires.within.ins in
    terms_within c.args.cnf.now.vars lits c.as_slice.result.now c.as_slice-2.result.now c.requires.constant c.requires.literals below (c.as_slice-2.ensures.value ∙ c.in_ok-ins.ensures)
