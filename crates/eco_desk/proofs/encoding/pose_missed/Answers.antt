-- The side's models are inputs that the rows miss.
use Rattle.std.proofs.Common.{◌≡◌, ℕ, Bool, List, length, sym, ◌∙◌, ap, subst}
use Rattle.std.proofs.lemmas.Result.{IfOk-weaker}
use Rattle.eco_meaning.specs.Circuit.{Circuit}
use Rattle.eco_meaning.specs.Meaning.{Goal}
use Rattle.eco_trace.specs.Clauses.{Clauses}
use Rattle.eco_laws.specs.Asked.{IsMissed}
use Rattle.eco_pose.specs.Boards.{AreRowEdges}
use Rattle.eco_pose.specs.Answers.{AsksFor}
use Rattle.eco_pose.specs.Shapes.{IsEncodedOnce}
use Rattle.eco_pose.proofs.RowLaws.{ok_both}
use Rattle.eco_pose.proofs.MissLaws.{asks_missed}
use Rattle.eco_pose.proofs.ReadLaws.{one_reads}
use Rattle.eco_desk.proofs.encoding.pose_missed.Goals as goal

pub returns-clause-asks : goal.returns-clause-asks
returns-clause-asks c =
    let graph = c.args.graph.now in
    let inputs = c.args.inputs.now in
    let wrong = c.args.wrong.now in
    let side = c.in_ok-side.side in
    IfOk-weaker c.posed_input.result (λ posed. (posed.clauses ≡ side.cnf) × (posed.first ≡ side.inputs.items))
    (λ posed. (n : Circuit) (goal : Goal) (targets : List (List ℕ)) (rows : List (List Bool)) →
    length inputs ≡ length n.inputs → AreRowEdges n goal targets graph inputs rows wrong → AsksFor (IsMissed n goal targets rows) posed.first posed.clauses.clauses)
    (λ posed both n goal targets rows count are.
    subst (λ lits. AsksFor (IsMissed n goal targets rows) lits posed.clauses.clauses) (sym both.1)
    (subst (λ (clauses : Clauses). AsksFor (IsMissed n goal targets rows) side.inputs.items clauses.clauses) (sym both.0)
    (asks_missed n goal targets graph inputs rows wrong side.inputs.items side.cnf.clauses count c.requires.inputs are c.in_ok-side.ensures.models c.in_ok-side.ensures.answers)))
    (ok_both c.posed_input.result (λ posed. posed.clauses ≡ side.cnf) (λ posed. posed.first ≡ side.inputs.items) c.posed_input.ensures.clauses c.posed_input.ensures.first)

pub returns-clause-shape : goal.returns-clause-shape
returns-clause-shape c =
    let side = c.in_ok-side.side in
    IfOk-weaker c.posed_input.result (λ posed. (posed.clauses ≡ side.cnf) × (posed.first ≡ side.inputs.items)) (λ posed. IsEncodedOnce posed posed.first)
    (λ posed both. record {
      made = side;
      side = record { graph = c.args.graph.now; inputs = c.args.inputs.now; asserted = c.args.wrong.now; are_inputs = c.requires.inputs; encoded = c.in_ok-side.ensures.shape };
      clauses = both.0;
      reads = both.1;
    })
    (ok_both c.posed_input.result (λ posed. posed.clauses ≡ side.cnf) (λ posed. posed.first ≡ side.inputs.items) c.posed_input.ensures.clauses c.posed_input.ensures.first)

pub returns-clause-reads : goal.returns-clause-reads
returns-clause-reads c =
    let side = c.in_ok-side.side in
    IfOk-weaker c.posed_input.result (λ posed. posed.first ≡ side.inputs.items) (λ posed. length posed.first ≡ length c.args.inputs.now)
    (λ posed same. ap length same ∙ one_reads c.args.graph.now c.args.inputs.now c.args.wrong.now side c.in_ok-side.ensures.shape) c.posed_input.ensures.first
