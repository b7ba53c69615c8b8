-- The clauses of the node's encoding, and the one that says that the node isn't constant.
use Rattle.std.proofs.Common.{[], ◌∷◌, ◌∙◌, ap, subst}
use Rattle.eco_aig.specs.declared.edge.Edge.{Edge}
use Rattle.eco_tseitin.specs.Encoding.{IsEncoding, literal_of}
use Rattle.eco_tseitin.proofs.Growing.{no_growth}
use Rattle.eco_merge.proofs.Posing.{posed_alone}
use Rattle.eco_merge.proofs.question.pose_alone.Goals as goal

pub returns : goal.returns
returns c =
    let graph = c.args.aig.now in
    let encoding = c.encode.new.self in
    let encoded = c.in_ok-literal.ensures.encoding graph [] [] (c.new-encoder.ensures.encoding graph c.nodes.ensures.graph) (no_growth graph) in
    let edge = c.edge_to.ensures in
    posed_alone graph c.args.node c.args.same encoding c.in_ok-literal.literal c.turned.result c.finish-cnf.result c.add_lits.new.self (subst (λ (e : Edge). IsEncoding graph (e ∷ []) [] encoding) edge encoded) (c.in_ok-literal.ensures.literal.is ∙ ap (literal_of encoding.nodes) edge) c.turned.ensures c.finish-cnf.ensures.clauses c.in_ok-add_lits.ensures.ok
