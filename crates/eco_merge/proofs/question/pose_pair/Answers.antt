-- The clauses of the nodes' encoding, and the two that say that the nodes aren't alike.
use Rattle.std.proofs.Common.{[], ◌∷◌, ◌∙◌, ap, subst}
use Rattle.eco_aig.specs.declared.edge.Edge.{Edge}
use Rattle.eco_aig.specs.Edges.{plain}
use Rattle.eco_trace.specs.declared.clause.Lit.{Lit}
use Rattle.eco_tseitin.specs.Encoding.{IsEncoding}
use Rattle.eco_tseitin.proofs.Growing.{no_growth}
use Rattle.eco_merge.proofs.Posing.{are_literals, literals_apart, posed_pair}
use Rattle.eco_merge.proofs.question.pose_pair.Goals as goal

pub add_equal-requires-clause-apart : goal.add_equal-requires-clause-apart
add_equal-requires-clause-apart c =
    let one = c.encode.new.self.nodes in
    let two = c.encode-2.new.self.nodes in
    let l = c.in_ok-literal.literal in
    let k = c.in_ok-other_literal.other_literal in
    let are = are_literals one two c.args.node c.args.other c.edge_to.result c.edge_to-2.result l k c.edge_to.ensures c.edge_to-2.ensures c.in_ok-literal.ensures.literal c.in_ok-other_literal.ensures.nodes c.in_ok-other_literal.ensures.literal in
    literals_apart two c.args.node c.args.other c.args.same l k are c.requires.apart c.complement.result c.turned-turned_literal.result (ap (λ (x : Lit). x.var.0) c.complement.ensures) (ap (λ (x : Lit). x.var.0) c.turned-turned_literal.ensures)

pub returns : goal.returns
returns c =
    let graph = c.args.aig.now in
    let n = c.args.node in
    let m = c.args.other in
    let one = c.encode.new.self.nodes in
    let encoding = c.encode-2.new.self in
    let l = c.in_ok-literal.literal in
    let k = c.in_ok-other_literal.other_literal in
    let are = are_literals one encoding.nodes n m c.edge_to.result c.edge_to-2.result l k c.edge_to.ensures c.edge_to-2.ensures c.in_ok-literal.ensures.literal c.in_ok-other_literal.ensures.nodes c.in_ok-other_literal.ensures.literal in
    let first = c.in_ok-literal.ensures.encoding graph [] [] (c.new-encoder.ensures.encoding graph c.nodes.ensures.graph) (no_growth graph) in
    let both = c.in_ok-other_literal.ensures.encoding graph (c.edge_to.result ∷ []) [] first (no_growth graph) in
    let encoded : IsEncoding graph (plain n ∷ plain m ∷ []) [] encoding = subst (λ (e : Edge). IsEncoding graph (plain n ∷ e ∷ []) [] encoding) c.edge_to-2.ensures (subst (λ (e : Edge). IsEncoding graph (e ∷ c.edge_to-2.result ∷ []) [] encoding) c.edge_to.ensures both) in
    posed_pair graph n m c.args.same encoding l k c.complement.result c.turned-turned_literal.result c.finish-cnf.result c.add_equal.new.self encoded are c.complement.ensures c.turned-turned_literal.ensures c.finish-cnf.ensures.clauses c.in_ok-add_equal.ensures.ok
