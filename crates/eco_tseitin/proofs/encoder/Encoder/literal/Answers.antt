use Rattle.std.proofs.Common.{◌∙◌, ap, eqb}
use Rattle.indexmap.specs.IndexSet.{insert_key}
use Rattle.eco_trace.specs.Clauses.{Clauses}
use Rattle.eco_tseitin.specs.Encoding.{Encoding}
use Rattle.eco_tseitin.proofs.Naming.{named}
use Rattle.eco_tseitin.proofs.encoder.Encoder.literal.Goals as goal

pub returns-clause-named : goal.returns-clause-named
returns-clause-named c =
    named c.args.self.now _ c.args.edge.node (c.in_ok-place.ensures.keys ∙ ap (λ (e : Encoding). insert_key eqb e.nodes c.args.edge.node) c.self.view_is) (ap (λ (x : Clauses). x.clauses) c.widen.ensures ∙ ap (λ (e : Encoding). e.clauses) c.self.view_is)
