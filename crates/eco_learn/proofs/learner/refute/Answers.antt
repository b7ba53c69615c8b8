-- The chain gives the empty clause.
use Rattle.std.proofs.Common.{List, [], sym, subst}
use Rattle.eco_trace.specs.declared.node.Link.{Link}
use Rattle.eco_trace.specs.Resolution.{Gives, Learns, clauses_of}
use Rattle.eco_learn.proofs.learner.refute.Goals as goal

pub push-requires : goal.push-requires
push-requires c =
    record { given = subst (λ (links : List Link). Gives (clauses_of c.args.trace.now) c.args.chain.now.start links []) (sym c.as_slice.ensures.value) c.requires.empty }

pub returns-clause-taught : goal.returns-clause-taught
returns-clause-taught c = λ k.
    let chain = c.args.chain.now in
    let learns = subst (λ (links : List Link). Learns c.args.trace.now c.push.new.self chain.start links) c.as_slice.ensures.value c.in_ok-push.ensures.learnt in
    record {
      learnt = record { start = chain.start; links = chain.links.items; clause = learns.clause };
      clause_is = sym (learns.only [] c.requires.empty);
      added = learns.added;
    }
