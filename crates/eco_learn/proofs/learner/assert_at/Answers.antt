-- The clause that was written is the one that the chain gives.
use Rattle.std.proofs.Common.{List, sym, subst}
use Rattle.eco_trace.specs.declared.clause.Lit.{Lit}
use Rattle.eco_trace.specs.declared.node.Link.{Link}
use Rattle.eco_trace.specs.Resolution.{Gives, Learns, clauses_of}
use Rattle.eco_learn.specs.Lessons.{Adds}
use Rattle.eco_learn.proofs.AssertLaws.{learnt_adds, point_above}
use Rattle.eco_learn.proofs.ChosenLaws.{chosen_read, chosen_one}
use Rattle.eco_learn.proofs.learner.assert_at.Goals as goal

pub push-requires : goal.push-requires
push-requires c =
    let chosen = chosen_read c.args.trail.now.lits c.args.chain.now.marks c.write_chosen.new.clause.items c.as_slice-learnt.result.now c.as_slice-learnt.ensures.value c.in_ok-write_chosen.ensures.chosen in
    let same = chosen_one c.args.trail.now.lits c.args.chain.now.marks c.requires.so_far.clause c.as_slice-learnt.result.now c.requires.so_far.chosen chosen in
    let chain = c.args.chain.now in
    let gives = subst (λ (cl : List Lit). Gives (clauses_of c.args.trace.now) chain.start chain.links.items cl) same c.requires.so_far.given in
    record { given = subst (λ (links : List Link). Gives (clauses_of c.args.trace.now) chain.start links c.as_slice-learnt.result.now) (sym c.as_slice-links.ensures.value) gives }

pub assertion-requires : goal.assertion-requires
assertion-requires c =
    let chosen = chosen_read c.args.trail.now.lits c.args.chain.now.marks c.write_chosen.new.clause.items c.as_slice-learnt.result.now c.as_slice-learnt.ensures.value c.in_ok-write_chosen.ensures.chosen in
    record {
      clause = chosen.clause_itself;
      wrong = λ x m. ((chosen.members x).0 m).0;
      above = rw c.complement-lit.ensures (point_above c.args.trail.now c.as_slice-learnt.result.now c.args.chain.now.marks c.args.place c.requires.walked.0 c.lit.result chosen c.requires.walked.1 c.requires.walked.2 c.lit.ensures);
    }

pub returns-clause-taught : goal.returns-clause-taught
returns-clause-taught c =
    let chosen = chosen_read c.args.trail.now.lits c.args.chain.now.marks c.write_chosen.new.clause.items c.as_slice-learnt.result.now c.as_slice-learnt.ensures.value c.in_ok-write_chosen.ensures.chosen in
    let same = chosen_one c.args.trail.now.lits c.args.chain.now.marks c.requires.so_far.clause c.as_slice-learnt.result.now c.requires.so_far.chosen chosen in
    let chain = c.args.chain.now in
    let learns = subst (λ (links : List Link). Learns c.args.trace.now c.push.new.self chain.start links) c.as_slice-links.ensures.value c.in_ok-node.ensures.learnt in
    record {
      clause = c.as_slice-learnt.result.now;
      adds = subst (λ (cl : List Lit). Adds c.args.trace.now c.push.new.self cl) same (learnt_adds c.args.trace.now c.push.new.self c.args.trail.now chain.start chain.links.items chain.marks learns c.requires.so_far);
      node = rw c.assertion.ensures.node c.in_ok-node.ensures.node;
      asserting = c.assertion.ensures.asserting;
    }
