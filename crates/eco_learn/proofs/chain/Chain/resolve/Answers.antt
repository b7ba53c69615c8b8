-- What the clause's node and variables are, and one step of resolution.
use Rattle.std.proofs.Common.{List, Bool, length, sym, subst, arith}
use Rattle.std.proofs.lemmas.Option.{slice_get_within}
use Rattle.eco_lists.proofs.Places.{Contains_at}
use Rattle.eco_trace.specs.declared.node.Link.{Link}
use Rattle.eco_trace.specs.Resolution.{clauses_of}
use Rattle.eco_learn.specs.Marks.{IsSoFar, HasTurned}
use Rattle.eco_learn.proofs.MarkLaws.{turned_from}
use Rattle.eco_learn.proofs.ChoiceLaws.{so_far_step}
use Rattle.eco_learn.proofs.StepLaws.{lit_within, reason_within}
use Rattle.eco_learn.proofs.chain.Chain.resolve.Goals as goal

pub clause-requires : goal.clause-requires
clause-requires c = slice_get_within (clauses_of c.args.trace.now) c.args.node.0 c.requires.reason.reason.clause c.requires.reason.reason.clause_at

pub mark-requires : goal.mark-requires
mark-requires c =
    record { within = reason_within (clauses_of c.args.trace.now) c.args.trail.now c.args.place c.args.node c.clause.result.now (length c.args.self.now.marks) c.is_sound.ensures.sound c.requires.reason c.clause.ensures.clause c.requires.so_far.long }

pub remove-requires : goal.remove-requires
remove-requires c =
    let lt = lit_within c.args.trail.now c.lit-lit.result c.is_sound.ensures.sound (Contains_at c.args.trail.now.lits c.args.place c.lit-lit.result c.lit-lit.ensures) in
    omega (arith, lt, c.mark.ensures.long, c.requires.so_far.long)

turned : (c : goal.In_ok-push) → HasTurned c.args.self.now.marks c.clause.result.now c.lit-lit.result.var.0 c.remove.new.self
turned c =
    subst (λ (m : List Bool). HasTurned c.args.self.now.marks c.clause.result.now c.lit-lit.result.var.0 m) (sym c.remove.ensures) (turned_from c.args.self.now.marks c.clause.result.now c.lit-lit.result.var.0 c.mark.new.marks c.in_ok-mark.ensures.got)

pub returns-clause-so_far : goal.returns-clause-so_far
returns-clause-so_far c =
    let step = so_far_step (clauses_of c.args.trace.now) c.args.trail.now c.args.self.now.start c.args.self.now.links.items c.args.self.now.marks c.remove.new.self c.args.place c.args.node c.lit-lit.result c.clause.result.now c.is_sound.ensures.sound c.requires.so_far c.requires.reason c.lit-lit.ensures c.clause.ensures.clause c.requires.seen (turned c) in
    subst (λ (links : List Link). IsSoFar (clauses_of c.args.trace.now) c.args.trail.now c.args.self.now.start links c.remove.new.self) (sym c.in_ok-push.ensures.items) step

pub returns-clause-step : goal.returns-clause-step
returns-clause-step c = record {
  lit = c.lit-lit.result;
  lit_at = c.lit-lit.ensures;
  clause = c.clause.result.now;
  clause_at = c.clause.ensures.clause;
  turned = turned c;
}
