-- The search begins with the clauses, and where each of them holds, the values are a model.
use Rattle.std.proofs.Common.{subst, ◌∙◌}
use Rattle.eco_trace.specs.Resolution.{clauses_of}
use Rattle.eco_cdcl.specs.Steps.{IsEnded}
use Rattle.eco_cdcl.proofs.Turning.{begins_formed, begins_spent, model_from}
use Rattle.eco_cdcl.proofs.watched.searched.Goals as goal

pub ending-requires-clause-ready : goal.ending-requires-clause-ready
ending-requires-clause-ready g c =
    let p = c.in_ok-trace.trace in
    c.in-Ok.ensures.ready (clauses_of p) (begins_formed c.args.cnf.now p c.vars.result c.vars.ensures c.in_ok-trace.ensures.begun c.clauses-clauses.ensures.formed)

pub returns-in_ok-model-in-Ok-Model : goal.returns-in_ok-model-in-Ok-Model
returns-in_ok-model-in-Ok-Model g c =
    let k = c.ending.new.self.watching.trail in
    let begun = begins_spent c.args.cnf.now c.in_ok-trace.trace c.in_ok-trace.ensures.begun in
    let ended = subst (IsEnded c.args.cnf.now c.args.limit c.ending.new.trace k) c.in-Ok-Model.field-0-is (c.in-Ok-Model.ensures.ended c.args.cnf.now begun) in
    let m = c.in_ok-model-in-Ok-Model in
    let vars = c.in-Ok-Model.ensures.vars ∙ c.in-Ok.ensures.vars ∙ c.vars.ensures in
    model_from c.args.cnf.now c.ending.new.trace k.lits m.field-0 ended.0 ended.1 (m.ensures.all ∙ vars) m.ensures.each

pub returns-in-Ok-Empty : goal.returns-in-Ok-Empty
returns-in-Ok-Empty g c =
    let begun = begins_spent c.args.cnf.now c.in_ok-trace.trace c.in_ok-trace.ensures.begun in
    subst (IsEnded c.args.cnf.now c.args.limit c.ending.new.trace c.ending.new.self.watching.trail) c.in-Ok-Empty.field-0-is (c.in-Ok-Empty.ensures.ended c.args.cnf.now begun)

pub returns-in-Ok-Limit : goal.returns-in-Ok-Limit
returns-in-Ok-Limit g c =
    let begun = begins_spent c.args.cnf.now c.in_ok-trace.trace c.in_ok-trace.ensures.begun in
    subst (IsEnded c.args.cnf.now c.args.limit c.ending.new.trace c.ending.new.self.watching.trail) c.in-Ok-Limit.field-0-is (c.in-Ok-Limit.ensures.ended c.args.cnf.now begun)
