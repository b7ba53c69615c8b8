-- The clause stands in the lists of both literals.
use Rattle.std.proofs.Common.{◌≡◌, [], ◌∷◌, ◌++◌, sym, ◌∙◌, subst}
use Rattle.std.proofs.lemmas.Option.{same_Some}
use Rattle.eco_trace.specs.Resolution.{clauses_of}
use Rattle.eco_cdcl.specs.Entries.{IsChanged}
use Rattle.eco_cdcl.specs.Watching.{IsReady}
use Rattle.eco_cdcl.proofs.Readiness.{ready_attached}
use Rattle.eco_cdcl.proofs.watching.Watching.attach.Goals as goal

pub returns-clause-ready : goal.returns-clause-ready
returns-clause-ready c =
    let s = c.args.self.now in
    let cs = clauses_of c.args.trace.now in
    let m = c.requires.may in
    let first = subst (λ w. IsChanged s.lists c.push-2.new.self c.args.one (λ a b. b ≡ a ++ w ∷ [])) c.in_ok-first.ensures c.in_ok-push-2.ensures in
    let second = subst (λ w. IsChanged c.push-2.new.self c.push-3.new.self c.args.other (λ a b. b ≡ a ++ w ∷ [])) c.in_ok-second.ensures c.in_ok-push-3.ensures in
    let made = ready_attached cs s.trail s.done s.pairs s.lists c.push-2.new.self c.push-3.new.self c.args.node m.clause c.args.one c.args.other c.requires.ready c.requires.next m.clause_at m.one_in m.other_in first second m.guards m.marks_guards in
    let clause = same_Some m.clause c.clause.result.now (sym m.clause_at ∙ c.clause.ensures.clause) in
    subst (λ ps. IsReady cs s.trail s.done ps c.push-3.new.self) (sym c.in_ok-push.ensures)
    (subst (λ l. IsReady cs s.trail s.done (s.pairs ++ record { one = c.args.one; other = c.args.other; lits = l } ∷ []) c.push-3.new.self) clause made)
