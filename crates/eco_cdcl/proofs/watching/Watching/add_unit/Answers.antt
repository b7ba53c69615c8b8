-- The clause forces its one literal.
use Rattle.std.proofs.Common.{[], ◌∷◌, refl, sym, subst, All}
use Rattle.std.proofs.lemmas.List.Elements.{Contains-append_right}
use Rattle.eco_lists.proofs.Members.{Contains_first, only_one}
use Rattle.eco_lists.proofs.Places.{All_at}
use Rattle.eco_trace.specs.Clauses.{IsVarWithin}
use Rattle.eco_trace.specs.Resolution.{clauses_of}
use Rattle.eco_learn.specs.Trails.{implied}
use Rattle.eco_cdcl.specs.Watching.{IsReady}
use Rattle.eco_cdcl.specs.Steps.{MayBegin}
use Rattle.eco_cdcl.proofs.Readiness.{ready_implied}
use Rattle.eco_cdcl.proofs.Beginning.{unit_begins}
use Rattle.eco_cdcl.proofs.watching.Watching.add_unit.Goals as goal

pub truth-requires : goal.truth-requires
truth-requires c =
    let within = IsVarWithin c.args.self.now.trail.vars in
    All_at within (c.args.lit ∷ []) 0 c.args.lit (All_at (All within) (clauses_of c.args.trace.now) c.args.node.0 (c.args.lit ∷ []) c.requires.ready.formed.within c.requires.clause) refl

pub imply-requires-clause-within : goal.imply-requires-clause-within
imply-requires-clause-within c =
    let within = IsVarWithin c.args.self.now.trail.vars in
    All_at within (c.args.lit ∷ []) 0 c.args.lit (All_at (All within) (clauses_of c.args.trace.now) c.args.node.0 (c.args.lit ∷ []) c.requires.ready.formed.within c.requires.clause) refl

pub attach-requires-in-Open-clause-ready : goal.attach-requires-in-Open-clause-ready
attach-requires-in-Open-clause-ready c =
    let s = c.args.self.now in
    let cs = clauses_of c.args.trace.now in
    subst (λ k. IsReady cs k s.done s.pairs s.lists) (sym c.imply.ensures.implied)
    (ready_implied cs s.trail s.done s.pairs s.lists c.args.lit c.args.node c.is_sound.ensures.sound c.requires.ready
    (record { clause = c.args.lit ∷ []; clause_at = c.requires.clause; member = Contains_first c.args.lit []; others = λ x m ne. absurd (ne (sym (only_one c.args.lit x m))) }))

pub attach-requires-in-Open-clause-may : goal.attach-requires-in-Open-clause-may
attach-requires-in-Open-clause-may c =
    let s = c.args.self.now in
    let cs = clauses_of c.args.trace.now in
    subst (λ k. MayBegin cs k s.done c.args.node c.args.lit c.args.lit) (sym c.imply.ensures.implied)
    (unit_begins cs (implied s.trail c.args.lit c.args.node) s.done c.args.node c.args.lit c.requires.clause
    (Contains-append_right s.trail.lits (c.args.lit ∷ []) c.args.lit (Contains_first c.args.lit [])) c.requires.done c.requires.marks)
