-- The chain begins with the wrong clause, whose variables are marked.
use Rattle.std.proofs.Common.{◌≡◌, ℕ, ◌+◌, List, Bool, false, replicate, length, ap, sym, ◌∙◌, subst}
use Rattle.std.specs.List.{Contains}
use Rattle.std.proofs.lemmas.List.{length-replicate}
use Rattle.std.proofs.lemmas.Option.{same_Some}
use Rattle.eco_trace.specs.declared.clause.Lit.{Lit}
use Rattle.eco_trace.specs.Clauses.{complement}
use Rattle.eco_trace.specs.Resolution.{clauses_of}
use Rattle.eco_learn.specs.Marks.{IsIn, AreUnseen}
use Rattle.eco_learn.proofs.StepLaws.{wrong_within, wrong_so_far, none_marked}
use Rattle.eco_learn.proofs.chain.Chain.walk.Goals as goal

-- the set was made empty
emptied : (marks none : List Bool) → none ≡ replicate (length marks) false → (v : ℕ) → IsIn none v → ⊥
emptied marks none e v in' = none_marked (length marks) v (subst (λ (m : List Bool). IsIn m v) e in')

same_long : (marks none : List Bool) → none ≡ replicate (length marks) false → length none ≡ length marks
same_long marks none e = ap length e ∙ length-replicate (length marks) false

-- the clause that was read is wrong
still_wrong : (lits clause read : List Lit) → clause ≡ read → ((x : Lit) → Contains clause x → Contains lits (complement x)) → (x : Lit) → Contains read x → Contains lits (complement x)
still_wrong lits clause read e wrong = subst (λ (c : List Lit). (x : Lit) → Contains c x → Contains lits (complement x)) e wrong

pub mark-requires : goal.mark-requires
mark-requires c =
    let clause = c.clause.result.now in
    let same : c.requires.wrong.clause ≡ clause = same_Some c.requires.wrong.clause clause (sym c.requires.wrong.clause_at ∙ c.clause.ensures.clause) in
    let wrong = still_wrong c.args.trail.now.lits c.requires.wrong.clause clause same c.requires.wrong.refuted in
    record { within = wrong_within c.args.trail.now clause (length c.clear-2.new.self) c.is_sound.ensures.sound wrong (same_long c.args.self.now.marks c.clear-2.new.self c.clear-2.ensures ∙ c.requires.room) }

pub walk_from-requires-clause-so_far : goal.walk_from-requires-clause-so_far
walk_from-requires-clause-so_far c =
    let clause = c.clause.result.now in
    let same : c.requires.wrong.clause ≡ clause = same_Some c.requires.wrong.clause clause (sym c.requires.wrong.clause_at ∙ c.clause.ensures.clause) in
    let wrong = still_wrong c.args.trail.now.lits c.requires.wrong.clause clause same c.requires.wrong.refuted in
    wrong_so_far (clauses_of c.args.trace.now) c.args.trail.now c.args.wrong clause c.clear.new.self.items c.clear-2.new.self c.mark.new.marks c.is_sound.ensures.sound (same_long c.args.self.now.marks c.clear-2.new.self c.clear-2.ensures ∙ c.requires.room) (emptied c.args.self.now.marks c.clear-2.new.self c.clear-2.ensures) c.clear.ensures.items c.clause.ensures.clause c.clause.ensures.formed wrong c.in_ok-mark.ensures.got

pub walk_from-requires-clause-behind : goal.walk_from-requires-clause-behind
walk_from-requires-clause-behind c =
    subst (λ (ls : List Lit). AreUnseen ls c.mark.new.marks (c.in-Some.last + 1) (length c.args.trail.now.lits)) c.lits.ensures (subst (λ (n : ℕ). AreUnseen c.lits.result.now c.mark.new.marks (c.in-Some.last + 1) n) c.len.ensures c.in-Some.ensures.3)

pub returns-in-None-clause-so_far : goal.returns-in-None-clause-so_far
returns-in-None-clause-so_far c =
    let clause = c.clause.result.now in
    let same : c.requires.wrong.clause ≡ clause = same_Some c.requires.wrong.clause clause (sym c.requires.wrong.clause_at ∙ c.clause.ensures.clause) in
    let wrong = still_wrong c.args.trail.now.lits c.requires.wrong.clause clause same c.requires.wrong.refuted in
    wrong_so_far (clauses_of c.args.trace.now) c.args.trail.now c.args.wrong clause c.clear.new.self.items c.clear-2.new.self c.mark.new.marks c.is_sound.ensures.sound (same_long c.args.self.now.marks c.clear-2.new.self c.clear-2.ensures ∙ c.requires.room) (emptied c.args.self.now.marks c.clear-2.new.self c.clear-2.ensures) c.clear.ensures.items c.clause.ensures.clause c.clause.ensures.formed wrong c.in_ok-mark.ensures.got

pub returns-in-None-clause-walked : goal.returns-in-None-clause-walked
returns-in-None-clause-walked c =
    subst (λ (ls : List Lit). AreUnseen ls c.mark.new.marks 0 (length c.args.trail.now.lits)) c.lits.ensures (subst (λ (n : ℕ). AreUnseen c.lits.result.now c.mark.new.marks 0 n) c.len.ensures c.in-None.ensures)
