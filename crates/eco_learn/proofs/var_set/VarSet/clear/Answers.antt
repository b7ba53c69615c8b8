-- No stamp is the present one.
use Rattle.std.proofs.Common.{◌≡◌, ◌+◌, ◌<◌, ◌≤◌, ◌==◌, List, Bool, ℕ, false, replicate, length, map, ap, sym, ◌∙◌, arith}
use Rattle.std.specs.Vec.{vec_len}
use Rattle.std.proofs.lemmas.List.{length-map, length-replicate}
use Rattle.std.proofs.lemmas.List.Elements.{All-weaker}
use Rattle.eco_learn.proofs.VarSetLaws.{none_in, none_filled, none_later, found_none}
use Rattle.eco_learn.proofs.var_set.VarSet.clear.Goals as goal

-- the set has a place for each stamp
places : (stamps : List ℕ) (present : ℕ) (marks : List Bool) → map (λ stamp. stamp == present) stamps ≡ marks → length stamps ≡ length marks
places stamps present marks e = sym (length-map stamps (λ (stamp : ℕ). stamp == present)) ∙ ap length e

pub invariant_of-self : goal.invariant_of-self
invariant_of-self c = (
  omega arith,
  omega arith,
  All-weaker (λ (n : ℕ). n < 1) (λ (n : ℕ). n ≤ 1) (λ n lt. omega arith) c.fill.new.self.items (none_filled c.fill.new.self.items (vec_len c.self.inside.stamps) (c.fill.ensures.items (λ y e. e))),
  found_none _ _ c.clear.new.self.items (none_in c.fill.new.self.items 1 (none_filled c.fill.new.self.items (vec_len c.self.inside.stamps) (c.fill.ensures.items (λ y e. e)))),
)

pub invariant_of-self-else-self : goal.invariant_of-self-else-self
invariant_of-self-else-self c =
    let s = c.self.inside in (
      omega arith,
      omega (arith, c.self.invariant.1, c.if-self.false),
      All-weaker (λ (n : ℕ). n ≤ s.present) (λ (n : ℕ). n ≤ s.present + 1) (λ n le. omega arith) s.stamps.items c.self.invariant.2,
      found_none _ _ c.clear.new.self.items (none_in s.stamps.items (s.present + 1) (none_later s.stamps.items s.present c.self.invariant.2)),
    )

pub returns-then-self : goal.returns-then-self
returns-then-self c =
    let old = c.self.inside.stamps in
    let items = c.fill.ensures.items (λ y e. e) in
    let long : length c.fill.new.self.items ≡ length c.args.self.now = ap length items ∙ length-replicate (vec_len old) 0 ∙ old.ok.0 ∙ places old.items c.self.inside.present c.args.self.now c.self.view_is in
    none_in c.fill.new.self.items 1 (none_filled c.fill.new.self.items (vec_len c.self.inside.stamps) (c.fill.ensures.items (λ y e. e))) ∙ ap (λ (n : ℕ). replicate n false) long

pub returns-else-self : goal.returns-else-self
returns-else-self c =
    let s = c.self.inside in
    none_in s.stamps.items (s.present + 1) (none_later s.stamps.items s.present c.self.invariant.2) ∙ ap (λ (n : ℕ). replicate n false) (places s.stamps.items s.present c.args.self.now c.self.view_is)
