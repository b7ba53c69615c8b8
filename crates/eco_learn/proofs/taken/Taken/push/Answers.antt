-- One more literal.
use Rattle.std.proofs.Common.{◌≡◌, length, sym, ◌∙◌, subst, arith}
use Rattle.std.specs.Vec.{vec_capacity}
use Rattle.eco_trace.specs.Clauses.{IsVarWithin}
use Rattle.eco_trace.specs.Freshness.{Lacks}
use Rattle.eco_learn.specs.TakenLits.{Literals}
use Rattle.eco_learn.proofs.TakenLaws.{kept_push, kept_room}
use Rattle.eco_learn.proofs.taken.Taken.push.Goals as goal

pub invariant_of-self : goal.invariant_of-self
invariant_of-self c =
    let t = c.self.inside in
    let within : IsVarWithin t.vars c.args.lit = subst (λ (k : Literals). IsVarWithin k.vars c.args.lit) (sym c.self.view_is) c.requires.within in
    let lacking : Lacks t.lits.items c.args.lit = subst (λ (k : Literals). Lacks k.lits c.args.lit) (sym c.self.view_is) c.requires.lacking in
    let end : c.len-place.result ≡ length t.lits.items = c.len-place.ensures ∙ t.lits.ok.0 in
    rw (c.in-Ok.ensures.items, end) (kept_push t.vars t.values.items t.places.items t.lits.items (vec_capacity t.lits) (vec_capacity c.push.new.self) c.args.lit c.self.invariant within lacking c.in-Ok.ensures.capacity)

pub unreachable-requires : goal.unreachable-requires
unreachable-requires c =
    let t = c.self.inside in
    let within : IsVarWithin t.vars c.args.lit = subst (λ (k : Literals). IsVarWithin k.vars c.args.lit) (sym c.self.view_is) c.requires.within in
    let lacking : Lacks t.lits.items c.args.lit = subst (λ (k : Literals). Lacks k.lits c.args.lit) (sym c.self.view_is) c.requires.lacking in
    let room = kept_room t.vars t.values.items t.places.items t.lits.items (vec_capacity t.lits) c.args.lit c.self.invariant within lacking in
    omega (arith, room, c.self.invariant.roomy, t.lits.ok.0, c.in-Err.ensures.full)
