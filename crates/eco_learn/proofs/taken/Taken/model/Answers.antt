-- Each literal is true where its variable has its value.
use Rattle.std.proofs.Common.{◌≡◌, ◌∙◌, List, Option, Bool, false, Contains, length, map, drop, ap, sym, subst}
use Rattle.std.specs.Option.{unwrap_or}
use Rattle.std.specs.Vec.{vec_capacity}
use Rattle.eco_trace.specs.Clauses.{IsTrueIn, valuation_of}
use Rattle.eco_learn.specs.TakenLits.{Literals}
use Rattle.eco_learn.proofs.TakenLaws.{bits_true, bits_all}
use Rattle.eco_learn.proofs.taken.Taken.model.Goals as goal

bits_are : (c : goal.After-new) → c.new.result ≡ map (λ value. unwrap_or value false) (drop 1 c.self.inside.values.items)
bits_are c = c.new.ensures ∙ c.in_ok-values.ensures ∙ ap (λ (vs : List (Option Bool)). map (λ value. unwrap_or value false) (drop 1 vs)) c.as_slice.ensures.value

pub returns-clause-all : goal.returns-clause-all
returns-clause-all c =
    let t = c.self.inside in
    ap length (bits_are c) ∙ bits_all t.vars t.values.items t.places.items t.lits.items (vec_capacity t.lits) c.self.invariant ∙ ap (λ (k : Literals). k.vars) c.self.view_is

pub returns-clause-each : goal.returns-clause-each
returns-clause-each c = λ l m.
    let t = c.self.inside in
    let kept = subst (λ (k : Literals). Contains k.lits l) (sym c.self.view_is) m in
    subst (λ (bits : List Bool). IsTrueIn (valuation_of bits) l) (sym (bits_are c)) (bits_true t.vars t.values.items t.places.items t.lits.items (vec_capacity t.lits) l c.self.invariant kept)
