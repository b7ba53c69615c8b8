use Rattle.std.proofs.Common.{◌≡◌, true, ◌∷◌, [], drop, refl, ap, ◌∙◌, sym, subst, rules, arith}
use Rattle.eco_tokens.specs.declared.fronts.Front.TheVariants.{Gap, Found, Bad}
use Rattle.eco_tokens.specs.Forms.{has_form}
use Rattle.eco_tokens.specs.Said.{said_of}
use Rattle.eco_tokens.specs.Ahead.{tokens_ahead}
use Rattle.eco_tokens.proofs.Steps.{gap_fits, found_fits}
use Rattle.eco_tokens.proofs.Ahead.{ahead_front, ahead_end, found_form}
use Rattle.eco_tokens.proofs.first_token.Goals as goal

pub split_at-requires : goal.split_at-requires
split_at-requires c = (gap_fits c.loop-rest.rest.now c.in-Gap.count c.in-Gap.ensures).1

pub loop-rest-smaller : goal.loop-rest-smaller
loop-rest-smaller c =
    let fits = gap_fits c.loop-rest.rest.now c.in-Gap.count c.in-Gap.ensures in
    omega arith

pub loop-rest-preserved : goal.loop-rest-preserved
loop-rest-preserved c = record {
  same = c.loop-rest.invariant.same
      ∙ ahead_front c.loop-rest.rest.now (Gap c.in-Gap.count) c.in-Gap.ensures (search rules)
      ∙ ap tokens_ahead (sym c.split_at.ensures.back);
  shorter = (let fits = gap_fits c.loop-rest.rest.now c.in-Gap.count c.in-Gap.ensures in omega arith);
}

pub split_at-requires-in-Found : goal.split_at-requires-in-Found
split_at-requires-in-Found c = (found_fits c.loop-rest.rest.now c.in-Found.kind c.in-Found.count c.in-Found.ensures).1

pub returns-in-Found-clause-value : goal.returns-in-Found-clause-value
returns-in-Found-clause-value c =
    c.loop-rest.invariant.same
    ∙ ahead_front c.loop-rest.rest.now (Found c.in-Found.kind c.in-Found.count) c.in-Found.ensures (search rules)
    ∙ ap (λ text. record { kind = c.in-Found.kind; text = text } ∷ tokens_ahead (drop c.in-Found.count c.loop-rest.rest.now)) (sym c.split_at-in-Found.ensures.front)
    ∙ ap (λ rest. record { kind = c.in-Found.kind; text = c.split_at-in-Found.result.0.now } ∷ tokens_ahead rest) (sym c.split_at-in-Found.ensures.back)

pub returns-in-Found-clause-names : goal.returns-in-Found-clause-names
returns-in-Found-clause-names c = λ _.
    subst (λ text. has_form c.in-Found.kind text ≡ true) (sym c.split_at-in-Found.ensures.front) (found_form c.loop-rest.rest.now c.in-Found.kind c.in-Found.count c.in-Found.ensures)

pub returns-in-Found-clause-fewer : goal.returns-in-Found-clause-fewer
returns-in-Found-clause-fewer c =
    let fits = found_fits c.loop-rest.rest.now c.in-Found.kind c.in-Found.count c.in-Found.ensures in
    omega arith

pub returns-in-Bad-clause-value : goal.returns-in-Bad-clause-value
returns-in-Bad-clause-value c =
    c.loop-rest.invariant.same
    ∙ ahead_front c.loop-rest.rest.now Bad c.in-Bad.ensures (search rules)
    ∙ ap (λ said. said ∷ []) (sym c.nothing.ensures)
    ∙ ap (λ more. said_of c.nothing.result ∷ more) (sym (ahead_end [] refl))

pub returns-clause-value : goal.returns-clause-value
returns-clause-value c = c.loop-rest.invariant.same ∙ ahead_end c.loop-rest.rest.now (search rules)
