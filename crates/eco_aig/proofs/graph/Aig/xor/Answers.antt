-- Just one of two bits is 1 where the first is and not the second, or the second and not the first.
use Rattle.std.proofs.Common.{Bool, ℕ, not, ◌&&◌, ◌||◌, ap, ◌∙◌}
use Rattle.std.proofs.lemmas.Result.{IfOk-weaker}
use Rattle.eco_lists.specs.Bits.{exactly_one}
use Rattle.eco_aig.specs.Edges.{value_of}
use Rattle.eco_aig.specs.Graph.{HasValue}
use Rattle.eco_aig.proofs.Growing.{grows_join}
use Rattle.eco_aig.proofs.Conjunctions.{value_of_or, value_as, exactly_one_by_or}
use Rattle.eco_aig.proofs.graph.Aig.xor.Goals as goal

pub returns-clause-value : goal.returns-clause-value
returns-clause-value c =
    let a = c.args.a in
    let b = c.args.b in
    let p = c.in_ok-first_alone.first_alone in
    let q = c.in_ok-second_alone.second_alone in
    let f = λ (w : ℕ → Bool). value_of w a && value_of w c.not.result in
    let g = λ (w : ℕ → Bool). value_of w c.not-2.result && value_of w b in
    IfOk-weaker c.or.result (λ e. HasValue c.or.new.self e (λ w. value_of w p || value_of w q)) (λ e. HasValue c.or.new.self e (λ w. exactly_one (value_of w a) (value_of w b))) (λ e has.
    value_as c.or.new.self e (λ w. f w || g w) (λ w. exactly_one (value_of w a) (value_of w b)) (λ w.
    ap (λ x. (value_of w a && x) || g w) (c.not.ensures.value w) ∙ ap (λ x. (value_of w a && not (value_of w b)) || (x && value_of w b)) (c.not-2.ensures.value w) ∙ exactly_one_by_or (value_of w a) (value_of w b)) (
    value_of_or c.and.new.self c.and-2.new.self c.or.new.self 1 1 p q e f g c.in_ok-first_alone.ensures.value c.and-2.ensures.grows c.in_ok-second_alone.ensures.value c.or.ensures.grows has)) c.or.ensures.value

pub returns-clause-grows : goal.returns-clause-grows
returns-clause-grows c =
    grows_join c.args.self.now c.and-2.new.self c.or.new.self 2 1 (grows_join c.args.self.now c.and.new.self c.and-2.new.self 1 1 c.and.ensures.grows c.and-2.ensures.grows) c.or.ensures.grows
