-- The choice is the first edge where the selector is 1, or the second where it is 0.
use Rattle.std.proofs.Common.{Bool, ℕ, ◌&&◌, ◌||◌, cond, ap, ◌∙◌}
use Rattle.std.proofs.lemmas.Result.{IfOk-weaker}
use Rattle.eco_aig.specs.Edges.{value_of}
use Rattle.eco_aig.specs.Graph.{HasValue}
use Rattle.eco_aig.proofs.Conjunctions.{value_of_or, value_as, choice_by_or}
use Rattle.eco_aig.proofs.graph.Aig.mux.Goals as goal

pub returns-clause-value : goal.returns-clause-value
returns-clause-value c =
    let s = c.args.s in
    let a = c.args.a in
    let b = c.args.b in
    let p = c.in_ok-where_one.where_one in
    let q = c.in_ok-where_zero.where_zero in
    let f = λ (w : ℕ → Bool). value_of w s && value_of w a in
    let g = λ (w : ℕ → Bool). value_of w c.not.result && value_of w b in
    IfOk-weaker c.or.result (λ e. HasValue c.or.new.self e (λ w. value_of w p || value_of w q)) (λ e. HasValue c.or.new.self e (λ w. cond (value_of w s) (value_of w a) (value_of w b))) (λ e has.
    value_as c.or.new.self e (λ w. f w || g w) (λ w. cond (value_of w s) (value_of w a) (value_of w b)) (λ w.
    ap (λ x. f w || (x && value_of w b)) (c.not.ensures.value w) ∙ choice_by_or (value_of w s) (value_of w a) (value_of w b)) (
    value_of_or c.and.new.self c.and-2.new.self c.or.new.self 1 1 p q e f g c.in_ok-where_one.ensures.value c.and-2.ensures.grows c.in_ok-where_zero.ensures.value c.or.ensures.grows has)) c.or.ensures.value
