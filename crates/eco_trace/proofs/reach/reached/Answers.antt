-- The last node alone, one node less to treat, and all of them treated.
use Rattle.std.proofs.Common.{◌≡◌, ◌↔◌, ◌⊎◌, ◌<◌, ◌+◌, ◌-◌, ℕ, List, Bool, true, false, length, get_or, set, replicate, sym, ap, ◌∙◌, subst, arith, rules, length-set}
use Rattle.std.proofs.lemmas.Bool.{true≢false}
use Rattle.std.proofs.lemmas.List.{get_or_read, length-replicate}
use Rattle.eco_trace.specs.Core.{IsSet, Uses}
use Rattle.eco_trace.proofs.CoreLaws.{reaching_start, reaching_more, reaching_same, reaching_end}
use Rattle.eco_trace.proofs.reach.reached.Goals as goal
use Rattle.eco_trace.proofs.reach.reached.Goals.{then-index, else-index}

pub loop-back-init : goal.loop-back-init
loop-back-init c =
    let none = c.in_ok-marks.marks.items in
    let nodes = c.len-nodes.ensures in
    let free : none ≡ replicate c.len-nodes.result false = search rules in
    let empty = free ∙ ap (λ n. replicate n false) nodes in
    reaching_start c.args.trace.now none (set none (c.len-nodes.result - 1) true) (c.len-nodes.result - 0) empty (ap (λ n. set none (n - 1) true) nodes) c.requires (length-set none (c.len-nodes.result - 1) true ∙ ap (λ (list : List Bool). length list) free ∙ length-replicate c.len-nodes.result false ∙ nodes) (omega (arith, nodes))

pub loop-back-preserved : goal.loop-back-preserved
loop-back-preserved c =
    let p = c.args.trace.now in
    let old = c.loop-back.marks.items in
    let len = c.len-nodes.result in
    let back = c.loop-back.back in
    let node : ℕ = len - (back + 1) in
    let at : (len - 1) - back ≡ node = omega arith in
    let nodes = c.len-nodes.ensures in
    let count = c.loop-back.invariant.count in
    let some = c.requires in
    let step : node + 1 ≡ len - back = (let more = c.loop-back-test.true in omega (arith, more)) in
    let within : (len - 1) - back < length old = omega (arith, count, nodes, some) in
    let read : get_or old node false ≡ c.index.result.now = ap (λ n. get_or old n false) (sym at) ∙ sym (get_or_read old ((len - 1) - back) c.index.result.now within c.index.ensures false) in
    elim c.if-index.branch [
      | then-index w ↦
          let new = w.mark_chain.new.marks.items in
          rw w.marks-is (reaching_more p old new (len - back) node c.is_sound.ensures.legal step (read ∙ w.if-index.true) w.mark_chain.ensures.length (λ k. subst (λ (n : ℕ). IsSet new k ↔ (IsSet old k ⊎ Uses p n k)) at (w.mark_chain.ensures.marked k)) c.loop-back.invariant)
      | else-index w ↦
          rw w.marks-is (reaching_same p old (len - back) node step (λ is. true≢false (sym is ∙ read ∙ w.if-index.false)) c.loop-back.invariant)
    ]

pub returns-clause-reached : goal.returns-clause-reached
returns-clause-reached c =
    let end = c.loop-back-test.false in
    let first = c.originals.ensures in
    reaching_end c.args.trace.now c.loop-back.marks.items (c.len-nodes.result - c.loop-back.back) (omega (arith, end, first)) c.loop-back.invariant
