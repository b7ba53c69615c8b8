use Rattle.std.proofs.Common.{ap, sym, length, ◌∙◌}
use Rattle.std.proofs.lemmas.Bool.{eqb-false}
use Rattle.eco_weight.proofs.LineLemmas.{reads_pair}
use Rattle.eco_weight.proofs.line.read_line.Goals as goal

pub returns : goal.returns
returns c =
    let named = rw c.named_by.ensures at c.in_ok-name.ensures.exactly in
    rw c.pair_of.ensures
    (reads_pair c.args.line.now c.next_word.result.0.now c.next_word.result.1.now c.next_word-2.result.0.now c.next_word-2.result.1.now c.in_ok-name.name c.weight_of.result c.are_blank.result
    c.next_word.ensures
    (λ e. eqb-false _ 0 (sym c.is_empty.ensures ∙ c.if-is_empty.false) (ap length e))
    c.next_word-2.ensures
    named
    c.weight_of.ensures.some
    c.weight_of.ensures.none
    c.are_blank.ensures)
