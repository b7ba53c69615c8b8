-- Marks of nodes that lines read, against marks of nodes that roots reach.
use Rattle.std.proofs.Common.{◌≡◌, ℕ, true, false, List, [], length, get_or, sym, ◌∙◌, ap, subst, arith}
use Rattle.std.proofs.lemmas.List.{length-replicate}
use Rattle.std.specs.List.{Contains}
use Rattle.eco_aig.proofs.MarkLemmas.{mark_within}
use Rattle.eco_splice.specs.Tables.{AreReadMarks}
use Rattle.eco_splice.proofs.TableLemmas.{read_none}
use Rattle.eco_splice.proofs.readiness.read_inputs.Goals as goal

pub mark_lines-requires : goal.mark_lines-requires
mark_lines-requires c = record { none = subst (λ marks. AreReadMarks (length marks) [] marks) (sym (c.in_ok-read.ensures.items_if_clones_equal (λ y same. same))) (read_none c.nodes.result) }

pub returns : goal.returns
returns c = (
  (λ is node member reached.
      let input = subst (λ (l : List ℕ). Contains l node) (sym c.inputs.ensures) member in
      let first : get_or c.as_slice.result.now node false ≡ true = ap (λ l. get_or l node false) c.as_slice.ensures.value ∙ c.in_ok-marks.ensures.complete node reached in
      let second = c.are_marked.ensures.0 is node input first in
      c.mark_lines.ensures.only node (ap (λ l. get_or l node false) (sym c.as_slice-2.ensures.value) ∙ second)),
  (λ reads. c.are_marked.ensures.1 (λ node member mark.
      let reached : get_or c.in_ok-marks.marks.items node false ≡ true = ap (λ l. get_or l node false) (sym c.as_slice.ensures.value) ∙ mark in
      let within = mark_within c.in_ok-marks.marks.items node reached in
      let len = c.in_ok-marks.ensures.len in
      let size = ap length (c.in_ok-read.ensures.items_if_clones_equal (λ y same. same)) ∙ length-replicate c.nodes.result false in
      let count = c.nodes.ensures.count in
      let read = reads node (subst (λ (l : List ℕ). Contains l node) c.inputs.ensures member) (c.in_ok-marks.ensures.sound node reached) in
      ap (λ l. get_or l node false) c.as_slice-2.ensures.value ∙ c.mark_lines.ensures.all node (omega (arith, within, len, size, count)) read)),
)
