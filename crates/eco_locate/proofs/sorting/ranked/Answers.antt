-- The nets of the entries are the given ones, and sorting only changes their order.
use Rattle.std.proofs.Common.{map, sym, ◌∙◌, ap, subst}
use Rattle.std.proofs.lemmas.List.Sorted.{IsPermutation-map}
use Rattle.std.proofs.lemmas.Result.{IfOk-weaker}
use Rattle.eco_lists.proofs.Members.{map-map}
use Rattle.eco_gates.specs.declared.gate.NetId.{NetId}
use Rattle.eco_locate.specs.declared.ranking.Entry.{Entry}
use Rattle.eco_locate.specs.declared.ranking.Ranked.{Ranked}
use Rattle.eco_locate.specs.Moves.{IsRearranged}
use Rattle.eco_locate.proofs.RankingLemmas.{permuted}
use Rattle.eco_locate.proofs.sorting.ranked.Goals as goal

pub returns : goal.returns
returns c =
    let net : Ranked → NetId = λ r. r.net in
    let choice : Entry → Ranked = λ e. e.ranked in
    let before = c.in_ok-entries.entries.items in
    let after = c.sort_entries.new.entries.items in
    let moved = permuted (map (λ e. net (choice e)) before) (map (λ e. net (choice e)) after) (IsPermutation-map (λ e. net (choice e)) before after c.sort_entries.ensures) in
    let from = subst (λ nets. IsRearranged nets (map (λ e. net (choice e)) after)) c.in_ok-entries.ensures moved in
    IfOk-weaker c.choices_of.result _ (λ ranked. IsRearranged c.args.nets.now (map net ranked.items))
    (λ ranked is. subst (IsRearranged c.args.nets.now) (sym (ap (map net) (is ∙ ap (map choice) c.as_slice.ensures.value) ∙ map-map choice net after)) from)
    c.choices_of.ensures
