use Rattle.std.proofs.Common.{ℕ, Some, sym, ◌∙◌, ap, subst, nat_cmp}
use Rattle.std.specs.BTreeMap.{Updates}
use Rattle.eco_netlist.specs.Tallies.{is_free}
use Rattle.eco_netlist.proofs.TargetLemmas.{target_kept, target_put, free_text}
use Rattle.eco_netlist.proofs.target.note_target.Goals as goal

pub returns-in_ok-insert : goal.returns-in_ok-insert
returns-in_ok-insert c = λ counts list distinct at counted has.
    target_put (λ name. is_free c.args.rule name (counts name))
    (λ name. free_text c.args.rule name (counts name))
    list c.args.number c.args.name.now c.args.targets.now c.insert.new.self distinct at
    (ap (is_free c.args.rule c.args.name.now) counted ∙ sym c.is_free.ensures ∙ c.if-is_free.true)
    (subst (λ (t : ℕ). Updates nat_cmp c.args.targets.now c.insert.new.self t (Some (record { 0 = c.args.number }))) c.target_number.ensures c.in_ok-insert.ensures.updates)
    c.in_ok-insert.ensures.ordered has

pub returns-else-is_free : goal.returns-else-is_free
returns-else-is_free c = λ counts list distinct at counted has.
    target_kept (λ name. is_free c.args.rule name (counts name)) list c.args.number c.args.name.now c.args.targets.now at
    (ap (is_free c.args.rule c.args.name.now) counted ∙ sym c.is_free.ensures ∙ c.if-is_free.false) has
