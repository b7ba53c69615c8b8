use Rattle.std.proofs.Common.{List, ℕ, ◌∙◌, sym, subst, length}
use Rattle.std.proofs.lemmas.Bool.{false≢true, eqb-true, eqb-false}
use Rattle.std.proofs.lemmas.List.{length-map}
use Rattle.eco_meaning.specs.Circuit.{names, AreTargets}
use Rattle.eco_netlist.specs.Netlists.{names_at}
use Rattle.eco_netlist.proofs.MisfitLemmas.{closed_from, none_from, targets_unique}
use Rattle.eco_netlist.proofs.fitting.drives_targets.Goals as goal

pub returns-then-not-is_empty : goal.returns-then-not-is_empty
returns-then-not-is_empty c = (
  λ holds. absurd (false≢true holds),
  λ drives.
      let none = simp length-map at (none_from c.args.p.now (names_at (names c.args.p.now) c.targets.result.now) c.targets.ensures.named drives.closed) in
      absurd (eqb-false (length c.targets.result.now) 0 (sym c.is_empty.ensures ∙ c.if-not-is_empty.true) none),
)

pub returns : goal.returns
returns c =
    let f = c.args.f.now in
    let p = c.args.p.now in (
      λ holds.
          let none = eqb-true (length c.targets.result.now) 0 (sym c.is_empty.ensures ∙ c.if-not-is_empty.false) in
          record {
            closed = closed_from p (names_at (names p) c.targets.result.now) c.targets.ensures.named (rw length-map none);
            drives = subst (λ (l : List (List ℕ)). AreTargets f l) (c.are_named_alike.ensures.0 holds ∙ c.outputs.ensures.named) c.targets-2.ensures.named;
          },
      λ drives. c.are_named_alike.ensures.1 (targets_unique f _ p.outputs c.targets-2.ensures.named drives.drives ∙ sym c.outputs.ensures.named),
    )
