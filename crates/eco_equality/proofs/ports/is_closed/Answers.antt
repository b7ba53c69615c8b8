-- The list of targets is empty exactly where there is no target.
use Rattle.std.proofs.Common.{◌≡◌, ℕ, List, [], length, sym, ◌∙◌, ap, subst}
use Rattle.std.proofs.lemmas.List.{length-map, nil_from_length}
use Rattle.std.proofs.lemmas.Bool.{eq-eqb, eqb-true}
use Rattle.eco_meaning.specs.Circuit.{names, AreTargets}
use Rattle.eco_gates.specs.declared.gate.NetId.{NetId}
use Rattle.eco_netlist.specs.Netlists.{name_at, names_at}
use Rattle.eco_equality.proofs.SamePorts.{no_target, none_listed}
use Rattle.eco_equality.proofs.ports.is_closed.Goals as goal

-- no names are those of no nets
no_nets : (list : List (List ℕ)) (nets : List NetId) → names_at list nets ≡ [] → length nets ≡ 0
no_nets list nets none = sym (length-map nets (λ (net : NetId). name_at list net.0)) ∙ ap length none

pub returns : goal.returns
returns c =
    let n = c.args.netlist.now in
    let nets = c.targets.result.now in (
      λ empty.
          let none : nets ≡ [] = nil_from_length nets (eqb-true (length nets) 0 (sym c.is_empty.ensures ∙ empty)) in
          no_target n (subst (λ (list : List NetId). AreTargets n (names_at (names n) list)) none c.targets.ensures.named),
      λ closed.
          c.is_empty.ensures ∙ eq-eqb (length nets) 0 (no_nets (names n) nets (none_listed n (names_at (names n) nets) c.targets.ensures.named closed)),
    )
