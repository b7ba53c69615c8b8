use Rattle.std.proofs.Common.{◌≡◌, List, ℕ, refl, sym, subst}
use Rattle.std.specs.BTreeMap.{values}
use Rattle.std.specs.List.{IsDistinct}
use Rattle.std.specs.Str.{bytes_eq}
use Rattle.std.proofs.lemmas.List.{length-map}
use Rattle.std.proofs.lemmas.Result.{IfOk-weaker}
use Rattle.eco_gates.specs.declared.gate.NetId.{NetId}
use Rattle.eco_netlist.specs.declared.tally.Tally.{Tally}
use Rattle.eco_netlist.specs.Netlists.{names_at}
use Rattle.eco_netlist.specs.Tallies.{is_free}
use Rattle.eco_netlist.specs.Targets.{AreFree, HasTargets, AreCounts}
use Rattle.eco_netlist.proofs.TargetLemmas.{free_values}
use Rattle.eco_netlist.proofs.target.targets_of.Goals as goal

pub returns : goal.returns
returns c =
    IfOk-weaker c.in_order.result (λ nets. nets.items ≡ values c.in_ok-targets.targets)
    (λ nets. (counts : List ℕ → Tally) → IsDistinct bytes_eq (names_at c.args.names.now c.args.nets.now) → AreCounts c.args.names.now c.args.tallies.now counts
    → AreFree (λ name. is_free c.args.rule name (counts name)) (names_at c.args.names.now c.args.nets.now) nets.items)
    (λ nets same counts distinct counted.
    subst (λ (xs : List NetId). AreFree (λ name. is_free c.args.rule name (counts name)) (names_at c.args.names.now c.args.nets.now) xs) (sym same)
    (free_values (λ name. is_free c.args.rule name (counts name)) (names_at c.args.names.now c.args.nets.now) c.in_ok-targets.targets
    (subst (λ (seen : ℕ). HasTargets (λ name. is_free c.args.rule name (counts name)) (names_at c.args.names.now c.args.nets.now) seen c.in_ok-targets.targets)
    (rw length-map refl)
    (c.in_ok-targets.ensures counts distinct counted))))
    c.in_order.ensures
