use Rattle.std.proofs.Common.{◌≡◌, ◌++◌, ℕ, List, [], ◌∙◌, sym, subst}
use Rattle.std.specs.List.{IsDistinct}
use Rattle.std.specs.Str.{bytes_eq}
use Rattle.std.proofs.lemmas.List.{append-nil}
use Rattle.eco_gates.specs.GateValue.{GateValue}
use Rattle.eco_meaning.specs.Circuit.{names}
use Rattle.eco_netlist.specs.Netlists.{AreGates}
use Rattle.eco_netlist.proofs.splicing.copied_parts.Goals as goal

pub joined-requires : goal.joined-requires
joined-requires c =
    let nets : c.net_names.result.now ++ [] ≡ names c.args.n.now = append-nil c.net_names.result.now ∙ c.net_names.ensures.named in
    subst (λ (l : List (List ℕ)). IsDistinct bytes_eq l) (sym nets) c.net_names.ensures.checked.distinct

pub returns-clause-parts : goal.returns-clause-parts
returns-clause-parts c = record {
  title = c.in_ok-title.ensures.same ∙ c.module.ensures;
  nets = c.in_ok-names.ensures ∙ append-nil c.net_names.result.now ∙ c.net_names.ensures.named;
  gates = subst (λ (gates : List GateValue). AreGates c.args.n.now gates) (sym c.in_ok-gates.ensures) (record { named = c.gates.ensures.named; within = c.gates.ensures.within });
}
