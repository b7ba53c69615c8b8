use Rattle.std.proofs.Common.{◌≡◌, List, length, sym, ap, ◌∙◌, subst}
use Rattle.std.specs.Prelude.{All}
use Rattle.std.proofs.lemmas.List.{length-map}
use Rattle.std.proofs.lemmas.Option.{slice_get_within}
use Rattle.eco_gates.specs.declared.gate.Term.{Term}
use Rattle.eco_gates.specs.GateValue.{GateValue}
use Rattle.eco_meaning.specs.Gates.{FitsKind}
use Rattle.eco_netlist.specs.Numbering.{term_nets, HasNets}
use Rattle.eco_netlist.proofs.PlacedLemmas.{at_place, has_terms}
use Rattle.eco_netlist.proofs.placing.placed_gate.Goals as goal

pub placed_terms-requires : goal.placed_terms-requires
placed_terms-requires c =
    subst (λ (ts : List Term). All (λ term. HasNets c.args.numbering.now.nets (term_nets term)) ts)
    (ap (λ (g : GateValue). g.ins) (sym c.gate.view_is) ∙ sym c.as_slice.ensures) (has_terms c.args.numbering.now.nets c.args.gate.now c.requires.has)

pub returns-clause-placed : goal.returns-clause-placed
returns-clause-placed c =
    let out = at_place c.args.numbering.now.nets c.place-out.result c.gate.inside.out c.place-out.ensures in
    let ins = c.in_ok-ins.ensures.placed ∙ c.as_slice.ensures in
    (λ i. record { kind = c.gate.inside.kind; out = out i; ins = ins i }) ∙ c.gate.view_is

pub returns-clause-within : goal.returns-clause-within
returns-clause-within c =
    let count : length c.in_ok-ins.ins.items ≡ length c.args.gate.now.ins =
    rw length-map at (ap length (c.in_ok-ins.ensures.placed ∙ c.as_slice.ensures ∙ ap (λ (g : GateValue). g.ins) c.gate.view_is)) in
    record {
      out = slice_get_within c.args.numbering.now.nets c.place-out.result.0 c.gate.inside.out c.place-out.ensures;
      ins = c.in_ok-ins.ensures.within;
      kind = subst (FitsKind c.gate.inside.kind) (sym count) (subst (λ k. FitsKind k (length c.args.gate.now.ins)) (ap (λ (g : GateValue). g.kind) (sym c.gate.view_is)) c.requires.fits);
    }
