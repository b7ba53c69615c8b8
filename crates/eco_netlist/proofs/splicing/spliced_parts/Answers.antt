use Rattle.std.proofs.Common.{◌≡◌, ◌++◌, ℕ, List, sym, ◌∙◌, ap, subst}
use Rattle.std.specs.List.{IsDistinct}
use Rattle.std.specs.Str.{bytes_eq}
use Rattle.eco_meaning.specs.Circuit.{Circuit, names}
use Rattle.eco_meaning.specs.Patch.{splice_of}
use Rattle.eco_netlist.proofs.Spliced.{distinct_names}
use Rattle.eco_netlist.proofs.SplicedLoops.{IsFitting}
use Rattle.eco_netlist.proofs.SplicedParts.{names_spliced}
use Rattle.eco_netlist.proofs.splicing.spliced_parts.Goals as goal

-- the names of both are those of the splice
both : (f p : Circuit) (nets wires : List (List ℕ)) → nets ≡ names f → wires ≡ p.wires → nets ++ wires ≡ names (splice_of f p)
both f p nets wires first second = ap (λ l. l ++ wires) first ∙ ap (λ l. names f ++ l) second ∙ names_spliced f p

pub joined-requires : goal.joined-requires
joined-requires c =
    let f = c.args.f.now in
    let p = c.args.p.now in
    let is : IsFitting f p c.requires.0 = record { netlist = c.net_names.ensures.checked; patch = c.wire_names.ensures.checked; fits = c.requires.1 } in
    subst (λ (l : List (List ℕ)). IsDistinct bytes_eq l) (sym (both f p c.net_names.result.now c.wire_names.result.now c.net_names.ensures.named c.wire_names.ensures.named)) (distinct_names f p c.requires.0 is)

pub spliced_gates-requires-clause-nets : goal.spliced_gates-requires-clause-nets
spliced_gates-requires-clause-nets c =
    c.in_ok-names.ensures ∙ both c.args.f.now c.args.p.now c.net_names.result.now c.wire_names.result.now c.net_names.ensures.named c.wire_names.ensures.named

pub returns-in-Ok : goal.returns-in-Ok
returns-in-Ok c = record {
  title = c.in_ok-title.ensures.same ∙ c.module.ensures;
  nets = c.in_ok-names.ensures ∙ both c.args.f.now c.args.p.now c.net_names.result.now c.wire_names.result.now c.net_names.ensures.named c.wire_names.ensures.named;
  gates = c.in-Ok.ensures;
}
