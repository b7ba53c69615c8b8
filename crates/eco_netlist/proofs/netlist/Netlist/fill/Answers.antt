-- What `eco_gates` says of the bits by their numbers holds by the names.
use Rattle.std.proofs.Common.{List, length, sym, ◌∙◌, ap, subst}
use Rattle.eco_gates.specs.GateValue.{GateValue}
use Rattle.eco_netlist.proofs.ValueLemmas.{IsNamed, IsFilled, named_parts, filled_by_name}
use Rattle.eco_netlist.proofs.netlist.Netlist.fill.Goals as goal

pub returns : goal.returns
returns c =
    let named : IsNamed c.args.self.now c.self.inside.names.keys c.self.inside.gates.items =
    named_parts c.self.inside c.args.self.now c.self.view_is c.self.invariant in
    let here : IsNamed c.args.self.now c.self.inside.names.keys c.as_slice.result.now =
    subst (λ (gates : List GateValue). IsNamed c.args.self.now c.self.inside.names.keys gates) (sym c.as_slice.ensures.value) named in
    let filled : IsFilled c.args.self.now c.args.values.now c.fill.new.values =
    filled_by_name c.args.self.now c.self.inside.names.keys c.as_slice.result.now c.args.values.now c.fill.new.values
    here (c.requires ∙ ap length named.numbers)
    c.fill.ensures.length c.fill.ensures.consistent c.fill.ensures.kept c.fill.ensures.only in
    record {
      length = c.fill.ensures.length;
      valued = filled.valued;
      consistent = filled.consistent;
      kept = filled.kept;
      only = filled.only;
    }
