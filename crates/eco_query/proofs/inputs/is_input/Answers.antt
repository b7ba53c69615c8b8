use Rattle.std.proofs.Common.{◌∙◌}
use Rattle.eco_query.proofs.InputLemmas.{input-found}
use Rattle.eco_query.proofs.inputs.is_input.Goals as goal
use Rattle.eco_meaning.specs.Names.{has}

pub returns : goal.returns
returns c =
    let n = c.args.netlist.now in
    c.is_ok.ensures.value
    ∙ input-found n.ports n.wires n.inputs (has n.inputs) c.inputs.result.now c.args.net c.binary_search.result
    c.requires.checked.distinct c.inputs.ensures.within c.inputs.ensures.named c.requires.checked.inputs
    c.requires.net c.binary_search.ensures.bound c.binary_search.ensures.position
