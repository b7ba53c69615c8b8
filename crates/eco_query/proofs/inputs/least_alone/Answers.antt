use Rattle.std.proofs.Common.{arith, List, ℕ, subst}
use Rattle.std.specs.Option.{option_copied}
use Rattle.std.proofs.lemmas.List.{take_all}
use Rattle.eco_meaning.specs.Circuit.{names}
use Rattle.eco_query.specs.Ports.{is_alone, IsLeastOf}
use Rattle.eco_query.proofs.LeastLemmas.{least-more}
use Rattle.eco_query.proofs.PortLemmas.{has-named, named-at, length-names_at}
use Rattle.eco_query.proofs.inputs.least_alone.Goals as goal

pub alone-requires-clause-input : goal.alone-requires-clause-input
alone-requires-clause-input c =
    let n = c.args.netlist.now in
    has-named (names n) n.inputs c.inputs-input-items.result.now c.loop-input.input-index _ c.inputs-input-items.ensures.named (omega arith)

pub loop-input-preserved : goal.loop-input-preserved
loop-input-preserved c =
    let n = c.args.netlist.now in
    let nets = c.inputs-input-items.result.now in
    let count = length-names_at (names n) n.inputs nets c.inputs-input-items.ensures.named in
    least-more (is_alone n c.args.other.now) n.inputs c.loop-input.input-index _
    (option_copied c.loop-input.least) (option_copied c.alone.result) (option_copied c.earlier-least.result)
    (omega (arith, count))
    (named-at (names n) n.inputs nets c.loop-input.input-index record { 0 = 0 } c.inputs-input-items.ensures.named (omega arith))
    c.loop-input.invariant c.alone.ensures c.earlier-least.ensures

pub returns : goal.returns
returns c =
    let n = c.args.netlist.now in
    let count = length-names_at (names n) n.inputs c.inputs-input-items.result.now c.inputs-input-items.ensures.named in
    let P : List (List ℕ) → Type 0 = λ list. IsLeastOf (is_alone n c.args.other.now) list (option_copied c.loop-input.least) in
    subst P (take_all c.loop-input.input-index n.inputs (omega (arith, count))) c.loop-input.invariant
