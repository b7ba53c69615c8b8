use Rattle.std.proofs.Common.{arith, List, ℕ, subst}
use Rattle.std.specs.Option.{option_copied}
use Rattle.std.proofs.lemmas.List.{take_all}
use Rattle.eco_meaning.specs.Circuit.{names}
use Rattle.eco_query.specs.Ports.{is_unlike, IsLeastOf}
use Rattle.eco_query.proofs.LeastLemmas.{least-more}
use Rattle.eco_query.proofs.PortLemmas.{has-named, named-at, length-names_at}
use Rattle.eco_query.proofs.ports.least_unlike.Goals as goal

pub unlike-requires-clause-port : goal.unlike-requires-clause-port
unlike-requires-clause-port c =
    let n = c.args.netlist.now in
    has-named (names n) n.ports c.ports-port-items.result.now c.loop-port.port-index _ c.ports-port-items.ensures.named (omega arith)

pub loop-port-preserved : goal.loop-port-preserved
loop-port-preserved c =
    let n = c.args.netlist.now in
    let nets = c.ports-port-items.result.now in
    let count = length-names_at (names n) n.ports nets c.ports-port-items.ensures.named in
    least-more (is_unlike n c.args.other.now) n.ports c.loop-port.port-index _
    (option_copied c.loop-port.least) (option_copied c.unlike.result) (option_copied c.earlier-least.result)
    (omega (arith, count))
    (named-at (names n) n.ports nets c.loop-port.port-index record { 0 = 0 } c.ports-port-items.ensures.named (omega arith))
    c.loop-port.invariant c.unlike.ensures c.earlier-least.ensures

pub returns : goal.returns
returns c =
    let n = c.args.netlist.now in
    let count = length-names_at (names n) n.ports c.ports-port-items.result.now c.ports-port-items.ensures.named in
    let P : List (List ℕ) → Type 0 = λ list. IsLeastOf (is_unlike n c.args.other.now) list (option_copied c.loop-port.least) in
    subst P (take_all c.loop-port.port-index n.ports (omega (arith, count))) c.loop-port.invariant
