use Rattle.std.proofs.Common.{◌≡◌, sym, ◌∙◌, ap, true, false, not}
use mathlib.Core.Bool.{beq}
use Rattle.eco_meaning.specs.Names.{has}
use Rattle.eco_meaning.specs.Circuit.{names}
use Rattle.eco_netlist.specs.Netlists.{name_at}
use Rattle.eco_query.proofs.UnlikeLemmas.{unlike-no_net, unlike-no_port, unlike-port, name_at-from_slice_get}
use Rattle.eco_query.proofs.ports.differs.Goals as goal

pub returns-in-None : goal.returns-in-None
returns-in-None c =
    let n = c.args.netlist.now in
    let o = c.args.other.now in
    let name = name_at-from_slice_get (names n) c.args.port.0 c.name_of.result.now c.name_of.ensures in
    let absent : has (names o) (name_at (names n) c.args.port.0) ≡ false = ap (has (names o)) name ∙ c.in-None.ensures in
    sym (unlike-no_net n o (name_at (names n) c.args.port.0) c.requires.port absent)

pub returns-then-not-is_port : goal.returns-then-not-is_port
returns-then-not-is_port c =
    let n = c.args.netlist.now in
    let o = c.args.other.now in
    let here = name_at-from_slice_get (names n) c.args.port.0 c.name_of.result.now c.name_of.ensures in
    let there = name_at-from_slice_get (names o) c.in-Some.net.0 c.name_of.result.now c.in-Some.ensures in
    let no_port : has o.ports (name_at (names n) c.args.port.0) ≡ false =
    ap (has o.ports) (here ∙ sym there) ∙ sym c.is_port.ensures ∙ c.if-not-is_port.true in
    ap not c.if-not-is_port.true ∙ sym (unlike-no_port n o (name_at (names n) c.args.port.0) c.requires.port no_port)

pub returns-else-not-is_port : goal.returns-else-not-is_port
returns-else-not-is_port c =
    let n = c.args.netlist.now in
    let o = c.args.other.now in
    let here = name_at-from_slice_get (names n) c.args.port.0 c.name_of.result.now c.name_of.ensures in
    let there = name_at-from_slice_get (names o) c.in-Some.net.0 c.name_of.result.now c.in-Some.ensures in
    let port : has o.ports (name_at (names n) c.args.port.0) ≡ true =
    ap (has o.ports) (here ∙ sym there) ∙ sym c.is_port.ensures ∙ c.if-not-is_port.false in
    let unlike = unlike-port n o (name_at (names n) c.args.port.0) c.requires.checked c.requires.other_checked c.requires.port port in
    let other_input = c.is_input-else-not-is_port.ensures ∙ ap (has o.inputs) (there ∙ sym here) in
    ap (λ i. not (beq i c.is_input-else-not-is_port.result)) c.is_input.ensures
    ∙ ap (λ j. not (beq (has n.inputs (name_at (names n) c.args.port.0)) j)) other_input
    ∙ sym unlike
