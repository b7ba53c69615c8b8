-- No port is unlike exactly where the ports are the same.
use Rattle.std.proofs.Common.{refl, sym, ◌∙◌}
use Rattle.std.proofs.lemmas.Bool.{false≢true}
use Rattle.std.proofs.lemmas.Option.{MatchOption-at_none, MatchOption-at_some}
use Rattle.eco_equality.proofs.SamePorts.{same_ports, never_unlike}
use Rattle.eco_equality.proofs.ports.have_same_ports.Goals as goal

pub returns-in-None : goal.returns-in-None
returns-in-None c = (
  λ _. same_ports c.args.left.now c.args.right.now c.nets.ensures.checked c.nets-2.ensures.checked (MatchOption-at_none _ _ c.in-None.is c.unlike_port.ensures),
  λ _. refl,
)

pub returns-in-Some : goal.returns-in-Some
returns-in-Some c = (
  λ e. absurd (false≢true e),
  λ same.
      let first = MatchOption-at_some _ _ c.in-Some.field-0 c.in-Some.is c.unlike_port.ensures in
      absurd (false≢true (sym (never_unlike c.args.left.now c.args.right.now c.nets.ensures.checked c.nets-2.ensures.checked same c.in-Some.field-0.now) ∙ first.0)),
)
