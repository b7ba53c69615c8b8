-- A stamp is taken away.
use Rattle.std.proofs.Common.{◌≤◌, List, Bool, false, set, ap, ◌∙◌, arith}
use Rattle.std.proofs.lemmas.List.Elements.{All-set}
use Rattle.eco_learn.proofs.VarSetLaws.{put_out, found_less}
use Rattle.eco_learn.proofs.var_set.VarSet.remove.Goals as goal

pub invariant_of-self : goal.invariant_of-self
invariant_of-self c =
    let s = c.self.inside in (
      c.self.invariant.0,
      c.self.invariant.1,
      All-set (λ stamp. stamp ≤ s.present) s.stamps.items c.args.var.0 0 (omega arith) c.self.invariant.2,
      found_less _ _ s.found.items c.args.var.0 (put_out s.stamps.items s.present c.args.var.0 c.self.invariant.0) c.self.invariant.3,
    )

pub returns : goal.returns
returns c =
    put_out c.self.inside.stamps.items c.self.inside.present c.args.var.0 c.self.invariant.0 ∙ ap (λ (marks : List Bool). set marks c.args.var.0 false) c.self.view_is
