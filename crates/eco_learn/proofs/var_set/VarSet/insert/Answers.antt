-- A stamp is written, and the literal is noted.
use Rattle.std.proofs.Common.{◌≤◌, List, Bool, true, set, ap, ◌∙◌, arith}
use Rattle.std.proofs.lemmas.List.Elements.{All-set}
use Rattle.eco_learn.proofs.VarSetLaws.{put_in, found_more}
use Rattle.eco_learn.proofs.var_set.VarSet.insert.Goals as goal

pub invariant_of-self-2 : goal.invariant_of-self-2
invariant_of-self-2 c =
    let s = c.self.inside in (
      c.self.invariant.0,
      c.self.invariant.1,
      All-set (λ stamp. stamp ≤ s.present) s.stamps.items c.args.lit.var.0 s.present (omega arith) c.self.invariant.2,
      rw c.in_ok-push.ensures.items (found_more _ _ s.found.items c.args.lit (put_in s.stamps.items s.present c.args.lit.var.0) c.self.invariant.3),
    )

pub returns-clause-ok : goal.returns-clause-ok
returns-clause-ok c =
    put_in c.self.inside.stamps.items c.self.inside.present c.args.lit.var.0 ∙ ap (λ (marks : List Bool). set marks c.args.lit.var.0 true) c.self.view_is
