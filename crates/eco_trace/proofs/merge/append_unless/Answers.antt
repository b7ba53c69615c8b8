use Rattle.std.proofs.Common.{◌≡◌, sym, ap, ◌∙◌}
use Rattle.std.proofs.lemmas.Bool.{eqb-false}
use Rattle.eco_trace.specs.declared.clause.Var.{Var}
use Rattle.eco_trace.proofs.MergeLaws.{unless_from}
use Rattle.eco_trace.proofs.merge.append_unless.Goals as goal

pub returns-in_ok-fits : goal.returns-in_ok-fits
returns-in_ok-fits c =
    let other : c.args.lit.var ≡ c.args.pivot → ⊥ =
    λ e. eqb-false c.args.lit.var.0 c.args.pivot.0 (sym c.eq.ensures ∙ c.if-eq.false) (ap (λ (v : Var). v.0) e)
    in
    record { taken = unless_from c.args.pivot _ c.args.lit _ c.in_ok-fits.fits other c.in_ok-fits.ensures.taken }
