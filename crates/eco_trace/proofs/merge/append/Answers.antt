use Rattle.std.proofs.Common.{◌≡◌, List, Some, length, ◌-◌, sym, subst}
use Rattle.std.specs.List.{slice_get}
use Rattle.eco_trace.specs.declared.clause.Lit.{Lit}
use Rattle.eco_trace.specs.Merging.{Takes}
use Rattle.eco_trace.proofs.ClauseLaws.{same_var}
use Rattle.eco_trace.proofs.MergeLaws.{takes_push}
use Rattle.eco_trace.proofs.merge.append.Goals as goal

pub returns-in_ok-push-in-None : goal.returns-in_ok-push-in-None
returns-in_ok-push-in-None c =
    let old : List Lit = c.args.lits.now.items in
    let Q : List Lit → Type 0 = λ ks. (l : Lit) → slice_get ks (length ks - 1) ≡ Some l → l.var ≡ c.args.lit.var → ⊥ in
    let other : Q old = subst Q c.as_slice.ensures.value c.in-None.ensures.none in
    record {
      taken =
          subst (λ (new : List Lit). Takes old c.args.lit new) (sym c.in_ok-push-in-None.ensures.items)
          (takes_push old c.args.lit c.requires.clause c.requires.up_to (λ l at e. other l at (same_var l.var c.args.lit.var e)));
    }
