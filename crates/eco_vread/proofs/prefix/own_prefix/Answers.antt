use Rattle.std.proofs.Common.{◌≡◌, ℕ, true, List, map, codes, refl, ap, ◌∙◌, Result, Ok, Err, IfOk}
use Rattle.std.specs.List.{list_all}
use Rattle.std.specs.Global.{Vec}
use Rattle.eco_meaning.specs.Names.{is_printing}
use Rattle.eco_text.specs.Prefix.{fresh_prefix_of}
use Rattle.eco_text.proofs.PrefixLemmas.{printing-prefix}
use Rattle.eco_vread.proofs.prefix.own_prefix.Goals as goal

printing_result : {E : Type 0} (result : Result (Vec ℕ) E) (names : List (List ℕ)) → IfOk result (λ prefix. prefix.items ≡ fresh_prefix_of (codes "asg") names) → IfOk result (λ prefix. list_all is_printing prefix.items ≡ true)
printing_result (Ok prefix) names h = ap (list_all is_printing) h ∙ printing-prefix (codes "asg") names refl
printing_result (Err e) names h = tt

pub returns-clause-printing : goal.returns-clause-printing
returns-clause-printing c = printing_result c.fresh_prefix.result (map (λ name. name.now) c.as_slice.result.now) c.fresh_prefix.ensures.value
