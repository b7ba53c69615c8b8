use Rattle.std.proofs.Common.{sym, ◌++◌, subst, Option, List, ℕ}
use Rattle.std.specs.Option.{option_copied}
use Rattle.eco_query.specs.Ports.{is_alone, IsLeastOf}
use Rattle.eco_query.proofs.CareLemmas.{alone-flip, alone-in_inputs}
use Rattle.eco_query.proofs.LeastLemmas.{first-among, least-append, least-same}
use Rattle.eco_query.proofs.inputs.input_alone.Goals as goal

pub returns : goal.returns
returns c =
    let l = c.args.left.now in
    let r = c.args.right.now in
    let second = least-same (is_alone r l) (is_alone l r) r.inputs (option_copied c.least_alone-second.result)
    (alone-flip r l) c.least_alone-second.ensures in
    let P : Option (List ℕ) → Type 0 = IsLeastOf (is_alone l r) (l.inputs ++ r.inputs) in
    first-among (is_alone l r) (l.inputs ++ r.inputs) c.earlier.result (alone-in_inputs l r)
    (subst P (sym c.earlier.ensures)
    (least-append (is_alone l r) l.inputs r.inputs (option_copied c.least_alone-first.result)
    (option_copied c.least_alone-second.result) c.least_alone-first.ensures second))
