use Rattle.std.proofs.Common.{sym, ◌++◌, subst, Option, List, ℕ}
use Rattle.std.specs.Option.{option_copied}
use Rattle.eco_query.specs.Ports.{is_unlike, IsLeastOf}
use Rattle.eco_query.proofs.LeastLemmas.{first-among, least-append, least-same}
use Rattle.eco_query.proofs.UnlikeLemmas.{unlike-flip, unlike-in_ports}
use Rattle.eco_query.proofs.ports.unlike_port.Goals as goal

pub returns : goal.returns
returns c =
    let l = c.args.left.now in
    let r = c.args.right.now in
    let second = least-same (is_unlike r l) (is_unlike l r) r.ports (option_copied c.least_unlike-second.result)
    (unlike-flip r l) c.least_unlike-second.ensures in
    let P : Option (List ℕ) → Type 0 = IsLeastOf (is_unlike l r) (l.ports ++ r.ports) in
    first-among (is_unlike l r) (l.ports ++ r.ports) c.earlier.result
    (λ name e. unlike-in_ports l r name c.nets.ensures.checked e)
    (subst P (sym c.earlier.ensures)
    (least-append (is_unlike l r) l.ports r.ports (option_copied c.least_unlike-first.result)
    (option_copied c.least_unlike-second.result) c.least_unlike-first.ensures second))
