-- One more column.
use Rattle.std.proofs.Common.{ℕ, ◌<◌, List, sym, subst, take, length, get_or}
use Rattle.std.proofs.lemmas.Option.{slice_get-get_or}
use Rattle.eco_lists.proofs.Places.{Contains_at}
use Rattle.eco_floor.specs.Search.{ChangesAt, IsLowered, less_by, rest_at}
use Rattle.std.proofs.lemmas.List.{take_more}
use Rattle.eco_floor.proofs.Packed.{lowered_more}
use Rattle.eco_floor.proofs.packing.lower.Goals as goal

pub loop-column-preserved : goal.loop-column-preserved
loop-column-preserved c =
    let row = c.args.row.now in
    let k = c.loop-column.column-index in
    let old = c.args.slack.now.items in
    let mid = c.loop-column.slack.items in
    let new = c.lower_at.new.slack.items in
    let same = c.columns-column-items.ensures in
    let within = subst (λ (list : List ℕ). k < length list) same c.loop-column-test.true in
    let changes = subst (λ (list : List ℕ). ChangesAt mid new (get_or list k 0) (less_by c.args.amount (rest_at mid (get_or list k 0)))) same c.lower_at.ensures in
    let in' = Contains_at row k (get_or row k 0) (slice_get-get_or row k 0 within) in
    subst (λ (done : List ℕ). IsLowered done old new c.args.amount) (sym (take_more row k 0 within))
    (lowered_more (take k row) (get_or row k 0) c.args.amount old mid new (λ rest at. c.requires (get_or row k 0) rest in' at) changes c.loop-column.invariant)
