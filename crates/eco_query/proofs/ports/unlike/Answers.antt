use Rattle.std.proofs.Common.{sym, ◌∙◌, List, ℕ, Some, subst, [], ◌∷◌}
use Rattle.eco_meaning.specs.Circuit.{names}
use Rattle.eco_netlist.specs.Netlists.{name_at}
use Rattle.eco_query.specs.Ports.{is_unlike, IsLeastOf}
use Rattle.eco_query.proofs.LeastLemmas.{least-one}
use Rattle.eco_query.proofs.UnlikeLemmas.{name_at-from_slice_get}
use Rattle.eco_query.proofs.ports.unlike.Goals as goal

pub returns-then-differs : goal.returns-then-differs
returns-then-differs c =
    let n = c.args.netlist.now in
    let fault = is_unlike n c.args.other.now in
    let name = name_at (names n) c.args.port.0 in
    let same = name_at-from_slice_get (names n) c.args.port.0 c.name_of-name.result.now c.name_of-name.ensures in
    let P : List ℕ → Type 0 = λ least. IsLeastOf fault (name ∷ []) (Some least) in
    subst P same (least-one fault name (sym c.differs.ensures ∙ c.if-differs.true))
