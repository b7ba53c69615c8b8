use Rattle.std.proofs.Common.{◌≡◌, sym, ◌∙◌, List, ℕ, Some, subst, ap, true, false, not, [], ◌∷◌}
use Rattle.eco_meaning.specs.Names.{has}
use Rattle.eco_meaning.specs.Circuit.{names}
use Rattle.eco_netlist.specs.Netlists.{name_at}
use Rattle.eco_query.specs.Ports.{is_alone, IsLeastOf}
use Rattle.eco_query.proofs.CareLemmas.{alone-input}
use Rattle.eco_query.proofs.LeastLemmas.{least-one, none-one}
use Rattle.eco_query.proofs.UnlikeLemmas.{name_at-from_slice_get}
use Rattle.eco_query.proofs.inputs.alone.Goals as goal

pub returns-then-has_input : goal.returns-then-has_input
returns-then-has_input c =
    let n = c.args.netlist.now in
    let o = c.args.other.now in
    let name = name_at (names n) c.args.input.0 in
    let same = name_at-from_slice_get (names n) c.args.input.0 c.name_of-name.result.now c.name_of-name.ensures in
    let there : has o.inputs name ≡ true = ap (has o.inputs) same ∙ sym c.has_input.ensures ∙ c.if-has_input.true in
    none-one (is_alone n o) name (alone-input n o name c.requires.input ∙ ap not there)

pub returns-else-has_input : goal.returns-else-has_input
returns-else-has_input c =
    let n = c.args.netlist.now in
    let o = c.args.other.now in
    let name = name_at (names n) c.args.input.0 in
    let same = name_at-from_slice_get (names n) c.args.input.0 c.name_of-name.result.now c.name_of-name.ensures in
    let absent : has o.inputs name ≡ false = ap (has o.inputs) same ∙ sym c.has_input.ensures ∙ c.if-has_input.false in
    let P : List ℕ → Type 0 = λ least. IsLeastOf (is_alone n o) (name ∷ []) (Some least) in
    subst P same (least-one (is_alone n o) name (alone-input n o name c.requires.input ∙ ap not absent))
