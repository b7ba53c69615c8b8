use Rattle.std.proofs.Common.{Bor, ℕ, List, [], ◌∷◌, ◌++◌, map, take, sym, ap, ◌∙◌, arith}
use Rattle.std.proofs.lemmas.List.{map-append, take_more}
use Rattle.std.proofs.lemmas.Option.{get_or_from_slice_get}
use Rattle.eco_meaning.specs.Circuit.{names}
use Rattle.eco_cutting.proofs.naming.names_of.Goals as goal

pub loop-net-preserved : goal.loop-net-preserved
loop-net-preserved c =
    let bytes_of : Bor (List ℕ) → List ℕ = λ name. name.now in
    let list = names c.args.f.now in
    let net = c.loop-net.net in
    let name = c.bytes.ensures.value ∙ sym (get_or_from_slice_get list net c.name_of.result.now [] c.name_of.ensures) in
    ap (map bytes_of) c.in_ok-push.ensures.items
    ∙ map-append bytes_of c.loop-net.list.items (c.bytes.result ∷ [])
    ∙ ap (λ l. l ++ c.bytes.result.now ∷ []) c.loop-net.invariant
    ∙ ap (λ n. take net list ++ n ∷ []) name
    ∙ sym (take_more list net [] (omega arith))
