use Rattle.std.proofs.Common.{◌≡◌, ◌++◌, ◌∙◌, List, [], ℕ, ap, sym, arith, codes, decimal}
use Rattle.std.proofs.lemmas.Grind.{common_steps}
use Rattle.std.proofs.lemmas.Option.{get_or_from_slice_get}
use Rattle.eco_meaning.specs.Circuit.{names}
use Rattle.eco_cli.proofs.found.add_net.Goals as goal

pub returns : goal.returns
returns c =
    let front = c.args.text.now.items in
    let line : List ℕ → List ℕ = λ name. codes "net " ++ name ++ codes " " ++ decimal c.args.ranked.cone ++ codes " " ++ decimal c.args.ranked.readers ++ codes "\n" in
    let whole : c.add_line.new.text.items ≡ front ++ line c.bytes.result.now = grind (arith, common_steps) in
    whole ∙ ap (λ (name : List ℕ). front ++ line name) (c.bytes.ensures.value ∙ sym (get_or_from_slice_get (names c.args.f.now) c.args.ranked.net.0 c.name_of.result.now [] c.name_of.ensures))
