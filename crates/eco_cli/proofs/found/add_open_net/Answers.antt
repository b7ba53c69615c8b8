use Rattle.std.proofs.Common.{◌≡◌, ◌++◌, ◌∙◌, List, [], ℕ, ap, sym, arith, codes}
use Rattle.std.proofs.lemmas.Grind.{common_steps}
use Rattle.std.proofs.lemmas.Option.{get_or_from_slice_get}
use Rattle.eco_meaning.specs.Circuit.{names}
use Rattle.eco_cli.proofs.found.add_open_net.Goals as goal

pub returns : goal.returns
returns c =
    let front = c.args.text.now.items in
    let line : List ℕ → List ℕ = λ name. codes "open " ++ name ++ codes "\n" in
    let whole : c.extend_from_slice-3.new.self.items ≡ front ++ line c.bytes.result.now = grind (arith, common_steps) in
    whole ∙ ap (λ (name : List ℕ). front ++ line name) (c.bytes.ensures.value ∙ sym (get_or_from_slice_get (names c.args.f.now) c.args.net.now.net.0 c.name_of.result.now [] c.name_of.ensures))
