use Rattle.std.proofs.Common.{◌≡◌, ◌↔◌, ◌∙◌, Contains, Some, ap, subst}
use Rattle.std.specs.Map.{lookup}
use Rattle.std.specs.Str.{bytes_eq}
use Rattle.eco_meaning.specs.Cost.{Weights, line_weight}
use Rattle.eco_weight.proofs.NameLemmas.{line_weight-lookup, lookup-exactly}
use Rattle.eco_weight.proofs.weights.Weights.of.Goals as goal

pub returns-clause-value : goal.returns-clause-value
returns-clause-value c =
    c.copied.ensures ∙ c.get.ensures.value ∙ line_weight-lookup c.self.inside.lines.entries c.args.name.now ∙ ap (λ lines. line_weight lines c.args.name.now) c.self.view_is

pub returns-clause-exactly : goal.returns-clause-exactly
returns-clause-exactly c = λ weight.
    let found = c.copied.ensures ∙ c.get.ensures.value in
    rw found (subst (λ (lines : Weights). (lookup (bytes_eq c.args.name.now) c.self.inside.lines.entries ≡ Some weight) ↔ Contains lines (c.args.name.now, weight)) c.self.view_is (lookup-exactly c.self.inside.lines.entries c.args.name.now weight c.self.invariant))
