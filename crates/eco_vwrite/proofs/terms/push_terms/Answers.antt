use Rattle.std.proofs.Common.{◌≡◌, ◌++◌, codes, ap, ◌∙◌, arith}
use Rattle.std.specs.List.{flat_map}
use Rattle.std.proofs.lemmas.Grind.{common_steps}
use Rattle.eco_meaning.specs.Circuit.{names}
use Rattle.eco_netlist.specs.Netlists.{named_term}
use Rattle.eco_vwrite.specs.Written.{operand_text}
use Rattle.eco_vwrite.proofs.Turns.{terms_by_name}
use Rattle.eco_vwrite.proofs.terms.push_terms.Goals as goal

pub returns : goal.returns
returns c =
    let list = names c.args.netlist.now in
    let whole : c.loop-term.text.items ≡ c.args.text.now.items ++ flat_map (λ term. codes ", " ++ operand_text (named_term list term)) c.args.terms.now = grind (arith, common_steps) in
    record { ok = whole ∙ ap (λ more. c.args.text.now.items ++ more) (terms_by_name list c.args.terms.now) }
