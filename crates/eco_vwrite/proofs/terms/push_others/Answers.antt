use Rattle.std.proofs.Common.{◌≡◌, ◌++◌, codes, ap, ◌∙◌, arith}
use Rattle.std.specs.List.{flat_map}
use Rattle.std.proofs.lemmas.Grind.{common_steps}
use Rattle.eco_meaning.specs.Circuit.{names}
use Rattle.eco_netlist.specs.Netlists.{name_at}
use Rattle.eco_vwrite.specs.Written.{name_text}
use Rattle.eco_vwrite.proofs.Turns.{nets_by_name}
use Rattle.eco_vwrite.proofs.terms.push_others.Goals as goal

-- src/terms.rt:79:1
pub returns : goal.returns
returns c =
    let list = names c.args.netlist.now in
    let whole : c.loop-net.text.items ≡ c.args.text.now.items ++ flat_map (λ net. codes ", " ++ name_text (name_at list net.0)) c.args.nets.now = grind (arith, common_steps) in
    record { ok = whole ∙ ap (λ more. c.args.text.now.items ++ more) (nets_by_name list c.args.nets.now) }
