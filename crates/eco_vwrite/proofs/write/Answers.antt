use Rattle.std.proofs.Common.{◌≡◌, arith, sym, subst}
use Rattle.std.proofs.lemmas.Grind.{common_steps}
use Rattle.eco_netlist.specs.declared.draft.TargetRule.TheVariants.{Allowed, Never}
use Rattle.eco_plain.specs.Plain.{IsGatesText}
use Rattle.eco_vwrite.specs.Written.{written}
use Rattle.eco_vwrite.proofs.ReadBack.{named_from, read_where_allowed, read_without_targets}
use Rattle.eco_vwrite.proofs.write.Goals as goal

pub returns-clause-read_back : goal.returns-clause-read_back
returns-clause-read_back c =
    let n = c.args.netlist.now in
    let text : c.extend_from_slice.new.self.items ≡ written n = grind (arith, common_steps) in
    let named = named_from n c.in_ok-push_header.ensures.named c.in_ok-push_ports.ensures.named c.in_ok-push_wires.ensures.named in
    subst (λ bytes. IsGatesText Allowed bytes n) (sym text) (read_where_allowed n c.push_wires.ensures.checked named)

pub returns-clause-closed : goal.returns-clause-closed
returns-clause-closed c = λ none.
    let n = c.args.netlist.now in
    let text : c.extend_from_slice.new.self.items ≡ written n = grind (arith, common_steps) in
    let named = named_from n c.in_ok-push_header.ensures.named c.in_ok-push_ports.ensures.named c.in_ok-push_wires.ensures.named in
    subst (λ bytes. IsGatesText Never bytes n) (sym text) (read_without_targets n c.push_wires.ensures.checked named none)
