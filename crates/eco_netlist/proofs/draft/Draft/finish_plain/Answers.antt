use Rattle.std.proofs.Common.{◌∙◌, refl}
use Rattle.eco_netlist.specs.declared.draft.TargetRule.TheVariants.{Allowed}
use Rattle.eco_netlist.proofs.Plainly.{made_plain, IsWellFormed-plain}
use Rattle.eco_netlist.proofs.Refused.{never_refused}
use Rattle.eco_netlist.proofs.draft.Draft.finish_plain.Goals as goal

pub returns-in-Ok : goal.returns-in-Ok
returns-in-Ok c = record {
  plain = c.in-Ok.ensures.ok.0 ∙ made_plain Allowed c.args.self c.requires (λ name target. refl);
}

pub unreachable-requires : goal.unreachable-requires
unreachable-requires c =
    let well_formed = IsWellFormed-plain Allowed c.args.self c.requires (λ name target. refl) in
    never_refused Allowed c.args.self well_formed c.in-Err-Refused.field-0-0 (rw c.in-Err-Refused.field-0-is at c.in-Err-Refused.ensures.refused)
