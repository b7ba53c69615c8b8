-- The declarations that are written for a checked netlist have no error, and stand for it.
use Rattle.std.proofs.Common.{◌≡◌, ℕ, List, refl, sym}
use Rattle.eco_meaning.specs.Circuit.{Circuit, IsTarget}
use Rattle.eco_netlist.specs.declared.draft.TargetRule.{TargetRule}
use Rattle.eco_netlist.specs.declared.draft.TargetRule.TheVariants.{Allowed}
use Rattle.eco_netlist.specs.Draft.{Declared, made}
use Rattle.eco_netlist.specs.Refusals.{IsWellFormed}
use Rattle.eco_netlist.specs.Netlists.{IsChecked}
use Rattle.eco_netlist.proofs.Plainly.{Allows, made_plain, IsWellFormed-plain}

-- the declarations that are written for a netlist
abbrev pub declarations : Circuit → Declared
declarations n = record {
  title = n.title;
  header = n.ports;
  inputs = n.inputs;
  outputs = n.outputs;
  wires = n.wires;
  gates = n.gates;
}

pub made_again : (rule : TargetRule) (n : Circuit) → IsChecked n → Allows rule n → n ≡ made rule (declarations n)
made_again rule n checked allowed = sym (made_plain rule (declarations n) checked allowed)

pub faultless : (rule : TargetRule) (n : Circuit) → IsChecked n → Allows rule n → IsWellFormed rule (declarations n)
faultless rule n checked allowed = IsWellFormed-plain rule (declarations n) checked allowed

-- Where targets are allowed, all targets are; where a netlist has none, any rule will do.
pub allowed_targets : (n : Circuit) → Allows Allowed n
allowed_targets n name target = refl

pub no_targets : (rule : TargetRule) (n : Circuit) → ((name : List ℕ) → IsTarget n name → ⊥) → Allows rule n
no_targets rule n none name target = absurd (none name target)
