-- Where no target is allowed, declarations without an error leave none.
use Rattle.std.proofs.Common.{ℕ, List}
use Rattle.std.proofs.lemmas.Bool.{false≢true}
use Rattle.eco_meaning.specs.Circuit.{IsTarget}
use Rattle.eco_netlist.specs.declared.draft.TargetRule.TheVariants.{Never}
use Rattle.eco_netlist.specs.Draft.{Declared, made}
use Rattle.eco_netlist.specs.Refusals.{IsWellFormed}
use Rattle.eco_netlist.proofs.CheckLemmas.{free_target}
use Rattle.eco_netlist.proofs.BuildLemmas.{target_parts}

pub closed_made : (d : Declared) → IsWellFormed Never d → (name : List ℕ) → IsTarget (made Never d) name → ⊥
closed_made d well_formed name target =
    false≢true (target_parts Never d name (free_target Never d name well_formed.declared target.net target.free)).0
