-- A netlist that is read from a short text has few nets.
use Rattle.std.proofs.Common.{ℕ, ◌<◌, ◌≤◌, List, length, Option, arith}
use Rattle.eco_meaning.specs.Circuit.{Circuit, names}
use Rattle.eco_netlist.specs.declared.draft.TargetRule.{TargetRule}
use Rattle.eco_outside.specs.Store.{Files}
use Rattle.eco_query.specs.Problem.{HasFewNets}
use Rattle.eco_vread.specs.Texts.{IsNetlistText}
use Rattle.eco_vread.proofs.Sizes.{few_nets as fewer_nets}
use Rattle.eco_inputs.specs.declared.TheConstants.{MOST_BYTES}
use Rattle.eco_inputs.specs.Reading.{IsRead}

pub few_nets : (rule : TargetRule) (told : Option Files) (path : List ℕ) (n : Circuit) → IsRead (IsNetlistText rule) told path MOST_BYTES n → HasFewNets n
few_nets rule told path n read =
    let short : length read.bytes ≤ MOST_BYTES = read.short in
    let fewer : length (names n) < length read.bytes = fewer_nets rule read.bytes n read.holds in
    omega arith
