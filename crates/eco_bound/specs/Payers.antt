-- Candidates that pay for parts, and what is left of their weights.
use Rattle.std.specs.Prelude.{◌≡◌, ℕ, ◌≤◌, ◌-◌, ◌==◌, Bool, true, false, not, List, Option, Some, None, All, Contains, if◌then◌else◌}
use Rattle.std.specs.List.{slice_index_or}
use mathlib.Core.Bool.{beq}
use Rattle.eco_gates.specs.declared.gate.NetId.{NetId}
use Rattle.eco_bound.specs.declared.payers.Payer.{Payer}
use Rattle.eco_bound.specs.declared.payers.Sight.{Sight}

-- the net has another value at the first input than at the second
abbrev pub tells_apart : Sight → NetId → Bool
tells_apart sight net = not (beq (slice_index_or sight.ones.items net.0 false) (slice_index_or sight.zeros.items net.0 false))

-- the least that is left to those that tell the inputs apart; None where none does
abbrev pub IsLeastLeft : Sight → List Payer → Option ℕ → Type 0
IsLeastLeft sight payers None = All (λ payer. tells_apart sight payer.net ≡ false) payers
IsLeastLeft sight payers (Some least) =
    ((payer : Payer) × Contains payers payer × (tells_apart sight payer.net ≡ true) × (payer.left ≡ least))
    × All (λ payer. tells_apart sight payer.net ≡ true → least ≤ payer.left) payers

-- the candidate after it has paid the amount, if it tells the inputs apart
abbrev pub lowered_by : Sight → ℕ → Payer → Payer
lowered_by sight amount payer =
    if tells_apart sight payer.net then record { net = payer.net; left = payer.left - amount } else payer

-- nothing is left to it
abbrev pub is_spent : Payer → Bool
is_spent payer = payer.left == 0

-- its net
abbrev pub net_of : Payer → NetId
net_of payer = payer.net
