-- Which names become nets, and in which order.
use Rattle.std.specs.Prelude.{◌≡◌, ◌≢◌, ◌<◌, ◌||◌, ◌++◌, ◌^◌, ◌-◌, ℕ, Bool, List, [], ◌∷◌, length, map, All, Contains, Some, slice_get, nat_eq, nat_lt, if◌then◌else◌}
use Rattle.std.specs.List.{list_any, flat_map, slice_index_or}
use Rattle.eco_gates.specs.declared.gate.NetId.{NetId}
use Rattle.eco_gates.specs.declared.gate.Term.{Term}
use Rattle.eco_gates.specs.declared.gate.Term.TheVariants.{Zero, One, Net}
use Rattle.eco_gates.specs.GateValue.{GateValue}
use Rattle.eco_netlist.specs.declared.draft.TargetRule.{TargetRule}
use Rattle.eco_netlist.specs.declared.tally.Tally.{Tally}
use Rattle.eco_netlist.specs.Tallies.{is_free}

-- whether a declared wire with these counts is a net
abbrev pub is_live : TargetRule → List ℕ → Tally → Bool
is_live rule name t = nat_lt 0 t.drivers || t.is_read || is_free rule name t

-- the list with the net behind it, where it doesn't have it yet
abbrev pub with_net : List NetId → NetId → List NetId
with_net nets net = if list_any (λ other. nat_eq net.0 other.0) nets then nets else nets ++ net ∷ []

-- the nets that a gate's input, and a gate, mention
abbrev pub term_nets : Term → List NetId
term_nets Zero = []
term_nets One = []
term_nets (Net net) = net ∷ []

abbrev pub gate_nets : GateValue → List NetId
gate_nets g = g.out ∷ flat_map term_nets g.ins

-- some of so many names, by their numbers
pub record Chosen : Type 0 where
  pub names : ℕ
  pub nets : List NetId

-- for each name its place among the nets, or the greatest number of 64 bits for a name that isn't there
pub record IsNumbering (nets : List NetId) (places : List ℕ) : Type 0 where
  pub here : (place : ℕ) (net : NetId) → slice_get nets place ≡ Some net → slice_get places net.0 ≡ Some place
  pub there : (number place : ℕ) → slice_get places number ≡ Some place → place ≢ 2 ^ 64 - 1 → slice_get nets place ≡ Some (record { 0 = number })

-- all names in their own order
abbrev pub AreAll : Chosen → Type 0
AreAll n = (length n.nets ≡ n.names) × ((k : ℕ) → k < length n.nets → slice_get n.nets k ≡ Some (record { 0 = k }))

-- the net at a place, and what is said of places, said of the nets there
abbrev pub net_at : List NetId → NetId → NetId
net_at nets place = slice_index_or nets place.0 (record { 0 = 0 })

abbrev pub term_at : List NetId → Term → Term
term_at nets Zero = Zero
term_at nets One = One
term_at nets (Net place) = Net (net_at nets place)

abbrev pub gate_at : List NetId → GateValue → GateValue
gate_at nets g = record { kind = g.kind; out = net_at nets g.out; ins = map (term_at nets) g.ins }

-- the second list has the places of the nets of the first one
pub record ArePlaced (nets listed places : List NetId) : Type 0 where
  pub within : All (λ place. place.0 < length nets) places
  pub placed : map (net_at nets) places ≡ listed

-- the nets have all these
abbrev pub HasNets : List NetId → List NetId → Type 0
HasNets nets listed = (net : NetId) → Contains listed net → Contains nets net
