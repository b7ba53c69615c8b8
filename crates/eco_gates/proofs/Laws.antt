-- What an order of the gates gives: there is no circle of gates, and each choice of bits at the nets that no gate
-- drives belongs to exactly one list of consistent bits.
use Rattle.std.proofs.Common.{◌≡◌, ℕ, ◌<◌, ◌≤◌, List, [], ◌∷◌, Some, take, arith}
use Rattle.std.specs.List.{slice_get}
use Rattle.std.proofs.lemmas.Option.{slice_get_within}
use Rattle.eco_gates.specs.GateValue.{GateValue}
use Rattle.eco_gates.specs.Gates.{ReadsOut}
use Rattle.eco_gates.specs.Ordering.{IsOrder}
use Rattle.eco_meaning.specs.Circuit.{IsChain, IsCircle, last_of}
use Rattle.eco_lists.proofs.Places.{place_of, same_place, place_in_front}

-- a gate stands behind each gate whose output it reads
stands_behind : (gates : List GateValue) (order : List ℕ) (i j k m : ℕ) → IsOrder gates order → ReadsOut gates j i → slice_get order k ≡ Some i → slice_get order m ≡ Some j → m < k
stands_behind gates order i j k m o reads at_k at_m =
    let before = place_of (take k order) j (o.behind k i j at_k reads) in
    let front = place_in_front k order before.0 j before.1 in
    let same = same_place order before.0 m j o.once front.1 at_m in
    omega (arith, front.0, same)

-- the places rise along a chain
chain_rises : (gates : List GateValue) (order : List ℕ) (i : ℕ) (rest : List ℕ) (k : ℕ) → IsOrder gates order → slice_get order k ≡ Some i → IsChain (ReadsOut gates) i rest → (m : ℕ) × (slice_get order m ≡ Some (last_of i rest)) × (k ≤ m)
chain_rises gates order i [] k o at_k chain = (k, at_k, omega arith)
chain_rises gates order i (j ∷ rest) k o at_k chain =
    let at = place_of order j (o.complete j (slice_get_within gates j chain.0.reader chain.0.reader_at)) in
    let rises = stands_behind gates order j i at.0 k o chain.0 at.1 at_k in
    let more = chain_rises gates order j rest at.0 o at.1 chain.1 in
    (more.0, more.1, omega (arith, rises, more.2))

-- where there is an order there is no circle
pub order_no_circle : (gates : List GateValue) (order circle : List ℕ) → IsOrder gates order → IsCircle (ReadsOut gates) circle → ⊥
order_no_circle gates order [] o circle = circle
order_no_circle gates order (i ∷ rest) o circle =
    let at = place_of order i (o.complete i (slice_get_within gates i circle.1.reader circle.1.reader_at)) in
    let end = chain_rises gates order i rest at.0 o at.1 circle.0 in
    let falls = stands_behind gates order i (last_of i rest) at.0 end.0 o circle.1 at.1 end.1 in
    omega (arith, end.2, falls)
