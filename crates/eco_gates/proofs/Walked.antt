-- The walk at its start, from a gate, and at its end.
use Rattle.std.proofs.Common.{◌≡◌, ◌≢◌, ℕ, suc, ◌+◌, ◌-◌, ◌<◌, inl, inr, List, [], ◌∷◌, ◌++◌, Option, Some, length, get_or, drop, map, refl, sym, ◌∙◌, ap, subst, arith, length-drop, eqb}
use Rattle.std.specs.Prelude.{reverse}
use Rattle.std.specs.List.{slice_get, Contains}
use Rattle.std.specs.Option.{option_map}
use Rattle.std.proofs.lemmas.List.{length-reverse, length-map, get_or-reverse, get_or-drop}
use Rattle.std.proofs.lemmas.List.Sums.{passes_at_first, fails_before_first}
use Rattle.std.proofs.lemmas.Bool.{cases_lt, eqb-true, eq-eqb, false≢true}
use Rattle.std.proofs.lemmas.Option.{slice_get-get_or, slice_get-map, slice_get_within, get_or_from_slice_get, none-some, same_Some}
use Rattle.eco_gates.specs.declared.walk.Mark.{Mark}
use Rattle.eco_gates.specs.declared.walk.Mark.TheVariants.{New, Open, Done}
use Rattle.eco_gates.specs.declared.walk.Frame.{Frame}
use Rattle.eco_gates.specs.declared.walk.Walk.{Walk}
use Rattle.eco_gates.specs.GateValue.{GateValue}
use Rattle.eco_gates.specs.Gates.{ReadsOut}
use Rattle.eco_gates.specs.Ordering.{IsOrder, IsGateCircle}
use Rattle.eco_gates.specs.Walk.{IsWalk, IsLater, IsMet, place_of_gate}
use Rattle.eco_gates.specs.Step.{IsWalkState, HasOpened}
use Rattle.eco_meaning.specs.Circuit.{IsChain, IsCircle, last_of}
use Rattle.eco_lists.proofs.Places.{All_from_places, item_at, same_place_by, pairs_from_places, slice_get-set_same}
use Rattle.eco_gates.proofs.Walking.{enter_new, later_set}

-- what is known once the walk from a gate has begun
pub record Begun (gates : List GateValue) (drivers : List (Option ℕ)) (root : ℕ) (old new : Walk) : Type 0 where
  pub stands : IsWalkState gates drivers new
  pub later : IsLater old.marks.items new.marks.items
  pub walked : slice_get new.marks.items root ≢ Some New

pub opened_begun : (gates : List GateValue) (drivers : List (Option ℕ)) (root : ℕ) (old new : Walk) → IsWalkState gates drivers old → old.stack.items ≡ [] → HasOpened old new root → Begun gates drivers root old new
opened_begun gates drivers root old new w empty opened =
    elim opened [
      | inl is_new ↦
          let first : Frame = record { gate = root; ready = 0 } in
          let from_empty : IsWalk gates drivers old.marks.items old.order.items [] = subst (λ (s : List Frame). IsWalk gates drivers old.marks.items old.order.items s) empty w in
          let after = enter_new gates drivers old.marks.items old.order.items [] first from_empty is_new.0 refl (λ k f end at. absurd (none-some f at)) in
          let stack : new.stack.items ≡ first ∷ [] = is_new.3 ∙ ap (λ (s : List Frame). s ++ first ∷ []) empty in
          record {
            stands = rw (is_new.1, is_new.2, stack) after;
            later = rw is_new.1 (later_set old.marks.items root Open (λ e. cc));
            walked = rw is_new.1 (λ e. let both : New ≡ Open = same_Some New Open (sym e ∙ slice_get-set_same old.marks.items root Open (slice_get_within old.marks.items root New is_new.0)) in cc);
          }
      | inr not_new ↦ record {
        stands = rw (not_new.1, not_new.2, not_new.3) w;
        later = rw not_new.1 (λ i e. e);
        walked = rw not_new.1 not_new.0;
      }
    ]

-- at its end the walk has an order
pub walked_order : (gates : List GateValue) (drivers : List (Option ℕ)) (walk : Walk) → IsWalkState gates drivers walk → walk.stack.items ≡ [] → ((i : ℕ) → i < length gates → slice_get walk.marks.items i ≢ Some New) → IsOrder gates walk.order.items
walked_order gates drivers walk w empty walked = record {
  numbers = All_from_places (λ (i : ℕ). i < length gates) walk.order.items (λ k i at. omega (arith, slice_get_within walk.marks.items i Done (w.order_done k i at), w.len));
  complete = λ i lt.
      let at = item_at walk.marks.items i (omega (arith, w.len)) in
      in_order i lt at.0 at.1;
  once = w.once;
  behind = w.behind;
}
  where
    in_order : (i : ℕ) → i < length gates → (m : Mark) → slice_get walk.marks.items i ≡ Some m → Contains walk.order.items i
    in_order i lt New at = absurd (walked i lt at)
    in_order i lt Open at =
        let on = w.open_on_stack i at in
        absurd (none-some on.1 (ap (λ (s : List Frame). slice_get s on.0) (sym empty) ∙ on.2))
    in_order i lt Done at = w.done_in_order i at

-- the place of a gate that is on the stack
pub place_found : (stack : List Frame) (k : ℕ) (f : Frame) (gate : ℕ) → slice_get stack k ≡ Some f → f.gate ≡ gate → (place_of_gate gate stack < length stack) × ((h : Frame) × (slice_get stack (place_of_gate gate stack) ≡ Some h) × (h.gate ≡ gate))
place_found stack k f gate at same =
    let within = slice_get_within stack k f at in
    let before : place_of_gate gate stack < length stack = elim (cases_lt k (place_of_gate gate stack)) [
      | inl lt ↦ absurd (false≢true (sym (fails_before_first (λ (h : Frame). eqb h.gate gate) stack k f lt) ∙ eq-eqb (get_or stack k f).gate gate (ap (λ (h : Frame). h.gate) (get_or_from_slice_get stack k f f at) ∙ same)))
      | inr le ↦ omega (arith, le, within)
    ] in
    let p = place_of_gate gate stack in
    (before, (get_or stack p f, slice_get-get_or stack p f before, eqb-true (get_or stack p f).gate gate (passes_at_first (λ (h : Frame). eqb h.gate gate) stack f before)))

-- chains and circles, by places
chain_from_places : {X : Type 0} (R : X → X → Type 0) (x : X) (xs : List X) → ((k : ℕ) (a b : X) → slice_get (x ∷ xs) k ≡ Some a → slice_get xs k ≡ Some b → R a b) → IsChain R x xs
chain_from_places R x [] h = tt
chain_from_places R x (y ∷ ys) h = (h 0 x y refl refl, chain_from_places R y ys (λ k a b at_a at_b. h (suc k) a b at_a at_b))

last_at : {X : Type 0} (x : X) (xs : List X) → slice_get (x ∷ xs) (length xs) ≡ Some (last_of x xs)
last_at x [] = refl
last_at x (y ∷ ys) = last_at y ys

circle_from_places : {X : Type 0} (R : X → X → Type 0) (xs : List X) → 0 < length xs → ((k : ℕ) (a b : X) → slice_get xs k ≡ Some a → slice_get xs (k + 1) ≡ Some b → R a b) → ((k : ℕ) (a z : X) → k + 1 ≡ length xs → slice_get xs 0 ≡ Some a → slice_get xs k ≡ Some z → R z a) → IsCircle R xs
circle_from_places R [] some next last = absurd (omega arith)
circle_from_places R (x ∷ xs) some next last = (
  chain_from_places R x xs (λ k a b at_a at_b. next k a b at_a (let e : k + 1 ≡ suc k = omega arith in ap (slice_get (x ∷ xs)) e ∙ at_b)),
  last (length xs) x (last_of x xs) (omega arith) refl (last_at x xs),
)

-- what stands in the list of gates, last first
downward_at : (stack : List Frame) (p k i : ℕ) → slice_get (map (λ (f : Frame). f.gate) (reverse (drop p stack))) k ≡ Some i → (f : Frame) × (k + p < length stack) × (slice_get stack (length stack - 1 - k) ≡ Some f) × (f.gate ≡ i)
downward_at stack p k i at =
    let gate : Frame → ℕ = λ f. f.gate in
    let s = drop p stack in
    let len : length s ≡ length stack - p = length-drop p stack in
    let within : k < length s = let lt = slice_get_within (map gate (reverse s)) k i at in omega (arith, lt, length-map (reverse s) gate, length-reverse s) in
    let f = item_at (reverse s) k (omega (arith, within, length-reverse s)) in
    let same : f.0.gate ≡ i = same_Some f.0.gate i (sym (slice_get-map gate (reverse s) k ∙ ap (option_map gate) f.1) ∙ at) in
    let there : get_or stack (p + (length s - 1 - k)) f.0 ≡ f.0 = sym (get_or-drop p stack (length s - 1 - k) f.0) ∙ sym (get_or-reverse s k f.0 within) ∙ get_or_from_slice_get (reverse s) k f.0 f.0 f.1 in
    let place : p + (length s - 1 - k) ≡ length stack - 1 - k = omega (arith, len, within) in
    (f.0, omega (arith, within, len), ap (slice_get stack) (sym place) ∙ slice_get-get_or stack (p + (length s - 1 - k)) f.0 (omega (arith, len, within)) ∙ ap Some there, same)

-- a gate that was met on the stack closes a circle
pub met_circle : (gates : List GateValue) (drivers : List (Option ℕ)) (walk : Walk) (first : ℕ) → IsWalkState gates drivers walk → IsMet gates walk.stack.items first → IsGateCircle gates (map (λ (f : Frame). f.gate) (reverse (drop (place_of_gate first walk.stack.items) walk.stack.items)))
met_circle gates drivers walk first w met =
    let stack = walk.stack.items in
    let p = place_of_gate first stack in
    let found = place_found stack met.place met.frame first met.at met.gate in
    let circle = map (λ (f : Frame). f.gate) (reverse (drop p stack)) in
    let count : length circle ≡ length stack - p = length-map (reverse (drop p stack)) (λ (f : Frame). f.gate) ∙ length-reverse (drop p stack) ∙ length-drop p stack in
    record {
      numbers = All_from_places (λ (i : ℕ). i < length gates) circle (λ k i at.
          let f = downward_at stack p k i at in
          let lt = slice_get_within walk.marks.items f.0.gate Open (w.stack_open (length stack - 1 - k) f.0 f.2) in
          omega (arith, lt, w.len, f.3));
      once = pairs_from_places (λ i j. i ≢ j) circle (λ i j x y lt at_i at_j e.
          let f = downward_at stack p i x at_i in
          let h = downward_at stack p j y at_j in
          let same = same_place_by (λ (f : Frame). f.gate) stack (length stack - 1 - i) (length stack - 1 - j) f.0 h.0 w.apart f.2 h.2 (f.3 ∙ e ∙ sym h.3) in
          omega (arith, same, lt, f.1, h.1));
      closed = circle_from_places (ReadsOut gates) circle (omega (arith, count, found.0)) (λ k a b at_a at_b.
          let f = downward_at stack p k a at_a in
          let h = downward_at stack p (k + 1) b at_b in
          let next : (length stack - 1 - (k + 1)) + 1 ≡ length stack - 1 - k = omega (arith, f.1, h.1) in
          subst (λ (n : ℕ). ReadsOut gates n b) f.3 (subst (λ (n : ℕ). ReadsOut gates f.0.gate n) h.3 (w.path (length stack - 1 - (k + 1)) h.0 f.0 h.2 (ap (slice_get stack) next ∙ f.2))))
          (λ k a z end at_a at_z.
          let f = downward_at stack p 0 a at_a in
          let h = downward_at stack p k z at_z in
          let last : met.last ≡ f.0 = same_Some met.last f.0 (sym (met.last_at (length stack - 1 - 0) (omega (arith, f.1))) ∙ f.2) in
          let bottom : length stack - 1 - k ≡ p = omega (arith, end, count, found.0) in
          let low : h.0 ≡ found.1.0 = same_Some h.0 found.1.0 (sym h.2 ∙ ap (slice_get stack) bottom ∙ found.1.1) in
          let z_first : first ≡ z = sym found.1.2 ∙ ap (λ (x : Frame). x.gate) (sym low) ∙ h.3 in
          let a_last : met.last.gate ≡ a = ap (λ (x : Frame). x.gate) last ∙ f.3 in
          subst (λ (n : ℕ). ReadsOut gates n a) z_first (subst (λ (n : ℕ). ReadsOut gates first n) a_last met.reads));
    }
