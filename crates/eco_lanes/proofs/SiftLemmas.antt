-- Nets that are put into two lists by the bits of a word.
use Rattle.std.proofs.Common.{◌≡◌, ◌⊎◌, ℕ, suc, ◌+◌, ◌<◌, ◌≤◌, Bool, true, false, not, cond, List, [], ◌∷◌, ◌++◌, Some, length, drop, get_or, inl, inr, refl, sym, ◌∙◌, ap, subst, arith, append_assoc}
use Rattle.std.specs.List.{slice_get, All, Contains}
use Rattle.std.proofs.lemmas.Bool.{false≢true}
use Rattle.std.proofs.lemmas.List.{drop_more, length-append, length-drop, append-nil}
use Rattle.std.proofs.lemmas.List.Elements.{All-contains, All-append, All-nil, Contains-append_left, Contains-append_right, Contains-append_cases}
use Rattle.eco_lists.proofs.Members.{All-back, Contains_first, Contains_later, Contains_cases, Contains_none}
use Rattle.eco_lists.proofs.Places.{All_from_places, Contains_at, no_items}
use Rattle.eco_meaning.specs.Circuit.{Circuit, names}
use Rattle.eco_gates.specs.declared.gate.NetId.{NetId}
use Rattle.eco_gates.specs.Words.{is_set}
use Rattle.eco_netlist.specs.Netlists.{AreNets, name_at}
use Rattle.eco_choices.specs.Turned.{IsMendedBit}
use Rattle.eco_lanes.specs.Mended.{HasMendedBit, AreSifted, chosen}

-- one more net, which passes or doesn't
pub chosen_more : (passes : ℕ → Bool) (nets : List NetId) (k : ℕ) (d : NetId) → k < length nets → passes k ≡ true → chosen passes k (drop k nets) ≡ get_or nets k d ∷ chosen passes (k + 1) (drop (k + 1) nets)
unfolding chosen
chosen_more passes nets k d within one =
    ap (chosen passes k) (drop_more nets k d within)
    ∙ ap (λ b. cond b (get_or nets k d ∷ chosen passes (k + 1) (drop (k + 1) nets)) (chosen passes (k + 1) (drop (k + 1) nets))) one

pub chosen_not : (passes : ℕ → Bool) (nets : List NetId) (k : ℕ) → k < length nets → passes k ≡ false → chosen passes k (drop k nets) ≡ chosen passes (k + 1) (drop (k + 1) nets)
unfolding chosen
chosen_not passes nets k within zero_bit =
    let d : NetId = record { 0 = 0 } in
    ap (chosen passes k) (drop_more nets k d within)
    ∙ ap (λ b. cond b (get_or nets k d ∷ chosen passes (k + 1) (drop (k + 1) nets)) (chosen passes (k + 1) (drop (k + 1) nets))) zero_bit

-- a net that was chosen stands at a place that passes
chosen_from : (passes : ℕ → Bool) (k : ℕ) (nets : List NetId) (net : NetId) → Contains (chosen passes k nets) net → (place : ℕ) × (slice_get nets place ≡ Some net) × (passes (k + place) ≡ true)
unfolding chosen
chosen_from passes k [] net c = absurd (Contains_none net c)
chosen_from passes k (first ∷ nets) net c =
    elim (passes k) as (λ b. passes k ≡ b → Contains (cond b (first ∷ chosen passes (k + 1) nets) (chosen passes (k + 1) nets)) net → (place : ℕ) × (slice_get (first ∷ nets) place ≡ Some net) × (passes (k + place) ≡ true)) [
      | true ↦ λ e d. elim (Contains_cases first net (chosen passes (k + 1) nets) d) [
        | inl same ↦ (0, ap Some same, ap passes (omega arith) ∙ e)
        | inr later ↦ let (place, at, one) = chosen_from passes (k + 1) nets net later in (suc place, at, ap passes (omega arith) ∙ one)
      ]
      | false ↦ λ e d. let (place, at, one) = chosen_from passes (k + 1) nets net d in (suc place, at, ap passes (omega arith) ∙ one)
    ] refl c

-- each net is in one of the two lists, and together they are as long
chosen_all : (passes : ℕ → Bool) (k : ℕ) (nets : List NetId) (net : NetId) → Contains nets net → Contains (chosen passes k nets) net ⊎ Contains (chosen (λ place. not (passes place)) k nets) net
unfolding chosen
chosen_all passes k [] net c = absurd (Contains_none net c)
chosen_all passes k (first ∷ nets) net c =
    let some = chosen passes (k + 1) nets in
    let others = chosen (λ place. not (passes place)) (k + 1) nets in
    elim (passes k) as (λ b. Contains (cond b (first ∷ some) some) net ⊎ Contains (cond (not b) (first ∷ others) others) net) [
      | true ↦ elim (Contains_cases first net nets c) [
        | inl same ↦ inl (subst (Contains (first ∷ some)) same (Contains_first first some))
        | inr later ↦ elim (chosen_all passes (k + 1) nets net later) [ inl here ↦ inl (Contains_later first net some here) | inr there ↦ inr there ]
      ]
      | false ↦ elim (Contains_cases first net nets c) [
        | inl same ↦ inr (subst (Contains (first ∷ others)) same (Contains_first first others))
        | inr later ↦ elim (chosen_all passes (k + 1) nets net later) [ inl here ↦ inl here | inr there ↦ inr (Contains_later first net others there) ]
      ]
    ]

chosen_count : (passes : ℕ → Bool) (k : ℕ) (nets : List NetId) → length (chosen passes k nets) + length (chosen (λ place. not (passes place)) k nets) ≡ length nets
unfolding chosen
chosen_count passes k [] = refl
chosen_count passes k (first ∷ nets) =
    let some = chosen passes (k + 1) nets in
    let others = chosen (λ place. not (passes place)) (k + 1) nets in
    let rest = chosen_count passes (k + 1) nets in
    elim (passes k) as (λ b. length (cond b (first ∷ some) some) + length (cond (not b) (first ∷ others) others) ≡ suc (length nets)) [
      | true ↦ omega (arith, rest)
      | false ↦ omega (arith, rest)
    ]

-- what the loop keeps: each net is in the rest, left or taken
pub record AreSiftedTo (f : Circuit) (x wanted : List Bool) (nets rest left taken : List NetId) : Type 0 where
  pub all : (net : NetId) → Contains nets net → Contains rest net ⊎ Contains left net ⊎ Contains taken net
  pub within : All (Contains nets) rest
  pub mending : All (HasMendedBit f x wanted nets true) left
  pub others : All (HasMendedBit f x wanted nets false) taken
  pub count : length left + length taken + length rest ≡ length nets

pub sift_begins : (f : Circuit) (x wanted : List Bool) (nets : List NetId) → AreSiftedTo f x wanted nets nets [] []
sift_begins f x wanted nets = record {
  all = λ net c. inl c;
  within = All_from_places (Contains nets) nets (λ k net at. Contains_at nets k net at);
  mending = All-nil (HasMendedBit f x wanted nets true);
  others = All-nil (HasMendedBit f x wanted nets false);
  count = omega arith;
}

-- the nets of a batch by the bits of its word
module _ (f : Circuit) (x wanted : List Bool) (nets rest batch behind left taken : List NetId) (word : ℕ) (cut : rest ≡ batch ++ behind) (is : AreSiftedTo f x wanted nets rest left taken)
    (bits : (place : ℕ) (net : NetId) → slice_get batch place ≡ Some net → IsMendedBit f x wanted (name_at (names f) net.0) (is_set word place)) where
  abbrev none : ℕ → Bool
  none place = not (is_set word place)

  among : (place : ℕ) (net : NetId) → slice_get batch place ≡ Some net → Contains nets net
  among place net at =
      All-contains (Contains nets) rest net is.within
      (subst (λ list. Contains list net) (sym cut) (Contains-append_left batch behind net (Contains_at batch place net at)))

  chosen_have : (passes : ℕ → Bool) (bit : Bool) → ((place : ℕ) → passes place ≡ true → is_set word place ≡ bit) → All (HasMendedBit f x wanted nets bit) (chosen passes 0 batch)
  chosen_have passes bit tells =
      All_from_places (HasMendedBit f x wanted nets bit) (chosen passes 0 batch) (λ k net at.
      let (place, here, one) = chosen_from passes 0 batch net (Contains_at (chosen passes 0 batch) k net at) in
      record {
        among = among place net here;
        mends = subst (IsMendedBit f x wanted (name_at (names f) net.0)) (tells place (ap passes (omega arith) ∙ one)) (bits place net here);
      })

  opposite_true : (b : Bool) → not b ≡ true → b ≡ false
  opposite_true true e = absurd (false≢true e)
  opposite_true false e = refl

  pub sift_more : AreSiftedTo f x wanted nets behind (left ++ chosen (is_set word) 0 batch) (taken ++ chosen none 0 batch)
  sift_more = record {
    all = λ net c. elim (is.all net c) [
      | inr done ↦ elim done [
        | inl had ↦ inr (inl (Contains-append_left left (chosen (is_set word) 0 batch) net had))
        | inr had ↦ inr (inr (Contains-append_left taken (chosen none 0 batch) net had))
      ]
      | inl waits ↦ elim (Contains-append_cases batch behind net (subst (λ list. Contains list net) cut waits)) [
        | inr later ↦ inl later
        | inl now ↦ elim (chosen_all (is_set word) 0 batch net now) [
          | inl stays ↦ inr (inl (Contains-append_right left (chosen (is_set word) 0 batch) net stays))
          | inr goes ↦ inr (inr (Contains-append_right taken (chosen none 0 batch) net goes))
        ]
      ]
    ];
    within = All-back (Contains nets) batch behind (subst (All (Contains nets)) cut is.within);
    mending = All-append (HasMendedBit f x wanted nets true) left (chosen (is_set word) 0 batch) is.mending (chosen_have (is_set word) true (λ place e. e));
    others = All-append (HasMendedBit f x wanted nets false) taken (chosen none 0 batch) is.others (chosen_have none false (λ place e. opposite_true (is_set word place) e));
    count = omega (arith, is.count, chosen_count (is_set word) 0 batch, length-append left (chosen (is_set word) 0 batch), length-append taken (chosen none 0 batch), ap length cut, length-append batch behind);
  }

pub sift_ends : (f : Circuit) (x wanted : List Bool) (nets left taken : List NetId) → AreSiftedTo f x wanted nets [] left taken → AreSifted f x wanted nets left taken
sift_ends f x wanted nets left taken is = record {
  all = λ net c. elim (is.all net c) [ inl none ↦ absurd (Contains_none net none) | inr done ↦ done ];
  mending = is.mending;
  others = is.others;
  count = omega (arith, is.count);
}

-- the nets of a batch are nets
pub batch_within : (list : List (List ℕ)) (nets rest batch behind : List NetId) → AreNets list nets → All (Contains nets) rest → rest ≡ batch ++ behind → AreNets list batch
batch_within list nets rest batch behind within among cut =
    All_from_places (λ (net : NetId). net.0 < length list) batch (λ k net at.
    All-contains (λ (net : NetId). net.0 < length list) nets net within
    (All-contains (Contains nets) rest net among (subst (λ all. Contains all net) (sym cut) (Contains-append_left batch behind net (Contains_at batch k net at)))))

-- one more net goes behind the list, or doesn't
pub part_more : (passes : ℕ → Bool) (nets : List NetId) (k : ℕ) (d : NetId) (list whole : List NetId) → k < length nets → passes k ≡ true → list ++ chosen passes k (drop k nets) ≡ whole → (list ++ get_or nets k d ∷ []) ++ chosen passes (k + 1) (drop (k + 1) nets) ≡ whole
part_more passes nets k d list whole within one is =
    append_assoc list (get_or nets k d ∷ []) (chosen passes (k + 1) (drop (k + 1) nets))
    ∙ ap (λ rest. list ++ rest) (sym (chosen_more passes nets k d within one)) ∙ is

pub part_same : (passes : ℕ → Bool) (nets : List NetId) (k : ℕ) (list whole : List NetId) → k < length nets → passes k ≡ false → list ++ chosen passes k (drop k nets) ≡ whole → list ++ chosen passes (k + 1) (drop (k + 1) nets) ≡ whole
part_same passes nets k list whole within bit is = ap (λ rest. list ++ rest) (sym (chosen_not passes nets k within bit)) ∙ is

pub part_ends : (passes : ℕ → Bool) (nets : List NetId) (k : ℕ) (list whole : List NetId) → length nets ≤ k → list ++ chosen passes k (drop k nets) ≡ whole → list ≡ whole
unfolding chosen
part_ends passes nets k list whole all is =
    sym (append-nil list) ∙ ap (λ rest. list ++ chosen passes k rest) (sym (no_items (drop k nets) (omega (arith, all, length-drop k nets)))) ∙ is
