-- Ranges of numbers, and the images of lists of numbers.
use Rattle.std.proofs.Common.{◌≡◌, ◌≢◌, ℕ, ◌<◌, List, length, get_or, map, sym, ◌∙◌, arith}
use Rattle.std.specs.List.{range_with_len, AllPairs, Contains, IsDistinct}
use Rattle.std.specs.Str.{bytes_eq}
use Rattle.std.proofs.lemmas.List.{get_or-map, length-map}
use Rattle.std.proofs.lemmas.List.FromFn.{get_or-range_with_len, length-range_with_len}
use Rattle.std.proofs.lemmas.Map.Made.{IsDistinct-from_AllPairs}
use Rattle.std.proofs.lemmas.Slice.Eq.{bytes_eq-Decides}
use Rattle.eco_lists.proofs.Members.{Contains-map, map-Contains}
use Rattle.eco_lists.proofs.Places.{any_default}
use Rattle.eco_lists.proofs.Ranges.{range_member, member_of_range}

-- the numbers of a range are those below its length
pub from_range : (n k : ℕ) → Contains (range_with_len 0 n) k → k < n
from_range n k c = omega (arith, range_member 0 n k c)

pub range_once : (n : ℕ) → AllPairs (λ a b. a ≢ b) (range_with_len 0 n)
range_once n i j d lt within same =
    let below : j < n = omega (arith, within, length-range_with_len 0 n) in
    let first = get_or-range_with_len 0 n i d (omega arith) in
    let second = get_or-range_with_len 0 n j d below in
    omega (arith, lt, same, first, second)

-- images of the numbers of a range
pub image_in : {X : Type 0} (f : ℕ → X) (n k : ℕ) → k < n → Contains (map f (range_with_len 0 n)) (f k)
image_in f n k below = Contains-map f (range_with_len 0 n) k (member_of_range 0 n k (omega arith) (omega (arith, below)))

pub from_image : {X : Type 0} (f : ℕ → X) (n : ℕ) (x : X) → Contains (map f (range_with_len 0 n)) x → (k : ℕ) × (k < n) × (f k ≡ x)
from_image f n x c =
    let found = map-Contains f (range_with_len 0 n) x c in
    (found.0, from_range n found.0 found.1, found.2)

-- different numbers that have different names give a list of different names
pub distinct_images : (f : ℕ → List ℕ) (xs : List ℕ) → AllPairs (λ a b. a ≢ b) xs → ((a b : ℕ) → Contains xs a → Contains xs b → f a ≡ f b → a ≡ b) → IsDistinct bytes_eq (map f xs)
distinct_images f xs once apart =
    IsDistinct-from_AllPairs bytes_eq-Decides (map f xs) (λ i j d lt within same.
    let inside : j < length xs = omega (arith, within, length-map xs f) in
    let before : i < length xs = omega (arith, lt, inside) in
    let first = get_or-map f xs i 0 d before in
    let second = get_or-map f xs j 0 d inside in
    once i j 0 lt inside (apart (get_or xs i 0) (get_or xs j 0) (i, before, default xs i before) (j, inside, default xs j inside) (sym first ∙ same ∙ second)))
  where
    default : (xs : List ℕ) (i : ℕ) → i < length xs → get_or xs i (get_or xs i 0) ≡ get_or xs i 0
    default xs i lt = any_default xs i (get_or xs i 0) 0 lt
