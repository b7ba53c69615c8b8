-- Copies of clauses, one behind the other in a list.
use Rattle.std.proofs.Common.{◌≡◌, ℕ, suc, ◌-◌, ◌<◌, ◌≤◌, List, [], ◌∷◌, ◌++◌, length, take, drop, set, get_or, slice_get, slice_range, Some, refl, sym, ap, ◌∙◌, arith}
use Rattle.std.proofs.lemmas.List.{take-append-le, drop-append-le, take_all, length-drop, length-append, length-map, map-append, map-set, get_or-map}
use Rattle.std.proofs.lemmas.Option.{same_Some, slice_get-get_or}
use Rattle.std.proofs.Math.Seq.{drop-append_seam}
use Rattle.eco_trace.specs.declared.clause.Lit.{Lit}
use Rattle.eco_cdcl.specs.Pairs.{Two, Seat, two_of, twos_of, AreSeated, IsOneOf, IsBeside, moved_to}

-- a part of a list, where more stands behind it, and what stands behind it
range_longer : (xs ys : List Lit) (i j : ℕ) → i ≤ j → j ≤ length xs → slice_range (xs ++ ys) i j ≡ slice_range xs i j
range_longer xs ys i j le in_xs =
    ap (take (j - i)) (drop-append-le i xs ys (omega arith)) ∙ take-append-le (j - i) (drop i xs) ys (omega (arith, length-drop i xs))

range_behind : (xs ys : List Lit) → slice_range (xs ++ ys) (length xs) (length (xs ++ ys)) ≡ ys
range_behind xs ys =
    ap (take (length (xs ++ ys) - length xs)) (drop-append_seam xs ys) ∙ take_all (length (xs ++ ys) - length xs) ys (omega (arith, length-append xs ys))

-- copies stay what they are where more stands behind them
pub twos_longer : (lits more : List Lit) (seats : List Seat) → AreSeated lits seats → twos_of (lits ++ more) seats ≡ twos_of lits seats
twos_longer lits more [] h = refl
twos_longer lits more (s ∷ seats) h =
    let here = h 0 s (omega arith) in
    let same = range_longer lits more s.start s.end here.0 here.1 in
    ap (λ l. record { one = s.one; other = s.other; lits = l } ∷ twos_of (lits ++ more) seats) same
    ∙ ap (λ l. two_of lits s ∷ l) (twos_longer lits more seats (λ i d lt. h (suc i) d (omega arith)))

-- one more copy
pub twos_pushed : (lits more : List Lit) (seats : List Seat) (one other : Lit) → AreSeated lits seats → twos_of (lits ++ more) (seats ++ record { one = one; other = other; start = length lits; end = length (lits ++ more) } ∷ []) ≡ twos_of lits seats ++ record { one = one; other = other; lits = more } ∷ []
twos_pushed lits more seats one other h =
    let s : Seat = record { one = one; other = other; start = length lits; end = length (lits ++ more) } in
    map-append (two_of (lits ++ more)) seats (s ∷ [])
    ∙ ap (λ l. l ++ two_of (lits ++ more) s ∷ []) (twos_longer lits more seats h)
    ∙ ap (λ l. twos_of lits seats ++ record { one = one; other = other; lits = l } ∷ []) (range_behind lits more)

-- what was read of a clause
pub two_read : (lits : List Lit) (seats : List Seat) (i : ℕ) (s : Seat) → i < length seats → s ≡ get_or seats i s → slice_get (twos_of lits seats) i ≡ Some (two_of lits s)
two_read lits seats i s lt read =
    slice_get-get_or (twos_of lits seats) i (two_of lits s) (omega (arith, length-map seats (two_of lits)))
    ∙ ap Some (get_or-map (two_of lits) seats i s (two_of lits s) lt ∙ ap (two_of lits) (sym read))

pub beside : (lits : List Lit) (seats : List Seat) (i : ℕ) (s : Seat) (lit x : Lit) → i < length seats → s ≡ get_or seats i s → IsOneOf (two_of lits s) x → (x ≡ lit → s.one ≡ s.other) → IsBeside (twos_of lits seats) i lit x
beside lits seats i s lit x lt read o single = record {
  two = two_of lits s;
  two_at = two_read lits seats i s lt read;
  one_of = o;
  single = single;
}

-- two other literals for a clause
pub twos_set : (lits : List Lit) (seats : List Seat) (i : ℕ) (s : Seat) (one other : Lit) (two : Two) → i < length seats → s ≡ get_or seats i s → slice_get (twos_of lits seats) i ≡ Some two → twos_of lits (set seats i (record { one = one; other = other; start = s.start; end = s.end })) ≡ set (twos_of lits seats) i (moved_to two one other)
twos_set lits seats i s one other two lt read found =
    let same : two_of lits s ≡ two = same_Some (two_of lits s) two (sym (two_read lits seats i s lt read) ∙ found) in
    map-set (two_of lits) seats i (record { one = one; other = other; start = s.start; end = s.end })
    ∙ ap (λ z. set (twos_of lits seats) i (moved_to z one other)) same
