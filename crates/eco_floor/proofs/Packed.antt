-- What packings keep: proofs.
use Rattle.std.proofs.Common.{◌≡◌, ◌≢◌, inl, inr, ℕ, zero, suc, ◌+◌, ◌<◌, ◌≤◌, List, [], ◌∷◌, ◌++◌, Option, None, Some, length, map, get_or, refl, sym, ◌∙◌, ap, subst, arith}
use Rattle.std.specs.List.{Contains}
use Rattle.std.proofs.lemmas.Bool.{cases_eq}
use Rattle.std.proofs.lemmas.List.Elements.{Contains-append_cases}
use Rattle.std.specs.Prelude.{unwrap_or}
use Rattle.eco_lists.proofs.Places.{All_at, place_of}
use Rattle.eco_lists.proofs.Members.{Contains_first, Contains_none, only_one}
use Rattle.eco_floor.specs.declared.decision.Decision.{Decision}
use Rattle.eco_floor.specs.declared.decision.Decision.TheVariants.{Taken, Left}
use Rattle.eco_floor.specs.Sets.{Hits}
use Rattle.eco_floor.specs.Search.{Agrees, AreAbove, ChangesAt, Falls, IsAtMost, IsDecided, IsLeast, IsLowered, IsPacked, IsRowPacked, less_by, rest_at}
use Rattle.eco_floor.proofs.Sets.{total_less, total_paid}

-- what falls, by cases
falls_least : (x y : Option ℕ) → Falls 0 x y → unwrap_or y 0 ≤ unwrap_or x 0
falls_least None None falls = omega arith
falls_least (Some old) (Some new) falls = omega (arith, falls)
falls_least None (Some new) falls = absurd falls
falls_least (Some old) None falls = absurd falls

falls_paid : (amount : ℕ) (x y : Option ℕ) → x ≢ None → Falls amount x y → unwrap_or y 0 + amount ≤ unwrap_or x 0
falls_paid amount None None is falls = absurd (is refl)
falls_paid amount (Some old) (Some new) is falls = falls
falls_paid amount None (Some new) is falls = absurd falls
falls_paid amount (Some old) None is falls = absurd falls

falls_open : (x y : Option ℕ) → Falls 0 x y → y ≡ None → x ≡ None
falls_open None None falls e = refl
falls_open (Some old) (Some new) falls e = absurd (cc)
falls_open None (Some new) falls e = absurd falls
falls_open (Some old) None falls e = absurd falls

falls_then : (amount : ℕ) (x y z : Option ℕ) → Falls amount x y → Falls 0 y z → Falls amount x z
falls_then amount None None z falls more = more
falls_then amount (Some old) (Some mid) (Some new) falls more = omega (arith, falls, more)
falls_then amount (Some old) (Some mid) None falls more = absurd more
falls_then amount None (Some mid) z falls more = absurd falls
falls_then amount (Some old) None z falls more = absurd falls

falls_same : (x : Option ℕ) → Falls 0 x x
falls_same None = tt
falls_same (Some rest) = omega arith

-- taken from what was left after earlier amounts
falls_less : (amount : ℕ) (x : Option ℕ) → Falls 0 x (less_by amount x)
falls_less amount None = tt
falls_less amount (Some old) = omega arith

falls_by : (amount : ℕ) (x y : Option ℕ) → Falls 0 x y → ((rest : ℕ) → x ≡ Some rest → amount ≤ rest) → Falls amount x (less_by amount y)
falls_by amount None None falls within = tt
falls_by amount (Some old) (Some mid) falls within = omega (arith, falls, within old refl)
falls_by amount None (Some mid) falls within = absurd falls
falls_by amount (Some old) None falls within = absurd falls

-- nothing is taken at first
pub lowered_none : (slack : List (Option ℕ)) (amount : ℕ) → IsLowered [] slack slack amount
lowered_none slack amount = record {
  kept = λ column. falls_same (rest_at slack column);
  paid = λ column in'. absurd (Contains_none column in');
}

-- one more column of the row
pub lowered_more : (done : List ℕ) (column amount : ℕ) (old mid new : List (Option ℕ)) → ((rest : ℕ) → rest_at old column ≡ Some rest → amount ≤ rest) → ChangesAt mid new column (less_by amount (rest_at mid column)) → IsLowered done old mid amount → IsLowered (done ++ column ∷ []) old new amount
lowered_more done column amount old mid new within changes are = record {
  kept = λ c. falls_then 0 (rest_at old c) (rest_at mid c) (rest_at new c) (are.kept c) (step c);
  paid = λ c in'. elim (Contains-append_cases done (column ∷ []) c in') [
    | inl before ↦ falls_then amount (rest_at old c) (rest_at mid c) (rest_at new c) (are.paid c before) (step c)
    | inr last ↦ subst (λ n. Falls amount (rest_at old n) (rest_at new n)) (only_one column c last) here
  ];
}
  where
    step : (c : ℕ) → Falls 0 (rest_at mid c) (rest_at new c)
    step c = elim (cases_eq c column) [
      | inl same ↦
          subst (λ n. Falls 0 (rest_at mid n) (rest_at new n)) (sym same)
          (subst (λ rest. Falls 0 (rest_at mid column) rest) (sym changes.here) (falls_less amount (rest_at mid column)))
      | inr unlike ↦ subst (λ rest. Falls 0 (rest_at mid c) rest) (sym (changes.others c unlike)) (falls_same (rest_at mid c))
    ]

    here : Falls amount (rest_at old column) (rest_at new column)
    here =
        subst (λ rest. Falls amount (rest_at old column) rest) (sym changes.here)
        (falls_by amount (rest_at old column) (rest_at mid column) (are.kept column) within)

-- one more column, of which there is this left
pub least_more : (slack : List (Option ℕ)) (done : List ℕ) (column : ℕ) (least lesser : Option ℕ) → ((bound : ℕ) → IsAtMost least bound → IsAtMost lesser bound) → ((bound : ℕ) → rest_at slack column ≡ Some bound → IsAtMost lesser bound) → IsLeast slack done least → IsLeast slack (done ++ column ∷ []) lesser
least_more slack done column least lesser first second are c rest in' at =
    elim (Contains-append_cases done (column ∷ []) c in') [
      | inl before ↦ first rest (are c rest before at)
      | inr last ↦ second rest (ap (rest_at slack) (only_one column c last) ∙ at)
    ]

-- a row that each set hits takes its amount
pub packed_lowered : (rows : List (List ℕ)) (weights : List ℕ) (decisions : List Decision) (old new : List (Option ℕ)) (sum more amount : ℕ) (row : List ℕ) → ((set : List ℕ) → Agrees rows weights decisions set → Hits set row) → IsLowered row old new amount → more ≤ sum + amount → IsPacked rows weights decisions old sum → IsPacked rows weights decisions new more
packed_lowered rows weights decisions old new sum more amount row hits lowered most are = record {
  below = λ set agrees.
      let hit = hits set agrees in
      let paid = falls_paid amount (rest_at old hit.column) (rest_at new hit.column) (are.open_in set hit.column agrees hit.in_set) (lowered.paid hit.column hit.in_row) in
      let lesser = total_paid (λ c. unwrap_or (rest_at new c) 0) (λ c. unwrap_or (rest_at old c) 0) set hit.column amount
      (λ c. falls_least (rest_at old c) (rest_at new c) (lowered.kept c)) hit.in_set paid in
      omega (arith, lesser, most, are.below set agrees);
  open_in = λ set column agrees in' none. are.open_in set column agrees in' (falls_open (rest_at old column) (rest_at new column) (lowered.kept column) none);
}

-- a column that no set has is left out
pub packed_left : (rows : List (List ℕ)) (weights : List ℕ) (decisions : List Decision) (old new : List (Option ℕ)) (sum column : ℕ) → ((set : List ℕ) → Agrees rows weights decisions set → Contains set column → ⊥) → ChangesAt old new column None → IsPacked rows weights decisions old sum → IsPacked rows weights decisions new sum
packed_left rows weights decisions old new sum column out changes are = record {
  below = λ set agrees. omega (arith, total_less (λ c. unwrap_or (rest_at new c) 0) (λ c. unwrap_or (rest_at old c) 0) set less, are.below set agrees);
  open_in = λ set c agrees in'. elim (cases_eq c column) [
    | inl same ↦ absurd (out set agrees (subst (λ n. Contains set n) same in'))
    | inr unlike ↦ λ none. are.open_in set c agrees in' (sym (changes.others c unlike) ∙ none)
  ];
}
  where
    less : (c : ℕ) → unwrap_or (rest_at new c) 0 ≤ unwrap_or (rest_at old c) 0
    less c = elim (cases_eq c column) [
      | inl same ↦
          let none : unwrap_or (rest_at new c) 0 ≡ 0 = ap (λ n. unwrap_or (rest_at new n) 0) same ∙ ap (λ o. unwrap_or o 0) changes.here in
          omega (arith, none)
      | inr unlike ↦ let same = ap (λ o. unwrap_or o 0) (changes.others c unlike) in omega (arith, same)
    ]

-- what a decision takes
pub packed_decided : (rows : List (List ℕ)) (weights : List ℕ) (decisions : List Decision) (old new : List (Option ℕ)) (sum more amount : ℕ) (decision : Decision) → Contains decisions decision → IsDecided decision old new amount → more ≤ sum + amount → IsPacked rows weights decisions old sum → IsPacked rows weights decisions new more
packed_decided rows weights decisions old new sum more amount (Taken column) in' decided most are =
    packed_lowered rows weights decisions old new sum more amount (column ∷ [])
    (λ set agrees. record { column = column; in_set = agrees.taken column in'; in_row = Contains_first column [] }) decided most are
packed_decided rows weights decisions old new sum more amount (Left column) in' (nothing, changes) most are =
    let left = packed_left rows weights decisions old new sum column (λ set agrees. agrees.left column in') changes are in
    record { below = λ set agrees. omega (arith, left.below set agrees, most, nothing); open_in = left.open_in }

-- nothing is taken, and no column left out
pub packed_whole : (rows : List (List ℕ)) (weights : List ℕ) (decisions : List Decision) → IsPacked rows weights decisions (map Some weights) 0
packed_whole rows weights decisions = record {
  below = λ set agrees. omega (arith, total_less (λ c. unwrap_or (rest_at (map Some weights) c) 0) (λ c. get_or weights c 0) set (whole_rest weights));
  open_in = λ set column agrees in'. let (k, at) = place_of set column in' in open_rest weights column (All_at (λ c. c < length weights) set k column agrees.within at);
}
  where
    whole_rest : (ws : List ℕ) (c : ℕ) → unwrap_or (rest_at (map Some ws) c) 0 ≤ get_or ws c 0
    whole_rest [] c = omega arith
    whole_rest (w ∷ ws) zero = omega arith
    whole_rest (w ∷ ws) (suc c) = whole_rest ws c

    open_rest : (ws : List ℕ) (c : ℕ) → c < length ws → rest_at (map Some ws) c ≢ None
    open_rest [] c below = absurd (omega (arith, below))
    open_rest (w ∷ ws) zero below = λ e. absurd (cc)
    open_rest (w ∷ ws) (suc c) below = open_rest ws c (omega (arith, below))

-- the sum reaches the best
pub packed_above : (rows : List (List ℕ)) (weights : List ℕ) (decisions : List Decision) (slack : List (Option ℕ)) (sum best : ℕ) → best ≤ sum → IsPacked rows weights decisions slack sum → AreAbove rows weights best decisions
packed_above rows weights decisions slack sum best most are set agrees = omega (arith, most, are.below set agrees)

-- no set hits a row whose columns are all left out
pub none_left : (rows : List (List ℕ)) (weights : List ℕ) (decisions : List Decision) (slack : List (Option ℕ)) (sum best : ℕ) (row : List ℕ) → Contains rows row → ((column : ℕ) → Contains row column → rest_at slack column ≡ None) → IsPacked rows weights decisions slack sum → AreAbove rows weights best decisions
none_left rows weights decisions slack sum best row in' none are set agrees =
    let (k, at) = place_of rows row in' in
    let hit = All_at (Hits set) rows k row agrees.hits at in
    absurd (are.open_in set hit.column agrees hit.in_set (none hit.column hit.in_row))

-- a row of these takes its amount
pub packed_row : (rows : List (List ℕ)) (weights : List ℕ) (decisions : List Decision) (old new : List (Option ℕ)) (sum more : ℕ) (row : List ℕ) → Contains rows row → IsRowPacked row old new sum (Some more) → IsPacked rows weights decisions old sum → IsPacked rows weights decisions new more
packed_row rows weights decisions old new sum more row in' (amount, most, lowered) are =
    packed_lowered rows weights decisions old new sum more amount row
    (λ set agrees. let (k, at) = place_of rows row in' in All_at (Hits set) rows k row agrees.hits at) lowered most are
