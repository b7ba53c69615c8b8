-- The walk over the gates before a net, and nets that are put in order.
use Rattle.std.proofs.Common.{◌≡◌, ◌+◌, ◌<◌, ℕ, Bool, true, false, not, cond, List, [], ◌∷◌, ◌++◌, Some, length, get_or, set, sym, ◌∙◌, ap, subst, arith, length-set, length-append}
use Rattle.std.specs.List.{All, slice_get, count_by}
use Rattle.std.specs.List.Sorted.{IsPermutation}
use Rattle.std.proofs.lemmas.List.Elements.{All-append, All-cons, All-nil}
use Rattle.std.proofs.lemmas.List.Sorted.{Contains-permutation, IsPermutation-sym, length_permutation}
use Rattle.std.proofs.lemmas.List.Sums.{sum_by-set}
use Rattle.std.proofs.lemmas.Option.{slice_get_within, get_or_from_slice_get}
use Rattle.eco_locate.specs.declared.cone.Cone.{Cone}
use Rattle.eco_locate.specs.Moves.{IsRearranged}
use Rattle.eco_locate.specs.Ranking.{IsCone, IsFurther}

-- one place more is marked
marked : (seen : List Bool) (n : ℕ) → slice_get seen n ≡ Some false → count_by not (set seen n true) + 1 ≡ count_by not seen
marked seen n new =
    let below : n < length seen = slice_get_within seen n false new in
    let was : get_or seen n false ≡ false = get_or_from_slice_get seen n false false new in
    let bit : Bool → ℕ = λ b. cond (not b) 1 0 in
    let sums : count_by not (set seen n true) + bit (get_or seen n false) ≡ count_by not seen + 0 = sum_by-set bit seen n true false below in
    let one : bit (get_or seen n false) ≡ 1 = ap bit was in
    omega (arith, sums, one)

-- a gate that wasn't met is met
pub met_new : (old new : Cone) (n : ℕ) → slice_get old.seen.items n ≡ Some false → new.seen.items ≡ set old.seen.items n true → new.met.items ≡ old.met.items ++ n ∷ [] → new.waiting.items ≡ old.waiting.items ++ n ∷ [] → IsCone old → IsFurther old new
met_new old new n fresh seen met waiting is =
    let Below : ℕ → Type 0 = λ i. i < length old.seen.items in
    let len : length new.seen.items ≡ length old.seen.items = ap length seen ∙ length-set old.seen.items n true in
    let one : All Below (n ∷ []) = All-cons Below n [] (slice_get_within old.seen.items n false fresh) (All-nil Below) in
    let more : (list : List ℕ) → All Below list → All (λ i. i < length new.seen.items) (list ++ n ∷ []) = λ list all.
    subst (λ (k : ℕ). All (λ i. i < k) (list ++ n ∷ [])) (sym len) (All-append Below list (n ∷ []) all one) in
    record {
      stands = record {
        met = subst (All (λ i. i < length new.seen.items)) (sym met) (more old.met.items is.met);
        waiting = subst (All (λ i. i < length new.seen.items)) (sym waiting) (more old.waiting.items is.waiting);
      };
      len = len;
      steps = omega (arith, marked old.seen.items n fresh, ap (count_by not) seen, ap length waiting, length-append old.waiting.items (n ∷ []));
    }

pub further_twice : (a b c : Cone) → IsFurther a b → IsFurther b c → IsFurther a c
further_twice a b c one two = record { stands = two.stands; len = two.len ∙ one.len; steps = omega (arith, one.steps, two.steps) }

-- what is put in another order is rearranged
pub permuted : {X : Type 0} (before after : List X) → IsPermutation before after → IsRearranged before after
permuted before after is = record {
  members = λ x. (Contains-permutation before after x is, Contains-permutation after before x (IsPermutation-sym before after is));
  count = length_permutation before after is;
}
