-- Lists of bits that differ, and their edges compared one pair at a time.
use Rattle.std.proofs.Common.{◌≡◌, ℕ, ◌+◌, ◌*◌, ◌≤◌, Bool, true, false, ◌||◌, List, [], ◌∷◌, ◌++◌, Some, length, take, refl, sym, ◌∙◌, ap, arith, add-one}
use Rattle.std.specs.List.{slice_get}
use Rattle.std.proofs.lemmas.Bool.{true≢false}
use Rattle.std.proofs.lemmas.List.{map-append, length-map, length-take-le}
use Rattle.std.proofs.lemmas.Option.{slice_get_within}
use Rattle.std.proofs.Math.Bool.{or-false, or_assoc}
use Rattle.eco_lists.proofs.Places.{take_at_more}
use Rattle.eco_lists.proofs.Tests.{neither}
use Rattle.eco_aig.specs.declared.edge.Edge.{Edge}
use Rattle.eco_aig.specs.declared.node.Node.{Node}
use Rattle.eco_lists.specs.Bits.{exactly_one}
use Rattle.eco_aig.specs.Edges.{value_of, plain, bits_of}
use Rattle.eco_aig.specs.Graph.{IsGraph, HasValue, Grows}
use Rattle.eco_aig.proofs.Growing.{grows_none, grows_join, grows_more, valuation_of_older}
use Rattle.eco_lists.proofs.Odd.{same_bits}
use Rattle.eco_aig.proofs.Conjunctions.{zero_value}
use Rattle.eco_compile.specs.Valued.{differ}

-- a list doesn't differ from itself, and from no other does it not differ
alike_bit : (b : Bool) → exactly_one b b ≡ false
alike_bit true = refl
alike_bit false = refl

pub differ_self : (bits : List Bool) → differ bits bits ≡ false
unfolding differ
differ_self [] = refl
differ_self (b ∷ bits) = ap (λ x. x || differ bits bits) (alike_bit b) ∙ differ_self bits

pub same_from_alike : (xs ys : List Bool) → differ xs ys ≡ false → xs ≡ ys
unfolding differ
same_from_alike [] [] e = refl
same_from_alike [] (y ∷ ys) e = absurd (true≢false e)
same_from_alike (x ∷ xs) [] e = absurd (true≢false e)
same_from_alike (x ∷ xs) (y ∷ ys) e =
    let parts = neither (exactly_one x y) (differ xs ys) e in
    cc (same_bits x y parts.0, same_from_alike xs ys parts.1)

-- one more pair of bits
differ_push : (xs ys : List Bool) (x y : Bool) → length xs ≡ length ys → differ (xs ++ x ∷ []) (ys ++ y ∷ []) ≡ (differ xs ys || exactly_one x y)
unfolding differ
differ_push [] [] x y len = or-false (exactly_one x y)
differ_push [] (b ∷ ys) x y len = absurd (omega arith)
differ_push (a ∷ xs) [] x y len = absurd (omega arith)
differ_push (a ∷ xs) (b ∷ ys) x y len =
    ap (λ c. exactly_one a b || c) (differ_push xs ys x y (omega arith)) ∙ sym (or_assoc (exactly_one a b) (differ xs ys) (exactly_one x y))

-- the edge tells whether the first k of the outputs differ from those that are wanted
pub record IsComparedTo (outputs wanted : List Edge) (old nodes : List Node) (k : ℕ) (e : Edge) : Type 0 where
  pub grows : Grows old nodes (4 * k)
  pub value : HasValue nodes e (λ w. differ (bits_of w (take k outputs)) (bits_of w (take k wanted)))

-- none yet
pub compared_none : (outputs wanted : List Edge) (nodes : List Node) → IsGraph nodes → IsComparedTo outputs wanted nodes nodes 0 (plain 0)
unfolding differ
compared_none outputs wanted nodes graph = record { grows = grows_none nodes (4 * 0); value = zero_value nodes graph }

-- the bits of one edge more
bits_more : (w : ℕ → Bool) (edges : List Edge) (k : ℕ) (e : Edge) → slice_get edges k ≡ Some e → bits_of w (take (k + 1) edges) ≡ bits_of w (take k edges) ++ value_of w e ∷ []
bits_more w edges k e at =
    ap (λ n. bits_of w (take n edges)) (add-one k) ∙ ap (bits_of w) (take_at_more edges k e at) ∙ map-append (value_of w) (take k edges) (e ∷ [])

front_length : (w : ℕ → Bool) (edges : List Edge) (k : ℕ) → k ≤ length edges → length (bits_of w (take k edges)) ≡ k
front_length w edges k le = length-map (take k edges) (value_of w) ∙ length-take-le k edges le

-- one pair more
pub compared_more : (outputs wanted : List Edge) (old nodes new : List Node) (k : ℕ) (a b e made : Edge) → length outputs ≡ length wanted → slice_get outputs k ≡ Some a → slice_get wanted k ≡ Some b → IsComparedTo outputs wanted old nodes k e → Grows nodes new 4 → HasValue new made (λ w. value_of w e || exactly_one (value_of w a) (value_of w b)) → IsComparedTo outputs wanted old new (k + 1) made
compared_more outputs wanted old nodes new k a b e made same at_a at_b is grows has = record {
  grows = grows_more old new (4 * k + 4) (4 * (k + 1)) (omega arith) (grows_join old nodes new (4 * k) 4 is.grows grows);
  value = record {
    within = has.within;
    value = λ w valuation.
        let lt = slice_get_within outputs k a at_a in
        let len : length (bits_of w (take k outputs)) ≡ length (bits_of w (take k wanted)) = front_length w outputs k (omega (arith, lt)) ∙ sym (front_length w wanted k (omega (arith, lt, same))) in
        has.value w valuation
        ∙ ap (λ x. x || exactly_one (value_of w a) (value_of w b)) (is.value.value w (valuation_of_older nodes new 4 w grows valuation))
        ∙ sym (differ_push (bits_of w (take k outputs)) (bits_of w (take k wanted)) (value_of w a) (value_of w b) len)
        ∙ sym (ap (λ bits. differ bits (bits_of w (take k wanted) ++ value_of w b ∷ [])) (bits_more w outputs k a at_a))
        ∙ sym (ap (differ (bits_of w (take (k + 1) outputs))) (bits_more w wanted k b at_b));
  };
}
