-- Walks down a tree, step by step.
use Rattle.std.proofs.Common.{◌≡◌, ◌↔◌, ◌+◌, ◌≤◌, Bool, false, List, [], ◌∷◌, ◌++◌, length, reverse, length-append, append_assoc, append-nil, refl, sym, ◌∙◌, ap, subst, arith}
use Rattle.std.specs.List.{slice_get}
use Rattle.std.proofs.lemmas.Option.{same_Some}
use Rattle.std.proofs.lemmas.List.{reverse-append, length-reverse}
use Rattle.eco_aig.specs.declared.edge.Edge.{Edge}
use Rattle.eco_aig.specs.declared.node.Node.{Node}
use Rattle.eco_lists.specs.Bits.{exactly_one}
use Rattle.eco_aig.specs.Graph.{IsGraph}
use Rattle.eco_lists.proofs.Odd.{one_none, one_assoc}
use Rattle.eco_splice.specs.declared.join.Join.{Join}
use Rattle.eco_splice.specs.Trees.{Joins, Meets, Spans, leaf, inner}
use Rattle.eco_splice.specs.Walks.{Covers, GoesOn}
use Rattle.eco_splice.proofs.BitLemmas.{one_twice, one_again}
use Rattle.eco_splice.proofs.JoinLemmas.{one_join, spans_some, spans_leaf}

-- an edge that waits has an operand of its own
covers_few : (nodes : List Node) (join : Join) (edges operands : List Edge) (sign : Bool) → Covers nodes join edges operands sign → length edges ≤ length operands
covers_few nodes join [] operands sign covers = omega arith
covers_few nodes join (e ∷ edges) operands sign (own, rest, first, others, tree, covers, are, signs) =
    let some = spans_some nodes join e own first tree in
    let few = covers_few nodes join edges rest others covers in
    let count = ap length are ∙ length-append own rest in
    omega (arith, some, few, count)

-- a walk at its beginning
pub covers_alone : (nodes : List Node) (join : Join) (e : Edge) (operands : List Edge) → Spans nodes join e operands false ↔ Covers nodes join (e ∷ []) operands false
covers_alone nodes join e operands = (
  (λ tree. (operands, [], false, false, tree, (refl, refl), sym (append-nil operands), refl)),
  (λ c. by c.0 c.1 c.2 c.3 c.4 c.5.0 c.5.1 c.6 c.7),
)
  where
    by : (own rest : List Edge) (first others : Bool) → Spans nodes join e own first → rest ≡ [] → others ≡ false → operands ≡ own ++ rest → false ≡ exactly_one first others → Spans nodes join e operands false
    by own rest first others tree none straight are signs =
        let list : operands ≡ own = are ∙ ap (λ list. own ++ list) none ∙ append-nil own in
        let sign : false ≡ first = signs ∙ ap (exactly_one first) straight ∙ one_none first in
        subst (λ s. Spans nodes join e operands s) (sym sign) (subst (λ list. Spans nodes join e list first) (sym list) tree)

-- the edge at hand is met at the next operand
covers_met : (nodes : List Node) (join : Join) (e x : Edge) (edges rest : List Edge) (sign : Bool) → IsGraph nodes → Meets join e x → Covers nodes join (e ∷ edges) (x ∷ rest) sign ↔ Covers nodes join edges rest (exactly_one sign (exactly_one e.complemented x.complemented))
covers_met nodes join e x edges rest sign graph meets = (
  (λ c.
      let own = spans_leaf nodes join e x c.0 rest c.1 c.2 graph meets c.4 c.6 in
      let others : c.3 ≡ exactly_one sign (exactly_one e.complemented x.complemented) =
      sym (ap (λ s. exactly_one s (exactly_one e.complemented x.complemented)) (c.7 ∙ ap (λ s. exactly_one s c.3) own.0) ∙ one_twice (exactly_one e.complemented x.complemented) c.3) in
      subst (λ s. Covers nodes join edges rest s) others (subst (λ list. Covers nodes join edges list c.3) (sym own.1) c.5)),
  (λ covers. (x ∷ [], rest, exactly_one e.complemented x.complemented, exactly_one sign (exactly_one e.complemented x.complemented), leaf e x meets, covers, refl, one_again (exactly_one e.complemented x.complemented) sign)),
)

-- the two edges that it joins take its place
covers_joined : (nodes : List Node) (join : Join) (e a b x : Edge) (edges rest : List Edge) (sign : Bool) → (Meets join e x → ⊥) → Joins nodes join e a b → Covers nodes join (e ∷ edges) (x ∷ rest) sign ↔ Covers nodes join (a ∷ b ∷ edges) (x ∷ rest) (exactly_one sign e.complemented)
covers_joined nodes join e a b x edges rest sign unmet joins = (
  (λ c. down c.0 c.1 c.2 c.3 c.4 c.5 c.6 c.7),
  (λ c. up c.0 c.1 c.2 c.3 c.4 c.5 c.6 c.7),
)
  where
    down : (own more : List Edge) (first others : Bool) → Spans nodes join e own first → Covers nodes join edges more others → x ∷ rest ≡ own ++ more → sign ≡ exactly_one first others → Covers nodes join (a ∷ b ∷ edges) (x ∷ rest) (exactly_one sign e.complemented)
    down own more first others (leaf d y meets) covers are signs =
        absurd (unmet (subst (Meets join e) (sym (same_Some x y (ap (λ list. slice_get list 0) are))) meets))
    down own more first others (inner z c d xs ys s t other one two) covers are signs =
        let same = one_join nodes join e c d a b other joins in
        let sign_is : exactly_one sign e.complemented ≡ exactly_one s (exactly_one t others) =
        ap (λ z. exactly_one z e.complemented) (signs ∙ sym (one_assoc e.complemented (exactly_one s t) others)) ∙ one_twice e.complemented (exactly_one (exactly_one s t) others) ∙ sym (one_assoc s t others) in (
          xs,
          ys ++ more,
          s,
          exactly_one t others,
          subst (λ z. Spans nodes join z xs s) same.0 one,
          (ys, more, t, others, subst (λ z. Spans nodes join z ys t) same.1 two, covers, refl, refl),
          are ∙ append_assoc xs ys more,
          sign_is,
        )

    up : (own more : List Edge) (first others : Bool) → Spans nodes join a own first → Covers nodes join (b ∷ edges) more others → x ∷ rest ≡ own ++ more → exactly_one sign e.complemented ≡ exactly_one first others → Covers nodes join (e ∷ edges) (x ∷ rest) sign
    up own more first others one (ys, last, t, behind, two, covers, more_are, others_are) are signs =
        let c = e.complemented in (
          own ++ ys,
          last,
          exactly_one c (exactly_one first t),
          behind,
          inner e a b own ys first t joins one two,
          covers,
          are ∙ ap (λ list. own ++ list) more_are ∙ sym (append_assoc own ys last),
          one_again c sign ∙ ap (exactly_one c) (signs ∙ ap (exactly_one first) others_are ∙ one_assoc first t behind) ∙ one_assoc c (exactly_one first t) behind,
        )

-- no operand is left for the edge at hand
pub covers_none : (nodes : List Node) (join : Join) (e : Edge) (edges operands : List Edge) (sign : Bool) → length operands ≡ 0 → Covers nodes join (e ∷ edges) operands sign → ⊥
covers_none nodes join e edges operands sign none covers =
    let few = covers_few nodes join (e ∷ edges) operands sign covers in
    absurd (omega (arith, few, none))

-- there are more edges than operands, two of which the edge at hand joins
pub covers_many : (nodes : List Node) (join : Join) (e a b x : Edge) (stack operands rest : List Edge) (sign : Bool) → operands ≡ x ∷ rest → (Meets join e x → ⊥) → Joins nodes join e a b → (length stack + 2 ≤ length operands → ⊥) → Covers nodes join (e ∷ reverse stack) operands sign → ⊥
covers_many nodes join e a b x stack operands rest sign are unmet joins many covers =
    let below = (covers_joined nodes join e a b x (reverse stack) rest sign unmet joins).0 (subst (λ list. Covers nodes join (e ∷ reverse stack) list sign) are covers) in
    let few = covers_few nodes join (a ∷ b ∷ reverse stack) (x ∷ rest) (exactly_one sign e.complemented) below in
    let count = length-reverse stack in
    let list = ap length are in
    many (omega (arith, few, count, list))

-- the edge at hand isn't met and joins nothing
pub covers_stuck : (nodes : List Node) (join : Join) (e x : Edge) (edges operands rest : List Edge) (sign : Bool) → operands ≡ x ∷ rest → (Meets join e x → ⊥) → ((a b : Edge) → Joins nodes join e a b → ⊥) → Covers nodes join (e ∷ edges) operands sign → ⊥
covers_stuck nodes join e x edges operands rest sign are unmet alone (own, more, first, others, tree, covers, list, signs) = by own first tree (sym are ∙ list)
  where
    by : (own : List Edge) (first : Bool) → Spans nodes join e own first → x ∷ rest ≡ own ++ more → ⊥
    by own first (leaf d y meets) same = unmet (subst (Meets join e) (sym (same_Some x y (ap (λ list. slice_get list 0) same))) meets)
    by own first (inner d a b xs ys s t joins one two) same = alone a b joins

-- a step that meets the next operand
pub goes_past : (nodes : List Node) (join : Join) (e x : Edge) (stack operands rest : List Edge) (turned later : Bool) → IsGraph nodes → operands ≡ x ∷ rest → Meets join e x → later ≡ exactly_one turned (exactly_one e.complemented x.complemented) → GoesOn nodes join e stack stack operands rest turned later
goes_past nodes join e x stack operands rest turned later graph are meets signs =
    subst (λ list. GoesOn nodes join e stack stack list rest turned later) (sym are) (subst (λ s. GoesOn nodes join e stack stack (x ∷ rest) rest turned s) (sym signs) (record {
      same = covers_met nodes join e x (reverse stack) rest turned graph meets;
      room = λ lt. omega (arith, lt);
      nearer = omega arith;
    }))

-- a step to the first of two edges, while the second one waits
pub goes_down : (nodes : List Node) (join : Join) (e a b x : Edge) (stack popped new operands rest : List Edge) (turned later : Bool) → operands ≡ x ∷ rest → (Meets join e x → ⊥) → Joins nodes join e a b → popped ≡ stack ++ b ∷ [] → new ≡ popped ++ a ∷ [] → length stack + 2 ≤ length operands → later ≡ exactly_one turned e.complemented → GoesOn nodes join e stack new operands operands turned later
goes_down nodes join e a b x stack popped new operands rest turned later are unmet joins first second enough signs = by new (second ∙ ap (λ list. list ++ a ∷ []) first) later signs operands are enough
  where
    by : (new : List Edge) → new ≡ (stack ++ b ∷ []) ++ a ∷ [] → (later : Bool) → later ≡ exactly_one turned e.complemented → (operands : List Edge) → operands ≡ x ∷ rest → length stack + 2 ≤ length operands → GoesOn nodes join e stack new operands operands turned later
    by new is later signs operands are enough =
        let turned_round : reverse new ≡ a ∷ b ∷ reverse stack =
        ap reverse is ∙ reverse-append (stack ++ b ∷ []) (a ∷ []) ∙ ap (λ list. a ∷ list) (reverse-append stack (b ∷ [])) in
        let count : length new ≡ length stack + 2 =
        ap length is ∙ length-append (stack ++ b ∷ []) (a ∷ []) ∙ ap (λ n. n + 1) (length-append stack (b ∷ [])) ∙ (omega arith) in
        let same = covers_joined nodes join e a b x (reverse stack) rest turned unmet joins in
        let here : Covers nodes join (e ∷ reverse stack) operands turned ↔ Covers nodes join (reverse new) operands later =
        subst (λ edges. Covers nodes join (e ∷ reverse stack) operands turned ↔ Covers nodes join edges operands later) (sym turned_round)
        (subst (λ s. Covers nodes join (e ∷ reverse stack) operands turned ↔ Covers nodes join (a ∷ b ∷ reverse stack) operands s) (sym signs)
        (subst (λ list. Covers nodes join (e ∷ reverse stack) list turned ↔ Covers nodes join (a ∷ b ∷ reverse stack) list (exactly_one turned e.complemented)) (sym are) same)) in
        record {
          same = here;
          room = λ lt. omega (arith, count, enough);
          nearer = omega (arith, count);
        }
