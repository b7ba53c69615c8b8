-- The models of a graph's clauses are its valuations.
use Rattle.std.proofs.Common.{◌≡◌, ℕ, zero, suc, ◌+◌, ◌-◌, ◌<◌, ◌⊎◌, inl, inr, Bool, true, false, not, ◌&&◌, cond, List, [], ◌∷◌, ◌++◌, Some, length, get_or, refl, sym, ◌∙◌, ap, subst, arith, map}
use Rattle.std.specs.List.{slice_get, slice_index, Contains, AllZip, flat_map}
use Rattle.std.specs.Option.{option_map, unwrap_or}
use Rattle.std.proofs.lemmas.Bool.{true≢false}
use Rattle.std.proofs.lemmas.Option.{slice_get-get_or, get_or_from_slice_get}
use Rattle.std.proofs.lemmas.List.Elements.{All-nil, All-cons, All-head, All-tail, All-append, All-contains, Contains-get_or}
use Rattle.std.proofs.lemmas.List.Sorted.{All-permutation, IsPermutation-sym}
use Rattle.std.proofs.Math.Bool.{and-false}
use Rattle.eco_lists.proofs.Members.{All-front, All-back}
use Rattle.eco_aig.proofs.Filling.{bit_agree}
use Rattle.eco_aig.specs.declared.edge.Edge.{Edge}
use Rattle.eco_aig.specs.declared.node.Node.{Node}
use Rattle.eco_aig.specs.declared.node.Node.TheVariants.{Zero, Input, And}
use Rattle.eco_aig.specs.Edges.{value_of, plain}
use Rattle.eco_aig.specs.Graph.{FitsNode, IsValuation}
use Rattle.eco_trace.specs.declared.clause.Lit.{Lit}
use Rattle.eco_trace.specs.Clauses.{Valuation, HoldsIn, Satisfies, IsClauseOf, complement}
use Rattle.eco_tseitin.specs.Encoding.{Encoding, variable_of, literal_of, node_clauses, clauses_at, unit, IsEncoding}
use Rattle.eco_tseitin.specs.Models.{HasNodeBits, AreModelled, AreModelledWith}
use Rattle.eco_tseitin.specs.Steps.{of_first, of_second}
use Rattle.eco_tseitin.proofs.Places.{place_of, place_stands, place_at}
use Rattle.eco_trace.proofs.HoldingLaws.{clauses_hold, wanted_hold, one_true, two_true, three_true, head_true, tail_true}
use Rattle.eco_tseitin.proofs.Clausal.{All-flat, All-part, units_hold, units_true}
use Rattle.eco_tseitin.proofs.Closed.{IsClosed, is_closed, pair_here}
use Rattle.eco_tseitin.proofs.Filling.{valuation_with}

-- the bits that nodes have where their variables have these values
abbrev pub bits_at : Valuation → List ℕ → ℕ → Bool
bits_at v nodes k = v (variable_of nodes k).0

-- a bit and its complement, against a literal's sign
pub bit_true : (c x : Bool) → x ≡ not c → cond c (not x) x ≡ true
bit_true true x e = ap not e
bit_true false x e = e

bit_false : (c x : Bool) → x ≡ not (not c) → cond c (not x) x ≡ false
bit_false true x e = ap not e
bit_false false x e = e

pub true_bit : (c x : Bool) → cond c (not x) x ≡ true → x ≡ not c
true_bit true true e = absurd (true≢false (sym e))
true_bit true false e = refl
true_bit false x e = e

false_bit : (c x : Bool) → cond c (not x) x ≡ false → x ≡ not (not c)
false_bit true true e = refl
false_bit true false e = absurd (true≢false e)
false_bit false x e = e

-- a bit that the three clauses tell is the conjunction
and_bit : (x p q : Bool) → (x ≡ false) ⊎ (p ≡ true) → (x ≡ false) ⊎ (q ≡ true) → (x ≡ true) ⊎ ((p ≡ false) ⊎ (q ≡ false)) → x ≡ (p && q)
and_bit true p q (inl e) second third = absurd (true≢false e)
and_bit true p q (inr ep) (inl e) third = absurd (true≢false e)
and_bit true p q (inr ep) (inr eq) third = sym (ap (λ b. b && q) ep ∙ eq)
and_bit false p q first second (inl e) = absurd (true≢false (sym e))
and_bit false p q first second (inr (inl ep)) = sym (ap (λ b. b && q) ep)
and_bit false p q first second (inr (inr eq)) = sym (ap (λ b. p && b) eq ∙ and-false p)

and_first : (x p q : Bool) → x ≡ (p && q) → (x ≡ false) ⊎ (p ≡ true)
and_first x true q e = inr refl
and_first x false q e = inl e

and_second : (x p q : Bool) → x ≡ (p && q) → (x ≡ false) ⊎ (q ≡ true)
and_second x p true e = inr refl
and_second x p false e = inl (e ∙ and-false p)

and_third : (x p q : Bool) → x ≡ (p && q) → (x ≡ true) ⊎ ((p ≡ false) ⊎ (q ≡ false))
and_third x false q e = inr (inl refl)
and_third x true false e = inr (inr refl)
and_third x true true e = inl e

-- where a node's clauses hold and its operands have their bits, its variable has the node's bit
fits_here : (v : Valuation) (nodes : List ℕ) (k : ℕ) (node : Node) → Satisfies v (node_clauses nodes k node) → FitsNode (bits_at v nodes) node (bits_at v nodes k)
fits_here v nodes k Zero h = let n = complement (literal_of nodes (plain k)) in one_true v n (All-head (HoldsIn v) (n ∷ []) [] h)
fits_here v nodes k (Input number) h = tt
fits_here v nodes k (And a b) h =
    let n = literal_of nodes (plain k) in
    let x = literal_of nodes a in
    let y = literal_of nodes b in
    let one = complement n ∷ x ∷ [] in
    let two = complement n ∷ y ∷ [] in
    let three = n ∷ complement x ∷ complement y ∷ [] in
    let rest : Satisfies v (two ∷ three ∷ []) = All-tail (HoldsIn v) one (two ∷ three ∷ []) h in
    let last : Satisfies v (three ∷ []) = All-tail (HoldsIn v) two (three ∷ []) rest in
    let first = two_true v (complement n) x (All-head (HoldsIn v) one (two ∷ three ∷ []) h) in
    let second = two_true v (complement n) y (All-head (HoldsIn v) two (three ∷ []) rest) in
    let third = three_true v n (complement x) (complement y) (All-head (HoldsIn v) three [] last) in
    and_bit (bits_at v nodes k) (value_of (bits_at v nodes) a) (value_of (bits_at v nodes) b)
    (elim first [ inl e ↦ inl e | inr e ↦ inr (bit_true a.complemented (bits_at v nodes a.node) e) ])
    (elim second [ inl e ↦ inl e | inr e ↦ inr (bit_true b.complemented (bits_at v nodes b.node) e) ])
    (elim third [
      | inl e ↦ inl e
      | inr e ↦ inr (elim e [
        | inl f ↦ inl (bit_false a.complemented (bits_at v nodes a.node) f)
        | inr f ↦ inr (bit_false b.complemented (bits_at v nodes b.node) f)
      ])
    ])

-- where a node's variable has the bit that its operands' bits give it, its clauses hold
holds_here : (v : Valuation) (nodes : List ℕ) (k : ℕ) (node : Node) → FitsNode (bits_at v nodes) node (bits_at v nodes k) → Satisfies v (node_clauses nodes k node)
holds_here v nodes k Zero fits =
    let n = complement (literal_of nodes (plain k)) in
    All-cons (HoldsIn v) (n ∷ []) [] (head_true v n [] fits) (All-nil (HoldsIn v))
holds_here v nodes k (Input number) fits = All-nil (HoldsIn v)
holds_here v nodes k (And a b) fits =
    let n = literal_of nodes (plain k) in
    let x = literal_of nodes a in
    let y = literal_of nodes b in
    let u = bits_at v nodes in
    let p = value_of u a in
    let q = value_of u b in
    let one : HoldsIn v (complement n ∷ x ∷ []) = elim (and_first (u k) p q fits) [
      | inl e ↦ head_true v (complement n) (x ∷ []) e
      | inr e ↦ tail_true v (complement n) (x ∷ []) (head_true v x [] (true_bit a.complemented (u a.node) e))
    ] in
    let two : HoldsIn v (complement n ∷ y ∷ []) = elim (and_second (u k) p q fits) [
      | inl e ↦ head_true v (complement n) (y ∷ []) e
      | inr e ↦ tail_true v (complement n) (y ∷ []) (head_true v y [] (true_bit b.complemented (u b.node) e))
    ] in
    let three : HoldsIn v (n ∷ complement x ∷ complement y ∷ []) = elim (and_third (u k) p q fits) [
      | inl e ↦ head_true v n (complement x ∷ complement y ∷ []) e
      | inr e ↦ tail_true v n (complement x ∷ complement y ∷ []) (elim e [
        | inl f ↦ head_true v (complement x) (complement y ∷ []) (false_bit a.complemented (u a.node) f)
        | inr f ↦ tail_true v (complement x) (complement y ∷ []) (head_true v (complement y) [] (false_bit b.complemented (u b.node) f))
      ])
    ] in
    let second = complement n ∷ y ∷ [] in
    let third = n ∷ complement x ∷ complement y ∷ [] in
    All-cons (HoldsIn v) (complement n ∷ x ∷ []) (second ∷ third ∷ []) one (All-cons (HoldsIn v) second (third ∷ []) two (All-cons (HoldsIn v) third [] three (All-nil (HoldsIn v))))

-- two maps that agree at a node's operands give it one value
agree_fits : (u w : ℕ → Bool) (node : Node) (bit : Bool) → ((a b : Edge) → node ≡ And a b → (u a.node ≡ w a.node) × (u b.node ≡ w b.node)) → FitsNode u node bit → FitsNode w node bit
agree_fits u w Zero bit same fits = fits
agree_fits u w (Input number) bit same fits = tt
agree_fits u w (And a b) bit same fits =
    let at = same a b refl in
    fits ∙ ap (λ x. x && value_of u b) (bit_agree u w a at.0) ∙ ap (λ x. value_of w a && x) (bit_agree u w b at.1)

-- a node that is no input has one value
one_value : (w : ℕ → Bool) (node : Node) (x y : Bool) → FitsNode w node x → FitsNode w node y → ((number : ℕ) → node ≡ Input number → x ≡ y) → x ≡ y
one_value w Zero x y fx fy input = fx ∙ sym fy
one_value w (Input number) x y fx fy input = input number refl
one_value w (And a b) x y fx fy input = fx ∙ sym fy

-- the clauses of the node that stands at a place
clauses_here : (graph : List Node) (nodes : List ℕ) (k : ℕ) (node : Node) → slice_get graph k ≡ Some node → clauses_at graph nodes k ≡ node_clauses nodes k node
clauses_here graph nodes k node at = ap (λ o. unwrap_or (option_map (node_clauses nodes k) o) []) at

-- the values that the variables have where the nodes have these bits
pub values_of : List ℕ → (ℕ → Bool) → Valuation
values_of nodes w x = w (slice_index nodes (x - 1))

pub values_are : (nodes : List ℕ) (w : ℕ → Bool) (k : ℕ) → Contains nodes k → bits_at (values_of nodes w) nodes k ≡ w k
unfolding values_of
values_are nodes w k c =
    let back : place_of nodes k + 1 - 1 ≡ place_of nodes k = omega arith in
    ap w (ap (slice_index nodes) back ∙ get_or_from_slice_get nodes (place_of nodes k) k 0 (place_stands nodes k c))

module _ (graph : List Node) (nodes : List ℕ) (closed : IsClosed graph nodes) where
  -- the node of a number that has a variable
  node_here : (k : ℕ) → Contains nodes k → slice_get graph k ≡ Some (get_or graph k Zero)
  node_here k c = slice_get-get_or graph k Zero (All-contains (λ j. j < length graph) nodes k closed.within c)

  -- a model agrees with each valuation that has its bits at the inputs
  same_below : (v : Valuation) (w : ℕ → Bool) → Satisfies v (flat_map (clauses_at graph nodes) nodes) → IsValuation graph w → ((k number : ℕ) → slice_get graph k ≡ Some (Input number) → Contains nodes k → bits_at v nodes k ≡ w k) → (n k : ℕ) → k < n → Contains nodes k → bits_at v nodes k ≡ w k
  same_below v w holds valuation inputs zero k lt c = absurd (omega arith)
  same_below v w holds valuation inputs (suc n) k lt c =
      let before : (j : ℕ) → j < k → Contains nodes j → bits_at v nodes j ≡ w j = λ j below has. same_below v w holds valuation inputs n j (omega (arith, lt, below)) has in
      let node = get_or graph k Zero in
      let at = node_here k c in
      let here : Satisfies v (node_clauses nodes k node) = subst (Satisfies v) (clauses_here graph nodes k node at) (All-part (HoldsIn v) (clauses_at graph nodes) nodes k c.0 c.1 c.2 holds) in
      let agree : (a b : Edge) → node ≡ And a b → (bits_at v nodes a.node ≡ w a.node) × (bits_at v nodes b.node ≡ w b.node) = λ a b e.
      let pair = pair_here graph k a b (at ∙ ap Some e) in
      let places = closed.of_graph.operands k a b (at ∙ ap Some e) in
      (before a.node (omega (arith, places.second, places.before)) (closed.operands k a.node c (of_first a b pair)), before b.node places.before (closed.operands k b.node c (of_second a b pair))) in
      one_value w node (bits_at v nodes k) (w k) (agree_fits (bits_at v nodes) w node (bits_at v nodes k) agree (fits_here v nodes k node here)) (valuation.fits k node at) (λ number e. inputs k number (at ∙ ap Some e) c)

  same_all : (v : Valuation) (w : ℕ → Bool) → Satisfies v (flat_map (clauses_at graph nodes) nodes) → IsValuation graph w → ((k number : ℕ) → slice_get graph k ≡ Some (Input number) → Contains nodes k → bits_at v nodes k ≡ w k) → (k : ℕ) → Contains nodes k → bits_at v nodes k ≡ w k
  same_all v w holds valuation inputs k c = same_below v w holds valuation inputs (suc k) k (omega arith) c

  -- what a valuation gives to the variables is a model
  satisfied : (v : Valuation) (w : ℕ → Bool) → IsValuation graph w → ((k : ℕ) → Contains nodes k → bits_at v nodes k ≡ w k) → Satisfies v (flat_map (clauses_at graph nodes) nodes)
  satisfied v w valuation same = All-flat (HoldsIn v) (clauses_at graph nodes) nodes (λ k c.
      let node = get_or graph k Zero in
      let at = node_here k c in
      let agree : (a b : Edge) → node ≡ And a b → (w a.node ≡ bits_at v nodes a.node) × (w b.node ≡ bits_at v nodes b.node) = λ a b e.
      let pair = pair_here graph k a b (at ∙ ap Some e) in
      (sym (same a.node (closed.operands k a.node c (of_first a b pair))), sym (same b.node (closed.operands k b.node c (of_second a b pair)))) in
      let fits : FitsNode (bits_at v nodes) node (bits_at v nodes k) = agree_fits w (bits_at v nodes) node (bits_at v nodes k) agree (subst (FitsNode w node) (sym (same k c)) (valuation.fits k node at)) in
      subst (Satisfies v) (sym (clauses_here graph nodes k node at)) (holds_here v nodes k node fits))

  -- the valuation that has a model's bits
  bits_of_model : (v : Valuation) → Satisfies v (flat_map (clauses_at graph nodes) nodes) → HasNodeBits graph nodes v
  bits_of_model v holds =
      let with_inputs = valuation_with graph (bits_at v nodes) closed.of_graph in
      record {
        bits = with_inputs.0;
        valuation = with_inputs.1;
        same = same_all v with_inputs.0 holds with_inputs.1 (λ k number at c. sym (with_inputs.2 k number at));
      }

  pub modelled : (made : List (List Lit)) → AllZip IsClauseOf (flat_map (clauses_at graph nodes) nodes) made → AreModelled graph nodes made
  modelled made are =
      let wanted = flat_map (clauses_at graph nodes) nodes in
      record {
        models = λ v. (
          λ holds. bits_of_model v (wanted_hold v wanted made are holds),
          λ has. clauses_hold v wanted made are (satisfied v has.bits has.valuation has.same),
        );
        extends = λ v.
            let with_inputs = valuation_with graph (bits_at v nodes) closed.of_graph in
            let u = values_of nodes with_inputs.0 in
            (u, clauses_hold u wanted made are (satisfied u with_inputs.0 with_inputs.1 (values_are nodes with_inputs.0)), λ k number at c. sym (values_are nodes with_inputs.0 k c ∙ with_inputs.2 k number at));
        one = λ v u holds_v holds_u agree x first last.
            let k = get_or nodes (x - 1) 0 in
            let within : x - 1 < length nodes = omega (arith, first, last) in
            let c : Contains nodes k = Contains-get_or nodes (x - 1) 0 within in
            let number : (variable_of nodes k).0 ≡ x = (let p = place_at nodes (x - 1) closed.once within in omega (arith, p, first)) in
            let has = bits_of_model v (wanted_hold v wanted made are holds_v) in
            ap v (sym number) ∙ has.same k c ∙ sym (same_all u has.bits (wanted_hold u wanted made are holds_u) has.valuation (λ j number at cj. sym (agree j number at cj) ∙ has.same j cj) k c) ∙ ap u number;
      }

-- an encoding's node clauses, and all of its clauses
pub encoding_modelled : (graph : List Node) (roots : List Edge) (asserted : List Lit) (e : Encoding) (is : IsEncoding graph roots asserted e) → AreModelled graph e.nodes is.of_nodes
encoding_modelled graph roots asserted e is =
    modelled graph e.nodes (is_closed graph roots asserted e is) is.of_nodes is.are_of_nodes

pub modelled_with : (graph : List Node) (roots : List Edge) (asserted : List Lit) (e : Encoding) → IsEncoding graph roots asserted e → AreModelledWith graph asserted e.nodes e.clauses
modelled_with graph roots asserted e is v =
    let both = encoding_modelled graph roots asserted e is in
    let parts = is.of_nodes ++ map unit asserted in (
      λ holds.
          let all : Satisfies v parts = All-permutation (HoldsIn v) e.clauses parts (IsPermutation-sym parts e.clauses is.are_all) holds in
          ((both.models v).0 (All-front (HoldsIn v) is.of_nodes (map unit asserted) all), units_true v asserted (All-back (HoldsIn v) is.of_nodes (map unit asserted) all)),
      λ h. All-permutation (HoldsIn v) parts e.clauses is.are_all (All-append (HoldsIn v) is.of_nodes (map unit asserted) ((both.models v).1 h.0) (units_hold v asserted h.1)),
    )
