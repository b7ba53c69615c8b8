-- Values of the nets' variables, where the netlists' nets have given bits.
use Rattle.std.proofs.Common.{◌≡◌, ℕ, ◌+◌, ◌-◌, ◌<◌, Bool, true, false, not, cond, List, [], ◌∷◌, ◌++◌, length, map, get_or, refl, sym, ◌∙◌, ap, subst, arith, append_assoc, append-nil}
use Rattle.std.specs.List.{Contains, position_or_len}
use Rattle.std.specs.Str.{bytes_eq}
use Rattle.std.proofs.lemmas.List.{length-map, length-append, get_or-map, get_or_append_left, get_or-append-add}
use Rattle.std.proofs.lemmas.List.Sums.{passes_at_first}
use Rattle.eco_lists.proofs.Names.{same_name}
use Rattle.eco_meaning.specs.Names.{has}
use Rattle.eco_meaning.specs.Circuit.{Circuit, Values, names, AgreeOn}
use Rattle.eco_lists.proofs.Members.{Contains-filter}
use Rattle.eco_netlist.proofs.NameSets.{Contains-from_has}
use Rattle.eco_trace.specs.declared.clause.Lit.{Lit}
use Rattle.eco_trace.specs.Clauses.{Valuation, valuation_of, truth}
use Rattle.eco_clauses.specs.Numbering.{listed_literal}
use Rattle.eco_equality.specs.Numbering.{inner_nets, net_literal, input_literal, left_literal, right_literal, net_variables}
use Rattle.eco_equality.specs.Equality.{HaveSamePorts}
use Rattle.eco_clauses.proofs.Naming.{place_within}
use Rattle.eco_equality.proofs.Numbered.{left_within, right_within}
use Rattle.eco_clauses.proofs.Extending.{Shows}

-- the bit of a name of a list whose bits stand behind others
listed_bit : (front back : List Bool) (f : Values) (list : List (List ℕ)) (name : List ℕ) → Contains list name → truth (valuation_of (front ++ (map f list ++ back))) (listed_literal (length front) list name) ≡ f name
listed_bit front back f list name c =
    let p = position_or_len (bytes_eq name) list in
    let lt : p < length list = place_within name list c in
    let at : name ≡ get_or list p [] = same_name name (get_or list p []) (passes_at_first (bytes_eq name) list [] lt) in
    let sizes = length-map list f in
    let place : length front + 1 + p - 1 ≡ length front + p = omega arith in
    ap (λ n. get_or (front ++ (map f list ++ back)) n false) place
    ∙ get_or-append-add front (map f list ++ back) p false
    ∙ get_or_append_left (map f list) back false p (omega (arith, sizes, lt))
    ∙ get_or-map f list p [] false lt
    ∙ ap f (sym at)

-- a net's literal has its bit
net_bit : (u : Valuation) (n : Circuit) (shared : List ℕ → Lit) (used : ℕ) (f : Values) (name : List ℕ) → (Contains n.inputs name → truth u (shared name) ≡ f name) → (Contains (inner_nets n) name → truth u (listed_literal used (inner_nets n) name) ≡ f name) → Contains (names n) name → truth u (net_literal n shared used name) ≡ f name
net_bit u n shared used f name input inner net = by (has n.inputs name) refl
  where
    by : (b : Bool) → has n.inputs name ≡ b → truth u (cond b (shared name) (listed_literal used (inner_nets n) name)) ≡ f name
    by true e = input (Contains-from_has n.inputs name e)
    by false e = inner (Contains-filter (λ x. not (has n.inputs x)) (names n) name net (ap not e))

module _ (left right : Circuit) (l r : Values) where
  -- the constant, left's inputs, left's other nets, right's other nets
  abbrev pub base_bits : List Bool
  base_bits = true ∷ (map l left.inputs ++ (map l (inner_nets left) ++ map r (inner_nets right)))

  abbrev pub base : Valuation
  base = valuation_of base_bits

  input_bit : (name : List ℕ) → Contains left.inputs name → truth base (input_literal left name) ≡ l name
  input_bit name c = listed_bit (true ∷ []) (map l (inner_nets left) ++ map r (inner_nets right)) l left.inputs name c

  pub left_shown : Shows (names left) (left_literal left) (net_variables left right) base l
  left_shown = record {
    some_var = omega arith;
    one = refl;
    within = left_within left right;
    value = λ name net. net_bit base left (input_literal left) (1 + length left.inputs) l name (input_bit name) (inner_bit name) net;
  }
    where
      inner_bit : (name : List ℕ) → Contains (inner_nets left) name → truth base (listed_literal (1 + length left.inputs) (inner_nets left) name) ≡ l name
      inner_bit name c =
          let sizes = length-map left.inputs l in
          let same : length (true ∷ map l left.inputs) ≡ 1 + length left.inputs = omega (arith, sizes) in
          subst (λ used. truth base (listed_literal used (inner_nets left) name) ≡ l name) same (listed_bit (true ∷ map l left.inputs) (map r (inner_nets right)) l (inner_nets left) name c)

  pub right_shown : HaveSamePorts left right → AgreeOn right.inputs l r → Shows (names right) (right_literal left right) (net_variables left right) base r
  right_shown ports agree = record {
    some_var = omega arith;
    one = refl;
    within = right_within left right ports;
    value = λ name net. net_bit base right (input_literal left) (1 + length left.inputs + length (inner_nets left)) r name (λ c. input_bit name ((ports.inputs name).1 c) ∙ agree name c) (inner_bit name) net;
  }
    where
      front : List Bool
      front = true ∷ (map l left.inputs ++ map l (inner_nets left))

      behind : front ++ (map r (inner_nets right) ++ []) ≡ base_bits
      behind =
          ap (λ bs. true ∷ bs) (append_assoc (map l left.inputs) (map l (inner_nets left)) (map r (inner_nets right) ++ [])
          ∙ ap (λ bs. map l left.inputs ++ (map l (inner_nets left) ++ bs)) (append-nil (map r (inner_nets right))))

      sizes : length front ≡ 1 + length left.inputs + length (inner_nets left)
      sizes =
          let first = length-map left.inputs l in
          let second = length-map (inner_nets left) l in
          let both = length-append (map l left.inputs) (map l (inner_nets left)) in
          omega (arith, first, second, both)

      inner_bit : (name : List ℕ) → Contains (inner_nets right) name → truth base (listed_literal (1 + length left.inputs + length (inner_nets left)) (inner_nets right) name) ≡ r name
      inner_bit name c =
          subst (λ used. truth base (listed_literal used (inner_nets right) name) ≡ r name) sizes
          (subst (λ bs. truth (valuation_of bs) (listed_literal (length front) (inner_nets right) name) ≡ r name) behind (listed_bit front [] r (inner_nets right) name c))
