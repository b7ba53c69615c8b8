-- Maps that are consistent with a file's gates, and maps of the file.
use Rattle.std.proofs.Common.{◌≡◌, ◌≢◌, ◌↔◌, inl, inr, ℕ, suc, ◌-◌, ◌*◌, ◌/◌, ◌<◌, ◌≤◌, ◌^◌, Bool, true, false, not, ◌&&◌, cond, Option, Some, None, List, [], ◌∷◌, ◌++◌, length, get_or, take, drop, map, All, Contains, refl, sym, ap, subst, ◌∙◌, arith, append_assoc, length-append, length-drop}
use Rattle.std.specs.Prelude.{codes, decimal, nat_eq, position}
use Rattle.std.specs.List.{IsDistinct}
use Rattle.std.specs.Str.{bytes_eq}
use Rattle.std.proofs.lemmas.Bool.{true≢false, false≢true, or_parts, or_from, or_cases, and_parts, ne_eqb, eq-eqb, eqb-true, or_left, or_right}
use Rattle.std.proofs.lemmas.List.{map-append, length-map, length-take, get_or-map, get_or-take, get_or_append_left, take-append-drop}
use Rattle.std.proofs.lemmas.List.Elements.{All-head, All-tail, All-contains}
use Rattle.std.proofs.lemmas.List.Folds.{list_any-append}
use Rattle.eco_lists.proofs.Members.{Contains_first, Contains_later, Contains_cases, Contains_none, Contains-map}
use Rattle.eco_lists.proofs.Places.{map_agree, Contains_at}
use Rattle.eco_meaning.specs.declared.kind.Kind.TheVariants.{Buf, Not}
use Rattle.eco_meaning.specs.Gates.{apply}
use Rattle.eco_meaning.specs.Names.{has, number_of}
use Rattle.eco_meaning.specs.Circuit.{Circuit, NamedGate, Values, value_of}
use Rattle.eco_netlist.specs.declared.draft.TargetRule.TheVariants.{Never}
use Rattle.eco_netlist.specs.Draft.{made}
use Rattle.eco_netlist.specs.Netlists.{bit_of}
use Rattle.eco_netlist.proofs.NameSets.{has-from_Contains, has-from_absent}
use Rattle.eco_netlist.proofs.ValueLemmas.{map-bit_of}
use Rattle.eco_text.proofs.PrefixLemmas.{IsFreshPrefix-most}
use Rattle.eco_text.proofs.NumberedNames.{fresh_numbered, number_of-decimal}
use Rattle.eco_aiger.specs.declared.tree.AndLine.{AndLine}
use Rattle.eco_aiger.specs.Syntax.{File}
use Rattle.eco_aiger.specs.Grammar.{limit, IsLiteral, IsPlain, IsAnd, IsProper, IsText}
use Rattle.eco_aiger.specs.Defined.{variable_of, defined_in, is_in, IsDefinedOnce}
use Rattle.eco_aiger.specs.Meaning.{Naming, naming_of, port_names, wire_name, complement_name, net_at, net_name, is_complement, operand_of, complement_gate, complement_gates, and_gate, with_literal, line_gates, line_seen, and_gates, output_gate, output_gates, declared_of}
use Rattle.eco_aiger.specs.Maps.{literal_bit, IsAigerMap, HasAigerMap, HasConsistent}
use Rattle.eco_aiger.specs.Texts.{IsAigerText}
use Rattle.eco_aiger.proofs.SetLaws.{Apart, apart_from_counts, in_insert, in_map}
use Rattle.eco_aiger.proofs.NameLaws.{inputs_apart, length-port_names}
use Rattle.eco_aiger.proofs.Sizes.{header_distinct}
use Rattle.std.proofs.Math.Seq.{drop-append_seam}
use Rattle.eco_aiger.proofs.SectionLaws.{same_cut}
use Rattle.eco_aiger.proofs.OnceLaws.{one_file}
use Rattle.eco_aiger.proofs.Decimals.{has_n, has_n-decimal, has_n-complement, front_of, front-complement}
use Rattle.eco_aiger.proofs.LiteralLaws.{IsPlainLit, literal_cases, complement_plain, complement_odd, odd_complement, operand_plain, operand_odd, bit_plain, bit_odd, bit_below, plain_below, twice_half, and_two, position_none, position_at, position_found}

-- ---- gates that a map fits
abbrev Fits : Values → NamedGate → Type 0
Fits v g = v g.out ≡ apply g.kind (map (value_of v) g.terms)

abbrev Fit : Values → List NamedGate → Type 0
Fit v [] = Unit {0}
Fit v (g ∷ gates) = Fits v g × Fit v gates

fit_front : (v : Values) (xs ys : List NamedGate) → Fit v (xs ++ ys) → Fit v xs
fit_front v [] ys h = tt
fit_front v (x ∷ xs) ys h = (h.0, fit_front v xs ys h.1)

fit_back : (v : Values) (xs ys : List NamedGate) → Fit v (xs ++ ys) → Fit v ys
fit_back v [] ys h = h
fit_back v (x ∷ xs) ys h = fit_back v xs ys h.1

fit_append : (v : Values) (xs ys : List NamedGate) → Fit v xs → Fit v ys → Fit v (xs ++ ys)
fit_append v [] ys g h = h
fit_append v (x ∷ xs) ys g h = (g.0, fit_append v xs ys g.1 h)

fit_from : (v : Values) (gates : List NamedGate) → ((g : NamedGate) → Contains gates g → Fits v g) → Fit v gates
fit_from v [] h = tt
fit_from v (g ∷ gates) h = (h g (Contains_first g gates), fit_from v gates (λ x c. h x (Contains_later g x gates c)))

fit_at : (v : Values) (gates : List NamedGate) → Fit v gates → (g : NamedGate) → Contains gates g → Fits v g
fit_at v [] h g c = absurd (Contains_none g c)
fit_at v (x ∷ gates) h g c =
    elim (Contains_cases x g gates c) [ inl e ↦ subst (Fits v) e h.0 | inr later ↦ fit_at v gates h.1 g later ]

-- ---- from a consistent map to one of the variables
abbrev bits_of : Naming → Values → ℕ → Bool
bits_of n v x = v (net_name n (2 * x))

bit_net : (n : Naming) (v : Values) (l : ℕ) → IsPlainLit l → literal_bit (bits_of n v) l ≡ v (net_name n l)
bit_net n v l plain = bit_plain (bits_of n v) l plain ∙ ap (λ m. v (net_name n m)) (twice_half l plain)

-- the wire of a complement has the complement's bit
abbrev Turns : Naming → Values → ℕ → Type 0
Turns n v l = v (complement_name n l) ≡ not (value_of v (operand_of n (l - 1)))

-- what a literal is read from has its bit
value_bit : (n : Naming) (v : Values) (l : ℕ) → (is_complement l ≡ true → Turns n v l) → value_of v (operand_of n l) ≡ literal_bit (bits_of n v) l
value_bit n v l turns =
    let w = bits_of n v in
    elim (literal_cases l) [
      | inl e ↦ subst (λ m. value_of v (operand_of n m) ≡ literal_bit w m) (sym e) refl
      | inr some ↦ elim some [
        | inl e ↦ subst (λ m. value_of v (operand_of n m) ≡ literal_bit w m) (sym e) refl
        | inr more ↦ elim more [
          | inl plain ↦ ap (value_of v) (operand_plain n l plain) ∙ sym (bit_net n v l plain)
          | inr odd ↦
              ap (value_of v) (operand_odd n l odd) ∙ turns (complement_odd l odd)
              ∙ ap (λ b. not b) (ap (value_of v) (operand_plain n (l - 1) (plain_below l odd)) ∙ sym (bit_net n v (l - 1) (plain_below l odd)))
              ∙ sym (bit_below w l odd)
        ]
      ]
    ]

-- the complements that were seen have their wires
abbrev Seen : Naming → Values → List ℕ → Type 0
Seen n v seen = (l : ℕ) → is_in seen l ≡ true → is_complement l ≡ true → Turns n v l

complement_known : (n : Naming) (v : Values) (seen : List ℕ) (l : ℕ) → Seen n v seen → Fit v (complement_gates n seen l) → is_complement l ≡ true → Turns n v l
complement_known n v seen l h fit odd = by (is_in seen l) refl (subst (λ b. Fit v (cond (b && not (is_in seen l)) (complement_gate n l ∷ []) [])) odd fit)
  where
    by : (b : Bool) → is_in seen l ≡ b → Fit v (cond (not (is_in seen l)) (complement_gate n l ∷ []) []) → Turns n v l
    by true e fit = h l e odd
    by false e fit = (subst (λ b. Fit v (cond (not b) (complement_gate n l ∷ []) [])) e fit).0

seen_more : (n : Naming) (v : Values) (seen : List ℕ) (l : ℕ) → Seen n v seen → (is_complement l ≡ true → Turns n v l) → Seen n v (with_literal seen l)
seen_more n v seen l h turns m member odd =
    elim (or_cases (is_in seen m) (nat_eq m l) (sym (in_insert seen l m) ∙ member)) [
      | inl old ↦ h m old odd
      | inr new ↦
          let same = eqb-true m l new in
          subst (Turns n v) (sym same) (turns (subst (λ k. is_complement k ≡ true) same odd))
    ]

-- the bit of a left side
abbrev Ands : Naming → Values → AndLine → Type 0
Ands n v a = v (wire_name n a.left) ≡ (literal_bit (bits_of n v) a.first && literal_bit (bits_of n v) a.second)

line_known : (n : Naming) (v : Values) (seen : List ℕ) (a : AndLine) → Seen n v seen → Fit v (line_gates n seen a) → Ands n v a × Seen n v (line_seen seen a)
line_known n v seen a h fit =
    let first = complement_gates n seen a.first in
    let second = complement_gates n (with_literal seen a.first) a.second in
    let own = and_gate n a ∷ [] in
    let behind = fit_back v first (second ++ own) fit in
    let known = complement_known n v seen a.first h (fit_front v first (second ++ own) fit) in
    let h1 = seen_more n v seen a.first h known in
    let known2 = complement_known n v (with_literal seen a.first) a.second h1 (fit_front v second own behind) in
    let gate = (fit_back v second own behind).0 in (
      gate ∙ and_two (value_of v (operand_of n a.first)) (value_of v (operand_of n a.second))
          ∙ ap (λ b. b && value_of v (operand_of n a.second)) (value_bit n v a.first known)
          ∙ ap (λ b. literal_bit (bits_of n v) a.first && b) (value_bit n v a.second known2),
      seen_more n v (with_literal seen a.first) a.second h1 known2,
    )

lines_known : (n : Naming) (v : Values) (seen : List ℕ) (ands : List AndLine) → Seen n v seen → Fit v (and_gates n seen ands) → (a : AndLine) → Contains ands a → Ands n v a
lines_known n v seen [] h fit a c = absurd (Contains_none a c)
lines_known n v seen (b ∷ ands) h fit a c =
    let first = line_known n v seen b h (fit_front v (line_gates n seen b) (and_gates n (line_seen seen b) ands) fit) in
    elim (Contains_cases b a ands c) [
      | inl e ↦ subst (Ands n v) e first.0
      | inr later ↦ lines_known n v (line_seen seen b) ands first.1 (fit_back v (line_gates n seen b) (and_gates n (line_seen seen b) ands) fit) a later
    ]

member_in : (xs : List ℕ) (x : ℕ) → Contains xs x → is_in xs x ≡ true
member_in [] x c = absurd (Contains_none x c)
member_in (y ∷ xs) x c =
    elim (Contains_cases y x xs c) [
      | inl e ↦ or_left (nat_eq x y) (is_in xs x) (eq-eqb x y (sym e))
      | inr later ↦ or_right (nat_eq x y) (is_in xs x) (member_in xs x later)
    ]

-- what stands behind is not in front
across : (xs ys : List ℕ) (y : ℕ) → Apart (xs ++ ys) → is_in ys y ≡ true → is_in xs y ≡ false
across [] ys y apart member = refl
across (x ∷ xs) ys y apart member =
    let both = or_parts (is_in xs x) (is_in ys x) (sym (list_any-append (nat_eq x) xs ys) ∙ apart.0) in
    let ne : y ≢ x = λ e. true≢false (sym member ∙ ap (is_in ys) e ∙ both.1) in
    or_from (nat_eq y x) (is_in xs y) (ne_eqb y x ne) (across xs ys y apart.1 member)

-- a left side is no input
left_no_input : (f : File) → IsDefinedOnce f → (a : AndLine) → Contains f.ands a → is_in f.inputs a.left ≡ false
left_no_input f once a c =
    in_map variable_of f.inputs a.left
    (across (map variable_of f.inputs) (map (λ b. variable_of b.left) f.ands) (variable_of a.left) (apart_from_counts (defined_in f) once)
    (member_in (map (λ b. variable_of b.left) f.ands) (variable_of a.left) (Contains-map (λ b. variable_of b.left) f.ands a c)))

net_of_left : (f : File) → IsDefinedOnce f → (a : AndLine) → Contains f.ands a → net_name (naming_of f) a.left ≡ wire_name (naming_of f) a.left
net_of_left f once a c = ap (net_at (naming_of f) a.left) (position_none f.inputs a.left (left_no_input f once a c))

plain_of : (top l : ℕ) → IsPlain top l → IsPlainLit l
plain_of top l is = (is.even, is.least)

aiger_map : (f : File) (v : Values) → IsProper f → IsDefinedOnce f → Fit v (and_gates (naming_of f) [] f.ands) → IsAigerMap f (bits_of (naming_of f) v)
aiger_map f v proper once fit a c =
    let n = naming_of f in
    let plain = plain_of f.top a.left (All-contains (IsAnd f.top) f.ands a proper.ands_are c).left_is in
    ap (λ m. v (net_name n m)) (twice_half a.left plain) ∙ ap v (net_of_left f once a c)
    ∙ lines_known n v [] f.ands (λ l member. absurd (false≢true member)) fit a c

-- two lists of one length whose images agree by places
map_places : (v : Values) (g : ℕ → Bool) (names : List (List ℕ)) (xs : List ℕ) → length names ≡ length xs → ((k : ℕ) → k < length xs → v (get_or names k []) ≡ g (get_or xs k 0)) → map v names ≡ map g xs
map_places v g [] [] long h = refl
map_places v g [] (x ∷ xs) long h = absurd (omega arith)
map_places v g (name ∷ names) [] long h = absurd (omega arith)
map_places v g (name ∷ names) (x ∷ xs) long h =
    let first : v name ≡ g x = h 0 (omega arith) in
    let rest = map_places v g names xs (omega arith) (λ k lt. h (suc k) (omega arith)) in
    cc (first, rest)

input_names_length : (f : File) → length (take (length f.inputs) (port_names f)) ≡ length f.inputs
input_names_length f = let ports = length-port_names f in let long = length-take (length f.inputs) (port_names f) in omega arith

output_names_length : (f : File) → length (drop (length f.inputs) (port_names f)) ≡ length f.outputs
output_names_length f = let ports = length-port_names f in let long = length-drop (length f.inputs) (port_names f) in omega arith

inputs_bits : (f : File) (v : Values) → IsProper f → IsDefinedOnce f → map v (take (length f.inputs) (port_names f)) ≡ map (literal_bit (bits_of (naming_of f) v)) f.inputs
inputs_bits f v proper once =
    let n = naming_of f in
    map_places v (literal_bit (bits_of n v)) (take (length f.inputs) (port_names f)) f.inputs (input_names_length f)
    (λ k lt.
    let l = get_or f.inputs k 0 in
    let plain = plain_of f.top l (proper.inputs_are k 0 lt) in
    let port : net_name n l ≡ get_or (port_names f) k [] = ap (net_at n l) (position_at f.inputs k 0 (inputs_apart f once) lt) in
    ap v (get_or-take (length f.inputs) (port_names f) k [] lt ∙ sym port) ∙ sym (bit_net n v l plain))

output_bit : (n : Naming) (v : Values) (name : List ℕ) (l : ℕ) → Fits v (output_gate n name l) → v name ≡ literal_bit (bits_of n v) l
output_bit n v name l = by (is_complement l) refl
  where
    by : (b : Bool) → is_complement l ≡ b → Fits v (cond b (record { kind = Not; out = name; terms = operand_of n (l - 1) ∷ [] }) (record { kind = Buf; out = name; terms = operand_of n l ∷ [] })) → v name ≡ literal_bit (bits_of n v) l
    by true e fit =
        let odd = odd_complement l e in
        fit ∙ ap (λ b. not b) (value_bit n v (l - 1) (λ t. absurd (true≢false (sym t ∙ complement_plain (l - 1) (plain_below l odd))))) ∙ sym (bit_below (bits_of n v) l odd)
    by false e fit = fit ∙ value_bit n v l (λ t. absurd (true≢false (sym t ∙ e)))

outputs_bits : (n : Naming) (v : Values) (names : List (List ℕ)) (literals : List ℕ) → length names ≡ length literals → Fit v (output_gates n names literals) → map v names ≡ map (literal_bit (bits_of n v)) literals
outputs_bits n v [] [] long fit = refl
outputs_bits n v [] (l ∷ literals) long fit = absurd (omega arith)
outputs_bits n v (name ∷ names) [] long fit = absurd (omega arith)
outputs_bits n v (name ∷ names) (l ∷ literals) long fit =
    let first = output_bit n v name l fit.0 in
    let rest = outputs_bits n v names literals (omega arith) fit.1 in
    cc (first, rest)

to_aiger : (f : File) (bits : List Bool) → IsProper f → IsDefinedOnce f → HasConsistent (made Never (declared_of f)) bits → HasAigerMap f bits
to_aiger f bits proper once h =
    let n = naming_of f in
    let v = h.values in
    let w = bits_of n v in
    let ins = take (length f.inputs) (port_names f) in
    let outs = drop (length f.inputs) (port_names f) in
    let lines = and_gates n [] f.ands in
    let ends = output_gates n outs f.outputs in
    let fit = fit_from v (lines ++ ends) h.consistent in
    let whole : map v (port_names f) ≡ map v ins ++ map v outs = ap (map v) (sym (take-append-drop (length f.inputs) (port_names f))) ∙ map-append v ins outs in
    record {
      map_of = w;
      is = aiger_map f v proper once (fit_front v lines ends fit);
      bits_are =
          map-append (literal_bit w) f.inputs f.outputs
          ∙ ap (λ l. l ++ map (literal_bit w) f.outputs) (sym (inputs_bits f v proper once))
          ∙ ap (λ l. map v ins ++ l) (sym (outputs_bits n v outs f.outputs (output_names_length f) (fit_back v lines ends fit)))
          ∙ sym whole ∙ h.bits_are;
    }

-- ---- from a map of the variables to a consistent one
-- the bit of a wire by what stands behind its prefix
abbrev wire_bit : (ℕ → Bool) → List ℕ → Bool
wire_bit w rest = cond (has_n rest) (not (w (number_of (front_of rest)))) (w (number_of rest))

-- the ports have their bits, and the wires those of their variables
abbrev values_of : File → (ℕ → Bool) → List Bool → Values
values_of f w bits name =
    cond (has (port_names f) name) (bit_of (port_names f) bits name) (wire_bit w (drop (length (naming_of f).prefix) name))

no_port : (f : File) (rest : List ℕ) → has (port_names f) ((naming_of f).prefix ++ rest) ≡ false
no_port f rest =
    has-from_absent (port_names f) ((naming_of f).prefix ++ rest)
    (λ c. fresh_numbered (codes "aig") (port_names f) (naming_of f).prefix (IsFreshPrefix-most (codes "aig") (port_names f)) rest c)

behind_prefix : (f : File) (w : ℕ → Bool) (bits : List Bool) (rest : List ℕ) → values_of f w bits ((naming_of f).prefix ++ rest) ≡ wire_bit w rest
behind_prefix f w bits rest =
    let name = (naming_of f).prefix ++ rest in
    ap (λ b. cond b (bit_of (port_names f) bits name) (wire_bit w (drop (length (naming_of f).prefix) name))) (no_port f rest)
    ∙ ap (wire_bit w) (drop-append_seam (naming_of f).prefix rest)

wire_value : (f : File) (w : ℕ → Bool) (bits : List Bool) (l : ℕ) → l ≤ limit → values_of f w bits (wire_name (naming_of f) l) ≡ w (l / 2)
wire_value f w bits l small =
    let x = l / 2 in
    let lt : x < 2 ^ 64 = omega arith in
    behind_prefix f w bits (decimal x)
    ∙ ap (λ b. cond b (not (w (number_of (front_of (decimal x))))) (w (number_of (decimal x)))) (has_n-decimal x lt)
    ∙ ap w (number_of-decimal x lt)

complement_value : (f : File) (w : ℕ → Bool) (bits : List Bool) (l : ℕ) → l ≤ limit → values_of f w bits (complement_name (naming_of f) l) ≡ not (w (l / 2))
complement_value f w bits l small =
    let x = l / 2 in
    let lt : x < 2 ^ 64 = omega arith in
    let rest = decimal x ++ codes "n" in
    ap (values_of f w bits) (append_assoc (naming_of f).prefix (decimal x) (codes "n"))
    ∙ behind_prefix f w bits rest
    ∙ ap (λ b. cond b (not (w (number_of (front_of rest)))) (w (number_of rest))) (has_n-complement (decimal x))
    ∙ ap (λ ds. not (w (number_of ds))) (front-complement (decimal x))
    ∙ ap (λ m. not (w m)) (number_of-decimal x lt)

ports_value : (f : File) (w : ℕ → Bool) (bits : List Bool) → IsDistinct bytes_eq (port_names f) → length bits ≡ length (port_names f) → map (values_of f w bits) (port_names f) ≡ bits
ports_value f w bits distinct long =
    map_agree (values_of f w bits) (bit_of (port_names f) bits) (port_names f)
    (λ k name at. ap (λ b. cond b (bit_of (port_names f) bits name) (wire_bit w (drop (length (naming_of f).prefix) name))) (has-from_Contains (port_names f) name (Contains_at (port_names f) k name at)))
    ∙ map-bit_of (port_names f) bits distinct long

-- what such a map is over
record IsWhole (f : File) (w : ℕ → Bool) (v : Values) : Type 0 where
  ports : map v (port_names f) ≡ map (literal_bit w) (f.inputs ++ f.outputs)
  wires : (l : ℕ) → l ≤ limit → v (wire_name (naming_of f) l) ≡ w (l / 2)
  complements : (l : ℕ) → l ≤ limit → v (complement_name (naming_of f) l) ≡ not (w (l / 2))

port_bit : (f : File) (w : ℕ → Bool) (v : Values) → IsWhole f w v → (k : ℕ) → k < length f.inputs → v (get_or (port_names f) k []) ≡ literal_bit w (get_or f.inputs k 0)
port_bit f w v whole k lt =
    let ports = length-port_names f in
    let all = length-append f.inputs f.outputs in
    sym (get_or-map v (port_names f) k [] false (omega arith))
    ∙ ap (λ l. get_or l k false) whole.ports
    ∙ get_or-map (literal_bit w) (f.inputs ++ f.outputs) k 0 false (omega arith)
    ∙ ap (literal_bit w) (get_or_append_left f.inputs f.outputs 0 k lt)

net_value : (f : File) (w : ℕ → Bool) (v : Values) → IsWhole f w v → (l : ℕ) → l ≤ limit → IsPlainLit l → v (net_name (naming_of f) l) ≡ w (l / 2)
net_value f w v whole l small plain = by (position (nat_eq l) f.inputs) refl
  where
    by : (o : Option ℕ) → position (nat_eq l) f.inputs ≡ o → v (net_at (naming_of f) l o) ≡ w (l / 2)
    by None e = whole.wires l small
    by (Some k) e =
        let found = position_found f.inputs l k 0 e in
        port_bit f w v whole k found.0 ∙ ap (literal_bit w) found.1 ∙ bit_plain w l plain

operand_value : (f : File) (w : ℕ → Bool) (v : Values) → IsWhole f w v → (l : ℕ) → l ≤ limit → value_of v (operand_of (naming_of f) l) ≡ literal_bit w l
operand_value f w v whole l small =
    let n = naming_of f in
    elim (literal_cases l) [
      | inl e ↦ subst (λ m. value_of v (operand_of n m) ≡ literal_bit w m) (sym e) refl
      | inr some ↦ elim some [
        | inl e ↦ subst (λ m. value_of v (operand_of n m) ≡ literal_bit w m) (sym e) refl
        | inr more ↦ elim more [
          | inl plain ↦ ap (value_of v) (operand_plain n l plain) ∙ net_value f w v whole l small plain ∙ sym (bit_plain w l plain)
          | inr odd ↦ ap (value_of v) (operand_odd n l odd) ∙ whole.complements l small ∙ sym (bit_odd w l odd)
        ]
      ]
    ]

complement_fits : (f : File) (w : ℕ → Bool) (v : Values) → IsWhole f w v → (seen : List ℕ) (l : ℕ) → l ≤ limit → Fit v (complement_gates (naming_of f) seen l)
complement_fits f w v whole seen l small = by (is_complement l && not (is_in seen l)) refl
  where
    by : (b : Bool) → (is_complement l && not (is_in seen l)) ≡ b → Fit v (cond b (complement_gate (naming_of f) l ∷ []) [])
    by false e = tt
    by true e =
        let odd = odd_complement l (and_parts (is_complement l) (not (is_in seen l)) e).0 in
        let below = operand_value f w v whole (l - 1) (omega arith) in
        (whole.complements l small ∙ sym (bit_odd w l odd) ∙ bit_below w l odd ∙ ap (λ b. not b) (sym below), tt)

line_fits : (f : File) (w : ℕ → Bool) (v : Values) → IsWhole f w v → (seen : List ℕ) (a : AndLine) → IsAnd f.top a → w (variable_of a.left) ≡ (literal_bit w a.first && literal_bit w a.second) → Fit v (line_gates (naming_of f) seen a)
line_fits f w v whole seen a is e =
    let n = naming_of f in
    let first = complement_gates n seen a.first in
    let second = complement_gates n (with_literal seen a.first) a.second in
    let own = and_gate n a ∷ [] in
    let x = operand_value f w v whole a.first is.first_is.small in
    let y = operand_value f w v whole a.second is.second_is.small in
    fit_append v first (second ++ own) (complement_fits f w v whole seen a.first is.first_is.small)
    (fit_append v second own (complement_fits f w v whole (with_literal seen a.first) a.second is.second_is.small) (
      whole.wires a.left is.left_is.literal_is.small ∙ e
          ∙ ap (λ b. b && literal_bit w a.second) (sym x)
          ∙ ap (λ b. value_of v (operand_of n a.first) && b) (sym y)
          ∙ sym (and_two (value_of v (operand_of n a.first)) (value_of v (operand_of n a.second))),
      tt,
    ))

lines_fit : (f : File) (w : ℕ → Bool) (v : Values) → IsWhole f w v → (seen : List ℕ) (ands : List AndLine) → All (IsAnd f.top) ands → ((a : AndLine) → Contains ands a → w (variable_of a.left) ≡ (literal_bit w a.first && literal_bit w a.second)) → Fit v (and_gates (naming_of f) seen ands)
lines_fit f w v whole seen [] all h = tt
lines_fit f w v whole seen (a ∷ ands) all h =
    let n = naming_of f in
    fit_append v (line_gates n seen a) (and_gates n (line_seen seen a) ands)
    (line_fits f w v whole seen a (All-head (IsAnd f.top) a ands all) (h a (Contains_first a ands)))
    (lines_fit f w v whole (line_seen seen a) ands (All-tail (IsAnd f.top) a ands all) (λ b c. h b (Contains_later a b ands c)))

output_fits : (f : File) (w : ℕ → Bool) (v : Values) → IsWhole f w v → (name : List ℕ) (l : ℕ) → l ≤ limit → v name ≡ literal_bit w l → Fits v (output_gate (naming_of f) name l)
output_fits f w v whole name l small e = by (is_complement l) refl
  where
    by : (b : Bool) → is_complement l ≡ b → Fits v (cond b (record { kind = Not; out = name; terms = operand_of (naming_of f) (l - 1) ∷ [] }) (record { kind = Buf; out = name; terms = operand_of (naming_of f) l ∷ [] }))
    by true t =
        let odd = odd_complement l t in
        e ∙ bit_below w l odd ∙ ap (λ b. not b) (sym (operand_value f w v whole (l - 1) (omega arith)))
    by false t = e ∙ sym (operand_value f w v whole l small)

outputs_fit : (f : File) (w : ℕ → Bool) (v : Values) → IsWhole f w v → (names : List (List ℕ)) (literals : List ℕ) → All (IsLiteral f.top) literals → map v names ≡ map (literal_bit w) literals → Fit v (output_gates (naming_of f) names literals)
outputs_fit f w v whole [] literals all e = tt
outputs_fit f w v whole (name ∷ names) [] all e = tt
outputs_fit f w v whole (name ∷ names) (l ∷ literals) all e =
    let first : v name ≡ literal_bit w l = cc e in
    let rest : map v names ≡ map (literal_bit w) literals = cc e in
    (output_fits f w v whole name l (All-head (IsLiteral f.top) l literals all).small first, outputs_fit f w v whole names literals (All-tail (IsLiteral f.top) l literals all) rest)

from_aiger : (f : File) (bits : List Bool) → IsProper f → IsDistinct bytes_eq (port_names f) → HasAigerMap f bits → HasConsistent (made Never (declared_of f)) bits
from_aiger f bits proper distinct h =
    let n = naming_of f in
    let w = h.map_of in
    let v = values_of f w bits in
    let ins = take (length f.inputs) (port_names f) in
    let outs = drop (length f.inputs) (port_names f) in
    let lines = and_gates n [] f.ands in
    let ends = output_gates n outs f.outputs in
    let count : length bits ≡ length (port_names f) =
    sym (ap length h.bits_are) ∙ length-map (f.inputs ++ f.outputs) (literal_bit w) ∙ length-append f.inputs f.outputs ∙ sym (length-port_names f) in
    let ports = ports_value f w bits distinct count in
    let whole : IsWhole f w v = record { ports = ports ∙ sym h.bits_are; wires = wire_value f w bits; complements = complement_value f w bits } in
    let split : map v ins ++ map v outs ≡ map (literal_bit w) f.inputs ++ map (literal_bit w) f.outputs =
    sym (map-append v ins outs) ∙ ap (map v) (take-append-drop (length f.inputs) (port_names f)) ∙ whole.ports ∙ map-append (literal_bit w) f.inputs f.outputs in
    let long : length (map v ins) ≡ length (map (literal_bit w) f.inputs) = length-map ins v ∙ input_names_length f ∙ sym (length-map f.inputs (literal_bit w)) in
    let behind = (same_cut (map v ins) (map v outs) (map (literal_bit w) f.inputs) (map (literal_bit w) f.outputs) split long).1 in
    let fit = fit_append v lines ends (lines_fit f w v whole [] f.ands proper.ands_are h.is) (outputs_fit f w v whole outs f.outputs proper.outputs_are behind) in
    record { values = v; consistent = fit_at v (lines ++ ends) fit; bits_are = ports }

-- ---- both ways
pub maps_of_text : (bytes : List ℕ) (n : Circuit) (f : File) (bits : List Bool) → IsAigerText bytes n → IsText bytes f → HasConsistent n bits ↔ HasAigerMap f bits
maps_of_text bytes n f bits t text =
    let g = t.file in
    let same : g ≡ f = one_file bytes g f t.text text in
    let value = t.netlist.value in
    let distinct = header_distinct (declared_of g) t.netlist.faultless in (
      λ h. subst (λ file. HasAigerMap file bits) same (to_aiger g bits t.text.proper t.netlist.once (subst (λ m. HasConsistent m bits) value h)),
      λ h. subst (λ m. HasConsistent m bits) (sym value) (from_aiger g bits t.text.proper distinct (subst (λ file. HasAigerMap file bits) (sym same) h)),
    )
