-- A text has more bytes than its netlist has nets, and more than its gates read terms.
use Rattle.std.proofs.Common.{◌≡◌, inl, inr, ℕ, ◌+◌, ◌-◌, ◌*◌, ◌<◌, ◌≤◌, Bool, true, false, cond, not, ◌&&◌, ◌||◌, List, [], ◌∷◌, ◌++◌, length, map, filter, drop, All, Contains, Result, Ok, Err, IfOk, refl, sym, ap, subst, ◌∙◌, arith, length-append}
use Rattle.std.specs.Prelude.{decimal, nat_eq, ◌==◌}
use Rattle.std.specs.List.{flat_map, slice_split, onto_first, list_any, IsDistinct}
use Rattle.std.specs.Str.{bytes_eq}
use Rattle.std.specs.Str.Lines.{lines, lines_of_parts, strip_carriage_return}
use Rattle.std.proofs.lemmas.Bool.{false≢true}
use Rattle.std.proofs.lemmas.Fmt.{decimal_nonempty}
use Rattle.std.proofs.lemmas.List.{length-map, length-take}
use Rattle.std.proofs.lemmas.List.Elements.{All-head, All-tail, Contains-append_right}
use Rattle.eco_meaning.specs.declared.kind.Kind.TheVariants.{Buf, Not}
use Rattle.std.proofs.lemmas.Grind.{flat_map-append}
use Rattle.std.proofs.lemmas.Map.Made.{length-le_from_is_member}
use Rattle.eco_lists.proofs.Names.{bytes_eq_equiv}
use Rattle.eco_meaning.specs.Names.{has}
use Rattle.eco_meaning.specs.Circuit.{Circuit, NamedGate, names, IsSignal}
use Rattle.eco_netlist.specs.declared.draft.TargetRule.TheVariants.{Never}
use Rattle.eco_netlist.specs.declared.netlist.Netlist.{Netlist}
use Rattle.eco_netlist.specs.Draft.{Declared, is_mentioned, is_target, gate_names, made}
use Rattle.eco_netlist.specs.Refusals.{IsWellFormed, is_twice}
use Rattle.eco_netlist.proofs.NetLemmas.{names_made, distinct_once, distinct_fold}
use Rattle.eco_netlist.proofs.NameSets.{Contains-from_has, absent_from_has, distinct_back, distinct_apart}
use Rattle.eco_netlist.proofs.CheckLemmas.{free_target}
use Rattle.eco_lists.proofs.Members.{Contains-map, filter-Contains}
use Rattle.eco_lists.proofs.Tests.{neither}
use Rattle.eco_aiger.specs.declared.error.AigerError.{AigerError}
use Rattle.eco_aiger.specs.declared.tree.AndLine.{AndLine}
use Rattle.eco_aiger.specs.Syntax.{File}
use Rattle.eco_aiger.specs.Grammar.{limit, words_in, literal_words, and_words, symbol_words, spelling, IsLiteral, IsPlain, IsAnd, IsText}
use Rattle.eco_aiger.specs.Meaning.{Naming, naming_of, is_complement, operand_of, with_literal, complement_gate, complement_gates, and_gate, line_gates, line_seen, and_gates, output_gate, output_gates, declared_of, port_names}
use Rattle.eco_aiger.specs.Texts.{IsAigerText}
use Rattle.eco_aiger.proofs.NameLaws.{length-port_names}

-- the bytes of lists, each with one byte behind it
abbrev size : List (List ℕ) → ℕ
size [] = 0
size (x ∷ xs) = length x + 1 + size xs

-- the same of rows of words
abbrev total : List (List (List ℕ)) → ℕ
total [] = 0
total (row ∷ rows) = size row + total rows

-- what a cut leaves has one byte more, if each part has one behind it
size_onto : (x : ℕ) (parts : List (List ℕ)) → 1 ≤ size parts → size (onto_first x parts) ≡ size parts + 1
size_onto x [] some = absurd (omega arith)
size_onto x (part ∷ parts) some = omega arith

size_split : (c : ℕ) (bytes : List ℕ) → size (slice_split (λ b. b == c) bytes) ≡ length bytes + 1
size_split c [] = refl
size_split c (b ∷ bytes) = by (b == c) (size_split c bytes)
  where
    by : (t : Bool) → size (slice_split (λ b. b == c) bytes) ≡ length bytes + 1 → size (cond t ([] ∷ slice_split (λ b. b == c) bytes) (onto_first b (slice_split (λ b. b == c) bytes))) ≡ length (b ∷ bytes) + 1
    by true rest = omega arith
    by false rest = let onto = size_onto b (slice_split (λ b. b == c) bytes) (omega arith) in omega arith

-- a line has no more bytes than its piece
strip_short : (l : List ℕ) → length (strip_carriage_return l) ≤ length l
strip_short l = grind (arith, length-take)

size_lines : (parts : List (List ℕ)) → size (lines_of_parts parts) ≤ size parts
size_lines [] = omega arith
size_lines (x ∷ []) = by (length x == 0)
  where
    by : (t : Bool) → size (cond t [] (x ∷ [])) ≤ size (x ∷ [])
    by true = omega arith
    by false = omega arith
size_lines (x ∷ y ∷ more) =
    let short = strip_short x in
    let rest = size_lines (y ∷ more) in
    omega arith

-- lines are as long as their words
total_words : (rows : List (List ℕ)) → total (words_in rows) ≡ size rows
total_words [] = refl
total_words (row ∷ rows) = let first = size_split 32 row in let rest = total_words rows in omega arith

size-append : (xs ys : List (List ℕ)) → size (xs ++ ys) ≡ size xs + size ys
size-append [] ys = omega arith
size-append (x ∷ xs) ys = let rest = size-append xs ys in omega arith

total-append : (xs ys : List (List (List ℕ))) → total (xs ++ ys) ≡ total xs + total ys
total-append [] ys = omega arith
total-append (x ∷ xs) ys = let rest = total-append xs ys in omega arith

-- a number's word is not empty
some_digits : (n : ℕ) → n ≤ limit → 1 ≤ length (decimal n)
some_digits n small = let some = decimal_nonempty n (omega arith) in omega arith

literals_long : (P : ℕ → Type 0) → ((n : ℕ) → P n → n ≤ limit) → (xs : List ℕ) → All P xs → 2 * length xs ≤ total (map literal_words xs)
literals_long P small [] all = omega arith
literals_long P small (x ∷ xs) all =
    let some = some_digits x (small x (All-head P x xs all)) in
    let rest = literals_long P small xs (All-tail P x xs all) in
    omega arith

ands_long : (top : ℕ) (xs : List AndLine) → All (IsAnd top) xs → 6 * length xs ≤ total (map and_words xs)
ands_long top [] all = omega arith
ands_long top (x ∷ xs) all =
    let is = All-head (IsAnd top) x xs all in
    let a = some_digits x.left is.left_is.literal_is.small in
    let b = some_digits x.first is.first_is.small in
    let c = some_digits x.second is.second_is.small in
    let rest = ands_long top xs (All-tail (IsAnd top) x xs all) in
    omega arith

-- how long a text is at least
pub text_long : (bytes : List ℕ) (f : File) → IsText bytes f → 2 * length f.inputs + 2 * length f.outputs + 6 * length f.ands + 13 ≤ length bytes
text_long bytes f text =
    let p = text.proper in
    let h1 = some_digits f.top p.top_small in
    let h2 = some_digits (length f.inputs) p.inputs_small in
    let h3 = some_digits (length f.outputs) p.outputs_small in
    let h4 = some_digits (length f.ands) p.ands_small in
    let ins = literals_long (IsPlain f.top) (λ n is. is.literal_is.small) f.inputs p.inputs_are in
    let outs = literals_long (IsLiteral f.top) (λ n is. is.small) f.outputs p.outputs_are in
    let ands = ands_long f.top f.ands p.ands_are in
    let last = map (symbol_words (length f.inputs)) f.symbols in
    let s1 = total-append (map literal_words f.inputs) (map literal_words f.outputs ++ (map and_words f.ands ++ last)) in
    let s2 = total-append (map literal_words f.outputs) (map and_words f.ands ++ last) in
    let s3 = total-append (map and_words f.ands) last in
    let words : size text.front ≡ total (spelling f) = sym (total_words text.front) ∙ ap total text.words in
    let cut : size (lines bytes) ≡ size text.front + size text.end = ap size text.cut ∙ size-append text.front text.end in
    let pieces = size_lines (slice_split (λ b. b == 10) bytes) in
    let whole = size_split 10 bytes in
    long_enough (size (lines bytes)) (size text.front) (size text.end) (total (spelling f)) (length bytes) words cut (omega arith) (omega arith)
  where
    long_enough : (a b e t n : ℕ) → b ≡ t → a ≡ b + e → a ≤ n + 1 → 2 * length f.inputs + 2 * length f.outputs + 6 * length f.ands + 14 ≤ t → 2 * length f.inputs + 2 * length f.outputs + 6 * length f.ands + 13 ≤ n
    long_enough a b e t n words cut whole header = omega arith

-- a complement has one gate at most, of one term
complement_few : (n : Naming) (seen : List ℕ) (literal : ℕ) → (length (complement_gates n seen literal) ≤ 1) × (length (flat_map (λ g. g.terms) (complement_gates n seen literal)) ≤ 1)
complement_few n seen literal = by (is_complement literal && not (list_any (nat_eq literal) seen))
  where
    by : (b : Bool) → (length (cond b (complement_gate n literal ∷ []) []) ≤ 1) × (length (flat_map (λ g. g.terms) (cond b (complement_gate n literal ∷ []) [])) ≤ 1)
    by true = (omega arith, omega arith)
    by false = (omega arith, omega arith)

-- an and-line has three gates at most, of four terms
line_few : (n : Naming) (seen : List ℕ) (a : AndLine) → (length (line_gates n seen a) ≤ 3) × (length (flat_map (λ g. g.terms) (line_gates n seen a)) ≤ 4)
line_few n seen a =
    let first = complement_gates n seen a.first in
    let second = complement_gates n (with_literal seen a.first) a.second in
    let c = complement_few n seen a.first in
    let d = complement_few n (with_literal seen a.first) a.second in
    let c0 = c.0 in
    let c1 = c.1 in
    let d0 = d.0 in
    let d1 = d.1 in
    let l1 = length-append first (second ++ and_gate n a ∷ []) in
    let l2 = length-append second (and_gate n a ∷ []) in
    let t1 = ap length (flat_map-append (λ (g : NamedGate). g.terms) first (second ++ and_gate n a ∷ [])) ∙ length-append (flat_map (λ g. g.terms) first) (flat_map (λ g. g.terms) (second ++ and_gate n a ∷ [])) in
    let t2 = ap length (flat_map-append (λ (g : NamedGate). g.terms) second (and_gate n a ∷ [])) ∙ length-append (flat_map (λ g. g.terms) second) (flat_map (λ g. g.terms) (and_gate n a ∷ [])) in
    (omega arith, omega arith)

ands_few : (n : Naming) (seen : List ℕ) (ands : List AndLine) → (length (and_gates n seen ands) ≤ 3 * length ands) × (length (flat_map (λ g. g.terms) (and_gates n seen ands)) ≤ 4 * length ands)
ands_few n seen [] = (omega arith, omega arith)
ands_few n seen (a ∷ ands) =
    let c = line_few n seen a in
    let d = ands_few n (line_seen seen a) ands in
    let c0 = c.0 in
    let c1 = c.1 in
    let d0 = d.0 in
    let d1 = d.1 in
    let l = length-append (line_gates n seen a) (and_gates n (line_seen seen a) ands) in
    let t = ap length (flat_map-append (λ (g : NamedGate). g.terms) (line_gates n seen a) (and_gates n (line_seen seen a) ands)) ∙ length-append (flat_map (λ g. g.terms) (line_gates n seen a)) (flat_map (λ g. g.terms) (and_gates n (line_seen seen a) ands)) in
    (omega arith, omega arith)

-- an output has one gate of one term
output_one : (n : Naming) (name : List ℕ) (literal : ℕ) → length (output_gate n name literal).terms ≡ 1
output_one n name literal = by (is_complement literal)
  where
    by : (b : Bool) → length (cond {A = NamedGate} b (record { kind = Not; out = name; terms = operand_of n (literal - 1) ∷ [] }) (record { kind = Buf; out = name; terms = operand_of n literal ∷ [] })).terms ≡ 1
    by true = refl
    by false = refl

outputs_few : (n : Naming) (list : List (List ℕ)) (literals : List ℕ) → (length (output_gates n list literals) ≤ length literals) × (length (flat_map (λ g. g.terms) (output_gates n list literals)) ≤ length literals)
outputs_few n [] literals = (omega arith, omega arith)
outputs_few n (name ∷ list) [] = (omega arith, omega arith)
outputs_few n (name ∷ list) (literal ∷ literals) =
    let d = outputs_few n list literals in
    let d0 = d.0 in
    let d1 = d.1 in
    let one = output_one n name literal in
    let t = length-append (output_gate n name literal).terms (flat_map (λ g. g.terms) (output_gates n list literals)) in
    (omega arith, omega arith)

-- the nets are distinct
pub header_distinct : (d : Declared) → IsWellFormed Never d → IsDistinct bytes_eq d.header
header_distinct d h = distinct_once d.header (λ name. once name (h.declared.declared_once name))
  where
    once : (name : List ℕ) → (is_twice d.header name || is_twice d.inputs name || is_twice d.outputs name || (has d.inputs name && has d.outputs name) || is_twice d.wires name) ≡ false → is_twice d.header name ≡ false
    once name e = (neither _ _ (neither _ _ (neither _ _ (neither _ _ e).0).0).0).0

-- each net that is no port is driven
wire_driven : (d : Declared) → IsWellFormed Never d → (name : List ℕ) → Contains (made Never d).wires name → (Contains d.header name → ⊥) → has (map (λ g. g.out) d.gates) name ≡ true
wire_driven d h name wire inner = by (has (map (λ g. g.out) d.gates) name) refl
  where
    by : (b : Bool) → has (map (λ (g : NamedGate). g.out) d.gates) name ≡ b → b ≡ true
    by true e = refl
    by false e = absurd (false≢true (free_target Never d name h.declared (in_names wire) free))
      where
        in_names : Contains (made Never d).wires name → Contains (names (made Never d)) name
        in_names c = Contains-append_right d.header (made Never d).wires name c

        free : IsSignal (made Never d) name → ⊥
        free (inl input) = inner (filter-Contains (has d.inputs) d.header name input).0
        free (inr driven) = absent_from_has (map (λ g. g.out) d.gates) name e (subst (Contains (map (λ g. g.out) d.gates)) driven.2 (Contains-map (λ g. g.out) d.gates driven.0 driven.1))

-- there are no more nets than ports and gates
nets_few : (d : Declared) → IsWellFormed Never d → length (names (made Never d)) ≤ length d.header + length d.gates
nets_few d h =
    let n = made Never d in
    let distinct : IsDistinct bytes_eq (d.header ++ n.wires) = subst (IsDistinct bytes_eq) (sym (names_made Never d)) (distinct_fold d.header (filter (λ wire. is_mentioned d wire || is_target Never d wire) d.wires ++ flat_map gate_names d.gates) (header_distinct d h)) in
    let few = length-le_from_is_member bytes_eq_equiv n.wires (map (λ g. g.out) d.gates) (distinct_back d.header n.wires distinct)
    (λ name e. wire_driven d h name (Contains-from_has n.wires name e) (λ port. distinct_apart d.header n.wires distinct name port (Contains-from_has n.wires name e))) in
    let count = length-map d.gates (λ (g : NamedGate). g.out) in
    let all = length-append d.header n.wires in
    omega arith

-- fewer nets than bytes, and fewer terms
pub few_nets : (bytes : List ℕ) (n : Circuit) → IsAigerText bytes n → length (names n) < length bytes
few_nets bytes n t =
    let f = t.file in
    let d = declared_of f in
    let long = text_long bytes f t.text in
    let nets = nets_few d t.netlist.faultless in
    let value = ap (λ m. length (names m)) t.netlist.value in
    let ports = length-port_names f in
    let a = (ands_few (naming_of f) [] f.ands).0 in
    let o = (outputs_few (naming_of f) (drop (length f.inputs) (port_names f)) f.outputs).0 in
    let gates = length-append (and_gates (naming_of f) [] f.ands) (output_gates (naming_of f) (drop (length f.inputs) (port_names f)) f.outputs) in
    omega arith

pub few_terms : (bytes : List ℕ) (n : Circuit) → IsAigerText bytes n → length (flat_map (λ g. g.terms) n.gates) < length bytes
few_terms bytes n t =
    let f = t.file in
    let long = text_long bytes f t.text in
    let value = ap (λ (m : Circuit). length (flat_map (λ g. g.terms) m.gates)) t.netlist.value in
    let a = (ands_few (naming_of f) [] f.ands).1 in
    let o = (outputs_few (naming_of f) (drop (length f.inputs) (port_names f)) f.outputs).1 in
    let ag = and_gates (naming_of f) [] f.ands in
    let og = output_gates (naming_of f) (drop (length f.inputs) (port_names f)) f.outputs in
    let gates = ap length (flat_map-append (λ (g : NamedGate). g.terms) ag og) ∙ length-append (flat_map (λ g. g.terms) ag) (flat_map (λ g. g.terms) og) in
    omega arith

pub few_nets_found : (bytes : List ℕ) (r : Result Netlist AigerError) → IfOk r (IsAigerText bytes) → IfOk r (λ n. length (names n) < length bytes)
few_nets_found bytes (Ok n) h = few_nets bytes n h
few_nets_found bytes (Err e) h = tt

pub few_terms_found : (bytes : List ℕ) (r : Result Netlist AigerError) → IfOk r (IsAigerText bytes) → IfOk r (λ n. length (flat_map (λ g. g.terms) n.gates) < length bytes)
few_terms_found bytes (Ok n) h = few_terms bytes n h
few_terms_found bytes (Err e) h = tt
