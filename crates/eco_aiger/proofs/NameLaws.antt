-- The names of ports.
use Rattle.std.proofs.Common.{Bor, ◌≡◌, ◌≢◌, inl, inr, ℕ, suc, ◌+◌, Bool, true, false, not, cond, Option, Some, None, IfSome, IsTrue, List, [], ◌∷◌, ◌++◌, length, get_or, map, All, refl, sym, ap, subst, ◌∙◌, arith}
use Rattle.std.specs.Prelude.{codes, nat_eq, nat_lt, position, option_map}
use Rattle.std.specs.List.{list_all, AllPairs, position_or_len, range_with_len}
use Rattle.std.proofs.lemmas.Bool.{lt-ltb, le-ltb, cases_lt}
use Rattle.std.proofs.lemmas.List.{length-map}
use Rattle.std.proofs.lemmas.List.Elements.{All-head, All-tail}
use Rattle.std.proofs.lemmas.List.FromFn.{length-range_with_len}
use Rattle.indexmap.specs.IndexSet.{insert_all}
use Rattle.eco_lists.proofs.Members.{map-map}
use Rattle.eco_text.specs.Prefix.{fresh_prefix_of}
use Rattle.eco_text.proofs.PrefixLemmas.{printing-prefix}
use Rattle.eco_meaning.specs.Names.{is_name, is_printing}
use Rattle.eco_aiger.specs.declared.tree.Symbol.{Symbol as Cut}
use Rattle.eco_aiger.specs.Syntax.{Symbol, File}
use Rattle.eco_aiger.specs.Grammar.{IsSymbol}
use Rattle.eco_aiger.specs.Defined.{variable_of, IsDefinedOnce}
use Rattle.eco_aiger.specs.Meaning.{text_of, port_names, port_name}
use Rattle.eco_aiger.specs.Parts.{symbol_of}
use Rattle.eco_aiger.proofs.SetLaws.{Apart, apart_by, apart_front, apart_map, apart_from_counts, set_apart}

-- one place more on both sides
lt_more : (m n : ℕ) → nat_lt m n ≡ nat_lt (1 + m) (suc n)
lt_more m n =
    elim (cases_lt m n) [
      | inl lt ↦ lt-ltb m n lt ∙ sym (lt-ltb (1 + m) (suc n) (omega arith))
      | inr le ↦ le-ltb m n le ∙ sym (le-ltb (1 + m) (suc n) (omega arith))
    ]

next_one : {X : Type 0} (x : X) (xs : List X) (n : ℕ) (d : X) → get_or (x ∷ xs) (1 + n) d ≡ get_or xs n d
next_one x xs n d = let e : 1 + n ≡ suc n = omega arith in ap (λ k. get_or (x ∷ xs) k d) e

-- where the port stands among the symbols' ports
abbrev place_of : List Cut → ℕ → ℕ
place_of symbols port = position_or_len (nat_eq port) (map (λ s. s.port) symbols)

-- the text of a port's symbol stands there
text_at : (symbols : List Cut) (port : ℕ) (d : Cut) → text_of (map symbol_of symbols) port ≡ cond (nat_lt (place_of symbols port) (length symbols)) (Some (get_or symbols (place_of symbols port) d).text.now) None
text_at [] port d = refl
text_at (s ∷ symbols) port d = by (nat_eq port s.port) (text_at symbols port d)
  where
    by : (b : Bool) → text_of (map symbol_of symbols) port ≡ cond (nat_lt (place_of symbols port) (length symbols)) (Some (get_or symbols (place_of symbols port) d).text.now) None → cond b (Some s.text.now) (text_of (map symbol_of symbols) port) ≡ cond (nat_lt (cond (not b) (1 + place_of symbols port) 0) (length (s ∷ symbols))) (Some (get_or (s ∷ symbols) (cond (not b) (1 + place_of symbols port) 0) d).text.now) None
    by true h = sym (ap (λ t. cond t (Some s.text.now) None) (lt-ltb 0 (length (s ∷ symbols)) (omega arith)))
    by false h =
        h ∙ ap (λ t. cond t (Some (get_or symbols (place_of symbols port) d).text.now) None) (lt_more (place_of symbols port) (length symbols))
        ∙ ap (λ (x : Cut). cond (nat_lt (1 + place_of symbols port) (suc (length symbols))) (Some x.text.now) None) (sym (next_one s symbols (place_of symbols port) d))

-- what the reader finds by the place of the port
pub text_found : (symbols : List Cut) (keys : List ℕ) (port place : ℕ) (d : Cut) → keys ≡ map (λ s. s.port) symbols → Some place ≡ position (nat_eq port) keys → Some (get_or symbols place d).text.now ≡ text_of (map symbol_of symbols) port
text_found symbols keys port place d is at =
    by (nat_lt (place_of symbols port) (length symbols)) (text_at symbols port d)
    (at ∙ ap (position (nat_eq port)) is ∙ ap (λ n. cond (nat_lt (place_of symbols port) n) (Some (place_of symbols port)) None) (length-map symbols (λ (s : Cut). s.port)))
  where
    by : (b : Bool) → text_of (map symbol_of symbols) port ≡ cond b (Some (get_or symbols (place_of symbols port) d).text.now) None → Some place ≡ cond b (Some (place_of symbols port)) None → Some (get_or symbols place d).text.now ≡ text_of (map symbol_of symbols) port
    by true text found =
        let same : place ≡ place_of symbols port = cc found in
        ap (λ k. Some (get_or symbols k d).text.now) same ∙ sym text
    by false text found = absurd (cc found)

pub text_missing : (symbols : List Cut) (keys : List ℕ) (port : ℕ) (d : Cut) → keys ≡ map (λ s. s.port) symbols → None ≡ position (nat_eq port) keys → None ≡ text_of (map symbol_of symbols) port
text_missing symbols keys port d is at =
    by (nat_lt (place_of symbols port) (length symbols)) (text_at symbols port d)
    (at ∙ ap (position (nat_eq port)) is ∙ ap (λ n. cond (nat_lt (place_of symbols port) n) (Some (place_of symbols port)) None) (length-map symbols (λ (s : Cut). s.port)))
  where
    by : (b : Bool) → text_of (map symbol_of symbols) port ≡ cond b (Some (get_or symbols (place_of symbols port) d).text.now) None → None ≡ cond b (Some (place_of symbols port)) None → None ≡ text_of (map symbol_of symbols) port
    by true text found = absurd (cc found)
    by false text found = sym text

-- the text of a symbol is a name
text_is_name : (ports : ℕ) (symbols : List Symbol) (port : ℕ) (text : List ℕ) → All (IsSymbol ports) symbols → Some text ≡ text_of symbols port → is_name text ≡ true
text_is_name ports [] port text all e = absurd (cc e)
text_is_name ports (s ∷ symbols) port text all e = by (nat_eq port s.port) e (text_is_name ports symbols port text (All-tail (IsSymbol ports) s symbols all))
  where
    by : (b : Bool) → Some text ≡ cond b (Some s.text) (text_of symbols port) → (Some text ≡ text_of symbols port → is_name text ≡ true) → is_name text ≡ true
    by true f rest =
        let same : text ≡ s.text = cc f in
        ap is_name same ∙ (All-head (IsSymbol ports) s symbols all).text_is
    by false f rest = rest f

pub found_is_name : (ports : ℕ) (symbols : List Symbol) (port : ℕ) (r : Option (Bor (List ℕ))) → All (IsSymbol ports) symbols → option_map (λ text. text.now) r ≡ text_of symbols port → IfSome r (λ bytes. IsTrue (is_name bytes.now))
found_is_name ports symbols port None all e = tt
found_is_name ports symbols port (Some b) all e = text_is_name ports symbols port b.now all e

-- the ports of symbols are their own set
pub ports_set : (symbols : List Cut) → AllPairs (λ s t. s.port ≢ t.port) (map symbol_of symbols) → insert_all nat_eq [] (map (λ s. s.port) symbols) ≡ map (λ s. s.port) symbols
ports_set symbols once =
    let same : map (λ (s : Symbol). s.port) (map symbol_of symbols) ≡ map (λ (s : Cut). s.port) symbols = map-map symbol_of (λ (s : Symbol). s.port) symbols in
    set_apart (map (λ (s : Cut). s.port) symbols) (subst Apart same (apart_by (λ (s : Symbol). s.port) (map symbol_of symbols) once))

-- so are the inputs, where no variable is defined twice
pub inputs_apart : (f : File) → IsDefinedOnce f → Apart f.inputs
inputs_apart f once =
    apart_map variable_of f.inputs (apart_front (map variable_of f.inputs) (map (λ a. variable_of a.left) f.ands) (apart_from_counts (map variable_of f.inputs ++ map (λ a. variable_of a.left) f.ands) once))

pub inputs_set : (f : File) → IsDefinedOnce f → insert_all nat_eq [] f.inputs ≡ f.inputs
inputs_set f once = set_apart f.inputs (inputs_apart f once)

-- there are as many ports as inputs and outputs
pub length-port_names : (f : File) → length (port_names f) ≡ length f.inputs + length f.outputs
length-port_names f =
    length-map (range_with_len 0 (length f.inputs + length f.outputs)) (port_name f) ∙ length-range_with_len 0 (length f.inputs + length f.outputs)

-- the prefix of the wires prints
pub prefix_printing : (names : List (List ℕ)) (prefix : List ℕ) → prefix ≡ fresh_prefix_of (codes "aig") names → list_all is_printing prefix ≡ true
prefix_printing names prefix is = ap (list_all is_printing) is ∙ printing-prefix (codes "aig") names refl
