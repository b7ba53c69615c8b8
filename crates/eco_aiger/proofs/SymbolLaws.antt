-- The words of symbols.
use Rattle.std.proofs.Common.{◌≡◌, inl, inr, ℕ, ◌-◌, ◌<◌, ◌≤◌, ◌^◌, Option, Some, None, IfNone, List, [], ◌∷◌, ◌++◌, cond, get_or, sym, ap, ◌∙◌, arith}
use Rattle.std.specs.Prelude.{codes, decimal}
use Rattle.std.proofs.lemmas.Bool.{cases_lt, lt-ltb, le-ltb}
use Rattle.std.proofs.lemmas.Fmt.{decimal_injective}
use Rattle.eco_aiger.specs.Grammar.{limit, port_word, symbol_words, IsSymbol}
use Rattle.eco_aiger.specs.Syntax.{Symbol}
use Rattle.eco_aiger.specs.Parts.{IsPlaceBelow, IsPortWord, IsSymbolRow}

-- the word for an input, and for an output
pub input_word : (inputs port : ℕ) → port < inputs → port_word inputs port ≡ 105 ∷ decimal port
input_word inputs port lt = ap (λ b. cond b (codes "i" ++ decimal port) (codes "o" ++ decimal (port - inputs))) (lt-ltb port inputs lt)

pub output_word : (inputs port : ℕ) → inputs ≤ port → port_word inputs port ≡ 111 ∷ decimal (port - inputs)
output_word inputs port le = ap (λ b. cond b (codes "i" ++ decimal port) (codes "o" ++ decimal (port - inputs))) (le-ltb port inputs le)

-- `i` is not `o`
heads_differ : (xs ys : List ℕ) → 105 ∷ xs ≡ 111 ∷ ys → ⊥
heads_differ xs ys e =
    let g : get_or (105 ∷ xs) 0 0 ≡ get_or (111 ∷ ys) 0 0 = ap (λ l. get_or l 0 0) e in
    omega (arith, g)

-- a word that begins with `i` is an input's
pub place_of_input : (inputs outputs : ℕ) (word : List ℕ) (port : ℕ) → inputs ≤ limit → IsPortWord inputs outputs (105 ∷ word) port → IsPlaceBelow inputs word port
place_of_input inputs outputs word port small is =
    let e = is.text in
    elim (cases_lt port inputs) [
      | inl lt ↦
          let f : 105 ∷ word ≡ 105 ∷ decimal port = e ∙ input_word inputs port lt in
          record { number_is = record { text = cc f; within = omega arith }; below = lt }
      | inr le ↦
          absurd (heads_differ word (decimal (port - inputs)) (e ∙ output_word inputs port le))
    ]

-- where there is no place below the count, the word is no input's
pub no_input : (inputs outputs : ℕ) (word : List ℕ) → inputs ≤ limit → (r : Option ℕ) → IfNone r ((k : ℕ) → IsPlaceBelow inputs word k → ⊥) → IfNone r ((port : ℕ) → IsPortWord inputs outputs (105 ∷ word) port → ⊥)
no_input inputs outputs word small None none = λ port is. none port (place_of_input inputs outputs word port small is)
no_input inputs outputs word small (Some k) none = tt

-- two ports below so many have two words
pub port_word-injective : (inputs m n : ℕ) → m < 2 ^ 64 → n < 2 ^ 64 → port_word inputs m ≡ port_word inputs n → m ≡ n
port_word-injective inputs m n lt_m lt_n e =
    elim (cases_lt m inputs) [
      | inl m_in ↦ elim (cases_lt n inputs) [
        | inl n_in ↦
            let f : 105 ∷ decimal m ≡ 105 ∷ decimal n = sym (input_word inputs m m_in) ∙ e ∙ input_word inputs n n_in in
            decimal_injective m n lt_m lt_n (cc f)
        | inr n_out ↦
            absurd (heads_differ (decimal m) (decimal (n - inputs)) (sym (input_word inputs m m_in) ∙ e ∙ output_word inputs n n_out))
      ]
      | inr m_out ↦ elim (cases_lt n inputs) [
        | inl n_in ↦
            absurd (heads_differ (decimal n) (decimal (m - inputs)) (sym (input_word inputs n n_in) ∙ sym e ∙ output_word inputs m m_out))
        | inr n_out ↦
            let f : 111 ∷ decimal (m - inputs) ≡ 111 ∷ decimal (n - inputs) = sym (output_word inputs m m_out) ∙ e ∙ output_word inputs n n_out in
            let g = decimal_injective (m - inputs) (n - inputs) (omega arith) (omega arith) (cc f) in
            omega arith
      ]
    ]

-- the word of a symbol's port
pub port_of_row : (inputs outputs : ℕ) (port text : List ℕ) (s : Symbol) → IsSymbolRow inputs outputs (port ∷ text ∷ []) s → IsPortWord inputs outputs port s.port
port_of_row inputs outputs port text s row =
    let e = row.0 in
    record { text = cc e; below = row.1.port_is }

-- the words of a symbol are one symbol's
pub symbol_once : (inputs ports : ℕ) → ports < 2 ^ 64 → (s t : Symbol) → IsSymbol ports s → IsSymbol ports t → symbol_words inputs s ≡ symbol_words inputs t → s ≡ t
symbol_once inputs ports small s t is_s is_t e =
    let below_s = is_s.port_is in
    let below_t = is_t.port_is in
    let word : port_word inputs s.port ≡ port_word inputs t.port = cc e in
    let port = port_word-injective inputs s.port t.port (omega arith) (omega arith) word in
    let text : s.text ≡ t.text = cc e in
    (λ i. record { port = port i; text = text i })
