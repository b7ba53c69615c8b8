-- The names of an instance: two of them are one only where their numbers are.
use Rattle.std.proofs.Common.{◌≡◌, ℕ, ◌+◌, ◌-◌, ◌<◌, inl, inr, false, List, Some, None, Option, get_or, refl, sym, ◌∙◌, ap, subst, arith}
use Rattle.std.specs.Prelude.{codes, nat_lt}
use Rattle.std.proofs.lemmas.Bool.{cases_lt, le-ltb, lt-ltb}
use Rattle.eco_text.proofs.NumberedNames.{numbered-injective}
use Rattle.eco_gen.specs.declared.TheConstants.{INPUTS, MOST_GATES}
use Rattle.eco_gen.specs.Cutting.{MayCut}
use Rattle.eco_gen.specs.Drawn.{cut_gate, target_at, input_name, output_name, gate_name, target_name, name_behind, signal_name}
use Rattle.eco_gen.proofs.Cuts.{target_cuts}

-- the letter of a name
abbrev pub letter : List ℕ → ℕ
letter name = get_or name 0 0

-- an output of a gate is no port
pub input_no_output : (k m : ℕ) → input_name k ≡ output_name m → ⊥
input_no_output k m e = let same : 120 ≡ 121 = ap letter e in omega (arith, same)

-- the name of a signal has one of three forms: of an input, of a gate, or of a target that cuts a gate
pub data IsForm (size targets k : ℕ) : List ℕ → Type 0 where
  of_input : k < INPUTS → IsForm size targets k (input_name k)
  of_gate : (j : ℕ) → k ≡ INPUTS + j → target_at size targets j ≡ None → IsForm size targets k (gate_name j)
  of_target : (i : ℕ) → i < targets → k ≡ INPUTS + cut_gate size targets i → IsForm size targets k (target_name i)

form_behind : (size targets j : ℕ) (o : Option ℕ) → target_at size targets j ≡ o → IsForm size targets (INPUTS + j) (name_behind o j)
form_behind size targets j None e = of_gate j refl e
form_behind size targets j (Some i) e =
    let cuts = target_cuts size targets j i e in
    of_target i cuts.0 (ap (λ g. INPUTS + g) (sym cuts.1))

pub signal_low : (size targets k : ℕ) → k < INPUTS → signal_name size targets k ≡ input_name k
unfolding signal_name
signal_low size targets k low = rw (lt-ltb k INPUTS low) refl

pub signal_high : (size targets j : ℕ) → signal_name size targets (INPUTS + j) ≡ name_behind (target_at size targets j) j
unfolding signal_name
signal_high size targets j =
    let high : nat_lt (INPUTS + j) INPUTS ≡ false = le-ltb (INPUTS + j) INPUTS (omega arith) in
    let back : INPUTS + j - INPUTS ≡ j = omega arith in
    rw (high, back) refl

pub form_of : (size targets k : ℕ) → IsForm size targets k (signal_name size targets k)
form_of size targets k =
    elim (cases_lt k INPUTS) [
      | inl low ↦ subst (IsForm size targets k) (sym (signal_low size targets k low)) (of_input low)
      | inr high ↦
          let sum : INPUTS + (k - INPUTS) ≡ k = omega arith in
          subst (λ n. IsForm size targets n (signal_name size targets n)) sum
          (subst (IsForm size targets (INPUTS + (k - INPUTS))) (sym (signal_high size targets (k - INPUTS)))
          (form_behind size targets (k - INPUTS) (target_at size targets (k - INPUTS)) refl))
    ]

-- what the name of a signal stands for
abbrev small : ℕ → Type 0
small k = k < INPUTS + MOST_GATES

one_form : (size targets k l : ℕ) (name other : List ℕ) → MayCut size targets → small k → small l → IsForm size targets k name → IsForm size targets l other → name ≡ other → k ≡ l
one_form size targets k l name other may few_k few_l (of_input low) (of_input low') e = numbered-injective (codes "x") k l (omega arith) (omega arith) e
one_form size targets k l name other may few_k few_l (of_input low) (of_gate j at free) e = let same : 120 ≡ 103 = ap letter e in absurd (omega (arith, same))
one_form size targets k l name other may few_k few_l (of_input low) (of_target i lt at) e = let same : 120 ≡ 116 = ap letter e in absurd (omega (arith, same))
one_form size targets k l name other may few_k few_l (of_gate j at free) (of_input low) e = let same : 103 ≡ 120 = ap letter e in absurd (omega (arith, same))
one_form size targets k l name other may few_k few_l (of_gate j at free) (of_gate j' at' free') e =
    let same = numbered-injective (codes "g") j j' (omega arith) (omega arith) e in
    omega (arith, same, at, at')
one_form size targets k l name other may few_k few_l (of_gate j at free) (of_target i lt at') e = let same : 103 ≡ 116 = ap letter e in absurd (omega (arith, same))
one_form size targets k l name other may few_k few_l (of_target i lt at) (of_input low) e = let same : 116 ≡ 120 = ap letter e in absurd (omega (arith, same))
one_form size targets k l name other may few_k few_l (of_target i lt at) (of_gate j at' free) e = let same : 116 ≡ 103 = ap letter e in absurd (omega (arith, same))
one_form size targets k l name other may few_k few_l (of_target i lt at) (of_target i' lt' at') e =
    let few = may.few_targets in
    let same = numbered-injective (codes "t_") i i' (omega arith) (omega arith) e in
    at ∙ ap (λ n. INPUTS + cut_gate size targets n) same ∙ sym at'

pub signal_once : (size targets k l : ℕ) → MayCut size targets → k < INPUTS + size → l < INPUTS + size → signal_name size targets k ≡ signal_name size targets l → k ≡ l
signal_once size targets k l may below_k below_l e =
    let few = may.few_gates in
    one_form size targets k l (signal_name size targets k) (signal_name size targets l) may (omega arith) (omega arith) (form_of size targets k) (form_of size targets l) e

-- no signal has the name of an output port
form_no_output : (size targets k : ℕ) (name : List ℕ) (m : ℕ) → IsForm size targets k name → name ≡ output_name m → ⊥
form_no_output size targets k name m (of_input low) e = let same : 120 ≡ 121 = ap letter e in omega (arith, same)
form_no_output size targets k name m (of_gate j at free) e = let same : 103 ≡ 121 = ap letter e in omega (arith, same)
form_no_output size targets k name m (of_target i lt at) e = let same : 116 ≡ 121 = ap letter e in omega (arith, same)

pub signal_no_output : (size targets k m : ℕ) → signal_name size targets k ≡ output_name m → ⊥
signal_no_output size targets k m e = form_no_output size targets k (signal_name size targets k) m (form_of size targets k) e
