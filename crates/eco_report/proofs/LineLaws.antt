-- What is found in a line is what the line is.
use Rattle.std.proofs.Common.{◌≡◌, ℕ, ◌<◌, ◌≤◌, ◌^◌, Bool, List, [], ◌∷◌, ◌++◌, Option, Some, None, MatchOption, IfSome, IfNone, Result, Ok, Err, IfOk, map, codes, decimal, IsTrue, refl, ap, sym, subst, ◌∙◌, inl, inr, arith}
use Rattle.std.proofs.lemmas.Fmt.{decimal_injective}
use Rattle.std.proofs.lemmas.List.{append_cancel_left}
use Rattle.eco_meaning.specs.Names.{is_name}
use Rattle.eco_report.specs.Texts.{bit_digit}
use Rattle.eco_report.specs.Files.{word_text, IsFree}
use Rattle.eco_report.specs.Reading.{IsCut, IsNumbered, IsNumbers, AreNumbers, IsAmount, IsNamed, IsPair, IsBase, IsSpent, IsBudget, bits_line, NextEnding, Steps}
use Rattle.eco_meaning.specs.Report.{PatchReport}
use Rattle.eco_report.specs.declared.state.State.{State}
use Rattle.eco_report.specs.declared.state.State.TheVariants.{Target, Ending}
use Rattle.eco_report.specs.declared.file.Word.{Word}
use Rattle.eco_report.specs.declared.file.Word.TheVariants.{Rect, Sep, Fix, Eq}
use Rattle.eco_report.proofs.Fields.{cut_once, name_free, number_free, not_free}

-- the number behind a word is the line's
pub numbered_is : (line word digits : List ℕ) (r : Option ℕ) → line ≡ word ++ digits → IfSome r (λ n. (digits ≡ decimal n) × (n < 2 ^ 64)) → IfNone r ((n : ℕ) → n < 2 ^ 64 → digits ≡ decimal n → ⊥) → MatchOption r ((n : ℕ) → IsNumbered word line n → ⊥) (IsNumbered word line)
numbered_is line word digits None row some none = λ n is. none n is.limit (append_cancel_left word digits (decimal n) (sym row ∙ is.text))
numbered_is line word digits (Some n) row some none = record { text = row ∙ ap (λ xs. word ++ xs) some.0; limit = some.1 }

-- the two numbers behind a word are the line's
pub numbers_are : (line word fields : List ℕ) (r : Option (ℕ × ℕ)) → line ≡ word ++ fields → MatchOption r ((a b : ℕ) → IsNumbers [] fields a b → ⊥) (λ p. IsNumbers [] fields p.0 p.1) → MatchOption r ((a b : ℕ) → IsNumbers word line a b → ⊥) (λ p. IsNumbers word line p.0 p.1)
numbers_are line word fields None row h = λ a b is.
    h a b (record { text = append_cancel_left word fields (decimal a ++ 32 ∷ decimal b) (sym row ∙ is.text); first = is.first; second = is.second })
numbers_are line word fields (Some p) row h =
    record { text = row ∙ ap (λ xs. word ++ xs) h.text; first = h.first; second = h.second }

-- they are cut at the first blank
pub numbers_cut : (fields digits more : List ℕ) (r : Option (ℕ × ℕ)) → IsCut 32 fields digits more → MatchOption r ((a b : ℕ) → AreNumbers digits more a b → ⊥) (λ p. AreNumbers digits more p.0 p.1) → MatchOption r ((a b : ℕ) → IsNumbers [] fields a b → ⊥) (λ p. IsNumbers [] fields p.0 p.1)
numbers_cut fields digits more None row h = λ a b is.
    let same = cut_once 32 digits more (decimal a) (decimal b) (sym row.row ∙ is.text) row.free (number_free 32 a (omega arith) is.first) in
    h a b (record { left = same.0; right = same.1; first = is.first; second = is.second })
numbers_cut fields digits more (Some p) row h =
    record { text = row.row ∙ ap (λ xs. xs ++ 32 ∷ more) h.left ∙ ap (λ xs. decimal p.0 ++ 32 ∷ xs) h.right; first = h.first; second = h.second }

-- without a blank there are none
pub no_numbers : (fields : List ℕ) → IsFree 32 fields → (a b : ℕ) → IsNumbers [] fields a b → ⊥
no_numbers fields free a b is = not_free 32 (decimal a) (decimal b) (subst (IsFree 32) is.text free)

-- the limit behind the word is the amount
pub amount_is : (line digits : List ℕ) (r : Option ℕ) → line ≡ codes "amount " ++ digits → MatchOption r ((l : ℕ) → 1 ≤ l → l < 2 ^ 32 → digits ≡ decimal l → ⊥) (λ l. (digits ≡ decimal l) × (1 ≤ l) × (l < 2 ^ 32)) → MatchOption r ((n : ℕ) → IsAmount line n → ⊥) (IsAmount line)
amount_is line digits None row h = λ n is. h n is.least is.most (append_cancel_left (codes "amount ") digits (decimal n) (sym row ∙ is.text))
amount_is line digits (Some n) row h =
    record { text = row ∙ ap (λ xs. codes "amount " ++ xs) h.0; least = h.1; most = h.2 }

-- so are the bits
pub bits_are : {E : Type 0} (line word digits : List ℕ) (r : Result (Option (List Bool)) E) → line ≡ word ++ digits → IfOk r (λ found. MatchOption found ((bits : List Bool) → digits ≡ map bit_digit bits → ⊥) (λ bits. digits ≡ map bit_digit bits)) → IfOk r (λ found. MatchOption found ((bits : List Bool) → line ≡ bits_line word bits → ⊥) (λ bits. line ≡ bits_line word bits))
bits_are line word digits (Err e) row h = tt
bits_are line word digits (Ok None) row h = λ bits is. h bits (append_cancel_left word digits (map bit_digit bits) (sym row ∙ is))
bits_are line word digits (Ok (Some bits)) row h = row ∙ ap (λ xs. word ++ xs) h

-- so are the name and the number
pub named_is : {E : Type 0} (line word fields : List ℕ) (r : Result (Option (List ℕ × ℕ)) E) → line ≡ word ++ fields → IfOk r (λ found. MatchOption found ((name : List ℕ) (n : ℕ) → IsNamed [] fields name n → ⊥) (λ p. IsNamed [] fields p.0 p.1)) → IfOk r (λ found. MatchOption found ((name : List ℕ) (n : ℕ) → IsNamed word line name n → ⊥) (λ p. IsNamed word line p.0 p.1))
named_is line word fields (Err e) row h = tt
named_is line word fields (Ok None) row h = λ name n is.
    h name n (record { text = append_cancel_left word fields (name ++ 32 ∷ decimal n) (sym row ∙ is.text); printing = is.printing; limit = is.limit })
named_is line word fields (Ok (Some p)) row h =
    record { text = row ∙ ap (λ xs. word ++ xs) h.text; printing = h.printing; limit = h.limit }

-- a name and a number are cut at the first blank
pub fields_are : {E : Type 0} (fields name digits : List ℕ) (r : Result (Option (List ℕ × ℕ)) E) → IsCut 32 fields name digits → IfOk r (λ found. MatchOption found ((n : ℕ) → IsPair name digits name n → ⊥) (λ p. IsPair name digits p.0 p.1)) → IfOk r (λ found. MatchOption found ((other : List ℕ) (n : ℕ) → IsNamed [] fields other n → ⊥) (λ p. IsNamed [] fields p.0 p.1))
fields_are fields name digits (Err e) row h = tt
fields_are fields name digits (Ok None) row h = λ other n is.
    let same = cut_once 32 name digits other (decimal n) (sym row.row ∙ is.text) row.free (name_free 32 other (omega arith) is.printing) in
    h n (record { same = refl; printing = subst (λ xs. IsTrue (is_name xs)) (sym same.0) is.printing; text = same.1; limit = is.limit })
fields_are fields name digits (Ok (Some p)) row h =
    record {
      text = row.row ∙ ap (λ xs. xs ++ 32 ∷ digits) (sym h.same) ∙ ap (λ xs. p.0 ++ 32 ∷ xs) h.text;
      printing = subst (λ xs. IsTrue (is_name xs)) (sym h.same) h.printing;
      limit = h.limit;
    }

-- without a blank there is none
pub no_fields : (fields : List ℕ) → IsFree 32 fields → (name : List ℕ) (n : ℕ) → IsNamed [] fields name n → ⊥
no_fields fields free name n is = not_free 32 name (decimal n) (subst (IsFree 32) is.text free)

-- a base signal's weight has 32 bits
pub base_is : (line name : List ℕ) (number : ℕ) (r : Option (List ℕ × ℕ)) → IsNamed (codes "base ") line name number → MatchOption r (number < 2 ^ 32 → ⊥) (λ p. (p.0 ≡ name) × (p.1 ≡ number) × (number < 2 ^ 32)) → MatchOption r ((other : List ℕ) (w : ℕ) → IsBase line other w → ⊥) (λ p. IsBase line p.0 p.1)
base_is line name number None is h = λ other w base.
    let text : name ++ 32 ∷ decimal number ≡ other ++ 32 ∷ decimal w = append_cancel_left (codes "base ") _ _ (sym is.text ∙ base.named.text) in
    let same = cut_once 32 name (decimal number) other (decimal w) text (name_free 32 name (omega arith) is.printing) (name_free 32 other (omega arith) base.named.printing) in
    let equal : number ≡ w = decimal_injective number w is.limit base.named.limit same.1 in
    let small = base.limit in
    h (omega arith)
base_is line name number (Some p) is h =
    record {
      named = subst (λ n. IsNamed (codes "base ") line n p.1) (sym h.0) (subst (IsNamed (codes "base ") line name) (sym h.1) is);
      limit = omega (arith, h.1, h.2);
    }

-- a number is a limit where it is small enough
pub limit_is : (digits : List ℕ) (number : ℕ) (r : Option ℕ) → digits ≡ decimal number → number < 2 ^ 64 → MatchOption r (1 ≤ number → number < 2 ^ 32 → ⊥) (λ l. (l ≡ number) × (1 ≤ number) × (number < 2 ^ 32)) → MatchOption r ((l : ℕ) → 1 ≤ l → l < 2 ^ 32 → digits ≡ decimal l → ⊥) (λ l. (digits ≡ decimal l) × (1 ≤ l) × (l < 2 ^ 32))
limit_is digits number None is small h = λ l least most text.
    let same : number ≡ l = decimal_injective number l small (omega arith) (sym is ∙ text) in
    h (omega arith) (omega arith)
limit_is digits number (Some l) is small h = (is ∙ ap decimal (sym h.0), omega (arith, h.0, h.1), omega (arith, h.0, h.2))

-- the kind and the limit behind a word are the line's
pub budget_is : (line word fields : List ℕ) (r : Option (Word × ℕ)) → line ≡ word ++ fields → MatchOption r ((w : Word) (l : ℕ) → IsBudget [] fields w l → ⊥) (λ p. IsBudget [] fields p.0 p.1) → MatchOption r ((w : Word) (l : ℕ) → IsBudget word line w l → ⊥) (λ p. IsBudget word line p.0 p.1)
budget_is line word fields None row h = λ w l is.
    h w l (record { text = append_cancel_left word fields (word_text w ++ 32 ∷ decimal l) (sym row ∙ is.text); least = is.least; most = is.most })
budget_is line word fields (Some p) row h =
    record { text = row ∙ ap (λ xs. word ++ xs) h.text; least = h.least; most = h.most }

-- a kind's word has no blank
pub word_free : (w : Word) → IsFree 32 (word_text w)
word_free Rect = ((λ e. omega arith), ((λ e. omega arith), ((λ e. omega arith), ((λ e. omega arith), tt))))
word_free Sep = ((λ e. omega arith), ((λ e. omega arith), ((λ e. omega arith), tt)))
word_free Fix = ((λ e. omega arith), ((λ e. omega arith), ((λ e. omega arith), tt)))
word_free Eq = ((λ e. omega arith), ((λ e. omega arith), tt))

-- a kind and a limit are cut at the first blank
pub spent_is : (fields word digits : List ℕ) (r : Option (Word × ℕ)) → IsCut 32 fields word digits → MatchOption r ((w : Word) (l : ℕ) → IsSpent word digits w l → ⊥) (λ p. IsSpent word digits p.0 p.1) → MatchOption r ((w : Word) (l : ℕ) → IsBudget [] fields w l → ⊥) (λ p. IsBudget [] fields p.0 p.1)
spent_is fields word digits None row h = λ w l is.
    let same = cut_once 32 word digits (word_text w) (decimal l) (sym row.row ∙ is.text) row.free (word_free w) in
    h w l (record { kind = same.0; text = same.1; least = is.least; most = is.most })
spent_is fields word digits (Some p) row h =
    record { text = row.row ∙ ap (λ xs. xs ++ 32 ∷ digits) h.kind ∙ ap (λ xs. word_text p.0 ++ 32 ∷ xs) h.text; least = h.least; most = h.most }

-- without a blank there are none
pub no_budget : (fields : List ℕ) → IsFree 32 fields → (w : Word) (l : ℕ) → IsBudget [] fields w l → ⊥
no_budget fields free w l is = not_free 32 (word_text w) (decimal l) (subst (IsFree 32) is.text free)

-- behind the targets comes a target's line or what ends a report
pub target_is : {E : Type 0} (report : PatchReport) (line : List ℕ) (r : Result (Option State) E) → ((name : List ℕ) (n : ℕ) → IsNamed (codes "target ") line name n → ⊥) → IfOk r (λ found. MatchOption found ((next : State) → NextEnding report line next → ⊥) (NextEnding report line)) → IfOk r (Steps (Target report) line)
target_is report line (Err e) none h = tt
target_is report line (Ok None) none h = λ next is. elim is [ inl a ↦ none a.0 a.1 a.2 | inr b ↦ h next b ]
target_is report line (Ok (Some next)) none h = inr h

-- behind them comes a bound's line or that of what a target costs at least
pub ending_is : {E : Type 0} (report : PatchReport) (line : List ℕ) (r : Result (Option State) E) → ((total count : ℕ) → IsNumbers (codes "bound ") line total count → ⊥) → IfOk r (Steps (Ending report) line) → IfOk r (λ found. MatchOption found ((next : State) → NextEnding report line next → ⊥) (NextEnding report line))
ending_is report line (Err e) none h = tt
ending_is report line (Ok None) none h = λ next is. elim is [ inl a ↦ none a.0 a.1 a.2 | inr b ↦ h next b ]
ending_is report line (Ok (Some next)) none h = inr h
