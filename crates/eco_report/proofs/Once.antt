-- Behind a line there is at most one state.
use Rattle.std.proofs.Common.{◌≡◌, ℕ, Bool, cond, List, [], ◌∷◌, ◌++◌, None, get_or, map, codes, decimal, refl, ap, sym, subst, ◌∙◌, inl, inr, arith}
use Rattle.std.specs.Prelude.{◌==◌}
use Rattle.std.proofs.lemmas.Bool.{eqb-false}
use Rattle.std.proofs.lemmas.Fmt.{decimal_injective}
use Rattle.std.proofs.lemmas.List.{append_cancel_left}
use Rattle.eco_meaning.specs.Report.{PatchReport}
use Rattle.eco_report.specs.Texts.{bit_digit}
use Rattle.eco_report.specs.Files.{word_text}
use Rattle.eco_report.specs.Reading.{IsNumbered, IsNumbers, IsNamed, IsBudget, bits_line, next_state, with_base, next_part, with_least, with_part, Next, NextLeast, Runs}
use Rattle.eco_report.specs.declared.file.Word.{Word}
use Rattle.eco_report.specs.declared.file.Word.TheVariants.{Rect, Sep, Fix, Eq}
use Rattle.eco_report.specs.declared.file.ReportFile.TheVariants.{Unrectifiable, Budget}
use Rattle.eco_report.specs.declared.state.State.{State}
use Rattle.eco_report.specs.declared.state.State.TheVariants.{First, Input, Cost, Gates, Target, Base, Force1, Force0, Parts, PartForce1, PartForce0, Ending, Over}
use Rattle.eco_report.proofs.Fields.{cut_once, name_free, number_free, bits_once}
use Rattle.eco_report.proofs.LineLaws.{word_free}

-- the kind of question by the first byte of its word
abbrev kind_of : ℕ → Word
kind_of b = cond (b == 114) Rect (cond (b == 115) Sep (cond (b == 102) Fix Eq))

kind_of_text : (w : Word) → kind_of (get_or (word_text w) 0 0) ≡ w
kind_of_text Rect = refl
kind_of_text Sep = refl
kind_of_text Fix = refl
kind_of_text Eq = refl

word_once : (w v : Word) → word_text w ≡ word_text v → w ≡ v
word_once w v e = sym (kind_of_text w) ∙ ap (λ xs. kind_of (get_or xs 0 0)) e ∙ kind_of_text v

numbered_once : (word line : List ℕ) (n m : ℕ) → IsNumbered word line n → IsNumbered word line m → n ≡ m
numbered_once word line n m a b =
    decimal_injective n m a.limit b.limit (append_cancel_left word (decimal n) (decimal m) (sym a.text ∙ b.text))

named_once : (word line name other : List ℕ) (n m : ℕ) → IsNamed word line name n → IsNamed word line other m → (name ≡ other) × (n ≡ m)
named_once word line name other n m a b =
    let text = append_cancel_left word (name ++ 32 ∷ decimal n) (other ++ 32 ∷ decimal m) (sym a.text ∙ b.text) in
    let same = cut_once 32 name (decimal n) other (decimal m) text (name_free 32 name (omega arith) a.printing) (name_free 32 other (omega arith) b.printing) in
    (same.0, decimal_injective n m a.limit b.limit same.1)

numbers_once : (word line : List ℕ) (n m k l : ℕ) → IsNumbers word line n m → IsNumbers word line k l → (n ≡ k) × (m ≡ l)
numbers_once word line n m k l a b =
    let text = append_cancel_left word (decimal n ++ 32 ∷ decimal m) (decimal k ++ 32 ∷ decimal l) (sym a.text ∙ b.text) in
    let same = cut_once 32 (decimal n) (decimal m) (decimal k) (decimal l) text (number_free 32 n (omega arith) a.first) (number_free 32 k (omega arith) b.first) in
    (decimal_injective n k a.first b.first same.0, decimal_injective m l a.second b.second same.1)

bits_line_once : (word line : List ℕ) (b c : List Bool) → line ≡ bits_line word b → line ≡ bits_line word c → b ≡ c
bits_line_once word line b c e f = bits_once b c (append_cancel_left word (map bit_digit b) (map bit_digit c) (sym e ∙ f))

budget_once : (word line : List ℕ) (w v : Word) (l k : ℕ) → IsBudget word line w l → IsBudget word line v k → (w ≡ v) × (l ≡ k)
budget_once word line w v l k a b =
    let text = append_cancel_left word (word_text w ++ 32 ∷ decimal l) (word_text v ++ 32 ∷ decimal k) (sym a.text ∙ b.text) in
    let same = cut_once 32 (word_text w) (decimal l) (word_text v) (decimal k) text (word_free w) (word_free v) in
    let small = a.most in
    let little = b.most in
    (word_once w v same.0, decimal_injective l k (omega arith) (omega arith) same.1)

-- lines with other first bytes differ
apart : (line left right : List ℕ) → line ≡ left → line ≡ right → get_or left 0 0 ≡ get_or right 0 0
apart line left right e f = ap (λ xs. get_or xs 0 0) (sym e ∙ f)

least_once : (report : PatchReport) (line : List ℕ) (t u : State) → NextLeast report line t → NextLeast report line u → t ≡ u
least_once report line t u a b =
    let same = named_once (codes "least ") line a.0 b.0 a.1 b.1 a.2 b.2 in
    a.3 ∙ ap (λ name. Ending (with_least report (record { target = name; cost = a.1 }))) same.0 ∙ ap (λ n. Ending (with_least report (record { target = b.0; cost = n }))) same.1 ∙ sym b.3

pub next_once : (state : State) (line : List ℕ) (t u : State) → Next state line t → Next state line u → t ≡ u
next_once First line t u (inl a) (inl b) = a.1 ∙ sym b.1
next_once First line t u (inl a) (inr (inl b)) = absurd (eqb-false 112 117 refl (apart line _ _ a.0 b.0))
next_once First line t u (inl a) (inr (inr b)) = let text = b.2.text in absurd (eqb-false 112 98 refl (apart line _ _ a.0 text))
next_once First line t u (inr (inl a)) (inl b) = absurd (eqb-false 117 112 refl (apart line _ _ a.0 b.0))
next_once First line t u (inr (inl a)) (inr (inl b)) = a.1 ∙ sym b.1
next_once First line t u (inr (inl a)) (inr (inr b)) = let text = b.2.text in absurd (eqb-false 117 98 refl (apart line _ _ a.0 text))
next_once First line t u (inr (inr a)) (inl b) = let text = a.2.text in absurd (eqb-false 98 112 refl (apart line _ _ text b.0))
next_once First line t u (inr (inr a)) (inr (inl b)) = let text = a.2.text in absurd (eqb-false 98 117 refl (apart line _ _ text b.0))
next_once First line t u (inr (inr a)) (inr (inr b)) =
    let same = budget_once (codes "budget ") line a.0 b.0 a.1 b.1 a.2 b.2 in
    a.3 ∙ ap (λ w. Over (Budget w a.1)) same.0 ∙ ap (λ l. Over (Budget b.0 l)) same.1 ∙ sym b.3
next_once Input line t u a b =
    a.2 ∙ ap (λ bits. Over (Unrectifiable bits)) (bits_line_once (codes "input ") line a.0 b.0 a.1 b.1) ∙ sym b.2
next_once Cost line t u a b = a.2 ∙ ap (λ n. Gates n) (numbered_once (codes "cost ") line a.0 b.0 a.1 b.1) ∙ sym b.2
next_once (Gates cost) line t u a b =
    a.2 ∙ ap (λ n. Target (record { cost = cost; gates = n; groups = []; bound = None; least = [] })) (numbered_once (codes "gates ") line a.0 b.0 a.1 b.1) ∙ sym b.2
next_once (Target report) line t u (inl a) (inl b) =
    let same = named_once (codes "target ") line a.0 b.0 a.1 b.1 a.2 b.2 in
    a.3 ∙ ap (λ name. next_state (record { report = report; group = record { target = name; base = [] }; left = a.1 })) same.0 ∙ ap (λ n. next_state (record { report = report; group = record { target = b.0; base = [] }; left = n })) same.1 ∙ sym b.3
next_once (Target report) line t u (inl a) (inr (inl b)) = let one = a.2.text in let other = b.2.text in absurd (eqb-false 116 98 refl (apart line _ _ one other))
next_once (Target report) line t u (inl a) (inr (inr b)) = let one = a.2.text in let other = b.2.text in absurd (eqb-false 116 108 refl (apart line _ _ one other))
next_once (Target report) line t u (inr (inl a)) (inl b) = let one = a.2.text in let other = b.2.text in absurd (eqb-false 98 116 refl (apart line _ _ one other))
next_once (Target report) line t u (inr (inl a)) (inr (inr b)) = let one = a.2.text in let other = b.2.text in absurd (eqb-false 98 108 refl (apart line _ _ one other))
next_once (Target report) line t u (inr (inr a)) (inl b) = let one = a.2.text in let other = b.2.text in absurd (eqb-false 108 116 refl (apart line _ _ one other))
next_once (Target report) line t u (inr (inr a)) (inr (inl b)) = let one = a.2.text in let other = b.2.text in absurd (eqb-false 108 98 refl (apart line _ _ one other))
next_once (Target report) line t u (inr (inr a)) (inr (inr b)) = least_once report line t u a b
next_once (Target report) line t u (inr (inl a)) (inr (inl b)) =
    let same = numbers_once (codes "bound ") line a.0 a.1 b.0 b.1 a.2 b.2 in
    a.3 ∙ ap (λ n. next_part (record { report = report; bound = record { total = n; parts = [] }; left = a.1 })) same.0 ∙ ap (λ n. next_part (record { report = report; bound = record { total = b.0; parts = [] }; left = n })) same.1 ∙ sym b.3
next_once (Base o) line t u a b =
    let same = named_once (codes "base ") line a.0 b.0 a.1 b.1 a.2.named b.2.named in
    a.3 ∙ ap (λ name. Force1 o name a.1) same.0 ∙ ap (λ n. Force1 o b.0 n) same.1 ∙ sym b.3
next_once (Force1 o name weight) line t u a b =
    a.2 ∙ ap (λ bits. Force0 o name weight bits) (bits_line_once (codes "force1 ") line a.0 b.0 a.1 b.1) ∙ sym b.2
next_once (Force0 o name weight force1) line t u a b =
    a.2 ∙ ap (λ bits. next_state (with_base o (record { signal = name; weight = weight; force1 = force1; force0 = bits }))) (bits_line_once (codes "force0 ") line a.0 b.0 a.1 b.1) ∙ sym b.2
next_once (Parts o) line t u a b =
    let small = a.1.most in
    let little = b.1.most in
    let same = decimal_injective a.0 b.0 (omega arith) (omega arith) (append_cancel_left (codes "amount ") (decimal a.0) (decimal b.0) (sym a.1.text ∙ b.1.text)) in
    a.2 ∙ ap (λ n. PartForce1 o n) same ∙ sym b.2
next_once (PartForce1 o amount) line t u a b =
    a.2 ∙ ap (λ bits. PartForce0 o amount bits) (bits_line_once (codes "force1 ") line a.0 b.0 a.1 b.1) ∙ sym b.2
next_once (PartForce0 o amount force1) line t u a b =
    a.2 ∙ ap (λ bits. next_part (with_part o (record { amount = amount; force1 = force1; force0 = bits }))) (bits_line_once (codes "force0 ") line a.0 b.0 a.1 b.1) ∙ sym b.2
next_once (Ending report) line t u a b = least_once report line t u a b
next_once (Over file) line t u a b = absurd a

-- lines lead to one state
pub runs_once : (lines : List (List ℕ)) (state t u : State) → Runs state lines t → Runs state lines u → t ≡ u
runs_once [] state t u a b = sym a ∙ b
runs_once (line ∷ lines) state t u a b =
    let same = next_once state line a.0 b.0 a.1 b.1 in
    runs_once lines b.0 t u (subst (λ s. Runs s lines t) same a.2) b.2

-- lines behind lines
pub runs_append : (ls ms : List (List ℕ)) (s t u : State) → Runs s ls t → Runs t ms u → Runs s (ls ++ ms) u
runs_append [] ms s t u a b = subst (λ x. Runs x ms u) (sym a) b
runs_append (l ∷ ls) ms s t u a b = (a.0, a.1, runs_append ls ms a.0 t u a.2 b)

pub runs_split : (ls ms : List (List ℕ)) (s u : State) → Runs s (ls ++ ms) u → (t : State) × Runs s ls t × Runs t ms u
runs_split [] ms s u a = (s, refl, a)
runs_split (l ∷ ls) ms s u a =
    let more = runs_split ls ms a.0 u a.2 in
    (more.0, (a.0, a.1, more.1), more.2)
