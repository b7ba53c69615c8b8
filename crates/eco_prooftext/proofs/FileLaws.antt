-- The steps of lines, one line after another, and that each text has one answer.
use Rattle.std.proofs.Common.{◌≡◌, ◌⊎◌, ℕ, List, [], ◌∷◌, ◌++◌, Result, Ok, Err, IfOk, IfErr, MatchResult, refl, ap, sym, subst, ◌∙◌, inl, inr}
use Rattle.std.specs.List.{AllByRecursion}
use Rattle.eco_check.specs.Steps.{StepValue}
use Rattle.eco_prooftext.specs.declared.error.TraceError.{TraceError}
use Rattle.eco_prooftext.specs.declared.error.TraceError.TheVariants.{TraceSyntax, OutOfMemory}
use Rattle.eco_lists.specs.Lines.{lines_of}
use Rattle.eco_prooftext.specs.TraceFile.{words_of, pair_numbers, IsStep, IsStepLine, IsBlank, IsSound, AreSteps, IsTraceText, IsFirstBadLine, IsRefused}
use Rattle.eco_prooftext.specs.TraceRead.{TakesLine}
use Rattle.eco_prooftext.proofs.WordLaws.{numbers_once, blank_numbers}
use Rattle.eco_lists.proofs.Lines.{sound_at, fault_once}

-- one blank line more
pub takes_blank : (line : List ℕ) (steps : List StepValue) → IsBlank line → TakesLine line steps steps
takes_blank line steps blank [] t = inl (blank, t)
takes_blank line steps blank (l ∷ lines) (inl t) = inl (t.0, takes_blank line steps blank lines t.1)
takes_blank line [] blank (l ∷ lines) (inr t) = absurd t
takes_blank line (step ∷ steps) blank (l ∷ lines) (inr t) = inr (t.0, takes_blank line steps blank lines t.1)

-- one line of a step more
pub takes_step : (line : List ℕ) (steps : List StepValue) (step : StepValue) → IsStepLine line step → TakesLine line steps (steps ++ step ∷ [])
takes_step line steps step is [] t = subst (λ ss. AreSteps (line ∷ []) (ss ++ step ∷ [])) (sym t) (inr (is, refl))
takes_step line steps step is (l ∷ lines) (inl t) = inl (t.0, takes_step line steps step is lines t.1)
takes_step line [] step is (l ∷ lines) (inr t) = absurd t
takes_step line (s ∷ steps) step is (l ∷ lines) (inr t) = inr (t.0, takes_step line steps step is lines t.1)

-- lines of steps are sound
pub steps_sound : (lines : List (List ℕ)) (steps : List StepValue) → AreSteps lines steps → AllByRecursion IsSound lines
steps_sound [] steps t = tt
steps_sound (line ∷ lines) steps (inl t) = (inl t.0, steps_sound lines steps t.1)
steps_sound (line ∷ lines) [] (inr t) = absurd t
steps_sound (line ∷ lines) (step ∷ steps) (inr t) = (inr (step, t.0), steps_sound lines steps t.1)

same_pairs : (xs ys : List (ℕ × ℕ)) → pair_numbers xs ++ 0 ∷ [] ≡ pair_numbers ys ++ 0 ∷ [] → xs ≡ ys
same_pairs [] [] e = refl
same_pairs [] (y ∷ ys) e = absurd (cc e)
same_pairs (x ∷ xs) [] e = absurd (cc e)
same_pairs (x ∷ xs) (y ∷ ys) e =
    let first : x.0 ≡ y.0 = cc e in
    let second : x.1 ≡ y.1 = cc e in
    let behind : pair_numbers xs ++ 0 ∷ [] ≡ pair_numbers ys ++ 0 ∷ [] = cc e in
    let rest = same_pairs xs ys behind in
    (λ i. (first i, second i) ∷ rest i)

-- numbers are one step
same_step : (numbers : List ℕ) (step other : StepValue) → IsStep numbers step → IsStep numbers other → step ≡ other
same_step numbers step other s t =
    let row : step.start ∷ (pair_numbers step.links ++ 0 ∷ []) ≡ other.start ∷ (pair_numbers other.links ++ 0 ∷ []) = sym s.row ∙ t.row in
    let start : step.start ≡ other.start = cc row in
    let behind : pair_numbers step.links ++ 0 ∷ [] ≡ pair_numbers other.links ++ 0 ∷ [] = cc row in
    let links = same_pairs step.links other.links behind in
    (λ i. record { start = start i; links = links i })

-- a line is that of one step
step_once : (line : List ℕ) (step other : StepValue) → IsStepLine line step → IsStepLine line other → step ≡ other
step_once line step other s t =
    same_step t.numbers step other (subst (λ ns. IsStep ns step) (numbers_once (words_of line) s.numbers t.numbers s.words t.words) s.says) t.says

-- a blank line is no step's
blank_no_step : (line : List ℕ) (step : StepValue) → IsBlank line → IsStepLine line step → ⊥
blank_no_step line step blank s =
    let none : s.numbers ≡ [] = numbers_once (words_of line) s.numbers [] s.words (blank_numbers line blank) in
    let row : step.start ∷ (pair_numbers step.links ++ 0 ∷ []) ≡ [] = sym s.says.row ∙ none in
    absurd (cc row)

-- lines are those of one list of steps
pub steps_once : (lines : List (List ℕ)) (steps others : List StepValue) → AreSteps lines steps → AreSteps lines others → steps ≡ others
steps_once [] steps others t u = t ∙ sym u
steps_once (line ∷ lines) steps others (inl t) (inl u) = steps_once lines steps others t.1 u.1
steps_once (line ∷ lines) steps [] (inl t) (inr u) = absurd u
steps_once (line ∷ lines) steps (other ∷ others) (inl t) (inr u) = absurd (blank_no_step line other t.0 u.0)
steps_once (line ∷ lines) [] others (inr t) u = absurd t
steps_once (line ∷ lines) (step ∷ steps) others (inr t) (inl u) = absurd (blank_no_step line step u.0 t.0)
steps_once (line ∷ lines) (step ∷ steps) [] (inr t) (inr u) = absurd u
steps_once (line ∷ lines) (step ∷ steps) (other ∷ others) (inr t) (inr u) =
    let same = step_once line step other t.0 u.0 in
    let rest = steps_once lines steps others t.1 u.1 in
    (λ i. same i ∷ rest i)

-- where the lines are those of steps none is at fault
pub steps_no_fault : (lines : List (List ℕ)) (steps : List StepValue) (n : ℕ) → AreSteps lines steps → IsFirstBadLine lines n → ⊥
steps_no_fault lines steps n t f =
    f.fault (sound_at IsSound f.before f.line f.after (subst (AllByRecursion IsSound) f.cut (steps_sound lines steps t)))

-- where the text is one of steps, they are the answer
pub ok_there : {V : Type 0} (items : V → List StepValue) (bytes : List ℕ) (r : Result V TraceError) → IfOk r (λ v. IsTraceText bytes (items v)) → IfErr r (IsRefused bytes) → (steps : List StepValue) → IsTraceText bytes steps → MatchResult r (λ v. items v ≡ steps) (λ e. e ≡ OutOfMemory)
ok_there items bytes (Ok v) ok refused steps t = steps_once (lines_of bytes) (items v) steps ok t
ok_there items bytes (Err (TraceSyntax n)) ok refused steps t = absurd (steps_no_fault (lines_of bytes) steps n t refused)
ok_there items bytes (Err OutOfMemory) ok refused steps t = refl

-- where a line is the first at fault, it is the answer
pub line_there : {V : Type 0} (items : V → List StepValue) (bytes : List ℕ) (r : Result V TraceError) → IfOk r (λ v. IsTraceText bytes (items v)) → IfErr r (IsRefused bytes) → (n : ℕ) → IsFirstBadLine (lines_of bytes) n → MatchResult r (λ v. ⊥) (λ e. (e ≡ TraceSyntax n) ⊎ (e ≡ OutOfMemory))
line_there items bytes (Ok v) ok refused n f = steps_no_fault (lines_of bytes) (items v) n ok f
line_there items bytes (Err (TraceSyntax m)) ok refused n f = inl (ap (λ k. TraceSyntax k) (fault_once IsSound (lines_of bytes) m n refused f))
line_there items bytes (Err OutOfMemory) ok refused n f = inr refl
