-- What the lines of a file say, one line after another, and that each file has one answer.
use Rattle.std.proofs.Common.{◌≡◌, ℕ, ◌+◌, List, [], ◌∷◌, ◌++◌, Result, Ok, Err, IfOk, IfErr, IsErrAnd, refl, ap, sym, subst, ◌∙◌, arith, inl, inr}
use Rattle.std.specs.List.{AllByRecursion, IsDistinct}
use Rattle.std.specs.Str.{bytes_eq}
use Rattle.eco_meaning.specs.Cost.{Weights}
use Rattle.eco_weight.specs.declared.error.WeightError.{WeightError}
use Rattle.eco_weight.specs.declared.error.WeightError.TheVariants.{Line, Twice, OutOfMemory}
use Rattle.eco_weight.specs.Lines.{Says, IsBlank, IsSound}
use Rattle.eco_lists.specs.Lines.{lines_of}
use Rattle.eco_weight.specs.Files.{Give, names_in, AreWeights, IsFirstBadLine, OccursTwice, IsTwice, IsRefused, IsUnlessMemory}
use Rattle.eco_weight.specs.Gathering.{Finishes, Refuses, IsLineError}
use Rattle.eco_weight.proofs.NameLemmas.{same_place, distinct_once}
use Rattle.eco_weight.proofs.WordLemmas.{blank_says_none, says_one}
use Rattle.eco_lists.proofs.Lines.{sound_at, fault_once}

-- one blank line more
pub tell_blank : (lines : List (List ℕ)) (line : List ℕ) (told : Weights) → Give lines told → IsBlank line → Give (lines ++ line ∷ []) told
tell_blank [] line told t blank = inl (blank, t)
tell_blank (l ∷ lines) line told (inl t) blank = inl (t.0, tell_blank lines line told t.1 blank)
tell_blank (l ∷ lines) line [] (inr t) blank = absurd t
tell_blank (l ∷ lines) line (pair ∷ told) (inr t) blank = inr (t.0, tell_blank lines line told t.1 blank)

-- one line more that says a pair
pub tell_pair : (lines : List (List ℕ)) (line : List ℕ) (told : Weights) (name : List ℕ) (weight : ℕ) → Give lines told → Says line name weight → Give (lines ++ line ∷ []) (told ++ (name, weight) ∷ [])
tell_pair [] line told name weight t says =
    subst (λ pairs. Give (line ∷ []) (pairs ++ (name, weight) ∷ [])) (sym t) (inr (says, refl))
tell_pair (l ∷ lines) line told name weight (inl t) says = inl (t.0, tell_pair lines line told name weight t.1 says)
tell_pair (l ∷ lines) line [] name weight (inr t) says = absurd t
tell_pair (l ∷ lines) line (pair ∷ told) name weight (inr t) says = inr (t.0, tell_pair lines line told name weight t.1 says)

-- lines that tell pairs are sound
pub tell_sound : (lines : List (List ℕ)) (told : Weights) → Give lines told → AllByRecursion IsSound lines
tell_sound [] told t = tt
tell_sound (line ∷ lines) told (inl t) = (inl t.0, tell_sound lines told t.1)
tell_sound (line ∷ lines) [] (inr t) = absurd t
tell_sound (line ∷ lines) (pair ∷ told) (inr t) = (inr (pair.0, pair.1, t.0), tell_sound lines told t.1)

-- lines tell one list of pairs
pub tell_once : (lines : List (List ℕ)) (told other : Weights) → Give lines told → Give lines other → told ≡ other
tell_once [] told other t u = t ∙ sym u
tell_once (line ∷ lines) told other (inl t) (inl u) = tell_once lines told other t.1 u.1
tell_once (line ∷ lines) told [] (inl t) (inr u) = absurd u
tell_once (line ∷ lines) told (pair ∷ other) (inl t) (inr u) = absurd (blank_says_none line pair.0 pair.1 t.0 u.0)
tell_once (line ∷ lines) [] other (inr t) u = absurd t
tell_once (line ∷ lines) (pair ∷ told) other (inr t) (inl u) = absurd (blank_says_none line pair.0 pair.1 u.0 t.0)
tell_once (line ∷ lines) (pair ∷ told) [] (inr t) (inr u) = absurd u
tell_once (line ∷ lines) (pair ∷ told) (second ∷ other) (inr t) (inr u) =
    let same = says_one line pair.0 second.0 pair.1 second.1 t.0 u.0 in
    let rest = tell_once lines told other t.1 u.1 in
    (λ i. (same.0 i, same.1 i) ∷ rest i)

-- where the lines tell pairs none is at fault
pub tell_no_fault : (lines : List (List ℕ)) (told : Weights) (n : ℕ) → Give lines told → IsFirstBadLine lines n → ⊥
tell_no_fault lines told n t f =
    f.fault (sound_at IsSound f.before f.line f.after (subst (AllByRecursion IsSound) f.cut (tell_sound lines told t)))

-- weights have no name twice
pub weights_no_twice : (bytes : List ℕ) (weights : Weights) (name : List ℕ) → AreWeights bytes weights → IsTwice bytes name → ⊥
weights_no_twice bytes weights name w t =
    let same = tell_once (lines_of bytes) t.pairs weights t.told w.told in
    let twice = subst (λ pairs. OccursTwice pairs name) same t.twice in
    let once = distinct_once (names_in weights) name w.distinct in
    omega (arith, once, twice)

-- one name is the smallest that stands twice
pub twice_once : (bytes name other : List ℕ) → IsTwice bytes name → IsTwice bytes other → name ≡ other
twice_once bytes name other t u =
    let same = tell_once (lines_of bytes) t.pairs u.pairs t.told u.told in
    same_place name other
    (u.least name (subst (λ pairs. OccursTwice pairs name) same t.twice))
    (t.least other (subst (λ pairs. OccursTwice pairs other) (sym same) u.twice))

-- an answer of the reader, and that what it says is so
pub record IsAnswer (bytes : List ℕ) (r : Result Weights WeightError) : Type 0 where
  pub ok : IfOk r (AreWeights bytes)
  pub refused : IfErr r (IsRefused bytes)

module _ (bytes : List ℕ) where
  -- where the file gives weights, these are the answer
  pub ok_there : (r : Result Weights WeightError) → IsAnswer bytes r → (weights : Weights) → AreWeights bytes weights → IsUnlessMemory r (Ok weights)
  ok_there (Ok found) a weights w = inl (ap (λ ws. Ok ws) (tell_once (lines_of bytes) found weights a.ok.told w.told))
  ok_there (Err (Line n)) a weights w = absurd (tell_no_fault (lines_of bytes) weights n w.told a.refused)
  ok_there (Err (Twice name)) a weights w = absurd (weights_no_twice bytes weights name w a.refused)
  ok_there (Err OutOfMemory) a weights w = inr refl

  -- where a line is the first at fault, it is the answer
  pub line_there : (r : Result Weights WeightError) → IsAnswer bytes r → (n : ℕ) → IsFirstBadLine (lines_of bytes) n → IsUnlessMemory r (Err (Line n))
  line_there (Ok found) a n f = absurd (tell_no_fault (lines_of bytes) found n a.ok.told f)
  line_there (Err (Line m)) a n f = inl (ap (λ k. Err (Line k)) (fault_once IsSound (lines_of bytes) m n a.refused f))
  line_there (Err (Twice name)) a n f = absurd (tell_no_fault (lines_of bytes) a.refused.pairs n a.refused.told f)
  line_there (Err OutOfMemory) a n f = inr refl

  -- where a name is the smallest that stands on two lines, it is the answer
  pub twice_there : (r : Result Weights WeightError) → IsAnswer bytes r → (name : List ℕ) → IsTwice bytes name → IsUnlessMemory r (Err (Twice name))
  twice_there (Ok found) a name t = absurd (weights_no_twice bytes found name a.ok t)
  twice_there (Err (Line n)) a name t = absurd (tell_no_fault (lines_of bytes) t.pairs n t.told a.refused)
  twice_there (Err (Twice other)) a name t = inl (ap (λ n. Err (Twice n)) (twice_once bytes other name a.refused t))
  twice_there (Err OutOfMemory) a name t = inr refl

  refused_from_fault : (e : WeightError) → IsLineError (lines_of bytes) e → IsRefused bytes e
  refused_from_fault (Line n) f = f
  refused_from_fault (Twice name) f = absurd f
  refused_from_fault OutOfMemory f = tt

  -- the answer where the lines were not gathered
  pub answer_from_fault : (r : Result Weights WeightError) (e : WeightError) → IsErrAnd r (λ other. other ≡ e) → IsLineError (lines_of bytes) e → IsAnswer bytes r
  answer_from_fault (Ok found) e is f = absurd is
  answer_from_fault (Err other) e is f = record { ok = tt; refused = subst (IsRefused bytes) (sym is) (refused_from_fault e f) }

  refused_from_gathered : (told : Weights) (e : WeightError) → Give (lines_of bytes) told → Refuses told e → IsRefused bytes e
  refused_from_gathered told (Line n) t f = absurd f
  refused_from_gathered told (Twice name) t f = record { pairs = told; told = t; twice = f.0; least = f.1 }
  refused_from_gathered told OutOfMemory t f = tt

  -- the answer where they were
  pub answer_from_gathered : (r : Result Weights WeightError) (told : Weights) → Give (lines_of bytes) told → IfOk r (Finishes told) → IfErr r (Refuses told) → IsAnswer bytes r
  answer_from_gathered (Ok weights) told t f g = record {
    ok = record {
      told = subst (Give (lines_of bytes)) (sym f.same) t;
      distinct = subst (λ pairs. IsDistinct bytes_eq (names_in pairs)) (sym f.same) f.distinct;
    };
    refused = tt;
  }
  answer_from_gathered (Err e) told t f g = record { ok = tt; refused = refused_from_gathered told e t g }

-- what holds of each list of pairs that was gathered holds of this one
pub at_told : (P : Weights → Type 0) (r : Result Weights WeightError) (told : Weights) → P told → IfOk r (λ weights. (pairs : Weights) → P pairs → Finishes pairs weights) → IfErr r (λ e. (pairs : Weights) → P pairs → Refuses pairs e) → IfOk r (Finishes told) × IfErr r (Refuses told)
at_told P (Ok weights) told p f g = (f told p, tt)
at_told P (Err e) told p f g = (tt, g told p)
