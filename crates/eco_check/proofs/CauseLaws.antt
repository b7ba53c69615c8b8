-- The answers of the check exclude each other.
use Rattle.std.proofs.Common.{◌≡◌, ◌≢◌, ◌⊎◌, inl, inr, ℕ, zero, suc, ◌+◌, ◌<◌, List, [], ◌∷◌, length, take, map, get_or, slice_get, Some, Err, Result, refl, sym, ap, ◌∙◌, subst, arith}
use Rattle.std.specs.Option.{option_map}
use Rattle.std.proofs.lemmas.Bool.{cases_order}
use Rattle.std.proofs.lemmas.List.{take_all, take-take, length-map}
use Rattle.std.proofs.lemmas.Option.{slice_get-map, slice_get_within, slice_get-get_or, same_Some}
use Rattle.eco_lists.proofs.Places.{All_at, item_at}
use Rattle.eco_trace.specs.declared.clause.Lit.{Lit}
use Rattle.eco_trace.specs.declared.node.NodeId.{NodeId}
use Rattle.eco_trace.specs.declared.node.Link.{Link}
use Rattle.eco_trace.specs.Clauses.{IsUnsatisfiable}
use Rattle.eco_trace.specs.Resolution.{Proof, Gives, clauses_of, EndsEmpty, chain_of}
use Rattle.eco_check.specs.declared.error.CheckError.{CheckError}
use Rattle.eco_check.specs.declared.error.CheckError.TheVariants.{BadStep, NoEmptyClause, OutOfMemory}
use Rattle.eco_check.specs.Steps.{StepValue, HasIds, IsLegalStep, chain_of_step, TakesSteps}
use Rattle.eco_check.specs.Answers.{IsProved, IsFirstBad, IsCause}
use Rattle.eco_check.proofs.StepLaws.{taken_front, front_of, taken_one}

-- a step that a proof takes is legal after the proof of those before it
legal_within : (clauses : List (List Lit)) (steps : List StepValue) (q : Proof) (k : ℕ) (step : StepValue) → TakesSteps clauses steps q → slice_get steps k ≡ Some step → IsLegalStep (clauses_of (front_of q k)) step
legal_within clauses steps q k step t at =
    let len : length q.learnt ≡ length steps = sym (length-map q.learnt chain_of) ∙ ap length t.chains ∙ length-map steps chain_of_step in
    let within : k < length steps = slice_get_within steps k step at in
    let n = item_at q.learnt k (omega arith) in
    let at_n : slice_get (map chain_of q.learnt) k ≡ Some (chain_of n.0) = slice_get-map chain_of q.learnt k ∙ ap (option_map chain_of) n.1 in
    let at_s : slice_get (map chain_of_step steps) k ≡ Some (chain_of_step step) = slice_get-map chain_of_step steps k ∙ ap (option_map chain_of_step) at in
    let both : Some (chain_of n.0) ≡ Some (chain_of_step step) =
    sym at_n ∙ ap (λ (cs : List (NodeId × List Link)). slice_get cs k) t.chains ∙ at_s
    in
    let chain : chain_of n.0 ≡ chain_of_step step = same_Some _ _ both in
    let of : NodeId × List Link → Type 0 = λ c. Gives (clauses_of (front_of q k)) c.0 c.1 n.0.clause in
    let gives : of (chain_of n.0) = t.legal.chains k n.0 n.1 in
    (n.0.clause, record { ids = All_at HasIds steps k step t.ids at; gives = subst of chain gives })

-- a place of the whole that lies in the front
slice_get-take : (ss : List StepValue) (i m : ℕ) (s : StepValue) → i < m → slice_get ss i ≡ Some s → slice_get (take m ss) i ≡ Some s
slice_get-take [] i m s less is = absurd (omega (arith, slice_get_within [] i s is))
slice_get-take (t ∷ ts) i zero s less is = absurd (omega arith)
slice_get-take (t ∷ ts) zero (suc m) s less is = is
slice_get-take (t ∷ ts) (suc i) (suc m) s less is = slice_get-take ts i m s (omega arith) is

-- a step that isn't legal is not among those that a proof takes
no_bad : (clauses : List (List Lit)) (steps : List StepValue) (number j : ℕ) (q : Proof) → (bad : IsFirstBad clauses steps number) → bad.before < j → TakesSteps clauses (take j steps) q → ⊥
no_bad clauses steps number j q bad lt t =
    let k = bad.before in
    let e : take k (take j steps) ≡ take k steps = take-take k j steps (omega arith) in
    let front : TakesSteps clauses (take k steps) (front_of q k) =
    subst (λ (ss : List StepValue). TakesSteps clauses ss (front_of q k)) e (taken_front clauses (take j steps) q k t)
    in
    let same : front_of q k ≡ bad.proof = taken_one clauses (take k steps) (front_of q k) bad.proof front bad.taken in
    let at : slice_get (take j steps) k ≡ Some bad.step = slice_get-take steps k j bad.step lt bad.step_at in
    let legal = legal_within clauses (take j steps) q k bad.step t at in
    bad.illegal (subst (λ (p : Proof). IsLegalStep (clauses_of p) bad.step) same legal)

-- no step of a whole proof is bad
whole_no_bad : (clauses : List (List Lit)) (steps : List StepValue) (number : ℕ) (q : Proof) → IsFirstBad clauses steps number → TakesSteps clauses steps q → ⊥
whole_no_bad clauses steps number q bad t =
    let within : bad.before < length steps = slice_get_within steps bad.before bad.step bad.step_at in
    let e : take (length steps) steps ≡ steps = take_all (length steps) steps (omega arith) in
    no_bad clauses steps number (length steps) q bad within (subst (λ (ss : List StepValue). TakesSteps clauses ss q) (sym e) t)

-- there is one first bad step at most
one_bad : (clauses : List (List Lit)) (steps : List StepValue) (m n : ℕ) → IsFirstBad clauses steps m → IsFirstBad clauses steps n → m ≡ n
one_bad clauses steps m n a b =
    elim (cases_order a.before b.before) [
      | inl same ↦ a.place ∙ ap (λ (k : ℕ). k + 1) same ∙ sym b.place
      | inr (inl lt) ↦ absurd (no_bad clauses steps m b.before b.proof a lt b.taken)
      | inr (inr gt) ↦ absurd (no_bad clauses steps n a.before a.proof b gt a.taken)
    ]

-- a proof of the steps that ends in the empty clause
pub proved_from : (clauses : List (List Lit)) (steps : List StepValue) (p : Proof) → TakesSteps clauses steps p → EndsEmpty p → IsUnsatisfiable p.originals → IsProved clauses steps p
proved_from clauses steps p t ends none = record { taken = t; ends = ends; no_model = subst IsUnsatisfiable t.originals none }

-- where a proof is found, no error has its cause
pub proved_no_cause : (clauses : List (List Lit)) (steps : List StepValue) (p : Proof) (e : CheckError) → IsProved clauses steps p → e ≢ OutOfMemory → IsCause clauses steps e → ⊥
proved_no_cause clauses steps p (BadStep number) h ne cause = whole_no_bad clauses steps number p cause h.taken
proved_no_cause clauses steps p NoEmptyClause h ne cause =
    cause.unfinished (subst EndsEmpty (taken_one clauses steps p cause.proof h.taken cause.taken) h.ends)
proved_no_cause clauses steps p OutOfMemory h ne cause = ne refl

-- one error at most has its cause
one_cause : (clauses : List (List Lit)) (steps : List StepValue) (d e : CheckError) → IsCause clauses steps d → e ≢ OutOfMemory → IsCause clauses steps e → (d ≡ e) ⊎ (d ≡ OutOfMemory)
one_cause clauses steps OutOfMemory e h ne cause = inr refl
one_cause clauses steps d OutOfMemory h ne cause = absurd (ne refl)
one_cause clauses steps (BadStep m) (BadStep n) h ne cause = inl (ap BadStep (one_bad clauses steps m n h cause))
one_cause clauses steps (BadStep m) NoEmptyClause h ne cause = absurd (whole_no_bad clauses steps m cause.proof h cause.taken)
one_cause clauses steps NoEmptyClause (BadStep n) h ne cause = absurd (whole_no_bad clauses steps n h.proof cause h.taken)
one_cause clauses steps NoEmptyClause NoEmptyClause h ne cause = inl refl

-- the place at which a step isn't legal
pub bad_found : (clauses : List (List Lit)) (steps : List StepValue) (k : ℕ) (step : StepValue) (p : Proof) → k < length steps → step ≡ get_or steps k step → TakesSteps clauses (take k steps) p → (IsLegalStep (clauses_of p) step → ⊥) → IsFirstBad clauses steps (k + 1)
bad_found clauses steps k step p lt is t illegal = record {
  before = k;
  step = step;
  proof = p;
  place = refl;
  step_at = slice_get-get_or steps k step lt ∙ ap Some (sym is);
  taken = t;
  illegal = illegal;
}

-- the error that is given is the one that has its cause
pub given_error : {T : Type 0} (clauses : List (List Lit)) (steps : List StepValue) (d e : CheckError) → IsCause clauses steps d → e ≢ OutOfMemory → IsCause clauses steps e → (◌≡◌ {A = Result T CheckError} (Err d) (Err e)) ⊎ (◌≡◌ {A = Result T CheckError} (Err d) (Err OutOfMemory))
given_error clauses steps d e h ne cause =
    elim (one_cause clauses steps d e h ne cause) [ inl same ↦ inl (ap Err same) | inr none ↦ inr (ap Err none) ]
