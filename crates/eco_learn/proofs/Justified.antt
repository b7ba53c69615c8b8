-- Why the literals of a trail are true, as it grows and is cut back; and what is news when a proof grows.
use Rattle.std.proofs.Common.{◌≡◌, ℕ, ◌<◌, inl, inr, List, [], ◌∷◌, ◌++◌, length, take, map, slice_get, Option, Some, None, sym, ap, ◌∙◌, subst, arith, Contains}
use Rattle.std.proofs.lemmas.Bool.{cases_lt}
use Rattle.std.proofs.lemmas.List.{take-append-le, take_at, take-take, append_assoc, map_push}
use Rattle.std.proofs.lemmas.List.Elements.{Contains-append_left, Contains-append_right}
use Rattle.std.proofs.lemmas.Option.{slice_get_within, slice_get-get_or}
use Rattle.eco_lists.proofs.Members.{Contains_first}
use Rattle.eco_lists.proofs.Places.{push_cases, place_in_front, place_of, Contains_at, pair_at, slice_get-append_left, slice_get-take}
use Rattle.eco_trace.specs.declared.clause.Lit.{Lit}
use Rattle.eco_trace.specs.declared.node.NodeId.{NodeId}
use Rattle.eco_trace.specs.Freshness.{IsFresh, IsNews}
use Rattle.eco_trace.specs.Resolution.{Proof, Learnt, clauses_of, with_learnt}
use Rattle.eco_trace.proofs.ProofLaws.{EachLearnt-push}
use Rattle.eco_learn.specs.Trails.{Known, IsTrail, decided, implied, cut_to, end_of}
use Rattle.eco_learn.specs.Reasons.{IsGrounded, IsJustified, IsReasonOf}

-- what is so for a literal stays so, where the literals before it stay and the levels that begin with it
grounded_kept : (cs : List (List Lit)) (k k' : Known) (place : ℕ) (l : Lit) (why : Option NodeId) → (Contains k.marks place → Contains k'.marks place) → take place k'.lits ≡ take place k.lits → IsGrounded cs k place l why → IsGrounded cs k' place l why
grounded_kept cs k k' place l None marks lits h = marks h
grounded_kept cs k k' place l (Some node) marks lits h = subst (λ ls. IsReasonOf cs ls l node) (sym lits) h

pub justified_decided : (cs : List (List Lit)) (k : Known) (l : Lit) → IsTrail k → IsJustified cs k → IsJustified cs (decided k l)
justified_decided cs k l trail h = record {
  each = λ place x why at_x at_why.
      let k' : Known = decided k l in
      elim (push_cases k.lits l place x at_x) [
        | inl old ↦
            let lt : place < length k.lits = slice_get_within k.lits place x old in
            elim (push_cases k.reasons None place why at_why) [
              | inl old_why ↦ grounded_kept cs k k' place x why (Contains-append_left k.marks (length k.lits ∷ []) place) (take-append-le place k.lits (l ∷ []) (omega arith)) (h.each place x why old old_why)
              | inr new ↦ absurd (omega (arith, new.0, trail.reasoned))
            ]
        | inr new ↦ elim (push_cases k.reasons None place why at_why) [
          | inl old_why ↦ let lt : place < length k.reasons = slice_get_within k.reasons place why old_why in absurd (omega (arith, new.0, trail.reasoned))
          | inr none ↦
              let marked : Contains k'.marks (length k.lits) = Contains-append_right k.marks (length k.lits ∷ []) (length k.lits) (Contains_first (length k.lits) []) in
              subst (IsGrounded cs k' place x) (sym none.1) (subst (Contains k'.marks) (sym new.0) marked)
        ]
      ];
}

pub justified_implied : (cs : List (List Lit)) (k : Known) (l : Lit) (node : NodeId) → IsTrail k → IsJustified cs k → IsReasonOf cs k.lits l node → IsJustified cs (implied k l node)
justified_implied cs k l node trail h r = record {
  each = λ place x why at_x at_why.
      let k' : Known = implied k l node in
      elim (push_cases k.lits l place x at_x) [
        | inl old ↦
            let lt : place < length k.lits = slice_get_within k.lits place x old in
            elim (push_cases k.reasons (Some node) place why at_why) [
              | inl old_why ↦ grounded_kept cs k k' place x why (λ m. m) (take-append-le place k.lits (l ∷ []) (omega arith)) (h.each place x why old old_why)
              | inr new ↦ absurd (omega (arith, new.0, trail.reasoned))
            ]
        | inr new ↦ elim (push_cases k.reasons (Some node) place why at_why) [
          | inl old_why ↦ let lt : place < length k.reasons = slice_get_within k.reasons place why old_why in absurd (omega (arith, new.0, trail.reasoned))
          | inr some ↦
              let before : take place k'.lits ≡ k.lits = take_at k.lits (l ∷ []) place (sym new.0) in
              let here : IsReasonOf cs (take place k'.lits) l node = subst (λ ls. IsReasonOf cs ls l node) (sym before) r in
              subst (IsGrounded cs k' place x) (sym some.1) (subst (λ z. IsReasonOf cs (take place k'.lits) z node) (sym new.1) here)
        ]
      ];
}

pub justified_cut : (cs : List (List Lit)) (k : Known) (level : ℕ) → IsTrail k → IsJustified cs k → IsJustified cs (cut_to k level)
justified_cut cs k level trail h = record {
  each = λ place x why at_x at_why.
      let m : ℕ = end_of k level in
      let old = place_in_front m k.lits place x at_x in
      let old_why = place_in_front m k.reasons place why at_why in
      grounded_kept cs k (cut_to k level) place x why (λ c. kept_mark place c old.0) (take-take place m k.lits (omega (arith, old.0))) (h.each place x why old.1 old_why.1);
}
  where
    kept_mark : (place : ℕ) → Contains k.marks place → place < end_of k level → Contains (take level k.marks) place
    kept_mark place c lt =
        let p = place_of k.marks place c in
        let within : p.0 < length k.marks = slice_get_within k.marks p.0 place p.1 in
        let here : p.0 < level → Contains (take level k.marks) place = λ below. Contains_at (take level k.marks) p.0 place (slice_get-take level k.marks p.0 place below p.1) in
        elim (cases_lt p.0 level) [
          | inl below ↦ here below
          | inr ge ↦
              let last : slice_get k.marks level ≡ Some (end_of k level) = slice_get-get_or k.marks level (length k.lits) (omega arith) in
              elim (cases_lt level p.0) [
                | inl gt ↦ let rises : end_of k level < place = pair_at (λ (a b : ℕ). a < b) k.marks level p.0 (end_of k level) place trail.rising gt last p.1 in absurd (omega arith)
                | inr le ↦
                    let same : level ≡ p.0 = omega arith in
                    let at : slice_get k.marks p.0 ≡ Some (end_of k level) = ap (slice_get k.marks) (sym same) ∙ last in
                    let e : end_of k level ≡ place = cc (at, p.1) in
                    absurd (omega arith)
              ]
        ]

pub justified_grows : (cs : List (List Lit)) (k : Known) (c : List Lit) → IsJustified cs k → IsJustified (cs ++ c ∷ []) k
justified_grows cs k c h = record { each = λ place l why at_l at_why. more place l why (h.each place l why at_l at_why) }
  where
    more : (place : ℕ) (l : Lit) (why : Option NodeId) → IsGrounded cs k place l why → IsGrounded (cs ++ c ∷ []) k place l why
    more place l None g = g
    more place l (Some node) g = record { clause = g.clause; clause_at = slice_get-append_left cs (c ∷ []) node.0 g.clause g.clause_at; member = g.member; others = g.others }

-- one more learnt clause that is news
pub fresh_push : (p : Proof) (n : Learnt) → IsFresh p → IsNews (clauses_of p) n.clause → IsFresh (with_learnt p n)
fresh_push p n f h = EachLearnt-push (λ before m. IsNews before m.clause) p n f h

pub adds_clauses : (p : Proof) (n : Learnt) → clauses_of (with_learnt p n) ≡ clauses_of p ++ n.clause ∷ []
adds_clauses p n =
    let clause : Learnt → List Lit = λ m. m.clause in
    ap (λ (cs : List (List Lit)). p.originals ++ cs) (map_push clause p.learnt n)
    ∙ sym (append_assoc p.originals (map clause p.learnt) (n.clause ∷ []))
