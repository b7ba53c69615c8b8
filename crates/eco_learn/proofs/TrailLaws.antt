-- Levels, and what a cut leaves.
use Rattle.std.proofs.Common.{◌≡◌, ℕ, ◌<◌, ◌≤◌, inl, inr, List, Option, length, get_or, take, sym, ap, ◌∙◌, subst, arith, length-take-le}
use Rattle.std.specs.List.{AllPairs}
use Rattle.std.specs.List.Sorted.{IsNonDecreasingBy}
use Rattle.std.proofs.lemmas.Bool.{cases_lt}
use Rattle.std.proofs.lemmas.List.{get_or-take, get_or_past, length-take}
use Rattle.eco_lists.proofs.Places.{any_default}
use Rattle.eco_trace.specs.declared.clause.Lit.{Lit}
use Rattle.eco_trace.specs.declared.node.NodeId.{NodeId}
use Rattle.eco_learn.specs.Trails.{Known, end_of, AreLevels, IsLevelAt}

-- numbers that rise don't fall
pub rising_order : (marks : List ℕ) → AllPairs (λ a b. a < b) marks → IsNonDecreasingBy (λ m. m) marks
rising_order marks h = λ i j d le lt.
    elim (cases_lt i j) [
      | inl before ↦ let up : get_or marks i d < get_or marks j d = h i j d before lt in omega arith
      | inr behind ↦ let same : i ≡ j = omega arith in let e : get_or marks i d ≡ get_or marks j d = ap (λ (k : ℕ). get_or marks k d) same in omega arith
    ]

-- a mark is where its level ends, behind the last one all literals are
pub end_of-mark : (k : Known) (i : ℕ) → i < length k.marks → end_of k i ≡ get_or k.marks i 0
end_of-mark k i lt = any_default k.marks i (length k.lits) 0 lt

pub end_of-last : (k : Known) (i : ℕ) → length k.marks ≤ i → end_of k i ≡ length k.lits
end_of-last k i le = get_or_past k.marks i (length k.lits) le

-- the level of a place, from how many marks come no later
pub level_from : (k : Known) (marks : List ℕ) (place n : ℕ) → marks ≡ k.marks → place < length k.lits → n ≤ length marks → ((i : ℕ) → i < n → get_or marks i 0 ≤ place) → ((i : ℕ) → n ≤ i → i < length marks → place < get_or marks i 0) → IsLevelAt k place n
level_from k marks place n e lt le before behind = record {
  last = subst (λ (ms : List ℕ). n ≤ length ms) e le;
  below = λ i less.
      let within : i < length k.marks = omega (arith, ap length e) in
      let at : end_of k i ≡ get_or k.marks i 0 = end_of-mark k i within in
      let here : get_or k.marks i 0 ≤ place = subst (λ (ms : List ℕ). get_or ms i 0 ≤ place) e (before i less) in
      omega (arith, at, here);
  here =
      elim (cases_lt n (length k.marks)) [
        | inl inside ↦
            let at : end_of k n ≡ get_or k.marks n 0 = end_of-mark k n inside in
            let up : place < get_or k.marks n 0 = subst (λ (ms : List ℕ). place < get_or ms n 0) e (behind n (omega arith) (omega (arith, ap length e))) in
            omega (arith, at, up)
        | inr past ↦ let at : end_of k n ≡ length k.lits = end_of-last k n past in omega (arith, at)
      ];
}

-- a cut leaves levels
pub levels_cut : (vars : ℕ) (lits : List Lit) (marks : List ℕ) (reasons : List (Option NodeId)) (room level : ℕ) → AreLevels vars lits marks reasons room → AreLevels vars (take (get_or marks level (length lits)) lits) (take level marks) (take (get_or marks level (length lits)) reasons) room
levels_cut vars lits marks reasons room level h =
    let end = get_or marks level (length lits) in
    let inside : end ≤ length lits =
    elim (cases_lt level (length marks)) [
      | inl lt ↦ let m : end < length lits = h.marked level (length lits) lt in omega arith
      | inr past ↦ let at : end ≡ length lits = get_or_past marks level (length lits) past in omega arith
    ] in
    let long : length (take end lits) ≡ end = length-take-le end lits inside in
    record {
      rising = λ i j d lt within.
          let short = length-take level marks in
          subst (λ (n : ℕ). n < get_or (take level marks) j d) (sym (get_or-take level marks i d (omega (arith, short)))) (
          subst (λ (n : ℕ). get_or marks i d < n) (sym (get_or-take level marks j d (omega (arith, short)))) (h.rising i j d lt (omega (arith, short))));
      marked = λ i d within.
          let short = length-take level marks in
          let less : i < level = omega (arith, short) in
          let at : get_or (take level marks) i d ≡ get_or marks i d = get_or-take level marks i d less in
          elim (cases_lt level (length marks)) [
            | inl lt ↦
                let up : get_or marks i (length lits) < get_or marks level (length lits) = h.rising i level (length lits) less lt in
                let same : get_or marks i (length lits) ≡ get_or marks i d = any_default marks i (length lits) d (omega arith) in
                omega (arith, at, up, same, long)
            | inr past ↦
                let up : get_or marks i d < length lits = h.marked i d (omega (arith, short)) in
                let all : end ≡ length lits = get_or_past marks level (length lits) past in
                omega (arith, at, up, all, long)
          ];
      reasoned = length-take-le end reasons (omega (arith, h.reasoned)) ∙ sym long;
      roomy = h.roomy;
    }
