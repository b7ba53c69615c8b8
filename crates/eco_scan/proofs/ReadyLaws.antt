-- The trail fits the clauses, as both grow.
use Rattle.std.proofs.Common.{◌≡◌, ◌≢◌, ℕ, ◌+◌, ◌-◌, ◌<◌, ◌≤◌, inl, inr, Bool, List, [], ◌∷◌, ◌++◌, Some, length, get_or, slice_get, take, map, refl, sym, ap, ◌∙◌, subst, arith, length-append}
use Rattle.std.specs.List.{All, Contains}
use Rattle.std.proofs.lemmas.Bool.{cases_lt}
use Rattle.std.proofs.Math.ListN.{get_or-append}
use Rattle.std.proofs.lemmas.List.{get_or_past, take-append-le, take_at, take-take}
use Rattle.std.proofs.lemmas.List.Elements.{All-push, All-take, All-contains, Contains-push_cases}
use Rattle.std.proofs.lemmas.Option.{slice_get-get_or, slice_get_within, get_or_from_slice_get, none-some}
use Rattle.eco_lists.proofs.Members.{Contains_none}
use Rattle.eco_lists.proofs.Places.{All_from_places, place_of, Contains_at, place_in_front, slice_get-push_last}
use Rattle.eco_lists.proofs.Tests.{not_own}
use Rattle.eco_trace.specs.declared.clause.Lit.{Lit}
use Rattle.eco_trace.specs.declared.node.NodeId.{NodeId}
use Rattle.eco_trace.specs.Clauses.{Clauses, AreFormed, IsVarWithin, IsTrueIn, HoldsIn, Satisfies, Valuation, complement, valuation_of}
use Rattle.eco_trace.specs.Freshness.{Lacks, IsSatisfiedOrUnresolved, IsNews, IsFresh}
use Rattle.eco_trace.specs.Verdicts.{IsModel, IsRefutedWithin}
use Rattle.eco_trace.specs.Resolution.{Proof, Learnt, EndsEmpty, clauses_of}
use Rattle.eco_learn.specs.declared.lesson.Assertion.{Assertion}
use Rattle.eco_learn.specs.Trails.{Known, IsTrail, IsWhole, begun, decided, implied, cut_to, end_of, lits_at}
use Rattle.eco_learn.specs.Reasons.{IsReasonOf}
use Rattle.eco_learn.specs.Lessons.{Adds, IsAsserting}
use Rattle.eco_learn.proofs.Justified.{justified_decided, justified_implied, justified_cut, justified_grows, fresh_push, adds_clauses}
use Rattle.eco_learn.proofs.AssertLaws.{end_of-order}
use Rattle.eco_learn.proofs.ChoiceLaws.{front_in, same_in}
use Rattle.eco_scan.specs.Scanning.{IsReady}
use Rattle.eco_scan.specs.Rounds.{HasLearnt, IsSearching}

-- satisfied or unresolved up to a place is so there, whatever comes later
unforced_same : (clauses : List (List Lit)) (lits more : List Lit) (mark : ℕ) → mark ≤ length lits → All (IsSatisfiedOrUnresolved (take mark lits)) clauses → All (IsSatisfiedOrUnresolved (take mark (lits ++ more))) clauses
unforced_same clauses lits more mark le h = subst (λ (ls : List Lit). All (IsSatisfiedOrUnresolved ls) clauses) (sym (take-append-le mark lits more le)) h

-- a mark stands within the trail
mark_within : (k : Known) (mark : ℕ) → IsTrail k → Contains k.marks mark → mark < length k.lits
mark_within k mark trail m = All-contains (λ (n : ℕ). n < length k.lits) k.marks mark trail.marked m

-- a decision, where every clause is satisfied or unresolved
pub ready_decided : (clauses : List (List Lit)) (k : Known) (l : Lit) → IsTrail k → IsReady clauses k → All (IsSatisfiedOrUnresolved k.lits) clauses → IsReady clauses (decided k l)
ready_decided clauses k l trail h unforced = record {
  within = h.within;
  justified = justified_decided clauses k l trail h.justified;
  unforced = λ mark m. elim (Contains-push_cases k.marks (length k.lits) mark m) [
    | inl old ↦ let lt = mark_within k mark trail old in unforced_same clauses k.lits (l ∷ []) mark (omega arith) (h.unforced mark old)
    | inr new ↦ subst (λ (ls : List Lit). All (IsSatisfiedOrUnresolved ls) clauses) (sym (take_at k.lits (l ∷ []) mark new)) unforced
  ];
}

-- a literal that a clause forces
pub ready_implied : (clauses : List (List Lit)) (k : Known) (l : Lit) (node : NodeId) → IsTrail k → IsReady clauses k → IsReasonOf clauses k.lits l node → IsReady clauses (implied k l node)
ready_implied clauses k l node trail h why = record {
  within = h.within;
  justified = justified_implied clauses k l node trail h.justified why;
  unforced = λ mark m. let lt = mark_within k mark trail m in unforced_same clauses k.lits (l ∷ []) mark (omega arith) (h.unforced mark m);
}

-- the marks that a cut leaves
kept_mark : (k : Known) (level mark : ℕ) → IsTrail k → Contains (take level k.marks) mark → (i : ℕ) × (i < level) × (slice_get k.marks i ≡ Some mark) × (mark ≤ end_of k level)
kept_mark k level mark trail m =
    let (i, at) = place_of (take level k.marks) mark m in
    let front = place_in_front level k.marks i mark at in
    let within : i < length k.marks = slice_get_within k.marks i mark front.1 in
    let here : end_of k i ≡ mark = get_or_from_slice_get k.marks i mark (length k.lits) front.1 in
    let up : mark ≤ end_of k level =
    elim (cases_lt level (length k.marks)) [
      | inl lt ↦ let le = end_of-order k i level trail (omega (arith, front.0)) lt in omega (arith, le, here)
      | inr past ↦
          let all : end_of k level ≡ length k.lits = get_or_past k.marks level (length k.lits) past in
          let lt = mark_within k mark trail (Contains_at k.marks i mark front.1) in
          omega (arith, all, lt)
    ] in
    (i, front.0, front.1, up)

-- at each mark that the cut leaves, the clause that was learnt is satisfied or unresolved
learnt_unforced : (k : Known) (clause : List Lit) (a : Assertion) (mark i : ℕ) → IsTrail k → IsAsserting k clause a → i < a.level → slice_get k.marks i ≡ Some mark → mark ≤ end_of k a.level → IsSatisfiedOrUnresolved (take mark k.lits) clause
learnt_unforced k clause a mark i trail h lt at le =
    let here : end_of k i ≡ mark = get_or_from_slice_get k.marks i mark (length k.lits) at in
    let fewer : take mark (lits_at k a.level) ≡ take mark k.lits = take-take mark (end_of k a.level) k.lits le in
    inr (record {
      one = a.lit;
      other = a.other;
      one_in = h.member;
      other_in = h.other_in;
      different = λ e. h.different i lt (sym e);
      one_lacking = subst (λ (ls : List Lit). Lacks ls a.lit) fewer (All-take (λ (x : Lit). x.var ≢ a.lit.var) mark (lits_at k a.level) h.lacking);
      other_lacking = subst (λ (n : ℕ). Lacks (take n k.lits) a.other) here (h.other_lacking i lt);
    })

-- what is learnt is news
pub asserted_news : (clauses : List (List Lit)) (k : Known) (clause : List Lit) (a : Assertion) → IsTrail k → IsReady clauses k → IsAsserting k clause a → IsNews clauses clause
asserted_news clauses k clause a trail ready h =
    let at : slice_get k.marks a.level ≡ Some (end_of k a.level) = slice_get-get_or k.marks a.level (length k.lits) h.lower in
    record {
      lit = a.lit;
      known = lits_at k a.level;
      member = h.member;
      one_sided = λ l m n.
          let in_l = front_in (end_of k a.level) k.lits l m in
          let in_c = front_in (end_of k a.level) k.lits (complement l) n in
          let same : l ≡ complement l = same_in k.lits l (complement l) trail.apart in_l in_c refl in
          not_own l.positive (ap (λ (x : Lit). x.positive) same);
      lacking = h.lacking;
      refuted = h.refuted;
      unforced = ready.unforced (end_of k a.level) (Contains_at k.marks a.level (end_of k a.level) at);
    }

-- the trail fits the clauses with the one that was learnt, cut back and with the literal that it forces
pub ready_learnt : (clauses : List (List Lit)) (k : Known) (clause : List Lit) (a : Assertion) → IsTrail k → IsTrail (cut_to k a.level) → IsReady clauses k → IsAsserting k clause a → a.node.0 ≡ length clauses → IsReady (clauses ++ clause ∷ []) (implied (cut_to k a.level) a.lit a.node)
ready_learnt clauses k clause a trail cut ready h node =
    let all = clauses ++ clause ∷ [] in
    let why : IsReasonOf all (lits_at k a.level) a.lit a.node = record {
      clause = clause;
      clause_at = ap (slice_get all) node ∙ slice_get-push_last clauses clause;
      member = h.member;
      others = h.refuted;
    } in
    let down : IsReady all (cut_to k a.level) = record {
      within = All-push (All (IsVarWithin k.vars)) clauses clause ready.within (All_from_places (IsVarWithin k.vars) clause (λ i x at.
          let w : IsVarWithin k.vars (complement x) = All-contains (IsVarWithin k.vars) k.lits (complement x) trail.within (h.wrong x (Contains_at clause i x at)) in
          record { first = w.first; last = w.last }));
      justified = justified_grows clauses (cut_to k a.level) clause (justified_cut clauses k a.level trail ready.justified);
      unforced = λ mark m.
          let kept = kept_mark k a.level mark trail m in
          let fewer : take mark (lits_at k a.level) ≡ take mark k.lits = take-take mark (end_of k a.level) k.lits kept.3 in
          subst (λ (ls : List Lit). All (IsSatisfiedOrUnresolved ls) all) (sym fewer) (
          All-push (IsSatisfiedOrUnresolved (take mark k.lits)) clauses clause (ready.unforced mark (Contains_at k.marks kept.0 mark kept.2)) (learnt_unforced k clause a mark kept.0 trail h kept.1 kept.2 kept.3));
    } in
    ready_implied all (cut_to k a.level) a.lit a.node cut down why

-- nothing is known at first
pub ready_begun : (c : Clauses) → AreFormed c → IsReady c.clauses (begun c.vars)
ready_begun c formed = record {
  within = formed.within;
  justified = record { each = λ place l why at because. absurd (none-some l at) };
  unforced = λ mark m. absurd (Contains_none mark m);
}

-- where each variable has a truth value and every clause is satisfied or unresolved, each clause has a true literal
pub whole_holds : (vars : ℕ) (lits clause : List Lit) (v : Valuation) → All (IsVarWithin vars) clause → IsWhole vars lits → IsSatisfiedOrUnresolved lits clause → ((l : Lit) → Contains lits l → IsTrueIn v l) → HoldsIn v clause
whole_holds vars lits clause v within whole (inl (i, x, inside, at, in')) true_in = (i, x, inside, at, true_in x in')
whole_holds vars lits clause v within whole (inr two) true_in =
    let w : IsVarWithin vars two.one = All-contains (IsVarWithin vars) clause two.one within two.one_in in
    elim (whole two.one w) [
      | inl yes' ↦ absurd (All-contains (λ (x : Lit). x.var ≢ two.one.var) lits two.one two.one_lacking yes' refl)
      | inr no' ↦ absurd (All-contains (λ (x : Lit). x.var ≢ two.one.var) lits (complement two.one) two.one_lacking no' refl)
    ]

pub whole_satisfies : (clauses : List (List Lit)) (k : Known) (v : Valuation) → IsReady clauses k → IsWhole k.vars k.lits → All (IsSatisfiedOrUnresolved k.lits) clauses → ((l : Lit) → Contains k.lits l → IsTrueIn v l) → Satisfies v clauses
whole_satisfies clauses k v ready whole unforced true_in = λ i d lt.
    whole_holds k.vars k.lits (get_or clauses i d) v (ready.within i d lt) whole (unforced i d lt) true_in

-- one more learnt clause
pub adds_ready : (old new : Proof) (clause : List Lit) (k : Known) → Adds old new clause → IsReady (clauses_of old ++ clause ∷ []) k → IsReady (clauses_of new) k
adds_ready old new clause k adds h =
    let all : clauses_of new ≡ clauses_of old ++ clause ∷ [] = ap clauses_of adds.added ∙ adds_clauses old adds.learnt ∙ ap (λ (c : List Lit). clauses_of old ++ c ∷ []) adds.clause_is in
    subst (λ (cs : List (List Lit)). IsReady cs k) (sym all) h

-- the empty clause is last
pub adds_empty : (old new : Proof) → Adds old new [] → EndsEmpty new
adds_empty old new adds =
    let all : clauses_of new ≡ clauses_of old ++ [] ∷ [] = ap clauses_of adds.added ∙ adds_clauses old adds.learnt ∙ ap (λ (c : List Lit). clauses_of old ++ c ∷ []) adds.clause_is in
    let last : length (clauses_of new) - 1 ≡ length (clauses_of old) = omega (arith, ap length all, length-append (clauses_of old) ([] ∷ [])) in
    ap (slice_get (clauses_of new)) last ∙ ap (λ (cs : List (List Lit)). slice_get cs (length (clauses_of old))) all ∙ slice_get-push_last (clauses_of old) []

-- a search one round on
pub searching_more : (c : Clauses) (old new : Proof) (k k' : Known) (rounds : ℕ) → IsSearching c old k rounds → HasLearnt old new k' → k'.vars ≡ k.vars → IsSearching c new k' (rounds + 1)
searching_more c old new k k' rounds h learnt vars =
    let n = learnt.adds.learnt in
    let news : IsNews (clauses_of old) n.clause = subst (λ (cl : List Lit). IsNews (clauses_of old) cl) (sym learnt.adds.clause_is) learnt.news in
    record {
      originals = ap (λ (p : Proof). p.originals) learnt.adds.added ∙ h.originals;
      vars = vars ∙ h.vars;
      ready = learnt.ready;
      fresh = subst IsFresh (sym learnt.adds.added) (fresh_push old n h.fresh news);
      unfinished = subst (λ (p : Proof). All (λ (m : Learnt). m.clause ≢ []) p.learnt) (sym learnt.adds.added) (
          All-push (λ (m : Learnt). m.clause ≢ []) old.learnt n h.unfinished (λ e. Contains_none news.lit (subst (λ (cl : List Lit). Contains cl news.lit) e news.member)));
      count =
          let more = length-append old.learnt (n ∷ []) in
          ap (λ (p : Proof). length p.learnt) learnt.adds.added ∙ more ∙ ap (λ (m : ℕ). m + 1) h.count;
    }

-- what satisfies all clauses satisfies those that the proof begins with
pub originals_hold : (c : Clauses) (p : Proof) (v : Valuation) → p.originals ≡ c.clauses → Satisfies v (clauses_of p) → Satisfies v c.clauses
originals_hold c p v e h =
    subst (λ (cs : List (List Lit)). Satisfies v cs) e (λ i d lt.
    subst (λ (cl : List Lit). HoldsIn v cl) (get_or-append p.originals (map (λ (n : Learnt). n.clause) p.learnt) d i lt) (h i d (omega (arith, length-append p.originals (map (λ (n : Learnt). n.clause) p.learnt)))))

-- the last round of a search that found a model, and of one that learnt the empty clause
pub searched_sat : (c : Clauses) (p : Proof) (k k' : Known) (rounds : ℕ) (values : List Bool) → IsSearching c p k rounds → k'.vars ≡ k.vars → k'.vars ≤ length values → Satisfies (valuation_of values) (clauses_of p) → IsModel c values
searched_sat c p k k' rounds values h vars long holds = record {
  complete = omega (arith, vars, h.vars, long);
  satisfies = originals_hold c p (valuation_of values) h.originals holds;
}

pub searched_unsat : (c : Clauses) (old new : Proof) (k : Known) (rounds limit : ℕ) → IsSearching c old k rounds → rounds < limit → Adds old new [] → IsRefutedWithin c limit new
searched_unsat c old new k rounds limit h less adds = record {
  refutation = record {
    originals = ap (λ (p : Proof). p.originals) adds.added ∙ h.originals;
    ends = adds_empty old new adds;
  };
  within =
      let long = ap (λ (p : Proof). length p.learnt) adds.added in
      omega (arith, long, length-append old.learnt (adds.learnt ∷ []), h.count, less);
}
