-- The clauses of both sides and the equalities stand in order, and each literal is within.
use Rattle.std.proofs.Common.{◌≡◌, ◌+◌, true, false, length, map, refl, sym, ◌∙◌, ap, subst, arith}
use Rattle.std.specs.List.{All}
use Rattle.std.proofs.lemmas.List.{length-map}
use Rattle.eco_trace.specs.Clauses.{Clauses, IsVarWithin}
use Rattle.eco_tseitin.specs.declared.marked.Marked.{Marked}
use Rattle.eco_trace.specs.Adding.{shifted}
use Rattle.eco_tseitin.specs.Joined.{positive, equalities, AreNumbered, first_clauses, second_clauses}
use Rattle.eco_tseitin.specs.Marking.{Adds, AreBelow}
use Rattle.eco_trace.proofs.ShiftLaws.{shifted_within}
use Rattle.eco_tseitin.proofs.MarkLaws.{adds_both}
use Rattle.eco_tseitin.proofs.JoinLaws.{numbered_as, positives_within, below_positives, positives_below, in_order}
use Rattle.eco_tseitin.proofs.joining.sewn.Goals as goal

pub add_equalities-requires-clause-order : goal.add_equalities-requires-clause-order
add_equalities-requires-clause-order c =
    let first = c.args.cnf in
    let base = c.args.base.now in
    let shared = c.in_ok-shared.shared.items in
    let are : AreNumbered first.vars (length base) shared = numbered_as shared c.vars.ensures refl c.in_ok-shared.ensures in
    let bits : c.as_slice-4.result.now ≡ map positive shared = c.as_slice-4.ensures.value ∙ c.in_ok-bits.ensures ∙ ap (map positive) c.as_slice.ensures.value in
    subst (AreBelow base) (sym bits) (below_positives first.vars (length base) base shared c.requires.base_within are)

pub add_equalities-requires-clause-rights : goal.add_equalities-requires-clause-rights
add_equalities-requires-clause-rights c =
    let first = c.args.cnf in
    let base = c.args.base.now in
    let shared = c.in_ok-shared.shared.items in
    let are : AreNumbered first.vars (length base) shared = numbered_as shared c.vars.ensures refl c.in_ok-shared.ensures in
    let by = first.vars + length base in
    let by_is : c.vars-2.result + length base ≡ by = omega (arith, c.vars-2.ensures) in
    let wide : c.widen.new.self.vars ≡ by + c.args.second.now.cnf.vars = ap (λ (cnf : Clauses). cnf.vars) c.widen.ensures ∙ ap (λ n. n + c.vars-3.result) by_is ∙ ap (λ n. by + n) c.vars-3.ensures in
    let bits : c.as_slice-4.result.now ≡ map positive shared = c.as_slice-4.ensures.value ∙ c.in_ok-bits.ensures ∙ ap (map positive) c.as_slice.ensures.value in
    let most = c.widen.new.self.vars in
    subst (All (IsVarWithin most)) (sym bits) (positives_within first.vars (length base) most shared are (omega (arith, wide)))

pub add_equalities-requires-2-clause-count : goal.add_equalities-requires-2-clause-count
add_equalities-requires-2-clause-count c =
    let first = c.args.cnf in
    let base = c.args.base.now in
    let shared = c.in_ok-shared.shared.items in
    let are : AreNumbered first.vars (length base) shared = numbered_as shared c.vars.ensures refl c.in_ok-shared.ensures in
    let by = first.vars + length base in
    let by_is : c.vars-2.result + length base ≡ by = omega (arith, c.vars-2.ensures) in
    let bits : c.as_slice-5.result.now ≡ map positive shared = c.as_slice-5.ensures.value ∙ c.in_ok-bits.ensures ∙ ap (map positive) c.as_slice.ensures.value in
    let moved : c.as_slice-6.result.now ≡ map (shifted by) c.args.second.now.base.items = c.as_slice-6.ensures.value ∙ c.in_ok-other_base.ensures ∙ ap (λ d. map (shifted d) c.as_slice-3.result.now) by_is ∙ ap (map (shifted by)) c.as_slice-3.ensures.value in
    ap length bits ∙ length-map shared positive ∙ are.count_is ∙ sym c.requires.count ∙ sym (ap length moved ∙ length-map c.args.second.now.base.items (shifted by))

pub add_equalities-requires-2-clause-order : goal.add_equalities-requires-2-clause-order
add_equalities-requires-2-clause-order c =
    let first = c.args.cnf in
    let base = c.args.base.now in
    let shared = c.in_ok-shared.shared.items in
    let are : AreNumbered first.vars (length base) shared = numbered_as shared c.vars.ensures refl c.in_ok-shared.ensures in
    let by = first.vars + length base in
    let by_is : c.vars-2.result + length base ≡ by = omega (arith, c.vars-2.ensures) in
    let bits : c.as_slice-5.result.now ≡ map positive shared = c.as_slice-5.ensures.value ∙ c.in_ok-bits.ensures ∙ ap (map positive) c.as_slice.ensures.value in
    let moved : c.as_slice-6.result.now ≡ map (shifted by) c.args.second.now.base.items = c.as_slice-6.ensures.value ∙ c.in_ok-other_base.ensures ∙ ap (λ d. map (shifted d) c.as_slice-3.result.now) by_is ∙ ap (map (shifted by)) c.as_slice-3.ensures.value in
    subst (λ list. AreBelow list c.as_slice-6.result.now) (sym bits)
    (subst (AreBelow (map positive shared)) (sym moved) (positives_below first.vars (length base) c.args.second.now.cnf.vars shared c.args.second.now.base.items are c.requires.second.base_within))

pub add_equalities-requires-2-clause-lefts : goal.add_equalities-requires-2-clause-lefts
add_equalities-requires-2-clause-lefts c =
    let first = c.args.cnf in
    let base = c.args.base.now in
    let shared = c.in_ok-shared.shared.items in
    let are : AreNumbered first.vars (length base) shared = numbered_as shared c.vars.ensures refl c.in_ok-shared.ensures in
    let by = first.vars + length base in
    let by_is : c.vars-2.result + length base ≡ by = omega (arith, c.vars-2.ensures) in
    let wide : c.widen.new.self.vars ≡ by + c.args.second.now.cnf.vars = ap (λ (cnf : Clauses). cnf.vars) c.widen.ensures ∙ ap (λ n. n + c.vars-3.result) by_is ∙ ap (λ n. by + n) c.vars-3.ensures in
    let kept : c.add_shifted.new.self.cnf.vars ≡ c.widen.new.self.vars = c.in_ok-add_shifted.ensures.vars ∙ c.in_ok-add_equalities.ensures.vars in
    let bits : c.as_slice-5.result.now ≡ map positive shared = c.as_slice-5.ensures.value ∙ c.in_ok-bits.ensures ∙ ap (map positive) c.as_slice.ensures.value in
    let most = c.add_shifted.new.self.cnf.vars in
    subst (All (IsVarWithin most)) (sym bits) (positives_within first.vars (length base) most shared are (omega (arith, wide, kept)))

pub add_equalities-requires-2-clause-rights : goal.add_equalities-requires-2-clause-rights
add_equalities-requires-2-clause-rights c =
    let first = c.args.cnf in
    let base = c.args.base.now in
    let shared = c.in_ok-shared.shared.items in
    let are : AreNumbered first.vars (length base) shared = numbered_as shared c.vars.ensures refl c.in_ok-shared.ensures in
    let by = first.vars + length base in
    let by_is : c.vars-2.result + length base ≡ by = omega (arith, c.vars-2.ensures) in
    let wide : c.widen.new.self.vars ≡ by + c.args.second.now.cnf.vars = ap (λ (cnf : Clauses). cnf.vars) c.widen.ensures ∙ ap (λ n. n + c.vars-3.result) by_is ∙ ap (λ n. by + n) c.vars-3.ensures in
    let kept : c.add_shifted.new.self.cnf.vars ≡ c.widen.new.self.vars = c.in_ok-add_shifted.ensures.vars ∙ c.in_ok-add_equalities.ensures.vars in
    let moved : c.as_slice-6.result.now ≡ map (shifted by) c.args.second.now.base.items = c.as_slice-6.ensures.value ∙ c.in_ok-other_base.ensures ∙ ap (λ d. map (shifted d) c.as_slice-3.result.now) by_is ∙ ap (map (shifted by)) c.as_slice-3.ensures.value in
    let most = c.add_shifted.new.self.cnf.vars in
    subst (All (IsVarWithin most)) (sym moved) (shifted_within by c.args.second.now.cnf.vars most c.args.second.now.base.items (omega (arith, wide, kept)) c.requires.second.base_within)

pub returns : goal.returns
returns c =
    let first = c.args.cnf in
    let base = c.args.base.now in
    let shared = c.in_ok-shared.shared.items in
    let are : AreNumbered first.vars (length base) shared = numbered_as shared c.vars.ensures refl c.in_ok-shared.ensures in
    let by = first.vars + length base in
    let by_is : c.vars-2.result + length base ≡ by = omega (arith, c.vars-2.ensures) in
    let wide : c.widen.new.self.vars ≡ by + c.args.second.now.cnf.vars = ap (λ (cnf : Clauses). cnf.vars) c.widen.ensures ∙ ap (λ n. n + c.vars-3.result) by_is ∙ ap (λ n. by + n) c.vars-3.ensures in
    let bits : c.as_slice-5.result.now ≡ map positive shared = c.as_slice-5.ensures.value ∙ c.in_ok-bits.ensures ∙ ap (map positive) c.as_slice.ensures.value in
    let moved : c.as_slice-6.result.now ≡ map (shifted by) c.args.second.now.base.items = c.as_slice-6.ensures.value ∙ c.in_ok-other_base.ensures ∙ ap (λ d. map (shifted d) c.as_slice-3.result.now) by_is ∙ ap (map (shifted by)) c.as_slice-3.ensures.value in
    let second = c.args.second.now in
    let start : Marked = record { cnf = c.widen.new.self; marks = c.in_ok-marked.marked.marks } in
    let one = c.add_equalities.new.self in
    let three = c.add_equalities-2.new.self in
    let others = second_clauses by second.cnf.clauses second.base.items shared in
    let front : Adds start one (equalities base (map positive shared)) true = subst (λ list. Adds start one (equalities base list) true) (c.as_slice-4.ensures.value ∙ sym c.as_slice-5.ensures.value ∙ bits) c.in_ok-add_equalities.ensures in
    let middle : Adds one c.add_shifted.new.self (map (map (shifted by)) second.cnf.clauses) false = subst (λ d. Adds one c.add_shifted.new.self (map (map (shifted d)) second.cnf.clauses) false) by_is c.in_ok-add_shifted.ensures in
    let last : Adds c.add_shifted.new.self three (equalities (map positive shared) (map (shifted by) second.base.items)) false = subst (λ list. Adds c.add_shifted.new.self three (equalities (map positive shared) list) false) moved
    (subst (λ list. Adds c.add_shifted.new.self three (equalities list c.as_slice-6.result.now) false) bits c.in_ok-add_equalities-2.ensures) in
    let back : Adds one three others false = adds_both one c.add_shifted.new.self three (map (map (shifted by)) second.cnf.clauses) (equalities (map positive shared) (map (shifted by) second.base.items)) false middle last in
    let clauses : c.widen.new.self.clauses ≡ first.clauses = ap (λ (cnf : Clauses). cnf.clauses) c.widen.ensures ∙ ap (λ (cnf : Clauses). cnf.clauses) c.in_ok-marked.ensures.0 in
    let whole = in_order start one three first.clauses (equalities base (map positive shared)) others clauses c.in_ok-marked.ensures.1 front back in
    record {
      shared_are = are;
      own = first_clauses first.clauses base shared;
      others = others;
      own_are = refl;
      others_are = refl;
      vars = whole.vars ∙ wide;
      clauses = whole.clauses;
      marks = whole.marks;
      other_reads = c.in_ok-other.ensures ∙ ap (λ d. map (shifted d) c.as_slice-2.result.now) by_is ∙ ap (map (shifted by)) c.as_slice-2.ensures.value;
    }
