use Rattle.std.proofs.Common.{◌≡◌, ◌+◌, ◌++◌, [], ◌∷◌, length, take, sym, ap, subst, ◌∙◌, arith}
use Rattle.std.proofs.lemmas.List.{length-append, take_all}
use Rattle.std.proofs.lemmas.Slice.Zip.{zip_turn, zip_end}
use Rattle.eco_trace.specs.Adding.{equality}
use Rattle.eco_tseitin.specs.Joined.{equalities}
use Rattle.eco_tseitin.specs.Marking.{Adds}
use Rattle.eco_tseitin.proofs.MarkLaws.{adds_both, equalities_more}
use Rattle.eco_tseitin.proofs.marked.Marked.add_equalities.Goals as goal

pub add_equality-requires-clause-order : goal.add_equality-requires-clause-order
add_equality-requires-clause-order c =
    let turn = zip_turn c.args.lefts.now c.args.rights.now c.loop-left.yielded c.into_iter-left-iterator.result c.loop-left.left-iterator c.next.new.self c.next.result (cc) (cc) c.loop-left.yielded_by _ c.in-Some.is c.next.ensures.steps in
    let n = length c.loop-left.yielded in
    c.requires.order c.in-Some.left.now c.in-Some.right.now (n, turn.0, sym (turn.2 c.in-Some.left.now)) (n, turn.1, sym (turn.3 c.in-Some.right.now))

pub loop-left-preserved : goal.loop-left-preserved
loop-left-preserved c =
    let turn = zip_turn c.args.lefts.now c.args.rights.now c.loop-left.yielded c.into_iter-left-iterator.result c.loop-left.left-iterator c.next.new.self c.next.result (cc) (cc) c.loop-left.yielded_by _ c.in-Some.is c.next.ensures.steps in
    let lefts = c.args.lefts.now in
    let rights = c.args.rights.now in
    let n = length c.loop-left.yielded in
    let a = c.in-Some.left.now in
    let b = c.in-Some.right.now in
    let old = c.args.self.now in
    let new = c.add_equality.new.self in
    let more : equalities (take (n + 1) lefts) (take (n + 1) rights) ≡ equalities (take n lefts) (take n rights) ++ equality a b = equalities_more lefts rights n a b turn.0 turn.1 (turn.2 a) (turn.3 b) in
    let count : n + 1 ≡ length (c.loop-left.yielded ++ (c.in-Some.left, c.in-Some.right) ∷ []) = sym (length-append c.loop-left.yielded ((c.in-Some.left, c.in-Some.right) ∷ [])) in
    subst (λ k. Adds old new (equalities (take k lefts) (take k rights)) c.args.mark) count
    (subst (λ list. Adds old new list c.args.mark) (sym more) (adds_both old c.loop-left.self new (equalities (take n lefts) (take n rights)) (equality a b) c.args.mark c.loop-left.invariant c.in_ok-add_equality.ensures))

pub returns : goal.returns
returns c =
    let lefts = c.args.lefts.now in
    let rights = c.args.rights.now in
    let n = length c.loop-left.yielded in
    let end = zip_end lefts rights c.loop-left.yielded c.into_iter-left-iterator.result c.loop-left.left-iterator c.next.new.self c.next.result (cc) (cc) c.loop-left.yielded_by c.in-None.is c.next.ensures.steps in
    let all_left : take n lefts ≡ lefts = take_all n lefts (omega (arith, end, c.requires.count)) in
    let all_right : take n rights ≡ rights = take_all n rights (omega (arith, end, c.requires.count)) in
    subst (λ list. Adds c.args.self.now c.loop-left.self list c.args.mark) (ap (λ list. equalities list (take n rights)) all_left ∙ ap (equalities lefts) all_right) c.loop-left.invariant
