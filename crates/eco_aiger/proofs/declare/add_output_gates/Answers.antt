use Rattle.std.proofs.Common.{◌≡◌, ◌+◌, ◌++◌, [], ◌∷◌, length, take, sym, ap, subst, ◌∙◌, arith}
use Rattle.std.proofs.lemmas.List.{length-append, take_all}
use Rattle.std.proofs.lemmas.Slice.Zip.{zip_turn, zip_end}
use Rattle.eco_aiger.specs.Meaning.{output_gates}
use Rattle.eco_aiger.specs.Declaring.{with_gates}
use Rattle.eco_aiger.proofs.DeclareLaws.{outputs_more}
use Rattle.eco_aiger.proofs.declare.add_output_gates.Goals as goal

pub loop-name-preserved : goal.loop-name-preserved
loop-name-preserved c =
    let names = c.args.outputs.now in
    let literals = c.args.literals.now in
    let turn = zip_turn names literals c.loop-name.yielded c.into_iter-name-iterator.result c.loop-name.name-iterator c.next.new.self c.next.result (cc) (cc) c.loop-name.yielded_by _ c.in-Some.is c.next.ensures.steps in
    let n = length c.loop-name.yielded in
    let name = c.in-Some.name.now in
    let literal = c.in-Some.literal.now in
    let count : n + 1 ≡ length (c.loop-name.yielded ++ (c.in-Some.name, c.in-Some.literal) ∷ []) = sym (length-append c.loop-name.yielded ((c.in-Some.name, c.in-Some.literal) ∷ [])) in
    subst (λ k. c.add_output_gate.new.draft ≡ with_gates c.args.draft.now (output_gates c.args.names.now (take k names) (take k literals))) count
    (outputs_more c.args.names.now c.args.draft.now c.loop-name.draft c.add_output_gate.new.draft names literals n name literal turn.0 turn.1 (turn.2 name) (turn.3 literal) c.loop-name.invariant c.in_ok-add_output_gate.ensures)

pub returns : goal.returns
returns c =
    let names = c.args.outputs.now in
    let literals = c.args.literals.now in
    let n = length c.loop-name.yielded in
    let end = zip_end names literals c.loop-name.yielded c.into_iter-name-iterator.result c.loop-name.name-iterator c.next.new.self c.next.result (cc) (cc) c.loop-name.yielded_by c.in-None.is c.next.ensures.steps in
    let all_names : take n names ≡ names = take_all n names (omega (arith, end, c.requires)) in
    let all_literals : take n literals ≡ literals = take_all n literals (omega (arith, end, c.requires)) in
    subst (λ gates. c.loop-name.draft ≡ with_gates c.args.draft.now gates) (ap (λ list. output_gates c.args.names.now list (take n literals)) all_names ∙ ap (output_gates c.args.names.now names) all_literals) c.loop-name.invariant
