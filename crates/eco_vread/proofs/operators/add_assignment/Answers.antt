use Rattle.std.proofs.Common.{◌≡◌, ◌+◌, [], ◌∷◌, ◌∙◌, ap, sym, map}
use Rattle.eco_vread.specs.Syntax.{name_of}
use Rattle.eco_vread.specs.Views.{identifier_of}
use Rattle.eco_vread.specs.Postfix.{sign_of, expression_of}
use Rattle.eco_vread.specs.Meaning.{operators, output_of, source}
use Rattle.eco_vread.specs.Trees.{assignment_of}
use Rattle.eco_vread.specs.Declaring.{with_gates}
use Rattle.eco_vread.proofs.Assigned.{buffer_of, with_buffer, with_operators}
use Rattle.eco_vread.proofs.operators.add_assignment.Goals as goal

pub returns-in_ok-add_buffer-clause-gates : goal.returns-in_ok-add_buffer-clause-gates
returns-in_ok-add_buffer-clause-gates c =
    let a = assignment_of c.args.assignment.now in
    let same = c.as_slice-value.ensures.value in
    let driven = output_of c.args.prefix.bytes.now (name_of (identifier_of c.args.assignment.now.name)) (c.args.before + c.operators_of-operators.result) in
    let none : operators a.value ≡ 0 = ap (λ l. operators (expression_of (map sign_of l))) (sym same) ∙ sym c.operators_of-operators.ensures ∙ c.if-operators-eq0.true in
    let value : c.in_ok-source.source ≡ source driven c.args.before a.value = c.in_ok-source.ensures.source ∙ ap (λ l. source driven c.args.before (expression_of (map sign_of l))) same in
    c.in_ok-add_buffer.ensures
    ∙ ap (λ s. with_gates c.add_expression.new.draft (buffer_of a s ∷ [])) value
    ∙ ap (λ d. with_gates d (buffer_of a (source driven c.args.before a.value) ∷ [])) (rw same at c.in_ok-source.ensures.gates)
    ∙ with_buffer c.args.draft.now driven c.args.prefix.bytes.now c.args.before a none

pub returns-else-operators-eq0-clause-gates : goal.returns-else-operators-eq0-clause-gates
returns-else-operators-eq0-clause-gates c =
    let a = assignment_of c.args.assignment.now in
    let same = c.as_slice-value.ensures.value in
    let count : c.operators_of-operators.result ≡ operators a.value = c.operators_of-operators.ensures ∙ ap (λ l. operators (expression_of (map sign_of l))) same in
    (rw same at c.in_ok-source.ensures.gates)
    ∙ with_operators c.args.draft.now c.args.prefix.bytes.now c.args.before a (c.args.before + c.operators_of-operators.result) (ap (λ n. c.args.before + n) count) (λ none. c.if-operators-eq0.false (count ∙ none))
