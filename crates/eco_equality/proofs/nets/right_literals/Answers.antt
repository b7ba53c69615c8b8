-- The shared literals of the inputs, and those of the nets behind left's.
use Rattle.std.proofs.Common.{◌≡◌, length, map, All, OnOk, ap, ◌∙◌, subst, arith}
use Rattle.std.proofs.lemmas.List.{length-map}
use Rattle.std.proofs.lemmas.Result.{IfOk-weaker}
use Rattle.eco_meaning.specs.Circuit.{names}
use Rattle.eco_trace.specs.Clauses.{Clauses, IsVarWithin}
use Rattle.eco_clauses.specs.Listing.{with_variables}
use Rattle.eco_equality.specs.Numbering.{inner_nets, input_literal, net_literal, left_literal, right_literal, net_variables}
use Rattle.eco_equality.proofs.Numbered.{known_inputs, shared_inputs, right_within}
use Rattle.eco_clauses.proofs.Naming.{all_within}
use Rattle.eco_equality.proofs.nets.right_literals.Goals as goal

pub literals_by_name-requires-clause-known : goal.literals_by_name-requires-clause-known
literals_by_name-requires-clause-known c =
    known_inputs c.args.left.now c.args.right.now _ c.nets.ensures.checked c.requires.ports c.inputs.ensures.named

pub net_literals-requires : goal.net_literals-requires
net_literals-requires c =
    let left = c.args.left.now in
    let right = c.args.right.now in
    ap length (c.as_slice.ensures.value ∙ c.in_ok-shared.ensures (left_literal left) c.requires.left ∙ ap (map (left_literal left)) c.inputs.ensures.named)
    ∙ length-map right.inputs (left_literal left)

pub returns-clause-literals : goal.returns-clause-literals
returns-clause-literals c =
    let left = c.args.left.now in
    let right = c.args.right.now in
    let shared = c.as_slice.ensures.value ∙ c.in_ok-shared.ensures (left_literal left) c.requires.left ∙ ap (map (left_literal left)) c.inputs.ensures.named ∙ shared_inputs left right c.requires.ports in
    IfOk-weaker c.net_literals.result (λ lits. lits.items ≡ map (net_literal right (input_literal left) c.args.cnf.now.vars) (names right)) (λ lits. lits.items ≡ map (right_literal left right) (names right)) (λ lits is.
    is ∙ ap (λ (d : Clauses). map (net_literal right (input_literal left) d.vars) (names right)) c.requires.cnf) (c.net_literals.ensures.literals (input_literal left) shared)

pub returns-clause-within : goal.returns-clause-within
returns-clause-within c =
    let left = c.args.left.now in
    let right = c.args.right.now in
    let vars = net_variables left right in
    let shared = c.as_slice.ensures.value ∙ c.in_ok-shared.ensures (left_literal left) c.requires.left ∙ ap (map (left_literal left)) c.inputs.ensures.named ∙ shared_inputs left right c.requires.ports in
    IfOk-weaker c.net_literals.result (λ lits. lits.items ≡ map (net_literal right (input_literal left) c.args.cnf.now.vars) (names right)) (λ lits. All (IsVarWithin vars) lits.items) (λ lits is.
    all_within vars vars (right_literal left right) (names right) lits.items (right_within left right c.requires.ports) (omega arith) (is ∙ ap (λ (d : Clauses). map (net_literal right (input_literal left) d.vars) (names right)) c.requires.cnf)) (c.net_literals.ensures.literals (input_literal left) shared)

pub returns-clause-cnf : goal.returns-clause-cnf
returns-clause-cnf c =
    let left = c.args.left.now in
    let right = c.args.right.now in
    let shared = c.as_slice.ensures.value ∙ c.in_ok-shared.ensures (left_literal left) c.requires.left ∙ ap (map (left_literal left)) c.inputs.ensures.named ∙ shared_inputs left right c.requires.ports in
    subst (λ (d : Clauses). OnOk c.net_literals.result (c.net_literals.new.cnf ≡ d)) (ap (with_variables (length (inner_nets right))) c.requires.cnf) (c.net_literals.ensures.more (input_literal left) shared)
