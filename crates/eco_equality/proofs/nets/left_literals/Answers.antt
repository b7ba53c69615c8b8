-- The inputs' literals, and those of the nets behind them.
use Rattle.std.proofs.Common.{◌≡◌, length, map, All, OnOk, ap, ◌∙◌, subst, arith}
use Rattle.std.proofs.lemmas.List.{length-map}
use Rattle.std.proofs.lemmas.Result.{IfOk-weaker}
use Rattle.eco_meaning.specs.Circuit.{names}
use Rattle.eco_trace.specs.Clauses.{Clauses, IsVarWithin}
use Rattle.eco_clauses.specs.Listing.{with_variables}
use Rattle.eco_equality.specs.Numbering.{inner_nets, input_literal, net_literal, left_literal, net_variables}
use Rattle.eco_equality.proofs.Numbered.{left_within}
use Rattle.eco_clauses.proofs.Naming.{all_within}
use Rattle.eco_equality.proofs.nets.left_literals.Goals as goal

pub net_literals-requires : goal.net_literals-requires
net_literals-requires c = ap length c.requires.inputs ∙ length-map c.args.left.now.inputs (input_literal c.args.left.now)

pub returns-clause-literals : goal.returns-clause-literals
returns-clause-literals c =
    let left = c.args.left.now in
    IfOk-weaker c.net_literals.result (λ lits. lits.items ≡ map (net_literal left (input_literal left) c.args.cnf.now.vars) (names left)) (λ lits. lits.items ≡ map (left_literal left) (names left)) (λ lits is.
    is ∙ ap (λ (d : Clauses). map (net_literal left (input_literal left) d.vars) (names left)) c.requires.cnf) (c.net_literals.ensures.literals (input_literal left) c.requires.inputs)

pub returns-clause-within : goal.returns-clause-within
returns-clause-within c =
    λ right.
    let left = c.args.left.now in
    IfOk-weaker c.net_literals.result (λ lits. lits.items ≡ map (net_literal left (input_literal left) c.args.cnf.now.vars) (names left)) (λ lits. All (IsVarWithin (net_variables left right)) lits.items) (λ lits is.
    all_within (net_variables left right) (net_variables left right) (left_literal left) (names left) lits.items (left_within left right) (omega arith) (is ∙ ap (λ (d : Clauses). map (net_literal left (input_literal left) d.vars) (names left)) c.requires.cnf)) (c.net_literals.ensures.literals (input_literal left) c.requires.inputs)

pub returns-clause-cnf : goal.returns-clause-cnf
returns-clause-cnf c =
    let left = c.args.left.now in
    subst (λ (d : Clauses). OnOk c.net_literals.result (c.net_literals.new.cnf ≡ d)) (ap (with_variables (length (inner_nets left))) c.requires.cnf) (c.net_literals.ensures.more (input_literal left) c.requires.inputs)
