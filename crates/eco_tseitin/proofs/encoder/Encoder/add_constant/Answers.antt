use Rattle.std.proofs.Common.{[], ◌∷◌, ◌∙◌, ap, sym, subst, length}
use Rattle.std.specs.List.{All}
use Rattle.std.proofs.lemmas.List.Elements.{All-nil, All-cons}
use Rattle.std.proofs.lemmas.Result.{on_err_weaker}
use Rattle.eco_aig.specs.Edges.{plain}
use Rattle.eco_trace.specs.Clauses.{IsVarWithin, complement}
use Rattle.eco_tseitin.specs.Encoding.{literal_of}
use Rattle.eco_tseitin.proofs.Fronts.{if_err, front_same, front_then, front_named}
use Rattle.eco_tseitin.proofs.Naming.{literal_within}
use Rattle.eco_tseitin.proofs.encoder.Encoder.add_constant.Goals as goal

pub add-requires-clause-within : goal.add-requires-clause-within
add-requires-clause-within c =
    let nodes = c.literal.new.self.nodes in
    let l = complement (literal_of nodes (plain 0)) in
    let within = literal_within nodes (plain 0) c.in_ok-literal.ensures.named.has in
    let items = ap (λ x. x ∷ []) (c.complement.ensures ∙ ap complement c.in_ok-literal.ensures.literal) in
    subst (All (IsVarWithin (length nodes))) (sym items) (All-cons (IsVarWithin (length nodes)) l [] (record { first = within.first; last = within.last }) (All-nil (IsVarWithin (length nodes))))

pub returns-in_err-literal-clause-err : goal.returns-in_err-literal-clause-err
returns-in_err-literal-clause-err c = if_err c.from_residual.result (front_same c.args.self.now c.literal.new.self c.in_err-literal.ensures.err)

pub returns-clause-err : goal.returns-clause-err
returns-clause-err c =
    let mid = c.literal.new.self in
    on_err_weaker c.add.result (λ h. front_then c.args.self.now mid c.add.new.self (front_named c.args.self.now mid 0 c.in_ok-literal.ensures.named) h) c.add.ensures.err
