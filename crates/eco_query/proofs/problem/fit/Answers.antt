use Rattle.std.specs.Option.{option_copied}
use Rattle.std.proofs.lemmas.Result.{MatchResult-weaker, err_from_is_err_and}
use Rattle.eco_query.proofs.problem.fit.Goals as goal

pub returns-in_err-examine_ports : goal.returns-in_err-examine_ports
returns-in_err-examine_ports c =
    let p = err_from_is_err_and c.from_residual.result c.from_residual.ensures.1 in
    rw (p.1, p.2) (c.in_err-examine_ports.ensures (option_copied c.args.care))

pub returns : goal.returns
returns c =
    MatchResult-weaker c.examine_care.result c.examine_care.ensures
    (λ _ cared. (record { ports = c.in_ok-examine_ports.ensures; inputs = cared.1; one_output = cared.2 }, cared.0))
    (λ error refused. refused c.args.g.now c.in_ok-examine_ports.ensures)
