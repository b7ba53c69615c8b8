use Rattle.std.proofs.lemmas.Result.{err_from_is_err_and}
use Rattle.eco_netlist.specs.declared.refusal_kind.RefusalKind.TheVariants.{DeclaredTwice, PortUndeclared, NotAPort, InputDriven, DrivenTwice, Undriven}
use Rattle.eco_netlist.specs.Drafted.{declared_of}
use Rattle.eco_netlist.proofs.JudgeLemmas.{ends_for}
use Rattle.eco_netlist.proofs.refusal_kind.judge.Goals as goal

pub returns-in_err-reject-clause-refused : goal.returns-in_err-reject-clause-refused
returns-in_err-reject-clause-refused c =
    let p = err_from_is_err_and c.from_residual.result c.from_residual.ensures.1 in
    rw (p.1, p.2) (
    ends_for DeclaredTwice c.args.rule (declared_of c.args.declarations.now) c.in_err-reject.field-0.0
    tt
    c.in_err-reject.ensures.refused)

pub returns-in_err-reject-2-clause-refused : goal.returns-in_err-reject-2-clause-refused
returns-in_err-reject-2-clause-refused c =
    let p = err_from_is_err_and c.from_residual-in_err-reject-2.result c.from_residual-in_err-reject-2.ensures.1 in
    rw (p.1, p.2) (
    ends_for PortUndeclared c.args.rule (declared_of c.args.declarations.now) c.in_err-reject-2.field-0.0
    (c.in_ok-reject.ensures.never)
    c.in_err-reject-2.ensures.refused)

pub returns-in_err-reject-3-clause-refused : goal.returns-in_err-reject-3-clause-refused
returns-in_err-reject-3-clause-refused c =
    let p = err_from_is_err_and c.from_residual-in_err-reject-3.result c.from_residual-in_err-reject-3.ensures.1 in
    rw (p.1, p.2) (
    ends_for NotAPort c.args.rule (declared_of c.args.declarations.now) c.in_err-reject-3.field-0.0
    (c.in_ok-reject.ensures.never, c.in_ok-reject-2.ensures.never)
    c.in_err-reject-3.ensures.refused)

pub returns-in_err-reject-4-clause-refused : goal.returns-in_err-reject-4-clause-refused
returns-in_err-reject-4-clause-refused c =
    let p = err_from_is_err_and c.from_residual-in_err-reject-4.result c.from_residual-in_err-reject-4.ensures.1 in
    rw (p.1, p.2) (
    ends_for InputDriven c.args.rule (declared_of c.args.declarations.now) c.in_err-reject-4.field-0.0
    (c.in_ok-reject.ensures.never, c.in_ok-reject-2.ensures.never, c.in_ok-reject-3.ensures.never)
    c.in_err-reject-4.ensures.refused)

pub returns-in_err-reject-5-clause-refused : goal.returns-in_err-reject-5-clause-refused
returns-in_err-reject-5-clause-refused c =
    let p = err_from_is_err_and c.from_residual-in_err-reject-5.result c.from_residual-in_err-reject-5.ensures.1 in
    rw (p.1, p.2) (
    ends_for DrivenTwice c.args.rule (declared_of c.args.declarations.now) c.in_err-reject-5.field-0.0
    (c.in_ok-reject.ensures.never, c.in_ok-reject-2.ensures.never, c.in_ok-reject-3.ensures.never, c.in_ok-reject-4.ensures.never)
    c.in_err-reject-5.ensures.refused)

pub returns-in_err-reject-6-clause-refused : goal.returns-in_err-reject-6-clause-refused
returns-in_err-reject-6-clause-refused c =
    let p = err_from_is_err_and c.from_residual-in_err-reject-6.result c.from_residual-in_err-reject-6.ensures.1 in
    rw (p.1, p.2) (
    ends_for Undriven c.args.rule (declared_of c.args.declarations.now) c.in_err-reject-6.field-0.0
    (c.in_ok-reject.ensures.never, c.in_ok-reject-2.ensures.never, c.in_ok-reject-3.ensures.never, c.in_ok-reject-4.ensures.never, c.in_ok-reject-5.ensures.never)
    c.in_err-reject-6.ensures.refused)

pub returns-clause-sound : goal.returns-clause-sound
returns-clause-sound c = record {
  declared_once = c.in_ok-reject.ensures.never;
  ports_declared = c.in_ok-reject-2.ensures.never;
  only_ports = c.in_ok-reject-3.ensures.never;
  inputs_free = c.in_ok-reject-4.ensures.never;
  driven_once = c.in_ok-reject-5.ensures.never;
  driven = c.in_ok-reject-6.ensures.never;
}
