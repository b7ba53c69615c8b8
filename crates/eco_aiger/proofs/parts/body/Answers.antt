use Rattle.std.proofs.Common.{map}
use Rattle.std.proofs.lemmas.Result.{err_from_is_err_and}
use Rattle.eco_aiger.proofs.SectionLaws.{unread_more}
use Rattle.eco_aiger.proofs.Bodies.{no_inputs, no_outputs, no_ands, no_symbols}
use Rattle.eco_aiger.proofs.parts.body.Goals as goal

pub returns-in_err-inputs-clause-err : goal.returns-in_err-inputs-clause-err
returns-in_err-inputs-clause-err c =
    let p = err_from_is_err_and c.from_residual.result c.from_residual.ensures.1 in
    rw (p.1, p.2)
    (unread_more c.in_err-inputs.field-0.0 (no_inputs c.args.header (map (λ line. line.now) c.args.lines.now)) c.in_err-inputs.ensures.err)

pub returns-in_err-outputs-clause-err : goal.returns-in_err-outputs-clause-err
returns-in_err-outputs-clause-err c =
    let p = err_from_is_err_and c.from_residual-in_err-outputs.result c.from_residual-in_err-outputs.ensures.1 in
    rw (p.1, p.2)
    (unread_more c.in_err-outputs.field-0.0
    (no_outputs c.args.header (map (λ line. line.now) c.args.lines.now) c.in_ok-inputs.inputs.items (map (λ line. line.now) c.in_ok-inputs.lines.now) c.in_ok-inputs.ensures.ok)
    c.in_err-outputs.ensures.err)

pub returns-in_err-ands-clause-err : goal.returns-in_err-ands-clause-err
returns-in_err-ands-clause-err c =
    let p = err_from_is_err_and c.from_residual-in_err-ands.result c.from_residual-in_err-ands.ensures.1 in
    rw (p.1, p.2)
    (unread_more c.in_err-ands.field-0.0
    (no_ands c.args.header (map (λ line. line.now) c.args.lines.now) c.in_ok-inputs.inputs.items (map (λ line. line.now) c.in_ok-inputs.lines.now) c.in_ok-outputs.outputs.items (map (λ line. line.now) c.in_ok-outputs.lines.now) c.in_ok-inputs.ensures.ok c.in_ok-outputs.ensures.ok)
    c.in_err-ands.ensures.err)

pub returns-in_err-symbols-clause-err : goal.returns-in_err-symbols-clause-err
returns-in_err-symbols-clause-err c =
    let p = err_from_is_err_and c.from_residual-in_err-symbols.result c.from_residual-in_err-symbols.ensures.1 in
    rw (p.1, p.2)
    (unread_more c.in_err-symbols.field-0.0
    (no_symbols c.args.header (map (λ line. line.now) c.args.lines.now) c.in_ok-inputs.inputs.items (map (λ line. line.now) c.in_ok-inputs.lines.now) c.in_ok-outputs.outputs.items (map (λ line. line.now) c.in_ok-outputs.lines.now) c.in_ok-ands.ands.items (map (λ line. line.now) c.in_ok-ands.lines.now) c.in_ok-inputs.ensures.ok c.in_ok-outputs.ensures.ok c.in_ok-ands.ensures.ok)
    c.in_err-symbols.ensures.err)
