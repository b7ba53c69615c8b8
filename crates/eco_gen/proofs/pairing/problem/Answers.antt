use Rattle.eco_gen.proofs.Pairs.{IsClosed-drawn, HasFewNets-drawn, may_cut, never_refused}
use Rattle.eco_gen.proofs.Rectifying.{rectifiable}
use Rattle.eco_gen.proofs.Structure.{few_kept}
use Rattle.eco_gen.proofs.pairing.problem.Goals as goal

pub new-requires-clause-few_kept : goal.new-requires-clause-few_kept
new-requires-clause-few_kept c = rw (c.as_slice-kept.ensures.value, c.in_ok-kept.ensures) (few_kept c.args.size c.args.targets)

pub pair-requires-clause-closed : goal.pair-requires-clause-closed
pair-requires-clause-closed c =
    rw (c.in_ok-specification.ensures, c.in_ok-draws.ensures.seed, c.in_ok-draws.ensures.size) (IsClosed-drawn c.args.seed c.args.size)

pub pair-requires-clause-few_nets : goal.pair-requires-clause-few_nets
pair-requires-clause-few_nets c =
    rw (c.in_ok-implementation.ensures, c.in_ok-draws.ensures.seed, c.in_ok-draws.ensures.size)
    (HasFewNets-drawn c.args.seed c.args.size c.args.targets c.requires.numbers.few_gates)

pub returns-in-Ok-clause-rectifiable : goal.returns-in-Ok-clause-rectifiable
returns-in-Ok-clause-rectifiable c =
    rw (c.in-Ok.ensures.0, c.in_ok-implementation.ensures, c.in_ok-specification.ensures, c.in_ok-draws.ensures.seed, c.in_ok-draws.ensures.size)
    (rectifiable c.args.seed c.args.size c.args.targets (may_cut c.args.size c.args.targets c.requires.numbers))

pub want_of_memory-requires : goal.want_of_memory-requires
want_of_memory-requires c =
    never_refused c.args.seed c.args.size c.args.targets c.in-Err.error (may_cut c.args.size c.args.targets c.requires.numbers) c.requires.numbers.some_targets
    (rw (c.in_ok-implementation.ensures, c.in_ok-specification.ensures, c.in_ok-draws.ensures.seed, c.in_ok-draws.ensures.size) at c.in-Err.ensures)
