use Rattle.std.proofs.Common.{◌∙◌, ap}
use Rattle.eco_netlist.specs.Tallies.{refusal_for}
use Rattle.eco_netlist.proofs.RefusalLemmas.{never_declared, first_declared}
use Rattle.eco_netlist.proofs.refusal_kind.reject.Goals as goal

pub returns-in-None-clause-never : goal.returns-in-None-clause-never
returns-in-None-clause-never c =
    let least = c.in-None.ensures in
    never_declared c.args.refusal_kind c.args.rule c.args.declarations.now c.args.tallies.now c.requires.tallies c.requires.drafted
    (rw c.as_slice.ensures.keys at least)

pub returns-in_ok-copy-in-Some-clause-refused : goal.returns-in_ok-copy-in-Some-clause-refused
returns-in_ok-copy-in-Some-clause-refused c =
    let least = c.in-Some.ensures in (
      c.in-Some.name.now,
      c.refusal.ensures ∙ ap (refusal_for c.args.refusal_kind) c.in_ok-copy-in-Some.ensures.same,
      first_declared c.args.refusal_kind c.args.rule c.args.declarations.now c.args.tallies.now c.in-Some.name.now c.requires.tallies c.requires.drafted
          (rw c.as_slice.ensures.keys at least),
    )
