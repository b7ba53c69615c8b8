use Rattle.eco_netlist.proofs.MisfitLemmas.{Fits-from, smallest_input, smallest_wire, no_unfit_input}
use Rattle.eco_netlist.proofs.fitting.misfit.Goals as goal

pub least_unfit-requires-clause-lasts : goal.least_unfit-requires-clause-lasts
least_unfit-requires-clause-lasts c =
    rw c.as_slice.ensures.value (c.in_ok-lasts.ensures.lasts c.args.p.now.outputs (c.drives_targets.ensures.0 c.if-not-drives_targets.false).drives)

pub returns-in-Some : goal.returns-in-Some
returns-in-Some c = record {
  exactly = (
    c.drives_targets.ensures.0 c.if-not-drives_targets.false,
    rw c.in_ok-copy-in-Some.ensures.same (smallest_input c.args.f.now c.args.p.now c.in-Some.name.now c.in-Some.ensures),
  );
}

pub returns-in-Some-least_taken : goal.returns-in-Some-least_taken
returns-in-Some-least_taken c = record {
  exactly = (
    c.drives_targets.ensures.0 c.if-not-drives_targets.false,
    no_unfit_input c.args.f.now c.args.p.now c.in-None.ensures,
    rw c.in_ok-copy-in-Some-least_taken.ensures.same (smallest_wire c.args.f.now c.args.p.now c.in-Some-least_taken.name.now c.in-Some-least_taken.ensures.least),
  );
}

pub returns : goal.returns
returns c = record {
  exactly =
      Fits-from c.args.f.now c.args.p.now (c.drives_targets.ensures.0 c.if-not-drives_targets.false) c.least_taken.ensures.checked
      c.in-None.ensures c.in-None-least_taken.ensures.least;
}
