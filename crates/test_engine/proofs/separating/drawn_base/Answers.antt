-- The base are the turns of the target but for what is left out.
use Rattle.std.proofs.lemmas.Result.{IfOk-at_ok}
use Rattle.eco_meaning.specs.Circuit.{names}
use Rattle.eco_netlist.specs.Netlists.{names_at}
use Rattle.test_engine.proofs.separating.drawn_base.Goals as goal

pub returns : goal.returns
returns g c = record {
  nets = IfOk-at_ok _ c.expect.ensures c.turns.ensures.nets;
  left_out = names_at (names c.args.problem.now.implementation) c.as_slice-2.result.now;
  turns = IfOk-at_ok _ c.expect.ensures c.turns.ensures.turns;
}
