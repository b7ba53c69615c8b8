use Rattle.std.proofs.Common.{[], ◌∷◌}
use Rattle.std.proofs.lemmas.Result.{IfOk-weaker}
use Rattle.eco_meaning.specs.Circuit.{names}
use Rattle.eco_netlist.specs.Netlists.{name_at}
use Rattle.eco_words.specs.CommandLine.{locate_options_of}
use Rattle.eco_cli.specs.Choice.{IsCutAnswer}
use Rattle.eco_cli.specs.Locate.{IsOpenAnswer}
use Rattle.eco_cli.proofs.LocateStages.{cut_prepared, first_driven, first_within, open_prepared}
use Rattle.eco_cli.proofs.locate.decided.Goals as goal

pub with_one-requires : goal.with_one-requires
with_one-requires c =
    let change = c.args.change.now in
    let budget = (locate_options_of c.args.command.now).budget in
    record {
      within = first_within change.old change.goal budget c.args.located c.requires.judged.1 c.args.said c.requires.said c.in-Some.net c.in-Some.is;
      driven = first_driven change.old change.goal budget c.args.located c.requires.judged.1 c.args.said c.requires.said c.in-Some.net c.in-Some.is;
    }

pub returns-in-Some : goal.returns-in-Some
returns-in-Some c = λ before after passed.
    let options = locate_options_of c.args.command.now in
    let change = c.args.change.now in
    IfOk-weaker c.with_one.result (IsCutAnswer options change (name_at (names change.old) c.in-Some.net.0 ∷ []) c.args.said.text.items) _
    (cut_prepared options change c.args.located c.args.said c.in-Some.net before after passed c.old.ensures.change c.requires.judged c.requires.said c.in-Some.is) c.with_one.ensures

pub returns-in-None : goal.returns-in-None
returns-in-None c = λ before after passed.
    let options = locate_options_of c.args.command.now in
    IfOk-weaker c.undecided.result (IsOpenAnswer options c.args.located c.args.said.text.items) _
    (open_prepared options c.args.change.now c.args.located c.args.said before after passed c.old.ensures.change c.requires.judged c.requires.said c.in-None.is) c.undecided.ensures
