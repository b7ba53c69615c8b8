use Rattle.std.proofs.Common.{◌<◌, length, subst, sym}
use Rattle.std.specs.List.{All}
use Rattle.eco_meaning.specs.Circuit.{Circuit, names}
use Rattle.eco_netlist.specs.Netlists.{AreNets}
use Rattle.eco_words.specs.CommandLine.{locate_options_of}
use Rattle.eco_cli.specs.Locate.{IsSaid}
use Rattle.eco_cli.proofs.LocateStages.{listed_within, open_within}
use Rattle.eco_cli.proofs.locate.listed.Goals as goal

pub said_of-requires : goal.said_of-requires
said_of-requires c =
    let change = c.args.change.now in
    let limit = (locate_options_of c.args.command.now).budget in
    let located = c.args.located in
    record {
      listed = subst (λ (f : Circuit). AreNets (names f) located.listed.items) (sym c.old.ensures.value) (listed_within change.old change.goal limit located c.requires.judged.1);
      open_within = subst (λ (f : Circuit). All (λ o. o.net.0 < length (names f)) located.over.items) (sym c.old.ensures.value) (open_within change.old change.goal limit located c.requires.judged.1);
    }

pub decided-requires-clause-said : goal.decided-requires-clause-said
decided-requires-clause-said c = subst (λ (f : Circuit). IsSaid f c.args.located c.in-Ok.said) c.old.ensures.value c.in-Ok.ensures
