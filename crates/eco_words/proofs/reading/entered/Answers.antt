use Rattle.eco_words.proofs.RowLemmas.{opened_none, opened_some}
use Rattle.eco_words.proofs.reading.entered.Goals as goal

pub returns : goal.returns
returns c =
    let m = c.args.matches.now in
    let found = c.subcommand_matches.ensures.found in
    record {
      some = opened_some m c.args.name.now c.subcommand_matches.result found c.requires c.subcommand_matches.ensures.rows;
      none = opened_none m c.args.name.now c.subcommand_matches.result found;
    }
