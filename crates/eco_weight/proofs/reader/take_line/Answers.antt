use Rattle.std.proofs.Common.{subst}
use Rattle.eco_weight.specs.Read.{ReadsAs}
use Rattle.eco_weight.proofs.FileLemmas.{tell_blank, tell_pair}
use Rattle.eco_weight.proofs.reader.take_line.Goals as goal

pub returns-in-Blank-clause-sound : goal.returns-in-Blank-clause-sound
returns-in-Blank-clause-sound c = λ _ lines collects. record {
  told = collects.told;
  tell = tell_blank lines c.args.line.now collects.told collects.tell (subst (ReadsAs c.args.line.now) c.in-Blank.is c.in_ok-read_line.ensures);
  gathers = collects.gathers;
}

pub returns-in_ok-add-in-Pair-clause-sound : goal.returns-in_ok-add-in-Pair-clause-sound
returns-in_ok-add-in-Pair-clause-sound c = λ _ lines collects. record {
  told = _;
  tell = tell_pair lines c.args.line.now collects.told c.in-Pair.name c.in-Pair.weight collects.tell (subst (ReadsAs c.args.line.now) c.in-Pair.is c.in_ok-read_line.ensures);
  gathers = c.in_ok-add-in-Pair.ensures collects.told collects.gathers;
}
