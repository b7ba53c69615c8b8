use Rattle.std.proofs.Common.{map}
use Rattle.std.specs.String.{string_bytes}
use Rattle.eco_words.proofs.CommandLineLemmas.{is_exactly_one}
use Rattle.eco_words.proofs.reading.read.Goals as goal

pub returns : goal.returns
returns c = record {
  command = c.understood.ensures.command;
  cause = c.understood.ensures.cause;
  one = is_exactly_one (map string_bytes c.args.words.now);
}
