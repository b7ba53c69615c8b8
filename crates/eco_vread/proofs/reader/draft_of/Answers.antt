use Rattle.std.proofs.Common.{arith}
use Rattle.eco_tokens.proofs.Ahead.{ahead_tokens}
use Rattle.eco_tokens.proofs.Laws.{tokens_fit}
use Rattle.eco_vread.specs.Grammar.{spelling}
use Rattle.eco_vread.specs.Trees.{file_of}
use Rattle.eco_vread.proofs.Sizes.{few_numbers}
use Rattle.eco_vread.proofs.reader.draft_of.Goals as goal

pub prefix_of-requires : goal.prefix_of-requires
prefix_of-requires c = ahead_tokens c.args.bytes.now (spelling (file_of c.args.tree)) c.requires.tokens

pub declare-requires-clause-few : goal.declare-requires-clause-few
declare-requires-clause-few c =
    omega (arith, few_numbers (file_of c.args.tree), tokens_fit c.args.bytes.now (spelling (file_of c.args.tree)) c.requires.tokens)
