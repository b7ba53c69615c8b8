use Rattle.std.proofs.Common.{◌≡◌, ℕ, ◌<◌, vec_len, get_or}
use Rattle.eco_gen.specs.Drawn.{word}
use Rattle.eco_gen.proofs.Words.{generator_after}
use Rattle.eco_gen.proofs.draws.first_words.Given as goal

abbrev pub invariant-loop-number : goal.invariant-loop-number
invariant-loop-number l = record {
  len : vec_len l.words ≡ l.number;
  drawn : (k : ℕ) → k < l.number → get_or l.words.items k 0 ≡ word l.seed k;
  generator : l.generator ≡ generator_after l.seed l.number;
}
