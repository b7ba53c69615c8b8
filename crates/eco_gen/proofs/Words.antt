-- The generator after some words.
use Rattle.std.proofs.Common.{◌≡◌, ℕ, zero, suc, ◌+◌, refl, sym, ap, ◌∙◌, add-one}
use Rattle.std.proofs.lemmas.List.FromFn.{map-range_with_len_more}
use Rattle.rand_core.specs.Pcg32Seed.{pcg32_seed}
use Rattle.rand_pcg.specs.Lcg.{Lcg, next, next_state, advance, state_after}
use Rattle.rand_pcg.specs.Pcg.{multiplier_64, pcg32, pcg32_of_seed}
use Rattle.eco_gen.specs.Drawn.{word}

-- the generator of a seed after this many words
unfoldable pub generator_after : ℕ → ℕ → Lcg
generator_after seed k = advance 64 multiplier_64 k (pcg32_of_seed (pcg32_seed 16 seed))

-- a step may be made first or last
state_after_last : (w m p n s : ℕ) → state_after w m p (n + 1) s ≡ next_state w m p (state_after w m p n s)
unfolding state_after
state_after_last w m p zero s = refl
state_after_last w m p (suc n) s =
    rw add-one (ap (λ k. state_after w m p k (next_state w m p s)) (sym (add-one n)) ∙ state_after_last w m p n (next_state w m p s))

advance_last : (n : ℕ) (g : Lcg) → advance 64 multiplier_64 (n + 1) g ≡ next 64 multiplier_64 (advance 64 multiplier_64 n g)
advance_last n g = ap (λ (s : ℕ). record g { state = s }) (state_after_last 64 multiplier_64 g.increment n g.state)

pub generator_at_first : (seed : ℕ) → generator_after seed 0 ≡ pcg32_of_seed (pcg32_seed 16 seed)
unfolding generator_after state_after
generator_at_first seed = refl

-- each word is taken from the generator after the words before it
pub word_at : (seed k : ℕ) → (pcg32 (generator_after seed k)).0 ≡ word seed k
unfolding generator_after word
word_at seed k = refl

pub generator_more : (seed k : ℕ) → (pcg32 (generator_after seed k)).1 ≡ generator_after seed (k + 1)
unfolding generator_after
generator_more seed k = sym (advance_last k (pcg32_of_seed (pcg32_seed 16 seed)))

-- what the first words are drawn by
pub ruleset drawing = (generator_at_first, word_at, generator_more, map-range_with_len_more)
