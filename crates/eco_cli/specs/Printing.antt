-- What is printed of words that give an option no number, and of a question that was given up.
use Rattle.std.specs.Prelude.{ℕ, List, ◌++◌, codes, decimal}
use Rattle.eco_pose.specs.declared.question.Question.{Question}
use Rattle.eco_pose.specs.declared.question.Question.TheVariants.{Rectify, Separate, Fix, Equal}
use Rattle.eco_pose.specs.declared.unfinished.Stuck.{Stuck}
use Rattle.eco_words.specs.declared.answer.NumberOption.{NumberOption}
use Rattle.eco_words.specs.declared.answer.NumberOption.TheVariants.{Budget, InputWeight, Least, Seed, Size, Targets}

-- what is printed where clap finds no error, and the value of this option is no number that it may have
abbrev pub usage_text : NumberOption → List ℕ
usage_text Budget = codes "usage --budget\n"
usage_text InputWeight = codes "usage --input-weight\n"
usage_text Least = codes "usage --least\n"
usage_text Seed = codes "usage --seed\n"
usage_text Size = codes "usage --size\n"
usage_text Targets = codes "usage --targets\n"

-- the word of a kind of question
abbrev pub question_word : Question → List ℕ
question_word (Rectify values) = codes "rect"
question_word (Separate target patches base rest) = codes "sep"
question_word (Fix input fixed) = codes "fix"
question_word (Equal left right care) = codes "eq"

-- what is printed of a question that was given up, where each may have so many learnt clauses
abbrev pub budget_text : ℕ → Stuck → List ℕ
budget_text budget stuck = codes "budget " ++ question_word stuck.question ++ codes " " ++ decimal budget ++ codes "\n"
