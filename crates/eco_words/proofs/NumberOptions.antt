-- The options that are numbers: each comes to a number or is wrong, and of several either all come to one or one is the first that is wrong.
use Rattle.std.proofs.Common.{◌≡◌, ◌∙◌, ◌⊎◌, ℕ, ◌<◌, ◌≤◌, ap, refl, subst, arith, sym, inl, inr, codes, List, [], ◌∷◌, Option, Some, None}
use Rattle.std.proofs.lemmas.Bool.{cases_lt}
use Rattle.clap.specs.Words.{Text}
use Rattle.eco_words.specs.CommandLine.{GivesBudget, GivesInputWeight, GivesLeast, GivesNumber, GivesQuestions, GivesWanted, HasRoom, IsFirstWrong, IsNumberFor}
use Rattle.eco_words.specs.declared.TheConstants.{MOST_BUDGET, MOST_LEAST, MOST_SEED, MOST_SIZE, MOST_TARGETS, MOST_WEIGHT}
use Rattle.eco_words.specs.declared.answer.NumberOption.{NumberOption}
use Rattle.eco_words.specs.declared.answer.NumberOption.TheVariants.{Budget, InputWeight, Least, Seed, Size, Targets}
use Rattle.eco_words.proofs.NumeralLemmas.{IsDecidable, is_numeral_or_none, is_positive_or_none}

decidable_budget : (o : Option Text) → IsDecidable (GivesBudget o)
decidable_budget None = inl (200000, refl)
decidable_budget (Some text) = is_positive_or_none MOST_BUDGET text

decidable_weight : (o : Option Text) → IsDecidable (GivesInputWeight o)
decidable_weight None = inl (1, refl)
decidable_weight (Some text) = is_numeral_or_none MOST_WEIGHT text

decidable_wanted : (option : NumberOption) (o : Option Text) → ((text : Text) → IsDecidable (IsNumberFor option text)) → IsDecidable (GivesWanted option o)
decidable_wanted option None texts = inr (λ number never. never)
decidable_wanted option (Some text) texts = texts text

-- an option that has to be given has one number
pub one_wanted : (option : NumberOption) (o : Option Text) (m n : ℕ) → ((text : Text) (m n : ℕ) → IsNumberFor option text m → IsNumberFor option text n → m ≡ n)
    → GivesWanted option o m → GivesWanted option o n → m ≡ n
one_wanted option None m n one hm hn = absurd hm
one_wanted option (Some text) m n one hm hn = one text m n hm hn

pub one_seed : (o : Option Text) (m n : ℕ) → GivesWanted Seed o m → GivesWanted Seed o n → m ≡ n
one_seed o m n hm hn = one_wanted Seed o m n (λ text m n hm hn. sym hm.spelled.value ∙ hn.spelled.value) hm hn

pub one_size : (o : Option Text) (m n : ℕ) → GivesWanted Size o m → GivesWanted Size o n → m ≡ n
one_size o m n hm hn = one_wanted Size o m n (λ text m n hm hn. sym hm.0.spelled.value ∙ hn.0.spelled.value) hm hn

pub one_targets : (o : Option Text) (m n : ℕ) → GivesWanted Targets o m → GivesWanted Targets o n → m ≡ n
one_targets o m n hm hn = one_wanted Targets o m n (λ text m n hm hn. sym hm.0.spelled.value ∙ hn.0.spelled.value) hm hn

-- a number that is at most the size has room
pub has_room : (sized : Option Text) (size number : ℕ) → GivesWanted Size sized size → number ≤ size → HasRoom sized number
has_room sized size number is few other its = subst (λ (n : ℕ). number ≤ n) (one_size sized size other is its) few

decidable_size : (o : Option Text) → IsDecidable (GivesWanted Size o)
decidable_size o = decidable_wanted Size o (is_positive_or_none MOST_SIZE)

-- a number of targets has room or none does
room_decidable : (sized targets : Option Text) (number : ℕ) → GivesWanted Targets targets number → IsDecidable (GivesWanted Size sized)
    → IsDecidable (λ n. GivesWanted Targets targets n × HasRoom sized n)
room_decidable sized targets number is (inr none) = inl (number, (is, λ size its. absurd (none size its)))
room_decidable sized targets number is (inl (size, its)) = elim (cases_lt size number) [
  | inl more ↦ inr (λ other has. go (one_targets targets other number has.0 is) (has.1 size its) more)
  | inr few ↦ inl (number, (is, has_room sized size number its few))
]
  where
    go : {other : ℕ} → other ≡ number → other ≤ size → size < number → ⊥
    go same few more = omega (arith, same, few, more)

decidable_targets : (sized targets : Option Text) → IsDecidable (λ n. GivesWanted Targets targets n × HasRoom sized n)
decidable_targets sized targets = elim (decidable_wanted Targets targets (is_positive_or_none MOST_TARGETS)) [
  | inl right ↦ room_decidable sized targets right.0 right.1 (decidable_size sized)
  | inr none ↦ inr (λ number has. none number has.0)
]

decidable_questions : (o : Option Text) → IsDecidable (GivesQuestions o)
decidable_questions None = inl (0, refl)
decidable_questions (Some text) = is_positive_or_none MOST_LEAST text

-- what is asked of a cheaper base is a number of questions, and the other way round
pub least_questions : (o : Option Text) (least : Option ℕ) → GivesLeast o least → (number : ℕ) × GivesQuestions o number
least_questions None least h = (0, refl)
least_questions (Some text) None h = absurd h
least_questions (Some text) (Some number) h = (number, h)

pub questions_least : (o : Option Text) (number : ℕ) → GivesQuestions o number → (least : Option ℕ) × GivesLeast o least
questions_least None number h = (None, refl)
questions_least (Some text) number h = (Some number, h)

pub one_least : (o : Option Text) (a b : Option ℕ) → GivesLeast o a → GivesLeast o b → a ≡ b
one_least None a b ha hb = ha ∙ sym hb
one_least (Some text) None b ha hb = absurd ha
one_least (Some text) (Some m) None ha hb = absurd hb
one_least (Some text) (Some m) (Some n) ha hb = ap Some (sym ha.0.spelled.value ∙ hb.0.spelled.value)

-- an option gives one budget
pub one_budget : (o : Option Text) (m n : ℕ) → GivesBudget o m → GivesBudget o n → m ≡ n
one_budget None m n hm hn = hm ∙ sym hn
one_budget (Some text) m n hm hn = sym hm.0.spelled.value ∙ hn.0.spelled.value

-- and one weight
pub one_weight : (o : Option Text) (m n : ℕ) → GivesInputWeight o m → GivesInputWeight o n → m ≡ n
one_weight None m n hm hn = hm ∙ sym hn
one_weight (Some text) m n hm hn = sym hm.spelled.value ∙ hn.spelled.value

module _ (value : Text → Option Text) where
  settled : (option : NumberOption) → IsDecidable (GivesNumber value option)
  settled Budget = decidable_budget (value (codes "budget"))
  settled InputWeight = decidable_weight (value (codes "input-weight"))
  settled Seed = decidable_wanted Seed (value (codes "seed")) (is_numeral_or_none MOST_SEED)
  settled Size = decidable_size (value (codes "size"))
  settled Targets = decidable_targets (value (codes "size")) (value (codes "targets"))
  settled Least = decidable_questions (value (codes "least"))

  -- each of these options comes to a number
  abbrev pub AreRight : List NumberOption → Type 0
  AreRight [] = Unit {0}
  AreRight (first ∷ later) = ((number : ℕ) × GivesNumber value first number) × AreRight later

  pub right_or_first : (options : List NumberOption) → AreRight options ⊎ ((option : NumberOption) × IsFirstWrong value options option)
  right_or_first [] = inl tt
  right_or_first (first ∷ later) = elim (settled first) [
    | inl right ↦ elim (right_or_first later) [
      | inl rest ↦ inl (right, rest)
      | inr wrong ↦ inr (wrong.0, inr (right, wrong.1))
    ]
    | inr wrong ↦ inr (first, inl (refl, wrong))
  ]

  pub never_both : (options : List NumberOption) (option : NumberOption) → AreRight options → IsFirstWrong value options option → ⊥
  never_both [] option right wrong = wrong
  never_both (first ∷ later) option right (inl wrong) = wrong.1 right.0.0 right.0.1
  never_both (first ∷ later) option right (inr wrong) = never_both later option right.1 wrong.1

  -- two options that are wrong first are the same one
  pub one_first : (options : List NumberOption) (a b : NumberOption) → IsFirstWrong value options a → IsFirstWrong value options b → a ≡ b
  one_first [] a b ha hb = absurd ha
  one_first (first ∷ later) a b (inl ha) (inl hb) = ha.0 ∙ sym hb.0
  one_first (first ∷ later) a b (inl ha) (inr hb) = absurd (ha.1 hb.0.0 hb.0.1)
  one_first (first ∷ later) a b (inr ha) (inl hb) = absurd (hb.1 ha.0.0 ha.0.1)
  one_first (first ∷ later) a b (inr ha) (inr hb) = one_first later a b ha.1 hb.1
