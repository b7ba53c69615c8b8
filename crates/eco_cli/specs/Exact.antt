-- That each status comes wherever its cause stands.
use Rattle.std.specs.Prelude.{◌≡◌, ◌⊎◌, ℕ, ◌==◌, ◌||◌, not, Bool, true, List, Option}
use Rattle.eco_outside.specs.Store.{Files, Rose, WhereKnown}
use Rattle.eco_words.specs.CommandLine.{AsksHelp, Command, IsMisuse, IsGiven, IsMisnumbered}
use Rattle.eco_words.specs.declared.answer.NumberOption.{NumberOption}
use Rattle.eco_cli.specs.Commands.{rules_of}
use Rattle.eco_cli.specs.Calls.{Call, IsPrinted}
use Rattle.eco_cli.specs.Rules.{IsUnrefused, Rules, stop_code}

-- a run that ends neither with a fault of the store or the sink nor for want of memory
abbrev pub is_undisturbed : ℕ → Bool
is_undisturbed status = not (status == 5 || status == 6 || status == 7)

-- this very stop is answered and printed, but for what is left open
pub record IsStoppedAs (call : Call) (status : ℕ) (rules : Rules) (why : rules.Stop) : Type 0 where
  pub shown : rules.Stop
  pub same : rules.determine shown ≡ rules.determine why
  pub status_of : status ≡ stop_code rules why
  pub printed : IsPrinted call (rules.says shown)

-- ---- exactly

-- the words have an error, or give an option no number that it may have
abbrev pub IsMisworded : List (List ℕ) → Type 0
IsMisworded words = IsMisuse words ⊎ ((option : NumberOption) × IsMisnumbered words option)

-- In an undisturbed run each answer comes wherever its cause stands: help and usage by the words; where the store tells its
-- files, the stop that stands where no earlier row stops the command, and its success where none does. In place of an answer
-- of no or of a success a question may have been given up.
pub record IsExact (call : Call) (status : ℕ) : Type 0 where
  pub helped : is_undisturbed status ≡ true → AsksHelp call.words → status ≡ 0
  pub misused : is_undisturbed status ≡ true → IsMisworded call.words → status ≡ 2
  pub stopped : is_undisturbed status ≡ true → (asked : Command) → IsGiven call.words asked →
      WhereKnown call.store_before.files (λ _. (why : (rules_of asked).Stop) →
      (rules_of asked).rows.stands call.store_before.files why →
      IsStoppedAs call status (rules_of asked) why ⊎ ((status ≡ 4) × ((rules_of asked).is_no why ≡ true)))
  pub performed : is_undisturbed status ≡ true → (asked : Command) → IsGiven call.words asked →
      WhereKnown call.store_before.files (λ _. (value : (rules_of asked).Value) →
      (rules_of asked).rows.passes call.store_before.files value → (status ≡ 0) ⊎ (status ≡ 4))

-- ---- complete

-- no count of faults rose
pub record IsFaultFree (call : Call) : Type 0 where
  pub reads : Rose call.store_before.read_faults call.store_after.read_faults → ⊥
  pub writes : Rose call.store_before.write_faults call.store_after.write_faults → ⊥
  pub puts : Rose call.sink_before.faults call.sink_after.faults → ⊥

-- the status tells whether no row stops the command, or its answer is no; or that a question was given up, or memory could
-- not be had
abbrev pub IsDecision : Rules → Option Files → ℕ → Type 0
IsDecision rules told status =
    ((status ≡ 0) × ((value : rules.Value) × rules.rows.passes told value))
    ⊎ ((status ≡ 1) × ((why : rules.Stop) × rules.rows.stands told why × (rules.is_no why ≡ true)))
    ⊎ (status ≡ 4) ⊎ (status ≡ 7)

-- Where the words are a command, no refusal stands and no fault rose, its question is decided.
abbrev pub IsComplete : Call → ℕ → Type 0
IsComplete call status =
    (asked : Command) → IsGiven call.words asked → IsFaultFree call → WhereKnown call.store_before.files (λ _.
    IsUnrefused (rules_of asked) call.store_before.files → IsDecision (rules_of asked) call.store_before.files status)
