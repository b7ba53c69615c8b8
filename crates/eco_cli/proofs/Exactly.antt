-- Each answer comes wherever its cause stands, since each comes only there and no two causes stand together.
use Rattle.std.proofs.Common.{◌≡◌, ◌⊎◌, inl, inr, ℕ, Bool, true, List, sym, ◌∙◌, ap, subst, arith, Option, Some, None, if◌then◌else◌}
use Rattle.std.specs.Option.{IfSome, IsSome}
use Rattle.std.proofs.lemmas.Bool.{false≢true}
use Rattle.eco_outside.specs.Store.{Files}
use Rattle.eco_words.specs.CommandLine.{AsksHelp, Command, IsExactlyOne, IsGiven}
use Rattle.eco_pose.specs.declared.unfinished.Stuck.{Stuck}
use Rattle.eco_cli.specs.Commands.{rules_of}
use Rattle.eco_words.specs.CommandLine.Command.{synth, audit, prove, recheck, gen, locate}
use Rattle.eco_cli.specs.Calls.{Call, IsAnswered, IsLeftOpen, IsMisused, IsPerformed, IsPrinted, IsBudgetSpent, IsStopped, is_early_status, is_status}
use Rattle.eco_cli.specs.Exact.{IsComplete, IsDecision, IsExact, IsFaultFree, IsMisworded, IsStoppedAs, is_undisturbed}
use Rattle.eco_cli.specs.Rules.{IsHalted, IsLawful, IsUnrefused, Rules, stop_code}
use Rattle.eco_cli.proofs.AuditLaws.{audit_law}
use Rattle.eco_cli.proofs.GenLaws.{gen_law}
use Rattle.eco_cli.proofs.LocateLaws.{locate_law}
use Rattle.eco_cli.proofs.ProveLaws.{prove_law}
use Rattle.eco_cli.proofs.RecheckLaws.{recheck_law}
use Rattle.eco_cli.proofs.SynthLaws.{synth_law}

-- ---- the commands

-- the rules of each command are lawful
lawful : (asked : Command) → IsLawful (rules_of asked)
lawful (synth options) = synth_law options
lawful (audit options) = audit_law options
lawful (prove options) = prove_law options
lawful (recheck options) = recheck_law options
lawful (gen options) = gen_law options
lawful (locate options) = locate_law options

-- the words of a command have no error
not_misworded : (words : List (List ℕ)) → IsExactlyOne words → (asked : Command) → IsGiven words asked → IsMisworded words → ⊥
not_misworded words one asked command (inl faulty) = one.no_command_fault asked command faulty
not_misworded words one asked command (inr (option, wrong)) = one.no_command_number asked option command wrong

not_asked : (words : List (List ℕ)) → IsExactlyOne words → AsksHelp words → IsMisworded words → ⊥
not_asked words one asked (inl faulty) = one.no_help_fault asked faulty
not_asked words one asked (inr (option, wrong)) = one.no_help_number option asked wrong

misworded : (call : Call) (text : List ℕ) → IsMisused call text → IsMisworded call.words
misworded call text misused = elim misused.cause [
  | inl faulty ↦ inl faulty
  | inr named ↦ inr (named.0, named.1)
]

-- ---- statuses

-- a status, by the clause that speaks of it
abbrev Kinds : ℕ → Type 0
Kinds status =
    (status ≡ 0) ⊎ ((is_early_status status ≡ true) ⊎ ((status ≡ 2) ⊎ ((status ≡ 4) ⊎ ((status ≡ 6) ⊎ (status ≡ 7)))))

kind_of : (status : ℕ) → is_status status ≡ true → Kinds status
kind_of status e = grind (arith, e)

six_disturbed : {A : Type 0} (status : ℕ) → status ≡ 6 → is_undisturbed status ≡ true → A
six_disturbed status six quiet = absurd (false≢true (subst (λ s. is_undisturbed s ≡ true) six quiet))

seven_disturbed : {A : Type 0} (status : ℕ) → status ≡ 7 → is_undisturbed status ≡ true → A
seven_disturbed status seven quiet = absurd (false≢true (subst (λ s. is_undisturbed s ≡ true) seven quiet))

five_disturbed : {A : Type 0} (status : ℕ) → status ≡ 5 → is_undisturbed status ≡ true → A
five_disturbed status five quiet = absurd (false≢true (subst (λ s. is_undisturbed s ≡ true) five quiet))

-- ---- what a run came to, at the command of its words

-- the rows are passed
PassesAt : Call → Command → Type 0
PassesAt call asked = (value : (rules_of asked).Value) × (rules_of asked).rows.passes call.store_before.files value

passed_at : (call : Call) → IsExactlyOne call.words → (asked : Command) (text : List ℕ) → IsGiven call.words asked → IsPerformed call text → PassesAt call asked
unfolding PassesAt
passed_at call one asked text command performed =
    let answer = performed.answer in
    subst (PassesAt call) (one.one_command answer.asked asked answer.command command)
    (answer.success.value, answer.success.passed)

-- it stops so
unfoldable pub HaltsAt : Call → ℕ → List ℕ → Command → Type 0
HaltsAt call status text asked = IsHalted (rules_of asked) call.store_before call.store_after status text

pub halted_at : (call : Call) → IsExactlyOne call.words → (asked : Command) (status : ℕ) (text : List ℕ) → IsGiven call.words asked → IsStopped call status text → HaltsAt call status text asked
unfolding HaltsAt
halted_at call one asked status text command stopped =
    subst (HaltsAt call status text) (one.one_command stopped.asked asked stopped.command command) stopped.halted

-- no stop stands where the rows are passed
no_stop : (rules : Rules) → IsLawful rules → (told : Option Files) (files : Files) → told ≡ Some files → (why : rules.Stop) (value : rules.Value) → rules.rows.stands told why → rules.rows.passes told value → ⊥
no_stop rules law told files is why value stands passes =
    (law.rows files).apart why value (subst (λ t. rules.rows.stands t why) is stands) (subst (λ t. rules.rows.passes t value) is passes)

same_stop : (rules : Rules) → IsLawful rules → (told : Option Files) (files : Files) → told ≡ Some files → (a b : rules.Stop) → rules.rows.stands told a → rules.rows.stands told b → rules.determine a ≡ rules.determine b
same_stop rules law told files is a b x y =
    (law.rows files).once a b (subst (λ t. rules.rows.stands t a) is x) (subst (λ t. rules.rows.stands t b) is y)

code_at : Bool → ℕ
code_at answered_no = if answered_no then 1 else 3

same_code : (rules : Rules) → IsLawful rules → (a b : rules.Stop) → rules.determine a ≡ rules.determine b → stop_code rules a ≡ stop_code rules b
unfolding code_at
same_code rules law a b same =
    ap code_at (sym (law.determined a) ∙ ap rules.is_no same ∙ law.determined b)

-- ---- a question that was given up

open_from : (call : Call) (kept : Option Stuck) → IsSome kept → IfSome kept (IsBudgetSpent call) → (stuck : Stuck) × (text : List ℕ) × IsLeftOpen call stuck text
open_from call None some spent = absurd (false≢true some)
open_from call (Some stuck) some spent = (stuck, spent.0, spent.2)

-- it is kept, and left open
left_open : (call : Call) (status : ℕ) (kept : Option Stuck) → IsAnswered call status kept → status ≡ 4 → (stuck : Stuck) × (text : List ℕ) × IsLeftOpen call stuck text
left_open call status kept all four = open_from call kept (all.keeps.0 four) all.spent

-- the rows before the first question are passed
AsksAt : Call → Command → Type 0
AsksAt call asked = (matter : (rules_of asked).Matter) × (rules_of asked).asking.passes call.store_before.files matter

asks_at : (call : Call) → IsExactlyOne call.words → (asked : Command) → IsGiven call.words asked → (stuck : Stuck) × (text : List ℕ) × IsLeftOpen call stuck text → AsksAt call asked
unfolding AsksAt
asks_at call one asked command (stuck, text, left) =
    subst (AsksAt call) (one.one_command left.asked asked left.command command)
    (left.given_up.matter, left.given_up.passed)

-- and so no refusal stands
no_refusal : (rules : Rules) → IsLawful rules → (told : Option Files) (files : Files) → told ≡ Some files → (matter : rules.Matter) → rules.asking.passes told matter → (why : rules.Stop) → rules.rows.stands told why → rules.is_no why ≡ true
no_refusal rules law told files is matter passed why stands =
    law.asked files matter (subst (λ t. rules.asking.passes t matter) is passed) why (subst (λ t. rules.rows.stands t why) is stands)

-- ---- exactly

stopped_for : (call : Call) (asked : Command) (status : ℕ) (text : List ℕ) (files : Files) → call.store_before.files ≡ Some files → IsPrinted call text → is_undisturbed status ≡ true → (why : (rules_of asked).Stop) → (rules_of asked).rows.stands call.store_before.files why → IsHalted (rules_of asked) call.store_before call.store_after status text → IsStoppedAs call status (rules_of asked) why
stopped_for call asked status text files told printed quiet why stands (inl (shown, is, says, stops)) =
    let same = same_stop (rules_of asked) (lawful asked) call.store_before.files files told shown why stops.stands stands in
    record {
      shown = shown;
      same = same;
      status_of = is ∙ same_code (rules_of asked) (lawful asked) shown why same;
      printed = subst (IsPrinted call) says printed;
    }
stopped_for call asked status text files told printed quiet why stands (inr (path, five, says, stops)) = five_disturbed status five quiet

stopped_as : (call : Call) → IsExactlyOne call.words → (status : ℕ) (kept : Option Stuck) (asked : Command) (files : Files) → IsAnswered call status kept → is_undisturbed status ≡ true → IsGiven call.words asked → call.store_before.files ≡ Some files → (why : (rules_of asked).Stop) → (rules_of asked).rows.stands call.store_before.files why → Kinds status → IsStoppedAs call status (rules_of asked) why ⊎ ((status ≡ 4) × ((rules_of asked).is_no why ≡ true))
unfolding PassesAt HaltsAt AsksAt
stopped_as call one status kept asked files all quiet command told why stands (inl zero) =
    elim (all.done zero).2 [
      | inl performed ↦
          let at = passed_at call one asked (all.done zero).0 command performed in
          absurd (no_stop (rules_of asked) (lawful asked) call.store_before.files files told why at.0 stands at.1)
      | inr helped ↦ absurd (one.no_command_help asked command helped.asked)
    ]
stopped_as call one status kept asked files all quiet command told why stands (inr (inl early)) =
    let (text, printed, stopped) = all.refused early in
    inl (stopped_for call asked status text files told printed quiet why stands (halted_at call one asked status text command stopped))
stopped_as call one status kept asked files all quiet command told why stands (inr (inr (inl two))) =
    absurd (not_misworded call.words one asked command (misworded call (all.usage two).0 (all.usage two).2))
stopped_as call one status kept asked files all quiet command told why stands (inr (inr (inr (inl four)))) =
    let at = asks_at call one asked command (left_open call status kept all four) in
    inr (four, no_refusal (rules_of asked) (lawful asked) call.store_before.files files told at.0 at.1 why stands)
stopped_as call one status kept asked files all quiet command told why stands (inr (inr (inr (inr (inl six))))) = six_disturbed status six quiet
stopped_as call one status kept asked files all quiet command told why stands (inr (inr (inr (inr (inr seven))))) = seven_disturbed status seven quiet

is_determined : (call : Call) (status : ℕ) (kept : Option Stuck) → IsAnswered call status kept → is_undisturbed status ≡ true → ((text : List ℕ) → IsStopped call status text → ⊥) → (IsMisworded call.words → ⊥) → Kinds status → (status ≡ 0) ⊎ (status ≡ 4)
is_determined call status kept all quiet unstopped unfaulty (inl zero) = inl zero
is_determined call status kept all quiet unstopped unfaulty (inr (inl early)) = absurd (unstopped (all.refused early).0 (all.refused early).2)
is_determined call status kept all quiet unstopped unfaulty (inr (inr (inl two))) = absurd (unfaulty (misworded call (all.usage two).0 (all.usage two).2))
is_determined call status kept all quiet unstopped unfaulty (inr (inr (inr (inl four)))) = inr four
is_determined call status kept all quiet unstopped unfaulty (inr (inr (inr (inr (inl six))))) = six_disturbed status six quiet
is_determined call status kept all quiet unstopped unfaulty (inr (inr (inr (inr (inr seven))))) = seven_disturbed status seven quiet

is_helped : (call : Call) → IsExactlyOne call.words → (status : ℕ) (kept : Option Stuck) → IsAnswered call status kept → AsksHelp call.words → (status ≡ 0) ⊎ (status ≡ 4) → status ≡ 0
is_helped call one status kept all asked (inl zero) = zero
is_helped call one status kept all asked (inr four) =
    let (stuck, text, left) = left_open call status kept all four in
    absurd (one.no_command_help left.asked left.command asked)

is_two : (call : Call) → IsExactlyOne call.words → (status : ℕ) (kept : Option Stuck) → IsAnswered call status kept → is_undisturbed status ≡ true → IsMisworded call.words → Kinds status → status ≡ 2
is_two call one status kept all quiet faulty (inl zero) =
    elim (all.done zero).2 [
      | inl performed ↦ absurd (not_misworded call.words one performed.answer.asked performed.answer.command faulty)
      | inr helped ↦ absurd (not_asked call.words one helped.asked faulty)
    ]
is_two call one status kept all quiet faulty (inr (inl early)) =
    absurd (not_misworded call.words one (all.refused early).2.asked (all.refused early).2.command faulty)
is_two call one status kept all quiet faulty (inr (inr (inl two))) = two
is_two call one status kept all quiet faulty (inr (inr (inr (inl four)))) =
    let (stuck, text, left) = left_open call status kept all four in
    absurd (not_misworded call.words one left.asked left.command faulty)
is_two call one status kept all quiet faulty (inr (inr (inr (inr (inl six))))) = six_disturbed status six quiet
is_two call one status kept all quiet faulty (inr (inr (inr (inr (inr seven))))) = seven_disturbed status seven quiet

-- a stop isn't there where the rows are passed
unhalted : (call : Call) (asked : Command) (status : ℕ) (text : List ℕ) (files : Files) (value : (rules_of asked).Value) → is_undisturbed status ≡ true → call.store_before.files ≡ Some files → (rules_of asked).rows.passes call.store_before.files value → IsHalted (rules_of asked) call.store_before call.store_after status text → ⊥
unhalted call asked status text files value quiet told passes (inl (why, is, says, stops)) =
    no_stop (rules_of asked) (lawful asked) call.store_before.files files told why value stops.stands passes
unhalted call asked status text files value quiet told passes (inr (path, five, says, stops)) = five_disturbed status five quiet

pub exact : (call : Call) → IsExactlyOne call.words → (status : ℕ) (kept : Option Stuck) → IsAnswered call status kept → IsExact call status
unfolding HaltsAt
exact call one status kept all = record {
  helped = λ quiet asked. is_helped call one status kept all asked (is_determined call status kept all quiet
      (λ text stopped. one.no_command_help stopped.asked stopped.command asked)
      (λ faulty. not_asked call.words one asked faulty) (kind_of status all.known));
  misused = λ quiet faulty. is_two call one status kept all quiet faulty (kind_of status all.known);
  stopped = λ quiet asked command files told why stands. stopped_as call one status kept asked files all quiet command told why stands (kind_of status all.known);
  performed = λ quiet asked command files told value passes. is_determined call status kept all quiet
      (λ text stopped. unhalted call asked status text files value quiet told passes (halted_at call one asked status text command stopped))
      (λ faulty. not_misworded call.words one asked command faulty) (kind_of status all.known);
}

-- ---- complete

-- a stop that is no refusal and no failed read is an answer of no
decision_of_stop : (call : Call) (asked : Command) (status : ℕ) (text : List ℕ) → IsFaultFree call → IsUnrefused (rules_of asked) call.store_before.files → IsHalted (rules_of asked) call.store_before call.store_after status text → IsDecision (rules_of asked) call.store_before.files status
unfolding code_at
decision_of_stop call asked status text free unrefused (inl (why, is, says, stops)) =
    let no = unrefused why stops.stands in
    inr (inl (is ∙ ap code_at no, (why, stops.stands, no)))
decision_of_stop call asked status text free unrefused (inr (path, five, says, stops)) = absurd (free.reads stops.told.rose)

decision : (call : Call) → IsExactlyOne call.words → (status : ℕ) (kept : Option Stuck) (asked : Command) → IsAnswered call status kept → IsGiven call.words asked → IsFaultFree call → IsUnrefused (rules_of asked) call.store_before.files → Kinds status → IsDecision (rules_of asked) call.store_before.files status
unfolding PassesAt HaltsAt
decision call one status kept asked all command free unrefused (inl zero) =
    elim (all.done zero).2 [
      | inl performed ↦ inl (zero, passed_at call one asked (all.done zero).0 command performed)
      | inr helped ↦ absurd (one.no_command_help asked command helped.asked)
    ]
decision call one status kept asked all command free unrefused (inr (inl early)) =
    let (text, printed, stopped) = all.refused early in
    decision_of_stop call asked status text free unrefused (halted_at call one asked status text command stopped)
decision call one status kept asked all command free unrefused (inr (inr (inl two))) =
    absurd (not_misworded call.words one asked command (misworded call (all.usage two).0 (all.usage two).2))
decision call one status kept asked all command free unrefused (inr (inr (inr (inl four)))) = inr (inr (inl four))
decision call one status kept asked all command free unrefused (inr (inr (inr (inr (inl six))))) =
    elim (all.fault six) [
      | inl unwritten ↦ absurd (free.writes unwritten.stopped.rose)
      | inr unprinted ↦ absurd (free.puts unprinted.1.rose)
    ]
decision call one status kept asked all command free unrefused (inr (inr (inr (inr (inr seven))))) = inr (inr (inr seven))

pub complete : (call : Call) → IsExactlyOne call.words → (status : ℕ) (kept : Option Stuck) → IsAnswered call status kept → IsComplete call status
complete call one status kept all = λ asked command free files told unrefused.
    decision call one status kept asked all command free unrefused (kind_of status all.known)
