-- The answers of a command that stops or gives up.
use Rattle.std.proofs.Common.{inl, inr, ℕ, List, subst, sym}
use Rattle.eco_outside.specs.Store.{StoreView}
use Rattle.eco_pose.specs.declared.unfinished.Stuck.{Stuck}
use Rattle.eco_cli.specs.declared.answer.Answer.{Answer}
use Rattle.eco_inputs.specs.declared.halt.Halt.TheVariants as halt
use Rattle.eco_cli.specs.Answers.{IsSpentAnswer, IsTextAnswer, failed_text}
use Rattle.eco_inputs.specs.Reading.{Halts}
use Rattle.eco_cli.specs.Rules.{IsPrepared, Rules, stop_code}

-- it stops for a cause of its own, and says so
pub stop_prepared : (rules : Rules) (before after : StoreView) (why : rules.Stop) → Halts rules.too_long rules.rows before after (halt.For why) → (answer : Answer) → IsTextAnswer (stop_code rules why) (rules.says why) answer → IsPrepared rules before after answer
stop_prepared rules before after why h answer (is, none, text) = inr (inl (
  none,
  inl (why, is, text, record { stands = h.0; told = h.1 }),
))

-- a file can't be read, and it says so
pub unread_prepared : (rules : Rules) (before after : StoreView) (path : _) → Halts rules.too_long rules.rows before after (halt.Unread path) → (answer : Answer) → IsTextAnswer 5 (failed_text path.now) answer → IsPrepared rules before after answer
unread_prepared rules before after path h answer (is, none, text) = inr (inl (
  none,
  inr (path.now, is, text, record { comes = h.0; told = h.1 }),
))

-- a question was given up, and it says so
pub spent_prepared : (rules : Rules) (before after : StoreView) (matter : rules.Matter) (stuck : Stuck) (text : List ℕ) → rules.asking.passes before.files matter → rules.gives_up matter stuck text → (answer : Answer) → IsSpentAnswer text stuck answer → IsPrepared rules before after answer
spent_prepared rules before after matter stuck text passed given_up answer (is, none, kept, same) = inr (inr (
  is,
  none,
  (stuck, kept, record { matter = matter; passed = passed; given_up = subst (rules.gives_up matter stuck) (sym same) given_up }),
))
