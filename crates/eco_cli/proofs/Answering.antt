-- What a run leaves, from what its parts did.
use Rattle.std.proofs.Common.{◌≡◌, ◌≢◌, ◌⊎◌, inl, inr, ℕ, ◌==◌, ◌||◌, ◌++◌, ◌∷◌, [], Bool, true, false, List, Option, Some, None, ◌<◌, if◌then◌else◌, sym, ◌∙◌, ap, subst, refl, arith}
use Rattle.std.proofs.lemmas.Bool.{false≢true}
use Rattle.std.proofs.lemmas.List.{append-nil}
use Rattle.std.specs.Option.{IfSome, IsSome, is_some}
use Rattle.std.specs.Prelude.{◌↔◌}
use Rattle.eco_outside.specs.Store.{Files, StoreView, Rose, ReadKeeps}
use Rattle.eco_outside.specs.Sink.{SinkView}
use Rattle.eco_words.specs.CommandLine.{AsksHelp, Command, IsMisuse, IsGiven, IsMisnumbered}
use Rattle.eco_words.specs.declared.answer.NumberOption.{NumberOption}
use Rattle.eco_cli.specs.declared.answer.Answer.{Answer}
use Rattle.eco_pose.specs.declared.unfinished.Stuck.{Stuck}
use Rattle.eco_cli.specs.Answers.{AreWritten, IsDelivered, IsFrontWritten, IsLeftInPart, IsPut, Write, code_of, put_all, writes_of}
use Rattle.eco_cli.specs.Commands.{rules_of}
use Rattle.eco_cli.specs.Calls.{Call, IsAnswer, IsAnswered, IsCutShort, IsDecided, IsHelped, IsLeftOpen, IsMisused, IsPerformed, IsBudgetSpent, IsStopped, IsWriteFault, IsWrittenWhole, NamesOption, call_of, is_early_status}
use Rattle.eco_inputs.specs.Reading.{Oversize, IsReported}
use Rattle.eco_cli.specs.Rules.{IsAbandoned, IsHalted, IsPrepared, IsSuccess, Rules}
use Rattle.eco_cli.specs.Printing.{usage_text}

-- the statuses that come with a text
abbrev is_text_status : ℕ → Bool
is_text_status status = status == 0 || status == 1 || status == 2 || status == 3 || status == 5

-- what a run that gives up no question comes to with this text, which is to be printed, and this status
record Means (call : Call) (text : List ℕ) (status : ℕ) : Type 0 where
  decided : IsDecided call text
  whole : (call.store_after.files ≡ call.store_before.files) ⊎ IsWrittenWhole call
  done : status ≡ 0 → IsPerformed call text ⊎ IsHelped call
  refused : is_early_status status ≡ true → IsStopped call status text
  usage : status ≡ 2 → IsMisused call text
  known : is_text_status status ≡ true

-- ---- the question that was given up

-- none was
none_spent : (call : Call) (kept : Option Stuck) → kept ≡ None → IfSome kept (IsBudgetSpent call)
none_spent call kept none = subst (λ (o : Option Stuck). IfSome o (IsBudgetSpent call)) (sym none) tt

none_keeps : (status : ℕ) (kept : Option Stuck) → status ≢ 4 → kept ≡ None → (status ≡ 4) ↔ IsSome kept
none_keeps status kept other none = (
  λ e. absurd (other e),
  λ some. absurd (false≢true (subst (λ (o : Option Stuck). IsSome o) none some)),
)

text_unspent : (status : ℕ) → is_text_status status ≡ true → status ≢ 4
text_unspent status text e = false≢true (subst (λ s. is_text_status s ≡ true) e text)

-- ---- how the text was put

-- a write failed
faulted : (call : Call) (kept : Option Stuck) → kept ≡ None → IsWriteFault call → IsAnswered call 6 kept
faulted call kept none fault = record {
  done = λ e. absurd (omega arith);
  refused = λ e. absurd (false≢true e);
  usage = λ e. absurd (omega arith);
  spent = none_spent call kept none;
  keeps = none_keeps 6 kept (λ e. omega arith) none;
  fault = λ e. fault;
  cut = λ e. absurd (omega arith);
  known = refl;
}

-- memory could not be had
cut_short : (call : Call) (kept : Option Stuck) → kept ≡ None → IsCutShort call → IsAnswered call 7 kept
cut_short call kept none short = record {
  done = λ e. absurd (omega arith);
  refused = λ e. absurd (false≢true e);
  usage = λ e. absurd (omega arith);
  spent = none_spent call kept none;
  keeps = none_keeps 7 kept (λ e. omega arith) none;
  fault = λ e. absurd (omega arith);
  cut = λ e. short;
  known = refl;
}

-- both, at the status that came
faulted_as : (call : Call) (answer : ℕ) (kept : Option Stuck) → answer ≡ 6 → (answer ≢ 4 → kept ≡ None) → IsWriteFault call → IsAnswered call answer kept
faulted_as call answer kept six none fault =
    subst (λ status. IsAnswered call status kept) (sym six) (faulted call kept (none (λ four. omega arith)) fault)

cut_short_as : (call : Call) (answer : ℕ) (kept : Option Stuck) → answer ≡ 7 → (answer ≢ 4 → kept ≡ None) → IsCutShort call → IsAnswered call answer kept
cut_short_as call answer kept seven none short =
    subst (λ status. IsAnswered call status kept) (sym seven) (cut_short call kept (none (λ four. omega arith)) short)

-- nothing was printed
is_cut_short : (call : Call) → call.sink_after ≡ call.sink_before → (call.store_after.files ≡ call.store_before.files) ⊎ IsWrittenWhole call → IsCutShort call
is_cut_short call silent files = record { unprinted = ap (λ (sink : SinkView). sink.written) silent; files = files }

-- the text is that of another answer
answered : (call : Call) (text : List ℕ) (status answer : ℕ) (kept : Option Stuck) → Means call text status → (answer ≢ 4 → kept ≡ None) → IsPut call.sink_before call.sink_after text status answer → IsAnswered call answer kept
answered call text status answer kept means none (inl (is, printed)) =
    let other : status ≢ 4 = text_unspent status means.known in
    let gone : kept ≡ None = none (λ four. other (sym is ∙ four)) in
    subst (λ now. IsAnswered call now kept) (sym is) (record {
      done = λ e. (text, printed, means.done e);
      refused = λ e. (text, printed, means.refused e);
      usage = λ e. (text, printed, means.usage e);
      spent = none_spent call kept gone;
      keeps = none_keeps status kept other gone;
      fault = λ e. absurd (false≢true (subst (λ s. is_text_status s ≡ true) e means.known));
      cut = λ e. absurd (false≢true (subst (λ s. is_text_status s ≡ true) e means.known));
      known = grind (arith, means.known);
    })
answered call text status answer kept means none (inr (inl (is, fails))) =
    faulted_as call answer kept is none (inr (text, fails, means.decided))
answered call text status answer kept means none (inr (inr (is, same))) =
    cut_short_as call answer kept is none (record { unprinted = same; files = means.whole })

-- the text tells of a question that was given up
spent_answered : (call : Call) (text : List ℕ) (stuck : Stuck) (answer : ℕ) (told kept : Option Stuck) → told ≡ Some stuck → IsLeftOpen call stuck text → (answer ≡ 4 → kept ≡ told) → (answer ≢ 4 → kept ≡ None) → IsPut call.sink_before call.sink_after text 4 answer → IsAnswered call answer kept
spent_answered call text stuck answer told kept is_told left same none (inl (is, printed)) =
    let some : kept ≡ Some stuck = same is ∙ is_told in
    subst (λ now. IsAnswered call now kept) (sym is) (record {
      done = λ e. absurd (omega arith);
      refused = λ e. absurd (false≢true e);
      usage = λ e. absurd (omega arith);
      spent = subst (λ (o : Option Stuck). IfSome o (IsBudgetSpent call)) (sym some) (text, printed, left);
      keeps = (λ e. ap (λ (o : Option Stuck). is_some o) some, λ e. refl);
      fault = λ e. absurd (omega arith);
      cut = λ e. absurd (omega arith);
      known = refl;
    })
spent_answered call text stuck answer told kept is_told left same none (inr (inl (is, fails))) =
    faulted_as call answer kept is none (inr (text, fails, inr (inr (inr (inr (stuck, left))))))
spent_answered call text stuck answer told kept is_told left same none (inr (inr (is, same_text))) =
    cut_short_as call answer kept is none (record { unprinted = same_text; files = inl left.files })

-- ---- the words

pub helped : (words : List (List ℕ)) (store : StoreView) (before after : SinkView) (text : List ℕ) (answer : ℕ) (kept : Option Stuck) → AsksHelp words → kept ≡ None → IsPut before after text 0 answer → IsAnswered (call_of words store store before after) answer kept
helped words store before after text answer kept asked none put =
    answered (call_of words store store before after) text 0 answer kept (record {
      decided = inr (inl (record { asked = asked; untouched = refl }));
      whole = inl refl;
      done = λ e. inr (record { asked = asked; untouched = refl });
      refused = λ e. absurd (false≢true e);
      usage = λ e. absurd (omega arith);
      known = refl;
    }) (λ other. none) put

badly_worded : (words : List (List ℕ)) (store : StoreView) (before after : SinkView) (text : List ℕ) (answer : ℕ) (kept : Option Stuck) → IsMisuse words ⊎ NamesOption words text → kept ≡ None → IsPut before after text 2 answer → IsAnswered (call_of words store store before after) answer kept
badly_worded words store before after text answer kept cause none put =
    answered (call_of words store store before after) text 2 answer kept (record {
      decided = inr (inr (inl (record { cause = cause; untouched = refl })));
      whole = inl refl;
      done = λ e. absurd (omega arith);
      refused = λ e. absurd (false≢true e);
      usage = λ e. record { cause = cause; untouched = refl };
      known = refl;
    }) (λ other. none) put

pub misused : (words : List (List ℕ)) (store : StoreView) (before after : SinkView) (text : List ℕ) (answer : ℕ) (kept : Option Stuck) → IsMisuse words → kept ≡ None → IsPut before after text 2 answer → IsAnswered (call_of words store store before after) answer kept
misused words store before after text answer kept faulty none put =
    badly_worded words store before after text answer kept (inl faulty) none put

pub misnumbered : (words : List (List ℕ)) (store : StoreView) (before after : SinkView) (option : NumberOption) (text : List ℕ) (answer : ℕ) (kept : Option Stuck) → IsMisnumbered words option → text ≡ usage_text option → kept ≡ None → IsPut before after text 2 answer → IsAnswered (call_of words store store before after) answer kept
misnumbered words store before after option text answer kept wrong says none put =
    badly_worded words store before after text answer kept (inr (option, wrong, says)) none put

pub untouched : (words : List (List ℕ)) (store : StoreView) (sink : SinkView) (answer : ℕ) (kept : Option Stuck) → answer ≡ 7 → kept ≡ None → IsAnswered (call_of words store store sink sink) answer kept
untouched words store sink answer kept seven none =
    cut_short_as (call_of words store store sink sink) answer kept seven (λ other. none)
    (is_cut_short (call_of words store store sink sink) refl (inl refl))

-- memory could not be had before anything was written
pub unprepared : (words : List (List ℕ)) (before after : StoreView) (sink : SinkView) (answer : ℕ) (kept : Option Stuck) → ReadKeeps before after → answer ≡ 7 → kept ≡ None → IsAnswered (call_of words before after sink sink) answer kept
unprepared words before after sink answer kept keeps seven none =
    cut_short_as (call_of words before after sink sink) answer kept seven (λ other. none)
    (is_cut_short (call_of words before after sink sink) refl (inl keeps.files))

-- ---- a command

-- what the status of a stop may be
record IsStopStatus (status : ℕ) : Type 0 where
  undone : status ≢ 0
  unused : status ≢ 2
  text : is_text_status status ≡ true

stop_status_of : (no : Bool) → IsStopStatus (if no then 1 else 3)
stop_status_of true = record { undone = λ e. omega arith; unused = λ e. omega arith; text = refl }
stop_status_of false = record { undone = λ e. omega arith; unused = λ e. omega arith; text = refl }

halted_status : (rules : Rules) (before after : StoreView) (status : ℕ) (text : List ℕ) → IsHalted rules before after status text → IsStopStatus status
halted_status rules before after status text (inl (why, is, says, stops)) = subst IsStopStatus (sym is) (stop_status_of (rules.is_no why))
halted_status rules before after status text (inr (path, is, says, stops)) =
    subst IsStopStatus (sym is) (record { undone = λ e. omega arith; unused = λ e. omega arith; text = refl })

-- ---- what the store tells stays told where no write went wrong

told_still : (oversize : Option Oversize) (before mid after : StoreView) (writes : List Write) → AreWritten mid after writes → IsReported oversize before mid → IsReported oversize before after
told_still None before mid after writes written h = tt
told_still (Some oversize) before mid after writes written h = record {
  taken = subst (λ taken. oversize.most < taken) (sym written.taken) h.taken;
  blamed = written.blamed ∙ h.blamed;
  no_fault = λ files is. written.read_faults ∙ h.no_fault files is;
}

halted_still : (rules : Rules) (before mid after : StoreView) (writes : List Write) (status : ℕ) (text : List ℕ) → AreWritten mid after writes → IsHalted rules before mid status text → IsHalted rules before after status text
halted_still rules before mid after writes status text written (inl (why, is, says, stops)) = inl (
  why,
  is,
  says,
  record { stands = stops.stands; told = told_still (rules.too_long why) before mid after writes written stops.told },
)
halted_still rules before mid after writes status text written (inr (path, is, says, stops)) = inr (
  path,
  is,
  says,
  record {
    comes = stops.comes;
    told = record {
      rose = subst (λ count. Rose before.read_faults count) (sym written.read_faults) stops.told.rose;
      blamed = written.blamed ∙ stops.told.blamed;
    };
  },
)

not_nil : (front : List Write) (failed : Write) (rest : List Write) → front ++ failed ∷ rest ≡ [] → ⊥
not_nil [] failed rest e = cc
not_nil (write ∷ front) failed rest e = cc

nil_front : (front rest : List Write) → front ++ rest ≡ [] → front ≡ []
nil_front [] rest e = refl
nil_front (write ∷ front) rest e = cc

-- where nothing is to be written, no file is changed
kept_files : (before mid after : StoreView) (writes : List Write) → writes ≡ [] → ReadKeeps before mid → AreWritten mid after writes → after.files ≡ before.files
kept_files before mid after writes none keeps written =
    written.files ∙ ap (put_all mid.files) none ∙ keeps.files

kept_front : (before mid after : StoreView) (writes : List Write) → writes ≡ [] → ReadKeeps before mid → IsFrontWritten mid after writes → after.files ≡ before.files
kept_front before mid after writes none keeps front =
    front.files ∙ ap (put_all mid.files) (nil_front front.front front.rest (sym front.cut ∙ none)) ∙ keeps.files

module _ (words : List (List ℕ)) (asked : Command) (command : IsGiven words asked) (store_before store_mid store_after : StoreView) (sink_before sink_after : SinkView) (keeps : ReadKeeps store_before store_mid) where
  abbrev the_call : Call
  the_call = call_of words store_before store_after sink_before sink_after

  -- a stop, which writes nothing
  stop_means : (status : ℕ) (text : List ℕ) → IsHalted (rules_of asked) store_before store_after status text → store_after.files ≡ store_before.files → Means the_call text status
  stop_means status text halted files =
      let kind = halted_status (rules_of asked) store_before store_after status text halted in
      let stopped : IsStopped the_call status text = record { asked = asked; command = command; halted = halted; files = files } in
      record {
        decided = inr (inr (inr (inl (status, stopped))));
        whole = inl files;
        done = λ e. absurd (kind.undone e);
        refused = λ e. stopped;
        usage = λ e. absurd (kind.unused e);
        known = kind.text;
      }

  stop_answered : (writes : List Write) (status : ℕ) (text : List ℕ) (answer : ℕ) (kept : Option Stuck) → writes ≡ [] → IsHalted (rules_of asked) store_before store_mid status text → (answer ≢ 4 → kept ≡ None) → IsDelivered writes text status store_mid store_after sink_before sink_after answer → IsAnswered the_call answer kept
  stop_answered writes status text answer kept nothing halted none (inl (written, put)) =
      answered the_call text status answer kept
      (stop_means status text (halted_still (rules_of asked) store_before store_mid store_after writes status text written halted)
      (kept_files store_before store_mid store_after writes nothing keeps written)) none put
  stop_answered writes status text answer kept nothing halted none (inr (inl (six, stopped, silent))) =
      absurd (not_nil stopped.front stopped.failed stopped.rest (sym stopped.cut ∙ nothing))
  stop_answered writes status text answer kept nothing halted none (inr (inr (seven, front, silent))) =
      cut_short_as the_call answer kept seven none
      (is_cut_short the_call silent (inl (kept_front store_before store_mid store_after writes nothing keeps front)))

  -- a question that was given up: nothing is written
  stuck_answered : (writes : List Write) (text : List ℕ) (stuck : Stuck) (answer : ℕ) (told kept : Option Stuck) → writes ≡ [] → told ≡ Some stuck → IsAbandoned (rules_of asked) store_before stuck text → (answer ≡ 4 → kept ≡ told) → (answer ≢ 4 → kept ≡ None) → IsDelivered writes text 4 store_mid store_after sink_before sink_after answer → IsAnswered the_call answer kept
  stuck_answered writes text stuck answer told kept nothing is_told given_up same none (inl (written, put)) =
      let left : IsLeftOpen the_call stuck text = record {
        asked = asked;
        command = command;
        given_up = given_up;
        files = kept_files store_before store_mid store_after writes nothing keeps written;
      } in
      spent_answered the_call text stuck answer told kept is_told left same none put
  stuck_answered writes text stuck answer told kept nothing is_told given_up same none (inr (inl (six, stopped, silent))) =
      absurd (not_nil stopped.front stopped.failed stopped.rest (sym stopped.cut ∙ nothing))
  stuck_answered writes text stuck answer told kept nothing is_told given_up same none (inr (inr (seven, front, silent))) =
      cut_short_as the_call answer kept seven none
      (is_cut_short the_call silent (inl (kept_front store_before store_mid store_after writes nothing keeps front)))

  -- a success, whose writes follow
  done_answered : (writes : List Write) (text : List ℕ) (answer : ℕ) (kept : Option Stuck) → IsSuccess (rules_of asked) store_before writes text → (answer ≢ 4 → kept ≡ None) → IsDelivered writes text 0 store_mid store_after sink_before sink_after answer → IsAnswered the_call answer kept
  done_answered writes text answer kept success none (inl (written, put)) =
      let of : IsAnswer the_call writes text = record { asked = asked; command = command; success = success } in
      let files : store_after.files ≡ put_all store_before.files writes = written.files ∙ ap (λ told. put_all told writes) keeps.files in
      let performed : IsPerformed the_call text = record { writes = writes; answer = of; files = files } in
      answered the_call text 0 answer kept (record {
        decided = inl performed;
        whole = inr (record { writes = writes; text = text; answer = of; front = record { front = writes; rest = []; cut = sym (append-nil writes); files = files } });
        done = λ e. inl performed;
        refused = λ e. absurd (false≢true e);
        usage = λ e. absurd (omega arith);
        known = refl;
      }) none put
  done_answered writes text answer kept success none (inr (inl (six, stopped, silent))) =
      faulted_as the_call answer kept six none (inl (record {
        writes = writes;
        text = text;
        answer = record { asked = asked; command = command; success = success };
        stopped = record {
          front = stopped.front;
          failed = stopped.failed;
          rest = stopped.rest;
          cut = stopped.cut;
          rose = subst (λ count. Rose count store_after.write_faults) keeps.write_faults stopped.rose;
          blamed = stopped.blamed;
          left = subst (λ (told : Option Files). IsLeftInPart (put_all told stopped.front) store_after.files stopped.failed) keeps.files stopped.left;
        };
        silent = silent;
      }))
  done_answered writes text answer kept success none (inr (inr (seven, front, silent))) =
      cut_short_as the_call answer kept seven none
      (is_cut_short the_call silent (inr (record {
        writes = writes;
        text = text;
        answer = record { asked = asked; command = command; success = success };
        front = record {
          front = front.front;
          rest = front.rest;
          cut = front.cut;
          files = front.files ∙ ap (λ told. put_all told front.front) keeps.files;
        };
      })))

  -- what was prepared is delivered, and the question that was given up is kept where its text was put
  pub delivered : (answer : Answer) (code : ℕ) (kept : Option Stuck) → IsPrepared (rules_of asked) store_before store_mid answer → (code ≡ 4 → kept ≡ answer.stuck) → (code ≢ 4 → kept ≡ None) → IsDelivered (writes_of answer) answer.text.items (code_of answer.status) store_mid store_after sink_before sink_after code → IsAnswered the_call code kept
  delivered answer code kept (inl (zero, success)) same none h =
      done_answered (writes_of answer) answer.text.items code kept success none
      (subst (λ status. IsDelivered (writes_of answer) answer.text.items status store_mid store_after sink_before sink_after code) zero h)
  delivered answer code kept (inr (inl (nothing, halted))) same none h =
      stop_answered (writes_of answer) (code_of answer.status) answer.text.items code kept nothing halted none h
  delivered answer code kept (inr (inr (four, nothing, (stuck, told, given_up)))) same none h =
      stuck_answered (writes_of answer) answer.text.items stuck code answer.stuck kept nothing told given_up same none
      (subst (λ status. IsDelivered (writes_of answer) answer.text.items status store_mid store_after sink_before sink_after code) four h)
