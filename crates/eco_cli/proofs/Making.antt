-- What was made is kept where `gen` is done, and nowhere else.
use Rattle.std.proofs.Common.{◌≡◌, ◌≢◌, inl, inr, ℕ, List, Option, Some, None, sym, ◌∙◌, ap, subst, refl, arith}
use Rattle.std.proofs.lemmas.Bool.{false≢true}
use Rattle.std.specs.Option.{IfSome, IsSome, is_some}
use Rattle.eco_outside.specs.Store.{StoreView}
use Rattle.eco_outside.specs.Sink.{SinkView}
use Rattle.eco_targets.specs.declared.Made.{Made}
use Rattle.eco_words.specs.CommandLine.{AsksHelp, GenOptions, IsExactlyOne, IsGen, IsMisnumbered}
use Rattle.eco_words.specs.CommandLine.Command.{gen}
use Rattle.eco_words.specs.declared.answer.NumberOption.{NumberOption}
use Rattle.eco_cli.specs.declared.draw.Drawn.{Drawn}
use Rattle.eco_cli.specs.Answers.{IsDelivered, code_of, writes_of}
use Rattle.eco_cli.specs.Calls.{AsksInstance, Call, IsKept, IsPrinted, IsShown, call_of}
use Rattle.eco_cli.specs.Gen.{IsDrawnAnswer, KeepsMade}

-- nothing is kept, where the words aren't `gen` or the status isn't 0
none_kept : (call : Call) (status : ℕ) (made : Option Made) → made ≡ None → ((status ≡ 0) × AsksInstance call.words → ⊥) → IsKept call status made
none_kept call status made none other = record {
  shown = subst (λ (o : Option Made). IfSome o (IsShown call)) (sym none) tt;
  just = (λ some. absurd (false≢true (subst (λ (o : Option Made). IsSome o) none some)), λ both. absurd (other both));
}

-- it is kept, where it is shown
some_kept : (call : Call) (status : ℕ) (made : Made) (kept : Option Made) → kept ≡ Some made → status ≡ 0 → IsShown call made → IsKept call status kept
some_kept call status made kept is zero shown = record {
  shown = subst (λ (o : Option Made). IfSome o (IsShown call)) (sym is) shown;
  just = (λ some. (zero, (shown.options, shown.command)), λ both. ap (λ (o : Option Made). is_some o) is);
}

-- ---- words that are no command

module _ (words : List (List ℕ)) (one : IsExactlyOne words) (store_before store_after : StoreView) (sink_before sink_after : SinkView) (status : ℕ) (made : Option Made) (none : made ≡ None) where
  abbrev words_call : Call
  words_call = call_of words store_before store_after sink_before sink_after

  pub help_unmade : AsksHelp words → IsKept words_call status made
  help_unmade asked = none_kept words_call status made none (λ both. one.no_command_help (gen both.1.0) both.1.1 asked)

  pub number_unmade : (option : NumberOption) → IsMisnumbered words option → IsKept words_call status made
  number_unmade option wrong =
      none_kept words_call status made none (λ both. one.no_command_number (gen both.1.0) option both.1.1 wrong)

-- memory could not be had
pub cut_unmade : (words : List (List ℕ)) (store_before store_after : StoreView) (sink_before sink_after : SinkView) (status : ℕ) (made : Option Made) → status ≡ 7 → made ≡ None → IsKept (call_of words store_before store_after sink_before sink_after) status made
cut_unmade words store_before store_after sink_before sink_after status made seven none =
    none_kept (call_of words store_before store_after sink_before sink_after) status made none (λ both. omega (arith, both.0, seven))

-- ---- `gen`

module _ (words : List (List ℕ)) (options : GenOptions) (command : IsGen words options) (store_before store_after : StoreView) (sink_before sink_after : SinkView) where
  abbrev gen_call : Call
  gen_call = call_of words store_before store_after sink_before sink_after

  -- what was made is kept, where its summary is printed
  made_kept : (made : Made) (ending : Drawn) (kept : Option Made) → KeepsMade options made ending → kept ≡ ending.made → IsPrinted gen_call ending.answer.text.items → IsKept gen_call 0 kept
  made_kept made ending kept is same printed =
      some_kept gen_call 0 made kept (same ∙ is.kept) refl (record {
        options = options;
        command = command;
        solves = is.solves;
        printed = subst (IsPrinted gen_call) is.answer.2 printed;
      })

  -- the status isn't 0
  undone_kept : (status : ℕ) (kept : Option Made) → status ≢ 0 → (status ≢ 0 → kept ≡ None) → IsKept gen_call status kept
  undone_kept status kept other none = none_kept gen_call status kept (none other) (λ both. other both.0)

  put_kept : (ending : Drawn) (status : ℕ) (kept : Option Made) → IsDrawnAnswer options ending → (status ≡ 0 → kept ≡ ending.made) → (status ≢ 0 → kept ≡ None) → status ≡ code_of ending.answer.status → IsPrinted gen_call ending.answer.text.items → IsKept gen_call status kept
  put_kept ending status kept (inl (made, is)) same none code printed =
      let zero : status ≡ 0 = code ∙ is.answer.0 in
      subst (λ now. IsKept gen_call now kept) (sym zero) (made_kept made ending kept is (same zero) printed)
  put_kept ending status kept (inr (stuck, is)) same none code printed =
      let four : status ≡ 4 = code ∙ is.answer.0 in
      undone_kept status kept (λ zero. omega (arith, zero, four)) none

  -- what was drawn is delivered, and what was made is kept where the status is 0
  pub drawn_kept : (ending : Drawn) (status : ℕ) (kept : Option Made) → IsDrawnAnswer options ending → (status ≡ 0 → kept ≡ ending.made) → (status ≢ 0 → kept ≡ None) → IsDelivered (writes_of ending.answer) ending.answer.text.items (code_of ending.answer.status) store_before store_after sink_before sink_after status → IsKept gen_call status kept
  drawn_kept ending status kept is same none (inl (written, inl (code, printed))) = put_kept ending status kept is same none code printed
  drawn_kept ending status kept is same none (inl (written, inr (inl (six, fails)))) =
      undone_kept status kept (λ zero. omega (arith, zero, six)) none
  drawn_kept ending status kept is same none (inl (written, inr (inr (seven, silent)))) =
      undone_kept status kept (λ zero. omega (arith, zero, seven)) none
  drawn_kept ending status kept is same none (inr (inl (six, stopped, silent))) =
      undone_kept status kept (λ zero. omega (arith, zero, six)) none
  drawn_kept ending status kept is same none (inr (inr (seven, front, silent))) =
      undone_kept status kept (λ zero. omega (arith, zero, seven)) none
