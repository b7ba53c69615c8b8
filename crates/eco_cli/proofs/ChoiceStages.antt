-- What the check of nets that are to be cut together comes to.
use Rattle.std.proofs.Common.{◌≡◌, ◌≢◌, inl, inr, ℕ, ◌≤◌, List, [], ◌∷◌, length, refl, sym, ap, subst, arith}
use Rattle.std.specs.List.{All, AllPairs}
use Rattle.std.proofs.lemmas.List.{length-map}
use Rattle.std.proofs.lemmas.List.Elements.{All-map}
use Rattle.eco_meaning.specs.Circuit.{IsDriven, names}
use Rattle.eco_choices.specs.Choices.{IsChoice}
use Rattle.eco_gates.specs.declared.gate.NetId.{NetId}
use Rattle.eco_netlist.specs.Netlists.{name_at, names_at}
use Rattle.eco_outside.specs.Store.{StoreView}
use Rattle.eco_change.specs.Change.{ChangeValue, IsChange}
use Rattle.eco_pose.specs.declared.unfinished.Stuck.{Stuck}
use Rattle.eco_locate.specs.declared.choosing.Need.{Need}
use Rattle.eco_locate.specs.declared.choosing.Choice.{Choice}
use Rattle.eco_locate.specs.declared.choosing.Choice.TheVariants.{Suffices, Wrong, GivenUp}
use Rattle.eco_locate.specs.Chosen.{AreNeeds, TellsChoice}
use Rattle.eco_locate.specs.Questions.{IsGivenUpOn}
use Rattle.eco_meaning.specs.Meaning.{IsWrong}
use Rattle.eco_choices.specs.Choices.{IsWrongBut}
use Rattle.eco_report.specs.Texts.{unrectifiable_text}
use Rattle.eco_words.specs.CommandLine.{LocateOptions}
use Rattle.eco_inputs.specs.Nets.{AreNamed}
use Rattle.eco_cli.specs.declared.answer.Answer.{Answer}
use Rattle.eco_cli.specs.declared.locate.LocateStop.TheVariants.{NoChoice}
use Rattle.eco_cli.specs.Answers.{IsSpentAnswer, IsTextAnswer}
use Rattle.eco_cli.specs.Choice.{IsCutAnswer, choice_text}
use Rattle.eco_cli.specs.Locate.{changes_rows, locate_rules, rules_for}
use Rattle.eco_cli.specs.Printing.{budget_text}
use Rattle.eco_cli.specs.Rules.{IsPrepared}
use Rattle.eco_cli.proofs.LocateStages.{asked_passes, rectifiable}
use Rattle.eco_cli.proofs.Preparing.{spent_prepared, stop_prepared}

module _ (options : LocateOptions) (change : ChangeValue) (nets : List NetId) (before after : StoreView) (passed : (changes_rows options).passes before.files change) (is : IsChange change.old change.goal) (some : 1 ≤ length nets) where
  -- nets are named
  none : {X : Type 0} → AreNamed change.old [] nets → X
  none named = absurd (omega (arith, some, ap length named.are, length-map nets (λ (net : NetId). name_at (names change.old) net.0)))

  -- they suffice
  pub suffice_prepared : (given : List (List ℕ)) → AreNamed change.old given nets → IsChoice change.old change.goal given → (needs : List Need) → AreNeeds change.old change.goal options.budget given (length given) needs → (answer : Answer) → IsCutAnswer options change given (choice_text given needs) answer → IsPrepared (rules_for given options) before after answer
  suffice_prepared [] named choice needs needed answer cut = none named
  suffice_prepared (net ∷ more) named choice needs needed answer (bytes, netlist, text, (zero, written, told)) =
      let given = net ∷ more in
      let driven = subst (All (IsDriven change.old)) named.are (All-map (IsDriven change.old) (λ (net : NetId). name_at (names change.old) net.0) nets named.can.driven) in
      let once = subst (AllPairs (λ a b. a ≢ b)) named.are named.can.once in
      inl (
        zero,
        record {
          value = change;
          passed = (change, asked_passes options change nets given before passed named, (choice, refl));
          answers = record {
            choice = choice;
            needs = needs;
            needed = needed;
            told = told;
            bytes = bytes;
            netlist = netlist;
            written = written;
            is_cut = text;
            rectifiable = rectifiable change given bytes netlist is once driven choice text;
          };
        },
      )

  -- an input is left wrong
  pub wrong_prepared : (given : List (List ℕ)) → AreNamed change.old given nets → (input : _) → IsWrongBut change.old change.goal given input → IsWrong change.old change.goal input → (answer : Answer) → IsTextAnswer 1 (unrectifiable_text input) answer → IsPrepared (rules_for given options) before after answer
  wrong_prepared [] named input still wrong answer stops = none named
  wrong_prepared (net ∷ more) named input still wrong answer stops =
      stop_prepared (rules_for (net ∷ more) options) before after (NoChoice (unrectifiable_text input))
      (inr (change, asked_passes options change nets (net ∷ more) before passed named, (unrectifiable_text input, refl, record { input = input; wrong = wrong; still = still; told = refl })), tt)
      answer stops

  -- the question was given up
  pub stuck_prepared : (given : List (List ℕ)) → AreNamed change.old given nets → (stuck : Stuck) → IsGivenUpOn change.old change.goal options.budget given stuck → (answer : Answer) → IsSpentAnswer (budget_text options.budget stuck) stuck answer → IsPrepared (rules_for given options) before after answer
  stuck_prepared [] named stuck given_up answer spent = none named
  stuck_prepared (net ∷ more) named stuck given_up answer spent =
      spent_prepared (rules_for (net ∷ more) options) before after change stuck (budget_text options.budget stuck) (asked_passes options change nets (net ∷ more) before passed named)
      (record { given_up = given_up; told = refl }) answer spent

  -- ---- the same of what was told of the nets, where the words name them

  module _ (named : AreNamed change.old options.nets nets) (limit : ℕ) (same : limit ≡ options.budget) where
    abbrev own : List (List ℕ)
    own = names_at (names change.old) nets

    told_by : (choice : Choice) → TellsChoice change.old change.goal limit own choice → TellsChoice change.old change.goal options.budget options.nets choice
    told_by choice told =
        subst (λ n. TellsChoice change.old change.goal n options.nets choice) same (subst (λ list. TellsChoice change.old change.goal limit list choice) named.are told)

    pub suffices_by : (choice : Choice) (needs : _) → choice ≡ Suffices needs → TellsChoice change.old change.goal limit own choice → (text : List ℕ) → text ≡ choice_text options.nets needs.items → (answer : Answer) → IsCutAnswer options change own text answer → IsPrepared (locate_rules options) before after answer
    suffices_by choice needs is told text said answer cut =
        let (all, needed) = subst (TellsChoice change.old change.goal options.budget options.nets) is (told_by choice told) in
        suffice_prepared options.nets named all needs.items needed answer
        (subst (λ list. IsCutAnswer options change list (choice_text options.nets needs.items) answer) named.are (subst (λ t. IsCutAnswer options change own t answer) said cut))

    pub wrong_by : (choice : Choice) (input : _) → choice ≡ Wrong input → TellsChoice change.old change.goal limit own choice → (answer : Answer) → IsTextAnswer 1 (unrectifiable_text input) answer → IsPrepared (locate_rules options) before after answer
    wrong_by choice input is told answer stops =
        let (still, wrong) = subst (TellsChoice change.old change.goal options.budget options.nets) is (told_by choice told) in
        wrong_prepared options.nets named input still wrong answer stops

    pub stuck_by : (choice : Choice) (stuck : Stuck) → choice ≡ GivenUp stuck → TellsChoice change.old change.goal limit own choice → (answer : Answer) → IsSpentAnswer (budget_text options.budget stuck) stuck answer → IsPrepared (locate_rules options) before after answer
    stuck_by choice stuck is told answer spent =
        stuck_prepared options.nets named stuck (subst (TellsChoice change.old change.goal options.budget options.nets) is (told_by choice told)) answer spent

    -- as many lines as nets
    pub as_many : (choice : Choice) (needs : _) → choice ≡ Suffices needs → TellsChoice change.old change.goal limit own choice → length options.nets ≡ length needs.items
    as_many choice needs is told =
        sym (subst (TellsChoice change.old change.goal options.budget options.nets) is (told_by choice told)).1.as_many
