-- What `locate` comes to, from stage to stage.
use Rattle.std.proofs.Common.{◌≡◌, ◌≢◌, inl, inr, ℕ, ◌<◌, List, [], ◌∷◌, ◌++◌, map, length, codes, Some, None, refl, sym, ◌∙◌, ap, subst, arith}
use Rattle.std.specs.List.{All, AllPairs, Contains, slice_get}
use Rattle.std.specs.Option.{option_map}
use Rattle.std.proofs.lemmas.List.{length-map}
use Rattle.std.proofs.lemmas.List.Elements.{All-contains, All-cons, All-map, All-nil, Contains-append_left}
use Rattle.eco_lists.proofs.Members.{All-back, All-front, Contains-map, Contains_first, Contains_none}
use Rattle.eco_lists.proofs.Places.{All_from_places, Contains_at, no_items, pairs_cons}
use Rattle.eco_meaning.specs.Circuit.{Circuit, IsDriven, names}
use Rattle.eco_meaning.specs.Meaning.{Goal, IsRectifiable}
use Rattle.eco_laws.specs.Kept.{CaresForInputs}
use Rattle.eco_choices.specs.Choices.{IsChoice}
use Rattle.eco_gates.specs.declared.gate.NetId.{NetId}
use Rattle.eco_netlist.specs.Netlists.{AreNets, IsChecked, name_at, names_at}
use Rattle.eco_netlist.proofs.SoundNetlists.{sound_netlist}
use Rattle.eco_outside.specs.Store.{StoreView}
use Rattle.eco_cutting.proofs.CutLemmas.{cut_is_rectifiable}
use Rattle.eco_change.specs.Change.{ChangeValue, IsChange}
use Rattle.eco_pose.specs.declared.question.Question.TheVariants as questions
use Rattle.eco_pose.specs.declared.unfinished.Unfinished.{Unfinished}
use Rattle.eco_pose.specs.declared.unfinished.Unfinished.TheVariants.{GivenUp, OutOfMemory}
use Rattle.eco_pose.specs.Stuck.{IsLeft}
use Rattle.eco_query.specs.Problem.{ProblemValue}
use Rattle.eco_locate.specs.declared.answer.Answer.TheVariants as answers
use Rattle.eco_locate.specs.declared.answer.Located.{Located}
use Rattle.eco_locate.specs.declared.ranking.Ranked.{Ranked}
use Rattle.eco_locate.specs.Comparing.{NoneIsWrong}
use Rattle.eco_locate.specs.Judged.{IsJudged, IsListed, TellsAnswer, excluded_nets, nets_in}
use Rattle.eco_locate.specs.Moves.{IsRearranged}
use Rattle.eco_locate.proofs.LocatedLemmas.{judged_is_located}
use Rattle.eco_words.specs.CommandLine.{LocateOptions}
use Rattle.eco_inputs.specs.declared.halt.Halt.{Halt}
use Rattle.eco_inputs.specs.declared.nets.NetFault.{NetFault}
use Rattle.eco_inputs.specs.Nets.{AreNamed, CanBeCutTogether, IsNetFault, net_fault_text, nets_row}
use Rattle.eco_inputs.specs.Reading.{Halts}
use Rattle.eco_inputs.specs.Rows.{named_row}
use Rattle.eco_inputs.proofs.ReadingLaws.{front_halts}
use Rattle.eco_cli.specs.declared.answer.Answer.{Answer}
use Rattle.eco_cli.specs.declared.locate.LocateStop.{LocateStop}
use Rattle.eco_cli.specs.declared.locate.LocateStop.TheVariants.{BadNet, NoChoice}
use Rattle.eco_cli.specs.declared.locate.Said.{Said}
use Rattle.eco_cli.specs.Answers.{IsTextAnswer}
use Rattle.eco_cli.specs.Found.{IsFound, found_text}
use Rattle.eco_cli.specs.Choice.{IsCutAnswer, IsCutText}
use Rattle.eco_cli.specs.Locate.{IsOpenAnswer, IsSaid, asked_rows, changes_rows, cut_row, locate_rows, locate_rules, long_locate, rules_for, unweighted}
use Rattle.eco_cli.specs.Printing.{budget_text}
use Rattle.eco_cli.specs.Rules.{IsPrepared}
use Rattle.eco_cli.specs.Spent.{IsUnfinishedAnswer}
use Rattle.eco_cli.proofs.Preparing.{spent_prepared, stop_prepared}

-- no change is come to
pub changes_halts : (options : LocateOptions) (before after : StoreView) (why : Halt LocateStop) → Halts (long_locate options) (changes_rows options) before after why → Halts (long_locate options) (locate_rows options.nets options) before after why
changes_halts options before after why halts =
    front_halts (long_locate options) (asked_rows options.nets options) (λ change. named_row NoChoice (cut_row options.nets options change)) before after why
    (front_halts (long_locate options) (changes_rows options) (λ change. named_row BadNet (nets_row change.old options.nets change)) before after why halts)

-- ---- the nets that the words name

-- they can't be cut together
pub fault_prepared : (options : LocateOptions) (change : ChangeValue) (fault : NetFault) (before after : StoreView) → (changes_rows options).passes before.files change → IsNetFault change.old options.nets fault → (answer : Answer) → IsTextAnswer 3 (net_fault_text options.nets fault) answer → IsPrepared (locate_rules options) before after answer
fault_prepared options change fault before after passed is answer stops =
    stop_prepared (locate_rules options) before after (BadNet fault) (inl (inr (change, passed, (fault, refl, is))), tt) answer stops

-- they can
pub asked_passes : (options : LocateOptions) (change : ChangeValue) (nets : List NetId) (given : List (List ℕ)) (before : StoreView) → (changes_rows options).passes before.files change → AreNamed change.old given nets → (asked_rows given options).passes before.files change
asked_passes options change nets given before passed named = (change, passed, (together, refl))
  where
    f : Circuit
    f = change.old

    all : All (IsDriven f) (names_at (names f) nets)
    all = All-map (IsDriven f) (λ (net : NetId). name_at (names f) net.0) nets named.can.driven

    count : length (names_at (names f) nets) ≡ length given
    count = ap length named.are

    together : CanBeCutTogether f given
    together = (
      omega (arith, named.can.few, count, length-map nets (λ (net : NetId). name_at (names f) net.0)),
      record {
        driven = subst (All (IsDriven f)) named.are all;
        once = subst (AllPairs (λ a b. a ≢ b)) named.are named.can.once;
      },
    )

-- none is named
pub none_named : (options : LocateOptions) (change : ChangeValue) (nets : List NetId) → AreNamed change.old options.nets nets → length nets ≡ 0 → options.nets ≡ []
none_named options change nets named none = no_items options.nets (sym (ap length named.are) ∙ length-map nets (λ (net : NetId). name_at (names change.old) net.0) ∙ none)

pub single_prepared : (options : LocateOptions) (before after : StoreView) → options.nets ≡ [] → (answer : Answer) → IsPrepared (rules_for [] options) before after answer → IsPrepared (locate_rules options) before after answer
single_prepared options before after none answer is = subst (λ (nets : List (List ℕ)). IsPrepared (rules_for nets options) before after answer) (sym none) is

-- ---- the nets that were judged

module _ (f : Circuit) (goal : Goal) (limit : ℕ) (located : Located) (judged : IsJudged f goal limit located) where
  pub listed_within : AreNets (names f) located.listed.items
  listed_within =
      All-front (λ net. net.0 < length (names f)) located.listed.items (map (λ o. o.net) located.over.items ++ excluded_nets located.excluding.items) judged.all.within

  pub open_within : All (λ o. o.net.0 < length (names f)) located.over.items
  open_within =
      let both = All-back (λ net. net.0 < length (names f)) located.listed.items (map (λ o. o.net) located.over.items ++ excluded_nets located.excluding.items) judged.all.within in
      let nets = All-front (λ net. net.0 < length (names f)) (map (λ o. o.net) located.over.items) (excluded_nets located.excluding.items) both in
      All_from_places (λ o. o.net.0 < length (names f)) located.over.items (λ k o at.
      All-contains (λ net. net.0 < length (names f)) (map (λ o. o.net) located.over.items) o.net nets (Contains-map (λ o. o.net) located.over.items o (Contains_at located.over.items k o at)))

  -- the first net that is said is listed
  module _ (said : Said) (is : IsSaid f located said) where
    first_of : (nets : List Ranked) → (net : NetId) → option_map (λ (r : Ranked). r.net) (slice_get nets 0) ≡ Some net → (first : Ranked) × (rest : List Ranked) × (nets ≡ first ∷ rest) × (first.net ≡ net)
    first_of [] net e = absurd cc
    first_of (first ∷ rest) net e = (first, rest, refl, cc)

    pub first_listed : (net : NetId) → said.first ≡ Some net → Contains located.listed.items net
    first_listed net e =
        let (first, rest, same, one) = first_of is.nets net (sym is.first ∙ e) in
        (is.ranked.members net).1 (subst (λ nets. Contains (map (λ r. r.net) nets) net) (sym same)
        (subst (Contains (map (λ r. r.net) (first ∷ rest))) one (Contains_first first.net (map (λ r. r.net) rest))))

    pub first_within : (net : NetId) → said.first ≡ Some net → net.0 < length (names f)
    first_within net e = All-contains (λ net. net.0 < length (names f)) located.listed.items net listed_within (first_listed net e)

    pub first_driven : (net : NetId) → said.first ≡ Some net → IsDriven f (name_at (names f) net.0)
    first_driven net e =
        All-contains (λ net. IsDriven f (name_at (names f) net.0)) (nets_in located) net judged.all.driven
        (Contains-append_left located.listed.items (map (λ o. o.net) located.over.items ++ excluded_nets located.excluding.items) net (first_listed net e))

    pub first_choice : (net : NetId) → said.first ≡ Some net → IsChoice f goal (name_at (names f) net.0 ∷ [])
    first_choice net e = All-contains (IsListed f goal) located.listed.items net judged.told.choices (first_listed net e)

    -- where none is said, none is listed
    pub none_listed : said.first ≡ None → located.listed.items ≡ []
    none_listed e = by is.nets (sym is.first ∙ e) located.listed.items is.ranked.count
      where
        by : (nets : List Ranked) → option_map (λ (r : Ranked). r.net) (slice_get nets 0) ≡ None → (listed : List NetId) → length (map (λ (r : Ranked). r.net) nets) ≡ length listed → listed ≡ []
        by (first ∷ rest) none listed same = absurd cc
        by [] none [] same = refl
        by [] none (net ∷ listed) same = absurd (omega (arith, same))

-- the nets that are said are within the netlist
pub ranked_within : (f : Circuit) (listed : List NetId) (nets : List Ranked) → IsRearranged listed (map (λ r. r.net) nets) → AreNets (names f) listed → All (λ r. r.net.0 < length (names f)) nets
ranked_within f listed nets moved within =
    All_from_places (λ r. r.net.0 < length (names f)) nets (λ k r at.
    All-contains (λ net. net.0 < length (names f)) listed r.net within
    ((moved.members r.net).1 (Contains-map (λ r. r.net) nets r (Contains_at nets k r at))))

-- what was judged and said is found
pub is_found : (change : ChangeValue) (limit : ℕ) (nets : List Ranked) (located : Located) (text : List ℕ) → IsChecked change.old → TellsAnswer change.old change.goal limit (answers.Located located) → IsRearranged located.listed.items (map (λ r. r.net) nets) → text ≡ found_text change.old nets located → IsFound change limit nets located text
is_found change limit nets located text checked told moved is = record {
  wrong = told.0;
  judged = told.1;
  complete = judged_is_located change.old change.goal limit located checked told.1;
  moved = moved;
  told = is;
}

-- ---- its answers

-- nets that are a choice make a netlist that can be rectified
pub rectifiable : (change : ChangeValue) (nets : List (List ℕ)) (bytes : List ℕ) (netlist : Circuit) → IsChange change.old change.goal → AllPairs (λ a b. a ≢ b) nets → All (IsDriven change.old) nets → IsChoice change.old change.goal nets → IsCutText change nets bytes netlist → IsRectifiable netlist change.goal
rectifiable change nets bytes netlist is once driven choice text =
    (cut_is_rectifiable change.old change.goal nets netlist (sound_netlist change.old is.checked) cares once driven text.cut).1 choice
  where
    cares : CaresForInputs change.old change.goal
    cares care some name c = ((is.asked.care care some).inputs name).1 c

one_once : (net : List ℕ) → AllPairs (λ a b. a ≢ b) (net ∷ [])
one_once net = pairs_cons (λ a b. a ≢ b) net [] (λ i j d less within. absurd (omega arith)) (λ y c. absurd (Contains_none y c))

-- no nets are named
none_asked : (options : LocateOptions) (change : ChangeValue) (before : StoreView) → (changes_rows options).passes before.files change → (asked_rows [] options).passes before.files change
none_asked options change before passed = (change, passed, ((omega arith, record { driven = All-nil (IsDriven change.old); once = λ i j d less within. absurd (omega arith) }), refl))

-- nothing has to be cut
pub equal_prepared : (options : LocateOptions) (change : ChangeValue) (before after : StoreView) → (changes_rows options).passes before.files change → NoneIsWrong change.old change.goal → (answer : Answer) → IsTextAnswer 0 (codes "equal\n") answer → IsPrepared (rules_for [] options) before after answer
equal_prepared options change before after passed none answer (zero, nothing, text) =
    inl (zero, record { value = change; passed = (change, none_asked options change before passed, (inl none, refl)); answers = inl (record { equal = none; none = nothing; told = text }) })

-- a net is cut
pub cut_prepared : (options : LocateOptions) (change : ChangeValue) (located : Located) (said : Said) (net : NetId) (before after : StoreView) → (changes_rows options).passes before.files change → IsChange change.old change.goal → TellsAnswer change.old change.goal options.budget (answers.Located located) → IsSaid change.old located said → said.first ≡ Some net → (answer : Answer) → IsCutAnswer options change (name_at (names change.old) net.0 ∷ []) said.text.items answer → IsPrepared (rules_for [] options) before after answer
cut_prepared options change located said net before after passed is told saying first answer (bytes, netlist, cut, (zero, written, text)) =
    let driven = first_driven change.old change.goal options.budget located told.1 said saying net first in
    let choice = first_choice change.old change.goal options.budget located told.1 said saying net first in
    let (one, rest, same, here) = first_of change.old change.goal options.budget located told.1 said saying saying.nets net (sym saying.first ∙ first) in
    let found : IsFound change options.budget (one ∷ rest) located answer.text.items =
    subst (λ nets. IsFound change options.budget nets located answer.text.items) same
    (is_found change options.budget saying.nets located answer.text.items is.checked told saying.ranked (text ∙ saying.text)) in
    inl (
      zero,
      record {
        value = change;
        passed = (change, none_asked options change before passed, (inr (name_at (names change.old) net.0, driven, choice), refl));
        answers = inr (record {
          located = located;
          first = one;
          rest = rest;
          found = found;
          bytes = bytes;
          netlist = netlist;
          written = written;
          is_cut = subst (λ n. IsCutText change (name_at (names change.old) n.0 ∷ []) bytes netlist) (sym here) cut;
          rectifiable = rectifiable change (name_at (names change.old) net.0 ∷ []) bytes netlist is (one_once (name_at (names change.old) net.0))
              (All-cons (IsDriven change.old) (name_at (names change.old) net.0) [] driven (All-nil (IsDriven change.old))) choice cut;
        });
      },
    )

-- no net is listed
pub open_prepared : (options : LocateOptions) (change : ChangeValue) (located : Located) (said : Said) (before after : StoreView) → (changes_rows options).passes before.files change → IsChange change.old change.goal → TellsAnswer change.old change.goal options.budget (answers.Located located) → IsSaid change.old located said → said.first ≡ None → (answer : Answer) → IsOpenAnswer options located said.text.items answer → IsPrepared (rules_for [] options) before after answer
open_prepared options change located said before after passed is told saying none answer left =
    elim left [
      | inl (over, among, spent) ↦
          spent_prepared (rules_for [] options) before after change over.stuck said.text.items (none_asked options change before passed)
          (inr (record { located = located; unlisted = unlisted; over = over; among = among; is = refl; found = found })) answer spent
      | inr (answered, stops) ↦
          stop_prepared (rules_for [] options) before after (NoChoice said.text.items)
          (inr (change, none_asked options change before passed, (said.text.items, refl, record { located = located; unlisted = unlisted; answered = answered; found = found })), tt) answer stops
    ]
  where
    unlisted : located.listed.items ≡ []
    unlisted = none_listed change.old change.goal options.budget located told.1 said saying none

    empty : (nets : List Ranked) → option_map (λ (r : Ranked). r.net) (slice_get nets 0) ≡ None → nets ≡ []
    empty [] e = refl
    empty (net ∷ nets) e = absurd cc

    found : IsFound change options.budget [] located said.text.items
    found =
        subst (λ nets. IsFound change options.budget nets located said.text.items) (empty saying.nets (sym saying.first ∙ none))
        (is_found change options.budget saying.nets located said.text.items is.checked told saying.ranked saying.text)

-- the question whether the netlists are equal was given up; or memory ran out, and there is no answer
pub uncompared_prepared : (options : LocateOptions) (change : ChangeValue) (unfinished : Unfinished) (before after : StoreView) → ((problem : ProblemValue) → IsLeft problem options.budget (questions.Equal change.old change.goal.spec change.goal.care) unfinished) → (changes_rows options).passes before.files change → (answer : Answer) → IsUnfinishedAnswer options.budget unfinished answer → IsPrepared (rules_for [] options) before after answer
uncompared_prepared options change (GivenUp stuck) before after left passed answer is =
    let (question, given_up) = left (unweighted change) in
    spent_prepared (rules_for [] options) before after change stuck.value (budget_text options.budget stuck.value) (none_asked options change before passed)
    (inl (record { question = question; given_up = given_up; told = refl })) answer is
uncompared_prepared options change OutOfMemory before after left passed answer none = absurd none
