-- What is seen of known inputs, and what is walked.
use Rattle.std.proofs.Common.{◌≡◌, ◌<◌, ℕ, Bool, true, false, Option, None, Some, option_map, List, [], ◌∷◌, ◌++◌, length, map, drop, sym, ◌∙◌, ap, subst}
use Rattle.std.specs.List.{All, AllZip, Contains}
use Rattle.std.specs.Option.{IfSome}
use Rattle.std.proofs.lemmas.List.Elements.{All-append, All-head, All-tail, All-cons, All-nil, All-push, All-drop, All-contains}
use Rattle.std.proofs.lemmas.Option.{slice_get-map}
use Rattle.std.proofs.lemmas.Slice.Zip.{AllZip-long}
use Rattle.eco_lists.proofs.Places.{All_from_places, All_at}
use Rattle.eco_meaning.specs.Circuit.{Circuit, names}
use Rattle.eco_meaning.specs.Meaning.{Goal}
use Rattle.eco_meaning.specs.Choice.{AreValues, IsForced, IsGreedy}
use Rattle.eco_gates.specs.declared.gate.NetId.{NetId}
use Rattle.eco_netlist.specs.Netlists.{names_at}
use Rattle.eco_query.specs.Problem.{HasTargetNumber}
use Rattle.eco_pose.proofs.SideLaws.{target_at}
use Rattle.eco_base.specs.Chosen.{chosen_names}
use Rattle.eco_base.specs.Conflicts.{IsConflictFound}
use Rattle.eco_base.specs.Walks.{AreKnownFor, AreRowsAt}
use Rattle.eco_base.specs.declared.based.Based.{Based}
use Rattle.eco_base.specs.declared.choosing.Chosen.{Chosen}
use Rattle.eco_base.specs.declared.known.Known.{Known}
use Rattle.eco_base.specs.declared.separating.Pair.{Pair}
use Rattle.eco_base.proofs.TurnLaws.{none_last}
use Rattle.eco_least.specs.declared.account.Account.{Account}
use Rattle.eco_least.specs.declared.sights.Sight.{Sight}
use Rattle.eco_base.specs.Targets.{TargetValue, named_in, paid_of}
use Rattle.eco_least.specs.declared.weighed.Weighed.{Weighed}
use Rattle.eco_least.specs.Telling.{AreSeenAt, IsSeenAt, IsRowAt, TellsApart}
use Rattle.eco_least.specs.Rows.{AreForcing, AreRows, AreSeen, AreSights, IsAccount, IsConflictOf, IsPart, IsRow, turn_names}
use Rattle.eco_least.specs.Weighed.{AreWeighed, IsBase, IsGreedyChoice, IsWalkedLast, marked_of}
use Rattle.eco_least.proofs.Telling.{row_is}
use Rattle.eco_least.proofs.ListLaws.{marked_turns, marked_distinct}
use Rattle.eco_least.proofs.WeighedLaws.{turns_once}

module _ (f p : Circuit) (earlier paid turns : List (List ℕ)) where
  -- values of the paid signals and of the turns are seen together
  both_seen : (inputs : List (List Bool)) (sights : List Sight) → AllZip (AreValues f p earlier paid) inputs (map (λ sight. sight.paid) sights) → AllZip (AreValues f p earlier turns) inputs (map (λ sight. sight.turns) sights) →
      AllZip (AreSeenAt f p earlier paid turns) inputs sights
  both_seen [] [] first second = first
  both_seen [] (sight ∷ sights) first second = first
  both_seen (x ∷ inputs) [] first second = first
  both_seen (x ∷ inputs) (sight ∷ sights) first second = (record { paid_values = first.0; turn_values = second.0 }, both_seen inputs sights first.1 second.1)

  -- at inputs that force the target they are seen
  forced_seen : (goal : Goal) (target : List ℕ) (bit : Bool) (inputs : List (List Bool)) (sights : List Sight) → All (λ x. IsForced f goal p earlier target x bit) inputs → AllZip (AreSeenAt f p earlier paid turns) inputs sights →
      All (IsSeenAt f goal p earlier target paid turns bit) sights
  forced_seen goal target bit [] [] forced seen = All-nil (IsSeenAt f goal p earlier target paid turns bit)
  forced_seen goal target bit [] (sight ∷ sights) forced seen = absurd seen
  forced_seen goal target bit (x ∷ inputs) [] forced seen = absurd seen
  forced_seen goal target bit (x ∷ inputs) (sight ∷ sights) forced seen =
      All-cons (IsSeenAt f goal p earlier target paid turns bit) sight sights
      (record { input = x; forced = All-head (λ x. IsForced f goal p earlier target x bit) x inputs forced; seen = seen.0 })
      (forced_seen goal target bit inputs sights (All-tail (λ x. IsForced f goal p earlier target x bit) x inputs forced) seen.1)

module _ (t : TargetValue) (weighed : Weighed) where
  pub sights_are : (inputs paid_rows turn_rows : List (List Bool)) (sights : List Sight) →
      AreRowsAt t.problem t.number t.patches (paid_of t) inputs paid_rows →
      AreRowsAt t.problem t.number t.patches (turn_names t weighed) inputs turn_rows →
      map (λ sight. sight.paid) sights ≡ paid_rows → map (λ sight. sight.turns) sights ≡ turn_rows → AreSights t weighed inputs sights
  sights_are inputs paid_rows turn_rows sights paid_are turns_are first second before target behind are len =
      let f = t.problem.implementation in
      let p = t.patches in
      both_seen f p before (paid_of t) (turn_names t weighed) inputs sights
      (subst (AllZip (AreValues f p before (paid_of t)) inputs) (sym first) (paid_are before target behind are len))
      (subst (AllZip (AreValues f p before (turn_names t weighed)) inputs) (sym second) (turns_are before target behind are len))

  -- there are as many rows as inputs
  pub rows_long : AreWeighed t weighed → (signals : List (List ℕ)) (inputs rows : List (List Bool)) → AreRowsAt t.problem t.number t.patches signals inputs rows → length rows ≡ length inputs
  rows_long is signals inputs rows rows_are =
      let (before, target, behind, are, len) = target_at t.problem.implementation t.number is.number in
      AllZip-long (AreValues t.problem.implementation t.patches before signals) inputs rows (rows_are before target behind are len)

  pub seen_more : (bit : Bool) (inputs : List (List Bool)) (old more : List Sight) → AreForcing t bit inputs → AreSights t weighed inputs more → AreSeen t weighed bit old → AreSeen t weighed bit (old ++ more)
  seen_more bit inputs old more forcing sights seen before target behind are len =
      let f = t.problem.implementation in
      let p = t.patches in
      let goal = t.problem.goal in
      All-append (IsSeenAt f goal p before target (paid_of t) (turn_names t weighed) bit) old more (seen before target behind are len)
      (forced_seen f p before (paid_of t) (turn_names t weighed) goal target bit inputs more (forcing before target behind are len) (sights before target behind are len))

  -- all known inputs have a bit for each input
  pub forced_lens : AreWeighed t weighed → (bit : Bool) (inputs : List (List Bool)) → AreForcing t bit inputs → All (λ x. length x ≡ length t.problem.implementation.inputs) inputs
  forced_lens is bit inputs forcing =
      let (before, target, behind, are, len) = target_at t.problem.implementation t.number is.number in
      All_from_places (λ x. length x ≡ length t.problem.implementation.inputs) inputs
      (λ k x at. (All_at (λ x. IsForced t.problem.implementation t.problem.goal t.patches before target x bit) inputs k x (forcing before target behind are len) at).len)

module _ (t : TargetValue) where
  -- so a walk with none last is the greedy choice
  pub walked_greedy : (chosen : Chosen) → IsWalkedLast t [] chosen → IsGreedyChoice t chosen
  walked_greedy chosen walked before target behind are len =
      let problem = t.problem in
      let w = walked before target behind are len in
      record {
        found = w.found;
        greedy = record {
          turns = w.turns;
          are_turns = w.are_turns;
          chosen = subst (λ turns. IsGreedy problem.implementation problem.goal t.patches before target (paid_of t) turns (chosen_names problem.implementation chosen.new.items)) (none_last w.turns) w.walked;
        };
      }

  -- the signals of a base are nets
  pub base_within : HasTargetNumber t.problem.implementation t.number → (chosen : Chosen) → IsBase t chosen → All (λ (based : Based). based.net.0 < length (names t.problem.implementation)) chosen.new.items
  base_within number chosen base =
      let (before, target, behind, are, len) = target_at t.problem.implementation t.number number in
      let net_of = λ (b : Based). b.net in
      All_from_places (λ (based : Based). based.net.0 < length (names t.problem.implementation)) chosen.new.items
      (λ k based at. All_at (λ (net : NetId). net.0 < length (names t.problem.implementation)) (map net_of chosen.new.items) k based.net (base.found before target behind are len).nets
      (slice_get-map net_of chosen.new.items k ∙ ap (option_map net_of) at))

  -- a walk finds a base, and so does the greedy choice
  pub walked_base : (last : List NetId) (chosen : Chosen) → IsWalkedLast t last chosen → IsBase t chosen
  walked_base last chosen walked = record { found = λ before target behind are len. (walked before target behind are len).found }

  pub greedy_base : (chosen : Chosen) → IsGreedyChoice t chosen → IsBase t chosen
  greedy_base chosen greedy = record { found = λ before target behind are len. (greedy before target behind are len).found }

  -- two inputs more
  pub known_more : (list : List NetId) (old new : Known) (pair : Pair) → AreKnownFor t.problem t.number t.patches old → IsConflictOf t list pair →
      new.ones.items ≡ old.ones.items ++ pair.one ∷ [] → new.zeros.items ≡ old.zeros.items ++ pair.zero ∷ [] → AreKnownFor t.problem t.number t.patches new
  known_more list old new pair known conflict ones zeros before target behind are len =
      let Forced = λ (bit : Bool) (x : List Bool). IsForced t.problem.implementation t.problem.goal t.patches before target x bit in
      let here = known before target behind are len in
      let shown = conflict before target behind are len in
      record {
        ones = subst (All (Forced true)) (sym ones) (All-push (Forced true) old.ones.items pair.one here.ones shown.one);
        zeros = subst (All (Forced false)) (sym zeros) (All-push (Forced false) old.zeros.items pair.zero here.zeros shown.zero);
      }

  -- what is found of the base is found of the list beside the paid signals
  pub found_here : (base list : List NetId) → base ≡ t.paid ++ list → (found : Option Pair) → IsConflictFound t.problem t.number t.patches (named_in t base) found → IfSome found (IsConflictOf t list)
  found_here base list same None is = tt
  found_here base list same (Some pair) is = subst (λ (l : List NetId). IsConflictFound t.problem t.number t.patches (named_in t l) (Some pair)) same is

module _ (t : TargetValue) (weighed : Weighed) where
  -- the known inputs force the target
  pub known_ones : (account : Account) → IsAccount t weighed account → AreForcing t true account.known.ones.items
  known_ones account is before target behind are len = (is.known before target behind are len).ones

  pub known_zeros : (account : Account) → IsAccount t weighed account → AreForcing t false account.known.zeros.items
  known_zeros account is before target behind are len = (is.known before target behind are len).zeros

  -- so do the later ones of them
  pub forcing_later : (bit : Bool) (n : ℕ) (inputs later : List (List Bool)) → later ≡ drop n inputs → AreForcing t bit inputs → AreForcing t bit later
  forcing_later bit n inputs later same forcing before target behind are len =
      let P = λ (x : List Bool). IsForced t.problem.implementation t.problem.goal t.patches before target x bit in
      subst (All P) (sym same) (All-drop P n inputs (forcing before target behind are len))

  -- one row more
  pub more_rows : (rows : List (List ℕ)) (row : List ℕ) → AreRows t weighed rows → IsRow t weighed row → AreRows t weighed (rows ++ row ∷ [])
  more_rows rows row are_rows is before target behind are len =
      All-push (IsRowAt t.problem.implementation t.problem.goal t.patches before target (paid_of t) (turn_names t weighed)) rows row
      (are_rows before target behind are len) (is before target behind are len)

  -- where two seen inputs are told apart, there is a row
  pub row_told : (account : Account) → IsAccount t weighed account → (one zero : Sight) → Contains account.ones.items one → Contains account.zeros.items zero →
      (found : Option (List ℕ)) → IfSome found (TellsApart one zero) → IfSome found (IsRow t weighed)
  row_told account is one zero in_ones in_zeros None told = told
  row_told account is one zero in_ones in_zeros (Some row) told = λ before target behind are len.
      let f = t.problem.implementation in
      let goal = t.problem.goal in
      let p = t.patches in
      let seen = λ (bit : Bool). IsSeenAt f goal p before target (paid_of t) (turn_names t weighed) bit in
      row_is f goal p before target (paid_of t) (turn_names t weighed) one zero row
      (All-contains (seen true) account.ones.items one (is.ones before target behind are len) in_ones)
      (All-contains (seen false) account.zeros.items zero (is.zeros before target behind are len) in_zeros) told

  -- marked turns are a part of the turns
  pub part_of : AreWeighed t weighed → (list : List NetId) (marks : List Bool) → list ≡ marked_of weighed.turns.items marks → IsPart t weighed list
  part_of is list marks same =
      subst (IsPart t weighed) (sym same) (record {
        turns = marked_turns weighed.turns.items marks;
        distinct = marked_distinct (names t.problem.implementation) weighed.turns.items marks (turns_once t weighed is);
      })
