-- Turns in another order.
use Rattle.std.proofs.Common.{◌≡◌, ◌≢◌, ℕ, ◌<◌, Bool, true, false, not, List, [], ◌∷◌, ◌++◌, Some, length, get_or, inl, inr, refl, sym, ◌∙◌, ap, subst}
use Rattle.std.specs.List.{slice_get, Contains, IsDistinct, filter}
use Rattle.std.specs.Str.{bytes_eq}
use Rattle.std.proofs.lemmas.Bool.{true≢false}
use Rattle.std.proofs.lemmas.List.{append-nil, map-append}
use Rattle.std.proofs.lemmas.List.Elements.{All-append, All-contains, All-filter, Contains-append_left, Contains-append_right, filter_passes}
use Rattle.std.proofs.lemmas.List.Kept.{AllPairs-filter}
use Rattle.std.proofs.lemmas.Option.{same_Some, slice_get-get_or, slice_get_within}
use Rattle.eco_lists.proofs.Members.{Contains-map}
use Rattle.eco_lists.proofs.Places.{place_of}
use Rattle.eco_meaning.specs.Names.{has}
use Rattle.eco_meaning.specs.Circuit.{Circuit}
use Rattle.eco_meaning.specs.Cost.{Weights, AreTurns, IsUnpaid}
use Rattle.eco_meaning.specs.Choice.{Suffices}
use Rattle.eco_gates.specs.Reach.{AreMarked}
use Rattle.eco_gates.specs.declared.gate.NetId.{NetId}
use Rattle.eco_netlist.specs.Netlists.{AreNets, name_at, names_at}
use Rattle.eco_netlist.proofs.NameSets.{Contains-from_has, filter_all, has-from_Contains, has-from_absent}
use Rattle.eco_netlist.proofs.NetLemmas.{has-filter}
use Rattle.eco_netlist.proofs.NumberedNets.{named_filter}
use Rattle.eco_query.proofs.Marks.{named_among}
use Rattle.eco_laws.proofs.Bases.{more_suffice}
use Rattle.eco_laws.proofs.Front.{turns_distinct}
use Rattle.eco_laws.proofs.InputLemmas.{inputs_are_candidates, inputs_suffice}
use Rattle.eco_laws.proofs.Members.{cases_member}
use Rattle.eco_base.specs.Scenes.{Scene, AreInSomeOrder, IsScene}
use Rattle.eco_base.specs.Walks.{put_last}
use Rattle.eco_base.proofs.ListLaws.{distinct_join}

-- a filter keeps the members that pass
passes_kept : (p : List ℕ → Bool) (xs : List (List ℕ)) (name : List ℕ) → Contains xs name → p name ≡ true → Contains (filter p xs) name
passes_kept p xs name among pass =
    let all : has xs name ≡ true = has-from_Contains xs name among in
    let tells = has-filter p xs name in
    Contains-from_has (filter p xs) name cc

-- each member is among the last or among the others
kept_by_one : (last turns : List (List ℕ)) (name : List ℕ) (late : Bool) → has last name ≡ late → Contains turns name → Contains (put_last last turns) name
kept_by_one last turns name true is among =
    Contains-append_right (filter (λ other. not (has last other)) turns) (filter (has last) turns) name (passes_kept (has last) turns name among is)
kept_by_one last turns name false is among =
    Contains-append_left (filter (λ other. not (has last other)) turns) (filter (has last) turns) name (passes_kept (λ other. not (has last other)) turns name among (ap not is))

-- the usual turns in another order
pub some_order : (f : Circuit) (w : Weights) (input_weight : ℕ) (earlier paid last usual : List (List ℕ)) → AreTurns f w input_weight earlier paid usual → AreInSomeOrder f w input_weight earlier paid (put_last last usual)
some_order f w input_weight earlier paid last usual are =
    let early = λ (name : List ℕ). not (has last name) in
    let Is = IsUnpaid f w input_weight earlier paid in
    let distinct = turns_distinct f w input_weight earlier paid usual are in
    record {
      sound = All-append Is (filter early usual) (filter (has last) usual) (All-filter early Is usual are.sound) (All-filter (has last) Is usual are.sound);
      complete = λ name is. kept_by_one last usual name (has last name) refl (are.complete name is);
      distinct = distinct_join (filter early usual) (filter (has last) usual)
          (AllPairs-filter (λ a b. a ≢ b) early usual distinct) (AllPairs-filter (λ a b. a ≢ b) (has last) usual distinct)
          (λ name is_early is_late.
          let passes : early name ≡ true = All-contains (λ other. early other ≡ true) (filter early usual) name (filter_passes early usual) is_early in
          let late : has last name ≡ true = All-contains (λ other. has last other ≡ true) (filter (has last) usual) name (filter_passes (has last) usual) is_late in
          true≢false (sym passes ∙ ap not late));
    }

-- nothing passes a test that is false
none_pass : (xs : List (List ℕ)) → filter (has []) xs ≡ []
none_pass [] = refl
none_pass (x ∷ xs) = none_pass xs

-- where none are last, the order is the usual one
pub none_last : (turns : List (List ℕ)) → put_last [] turns ≡ turns
none_last turns =
    ap (λ list. filter (λ name. not (has [] name)) turns ++ list) (none_pass turns) ∙ append-nil (filter (λ name. not (has [] name)) turns)
    ∙ filter_all (λ name. not (has [] name)) turns (λ name among. refl)

-- the paid signals and the turns suffice
pub turns_suffice : (s : Scene) → IsScene s → Suffices s.problem.implementation s.problem.goal s.patches s.before s.target (Contains (s.paid ++ s.turns))
turns_suffice s scene =
    let f = s.problem.implementation in
    more_suffice f s.problem.goal s.patches s.before s.target (Contains f.inputs) (Contains (s.paid ++ s.turns))
    (λ input is_input. elim (cases_member s.paid input) [
      | inl is_paid ↦ Contains-append_left s.paid s.turns input is_paid
      | inr unpaid ↦ Contains-append_right s.paid s.turns input (scene.are_turns.complete input (record { candidate = inputs_are_candidates f s.problem.weights s.problem.input_weight s.before input scene.patch.sound is_input; unpaid = unpaid }))
    ])
    (inputs_suffice f s.problem.goal s.patches s.before s.target scene.kept)

-- a net has a mark where its name is among the last ones
pub mark_tells : (list : List (List ℕ)) (last : List NetId) (marks : List Bool) (net : NetId) → IsDistinct bytes_eq list → AreNets list last → net.0 < length list →
    AreMarked (length list) last (length last) marks → get_or marks net.0 false ≡ has (names_at list last) (name_at list net.0)
mark_tells list last marks net distinct last_nets within are = told (get_or marks net.0 false) refl
  where
    told : (mark : Bool) → get_or marks net.0 false ≡ mark → mark ≡ has (names_at list last) (name_at list net.0)
    told true is =
        let here : slice_get marks net.0 ≡ Some true = slice_get-get_or marks net.0 false (subst (λ (n : ℕ). net.0 < n) (sym are.len) within) ∙ ap Some is in
        sym (has-from_Contains (names_at list last) (name_at list net.0) (Contains-map (λ (n : NetId). name_at list n.0) last net (are.sound net here)))
    told false is =
        let here : slice_get marks net.0 ≡ Some false = slice_get-get_or marks net.0 false (subst (λ (n : ℕ). net.0 < n) (sym are.len) within) ∙ ap Some is in
        sym (has-from_absent (names_at list last) (name_at list net.0) (λ among.
        let (k, at) = place_of last net (named_among list last net distinct last_nets within among) in
        let marked = are.complete k net (slice_get_within last k net at) at in
        true≢false (same_Some true false (sym marked ∙ here))))

-- the nets in the order of their marks have the names in another order
pub named_in_order : (list : List (List ℕ)) (turns last : List NetId) (marks : List Bool) → IsDistinct bytes_eq list → AreNets list turns → AreNets list last → AreMarked (length list) last (length last) marks →
    names_at list (filter (λ (net : NetId). not (get_or marks net.0 false)) turns ++ filter (λ (net : NetId). get_or marks net.0 false) turns) ≡ put_last (names_at list last) (names_at list turns)
named_in_order list turns last marks distinct turn_nets last_nets are =
    let marked = λ (net : NetId). get_or marks net.0 false in
    let tells : (net : NetId) → Contains turns net → marked net ≡ has (names_at list last) (name_at list net.0) =
    λ net among. mark_tells list last marks net distinct last_nets (All-contains (λ (n : NetId). n.0 < length list) turns net turn_nets among) are in
    let early = named_filter list (λ net. not (marked net)) (λ name. not (has (names_at list last) name)) turns (λ net among. ap not (tells net among)) in
    let late = named_filter list marked (has (names_at list last)) turns tells in
    map-append (λ (net : NetId). name_at list net.0) (filter (λ net. not (marked net)) turns) (filter marked turns) ∙ (λ i. early i ++ late i)
