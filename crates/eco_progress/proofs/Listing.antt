-- Each checked netlist has a list of its targets, in the order of their numbers.
use Rattle.std.proofs.Common.{◌≡◌, ◌⊎◌, inl, inr, ℕ, zero, suc, ◌+◌, ◌<◌, ◌≤◌, List, [], ◌∷◌, length, get_or, map, sym, subst, arith}
use Rattle.std.specs.List.{Contains}
use Rattle.std.specs.Bool.{IsTrue}
use Rattle.std.proofs.lemmas.Bool.{cases_order}
use Rattle.eco_lists.proofs.Members.{Contains_first, Contains_later, Contains_cases, Contains_none}
use Rattle.eco_lists.proofs.Places.{All_from_places, Contains_at}
use Rattle.eco_meaning.specs.Names.{is_target_text, target_number}
use Rattle.eco_meaning.specs.Circuit.{Circuit, names, IsSignal, IsTarget, AreTargets}
use Rattle.eco_netlist.specs.Netlists.{IsChecked}
use Rattle.eco_netlist.proofs.MisfitLemmas.{signal_cases}
use Rattle.eco_netlist.proofs.NumeralLemmas.{same_target}

-- the numbers in the names rise from this one on
unfoldable Rises : ℕ → List (List ℕ) → Type 0
Rises low [] = Unit {0}
Rises low (name ∷ list) = (low ≤ target_number name) × Rises (suc (target_number name)) list

-- each is smaller than the next
rises_on : (list : List (List ℕ)) (low : ℕ) → Rises low list → (k : ℕ) → k + 1 < length (map target_number list) → get_or (map target_number list) k 0 < get_or (map target_number list) (k + 1) 0
unfolding Rises
rises_on [] low rises k lt = absurd (omega arith)
rises_on (name ∷ []) low rises k lt = absurd (omega arith)
rises_on (name ∷ other ∷ list) low rises zero lt = rises.1.0
rises_on (name ∷ other ∷ list) low rises (suc k) lt =
    let same : suc k + 1 ≡ suc (k + 1) = omega arith in
    let rest = rises_on (other ∷ list) (suc (target_number name)) rises.1 k (omega (arith, lt)) in
    subst (λ (i : ℕ). get_or (map target_number (other ∷ list)) k 0 < get_or (map target_number (name ∷ other ∷ list)) i 0) (sym same) rest

-- the list with one name more
record HasMore (name : List ℕ) (old new : List (List ℕ)) : Type 0 where
  here : Contains new name
  keeps : (other : List ℕ) → Contains old other → Contains new other
  members : (other : List ℕ) → Contains new other → (name ≡ other) ⊎ Contains old other

-- a name that is put into its place
put : (name : List ℕ) (list : List (List ℕ)) (low : ℕ) → low ≤ target_number name → IsTrue (is_target_text name) → ((other : List ℕ) → Contains list other → IsTrue (is_target_text other)) → Rises low list → (new : List (List ℕ)) × HasMore name list new × Rises low new
unfolding Rises
put name [] low le text texts rises = (
  name ∷ [],
  record {
    here = Contains_first name [];
    keeps = λ other c. absurd (Contains_none other c);
    members = λ other c. Contains_cases name other [] c;
  },
  (le, tt),
)
put name (first ∷ list) low le text texts rises =
    elim (cases_order (target_number name) (target_number first)) [
      | inl same ↦
          let one : name ≡ first = same_target name first text (texts first (Contains_first first list)) same in (
            first ∷ list,
            record {
              here = subst (Contains (first ∷ list)) (sym one) (Contains_first first list);
              keeps = λ other c. c;
              members = λ other c. inr c;
            },
            rises,
          )
      | inr apart ↦ elim apart [
        | inl less ↦ (
          name ∷ first ∷ list,
          record {
            here = Contains_first name (first ∷ list);
            keeps = λ other c. Contains_later name other (first ∷ list) c;
            members = λ other c. Contains_cases name other (first ∷ list) c;
          },
          (le, (less, rises.1)),
        )
        | inr more ↦
            let rest = put name list (suc (target_number first)) more text (λ other c. texts other (Contains_later first other list c)) rises.1 in (
              first ∷ rest.0,
              record {
                here = Contains_later first name rest.0 rest.1.here;
                keeps = λ other c. elim (Contains_cases first other list c) [
                  | inl same ↦ subst (Contains (first ∷ rest.0)) same (Contains_first first rest.0)
                  | inr later ↦ Contains_later first other rest.0 (rest.1.keeps other later)
                ];
                members = λ other c. elim (Contains_cases first other rest.0 c) [
                  | inl same ↦ inr (subst (Contains (first ∷ list)) same (Contains_first first list))
                  | inr later ↦ elim (rest.1.members other later) [
                    | inl own ↦ inl own
                    | inr old ↦ inr (Contains_later first other list old)
                  ]
                ];
              },
              (rises.0, rest.2),
            )
      ]
    ]

-- the targets among some names of nets, in order
record AreListed (f : Circuit) (list targets : List (List ℕ)) : Type 0 where
  rises : Rises 0 targets
  sound : (name : List ℕ) → Contains targets name → IsTarget f name
  complete : (name : List ℕ) → Contains list name → (IsSignal f name → ⊥) → Contains targets name

-- one name more, which is a target
one_more : (f : Circuit) → IsChecked f → (name : List ℕ) (list targets : List (List ℕ)) → IsTarget f name → AreListed f list targets → (new : List (List ℕ)) × AreListed f (name ∷ list) new
one_more f checked name list targets target are =
    let text : (other : List ℕ) → IsTarget f other → IsTrue (is_target_text other) = λ other is. checked.undriven other is.net is.free in
    let new = put name targets 0 (omega arith) (text name target) (λ other c. text other (are.sound other c)) are.rises in (
      new.0,
      record {
        rises = new.2;
        sound = λ other c. elim (new.1.members other c) [
          | inl same ↦ subst (λ (n : List ℕ). IsTarget f n) same target
          | inr old ↦ are.sound other old
        ];
        complete = λ other c free. elim (Contains_cases name other list c) [
          | inl same ↦ subst (Contains new.0) same new.1.here
          | inr later ↦ new.1.keeps other (are.complete other later free)
        ];
      },
    )

-- one that is none
one_other : (f : Circuit) (name : List ℕ) (list targets : List (List ℕ)) → IsSignal f name → AreListed f list targets → AreListed f (name ∷ list) targets
one_other f name list targets signal are = record {
  rises = are.rises;
  sound = are.sound;
  complete = λ other c free. elim (Contains_cases name other list c) [
    | inl same ↦ absurd (free (subst (λ (n : List ℕ). IsSignal f n) same signal))
    | inr later ↦ are.complete other later free
  ];
}

-- one name after the other
listed : (f : Circuit) → IsChecked f → (list : List (List ℕ)) → ((name : List ℕ) → Contains list name → Contains (names f) name) → (targets : List (List ℕ)) × AreListed f list targets
unfolding Rises
listed f checked [] nets = (
  [],
  record { rises = tt; sound = λ name c. absurd (Contains_none name c); complete = λ name c free. absurd (Contains_none name c) },
)
listed f checked (name ∷ list) nets =
    let rest = listed f checked list (λ other c. nets other (Contains_later name other list c)) in
    elim (signal_cases f name) [
      | inl signal ↦ (rest.0, one_other f name list rest.0 signal rest.1)
      | inr free ↦ one_more f checked name list rest.0 (record { net = nets name (Contains_first name list); free = free }) rest.1
    ]

-- the targets, in order
pub targets_listed : (f : Circuit) → IsChecked f → (targets : List (List ℕ)) × AreTargets f targets
targets_listed f checked =
    let all = listed f checked (names f) (λ name c. c) in (
      all.0,
      record {
        named = All_from_places (λ name. IsTrue (is_target_text name)) all.0 (λ k name at.
            let is = all.1.sound name (Contains_at all.0 k name at) in
            checked.undriven name is.net is.free);
        ordered = rises_on all.0 0 all.1.rises;
        sound = All_from_places (IsTarget f) all.0 (λ k name at. all.1.sound name (Contains_at all.0 k name at));
        complete = λ name is. all.1.complete name is.net is.free;
      },
    )
