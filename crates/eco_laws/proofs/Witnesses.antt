-- A base that is shown is the greedy choice: proofs.
use Rattle.std.proofs.Common.{◌≢◌, ℕ, ◌⊎◌, inl, inr, Bool, List, ◌++◌, sym, ◌∙◌, ap, subst}
use Rattle.std.specs.List.{slice_get, All, Contains}
use Rattle.std.proofs.lemmas.Bool.{cases_order}
use Rattle.std.proofs.lemmas.List.Elements.{All-contains, All-contains_itself, All-map, All-weaker, Contains-append_cases}
use Rattle.std.proofs.lemmas.Option.{same_Some}
use Rattle.eco_lists.proofs.Places.{place_of}
use Rattle.eco_lists.proofs.Members.{Contains-map}
use Rattle.eco_meaning.specs.Circuit.{Circuit}
use Rattle.eco_meaning.specs.Meaning.{Goal}
use Rattle.eco_meaning.specs.Choice.{IsConflict, Suffices, IsOther, IsNeeded, Precedes, IsLeft}
use Rattle.eco_laws.proofs.Bases.{more_suffice}
use Rattle.eco_laws.specs.Witnesses.{Witness, names_of, IsShown, IsShownBase, ShownBaseIsGreedy, WitnessesShowNeed}

-- of two names that have turns one has its turn first
pub either_first : (turns : List (List ℕ)) (a b : List ℕ) → Contains turns a → Contains turns b → a ≢ b → Precedes turns a b ⊎ Precedes turns b a
either_first turns a b in_a in_b differ =
    let (i, at_i) = place_of turns a in_a in
    let (j, at_j) = place_of turns b in_b in
    elim (cases_order i j) [
      | inl same ↦ absurd (differ (same_Some a b (sym at_i ∙ ap (slice_get turns) same ∙ at_j)))
      | inr apart ↦ elim apart [
        | inl first ↦ inl (i, j, first, at_i, at_j)
        | inr second ↦ inr (j, i, second, at_j, at_i)
      ]
    ]

-- the others of a base are left at a signal's turn
others_left : (paid turns kept : List (List ℕ)) (name other : List ℕ) → All (Contains turns) kept → Contains turns name → (Contains kept other → other ≢ name) → Contains (paid ++ kept) other → IsLeft paid turns kept name other
others_left paid turns kept name other members turn differ among =
    elim (Contains-append_cases paid kept other among) [
      | inl is_paid ↦ inl is_paid
      | inr is_kept ↦
          elim (either_first turns other name (All-contains (Contains turns) kept other members is_kept) turn (differ is_kept)) [
            | inl before ↦ inr (inl (is_kept, before))
            | inr behind ↦ inr (inr behind)
          ]
    ]

module _ (f : Circuit) (goal : Goal) (p : Circuit) (earlier : List (List ℕ)) (target : List ℕ) where
  -- a conflict on some signals is one on fewer
  pub conflict_on_fewer : (Fewer Signals : List ℕ → Type 0) (x y : List Bool) → ((name : List ℕ) → Fewer name → Signals name) → IsConflict f goal p earlier target Signals x y → IsConflict f goal p earlier target Fewer x y
  conflict_on_fewer Fewer Signals x y into conflict = record {
    one = conflict.one;
    zero = conflict.zero;
    alike = λ v u at_x at_y name among. conflict.alike v u at_x at_y name (into name among);
  }

pub is_greedy : ShownBaseIsGreedy
is_greedy f goal p earlier target paid turns witnesses base =
    let kept = names_of witnesses in
    record {
      members = base.members;
      ordered = base.ordered;
      needed =
          All-map (λ name. Suffices f goal p earlier target (IsLeft paid turns kept name) → ⊥) (λ (w : Witness). w.name) witnesses
          (All-weaker (IsShown f goal p earlier target paid turns kept) (λ w. Suffices f goal p earlier target (IsLeft paid turns kept w.name) → ⊥)
          (λ w shown enough. enough w.one w.zero shown) witnesses base.shown);
      dropped = λ name turn unkept.
          more_suffice f goal p earlier target (Contains (paid ++ kept)) (IsLeft paid turns kept name)
          (λ other among. others_left paid turns kept name other base.members turn (λ in_kept same. unkept (subst (Contains kept) same in_kept)) among)
          base.enough;
    }

-- one witness shows it
shows_need : (f : Circuit) (goal : Goal) (p : Circuit) (earlier : List (List ℕ)) (target : List ℕ) (paid turns : List (List ℕ)) (witnesses : List Witness) → IsShownBase f goal p earlier target paid turns witnesses → (w : Witness) → Contains witnesses w → IsNeeded f goal p earlier target (paid ++ names_of witnesses) w.name w.one w.zero
shows_need f goal p earlier target paid turns witnesses base w in_base =
    let kept = names_of witnesses in
    let turn : Contains turns w.name = All-contains (Contains turns) kept w.name base.members (Contains-map (λ (w : Witness). w.name) witnesses w in_base) in
    conflict_on_fewer f goal p earlier target (IsOther (paid ++ kept) w.name) (IsLeft paid turns kept w.name) w.one w.zero
    (λ other among. others_left paid turns kept w.name other base.members turn (λ in_kept. among.1) among.0)
    (All-contains (IsShown f goal p earlier target paid turns kept) witnesses w base.shown in_base)

pub all_needed : WitnessesShowNeed
all_needed f goal p earlier target paid turns witnesses base =
    All-weaker (Contains witnesses) (λ w. IsNeeded f goal p earlier target (paid ++ names_of witnesses) w.name w.one w.zero)
    (shows_need f goal p earlier target paid turns witnesses base) witnesses (All-contains_itself witnesses)
