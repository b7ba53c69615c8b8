-- Signals that serve all targets at once: shown by listed rows, and what follows for the first target.
use Rattle.std.proofs.Common.{◌≡◌, inl, inr, ℕ, Bool, false, List, [], ◌∷◌, length, map, sym, ◌∙◌, subst}
use Rattle.std.specs.List.{All, Contains}
use Rattle.std.proofs.lemmas.Bool.{cases_Bool}
use Rattle.std.proofs.lemmas.List.Elements.{All-nil, All-cons}
use Rattle.eco_lists.proofs.Members.{Contains_first, Contains_later, Contains_cases, Contains_none, only_one}
use Rattle.eco_lists.proofs.Places.{All_from_places, Contains_at}
use Rattle.eco_meaning.specs.Circuit.{Circuit, Values}
use Rattle.eco_meaning.specs.Meaning.{Goal}
use Rattle.eco_meaning.specs.Choice.{IsReached, IsConflict}
use Rattle.eco_laws.specs.Reached.{IsPatchOf}
use Rattle.eco_laws.proofs.Reaching.{reach, takes_any_inputs}
use Rattle.eco_clash.specs.Clashes.{IsAt, IsRightAt, IsRightThroughout, IsClash, IsSteady}
use Rattle.eco_clash.specs.Questions.{IsMissedIn}
use Rattle.eco_clash.specs.Together.{NoneTogether, TogetherSufficesForFirst}

module _ (f : Circuit) (goal : Goal) (targets : List (List ℕ)) where
  -- where no input of the tuple misses the row, it can't be that the row isn't right throughout
  all_or_some : (tuple : List (List Bool)) (row : List Bool) → (IsMissedIn f goal targets tuple row → ⊥) → (IsRightThroughout f goal targets tuple row → ⊥) → ⊥
  all_or_some [] row none not_all = not_all (λ x c. absurd (Contains_none x c))
  all_or_some (first ∷ tuple) row none not_all =
      none (
        first,
        Contains_first first tuple,
        λ here.
            all_or_some tuple row (λ missed. none (missed.0, Contains_later first missed.0 tuple missed.1, missed.2))
            (λ later. not_all (λ x c. elim (Contains_cases first x tuple c) [
              | inl same ↦ subst (λ y. IsRightAt f goal targets y row) same here
              | inr in_tuple ↦ later x in_tuple
            ])),
      )

  -- so it can't be that a clash doesn't miss all of the rows
  all_missed : (tuple : List (List Bool)) → IsClash f goal targets tuple → (rows : List (List Bool)) → (((row : List Bool) → Contains rows row → IsMissedIn f goal targets tuple row) → ⊥) → ⊥
  all_missed tuple clash [] never = never (λ row c. absurd (Contains_none row c))
  all_missed tuple clash (first ∷ rows) never =
      all_missed tuple clash rows (λ later.
      all_or_some tuple first (λ here. never (λ row c. elim (Contains_cases first row rows c) [
        | inl same ↦ subst (IsMissedIn f goal targets tuple) same here
        | inr listed ↦ later row listed
      ])) (clash.never first))

pub none_together : NoneTogether
none_together f goal targets rows signals none tuple clash steady =
    all_missed f goal targets tuple clash rows (λ missed. none tuple (record { len = clash.len; missed = missed; steady = steady }))

module _ (f : Circuit) (goal : Goal) (p : Circuit) (first : List ℕ) (rest signals : List (List ℕ)) (is : IsPatchOf f p []) (x y : List Bool) (conflict : IsConflict f goal p [] first (Contains signals) x y) where
  -- before any target has its function each consistent map is reached
  reached_at : (z row : List Bool) (v : Values) → IsAt f (first ∷ rest) z row v → IsReached f p [] z v
  reached_at z row v at =
      let w = takes_any_inputs p is.patch v in
      record { consistent = at.consistent; input = at.input; follows = (w.0, w.1, w.2, λ name c. absurd (Contains_none name c)) }

  -- the two inputs clash
  conflict_clashes : IsClash f goal (first ∷ rest) (x ∷ y ∷ [])
  conflict_clashes = record {
    len = All-cons (λ z. length z ≡ length f.inputs) x (y ∷ []) conflict.one.len (All-cons (λ z. length z ≡ length f.inputs) y [] conflict.zero.len (All-nil (λ z. length z ≡ length f.inputs)));
    never = λ row right.
        let at_x = right x (Contains_first x (y ∷ [])) in
        let at_y = right y (Contains_later x y (y ∷ []) (Contains_first y [])) in
        let same : at_x.values first ∷ map at_x.values rest ≡ at_y.values first ∷ map at_y.values rest = at_x.at.bits ∙ sym at_y.at.bits in
        let bit : at_x.values first ≡ at_y.values first = cc same in
        elim (cases_Bool (at_y.values first)) [
          | inl one ↦ conflict.zero.never at_y.values (reached_at y row at_y.values at_y.at) one at_y.right
          | inr zero_bit ↦ conflict.one.never at_x.values (reached_at x row at_x.values at_x.at) (bit ∙ zero_bit) at_x.right
        ];
  }

  -- a map at each of them
  some_at : (z : List Bool) → length z ≡ length f.inputs → (v : Values) × IsReached f p [] z v
  some_at z len = let some = reach f p [] is z (λ name. false) len in (some.0, some.1)

  -- the signals have one value at both
  one_value : (name : List ℕ) → Contains signals name → (z : List Bool) → Contains (x ∷ y ∷ []) z → (v : Values) → IsReached f p [] z v → v name ≡ (some_at y conflict.zero.len).0 name
  one_value name c z in_tuple v reached =
      let at_x = some_at x conflict.one.len in
      let at_y = some_at y conflict.zero.len in
      elim (Contains_cases x z (y ∷ []) in_tuple) [
        | inl here ↦ conflict.alike v at_y.0 (subst (λ a. IsReached f p [] a v) (sym here) reached) at_y.1 name c
        | inr later ↦
            let there : IsReached f p [] y v = subst (λ a. IsReached f p [] a v) (sym (only_one y z later)) reached in
            sym (conflict.alike at_x.0 v at_x.1 there name c) ∙ conflict.alike at_x.0 at_y.0 at_x.1 at_y.1 name c
      ]

  steady_signals : All (IsSteady f (first ∷ rest) (x ∷ y ∷ [])) signals
  steady_signals =
      All_from_places (IsSteady f (first ∷ rest) (x ∷ y ∷ [])) signals (λ k name place a b row v u in_a in_b at_a at_b.
      let c = Contains_at signals k name place in
      one_value name c a in_a v (reached_at a row v at_a) ∙ sym (one_value name c b in_b u (reached_at b row u at_b)))

pub together_suffices_for_first : TogetherSufficesForFirst
together_suffices_for_first f goal p first rest signals is together x y conflict =
    together (x ∷ y ∷ []) (conflict_clashes f goal p first rest signals is x y conflict) (steady_signals f goal p first rest signals is x y conflict)
