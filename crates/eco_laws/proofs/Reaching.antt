-- At each input some map is reached: the targets get their values one after the other.
use Rattle.std.proofs.Common.{◌≡◌, ◌≢◌, ◌⊎◌, inl, inr, ℕ, Bool, List, [], ◌∷◌, ◌++◌, length, map, refl, sym, ◌∙◌, ap, subst, arith}
use Rattle.std.specs.List.{AllPairs, Contains}
use Rattle.std.proofs.lemmas.List.{append_assoc, append-nil}
use Rattle.std.proofs.lemmas.List.Elements.{All-contains, Contains-append_left, Contains-append_right}
use Rattle.eco_lists.proofs.Members.{Contains_first, Contains_later, Contains_cases, Contains_none, AllPairs-head, AllPairs-tail}
use Rattle.eco_lists.proofs.Places.{map_agree, Contains_at}
use Rattle.eco_meaning.specs.Circuit.{Circuit, Values, AgreeOn, IsTarget, IsDriven}
use Rattle.eco_meaning.specs.Choice.{IsReached}
use Rattle.eco_laws.specs.Kept.{SoundTakesAnyInputs, NoGatesTakeAnyInputs}
use Rattle.eco_laws.specs.Reached.{IsPatchOf, MapsAreReached}
use Rattle.eco_laws.proofs.Members.{cases_names}
use Rattle.eco_laws.proofs.Filled.{can_be_filled}
use Rattle.eco_laws.proofs.OneValue.{next_target, agree_on_both, agree_on_one}

-- the second bit where the names are one, else the first map's
changed : Values → Bool → (target name : List ℕ) → (target ≡ name) ⊎ (target ≢ name) → Bool
changed v bit target name (inl same) = bit
changed v bit target name (inr other) = v name

changed_here : (v : Values) (bit : Bool) (target : List ℕ) (cases : (target ≡ target) ⊎ (target ≢ target)) → changed v bit target target cases ≡ bit
unfolding changed
changed_here v bit target (inl same) = refl
changed_here v bit target (inr other) = absurd (other refl)

changed_there : (v : Values) (bit : Bool) (target name : List ℕ) (cases : (target ≡ name) ⊎ (target ≢ name)) → target ≢ name → changed v bit target name cases ≡ v name
unfolding changed
changed_there v bit target name (inl same) other = absurd (other same)
changed_there v bit target name (inr _) other = refl

-- the map with one bit changed
with_bit : Values → List ℕ → Bool → Values
with_bit v target bit name = changed v bit target name (cases_names target name)

with_bit_here : (v : Values) (target : List ℕ) (bit : Bool) → with_bit v target bit target ≡ bit
unfolding with_bit
with_bit_here v target bit = changed_here v bit target (cases_names target target)

with_bit_there : (v : Values) (target : List ℕ) (bit : Bool) (name : List ℕ) → target ≢ name → with_bit v target bit name ≡ v name
unfolding with_bit
with_bit_there v target bit name other = changed_there v bit target name (cases_names target name) other

-- different names can have any bits
pub map_with : (list : List (List ℕ)) (x : List Bool) (v : Values) → AllPairs (λ a b. a ≢ b) list → length x ≡ length list → (u : Values) × (map u list ≡ x) × ((name : List ℕ) → (Contains list name → ⊥) → u name ≡ v name)
map_with [] [] v apart same = (v, refl, λ name none. refl)
map_with [] (bit ∷ x) v apart same = absurd (omega arith)
map_with (first ∷ list) [] v apart same = absurd (omega arith)
map_with (first ∷ list) (bit ∷ x) v apart same =
    let rest = map_with list x v (AllPairs-tail (λ a b. a ≢ b) first list apart) (omega arith) in
    let u = with_bit rest.0 first bit in
    let tail : map u list ≡ map rest.0 list = map_agree u rest.0 list (λ k name at. with_bit_there rest.0 first bit name (AllPairs-head (λ a b. a ≢ b) first list apart name (Contains_at list k name at))) in (
      u,
      cc (with_bit_here rest.0 first bit, tail, rest.1),
      λ name none.
          with_bit_there rest.0 first bit name (λ same. none (subst (Contains (first ∷ list)) same (Contains_first first list)))
          ∙ rest.2 name (λ c. none (Contains_later first name list c)),
    )

-- a sound netlist has a consistent map with any bits of its inputs
pub takes_any_inputs : SoundTakesAnyInputs
takes_any_inputs p sound v =
    let filled = can_be_filled p v sound in
    (filled.0, filled.1, λ name c. sym (filled.2 name (λ driven. sound.inputs_free name c driven)))

-- without gates each map is consistent
pub no_gates_take : NoGatesTakeAnyInputs
no_gates_take p none v = (v, λ g member. absurd (Contains_none g (subst (λ gates. Contains gates g) none member)), λ name c. refl)

-- what stands before a member stands before the last one
front_within : (front : List (List ℕ)) (name : List ℕ) (behind before : List (List ℕ)) (target : List ℕ) → before ++ target ∷ [] ≡ front ++ name ∷ behind → (other : List ℕ) → Contains front other → Contains before other
front_within [] name behind before target cut other c = absurd (Contains_none other c)
front_within (first ∷ []) name behind [] target cut other c = absurd (let none : [] ≡ name ∷ behind = cc cut in cc none)
front_within (first ∷ second ∷ front) name behind [] target cut other c = absurd (let none : [] ≡ second ∷ (front ++ name ∷ behind) = cc cut in cc none)
front_within (first ∷ front) name behind (one ∷ before) target cut other c =
    let same : one ≡ first = cc cut in
    let rest : before ++ target ∷ [] ≡ front ++ name ∷ behind = cc cut in
    elim (Contains_cases first other front c) [
      | inl here ↦ subst (Contains (one ∷ before)) (same ∙ here) (Contains_first one before)
      | inr later ↦ Contains_later one other before (front_within front name behind before target rest other later)
    ]

-- a list cut at one of its members
cut_at : (list : List (List ℕ)) (name : List ℕ) → Contains list name → (front : List (List ℕ)) × (behind : List (List ℕ)) × (list ≡ front ++ name ∷ behind)
cut_at [] name c = absurd (Contains_none name c)
cut_at (first ∷ list) name c =
    elim (Contains_cases first name list c) [
      | inl here ↦ ([], list, ap (λ n. n ∷ list) here)
      | inr later ↦ let rest = cut_at list name later in (first ∷ rest.0, rest.1, ap (λ names. first ∷ names) rest.2)
    ]

module _ (f p : Circuit) (earlier : List (List ℕ)) (is : IsPatchOf f p earlier) (x : List Bool) (bits : Values) where
  -- a map that is reached for the first targets, in which the others have the bits that are asked for
  record IsBegun (before : List (List ℕ)) (v : Values) : Type 0 where
    reached : IsReached f p before x v
    asked : (target : List ℕ) → IsTarget f target → (Contains before target → ⊥) → v target ≡ bits target

  output_target : (name : List ℕ) → Contains p.outputs name → IsTarget f name
  output_target name c = All-contains (IsTarget f) (p.outputs ++ is.later) name is.fits.drives.sound (Contains-append_left p.outputs is.later name c)

  -- the next target gets the bit that the patch gives it
  next_begun : (before : List (List ℕ)) (target : List ℕ) (behind : List (List ℕ)) → p.outputs ≡ before ++ target ∷ behind → (v : Values) → IsBegun before v → (u : Values) × IsBegun (before ++ target ∷ []) u
  next_begun before target behind cut v begun =
      let reached = begun.reached in
      let w = reached.follows in
      let filled = can_be_filled f (with_bit v target (w.0 target)) is.sound in
      let u = filled.0 in
      let whole : p.outputs ≡ (before ++ target ∷ []) ++ behind = cut ∙ sym (append_assoc before (target ∷ []) behind) in
      let among : (name : List ℕ) → Contains (before ++ target ∷ []) name → IsTarget f name = λ name c. output_target name (subst (λ list. Contains list name) (sym whole) (Contains-append_left (before ++ target ∷ []) behind name c)) in
      let free : IsTarget f target = among target (Contains-append_right before (target ∷ []) target (Contains_first target [])) in
      let kept : (name : List ℕ) → (IsDriven f name → ⊥) → target ≢ name → u name ≡ v name = λ name none other. filled.2 name none ∙ with_bit_there v target (w.0 target) name other in
      let here : u target ≡ w.0 target = filled.2 target (λ driven. free.free (inr driven)) ∙ with_bit_here v target (w.0 target) in
      let inputs : AgreeOn f.inputs u v = λ name c. kept name (λ driven. is.sound.inputs_free name c driven) (λ same. free.free (inl (subst (Contains f.inputs) (sym same) c))) in
      let first : AgreeOn before u w.0 = λ name c. elim (cases_names target name) [
        | inl same ↦ sym (ap u same) ∙ here ∙ ap w.0 same
        | inr other ↦ kept name (λ driven. (among name (Contains-append_left before (target ∷ []) name c)).free (inr driven)) other ∙ w.3 name c
      ] in
      let earlier_same : AgreeOn before v u = λ name c. w.3 name c ∙ sym (first name c) in
      let o = takes_any_inputs p is.patch u in
      let bits_same : AgreeOn (before ++ target ∷ []) w.0 o.0 = λ name c.
      let at = cut_at (before ++ target ∷ []) name c in
      next_target f p is.later is.sound is.patch is.fits v u w.0 o.0 reached.consistent filled.1 (λ input c. sym (inputs input c)) w.1 o.1 w.2 o.2
      at.0 name (at.1 ++ behind) (whole ∙ ap (λ list. list ++ behind) at.2 ∙ append_assoc at.0 (name ∷ at.1) behind)
      (λ other c. earlier_same other (front_within at.0 name at.1 before target at.2 other c)) in
      let driven_same : AgreeOn (before ++ target ∷ []) u w.0 = agree_on_both u w.0 before (target ∷ []) first (agree_on_one u w.0 target here) in (
        u,
        record {
          reached = record {
            consistent = filled.1;
            input = map_agree u v f.inputs (λ k name at. inputs name (Contains_at f.inputs k name at)) ∙ reached.input;
            follows = (o.0, o.1, o.2, λ name c. driven_same name c ∙ bits_same name c);
          };
          asked = λ other is_target none.
              kept other (λ driven. is_target.free (inr driven)) (λ same. none (subst (Contains (before ++ target ∷ [])) same (Contains-append_right before (target ∷ []) target (Contains_first target []))))
              ∙ begun.asked other is_target (λ c. none (Contains-append_left before (target ∷ []) other c));
        },
      )

  go_on : (before rest : List (List ℕ)) → earlier ≡ before ++ rest → (v : Values) → IsBegun before v → (u : Values) × IsBegun earlier u
  go_on before [] cut v begun = (v, subst (λ list. IsBegun list v) (sym (cut ∙ append-nil before)) begun)
  go_on before (target ∷ rest) cut v begun =
      let next = next_begun before target (rest ++ is.behind) (is.first ∙ ap (λ list. list ++ is.behind) cut ∙ append_assoc before (target ∷ rest) is.behind) v begun in
      go_on (before ++ target ∷ []) rest (cut ∙ sym (append_assoc before (target ∷ []) rest)) next.0 next.1

  -- no target has its bit yet
  begin : length x ≡ length f.inputs → (v : Values) × IsBegun [] v
  begin same =
      let wanted = map_with f.inputs x bits is.sound.inputs_once same in
      let filled = can_be_filled f wanted.0 is.sound in
      let v = filled.0 in
      let o = takes_any_inputs p is.patch v in (
        v,
        record {
          reached = record {
            consistent = filled.1;
            input =
                map_agree v wanted.0 f.inputs (λ k name at. filled.2 name (λ driven. is.sound.inputs_free name (Contains_at f.inputs k name at) driven))
                ∙ wanted.1;
            follows = (o.0, o.1, o.2, λ name c. absurd (Contains_none name c));
          };
          asked = λ target is_target none. filled.2 target (λ driven. is_target.free (inr driven)) ∙ wanted.2 target (λ c. is_target.free (inl c));
        },
      )

  pub reach : length x ≡ length f.inputs → (v : Values) × IsReached f p earlier x v × ((target : List ℕ) → IsTarget f target → (Contains earlier target → ⊥) → v target ≡ bits target)
  reach same =
      let begun = begin same in
      let all = go_on [] earlier refl begun.0 begun.1 in
      (all.0, all.1.reached, all.1.asked)

pub maps_are_reached : MapsAreReached
maps_are_reached = reach
