-- The drawn weights are those of their text.
use Rattle.std.proofs.Common.{◌≡◌, ℕ, ◌+◌, ◌*◌, ◌<◌, ◌≤◌, inl, inr, List, [], ◌++◌, length, get_or, map, refl, sym, ◌∙◌, ap, subst, arith, mod-lt}
use Rattle.std.specs.Prelude.{codes}
use Rattle.std.specs.List.{range_with_len, All, IsDistinct}
use Rattle.std.specs.Str.{bytes_eq}
use Rattle.std.proofs.lemmas.Bool.{cases_order}
use Rattle.std.proofs.lemmas.List.{map-append}
use Rattle.std.proofs.lemmas.List.Elements.{All-append}
use Rattle.eco_lists.proofs.Members.{map-map}
use Rattle.eco_lists.proofs.Places.{All_from_places, Contains_at}
use Rattle.eco_meaning.specs.Cost.{Weights}
use Rattle.eco_netlist.proofs.NameSets.{IsDistinct-append}
use Rattle.eco_text.proofs.NumberedNames.{is_name-numbered, numbered-injective}
use Rattle.eco_weight.specs.Files.{AreWeights, names_in}
use Rattle.eco_gen.specs.declared.TheConstants.{INPUTS, MOST_GATES}
use Rattle.eco_gen.specs.Cutting.{MayCut}
use Rattle.eco_gen.specs.Drawn.{draw, kept_gates, input_name, gate_name, input_names, drawn_weight, drawn_weights}
use Rattle.eco_gen.specs.Lines.{weight_text}
use Rattle.eco_gen.proofs.Checked.{distinct_inputs}
use Rattle.eco_gen.proofs.Names.{letter}
use Rattle.eco_gen.proofs.Ranges.{distinct_images, range_once, from_range, from_image}
use Rattle.eco_gen.proofs.Structure.{kept_at, kept_once}
use Rattle.eco_gen.proofs.WeightLines.{IsSayable, told}
use Rattle.eco_gen.proofs.WeightTexts.{text_append}

-- a drawn weight is small
weight_small : (seed size k : ℕ) → drawn_weight seed size k ≤ 4294967295
weight_small seed size k = let low : draw seed (3 * size + k) 100 < 100 = mod-lt _ (omega arith) in omega (arith, low)

sayable_range : (f : ℕ → List ℕ × ℕ) (n : ℕ) → ((k : ℕ) → k < n → IsSayable (f k)) → All IsSayable (map f (range_with_len 0 n))
sayable_range f n h =
    All_from_places IsSayable (map f (range_with_len 0 n)) (λ k pair at.
    let found = from_image f n pair (Contains_at (map f (range_with_len 0 n)) k pair at) in
    subst IsSayable found.2 (h found.0 found.1))

input_sayable : (seed size k : ℕ) → k < INPUTS → IsSayable (input_name k, drawn_weight seed size k)
input_sayable seed size k low = record {
  name = is_name-numbered (codes "x") k refl (omega arith);
  plain = λ e. omega (arith, e);
  limit = weight_small seed size k;
}

gate_sayable : (seed size j k : ℕ) → j < MOST_GATES → IsSayable (gate_name j, drawn_weight seed size k)
gate_sayable seed size j k low = record {
  name = is_name-numbered (codes "g") j refl (omega arith);
  plain = λ e. omega (arith, e);
  limit = weight_small seed size k;
}

all_sayable : (seed size targets : ℕ) → MayCut size targets → All IsSayable (drawn_weights seed size targets)
unfolding drawn_weights
all_sayable seed size targets may =
    let kept = kept_gates size targets in
    let few = may.few_gates in
    All-append IsSayable (map (λ k. (input_name k, drawn_weight seed size k)) (range_with_len 0 INPUTS))
    (map (λ k. (gate_name (get_or kept k 0), drawn_weight seed size (INPUTS + k))) (range_with_len 0 (length kept)))
    (sayable_range (λ k. (input_name k, drawn_weight seed size k)) INPUTS (input_sayable seed size))
    (sayable_range (λ k. (gate_name (get_or kept k 0), drawn_weight seed size (INPUTS + k))) (length kept)
    (λ k lt. let below = kept_at size targets k lt in gate_sayable seed size (get_or kept k 0) (INPUTS + k) (omega (arith, below, few))))

distinct_kept : (size targets : ℕ) → MayCut size targets → IsDistinct bytes_eq (map (λ k. gate_name (get_or (kept_gates size targets) k 0)) (range_with_len 0 (length (kept_gates size targets))))
distinct_kept size targets may =
    let kept = kept_gates size targets in
    let few = may.few_gates in
    distinct_images (λ k. gate_name (get_or kept k 0)) (range_with_len 0 (length kept)) (range_once (length kept))
    (λ a b c d e.
    let lt_a = from_range (length kept) a c in
    let lt_b = from_range (length kept) b d in
    let low_a = kept_at size targets a lt_a in
    let low_b = kept_at size targets b lt_b in
    let same = numbered-injective (codes "g") (get_or kept a 0) (get_or kept b 0) (omega arith) (omega arith) e in
    elim (cases_order a b) [
      | inl one ↦ one
      | inr o ↦ elim o [
        | inl lt ↦ absurd (kept_once size targets a b 0 lt lt_b same)
        | inr gt ↦ absurd (kept_once size targets b a 0 gt lt_a (sym same))
      ]
    ])

distinct_weights : (seed size targets : ℕ) → MayCut size targets → IsDistinct bytes_eq (names_in (drawn_weights seed size targets))
unfolding drawn_weights
distinct_weights seed size targets may =
    let kept = kept_gates size targets in
    let first = map (λ k. (input_name k, drawn_weight seed size k)) (range_with_len 0 INPUTS) in
    let second = map (λ k. (gate_name (get_or kept k 0), drawn_weight seed size (INPUTS + k))) (range_with_len 0 (length kept)) in
    let split : names_in (first ++ second) ≡ input_names ++ map (λ k. gate_name (get_or kept k 0)) (range_with_len 0 (length kept)) =
    map-append (λ (pair : List ℕ × ℕ). pair.0) first second
    ∙ ap (λ (names : List (List ℕ)). input_names ++ names) (map-map (λ k. (gate_name (get_or kept k 0), drawn_weight seed size (INPUTS + k))) (λ (pair : List ℕ × ℕ). pair.0) (range_with_len 0 (length kept))) in
    subst (IsDistinct bytes_eq) (sym split)
    (IsDistinct-append input_names (map (λ k. gate_name (get_or kept k 0)) (range_with_len 0 (length kept))) distinct_inputs (distinct_kept size targets may)
    (λ name c d.
    let k = from_image input_name INPUTS name c in
    let j = from_image (λ k. gate_name (get_or kept k 0)) (length kept) name d in
    let same : 120 ≡ 103 = ap letter (k.2 ∙ sym j.2) in
    omega (arith, same)))

pub AreWeights-drawn : (seed size targets : ℕ) → MayCut size targets → AreWeights (weight_text (drawn_weights seed size targets)) (drawn_weights seed size targets)
AreWeights-drawn seed size targets may = record {
  told = told (drawn_weights seed size targets) (all_sayable seed size targets may);
  distinct = distinct_weights seed size targets may;
}

-- the text as it is pushed
pub text_drawn : (seed size targets : ℕ) (kept none front text : List ℕ) → kept ≡ kept_gates size targets → none ≡ [] → front ≡ none ++ weight_text (map (λ k. (input_name k, drawn_weight seed size k)) (range_with_len 0 INPUTS)) → text ≡ front ++ weight_text (map (λ k. (gate_name (get_or kept k 0), drawn_weight seed size (INPUTS + k))) (range_with_len 0 (length kept))) → text ≡ weight_text (drawn_weights seed size targets)
unfolding drawn_weights
text_drawn seed size targets kept none front text is empty inputs gates =
    let lines : List ℕ → Weights = λ js. map (λ k. (gate_name (get_or js k 0), drawn_weight seed size (INPUTS + k))) (range_with_len 0 (length js)) in
    gates ∙ ap (λ (t : List ℕ). t ++ weight_text (lines kept)) (inputs ∙ ap (λ (t : List ℕ). t ++ weight_text (map (λ k. (input_name k, drawn_weight seed size k)) (range_with_len 0 INPUTS))) empty)
    ∙ ap (λ (js : List ℕ). weight_text (map (λ k. (input_name k, drawn_weight seed size k)) (range_with_len 0 INPUTS)) ++ weight_text (lines js)) is
    ∙ sym (text_append (map (λ k. (input_name k, drawn_weight seed size k)) (range_with_len 0 INPUTS)) (lines (kept_gates size targets)))
