-- A merging that has treated no node.
use Rattle.std.proofs.Common.{◌≡◌, ℕ, zero, suc, ◌<◌, List, [], ◌∷◌, Option, Some, None, length, replicate, refl, sym, ◌∙◌, ap, subst, arith}
use Rattle.std.specs.List.{All, Contains}
use Rattle.std.proofs.lemmas.List.{length-replicate}
use Rattle.std.proofs.lemmas.List.Elements.{All-nil, All-cons}
use Rattle.std.proofs.lemmas.Option.{none-some, same_Some, slice_get_within}
use Rattle.eco_lists.proofs.Members.{only_one}
use Rattle.eco_aig.specs.declared.edge.Edge.{Edge}
use Rattle.eco_aig.specs.declared.node.Node.{Node}
use Rattle.eco_aig.specs.Graph.{IsGraph}
use Rattle.eco_merge.specs.declared.loose.Loose.{Loose}
use Rattle.eco_merge.specs.declared.merging.Merging.{Merging}
use Rattle.eco_merge.specs.Rows.{IsRow}
use Rattle.eco_merge.specs.Signatures.{AreSigned}
use Rattle.eco_merge.specs.Images.{IsImage}
use Rattle.eco_merge.specs.Questions.{IsEntry}
use Rattle.eco_merge.specs.Steps.{IsReady, IsMerged, IsKept, AreKept, constant}
use Rattle.eco_tseitin.proofs.Growing.{no_growth}

-- no node has an image
no_image : (n k : ℕ) (e : Edge) → IsImage (replicate n None) k e → ⊥
no_image zero k e at = none-some (Some e) at
no_image (suc n) zero e at = none-some e (same_Some None (Some e) at)
no_image (suc n) (suc k) e at = no_image n k e at

no_images : (nodes : List Node) (images : List (Option Edge)) → images ≡ replicate (length nodes) None → (k : ℕ) (e : Edge) → IsImage images k e → ⊥
no_images nodes images none k e at = no_image (length nodes) k e (subst (λ list. IsImage list k e) none at)

no_entries : (nodes : List Node) (limit : ℕ) (apart : List Loose) → length apart ≡ 0 → All (IsEntry nodes limit) apart
no_entries nodes limit [] e = All-nil (IsEntry nodes limit)
no_entries nodes limit (x ∷ apart) e = absurd (omega (arith, e))

constant_kept : (nodes : List Node) (apart : List Loose) → IsGraph nodes → AreKept nodes apart (0 ∷ [])
constant_kept nodes apart graph = record {
  constant = refl;
  within = All-cons (λ k. k < length nodes) 0 [] (slice_get_within nodes 0 _ graph.constant) (All-nil (λ k. k < length nodes));
  compared = λ i j d lt within. absurd (omega (arith, lt, within));
}

pub ready_start : (nodes : List Node) (limit : ℕ) (m : Merging) → IsGraph nodes → m.images.items ≡ replicate (length nodes) None → m.kept.items ≡ 0 ∷ [] → All (IsRow nodes) m.findings.rows.items → AreSigned (length nodes) m.findings.rows.items m.findings.drawn m.findings.signatures.items → length m.findings.apart.items ≡ 0 → IsReady nodes limit m
ready_start nodes limit m graph none kept rows signed apart = record {
  few = omega (arith, ap (λ (list : List (Option Edge)). length list) none, length-replicate {A = Option Edge} (length nodes) None);
  swept = λ k e at. absurd (no_images nodes m.images.items none k e at);
  members = λ k e at. absurd (no_images nodes m.images.items none k e at);
  kept = subst (AreKept nodes m.findings.apart.items) (sym kept) (constant_kept nodes m.findings.apart.items graph);
  findings = record { rows = rows; signed = signed; entries = no_entries nodes limit m.findings.apart.items apart };
}

pub merged_start : (nodes : List Node) (m : Merging) → IsGraph nodes → m.images.items ≡ replicate (length nodes) None → m.kept.items ≡ 0 ∷ [] → IsMerged nodes [] nodes m
merged_start nodes m graph none kept = record {
  graph = graph;
  grown = no_growth nodes;
  count = ap (λ (list : List (Option Edge)). length list) none ∙ length-replicate (length nodes) None;
  reached = λ k e at. absurd (no_images nodes m.images.items none k e at);
  turned = λ k e at sign. absurd (no_images nodes m.images.items none k e at);
  each = λ k c. subst (IsKept nodes [] nodes m.images.items) (only_one 0 k (subst (λ list. Contains list k) kept c)) constant;
}
