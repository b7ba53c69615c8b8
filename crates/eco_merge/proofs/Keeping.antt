-- What is kept where the graph grows, where entries are listed, and where a node is kept or gets an image.
use Rattle.std.proofs.Common.{◌≡◌, ◌⊎◌, inl, inr, ℕ, ◌<◌, ◌≤◌, Bool, true, false, not, cond, List, [], ◌∷◌, ◌++◌, Option, Some, None, length, set, map, refl, sym, ◌∙◌, ap, subst, arith, length-append}
use Rattle.std.specs.List.{slice_get, All, Contains}
use Rattle.std.specs.Option.{IfSome, IfNone}
use Rattle.std.proofs.lemmas.Option.{same_Some, none-some, slice_get_within}
use Rattle.std.proofs.lemmas.List.{append-nil}
use Rattle.std.proofs.lemmas.List.Elements.{All-weaker, All-push, All-contains}
use Rattle.eco_lists.proofs.Places.{All_at, All_from_places, Contains_at, slice_get-append_left, slice_get-set_same, slice_get-set_other, set_cases, pair_at as pair_of_places, pairs_from_places, pairs_push}
use Rattle.eco_lists.proofs.Members.{map-Contains}
use Rattle.eco_aig.specs.declared.edge.Edge.{Edge}
use Rattle.eco_aig.specs.declared.node.Node.{Node}
use Rattle.eco_aig.specs.Edges.{value_of}
use Rattle.eco_aig.specs.Graph.{IsGraph, IsConjunctionNode, Grows, HasValue, simple_and}
use Rattle.eco_aig.proofs.Conjunctions.{value_of-complement}
use Rattle.eco_aig.proofs.Growing.{value_stays}
use Rattle.eco_tseitin.specs.Encoding.{HasGrown}
use Rattle.eco_merge.specs.declared.loose.Loose.{Loose}
use Rattle.eco_merge.specs.declared.merging.Merging.{Merging}
use Rattle.eco_merge.specs.Alike.{IsAndNode, other_of}
use Rattle.eco_merge.specs.Rows.{IsRow}
use Rattle.eco_merge.specs.Signatures.{AreSigned}
use Rattle.eco_merge.specs.Images.{IsImage, IsSwept, signed}
use Rattle.eco_merge.specs.Questions.{IsEntry}
use Rattle.eco_merge.specs.Steps.{HasMore, IsComparedWith, AreKept, IsReady, IsEdgeImage}
use Rattle.eco_merge.proofs.Listing.{compared_more}
use Rattle.eco_merge.proofs.Staying.{grown_of, longer, and_back, alike_back, entry_stays}

-- nodes that were compared stay compared
kept_grows : (old new : List Node) (apart : List Loose) (kept : List ℕ) → HasGrown old new → IsGraph old → IsGraph new → AreKept old apart kept → AreKept new apart kept
kept_grows old new apart kept grown graph graph_new are =
    let long = longer old new grown in
    record {
      constant = are.constant;
      within = All-weaker (λ k. k < length old) (λ k. k < length new) (λ k lt. omega (arith, lt, long)) kept are.within;
      compared = pairs_from_places (λ m n. IsAndNode new n → IsComparedWith new apart n m) kept (λ i j m n lt at_i at_j conjunction same alike.
          let m_in : m < length old = All_at (λ k. k < length old) kept i m are.within at_i in
          let n_in : n < length old = All_at (λ k. k < length old) kept j n are.within at_j in
          pair_of_places (λ x y. IsAndNode old y → IsComparedWith old apart y x) kept i j m n are.compared lt at_i at_j (and_back old new grown n n_in conjunction) same (alike_back old new grown n m same graph graph_new n_in m_in alike));
    }

-- the state where the graph has grown
pub ready_grows : (old new : List Node) (limit most : ℕ) (m m' : Merging) → Grows old new most → IsGraph old → IsGraph new → m'.images.items ≡ m.images.items → m'.kept.items ≡ m.kept.items → m'.findings.apart.items ≡ m.findings.apart.items → All (IsRow new) m'.findings.rows.items → AreSigned (length new) m'.findings.rows.items m'.findings.drawn m'.findings.signatures.items → IsReady old limit m → IsReady new limit m'
ready_grows old new limit most m m' grows graph graph_new images kept apart rows signed is =
    let grown = grown_of old new most grows in
    let long = longer old new grown in
    let few = is.few in
    record {
      few = omega (arith, few, long, ap (λ (list : List (Option Edge)). length list) images);
      swept = subst (IsSwept new) (sym images) (λ k e at. value_stays old new most e (λ w. w k) grows (is.swept k e at));
      members = λ k e at. subst (λ list. Contains list e.node) (sym kept) (is.members k e (subst (λ list. IsImage list k e) images at));
      kept = subst (λ list. AreKept new list m'.kept.items) (sym apart) (subst (AreKept new m.findings.apart.items) (sym kept) (kept_grows old new m.findings.apart.items m.kept.items grown graph graph_new is.kept));
      findings = record {
        rows = rows;
        signed = signed;
        entries = subst (All (IsEntry new limit)) (sym apart) (All-weaker (IsEntry old limit) (IsEntry new limit) (λ entry e. entry_stays old new grown limit entry graph_new e) m.findings.apart.items is.findings.entries);
      };
    }

-- rows that have all grown
pub rows_grow : (old new : List Node) (f : List Bool → List Bool) (rows rows' : List (List Bool)) → rows' ≡ map f rows → ((row : List Bool) → IsRow old row → IsRow new (f row)) → All (IsRow old) rows → All (IsRow new) rows'
rows_grow old new f rows rows' e each all =
    subst (All (IsRow new)) (sym e) (All_from_places (IsRow new) (map f rows) (λ k row at.
    let from = map-Contains f rows row (Contains_at (map f rows) k row at) in
    subst (IsRow new) from.2 (each from.0 (All-contains (IsRow old) rows from.0 all from.1))))

-- what was compared stays so where more entries are listed
pub kept_listed : (nodes : List Node) (old new : List Loose) (kept : List ℕ) → HasMore old new → AreKept nodes old kept → AreKept nodes new kept
kept_listed nodes old new kept more are = record {
  constant = are.constant;
  within = are.within;
  compared = pairs_from_places (λ x y. IsAndNode nodes y → IsComparedWith nodes new y x) kept (λ i j x y lt at_i at_j conjunction same.
      compared_more nodes old new y (other_of x) same more (pair_of_places (λ a b. IsAndNode nodes b → IsComparedWith nodes old b a) kept i j x y are.compared lt at_i at_j conjunction same));
}

-- one more node is kept, which was compared with the others, or is no conjunction
pub kept_push : (nodes : List Node) (old new : List Loose) (kept : List ℕ) (n : ℕ) → n < length nodes → HasMore old new → (IsAndNode nodes n → All (IsComparedWith nodes new n) kept) → AreKept nodes old kept → AreKept nodes new (kept ++ n ∷ [])
kept_push nodes old new kept n within more compared are = record {
  constant = slice_get-append_left kept (n ∷ []) 0 0 are.constant;
  within = All-push (λ k. k < length nodes) kept n are.within within;
  compared = pairs_push (λ x y. IsAndNode nodes y → IsComparedWith nodes new y x) kept n (kept_listed nodes old new kept more are).compared
      (λ k x at conjunction. All_at (IsComparedWith nodes new n) kept k x (compared conjunction) at);
}

-- an image's value is that of its edge
turned_value : (c x : Bool) (y : Bool) → y ≡ x → cond c (not y) y ≡ cond c (not x) x
turned_value c x y e = ap (λ b. cond c (not b) b) e

signed_value : (w : ℕ → Bool) (c : Bool) (e : Edge) → value_of w (signed c e) ≡ cond c (not (value_of w e)) (value_of w e)
signed_value w true e = value_of-complement w e
signed_value w false e = refl

signed_node : (c : Bool) (e : Edge) → (signed c e).node ≡ e.node
signed_node true e = refl
signed_node false e = refl

pub image_value : (nodes : List Node) (images : List (Option Edge)) (x e : Edge) → IsSwept nodes images → IsEdgeImage images x e → HasValue nodes e (λ w. value_of w x)
image_value nodes images x e swept is =
    let has = swept x.node is.of_node is.at in
    subst (λ (r : Edge). HasValue nodes r (λ w. value_of w x)) (sym is.is) (record {
      within = subst (λ k. k < length nodes) (sym (signed_node x.complemented is.of_node)) has.within;
      value = λ w valuation. signed_value w x.complemented is.of_node ∙ turned_value x.complemented (w x.node) (value_of w is.of_node) (has.value w valuation);
    })

pub image_member : (images : List (Option Edge)) (kept : List ℕ) (x e : Edge) → ((k : ℕ) (r : Edge) → IsImage images k r → Contains kept r.node) → IsEdgeImage images x e → Contains kept e.node
image_member images kept x e members is =
    subst (Contains kept) (sym (ap (λ (r : Edge). r.node) is.is ∙ signed_node x.complemented is.of_node)) (members x.node is.of_node is.at)

-- an image is the new one or an older one
pub image_cases : (images : List (Option Edge)) (n : ℕ) (image : Edge) (k : ℕ) (e : Edge) → IsImage (set images n (Some image)) k e → ((k ≡ n) × (e ≡ image)) ⊎ IsImage images k e
image_cases images n image k e at = elim (set_cases images n (Some image) k (Some e) at) [
  | inl new ↦ inl (new.0, same_Some e image new.1)
  | inr old ↦ inr old.1
]

-- an older image stays where an untreated node gets one
pub image_stays : (images : List (Option Edge)) (n : ℕ) (image : Edge) → slice_get images n ≡ Some None → (k : ℕ) (e : Edge) → IsImage images k e → IsImage (set images n (Some image)) k e
image_stays images n image untreated k e at =
    slice_get-set_other images n k (Some image) (λ same. absurd (let f : None ≡ Some e = same_Some None (Some e) (sym untreated ∙ ap (slice_get images) (sym same) ∙ at) in none-some e f)) ∙ at

pub image_new : (images : List (Option Edge)) (n : ℕ) (image : Edge) → slice_get images n ≡ Some None → IsImage (set images n (Some image)) n image
image_new images n image untreated =
    slice_get-set_same images n (Some image) (slice_get_within images n None untreated)

-- where a conjunction takes a node, that node has its operands
pub taken_node : (old new : List Node) (a b e : Edge) (P : Edge → Type 0) → IfSome (simple_and a b) (λ x. P x × (new ≡ old)) → IfNone (simple_and a b) (IsConjunctionNode new a b e) → length old < length new → IsConjunctionNode new a b e
taken_node old new a b e P simple node more = by (simple_and a b) simple node
  where
    by : (o : Option Edge) → IfSome o (λ x. P x × (new ≡ old)) → IfNone o (IsConjunctionNode new a b e) → IsConjunctionNode new a b e
    by None s n = n
    by (Some x) s n = absurd (omega (arith, more, ap (λ (list : List Node). length list) s.1))

-- where none is added, the graph stays
pub none_taken : (old new : List Node) (most : ℕ) → Grows old new most → length new ≤ length old → new ≡ old
none_taken old new most grows le = by grows.added grows.behind
  where
    by : (added : List Node) → new ≡ old ++ added → new ≡ old
    by [] e = e ∙ append-nil old
    by (x ∷ added) e = absurd (omega (arith, le, ap length e, length-append old (x ∷ added)))
