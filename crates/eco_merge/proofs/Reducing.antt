-- The nodes that an edge reaches, treated one after the other.
use Rattle.std.proofs.Common.{◌≡◌, inl, inr, ℕ, zero, suc, ◌+◌, ◌-◌, ◌<◌, ◌≤◌, List, [], ◌∷◌, ◌++◌, Option, Some, None, Bool, true, false, length, get_or, set, replicate, refl, sym, ◌∙◌, ap, subst, arith, length-set}
use Rattle.std.specs.List.{slice_get}
use Rattle.std.specs.Option.{is_some}
use Rattle.std.proofs.lemmas.Bool.{cases_eq, false≢true}
use Rattle.std.proofs.lemmas.Option.{none-some, same_Some, slice_get-get_or}
use Rattle.std.proofs.lemmas.List.Elements.{Contains-append_left, Contains-append_right}
use Rattle.eco_lists.proofs.Members.{only_one}
use Rattle.eco_aig.specs.declared.edge.Edge.{Edge}
use Rattle.eco_aig.specs.declared.node.Node.{Node}
use Rattle.eco_aig.specs.Graph.{IsGraph, Grows, pair_at}
use Rattle.eco_aig.proofs.Growing.{grows_none, grows_join, grows_more}
use Rattle.eco_aig.proofs.Conjunctions.{pair_at_node}
use Rattle.eco_trace.specs.Core.{IsSet}
use Rattle.eco_aig.specs.Reached.{IsReached}
use Rattle.eco_aig.proofs.Reaching.{by_first, by_second}
use Rattle.eco_tseitin.specs.Encoding.{HasGrown}
use Rattle.eco_tseitin.proofs.Closed.{reaches_more}
use Rattle.eco_merge.specs.declared.merging.Merging.{Merging}
use Rattle.eco_merge.specs.Images.{IsImage}
use Rattle.eco_merge.specs.Steps.{GainsImage, HasImage, IsKept, IsMerged, IsVisited, constant, input, made, undone}
use Rattle.eco_merge.proofs.Staying.{grown_of, pair_back, reached_back}
use Rattle.eco_merge.proofs.Keeping.{image_stays, image_new}

-- one node less has no image
pub undone_set : (images : List (Option Edge)) (n : ℕ) (e : Edge) → slice_get images n ≡ Some None → undone (set images n (Some e)) + 1 ≡ undone images
undone_set [] n e at = absurd (none-some None at)
undone_set (None ∷ images) zero e at = omega arith
undone_set (Some x ∷ images) zero e at =
    absurd (let f : Some x ≡ None = same_Some (Some x) None at in none-some x (sym f))
undone_set (None ∷ images) (suc n) e at = let rest = undone_set images n e at in omega (arith, rest)
undone_set (Some x ∷ images) (suc n) e at = undone_set images n e at

pub undone_all : (n : ℕ) → undone (replicate n None) ≡ n
undone_all zero = refl
undone_all (suc n) = let rest = undone_all n in omega (arith, rest)

pub undone_some : (images : List (Option Edge)) (n : ℕ) → slice_get images n ≡ Some None → 1 ≤ undone images
undone_some images n at = let less = undone_set images n (record { node = 0; complemented = false }) at in omega (arith, less)

-- whether a node has an image, as it is read
pub image_read : (images : List (Option Edge)) (n : ℕ) (o : Option Edge) → n < length images → o ≡ get_or images n o → is_some o ≡ true → HasImage images n
image_read images n None within at is = absurd (false≢true is)
image_read images n (Some e) within at is = (e, slice_get-get_or images n (Some e) within ∙ ap Some (sym at))

pub none_read : (images : List (Option Edge)) (n : ℕ) (o : Option Edge) → n < length images → o ≡ get_or images n o → is_some o ≡ false → slice_get images n ≡ Some None
none_read images n None within at is = slice_get-get_or images n None within ∙ ap Some (sym at)
none_read images n (Some e) within at is = absurd (false≢true (sym is))

-- a treated node was visited, and so was one that had an image
pub visited_now : (before after : List Node) (old new : List (Option Edge)) (n : ℕ) → slice_get old n ≡ Some None → GainsImage old new n → Grows before after 1 → IsVisited before old after new n
visited_now before after old new n untreated gains grows =
    let less : undone new + 1 ≡ undone old = ap (λ list. undone list + 1) gains.set ∙ undone_set old n gains.image untreated in
    record {
      image = (gains.image, subst (λ list. IsImage list n gains.image) (sym gains.set) (image_new old n gains.image untreated));
      stay = λ j e at. subst (λ list. IsImage list j e) (sym gains.set) (image_stays old n gains.image untreated j e at);
      count = ap (λ (list : List (Option Edge)). length list) gains.set ∙ length-set old n (Some gains.image);
      fewer = omega (arith, less);
      grows = grows_more before after 1 (undone old - undone new) (omega (arith, less)) grows;
    }

pub visited_before : (graph : List Node) (images : List (Option Edge)) (n : ℕ) → HasImage images n → IsVisited graph images graph images n
visited_before graph images n image = record {
  image = image;
  stay = λ j e at. at;
  count = refl;
  fewer = omega arith;
  grows = grows_none graph (undone images - undone images);
}

-- the nodes so far that the edge reaches were visited
pub record AreVisited (before : List Node) (old : List (Option Edge)) (after : List Node) (new : List (Option Edge)) (marks : List Bool) (n : ℕ) : Type 0 where
  pub images : (k : ℕ) → k < n → IsSet marks k → HasImage new k
  pub stay : (j : ℕ) (e : Edge) → IsImage old j e → IsImage new j e
  pub count : length new ≡ length old
  pub fewer : undone new ≤ undone old
  pub grows : Grows before after (undone old - undone new)

pub none_visited : (graph : List Node) (images : List (Option Edge)) (marks : List Bool) → AreVisited graph images graph images marks 0
none_visited graph images marks = record {
  images = λ k lt. absurd (omega arith);
  stay = λ j e at. at;
  count = refl;
  fewer = omega arith;
  grows = grows_none graph (undone images - undone images);
}

pub one_visited : (before mid after : List Node) (old now new : List (Option Edge)) (marks : List Bool) (n : ℕ) → AreVisited before old mid now marks n → IsVisited mid now after new n → AreVisited before old after new marks (n + 1)
one_visited before mid after old now new marks n are is =
    let fewer_old = are.fewer in
    let fewer_new = is.fewer in
    record {
      images = λ k lt marked. elim (cases_eq k n) [
        | inl same ↦ subst (HasImage new) (sym same) is.image
        | inr other ↦ (let image = are.images k (omega (arith, lt, other)) marked in (image.0, is.stay k image.0 image.1))
      ];
      stay = λ j e at. is.stay j e (are.stay j e at);
      count = is.count ∙ are.count;
      fewer = omega (arith, fewer_old, fewer_new);
      grows = grows_more before after ((undone old - undone now) + (undone now - undone new)) (undone old - undone new) (omega (arith, fewer_old, fewer_new)) (grows_join before mid after (undone old - undone now) (undone now - undone new) are.grows is.grows);
    }

pub not_visited : (before after : List Node) (old new : List (Option Edge)) (marks : List Bool) (n : ℕ) → (IsSet marks n → ⊥) → AreVisited before old after new marks n → AreVisited before old after new marks (n + 1)
not_visited before after old new marks n free are = record {
  images = λ k lt marked. elim (cases_eq k n) [
    | inl same ↦ absurd (free (subst (IsSet marks) same marked))
    | inr other ↦ are.images k (omega (arith, lt, other)) marked
  ];
  stay = are.stay;
  count = are.count;
  fewer = are.fewer;
  grows = are.grows;
}

-- the operands of a reached node stand before it, so they have images
pub operands_visited : (before now : List Node) (e : Edge) (old new : List (Option Edge)) (marks : List Bool) (n : ℕ) → IsGraph before → ((k : ℕ) → IsReached before (e ∷ []) k → IsSet marks k) → IsReached before (e ∷ []) n → n < length before → AreVisited before old now new marks n → (a b : Edge) → pair_at now n ≡ Some (a, b) → HasImage new a.node × HasImage new b.node
operands_visited before now e old new marks n graph marked reached within are a b pair =
    let grown = grown_of before now (undone old - undone new) are.grows in
    let pair_old : pair_at before n ≡ Some (a, b) = pair_back before now grown n within ∙ pair in
    let is = graph.operands n a b (pair_at_node before n a b pair_old) in (
      are.images a.node (omega (arith, is.second, is.before)) (marked a.node (by_first before (e ∷ []) n a b pair_old reached)),
      are.images b.node is.before (marked b.node (by_second before (e ∷ []) n a b pair_old reached)),
    )

-- what more edges reach
more_reached : (graph : List Node) (roots : List Edge) (e : Edge) (k : ℕ) → IsReached graph roots k → IsReached graph (roots ++ e ∷ []) k
more_reached graph roots e k r =
    reaches_more graph graph roots (roots ++ e ∷ []) (λ j a b pair. pair) (λ x c. Contains-append_left roots (e ∷ []) x c) k r

-- a node that one edge reaches in the graph is reached by all of them in the old one
pub last_reached : (old : List Node) (graph : List Node) (roots : List Edge) (e : Edge) (k : ℕ) → IsGraph old → HasGrown old graph → e.node < length old → IsReached graph (e ∷ []) k → IsReached old (roots ++ e ∷ []) k
last_reached old graph roots e k is_graph grown within r =
    let back = reached_back old graph grown (e ∷ []) is_graph (λ x c. subst (λ (y : Edge). y.node < length old) (only_one e x c) within) k r in
    reaches_more old old (e ∷ []) (roots ++ e ∷ []) (λ j a b pair. pair) (λ x c. Contains-append_right roots (e ∷ []) x c) k back.0

-- the state serves for one more edge
pub merged_more : (old : List Node) (roots : List Edge) (nodes : List Node) (m : Merging) (e : Edge) → IsMerged old roots nodes m → IsMerged old (roots ++ e ∷ []) nodes m
merged_more old roots nodes m e is = record {
  graph = is.graph;
  grown = is.grown;
  count = is.count;
  reached = λ k r at. more_reached old roots e k (is.reached k r at);
  turned = is.turned;
  each = λ k c. by k (is.each k c);
}
  where
    by : (k : ℕ) → IsKept old roots nodes m.images.items k → IsKept old (roots ++ e ∷ []) nodes m.images.items k
    by _ constant = constant
    by _ (input k is) = input k (record { input = is.input; reached = more_reached old roots e k is.reached })
    by _ (made k is) = made k (record {
      source = is.source;
      first = is.first;
      second = is.second;
      operands = is.operands;
      reached = more_reached old roots e is.source is.reached;
      image = is.image;
      p = is.p;
      q = is.q;
      p_is = is.p_is;
      q_is = is.q_is;
      made = is.made;
    })
