-- Edges that are added to a graph one by one.
use Rattle.std.proofs.Common.{◌≡◌, ℕ, ◌+◌, ◌*◌, ◌<◌, List, [], ◌∷◌, ◌++◌, length, arith, refl, sym, subst, length-append}
use Rattle.std.specs.List.{All}
use Rattle.std.proofs.lemmas.List.Elements.{All-append, All-cons, All-nil}
use Rattle.eco_aig.specs.declared.edge.Edge.{Edge}
use Rattle.eco_aig.specs.declared.node.Node.{Node}
use Rattle.eco_aig.specs.Graph.{IsEdge, Grows}
use Rattle.eco_aig.proofs.Growing.{grows_none, grows_join, grows_more, edges_stay}

-- so many edges of the graph, each of which took six nodes at most
pub record AreMade (old new : List Node) (count : ℕ) (edges : List Edge) : Type 0 where
  pub len : length edges ≡ count
  pub within : All (IsEdge new) edges
  pub grows : Grows old new (6 * count)

pub made_none : (nodes : List Node) → AreMade nodes nodes 0 []
made_none nodes = record { len = refl; within = All-nil (IsEdge nodes); grows = grows_none nodes 0 }

-- the graph after one more
pub made_few : (old mid new : List Node) (count most : ℕ) (edges : List Edge) → count < most → AreMade old mid count edges → Grows mid new 6 → Grows old new (6 * most)
made_few old mid new count most edges lt made grows =
    grows_more old new (6 * count + 6) (6 * most) (omega (arith, lt)) (grows_join old mid new (6 * count) 6 made.grows grows)

pub made_more : (old mid new : List Node) (count : ℕ) (edges more : List Edge) (e : Edge) → AreMade old mid count edges → Grows mid new 6 → IsEdge new e → more ≡ edges ++ e ∷ [] →
    AreMade old new (count + 1) more
made_more old mid new count edges more e made grows within is =
    let all = All-append (IsEdge new) edges (e ∷ []) (edges_stay mid new 6 edges grows made.within) (All-cons (IsEdge new) e [] within (All-nil (IsEdge new))) in
    subst (AreMade old new (count + 1)) (sym is) (record {
      len = omega (arith, made.len, length-append edges (e ∷ []));
      within = all;
      grows = made_few old mid new count (count + 1) edges (omega arith) made grows;
    })
