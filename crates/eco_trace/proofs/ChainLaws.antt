-- Chains, walked link by link.
use Rattle.std.proofs.Common.{◌≡◌, ℕ, ◌+◌, ◌<◌, ◌≤◌, List, ◌∷◌, length, drop, get_or, slice_get, Option, Some, None, IfNone, refl, sym, subst}
use Rattle.std.proofs.lemmas.List.{drop_more, drop_all}
use Rattle.eco_trace.specs.declared.clause.Lit.{Lit}
use Rattle.eco_trace.specs.declared.node.Link.{Link}
use Rattle.eco_trace.specs.Clauses.{IsClause}
use Rattle.eco_trace.specs.Resolution.{IsResolvent, IsLinked, Derives}
use Rattle.eco_trace.specs.Merging.{IsDeriving}
use Rattle.eco_trace.proofs.ProofLaws.{linked_one}

-- no link is walked yet
pub deriving_start : (before : List (List Lit)) (begin : List Lit) (links : List Link) → IsClause begin → IsDeriving before begin links 0 begin
deriving_start before begin links h = record { clause_itself = h; onward = λ last d. d; back = λ last d. d }

-- one link more is walked
pub deriving_step : (before : List (List Lit)) (begin : List Lit) (links : List Link) (i : ℕ) (d : Link) (so_far next : List Lit) → i < length links → IsDeriving before begin links i so_far → IsLinked before so_far (get_or links i d) next → IsDeriving before begin links (i + 1) next
deriving_step before begin links i d so_far next lt h l =
    let link : Link = get_or links i d in
    let e : drop i links ≡ link ∷ drop (i + 1) links = drop_more links i d lt in
    record {
      clause_itself = l.resolvent.clause_itself;
      onward =
          λ last whole.
          let rest : Derives before so_far (link ∷ drop (i + 1) links) last =
          subst (λ (ls : List Link). Derives before so_far ls last) e (h.onward last whole)
          in
          let same : rest.0 ≡ next = linked_one before so_far link rest.0 next rest.1 l in
          subst (λ (c : List Lit). Derives before c (drop (i + 1) links) last) same rest.2;
      back =
          λ last rest.
          let whole : Derives before so_far (link ∷ drop (i + 1) links) last = (next, l, rest) in
          h.back last (subst (λ (ls : List Link). Derives before so_far ls last) (sym e) whole);
    }

-- a link that can't be walked stops the whole chain
pub deriving_stop : (before : List (List Lit)) (begin : List Lit) (links : List Link) (i : ℕ) (d : Link) (so_far : List Lit) → i < length links → IsDeriving before begin links i so_far → ((next : List Lit) → IsLinked before so_far (get_or links i d) next → ⊥) → (last : List Lit) → Derives before begin links last → ⊥
deriving_stop before begin links i d so_far lt h none last whole =
    let link : Link = get_or links i d in
    let e : drop i links ≡ link ∷ drop (i + 1) links = drop_more links i d lt in
    let rest : Derives before so_far (link ∷ drop (i + 1) links) last =
    subst (λ (ls : List Link). Derives before so_far ls last) e (h.onward last whole)
    in
    none rest.0 rest.1

-- all links are walked
pub deriving_end : (before : List (List Lit)) (begin : List Lit) (links : List Link) (i : ℕ) (so_far : List Lit) → length links ≤ i → IsDeriving before begin links i so_far → Derives before begin links so_far
deriving_end before begin links i so_far le h =
    h.back so_far (subst (λ (ls : List Link). Derives before so_far ls so_far) (sym (drop_all i links le)) refl)

-- where there is no resolvent the link gives nothing
pub not_linked : {A : Type 0} (before : List (List Lit)) (so_far other : List Lit) (link : Link) (made : Option A) → slice_get before link.with.0 ≡ Some other → IfNone made ((clause : List Lit) → IsResolvent so_far other link.pivot clause → ⊥) → IfNone made ((next : List Lit) → IsLinked before so_far link next → ⊥)
not_linked before so_far other link None at h = λ next l.
    let found : slice_get before link.with.0 ≡ Some l.other = l.other_at in
    let same : l.other ≡ other = cc in
    h next (subst (λ (o : List Lit). IsResolvent so_far o link.pivot next) same l.resolvent)
not_linked before so_far other link (Some x) at h = h
