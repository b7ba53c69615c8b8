-- Entries about nodes that edges reach.
use Rattle.std.proofs.Common.{◌≡◌, inl, inr, ℕ, Bool, true, List, Option, Some, None, filter, refl, sym, ◌∙◌, subst}
use Rattle.std.specs.List.{All, Contains}
use Rattle.std.proofs.lemmas.Bool.{and_parts, and_from}
use Rattle.std.proofs.lemmas.Option.{same_Some, none-some}
use Rattle.std.proofs.lemmas.List.Elements.{All-weaker, filter_passes}
use Rattle.eco_lists.proofs.Members.{Contains-filter}
use Rattle.eco_lists.specs.Bits.{bit_at}
use Rattle.eco_aig.specs.declared.edge.Edge.{Edge}
use Rattle.eco_aig.specs.declared.node.Node.{Node}
use Rattle.eco_aig.specs.Reached.{AreReached, IsReached}
use Rattle.eco_merge.specs.declared.loose.Loose.{Loose}
use Rattle.eco_merge.specs.Counting.{AreUnlike, IsAboutReached}
use Rattle.eco_merge.specs.Marked.{are_marked, is_other_marked}
use Rattle.eco_merge.specs.Questions.{HasEntry}

-- the nodes of a marked entry are reached, and an entry whose nodes are reached is marked
marked_about : (nodes : List Node) (roots : List Edge) (marks : List Bool) (entry : Loose) → AreReached nodes roots marks → are_marked marks entry ≡ true → IsAboutReached nodes roots entry
marked_about nodes roots marks entry are marked =
    let both = and_parts (bit_at marks entry.node) (is_other_marked marks entry.other) marked in
    record {
      node = are.sound entry.node both.0;
      other = λ m e. are.sound m (subst (λ o. is_other_marked marks o ≡ true) e both.1);
    }

about_marked : (nodes : List Node) (roots : List Edge) (marks : List Bool) (entry : Loose) → AreReached nodes roots marks → IsAboutReached nodes roots entry → are_marked marks entry ≡ true
about_marked nodes roots marks entry are about =
    and_from (bit_at marks entry.node) (is_other_marked marks entry.other) (are.complete entry.node about.node) (by entry.other refl)
  where
    by : (o : Option ℕ) → entry.other ≡ o → is_other_marked marks o ≡ true
    by None e = refl
    by (Some m) e = are.complete m (about.other m e)

-- so the marked entries are those whose nodes are reached
pub all_about : (nodes : List Node) (roots : List Edge) (marks : List Bool) (entries : List Loose) → AreReached nodes roots marks → All (IsAboutReached nodes roots) (filter (are_marked marks) entries)
all_about nodes roots marks entries are =
    All-weaker (λ entry. are_marked marks entry ≡ true) (IsAboutReached nodes roots) (λ entry marked. marked_about nodes roots marks entry are marked) (filter (are_marked marks) entries) (filter_passes (are_marked marks) entries)

pub about_kept : (nodes : List Node) (roots : List Edge) (marks : List Bool) (entries : List Loose) (entry : Loose) → AreReached nodes roots marks → Contains entries entry → IsAboutReached nodes roots entry → Contains (filter (are_marked marks) entries) entry
about_kept nodes roots marks entries entry are c about =
    Contains-filter (are_marked marks) entries entry c (about_marked nodes roots marks entry are about)

-- where entries about reached nodes are kept, they say as much of these as all entries do
has_kept : (nodes : List Node) (roots : List Edge) (apart kept : List Loose) (n : ℕ) (other : Option ℕ) (same : Bool) → ((entry : Loose) → Contains apart entry → IsAboutReached nodes roots entry → Contains kept entry) → IsReached nodes roots n → ((m : ℕ) → other ≡ Some m → IsReached nodes roots m) → HasEntry apart n other same → HasEntry kept n other same
has_kept nodes roots apart kept n other same stay node others has = record {
  entry = has.entry;
  member = stay has.entry has.member (record {
    node = subst (IsReached nodes roots) (sym has.node_is) node;
    other = λ m e. others m (sym has.other_is ∙ e);
  });
  node_is = has.node_is;
  other_is = has.other_is;
  same_is = has.same_is;
}

pub unlike_told : (nodes : List Node) (roots : List Edge) (apart kept : List Loose) → ((entry : Loose) → Contains apart entry → IsAboutReached nodes roots entry → Contains kept entry) → AreUnlike nodes roots apart → AreUnlike nodes roots kept
unlike_told nodes roots apart kept stay are = record {
  two = λ n m one two ne same alike. elim (are.two n m one two ne same alike) [
    | inl has ↦ inl (has_kept nodes roots apart kept n (Some m) same stay one.reached (λ k e. subst (IsReached nodes roots) (same_Some m k e) two.reached) has)
    | inr has ↦ inr (has_kept nodes roots apart kept m (Some n) same stay two.reached (λ k e. subst (IsReached nodes roots) (same_Some n k e) one.reached) has)
  ];
  one = λ n gate same alike. has_kept nodes roots apart kept n None same stay gate.reached (λ k e. absurd (none-some k e)) (are.one n gate same alike);
}
