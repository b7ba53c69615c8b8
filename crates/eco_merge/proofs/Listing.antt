-- Entries as more are listed, and rows as they grow.
use Rattle.std.proofs.Common.{◌≡◌, ℕ, zero, suc, ◌+◌, ◌<◌, List, [], ◌∷◌, ◌++◌, Option, Some, Bool, true, false, length, get_or, set, take, drop, map, refl, sym, ◌∙◌, ap, subst, arith, append_assoc, add-one}
use Rattle.std.specs.List.{slice_get, All, Contains}
use Rattle.std.proofs.lemmas.List.{append-nil}
use Rattle.std.proofs.lemmas.List.Elements.{All-push, All-weaker, Contains-append_left}
use Rattle.std.proofs.lemmas.Option.{same_Some, slice_get-get_or}
use Rattle.eco_lists.proofs.Places.{take_at_more}
use Rattle.eco_aig.specs.declared.node.Node.{Node}
use Rattle.eco_merge.specs.declared.loose.Loose.{Loose}
use Rattle.eco_merge.specs.Questions.{IsCompared, IsEntry}
use Rattle.eco_merge.specs.Steps.{HasMore, IsComparedWith, IsEntryOf}

-- nothing, one, and more behind more
pub more_none : (apart : List Loose) → HasMore apart apart
more_none apart = record { more = []; behind = sym (append-nil apart) }

pub more_join : (one two three : List Loose) → HasMore one two → HasMore two three → HasMore one three
more_join one two three first second = record {
  more = first.more ++ second.more;
  behind = second.behind ∙ ap (λ list. list ++ second.more) first.behind ∙ append_assoc one first.more second.more;
}

-- an entry stays
pub compared_more : (nodes : List Node) (old new : List Loose) (n : ℕ) (other : Option ℕ) (same : Bool) → HasMore old new → IsCompared nodes old n other same → IsCompared nodes new n other same
compared_more nodes old new n other same more is alike =
    let has = is alike in
    record {
      entry = has.entry;
      member = subst (λ list. Contains list has.entry) (sym more.behind) (Contains-append_left old more.more has.entry has.member);
      node_is = has.node_is;
      other_is = has.other_is;
      same_is = has.same_is;
    }

-- compared with the one sign and then with the other
pub both_signs : (nodes : List Node) (one two : List Loose) (n : ℕ) (other : Option ℕ) → HasMore one two → IsCompared nodes one n other true → IsCompared nodes two n other false → (same : Bool) → IsCompared nodes two n other same
both_signs nodes one two n other more first second true = compared_more nodes one two n other true more first
both_signs nodes one two n other more first second false = second

-- what was listed now
pub entries_more : (nodes : List Node) (limit n : ℕ) (other : Option ℕ) (same : Bool) (old new : List Loose) (entry : Loose) → new ≡ old ++ entry ∷ [] → IsEntryOf nodes limit n other same entry → All (IsEntry nodes limit) old → All (IsEntry nodes limit) new
entries_more nodes limit n other same old new entry e is all =
    subst (All (IsEntry nodes limit)) (sym e) (All-push (IsEntry nodes limit) old entry all is.itself)

-- one more node that was compared with all kept ones so far
pub compared_next : (nodes : List Node) (old new : List Loose) (n : ℕ) (kept : List ℕ) (i m : ℕ) → slice_get kept i ≡ Some m → HasMore old new → All (IsComparedWith nodes old n) (take i kept) → IsComparedWith nodes new n m → All (IsComparedWith nodes new n) (take (i + 1) kept)
compared_next nodes old new n kept i m at more all here =
    subst (λ k. All (IsComparedWith nodes new n) (take k kept)) (sym (add-one i)) (subst (All (IsComparedWith nodes new n)) (sym (take_at_more kept i m at)) (All-push (IsComparedWith nodes new n) (take i kept) m (All-weaker (IsComparedWith nodes old n) (IsComparedWith nodes new n) (λ k is same. compared_more nodes old new n _ same more (is same)) (take i kept) all) here))

-- a list whose first elements were exchanged by a function of them
exchanged : {X : Type 0} (f : X → X) (xs : List X) (i : ℕ) (x : X) → slice_get xs i ≡ Some x → set (map f (take i xs) ++ drop i xs) i (f x) ≡ map f (take (suc i) xs) ++ drop (suc i) xs
exchanged f [] i x at = cc
exchanged f (y ∷ ys) zero x at = ap (λ z. f z ∷ ys) (sym (same_Some y x at))
exchanged f (y ∷ ys) (suc i) x at = ap (λ list. f y ∷ list) (exchanged f ys i x at)

there_still : {X : Type 0} (f : X → X) (xs : List X) (i : ℕ) (d : X) → i < length xs → get_or (map f (take i xs) ++ drop i xs) i d ≡ get_or xs i d
there_still f [] i d lt = absurd (omega arith)
there_still f (y ∷ ys) zero d lt = refl
there_still f (y ∷ ys) (suc i) d lt = there_still f ys i d (omega arith)

pub exchange_next : {X : Type 0} (f : X → X) (xs now : List X) (i : ℕ) (x y : X) → now ≡ map f (take i xs) ++ drop i xs → i < length xs → x ≡ get_or now i x → y ≡ f x → set now i y ≡ map f (take (i + 1) xs) ++ drop (i + 1) xs
exchange_next f xs now i x y e lt at y_is =
    let x_is : x ≡ get_or xs i x = at ∙ ap (λ list. get_or list i x) e ∙ there_still f xs i x lt in
    let place : slice_get xs i ≡ Some x = slice_get-get_or xs i x lt ∙ ap Some (sym x_is) in
    ap (λ list. set list i y) e ∙ ap (set (map f (take i xs) ++ drop i xs) i) y_is ∙ exchanged f xs i x place ∙ ap (λ k. map f (take k xs) ++ drop k xs) (sym (add-one i))
