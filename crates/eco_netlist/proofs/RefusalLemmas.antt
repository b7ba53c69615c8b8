-- The smallest name that has an error.
use Rattle.std.proofs.Common.{◌≡◌, ◌⊎◌, ℕ, zero, suc, ◌+◌, ◌<◌, ◌≤◌, Bool, true, false, cond, List, [], ◌∷◌, ◌++◌, length, take, get_or, zip, arith, Some, None, Option, refl, ap, ◌∙◌, sym, subst, inl, inr}
use native.Mathlib.Numerals.{unary_clauses}
use Rattle.std.specs.Prelude.{Contains}
use Rattle.std.specs.Cmp.Lexicographic.{slice_cmp}
use Rattle.std.specs.Ordering.{nat_cmp, is_lt}
use Rattle.std.proofs.lemmas.Bool.{false≢true, cases_Bool}
use Rattle.std.proofs.lemmas.Cmp.{nat_list_cmp_total, tied_itself}
use Rattle.std.proofs.lemmas.List.{take_all}
use Rattle.std.proofs.lemmas.List.Elements.{Contains-push, Contains-append_left, Contains-push_cases}
use Rattle.std.proofs.lemmas.Slice.Zip.{get_or-zip, length-zip}
use Rattle.eco_laws.proofs.Members.{cases_member}
use Rattle.eco_lists.proofs.Names.{less_from}
use Rattle.eco_lists.proofs.Places.{any_default}
use Rattle.eco_netlist.specs.declared.draft.Declarations.{Declarations}
use Rattle.eco_netlist.specs.declared.draft.TargetRule.{TargetRule}
use Rattle.eco_netlist.specs.declared.refusal_kind.RefusalKind.{RefusalKind}
use Rattle.eco_netlist.specs.declared.refusal_kind.RefusalKind.TheVariants.{DeclaredTwice, PortUndeclared, NotAPort, InputDriven, DrivenTwice, Undriven}
use Rattle.eco_netlist.specs.declared.tally.Tally.{Tally}
use Rattle.eco_netlist.specs.Drafted.{declared_of, IsDrafted}
use Rattle.eco_netlist.specs.Refusals.{IsNoLater, IsFirst, NeverComes}
use Rattle.eco_netlist.specs.Tallies.{nowhere, tally_at, tally_of, stands, is_refused_as, smaller, AreTallies, IsLeast}
use Rattle.eco_netlist.proofs.JudgeLemmas.{stands_declared}
use Rattle.eco_netlist.proofs.NumberedNames.{absent_nowhere}

-- no name stands before itself
pub no_later_itself : (name : List ℕ) → IsNoLater name name
no_later_itself name e = (cc (tied_itself nat_list_cmp_total name, e))

-- a name that is not before another is no later
pub no_later_from : (name other : List ℕ) → is_lt (slice_cmp nat_cmp name other) ≡ false → IsNoLater other name
no_later_from name other e less = false≢true (sym e ∙ ap is_lt less)

-- one more name that has no error
least_more_no : (refusal_kind : RefusalKind) (rule : TargetRule) (pairs : List (List ℕ × Tally)) (least : Option (List ℕ)) (name : List ℕ) (t : Tally) → stands refusal_kind rule name t ≡ false → IsLeast refusal_kind rule pairs least → IsLeast refusal_kind rule (pairs ++ (name, t) ∷ []) least
least_more_no refusal_kind rule pairs None name t e is = λ other u member.
    elim (Contains-push_cases pairs (name, t) (other, u) member) [
      | inl there ↦ is other u there
      | inr same ↦ ap (λ (p : List ℕ × Tally). stands refusal_kind rule p.0 p.1) (sym same) ∙ e
    ]
least_more_no refusal_kind rule pairs (Some least) name t e is = (
  (is.0.0, Contains-append_left pairs ((name, t) ∷ []) (least, is.0.0) is.0.1, is.0.2),
  λ other u member has.
      elim (Contains-push_cases pairs (name, t) (other, u) member) [
        | inl there ↦ is.1 other u there has
        | inr same ↦ absurd (false≢true (sym e ∙ ap (λ (p : List ℕ × Tally). stands refusal_kind rule p.0 p.1) same ∙ has))
      ],
)

-- one more name that has the error and is before the others, or is not
least_more_before : (refusal_kind : RefusalKind) (rule : TargetRule) (pairs : List (List ℕ × Tally)) (least name : List ℕ) (t : Tally) (before : Bool) → is_lt (slice_cmp nat_cmp name least) ≡ before → stands refusal_kind rule name t ≡ true → IsLeast refusal_kind rule pairs (Some least) → IsLeast refusal_kind rule (pairs ++ (name, t) ∷ []) (cond before (Some name) (Some least))
least_more_before refusal_kind rule pairs least name t true order e is = (
  (t, Contains-push pairs (name, t), e),
  λ other u member has.
      elim (Contains-push_cases pairs (name, t) (other, u) member) [
        | inl there ↦ λ earlier.
            is.1 other u there has (nat_list_cmp_total.trans other name least earlier (less_from (slice_cmp nat_cmp name least) order))
        | inr same ↦ subst (λ (p : List ℕ × Tally). IsNoLater name p.0) same (no_later_itself name)
      ],
)
least_more_before refusal_kind rule pairs least name t false order e is = (
  (is.0.0, Contains-append_left pairs ((name, t) ∷ []) (least, is.0.0) is.0.1, is.0.2),
  λ other u member has.
      elim (Contains-push_cases pairs (name, t) (other, u) member) [
        | inl there ↦ is.1 other u there has
        | inr same ↦ subst (λ (p : List ℕ × Tally). IsNoLater least p.0) same (no_later_from name least order)
      ],
)

-- one more name that has the error
least_more_yes : (refusal_kind : RefusalKind) (rule : TargetRule) (pairs : List (List ℕ × Tally)) (least : Option (List ℕ)) (name : List ℕ) (t : Tally) → stands refusal_kind rule name t ≡ true → IsLeast refusal_kind rule pairs least → IsLeast refusal_kind rule (pairs ++ (name, t) ∷ []) (smaller least name true)
least_more_yes refusal_kind rule pairs None name t e is = (
  (t, Contains-push pairs (name, t), e),
  λ other u member has.
      elim (Contains-push_cases pairs (name, t) (other, u) member) [
        | inl there ↦ absurd (false≢true (sym (is other u there) ∙ has))
        | inr same ↦ subst (λ (p : List ℕ × Tally). IsNoLater name p.0) same (no_later_itself name)
      ],
)
least_more_yes refusal_kind rule pairs (Some least) name t e is =
    least_more_before refusal_kind rule pairs least name t (is_lt (slice_cmp nat_cmp name least)) refl e is

-- one more name
least_more : (refusal_kind : RefusalKind) (rule : TargetRule) (pairs : List (List ℕ × Tally)) (least : Option (List ℕ)) (name : List ℕ) (t : Tally) → IsLeast refusal_kind rule pairs least → IsLeast refusal_kind rule (pairs ++ (name, t) ∷ []) (smaller least name (stands refusal_kind rule name t))
least_more refusal_kind rule pairs least name t is =
    elim (cases_Bool (stands refusal_kind rule name t)) [
      | inl has ↦ rw has (least_more_yes refusal_kind rule pairs least name t has is)
      | inr sound ↦ rw sound (least_more_no refusal_kind rule pairs least name t sound is)
    ]

-- the names and counts seen so far, one more at a time
zip_more : {X Y : Type 0} (xs : List X) (ys : List Y) (i : ℕ) (d : X) (e : Y) → i < length xs → i < length ys → zip (take (i + 1) xs) (take (i + 1) ys) ≡ zip (take i xs) (take i ys) ++ (get_or xs i d, get_or ys i e) ∷ []
zip_more [] ys i d e first second = absurd (omega arith)
zip_more (x ∷ xs) [] i d e first second = absurd (omega arith)
zip_more (x ∷ xs) (y ∷ ys) zero d e first second = refl
zip_more (x ∷ xs) (y ∷ ys) (suc i) d e first second =
    simp unary_clauses (ap (λ pairs. (x, y) ∷ pairs) (simp unary_clauses at (zip_more xs ys i d e (omega arith) (omega arith))))

-- the smallest name so far, one more name seen
pub least_next : (refusal_kind : RefusalKind) (rule : TargetRule) (names : List (List ℕ)) (tallies : List Tally) (i : ℕ) (least next : Option (List ℕ)) (name : List ℕ) → i < length names → length tallies ≡ length names → name ≡ get_or names i name → next ≡ smaller least name (stands refusal_kind rule name (tally_at tallies i)) → IsLeast refusal_kind rule (zip (take i names) (take i tallies)) least → IsLeast refusal_kind rule (zip (take (i + 1) names) (take (i + 1) tallies)) next
least_next refusal_kind rule names tallies i least next name within long at e is =
    let step = zip_more names tallies i name nowhere within (omega (arith, long)) ∙ ap (λ n. zip (take i names) (take i tallies) ++ (n, tally_at tallies i) ∷ []) (sym at) in
    rw (step, e) (least_more refusal_kind rule (zip (take i names) (take i tallies)) least name (tally_at tallies i) is)

-- at the end all names are seen
pub least_all : (refusal_kind : RefusalKind) (rule : TargetRule) (names : List (List ℕ)) (tallies : List Tally) (i : ℕ) (least : Option (List ℕ)) → length names ≤ i → length tallies ≡ length names → IsLeast refusal_kind rule (zip (take i names) (take i tallies)) least → IsLeast refusal_kind rule (zip names tallies) least
least_all refusal_kind rule names tallies i least past long is = rw (take_all i names past, take_all i tallies (omega (arith, long))) at is

-- the counts at a name's place are its counts
beside : (x : Declarations) (tallies : List Tally) (k : ℕ) (name : List ℕ) (t : Tally) → AreTallies x tallies → k < length x.names.keys → get_or x.names.keys k name ≡ name → get_or tallies k t ≡ tally_of (declared_of x) name
beside x tallies k name t are within at =
    any_default tallies k t nowhere (omega (arith, are.count))
    ∙ are.counts k within
    ∙ ap (tally_of (declared_of x)) (any_default x.names.keys k [] name within ∙ at)

-- a name and its counts stand at one place
zip_at : (x : Declarations) (tallies : List Tally) (k : ℕ) (name : List ℕ) (t : Tally) → AreTallies x tallies → k < length x.names.keys → get_or (zip x.names.keys tallies) k (name, t) ≡ (get_or x.names.keys k name, get_or tallies k t)
zip_at x tallies k name t are within = get_or-zip x.names.keys tallies k (name, t) within (omega (arith, are.count))

-- a name of the table stands beside its counts
beside_member : (x : Declarations) (tallies : List Tally) (name : List ℕ) → AreTallies x tallies → Contains x.names.keys name → Contains (zip x.names.keys tallies) (name, tally_of (declared_of x) name)
beside_member x tallies name are member =
    let t = tally_of (declared_of x) name in
    let counts = beside x tallies member.0 name t are member.1 member.2 in (
      member.0,
      omega (arith, length-zip x.names.keys tallies, are.count, member.1),
      zip_at x tallies member.0 name t are member.1 ∙ (λ i. (member.2 i, counts i)),
    )

-- what stands beside a name are its counts
member_counts : (x : Declarations) (tallies : List Tally) (name : List ℕ) (t : Tally) → AreTallies x tallies → Contains (zip x.names.keys tallies) (name, t) → t ≡ tally_of (declared_of x) name
member_counts x tallies name t are member =
    let within : member.0 < length x.names.keys = omega (arith, length-zip x.names.keys tallies, are.count, member.1) in
    let pair = sym (zip_at x tallies member.0 name t are within) ∙ member.2 in
    sym (ap (λ (p : List ℕ × Tally). p.1) pair)
    ∙ beside x tallies member.0 name t are within (ap (λ (p : List ℕ × Tally). p.0) pair)

-- a name that is nowhere has no error
nowhere_sound : (refusal_kind : RefusalKind) (rule : TargetRule) (name : List ℕ) → stands refusal_kind rule name nowhere ≡ false
nowhere_sound DeclaredTwice rule name = refl
nowhere_sound PortUndeclared rule name = refl
nowhere_sound NotAPort rule name = refl
nowhere_sound InputDriven rule name = refl
nowhere_sound DrivenTwice rule name = refl
nowhere_sound Undriven rule name = refl

-- a name has no error in the declarations, or it stands in the table beside counts that tell
fault_cases : (refusal_kind : RefusalKind) (rule : TargetRule) (x : Declarations) (tallies : List Tally) (name : List ℕ) → AreTallies x tallies → IsDrafted x → (is_refused_as refusal_kind rule (declared_of x) name ≡ false) ⊎ Contains (zip x.names.keys tallies) (name, tally_of (declared_of x) name)
fault_cases refusal_kind rule x tallies name are drafted =
    elim (cases_member x.names.keys name) [
      | inl member ↦ inr (beside_member x tallies name are member)
      | inr absent ↦ inl (sym (stands_declared refusal_kind rule (declared_of x) name) ∙ ap (stands refusal_kind rule name) (absent_nowhere x name drafted absent) ∙ nowhere_sound refusal_kind rule name)
    ]

-- where no name of the table has the error no name has it
pub never_declared : (refusal_kind : RefusalKind) (rule : TargetRule) (x : Declarations) (tallies : List Tally) → AreTallies x tallies → IsDrafted x → IsLeast refusal_kind rule (zip x.names.keys tallies) None → NeverComes (is_refused_as refusal_kind rule (declared_of x))
never_declared refusal_kind rule x tallies are drafted is name =
    elim (fault_cases refusal_kind rule x tallies name are drafted) [
      | inl sound ↦ sound
      | inr there ↦ sym (stands_declared refusal_kind rule (declared_of x) name) ∙ is name (tally_of (declared_of x) name) there
    ]

-- the smallest name of the table that has the error is the smallest of all
pub first_declared : (refusal_kind : RefusalKind) (rule : TargetRule) (x : Declarations) (tallies : List Tally) (least : List ℕ) → AreTallies x tallies → IsDrafted x → IsLeast refusal_kind rule (zip x.names.keys tallies) (Some least) → IsFirst (is_refused_as refusal_kind rule (declared_of x)) least
first_declared refusal_kind rule x tallies least are drafted is = (
  sym (stands_declared refusal_kind rule (declared_of x) least)
      ∙ ap (stands refusal_kind rule least) (sym (member_counts x tallies least is.0.0 are is.0.1))
      ∙ is.0.2,
  λ name has.
      elim (fault_cases refusal_kind rule x tallies name are drafted) [
        | inl sound ↦ absurd (false≢true (sym sound ∙ has))
        | inr there ↦ is.1 name (tally_of (declared_of x) name) there (stands_declared refusal_kind rule (declared_of x) name ∙ has)
      ],
)
