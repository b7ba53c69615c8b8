-- The names that become nets, and that each is declared or mentioned.
use Rattle.std.proofs.Common.{◌≡◌, ℕ, ◌+◌, ◌<◌, ◌≤◌, Bool, true, false, not, ◌&&◌, ◌||◌, cond, List, [], ◌∷◌, ◌++◌, take, drop, length, get_or, count_by, refl, ap, ◌∙◌, sym, subst, arith, append_assoc, append-nil, nat_le, length-append}
use Rattle.std.specs.Prelude.{Contains, filter, fold}
use Rattle.std.specs.List.{list_any, flat_map, IsDistinct}
use Rattle.std.specs.Str.{bytes_eq}
use Rattle.std.proofs.Math.ListN.{get_or-append}
use Rattle.std.proofs.Math.Seq.{drop-append_seam, get_or-append_seam}
use Rattle.std.proofs.lemmas.Bool.{false≢true, false_from_ne_true}
use Rattle.std.proofs.lemmas.Bool.Decides.{nat_tests}
use Rattle.std.proofs.lemmas.List.{get_or-take, length-take}
use Rattle.std.proofs.lemmas.List.Folds.{list_any-append}
use Rattle.std.proofs.lemmas.List.Sums.{fold-append, count_by_more_yes, sum_by-take-drop}
use Rattle.std.proofs.lemmas.Map.Keys.{apart_from_distinct}
use Rattle.std.proofs.lemmas.Map.Made.{IsDistinct-from_AllPairs}
use Rattle.std.proofs.lemmas.Slice.Eq.{bytes_eq-Decides}
use Rattle.std.proofs.Math.Bool.{or-false, or-true, or_assoc}
use Rattle.eco_lists.proofs.Names.{bytes_eq-same, same_name}
use Rattle.eco_netlist.proofs.NameSets.{Contains-from_has, IsDistinct-append, distinct_from_new, distinct_none, absent_from_has}
use Rattle.eco_lists.proofs.Members.{Contains_none, only_one}
use Rattle.eco_meaning.specs.declared.name.Operand.{Operand}
use Rattle.eco_meaning.specs.declared.name.Operand.TheVariants.{Zero, One, Named}
use Rattle.eco_meaning.specs.Circuit.{NamedGate, names}
use Rattle.eco_meaning.specs.Names.{has, is_target_text}
use Rattle.eco_netlist.specs.declared.draft.TargetRule.{TargetRule}
use Rattle.eco_netlist.specs.Draft.{Declared, allows, reads_name, is_driven, is_read, is_mentioned, is_declared, is_target, operand_names, gate_names, with_name, nets_of, made}
use Rattle.eco_netlist.specs.Refusals.{is_twice, is_declared_twice, NeverComes}
use Rattle.eco_netlist.specs.Numbering.{is_live}
use Rattle.eco_netlist.specs.Tallies.{tally_of}
use Rattle.eco_netlist.proofs.JudgeLemmas.{counted_any}

-- ---- what a list has after names are added
added_at : (list : List (List ℕ)) (x name : List ℕ) (b same : Bool) → has list x ≡ b → bytes_eq name x ≡ same → has (cond b list (list ++ x ∷ [])) name ≡ (has list name || same)
added_at list x name true true e f = subst (λ (n : List ℕ). has list n ≡ (has list n || true)) (sym (same_name name x f)) (e ∙ ap (λ b. b || true) (sym e))
added_at list x name true false e f = sym (or-false (has list name))
added_at list x name false true e f = list_any-append (bytes_eq name) list (x ∷ []) ∙ ap (λ b. has list name || (b || false)) f
added_at list x name false false e f = list_any-append (bytes_eq name) list (x ∷ []) ∙ ap (λ b. has list name || (b || false)) f

has-with_name : (list : List (List ℕ)) (x name : List ℕ) → has (with_name list x) name ≡ (has list name || bytes_eq name x)
has-with_name list x name = added_at list x name (has list x) (bytes_eq name x) refl refl

has-fold : (list xs : List (List ℕ)) (name : List ℕ) → has (fold with_name list xs) name ≡ (has list name || has xs name)
has-fold list [] name = sym (or-false (has list name))
has-fold list (x ∷ xs) name =
    has-fold (with_name list x) xs name
    ∙ ap (λ b. b || has xs name) (has-with_name list x name)
    ∙ or_assoc (has list name) (bytes_eq name x) (has xs name)

-- names are added behind the list
added_behind : (list : List (List ℕ)) (x : List ℕ) (b : Bool) → (more : List (List ℕ)) × (cond b list (list ++ x ∷ []) ≡ list ++ more)
added_behind list x true = ([], sym (append-nil list))
added_behind list x false = (x ∷ [], refl)

fold_behind : (list xs : List (List ℕ)) → (more : List (List ℕ)) × (fold with_name list xs ≡ list ++ more)
fold_behind list [] = ([], sym (append-nil list))
fold_behind list (x ∷ xs) =
    let first = added_behind list x (has list x) in
    let rest = fold_behind (with_name list x) xs in
    (first.0 ++ rest.0, rest.1 ∙ ap (λ l. l ++ rest.0) first.1 ∙ append_assoc list first.0 rest.0)

-- the nets of the declarations are the ports and the wires of the netlist
pub names_made : (rule : TargetRule) (d : Declared) → names (made rule d) ≡ nets_of rule d
names_made rule d =
    let behind = fold_behind d.header (filter (λ wire. is_mentioned d wire || is_target rule d wire) d.wires ++ flat_map gate_names d.gates) in
    ap (λ l. d.header ++ drop (length d.header) l) behind.1
    ∙ ap (λ l. d.header ++ l) (drop-append_seam d.header behind.0)
    ∙ sym behind.1

-- ---- which names gates mention
has_operand : (name : List ℕ) (term : Operand) (names : List (List ℕ)) → has (operand_names term ++ names) name ≡ (reads_name name term || has names name)
has_operand name Zero names = refl
has_operand name One names = refl
has_operand name (Named other) names = refl

has_terms : (name : List ℕ) (terms : List Operand) → has (flat_map operand_names terms) name ≡ list_any (reads_name name) terms
has_terms name [] = refl
has_terms name (term ∷ terms) =
    has_operand name term (flat_map operand_names terms) ∙ ap (λ b. reads_name name term || b) (has_terms name terms)

or_swap : (a b c d : Bool) → ((a || b) || (c || d)) ≡ ((a || c) || (b || d))
or_swap true b c d = refl
or_swap false true true d = refl
or_swap false true false d = refl
or_swap false false true d = refl
or_swap false false false d = refl

has_gates : (name : List ℕ) (gates : List NamedGate) → has (flat_map gate_names gates) name ≡ (list_any (λ g. bytes_eq name g.out) gates || list_any (λ g. list_any (reads_name name) g.terms) gates)
has_gates name [] = refl
has_gates name (g ∷ gates) =
    list_any-append (bytes_eq name) (gate_names g) (flat_map gate_names gates)
    ∙ ap (λ b. (bytes_eq name g.out || b) || has (flat_map gate_names gates) name) (has_terms name g.terms)
    ∙ ap (λ b. (bytes_eq name g.out || list_any (reads_name name) g.terms) || b) (has_gates name gates)
    ∙ or_swap (bytes_eq name g.out) (list_any (reads_name name) g.terms) (list_any (λ h. bytes_eq name h.out) gates) (list_any (λ h. list_any (reads_name name) h.terms) gates)

-- a filter keeps what passes
filter_at : (p : List ℕ → Bool) (name x : List ℕ) (kept : List (List ℕ)) (rest keeps same : Bool) → p x ≡ keeps → bytes_eq name x ≡ same → has kept name ≡ (rest && p name) → has (cond keeps (x ∷ kept) kept) name ≡ ((same || rest) && p name)
filter_at p name x kept rest true true e f h =
    ap (λ b. b || has kept name) f ∙ sym (ap p (same_name name x f) ∙ e)
filter_at p name x kept rest true false e f h = ap (λ b. b || has kept name) f ∙ h
filter_at p name x kept true false true e f h = h
filter_at p name x kept false false true e f h = h ∙ sym (ap p (same_name name x f) ∙ e)
filter_at p name x kept rest false false e f h = h

pub has-filter : (p : List ℕ → Bool) (xs : List (List ℕ)) (name : List ℕ) → has (filter p xs) name ≡ (has xs name && p name)
has-filter p [] name = refl
has-filter p (x ∷ xs) name =
    filter_at p name x (filter p xs) (has xs name) (p x) (bytes_eq name x) refl refl (has-filter p xs name)

-- what the nets are
pub has_nets : (rule : TargetRule) (d : Declared) (name : List ℕ) → has (nets_of rule d) name ≡ (has d.header name || ((has d.wires name && (is_mentioned d name || is_target rule d name)) || is_mentioned d name))
has_nets rule d name =
    has-fold d.header (filter (λ wire. is_mentioned d wire || is_target rule d wire) d.wires ++ flat_map gate_names d.gates) name
    ∙ ap (λ b. has d.header name || b)
    (list_any-append (bytes_eq name) (filter (λ wire. is_mentioned d wire || is_target rule d wire) d.wires) (flat_map gate_names d.gates)
    ∙ ap (λ b. b || has (flat_map gate_names d.gates) name) (has-filter (λ wire. is_mentioned d wire || is_target rule d wire) d.wires name)
    ∙ ap (λ b. (has d.wires name && (is_mentioned d name || is_target rule d name)) || b) (has_gates name d.gates))

-- ---- names that stand once
-- two members that pass are counted
pub two_counted : {X : Type 0} (p : X → Bool) (xs : List X) (i j : ℕ) (d : X) → i < j → j < length xs → p (get_or xs i d) ≡ true → p (get_or xs j d) ≡ true → 2 ≤ count_by p xs
two_counted p xs i j d before within first second =
    let here : get_or (take j xs) i d ≡ get_or xs i d = get_or-take j xs i d before in
    let room : i < length (take j xs) = simp length-take (omega arith) in
    let last = count_by_more_yes p xs j d within second in
    let early = count_by_more_yes p (take j xs) i d room (ap p here ∙ first) in
    let all = sum_by-take-drop (λ x. cond (p x) 1 0) xs (j + 1) in
    let front = sum_by-take-drop (λ x. cond (p x) 1 0) (take j xs) (i + 1) in
    omega (arith, last, early, all, front)

-- a list that has no name twice is one of different names
pub distinct_once : (list : List (List ℕ)) → ((name : List ℕ) → is_twice list name ≡ false) → IsDistinct bytes_eq list
distinct_once list once =
    IsDistinct-from_AllPairs bytes_eq-Decides list (λ i j d before within same.
    let first : bytes_eq (get_or list i d) (get_or list i d) ≡ true = bytes_eq-same (get_or list i d) in
    let second : bytes_eq (get_or list i d) (get_or list j d) ≡ true = ap (bytes_eq (get_or list i d)) (sym same) ∙ first in
    let two : 2 ≤ count_by (bytes_eq (get_or list i d)) list = two_counted (bytes_eq (get_or list i d)) list i j d before within first second in
    let never : nat_le 2 (count_by (bytes_eq (get_or list i d)) list) ≡ false = once (get_or list i d) in
    grind (arith, nat_tests, two, never))

-- ---- the names as they are added
-- two tests that agree at each member keep the same
pub filter_members : (p q : List ℕ → Bool) (xs : List (List ℕ)) → ((x : List ℕ) → has xs x ≡ true → p x ≡ q x) → filter p xs ≡ filter q xs
filter_members p q [] agree = refl
filter_members p q (x ∷ xs) agree =
    ap (λ b. cond b (x ∷ filter p xs) (filter p xs)) (agree x (ap (λ b. b || has xs x) (bytes_eq-same x)))
    ∙ ap (λ kept. cond (q x) (x ∷ kept) kept)
    (filter_members p q xs (λ y e. agree y (ap (λ b. bytes_eq y x || b) e ∙ or-true (bytes_eq y x))))

-- a name of a list of different names does not stand before itself
not_before : (done : List (List ℕ)) (x : List ℕ) (xs : List (List ℕ)) → IsDistinct bytes_eq (done ++ x ∷ xs) → Contains done x → ⊥
not_before done x xs distinct member =
    let room : length done < length (done ++ x ∷ xs) = simp length-append (omega arith) in
    let apart = apart_from_distinct bytes_eq (done ++ x ∷ xs) member.0 (length done) x distinct member.1 room in
    let here : get_or (done ++ x ∷ xs) member.0 x ≡ x = get_or-append done (x ∷ xs) x member.0 member.1 ∙ member.2 in
    let there : get_or (done ++ x ∷ xs) (length done) x ≡ x = get_or-append_seam done x xs x in
    let same : bytes_eq x x ≡ false = rw (here, there) at apart in
    false≢true (sym same ∙ bytes_eq-same x)

-- different names are all added
pub fold_fresh : (done xs : List (List ℕ)) → IsDistinct bytes_eq (done ++ xs) → fold with_name done xs ≡ done ++ xs
fold_fresh done [] distinct = sym (append-nil done)
fold_fresh done (x ∷ xs) distinct =
    let absent : has done x ≡ false = false_from_ne_true (has done x) (λ e. not_before done x xs distinct (Contains-from_has done x e)) in
    let pushed : IsDistinct bytes_eq ((done ++ x ∷ []) ++ xs) = rw append_assoc distinct in
    ap (λ b. fold with_name (cond b done (done ++ x ∷ [])) xs) absent
    ∙ fold_fresh (done ++ x ∷ []) xs pushed
    ∙ append_assoc done (x ∷ []) xs

-- a declared wire is live by its counts where it is mentioned or a target
live_bools : (allowed text declared input driven read : Bool) → declared ≡ true →
    ((driven || read) || (allowed && text && not input && not driven))
    ≡ ((driven || read) || (allowed && text && (declared || (driven || read)) && not input && not driven))
live_bools true true declared input driven read e = ap (λ b. (driven || read) || ((b || (driven || read)) && not input && not driven)) (sym e)
live_bools true false declared input driven read e = refl
live_bools false text declared input driven read e = refl

live_wire : (rule : TargetRule) (d : Declared) (wire : List ℕ) → has d.wires wire ≡ true → is_live rule wire (tally_of d wire) ≡ (is_mentioned d wire || is_target rule d wire)
live_wire rule d wire e =
    simp counted_any
    (live_bools (allows rule) (is_target_text wire) (is_declared d wire) (has d.inputs wire) (is_driven d wire) (is_read d wire)
    (ap (λ b. has d.header wire || has d.inputs wire || has d.outputs wire || b) e ∙ or-true (has d.header wire || has d.inputs wire || has d.outputs wire)))

-- the header has no name twice
header_once : (d : Declared) → NeverComes (is_declared_twice d) → (name : List ℕ) → is_twice d.header name ≡ false
header_once d never name =
    false_from_ne_true (is_twice d.header name) (λ e.
    false≢true (sym (never name)
    ∙ ap (λ b. b || is_twice d.inputs name || is_twice d.outputs name || (has d.inputs name && has d.outputs name) || is_twice d.wires name) e))

-- the names that were added in order are the nets
pub added_nets : (rule : TargetRule) (d : Declared) → NeverComes (is_declared_twice d) →
    fold with_name (fold with_name (fold with_name [] d.header) (filter (λ wire. is_live rule wire (tally_of d wire)) d.wires)) (flat_map gate_names d.gates) ≡ nets_of rule d
added_nets rule d once =
    let wires : filter (λ wire. is_live rule wire (tally_of d wire)) d.wires ≡ filter (λ wire. is_mentioned d wire || is_target rule d wire) d.wires =
    filter_members (λ wire. is_live rule wire (tally_of d wire)) (λ wire. is_mentioned d wire || is_target rule d wire) d.wires (live_wire rule d) in
    let header : fold with_name [] d.header ≡ d.header = fold_fresh [] d.header (distinct_once d.header (header_once d once)) in
    ap (λ l. fold with_name (fold with_name l (filter (λ wire. is_live rule wire (tally_of d wire)) d.wires)) (flat_map gate_names d.gates)) header
    ∙ ap (λ l. fold with_name (fold with_name d.header l) (flat_map gate_names d.gates)) wires
    ∙ sym (fold-append with_name d.header (filter (λ wire. is_mentioned d wire || is_target rule d wire) d.wires) (flat_map gate_names d.gates))

-- a name is added once
distinct_with : (list : List (List ℕ)) (x : List ℕ) (b : Bool) → has list x ≡ b → IsDistinct bytes_eq list → IsDistinct bytes_eq (cond b list (list ++ x ∷ []))
distinct_with list x true e distinct = distinct
distinct_with list x false e distinct =
    IsDistinct-append list (x ∷ []) distinct (distinct_from_new x [] (Contains_none x) distinct_none) (λ name there here.
    absent_from_has list x e (subst (λ (n : List ℕ). Contains list n) (sym (only_one x name here)) there))

pub distinct_fold : (list xs : List (List ℕ)) → IsDistinct bytes_eq list → IsDistinct bytes_eq (fold with_name list xs)
distinct_fold list [] distinct = distinct
distinct_fold list (x ∷ xs) distinct = distinct_fold (with_name list x) xs (distinct_with list x (has list x) refl distinct)

-- the nets have different names
pub nets_distinct : (rule : TargetRule) (d : Declared) → NeverComes (is_declared_twice d) → IsDistinct bytes_eq (nets_of rule d)
nets_distinct rule d once =
    distinct_fold d.header (filter (λ wire. is_mentioned d wire || is_target rule d wire) d.wires ++ flat_map gate_names d.gates)
    (distinct_once d.header (header_once d once))
