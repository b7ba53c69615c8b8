-- Names by their numbers in a table of different names: their counts are counts of the numbers.
use Rattle.std.proofs.Common.{◌≡◌, ℕ, ◌+◌, ◌<◌, Bool, false, cond, List, [], ◌∷◌, length, get_or, map, count_by, refl, ap, ◌∙◌, sym, subst, inl, inr, arith}
use Rattle.std.specs.Prelude.{nat_eq, ◌||◌, All, Contains}
use Rattle.std.specs.List.{IsDistinct, list_any}
use Rattle.std.specs.Str.{bytes_eq}
use Rattle.std.proofs.lemmas.Bool.{cases_order, eq-eqb, ne_eqb, false_from_ne_true}
use Rattle.std.proofs.lemmas.List.Elements.{All-head, All-tail, Contains-get_or}
use Rattle.std.proofs.lemmas.List.Sums.{sum_by-cons}
use Rattle.std.proofs.lemmas.Map.Keys.{apart_from_distinct}
use Rattle.eco_lists.proofs.Names.{bytes_eq-flip, bytes_eq-same, same_name}
use Rattle.eco_gates.specs.declared.gate.NetId.{NetId}
use Rattle.eco_gates.specs.declared.gate.Term.{Term}
use Rattle.eco_gates.specs.declared.gate.Term.TheVariants.{Zero, One, Net}
use Rattle.eco_gates.specs.GateValue.{GateValue}
use Rattle.eco_gates.specs.Gates.{IsTermBelow, IsWithin}
use Rattle.eco_netlist.specs.declared.draft.Declarations.{Declarations}
use Rattle.eco_netlist.specs.Draft.{reads_name}
use Rattle.eco_netlist.specs.Drafted.{declared_of, IsDrafted}
use Rattle.eco_netlist.specs.Netlists.{name_at, names_at, named_term, named_gate, AreNets}
use Rattle.eco_netlist.specs.Tallies.{nowhere, is_net, reads_net, with_count, with_gates, tally_of}
use Rattle.eco_netlist.specs.declared.tally.Place.TheVariants.{Header, Input, Output, Wire}

-- two names of the table are one where their numbers are
pub name_eq : (keys : List (List ℕ)) (a b : ℕ) → IsDistinct bytes_eq keys → a < length keys → b < length keys → bytes_eq (name_at keys a) (name_at keys b) ≡ nat_eq a b
name_eq keys a b distinct first second =
    elim (cases_order a b) [
      | inl same ↦
          ap (λ n. bytes_eq (name_at keys n) (name_at keys b)) same ∙ bytes_eq-same (name_at keys b) ∙ sym (eq-eqb a b same)
      | inr apart ↦ elim apart [
        | inl below ↦
            apart_from_distinct bytes_eq keys a b [] distinct below second ∙ sym (ne_eqb a b (λ same. omega arith))
        | inr above ↦
            bytes_eq-flip (name_at keys a) (name_at keys b) ∙ apart_from_distinct bytes_eq keys b a [] distinct above first
            ∙ sym (ne_eqb a b (λ same. omega arith))
      ]
    ]

-- a name that is not in the table is none of its names
pub name_apart : (keys : List (List ℕ)) (name : List ℕ) (k : ℕ) → (Contains keys name → ⊥) → k < length keys → bytes_eq name (name_at keys k) ≡ false
name_apart keys name k absent within =
    false_from_ne_true (bytes_eq name (name_at keys k)) (λ e.
    absent (subst (Contains keys) (sym (same_name name (name_at keys k) e)) (Contains-get_or keys k [] within)))

-- a test of what items stand for is a test of the items
pub count_by-map : {X Y : Type 0} (p : Y → Bool) (q : X → Bool) (f : X → Y) (xs : List X) → All (λ x. p (f x) ≡ q x) xs → count_by p (map f xs) ≡ count_by q xs
count_by-map p q f [] all = refl
count_by-map {X} p q f (x ∷ xs) all =
    let same : p (f x) ≡ q x = All-head (λ (x : X). p (f x) ≡ q x) x xs all in
    let rest : count_by p (map f xs) ≡ count_by q xs = count_by-map p q f xs (All-tail (λ (x : X). p (f x) ≡ q x) x xs all) in
    sum_by-cons (λ y. cond (p y) 1 0) (f x) (map f xs)
    ∙ ap (λ b. cond b 1 0 + count_by p (map f xs)) same
    ∙ ap (λ n. cond (q x) 1 0 + n) rest
    ∙ sym (sum_by-cons (λ y. cond (q y) 1 0) x xs)

pub list_any-map : {X Y : Type 0} (p : Y → Bool) (q : X → Bool) (f : X → Y) (xs : List X) → All (λ x. p (f x) ≡ q x) xs → list_any p (map f xs) ≡ list_any q xs
list_any-map p q f [] all = refl
list_any-map {X} p q f (x ∷ xs) all =
    ap (λ b. b || list_any p (map f xs)) (All-head (λ (x : X). p (f x) ≡ q x) x xs all)
    ∙ ap (λ b. q x || b) (list_any-map p q f xs (All-tail (λ (x : X). p (f x) ≡ q x) x xs all))

-- a test that nothing passes
count_by_never : {X : Type 0} (xs : List X) → count_by (λ x. false) xs ≡ 0
count_by_never [] = refl
count_by_never (x ∷ xs) = let rest = count_by_never xs in sum_by-cons (λ y. cond false 1 0) x xs ∙ omega arith

list_any_never : {X : Type 0} (xs : List X) → list_any (λ x. false) xs ≡ false
list_any_never [] = refl
list_any_never (x ∷ xs) = list_any_never xs

-- how often a name of the table stands in a list
pub count_numbered : (keys : List (List ℕ)) (net : ℕ) (nets : List NetId) → IsDistinct bytes_eq keys → net < length keys → AreNets keys nets → count_by (bytes_eq (name_at keys net)) (names_at keys nets) ≡ count_by (is_net net) nets
count_numbered keys net nets distinct within all =
    count_by-map (bytes_eq (name_at keys net)) (is_net net) (λ n. name_at keys n.0) nets
    (λ k d lt. name_eq keys net (get_or nets k d).0 distinct within (all k d lt))

-- whether an input of a gate reads a name of the table
reads_numbered : (keys : List (List ℕ)) (net : ℕ) (term : Term) → IsDistinct bytes_eq keys → net < length keys → IsTermBelow (length keys) term → reads_name (name_at keys net) (named_term keys term) ≡ reads_net net term
reads_numbered keys net Zero distinct within below = refl
reads_numbered keys net One distinct within below = refl
reads_numbered keys net (Net other) distinct within below = name_eq keys net other.0 distinct within below

gate_reads_numbered : (keys : List (List ℕ)) (net : ℕ) (ins : List Term) → IsDistinct bytes_eq keys → net < length keys → All (IsTermBelow (length keys)) ins → list_any (reads_name (name_at keys net)) (map (named_term keys) ins) ≡ list_any (reads_net net) ins
gate_reads_numbered keys net ins distinct within all =
    list_any-map (reads_name (name_at keys net)) (reads_net net) (named_term keys) ins
    (λ k d lt. reads_numbered keys net (get_or ins k d) distinct within (all k d lt))

-- how many gates drive a name of the table, and whether one reads it
drivers_numbered : (keys : List (List ℕ)) (net : ℕ) (gates : List GateValue) → IsDistinct bytes_eq keys → net < length keys → IsWithin (length keys) gates → count_by (λ g. bytes_eq (name_at keys net) g.out) (map (named_gate keys) gates) ≡ count_by (λ g. is_net net g.out) gates
drivers_numbered keys net gates distinct within all =
    count_by-map (λ g. bytes_eq (name_at keys net) g.out) (λ g. is_net net g.out) (named_gate keys) gates
    (λ k d lt. name_eq keys net (get_or gates k d).out.0 distinct within (all k d lt).out)

read_numbered : (keys : List (List ℕ)) (net : ℕ) (gates : List GateValue) → IsDistinct bytes_eq keys → net < length keys → IsWithin (length keys) gates → list_any (λ g. list_any (reads_name (name_at keys net)) g.terms) (map (named_gate keys) gates) ≡ list_any (λ g. list_any (reads_net net) g.ins) gates
read_numbered keys net gates distinct within all =
    list_any-map (λ g. list_any (reads_name (name_at keys net)) g.terms) (λ g. list_any (reads_net net) g.ins) (named_gate keys) gates
    (λ k d lt. gate_reads_numbered keys net (get_or gates k d).ins distinct within (all k d lt).ins)

-- the counts of a number are those of its name
pub tallied : (x : Declarations) (net : ℕ) → IsDistinct bytes_eq x.names.keys → IsDrafted x → net < length x.names.keys →
    with_gates x.gates.items net
    (with_count Wire (count_by (is_net net) x.wires.items)
    (with_count Output (count_by (is_net net) x.outputs.items)
    (with_count Input (count_by (is_net net) x.inputs.items)
    (with_count Header (count_by (is_net net) x.header.items) nowhere))))
    ≡ tally_of (declared_of x) (name_at x.names.keys net)
tallied x net distinct drafted within =
    rw (count_numbered x.names.keys net x.header.items distinct within drafted.header)
    (rw (count_numbered x.names.keys net x.inputs.items distinct within drafted.inputs)
    (rw (count_numbered x.names.keys net x.outputs.items distinct within drafted.outputs)
    (rw (count_numbered x.names.keys net x.wires.items distinct within drafted.wires)
    (rw (drivers_numbered x.names.keys net x.gates.items distinct within drafted.gates)
    (rw (read_numbered x.names.keys net x.gates.items distinct within drafted.gates) refl)))))

-- a name that is not in the table stands in no list, and no input of a gate reads it
count_absent_name : (keys : List (List ℕ)) (name : List ℕ) (nets : List NetId) → (Contains keys name → ⊥) → AreNets keys nets → count_by (bytes_eq name) (names_at keys nets) ≡ 0
count_absent_name keys name nets absent all =
    count_by-map (bytes_eq name) (λ n. false) (λ n. name_at keys n.0) nets
    (λ k d lt. name_apart keys name (get_or nets k d).0 absent (all k d lt))
    ∙ count_by_never nets

reads_absent : (keys : List (List ℕ)) (name : List ℕ) (term : Term) → (Contains keys name → ⊥) → IsTermBelow (length keys) term → reads_name name (named_term keys term) ≡ false
reads_absent keys name Zero absent below = refl
reads_absent keys name One absent below = refl
reads_absent keys name (Net other) absent below = name_apart keys name other.0 absent below

gate_reads_absent : (keys : List (List ℕ)) (name : List ℕ) (ins : List Term) → (Contains keys name → ⊥) → All (IsTermBelow (length keys)) ins → list_any (reads_name name) (map (named_term keys) ins) ≡ false
gate_reads_absent keys name ins absent all =
    list_any-map (reads_name name) (λ t. false) (named_term keys) ins
    (λ k d lt. reads_absent keys name (get_or ins k d) absent (all k d lt))
    ∙ list_any_never ins

drivers_absent : (keys : List (List ℕ)) (name : List ℕ) (gates : List GateValue) → (Contains keys name → ⊥) → IsWithin (length keys) gates → count_by (λ g. bytes_eq name g.out) (map (named_gate keys) gates) ≡ 0
drivers_absent keys name gates absent all =
    count_by-map (λ g. bytes_eq name g.out) (λ g. false) (named_gate keys) gates
    (λ k d lt. name_apart keys name (get_or gates k d).out.0 absent (all k d lt).out)
    ∙ count_by_never gates

read_absent : (keys : List (List ℕ)) (name : List ℕ) (gates : List GateValue) → (Contains keys name → ⊥) → IsWithin (length keys) gates → list_any (λ g. list_any (reads_name name) g.terms) (map (named_gate keys) gates) ≡ false
read_absent keys name gates absent all =
    list_any-map (λ g. list_any (reads_name name) g.terms) (λ g. false) (named_gate keys) gates
    (λ k d lt. gate_reads_absent keys name (get_or gates k d).ins absent (all k d lt).ins)
    ∙ list_any_never gates

-- a name that is not in the table is nowhere in the declarations
pub absent_nowhere : (x : Declarations) (name : List ℕ) → IsDrafted x → (Contains x.names.keys name → ⊥) → tally_of (declared_of x) name ≡ nowhere
absent_nowhere x name drafted absent =
    rw (count_absent_name x.names.keys name x.header.items absent drafted.header)
    (rw (count_absent_name x.names.keys name x.inputs.items absent drafted.inputs)
    (rw (count_absent_name x.names.keys name x.outputs.items absent drafted.outputs)
    (rw (count_absent_name x.names.keys name x.wires.items absent drafted.wires)
    (rw (drivers_absent x.names.keys name x.gates.items absent drafted.gates)
    (rw (read_absent x.names.keys name x.gates.items absent drafted.gates) refl)))))
