-- Loops of named gates and circles of gate numbers.
use Rattle.std.proofs.Common.{◌≡◌, ℕ, ◌<◌, List, [], ◌∷◌, ◌++◌, length, get_or, map, Some, refl, ap, ◌∙◌, sym, subst, arith}
use Rattle.std.specs.Prelude.{All, Contains, slice_get, option_map}
use Rattle.std.specs.List.{IsDistinct}
use Rattle.std.specs.Option.{option_map_or}
use Rattle.std.specs.Str.{bytes_eq}
use Rattle.std.proofs.lemmas.List.{get_or-map, length-map}
use Rattle.std.proofs.lemmas.List.Elements.{All-head, All-tail, All-weaker}
use Rattle.std.proofs.lemmas.List.Sorted.{IsPermutation-append_comm}
use Rattle.std.proofs.lemmas.Map.Keys.{IsDistinct-IsPermutation}
use Rattle.std.proofs.lemmas.Map.Made.{IsDistinct-from_AllPairs}
use Rattle.std.proofs.lemmas.Option.{slice_get-map, slice_get-get_or}
use Rattle.std.proofs.lemmas.Slice.Eq.{bytes_eq-Decides}
use Rattle.eco_lists.proofs.Names.{bytes_eq_equiv}
use Rattle.eco_meaning.specs.declared.name.Operand.TheVariants as operand
use Rattle.eco_meaning.specs.Circuit.{NamedGate, IsReadBy, IsChain, IsCircle, IsLoopFree, last_of}
use Rattle.eco_gates.specs.declared.gate.NetId.{NetId}
use Rattle.eco_gates.specs.declared.gate.Term.{Term}
use Rattle.eco_gates.specs.declared.gate.Term.TheVariants.{Zero, One, Net}
use Rattle.eco_gates.specs.GateValue.{GateValue}
use Rattle.eco_gates.specs.Gates.{IsTermBelow, IsGateWithin, ReadsOut}
use Rattle.eco_gates.specs.Ordering.{IsOrder, IsGateCircle}
use Rattle.eco_gates.proofs.Laws.{order_no_circle}
use Rattle.eco_lists.proofs.Places.{place_of, item_at, Contains_at, All_at, same_place_by}
use Rattle.eco_netlist.specs.declared.draft.TargetRule.{TargetRule}
use Rattle.eco_netlist.specs.Building.{AreParts, output_name, IsTurned}
use Rattle.eco_netlist.specs.Draft.{Declared, made}
use Rattle.eco_netlist.specs.Refusals.{IsReadFor, IsNameLoop, StartsSmallest}
use Rattle.eco_netlist.specs.Netlists.{name_at, named_term, named_gate}
use Rattle.eco_netlist.proofs.CircleLemmas.{circle_turned}
use Rattle.eco_netlist.proofs.NameLemmas.{one_place, unmapped_member}

-- ---- a chain of things is one of what stands for them
carried : {X Y : Type 0} (S : Y → X → Type 0) (R : X → X → Type 0) (Q : Y → Y → Type 0) → ((i j : Y) (g h : X) → S i g → S j h → R g h → Q i j) → (i : Y) (g : X) (gs : List X) → S i g → All (λ x. (j : Y) × S j x) gs → IsChain R g gs → (js : List Y) × IsChain Q i js × S (last_of i js) (last_of g gs)
carried {X} {Y} S R Q step i g [] here each chain = ([], tt, here)
carried {X} {Y} S R Q step i g (h ∷ hs) here each chain =
    let next = All-head (λ x. (j : Y) × S j x) h hs each in
    let rest = carried S R Q step next.0 h hs next.1 (All-tail (λ x. (j : Y) × S j x) h hs each) chain.1 in
    (next.0 ∷ rest.0, (step i next.0 g h here next.1 chain.0, rest.1), rest.2)

circle_carried : {X Y : Type 0} (S : Y → X → Type 0) (R : X → X → Type 0) (Q : Y → Y → Type 0) → ((i j : Y) (g h : X) → S i g → S j h → R g h → Q i j) → (gs : List X) → All (λ x. (j : Y) × S j x) gs → IsCircle R gs → (js : List Y) × IsCircle Q js
circle_carried {X} {Y} S R Q step [] each circle = absurd circle
circle_carried {X} {Y} S R Q step (g ∷ gs) each circle =
    let first = All-head (λ x. (j : Y) × S j x) g gs each in
    let rest = carried S R Q step first.0 g gs first.1 (All-tail (λ x. (j : Y) × S j x) g gs each) circle.0 in
    (first.0 ∷ rest.0, (rest.1, step (last_of first.0 rest.0) first.0 (last_of g gs) g rest.2 first.1 circle.1))

-- the same where a function tells what stands for each
chain_mapped : {X Y : Type 0} (f : X → Y) (R : X → X → Type 0) (Q : Y → Y → Type 0) → ((i j : X) → R i j → Q (f i) (f j)) → (x : X) (xs : List X) → IsChain R x xs → IsChain Q (f x) (map f xs)
chain_mapped f R Q step x [] chain = tt
chain_mapped f R Q step x (y ∷ ys) chain = (step x y chain.0, chain_mapped f R Q step y ys chain.1)

last_mapped : {X Y : Type 0} (f : X → Y) (x : X) (xs : List X) → last_of (f x) (map f xs) ≡ f (last_of x xs)
last_mapped f x [] = refl
last_mapped f x (y ∷ ys) = last_mapped f y ys

circle_mapped : {X Y : Type 0} (f : X → Y) (R : X → X → Type 0) (Q : Y → Y → Type 0) → ((i j : X) → R i j → Q (f i) (f j)) → (xs : List X) → IsCircle R xs → IsCircle Q (map f xs)
circle_mapped f R Q step [] circle = absurd circle
circle_mapped f R Q step (x ∷ xs) circle =
    (chain_mapped f R Q step x xs circle.0, rw (last_mapped f x xs) (step (last_of x xs) x circle.1))

-- ---- gates by number and by name
-- a term that reads a net by its name reads it by its number
term_reads : (list : List (List ℕ)) (t : Term) (out : NetId) → IsDistinct bytes_eq list → IsTermBelow (length list) t → out.0 < length list → named_term list t ≡ operand.Named (name_at list out.0) → t ≡ Net out
term_reads list Zero out distinct below within same = absurd (cc same)
term_reads list One out distinct below within same = absurd (cc same)
term_reads list (Net net) out distinct below within same =
    let names : name_at list net.0 ≡ name_at list out.0 = cc same in
    let first : slice_get list net.0 ≡ Some (name_at list out.0) = slice_get-get_or list net.0 [] below ∙ ap (λ x. Some x) names in
    let second : slice_get list out.0 ≡ Some (name_at list out.0) = slice_get-get_or list out.0 [] within in
    let place : net.0 ≡ out.0 = one_place list net.0 out.0 (name_at list out.0) distinct first second in
    ap (λ (k : ℕ). Net (record { 0 = k })) place

-- the gate with this number has this name
abbrev StandsAt : List (List ℕ) → List GateValue → ℕ → NamedGate → Type 0
StandsAt list gates i g = (h : GateValue) × (slice_get gates i ≡ Some h) × (named_gate list h ≡ g)

-- gates that read each other by names do so by numbers
reads_by_number : (rule : TargetRule) (d : Declared) (list : List (List ℕ)) (gates : List GateValue) → AreParts rule d list gates → (i j : ℕ) (g h : NamedGate) → StandsAt list gates i g → StandsAt list gates j h → IsReadBy g h → ReadsOut gates i j
reads_by_number rule d list gates parts i j g h first second reads =
    let driver = first.0 in
    let reader = second.0 in
    let named : Contains (map (named_term list) reader.ins) (operand.Named (name_at list driver.out.0)) =
    subst (λ (k : NamedGate). Contains (map (named_term list) reader.ins) (operand.Named k.out)) (sym first.2)
    (subst (λ (k : NamedGate). Contains k.terms (operand.Named g.out)) (sym second.2) reads) in
    let found = unmapped_member (named_term list) reader.ins (operand.Named (name_at list driver.out.0)) named in
    let outside : IsGateWithin (length list) driver = All_at (IsGateWithin (length list)) gates i driver parts.within first.1 in
    let inside : IsGateWithin (length list) reader = All_at (IsGateWithin (length list)) gates j reader parts.within second.1 in
    let below : IsTermBelow (length list) found.0 = All_at (IsTermBelow (length list)) reader.ins found.1 found.0 inside.ins found.2 in
    let same : found.0 ≡ Net driver.out = term_reads list found.0 driver.out parts.distinct below outside.out found.3 in
    record {
      driver = driver;
      reader = reader;
      driver_at = first.1;
      reader_at = second.1;
      reads = Contains_at reader.ins found.1 (Net driver.out) (found.2 ∙ ap (λ (t : Term). Some t) same);
    }

-- an order of the gates leaves no loop
pub no_loop : (rule : TargetRule) (d : Declared) (list : List (List ℕ)) (gates : List GateValue) (order : List ℕ) → AreParts rule d list gates → IsOrder gates order → IsLoopFree (made rule d)
no_loop rule d list gates order parts ordered loop is =
    let each : All (λ g. (i : ℕ) × StandsAt list gates i g) loop =
    All-weaker (Contains d.gates) (λ g. (i : ℕ) × StandsAt list gates i g)
    (λ g member.
    let found = unmapped_member (named_gate list) gates g (subst (λ (all : List NamedGate). Contains all g) (sym parts.named) member) in
    (found.1, (found.0, found.2, found.3)))
    loop is.members in
    let circle = circle_carried (StandsAt list gates) IsReadBy (ReadsOut gates) (reads_by_number rule d list gates parts) loop each is.circle in
    order_no_circle gates order circle.0 ordered circle.1

-- ---- a circle of gates by the names of their outputs
output_name_at : (list : List (List ℕ)) (gates : List GateValue) (i : ℕ) (h : GateValue) → slice_get gates i ≡ Some h → output_name list gates i ≡ name_at list h.out.0
output_name_at list gates i h at = ap (λ o. option_map_or (λ (g : GateValue). name_at list g.out.0) o []) at

-- gates that read each other by numbers do so by names
reads_by_name : (rule : TargetRule) (d : Declared) (list : List (List ℕ)) (gates : List GateValue) → AreParts rule d list gates → (i j : ℕ) → ReadsOut gates i j → IsReadFor d.gates (output_name list gates i) (output_name list gates j)
reads_by_name rule d list gates parts i j reads =
    let member : Contains d.gates (named_gate list reads.reader) =
    subst (λ (all : List NamedGate). Contains all (named_gate list reads.reader)) parts.named
    (Contains_at (map (named_gate list) gates) j (named_gate list reads.reader)
    (slice_get-map (named_gate list) gates j ∙ ap (option_map (named_gate list)) reads.reader_at)) in
    let place = place_of reads.reader.ins (Net reads.driver.out) reads.reads in
    let term : Contains (map (named_term list) reads.reader.ins) (operand.Named (name_at list reads.driver.out.0)) =
    Contains_at (map (named_term list) reads.reader.ins) place.0 (operand.Named (name_at list reads.driver.out.0))
    (slice_get-map (named_term list) reads.reader.ins place.0 ∙ ap (option_map (named_term list)) place.1) in (
      named_gate list reads.reader,
      member,
      sym (output_name_at list gates j reads.reader reads.reader_at),
      subst (λ (name : List ℕ). Contains (map (named_term list) reads.reader.ins) (operand.Named name)) (sym (output_name_at list gates i reads.driver reads.driver_at)) term,
    )

-- gates with one output name are one gate
same_gate : (rule : TargetRule) (d : Declared) (list : List (List ℕ)) (gates : List GateValue) (a b : ℕ) → AreParts rule d list gates → a < length gates → b < length gates → output_name list gates a ≡ output_name list gates b → a ≡ b
same_gate rule d list gates a b parts within_a within_b same =
    let first = item_at gates a within_a in
    let second = item_at gates b within_b in
    let out_a : first.0.out.0 < length list = (All_at (IsGateWithin (length list)) gates a first.0 parts.within first.1).out in
    let out_b : second.0.out.0 < length list = (All_at (IsGateWithin (length list)) gates b second.0 parts.within second.1).out in
    let names : name_at list first.0.out.0 ≡ name_at list second.0.out.0 =
    sym (output_name_at list gates a first.0 first.1) ∙ same ∙ output_name_at list gates b second.0 second.1 in
    let at_a : slice_get list first.0.out.0 ≡ Some (name_at list second.0.out.0) = slice_get-get_or list first.0.out.0 [] out_a ∙ ap (λ x. Some x) names in
    let at_b : slice_get list second.0.out.0 ≡ Some (name_at list second.0.out.0) = slice_get-get_or list second.0.out.0 [] out_b in
    same_place_by (λ (g : GateValue). g.out.0) gates a b first.0 second.0 parts.once first.1 second.1
    (one_place list first.0.out.0 second.0.out.0 (name_at list second.0.out.0) parts.distinct at_a at_b)

outputs_distinct : (rule : TargetRule) (d : Declared) (list : List (List ℕ)) (gates : List GateValue) (circle : List ℕ) → AreParts rule d list gates → IsGateCircle gates circle → IsDistinct bytes_eq (map (output_name list gates) circle)
outputs_distinct rule d list gates circle parts is =
    IsDistinct-from_AllPairs bytes_eq-Decides (map (output_name list gates) circle) (λ i j name before within same.
    let room : j < length circle = rw length-map at within in
    let first = get_or-map (output_name list gates) circle i 0 name (omega arith) in
    let second = get_or-map (output_name list gates) circle j 0 name room in
    is.once i j 0 before room
    (same_gate rule d list gates (get_or circle i 0) (get_or circle j 0) parts (is.numbers i 0 (omega arith)) (is.numbers j 0 room)
    (sym first ∙ same ∙ second)))

-- the names of a circle, begun at the smallest, are a loop of the declarations
pub name_loop : (rule : TargetRule) (d : Declared) (list : List (List ℕ)) (gates : List GateValue) (circle : List ℕ) (loop : List (List ℕ)) → AreParts rule d list gates → IsGateCircle gates circle → IsTurned (map (output_name list gates) circle) loop → StartsSmallest loop → IsNameLoop d.gates loop
name_loop rule d list gates circle loop parts is turned smallest =
    let whole : IsCircle (IsReadFor d.gates) (turned.0 ++ turned.1) =
    subst (λ (l : List (List ℕ)). IsCircle (IsReadFor d.gates) l) turned.2
    (circle_mapped (output_name list gates) (ReadsOut gates) (IsReadFor d.gates) (reads_by_name rule d list gates parts) circle is.closed) in
    let different : IsDistinct bytes_eq (turned.0 ++ turned.1) =
    subst (λ (l : List (List ℕ)). IsDistinct bytes_eq l) turned.2 (outputs_distinct rule d list gates circle parts is) in
    record {
      circle = subst (λ (l : List (List ℕ)). IsCircle (IsReadFor d.gates) l) (sym turned.3) (circle_turned (IsReadFor d.gates) turned.0 turned.1 whole);
      distinct = subst (λ (l : List (List ℕ)). IsDistinct bytes_eq l) (sym turned.3)
          (IsDistinct-IsPermutation bytes_eq bytes_eq_equiv.symm (turned.0 ++ turned.1) (turned.1 ++ turned.0)
          (IsPermutation-append_comm turned.0 turned.1) different);
      smallest = smallest;
    }
