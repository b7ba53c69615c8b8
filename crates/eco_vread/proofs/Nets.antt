-- Nets that gates add to a list.
use Rattle.std.proofs.Common.{◌≡◌, ℕ, ◌+◌, ◌≤◌, Bool, true, false, List, [], ◌∷◌, ◌++◌, length, fold, refl, ap, ◌∙◌, arith, length-append}
use Rattle.std.specs.Prelude.{◌||◌, if◌then◌else◌}
use Rattle.std.specs.Str.{bytes_eq}
use Rattle.std.specs.List.{flat_map}
use Rattle.std.proofs.lemmas.List.{append-nil}
use Rattle.std.proofs.lemmas.List.Folds.{list_any-append}
use Rattle.std.proofs.lemmas.List.Sums.{fold-append}
use Rattle.std.proofs.lemmas.Grind.{flat_map-append}
use Rattle.std.proofs.Math.Bool.{or-true}
use Rattle.eco_lists.proofs.Names.{bytes_eq-same}
use Rattle.eco_meaning.specs.Names.{has}
use Rattle.eco_meaning.specs.Circuit.{NamedGate}
use Rattle.eco_meaning.specs.declared.name.Operand.{Operand}
use Rattle.eco_meaning.specs.declared.name.Operand.TheVariants.{Zero, One, Named}
use Rattle.eco_netlist.specs.Draft.{operand_names, gate_names, with_name}

-- a list with the names behind it that gates mention
abbrev pub with_mentions : List (List ℕ) → List NamedGate → List (List ℕ)
with_mentions list gates = fold with_name list (flat_map gate_names gates)

-- 1 for a net that isn't in the list
abbrev absent : Bool → ℕ
absent true = 0
absent false = 1

abbrev pub lacks : List (List ℕ) → Operand → ℕ
lacks list Zero = 0
lacks list One = 0
lacks list (Named name) = absent (has list name)

abbrev all_lacks : List (List ℕ) → List Operand → ℕ
all_lacks list [] = 0
all_lacks list (o ∷ terms) = lacks list o + all_lacks list terms

absent_few : (b : Bool) → absent b ≤ 1
absent_few true = omega arith
absent_few false = omega arith

pub lacks_few : (list : List (List ℕ)) (o : Operand) → lacks list o ≤ 1
lacks_few list Zero = omega arith
lacks_few list One = omega arith
lacks_few list (Named name) = absent_few (has list name)

-- a name is added where it is absent
length_added : (here : Bool) (list : List (List ℕ)) (name : List ℕ) → length (if here then list else list ++ name ∷ []) ≡ length list + absent here
length_added true list name = omega arith
length_added false list name = length-append list (name ∷ [])

kept_added : (here : Bool) (list : List (List ℕ)) (name other : List ℕ) → has list other ≡ true → has (if here then list else list ++ name ∷ []) other ≡ true
kept_added true list name other h = h
kept_added false list name other h = list_any-append (bytes_eq other) list (name ∷ []) ∙ ap (λ b. b || has (name ∷ []) other) h

own_added : (here : Bool) (list : List (List ℕ)) (name : List ℕ) → has list name ≡ here → has (if here then list else list ++ name ∷ []) name ≡ true
own_added true list name h = h
own_added false list name h =
    list_any-append (bytes_eq name) list (name ∷ []) ∙ ap (λ b. has list name || (b || false)) (bytes_eq-same name) ∙ or-true (has list name)

-- what a list has it keeps
pub kept : (list more : List (List ℕ)) (other : List ℕ) → has list other ≡ true → has (fold with_name list more) other ≡ true
kept list [] other h = h
kept list (name ∷ more) other h = kept (with_name list name) more other (kept_added (has list name) list name other h)

absent_less : (before after : Bool) → (before ≡ true → after ≡ true) → absent after ≤ absent before
absent_less true after h = let e = ap absent (h refl) in omega arith
absent_less false after h = absent_few after

pub lacks_less : (list more : List (List ℕ)) (o : Operand) → lacks (fold with_name list more) o ≤ lacks list o
lacks_less list more Zero = omega arith
lacks_less list more One = omega arith
lacks_less list more (Named name) = absent_less (has list name) (has (fold with_name list more) name) (kept list more name)

all_lacks_less : (list more : List (List ℕ)) (terms : List Operand) → all_lacks (fold with_name list more) terms ≤ all_lacks list terms
all_lacks_less list more [] = omega arith
all_lacks_less list more (o ∷ terms) = omega (arith, lacks_less list more o, all_lacks_less list more terms)

-- an operand adds its net where it is absent
operand_adds : (list : List (List ℕ)) (o : Operand) → length (fold with_name list (operand_names o)) ≡ length list + lacks list o
operand_adds list Zero = omega arith
operand_adds list One = omega arith
operand_adds list (Named name) = length_added (has list name) list name

operands_add : (list : List (List ℕ)) (terms : List Operand) → length (fold with_name list (flat_map operand_names terms)) ≤ length list + all_lacks list terms
operands_add list [] = omega arith
operands_add list (o ∷ terms) =
    let first = fold with_name list (operand_names o) in
    omega (
      arith,
      ap length (fold-append with_name list (operand_names o) (flat_map operand_names terms)),
      operands_add first terms,
      all_lacks_less list (operand_names o) terms,
      operand_adds list o,
    )

-- a gate adds its output, and what it reads where that is absent
pub gate_adds : (list : List (List ℕ)) (g : NamedGate) → length (with_mentions list (g ∷ [])) ≤ length list + 1 + all_lacks list g.terms
gate_adds list g =
    let first = with_name list g.out in
    omega (
      arith,
      ap (λ names. length (fold with_name list names)) (append-nil (gate_names g)),
      operands_add first g.terms,
      all_lacks_less list (g.out ∷ []) g.terms,
      length_added (has list g.out) list g.out,
      absent_few (has list g.out),
    )

-- then its output is there
pub gate_has : (list : List (List ℕ)) (g : NamedGate) → lacks (with_mentions list (g ∷ [])) (Named g.out) ≡ 0
gate_has list g =
    ap absent (kept (with_name list g.out) (flat_map operand_names g.terms ++ []) g.out (own_added (has list g.out) list g.out refl))

-- gates one list behind another
pub mentions-append : (list : List (List ℕ)) (front back : List NamedGate) → with_mentions list (front ++ back) ≡ with_mentions (with_mentions list front) back
mentions-append list front back =
    ap (fold with_name list) (flat_map-append gate_names front back) ∙ fold-append with_name list (flat_map gate_names front) (flat_map gate_names back)
