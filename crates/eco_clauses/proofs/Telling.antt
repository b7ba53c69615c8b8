-- What a model of the clauses says of the literals.
use Rattle.std.proofs.Common.{◌≡◌, inl, inr, ℕ, Bool, true, false, not, List, [], ◌∷◌, length, map, refl, sym, ◌∙◌, ap, subst, arith}
use Rattle.std.specs.List.{Contains}
use Rattle.std.proofs.lemmas.List.{length-map}
use Rattle.std.proofs.Math.Bool.{and-true}
use Rattle.eco_lists.proofs.Members.{Contains_first, Contains_later, Contains_cases, Contains_none, map-map}
use Rattle.eco_lists.proofs.Places.{map_agree}
use Rattle.eco_meaning.specs.declared.kind.Kind.{Kind}
use Rattle.eco_meaning.specs.declared.kind.Kind.TheVariants.{And, Nand, Or, Nor, Xor, Xnor, Buf, Not}
use Rattle.eco_meaning.specs.declared.name.Operand.{Operand}
use Rattle.eco_meaning.specs.declared.name.Operand.TheVariants.{Zero, One, Named}
use Rattle.eco_meaning.specs.Gates.{FitsKind, apply}
use Rattle.eco_meaning.specs.Circuit.{Circuit, NamedGate, Values, value_of, IsConsistent}
use Rattle.eco_trace.specs.declared.clause.Lit.{Lit}
use Rattle.eco_trace.specs.Clauses.{Valuation, Clauses, Satisfies, complement, truth, read}
use Rattle.eco_trace.proofs.ClauseLaws.{complement_read}
use Rattle.eco_clauses.specs.Listing.{with_lists, with_variables, next_literal}
use Rattle.eco_clauses.specs.Gates.{and_clauses, or_clauses, xor_clauses, with_xor, with_chain, with_kind, operand_literal, with_gate, with_gates}
use Rattle.eco_lists.specs.Bits.{exactly_one}
use Rattle.eco_clauses.proofs.Bits.{same, same_bits, all_hold, lists_more, every, some, and_hold, or_hold, xor_hold, odd_from, odd_is}

-- lists that hold where two bits are one say so
pub lists_tell : (v : Valuation) (c : Clauses) (lists : List (List Lit)) (a b : Bool) → all_hold v lists ≡ same a b → Satisfies v (with_lists c lists).clauses → Satisfies v c.clauses × (a ≡ b)
lists_tell v c lists a b is h = let r = (lists_more v c lists).0 h in (r.0, same_bits a b (sym is ∙ r.1))

pub xor_tells : (v : Valuation) (c : Clauses) (p a b : Lit) → Satisfies v (with_lists c (xor_clauses p a b)).clauses → Satisfies v c.clauses × (truth v p ≡ exactly_one (truth v a) (truth v b))
xor_tells v c p a b h = lists_tell v c (xor_clauses p a b) (truth v p) (exactly_one (truth v a) (truth v b)) (xor_hold v p a b) h

pub and_tells : (v : Valuation) (c : Clauses) (o : Lit) (ins : List Lit) → Satisfies v (with_lists c (and_clauses o ins)).clauses → Satisfies v c.clauses × (truth v o ≡ every (read v ins))
and_tells v c o ins h = lists_tell v c (and_clauses o ins) (truth v o) (every (read v ins)) (and_hold v o ins) h

pub or_tells : (v : Valuation) (c : Clauses) (o : Lit) (ins : List Lit) → Satisfies v (with_lists c (or_clauses o ins)).clauses → Satisfies v c.clauses × (truth v o ≡ some (read v ins))
or_tells v c o ins h = lists_tell v c (or_clauses o ins) (truth v o) (some (read v ins)) (or_hold v o ins) h

chain_tells : (v : Valuation) (c : Clauses) (o a : Lit) (further : List Lit) → Satisfies v (with_chain c o a further).clauses → Satisfies v c.clauses × (truth v o ≡ odd_from (truth v a) (read v further))
chain_tells v c o a [] h = let r = and_tells v c o (a ∷ []) h in (r.0, r.1 ∙ and-true (truth v a))
chain_tells v c o a (b ∷ []) h = xor_tells v c o a b h
chain_tells v c o a (b ∷ d ∷ further) h =
    let rest = chain_tells v (with_xor c a b) o (next_literal c) (d ∷ further) h in
    let first = xor_tells v (with_variables 1 c) (next_literal c) a b rest.0 in
    (first.0, rest.1 ∙ ap (λ x. odd_from x (read v (d ∷ further))) first.1)

-- what the complement of a literal has, the literal has not
complemented : (v : Valuation) (o : Lit) (b : Bool) → truth v (complement o) ≡ b → truth v o ≡ not b
complemented v o b e = by (truth v o) b (sym (complement_read v o) ∙ e)
  where
    by : (a b : Bool) → not a ≡ b → a ≡ not b
    by true b e = ap not e
    by false b e = ap not e

parity_tells : (v : Valuation) (c : Clauses) (o a : Lit) (further : List Lit) → Satisfies v (with_chain c o a further).clauses → Satisfies v c.clauses × (truth v o ≡ apply Xor (read v (a ∷ further)))
parity_tells v c o a further h = let r = chain_tells v c o a further h in (r.0, r.1 ∙ sym (odd_is (truth v a) (read v further)))

-- the output of a gate has the value of its kind
pub kind_tells : (v : Valuation) (c : Clauses) (kind : Kind) (o : Lit) (ins : List Lit) → FitsKind kind (length ins) → Satisfies v (with_kind c kind o ins).clauses → Satisfies v c.clauses × (truth v o ≡ apply kind (read v ins))
kind_tells v c And o ins fits h = and_tells v c o ins h
kind_tells v c Nand o ins fits h = let r = and_tells v c (complement o) ins h in (r.0, complemented v o (every (read v ins)) r.1)
kind_tells v c Or o ins fits h = or_tells v c o ins h
kind_tells v c Nor o ins fits h = let r = or_tells v c (complement o) ins h in (r.0, complemented v o (some (read v ins)) r.1)
kind_tells v c Xor o [] fits h = absurd (omega (arith, fits))
kind_tells v c Xor o (a ∷ further) fits h = parity_tells v c o a further h
kind_tells v c Xnor o [] fits h = absurd (omega (arith, fits))
kind_tells v c Xnor o (a ∷ further) fits h = let r = parity_tells v c (complement o) a further h in (r.0, complemented v o (apply Xor (read v (a ∷ further))) r.1)
kind_tells v c Buf o [] fits h = absurd (omega (arith, fits))
kind_tells v c Buf o (a ∷ []) fits h = let r = and_tells v c o (a ∷ []) h in (r.0, r.1 ∙ and-true (truth v a))
kind_tells v c Buf o (a ∷ b ∷ further) fits h = absurd (omega (arith, fits))
kind_tells v c Not o [] fits h = absurd (omega (arith, fits))
kind_tells v c Not o (a ∷ []) fits h = let r = and_tells v c (complement o) (a ∷ []) h in (r.0, complemented v o (truth v a) (r.1 ∙ and-true (truth v a)))
kind_tells v c Not o (a ∷ b ∷ further) fits h = absurd (omega (arith, fits))

-- so has that of each gate
pub gates_tell : (v : Valuation) (literal : List ℕ → Lit) (c : Clauses) (gates : List NamedGate) → ((g : NamedGate) → Contains gates g → FitsKind g.kind (length g.terms)) → Satisfies v (with_gates literal c gates).clauses → Satisfies v c.clauses × ((g : NamedGate) → Contains gates g → truth v (literal g.out) ≡ apply g.kind (read v (map (operand_literal literal) g.terms)))
gates_tell v literal c [] fits h = (h, λ g member. absurd (Contains_none g member))
gates_tell v literal c (g ∷ gates) fits h =
    let rest = gates_tell v literal (with_gate literal c g) gates (λ x member. fits x (Contains_later g x gates member)) h in
    let sizes = length-map g.terms (operand_literal literal) in
    let here = kind_tells v c g.kind (literal g.out) (map (operand_literal literal) g.terms) (subst (FitsKind g.kind) (sym sizes) (fits g (Contains_first g gates))) rest.0 in (
      here.0,
      λ x member. elim (Contains_cases g x gates member) [
        | inl same ↦ subst (λ (y : NamedGate). truth v (literal y.out) ≡ apply y.kind (read v (map (operand_literal literal) y.terms))) same here.1
        | inr later ↦ rest.1 x later
      ],
    )

-- the bits of the nets' literals, by the nets' names
abbrev pub bits_of : Valuation → (List ℕ → Lit) → Values
bits_of v literal name = truth v (literal name)

pub operand_bit : (v : Valuation) (literal : List ℕ → Lit) → v 1 ≡ true → (term : Operand) → truth v (operand_literal literal term) ≡ value_of (bits_of v literal) term
operand_bit v literal one Zero = ap not one
operand_bit v literal one One = one
operand_bit v literal one (Named name) = refl

-- where the constant is 1, they are consistent
pub bits_consistent : (v : Valuation) (literal : List ℕ → Lit) (n : Circuit) → v 1 ≡ true → ((g : NamedGate) → Contains n.gates g → truth v (literal g.out) ≡ apply g.kind (read v (map (operand_literal literal) g.terms))) → IsConsistent n (bits_of v literal)
bits_consistent v literal n one each g member =
    each g member
    ∙ ap (apply g.kind) (map-map (operand_literal literal) (truth v) g.terms ∙ map_agree (λ term. truth v (operand_literal literal term)) (value_of (bits_of v literal)) g.terms (λ k term at. operand_bit v literal one term))
