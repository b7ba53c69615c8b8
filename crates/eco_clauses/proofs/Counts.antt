-- How many variables the steps take.
use Rattle.std.proofs.Common.{◌≡◌, ℕ, ◌+◌, ◌≤◌, List, [], ◌∷◌, length, refl, arith}
use Rattle.eco_meaning.specs.declared.kind.Kind.{Kind}
use Rattle.eco_meaning.specs.declared.kind.Kind.TheVariants.{And, Nand, Or, Nor, Xor, Xnor, Buf, Not}
use Rattle.eco_trace.specs.declared.clause.Lit.{Lit}
use Rattle.eco_trace.specs.Clauses.{Clauses, complement}
use Rattle.eco_clauses.specs.Listing.{with_list, with_lists, next_literal}
use Rattle.eco_clauses.specs.Gates.{and_clauses, or_clauses, xor_clauses, with_xor, with_chain, with_parity, with_kind}

-- clauses take no variable
pub vars_lists : (c : Clauses) (lists : List (List Lit)) → (with_lists c lists).vars ≡ c.vars
vars_lists c [] = refl
vars_lists c (lits ∷ lists) = vars_lists (with_list c lits) lists

-- at most so many variables are taken
pub record TakesUpTo (most : ℕ) (old new : Clauses) : Type 0 where
  pub more : old.vars ≤ new.vars
  pub few : new.vars ≤ old.vars + most

pub takes_lists : (most : ℕ) (c : Clauses) (lists : List (List Lit)) → TakesUpTo most c (with_lists c lists)
takes_lists most c lists =
    let same = vars_lists c lists in
    record { more = omega (arith, same); few = omega (arith, same) }

-- a chain takes one for each further literal at most
takes_chain : (c : Clauses) (o a : Lit) (further : List Lit) → TakesUpTo (length further) c (with_chain c o a further)
takes_chain c o a [] = takes_lists 0 c (and_clauses o (a ∷ []))
takes_chain c o a (b ∷ []) = takes_lists 1 c (xor_clauses o a b)
takes_chain c o a (b ∷ d ∷ further) =
    let rest = takes_chain (with_xor c a b) o (next_literal c) (d ∷ further) in
    let more = rest.more in
    let few = rest.few in
    record { more = omega (arith, more); few = omega (arith, few) }

takes_parity : (c : Clauses) (o : Lit) (ins : List Lit) → TakesUpTo (length ins) c (with_parity c o ins)
takes_parity c o [] = record { more = omega arith; few = omega arith }
takes_parity c o (a ∷ further) =
    let rest = takes_chain c o a further in
    let more = rest.more in
    let few = rest.few in
    record { more = more; few = omega (arith, few) }

-- a gate takes one for each input at most
pub takes_kind : (c : Clauses) (kind : Kind) (o : Lit) (ins : List Lit) → TakesUpTo (length ins) c (with_kind c kind o ins)
takes_kind c And o ins = takes_lists (length ins) c (and_clauses o ins)
takes_kind c Nand o ins = takes_lists (length ins) c (and_clauses (complement o) ins)
takes_kind c Or o ins = takes_lists (length ins) c (or_clauses o ins)
takes_kind c Nor o ins = takes_lists (length ins) c (or_clauses (complement o) ins)
takes_kind c Xor o ins = takes_parity c o ins
takes_kind c Xnor o ins = takes_parity c (complement o) ins
takes_kind c Buf o ins = takes_lists (length ins) c (and_clauses o ins)
takes_kind c Not o ins = takes_lists (length ins) c (and_clauses (complement o) ins)
