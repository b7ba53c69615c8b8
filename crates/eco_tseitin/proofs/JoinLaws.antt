-- Variables that stand between those of two sides, and the clauses of both sides together.
use Rattle.std.proofs.Common.{◌≡◌, ℕ, ◌+◌, ◌<◌, ◌≤◌, Bool, true, false, List, ◌++◌, map, sym, ◌∙◌, ap, arith}
use Rattle.std.specs.List.{Contains, All}
use Rattle.std.proofs.lemmas.List.{map-append}
use Rattle.std.proofs.lemmas.List.Elements.{All-map, All-contains}
use Rattle.eco_lists.proofs.Members.{map-Contains}
use Rattle.eco_lists.proofs.Places.{place_of, All_from_places}
use Rattle.std.proofs.lemmas.Option.{slice_get_within}
use Rattle.eco_trace.specs.declared.clause.Lit.{Lit}
use Rattle.eco_trace.specs.declared.clause.Var.{Var}
use Rattle.eco_trace.specs.Clauses.{IsVarWithin}
use Rattle.eco_tseitin.specs.declared.marked.Marked.{Marked}
use Rattle.eco_trace.specs.Adding.{shifted}
use Rattle.eco_tseitin.specs.Joined.{positive, AreNumbered}
use Rattle.eco_tseitin.specs.Marking.{Adds, AreBelow}

-- one of the numbered variables stands behind the first ones, and not behind the last of its own
pub number_between : (after count : ℕ) (vars : List Var) (x : Var) → AreNumbered after count vars → Contains vars x → (after < x.0) × (x.0 ≤ after + count)
number_between after count vars x are c =
    let place = place_of vars x c in
    let number = are.numbers place.0 x place.1 in
    let within = slice_get_within vars place.0 x place.1 in
    (omega (arith, number), omega (arith, number, within, are.count_is))

-- the same behind an equal number, and for an equal count
pub numbered_as : {after start count many : ℕ} (vars : List Var) → after ≡ start → count ≡ many → AreNumbered after count vars → AreNumbered start many vars
numbered_as vars after_is count_is are = record {
  count_is = are.count_is ∙ count_is;
  numbers = λ k x at. are.numbers k x at ∙ ap (λ n. n + 1 + k) after_is;
}

-- they are within what reaches as far
pub positives_within : (after count most : ℕ) (vars : List Var) → AreNumbered after count vars → after + count ≤ most → All (IsVarWithin most) (map positive vars)
positives_within after count most vars are room =
    All-map (IsVarWithin most) positive vars (All_from_places (λ x. IsVarWithin most (positive x)) vars (λ k x at.
    let number = are.numbers k x at in
    let within = slice_get_within vars k x at in
    record { first = omega (arith, number); last = omega (arith, number, within, are.count_is, room) }))

-- the first side's variables stand before them
pub below_positives : (after count : ℕ) (lits : List Lit) (vars : List Var) → All (IsVarWithin after) lits → AreNumbered after count vars → AreBelow lits (map positive vars)
below_positives after count lits vars within are a b ca cb =
    let h = All-contains (IsVarWithin after) lits a within ca in
    let from = map-Contains positive vars b cb in
    let between = number_between after count vars from.0 are from.1 in
    omega (arith, h.last, between.0, ap (λ (l : Lit). l.var.0) from.2)

-- the second side's stand behind them
pub positives_below : (after count last : ℕ) (vars : List Var) (lits : List Lit) → AreNumbered after count vars → All (IsVarWithin last) lits → AreBelow (map positive vars) (map (shifted (after + count)) lits)
positives_below after count last vars lits are within a b ca cb =
    let of_a = map-Contains positive vars a ca in
    let of_b = map-Contains (shifted (after + count)) lits b cb in
    let between = number_between after count vars of_a.0 are of_a.1 in
    let h = All-contains (IsVarWithin last) lits of_b.0 within of_b.1 in
    omega (arith, h.first, between.1, ap (λ (l : Lit). l.var.0) of_a.2, ap (λ (l : Lit). l.var.0) of_b.2)

-- the clauses of the first side and then those of the second, each with its mark
pub record AreInOrder (wide made : Marked) (own others : List (List Lit)) : Type 0 where
  pub vars : made.cnf.vars ≡ wide.cnf.vars
  pub clauses : made.cnf.clauses ≡ own ++ others
  pub marks : made.marks.items ≡ map (λ clause. true) own ++ map (λ clause. false) others

pub in_order : (wide one made : Marked) (own more others : List (List Lit)) → wide.cnf.clauses ≡ own → wide.marks.items ≡ map (λ clause. true) own → Adds wide one more true → Adds one made others false → AreInOrder wide made (own ++ more) others
in_order wide one made own more others clauses marks front back =
    let yes_mark : List Lit → Bool = λ clause. true in
    let no_mark : List Lit → Bool = λ clause. false in
    record {
      vars = back.vars ∙ front.vars;
      clauses = back.clauses ∙ ap (λ list. list ++ others) (front.clauses ∙ ap (λ list. list ++ more) clauses);
      marks = back.marks ∙ ap (λ list. list ++ map no_mark others) (front.marks ∙ ap (λ list. list ++ map yes_mark more) marks ∙ sym (map-append yes_mark own more));
    }
