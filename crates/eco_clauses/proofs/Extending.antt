-- Values of the variables so far go on to values that satisfy more clauses.
use Rattle.std.proofs.Common.{◌≡◌, ℕ, ◌+◌, ◌≤◌, Bool, true, not, cond, eqb, List, [], ◌∷◌, Some, length, map, refl, sym, ◌∙◌, ap, subst, arith, eq-eqb, ne_eqb}
use Rattle.std.specs.List.{All, Contains}
use Rattle.std.proofs.lemmas.List.{length-map}
use Rattle.std.proofs.lemmas.List.Elements.{All-head, All-tail, All-cons, All-weaker, All-map}
use Rattle.std.proofs.Math.Bool.{not-not, and-true}
use Rattle.eco_lists.proofs.Members.{Contains_first, Contains_later, map-map}
use Rattle.eco_lists.proofs.Places.{map_agree, All_at, All_from_places, Contains_at}
use Rattle.eco_meaning.specs.declared.kind.Kind.{Kind}
use Rattle.eco_meaning.specs.declared.kind.Kind.TheVariants.{And, Nand, Or, Nor, Xor, Xnor, Buf, Not}
use Rattle.eco_meaning.specs.declared.name.Operand.{Operand}
use Rattle.eco_meaning.specs.declared.name.Operand.TheVariants.{Zero, One, Named}
use Rattle.eco_meaning.specs.Gates.{FitsKind, apply}
use Rattle.eco_meaning.specs.Circuit.{NamedGate, Values, value_of, Reads}
use Rattle.eco_trace.specs.declared.clause.Lit.{Lit}
use Rattle.eco_trace.specs.Clauses.{Valuation, Clauses, Satisfies, IsVarWithin, complement, truth, read}
use Rattle.eco_trace.proofs.ClauseLaws.{complement_read}
use Rattle.eco_clauses.specs.Listing.{with_lists, with_variables, next_literal}
use Rattle.eco_clauses.specs.Gates.{and_clauses, or_clauses, xor_clauses, with_xor, with_chain, with_kind, operand_literal, with_gate, with_gates}
use Rattle.eco_clauses.proofs.Steps.{complement_within}
use Rattle.eco_clauses.proofs.Counts.{vars_lists, takes_kind}
use Rattle.eco_lists.specs.Bits.{exactly_one}
use Rattle.eco_clauses.proofs.Bits.{bits_same, all_hold, lists_more, every, some, and_hold, or_hold, xor_hold, odd_from, odd_is}

-- the variables up to n have the same values
abbrev pub AgreeUpTo : ℕ → Valuation → Valuation → Type 0
AgreeUpTo n u t = (k : ℕ) → k ≤ n → u k ≡ t k

-- the clauses hold whatever the values of further variables are
abbrev pub IsModelled : Clauses → Valuation → Type 0
IsModelled c u = (t : Valuation) → AgreeUpTo c.vars u t → Satisfies t c.clauses

-- values with those of the variables so far, and with which the new clauses hold
pub record IsExtended (c d : Clauses) (u : Valuation) : Type 0 where
  pub values : Valuation
  pub agree : AgreeUpTo c.vars u values
  pub modelled : IsModelled d values

pub agree_join : (n m : ℕ) (u t s : Valuation) → n ≤ m → AgreeUpTo n u t → AgreeUpTo m t s → AgreeUpTo n u s
agree_join n m u t s le first second k below = first k below ∙ second k (omega (arith, le, below))

-- literals have the same bits
pub truth_agree : (n : ℕ) (u t : Valuation) (l : Lit) → AgreeUpTo n u t → IsVarWithin n l → truth u l ≡ truth t l
truth_agree n u t l agree within = ap (λ b. cond l.positive b (not b)) (agree l.var.0 within.last)

pub read_agree : (n : ℕ) (u t : Valuation) (lits : List Lit) → AgreeUpTo n u t → All (IsVarWithin n) lits → read u lits ≡ read t lits
read_agree n u t lits agree within =
    map_agree (truth u) (truth t) lits (λ k l at. truth_agree n u t l agree (All_at (IsVarWithin n) lits k l within at))

pub within_more : (n m : ℕ) (l : Lit) → n ≤ m → IsVarWithin n l → IsVarWithin m l
within_more n m l le within = let first = within.first in let last = within.last in record { first = first; last = omega (arith, last, le) }

pub all_within_more : (n m : ℕ) (lits : List Lit) → n ≤ m → All (IsVarWithin n) lits → All (IsVarWithin m) lits
all_within_more n m lits le within = All-weaker (IsVarWithin n) (IsVarWithin m) (λ l. within_more n m l le) lits within

-- lists that hold with the values so far
pub lists_extend : (c : Clauses) (lists : List (List Lit)) (u : Valuation) → IsModelled c u → ((t : Valuation) → AgreeUpTo c.vars u t → all_hold t lists ≡ true) → IsModelled (with_lists c lists) u
lists_extend c lists u is each t agree =
    let so_far = subst (λ n. AgreeUpTo n u t) (vars_lists c lists) agree in
    (lists_more t c lists).1 (is t so_far, each t so_far)

pub lists_extended : (c : Clauses) (lists : List (List Lit)) (u : Valuation) → IsModelled c u → ((t : Valuation) → AgreeUpTo c.vars u t → all_hold t lists ≡ true) → IsExtended c (with_lists c lists) u
lists_extended c lists u is each = record { values = u; agree = λ k le. refl; modelled = lists_extend c lists u is each }

pub and_extended : (c : Clauses) (o : Lit) (ins : List Lit) (u : Valuation) → IsVarWithin c.vars o → All (IsVarWithin c.vars) ins → IsModelled c u → truth u o ≡ every (read u ins) → IsExtended c (with_lists c (and_clauses o ins)) u
and_extended c o ins u out within is value =
    lists_extended c (and_clauses o ins) u is (λ t agree. and_hold t o ins ∙ bits_same (truth t o) (every (read t ins))
    (sym (truth_agree c.vars u t o agree out) ∙ value ∙ ap every (read_agree c.vars u t ins agree within)))

pub or_extended : (c : Clauses) (o : Lit) (ins : List Lit) (u : Valuation) → IsVarWithin c.vars o → All (IsVarWithin c.vars) ins → IsModelled c u → truth u o ≡ some (read u ins) → IsExtended c (with_lists c (or_clauses o ins)) u
or_extended c o ins u out within is value =
    lists_extended c (or_clauses o ins) u is (λ t agree. or_hold t o ins ∙ bits_same (truth t o) (some (read t ins))
    (sym (truth_agree c.vars u t o agree out) ∙ value ∙ ap some (read_agree c.vars u t ins agree within)))

-- ---- a new variable
pub with_value : Valuation → ℕ → Bool → Valuation
with_value u n b k = cond (eqb k n) b (u k)

pub value_here : (u : Valuation) (n : ℕ) (b : Bool) → with_value u n b n ≡ b
unfolding with_value
value_here u n b = ap (λ c. cond c b (u n)) (eq-eqb n n refl)

pub value_other : (u : Valuation) (n : ℕ) (b : Bool) (k : ℕ) → k + 1 ≤ n → u k ≡ with_value u n b k
unfolding with_value
value_other u n b k below = ap (λ c. cond c b (u k)) (sym (ne_eqb k n (λ e. omega (arith, e, below))))

-- that is the exclusive or of two literals
pub record IsXorExtended (c : Clauses) (a b : Lit) (u : Valuation) : Type 0 where
  pub values : Valuation
  pub agree : AgreeUpTo c.vars u values
  pub modelled : IsModelled (with_xor c a b) values
  pub value : truth values (next_literal c) ≡ exactly_one (truth u a) (truth u b)

pub xor_extended : (c : Clauses) (a b : Lit) (u : Valuation) → IsVarWithin c.vars a → IsVarWithin c.vars b → IsModelled c u → IsXorExtended c a b u
xor_extended c a b u first second is = record {
  values = w;
  agree = old;
  modelled = lists_extend (with_variables 1 c) (xor_clauses (next_literal c) a b) w (λ t agree. is t (agree_join c.vars (c.vars + 1) u w t (omega arith) old agree)) (λ t agree.
      xor_hold t (next_literal c) a b ∙ bits_same (truth t (next_literal c)) (exactly_one (truth t a) (truth t b)) (
      let both = agree_join c.vars (c.vars + 1) u w t (omega arith) old agree in
      sym (agree (c.vars + 1) (omega arith)) ∙ here
      ∙ ap (λ x. exactly_one x (truth u b)) (truth_agree c.vars u t a both first)
      ∙ ap (exactly_one (truth t a)) (truth_agree c.vars u t b both second)));
  value = here;
}
  where
    w : Valuation
    w = with_value u (c.vars + 1) (exactly_one (truth u a) (truth u b))

    here : w (c.vars + 1) ≡ exactly_one (truth u a) (truth u b)
    here = value_here u (c.vars + 1) (exactly_one (truth u a) (truth u b))

    old : AgreeUpTo c.vars u w
    old k le = value_other u (c.vars + 1) (exactly_one (truth u a) (truth u b)) k (omega (arith, le))

-- ---- gates
single : (vars : ℕ) (l : Lit) → IsVarWithin vars l → All (IsVarWithin vars) (l ∷ [])
single vars l within = All-cons (IsVarWithin vars) l [] within (λ k d lt. absurd (omega arith))

chain_extended : (c : Clauses) (o a : Lit) (further : List Lit) (u : Valuation) → IsVarWithin c.vars o → IsVarWithin c.vars a → All (IsVarWithin c.vars) further → IsModelled c u → truth u o ≡ odd_from (truth u a) (read u further) → IsExtended c (with_chain c o a further) u
chain_extended c o a [] u out first within is value = and_extended c o (a ∷ []) u out (single c.vars a first) is (value ∙ sym (and-true (truth u a)))
chain_extended c o a (b ∷ []) u out first within is value =
    let second = All-head (IsVarWithin c.vars) b [] within in
    lists_extended c (xor_clauses o a b) u is (λ t agree. xor_hold t o a b ∙ bits_same (truth t o) (exactly_one (truth t a) (truth t b))
    (sym (truth_agree c.vars u t o agree out) ∙ value
    ∙ ap (λ x. exactly_one x (truth u b)) (truth_agree c.vars u t a agree first)
    ∙ ap (exactly_one (truth t a)) (truth_agree c.vars u t b agree second)))
chain_extended c o a (b ∷ d ∷ further) u out first within is value =
    let second = All-head (IsVarWithin c.vars) b (d ∷ further) within in
    let others = All-tail (IsVarWithin c.vars) b (d ∷ further) within in
    let step = xor_extended c a b u first second is in
    let le : c.vars ≤ c.vars + 1 = omega arith in
    let sum : IsVarWithin (c.vars + 1) (next_literal c) = record { first = omega arith; last = omega arith } in
    let now = sym (truth_agree c.vars u step.values o step.agree out) ∙ value
    ∙ ap (λ x. odd_from x (read u (d ∷ further))) (sym step.value)
    ∙ ap (odd_from (truth step.values (next_literal c))) (read_agree c.vars u step.values (d ∷ further) step.agree others) in
    let rest = chain_extended (with_xor c a b) o (next_literal c) (d ∷ further) step.values (within_more c.vars (c.vars + 1) o le out) sum (all_within_more c.vars (c.vars + 1) (d ∷ further) le others) step.modelled now in
    record { values = rest.values; agree = agree_join c.vars (c.vars + 1) u step.values rest.values le step.agree rest.agree; modelled = rest.modelled }

-- what a literal has not, its complement has
complemented : (u : Valuation) (o : Lit) (b : Bool) → truth u o ≡ not b → truth u (complement o) ≡ b
complemented u o b e = complement_read u o ∙ ap not e ∙ not-not b

parity_extended : (c : Clauses) (o a : Lit) (further : List Lit) (u : Valuation) → IsVarWithin c.vars o → All (IsVarWithin c.vars) (a ∷ further) → IsModelled c u → truth u o ≡ apply Xor (read u (a ∷ further)) → IsExtended c (with_chain c o a further) u
parity_extended c o a further u out within is value =
    chain_extended c o a further u out (All-head (IsVarWithin c.vars) a further within) (All-tail (IsVarWithin c.vars) a further within) is (value ∙ odd_is (truth u a) (read u further))

pub kind_extended : (c : Clauses) (kind : Kind) (o : Lit) (ins : List Lit) (u : Valuation) → FitsKind kind (length ins) → IsVarWithin c.vars o → All (IsVarWithin c.vars) ins → IsModelled c u → truth u o ≡ apply kind (read u ins) → IsExtended c (with_kind c kind o ins) u
kind_extended c And o ins u fits out within is value = and_extended c o ins u out within is value
kind_extended c Nand o ins u fits out within is value = and_extended c (complement o) ins u (complement_within c.vars o out) within is (complemented u o (every (read u ins)) value)
kind_extended c Or o ins u fits out within is value = or_extended c o ins u out within is value
kind_extended c Nor o ins u fits out within is value = or_extended c (complement o) ins u (complement_within c.vars o out) within is (complemented u o (some (read u ins)) value)
kind_extended c Xor o [] u fits out within is value = absurd (omega (arith, fits))
kind_extended c Xor o (a ∷ further) u fits out within is value = parity_extended c o a further u out within is value
kind_extended c Xnor o [] u fits out within is value = absurd (omega (arith, fits))
kind_extended c Xnor o (a ∷ further) u fits out within is value = parity_extended c (complement o) a further u (complement_within c.vars o out) within is (complemented u o (apply Xor (read u (a ∷ further))) value)
kind_extended c Buf o [] u fits out within is value = absurd (omega (arith, fits))
kind_extended c Buf o (a ∷ []) u fits out within is value = and_extended c o (a ∷ []) u out within is (value ∙ sym (and-true (truth u a)))
kind_extended c Buf o (a ∷ b ∷ further) u fits out within is value = absurd (omega (arith, fits))
kind_extended c Not o [] u fits out within is value = absurd (omega (arith, fits))
kind_extended c Not o (a ∷ []) u fits out within is value = and_extended c (complement o) (a ∷ []) u (complement_within c.vars o out) within is (complemented u o (truth u a) value ∙ sym (and-true (truth u a)))
kind_extended c Not o (a ∷ b ∷ further) u fits out within is value = absurd (omega (arith, fits))

-- the literals of the listed names are those of variables so far, and have the map's bits
pub record Shows (list : List (List ℕ)) (literal : List ℕ → Lit) (vars : ℕ) (u : Valuation) (w : Values) : Type 0 where
  pub some_var : 1 ≤ vars
  pub one : u 1 ≡ true
  pub within : (name : List ℕ) → Contains list name → IsVarWithin vars (literal name)
  pub value : (name : List ℕ) → Contains list name → truth u (literal name) ≡ w name

pub shows_on : (list : List (List ℕ)) (literal : List ℕ → Lit) (vars now : ℕ) (u t : Valuation) (w : Values) → vars ≤ now → AgreeUpTo vars u t → Shows list literal vars u w → Shows list literal now t w
shows_on list literal vars now u t w le agree shows =
    let some_var = shows.some_var in
    record {
      some_var = omega (arith, some_var, le);
      one = sym (agree 1 some_var) ∙ shows.one;
      within = λ name c. within_more vars now (literal name) le (shows.within name c);
      value = λ name c. sym (truth_agree vars u t (literal name) agree (shows.within name c)) ∙ shows.value name c;
    }

-- a gate over listed names, whose output has its value
pub record IsValued (list : List (List ℕ)) (w : Values) (g : NamedGate) : Type 0 where
  pub out : Contains list g.out
  pub reads : (name : List ℕ) → Reads g name → Contains list name
  pub kind : FitsKind g.kind (length g.terms)
  pub value : w g.out ≡ apply g.kind (map (value_of w) g.terms)

operand_within : (list : List (List ℕ)) (literal : List ℕ → Lit) (vars : ℕ) (u : Valuation) (w : Values) → Shows list literal vars u w → (term : Operand) → ((name : List ℕ) → term ≡ Named name → Contains list name) → IsVarWithin vars (operand_literal literal term)
operand_within list literal vars u w shows Zero each = record { first = omega arith; last = shows.some_var }
operand_within list literal vars u w shows One each = record { first = omega arith; last = shows.some_var }
operand_within list literal vars u w shows (Named name) each = shows.within name (each name refl)

operand_value : (list : List (List ℕ)) (literal : List ℕ → Lit) (vars : ℕ) (u : Valuation) (w : Values) → Shows list literal vars u w → (term : Operand) → ((name : List ℕ) → term ≡ Named name → Contains list name) → truth u (operand_literal literal term) ≡ value_of w term
operand_value list literal vars u w shows Zero each = ap not shows.one
operand_value list literal vars u w shows One each = shows.one
operand_value list literal vars u w shows (Named name) each = shows.value name (each name refl)

pub gate_extended : (list : List (List ℕ)) (literal : List ℕ → Lit) (w : Values) (c : Clauses) (g : NamedGate) (u : Valuation) → IsValued list w g → Shows list literal c.vars u w → IsModelled c u → IsExtended c (with_gate literal c g) u
gate_extended list literal w c g u valued shows is =
    kind_extended c g.kind (literal g.out) (map (operand_literal literal) g.terms) u
    (subst (FitsKind g.kind) (sym (length-map g.terms (operand_literal literal))) valued.kind)
    (shows.within g.out valued.out)
    (All-map (IsVarWithin c.vars) (operand_literal literal) g.terms (All_from_places (λ term. IsVarWithin c.vars (operand_literal literal term)) g.terms (λ k term at.
    operand_within list literal c.vars u w shows term (λ name named. valued.reads name (Contains_at g.terms k (Named name) (at ∙ ap Some named))))))
    is
    (shows.value g.out valued.out ∙ valued.value
    ∙ ap (apply g.kind) (sym (map-map (operand_literal literal) (truth u) g.terms ∙ map_agree (λ term. truth u (operand_literal literal term)) (value_of w) g.terms (λ k term at.
    operand_value list literal c.vars u w shows term (λ name named. valued.reads name (Contains_at g.terms k (Named name) (at ∙ ap Some named)))))))

pub gates_extended : (list : List (List ℕ)) (literal : List ℕ → Lit) (w : Values) (c : Clauses) (gates : List NamedGate) (u : Valuation) → ((g : NamedGate) → Contains gates g → IsValued list w g) → Shows list literal c.vars u w → IsModelled c u → IsExtended c (with_gates literal c gates) u
gates_extended list literal w c [] u each shows is = record { values = u; agree = λ k le. refl; modelled = is }
gates_extended list literal w c (g ∷ gates) u each shows is =
    let step = gate_extended list literal w c g u (each g (Contains_first g gates)) shows is in
    let le = (takes_kind c g.kind (literal g.out) (map (operand_literal literal) g.terms)).more in
    let rest = gates_extended list literal w (with_gate literal c g) gates step.values (λ x member. each x (Contains_later g x gates member)) (shows_on list literal c.vars (with_gate literal c g).vars u step.values w le step.agree shows) step.modelled in
    record { values = rest.values; agree = agree_join c.vars (with_gate literal c g).vars u step.values rest.values le step.agree rest.agree; modelled = rest.modelled }
