-- What two joined sides say.
use Rattle.std.proofs.Common.{◌≡◌, ◌≢◌, ℕ, ◌+◌, ◌-◌, ◌<◌, ◌≤◌, Bool, true, false, List, [], ◌∷◌, ◌++◌, Some, length, map, refl, sym, ◌∙◌, ap, subst, arith, length-append}
use Rattle.std.specs.List.{Contains, All, AllPairs}
use Rattle.std.proofs.lemmas.List.{length-map}
use Rattle.std.proofs.lemmas.List.Elements.{All-nil, All-cons, All-append, All-contains, All-weaker, All-map, All-tail, All-head}
use Rattle.eco_lists.proofs.Places.{item_at, Contains_at, All_from_places, pairs_from_places}
use Rattle.eco_lists.proofs.Members.{All-front, All-back}
use Rattle.eco_aig.specs.declared.edge.Edge.{Edge}
use Rattle.eco_aig.specs.declared.node.Node.{Node}
use Rattle.eco_aig.specs.Edges.{value_of, bits_of}
use Rattle.eco_trace.specs.declared.clause.Lit.{Lit}
use Rattle.eco_trace.specs.declared.clause.Var.{Var}
use Rattle.eco_trace.specs.Clauses.{Valuation, HoldsIn, Satisfies, IsVarWithin, complement, read}
use Rattle.eco_trace.specs.Split.{Mentions}
use Rattle.eco_trace.proofs.ClauseLaws.{same_var}
use Rattle.eco_tseitin.specs.declared.sides.EncodedSide.{EncodedSide}
use Rattle.eco_tseitin.specs.declared.sides.TwoSides.{TwoSides}
use Rattle.eco_tseitin.specs.Encoded.{IsReady}
use Rattle.eco_trace.specs.Adding.{shifted, equality, behind}
use Rattle.eco_tseitin.specs.Joined.{IsJoined, positive, equalities, first_clauses}
use Rattle.eco_tseitin.specs.Reading.{Makes, read_vars}
use Rattle.eco_tseitin.specs.Sides.{ReadsAs, IsPart, IsApart, HaveBothInputs, HaveModel, split_of}
use Rattle.eco_tseitin.proofs.JoinLaws.{positives_within}
use Rattle.eco_trace.proofs.ShiftLaws.{shifted_within}
use Rattle.eco_tseitin.proofs.PartLaws.{AreParts, marked, belongs_first, belongs_second, first_model, second_model, model_of_first, model_of_second, put_together, together_front, together_back, together_middle}
use Rattle.eco_trace.proofs.HoldingLaws.{agree_read, agree_satisfied}
use Rattle.eco_trace.proofs.ShiftLaws.{shifted_read, shifted_satisfied, satisfied_shifted}
use Rattle.eco_tseitin.proofs.ReadLaws.{equalities_read, read_equalities, positives_read}
use Rattle.eco_tseitin.proofs.SideLaws.{IsRead, is_read}

-- what the literals of two lists have, those of their equalities have too
equalities_have : (P : Lit → Type 0) → ((l : Lit) → P l → P (complement l)) → (xs ys : List Lit) → All P xs → All P ys → All (All P) (equalities xs ys)
equalities_have P other [] ys hx hy = All-nil (All P)
equalities_have P other (x ∷ xs) [] hx hy = All-nil (All P)
equalities_have P other (x ∷ xs) (y ∷ ys) hx hy =
    let px = All-head P x xs hx in
    let py = All-head P y ys hy in
    let pair : (a b : Lit) → P a → P b → All P (a ∷ b ∷ []) = λ a b pa pb. All-cons P a (b ∷ []) pa (All-cons P b [] pb (All-nil P)) in
    let here : All (All P) (equality x y) = All-cons (All P) (complement x ∷ y ∷ []) ((x ∷ complement y ∷ []) ∷ []) (pair (complement x) y (other x px) py) (All-cons (All P) (x ∷ complement y ∷ []) [] (pair x (complement y) px (other y py)) (All-nil (All P))) in
    All-append (All P) (equality x y) (equalities xs ys) here (equalities_have P other xs ys (All-tail P x xs hx) (All-tail P y ys hy))

-- a variable that a clause mentions is that of a literal
mentioned : (P : Lit → Type 0) (clauses : List (List Lit)) (clause : List Lit) (x : Var) → All (All P) clauses → Contains clauses clause → Mentions clause x → (l : Lit) × P l × (l.var ≡ x)
mentioned P clauses clause x all c m =
    (m.1, All-contains P clause m.1 (All-contains (All P) clauses clause all c) (m.0, m.2, m.3), m.4)

-- what two joined sides say
module _ (one other : EncodedSide) (ready_one : IsReady one) (ready_other : IsReady other) (same_count : length other.base.items ≡ length one.base.items) (made : TwoSides) (j : IsJoined one other made) where
  parts : AreParts (split_of made) j.own j.others
  parts = record { clauses = j.clauses; marks = j.marks }

  -- each list of base literals has a shared variable for each literal
  one_count : length one.base.items ≡ length (map positive made.shared.items)
  one_count = sym (length-map made.shared.items positive ∙ j.shared_are.count_is)

  other_count : length (map positive made.shared.items) ≡ length (map (shifted (one.cnf.vars + length one.base.items)) other.base.items)
  other_count = sym one_count ∙ sym same_count ∙ sym (length-map other.base.items (shifted (one.cnf.vars + length one.base.items)))

  -- a model of the first side's clauses
  first_told : (graph : List Node) (inputs base first : List Edge) (told : IsRead graph inputs base first one) (v : Valuation) → Satisfies v j.own → (w : ℕ → Bool) × Makes graph first w × ReadsAs inputs base w made.shared.items made.one.items v
  first_told graph inputs base first told v holds =
      let both : Satisfies v (first_clauses one.cnf.clauses one.base.items made.shared.items) = subst (Satisfies v) j.own_are holds in
      let equal = equalities_read v one.base.items (map positive made.shared.items) one_count (All-back (HoldsIn v) one.cnf.clauses (equalities one.base.items (map positive made.shared.items)) both) in
      let found = told.models v (All-front (HoldsIn v) one.cnf.clauses (equalities one.base.items (map positive made.shared.items)) both) in
      (found.0, found.1, record { inputs_read = ap (read v) j.one_reads ∙ found.2; base_read = sym (positives_read v made.shared.items) ∙ sym equal ∙ found.3 })

  -- a model of the second side's
  second_told : (graph : List Node) (inputs base second : List Edge) (told : IsRead graph inputs base second other) (v : Valuation) → Satisfies v j.others → (w : ℕ → Bool) × Makes graph second w × ReadsAs inputs base w made.shared.items made.other.items v
  second_told graph inputs base second told v holds =
      let d = one.cnf.vars + length one.base.items in
      let own = map (map (shifted d)) other.cnf.clauses in
      let same = equalities (map positive made.shared.items) (map (shifted d) other.base.items) in
      let both : Satisfies v (own ++ same) = subst (Satisfies v) j.others_are holds in
      let equal = equalities_read v (map positive made.shared.items) (map (shifted d) other.base.items) other_count (All-back (HoldsIn v) own same both) in
      let found = told.models (behind d v) (satisfied_shifted d v other.cnf.clauses (All-front (HoldsIn v) own same both)) in
      (found.0, found.1, record { inputs_read = ap (read v) j.other_reads ∙ shifted_read d v other.inputs.items ∙ found.2; base_read = sym (positives_read v made.shared.items) ∙ equal ∙ shifted_read d v other.base.items ∙ found.3 })

  -- a valuation of the first side, with any values behind the shared variables
  first_given : (graph : List Node) (inputs base first : List Edge) (told : IsRead graph inputs base first one) (w : ℕ → Bool) (makes : Makes graph first w) (back : Valuation) → let v = put_together one.cnf.vars (length one.base.items) (told.answers w makes).0 (bits_of w base) back in Satisfies v j.own × ReadsAs inputs base w made.shared.items made.one.items v
  first_given graph inputs base first told w makes back =
      let f = told.answers w makes in
      let v = put_together one.cnf.vars (length one.base.items) f.0 (bits_of w base) back in
      let agree = together_front one.cnf.vars (length one.base.items) f.0 back (bits_of w base) in
      let between : read_vars v made.shared.items ≡ bits_of w base = together_middle one.cnf.vars (length one.base.items) f.0 back (bits_of w base) made.shared.items j.shared_are (length-map base (value_of w) ∙ sym told.count) in
      let base_bits : read v one.base.items ≡ bits_of w base = sym (agree_read one.cnf.vars f.0 v one.base.items ready_one.base_within agree) ∙ f.3 in
      let own = agree_satisfied one.cnf.vars f.0 v one.cnf.clauses ready_one.formed.within agree f.1 in
      let same = read_equalities v one.base.items (map positive made.shared.items) (base_bits ∙ sym between ∙ sym (positives_read v made.shared.items)) in (
        subst (Satisfies v) (sym j.own_are) (All-append (HoldsIn v) one.cnf.clauses (equalities one.base.items (map positive made.shared.items)) own same),
        record { inputs_read = ap (read v) j.one_reads ∙ sym (agree_read one.cnf.vars f.0 v one.inputs.items ready_one.inputs_within agree) ∙ f.2; base_read = between },
      )

  -- a valuation of the second side, with any values before the shared variables
  second_given : (graph : List Node) (inputs base second : List Edge) (told : IsRead graph inputs base second other) (w : ℕ → Bool) (makes : Makes graph second w) (front : Valuation) (middle : List Bool) → middle ≡ bits_of w base → let v = put_together one.cnf.vars (length one.base.items) front middle (told.answers w makes).0 in Satisfies v j.others × ReadsAs inputs base w made.shared.items made.other.items v
  second_given graph inputs base second told w makes front middle middle_is =
      let d = one.cnf.vars + length one.base.items in
      let f = told.answers w makes in
      let v = put_together one.cnf.vars (length one.base.items) front middle f.0 in
      let agree = together_back one.cnf.vars (length one.base.items) other.cnf.vars front f.0 middle in
      let count : length middle ≡ length one.base.items = ap length middle_is ∙ length-map base (value_of w) ∙ sym told.count ∙ same_count in
      let between : read_vars v made.shared.items ≡ bits_of w base = together_middle one.cnf.vars (length one.base.items) front f.0 middle made.shared.items j.shared_are count ∙ middle_is in
      let base_bits : read v (map (shifted d) other.base.items) ≡ bits_of w base = shifted_read d v other.base.items ∙ sym (agree_read other.cnf.vars f.0 (behind d v) other.base.items ready_other.base_within agree) ∙ f.3 in
      let own = shifted_satisfied d v other.cnf.clauses (agree_satisfied other.cnf.vars f.0 (behind d v) other.cnf.clauses ready_other.formed.within agree f.1) in
      let same = read_equalities v (map positive made.shared.items) (map (shifted d) other.base.items) (positives_read v made.shared.items ∙ between ∙ sym base_bits) in (
        subst (Satisfies v) (sym j.others_are) (All-append (HoldsIn v) (map (map (shifted d)) other.cnf.clauses) (equalities (map positive made.shared.items) (map (shifted d) other.base.items)) own same),
        record { inputs_read = ap (read v) j.other_reads ∙ shifted_read d v other.inputs.items ∙ sym (agree_read other.cnf.vars f.0 (behind d v) other.inputs.items ready_other.inputs_within agree) ∙ f.2; base_read = between },
      )

  pub first_part : (graph : List Node) (inputs base first : List Edge) (told : IsRead graph inputs base first one) → IsPart graph inputs base first (split_of made) true made.shared.items made.one.items
  first_part graph inputs base first told = record {
    models = λ v model. first_told graph inputs base first told v (first_model (split_of made) j.own j.others v parts model);
    answers = λ w makes.
        let back : Valuation = λ x. true in
        let given = first_given graph inputs base first told w makes back in
        let v = put_together one.cnf.vars (length one.base.items) (told.answers w makes).0 (bits_of w base) back in
        (v, model_of_first (split_of made) j.own j.others v parts given.0, given.1);
  }

  pub second_part : (graph : List Node) (inputs base second : List Edge) (told : IsRead graph inputs base second other) → IsPart graph inputs base second (split_of made) false made.shared.items made.other.items
  second_part graph inputs base second told = record {
    models = λ v model. second_told graph inputs base second told v (second_model (split_of made) j.own j.others v parts model);
    answers = λ w makes.
        let front : Valuation = λ x. true in
        let given = second_given graph inputs base second told w makes front (bits_of w base) refl in
        let v = put_together one.cnf.vars (length one.base.items) front (bits_of w base) (told.answers w makes).0 in
        (v, model_of_second (split_of made) j.own j.others v parts given.0, given.1);
  }

  pub both_models : HaveBothInputs one other made
  both_models graph other_graph inputs other_inputs base other_base first second is_one is_other v holds =
      let both : Satisfies v (j.own ++ j.others) = subst (Satisfies v) j.clauses holds in
      let a = first_told graph inputs base first (is_read graph inputs base first one is_one) v (All-front (HoldsIn v) j.own j.others both) in
      let b = second_told other_graph other_inputs other_base second (is_read other_graph other_inputs other_base second other is_other) v (All-back (HoldsIn v) j.own j.others both) in
      (a.0, b.0, record { on_first = a.1; on_second = b.1; same_base = sym a.2.base_read ∙ b.2.base_read }, record { one = a.2; other = b.2 })

  pub both_answers : HaveModel one other made
  both_answers graph other_graph inputs other_inputs base other_base first second is_one is_other w u makes =
      let told_one = is_read graph inputs base first one is_one in
      let told_other = is_read other_graph other_inputs other_base second other is_other in
      let front = (told_one.answers w makes.on_first).0 in
      let back = (told_other.answers u makes.on_second).0 in
      let v = put_together one.cnf.vars (length one.base.items) front (bits_of w base) back in
      let a = first_given graph inputs base first told_one w makes.on_first back in
      let b = second_given other_graph other_inputs other_base second told_other u makes.on_second front (bits_of w base) makes.same_base in
      (v, subst (Satisfies v) (sym j.clauses) (All-append (HoldsIn v) j.own j.others a.0 b.0), record { one = a.1; other = b.1 })

  -- a variable of both parts is behind the first side's own, and not behind the shared ones
  pub shared_between : IsApart (split_of made) made.shared.items
  shared_between x is =
      let n = one.cnf.vars in
      let k = length one.base.items in
      let UpTo : Lit → Type 0 = λ l. l.var.0 ≤ n + k in
      let Behind : Lit → Type 0 = λ l. n < l.var.0 in
      let up_to : (lits : List Lit) → All (IsVarWithin (n + k)) lits → All UpTo lits = λ lits within. All-weaker (IsVarWithin (n + k)) UpTo (λ l h. h.last) lits within in
      let positives_up_to : All UpTo (map positive made.shared.items) = up_to (map positive made.shared.items) (positives_within n k (n + k) made.shared.items j.shared_are (omega arith)) in
      let positives_behind : All Behind (map positive made.shared.items) = All-map Behind positive made.shared.items (All_from_places (λ y. n < y.0) made.shared.items (λ i y at. omega (arith, j.shared_are.numbers i y at))) in
      let shifted_behind : (lits : List Lit) → All (IsVarWithin other.cnf.vars) lits → All Behind (map (shifted (n + k)) lits) = λ lits within. All-map Behind (shifted (n + k)) lits (All-weaker (IsVarWithin other.cnf.vars) (λ l. n < l.var.0 + (n + k)) (λ l h. omega (arith, h.first)) lits within) in
      let base_up_to : All UpTo one.base.items = All-weaker (IsVarWithin n) UpTo (λ l h. omega (arith, h.last)) one.base.items ready_one.base_within in
      let clauses_up_to : All (All UpTo) one.cnf.clauses = All-weaker (All (IsVarWithin n)) (All UpTo) (λ c within. All-weaker (IsVarWithin n) UpTo (λ l h. omega (arith, h.last)) c within) one.cnf.clauses ready_one.formed.within in
      let clauses_behind : All (All Behind) (map (map (shifted (n + k))) other.cnf.clauses) = All-map (All Behind) (map (shifted (n + k))) other.cnf.clauses (All-weaker (All (IsVarWithin other.cnf.vars)) (λ c. All Behind (map (shifted (n + k)) c)) (λ c within. shifted_behind c within) other.cnf.clauses ready_other.formed.within) in
      let own : All (All UpTo) j.own = subst (All (All UpTo)) (sym j.own_are) (All-append (All UpTo) one.cnf.clauses (equalities one.base.items (map positive made.shared.items)) clauses_up_to (equalities_have UpTo (λ l h. h) one.base.items (map positive made.shared.items) base_up_to positives_up_to)) in
      let others : All (All Behind) j.others = subst (All (All Behind)) (sym j.others_are) (All-append (All Behind) (map (map (shifted (n + k))) other.cnf.clauses) (equalities (map positive made.shared.items) (map (shifted (n + k)) other.base.items)) clauses_behind (equalities_have Behind (λ l h. h) (map positive made.shared.items) (map (shifted (n + k)) other.base.items) positives_behind (shifted_behind other.base.items ready_other.base_within))) in
      let a = mentioned UpTo j.own is.in_a.0 x own (belongs_first (split_of made) j.own j.others is.in_a.0 parts is.in_a.1) is.in_a.2 in
      let b = mentioned Behind j.others is.in_b.0 x others (belongs_second (split_of made) j.own j.others is.in_b.0 parts is.in_b.1) is.in_b.2 in
      let last : x.0 ≤ n + k = subst (λ (y : Var). y.0 ≤ n + k) a.2 a.1 in
      let first_behind : n < x.0 = subst (λ (y : Var). n < y.0) b.2 b.1 in
      let place = x.0 - (n + 1) in
      let item = item_at made.shared.items place (omega (arith, last, first_behind, j.shared_are.count_is)) in
      let same : item.0 ≡ x = same_var item.0 x (omega (arith, first_behind, j.shared_are.numbers place item.0 item.1)) in
      Contains_at made.shared.items place x (item.1 ∙ ap Some same)

  pub marks_count : length made.side.items ≡ length made.cnf.clauses
  marks_count =
      ap length j.marks ∙ length-append (marked true j.own) (marked false j.others) ∙ ap (λ a. a + length (marked false j.others)) (length-map j.own (λ clause. true)) ∙ ap (λ b. length j.own + b) (length-map j.others (λ clause. false)) ∙ sym (length-append j.own j.others) ∙ sym (ap length j.clauses)

  pub shared_distinct : AllPairs (λ x y. x ≢ y) made.shared.items
  shared_distinct = pairs_from_places (λ x y. x ≢ y) made.shared.items (λ p q x y before at_p at_q same.
      omega (arith, before, j.shared_are.numbers p x at_p, j.shared_are.numbers q y at_q, ap (λ (z : Var). z.0) same))

  pub one_within : All (IsVarWithin made.cnf.vars) made.one.items
  one_within = subst (All (IsVarWithin made.cnf.vars)) (sym j.one_reads) (All-weaker (IsVarWithin one.cnf.vars) (IsVarWithin made.cnf.vars) (λ l h. record { first = h.first; last = omega (arith, h.last, j.vars) }) one.inputs.items ready_one.inputs_within)

  pub other_within : All (IsVarWithin made.cnf.vars) made.other.items
  other_within = subst (All (IsVarWithin made.cnf.vars)) (sym j.other_reads) (shifted_within (one.cnf.vars + length one.base.items) other.cnf.vars made.cnf.vars other.inputs.items (omega (arith, j.vars)) ready_other.inputs_within)
