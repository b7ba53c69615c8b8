-- Rows in order are again a row: at most one cause stands, and none where they are passed.
use Rattle.std.proofs.Common.{◌≡◌, inl, inr, Option, Some, None, sym, ◌∙◌, ap, subst}
use Rattle.eco_inputs.specs.Rows.{IsRow, Row, both_rows, four_rows, named_row, optional_row, test_row, then_row, three_rows, value_row}

module _ {Given Cause : Type 0} where
  then_once : {Value Next : Type 0} (determine : Cause → Cause) (row : Row Given Cause Value) (next : Value → Row Given Cause Next) (given : Given) → IsRow determine row given → ((m : Value) → IsRow determine (next m) given) → (a b : Cause) → (then_row row next).stands given a → (then_row row next).stands given b → determine a ≡ determine b
  then_once determine row next given first later a b (inl x) (inl y) = first.once a b x y
  then_once determine row next given first later a b (inl x) (inr (m, passed, y)) = absurd (first.apart a m x passed)
  then_once determine row next given first later a b (inr (m, passed, x)) (inl y) = absurd (first.apart b m y passed)
  then_once determine row next given first later a b (inr (m, passed, x)) (inr (n, also, y)) =
      (later m).once a b x (subst (λ v. (next v).stands given b) (first.same n m also passed) y)

  then_apart : {Value Next : Type 0} (determine : Cause → Cause) (row : Row Given Cause Value) (next : Value → Row Given Cause Next) (given : Given) → IsRow determine row given → ((m : Value) → IsRow determine (next m) given) → (a : Cause) (v : Next) → (then_row row next).stands given a → (then_row row next).passes given v → ⊥
  then_apart determine row next given first later a v (inl x) (n, also, y) = first.apart a n x also
  then_apart determine row next given first later a v (inr (m, passed, x)) (n, also, y) =
      (later m).apart a v x (subst (λ u. (next u).passes given v) (first.same n m also passed) y)

  then_same : {Value Next : Type 0} (determine : Cause → Cause) (row : Row Given Cause Value) (next : Value → Row Given Cause Next) (given : Given) → IsRow determine row given → ((m : Value) → IsRow determine (next m) given) → (v w : Next) → (then_row row next).passes given v → (then_row row next).passes given w → v ≡ w
  then_same determine row next given first later v w (m, passed, x) (n, also, y) =
      (later m).same v w x (subst (λ u. (next u).passes given w) (first.same n m also passed) y)

  -- a row, and those behind it
  pub then_law : {Value Next : Type 0} (determine : Cause → Cause) (row : Row Given Cause Value) (next : Value → Row Given Cause Next) (given : Given) → IsRow determine row given → ((m : Value) → IsRow determine (next m) given) → IsRow determine (then_row row next) given
  then_law determine row next given first later = record {
    once = then_once determine row next given first later;
    apart = then_apart determine row next given first later;
    same = then_same determine row next given first later;
  }

  -- a row whose causes are a command's
  pub named_law : {Own Value : Type 0} (own_determine : Own → Own) (determine : Cause → Cause) (make : Own → Cause) (row : Row Given Own Value) (given : Given) → ((a b : Own) → own_determine a ≡ own_determine b → determine (make a) ≡ determine (make b)) → IsRow own_determine row given → IsRow determine (named_row make row) given
  named_law own_determine determine make row given kept law = record {
    once = λ a b x y. ap determine x.1 ∙ kept x.0 y.0 (law.once x.0 y.0 x.2 y.2) ∙ sym (ap determine y.1);
    apart = λ a v x passed. law.apart x.0 v x.2 passed;
    same = law.same;
  }

  -- a row that reads no file
  pub test_law : {Value : Type 0} (determine : Cause → Cause) (stands : Cause → Type 0) (passes : Type 0) (value : Value) (given : Given) → ((a b : Cause) → stands a → stands b → determine a ≡ determine b) → ((a : Cause) → stands a → passes → ⊥) → IsRow determine (test_row stands passes value) given
  test_law determine stands passes value given once apart = record {
    once = once;
    apart = λ a v x passed. apart a x passed.0;
    same = λ v w p q. p.1 ∙ sym q.1;
  }

  -- a row that is always passed
  pub value_law : {Value : Type 0} (determine : Cause → Cause) (value : Value) (given : Given) → IsRow determine (value_row value) given
  value_law determine value given =
      test_law determine (λ cause. ⊥) (Unit {0}) value given (λ a b x y. absurd x) (λ a x passes. x)

  -- two rows, of which the second doesn't turn on what the first gives
  pub both_law : {First Second : Type 0} (determine : Cause → Cause) (first : Row Given Cause First) (second : Row Given Cause Second) (given : Given) → IsRow determine first given → IsRow determine second given → IsRow determine (both_rows first second) given
  both_law determine first second given law later =
      then_law determine first (λ a. then_row second (λ b. value_row (a, b))) given law
      (λ a. then_law determine second (λ b. value_row (a, b)) given later (λ b. value_law determine (a, b) given))

  -- three such rows
  pub three_law : {A B C Value : Type 0} (determine : Cause → Cause) (make : (A × B) × C → Value) (a : Row Given Cause A) (b : Row Given Cause B) (c : Row Given Cause C) (given : Given) → IsRow determine a given → IsRow determine b given → IsRow determine c given → IsRow determine (three_rows make a b c) given
  three_law determine make a b c given is_a is_b is_c =
      then_law determine (both_rows (both_rows a b) c) (λ read. value_row (make read)) given
      (both_law determine (both_rows a b) c given (both_law determine a b given is_a is_b) is_c)
      (λ read. value_law determine (make read) given)

  -- four such rows
  pub four_law : {A B C D Value : Type 0} (determine : Cause → Cause) (make : ((A × B) × C) × D → Value) (a : Row Given Cause A) (b : Row Given Cause B) (c : Row Given Cause C) (d : Row Given Cause D) (given : Given) → IsRow determine a given → IsRow determine b given → IsRow determine c given → IsRow determine d given → IsRow determine (four_rows make a b c d) given
  four_law determine make a b c d given is_a is_b is_c is_d =
      then_law determine (both_rows (both_rows (both_rows a b) c) d) (λ read. value_row (make read)) given
      (both_law determine (both_rows (both_rows a b) c) d given
      (both_law determine (both_rows a b) c given (both_law determine a b given is_a is_b) is_c) is_d)
      (λ read. value_law determine (make read) given)

  -- the rows of an option
  pub optional_law : {X Value : Type 0} (determine : Cause → Cause) (option : Option X) (row : X → Row Given Cause Value) (given : Given) → ((x : X) → IsRow determine (row x) given) → IsRow determine (optional_row option row) given
  optional_law determine None row given law = value_law determine None given
  optional_law determine (Some x) row given law =
      then_law determine (row x) (λ value. value_row (Some value)) given (law x) (λ value. value_law determine (Some value) given)
