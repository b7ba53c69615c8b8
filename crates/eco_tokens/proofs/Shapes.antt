-- The forms of tokens, taken apart; and which tokens are the longest at their place.
use Rattle.std.proofs.Common.{◌≡◌, ℕ, suc, ◌≤◌, Bool, true, false, ◌||◌, List, [], ◌∷◌, ◌++◌, length, refl, ap, ◌∙◌, sym, subst, arith, ◌⊎◌, inl, inr, append_assoc, length-append}
use Rattle.std.specs.Prelude.{◌==◌, not, codes, if◌then◌else◌}
use Rattle.std.specs.List.{list_all}
use Rattle.std.specs.Str.{bytes_eq}
use Rattle.std.proofs.lemmas.Bool.{false≢true, eqb-true}
use Rattle.std.proofs.lemmas.List.Folds.{list_all-append}
use Rattle.std.proofs.lemmas.Slice.Eq.{bytes_eq-Decides}
use Rattle.eco_meaning.specs.Names.{is_printing}
use Rattle.eco_lists.proofs.Tests.{both}
use Rattle.eco_tokens.specs.declared.TokenKind.{TokenKind}
use Rattle.eco_tokens.specs.declared.TokenKind.TheVariants.{Simple, Word, Escaped, Constant, Mark}
use Rattle.eco_tokens.specs.Bytes.{is_first, is_later, is_mark, is_pair}
use Rattle.eco_tokens.specs.Words.{is_reserved}
use Rattle.eco_tokens.specs.Forms.{is_simple, is_plain, is_visible, is_escaped, is_constant, is_mark_text, has_form}
use Rattle.eco_tokens.specs.Pieces.{IsLongest}
use Rattle.eco_tokens.proofs.Runs.{StopsAt, run_longest}
use Rattle.eco_tokens.proofs.Classes.{mark_no_first, first_no_mark, pair_mark}

-- the kind of an identifier's token
abbrev pub name_kind : List ℕ → TokenKind
name_kind text = if is_reserved text then Word else Simple

named_form_by : (text : List ℕ) (r : Bool) → is_reserved text ≡ r → is_simple text ≡ true → has_form (if r then Word else Simple) text ≡ true
unfolding has_form is_plain
named_form_by text true e simple = rw (simple, e) refl
named_form_by text false e simple = rw (simple, e) refl

-- an identifier has the form of its kind
pub named_form : (text : List ℕ) → is_simple text ≡ true → has_form (name_kind text) text ≡ true
named_form text simple = named_form_by text (is_reserved text) refl simple

-- its first byte, and the others
pub simple_parts : (b : ℕ) (more : List ℕ) → is_simple (b ∷ more) ≡ true → (is_first b ≡ true) × (list_all is_later more ≡ true)
unfolding is_simple
simple_parts b more h = both _ _ h

pub simple_from_parts : (b : ℕ) (more : List ℕ) → is_first b ≡ true → list_all is_later more ≡ true → is_simple (b ∷ more) ≡ true
unfolding is_simple
simple_from_parts b more first later = rw (first, later) refl

pub simple_of_simple : (text : List ℕ) → has_form Simple text ≡ true → (is_simple text ≡ true) × (not (is_reserved text) ≡ true)
unfolding has_form is_plain
simple_of_simple text h = both _ _ h

pub simple_of_word : (text : List ℕ) → has_form Word text ≡ true → (is_simple text ≡ true) × (is_reserved text ≡ true)
unfolding has_form
simple_of_word text h = both _ _ h

-- an escaped identifier's bytes
pub escaped_parts : (b : ℕ) (more : List ℕ) → has_form Escaped (b ∷ more) ≡ true → (b ≡ 92) × (is_visible more ≡ true)
unfolding has_form is_escaped
escaped_parts b more h =
    let w = both (b == 92) (is_visible more) h in
    (eqb-true b 92 w.0, w.1)

pub visible_all : (text : List ℕ) → is_visible text ≡ true → list_all is_printing text ≡ true
unfolding is_visible
visible_all [] h = refl
visible_all (b ∷ more) h = h

pub constant_text : (text : List ℕ) → has_form Constant text ≡ true → (text ≡ codes "1'b0") ⊎ (text ≡ codes "1'b1")
unfolding has_form is_constant
constant_text text h = by_text (bytes_eq text (codes "1'b0")) (bytes_eq text (codes "1'b1")) (bytes_eq-Decides text (codes "1'b0")).0 (bytes_eq-Decides text (codes "1'b1")).0 h
  where
    by_text : (b c : Bool) → (b ≡ true → text ≡ codes "1'b0") → (c ≡ true → text ≡ codes "1'b1") → (b || c) ≡ true → (text ≡ codes "1'b0") ⊎ (text ≡ codes "1'b1")
    by_text true c f g e = inl (f refl)
    by_text false c f g e = inr (g e)

-- a mark has one byte or is a pair
pub mark_parts : (b : ℕ) (more : List ℕ) → has_form Mark (b ∷ more) ≡ true → (is_mark b ≡ true) × ((more ≡ []) ⊎ ((c : ℕ) × (more ≡ c ∷ []) × (is_pair b c ≡ true)))
unfolding has_form is_mark_text
mark_parts b [] h = (h, inl refl)
mark_parts b (c ∷ []) h = (pair_mark b c h, inr (c, refl, h))
mark_parts b (c ∷ d ∷ more) h = absurd (false≢true h)

pub pair_form : (b c : ℕ) → is_pair b c ≡ true → has_form Mark (b ∷ c ∷ []) ≡ true
unfolding has_form is_mark_text
pair_form b c h = h

-- no form has no bytes
pub form_not_empty : (kind : TokenKind) → has_form kind [] ≡ false
unfolding has_form is_plain is_simple is_escaped is_constant is_mark_text
form_not_empty Simple = refl
form_not_empty Word = refl
form_not_empty Escaped = refl
form_not_empty Constant = refl
form_not_empty Mark = refl

-- a token of one byte more at most is compared behind that byte
longest_by : (b : ℕ) (text after : List ℕ) → ((kind : TokenKind) (front back : List ℕ) → text ++ after ≡ front ++ back → has_form kind (b ∷ front) ≡ true → length front ≤ length text) → IsLongest (b ∷ text) after
longest_by b text after each kind [] back e form = omega arith
longest_by b text after each kind (c ∷ front) back e form =
    let same : c ≡ b = cc in
    let rest : text ++ after ≡ front ++ back = cc in
    let h = each kind front back rest (subst (λ d. has_form kind (d ∷ front) ≡ true) same form) in
    omega arith

-- what begins with a byte of a mark is a mark
mark_only : (b : ℕ) → is_mark b ≡ true → (kind : TokenKind) (front : List ℕ) → has_form kind (b ∷ front) ≡ true → has_form Mark (b ∷ front) ≡ true
mark_only b mark Simple front form = absurd (false≢true (sym (mark_no_first b mark) ∙ (simple_parts b front (simple_of_simple _ form).0).0))
mark_only b mark Word front form = absurd (false≢true (sym (mark_no_first b mark) ∙ (simple_parts b front (simple_of_word _ form).0).0))
mark_only b mark Escaped front form =
    let same : b ≡ 92 = (escaped_parts b front form).0 in
    absurd (false≢true (sym (ap is_mark same) ∙ mark))
mark_only b mark Constant front form =
    elim (constant_text _ form) [
      | inl e ↦ (let same : b ≡ 49 = cc in absurd (false≢true (sym (ap is_mark same) ∙ mark)))
      | inr e ↦ (let same : b ≡ 49 = cc in absurd (false≢true (sym (ap is_mark same) ∙ mark)))
    ]
mark_only b mark Mark front form = form

mark_alone : (b : ℕ) (after front back : List ℕ) → StopsAt (is_pair b) after → after ≡ front ++ back → has_form Mark (b ∷ front) ≡ true → length front ≤ 0
mark_alone b after front back stop e form =
    elim (mark_parts b front form).1 [
      | inl none ↦ (let none_long : length front ≡ 0 = ap length none in omega arith)
      | inr pair ↦
          let here : after ≡ pair.0 ∷ back = e ∙ ap (λ xs. xs ++ back) pair.1 in
          absurd (false≢true (sym (subst (StopsAt (is_pair b)) here stop) ∙ pair.2))
    ]

-- a mark of one byte is the longest token where no byte follows that makes a pair with it
pub longest_mark : (b : ℕ) (after : List ℕ) → is_mark b ≡ true → StopsAt (is_pair b) after → IsLongest (b ∷ []) after
longest_mark b after mark stop =
    longest_by b [] after (λ kind front back e form. mark_alone b after front back stop e (mark_only b mark kind front form))

mark_short : (b : ℕ) (front : List ℕ) → has_form Mark (b ∷ front) ≡ true → length front ≤ 1
mark_short b front form =
    elim (mark_parts b front form).1 [
      | inl none ↦ (let none_long : length front ≡ 0 = ap length none in omega arith)
      | inr pair ↦ (let one_long : length front ≡ 1 = ap length pair.1 in omega arith)
    ]

-- a pair is
pub longest_pair : (b c : ℕ) (after : List ℕ) → is_pair b c ≡ true → IsLongest (b ∷ c ∷ []) after
longest_pair b c after pair =
    longest_by b (c ∷ []) after (λ kind front back _ form. mark_short b front (mark_only b (pair_mark b c pair) kind front form))

longest_name_by : (b : ℕ) (text after : List ℕ) → is_first b ≡ true → StopsAt is_later after → (kind : TokenKind) (front back : List ℕ) → text ++ after ≡ front ++ back → has_form kind (b ∷ front) ≡ true → length front ≤ length text
longest_name_by b text after first stop Simple front back e form =
    run_longest is_later text after front back e stop (simple_parts b front (simple_of_simple _ form).0).1
longest_name_by b text after first stop Word front back e form =
    run_longest is_later text after front back e stop (simple_parts b front (simple_of_word _ form).0).1
longest_name_by b text after first stop Escaped front back e form =
    let same : b ≡ 92 = (escaped_parts b front form).0 in
    absurd (false≢true (sym (ap is_first same) ∙ first))
longest_name_by b text after first stop Constant front back e form =
    elim (constant_text _ form) [
      | inl e ↦ (let same : b ≡ 49 = cc in absurd (false≢true (sym (ap is_first same) ∙ first)))
      | inr e ↦ (let same : b ≡ 49 = cc in absurd (false≢true (sym (ap is_first same) ∙ first)))
    ]
longest_name_by b text after first stop Mark front back e form =
    absurd (false≢true (sym (first_no_mark b first) ∙ (mark_parts b front form).0))

-- an identifier is, where no byte follows that goes on with it
pub longest_name : (b : ℕ) (text after : List ℕ) → is_first b ≡ true → StopsAt is_later after → IsLongest (b ∷ text) after
longest_name b text after first stop = longest_by b text after (longest_name_by b text after first stop)

longest_escaped_by : (b : ℕ) (text after : List ℕ) → b ≡ 92 → StopsAt is_printing after → (kind : TokenKind) (front back : List ℕ) → text ++ after ≡ front ++ back → has_form kind (b ∷ front) ≡ true → length front ≤ length text
longest_escaped_by b text after slash stop Simple front back e form =
    absurd (false≢true (sym (ap is_first slash) ∙ (simple_parts b front (simple_of_simple _ form).0).0))
longest_escaped_by b text after slash stop Word front back e form =
    absurd (false≢true (sym (ap is_first slash) ∙ (simple_parts b front (simple_of_word _ form).0).0))
longest_escaped_by b text after slash stop Escaped front back e form =
    run_longest is_printing text after front back e stop (visible_all front (escaped_parts b front form).1)
longest_escaped_by b text after slash stop Constant front back e form =
    elim (constant_text _ form) [
      | inl e ↦ (let same : b ≡ 49 = cc in absurd (omega arith))
      | inr e ↦ (let same : b ≡ 49 = cc in absurd (omega arith))
    ]
longest_escaped_by b text after slash stop Mark front back e form =
    absurd (false≢true (sym (ap is_mark slash) ∙ (mark_parts b front form).0))

-- an escaped identifier is, where no visible character follows
pub longest_escaped : (text after : List ℕ) → StopsAt is_printing after → IsLongest (92 ∷ text) after
longest_escaped text after stop = longest_by 92 text after (longest_escaped_by 92 text after refl stop)

longest_constant_by : (b : ℕ) → b ≡ 49 → (kind : TokenKind) (front : List ℕ) → has_form kind (b ∷ front) ≡ true → length front ≤ 3
longest_constant_by b one Simple front form =
    absurd (false≢true (sym (ap is_first one) ∙ (simple_parts b front (simple_of_simple _ form).0).0))
longest_constant_by b one Word front form =
    absurd (false≢true (sym (ap is_first one) ∙ (simple_parts b front (simple_of_word _ form).0).0))
longest_constant_by b one Escaped front form =
    let same : b ≡ 92 = (escaped_parts b front form).0 in
    absurd (omega arith)
longest_constant_by b one Constant front form =
    elim (constant_text _ form) [
      | inl e ↦ (let long : suc (length front) ≡ 4 = ap length e in omega arith)
      | inr e ↦ (let long : suc (length front) ≡ 4 = ap length e in omega arith)
    ]
longest_constant_by b one Mark front form =
    absurd (false≢true (sym (ap is_mark one) ∙ (mark_parts b front form).0))

-- a constant is
pub longest_constant : (text after : List ℕ) → length text ≡ 3 → IsLongest (49 ∷ text) after
longest_constant text after three = longest_by 49 text after (λ kind front back _ form. let h = longest_constant_by 49 refl kind front form in omega arith)

-- the longest identifier ends where no byte goes on with it
pub stops_name : (b : ℕ) (text after : List ℕ) → is_simple (b ∷ text) ≡ true → IsLongest (b ∷ text) after → StopsAt is_later after
stops_name b text [] simple longest = tt
stops_name b text (c ∷ more) simple longest = by_test (is_later c) refl
  where
    by_test : (t : Bool) → is_later c ≡ t → is_later c ≡ false
    by_test false e = e
    by_test true e =
        let parts = simple_parts b text simple in
        let all : list_all is_later (text ++ c ∷ []) ≡ true = rw (list_all-append, parts.1, e) refl in
        let long : is_simple (b ∷ text ++ c ∷ []) ≡ true = simple_from_parts b (text ++ c ∷ []) parts.0 all in
        let h = longest (name_kind (b ∷ text ++ c ∷ [])) (b ∷ text ++ c ∷ []) more (ap (λ xs. b ∷ xs) (sym (append_assoc text (c ∷ []) more))) (named_form _ long) in
        let size = length-append text (c ∷ []) in
        absurd (omega arith)

visible_more : (text : List ℕ) (c : ℕ) → is_visible text ≡ true → is_printing c ≡ true → is_visible (text ++ c ∷ []) ≡ true
unfolding is_visible
visible_more [] c h e = absurd (false≢true h)
visible_more (b ∷ text) c h e =
    let parts = both (is_printing b) (list_all is_printing text) h in
    let all : list_all is_printing (text ++ c ∷ []) ≡ true = rw (list_all-append, parts.1, e) refl in
    rw (parts.0, all) refl

pub escaped_from_visible : (text : List ℕ) → is_visible text ≡ true → has_form Escaped (92 ∷ text) ≡ true
unfolding has_form is_escaped
escaped_from_visible text h = h

-- the longest escaped identifier ends where no visible character follows
pub stops_escaped : (text after : List ℕ) → is_visible text ≡ true → IsLongest (92 ∷ text) after → StopsAt is_printing after
stops_escaped text [] visible longest = tt
stops_escaped text (c ∷ more) visible longest = by_test (is_printing c) refl
  where
    by_test : (t : Bool) → is_printing c ≡ t → is_printing c ≡ false
    by_test false e = e
    by_test true e =
        let long = visible_more text c visible e in
        let h = longest Escaped (92 ∷ text ++ c ∷ []) more (ap (λ xs. 92 ∷ xs) (sym (append_assoc text (c ∷ []) more))) (escaped_from_visible _ long) in
        let size = length-append text (c ∷ []) in
        absurd (omega arith)
