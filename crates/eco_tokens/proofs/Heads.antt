-- What stands at the front of a text is found there, and what is found there stands.
use Rattle.std.proofs.Common.{◌≡◌, ℕ, zero, suc, ◌+◌, ◌≤◌, Bool, true, false, ◌&&◌, ◌||◌, List, [], ◌∷◌, ◌++◌, length, take, refl, ap, ◌∙◌, sym, subst, arith, ◌⊎◌, inl, inr, append_assoc}
use Rattle.std.specs.Prelude.{◌==◌, not, codes, Option, Some, None, if◌then◌else◌}
use Rattle.std.specs.List.{list_all, list_any}
use Rattle.std.proofs.lemmas.Bool.{false≢true, eqb-true}
use Rattle.std.proofs.lemmas.Bool.Decides.{eqb_tells}
use Rattle.std.proofs.lemmas.List.{take_at}
use Rattle.eco_meaning.specs.Names.{is_printing}
use Rattle.eco_lists.proofs.Tests.{both}
use Rattle.eco_lists.specs.Lines.{run_of}
use Rattle.eco_tokens.specs.declared.TokenKind.{TokenKind}
use Rattle.eco_tokens.specs.declared.TokenKind.TheVariants.{Simple, Word, Escaped, Constant, Mark}
use Rattle.eco_tokens.specs.declared.fronts.Front.{Front}
use Rattle.eco_tokens.specs.declared.fronts.Front.TheVariants.{Gap, Found, Bad}
use Rattle.eco_tokens.specs.Bytes.{is_blank, is_first, is_later, is_mark, is_pair}
use Rattle.eco_tokens.specs.Words.{is_reserved}
use Rattle.eco_tokens.specs.Forms.{is_simple, is_visible, is_constant, has_form, is_mark_text}
use Rattle.eco_tokens.specs.Pieces.{Piece, piece_text, IsLongest, EndsLine, has_end, EndsBefore}
use Rattle.eco_tokens.specs.Pieces.Piece.{blank, line, block, token}
use Rattle.eco_tokens.specs.Front.{end_of, named_of, escape_of, block_of, comment_of, constant_of, mark_size, front_of}
use Rattle.eco_tokens.proofs.Runs.{StopsAt, run_stands, run_found}
use Rattle.eco_tokens.proofs.Closes.{end_stands, end_found}
use Rattle.eco_tokens.proofs.Classes.{mark_no_blank, first_no_blank, first_no_mark}
use Rattle.eco_tokens.proofs.Shapes.{name_kind, named_form, simple_parts, simple_from_parts, simple_of_simple, simple_of_word, escaped_parts, visible_all, constant_text, mark_parts, form_not_empty, pair_form, longest_mark, longest_pair, longest_name, longest_escaped, longest_constant, stops_name, stops_escaped, escaped_from_visible}

-- what is found where a piece stands
abbrev pub front_for : Piece → Front
front_for (blank b) = Gap 1
front_for (line body) = Gap (length body + 2)
front_for (block body) = Gap (length body + 4)
front_for (token kind text) = Found kind (length text)

-- by the first byte
front_blank : (b : ℕ) (more : List ℕ) → is_blank b ≡ true → front_of (b ∷ more) ≡ Gap 1
unfolding front_of
front_blank b more h = rw h refl

front_mark : (b : ℕ) (more : List ℕ) → is_mark b ≡ true → front_of (b ∷ more) ≡ Found Mark (mark_size b more)
unfolding front_of
front_mark b more h = let e = mark_no_blank b h in rw (e, h) refl

front_first : (b : ℕ) (more : List ℕ) → is_first b ≡ true → front_of (b ∷ more) ≡ named_of (run_of is_later more + 1) (b ∷ more)
unfolding front_of
front_first b more h =
    let e = first_no_blank b h in
    let f = first_no_mark b h in
    rw (e, f, h) refl

front_escape : (more : List ℕ) → front_of (92 ∷ more) ≡ escape_of more
unfolding front_of
front_escape more = refl

front_comment : (more : List ℕ) → front_of (47 ∷ more) ≡ comment_of more
unfolding front_of
front_comment more = refl

-- a name of so many bytes
named_at : (text after : List ℕ) (n : ℕ) → length text ≡ n → named_of n (text ++ after) ≡ Found (name_kind text) n
unfolding named_of
named_at text after n e = let front : take n (text ++ after) ≡ text = take_at text after n e in rw front refl

named_stands : (b : ℕ) (body after : List ℕ) → is_simple (b ∷ body) ≡ true → IsLongest (b ∷ body) after → front_of (b ∷ body ++ after) ≡ Found (name_kind (b ∷ body)) (length (b ∷ body))
named_stands b body after simple longest =
    let parts = simple_parts b body simple in
    let run = run_stands is_later body after parts.1 (stops_name b body after simple longest) in
    front_first b (body ++ after) parts.0 ∙ ap (λ n. named_of (n + 1) (b ∷ body ++ after)) run ∙ named_at (b ∷ body) after (length body + 1) (omega arith) ∙ ap (Found (name_kind (b ∷ body))) (omega arith)

kind_of_simple : (text : List ℕ) → not (is_reserved text) ≡ true → name_kind text ≡ Simple
kind_of_simple text h = by_test (is_reserved text) h
  where
    by_test : (r : Bool) → not r ≡ true → (if r then Word else Simple) ≡ Simple
    by_test true e = absurd (false≢true e)
    by_test false e = refl

kind_of_word : (text : List ℕ) → is_reserved text ≡ true → name_kind text ≡ Word
kind_of_word text h = rw h refl

some_no_zero : (n : ℕ) → (suc n == 0) ≡ false
some_no_zero n = elim (eqb_tells (suc n) 0) [ inl w ↦ absurd (omega (arith, w.1)) | inr w ↦ w.0 ]

escape_run : (body after : List ℕ) (n : ℕ) → is_visible body ≡ true → run_of is_printing (body ++ after) ≡ n → length body ≡ n → escape_of (body ++ after) ≡ Found Escaped (n + 1)
unfolding escape_of is_visible
escape_run [] after n visible e f = absurd (false≢true visible)
escape_run (c ∷ body) after zero visible e f = absurd (cc)
escape_run (c ∷ body) after (suc n) visible e f = rw (e, some_no_zero n) refl

escaped_stands : (body after : List ℕ) → is_visible body ≡ true → IsLongest (92 ∷ body) after → front_of (92 ∷ body ++ after) ≡ Found Escaped (suc (length body))
escaped_stands body after visible longest =
    front_escape (body ++ after) ∙ escape_run body after (length body) visible (run_stands is_printing body after (visible_all body visible) (stops_escaped body after visible longest)) refl ∙ ap (Found Escaped) (omega arith)

zero_stands : (after : List ℕ) → front_of (codes "1'b0" ++ after) ≡ Found Constant 4
unfolding front_of constant_of
zero_stands after = refl

one_stands : (after : List ℕ) → front_of (codes "1'b1" ++ after) ≡ Found Constant 4
unfolding front_of constant_of
one_stands after = refl

-- the size of a mark of one byte, and of a pair
size_alone : (b : ℕ) (after : List ℕ) → StopsAt (is_pair b) after → mark_size b after ≡ 1
unfolding mark_size
size_alone b [] stop = refl
size_alone b (c ∷ after) stop = rw stop refl

size_pair : (b c : ℕ) (after : List ℕ) → is_pair b c ≡ true → mark_size b (c ∷ after) ≡ 2
unfolding mark_size
size_pair b c after pair = rw pair refl

-- where a mark of one byte is the longest token, no byte follows that makes a pair with it
stops_mark : (b : ℕ) (after : List ℕ) → IsLongest (b ∷ []) after → StopsAt (is_pair b) after
stops_mark b [] longest = tt
stops_mark b (c ∷ after) longest = by_test (is_pair b c) refl
  where
    by_test : (t : Bool) → is_pair b c ≡ t → is_pair b c ≡ false
    by_test false e = e
    by_test true e =
        let long : 2 ≤ 1 = longest Mark (b ∷ c ∷ []) after refl (pair_form b c e) in
        absurd (omega arith)

mark_stands : (b : ℕ) (body after : List ℕ) → has_form Mark (b ∷ body) ≡ true → IsLongest (b ∷ body) after → mark_size b (body ++ after) ≡ length (b ∷ body)
mark_stands b body after form longest =
    elim (mark_parts b body form).1 [
      | inl none ↦
          subst (λ xs. IsLongest (b ∷ xs) after → mark_size b (xs ++ after) ≡ length (b ∷ xs)) (sym none)
          (λ l. size_alone b after (stops_mark b after l)) longest
      | inr pair ↦
          subst (λ xs. mark_size b (xs ++ after) ≡ length (b ∷ xs)) (sym pair.1) (size_pair b pair.0 after pair.2)
    ]

-- what a token's own text at the front gives
token_stands : (kind : TokenKind) (text after : List ℕ) → has_form kind text ≡ true → IsLongest text after → front_of (text ++ after) ≡ Found kind (length text)
token_stands kind [] after form longest = absurd (false≢true (sym (form_not_empty kind) ∙ form))
token_stands Simple (b ∷ body) after form longest =
    let w = simple_of_simple (b ∷ body) form in
    named_stands b body after w.0 longest ∙ ap (λ k. Found k (length (b ∷ body))) (kind_of_simple (b ∷ body) w.1)
token_stands Word (b ∷ body) after form longest =
    let w = simple_of_word (b ∷ body) form in
    named_stands b body after w.0 longest ∙ ap (λ k. Found k (length (b ∷ body))) (kind_of_word (b ∷ body) w.1)
token_stands Escaped (b ∷ body) after form longest =
    let w = escaped_parts b body form in
    subst (λ c. front_of (c ∷ body ++ after) ≡ Found Escaped (length (b ∷ body))) (sym w.0) (escaped_stands body after w.1 (subst (λ c. IsLongest (c ∷ body) after) w.0 longest))
token_stands Constant (b ∷ body) after form longest =
    elim (constant_text (b ∷ body) form) [
      | inl e ↦ subst (λ text. front_of (text ++ after) ≡ Found Constant (length text)) (sym e) (zero_stands after)
      | inr e ↦ subst (λ text. front_of (text ++ after) ≡ Found Constant (length text)) (sym e) (one_stands after)
    ]
token_stands Mark (b ∷ body) after form longest =
    front_mark b (body ++ after) (mark_parts b body form).0 ∙ ap (Found Mark) (mark_stands b body after form longest)

no_feed : (body : List ℕ) → list_any (λ b. b == 10) body ≡ false → list_all (λ c. not (c == 10)) body ≡ true
no_feed [] h = refl
no_feed (b ∷ body) h = by_test (b == 10) (list_any (λ b. b == 10) body) h (no_feed body)
  where
    by_test : (t r : Bool) → (t || r) ≡ false → (r ≡ false → list_all (λ c. not (c == 10)) body ≡ true) → (not t && list_all (λ c. not (c == 10)) body) ≡ true
    by_test true r e f = absurd (false≢true (sym e))
    by_test false r e f = f e

ends_stop : (after : List ℕ) → EndsLine after → StopsAt (λ c. not (c == 10)) after
ends_stop [] h = tt
ends_stop (b ∷ more) h = rw h refl

line_stands : (body after : List ℕ) → list_any (λ b. b == 10) body ≡ false → EndsLine after → front_of (47 ∷ 47 ∷ body ++ after) ≡ Gap (length body + 2)
unfolding comment_of
line_stands body after none ends =
    front_comment (47 ∷ body ++ after) ∙ ap (λ n. Gap (n + 2)) (run_stands (λ c. not (c == 10)) body after (no_feed body none) (ends_stop after ends))

block_stands : (body after : List ℕ) → has_end body ≡ false → front_of (47 ∷ 42 ∷ body ++ 42 ∷ 47 ∷ after) ≡ Gap (length body + 4)
unfolding comment_of block_of
block_stands body after none =
    front_comment (42 ∷ body ++ 42 ∷ 47 ∷ after) ∙ ap block_of (end_stands body after none) ∙ ap Gap (omega arith)

-- What stands at the front is found.
pub stands_found : (piece : Piece) (after : List ℕ) → EndsBefore piece after → front_of (piece_text piece ++ after) ≡ front_for piece
unfolding EndsBefore
stands_found (blank b) after h = front_blank b after h
stands_found (line body) after h = line_stands body after h.0 h.1
stands_found (block body) after h =
    ap (λ xs. front_of (47 ∷ 42 ∷ xs)) (append_assoc body (42 ∷ 47 ∷ []) after) ∙ block_stands body after h
stands_found (token kind text) after h = token_stands kind text after h.0 h.1

-- what is found stands there
pub record IsAt (bytes : List ℕ) (front : Front) : Type 0 where
  pub piece : Piece
  pub after : List ℕ
  pub joined : bytes ≡ piece_text piece ++ after
  pub stands : EndsBefore piece after
  pub is : front_for piece ≡ front

abbrev pub IsFound : List ℕ → Front → Type 0
IsFound bytes front = (front ≡ Bad) ⊎ IsAt bytes front

if_found : (bytes : List ℕ) (b : Bool) (x y : Front) → (b ≡ true → IsFound bytes x) → (b ≡ false → IsFound bytes y) → IsFound bytes (if b then x else y)
if_found bytes true x y f g = f refl
if_found bytes false x y f g = g refl

found_blank : (b : ℕ) (more : List ℕ) → is_blank b ≡ true → IsFound (b ∷ more) (Gap 1)
unfolding EndsBefore
found_blank b more h = inr (record { piece = blank b; after = more; joined = refl; stands = h; is = refl })

found_alone : (b : ℕ) (more : List ℕ) → is_mark b ≡ true → StopsAt (is_pair b) more → IsFound (b ∷ more) (Found Mark (mark_size b more))
unfolding EndsBefore has_form is_mark_text
found_alone b more h stop =
    inr (record {
      piece = token Mark (b ∷ []);
      after = more;
      joined = refl;
      stands = (h, longest_mark b more h stop);
      is = ap (Found Mark) (sym (size_alone b more stop));
    })

found_pair : (b c : ℕ) (more : List ℕ) → is_pair b c ≡ true → IsFound (b ∷ c ∷ more) (Found Mark (mark_size b (c ∷ more)))
unfolding EndsBefore
found_pair b c more h =
    inr (record {
      piece = token Mark (b ∷ c ∷ []);
      after = more;
      joined = refl;
      stands = (pair_form b c h, longest_pair b c more h);
      is = ap (Found Mark) (sym (size_pair b c more h));
    })

found_mark : (b : ℕ) (more : List ℕ) → is_mark b ≡ true → IsFound (b ∷ more) (Found Mark (mark_size b more))
found_mark b [] h = found_alone b [] h tt
found_mark b (c ∷ more) h = by_test (is_pair b c) refl
  where
    by_test : (t : Bool) → is_pair b c ≡ t → IsFound (b ∷ c ∷ more) (Found Mark (mark_size b (c ∷ more)))
    by_test true e = found_pair b c more e
    by_test false e = found_alone b (c ∷ more) h e

found_named : (b : ℕ) (more : List ℕ) → is_first b ≡ true → IsFound (b ∷ more) (named_of (run_of is_later more + 1) (b ∷ more))
unfolding EndsBefore
found_named b more first =
    let r = run_found is_later more in
    let text : List ℕ = b ∷ r.text in
    let simple : is_simple text ≡ true = simple_from_parts b r.text first r.all in
    let count : run_of is_later more + 1 ≡ length text = ap (λ n. n + 1) r.count ∙ (omega arith) in
    let named = ap (λ xs. named_of (run_of is_later more + 1) (b ∷ xs)) r.joined ∙ named_at text r.after (run_of is_later more + 1) (sym count) in
    inr (record {
      piece = token (name_kind text) text;
      after = r.after;
      joined = ap (λ xs. b ∷ xs) r.joined;
      stands = (named_form text simple, longest_name b r.text r.after first r.stop);
      is = ap (Found (name_kind text)) (sym count) ∙ sym named;
    })

found_escape_by : (more text after : List ℕ) (n : ℕ) → more ≡ text ++ after → list_all is_printing text ≡ true → StopsAt is_printing after → run_of is_printing more ≡ n → n ≡ length text → IsFound (92 ∷ more) (escape_of more)
unfolding escape_of EndsBefore is_visible
found_escape_by more text after zero joined all stop run count = inl (rw run refl)
found_escape_by more [] after (suc n) joined all stop run count = absurd (omega arith)
found_escape_by more (c ∷ text) after (suc n) joined all stop run count =
    let here : escape_of more ≡ Found Escaped (suc n + 1) = rw (run, some_no_zero n) refl in
    inr (record {
      piece = token Escaped (92 ∷ c ∷ text);
      after = after;
      joined = ap (λ xs. 92 ∷ xs) joined;
      stands = (escaped_from_visible (c ∷ text) all, longest_escaped (c ∷ text) after stop);
      is = ap (Found Escaped) (omega arith) ∙ sym here;
    })

found_escape : (more : List ℕ) → IsFound (92 ∷ more) (escape_of more)
found_escape more =
    let r = run_found is_printing more in
    found_escape_by more r.text r.after (run_of is_printing more) r.joined r.all r.stop refl r.count

no_feed_back : (body : List ℕ) → list_all (λ c. not (c == 10)) body ≡ true → list_any (λ b. b == 10) body ≡ false
no_feed_back [] h = refl
no_feed_back (b ∷ body) h = by_test (b == 10) (list_any (λ b. b == 10) body) h (no_feed_back body)
  where
    by_test : (t r : Bool) → (not t && list_all (λ c. not (c == 10)) body) ≡ true → (list_all (λ c. not (c == 10)) body ≡ true → r ≡ false) → (t || r) ≡ false
    by_test true r e f = absurd (false≢true e)
    by_test false r e f = f e

stop_ends : (after : List ℕ) → StopsAt (λ c. not (c == 10)) after → EndsLine after
stop_ends [] h = tt
stop_ends (b ∷ more) h = by_test (b == 10) refl h
  where
    by_test : (t : Bool) → (b == 10) ≡ t → not t ≡ false → b ≡ 10
    by_test true e f = eqb-true b 10 e
    by_test false e f = absurd (false≢true (sym f))

found_line : (rest : List ℕ) → IsFound (47 ∷ 47 ∷ rest) (Gap (run_of (λ c. not (c == 10)) rest + 2))
unfolding EndsBefore
found_line rest =
    let r = run_found (λ c. not (c == 10)) rest in
    inr (record {
      piece = line r.text;
      after = r.after;
      joined = ap (λ xs. 47 ∷ 47 ∷ xs) r.joined;
      stands = (no_feed_back r.text r.all, stop_ends r.after r.stop);
      is = ap (λ n. Gap (n + 2)) (sym r.count);
    })

found_block_by : (rest : List ℕ) (o : Option ℕ) → end_of false rest ≡ o → IsFound (47 ∷ 42 ∷ rest) (block_of o)
unfolding EndsBefore block_of
found_block_by rest None e = inl refl
found_block_by rest (Some n) e =
    let w = end_found rest n e in
    inr (record {
      piece = block w.body;
      after = w.after;
      joined = ap (λ xs. 47 ∷ 42 ∷ xs) (w.joined ∙ sym (append_assoc w.body (42 ∷ 47 ∷ []) w.after));
      stands = w.none;
      is = ap Gap (omega arith);
    })

found_comment : (more : List ℕ) → IsFound (47 ∷ more) (comment_of more)
unfolding comment_of
found_comment [] = inl refl
found_comment (c ∷ rest) =
    if_found _ (c == 47) _ _
    (λ e. subst (λ d. IsFound (47 ∷ d ∷ rest) (Gap (run_of (λ c. not (c == 10)) rest + 2))) (sym (eqb-true c 47 e)) (found_line rest))
    (λ _. if_found _ (c == 42) _ _
    (λ e. subst (λ d. IsFound (47 ∷ d ∷ rest) (block_of (end_of false rest))) (sym (eqb-true c 42 e)) (found_block_by rest (end_of false rest) refl))
    (λ _. inl refl))

constant_zero : has_form Constant (codes "1'b0") ≡ true
unfolding has_form is_constant
constant_zero = refl

constant_one : has_form Constant (codes "1'b1") ≡ true
unfolding has_form is_constant
constant_one = refl

found_bit : (bit : ℕ) (rest : List ℕ) → has_form Constant (49 ∷ 39 ∷ 98 ∷ bit ∷ []) ≡ true → IsFound (49 ∷ 39 ∷ 98 ∷ bit ∷ rest) (Found Constant 4)
unfolding EndsBefore
found_bit bit rest form =
    inr (record {
      piece = token Constant (49 ∷ 39 ∷ 98 ∷ bit ∷ []);
      after = rest;
      joined = refl;
      stands = (form, longest_constant (39 ∷ 98 ∷ bit ∷ []) rest refl);
      is = refl;
    })

either : (b c : Bool) {P : Type 0} → (b || c) ≡ true → (b ≡ true → P) → (c ≡ true → P) → P
either true c h f g = f refl
either false c h f g = g h

found_constant : (more : List ℕ) → IsFound (49 ∷ more) (constant_of more)
unfolding constant_of
found_constant [] = inl refl
found_constant (q ∷ []) = inl refl
found_constant (q ∷ b ∷ []) = inl refl
found_constant (q ∷ b ∷ bit ∷ rest) = if_found _ (q == 39 && b == 98 && (bit == 48 || bit == 49)) _ _ yes (λ _. inl refl)
  where
    yes : (q == 39 && b == 98 && (bit == 48 || bit == 49)) ≡ true → IsFound (49 ∷ q ∷ b ∷ bit ∷ rest) (Found Constant 4)
    yes h =
        let outer = both (q == 39 && b == 98) (bit == 48 || bit == 49) h in
        let inner = both (q == 39) (b == 98) outer.0 in
        let is_q : q ≡ 39 = eqb-true q 39 inner.0 in
        let is_b : b ≡ 98 = eqb-true b 98 inner.1 in
        let here : IsFound (49 ∷ 39 ∷ 98 ∷ bit ∷ rest) (Found Constant 4) =
        either (bit == 48) (bit == 49) outer.1
        (λ e. found_bit bit rest (subst (λ d. has_form Constant (49 ∷ 39 ∷ 98 ∷ d ∷ []) ≡ true) (sym (eqb-true bit 48 e)) constant_zero))
        (λ e. found_bit bit rest (subst (λ d. has_form Constant (49 ∷ 39 ∷ 98 ∷ d ∷ []) ≡ true) (sym (eqb-true bit 49 e)) constant_one)) in
        subst (λ xs. IsFound (49 ∷ xs) (Found Constant 4)) (ap (λ d. d ∷ 98 ∷ bit ∷ rest) (sym is_q) ∙ ap (λ d. q ∷ d ∷ bit ∷ rest) (sym is_b)) here

-- What is found stands at the front.
pub found_stands : (bytes : List ℕ) → IsFound bytes (front_of bytes)
unfolding front_of
found_stands [] = inl refl
found_stands (b ∷ more) =
    if_found _ (is_blank b) _ _ (found_blank b more)
    (λ _. if_found _ (is_mark b) _ _ (found_mark b more)
    (λ _. if_found _ (is_first b) _ _ (found_named b more)
    (λ _. if_found _ (b == 92) _ _ (λ e. subst (λ d. IsFound (d ∷ more) (escape_of more)) (sym (eqb-true b 92 e)) (found_escape more))
    (λ _. if_found _ (b == 47) _ _ (λ e. subst (λ d. IsFound (d ∷ more) (comment_of more)) (sym (eqb-true b 47 e)) (found_comment more))
    (λ _. if_found _ (b == 49) _ _ (λ e. subst (λ d. IsFound (d ∷ more) (constant_of more)) (sym (eqb-true b 49 e)) (found_constant more))
    (λ _. inl refl))))))
