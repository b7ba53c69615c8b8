-- The tokens ahead are those of the bytes.
use Rattle.std.proofs.Common.{◌≡◌, ◌≢◌, true, ℕ, zero, suc, ◌<◌, ◌≤◌, List, [], ◌∷◌, ◌++◌, length, take, drop, refl, ap, ◌∙◌, sym, subst, arith, ◌⊎◌, inl, inr, append_assoc, length-drop}
use Rattle.std.proofs.lemmas.List.{take_at, drop_at}
use Rattle.eco_tokens.specs.declared.TokenKind.{TokenKind}
use Rattle.eco_tokens.specs.declared.fronts.Front.{Front}
use Rattle.eco_tokens.specs.declared.fronts.Front.TheVariants.{Gap, Found, Bad}
use Rattle.eco_tokens.specs.Front.{front_of}
use Rattle.eco_tokens.specs.Said.{Said}
use Rattle.eco_tokens.specs.Pieces.{Piece, piece_text, text_of, EndsBefore, AllEnd}
use Rattle.eco_tokens.specs.Pieces.Piece.{blank, line, block, token}
use Rattle.eco_tokens.specs.Forms.{has_form}
use Rattle.eco_tokens.specs.Tokens.{said, AreTokens}
use Rattle.eco_tokens.specs.Ahead.{nothing, tokens_by, tokens_within, tokens_ahead}
use Rattle.eco_tokens.proofs.Heads.{front_for, stands_found, found_stands}
use Rattle.eco_tokens.proofs.Cuts.{size, told, size_for, said_cons, never_bad, IsFirst, first_found, cut_more}

by_same : (next other : List ℕ → List Said) (bytes : List ℕ) (front : Front) → (front ≢ Bad → next (drop (size front) bytes) ≡ other (drop (size front) bytes)) → tokens_by next bytes front ≡ tokens_by other bytes front
by_same next other bytes (Gap n) h = h (λ e. cc)
by_same next other bytes (Found kind n) h = ap (λ ts. record { kind = kind; text = take n bytes } ∷ ts) (h (λ e. cc))
by_same next other bytes Bad h = refl

-- what is behind what was found is shorter
behind_less : (bytes : List ℕ) (n : ℕ) → front_of bytes ≢ Bad → length bytes ≤ suc n → length (drop (size (front_of bytes)) bytes) ≤ n
behind_less bytes n good most =
    let first = (first_found bytes (front_of bytes) refl good).1 in
    let back = length-drop (size (front_of bytes)) bytes in
    omega (arith, first.some, first.fits)

-- As many steps as there are bytes are enough.
within_same : (n m : ℕ) (bytes : List ℕ) → length bytes ≤ n → length bytes ≤ m → tokens_within n bytes ≡ tokens_within m bytes
unfolding tokens_within
within_same zero zero bytes h g = refl
within_same zero (suc m) [] h g = refl
within_same zero (suc m) (b ∷ more) h g = absurd (omega arith)
within_same (suc n) zero [] h g = refl
within_same (suc n) zero (b ∷ more) h g = absurd (omega arith)
within_same (suc n) (suc m) [] h g = refl
within_same (suc n) (suc m) (b ∷ more) h g =
    by_same (λ rest. tokens_within n rest) (λ rest. tokens_within m rest) (b ∷ more) (front_of (b ∷ more)) (λ good.
    within_same n m (drop (size (front_of (b ∷ more))) (b ∷ more)) (behind_less (b ∷ more) n good h) (behind_less (b ∷ more) m good g))

-- a step
ahead_step : (bytes : List ℕ) → 0 < length bytes → tokens_ahead bytes ≡ tokens_by tokens_ahead bytes (front_of bytes)
unfolding tokens_within tokens_ahead
ahead_step [] some = absurd (omega arith)
ahead_step (b ∷ more) some =
    by_same (λ rest. tokens_within (length more) rest) (λ rest. tokens_within (length rest) rest) (b ∷ more) (front_of (b ∷ more)) (λ good.
    let rest = drop (size (front_of (b ∷ more))) (b ∷ more) in
    within_same (length more) (length rest) rest (behind_less (b ∷ more) (length more) good (omega arith)) (omega arith))

pub ahead_front : (bytes : List ℕ) (front : Front) → front ≡ front_of bytes → 0 < length bytes → tokens_ahead bytes ≡ tokens_by tokens_ahead bytes front
ahead_front bytes front e some = ahead_step bytes some ∙ ap (tokens_by tokens_ahead bytes) (sym e)

pub ahead_end : (bytes : List ℕ) → length bytes ≡ 0 → tokens_ahead bytes ≡ []
unfolding tokens_within tokens_ahead
ahead_end [] e = refl
ahead_end (b ∷ more) e = absurd (omega arith)

by_told : (next : List ℕ → List Said) (bytes : List ℕ) (front : Front) → front ≢ Bad → tokens_by next bytes front ≡ told front (take (size front) bytes) ++ next (drop (size front) bytes)
by_told next bytes (Gap n) good = refl
by_told next bytes (Found kind n) good = refl
by_told next bytes Bad good = absurd (good refl)

-- of pieces
ahead_text : (pieces : List Piece) → AllEnd pieces → tokens_ahead (text_of pieces) ≡ said pieces
unfolding said
ahead_text [] h = ahead_end [] refl
ahead_text (piece ∷ more) h =
    let bytes = piece_text piece ++ text_of more in
    let front = front_for piece in
    let is : front_of bytes ≡ front = stands_found piece (text_of more) h.0 in
    let first = (first_found bytes front is (λ bad. never_bad piece bad)).1 in
    let text : take (size front) bytes ≡ piece_text piece = take_at (piece_text piece) (text_of more) (size front) (sym (size_for piece)) in
    let back : drop (size front) bytes ≡ text_of more = drop_at (piece_text piece) (text_of more) (size front) (sym (size_for piece)) in
    ahead_front bytes front (sym is) (omega (arith, first.some, first.fits))
    ∙ by_told tokens_ahead bytes front (λ bad. never_bad piece bad)
    ∙ ap (λ xs. told front xs ++ tokens_ahead (drop (size front) bytes)) text
    ∙ ap (λ xs. told front (piece_text piece) ++ xs) (ap tokens_ahead back ∙ ahead_text more h.1)
    ∙ sym (said_cons piece more)

-- Where bytes have tokens, these are ahead.
pub ahead_tokens : (bytes : List ℕ) (tokens : List Said) → AreTokens bytes tokens → tokens_ahead bytes ≡ tokens
ahead_tokens bytes tokens h = ap tokens_ahead (sym h.cut.joined) ∙ ahead_text h.pieces h.cut.each ∙ h.told

-- the tokens ahead end at a byte that begins no piece
pub record EndsAtNothing (bytes : List ℕ) : Type 0 where
  pub front : List Said
  pub is : tokens_ahead bytes ≡ front ++ nothing ∷ []

whole_step : (bytes : List ℕ) (front : Front) (piece : Piece) → front ≡ front_of bytes → 0 < length bytes → front ≢ Bad → IsFirst bytes front piece → AreTokens (drop (size front) bytes) (tokens_ahead (drop (size front) bytes)) ⊎ EndsAtNothing (drop (size front) bytes) → AreTokens bytes (tokens_ahead bytes) ⊎ EndsAtNothing bytes
whole_step bytes front piece e some good first rest =
    let here : tokens_ahead bytes ≡ told front (take (size front) bytes) ++ tokens_ahead (drop (size front) bytes) = ahead_front bytes front e some ∙ by_told tokens_ahead bytes front good in
    let text : told (front_for piece) (piece_text piece) ≡ told front (take (size front) bytes) = ap (λ f. told f (piece_text piece)) first.is ∙ ap (told front) first.text in
    elim rest [
      | inl h ↦ inl (record {
        pieces = piece ∷ h.pieces;
        cut = cut_more bytes front piece h.pieces first h.cut;
        told = said_cons piece h.pieces ∙ ap (λ xs. xs ++ said h.pieces) text ∙ ap (λ xs. told front (take (size front) bytes) ++ xs) h.told ∙ sym here;
      })
      | inr h ↦ inr (record {
        front = told front (take (size front) bytes) ++ h.front;
        is = here ∙ ap (λ xs. told front (take (size front) bytes) ++ xs) h.is ∙ sym (append_assoc (told front (take (size front) bytes)) h.front (nothing ∷ []));
      })
    ]

whole_within : (n : ℕ) (bytes : List ℕ) → length bytes ≤ n → AreTokens bytes (tokens_ahead bytes) ⊎ EndsAtNothing bytes
unfolding said
whole_within n [] h = inl (record { pieces = []; cut = record { joined = refl; each = tt }; told = sym (ahead_end [] refl) })
whole_within zero (b ∷ more) h = absurd (omega arith)
whole_within (suc n) (b ∷ more) h =
    let bytes = b ∷ more in
    elim (found_stands bytes) [
      | inl bad ↦ inr (record { front = []; is = ahead_front bytes Bad (sym bad) (omega arith) })
      | inr w ↦
          let good : front_of bytes ≢ Bad = λ bad. never_bad w.piece (w.is ∙ bad) in
          let first = first_found bytes (front_of bytes) refl good in
          whole_step bytes (front_of bytes) first.0 refl (omega arith) good first.1 (whole_within n (drop (size (front_of bytes)) bytes) (behind_less bytes n good h))
    ]

-- They are the tokens of the bytes, or end at a byte that begins none.
pub ahead_whole : (bytes : List ℕ) → AreTokens bytes (tokens_ahead bytes) ⊎ EndsAtNothing bytes
ahead_whole bytes = whole_within (length bytes) bytes (omega arith)

form_of_piece : (piece : Piece) (after : List ℕ) (kind : TokenKind) (n : ℕ) (text : List ℕ) → front_for piece ≡ Found kind n → piece_text piece ≡ text → EndsBefore piece after → has_form kind text ≡ true
unfolding EndsBefore
form_of_piece (blank b) after kind n text is same h = absurd (cc)
form_of_piece (line body) after kind n text is same h = absurd (cc)
form_of_piece (block body) after kind n text is same h = absurd (cc)
form_of_piece (token k t) after kind n text is same h =
    let e : k ≡ kind = cc in
    subst (λ j. has_form j text ≡ true) e (subst (λ xs. has_form k xs ≡ true) same h.0)

-- What is found as a token has the form of its kind.
pub found_form : (bytes : List ℕ) (kind : TokenKind) (n : ℕ) → Found kind n ≡ front_of bytes → has_form kind (take n bytes) ≡ true
found_form bytes kind n e =
    let first = first_found bytes (Found kind n) (sym e) (λ bad. cc) in
    form_of_piece first.0 (drop n bytes) kind n (take n bytes) first.1.is first.1.text first.1.stands
