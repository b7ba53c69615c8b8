-- What holds of the tokens of any bytes.
use Rattle.std.proofs.Common.{◌≡◌, ℕ, ◌+◌, ◌-◌, ◌<◌, ◌≤◌, List, [], ◌∷◌, ◌++◌, map, length, take, drop, refl, ap, ◌∙◌, sym, subst, arith, append_assoc, length-append}
use Rattle.std.specs.Prelude.{true, All}
use Rattle.std.proofs.lemmas.List.Elements.{All-nil, All-cons}
use Rattle.std.proofs.lemmas.List.{take_at, drop_at, get_or-map, length-map}
use Rattle.eco_tokens.specs.declared.Token.{Token}
use Rattle.eco_tokens.specs.declared.fronts.Front.{Front}
use Rattle.eco_tokens.specs.declared.Lexeme.{Lexeme}
use Rattle.eco_tokens.specs.Said.{Said, said_in, said_of}
use Rattle.eco_tokens.specs.Pieces.{Piece, piece_text, text_of, EndsBefore, AllEnd, IsCut}
use Rattle.eco_tokens.specs.Forms.{has_form}
use Rattle.eco_tokens.specs.Pieces.Piece.{blank, line, block, token}
use Rattle.eco_tokens.specs.Tokens.{said, placed, AreTokens, ArePlaces}
use Rattle.eco_tokens.proofs.Heads.{front_for}
use Rattle.eco_tokens.proofs.Cuts.{size, told, Goes, cut_nil, cut_front, cut_goes, never_bad, said_cons, piece_some}

cut_some : (bytes : List ℕ) (piece : Piece) (more : List Piece) → IsCut bytes (piece ∷ more) → 0 < length bytes
cut_some bytes piece more cut =
    let some = piece_some piece (text_of more) cut.each.0 in
    let sum : length bytes ≡ length (piece_text piece) + length (text_of more) = ap length (sym cut.joined) ∙ length-append (piece_text piece) (text_of more) in
    omega arith

said_goes : (bytes : List ℕ) (front : Front) (pieces : List Piece) (g : Goes bytes front pieces) → said pieces ≡ told front (take (size front) bytes) ++ said g.more
said_goes bytes front pieces g =
    ap said g.whole ∙ said_cons g.piece g.more ∙ ap (λ xs. xs ++ said g.more) (ap (λ f. told f (piece_text g.piece)) g.first.is ∙ ap (told front) g.first.text)

-- two cuts of the same bytes say the same
same_said : (bytes : List ℕ) (a b : List Piece) → IsCut bytes a → IsCut bytes b → said a ≡ said b
same_said bytes [] b cut other = ap said (sym (cut_nil b (subst (λ xs. IsCut xs b) (sym cut.joined) other)))
same_said bytes (piece ∷ a) b cut other =
    let front = front_for piece in
    let is = cut_front bytes piece a cut in
    let some = cut_some bytes piece a cut in
    let mine = cut_goes bytes front (piece ∷ a) is some (never_bad piece) cut in
    let its = cut_goes bytes front b is some (never_bad piece) other in
    let rest : mine.more ≡ a = tail_same mine.piece piece mine.more a (sym mine.whole) in
    let more = same_said (drop (size front) bytes) a its.more (subst (IsCut (drop (size front) bytes)) rest mine.cut) its.cut in
    said_goes bytes front (piece ∷ a) mine ∙ ap (λ xs. told front (take (size front) bytes) ++ xs) (ap said rest ∙ more) ∙ sym (said_goes bytes front b its)
  where
    tail_same : (p q : Piece) (xs ys : List Piece) → p ∷ xs ≡ q ∷ ys → xs ≡ ys
    tail_same p q xs ys e = cc

-- Bytes have one list of tokens at most.
pub one_list : (bytes : List ℕ) (a b : List Said) → AreTokens bytes a → AreTokens bytes b → a ≡ b
one_list bytes a b h g = sym h.told ∙ same_said bytes h.pieces g.pieces h.cut g.cut ∙ g.told

said_fits : (pieces : List Piece) → AllEnd pieces → length (said pieces) ≤ length (text_of pieces)
unfolding said
said_fits [] h = omega arith
said_fits (token kind text ∷ pieces) h =
    let rest = said_fits pieces h.1 in
    let some : 0 < length text = piece_some (token kind text) (text_of pieces) h.0 in
    let sum = length-append text (text_of pieces) in
    omega arith
said_fits (blank b ∷ pieces) h = let rest = said_fits pieces h.1 in omega arith
said_fits (line body ∷ pieces) h =
    let rest = said_fits pieces h.1 in
    let sum = length-append body (text_of pieces) in
    omega arith
said_fits (block body ∷ pieces) h =
    let rest = said_fits pieces h.1 in
    let sum = length-append (body ++ 42 ∷ 47 ∷ []) (text_of pieces) in
    omega arith

-- There are no more tokens than bytes.
pub tokens_fit : (bytes : List ℕ) (tokens : List Said) → AreTokens bytes tokens → length tokens ≤ length bytes
tokens_fit bytes tokens h =
    let fits = said_fits h.pieces h.cut.each in
    let many : length (said h.pieces) ≡ length tokens = ap length h.told in
    let long : length (text_of h.pieces) ≡ length bytes = ap length h.cut.joined in
    omega arith

-- Each has a form of its kind.
abbrev HasForm : Said → Type 0
HasForm said = has_form said.kind said.text ≡ true

form_of_said : (pieces : List Piece) → AllEnd pieces → All HasForm (said pieces)
unfolding said EndsBefore
form_of_said [] h = All-nil HasForm
form_of_said (token kind text ∷ pieces) h =
    All-cons HasForm (record { kind = kind; text = text }) (said pieces) h.0.0 (form_of_said pieces h.1)
form_of_said (blank b ∷ pieces) h = form_of_said pieces h.1
form_of_said (line body ∷ pieces) h = form_of_said pieces h.1
form_of_said (block body ∷ pieces) h = form_of_said pieces h.1

-- Each token has the form of its kind.
tokens_have_form : (bytes : List ℕ) (tokens : List Said) → AreTokens bytes tokens → All HasForm tokens
tokens_have_form bytes tokens h = subst (All HasForm) h.told (form_of_said h.pieces h.cut.each)

-- and so have lexemes that say the tokens
pub lexemes_have_form : (bytes : List ℕ) (lexemes : List Lexeme) → AreTokens bytes (map said_of lexemes) → All (λ l. has_form l.kind l.text.now ≡ true) lexemes
lexemes_have_form bytes lexemes h k d below =
    let within : k < length (map said_of lexemes) = subst (λ n. k < n) (sym (length-map lexemes said_of)) below in
    subst HasForm (get_or-map said_of lexemes k d (said_of d) below) (tokens_have_form bytes _ h k (said_of d) within)

texts_after : (front text : List ℕ) (pieces : List Piece) → map (said_in ((front ++ text) ++ text_of pieces)) (placed (length (front ++ text)) pieces) ≡ said pieces → map (said_in (front ++ (text ++ text_of pieces))) (placed (length front + length text) pieces) ≡ said pieces
texts_after front text pieces h =
    ap (λ xs. map (said_in xs) (placed (length front + length text) pieces)) (sym (append_assoc front text (text_of pieces)))
    ∙ ap (λ n. map (said_in ((front ++ text) ++ text_of pieces)) (placed n pieces)) (sym (length-append front text)) ∙ h

-- what stands behind some bytes is read at its places
texts_behind : (front : List ℕ) (pieces : List Piece) → map (said_in (front ++ text_of pieces)) (placed (length front) pieces) ≡ said pieces
unfolding said placed
texts_behind front [] = refl
texts_behind front (token kind text ∷ pieces) =
    let bytes = front ++ (text ++ text_of pieces) in
    let back : drop (length front) bytes ≡ text ++ text_of pieces = drop_at front (text ++ text_of pieces) (length front) refl in
    let count : length front + length text - length front ≡ length text = omega arith in
    let here : take (length front + length text - length front) (drop (length front) bytes) ≡ text =
    ap (λ n. take n (drop (length front) bytes)) count ∙ ap (take (length text)) back ∙ take_at text (text_of pieces) (length text) refl in
    ap (λ t. record { kind = kind; text = t } ∷ map (said_in bytes) (placed (length front + length text) pieces)) here
    ∙ ap (λ xs. record { kind = kind; text = text } ∷ xs) (texts_after front text pieces (texts_behind (front ++ text) pieces))
texts_behind front (blank b ∷ pieces) = texts_after front (b ∷ []) pieces (texts_behind (front ++ b ∷ []) pieces)
texts_behind front (line body ∷ pieces) =
    texts_after front (piece_text (line body)) pieces (texts_behind (front ++ piece_text (line body)) pieces)
texts_behind front (block body ∷ pieces) =
    texts_after front (piece_text (block body)) pieces (texts_behind (front ++ piece_text (block body)) pieces)

-- What stands at a token's place is its text.
pub texts_of_places : (bytes : List ℕ) (tokens : List Token) → ArePlaces bytes tokens → AreTokens bytes (map (said_in bytes) tokens)
texts_of_places bytes tokens h = record {
  pieces = h.pieces;
  cut = h.cut;
  told = sym (texts_behind [] h.pieces) ∙ ap (λ xs. map (said_in xs) (placed 0 h.pieces)) h.cut.joined ∙ ap (map (said_in bytes)) h.told;
}
