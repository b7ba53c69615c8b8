-- A text is cut into pieces in one way, and the lexer's steps go along it.
use Rattle.std.proofs.Common.{◌≡◌, ◌≢◌, ℕ, ◌+◌, ◌<◌, ◌≤◌, List, [], ◌∷◌, ◌++◌, length, take, drop, refl, ap, ◌∙◌, sym, subst, arith, inl, inr, append_assoc, append-nil, length-append}
use Rattle.std.proofs.lemmas.Bool.{false≢true}
use Rattle.std.proofs.lemmas.List.{take_at, drop_at, nil_from_length}
use Rattle.eco_tokens.specs.declared.Token.{Token}
use Rattle.eco_tokens.specs.declared.fronts.Front.{Front}
use Rattle.eco_tokens.specs.declared.fronts.Front.TheVariants.{Gap, Found, Bad}
use Rattle.eco_tokens.specs.Said.{Said}
use Rattle.eco_tokens.specs.Pieces.{Piece, piece_text, text_of, EndsBefore, IsCut}
use Rattle.eco_tokens.specs.Pieces.Piece.{blank, line, block, token}
use Rattle.eco_tokens.specs.Tokens.{said, placed, AreTokens, ArePlaces}
use Rattle.eco_tokens.specs.Front.{front_of}
use Rattle.eco_tokens.proofs.Shapes.{form_not_empty}
use Rattle.eco_tokens.proofs.Heads.{front_for, stands_found, found_stands}

-- how many bytes what was found has
abbrev pub size : Front → ℕ
size (Gap n) = n
size (Found kind n) = n
size Bad = 0

-- what it says
abbrev pub told : Front → List ℕ → List Said
told (Gap n) text = []
told (Found kind n) text = record { kind = kind; text = text } ∷ []
told Bad text = []

-- and where
abbrev pub told_at : Front → ℕ → List Token
told_at (Gap n) at = []
told_at (Found kind n) at = record { kind = kind; start = at; end = at + n } ∷ []
told_at Bad at = []

pub size_for : (piece : Piece) → size (front_for piece) ≡ length (piece_text piece)
size_for (blank b) = refl
size_for (line body) = omega arith
size_for (block body) = let n = length-append body (42 ∷ 47 ∷ []) in omega arith
size_for (token kind text) = refl

pub said_cons : (piece : Piece) (more : List Piece) → said (piece ∷ more) ≡ told (front_for piece) (piece_text piece) ++ said more
unfolding said
said_cons (blank b) more = refl
said_cons (line body) more = refl
said_cons (block body) more = refl
said_cons (token kind text) more = refl

placed_cons : (piece : Piece) (at : ℕ) (more : List Piece) → placed at (piece ∷ more) ≡ told_at (front_for piece) at ++ placed (at + size (front_for piece)) more
unfolding placed
placed_cons (blank b) at more = refl
placed_cons (line body) at more = ap (λ n. placed (at + n) more) (sym (size_for (line body)))
placed_cons (block body) at more = ap (λ n. placed (at + n) more) (sym (size_for (block body)))
placed_cons (token kind text) at more = refl

-- a piece that stands has a byte
pub piece_some : (piece : Piece) (after : List ℕ) → EndsBefore piece after → 0 < length (piece_text piece)
unfolding EndsBefore
piece_some (blank b) after h = omega arith
piece_some (line body) after h = omega arith
piece_some (block body) after h = omega arith
piece_some (token kind []) after h = absurd (false≢true (sym (form_not_empty kind) ∙ h.0))
piece_some (token kind (b ∷ text)) after h = omega arith

-- no bytes are no pieces
pub cut_nil : (pieces : List Piece) → IsCut [] pieces → pieces ≡ []
cut_nil [] cut = refl
cut_nil (piece ∷ more) cut =
    let some = piece_some piece (text_of more) cut.each.0 in
    let all : length (piece_text piece ++ text_of more) ≡ 0 = ap length cut.joined in
    let sum = length-append (piece_text piece) (text_of more) in
    absurd (omega arith)

-- the first piece is found
pub cut_front : (rest : List ℕ) (piece : Piece) (more : List Piece) → IsCut rest (piece ∷ more) → front_of rest ≡ front_for piece
cut_front rest piece more cut = ap front_of (sym cut.joined) ∙ stands_found piece (text_of more) cut.each.0

pub never_bad : (piece : Piece) → front_for piece ≡ Bad → ⊥
never_bad (blank b) h = absurd (cc)
never_bad (line body) h = absurd (cc)
never_bad (block body) h = absurd (cc)
never_bad (token kind text) h = absurd (cc)

-- where nothing is found, there are no pieces
cut_bad : (rest : List ℕ) (pieces : List Piece) → front_of rest ≡ Bad → 0 < length rest → IsCut rest pieces → ⊥
cut_bad rest [] bad some cut =
    let none : length rest ≡ 0 = ap length (sym cut.joined) in
    absurd (omega arith)
cut_bad rest (piece ∷ more) bad some cut = never_bad piece (sym (cut_front rest piece more cut) ∙ bad)

-- What was found is the first piece of every cut, and what is left is cut as the other pieces.
pub record IsFirst (rest : List ℕ) (front : Front) (piece : Piece) : Type 0 where
  pub is : front_for piece ≡ front
  pub text : piece_text piece ≡ take (size front) rest
  pub joined : piece_text piece ++ drop (size front) rest ≡ rest
  pub stands : EndsBefore piece (drop (size front) rest)
  pub some : 0 < size front
  pub fits : size front ≤ length rest

first_from : (rest : List ℕ) (front : Front) (piece : Piece) (after : List ℕ) → rest ≡ piece_text piece ++ after → EndsBefore piece after → front_for piece ≡ front → IsFirst rest front piece
first_from rest front piece after joined stands is =
    let n : length (piece_text piece) ≡ size front = sym (size_for piece) ∙ ap size is in
    let front_text : take (size front) rest ≡ piece_text piece = ap (take (size front)) joined ∙ take_at (piece_text piece) after (size front) n in
    let back : drop (size front) rest ≡ after = ap (drop (size front)) joined ∙ drop_at (piece_text piece) after (size front) n in
    let some = piece_some piece after stands in
    let sum : length rest ≡ length (piece_text piece) + length after = ap length joined ∙ length-append (piece_text piece) after in
    record {
      is = is;
      text = sym front_text;
      joined = ap (λ xs. piece_text piece ++ xs) back ∙ sym joined;
      stands = subst (EndsBefore piece) (sym back) stands;
      some = omega arith;
      fits = omega arith;
    }

pub first_found : (rest : List ℕ) (front : Front) → front_of rest ≡ front → front ≢ Bad → (piece : Piece) × IsFirst rest front piece
first_found rest front e good =
    elim (found_stands rest) [
      | inl bad ↦ absurd (good (sym e ∙ bad))
      | inr w ↦ (w.piece, first_from rest front w.piece w.after w.joined w.stands (w.is ∙ e))
    ]

-- a cut of what is left goes on from the first piece
pub cut_more : (rest : List ℕ) (front : Front) (piece : Piece) (more : List Piece) → IsFirst rest front piece → IsCut (drop (size front) rest) more → IsCut rest (piece ∷ more)
cut_more rest front piece more first cut = record {
  joined = ap (λ xs. piece_text piece ++ xs) cut.joined ∙ first.joined;
  each = (subst (EndsBefore piece) (sym cut.joined) first.stands, cut.each);
}

-- a cut begins with a piece that gives what was found
pub record Goes (rest : List ℕ) (front : Front) (pieces : List Piece) : Type 0 where
  pub piece : Piece
  pub more : List Piece
  pub whole : pieces ≡ piece ∷ more
  pub first : IsFirst rest front piece
  pub cut : IsCut (drop (size front) rest) more

pub cut_goes : (rest : List ℕ) (front : Front) (pieces : List Piece) → front_of rest ≡ front → 0 < length rest → front ≢ Bad → IsCut rest pieces → Goes rest front pieces
cut_goes rest front [] e some good cut = let none : length rest ≡ 0 = ap length (sym cut.joined) in absurd (omega arith)
cut_goes rest front (piece ∷ more) e some good cut =
    let is : front_for piece ≡ front = sym (cut_front rest piece more cut) ∙ e in
    let first = first_from rest front piece (text_of more) (sym cut.joined) cut.each.0 is in
    let n : length (piece_text piece) ≡ size front = sym (size_for piece) ∙ ap size is in
    let back : drop (size front) rest ≡ text_of more = ap (drop (size front)) (sym cut.joined) ∙ drop_at (piece_text piece) (text_of more) (size front) n in
    record { piece = piece; more = more; whole = refl; first = first; cut = record { joined = sym back; each = cut.each.1 } }

-- The pieces of all the bytes say what was read, and then what these do.
pub record Continues (at : ℕ) (out : List Said) (places : List Token) (pieces more : List Piece) : Type 0 where
  pub words : said pieces ≡ out ++ said more
  pub spots : placed 0 pieces ≡ places ++ placed at more

-- From the bytes the rest is reached, with what was read, whichever way the rest is cut.
pub record Reaches (bytes rest : List ℕ) (at : ℕ) (out : List Said) (places : List Token) : Type 0 where
  pub again : (more : List Piece) → IsCut rest more → (pieces : List Piece) × (IsCut bytes pieces × Continues at out places pieces more)
  pub only : (pieces : List Piece) → IsCut bytes pieces → (more : List Piece) × (IsCut rest more × Continues at out places pieces more)

continues_step : (rest : List ℕ) (front : Front) (at : ℕ) (out : List Said) (places : List Token) (pieces : List Piece) (piece : Piece) (more : List Piece) → IsFirst rest front piece → Continues at out places pieces (piece ∷ more) → Continues (at + size front) (out ++ told front (take (size front) rest)) (places ++ told_at front at) pieces more
continues_step rest front at out places pieces piece more first h =
    let words : told (front_for piece) (piece_text piece) ≡ told front (take (size front) rest) = ap (λ f. told f (piece_text piece)) first.is ∙ ap (told front) first.text in
    record {
      words = h.words ∙ ap (λ xs. out ++ xs) (said_cons piece more ∙ ap (λ xs. xs ++ said more) words) ∙ sym (append_assoc out _ (said more));
      spots = h.spots ∙ ap (λ xs. places ++ xs) (placed_cons piece at more ∙ ap (λ f. told_at f at ++ placed (at + size f) more) first.is) ∙ sym (append_assoc places _ (placed (at + size front) more));
    }

-- one step further
pub reaches_step : (bytes rest : List ℕ) (at : ℕ) (out : List Said) (places : List Token) (front : Front) → Reaches bytes rest at out places → front_of rest ≡ front → 0 < length rest → front ≢ Bad → Reaches bytes (drop (size front) rest) (at + size front) (out ++ told front (take (size front) rest)) (places ++ told_at front at)
reaches_step bytes rest at out places front r e some good =
    let here = first_found rest front e good in
    record {
      again = λ more cut.
          let w = r.again (here.0 ∷ more) (cut_more rest front here.0 more here.1 cut) in
          (w.0, (w.1.0, continues_step rest front at out places w.0 here.0 more here.1 w.1.1));
      only = λ pieces cut.
          let w = r.only pieces cut in
          let g = cut_goes rest front w.0 e some good w.1.0 in
          (g.more, (g.cut, continues_step rest front at out places pieces g.piece g.more g.first (subst (Continues at out places pieces) g.whole w.1.1)));
    }

-- at the end all is read, in the one way
pub tokens_at_end : (bytes rest : List ℕ) (at : ℕ) (out : List Said) (places : List Token) → Reaches bytes rest at out places → length rest ≡ 0 → AreTokens bytes out × ((y : List Said) → AreTokens bytes y → y ≡ out)
unfolding said
tokens_at_end bytes rest at out places r none =
    let empty : rest ≡ [] = nil_from_length rest none in
    let w = r.again [] (record { joined = sym empty; each = tt }) in (
      record { pieces = w.0; cut = w.1.0; told = w.1.1.words ∙ append-nil out },
      λ y h.
          let v = r.only h.pieces h.cut in
          let last : v.0 ≡ [] = cut_nil v.0 (subst (λ xs. IsCut xs v.0) empty v.1.0) in
          sym h.told ∙ v.1.1.words ∙ ap (λ ps. out ++ said ps) last ∙ append-nil out,
    )

pub places_at_end : (bytes rest : List ℕ) (at : ℕ) (out : List Said) (places : List Token) → Reaches bytes rest at out places → length rest ≡ 0 → ArePlaces bytes places × ((y : List Token) → ArePlaces bytes y → y ≡ places)
unfolding placed
places_at_end bytes rest at out places r none =
    let empty : rest ≡ [] = nil_from_length rest none in
    let w = r.again [] (record { joined = sym empty; each = tt }) in (
      record { pieces = w.0; cut = w.1.0; told = w.1.1.spots ∙ append-nil places },
      λ y h.
          let v = r.only h.pieces h.cut in
          let last : v.0 ≡ [] = cut_nil v.0 (subst (λ xs. IsCut xs v.0) empty v.1.0) in
          sym h.told ∙ v.1.1.spots ∙ ap (λ ps. places ++ placed at ps) last ∙ append-nil places,
    )

-- where nothing is found in the rest, the bytes have no tokens
pub no_cut : (bytes rest : List ℕ) (at : ℕ) (out : List Said) (places : List Token) → Reaches bytes rest at out places → front_of rest ≡ Bad → 0 < length rest → (pieces : List Piece) → IsCut bytes pieces → ⊥
no_cut bytes rest at out places r bad some pieces cut =
    let v = r.only pieces cut in
    cut_bad rest v.0 bad some v.1.0
