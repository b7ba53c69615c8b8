-- The lexer's loop.
use Rattle.std.proofs.Common.{◌≡◌, ◌≢◌, ℕ, ◌+◌, ◌-◌, ◌<◌, ◌≤◌, List, [], ◌∷◌, ◌++◌, map, length, take, drop, All, ap, ◌∙◌, sym, subst, arith, append-nil, length-drop}
use Rattle.std.proofs.lemmas.List.{length-take-le, map-append}
use Rattle.std.proofs.lemmas.List.Elements.{All-push}
use Rattle.eco_tokens.specs.declared.Lexeme.{Lexeme}
use Rattle.eco_tokens.specs.Said.{said_of, token_of}
use Rattle.eco_tokens.specs.Front.{front_of}
use Rattle.eco_tokens.specs.declared.fronts.Front.TheVariants.{Gap, Found, Bad}
use Rattle.eco_tokens.specs.declared.TokenKind.{TokenKind}
use Rattle.eco_tokens.proofs.Cuts.{Reaches, first_found, reaches_step}
use Rattle.eco_tokens.proofs.Behind.{IsBehind, behind_step}

-- the lexemes are what was read of the bytes up to the rest
pub record IsRead (bytes rest : List ℕ) (lexemes : List Lexeme) : Type 0 where
  pub reached : Reaches bytes rest (length bytes - length rest) (map said_of lexemes) (map token_of lexemes)
  pub shorter : length rest ≤ length bytes
  pub behind : IsBehind bytes rest
  pub within : All (λ l. l.start + length l.text.now ≤ length bytes) lexemes

gap_good : (n : ℕ) → Gap n ≢ Bad
gap_good n h = cc

found_good : (kind : TokenKind) (n : ℕ) → Found kind n ≢ Bad
found_good kind n h = cc

-- what was found has a byte at least, and fits
pub gap_fits : (rest : List ℕ) (n : ℕ) → Gap n ≡ front_of rest → (0 < n) × (n ≤ length rest)
gap_fits rest n e = let w = first_found rest (Gap n) (sym e) (gap_good n) in (w.1.some, w.1.fits)

pub found_fits : (rest : List ℕ) (kind : TokenKind) (n : ℕ) → Found kind n ≡ front_of rest → (0 < n) × (n ≤ length rest)
found_fits rest kind n e = let w = first_found rest (Found kind n) (sym e) (found_good kind n) in (w.1.some, w.1.fits)

-- past white space or a comment
pub read_gap : (bytes rest after : List ℕ) (lexemes : List Lexeme) (n : ℕ) → IsRead bytes rest lexemes → Gap n ≡ front_of rest → 0 < length rest → after ≡ drop n rest → IsRead bytes after lexemes
read_gap bytes rest after lexemes n r e some is =
    let fits = gap_fits rest n e in
    let first = first_found rest (Gap n) (sym e) (gap_good n) in
    let shorter = r.shorter in
    let back : length after ≡ length rest - n = ap length is ∙ length-drop n rest in
    let step = reaches_step bytes rest (length bytes - length rest) (map said_of lexemes) (map token_of lexemes) (Gap n) r.reached (sym e) some (gap_good n) in
    let words = subst (λ xs. Reaches bytes (drop n rest) (length bytes - length rest + n) xs (map token_of lexemes ++ [])) (append-nil (map said_of lexemes)) step in
    let places = subst (λ xs. Reaches bytes (drop n rest) (length bytes - length rest + n) (map said_of lexemes) xs) (append-nil (map token_of lexemes)) words in
    let at : length bytes - length rest + n ≡ length bytes - length after = omega arith in
    record {
      reached = subst (λ xs. Reaches bytes xs (length bytes - length after) (map said_of lexemes) (map token_of lexemes)) (sym is) (subst (λ m. Reaches bytes (drop n rest) m (map said_of lexemes) (map token_of lexemes)) at places);
      shorter = omega arith;
      behind = subst (IsBehind bytes) (sym is) (behind_step bytes rest (Gap n) first.0 first.1 r.behind);
      within = r.within;
    }

said_same : (lexeme : Lexeme) (kind : TokenKind) (text : List ℕ) → lexeme.kind ≡ kind → lexeme.text.now ≡ text → record { kind = kind; text = text } ≡ said_of lexeme
said_same lexeme kind text e f = cc

token_same : (lexeme : Lexeme) (kind : TokenKind) (start n : ℕ) → lexeme.kind ≡ kind → lexeme.start ≡ start → length lexeme.text.now ≡ n → record { kind = kind; start = start; end = start + n } ≡ token_of lexeme
token_same lexeme kind start n e f g = cc

-- past a token
pub read_found : (bytes rest after : List ℕ) (lexemes more : List Lexeme) (lexeme : Lexeme) (kind : TokenKind) (n : ℕ) → IsRead bytes rest lexemes → Found kind n ≡ front_of rest → 0 < length rest → after ≡ drop n rest → more ≡ lexemes ++ lexeme ∷ [] → lexeme.kind ≡ kind → lexeme.text.now ≡ take n rest → lexeme.start ≡ length bytes - length rest → IsRead bytes after more
read_found bytes rest after lexemes more lexeme kind n r e some is pushed same text start =
    let fits = found_fits rest kind n e in
    let first = first_found rest (Found kind n) (sym e) (found_good kind n) in
    let shorter = r.shorter in
    let back : length after ≡ length rest - n = ap length is ∙ length-drop n rest in
    let size_text : length lexeme.text.now ≡ n = ap length text ∙ length-take-le n rest fits.1 in
    let step = reaches_step bytes rest (length bytes - length rest) (map said_of lexemes) (map token_of lexemes) (Found kind n) r.reached (sym e) some (found_good kind n) in
    let word : record { kind = kind; text = take n rest } ≡ said_of lexeme = said_same lexeme kind _ same text in
    let place : record { kind = kind; start = length bytes - length rest; end = length bytes - length rest + n } ≡ token_of lexeme = token_same lexeme kind _ n same start size_text in
    let words : map said_of lexemes ++ record { kind = kind; text = take n rest } ∷ [] ≡ map said_of more =
    ap (λ w. map said_of lexemes ++ w ∷ []) word ∙ sym (map-append said_of lexemes (lexeme ∷ [])) ∙ ap (map said_of) (sym pushed) in
    let places : map token_of lexemes ++ record { kind = kind; start = length bytes - length rest; end = length bytes - length rest + n } ∷ [] ≡ map token_of more =
    ap (λ w. map token_of lexemes ++ w ∷ []) place ∙ sym (map-append token_of lexemes (lexeme ∷ [])) ∙ ap (map token_of) (sym pushed) in
    let at : length bytes - length rest + n ≡ length bytes - length after = omega arith in
    record {
      reached = subst (λ xs. Reaches bytes after (length bytes - length after) xs (map token_of more)) words
          (subst (λ xs. Reaches bytes after (length bytes - length after) (map said_of lexemes ++ record { kind = kind; text = take n rest } ∷ []) xs) places
          (subst (λ m. Reaches bytes after m (map said_of lexemes ++ record { kind = kind; text = take n rest } ∷ []) (map token_of lexemes ++ record { kind = kind; start = length bytes - length rest; end = length bytes - length rest + n } ∷ [])) at
          (subst (λ xs. Reaches bytes xs (length bytes - length rest + n) (map said_of lexemes ++ record { kind = kind; text = take n rest } ∷ []) (map token_of lexemes ++ record { kind = kind; start = length bytes - length rest; end = length bytes - length rest + n } ∷ [])) (sym is) step)));
      shorter = omega arith;
      behind = subst (IsBehind bytes) (sym is) (behind_step bytes rest (Found kind n) first.0 first.1 r.behind);
      within = subst (All (λ l. l.start + length l.text.now ≤ length bytes)) (sym pushed) (All-push (λ l. l.start + length l.text.now ≤ length bytes) lexemes lexeme r.within (omega arith));
    }
