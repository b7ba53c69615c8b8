-- What was read of the bytes, as pieces.
use Rattle.std.proofs.Common.{◌≡◌, ℕ, ◌<◌, ◌-◌, List, [], ◌∷◌, ◌++◌, length, drop, ap, ◌∙◌, sym, subst, arith, append_assoc, append-nil, length-append}
use Rattle.std.proofs.lemmas.List.{drop_at}
use Rattle.eco_tokens.specs.declared.fronts.Front.{Front}
use Rattle.eco_tokens.specs.declared.fronts.Front.TheVariants.{Bad}
use Rattle.eco_tokens.specs.Front.{front_of}
use Rattle.eco_tokens.specs.Pieces.{Piece, piece_text, text_of, EndsBefore}
use Rattle.eco_tokens.specs.Stops.{EndBefore, StopsAt}
use Rattle.eco_tokens.proofs.Heads.{stands_found}
use Rattle.eco_tokens.proofs.Cuts.{IsFirst, size, never_bad}

-- the bytes are pieces, each before what follows it, and then the rest
pub record IsBehind (bytes rest : List ℕ) : Type 0 where
  pub pieces : List Piece
  pub joined : text_of pieces ++ rest ≡ bytes
  pub each : EndBefore pieces rest

-- the text of one piece more
text_push : (pieces : List Piece) (piece : Piece) (after : List ℕ) → text_of (pieces ++ piece ∷ []) ++ after ≡ text_of pieces ++ (piece_text piece ++ after)
text_push [] piece after = ap (λ text. text ++ after) (append-nil (piece_text piece))
text_push (p ∷ pieces) piece after =
    append_assoc (piece_text p) (text_of (pieces ++ piece ∷ [])) after
    ∙ ap (λ text. piece_text p ++ text) (text_push pieces piece after)
    ∙ sym (append_assoc (piece_text p) (text_of pieces) (piece_text piece ++ after))

-- one piece more stands behind the others
stand_push : (pieces : List Piece) (piece : Piece) (rest after : List ℕ) → piece_text piece ++ after ≡ rest → EndsBefore piece after → EndBefore pieces rest → EndBefore (pieces ++ piece ∷ []) after
stand_push [] piece rest after joined stands each = (stands, tt)
stand_push (p ∷ pieces) piece rest after joined stands each =
    let text : text_of pieces ++ rest ≡ text_of (pieces ++ piece ∷ []) ++ after =
    ap (λ xs. text_of pieces ++ xs) (sym joined) ∙ sym (text_push pieces piece after) in
    (subst (EndsBefore p) text each.0, stand_push pieces piece rest after joined stands each.1)

pub behind_step : (bytes rest : List ℕ) (front : Front) (piece : Piece) → IsFirst rest front piece → IsBehind bytes rest → IsBehind bytes (drop (size front) rest)
behind_step bytes rest front piece first behind = record {
  pieces = behind.pieces ++ piece ∷ [];
  joined = text_push behind.pieces piece (drop (size front) rest) ∙ ap (λ xs. text_of behind.pieces ++ xs) first.joined ∙ behind.joined;
  each = stand_push behind.pieces piece rest (drop (size front) rest) first.joined first.stands behind.each;
}

-- where nothing is found in the rest, the bytes stop there
pub stops_here : (bytes rest : List ℕ) (at : ℕ) → IsBehind bytes rest → front_of rest ≡ Bad → 0 < length rest → at ≡ length bytes - length rest → StopsAt bytes at
stops_here bytes rest at behind bad some place =
    let sum : length (text_of behind.pieces) ≡ at =
    (let whole : length (text_of behind.pieces ++ rest) ≡ length bytes = ap length behind.joined in
    let parts = length-append (text_of behind.pieces) rest in
    omega arith) in
    let here : drop at bytes ≡ rest = ap (drop at) (sym behind.joined) ∙ drop_at (text_of behind.pieces) rest at sum in
    record {
      pieces = behind.pieces;
      joined = ap (λ xs. text_of behind.pieces ++ xs) here ∙ behind.joined;
      each = subst (EndBefore behind.pieces) (sym here) behind.each;
      within = (let whole : length (text_of behind.pieces ++ rest) ≡ length bytes = ap length behind.joined in
          let parts = length-append (text_of behind.pieces) rest in
          omega arith);
      none = λ piece after joined stands.
          never_bad piece (sym (stands_found piece after stands) ∙ ap front_of (sym joined) ∙ ap front_of here ∙ bad);
    }
