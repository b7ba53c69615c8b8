-- The lines of the pieces between line feeds.
use Rattle.std.proofs.Common.{Bor, ◌≡◌, ℕ, suc, ◌-◌, ◌≤◌, List, [], ◌∷◌, ◌++◌, length, get_or, take, map, refl, ap, ◌∙◌, arith}
use Rattle.std.specs.Str.Lines.{lines_of_parts, strip_carriage_return}
use Rattle.eco_aiger.specs.Parts.{unended}

-- all pieces but the last are lines without their carriage return, and the last is one where it isn't empty
pub pieces_lines : (pieces : List (Bor (List ℕ))) (d : Bor (List ℕ)) → 1 ≤ length pieces → map (λ piece. strip_carriage_return piece.now) (take (length pieces - 1) pieces) ++ unended (get_or pieces (length pieces - 1) d).now ≡ lines_of_parts (map (λ piece. piece.now) pieces)
pieces_lines [] d some = absurd (omega arith)
pieces_lines (p ∷ []) d some = refl
pieces_lines (p ∷ q ∷ more) d some =
    let e : length (p ∷ q ∷ more) - 1 ≡ suc (length (q ∷ more) - 1) = omega arith in
    ap (λ j. map (λ (piece : Bor (List ℕ)). strip_carriage_return piece.now) (take j (p ∷ q ∷ more)) ++ unended (get_or (p ∷ q ∷ more) j d).now) e
    ∙ ap (λ rows. strip_carriage_return p.now ∷ rows) (pieces_lines (q ∷ more) d (omega arith))

-- the same of what the reader adds
pub pieces_found : (old new pieces : List (Bor (List ℕ))) (d : Bor (List ℕ)) → 1 ≤ length pieces → map (λ line. line.now) new ≡ map (λ line. line.now) old ++ unended (get_or pieces (length pieces - 1) d).now → map (λ line. line.now) old ≡ map (λ piece. strip_carriage_return piece.now) (take (length pieces - 1) pieces) → map (λ line. line.now) new ≡ lines_of_parts (map (λ piece. piece.now) pieces)
pieces_found old new pieces d some added ended =
    added ∙ ap (λ rows. rows ++ unended (get_or pieces (length pieces - 1) d).now) ended ∙ pieces_lines pieces d some
