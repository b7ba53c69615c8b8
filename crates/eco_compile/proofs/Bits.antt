-- Maps that have the bits of edges.
use Rattle.std.proofs.Common.{◌≡◌, ℕ, Bool, List, [], ◌∷◌, ◌++◌, length, map, refl, sym, ◌∙◌, arith}
use Rattle.eco_meaning.specs.Circuit.{Values, AgreeOn}
use Rattle.eco_aig.specs.declared.edge.Edge.{Edge}
use Rattle.eco_aig.specs.Edges.{value_of, bits_of}

-- bits of two lists one behind the other are those of each
pub split_bits : (v : Values) (w : ℕ → Bool) (first second : List (List ℕ)) (edges others : List Edge) → length edges ≡ length first → map v (first ++ second) ≡ bits_of w (edges ++ others) → (map v first ≡ bits_of w edges) × (map v second ≡ bits_of w others)
split_bits v w [] second [] others len same = (refl, same)
split_bits v w [] second (e ∷ edges) others len same = absurd (omega arith)
split_bits v w (name ∷ first) second [] others len same = absurd (omega arith)
split_bits v w (name ∷ first) second (e ∷ edges) others len same =
    let head : v name ≡ value_of w e = cc same in
    let tail : map v (first ++ second) ≡ bits_of w (edges ++ others) = cc same in
    let rest = split_bits v w first second edges others (omega arith) tail in
    (cc (head, rest.0), rest.1)

-- maps that agree with one agree with each other
pub agree_through : (list : List (List ℕ)) (v u s : Values) → AgreeOn list v u → AgreeOn list v s → AgreeOn list u s
agree_through list v u s first second name c = sym (first name c) ∙ second name c
