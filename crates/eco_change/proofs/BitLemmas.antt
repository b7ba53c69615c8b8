-- Bits of names.
use Rattle.std.proofs.Common.{◌≡◌, cond, ℕ, Bool, false, List, [], ◌∷◌, refl, ◌∙◌, ap}
use Rattle.std.specs.Str.{bytes_eq}
use Rattle.eco_lists.proofs.Tests.{neither}
use Rattle.eco_meaning.specs.Names.{has}
use Rattle.eco_netlist.specs.Netlists.{bit_of}

-- a name that isn't in the list has the bit 0
pub bit_of_none : (list : List (List ℕ)) (bits : List Bool) (name : List ℕ) → has list name ≡ false → bit_of list bits name ≡ false
bit_of_none [] bits name none = refl
bit_of_none (first ∷ list) [] name none = refl
bit_of_none (first ∷ list) (bit ∷ bits) name none =
    let parts = neither (bytes_eq name first) (has list name) none in
    ap (λ (b : Bool). cond b bit (bit_of list bits name)) parts.0 ∙ bit_of_none list bits name parts.1
