-- What is known of a graph's nodes and their forms: as the graph grows, and as more becomes known.
use Rattle.std.proofs.Common.{◌≡◌, ◌≤◌, ℕ, List, [], ◌∷◌, ◌++◌, length, sym, subst}
use Rattle.std.specs.List.{All}
use Rattle.std.proofs.lemmas.List.Elements.{All-append, All-nil, All-cons}
use Rattle.eco_lists.proofs.Places.{All_at, All_from_places}
use Rattle.eco_aig.specs.declared.edge.Edge.{Edge}
use Rattle.eco_aig.specs.declared.node.Node.{Node}
use Rattle.eco_aig.specs.Graph.{Grows}
use Rattle.eco_aig.proofs.Growing.{value_stays}
use Rattle.eco_aig.proofs.Standing.{swept_grows}
use Rattle.eco_affine.specs.declared.atoms.Form.{Form}
use Rattle.eco_affine.specs.Forms.{parity, IsForm, AreForms, Known, IsFormed}

-- forms stay forms where the graph grows
pub forms_grow : (old new : List Node) (most : ℕ) (forms : List Form) → Grows old new most → AreForms old forms → AreForms new forms
forms_grow old new most forms grows are = record {
  each = All_from_places (IsForm new) forms (λ k form at. value_stays old new most form.edge (λ w. parity w form.atoms.items) grows (All_at (IsForm old) forms k form are.each at));
}

-- what is known stays known where the graph grows
pub formed_grows : (old new : List Node) (most : ℕ) (known : Known) → Grows old new most → IsFormed old known → IsFormed new known
formed_grows old new most known grows formed =
    record { swept = swept_grows old new most known.map grows formed.swept; forms = forms_grow old new most known.forms grows formed.forms; short = formed.short }

-- one more form, of which the same holds
all_push : (P : Form → Type 0) (forms all : List Form) (form : Form) → All P forms → P form → all ≡ forms ++ form ∷ [] → All P all
all_push P forms all form each is behind = subst (All P) (sym behind) (All-append P forms (form ∷ []) each (All-cons P form [] is (All-nil P)))

-- one more form is kept
pub formed_push : (nodes : List Node) (map : List Edge) (limit : ℕ) (forms all : List Form) (form : Form) → IsFormed nodes (record { map = map; forms = forms; limit = limit }) →
    IsForm nodes form → length form.atoms.items ≤ limit → all ≡ forms ++ form ∷ [] → IsFormed nodes (record { map = map; forms = all; limit = limit })
formed_push nodes map limit forms all form formed is few behind = record {
  swept = formed.swept;
  forms = record { each = all_push (IsForm nodes) forms all form formed.forms.each is behind };
  short = record { each = all_push (λ form. length form.atoms.items ≤ limit) forms all form formed.short.each few behind };
}
