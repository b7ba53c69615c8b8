-- What a writer writes is read back: the tokens of printed cells are the cells' tokens.
use Rattle.std.proofs.Common.{◌≡◌, ℕ, true, ◌||◌, List, [], ◌∷◌, ◌++◌, map, refl, ap, ◌∙◌, sym, subst, inl, inr, append_assoc}
use Rattle.std.specs.List.{list_all, flat_map, AllByRecursion}
use Rattle.std.proofs.lemmas.List.Concat.{flat_map-cons}
use Rattle.std.proofs.lemmas.Bool.{false≢true}
use Rattle.eco_meaning.specs.Names.{is_printing}
use Rattle.eco_lists.proofs.Tests.{both}
use Rattle.eco_tokens.specs.declared.TokenKind.{TokenKind}
use Rattle.eco_tokens.specs.declared.TokenKind.TheVariants.{Simple, Word, Escaped, Constant, Mark}
use Rattle.eco_tokens.specs.Bytes.{is_blank, is_later, is_separator, is_pair}
use Rattle.eco_tokens.specs.Forms.{has_form}
use Rattle.eco_tokens.specs.Pieces.{Piece, text_of, IsLongest, EndsBefore, AllEnd}
use Rattle.eco_tokens.specs.Pieces.Piece.{blank, token}
use Rattle.eco_tokens.specs.Tokens.{said, AreTokens}
use Rattle.eco_tokens.specs.Cells.{Cell, said_by, printed, is_spaced, is_closed, is_mark_kind, is_mark_next, is_parted, is_alone, ArePrinted, ends_closed}
use Rattle.eco_tokens.proofs.Runs.{StopsAt}
use Rattle.eco_tokens.proofs.Classes.{blank_no_later, blank_no_printing, mark_no_later, separator_mark, separator_no_pair}
use Rattle.eco_tokens.proofs.Shapes.{form_not_empty, simple_parts, simple_of_simple, simple_of_word, escaped_parts, constant_text, mark_parts, longest_mark, longest_name, longest_escaped, longest_constant}

-- the pieces of cells
pieces_of : List Cell → List Piece
pieces_of [] = []
pieces_of (cell ∷ cells) = token cell.kind cell.text ∷ map blank cell.space ++ pieces_of cells

blanks_text : (space : List ℕ) (more : List Piece) → text_of (map blank space ++ more) ≡ space ++ text_of more
blanks_text [] more = refl
blanks_text (b ∷ space) more = ap (λ xs. b ∷ xs) (blanks_text space more)

blanks_said : (space : List ℕ) (more : List Piece) → said (map blank space ++ more) ≡ said more
unfolding said
blanks_said [] more = refl
blanks_said (b ∷ space) more = blanks_said space more

blanks_stand : (space : List ℕ) (more : List Piece) → list_all is_blank space ≡ true → AllEnd more → AllEnd (map blank space ++ more)
unfolding EndsBefore
blanks_stand [] more all stand = stand
blanks_stand (b ∷ space) more all stand =
    let parts = both (is_blank b) (list_all is_blank space) all in
    (parts.0, blanks_stand space more parts.1 stand)

text_joined : (cells : List Cell) → text_of (pieces_of cells) ≡ printed cells
unfolding pieces_of
text_joined [] = refl
text_joined (cell ∷ cells) =
    ap (λ xs. cell.text ++ xs) (blanks_text cell.space (pieces_of cells) ∙ ap (λ xs. cell.space ++ xs) (text_joined cells))

said_joined : (cells : List Cell) → said (pieces_of cells) ≡ map said_by cells
unfolding pieces_of said
said_joined [] = refl
said_joined (cell ∷ cells) = ap (λ xs. said_by cell ∷ xs) (blanks_said cell.space (pieces_of cells) ∙ said_joined cells)

-- what a token of this kind ends before
Ends : TokenKind → List ℕ → Type 0
Ends Simple after = StopsAt is_later after
Ends Word after = StopsAt is_later after
Ends Escaped after = StopsAt is_printing after
Ends Constant after = Unit {0}
Ends Mark after = Unit {0}

-- a separator makes no pair
separator_stops : (b : ℕ) (after : List ℕ) → is_separator b ≡ true → StopsAt (is_pair b) after
separator_stops b [] h = tt
separator_stops b (c ∷ after) h = separator_no_pair c b h

longest_separator : (b : ℕ) (text after : List ℕ) → has_form Mark (b ∷ text) ≡ true → is_alone Mark (b ∷ text) ≡ true → IsLongest (b ∷ text) after
unfolding is_alone
longest_separator b text after form alone =
    let first : is_separator b ≡ true = (both (is_separator b) (list_all is_separator text) alone).0 in
    elim (mark_parts b text form).1 [
      | inl none ↦ subst (λ xs. IsLongest (b ∷ xs) after) (sym none) (longest_mark b after (separator_mark b first) (separator_stops b after first))
      | inr pair ↦ absurd (false≢true (sym (separator_no_pair pair.0 b first) ∙ pair.2))
    ]

longest_of : (kind : TokenKind) (text after : List ℕ) → has_form kind text ≡ true → is_alone kind text ≡ true → Ends kind after → IsLongest text after
unfolding Ends
longest_of kind [] after form alone ends = absurd (false≢true (sym (form_not_empty kind) ∙ form))
longest_of Simple (b ∷ text) after form alone ends =
    longest_name b text after (simple_parts b text (simple_of_simple _ form).0).0 ends
longest_of Word (b ∷ text) after form alone ends =
    longest_name b text after (simple_parts b text (simple_of_word _ form).0).0 ends
longest_of Escaped (b ∷ text) after form alone ends =
    subst (λ c. IsLongest (c ∷ text) after) (sym (escaped_parts b text form).0) (longest_escaped text after ends)
longest_of Constant (b ∷ text) after form alone ends =
    elim (constant_text (b ∷ text) form) [
      | inl e ↦ subst (λ xs. IsLongest xs after) (sym e) (longest_constant (39 ∷ 98 ∷ 48 ∷ []) after refl)
      | inr e ↦ subst (λ xs. IsLongest xs after) (sym e) (longest_constant (39 ∷ 98 ∷ 49 ∷ []) after refl)
    ]
longest_of Mark (b ∷ text) after form alone ends = longest_separator b text after form alone

mark_begins : (kind : TokenKind) (text more : List ℕ) → is_mark_kind kind ≡ true → has_form kind text ≡ true → StopsAt is_later (text ++ more)
mark_begins Simple text more e form = absurd (false≢true e)
mark_begins Word text more e form = absurd (false≢true e)
mark_begins Escaped text more e form = absurd (false≢true e)
mark_begins Constant text more e form = absurd (false≢true e)
mark_begins Mark [] more e form = absurd (false≢true (sym (form_not_empty Mark) ∙ form))
mark_begins Mark (b ∷ text) more e form = mark_no_later b (mark_parts b text form).0

next_stops : (cells : List Cell) → is_mark_next cells ≡ true → ArePrinted cells → StopsAt is_later (printed cells)
unfolding is_mark_next
next_stops [] e h = tt
next_stops (cell ∷ cells) e h = mark_begins cell.kind cell.text (cell.space ++ printed cells) e h.0.form

name_ends : (space : List ℕ) (cells : List Cell) → list_all is_blank space ≡ true → (is_spaced space || is_mark_next cells) ≡ true → ArePrinted cells → StopsAt is_later (space ++ printed cells)
name_ends [] cells all e h = next_stops cells e h
name_ends (b ∷ space) cells all e h = blank_no_later b (both (is_blank b) (list_all is_blank space) all).0

escape_ends : (space more : List ℕ) → list_all is_blank space ≡ true → is_spaced space ≡ true → StopsAt is_printing (space ++ more)
escape_ends [] more all e = absurd (false≢true e)
escape_ends (b ∷ space) more all e = blank_no_printing b (both (is_blank b) (list_all is_blank space) all).0

ends_of : (kind : TokenKind) (space : List ℕ) (cells : List Cell) → list_all is_blank space ≡ true → is_parted kind space cells ≡ true → ArePrinted cells → Ends kind (space ++ printed cells)
unfolding Ends is_parted
ends_of Simple space cells all e h = name_ends space cells all e h
ends_of Word space cells all e h = name_ends space cells all e h
ends_of Escaped space cells all e h = escape_ends space (printed cells) all e
ends_of Constant space cells all e h = tt
ends_of Mark space cells all e h = tt

all_stand : (cells : List Cell) → ArePrinted cells → AllEnd (pieces_of cells)
unfolding pieces_of EndsBefore
all_stand [] h = tt
all_stand (cell ∷ cells) h =
    let longest = longest_of cell.kind cell.text (cell.space ++ printed cells) h.0.form h.0.alone (ends_of cell.kind cell.space cells h.0.space h.1 h.2) in
    let after : text_of (map blank cell.space ++ pieces_of cells) ≡ cell.space ++ printed cells = blanks_text cell.space (pieces_of cells) ∙ ap (λ xs. cell.space ++ xs) (text_joined cells) in
    ((h.0.form, subst (IsLongest cell.text) (sym after) longest), blanks_stand cell.space (pieces_of cells) h.0.space (all_stand cells h.2))

-- The tokens of what is printed are the cells' tokens.
pub printed_tokens : (cells : List Cell) → ArePrinted cells → AreTokens (printed cells) (map said_by cells)
printed_tokens cells h = record {
  pieces = pieces_of cells;
  cut = record { joined = text_joined cells; each = all_stand cells h };
  told = said_joined cells;
}

-- cells are printed one after another
pub printed-append : (first second : List Cell) → printed (first ++ second) ≡ printed first ++ printed second
printed-append [] second = refl
printed-append (cell ∷ first) second =
    ap (λ xs. cell.text ++ (cell.space ++ xs)) (printed-append first second)
    ∙ ap (λ xs. cell.text ++ xs) (sym (append_assoc cell.space (printed first) (printed second)))
    ∙ sym (append_assoc cell.text (cell.space ++ printed first) (printed second))

closed_parted : (kind : TokenKind) (space : List ℕ) (next : List Cell) → is_closed kind space ≡ true → is_parted kind space next ≡ true
unfolding is_closed is_parted
closed_parted Simple space next e = rw e refl
closed_parted Word space next e = rw e refl
closed_parted Escaped space next e = e
closed_parted Constant space next e = refl
closed_parted Mark space next e = refl

-- what is parted from cells is parted from more of them
parted_more : (kind : TokenKind) (space : List ℕ) (next : Cell) (cells more : List Cell) → is_parted kind space (next ∷ cells) ≡ true → is_parted kind space (next ∷ more) ≡ true
unfolding is_parted is_mark_next
parted_more Simple space next cells more e = e
parted_more Word space next cells more e = e
parted_more Escaped space next cells more e = e
parted_more Constant space next cells more e = refl
parted_more Mark space next cells more e = refl

parted_mark : (kind : TokenKind) (space : List ℕ) (next : List Cell) → is_parted kind space [] ≡ true → is_mark_next next ≡ true → is_parted kind space next ≡ true
unfolding is_parted
parted_mark Simple [] next e mark = mark
parted_mark Simple (b ∷ space) next e mark = refl
parted_mark Word [] next e mark = mark
parted_mark Word (b ∷ space) next e mark = refl
parted_mark Escaped space next e mark = e
parted_mark Constant space next e mark = refl
parted_mark Mark space next e mark = refl

-- Cells may stand behind closed ones.
printed_after_closed : (first second : List Cell) → ArePrinted first → ends_closed first ≡ true → ArePrinted second → ArePrinted (first ++ second)
unfolding ends_closed
printed_after_closed [] second h e g = g
printed_after_closed (cell ∷ []) second h e g = (h.0, closed_parted cell.kind cell.space second e, g)
printed_after_closed (cell ∷ next ∷ first) second h e g =
    (h.0, parted_more cell.kind cell.space next first (first ++ second) h.1, printed_after_closed (next ∷ first) second h.2 e g)

-- Cells that begin with a mark may stand behind any.
pub printed_before_mark : (first second : List Cell) → ArePrinted first → is_mark_next second ≡ true → ArePrinted second → ArePrinted (first ++ second)
printed_before_mark [] second h e g = g
printed_before_mark (cell ∷ []) second h e g = (h.0, parted_mark cell.kind cell.space second h.1 e, g)
printed_before_mark (cell ∷ next ∷ first) second h e g =
    (h.0, parted_more cell.kind cell.space next first (first ++ second) h.1, printed_before_mark (next ∷ first) second h.2 e g)

-- Two lists of closed cells are one.
ends_closed-append : (first second : List Cell) → ends_closed first ≡ true → ends_closed second ≡ true → ends_closed (first ++ second) ≡ true
unfolding ends_closed
ends_closed-append [] second e g = g
ends_closed-append (cell ∷ []) [] e g = e
ends_closed-append (cell ∷ []) (next ∷ second) e g = g
ends_closed-append (cell ∷ next ∷ first) second e g = ends_closed-append (next ∷ first) second e g

-- Cells of which a writer may write any number, one after another: a statement, a line.
pub record AreClosed (cells : List Cell) : Type 0 where
  pub printed : ArePrinted cells
  pub closed : ends_closed cells ≡ true

pub AreClosed-append : (first second : List Cell) → AreClosed first → AreClosed second → AreClosed (first ++ second)
AreClosed-append first second h g = record {
  printed = printed_after_closed first second h.printed h.closed g.printed;
  closed = ends_closed-append first second h.closed g.closed;
}

none_closed : AreClosed []
unfolding ends_closed
none_closed = record { printed = tt; closed = refl }

pub AreClosed-flat_map : {X : Type 0} (f : X → List Cell) (xs : List X) → AllByRecursion (λ x. AreClosed (f x)) xs → AreClosed (flat_map f xs)
AreClosed-flat_map f [] h = none_closed
AreClosed-flat_map f (x ∷ xs) h = rw flat_map-cons (AreClosed-append (f x) (flat_map f xs) h.0 (AreClosed-flat_map f xs h.1))

pub printed-flat_map : {X : Type 0} (f : X → List Cell) (xs : List X) → printed (flat_map f xs) ≡ flat_map (λ x. printed (f x)) xs
printed-flat_map f [] = refl
printed-flat_map f (x ∷ xs) =
    ap printed (flat_map-cons f x xs) ∙ printed-append (f x) (flat_map f xs) ∙ ap (λ ys. printed (f x) ++ ys) (printed-flat_map f xs)
    ∙ sym (flat_map-cons (λ y. printed (f y)) x xs)
