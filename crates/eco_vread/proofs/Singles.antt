-- Readers of single tokens, and of an element with the mark behind it.
use Rattle.std.proofs.Common.{◌≡◌, ℕ, ◌≤◌, Bool, true, false, List, [], ◌∷◌, ◌++◌, length, refl, ap, sym, ◌∙◌, arith, append_assoc, length-append, Option, Some, None}
use Rattle.std.specs.Prelude.{option_map, codes, ◌&&◌, if◌then◌else◌}
use Rattle.std.specs.Str.{bytes_eq}
use Rattle.std.proofs.lemmas.Slice.Eq.{bytes_eq-Decides}
use Rattle.eco_tokens.specs.declared.TokenKind.{TokenKind}
use Rattle.eco_tokens.specs.declared.TokenKind.TheVariants.{Simple, Word, Escaped, Constant, Mark}
use Rattle.eco_tokens.specs.Said.{Said}
use Rattle.eco_tokens.specs.Cells.{is_mark_kind}
use Rattle.eco_vread.specs.Syntax.{Identifier, Term}
use Rattle.eco_vread.specs.Syntax.Term.{low, high, net}
use Rattle.eco_vread.specs.Grammar.{mark, word, spell_name, spell_term}
use Rattle.eco_vread.specs.Fronts.{Found, Step, element_at, separator_at, end_with, name_at, name_from, term_at, term_from, mark_at, word_at, is_word_kind}
use Rattle.eco_vread.specs.Parse.{connection_at, connection_from}
use Rattle.eco_vread.specs.Fronts.Step.{more, last}
use Rattle.eco_vread.proofs.Repeats.{by_chain, rest_of}
use Rattle.eco_vread.proofs.Readers.{IsReader, value_or, found_at}

-- each value is good
abbrev pub any : {X : Type 0} → X → Bool
any x = true

-- what holds of a value that is found with the tokens behind it
pub pair_takes : {X : Type 0} (spell : X → List Said) (good : X → Bool) (i x : X) (ts us : List Said) → good i ≡ true → found_at i ts ≡ found_at x us → (spell i ++ ts ≡ spell x ++ us) × (good x ≡ true)
pair_takes spell good i x ts us g h =
    let v : ts ≡ us = ap rest_of h in
    let w : i ≡ x = ap (value_or i) h in
    (ap (λ l. spell i ++ l) v ∙ ap (λ q. spell q ++ us) w, ap good (sym w) ∙ g)

name_from_takes : (kind : TokenKind) (text : List ℕ) (ts us : List Said) (x : Identifier) → option_map {U = Identifier × List Said} (λ i. (i, ts)) (name_from kind text) ≡ Some (x, us) → (record { kind = kind; text = text } ∷ ts ≡ spell_name x ++ us) × (any x ≡ true)
name_from_takes Simple text ts us x h = pair_takes spell_name any (record { escaped = false; text = text }) x ts us refl h
name_from_takes Escaped text ts us x h = pair_takes spell_name any (record { escaped = true; text = text }) x ts us refl h
name_from_takes Word text ts us x h = absurd (cc)
name_from_takes Constant text ts us x h = absurd (cc)
name_from_takes Mark text ts us x h = absurd (cc)

name_takes : (ts us : List Said) (x : Identifier) → name_at ts ≡ Some (x, us) → (ts ≡ spell_name x ++ us) × (any x ≡ true)
unfolding name_at
name_takes [] us x h = absurd (cc)
name_takes (t ∷ ts) us x h = name_from_takes t.kind t.text ts us x h

name_again : (us : List Said) (escaped : Bool) (text : List ℕ) → name_at (spell_name (record { escaped = escaped; text = text }) ++ us) ≡ Some (record { escaped = escaped; text = text }, us)
unfolding name_at
name_again us true text = refl
name_again us false text = refl

pub name_reader : IsReader name_at spell_name any
name_reader = record { takes = name_takes; again = λ us x g. name_again us x.escaped x.text; some = λ x. omega arith }

-- a constant's value, by its text
constant_takes : (text : List ℕ) (zero one : Bool) → bytes_eq text (codes "1'b0") ≡ zero → bytes_eq text (codes "1'b1") ≡ one → (ts us : List Said) (x : Term) → option_map {U = Term × List Said} (λ i. (i, ts)) (if zero then Some low else (if one then Some high else None)) ≡ Some (x, us) → (record { kind = Constant; text = text } ∷ ts ≡ spell_term x ++ us) × (any x ≡ true)
constant_takes text true one e f ts us x h =
    let same : text ≡ codes "1'b0" = (bytes_eq-Decides text (codes "1'b0")).0 e in
    let w = pair_takes spell_term any low x ts us refl h in
    (ap (λ l. record { kind = Constant; text = l } ∷ ts) same ∙ w.0, refl)
constant_takes text false true e f ts us x h =
    let same : text ≡ codes "1'b1" = (bytes_eq-Decides text (codes "1'b1")).0 f in
    let w = pair_takes spell_term any high x ts us refl h in
    (ap (λ l. record { kind = Constant; text = l } ∷ ts) same ∙ w.0, refl)
constant_takes text false false e f ts us x h = absurd (cc)

term_from_takes : (kind : TokenKind) (text : List ℕ) (ts us : List Said) (x : Term) → option_map {U = Term × List Said} (λ i. (i, ts)) (term_from kind text) ≡ Some (x, us) → (record { kind = kind; text = text } ∷ ts ≡ spell_term x ++ us) × (any x ≡ true)
term_from_takes Simple text ts us x h = pair_takes spell_term any (net (record { escaped = false; text = text })) x ts us refl h
term_from_takes Escaped text ts us x h = pair_takes spell_term any (net (record { escaped = true; text = text })) x ts us refl h
term_from_takes Constant text ts us x h = constant_takes text (bytes_eq text (codes "1'b0")) (bytes_eq text (codes "1'b1")) refl refl ts us x h
term_from_takes Word text ts us x h = absurd (cc)
term_from_takes Mark text ts us x h = absurd (cc)

term_takes : (ts us : List Said) (x : Term) → term_at ts ≡ Some (x, us) → (ts ≡ spell_term x ++ us) × (any x ≡ true)
unfolding term_at
term_takes [] us x h = absurd (cc)
term_takes (t ∷ ts) us x h = term_from_takes t.kind t.text ts us x h

net_again : (us : List Said) (escaped : Bool) (text : List ℕ) → term_at (spell_name (record { escaped = escaped; text = text }) ++ us) ≡ Some (net (record { escaped = escaped; text = text }), us)
unfolding term_at
net_again us true text = refl
net_again us false text = refl

term_again : (us : List Said) (x : Term) → any x ≡ true → term_at (spell_term x ++ us) ≡ Some (x, us)
unfolding term_at
term_again us low g = refl
term_again us high g = refl
term_again us (net i) g = net_again us i.escaped i.text

pub term_some : (x : Term) → 1 ≤ length (spell_term x)
term_some low = omega arith
term_some high = omega arith
term_some (net i) = omega arith

pub term_reader : IsReader term_at spell_term any
term_reader = record { takes = term_takes; again = term_again; some = term_some }

-- where a test of a text holds, the token is this one
mark_from_takes : (kind : TokenKind) (wanted text : List ℕ) (same : Bool) → bytes_eq text wanted ≡ same → (ts us : List Said) → (if is_mark_kind kind && same then Some ts else None) ≡ Some us → record { kind = kind; text = text } ∷ ts ≡ mark wanted ∷ us
mark_from_takes Mark wanted text true e ts us h =
    let t : text ≡ wanted = (bytes_eq-Decides text wanted).0 e in
    let v : ts ≡ us = cc in
    ap (λ l. mark l ∷ ts) t ∙ ap (λ l. mark wanted ∷ l) v
mark_from_takes Mark wanted text false e ts us h = absurd (cc)
mark_from_takes Simple wanted text same e ts us h = absurd (cc)
mark_from_takes Word wanted text same e ts us h = absurd (cc)
mark_from_takes Escaped wanted text same e ts us h = absurd (cc)
mark_from_takes Constant wanted text same e ts us h = absurd (cc)

pub mark_takes : (wanted : List ℕ) (ts us : List Said) → mark_at wanted ts ≡ Some us → ts ≡ mark wanted ∷ us
unfolding mark_at
mark_takes wanted [] us h = absurd (cc)
mark_takes wanted (t ∷ ts) us h = mark_from_takes t.kind wanted t.text (bytes_eq t.text wanted) refl ts us h

word_from_takes : (kind : TokenKind) (wanted text : List ℕ) (same : Bool) → bytes_eq text wanted ≡ same → (ts us : List Said) → (if is_word_kind kind && same then Some ts else None) ≡ Some us → record { kind = kind; text = text } ∷ ts ≡ word wanted ∷ us
word_from_takes Word wanted text true e ts us h =
    let t : text ≡ wanted = (bytes_eq-Decides text wanted).0 e in
    let v : ts ≡ us = cc in
    ap (λ l. word l ∷ ts) t ∙ ap (λ l. word wanted ∷ l) v
word_from_takes Word wanted text false e ts us h = absurd (cc)
word_from_takes Simple wanted text same e ts us h = absurd (cc)
word_from_takes Mark wanted text same e ts us h = absurd (cc)
word_from_takes Escaped wanted text same e ts us h = absurd (cc)
word_from_takes Constant wanted text same e ts us h = absurd (cc)

pub word_takes : (wanted : List ℕ) (ts us : List Said) → word_at wanted ts ≡ Some us → ts ≡ word wanted ∷ us
unfolding word_at
word_takes wanted [] us h = absurd (cc)
word_takes wanted (t ∷ ts) us h = word_from_takes t.kind wanted t.text (bytes_eq t.text wanted) refl ts us h

-- the separator behind an element
abbrev pub separator : List ℕ → Bool → Said
separator end true = mark (codes ",")
separator end false = mark end

end_takes : (end : List ℕ) (ts us : List Said) (b : Bool) (comma other : Option (List Said)) → mark_at (codes ",") ts ≡ comma → mark_at end ts ≡ other → end_with comma other ≡ Some (b, us) → ts ≡ separator end b ∷ us
end_takes end ts us true (Some vs) other e f h = let v : vs ≡ us = ap rest_of h in mark_takes (codes ",") ts us (e ∙ ap Some v)
end_takes end ts us false (Some vs) other e f h = let apart : true ≡ false = ap (value_or true) h in absurd (cc)
end_takes end ts us true None (Some vs) e f h = let apart : false ≡ true = ap (value_or false) h in absurd (cc)
end_takes end ts us false None (Some vs) e f h = let v : vs ≡ us = ap rest_of h in mark_takes end ts us (f ∙ ap Some v)
end_takes end ts us true None None e f h = absurd (cc)
end_takes end ts us false None None e f h = absurd (cc)

separator_takes : (end : List ℕ) (ts us : List Said) (b : Bool) → separator_at end ts ≡ Some (b, us) → ts ≡ separator end b ∷ us
unfolding separator_at
separator_takes end ts us b h = end_takes end ts us b (mark_at (codes ",") ts) (mark_at end ts) refl refl h

-- a mark that ends a list is no comma
pub record IsEnd (end : List ℕ) : Type 0 where
  pub no_comma : bytes_eq end (codes ",") ≡ false
  pub itself : bytes_eq end end ≡ true

separator_again : (end : List ℕ) → IsEnd end → (us : List Said) (b : Bool) → separator_at end (separator end b ∷ us) ≡ Some (b, us)
unfolding separator_at mark_at
separator_again end is us true = refl
separator_again end is us false = rw (is.no_comma, is.itself) refl

pub bracket : IsEnd (codes ")")
bracket = record { no_comma = refl; itself = refl }

pub semicolon : IsEnd (codes ";")
semicolon = record { no_comma = refl; itself = refl }

-- an element and its separator
abbrev pub spell_element : {X : Type 0} → (X → List Said) → List ℕ → Step X X → List Said
spell_element spell end (more x) = spell x ++ separator end true ∷ []
spell_element spell end (last x) = spell x ++ separator end false ∷ []

abbrev pub good_element : {X : Type 0} → (X → Bool) → Step X X → Bool
good_element good (more x) = good x
good_element good (last x) = good x

element_parts : {X : Type 0} (spell : X → List Said) (good : X → Bool) (end : List ℕ) (ts us vs : List Said) (b : Bool) (x : X) (s : Step X X) → ts ≡ spell x ++ us → good x ≡ true → us ≡ separator end b ∷ vs → (ws : List Said) → found_at (if b then more x else last x) vs ≡ found_at s ws → (ts ≡ spell_element spell end s ++ ws) × (good_element good s ≡ true)
element_parts spell good end ts us vs true x s e g f ws h =
    let w = pair_takes (spell_element spell end) (good_element good) (more x) s vs ws g h in
    (e ∙ ap (λ l. spell x ++ l) f ∙ sym (append_assoc (spell x) (separator end true ∷ []) vs) ∙ w.0, w.1)
element_parts spell good end ts us vs false x s e g f ws h =
    let w = pair_takes (spell_element spell end) (good_element good) (last x) s vs ws g h in
    (e ∙ ap (λ l. spell x ++ l) f ∙ sym (append_assoc (spell x) (separator end false ∷ []) vs) ∙ w.0, w.1)

-- A reader of what a comma, or the mark that ends a list, is behind.
pub record IsListed {X : Type 0} (read : List Said → Found X) (spell : X → List Said) (good : X → Bool) (end : List ℕ) : Type 0 where
  pub takes : (ts us : List Said) (x : X) → read ts ≡ Some (x, us) → (ts ≡ spell x ++ us) × (good x ≡ true)
  pub again : (us : List Said) (is_more : Bool) (x : X) → good x ≡ true → read (spell x ++ (separator end is_more ∷ us)) ≡ Some (x, separator end is_more ∷ us)
  pub some : (x : X) → 1 ≤ length (spell x)

-- a reader whatever is behind is one
pub listed : {X : Type 0} (read : List Said → Found X) (spell : X → List Said) (good : X → Bool) → IsReader read spell good → (end : List ℕ) → IsListed read spell good end
listed read spell good is end = record {
  takes = is.takes;
  again = λ us is_more x g. is.again (separator end is_more ∷ us) x g;
  some = is.some;
}

element_takes : {X : Type 0} (read : List Said → Found X) (spell : X → List Said) (good : X → Bool) (end : List ℕ) → IsListed read spell good end → (ts us : List Said) (s : Step X X) → element_at read end ts ≡ Some (s, us) → (ts ≡ spell_element spell end s ++ us) × (good_element good s ≡ true)
unfolding element_at
element_takes read spell good end is ts us s h =
    by_chain (read ts) _ _ h (λ found e f.
    by_chain (separator_at end found.1) _ _ f (λ sep g k.
    let w = is.takes ts found.1 found.0 e in
    element_parts spell good end ts found.1 sep.1 sep.0 found.0 s w.0 w.1 (separator_takes end found.1 sep.1 sep.0 g) us k))

element_again : {X : Type 0} (read : List Said → Found X) (spell : X → List Said) (good : X → Bool) (end : List ℕ) → IsListed read spell good end → IsEnd end → (us : List Said) (s : Step X X) → good_element good s ≡ true → element_at read end (spell_element spell end s ++ us) ≡ Some (s, us)
unfolding element_at
element_again read spell good end is mark us (more x) g =
    rw (append_assoc (spell x) (separator end true ∷ []) us, is.again us true x g, separator_again end mark us true) refl
element_again read spell good end is mark us (last x) g =
    rw (append_assoc (spell x) (separator end false ∷ []) us, is.again us false x g, separator_again end mark us false) refl

element_some : {X : Type 0} (spell : X → List Said) (end : List ℕ) (s : Step X X) → 1 ≤ length (spell_element spell end s)
element_some spell end (more x) = omega (arith, length-append (spell x) (separator end true ∷ []))
element_some spell end (last x) = omega (arith, length-append (spell x) (separator end false ∷ []))

pub element_reader : {X : Type 0} (read : List Said → Found X) (spell : X → List Said) (good : X → Bool) (end : List ℕ) → IsListed read spell good end → IsEnd end → IsReader (element_at read end) (spell_element spell end) (good_element good)
element_reader read spell good end is mark = record {
  takes = element_takes read spell good end is;
  again = element_again read spell good end is mark;
  some = element_some spell end;
}

-- an output with its comma, or the input with the closing bracket
abbrev pub spell_connection : Step Identifier Term → List Said
spell_connection (more i) = spell_name i ++ separator (codes ")") true ∷ []
spell_connection (last t) = spell_term t ++ separator (codes ")") false ∷ []

connection_parts : (ts us vs : List Said) (b : Bool) (t : Term) (s : Step Identifier Term) → ts ≡ spell_term t ++ us → us ≡ separator (codes ")") b ∷ vs → (ws : List Said) → connection_from t b vs ≡ found_at s ws → (ts ≡ spell_connection s ++ ws) × (any s ≡ true)
connection_parts ts us vs false t s e f ws h =
    let w = pair_takes spell_connection any (last t) s vs ws refl h in
    (e ∙ ap (λ l. spell_term t ++ l) f ∙ sym (append_assoc (spell_term t) (separator (codes ")") false ∷ []) vs) ∙ w.0, refl)
connection_parts ts us vs true low s e f ws h = absurd (cc)
connection_parts ts us vs true high s e f ws h = absurd (cc)
connection_parts ts us vs true (net i) s e f ws h =
    let w = pair_takes spell_connection any (more i) s vs ws refl h in
    (e ∙ ap (λ l. spell_name i ++ l) f ∙ sym (append_assoc (spell_name i) (separator (codes ")") true ∷ []) vs) ∙ w.0, refl)

connection_takes : (ts us : List Said) (s : Step Identifier Term) → connection_at ts ≡ Some (s, us) → (ts ≡ spell_connection s ++ us) × (any s ≡ true)
unfolding connection_at
connection_takes ts us s h =
    by_chain (term_at ts) _ _ h (λ found e f.
    by_chain (separator_at (codes ")") found.1) _ _ f (λ sep g k.
    let w = term_takes ts found.1 found.0 e in
    connection_parts ts found.1 sep.1 sep.0 found.0 s w.0 (separator_takes (codes ")") found.1 sep.1 sep.0 g) us k))

connection_again : (us : List Said) (s : Step Identifier Term) → any s ≡ true → connection_at (spell_connection s ++ us) ≡ Some (s, us)
unfolding connection_at
connection_again us (more i) g =
    rw (append_assoc (spell_name i) (separator (codes ")") true ∷ []) us, term_again (separator (codes ")") true ∷ us) (net i) refl, separator_again (codes ")") bracket us true) refl
connection_again us (last t) g =
    rw (append_assoc (spell_term t) (separator (codes ")") false ∷ []) us, term_again (separator (codes ")") false ∷ us) t refl, separator_again (codes ")") bracket us false) refl

connection_some : (s : Step Identifier Term) → 1 ≤ length (spell_connection s)
connection_some (more i) = omega arith
connection_some (last t) = omega (arith, length-append (spell_term t) (separator (codes ")") false ∷ []))

pub connection_reader : IsReader connection_at spell_connection any
connection_reader = record { takes = connection_takes; again = connection_again; some = connection_some }

-- what a reader finds, as a part of something
pub mapped_takes : {X Y : Type 0} (spell_x : X → List Said) (good_x : X → Bool) (spell_y : Y → List Said) (good_y : Y → Bool) (make : X → Y) (front : List Said) → ((x : X) → front ++ spell_x x ≡ spell_y (make x)) → ((x : X) → good_x x ≡ true → good_y (make x) ≡ true) → (ts us : List Said) (y : Y) (o : Found X) → ((vs : List Said) (x : X) → o ≡ Some (x, vs) → (ts ≡ spell_x x ++ vs) × (good_x x ≡ true)) → option_map {U = Y × List Said} (λ r. (make r.0, r.1)) o ≡ Some (y, us) → (front ++ ts ≡ spell_y y ++ us) × (good_y y ≡ true)
mapped_takes spell_x good_x spell_y good_y make front s g ts us y None f h = absurd (cc)
mapped_takes spell_x good_x spell_y good_y make front s g ts us y (Some found) f h =
    let w = f found.1 found.0 refl in
    let v = pair_takes spell_y good_y (make found.0) y found.1 us (g found.0 w.1) h in
    (ap (λ l. front ++ l) w.0 ∙ sym (append_assoc front (spell_x found.0) found.1) ∙ ap (λ l. l ++ found.1) (s found.0) ∙ v.0, v.1)
