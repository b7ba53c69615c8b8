-- A line's parts are its words, in one way.
use Rattle.std.proofs.Common.{◌≡◌, ℕ, ◌<◌, Bool, true, false, cond, List, [], ◌∷◌, ◌++◌, length, take, drop, refl, ap, sym, subst, ◌∙◌, arith, inl, inr, append-nil}
use Rattle.std.specs.Prelude.{not, ◌==◌}
use Rattle.std.specs.List.{list_all}
use Rattle.std.proofs.lemmas.Bool.{false≢true, and_parts, and_from, not-true, not-false, not_from_false, false_from_ne_true, or_cases, eqb-true, ne_eqb}
use Rattle.eco_lists.specs.Lines.{run_of, is_blank}
use Rattle.eco_meaning.specs.Names.{is_name, is_printing, is_digit, number_of}
use Rattle.eco_weight.specs.Lines.{named_by, Names, IsWeight, Says, IsBlank}
use Rattle.eco_weight.specs.Words.{BeginsBlank, IsNextWord}
use Rattle.eco_weight.proofs.Runs.{StopsAt, IsRun, run_cut, run_once}

-- a byte of a word
abbrev pub is_solid : ℕ → Bool
is_solid b = not (is_blank b)

begins_from : (rest : List ℕ) → StopsAt is_solid rest → BeginsBlank rest
begins_from [] h = tt
begins_from (b ∷ more) h = not-false (is_blank b) h

stops_from : (rest : List ℕ) → BeginsBlank rest → StopsAt is_solid rest
stops_from [] h = tt
stops_from (b ∷ more) h = ap not h

-- where neither a blank stands first nor another byte there is nothing
nothing_from : (rest : List ℕ) → StopsAt is_blank rest → BeginsBlank rest → rest ≡ []
nothing_from [] h g = refl
nothing_from (b ∷ more) h g = absurd (false≢true (sym h ∙ g))

-- what the reader cuts off is the next word
pub next_from : (bytes middle word rest : List ℕ) (n m : ℕ) → n ≡ run_of is_blank bytes → middle ≡ drop n bytes → m ≡ run_of is_solid middle → word ≡ take m middle → rest ≡ drop m middle → IsNextWord bytes word rest
next_from bytes middle word rest n m count back more front after =
    let first : IsRun is_blank bytes (take n bytes) middle = rw (back, count) (run_cut is_blank bytes) in
    let second : IsRun is_solid middle word rest = rw (front, after, more) (run_cut is_solid middle) in
    record {
      blanks = take n bytes;
      row = ap (λ xs. take n bytes ++ xs) second.joined ∙ first.joined;
      blank = first.all;
      solid = second.all;
      ends = begins_from rest second.stop;
      none = λ e.
          let same : middle ≡ rest = sym second.joined ∙ ap (λ xs. xs ++ rest) e in
          nothing_from rest (subst (StopsAt is_blank) same first.stop) (begins_from rest second.stop);
    }

-- a word and what stands behind it don't begin with a blank
word_stops : (word rest : List ℕ) → list_all is_solid word ≡ true → (word ≡ [] → rest ≡ []) → StopsAt is_blank (word ++ rest)
word_stops [] rest solid none = subst (StopsAt is_blank) (sym (none refl)) tt
word_stops (b ∷ word) rest solid none = not-true (is_blank b) (and_parts (is_solid b) (list_all is_solid word) solid).0

-- there is one next word
pub next_once : (bytes word rest other back : List ℕ) → IsNextWord bytes word rest → IsNextWord bytes other back → (word ≡ other) × (rest ≡ back)
next_once bytes word rest other back w v =
    let same = run_once is_blank bytes w.blanks (word ++ rest) v.blanks (other ++ back)
    (record { joined = w.row; all = w.blank; stop = word_stops word rest w.solid w.none })
    (record { joined = v.row; all = v.blank; stop = word_stops other back v.solid v.none }) in
    run_once is_solid (word ++ rest) word rest other back
    (record { joined = refl; all = w.solid; stop = stops_from rest w.ends })
    (record { joined = sym same.1; all = v.solid; stop = stops_from back v.ends })

-- what a line that says a pair looks like by its words
pub record AreWords (line name : List ℕ) (weight : ℕ) : Type 0 where
  pub word : List ℕ
  pub rest : List ℕ
  pub digits : List ℕ
  pub after : List ℕ
  pub first : IsNextWord line word rest
  pub second : IsNextWord rest digits after
  pub blank : list_all is_blank after ≡ true
  pub names : Names word name
  pub weighs : IsWeight digits weight

-- a test that holds where another does
all_from : (p q : ℕ → Bool) → ((b : ℕ) → p b ≡ true → q b ≡ true) → (bytes : List ℕ) → list_all p bytes ≡ true → list_all q bytes ≡ true
all_from p q h [] all = refl
all_from p q h (b ∷ more) all =
    let parts = and_parts (p b) (list_all p more) all in
    and_from (q b) (list_all q more) (h b parts.0) (all_from p q h more parts.1)

-- what fails at both blanks holds of no blank
solid_where : (p : ℕ → Bool) → p 32 ≡ false → p 9 ≡ false → (b : ℕ) → p b ≡ true → is_solid b ≡ true
solid_where p at_blank at_tab b h =
    not_from_false (is_blank b) (false_from_ne_true (is_blank b) (λ e.
    elim (or_cases (b == 32) (b == 9) e) [
      | inl is ↦ false≢true (sym at_blank ∙ ap p (sym (eqb-true b 32 is)) ∙ h)
      | inr is ↦ false≢true (sym at_tab ∙ ap p (sym (eqb-true b 9 is)) ∙ h)
    ]))

name_solid : (word : List ℕ) → is_name word ≡ true → list_all is_solid word ≡ true
name_solid word h =
    all_from is_printing is_solid (solid_where is_printing refl refl) word (and_parts (not (length word == 0)) (list_all is_printing word) h).1

digits_solid : (digits : List ℕ) → list_all is_digit digits ≡ true → list_all is_solid digits ≡ true
digits_solid = all_from is_digit is_solid (solid_where is_digit refl refl)

name_some : (word : List ℕ) → is_name word ≡ true → word ≡ [] → ⊥
name_some [] h e = false≢true h
name_some (b ∷ word) h e = absurd (cc)

begins_blank : (blanks : List ℕ) → list_all is_blank blanks ≡ true → BeginsBlank blanks
begins_blank [] h = tt
begins_blank (b ∷ more) h = (and_parts (is_blank b) (list_all is_blank more) h).0

begins_between : (blanks rest : List ℕ) → list_all is_blank blanks ≡ true → 0 < length blanks → BeginsBlank (blanks ++ rest)
begins_between [] rest h some = absurd (omega arith)
begins_between (b ∷ more) rest h some = (and_parts (is_blank b) (list_all is_blank more) h).0

some_not_nil : (xs : List ℕ) → 0 < length xs → xs ≡ [] → ⊥
some_not_nil [] some e = omega arith
some_not_nil (x ∷ xs) some e = absurd (cc)

-- the parts of a line are its words
pub words_from : (line name : List ℕ) (weight : ℕ) → Says line name weight → AreWords line name weight
words_from line name weight s = record {
  word = s.word;
  rest = s.between ++ (s.digits ++ s.after);
  digits = s.digits;
  after = s.after;
  first = record {
    blanks = s.before;
    row = s.row;
    blank = s.blank_before;
    solid = name_solid s.word s.names.printing;
    ends = begins_between s.between (s.digits ++ s.after) s.blank_between s.parted;
    none = λ e. absurd (name_some s.word s.names.printing e);
  };
  second = record {
    blanks = s.between;
    row = refl;
    blank = s.blank_between;
    solid = digits_solid s.digits s.weighs.decimal;
    ends = begins_blank s.after s.blank_after;
    none = λ e. absurd (some_not_nil s.digits s.weighs.some e);
  };
  blank = s.blank_after;
  names = s.names;
  weighs = s.weighs;
}

-- no byte of a word begins with a blank
between_some : (between digits rest : List ℕ) → list_all is_solid digits ≡ true → 0 < length digits → BeginsBlank (between ++ (digits ++ rest)) → 0 < length between
between_some [] [] rest solid some begins = absurd (omega arith)
between_some [] (d ∷ digits) rest solid some begins =
    absurd (false≢true (sym (not-true (is_blank d) (and_parts (is_solid d) (list_all is_solid digits) solid).0) ∙ begins))
between_some (b ∷ between) digits rest solid some begins = omega arith

-- the words of a line are its parts
pub says_from : (line name : List ℕ) (weight : ℕ) → AreWords line name weight → Says line name weight
says_from line name weight w = record {
  before = w.first.blanks;
  word = w.word;
  between = w.second.blanks;
  digits = w.digits;
  after = w.after;
  row = ap (λ xs. w.first.blanks ++ (w.word ++ xs)) w.second.row ∙ w.first.row;
  blank_before = w.first.blank;
  names = w.names;
  parted = between_some w.second.blanks w.digits w.after w.second.solid w.weighs.some (subst BeginsBlank (sym w.second.row) w.first.ends);
  blank_between = w.second.blank;
  weighs = w.weighs;
  blank_after = w.blank;
}

-- a blank line has no word
blank_next : (line : List ℕ) → IsBlank line → IsNextWord line [] []
blank_next line blank = record { blanks = line; row = append-nil line; blank = blank; solid = refl; ends = tt; none = λ _. refl }

pub blank_no_word : (line word rest : List ℕ) → IsBlank line → IsNextWord line word rest → word ≡ []
blank_no_word line word rest blank w = (next_once line word rest [] [] w (blank_next line blank)).0

-- a blank line says nothing
pub blank_says_none : (line name : List ℕ) (weight : ℕ) → IsBlank line → Says line name weight → ⊥
blank_says_none line name weight blank s =
    let w = words_from line name weight s in
    name_some w.word w.names.printing (blank_no_word line w.word w.rest blank w.first)

-- a line says one thing
pub says_one : (line name other : List ℕ) (weight another : ℕ) → Says line name weight → Says line other another → (name ≡ other) × (weight ≡ another)
says_one line name other weight another s t =
    let w = words_from line name weight s in
    let v = words_from line other another t in
    let first = next_once line w.word w.rest v.word v.rest w.first v.first in
    let second = next_once w.rest w.digits w.after v.digits v.after w.second (subst (λ xs. IsNextWord xs v.digits v.after) (sym first.1) v.second) in (
      sym w.names.named ∙ ap named_by first.0 ∙ v.names.named,
      sym w.weighs.value ∙ ap number_of second.0 ∙ v.weighs.value,
    )

-- one or more printing bytes are a name
name_of : (bytes : List ℕ) → 0 < length bytes → list_all is_printing bytes ≡ true → is_name bytes ≡ true
name_of bytes some all =
    let full : (length bytes == 0) ≡ false = ne_eqb (length bytes) 0 (omega arith) in
    and_from (not (length bytes == 0)) (list_all is_printing bytes) (not_from_false (length bytes == 0) full) all

name_printing : (bytes : List ℕ) → is_name bytes ≡ true → list_all is_printing bytes ≡ true
name_printing bytes h = (and_parts (not (length bytes == 0)) (list_all is_printing bytes) h).1

name_length : (bytes : List ℕ) → is_name bytes ≡ true → 0 < length bytes
name_length [] h = absurd (false≢true h)
name_length (b ∷ more) h = omega arith

-- what a word names is a name
pub name_from_word : (word name : List ℕ) → Names word name → is_name name ≡ true
name_from_word [] name n = absurd (false≢true n.printing)
name_from_word (b ∷ more) name n = by (b == 92) n.named
  where
    by : (escaped : Bool) → cond escaped more (b ∷ more) ≡ name → is_name name ≡ true
    by true e = name_of name n.some (subst (λ xs. list_all is_printing xs ≡ true) e (and_parts (is_printing b) (list_all is_printing more) (name_printing (b ∷ more) n.printing)).1)
    by false e = subst (λ xs. is_name xs ≡ true) e n.printing

word_at : (b : ℕ) (more : List ℕ) (escaped : Bool) → (b == 92) ≡ escaped → is_name (cond escaped more (b ∷ more)) ≡ true → Names (b ∷ more) (cond escaped more (b ∷ more))
word_at b more true e h = record {
  printing = name_of (b ∷ more) (omega arith) (and_from (is_printing b) (list_all is_printing more) (ap is_printing (eqb-true b 92 e)) (name_printing more h));
  named = ap (λ t. cond t more (b ∷ more)) e;
  some = name_length more h;
}
word_at b more false e h = record {
  printing = h;
  named = ap (λ t. cond t more (b ∷ more)) e;
  some = omega arith;
}

-- a word that names a name
pub word_from_name : (word : List ℕ) → is_name (named_by word) ≡ true → Names word (named_by word)
word_from_name [] h = absurd (false≢true h)
word_from_name (b ∷ more) h = word_at b more (b == 92) refl h
