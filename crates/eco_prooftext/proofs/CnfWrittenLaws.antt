-- What is written of clauses is read as those clauses.
use Rattle.std.proofs.Common.{◌≡◌, ℕ, ◌<◌, ◌≤◌, ◌||◌, Bool, true, false, not, cond, List, [], ◌∷◌, ◌++◌, length, map, filter, decimal, codes, All, refl, sym, ap, ◌∙◌, subst, arith, inl, inr, append_assoc}
use Rattle.std.specs.Prelude.{◌==◌}
use Rattle.std.specs.List.{flat_map, slice_split}
use Rattle.std.proofs.lemmas.Bool.{ne_eqb}
use Rattle.std.proofs.lemmas.Fmt.{decimal_nonempty}
use Rattle.std.proofs.lemmas.List.{append-nil}
use Rattle.std.proofs.lemmas.List.Elements.{All-nil, All-cons, All-head, All-tail, All-append, All-map, All-weaker}
use Rattle.std.proofs.lemmas.List.Splits.{slice_split_at, slice_split_none}
use Rattle.eco_lists.proofs.Lines.{IsNoFeed}
use Rattle.eco_trace.specs.declared.clause.Lit.{Lit}
use Rattle.eco_trace.specs.Clauses.{Clauses, IsClause, IsVarWithin}
use Rattle.eco_prooftext.specs.Texts.{lit_text, clause_text, cnf_text}
use Rattle.eco_lists.specs.Lines.{cut_at_feeds}
use Rattle.eco_prooftext.specs.CnfFile.{Piece, Comment, Word, is_blank, words_of, is_comment, pieces_of, IsLiteral, IsNext, Falls, IsHeader, AreClauses, AreLines, IsCnfText}
use Rattle.eco_prooftext.specs.Written.{HasRoom}
use Rattle.eco_prooftext.proofs.WrittenLaws.{IsDigit, IsSmall, small_bits, digits, word_cut}

-- a byte that stands in words
abbrev IsSolid : ℕ → Type 0
IsSolid b = 33 ≤ b

-- a byte of a word that spells a literal, and of the line of a clause
abbrev IsSign : ℕ → Type 0
IsSign b = (33 ≤ b) × (b ≤ 57)

abbrev IsPlain : ℕ → Type 0
IsPlain b = (32 ≤ b) × (b ≤ 57)

abbrev IsUnparted : ℕ → Type 0
IsUnparted b = is_blank b ≡ false

record IsWord (word : List ℕ) : Type 0 where
  some : 0 < length word
  bytes : All IsSolid word

-- words, each with a blank behind it
abbrev spaced : List (List ℕ) → List ℕ
spaced words = flat_map (λ w. w ++ 32 ∷ []) words

unparted : (b : ℕ) → IsSolid b → IsUnparted b
unparted b h =
    let blank : (b == 32) ≡ false = ne_eqb b 32 (λ e. omega (arith, h, e)) in
    let tab : (b == 9) ≡ false = ne_eqb b 9 (λ e. omega (arith, h, e)) in
    let ret : (b == 13) ≡ false = ne_eqb b 13 (λ e. omega (arith, h, e)) in
    (λ i. (blank i || tab i) || ret i)

no_feed : (b : ℕ) → 32 ≤ b → IsNoFeed b
no_feed b h = ne_eqb b 10 (λ e. omega (arith, h, e))

unparted_all : (word : List ℕ) → IsWord word → All IsUnparted word
unparted_all word is = All-weaker IsSolid IsUnparted unparted word is.bytes

abbrev is_kept : List ℕ → Bool
is_kept word = not (length word == 0)

kept : (word : List ℕ) → IsWord word → is_kept word ≡ true
kept word is =
    let some = is.some in
    let e : (length word == 0) ≡ false = ne_eqb (length word) 0 (λ z. omega (arith, some, z)) in
    ap (λ b. not b) e

keeps : (word : List ℕ) (more : List (List ℕ)) → IsWord word → filter is_kept (word ∷ more) ≡ word ∷ filter is_kept more
keeps word more is = ap (λ b. cond b (word ∷ filter is_kept more) (filter is_kept more)) (kept word is)

-- the words of a line that is written of them
words_read : (words : List (List ℕ)) (last : List ℕ) → All IsWord words → IsWord last → words_of (spaced words ++ last) ≡ words ++ last ∷ []
words_read [] last all is =
    ap (filter is_kept) (slice_split_none is_blank last (unparted_all last is)) ∙ keeps last [] is
words_read (word ∷ words) last all is =
    let first : IsWord word = All-head IsWord word words all in
    let behind : List ℕ = spaced words ++ last in
    ap words_of (word_cut word (spaced words) last)
    ∙ ap (filter is_kept) (slice_split_at is_blank word 32 behind (unparted_all word first) refl)
    ∙ keeps word (slice_split is_blank behind) first
    ∙ ap (λ (ws : List (List ℕ)). word ∷ ws) (words_read words last (All-tail IsWord word words all) is)

decimal_word : (n : ℕ) → IsSmall n → IsWord (decimal n)
decimal_word n small = record {
  some = decimal_nonempty n (small_bits n small);
  bytes = All-weaker IsDigit IsSolid (λ b h. let first = h.0 in omega (arith, first)) (decimal n) (digits n small);
}

digits_signed : (n : ℕ) → IsSmall n → All IsSign (decimal n)
digits_signed n small = All-weaker IsDigit IsSign (λ b h. let first = h.0 in (omega (arith, first), h.1)) (decimal n) (digits n small)

signed : (p : Bool) (n : ℕ) → IsSmall n → All IsSign (cond p [] (codes "-") ++ decimal n)
signed true n small = digits_signed n small
signed false n small = All-cons IsSign 45 (decimal n) (omega arith, omega arith) (digits_signed n small)

signed_some : (p : Bool) (n : ℕ) → IsSmall n → 0 < length (cond p [] (codes "-") ++ decimal n)
signed_some true n small = decimal_nonempty n (small_bits n small)
signed_some false n small = omega arith

lit_small : (vars : ℕ) (l : Lit) → IsSmall vars → IsVarWithin vars l → IsSmall l.var.0
lit_small vars l small h = let last = h.last in omega (arith, small, last)

lit_word : (vars : ℕ) (l : Lit) → IsSmall vars → IsVarWithin vars l → IsWord (lit_text l)
lit_word vars l small h = record {
  some = signed_some l.positive l.var.0 (lit_small vars l small h);
  bytes = All-weaker IsSign IsSolid (λ b s. s.0) (lit_text l) (signed l.positive l.var.0 (lit_small vars l small h));
}

lit_literal : (vars : ℕ) (l : Lit) → IsSmall vars → IsVarWithin vars l → IsLiteral vars (lit_text l) l
lit_literal vars l small h = record { text = refl; within = h; limit = lit_small vars l small h }

-- the line of a clause, without its line feed
abbrev line_in : List Lit → List ℕ
line_in clause = spaced (map lit_text clause) ++ 48 ∷ []

lits_spaced : (clause : List Lit) → flat_map (λ l. lit_text l ++ codes " ") clause ≡ spaced (map lit_text clause)
lits_spaced [] = refl
lits_spaced (l ∷ clause) = ap (λ (xs : List ℕ). (lit_text l ++ 32 ∷ []) ++ xs) (lits_spaced clause)

clause_line : (clause : List Lit) (behind : List ℕ) → clause_text clause ++ behind ≡ line_in clause ++ 10 ∷ behind
clause_line clause behind =
    ap (λ (xs : List ℕ). (xs ++ 48 ∷ 10 ∷ []) ++ behind) (lits_spaced clause)
    ∙ append_assoc (spaced (map lit_text clause)) (48 ∷ 10 ∷ []) behind
    ∙ sym (append_assoc (spaced (map lit_text clause)) (48 ∷ []) (10 ∷ behind))

line_plain : (vars : ℕ) (clause : List Lit) → IsSmall vars → All (IsVarWithin vars) clause → All IsPlain (line_in clause)
line_plain vars [] small h = All-cons IsPlain 48 [] (omega arith, omega arith) (All-nil IsPlain)
line_plain vars (l ∷ clause) small h =
    let first : IsVarWithin vars l = All-head (IsVarWithin vars) l clause h in
    let word : All IsPlain (lit_text l) =
    All-weaker IsSign IsPlain (λ b s. let low = s.0 in (omega (arith, low), s.1)) (lit_text l) (signed l.positive l.var.0 (lit_small vars l small first)) in
    let blank : All IsPlain (32 ∷ []) = All-cons IsPlain 32 [] (omega arith, omega arith) (All-nil IsPlain) in
    subst (All IsPlain) (sym (append_assoc (lit_text l ++ 32 ∷ []) (spaced (map lit_text clause)) (48 ∷ [])))
    (All-append IsPlain (lit_text l ++ 32 ∷ []) (line_in clause) (All-append IsPlain (lit_text l) (32 ∷ []) word blank)
    (line_plain vars clause small (All-tail (IsVarWithin vars) l clause h)))

no_comment : (line : List ℕ) → All IsPlain line → is_comment line ≡ false
no_comment [] h = refl
no_comment (b ∷ line) h = let first = (All-head IsPlain b line h).1 in ne_eqb b 99 (λ e. omega (arith, first, e))

zero_word : IsWord (codes "0")
zero_word = record { some = omega arith; bytes = All-cons IsSolid 48 [] (omega arith) (All-nil IsSolid) }

-- the pieces of a clause's line
clause_pieces : (vars : ℕ) (clause : List Lit) → IsSmall vars → All (IsVarWithin vars) clause → pieces_of (line_in clause) ≡ map Word (map lit_text clause ++ codes "0" ∷ [])
clause_pieces vars clause small h =
    let plain : is_comment (line_in clause) ≡ false = no_comment (line_in clause) (line_plain vars clause small h) in
    let words : All IsWord (map lit_text clause) =
    All-map IsWord lit_text clause (All-weaker (IsVarWithin vars) (λ (l : Lit). IsWord (lit_text l)) (λ l w. lit_word vars l small w) clause h) in
    ap (λ b. cond b (Comment ∷ []) (map Word (words_of (line_in clause)))) plain
    ∙ ap (map Word) (words_read (map lit_text clause) (codes "0") words zero_word)

-- the words of a clause are its literals, where some are open already
clause_falls : (vars : ℕ) (open' lits clause : List Lit) (rest : List Piece) (more : List (List Lit)) → open' ++ lits ≡ clause → IsSmall vars → All (IsVarWithin vars) lits → IsNext vars clause clause → Falls vars [] rest more → Falls vars open' (map Word (map lit_text lits ++ codes "0" ∷ []) ++ rest) (clause ∷ more)
clause_falls vars open' [] clause rest more e small h next falls =
    let same : clause ≡ open' = sym e ∙ append-nil open' in
    inl (refl, (clause, more, refl, subst (λ (ls : List Lit). IsNext vars ls clause) same next, falls))
clause_falls vars open' (l ∷ lits) clause rest more e small h next falls =
    let first : IsVarWithin vars l = All-head (IsVarWithin vars) l lits h in
    inr (
      l,
      lit_literal vars l small first,
      clause_falls vars (open' ++ l ∷ []) lits clause rest more (append_assoc open' (l ∷ []) lits ∙ e) small (All-tail (IsVarWithin vars) l lits h) next falls,
    )

next_itself : (vars : ℕ) (clause : List Lit) → IsClause clause → All (IsVarWithin vars) clause → IsNext vars clause clause
next_itself vars clause is h = record {
  clause_of = record { clause_itself = is; members = λ l. (λ m. m, λ m. m) };
  within = h;
}

-- the lines of clauses fall into them
clauses_fall : (vars : ℕ) (clauses : List (List Lit)) → IsSmall vars → All IsClause clauses → All (All (IsVarWithin vars)) clauses → Falls vars [] (flat_map pieces_of (cut_at_feeds (flat_map clause_text clauses))) clauses
clauses_fall vars [] small all within = (refl, refl)
clauses_fall vars (clause ∷ clauses) small all within =
    let is : IsClause clause = All-head IsClause clause clauses all in
    let h : All (IsVarWithin vars) clause = All-head (All (IsVarWithin vars)) clause clauses within in
    let behind : List ℕ = flat_map clause_text clauses in
    let rest : List Piece = flat_map pieces_of (cut_at_feeds behind) in
    let no_feeds : All IsNoFeed (line_in clause) = All-weaker IsPlain IsNoFeed (λ b p. no_feed b p.0) (line_in clause) (line_plain vars clause small h) in
    let cut : cut_at_feeds (clause_text clause ++ behind) ≡ line_in clause ∷ cut_at_feeds behind =
    ap cut_at_feeds (clause_line clause behind) ∙ slice_split_at (λ b. b == 10) (line_in clause) 10 behind no_feeds refl in
    let pieces : flat_map pieces_of (cut_at_feeds (clause_text clause ++ behind)) ≡ map Word (map lit_text clause ++ codes "0" ∷ []) ++ rest =
    ap (flat_map pieces_of) cut ∙ ap (λ (ps : List Piece). ps ++ rest) (clause_pieces vars clause small h) in
    subst (λ (ps : List Piece). Falls vars [] ps (clause ∷ clauses)) (sym pieces)
    (clause_falls vars [] clause clause rest clauses refl small h (next_itself vars clause is h)
    (clauses_fall vars clauses small (All-tail IsClause clause clauses all) (All-tail (All (IsVarWithin vars)) clause clauses within)))

-- the header, without its line feed
abbrev header_in : ℕ → ℕ → List ℕ
header_in vars count = spaced (codes "p" ∷ codes "cnf" ∷ decimal vars ∷ []) ++ decimal count

header_cut : (a b behind : List ℕ) → (((a ++ 32 ∷ []) ++ b) ++ 10 ∷ []) ++ behind ≡ (((a ++ 32 ∷ []) ++ []) ++ b) ++ 10 ∷ behind
header_cut [] b behind = ap (λ (xs : List ℕ). 32 ∷ xs) (append_assoc b (10 ∷ []) behind)
header_cut (x ∷ a) b behind = ap (λ xs. x ∷ xs) (header_cut a b behind)

header_words : (vars count : ℕ) → IsSmall vars → IsSmall count → words_of (header_in vars count) ≡ codes "p" ∷ codes "cnf" ∷ decimal vars ∷ decimal count ∷ []
header_words vars count vars_small count_small =
    let p : IsWord (codes "p") = record { some = omega arith; bytes = All-cons IsSolid 112 [] (omega arith) (All-nil IsSolid) } in
    let cnf : IsWord (codes "cnf") = record {
      some = omega arith;
      bytes = All-cons IsSolid 99 (110 ∷ 102 ∷ []) (omega arith) (All-cons IsSolid 110 (102 ∷ []) (omega arith) (All-cons IsSolid 102 [] (omega arith) (All-nil IsSolid)));
    } in
    words_read (codes "p" ∷ codes "cnf" ∷ decimal vars ∷ []) (decimal count)
    (All-cons IsWord (codes "p") (codes "cnf" ∷ decimal vars ∷ []) p
    (All-cons IsWord (codes "cnf") (decimal vars ∷ []) cnf (All-cons IsWord (decimal vars) [] (decimal_word vars vars_small) (All-nil IsWord))))
    (decimal_word count count_small)

digits_no_feed : (n : ℕ) → IsSmall n → All IsNoFeed (decimal n)
digits_no_feed n small = All-weaker IsDigit IsNoFeed (λ b h. let first = h.0 in no_feed b (omega (arith, first))) (decimal n) (digits n small)

blank_no_feed : All IsNoFeed (32 ∷ [])
blank_no_feed = All-cons IsNoFeed 32 [] refl (All-nil IsNoFeed)

begin_no_feed : All IsNoFeed (codes "p cnf ")
begin_no_feed =
    All-cons IsNoFeed 112 (32 ∷ 99 ∷ 110 ∷ 102 ∷ 32 ∷ []) refl
    (All-cons IsNoFeed 32 (99 ∷ 110 ∷ 102 ∷ 32 ∷ []) refl
    (All-cons IsNoFeed 99 (110 ∷ 102 ∷ 32 ∷ []) refl
    (All-cons IsNoFeed 110 (102 ∷ 32 ∷ []) refl (All-cons IsNoFeed 102 (32 ∷ []) refl blank_no_feed))))

header_no_feed : (vars count : ℕ) → IsSmall vars → IsSmall count → All IsNoFeed (header_in vars count)
header_no_feed vars count vars_small count_small =
    let word : List ℕ = (decimal vars ++ 32 ∷ []) ++ [] in
    All-append IsNoFeed (codes "p cnf ") (word ++ decimal count) begin_no_feed
    (All-append IsNoFeed word (decimal count)
    (All-append IsNoFeed (decimal vars ++ 32 ∷ []) [] (All-append IsNoFeed (decimal vars) (32 ∷ []) (digits_no_feed vars vars_small) blank_no_feed) (All-nil IsNoFeed))
    (digits_no_feed count count_small))

-- what is written of clauses is the text of those clauses
pub clauses_back : (c : Clauses) → HasRoom c → IsCnfText (cnf_text c) c
clauses_back c room =
    let count : ℕ = length c.clauses in
    let behind : List ℕ = flat_map clause_text c.clauses in
    let header : List ℕ = header_in c.vars count in
    let cut : cut_at_feeds (cnf_text c) ≡ header ∷ cut_at_feeds behind =
    ap (λ (xs : List ℕ). cut_at_feeds (codes "p cnf " ++ xs)) (header_cut (decimal c.vars) (decimal count) behind)
    ∙ slice_split_at (λ b. b == 10) header 10 behind (header_no_feed c.vars count room.vars_limit room.count_limit) refl in
    let is : IsHeader header c.vars count = record {
      words = header_words c.vars count room.vars_limit room.count_limit;
      vars_limit = room.vars_limit;
      count_limit = room.count_limit;
    } in
    let clauses : AreClauses c.vars count (cut_at_feeds behind) c = record {
      vars_same = refl;
      count_same = refl;
      falls = clauses_fall c.vars c.clauses room.vars_limit room.formed.clauses_all room.formed.within;
    } in
    subst (λ (lines : List (List ℕ)). AreLines lines c) (sym cut) (inr (refl, (c.vars, count, is, clauses)))
