-- How the reading of clauses goes on, line by line.
use Rattle.std.proofs.Common.{◌≡◌, Bool, true, false, cond, Bor, ℕ, suc, ◌<◌, List, [], ◌∷◌, ◌++◌, length, get_or, take, drop, map, Option, Some, None, MatchBool, is_some, IfSome, IfNone, inl, inr, refl, sym, ap, ◌∙◌, subst, arith}
use Rattle.std.specs.List.{flat_map}
use Rattle.std.proofs.Math.Seq.{drop-cons}
use Rattle.std.proofs.lemmas.Bool.{both_ways, true≢false, false≢true}
use Rattle.std.proofs.lemmas.List.{append-nil, map-append, take-append-drop}
use Rattle.std.proofs.lemmas.Fmt.{decimal_injective}
use Rattle.eco_trace.specs.declared.clause.Lit.{Lit}
use Rattle.eco_trace.specs.Clauses.{Clauses}
use Rattle.eco_prooftext.specs.declared.reader.Body.{Body}
use Rattle.eco_prooftext.specs.CnfFile.{Piece, Comment, Word, is_comment, words_of, pieces_of, IsIdle, IsHeader, Falls, AreLines}
use Rattle.eco_prooftext.specs.Reading.{Continues, Follows, Leads, IsStuck, Heads, Begins}
use Rattle.eco_prooftext.proofs.ReadLaws.{stuck_more, falls_same}

-- an item of a list with which there is no outcome
pub step_stuck : {S A X : Type 0} (P : S → List X → Clauses → Type 0) (f : A → X) (s t : S) (xs : List A) (i : ℕ) (d : A) → i < length xs → Leads P s (map f (take i xs)) t → IsStuck P t (f (get_or xs i d) ∷ []) → IsStuck P s (map f xs)
step_stuck P f s t xs i d lt h g =
    let cut : xs ≡ take i xs ++ get_or xs i d ∷ drop (suc i) xs =
    sym (take-append-drop i xs) ∙ ap (λ l. take i xs ++ l) (drop-cons xs i d lt) in
    stuck_more P s t (map f (take i xs)) (f (get_or xs i d) ∷ []) (map f (drop (suc i) xs)) (map f xs)
    (ap (map f) cut ∙ map-append f (take i xs) (get_or xs i d ∷ drop (suc i) xs)) h g

-- an idle line is no header
pub idle_no_header : (line : List ℕ) (vars count : ℕ) → is_comment line ≡ false → IsHeader line vars count → IsIdle line → ⊥
idle_no_header line vars count plain header (inl marked) = both_ways (is_comment line) plain marked
idle_no_header line vars count plain header (inr idle) =
    let none : length (words_of line) ≡ 0 = ap (λ (l : List (List ℕ)). length l) idle.1 in
    let four : length (words_of line) ≡ 4 = ap (λ (l : List (List ℕ)). length l) header.words in
    omega (arith, none, four)

-- the items of a list of four
abbrev third_of : List (List ℕ) → List ℕ
third_of (a ∷ b ∷ c ∷ more) = c
third_of others = []

abbrev fourth_of : List (List ℕ) → List ℕ
fourth_of (a ∷ b ∷ c ∷ d ∷ more) = d
fourth_of others = []

-- a header says one pair of numbers
pub header_vars : (words : List (List ℕ)) (v n w m : ℕ) → Heads words v n → Heads words w m → v ≡ w
header_vars words v n w m h i = decimal_injective v w (let a = h.vars_limit in omega (arith, a)) (let a = i.vars_limit in omega (arith, a)) (ap third_of (sym h.same ∙ i.same))

header_count : (words : List (List ℕ)) (v n w m : ℕ) → Heads words v n → Heads words w m → n ≡ m
header_count words v n w m h i = decimal_injective n m (let a = h.count_limit in omega (arith, a)) (let a = i.count_limit in omega (arith, a)) (ap fourth_of (sym h.same ∙ i.same))

pub heads_from : (line : List ℕ) (vars count : ℕ) → IsHeader line vars count → Heads (words_of line) vars count
heads_from line vars count h = record { same = h.words; vars_limit = h.vars_limit; count_limit = h.count_limit }

header_from : (line : List ℕ) (vars count : ℕ) → Heads (words_of line) vars count → IsHeader line vars count
header_from line vars count h = record { words = h.same; vars_limit = h.vars_limit; count_limit = h.count_limit }

header_no_idle : (line : List ℕ) (body : Body) → is_comment line ≡ false → Begins (words_of line) body → IsIdle line → ⊥
header_no_idle line body plain b idle =
    idle_no_header line body.cnf.vars body.count plain (header_from line body.cnf.vars body.count b.heads) idle

begin_onward : (line : List ℕ) (body : Body) (rest : List (List ℕ)) (c : Clauses) → is_comment line ≡ false → Begins (words_of line) body → AreLines (line ∷ rest) c → Continues body (flat_map pieces_of rest) c
begin_onward line body rest c plain b (inl more) = absurd (header_no_idle line body plain b more.0)
begin_onward line body rest c plain b (inr (plain', (vars, count, header, clauses))) =
    let heads = heads_from line vars count header in
    let same_vars : vars ≡ body.cnf.vars = header_vars (words_of line) vars count body.cnf.vars body.count heads b.heads in
    let same_count : count ≡ body.count = header_count (words_of line) vars count body.cnf.vars body.count heads b.heads in
    record {
      vars_same = clauses.vars_same ∙ same_vars;
      count_same = clauses.count_same ∙ same_count;
      more = c.clauses;
      clauses_all = ap (λ (l : List (List Lit)). l ++ c.clauses) (sym b.clauses_none);
      falls = falls_same vars body.cnf.vars [] body.lits.items (flat_map pieces_of rest) c.clauses same_vars (sym b.lits_none) clauses.falls;
    }

begin_back : (line : List ℕ) (body : Body) (rest : List (List ℕ)) (c : Clauses) → is_comment line ≡ false → Begins (words_of line) body → Continues body (flat_map pieces_of rest) c → AreLines (line ∷ rest) c
begin_back line body rest c plain b k =
    let more : k.more ≡ c.clauses = ap (λ (l : List (List Lit)). l ++ k.more) (sym b.clauses_none) ∙ sym k.clauses_all in
    let falls : Falls body.cnf.vars [] (flat_map pieces_of rest) k.more =
    falls_same body.cnf.vars body.cnf.vars body.lits.items [] (flat_map pieces_of rest) k.more refl b.lits_none k.falls in
    inr (
      plain,
      (
        body.cnf.vars,
        body.count,
        header_from line body.cnf.vars body.count b.heads,
        record {
          vars_same = k.vars_same;
          count_same = k.count_same;
          falls = subst (λ (l : List (List Lit)). Falls body.cnf.vars [] (flat_map pieces_of rest) l) more falls;
        },
      ),
    )

-- the header
begin_leads : (line : List ℕ) (body : Body) → is_comment line ≡ false → Begins (words_of line) body → Leads Follows None (line ∷ []) (Some body)
begin_leads line body plain b = λ rest c. (λ k. begin_onward line body rest c plain b k, λ k. begin_back line body rest c plain b k)

none_refused : (line : List ℕ) (rest : List (List ℕ)) (c : Clauses) → is_comment line ≡ false → (words_of line ≡ [] → ⊥) → ((vars count : ℕ) → Heads (words_of line) vars count → ⊥) → AreLines (line ∷ rest) c → ⊥
none_refused line rest c plain some none (inl (inl marked, more)) = both_ways (is_comment line) plain marked
none_refused line rest c plain some none (inl (inr idle, more)) = some idle.1
none_refused line rest c plain some none (inr (plain', (vars, count, header, clauses))) = none vars count (heads_from line vars count header)

-- neither idle nor the header
none_stuck : (line : List ℕ) → is_comment line ≡ false → (words_of line ≡ [] → ⊥) → ((vars count : ℕ) → Heads (words_of line) vars count → ⊥) → IsStuck Follows None (line ∷ [])
none_stuck line plain some none = λ rest c k. none_refused line rest c plain some none k

-- a text that was read from its first line to its last
pub all_refused : (body : Option Body) (lines : List (List ℕ)) → Leads Follows None lines body → ((c : Clauses) → Follows body [] c → ⊥) → (c : Clauses) → AreLines lines c → ⊥
all_refused body lines h none c k = none c ((h [] c).0 (subst (λ l. AreLines l c) (sym (append-nil lines)) k))

pub stuck_refused : (lines : List (List ℕ)) → IsStuck Follows None lines → (c : Clauses) → AreLines lines c → ⊥
stuck_refused lines h c k = h [] c (subst (λ l. AreLines l c) (sym (append-nil lines)) k)

-- where the words aren't none
pub some_words : (line : List ℕ) (words : List (Bor (List ℕ))) → map (λ (w : Bor (List ℕ)). w.now) words ≡ words_of line → (length words ≡ 0 → ⊥) → words_of line ≡ [] → ⊥
some_words line [] e some none = some refl
some_words line (w ∷ words) e some none =
    let zero' : length (map (λ (w : Bor (List ℕ)). w.now) (w ∷ words)) ≡ 0 = ap (λ (l : List (List ℕ)). length l) (e ∙ none) in
    omega (arith, zero')

words_behind : (words : List (Bor (List ℕ))) → map Word (map (λ (w : Bor (List ℕ)). w.now) words) ≡ map (λ (w : Bor (List ℕ)). Word w.now) words
words_behind [] = refl
words_behind (w ∷ words) = ap (λ (l : List Piece). Word w.now ∷ l) (words_behind words)

pieces_words : (line : List ℕ) (words : List (Bor (List ℕ))) → is_comment line ≡ false → map (λ (w : Bor (List ℕ)). w.now) words ≡ words_of line → map (λ (w : Bor (List ℕ)). Word w.now) words ≡ pieces_of line
pieces_words line words plain e =
    sym (words_behind words) ∙ ap (map Word) e ∙ sym (ap (λ (b : Bool). cond b (Comment ∷ []) (map Word (words_of line))) plain)

-- a line of words behind the header
pub words_line : (line : List ℕ) (words : List (Bor (List ℕ))) (old new : Body) (fits : Bool) → is_comment line ≡ false → map (λ (w : Bor (List ℕ)). w.now) words ≡ words_of line → MatchBool fits (Leads Continues old (map (λ (w : Bor (List ℕ)). Word w.now) words) new) (IsStuck Continues old (map (λ (w : Bor (List ℕ)). Word w.now) words)) → MatchBool fits (Leads Continues old (pieces_of line) new) (IsStuck Continues old (pieces_of line))
words_line line words old new true plain e h = subst (λ (ps : List Piece). Leads Continues old ps new) (pieces_words line words plain e) h
words_line line words old new false plain e h = subst (λ (ps : List Piece). IsStuck Continues old ps) (pieces_words line words plain e) h

-- what becomes of a line that is no comment and has words, before the header
pub begun_line : (line : List ℕ) (body : Option Body) (fits : Bool) → is_comment line ≡ false → (words_of line ≡ [] → ⊥) → fits ≡ is_some body → IfSome body (Begins (words_of line)) → IfNone body ((vars count : ℕ) → Heads (words_of line) vars count → ⊥) → MatchBool fits (Leads Follows None (line ∷ []) body) (IsStuck Follows None (line ∷ []))
begun_line line (Some body) true plain some e begins none = begin_leads line body plain begins
begun_line line (Some body) false plain some e begins none = absurd (false≢true e)
begun_line line None true plain some e begins none = absurd (true≢false e)
begun_line line None false plain some e begins none = none_stuck line plain some none
