-- Lines of one kind, cut off from the front of lines.
use Rattle.std.proofs.Common.{Bor, ◌≡◌, ◌≢◌, ℕ, ◌+◌, ◌<◌, ◌≤◌, true, false, List, [], ◌∷◌, ◌++◌, Result, Ok, Err, IfOk, IfErr, get_or, length, map, take, drop, All, refl, sym, ap, subst, ◌∙◌, arith, length-append}
use Rattle.std.specs.Prelude.{codes}
use Rattle.std.specs.Global.{Vec}
use Rattle.std.proofs.Math.Seq.{drop-cons}
use Rattle.std.proofs.lemmas.Bool.{true≢false}
use Rattle.std.proofs.lemmas.List.{length-map, map-append, get_or-map, take-map, take_more, take-append-drop}
use Rattle.std.proofs.lemmas.List.Elements.{All-nil, All-cons, All-head, All-tail, All-push, All-take}
use Rattle.eco_aiger.specs.declared.error.Unread.{Unread}
use Rattle.eco_aiger.specs.declared.error.Unread.TheVariants.{Line, OutOfMemory}
use Rattle.eco_lists.proofs.Members.{map-map}
use Rattle.eco_lists.proofs.Places.{pairs_push}
use Rattle.eco_aiger.specs.declared.tree.Symbol.{Symbol as Cut}
use Rattle.eco_aiger.specs.Syntax.{Symbol}
use Rattle.eco_aiger.specs.Defined.{is_in}
use Rattle.eco_aiger.specs.Grammar.{limit, words_of, words_in, symbol_words, IsSymbol, IsEnd}
use Rattle.eco_aiger.specs.Parts.{symbol_of, IfUnread, AreRows, IsSection, IsSymbolRow, AreSymbols, IsBeforeEnd, IsSymbolPart}
use Rattle.eco_aiger.proofs.Rows.{rows_once}
use Rattle.eco_aiger.proofs.SymbolLaws.{symbol_once}
use Rattle.eco_aiger.proofs.SetLaws.{Apart, apart_by, apart_front, apart_behind, not_in_map}

-- what follows from what an error means is what it means
pub unread_more : {P Q : Type 0} (e : Unread) → (P → Q) → IfUnread e P → IfUnread e Q
unread_more (Line n) h p = h p
unread_more OutOfMemory h p = tt

-- what is so is what an error means
pub unread_known : {P : Type 0} (e : Unread) → P → IfUnread e P
unread_known (Line n) p = p
unread_known OutOfMemory p = tt

-- two cuts with fronts of one length are one
pub same_cut : {X : Type 0} (a b c d : List X) → a ++ b ≡ c ++ d → length a ≡ length c → (a ≡ c) × (b ≡ d)
same_cut [] b [] d e l = (refl, e)
same_cut [] b (y ∷ c) d e l = absurd (omega arith)
same_cut (x ∷ a) b [] d e l = absurd (omega arith)
same_cut (x ∷ a) b (y ∷ c) d e l =
    let first : x ≡ y = cc e in
    let more : a ++ b ≡ c ++ d = cc e in
    let rest = same_cut a b c d more (omega arith) in
    (cc (first, rest.0), rest.1)

-- lines behind references, cut in two
pub seen_cut : (lines front rest : List (Bor (List ℕ))) → lines ≡ front ++ rest → map (λ line. line.now) lines ≡ map (λ line. line.now) front ++ map (λ line. line.now) rest
seen_cut lines front rest e = ap (map (λ (line : Bor (List ℕ)). line.now)) e ∙ map-append (λ (line : Bor (List ℕ)). line.now) front rest

module _ {X : Type 0} (row : X → List (List ℕ)) (P : X → Type 0) where
  -- there are as many lines as things that they say
  pub rows_length : (rows : List (List ℕ)) (xs : List X) → AreRows row P rows xs → length rows ≡ length xs
  rows_length rows xs are = sym (length-map rows words_of) ∙ ap length are.words ∙ length-map xs row

  -- where there are fewer lines, there are not so many things
  pub section_short : (rows : List (List ℕ)) (count : ℕ) → length rows < count → (xs : List X) (rest : List (List ℕ)) → IsSection row P rows count xs rest → ⊥
  section_short rows count lt xs rest s =
      let all = ap length s.cut ∙ length-append s.front rest in
      let front = rows_length s.front xs s.are in
      let number = s.number in
      omega arith

  -- where the first lines are none of these, the section is not
  pub section_none : (rows front rest : List (List ℕ)) (count : ℕ) → rows ≡ front ++ rest → length front ≡ count → ((xs : List X) → AreRows row P front xs → ⊥) → (xs : List X) (other : List (List ℕ)) → IsSection row P rows count xs other → ⊥
  section_none rows front rest count cut long none xs other s =
      let same = same_cut s.front other front rest (sym s.cut ∙ cut) (rows_length s.front xs s.are ∙ s.number ∙ sym long) in
      none xs (subst (λ lines. AreRows row P lines xs) same.0 s.are)

  -- the same, where the lines stand behind references
  pub section_none_at : (lines front rest : List (Bor (List ℕ))) (count : ℕ) → lines ≡ front ++ rest → length front ≡ count → ((xs : List X) → AreRows row P (map (λ line. line.now) front) xs → ⊥) → (xs : List X) (other : List (List ℕ)) → IsSection row P (map (λ line. line.now) lines) count xs other → ⊥
  section_none_at lines front rest count cut long none =
      section_none (map (λ line. line.now) lines) (map (λ line. line.now) front) (map (λ line. line.now) rest) count (seen_cut lines front rest cut) (length-map front (λ (line : Bor (List ℕ)). line.now) ∙ long) none

  -- two sections of one number leave one rest
  pub section_rest : (rows : List (List ℕ)) (count : ℕ) (xs ys : List X) (rest other : List (List ℕ)) → IsSection row P rows count xs rest → IsSection row P rows count ys other → rest ≡ other
  section_rest rows count xs ys rest other s t =
      (same_cut s.front rest t.front other (sym s.cut ∙ t.cut) (rows_length s.front xs s.are ∙ s.number ∙ sym t.number ∙ sym (rows_length t.front ys t.are))).1

-- no line of symbols begins a comment
pub symbols_no_comment : (inputs ports : ℕ) (rows : List (List ℕ)) (symbols : List Symbol) → AreRows (symbol_words inputs) (IsSymbol ports) rows symbols → All (λ line. line ≡ codes "c" → ⊥) rows
symbols_no_comment inputs ports [] symbols are = All-nil (λ line. line ≡ codes "c" → ⊥)
symbols_no_comment inputs ports (r ∷ rows) [] are = let e = are.words in absurd (cc e)
symbols_no_comment inputs ports (r ∷ rows) (s ∷ symbols) are =
    let e = are.words in
    let first : words_of r ≡ symbol_words inputs s = cc e in
    let rest : words_in rows ≡ map (symbol_words inputs) symbols = cc e in
    All-cons (λ line. line ≡ codes "c" → ⊥) r rows
    (λ is. let two : symbol_words inputs s ≡ codes "c" ∷ [] = sym first ∙ ap words_of is in absurd (cc two))
    (symbols_no_comment inputs ports rows symbols (record { words = rest; all = All-tail (IsSymbol ports) s symbols are.all }))

-- two fronts without a comment, behind which there is the end or one, are one
pub same_front : (a b c d : List (List ℕ)) → a ++ b ≡ c ++ d → All (λ line. line ≡ codes "c" → ⊥) a → All (λ line. line ≡ codes "c" → ⊥) c → IsEnd b → IsEnd d → a ≡ c
same_front [] b [] d e p q f g = refl
same_front [] [] (y ∷ c) d e p q f g = absurd (cc e)
same_front [] (x ∷ b) (y ∷ c) d e p q f g =
    let first : x ≡ y = cc e in
    absurd (All-head (λ line. line ≡ codes "c" → ⊥) y c q (sym first ∙ f))
same_front (x ∷ a) b [] [] e p q f g = absurd (cc e)
same_front (x ∷ a) b [] (y ∷ d) e p q f g =
    let first : x ≡ y = cc e in
    absurd (All-head (λ line. line ≡ codes "c" → ⊥) x a p (first ∙ g))
same_front (x ∷ a) b (y ∷ c) d e p q f g =
    let first : x ≡ y = cc e in
    let more : a ++ b ≡ c ++ d = cc e in
    let rest = same_front a b c d more (All-tail (λ line. line ≡ codes "c" → ⊥) x a p) (All-tail (λ line. line ≡ codes "c" → ⊥) y c q) f g in
    cc (first, rest)

-- the symbols of the lines before the end are those of the lines
pub symbols_found : (inputs outputs : ℕ) (rows : List (List ℕ)) (count : ℕ) (symbols : List Symbol) → IsBeforeEnd rows count → AreSymbols inputs outputs (take count rows) symbols → IsSymbolPart inputs outputs rows symbols
symbols_found inputs outputs rows count symbols b are = record { front = take count rows; end = b.end; cut = b.cut; ended = b.ended; are = are }

pub symbols_none : (inputs outputs : ℕ) (rows : List (List ℕ)) (count : ℕ) → IsBeforeEnd rows count → ((symbols : List Symbol) → AreSymbols inputs outputs (take count rows) symbols → ⊥) → (symbols : List Symbol) → IsSymbolPart inputs outputs rows symbols → ⊥
symbols_none inputs outputs rows count b none symbols part =
    let same = same_front part.front part.end (take count rows) b.end (sym part.cut ∙ b.cut) (symbols_no_comment inputs (inputs + outputs) part.front symbols part.are.are) b.before part.ended b.ended in
    none symbols (subst (λ lines. AreSymbols inputs outputs lines symbols) same part.are)

-- the same of what the reader finds
pub symbols_ok : (inputs outputs : ℕ) (lines front : List (Bor (List ℕ))) (count : ℕ) → front ≡ take count lines → IsBeforeEnd (map (λ line. line.now) lines) count → (r : Result (Vec Cut) Unread) → IfOk r (λ list. AreSymbols inputs outputs (map (λ line. line.now) front) (map symbol_of list.items)) → IfOk r (λ list. IsSymbolPart inputs outputs (map (λ line. line.now) lines) (map symbol_of list.items))
symbols_ok inputs outputs lines front count cut b (Ok list) are =
    symbols_found inputs outputs (map (λ line. line.now) lines) count (map symbol_of list.items) b
    (subst (λ l. AreSymbols inputs outputs l (map symbol_of list.items)) (ap (map (λ (line : Bor (List ℕ)). line.now)) cut ∙ sym (take-map (λ (line : Bor (List ℕ)). line.now) count lines)) are)
symbols_ok inputs outputs lines front count cut b (Err e) are = tt

pub symbols_err : (inputs outputs : ℕ) (lines front : List (Bor (List ℕ))) (count : ℕ) → front ≡ take count lines → IsBeforeEnd (map (λ line. line.now) lines) count → (r : Result (Vec Cut) Unread) → IfErr r (λ e. IfUnread e ((list : List Symbol) → AreSymbols inputs outputs (map (λ line. line.now) front) list → ⊥)) → IfErr r (λ e. IfUnread e ((list : List Symbol) → IsSymbolPart inputs outputs (map (λ line. line.now) lines) list → ⊥))
symbols_err inputs outputs lines front count cut b (Ok list) none = tt
symbols_err inputs outputs lines front count cut b (Err e) none =
    unread_more e
    (λ h. symbols_none inputs outputs (map (λ line. line.now) lines) count b
    (λ list are. h list (subst (λ l. AreSymbols inputs outputs l list) (sym (ap (map (λ (line : Bor (List ℕ)). line.now)) cut ∙ sym (take-map (λ (line : Bor (List ℕ)). line.now) count lines))) are)))
    none

-- the lines before the first that begins a comment
pub before_at : (lines : List (Bor (List ℕ))) (k : ℕ) (d : Bor (List ℕ)) → k < length lines → (get_or lines k d).now ≡ codes "c" → All (λ line. line ≡ codes "c" → ⊥) (map (λ line. line.now) (take k lines)) → IsBeforeEnd (map (λ line. line.now) lines) k
before_at lines k d lt is before =
    let rows = map (λ (line : Bor (List ℕ)). line.now) lines in
    let long : length rows ≡ length lines = length-map lines (λ (line : Bor (List ℕ)). line.now) in
    let inside : k < length rows = omega arith in
    let at : get_or rows k d.now ≡ (get_or lines k d).now = get_or-map (λ (line : Bor (List ℕ)). line.now) lines k d d.now lt in
    record {
      end = drop k rows;
      cut = sym (take-append-drop k rows);
      ended = subst IsEnd (sym (drop-cons rows k d.now inside)) (at ∙ is);
      before = subst (All (λ line. line ≡ codes "c" → ⊥)) (sym (take-map (λ (line : Bor (List ℕ)). line.now) k lines)) before;
      within = omega arith;
    }

-- one line more
pub rows_push : {X : Type 0} (row : X → List (List ℕ)) (P : X → Type 0) (lines : List (Bor (List ℕ))) (k : ℕ) (d : Bor (List ℕ)) (xs : List X) (x : X) → k < length lines → AreRows row P (map (λ line. line.now) (take k lines)) xs → (words_of (get_or lines k d).now ≡ row x) × P x → AreRows row P (map (λ line. line.now) (take (k + 1) lines)) (xs ++ x ∷ [])
rows_push row P lines k d xs x lt are is =
    let more : map (λ (line : Bor (List ℕ)). line.now) (take (k + 1) lines) ≡ map (λ (line : Bor (List ℕ)). line.now) (take k lines) ++ (get_or lines k d).now ∷ [] = ap (map (λ (line : Bor (List ℕ)). line.now)) (take_more lines k d lt) ∙ map-append (λ (line : Bor (List ℕ)). line.now) (take k lines) (get_or lines k d ∷ []) in
    record {
      words = ap words_in more ∙ map-append words_of (map (λ (line : Bor (List ℕ)). line.now) (take k lines)) ((get_or lines k d).now ∷ []) ∙ cc (are.words, is.0) ∙ sym (map-append row xs (x ∷ []));
      all = All-push P xs x are.all is.1;
    }

-- the first lines say the first things
pub rows_take : {X : Type 0} (row : X → List (List ℕ)) (P : X → Type 0) (rows : List (List ℕ)) (xs : List X) (k : ℕ) → AreRows row P rows xs → AreRows row P (take k rows) (take k xs)
rows_take row P rows xs k are = record {
  words = sym (take-map words_of k rows) ∙ ap (take k) are.words ∙ take-map row k xs;
  all = All-take P k xs are.all;
}

-- one symbol more
pub symbols_push : (inputs outputs : ℕ) (lines : List (Bor (List ℕ))) (k : ℕ) (d : Bor (List ℕ)) (done : List Cut) (symbol : Cut) → k < length lines → AreSymbols inputs outputs (map (λ line. line.now) (take k lines)) (map symbol_of done) → IsSymbolRow inputs outputs (words_of (get_or lines k d).now) (symbol_of symbol) → is_in (map (λ s. s.port) done) symbol.port ≡ false → AreSymbols inputs outputs (map (λ line. line.now) (take (k + 1) lines)) (map symbol_of (done ++ symbol ∷ []))
symbols_push inputs outputs lines k d done symbol lt are is new =
    let same : map symbol_of done ++ symbol_of symbol ∷ [] ≡ map symbol_of (done ++ symbol ∷ []) = sym (map-append symbol_of done (symbol ∷ [])) in
    let ports : map (λ (s : Symbol). s.port) (map symbol_of done) ≡ map (λ (s : Cut). s.port) done = map-map symbol_of (λ (s : Symbol). s.port) done in
    subst (AreSymbols inputs outputs (map (λ line. line.now) (take (k + 1) lines))) same record {
      are = rows_push (symbol_words inputs) (IsSymbol (inputs + outputs)) lines k d (map symbol_of done) (symbol_of symbol) lt are.are is;
      once = pairs_push (λ s t. s.port ≢ t.port) (map symbol_of done) (symbol_of symbol) are.once (not_in_map (λ (s : Symbol). s.port) (map symbol_of done) symbol.port (ap (λ l. is_in l symbol.port) ports ∙ new));
    }

-- where a port has a symbol already, the lines are no symbols
pub symbols_repeat : (inputs outputs : ℕ) (lines : List (Bor (List ℕ))) (k : ℕ) (d : Bor (List ℕ)) (done : List Cut) (symbol : Cut) → inputs ≤ limit → outputs ≤ limit → k < length lines → AreSymbols inputs outputs (map (λ line. line.now) (take k lines)) (map symbol_of done) → IsSymbolRow inputs outputs (words_of (get_or lines k d).now) (symbol_of symbol) → is_in (map (λ s. s.port) done) symbol.port ≡ true → (list : List Symbol) → AreSymbols inputs outputs (map (λ line. line.now) lines) list → ⊥
symbols_repeat inputs outputs lines k d done symbol small_in small_out lt are is old list all =
    let ports = λ (s : Symbol). s.port in
    let first = rows_push (symbol_words inputs) (IsSymbol (inputs + outputs)) lines k d (map symbol_of done) (symbol_of symbol) lt are.are is in
    let front = rows_take (symbol_words inputs) (IsSymbol (inputs + outputs)) (map (λ line. line.now) lines) list (k + 1) all.are in
    let again = subst (λ l. AreRows (symbol_words inputs) (IsSymbol (inputs + outputs)) l (take (k + 1) list)) (take-map (λ (line : Bor (List ℕ)). line.now) (k + 1) lines) front in
    let same = rows_once (symbol_words inputs) (IsSymbol (inputs + outputs)) (symbol_once inputs (inputs + outputs) (omega arith)) (map (λ line. line.now) (take (k + 1) lines)) (take (k + 1) list) (map symbol_of done ++ symbol_of symbol ∷ []) again first in
    let whole : map ports list ≡ map ports (take (k + 1) list) ++ map ports (drop (k + 1) list) = ap (map ports) (sym (take-append-drop (k + 1) list)) ∙ map-append ports (take (k + 1) list) (drop (k + 1) list) in
    let apart = apart_front (map ports (take (k + 1) list)) (map ports (drop (k + 1) list)) (subst Apart whole (apart_by ports list all.once)) in
    let spelled : map ports (take (k + 1) list) ≡ map (λ (s : Cut). s.port) done ++ symbol.port ∷ [] = ap (map ports) same ∙ map-append ports (map symbol_of done) (symbol_of symbol ∷ []) ∙ ap (λ l. l ++ symbol.port ∷ []) (map-map symbol_of ports done) in
    let new = apart_behind (map (λ (s : Cut). s.port) done) symbol.port [] (subst Apart spelled apart) in
    true≢false (sym old ∙ new)
