-- From lines to a file, and from a file to its text.
use Rattle.std.proofs.Common.{◌≡◌, ℕ, ◌<◌, ◌≤◌, true, false, List, [], ◌∷◌, ◌++◌, Bor, Option, IfNone, get_or, drop, Result, Ok, Err, IfErr, length, map, All, refl, sym, ap, subst, ◌∙◌, arith, append_assoc}
use Rattle.std.specs.Prelude.{codes, decimal}
use Rattle.std.specs.Str.Lines.{lines}
use Rattle.std.proofs.lemmas.List.{map-append}
use Rattle.eco_aiger.specs.declared.tree.AndLine.{AndLine}
use Rattle.eco_aiger.specs.declared.tree.Header.{Header}
use Rattle.eco_aiger.specs.Syntax.{Symbol, File}
use Rattle.eco_aiger.specs.Grammar.{words_of, words_in, literal_words, and_words, symbol_words, header_words, spelling, IsLiteral, IsPlain, IsAnd, IsSymbol, IsText}
use Rattle.eco_aiger.specs.Parts.{IsOfForm, IsSection, IsSymbolPart, IsHeader, IsBody, AreLines}
use Rattle.std.proofs.lemmas.Fmt.{decimal_injective}
use Rattle.eco_aiger.specs.declared.error.Unread.{Unread}
use Rattle.eco_aiger.specs.declared.tree.Tree.{Tree}
use Rattle.eco_aiger.specs.Parts.{IfUnread}
use Rattle.eco_aiger.proofs.SectionLaws.{section_rest, unread_more}

-- where the first section is none there is no file
pub no_inputs : (h : Header) (rows : List (List ℕ)) → ((xs : List ℕ) (rest : List (List ℕ)) → IsSection literal_words (IsOfForm true h.top) rows h.inputs xs rest → ⊥) → (f : File) → IsBody h rows f → ⊥
no_inputs h rows none f b = none f.inputs b.behind_inputs b.inputs

-- the same for the section behind the inputs
pub no_outputs : (h : Header) (rows : List (List ℕ)) (ins : List ℕ) (behind : List (List ℕ)) → IsSection literal_words (IsOfForm true h.top) rows h.inputs ins behind → ((xs : List ℕ) (rest : List (List ℕ)) → IsSection literal_words (IsOfForm false h.top) behind h.outputs xs rest → ⊥) → (f : File) → IsBody h rows f → ⊥
no_outputs h rows ins behind s none f b =
    let same = section_rest literal_words (IsPlain h.top) rows h.inputs f.inputs ins b.behind_inputs behind b.inputs s in
    none f.outputs b.behind_outputs (subst (λ r. IsSection literal_words (IsLiteral h.top) r h.outputs f.outputs b.behind_outputs) same b.outputs)

-- behind the outputs
behind_outputs_same : (h : Header) (rows : List (List ℕ)) (ins : List ℕ) (behind : List (List ℕ)) (outs : List ℕ) (more : List (List ℕ)) → IsSection literal_words (IsOfForm true h.top) rows h.inputs ins behind → IsSection literal_words (IsOfForm false h.top) behind h.outputs outs more → (f : File) (b : IsBody h rows f) → b.behind_outputs ≡ more
behind_outputs_same h rows ins behind outs more s t f b =
    let same = section_rest literal_words (IsPlain h.top) rows h.inputs f.inputs ins b.behind_inputs behind b.inputs s in
    section_rest literal_words (IsLiteral h.top) behind h.outputs f.outputs outs b.behind_outputs more
    (subst (λ r. IsSection literal_words (IsLiteral h.top) r h.outputs f.outputs b.behind_outputs) same b.outputs) t

pub no_ands : (h : Header) (rows : List (List ℕ)) (ins : List ℕ) (behind : List (List ℕ)) (outs : List ℕ) (more : List (List ℕ)) → IsSection literal_words (IsOfForm true h.top) rows h.inputs ins behind → IsSection literal_words (IsOfForm false h.top) behind h.outputs outs more → ((xs : List AndLine) (rest : List (List ℕ)) → IsSection and_words (IsAnd h.top) more h.ands xs rest → ⊥) → (f : File) → IsBody h rows f → ⊥
no_ands h rows ins behind outs more s t none f b =
    none f.ands b.behind_ands
    (subst (λ r. IsSection and_words (IsAnd h.top) r h.ands f.ands b.behind_ands) (behind_outputs_same h rows ins behind outs more s t f b) b.ands)

-- behind the and-lines
pub no_symbols : (h : Header) (rows : List (List ℕ)) (ins : List ℕ) (behind : List (List ℕ)) (outs : List ℕ) (more : List (List ℕ)) (ands : List AndLine) (last : List (List ℕ)) → IsSection literal_words (IsOfForm true h.top) rows h.inputs ins behind → IsSection literal_words (IsOfForm false h.top) behind h.outputs outs more → IsSection and_words (IsAnd h.top) more h.ands ands last → ((xs : List Symbol) → IsSymbolPart h.inputs h.outputs last xs → ⊥) → (f : File) → IsBody h rows f → ⊥
no_symbols h rows ins behind outs more ands last s t u none f b =
    let same = section_rest and_words (IsAnd h.top) more h.ands f.ands ands b.behind_ands last
    (subst (λ r. IsSection and_words (IsAnd h.top) r h.ands f.ands b.behind_ands) (behind_outputs_same h rows ins behind outs more s t f b) b.ands) u in
    none f.symbols (subst (λ r. IsSymbolPart h.inputs h.outputs r f.symbols) same b.symbols)

-- the words of two lists of lines
words_append : (a b : List (List ℕ)) → words_in (a ++ b) ≡ words_in a ++ words_in b
words_append a b = map-append words_of a b

-- the words of a header of a file's numbers are the file's
header_same : (h : Header) (f : File) → f.top ≡ h.top → length f.inputs ≡ h.inputs → length f.outputs ≡ h.outputs → length f.ands ≡ h.ands → (codes "aag" ∷ decimal h.top ∷ decimal h.inputs ∷ codes "0" ∷ decimal h.outputs ∷ decimal h.ands ∷ []) ≡ header_words f
header_same h f top ins outs ands = cc (top, ins, outs, ands)

-- words are a header of one kind
pub header_once : (words : List (List ℕ)) (h g : Header) → IsHeader words h → IsHeader words g → h ≡ g
header_once words h g a b =
    let e = sym a.text ∙ b.text in
    let h1 = a.top_small in
    let h2 = a.inputs_small in
    let h3 = a.outputs_small in
    let h4 = a.ands_small in
    let g1 = b.top_small in
    let g2 = b.inputs_small in
    let g3 = b.outputs_small in
    let g4 = b.ands_small in
    let top = decimal_injective h.top g.top (omega arith) (omega arith) (cc e) in
    let ins = decimal_injective h.inputs g.inputs (omega arith) (omega arith) (cc e) in
    let outs = decimal_injective h.outputs g.outputs (omega arith) (omega arith) (cc e) in
    let ands = decimal_injective h.ands g.ands (omega arith) (omega arith) (cc e) in
    (λ i. record { top = top i; inputs = ins i; outputs = outs i; ands = ands i })

-- lines of a file are a text of it
pub text_of_lines : (bytes : List ℕ) (f : File) → AreLines (lines bytes) f → IsText bytes f
text_of_lines bytes f l =
    let b = l.body in
    let h = l.header in
    let part = b.symbols in
    let w1 = b.inputs.front in
    let w2 = b.outputs.front in
    let w3 = b.ands.front in
    let w4 = part.front in
    let ins = b.inputs.number in
    let outs = b.outputs.number in
    let ands = b.ands.number in
    let symbol_row : symbol_words h.inputs ≡ symbol_words (length f.inputs) = ap symbol_words (sym ins) in
    let cut4 : b.behind_ands ≡ w4 ++ part.end = part.cut in
    let cut3 : b.behind_outputs ≡ w3 ++ (w4 ++ part.end) = b.ands.cut ∙ ap (λ r. w3 ++ r) cut4 in
    let cut2 : b.behind_inputs ≡ w2 ++ (w3 ++ (w4 ++ part.end)) = b.outputs.cut ∙ ap (λ r. w2 ++ r) cut3 in
    let cut1 : l.rest ≡ w1 ++ (w2 ++ (w3 ++ (w4 ++ part.end))) = b.inputs.cut ∙ ap (λ r. w1 ++ r) cut2 in
    let joined : w1 ++ (w2 ++ (w3 ++ (w4 ++ part.end))) ≡ (w1 ++ (w2 ++ (w3 ++ w4))) ++ part.end = simp append_assoc in
    let head : words_of l.first ≡ header_words f = l.header_is.text ∙ header_same h f b.top ins outs ands in
    let words4 : words_in w4 ≡ map (symbol_words (length f.inputs)) f.symbols = part.are.are.words ∙ ap (λ r. map r f.symbols) symbol_row in
    let words3 : words_in (w3 ++ w4) ≡ map and_words f.ands ++ map (symbol_words (length f.inputs)) f.symbols = words_append w3 w4 ∙ cc (b.ands.are.words, words4) in
    let words2 : words_in (w2 ++ (w3 ++ w4)) ≡ map literal_words f.outputs ++ (map and_words f.ands ++ map (symbol_words (length f.inputs)) f.symbols) = words_append w2 (w3 ++ w4) ∙ cc (b.outputs.are.words, words3) in
    let words1 : words_in (w1 ++ (w2 ++ (w3 ++ w4))) ≡ map literal_words f.inputs ++ (map literal_words f.outputs ++ (map and_words f.ands ++ map (symbol_words (length f.inputs)) f.symbols)) = words_append w1 (w2 ++ (w3 ++ w4)) ∙ cc (b.inputs.are.words, words2) in
    let top = sym b.top in
    let is = l.header_is in
    record {
      front = l.first ∷ (w1 ++ (w2 ++ (w3 ++ w4)));
      end = part.end;
      cut = l.cut ∙ ap (λ r. l.first ∷ r) (cut1 ∙ joined);
      words = cc (head, words1);
      ended = part.ended;
      proper = record {
        top_small = let le = is.top_small in omega arith;
        inputs_small = let le = is.inputs_small in omega arith;
        outputs_small = let le = is.outputs_small in omega arith;
        ands_small = let le = is.ands_small in omega arith;
        inputs_are = subst (λ t. All (IsPlain t) f.inputs) top b.inputs.are.all;
        outputs_are = subst (λ t. All (IsLiteral t) f.outputs) top b.outputs.are.all;
        ands_are = subst (λ t. All (IsAnd t) f.ands) top b.ands.are.all;
        symbols_are = subst (λ n. All (IsSymbol n) f.symbols) (cc (ins, outs)) part.are.are.all;
        named_once = part.are.once;
      };
    }

-- lines whose words are two lists, one behind the other, are two lists of lines
split_words : (rows : List (List ℕ)) (a b : List (List (List ℕ))) → words_in rows ≡ a ++ b → (first : List (List ℕ)) × (second : List (List ℕ)) × (rows ≡ first ++ second) × (words_in first ≡ a) × (words_in second ≡ b)
split_words rows [] b e = ([], rows, refl, refl, e)
split_words [] (x ∷ a) b e = absurd (cc e)
split_words (r ∷ rows) (x ∷ a) b e =
    let first : words_of r ≡ x = cc e in
    let more : words_in rows ≡ a ++ b = cc e in
    let s = split_words rows a b more in
    (r ∷ s.0, s.1, ap (λ l. r ∷ l) s.2, cc (first, s.3), s.4)

-- the lines of a text are lines of its file
pub lines_of_text : (bytes : List ℕ) (f : File) → IsText bytes f → AreLines (lines bytes) f
lines_of_text bytes f t = by t.front t.cut t.words
  where
    by : (front : List (List ℕ)) → lines bytes ≡ front ++ t.end → words_in front ≡ spelling f → AreLines (lines bytes) f
    by [] cut words = absurd (cc words)
    by (first ∷ rest) cut words =
        let p = t.proper in
        let head : words_of first ≡ header_words f = cc words in
        let body : words_in rest ≡ map literal_words f.inputs ++ (map literal_words f.outputs ++ (map and_words f.ands ++ map (symbol_words (length f.inputs)) f.symbols)) = cc words in
        let s = split_words rest (map literal_words f.inputs) (map literal_words f.outputs ++ (map and_words f.ands ++ map (symbol_words (length f.inputs)) f.symbols)) body in
        let u = split_words s.1 (map literal_words f.outputs) (map and_words f.ands ++ map (symbol_words (length f.inputs)) f.symbols) s.4 in
        let v = split_words u.1 (map and_words f.ands) (map (symbol_words (length f.inputs)) f.symbols) u.4 in
        record {
          header = record { top = f.top; inputs = length f.inputs; outputs = length f.outputs; ands = length f.ands };
          first = first;
          rest = rest ++ t.end;
          cut = cut;
          header_is = record { text = head; top_small = p.top_small; inputs_small = p.inputs_small; outputs_small = p.outputs_small; ands_small = p.ands_small };
          body = record {
            top = refl;
            behind_inputs = s.1 ++ t.end;
            behind_outputs = u.1 ++ t.end;
            behind_ands = v.1 ++ t.end;
            inputs = record { front = s.0; cut = ap (λ r. r ++ t.end) s.2 ∙ append_assoc s.0 s.1 t.end; are = record { words = s.3; all = p.inputs_are }; number = refl };
            outputs = record { front = u.0; cut = ap (λ r. r ++ t.end) u.2 ∙ append_assoc u.0 u.1 t.end; are = record { words = u.3; all = p.outputs_are }; number = refl };
            ands = record { front = v.0; cut = ap (λ r. r ++ t.end) v.2 ∙ append_assoc v.0 v.1 t.end; are = record { words = v.3; all = p.ands_are }; number = refl };
            symbols = record { front = v.1; end = t.end; cut = refl; ended = t.ended; are = record { are = record { words = v.4; all = p.symbols_are }; once = p.named_once } };
          };
        }

-- lines that are refused behind their header are no file's
tree_refused : (r : Result Tree Unread) (rows rest : List (List ℕ)) (first : List ℕ) (h : Header) → rows ≡ first ∷ rest → IsHeader (words_of first) h → IfErr r (λ e. IfUnread e ((f : File) → IsBody h rest f → ⊥)) → IfErr r (λ e. IfUnread e ((f : File) → AreLines rows f → ⊥))
tree_refused (Ok t) rows rest first h cut is refused = tt
tree_refused (Err e) rows rest first h cut is refused =
    unread_more e
    (λ none f l.
    let both = sym l.cut ∙ cut in
    let head : l.first ≡ first = cc both in
    let body : l.rest ≡ rest = cc both in
    let same = header_once (words_of first) l.header h (subst (λ w. IsHeader (words_of w) l.header) head l.header_is) is in
    none f (subst (λ g. IsBody g rest f) same (subst (λ r. IsBody l.header r f) body l.body)))
    refused

-- the same, where the lines stand behind references
pub tree_refused_at : (r : Result Tree Unread) (lines rest : List (Bor (List ℕ))) (d : Bor (List ℕ)) (h : Header) → 1 ≤ length lines → rest ≡ drop 1 lines → IsHeader (words_of (get_or lines 0 d).now) h → IfErr r (λ e. IfUnread e ((f : File) → IsBody h (map (λ line. line.now) rest) f → ⊥)) → IfErr r (λ e. IfUnread e ((f : File) → AreLines (map (λ line. line.now) lines) f → ⊥))
tree_refused_at r [] rest d h some cut = absurd (omega arith)
tree_refused_at r (line ∷ lines) rest d h some cut =
    tree_refused r (map (λ l. l.now) (line ∷ lines)) (map (λ l. l.now) rest) line.now h (ap (λ l. line.now ∷ map (λ (m : Bor (List ℕ)). m.now) l) (sym cut))

-- the words of a header, where they stand behind references
six : (xs : List (Bor (List ℕ))) (d : Bor (List ℕ)) → length xs ≡ 6 → map (λ word. word.now) xs ≡ (get_or xs 0 d).now ∷ (get_or xs 1 d).now ∷ (get_or xs 2 d).now ∷ (get_or xs 3 d).now ∷ (get_or xs 4 d).now ∷ (get_or xs 5 d).now ∷ []
six [] d e = absurd (omega arith)
six (x0 ∷ []) d e = absurd (omega arith)
six (x0 ∷ x1 ∷ []) d e = absurd (omega arith)
six (x0 ∷ x1 ∷ x2 ∷ []) d e = absurd (omega arith)
six (x0 ∷ x1 ∷ x2 ∷ x3 ∷ []) d e = absurd (omega arith)
six (x0 ∷ x1 ∷ x2 ∷ x3 ∷ x4 ∷ []) d e = absurd (omega arith)
six (x0 ∷ x1 ∷ x2 ∷ x3 ∷ x4 ∷ x5 ∷ []) d e = refl
six (x0 ∷ x1 ∷ x2 ∷ x3 ∷ x4 ∷ x5 ∷ x6 ∷ xs) d e = absurd (omega arith)

pub no_header_of_six : (xs : List (Bor (List ℕ))) (d : Bor (List ℕ)) → 6 ≤ length xs → length xs < 7 → (r : Option Header) → IfNone r ((h : Header) → IsHeader ((get_or xs 0 d).now ∷ (get_or xs 1 d).now ∷ (get_or xs 2 d).now ∷ (get_or xs 3 d).now ∷ (get_or xs 4 d).now ∷ (get_or xs 5 d).now ∷ []) h → ⊥) → IfNone r ((h : Header) → IsHeader (map (λ word. word.now) xs) h → ⊥)
no_header_of_six xs d le lt r = subst (λ words. IfNone r ((h : Header) → IsHeader words h → ⊥)) (sym (six xs d (omega arith)))
