-- A text is that of one file at most, and so of one netlist at most.
use Rattle.std.proofs.Common.{◌≡◌, ℕ, ◌+◌, ◌≤◌, List, sym, ap, subst, ◌∙◌, arith}
use Rattle.std.specs.Str.Lines.{lines}
use Rattle.std.proofs.lemmas.Fmt.{decimal_injective}
use Rattle.eco_meaning.specs.Circuit.{Circuit}
use Rattle.eco_netlist.specs.declared.draft.TargetRule.TheVariants.{Never}
use Rattle.eco_netlist.specs.Draft.{made}
use Rattle.eco_aiger.specs.declared.tree.AndLine.{AndLine}
use Rattle.eco_aiger.specs.declared.tree.Header.{Header}
use Rattle.eco_aiger.specs.Syntax.{Symbol, File}
use Rattle.eco_aiger.specs.Grammar.{limit, words_of, literal_words, and_words, symbol_words, IsLiteral, IsPlain, IsAnd, IsSymbol, IsText}
use Rattle.eco_aiger.specs.Meaning.{declared_of}
use Rattle.eco_aiger.specs.Texts.{IsAigerText}
use Rattle.eco_aiger.specs.Parts.{AreRows, IsSection, IsSymbolPart, IsHeader, IsBody, AreLines}
use Rattle.eco_aiger.proofs.Rows.{rows_once}
use Rattle.eco_aiger.proofs.SymbolLaws.{symbol_once}
use Rattle.eco_aiger.proofs.SectionLaws.{same_cut, rows_length, same_front, symbols_no_comment}
use Rattle.eco_aiger.proofs.Bodies.{header_once, lines_of_text}

-- a line is one literal, and one and-line
literal_once : (x y : ℕ) → x ≤ limit → y ≤ limit → literal_words x ≡ literal_words y → x ≡ y
literal_once x y small_x small_y e = decimal_injective x y (omega arith) (omega arith) (cc e)

and_once : (top : ℕ) (x y : AndLine) → IsAnd top x → IsAnd top y → and_words x ≡ and_words y → x ≡ y
and_once top x y a b e =
    let x1 = a.left_is.literal_is.small in
    let x2 = a.first_is.small in
    let x3 = a.second_is.small in
    let y1 = b.left_is.literal_is.small in
    let y2 = b.first_is.small in
    let y3 = b.second_is.small in
    let left = decimal_injective x.left y.left (omega arith) (omega arith) (cc e) in
    let first = decimal_injective x.first y.first (omega arith) (omega arith) (cc e) in
    let second = decimal_injective x.second y.second (omega arith) (omega arith) (cc e) in
    (λ i. record { left = left i; first = first i; second = second i })

-- a section is one list, with one rest
section_once : {X : Type 0} (row : X → List (List ℕ)) (P : X → Type 0) → ((x y : X) → P x → P y → row x ≡ row y → x ≡ y) → (rows : List (List ℕ)) (count : ℕ) (xs ys : List X) (rest other : List (List ℕ)) → IsSection row P rows count xs rest → IsSection row P rows count ys other → (xs ≡ ys) × (rest ≡ other)
section_once row P once rows count xs ys rest other s t =
    let same = same_cut s.front rest t.front other (sym s.cut ∙ t.cut) (rows_length row P s.front xs s.are ∙ s.number ∙ sym t.number ∙ sym (rows_length row P t.front ys t.are)) in
    (rows_once row P once t.front xs ys (subst (λ l. AreRows row P l xs) same.0 s.are) t.are, same.1)

symbols_once : (inputs outputs : ℕ) → inputs ≤ limit → outputs ≤ limit → (rows : List (List ℕ)) (xs ys : List Symbol) → IsSymbolPart inputs outputs rows xs → IsSymbolPart inputs outputs rows ys → xs ≡ ys
symbols_once inputs outputs small_in small_out rows xs ys s t =
    let same = same_front s.front s.end t.front t.end (sym s.cut ∙ t.cut) (symbols_no_comment inputs (inputs + outputs) s.front xs s.are.are) (symbols_no_comment inputs (inputs + outputs) t.front ys t.are.are) s.ended t.ended in
    rows_once (symbol_words inputs) (IsSymbol (inputs + outputs)) (symbol_once inputs (inputs + outputs) (omega arith)) t.front xs ys
    (subst (λ l. AreRows (symbol_words inputs) (IsSymbol (inputs + outputs)) l xs) same s.are.are) t.are.are

body_once : (h : Header) → h.inputs ≤ limit → h.outputs ≤ limit → (rows : List (List ℕ)) (f g : File) → IsBody h rows f → IsBody h rows g → f ≡ g
body_once h small_in small_out rows f g a b =
    let plain = λ (x y : ℕ) (p : IsPlain h.top x) (q : IsPlain h.top y) (e : literal_words x ≡ literal_words y). literal_once x y p.literal_is.small q.literal_is.small e in
    let any = λ (x y : ℕ) (p : IsLiteral h.top x) (q : IsLiteral h.top y) (e : literal_words x ≡ literal_words y). literal_once x y p.small q.small e in
    let ins = section_once literal_words (IsPlain h.top) plain rows h.inputs f.inputs g.inputs a.behind_inputs b.behind_inputs a.inputs b.inputs in
    let outs = section_once literal_words (IsLiteral h.top) any b.behind_inputs h.outputs f.outputs g.outputs a.behind_outputs b.behind_outputs (subst (λ r. IsSection literal_words (IsLiteral h.top) r h.outputs f.outputs a.behind_outputs) ins.1 a.outputs) b.outputs in
    let ands = section_once and_words (IsAnd h.top) (and_once h.top) b.behind_outputs h.ands f.ands g.ands a.behind_ands b.behind_ands (subst (λ r. IsSection and_words (IsAnd h.top) r h.ands f.ands a.behind_ands) outs.1 a.ands) b.ands in
    let symbols = symbols_once h.inputs h.outputs small_in small_out b.behind_ands f.symbols g.symbols (subst (λ r. IsSymbolPart h.inputs h.outputs r f.symbols) ands.1 a.symbols) b.symbols in
    let top = a.top ∙ sym b.top in
    (λ i. record { top = top i; inputs = ins.0 i; outputs = outs.0 i; ands = ands.0 i; symbols = symbols i })

lines_once : (rows : List (List ℕ)) (f g : File) → AreLines rows f → AreLines rows g → f ≡ g
lines_once rows f g a b =
    let both = sym a.cut ∙ b.cut in
    let head : a.first ≡ b.first = cc both in
    let rest : a.rest ≡ b.rest = cc both in
    let same = header_once (words_of b.first) a.header b.header (subst (λ w. IsHeader (words_of w) a.header) head a.header_is) b.header_is in
    body_once b.header b.header_is.inputs_small b.header_is.outputs_small b.rest f g (subst (λ h. IsBody h b.rest f) same (subst (λ r. IsBody a.header r f) rest a.body)) b.body

-- a text is that of one file at most
pub one_file : (bytes : List ℕ) (f g : File) → IsText bytes f → IsText bytes g → f ≡ g
one_file bytes f g a b = lines_once (lines bytes) f g (lines_of_text bytes f a) (lines_of_text bytes g b)

pub one_netlist : (bytes : List ℕ) (n m : Circuit) → IsAigerText bytes n → IsAigerText bytes m → n ≡ m
one_netlist bytes n m a b =
    a.netlist.value ∙ ap (λ f. made Never (declared_of f)) (one_file bytes a.file b.file a.text b.text) ∙ sym b.netlist.value
