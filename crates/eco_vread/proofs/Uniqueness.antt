-- A text is that of one file at most, and so of one netlist at most.
use Rattle.std.proofs.Common.{◌≡◌, ℕ, List, [], ◌∷◌, ◌++◌, length, ap, subst, sym, ◌∙◌, Some, None, codes, arith, inl, inr, append_assoc, length-append}
use Rattle.std.specs.Prelude.{slice_get}
use Rattle.std.specs.List.{flat_map}
use Rattle.eco_lists.proofs.Places.{slice_get-push_last}
use Rattle.eco_tokens.specs.Ahead.{nothing, tokens_ahead}
use Rattle.eco_tokens.proofs.Ahead.{EndsAtNothing, ahead_tokens, ahead_whole}
use Rattle.eco_meaning.specs.Circuit.{Circuit}
use Rattle.eco_tokens.specs.declared.TokenKind.TheVariants.{Word, Mark}
use Rattle.eco_tokens.specs.Said.{Said}
use Rattle.eco_tokens.specs.Tokens.{AreTokens}
use Rattle.eco_tokens.proofs.Laws.{one_list}
use Rattle.eco_netlist.specs.declared.draft.TargetRule.{TargetRule}
use Rattle.eco_netlist.specs.Draft.{made}
use Rattle.eco_vread.specs.Syntax.{File}
use Rattle.eco_vread.specs.Grammar.{word, mark, spell_name, spell_header, spell_statement, spelling, IsText}
use Rattle.eco_vread.specs.Meaning.{declared_of}
use Rattle.eco_vread.specs.Texts.{IsNetlistText, IsNoText}
use Rattle.eco_vread.specs.Parse.{file_at}
use Rattle.eco_vread.proofs.Files.{file_takes, file_again}

-- the tokens of a text are read as its file
read_of_text : (bytes : List ℕ) (ts : List Said) (f : File) → AreTokens bytes ts → IsText bytes f → file_at ts ≡ Some f
read_of_text bytes ts f tokens text =
    ap file_at (one_list bytes ts (spelling f) tokens text.tokens) ∙ file_again f text.proper

last_same : {X : Type 0} (xs ys : List X) (x y : X) → xs ++ x ∷ [] ≡ ys ++ y ∷ [] → x ≡ y
last_same xs ys x y e =
    let n : length xs ≡ length ys = omega (arith, ap length e, length-append xs (x ∷ []), length-append ys (y ∷ [])) in
    let s : Some x ≡ Some y =
    sym (slice_get-push_last xs x) ∙ ap (λ l. slice_get l (length xs)) e ∙ ap (slice_get (ys ++ y ∷ [])) n ∙ slice_get-push_last ys y in
    cc

-- the tokens of a file but the last, which is `endmodule`
abbrev without_end : File → List Said
without_end f =
    word (codes "module") ∷ (spell_name f.title ++ (spell_header f.header ++ (mark (codes ";") ∷ flat_map spell_statement f.statements)))

spelling_ends : (f : File) → spelling f ≡ without_end f ++ word (codes "endmodule") ∷ []
spelling_ends f =
    let body = flat_map spell_statement f.statements in
    ap (λ ts. word (codes "module") ∷ ts) (sym (append_assoc (spell_name f.title) (spell_header f.header ++ (mark (codes ";") ∷ body)) _
    ∙ ap (λ ts. spell_name f.title ++ ts) (append_assoc (spell_header f.header) (mark (codes ";") ∷ body) _)))

-- where a file is read, no byte stops the reader
no_end_at_nothing : (bytes : List ℕ) (f : File) → tokens_ahead bytes ≡ spelling f → EndsAtNothing bytes → ⊥
no_end_at_nothing bytes f is ends =
    let e : nothing ≡ word (codes "endmodule") = last_same ends.front (without_end f) _ _ (sym ends.is ∙ is ∙ spelling_ends f) in
    let kinds : Mark ≡ Word = ap (λ t. t.kind) e in
    absurd (cc)

-- what is read of the tokens ahead is the file whose text the bytes are
pub text_of_read : (bytes : List ℕ) (f : File) → file_at (tokens_ahead bytes) ≡ Some f → IsText bytes f
text_of_read bytes f h =
    let w = file_takes (tokens_ahead bytes) f h in
    elim (ahead_whole bytes) [
      | inl tokens ↦ record { tokens = subst (AreTokens bytes) w.0 tokens; proper = w.1 }
      | inr ends ↦ absurd (no_end_at_nothing bytes f w.0 ends)
    ]

-- bytes of which no file is read are no text
pub no_text_of_none : (bytes : List ℕ) → file_at (tokens_ahead bytes) ≡ None → IsNoText bytes
no_text_of_none bytes h f text =
    let e : None ≡ Some f = sym h ∙ ap file_at (ahead_tokens bytes (spelling f) text.tokens) ∙ file_again f text.proper in
    absurd (cc)

-- a text is that of one file at most
pub one_file : (bytes : List ℕ) (a b : File) → IsText bytes a → IsText bytes b → a ≡ b
one_file bytes a b first second =
    let e : Some b ≡ Some a = sym (read_of_text bytes (spelling a) b first.tokens second) ∙ file_again a first.proper in
    cc

-- under a rule a text is that of one netlist at most
pub one_netlist : (rule : TargetRule) (bytes : List ℕ) (a b : Circuit) → IsNetlistText rule bytes a → IsNetlistText rule bytes b → a ≡ b
one_netlist rule bytes a b first second =
    first.value ∙ ap (λ f. made rule (declared_of f)) (one_file bytes first.file second.file first.text second.text) ∙ sym second.value

-- a text of a netlist is in the grammar
pub netlist_is_text : (rule : TargetRule) (bytes : List ℕ) (n : Circuit) → IsNetlistText rule bytes n → IsNoText bytes → ⊥
netlist_is_text rule bytes n text none = none text.file text.text
