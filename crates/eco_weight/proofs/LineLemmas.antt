-- What the reader finds in a line is what the line is.
use Rattle.std.proofs.Common.{◌≡◌, ◌≢◌, ℕ, Bool, true, false, List, [], Option, Some, None, IfSome, IfNone, MatchOption, ap, sym, subst, ◌∙◌, inl, inr}
use Rattle.std.specs.List.{list_all}
use Rattle.std.proofs.lemmas.Bool.{false≢true}
use Rattle.eco_lists.specs.Lines.{is_blank}
use Rattle.eco_meaning.specs.Names.{is_name}
use Rattle.eco_weight.specs.Lines.{named_by, Names, IsWeight, IsSound}
use Rattle.eco_weight.specs.Read.{pair_of, ReadsAs}
use Rattle.eco_weight.specs.Words.{IsNextWord}
use Rattle.eco_weight.proofs.WordLemmas.{next_once, words_from, says_from, blank_no_word, name_from_word, word_from_name}

-- a line whose words are no pair is at fault
no_pair : (line word rest digits after : List ℕ) → IsNextWord line word rest → word ≢ [] → IsNextWord rest digits after → ((name : List ℕ) (weight : ℕ) → Names word name → IsWeight digits weight → list_all is_blank after ≡ true → ⊥) → IsSound line → ⊥
no_pair line word rest digits after first some second none sound =
    elim sound [
      | inl blank ↦ some (blank_no_word line word rest blank first)
      | inr says ↦
          let w = words_from line says.0 says.1 says.2 in
          let one = next_once line w.word w.rest word rest w.first first in
          let two = next_once rest w.digits w.after digits after (subst (λ xs. IsNextWord xs w.digits w.after) one.1 w.second) second in
          none says.0 says.1
          (subst (λ xs. Names xs says.0) one.0 w.names)
          (subst (λ xs. IsWeight xs says.1) two.0 w.weighs)
          (ap (list_all is_blank) (sym two.1) ∙ w.blank)
    ]

-- what is made of a line's words
pub reads_pair : (line word rest digits after : List ℕ) (name : Option (List ℕ)) (weight : Option ℕ) (ends : Bool) → IsNextWord line word rest → word ≢ [] → IsNextWord rest digits after → MatchOption name (is_name (named_by word) ≡ false) (λ n. (n ≡ named_by word) × (is_name (named_by word) ≡ true)) → IfSome weight (IsWeight digits) → IfNone weight ((w : ℕ) → IsWeight digits w → ⊥) → ends ≡ list_all is_blank after → ReadsAs line (pair_of name weight ends)
reads_pair line word rest digits after None weight ends first some second named spelled none last =
    no_pair line word rest digits after first some second (λ n w names weighs blank.
    false≢true (sym named ∙ ap is_name names.named ∙ name_from_word word n names))
reads_pair line word rest digits after (Some name) None ends first some second named spelled none last =
    no_pair line word rest digits after first some second (λ n w names weighs blank. none w weighs)
reads_pair line word rest digits after (Some name) (Some weight) false first some second named spelled none last =
    no_pair line word rest digits after first some second (λ n w names weighs blank. false≢true (last ∙ blank))
reads_pair line word rest digits after (Some name) (Some weight) true first some second named spelled none last =
    says_from line name weight
    (record {
      word = word;
      rest = rest;
      digits = digits;
      after = after;
      first = first;
      second = second;
      blank = sym last;
      names = subst (Names word) (sym named.0) (word_from_name word named.1);
      weighs = spelled;
    })
