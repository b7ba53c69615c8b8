-- What adding clauses leaves.
use Rattle.std.proofs.Common.{◌≡◌, List, [], ◌∷◌, ◌++◌, sym, ◌∙◌, ap, subst, append_assoc}
use Rattle.std.proofs.lemmas.List.Elements.{All-nil, All-cons}
use Rattle.eco_lists.proofs.Places.{zip_append}
use Rattle.eco_trace.specs.declared.clause.Lit.{Lit}
use Rattle.eco_trace.specs.Adding.{AddsClausesOf}
use Rattle.eco_trace.specs.Clauses.{Clauses, IsClause, IsClauseOf}
use Rattle.eco_trace.proofs.AddingLaws.{clauses_again, unit_clause}
use Rattle.eco_tseitin.specs.Encoding.{Encoding}
use Rattle.eco_tseitin.specs.Steps.{AddsClauses}

-- the encoding's clauses were added to
pub encoding_adds : (old new : Encoding) (a b : Clauses) (wanted : List (List Lit)) → old.clauses ≡ a.clauses → new.clauses ≡ b.clauses → new.nodes ≡ old.nodes → AddsClausesOf a b wanted → AddsClauses old new wanted
encoding_adds old new a b wanted old_is new_is nodes adds = record {
  nodes = nodes;
  made = adds.added;
  behind = new_is ∙ adds.behind ∙ ap (λ list. list ++ adds.added) (sym old_is);
  are = adds.clauses_of;
}

pub adds : (old new : Encoding) (items lits : List Lit) → items ≡ lits → AddsClauses old new (items ∷ []) → AddsClauses old new (lits ∷ [])
adds old new items lits e h = subst (λ list. AddsClauses old new (list ∷ [])) e h

-- the clause of one literal has it alone
pub unit_added : (old new : Encoding) (l : Lit) → AddsClauses old new ((l ∷ []) ∷ []) → new ≡ record { nodes = old.nodes; clauses = old.clauses ++ (l ∷ []) ∷ [] }
unit_added old new l h =
    let made_is : h.made ≡ (l ∷ []) ∷ [] = clauses_again ((l ∷ []) ∷ []) h.made (All-cons IsClause (l ∷ []) [] (unit_clause l) (All-nil IsClause)) h.are in
    let clauses_is : new.clauses ≡ old.clauses ++ (l ∷ []) ∷ [] = h.behind ∙ ap (λ list. old.clauses ++ list) made_is in
    ap (λ list. record { nodes = list; clauses = new.clauses }) h.nodes ∙ ap (λ list. record { nodes = old.nodes; clauses = list }) clauses_is

-- clauses one behind another
pub added_more : (old mid new : Encoding) (front back : List (List Lit)) → AddsClauses old mid front → AddsClauses mid new back → AddsClauses old new (front ++ back)
added_more old mid new front back one two = record {
  nodes = two.nodes ∙ one.nodes;
  made = one.made ++ two.made;
  behind = two.behind ∙ ap (λ list. list ++ two.made) one.behind ∙ append_assoc old.clauses one.made two.made;
  are = zip_append IsClauseOf front one.made back two.made one.are two.are;
}
