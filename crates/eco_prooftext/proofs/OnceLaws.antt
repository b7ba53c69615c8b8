-- A text says one list of clauses, or the steps of one proof; and what is written of a refutation is checked.
use Rattle.std.proofs.Common.{◌≡◌, ℕ, ◌+◌, ◌-◌, ◌≤◌, List, [], ◌∷◌, ◌++◌, length, map, slice_get, All, Some, None, inl, inr, refl, sym, ◌∙◌, subst, arith}
use Rattle.std.specs.List.{flat_map}
use Rattle.std.proofs.lemmas.List.Elements.{All-nil, All-cons}
use Rattle.std.proofs.lemmas.Option.{get_or_from_slice_get, slice_get_cases}
use Rattle.eco_trace.specs.declared.clause.Lit.{Lit}
use Rattle.eco_trace.specs.Clauses.{Clauses, HoldsIn, Satisfies, Valuation}
use Rattle.eco_trace.specs.declared.node.NodeId.{NodeId}
use Rattle.eco_trace.specs.declared.node.Link.{Link}
use Rattle.eco_trace.specs.Resolution.{Proof, Learnt, IsLegal, clauses_of, chain_of}
use Rattle.eco_trace.specs.Verdicts.{IsRefutation}
use Rattle.eco_trace.proofs.ProofLaws.{legal_sound}
use Rattle.eco_check.specs.Steps.{HasIds, chain_of_step, link_of, node_of}
use Rattle.eco_check.specs.Answers.{IsProved}
use Rattle.eco_prooftext.specs.Written.{pair_of, step_of}
use Rattle.eco_prooftext.specs.CnfFile.{Piece, Comment, Word, pieces_of, words_of, IsLiteral, Falls, AreLines}
use Rattle.eco_prooftext.proofs.ReadLaws.{lit_once, end_no_lit, next_once}
use Rattle.eco_prooftext.proofs.LineReadLaws.{idle_no_header, header_vars, heads_from}

-- the clauses of some pieces, and those of others that begin alike
falls_once : (vars : ℕ) (lits : List Lit) (pieces : List Piece) (a b : List (List Lit)) → Falls vars lits pieces a → Falls vars lits pieces b → a ≡ b
falls_once vars lits [] a b h i = h.1 ∙ sym i.1
falls_once vars lits (Comment ∷ rest) a b h i = falls_once vars [] rest a b h.1 i.1
falls_once vars lits (Word word ∷ rest) a b (inl (ends, (c, more, cut, next, falls))) (inl (also, (d, others, parts, other, behind))) =
    let same = next_once vars lits c d next other in
    let tail = falls_once vars [] rest more others falls behind in
    cut ∙ (λ i. same i ∷ tail i) ∙ sym parts
falls_once vars lits (Word word ∷ rest) a b (inl h) (inr (lit, is, falls)) =
    absurd (end_no_lit vars lit (subst (λ (w : List ℕ). IsLiteral vars w lit) h.0 is))
falls_once vars lits (Word word ∷ rest) a b (inr (lit, is, falls)) (inl i) =
    absurd (end_no_lit vars lit (subst (λ (w : List ℕ). IsLiteral vars w lit) i.0 is))
falls_once vars lits (Word word ∷ rest) a b (inr (lit, is, falls)) (inr (other, also, behind)) =
    falls_once vars (lits ++ lit ∷ []) rest a b falls
    (subst (λ (l : Lit). Falls vars (lits ++ l ∷ []) rest b) (sym (lit_once vars word lit other is also)) behind)

-- lines are those of one list of clauses
pub lines_once : (lines : List (List ℕ)) (c d : Clauses) → AreLines lines c → AreLines lines d → c ≡ d
lines_once [] c d h i = absurd h
lines_once (line ∷ lines) c d (inl h) (inl i) = lines_once lines c d h.1 i.1
lines_once (line ∷ lines) c d (inl h) (inr (plain, (vars, count, header, are))) = absurd (idle_no_header line vars count plain header h.0)
lines_once (line ∷ lines) c d (inr (plain, (vars, count, header, are))) (inl i) = absurd (idle_no_header line vars count plain header i.0)
lines_once (line ∷ lines) c d (inr (plain, (v, n, header, are))) (inr (also, (w, m, other, those))) =
    let width : v ≡ w = header_vars (words_of line) v n w m (heads_from line v n header) (heads_from line w m other) in
    let vars : c.vars ≡ d.vars = are.vars_same ∙ width ∙ sym those.vars_same in
    let clauses : c.clauses ≡ d.clauses =
    falls_once v [] (flat_map pieces_of lines) c.clauses d.clauses are.falls
    (subst (λ (k : ℕ). Falls k [] (flat_map pieces_of lines) d.clauses) (sym width) those.falls) in
    (λ i. record { vars = vars i; clauses = clauses i })

-- ---- what is written of a proof are steps that stand for it

pairs_ids : (links : List Link) → All (λ pair. 1 ≤ pair.1) (map pair_of links)
pairs_ids [] = All-nil (λ (pair : ℕ × ℕ). 1 ≤ pair.1)
pairs_ids (link ∷ links) = All-cons (λ (pair : ℕ × ℕ). 1 ≤ pair.1) (pair_of link) (map pair_of links) (omega arith) (pairs_ids links)

steps_ids : (learnt : List Learnt) → All HasIds (map step_of learnt)
steps_ids [] = All-nil HasIds
steps_ids (n ∷ learnt) =
    All-cons HasIds (step_of n) (map step_of learnt) (record { start = omega arith; links = pairs_ids n.links }) (steps_ids learnt)

-- the node of an id is the node that the id was made of
node_back : (node : NodeId) → node_of (node.0 + 1) ≡ node
node_back node =
    let same : node.0 + 1 - 1 ≡ node.0 = omega arith in
    (λ i. record { 0 = same i })

link_back : (link : Link) → link_of (pair_of link) ≡ link
link_back link =
    let same = node_back link.with in
    (λ i. record { pivot = link.pivot; with = same i })

links_back : (links : List Link) → map link_of (map pair_of links) ≡ links
links_back [] = refl
links_back (link ∷ links) =
    let first = link_back link in
    let rest = links_back links in
    (λ i. first i ∷ rest i)

chains_back : (learnt : List Learnt) → map chain_of learnt ≡ map chain_of_step (map step_of learnt)
chains_back [] = refl
chains_back (n ∷ learnt) =
    let start = node_back n.start in
    let links = links_back n.links in
    let rest = chains_back learnt in
    sym (λ i. (start i, links i) ∷ sym rest i)

-- where the empty clause stands, nothing is a model
empty_unmet : (v : Valuation) (clauses : List (List Lit)) (i : ℕ) → slice_get clauses i ≡ Some [] → Satisfies v clauses → ⊥
empty_unmet v clauses i is model =
    elim (slice_get_cases clauses i).1 [
      | inl (x, lt, at, same) ↦
          let holds : HoldsIn v [] = subst (HoldsIn v) (get_or_from_slice_get clauses i [] [] is) (model i [] lt) in
          let none = holds.2 in
          omega (arith, none)
      | inr (past, none) ↦ absurd (let e : Some [] ≡ None = sym is ∙ none in cc)
    ]

-- the steps that are written of a refutation are a proof that its clauses have no model
pub refutation_checks : (c : Clauses) (p : Proof) → IsLegal p → IsRefutation c p → IsProved c.clauses (map step_of p.learnt) p
refutation_checks c p legal is = record {
  taken = record { originals = is.originals; legal = legal; ids = steps_ids p.learnt; chains = chains_back p.learnt };
  ends = is.ends;
  no_model = λ v model. empty_unmet v (clauses_of p) (length (clauses_of p) - 1) is.ends
      (legal_sound p legal v (subst (Satisfies v) (sym is.originals) model));
}
