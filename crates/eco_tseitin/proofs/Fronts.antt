-- What stays where a step ran out of memory.
use Rattle.std.proofs.Common.{◌≡◌, ℕ, List, [], ◌++◌, Result, Ok, Err, sym, ◌∙◌, ap, append_assoc}
use Rattle.std.specs.Result.{OnErr}
use Rattle.std.proofs.lemmas.List.{append-nil}
use Rattle.eco_aig.specs.declared.edge.Edge.{Edge}
use Rattle.eco_aig.specs.declared.node.Node.{Node}
use Rattle.eco_trace.specs.declared.clause.Lit.{Lit}
use Rattle.eco_tseitin.specs.Encoding.{Encoding}
use Rattle.eco_tseitin.specs.Steps.{IsFront, IsNamed, AddsClauses}
use Rattle.eco_tseitin.proofs.Naming.{followed}
use Rattle.eco_tseitin.proofs.Progress.{IsProgress}

-- what holds anyhow holds on an error
pub if_err : {T E : Type 0} (r : Result T E) {P : Type 0} → P → OnErr r P
if_err (Ok x) h = tt
if_err (Err e) h = h

pub front_same : (old new : Encoding) → new ≡ old → IsFront old new
front_same old new e = record {
  more_nodes = [];
  nodes = ap (λ (x : Encoding). x.nodes) e ∙ sym (append-nil old.nodes);
  more_clauses = [];
  clauses = ap (λ (x : Encoding). x.clauses) e ∙ sym (append-nil old.clauses);
}

pub front_join : (old mid new : Encoding) → IsFront old mid → IsFront mid new → IsFront old new
front_join old mid new first second = record {
  more_nodes = first.more_nodes ++ second.more_nodes;
  nodes = second.nodes ∙ ap (λ list. list ++ second.more_nodes) first.nodes ∙ append_assoc old.nodes first.more_nodes second.more_nodes;
  more_clauses = first.more_clauses ++ second.more_clauses;
  clauses = second.clauses ∙ ap (λ list. list ++ second.more_clauses) first.clauses ∙ append_assoc old.clauses first.more_clauses second.more_clauses;
}

-- what was added before stays as well
pub front_then : (old mid new : Encoding) → IsFront old mid → new ≡ mid → IsFront old new
front_then old mid new first e = front_join old mid new first (front_same mid new e)

pub front_named : (old new : Encoding) (k : ℕ) → IsNamed old new k → IsFront old new
front_named old new k is =
    let more = followed old new k is in
    record { more_nodes = more.more; nodes = more.nodes; more_clauses = []; clauses = is.clauses ∙ sym (append-nil old.clauses) }

pub front_adds : (old new : Encoding) (wanted : List (List Lit)) → AddsClauses old new wanted → IsFront old new
front_adds old new wanted adds = record { more_nodes = []; nodes = adds.nodes ∙ sym (append-nil old.nodes); more_clauses = adds.made; clauses = adds.behind }

pub front_progress : (graph : List Node) (old now : Encoding) (edge : Edge) (literal : Lit) (place : ℕ) → IsProgress graph old now edge literal place → IsFront old now
front_progress graph old now edge literal place p = record {
  more_nodes = p.done ++ p.waiting;
  nodes = p.nodes ∙ append_assoc old.nodes p.done p.waiting;
  more_clauses = p.made;
  clauses = p.behind;
}
