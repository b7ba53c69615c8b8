-- Readers of gates and of statements.
use Rattle.std.proofs.Common.{◌≡◌, ◌≤◌, Bool, true, false, List, [], ◌∷◌, ◌++◌, length, map, refl, ap, sym, ◌∙◌, arith, append_assoc, length-append, Option, Some, None}
use Rattle.std.proofs.lemmas.List.Folds.{flat_map-map}
use Rattle.std.proofs.lemmas.Bool.{false≢true}
use Rattle.std.proofs.lemmas.Bool.Decides.{nat_tests}
use Rattle.std.specs.Prelude.{option_map, codes, ◌&&◌, ◌==◌, if◌then◌else◌}
use Rattle.std.specs.List.{flat_map, list_all}
use Rattle.eco_lists.proofs.Tests.{both}
use Rattle.eco_meaning.specs.declared.kind.Kind.{Kind}
use Rattle.eco_tokens.specs.Said.{Said}
use Rattle.eco_vread.specs.Syntax.{Identifier, Term, Instance}
use Rattle.eco_vread.specs.Syntax.Term.{net}
use Rattle.eco_vread.specs.Grammar.{mark, commas, is_full, has_one_input, spell_name, spell_term, spell_label, spell_instance, is_proper_instance}
use Rattle.eco_vread.specs.Fronts.{Found, repeated, list_at, name_at, term_at, mark_at, label_at, label_from}
use Rattle.eco_vread.specs.Parse.{connection_at, connections_from, connections_at, after_output, instance_at}
use Rattle.eco_vread.proofs.Repeats.{Shrinks, by_chain}
use Rattle.eco_vread.proofs.Readers.{IsReader, reader_less, repeated_reader, spell_repeated, good_repeated}
use Rattle.eco_vread.proofs.Singles.{any, listed, bracket, name_reader, term_reader, connection_reader, spell_connection, mark_takes, pair_takes}
use Rattle.eco_vread.proofs.Listed.{list_reader, spell_list, good_list, with_comma, commas_last}

pub connection_less : Shrinks connection_at
connection_less = reader_less connection_at spell_connection any connection_reader

-- what an instance is connected to, with the closing bracket
abbrev spell_connections : List Identifier × List Term → List Said
spell_connections c = commas spell_term (map net c.0 ++ c.1) ++ mark (codes ")") ∷ []

abbrev good_connections : Bool → List Identifier × List Term → Bool
good_connections one c = if one then is_full c.0 && length c.1 == 1 else length c.0 == 1 && is_full c.1

regrouped : (a b c d : List Said) → a ++ (b ++ (c ++ d)) ≡ ((a ++ b) ++ c) ++ d
regrouped a b c d = simp append_assoc

one_input_spelled : (first : Identifier) (xs : List Identifier) (t : Term) → (spell_name first ++ mark (codes ",") ∷ []) ++ spell_repeated spell_connection (xs, t) ≡ spell_connections (first ∷ xs, t ∷ [])
one_input_spelled first xs t =
    regrouped (spell_name first ++ mark (codes ",") ∷ []) (flat_map (with_comma spell_name) xs) (spell_term t) (mark (codes ")") ∷ [])
    ∙ ap (λ l. (((spell_name first ++ mark (codes ",") ∷ []) ++ l) ++ spell_term t) ++ mark (codes ")") ∷ []) (sym (flat_map-map (with_comma spell_term) net xs))
    ∙ ap (λ l. l ++ mark (codes ")") ∷ []) (sym (commas_last spell_term (map net (first ∷ xs)) t))

one_output_spelled : (first : Identifier) (ins : List Term) → is_full ins ≡ true → (spell_name first ++ mark (codes ",") ∷ []) ++ spell_list spell_term (codes ")") ins ≡ spell_connections (first ∷ [], ins)
one_output_spelled first [] g = absurd (cc)
one_output_spelled first (i ∷ ins) g = simp append_assoc

one_input_takes : (first : Identifier) (ts us : List Said) (c : List Identifier × List Term) (o : Found (List Identifier × Term)) → ((vs : List Said) (r : List Identifier × Term) → o ≡ Some (r, vs) → (ts ≡ spell_repeated spell_connection r ++ vs) × (good_repeated any r ≡ true)) → option_map {U = (List Identifier × List Term) × List Said} (λ r. ((r.0.0, r.0.1 ∷ []), r.1)) (after_output first o) ≡ Some (c, us) → ((spell_name first ++ mark (codes ",") ∷ []) ++ ts ≡ spell_connections c ++ us) × (good_connections true c ≡ true)
one_input_takes first ts us c None f h = absurd (cc)
one_input_takes first ts us c (Some found) f h =
    let w = f found.1 found.0 refl in
    let made : List Identifier × List Term = (first ∷ found.0.0, found.0.1 ∷ []) in
    let v = pair_takes spell_connections (good_connections true) made c found.1 us refl h in (
      ap (λ l. (spell_name first ++ mark (codes ",") ∷ []) ++ l) w.0
          ∙ sym (append_assoc (spell_name first ++ mark (codes ",") ∷ []) (spell_repeated spell_connection found.0) found.1)
          ∙ ap (λ l. l ++ found.1) (one_input_spelled first found.0.0 found.0.1) ∙ v.0,
      v.1,
    )

one_output_takes : (first : Identifier) (ts us : List Said) (c : List Identifier × List Term) (o : Found (List Term)) → ((vs : List Said) (r : List Term) → o ≡ Some (r, vs) → (ts ≡ spell_list spell_term (codes ")") r ++ vs) × (good_list any r ≡ true)) → option_map {U = (List Identifier × List Term) × List Said} (λ r. ((first ∷ [], r.0), r.1)) o ≡ Some (c, us) → ((spell_name first ++ mark (codes ",") ∷ []) ++ ts ≡ spell_connections c ++ us) × (good_connections false c ≡ true)
one_output_takes first ts us c None f h = absurd (cc)
one_output_takes first ts us c (Some found) f h =
    let w = f found.1 found.0 refl in
    let full : is_full found.0 ≡ true = (both (is_full found.0) (list_all any found.0) w.1).0 in
    let made : List Identifier × List Term = (first ∷ [], found.0) in
    let v = pair_takes spell_connections (good_connections false) made c found.1 us full h in (
      ap (λ l. (spell_name first ++ mark (codes ",") ∷ []) ++ l) w.0
          ∙ sym (append_assoc (spell_name first ++ mark (codes ",") ∷ []) (spell_list spell_term (codes ")") found.0) found.1)
          ∙ ap (λ l. l ++ found.1) (one_output_spelled first found.0 full) ∙ v.0,
      v.1,
    )

terms_reader : IsReader (list_at term_at (codes ")")) (spell_list spell_term (codes ")")) (good_list any)
terms_reader = list_reader term_at spell_term any (codes ")") (listed term_at spell_term any term_reader (codes ")")) bracket

steps_reader : IsReader (λ ts. repeated connection_at ts) (spell_repeated spell_connection) (good_repeated any)
steps_reader = repeated_reader connection_at spell_connection any connection_reader

from_takes : (one : Bool) (first : Identifier) (ts us : List Said) (c : List Identifier × List Term) → connections_from one first ts ≡ Some (c, us) → ((spell_name first ++ mark (codes ",") ∷ []) ++ ts ≡ spell_connections c ++ us) × (good_connections one c ≡ true)
unfolding connections_from
from_takes true first ts us c h = one_input_takes first ts us c (repeated connection_at ts) (steps_reader.takes ts) h
from_takes false first ts us c h = one_output_takes first ts us c (list_at term_at (codes ")") ts) (terms_reader.takes ts) h

connections_take : (kind : Kind) (ts us : List Said) (c : List Identifier × List Term) → connections_at kind ts ≡ Some (c, us) → (ts ≡ spell_connections c ++ us) × (good_connections (has_one_input kind) c ≡ true)
unfolding connections_at
connections_take kind ts us c h =
    by_chain (name_at ts) _ _ h (λ first e f.
    by_chain (mark_at (codes ",") first.1) _ _ f (λ vs g k.
    let w = from_takes (has_one_input kind) first.0 vs us c k in (
      (name_reader.takes ts first.1 first.0 e).0 ∙ ap (λ l. spell_name first.0 ++ l) (mark_takes (codes ",") first.1 vs g)
          ∙ sym (append_assoc (spell_name first.0) (mark (codes ",") ∷ []) vs) ∙ w.0,
      w.1,
    )))

-- behind the first output and its comma
connections_head : (kind : Kind) (first : Identifier) (rest us : List Said) → connections_at kind (((spell_name first ++ mark (codes ",") ∷ []) ++ rest) ++ us) ≡ connections_from (has_one_input kind) first (rest ++ us)
unfolding connections_at mark_at
connections_head kind first rest us =
    rw (append_assoc (spell_name first ++ mark (codes ",") ∷ []) rest us, append_assoc (spell_name first) (mark (codes ",") ∷ []) (rest ++ us), name_reader.again (mark (codes ",") ∷ (rest ++ us)) first refl) refl

pub all_good : {X : Type 0} (xs : List X) → list_all any xs ≡ true
all_good [] = refl
all_good (x ∷ xs) = all_good xs

pub not_one : {X : Type 0} (x y : X) (xs : List X) → (length (x ∷ y ∷ xs) == 1) ≡ false
not_one x y xs = grind (arith, nat_tests)

from_again : (kind : Kind) (one : Bool) → has_one_input kind ≡ one → (us : List Said) (outs : List Identifier) (ins : List Term) → good_connections one (outs, ins) ≡ true → connections_at kind (spell_connections (outs, ins) ++ us) ≡ Some ((outs, ins), us)
unfolding connections_from
from_again kind true e us [] ins g = absurd (cc)
from_again kind true e us (first ∷ xs) [] g = absurd (cc)
from_again kind true e us (first ∷ xs) (t ∷ []) g =
    ap (λ l. connections_at kind (l ++ us)) (sym (one_input_spelled first xs t))
    ∙ connections_head kind first (spell_repeated spell_connection (xs, t)) us
    ∙ ap (λ b. connections_from b first (spell_repeated spell_connection (xs, t) ++ us)) e
    ∙ ap (λ o. option_map {U = (List Identifier × List Term) × List Said} (λ r. ((r.0.0, r.0.1 ∷ []), r.1)) (after_output first o)) (steps_reader.again us (xs, t) (rw (all_good xs) refl))
from_again kind true e us (first ∷ xs) (t ∷ s ∷ ins) g = absurd (false≢true (sym (not_one t s ins) ∙ g))
from_again kind false e us [] ins g = absurd (cc)
from_again kind false e us (first ∷ z ∷ zs) ins g = absurd (false≢true (sym (not_one first z zs) ∙ (both (length (first ∷ z ∷ zs) == 1) (is_full ins) g).0))
from_again kind false e us (first ∷ []) [] g = absurd (cc)
from_again kind false e us (first ∷ []) (i ∷ ins) g =
    ap (λ l. connections_at kind (l ++ us)) (sym (one_output_spelled first (i ∷ ins) refl))
    ∙ connections_head kind first (spell_list spell_term (codes ")") (i ∷ ins)) us
    ∙ ap (λ b. connections_from b first (spell_list spell_term (codes ")") (i ∷ ins) ++ us)) e
    ∙ ap (λ o. option_map {U = (List Identifier × List Term) × List Said} (λ r. ((first ∷ [], r.0), r.1)) o) (terms_reader.again us (i ∷ ins) (all_good ins))

label_parts : (ts : List Said) (o : Found Identifier) → name_at ts ≡ o → ts ≡ spell_label (label_from ts o).0 ++ (label_from ts o).1
label_parts ts None e = refl
label_parts ts (Some found) e = (name_reader.takes ts found.1 found.0 e).0

label_takes : (ts : List Said) → ts ≡ spell_label (label_at ts).0 ++ (label_at ts).1
unfolding label_at
label_takes ts = label_parts ts (name_at ts) refl

label_again : (us : List Said) (label : Option Identifier) → label_at (spell_label label ++ (mark (codes "(") ∷ us)) ≡ (label, mark (codes "(") ∷ us)
unfolding label_at name_at
label_again us None = refl
label_again us (Some i) = ap (label_from (spell_name i ++ (mark (codes "(") ∷ us))) (name_reader.again (mark (codes "(") ∷ us) i refl)

instance_takes : (kind : Kind) (ts us : List Said) (x : Instance) → instance_at kind ts ≡ Some (x, us) → (ts ≡ spell_instance x ++ us) × (is_proper_instance kind x ≡ true)
unfolding instance_at
instance_takes kind ts us x h =
    by_chain (mark_at (codes "(") (label_at ts).1) _ _ h (λ vs e f.
    by_chain (connections_at kind vs) _ _ f (λ found g k.
    let w = connections_take kind vs found.1 found.0 g in
    let made : Instance = record { label = (label_at ts).0; outputs = found.0.0; inputs = found.0.1 } in
    let v = pair_takes spell_instance (is_proper_instance kind) made x found.1 us w.1 k in (
      label_takes ts ∙ ap (λ l. spell_label (label_at ts).0 ++ l) (mark_takes (codes "(") (label_at ts).1 vs e ∙ ap (λ l. mark (codes "(") ∷ l) w.0)
          ∙ sym (append_assoc (spell_label (label_at ts).0) (mark (codes "(") ∷ spell_connections found.0) found.1) ∙ v.0,
      v.1,
    )))

instance_again : (kind : Kind) (us : List Said) (x : Instance) → is_proper_instance kind x ≡ true → instance_at kind (spell_instance x ++ us) ≡ Some (x, us)
unfolding instance_at mark_at
instance_again kind us x g =
    rw (append_assoc (spell_label x.label) (mark (codes "(") ∷ spell_connections (x.outputs, x.inputs)) us, label_again (spell_connections (x.outputs, x.inputs) ++ us) x.label, from_again kind (has_one_input kind) refl us x.outputs x.inputs g) refl

instance_some : (x : Instance) → 1 ≤ length (spell_instance x)
instance_some x = omega (arith, length-append (spell_label x.label) (mark (codes "(") ∷ spell_connections (x.outputs, x.inputs)))

pub instance_reader : (kind : Kind) → IsReader (instance_at kind) spell_instance (is_proper_instance kind)
instance_reader kind = record { takes = instance_takes kind; again = instance_again kind; some = instance_some }

pub instance_less : (kind : Kind) → Shrinks (instance_at kind)
instance_less kind = reader_less (instance_at kind) spell_instance (is_proper_instance kind) (instance_reader kind)
