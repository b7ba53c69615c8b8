-- Readers of headers.
use Rattle.std.proofs.Common.{◌≡◌, ℕ, ◌≤◌, Bool, true, false, List, [], ◌∷◌, ◌++◌, length, refl, ap, sym, ◌∙◌, arith, append_assoc, length-append, Option, Some, None}
use Rattle.std.specs.Prelude.{option_map, codes, not, ◌&&◌, ◌||◌}
use Rattle.std.specs.List.{list_all}
use Rattle.std.proofs.lemmas.Bool.{false≢true, or_right}
use Rattle.eco_lists.proofs.Tests.{both}
use Rattle.eco_tokens.specs.Said.{Said}
use Rattle.eco_vread.specs.declared.tree.Direction.{Direction}
use Rattle.eco_vread.specs.declared.tree.Direction.TheVariants.{In, Out}
use Rattle.eco_vread.specs.Syntax.{Identifier, Port}
use Rattle.eco_vread.specs.Grammar.{mark, word, is_full, spell_name, spell_wire, spell_direction, spell_port, spell_header, is_directed, is_proper_header}
use Rattle.eco_vread.specs.Fronts.{list_at, name_at, mark_at, word_at, wire_at, or_here}
use Rattle.eco_vread.specs.Parse.{direction_at, direction_or, directed_port_at, plain_port_at, ports_by, ports_at, ports_from, header_from, header_at}
use Rattle.eco_vread.proofs.Repeats.{Shrinks, by_chain}
use Rattle.eco_vread.proofs.Readers.{IsReader, found_at, reader_less}
use Rattle.eco_vread.proofs.Singles.{any, listed, bracket, name_reader, mark_takes, word_takes, pair_takes, mapped_takes}
use Rattle.eco_vread.proofs.Listed.{list_reader, spell_list, good_list}
use Rattle.eco_vread.proofs.Statements.{all_good}

wire_parts : (ts : List Said) (o : Option (List Said)) → word_at (codes "wire") ts ≡ o → ts ≡ spell_wire (or_here ts o).0 ++ (or_here ts o).1
wire_parts ts None e = refl
wire_parts ts (Some us) e = word_takes (codes "wire") ts us e

pub wire_takes : (ts : List Said) → ts ≡ spell_wire (wire_at ts).0 ++ (wire_at ts).1
unfolding wire_at
wire_takes ts = wire_parts ts (word_at (codes "wire") ts) refl

no_wire : (us : List Said) (escaped : Bool) (text : List ℕ) → wire_at (spell_name (record { escaped = escaped; text = text }) ++ us) ≡ (false, spell_name (record { escaped = escaped; text = text }) ++ us)
unfolding wire_at word_at
no_wire us true text = refl
no_wire us false text = refl

pub wire_again : (us : List Said) (also : Bool) (i : Identifier) → wire_at (spell_wire also ++ (spell_name i ++ us)) ≡ (also, spell_name i ++ us)
unfolding wire_at word_at
wire_again us true i = refl
wire_again us false i = no_wire us i.escaped i.text

-- the direction before a name is what is written there
direction_parts : (ts : List Said) (a b : Option (List Said)) → word_at (codes "input") ts ≡ a → word_at (codes "output") ts ≡ b → ts ≡ spell_direction (direction_or ts a b).0 ++ (direction_or ts a b).1
direction_parts ts (Some us) b e f =
    word_takes (codes "input") ts us e ∙ ap (λ l. word (codes "input") ∷ l) (wire_takes us)
direction_parts ts None (Some us) e f =
    word_takes (codes "output") ts us f ∙ ap (λ l. word (codes "output") ∷ l) (wire_takes us)
direction_parts ts None None e f = refl

direction_takes : (ts : List Said) → ts ≡ spell_direction (direction_at ts).0 ++ (direction_at ts).1
unfolding direction_at
direction_takes ts = direction_parts ts (word_at (codes "input") ts) (word_at (codes "output") ts) refl refl

no_direction : (us : List Said) (escaped : Bool) (text : List ℕ) → direction_at (spell_name (record { escaped = escaped; text = text }) ++ us) ≡ (None, spell_name (record { escaped = escaped; text = text }) ++ us)
unfolding direction_at word_at
no_direction us true text = refl
no_direction us false text = refl

direction_again : (us : List Said) (d : Option (Direction × Bool)) (i : Identifier) → direction_at (spell_direction d ++ (spell_name i ++ us)) ≡ (d, spell_name i ++ us)
unfolding direction_at word_at
direction_again us None i = no_direction us i.escaped i.text
direction_again us (Some (In, also)) i =
    ap (λ (p : Bool × List Said). (Some (In, p.0), p.1)) (wire_again us also i)
direction_again us (Some (Out, also)) i =
    ap (λ (p : Bool × List Said). (Some (Out, p.0), p.1)) (wire_again us also i)

-- ports with directions, or without
directed_takes : (ts us : List Said) (x : Port) → directed_port_at ts ≡ Some (x, us) → (ts ≡ spell_port x ++ us) × (any x ≡ true)
unfolding directed_port_at
directed_takes ts us x h =
    by_chain (name_at (direction_at ts).1) _ _ h (λ name e f.
    let made : Port = record { direction = (direction_at ts).0; name = name.0 } in
    let w = pair_takes spell_port any made x name.1 us refl f in (
      direction_takes ts ∙ ap (λ l. spell_direction (direction_at ts).0 ++ l) (name_reader.takes (direction_at ts).1 name.1 name.0 e).0
          ∙ sym (append_assoc (spell_direction (direction_at ts).0) (spell_name name.0) name.1) ∙ w.0,
      w.1,
    ))

directed_again : (us : List Said) (x : Port) → any x ≡ true → directed_port_at (spell_port x ++ us) ≡ Some (x, us)
unfolding directed_port_at
directed_again us x g =
    rw (append_assoc (spell_direction x.direction) (spell_name x.name) us, direction_again us x.direction x.name, name_reader.again us x.name refl) refl

pub port_some : (x : Port) → 1 ≤ length (spell_port x)
port_some x = omega (arith, length-append (spell_direction x.direction) (spell_name x.name))

directed_reader : IsReader directed_port_at spell_port any
directed_reader = record { takes = directed_takes; again = directed_again; some = port_some }

pub directed_less : Shrinks directed_port_at
directed_less = reader_less directed_port_at spell_port any directed_reader

-- no direction stands before the name
abbrev is_plain_port : Port → Bool
is_plain_port p = not (is_directed p.direction)

plain_takes : (ts us : List Said) (x : Port) → plain_port_at ts ≡ Some (x, us) → (ts ≡ spell_port x ++ us) × (is_plain_port x ≡ true)
unfolding plain_port_at
plain_takes ts us x h =
    mapped_takes spell_name any spell_port is_plain_port (λ i. record { direction = None; name = i }) [] (λ i. refl) (λ i g. refl) ts us x (name_at ts) (λ vs i. name_reader.takes ts vs i) h

plain_by : (us : List Said) (d : Option (Direction × Bool)) (i : Identifier) → not (is_directed d) ≡ true → plain_port_at (spell_port (record { direction = d; name = i }) ++ us) ≡ Some (record { direction = d; name = i }, us)
unfolding plain_port_at
plain_by us None i g = rw (name_reader.again us i refl) refl
plain_by us (Some d) i g = absurd (false≢true g)

plain_reader : IsReader plain_port_at spell_port is_plain_port
plain_reader = record { takes = plain_takes; again = λ us x g. plain_by us x.direction x.name g; some = port_some }

pub plain_less : Shrinks plain_port_at
plain_less = reader_less plain_port_at spell_port is_plain_port plain_reader

directed_list : IsReader (list_at directed_port_at (codes ")")) (spell_list spell_port (codes ")")) (good_list any)
directed_list = list_reader directed_port_at spell_port any (codes ")") (listed directed_port_at spell_port any directed_reader (codes ")")) bracket

plain_list : IsReader (list_at plain_port_at (codes ")")) (spell_list spell_port (codes ")")) (good_list is_plain_port)
plain_list = list_reader plain_port_at spell_port is_plain_port (codes ")") (listed plain_port_at spell_port is_plain_port plain_reader (codes ")")) bracket

-- a list of ports with a direction where its first has one
abbrev good_ports : List Port → Bool
good_ports ports = is_full ports && is_proper_header (Some ports)

-- the direction that is found before a list is its first port's
first_direction : (p : Port) (ports : List Port) (us : List Said) → (direction_at (spell_list spell_port (codes ")") (p ∷ ports) ++ us)).0 ≡ p.direction
first_direction p ports us =
    rw (append_assoc, append_assoc, append_assoc) (ap (λ (d : Option (Direction × Bool) × List Said). d.0) (direction_again _ p.direction p.name))

directed_is_proper : (p : Port) (ports : List Port) → is_directed p.direction ≡ true → good_ports (p ∷ ports) ≡ true
directed_is_proper p ports e = rw e refl

plain_is_proper : (p : Port) (ports : List Port) → good_list is_plain_port (p ∷ ports) ≡ true → good_ports (p ∷ ports) ≡ true
plain_is_proper p ports g =
    let rest = (both (is_plain_port p) (list_all is_plain_port ports) g).1 in
    or_right (is_directed p.direction) (list_all is_plain_port ports) rest

by_take : (is : Bool) (ts us : List Said) (ports : List Port) → is_directed (direction_at ts).0 ≡ is → ports_by is ts ≡ Some (ports, us) → (ts ≡ spell_list spell_port (codes ")") ports ++ us) × (good_ports ports ≡ true)
by_take true ts us [] e h = absurd (false≢true (directed_list.takes ts us [] h).1)
by_take true ts us (p ∷ ports) e h =
    let w = directed_list.takes ts us (p ∷ ports) h in
    let same : (direction_at ts).0 ≡ p.direction = ap (λ l. (direction_at l).0) w.0 ∙ first_direction p ports us in
    (w.0, directed_is_proper p ports (ap is_directed (sym same) ∙ e))
by_take false ts us [] e h = absurd (false≢true (plain_list.takes ts us [] h).1)
by_take false ts us (p ∷ ports) e h =
    let w = plain_list.takes ts us (p ∷ ports) h in
    (w.0, plain_is_proper p ports w.1)

ports_take : (ts us : List Said) (ports : List Port) → ports_at ts ≡ Some (ports, us) → (ts ≡ spell_list spell_port (codes ")") ports ++ us) × (good_ports ports ≡ true)
unfolding ports_at
ports_take ts us ports h = by_take (is_directed (direction_at ts).0) ts us ports refl h

-- of a proper header whose first port has no direction no port has
plain_ports : (p : Port) (ports : List Port) → is_directed p.direction ≡ false → is_proper_header (Some (p ∷ ports)) ≡ true → good_list is_plain_port (p ∷ ports) ≡ true
plain_ports p ports e g =
    let rest : list_all is_plain_port ports ≡ true = ap (λ b. b || list_all is_plain_port ports) (sym e) ∙ g in
    rw (e, rest) refl

again_by : (is : Bool) (us : List Said) (p : Port) (ports : List Port) → is_directed p.direction ≡ is → is_proper_header (Some (p ∷ ports)) ≡ true → ports_by is (spell_list spell_port (codes ")") (p ∷ ports) ++ us) ≡ Some (p ∷ ports, us)
again_by true us p ports e g = directed_list.again us (p ∷ ports) (all_good ports)
again_by false us p ports e g = plain_list.again us (p ∷ ports) (plain_ports p ports e g)

ports_again : (us : List Said) (p : Port) (ports : List Port) → is_proper_header (Some (p ∷ ports)) ≡ true → ports_at (spell_list spell_port (codes ")") (p ∷ ports) ++ us) ≡ Some (p ∷ ports, us)
unfolding ports_at
ports_again us p ports g =
    ap (λ d. ports_by (is_directed d) (spell_list spell_port (codes ")") (p ∷ ports) ++ us)) (first_direction p ports us)
    ∙ again_by (is_directed p.direction) us p ports refl g

ports_parts : (ts us : List Said) (h : Option (List Port)) (o : Option (List Said)) → mark_at (codes ")") ts ≡ o → ports_from ts o ≡ found_at h us → ((mark (codes "(") ∷ []) ++ ts ≡ spell_header h ++ us) × (is_proper_header h ≡ true)
ports_parts ts us h None e f =
    mapped_takes (spell_list spell_port (codes ")")) good_ports spell_header is_proper_header Some (mark (codes "(") ∷ []) (λ x. refl) (λ x g. (both (is_full x) (is_proper_header (Some x)) g).1) ts us h (ports_at ts) (λ vs x. ports_take ts vs x) f
ports_parts ts us h (Some vs) e f =
    let w = pair_takes spell_header is_proper_header (Some []) h vs us refl f in
    (ap (λ l. mark (codes "(") ∷ l) (mark_takes (codes ")") ts vs e) ∙ w.0, w.1)

header_parts : (ts us : List Said) (h : Option (List Port)) (o : Option (List Said)) → mark_at (codes "(") ts ≡ o → header_from ts o ≡ found_at h us → (ts ≡ spell_header h ++ us) × (is_proper_header h ≡ true)
header_parts ts us h None e f = pair_takes spell_header is_proper_header None h ts us refl f
header_parts ts us h (Some vs) e f =
    let w = ports_parts vs us h (mark_at (codes ")") vs) refl f in
    (mark_takes (codes "(") ts vs e ∙ w.0, w.1)

pub header_takes : (ts us : List Said) (h : Option (List Port)) → header_at ts ≡ Some (h, us) → (ts ≡ spell_header h ++ us) × (is_proper_header h ≡ true)
unfolding header_at
header_takes ts us h f = header_parts ts us h (mark_at (codes "(") ts) refl f

no_bracket_by : (us : List Said) (d : Option (Direction × Bool)) (escaped : Bool) (text : List ℕ) → mark_at (codes ")") (spell_direction d ++ (spell_name (record { escaped = escaped; text = text }) ++ us)) ≡ None
unfolding mark_at
no_bracket_by us None true text = refl
no_bracket_by us None false text = refl
no_bracket_by us (Some d) escaped text = refl

no_bracket : (us : List Said) (p : Port) (ports : List Port) → mark_at (codes ")") (spell_list spell_port (codes ")") (p ∷ ports) ++ us) ≡ None
no_bracket us p ports =
    rw (append_assoc, append_assoc, append_assoc) (no_bracket_by _ p.direction p.name.escaped p.name.text)

bracketed_again : (us : List Said) (p : Port) (ports : List Port) → is_proper_header (Some (p ∷ ports)) ≡ true → ports_from (spell_list spell_port (codes ")") (p ∷ ports) ++ us) (mark_at (codes ")") (spell_list spell_port (codes ")") (p ∷ ports) ++ us)) ≡ Some (Some (p ∷ ports), us)
bracketed_again us p ports g =
    ap (ports_from (spell_list spell_port (codes ")") (p ∷ ports) ++ us)) (no_bracket us p ports)
    ∙ ap (option_map {U = Option (List Port) × List Said} (λ r. (Some r.0, r.1))) (ports_again us p ports g)

pub header_again : (us : List Said) (h : Option (List Port)) → is_proper_header h ≡ true → header_at (spell_header h ++ (mark (codes ";") ∷ us)) ≡ Some (h, mark (codes ";") ∷ us)
unfolding header_at mark_at
header_again us None g = refl
header_again us (Some []) g = refl
header_again us (Some (p ∷ ports)) g = bracketed_again (mark (codes ";") ∷ us) p ports g
