-- A checked netlist with a checked patch in it that fits is checked, and its targets are those that the patch leaves.
use Rattle.std.proofs.Common.{ℕ, ◌+◌, ◌⊎◌, inl, inr, List, [], ◌∷◌, ◌++◌, length, map, refl, sym, ◌∙◌, subst, arith, append_assoc}
use Rattle.std.specs.Prelude.{IsTrue}
use Rattle.std.specs.List.{Contains, IsDistinct}
use Rattle.std.specs.List.Sorted.{IsStrictlySortedBy}
use Rattle.std.specs.Ordering.{nat_cmp}
use Rattle.std.specs.Str.{bytes_eq}
use Rattle.std.proofs.lemmas.Bool.{both_ways, not_from_true}
use Rattle.std.proofs.lemmas.List.{map-append}
use Rattle.std.proofs.lemmas.List.Elements.{All-contains, Contains-append_left, Contains-append_right, Contains-append_cases}
use Rattle.std.proofs.lemmas.Map.Keys.{IsStrictlyIncreasing-from_sorted, sorted_from_strictly_increasing, sorted_tail}
use Rattle.std.proofs.lemmas.Option.{slice_get_within}
use Rattle.eco_lists.proofs.Members.{map-Contains}
use Rattle.eco_lists.proofs.Places.{place_of, Contains_at, All_from_places, slice_get-append_left, slice_get-back}
use Rattle.eco_meaning.specs.Names.{has, is_target_text, target_number}
use Rattle.eco_meaning.specs.Circuit.{Circuit, NamedGate, names, IsDriven, IsSignal, IsTarget, AreTargets}
use Rattle.eco_meaning.specs.Patch.{Fits, splice_of}
use Rattle.eco_netlist.specs.Netlists.{IsChecked}
use Rattle.eco_netlist.proofs.BehindLemmas.{target_place}
use Rattle.eco_netlist.proofs.NameSets.{has-from_Contains, IsDistinct-append, distinct_back, distinct_apart}
use Rattle.eco_netlist.proofs.SplicedLoops.{IsFitting, port_cases, patch_drives, output_target, IsLoopFree-splice}
use Rattle.eco_netlist.proofs.Plainly.{input_is_port, output_is_port}

-- no port is both an input and an output
pub both_directions : (n : Circuit) → IsChecked n → (name : List ℕ) → Contains n.ports name → Contains n.inputs name → Contains n.outputs name → ⊥
both_directions n checked name port input output =
    both_ways (has n.inputs name) (checked.directed name port ∙ not_from_true _ (has-from_Contains n.outputs name output)) (has-from_Contains n.inputs name input)

-- the nets of f and of p are nets of the two together
left_net : (f p : Circuit) (name : List ℕ) → Contains (names f) name → Contains (names (splice_of f p)) name
left_net f p name c =
    subst (λ l. Contains l name) (append_assoc f.ports f.wires p.wires) (Contains-append_left (names f) p.wires name c)

right_wire : (f p : Circuit) (name : List ℕ) → Contains p.wires name → Contains (names (splice_of f p)) name
right_wire f p name c = Contains-append_right f.ports (f.wires ++ p.wires) name (Contains-append_right f.wires p.wires name c)

-- a net of the two together is a net of f or a wire of p
net_cases : (f p : Circuit) (name : List ℕ) → Contains (names (splice_of f p)) name → Contains (names f) name ⊎ Contains p.wires name
net_cases f p name c =
    Contains-append_cases (names f) p.wires name (subst (λ l. Contains l name) (sym (append_assoc f.ports f.wires p.wires)) c)

-- what drives a net in one of them drives it in the two together
driven_left : (f p : Circuit) (name : List ℕ) → IsDriven f name → IsDriven (splice_of f p) name
driven_left f p name (g, within, out) = (g, Contains-append_left f.gates p.gates g within, out)

driven_right : (f p : Circuit) (name : List ℕ) → IsDriven p name → IsDriven (splice_of f p) name
driven_right f p name (g, within, out) = (g, Contains-append_right f.gates p.gates g within, out)

driven_cases : (f p : Circuit) (name : List ℕ) → IsDriven (splice_of f p) name → IsDriven f name ⊎ IsDriven p name
driven_cases f p name (g, within, out) =
    elim (Contains-append_cases f.gates p.gates g within) [
      | inl in_f ↦ inl (g, in_f, out)
      | inr in_p ↦ inr (g, in_p, out)
    ]

-- what the patch drives is an output of it, or a wire
driven_by_patch : (p : Circuit) → IsChecked p → (name : List ℕ) → IsDriven p name → Contains p.outputs name ⊎ Contains p.wires name
driven_by_patch p checked name (g, within, out) =
    subst (λ (x : List ℕ). Contains p.outputs x ⊎ Contains p.wires x) out (patch_drives p checked g within)

-- a net of the patch is a signal of it: the opposite would be a target
settled : (p : Circuit) → IsChecked p → ((name : List ℕ) → IsTarget p name → ⊥) → (name : List ℕ) → Contains (names p) name → (IsSignal p name → ⊥) → ⊥
settled p checked closed name net free = closed name (record { net = net; free = free })

-- a target of the two together is a target of f that the patch leaves
left_target : (f p : Circuit) (later : List (List ℕ)) → IsFitting f p later → (name : List ℕ) → IsTarget (splice_of f p) name → Contains later name
left_target f p later is name target =
    elim (net_cases f p name target.net) [
      | inl in_f ↦
          let free : IsTarget f name = record {
            net = in_f;
            free = λ signal. elim signal [
              | inl input ↦ target.free (inl input)
              | inr driven ↦ target.free (inr (driven_left f p name driven))
            ];
          } in
          elim (Contains-append_cases p.outputs later name (is.fits.drives.complete name free)) [
            | inl output ↦
                let port = output_is_port p is.patch name output in
                absurd (settled p is.patch is.fits.closed name (Contains-append_left p.ports p.wires name port) (λ signal. elim signal [
                  | inl input ↦ both_directions p is.patch name port input output
                  | inr driven ↦ target.free (inr (driven_right f p name driven))
                ]))
            | inr left ↦ left
          ]
      | inr wire ↦
          absurd (settled p is.patch is.fits.closed name (Contains-append_right p.ports p.wires name wire) (λ signal. elim signal [
            | inl input ↦ distinct_apart p.ports p.wires is.patch.distinct name (input_is_port p is.patch name input) wire
            | inr driven ↦ target.free (inr (driven_right f p name driven))
          ]))
    ]

-- a target that the patch leaves is no output of it
left_apart : (f p : Circuit) (later : List (List ℕ)) → Fits f p later → (name : List ℕ) → Contains p.outputs name → Contains later name → ⊥
left_apart f p later fits name output left =
    let first = place_of p.outputs name output in
    let second = place_of later name left in
    let lt = slice_get_within p.outputs first.0 name first.1 in
    let same = target_place (p.outputs ++ later) f first.0 (length p.outputs + second.0) name fits.drives
    (slice_get-append_left p.outputs later first.0 name first.1) (slice_get-back p.outputs later (length p.outputs + second.0) second.0 refl ∙ second.1) in
    omega (arith, lt, same)

-- and it is a target of the two together
stays_target : (f p : Circuit) (later : List (List ℕ)) → IsFitting f p later → (name : List ℕ) → Contains later name → IsTarget (splice_of f p) name
stays_target f p later is name left =
    let target = All-contains (IsTarget f) (p.outputs ++ later) name is.fits.drives.sound (Contains-append_right p.outputs later name left) in
    record {
      net = left_net f p name target.net;
      free = λ signal. elim signal [
        | inl input ↦ target.free (inl input)
        | inr driven ↦ elim (driven_cases f p name driven) [
          | inl by_f ↦ target.free (inr by_f)
          | inr by_p ↦ elim (driven_by_patch p is.patch name by_p) [
            | inl output ↦ left_apart f p later is.fits name output left
            | inr wire ↦ is.fits.fresh name wire target.net
          ]
        ]
      ];
    }

-- the back of a list that rises by number
rising_back : (xs ys : List (List ℕ)) → IsStrictlySortedBy nat_cmp (map target_number (xs ++ ys)) → IsStrictlySortedBy nat_cmp (map target_number ys)
rising_back [] ys rising = rising
rising_back (x ∷ xs) ys rising = rising_back xs ys (sorted_tail nat_cmp (target_number x) (map target_number (xs ++ ys)) rising)

-- the targets of the two together are those that the patch leaves
pub targets_splice : (f p : Circuit) (later : List (List ℕ)) → IsFitting f p later → AreTargets (splice_of f p) later
targets_splice f p later is = record {
  named = All_from_places (λ target. IsTrue (is_target_text target)) later (λ k target at.
      All-contains (λ target. IsTrue (is_target_text target)) (p.outputs ++ later) target is.fits.drives.named (Contains-append_right p.outputs later target (Contains_at later k target at)));
  ordered = IsStrictlyIncreasing-from_sorted (map target_number later) (rising_back p.outputs later (sorted_from_strictly_increasing (map target_number (p.outputs ++ later)) is.fits.drives.ordered));
  sound = All_from_places (IsTarget (splice_of f p)) later (λ k target at. stays_target f p later is target (Contains_at later k target at));
  complete = left_target f p later is;
}

-- a signal is a net
pub signal_net : (n : Circuit) → IsChecked n → (name : List ℕ) → IsSignal n name → Contains (names n) name
signal_net n checked name signal =
    elim signal [
      | inl input ↦ Contains-append_left n.ports n.wires name (input_is_port n checked name input)
      | inr driven ↦ subst (λ x. Contains (names n) x) driven.2 (checked.driven_nets driven.0 driven.1)
    ]

-- the patch's inputs and outputs are nets of f
port_of_patch : (f p : Circuit) (later : List (List ℕ)) → IsFitting f p later → (name : List ℕ) → Contains p.ports name → Contains (names f) name
port_of_patch f p later is name port =
    elim (port_cases p is.patch name port) [
      | inl input ↦ signal_net f is.netlist name (All-contains (IsSignal f) p.inputs name is.fits.reads input)
      | inr output ↦ (output_target f p later is.fits name output).net
    ]

pub net_of_patch : (f p : Circuit) (later : List (List ℕ)) → IsFitting f p later → (name : List ℕ) → Contains (names p) name → Contains (names (splice_of f p)) name
net_of_patch f p later is name c =
    elim (Contains-append_cases p.ports p.wires name c) [
      | inl port ↦ left_net f p name (port_of_patch f p later is name port)
      | inr wire ↦ right_wire f p name wire
    ]

pub distinct_names : (f p : Circuit) (later : List (List ℕ)) → IsFitting f p later → IsDistinct bytes_eq (names (splice_of f p))
distinct_names f p later is =
    subst (λ l. IsDistinct bytes_eq l) (append_assoc f.ports f.wires p.wires)
    (IsDistinct-append (names f) p.wires is.netlist.distinct (distinct_back p.ports p.wires is.patch.distinct)
    (λ name in_f wire. is.fits.fresh name wire in_f))

-- what the patch drives, neither drives f nor is it an input of it
driven_apart : (f p : Circuit) (later : List (List ℕ)) → IsFitting f p later → (name : List ℕ) → IsDriven p name → IsSignal f name → ⊥
driven_apart f p later is name by_p signal =
    elim (driven_by_patch p is.patch name by_p) [
      | inl output ↦ (output_target f p later is.fits name output).free signal
      | inr wire ↦ is.fits.fresh name wire (signal_net f is.netlist name signal)
    ]

distinct_outs : (f p : Circuit) (later : List (List ℕ)) → IsFitting f p later → IsDistinct bytes_eq (map (λ g. g.out) (f.gates ++ p.gates))
distinct_outs f p later is =
    rw (map-append (λ (g : NamedGate). g.out) f.gates p.gates)
    (IsDistinct-append (map (λ g. g.out) f.gates) (map (λ g. g.out) p.gates) is.netlist.driven_once is.patch.driven_once
    (λ name by_f by_p.
    driven_apart f p later is name (map-Contains (λ (g : NamedGate). g.out) p.gates name by_p) (inr (map-Contains (λ (g : NamedGate). g.out) f.gates name by_f))))

pub IsChecked-splice : (f p : Circuit) (later : List (List ℕ)) → IsFitting f p later → IsChecked (splice_of f p)
IsChecked-splice f p later is = record {
  distinct = distinct_names f p later is;
  inputs = is.netlist.inputs;
  outputs = is.netlist.outputs;
  directed = is.netlist.directed;
  driven_nets = λ g within. elim (Contains-append_cases f.gates p.gates g within) [
    | inl in_f ↦ left_net f p g.out (is.netlist.driven_nets g in_f)
    | inr in_p ↦ net_of_patch f p later is g.out (is.patch.driven_nets g in_p)
  ];
  read_nets = λ g within name reads. elim (Contains-append_cases f.gates p.gates g within) [
    | inl in_f ↦ left_net f p name (is.netlist.read_nets g in_f name reads)
    | inr in_p ↦ net_of_patch f p later is name (is.patch.read_nets g in_p name reads)
  ];
  arities = λ g within. elim (Contains-append_cases f.gates p.gates g within) [
    | inl in_f ↦ is.netlist.arities g in_f
    | inr in_p ↦ is.patch.arities g in_p
  ];
  driven_once = distinct_outs f p later is;
  inputs_free = λ name input driven. elim (driven_cases f p name driven) [
    | inl by_f ↦ is.netlist.inputs_free name input by_f
    | inr by_p ↦ driven_apart f p later is name by_p (inl input)
  ];
  undriven = λ name net free.
      All-contains (λ target. IsTrue (is_target_text target)) later name (targets_splice f p later is).named (left_target f p later is name (record { net = net; free = free }));
  loop_free = IsLoopFree-splice f p later is;
}
