-- A patch that fits leaves the netlist without a loop. A path that goes from the patch back into the netlist does so at a
-- target; what the patch reads behind that target, it reads for later targets only. So along a path the places of the
-- targets rise, and no path closes.
use Rattle.std.proofs.Common.{◌≡◌, ℕ, zero, suc, ◌+◌, ◌<◌, ◌≤◌, ◌⊎◌, inl, inr, List, [], ◌∷◌, ◌++◌, Some, length, take, drop, refl, sym, ◌∙◌, ap, subst, arith, drop-cons}
use Rattle.std.specs.List.{All, Contains, slice_get}
use Rattle.std.proofs.lemmas.Bool.{not-false, cases_lt}
use Rattle.std.proofs.lemmas.List.{take-append-le, take-append-drop, take_all}
use Rattle.std.proofs.lemmas.List.Elements.{All-append, All-cons, All-nil, All-head, All-tail, All-contains, Contains-append_left, Contains-append_cases}
use Rattle.std.proofs.lemmas.Option.{slice_get_within, get_or_from_slice_get}
use Rattle.eco_laws.proofs.Members.{cases_member}
use Rattle.eco_lists.proofs.Places.{place_of, place_in_front, slice_get-append_left}
use Rattle.eco_meaning.specs.Names.{has}
use Rattle.eco_meaning.specs.Circuit.{Circuit, NamedGate, Reads, IsTarget, IsReadBy, IsChain, IsCircle, IsLoopFree, last_of, Fan}
use Rattle.eco_meaning.specs.Circuit.Fan.{itself, next}
use Rattle.eco_meaning.specs.Patch.{Fits, IsBehindOnly, splice_of}
use Rattle.eco_netlist.specs.Netlists.{IsChecked}
use Rattle.eco_netlist.proofs.BehindLemmas.{target_place}
use Rattle.eco_netlist.proofs.CircleLemmas.{circle_turned}
use Rattle.eco_netlist.proofs.NameSets.{Contains-from_has, has-from_absent}

-- a port is an input or an output
pub port_cases : (n : Circuit) → IsChecked n → (name : List ℕ) → Contains n.ports name → Contains n.inputs name ⊎ Contains n.outputs name
port_cases n checked name port =
    elim (cases_member n.inputs name) [
      | inl input ↦ inl input
      | inr none ↦ inr (Contains-from_has n.outputs name (not-false (has n.outputs name) (sym (checked.directed name port) ∙ has-from_absent n.inputs name none)))
    ]

-- a checked netlist, and a checked patch that fits into it and leaves these targets
pub record IsFitting (f p : Circuit) (later : List (List ℕ)) : Type 0 where
  pub netlist : IsChecked f
  pub patch : IsChecked p
  pub fits : Fits f p later

-- what a gate of the patch drives is an output of it, or a wire
pub patch_drives : (p : Circuit) → IsChecked p → (g : NamedGate) → Contains p.gates g → Contains p.outputs g.out ⊎ Contains p.wires g.out
patch_drives p checked g within =
    elim (Contains-append_cases p.ports p.wires g.out (checked.driven_nets g within)) [
      | inl port ↦ elim (port_cases p checked g.out port) [
        | inl input ↦ absurd (checked.inputs_free g.out input (g, within, refl))
        | inr output ↦ inl output
      ]
      | inr wire ↦ inr wire
    ]

-- the outputs of the patch are targets
pub output_target : (f p : Circuit) (later : List (List ℕ)) → Fits f p later → (name : List ℕ) → Contains p.outputs name → IsTarget f name
output_target f p later fits name output =
    All-contains (IsTarget f) (p.outputs ++ later) name fits.drives.sound (Contains-append_left p.outputs later name output)

-- a gate of the netlist that reads a gate of the patch reads an output of it
enters_at_output : (f p : Circuit) (later : List (List ℕ)) → IsFitting f p later → (g h : NamedGate) → Contains p.gates g → Contains f.gates h → IsReadBy g h → Contains p.outputs g.out
enters_at_output f p later is g h in_p in_f reads =
    elim (patch_drives p is.patch g in_p) [
      | inl output ↦ output
      | inr wire ↦ absurd (is.fits.fresh g.out wire (is.netlist.read_nets h in_f g.out reads))
    ]

-- what a gate of the patch reads of the netlist's gates is an input of the patch
leaves_at_input : (f p : Circuit) (later : List (List ℕ)) → IsFitting f p later → (g h : NamedGate) → Contains f.gates g → Contains p.gates h → IsReadBy g h → Contains p.inputs g.out
leaves_at_input f p later is g h in_f in_p reads =
    elim (Contains-append_cases p.ports p.wires g.out (is.patch.read_nets h in_p g.out reads)) [
      | inl port ↦ elim (port_cases p is.patch g.out port) [
        | inl input ↦ input
        | inr output ↦ absurd ((output_target f p later is.fits g.out output).free (inr (g, in_f, refl)))
      ]
      | inr wire ↦ absurd (is.fits.fresh g.out wire (is.netlist.driven_nets g in_f))
    ]

-- the fan-out of what a gate reads is that of its output, and more
fan_before : (n : Circuit) (h : NamedGate) (name end : List ℕ) → Contains n.gates h → Reads h name → Fan n h.out end → Fan n name end
fan_before n h name _ within reads itself = next h within name reads itself
fan_before n h name _ within reads (next g c read r rest) = next g c read r (fan_before n h name read within reads rest)

-- the name lies behind a target other than those of the first places, however few of the first k - 1 these are
abbrev IsBeyond : Circuit → List (List ℕ) → ℕ → List ℕ → Type 0
IsBeyond f targets k name = (m : ℕ) → m < k → IsBehindOnly f (take m targets) name → ⊥

-- the outputs of p in the fan-out of the name stand at place k or later
abbrev IsAhead : Circuit → ℕ → List ℕ → Type 0
IsAhead p k name = (place : ℕ) (output : List ℕ) → slice_get p.outputs place ≡ Some output → Fan p name output → k ≤ place

-- within the netlist, within the patch, and from each to the other
stays_beyond : (f : Circuit) (targets : List (List ℕ)) (k : ℕ) (g h : NamedGate) → Contains f.gates h → IsReadBy g h → IsBeyond f targets k g.out → IsBeyond f targets k h.out
stays_beyond f targets k g h within reads beyond = λ m lt only. beyond m lt (λ target is fan. only target is (next h within g.out reads fan))

stays_ahead : (p : Circuit) (k : ℕ) (g h : NamedGate) → Contains p.gates h → IsReadBy g h → IsAhead p k g.out → IsAhead p k h.out
stays_ahead p k g h within reads ahead = λ place output at fan. ahead place output at (fan_before p h g.out output within reads fan)

into_patch : (f p : Circuit) (later : List (List ℕ)) (k : ℕ) → IsFitting f p later → (g h : NamedGate) → Contains f.gates g → Contains p.gates h → IsReadBy g h → IsBeyond f (p.outputs ++ later) k g.out → IsAhead p k h.out
into_patch f p later k is g h in_f in_p reads beyond = λ place output at fan.
    let lt = slice_get_within p.outputs place output at in
    let cut : p.outputs ≡ take place p.outputs ++ output ∷ drop (suc place) p.outputs =
    sym (take-append-drop place p.outputs) ∙ ap (λ l. take place p.outputs ++ l) (drop-cons p.outputs place output lt ∙ ap (λ x. x ∷ drop (suc place) p.outputs) (get_or_from_slice_get p.outputs place output output at)) in
    let only = is.fits.apart (take place p.outputs) output (drop (suc place) p.outputs) cut g.out (leaves_at_input f p later is g h in_f in_p reads) (fan_before p h g.out output in_p reads fan) in
    elim (cases_lt place k) [
      | inl early ↦ absurd (beyond place early (subst (λ (l : List (List ℕ)). IsBehindOnly f l g.out) (sym (take-append-le place p.outputs later (omega (arith, lt)))) only))
      | inr le ↦ le
    ]

into_netlist : (f p : Circuit) (later : List (List ℕ)) (k : ℕ) → IsFitting f p later → (g h : NamedGate) → Contains p.gates g → Contains f.gates h → IsReadBy g h → IsAhead p k g.out → IsBeyond f (p.outputs ++ later) (k + 1) h.out
into_netlist f p later k is g h in_p in_f reads ahead = λ m lt only.
    let output = enters_at_output f p later is g h in_p in_f reads in
    let place = place_of p.outputs g.out output in
    let le = ahead place.0 g.out place.1 itself in
    let member = only g.out (output_target f p later is.fits g.out output) (next h in_f g.out reads itself) in
    let again = place_of (take m (p.outputs ++ later)) g.out member in
    let front = place_in_front m (p.outputs ++ later) again.0 g.out again.1 in
    let same = target_place (p.outputs ++ later) f again.0 place.0 g.out is.fits.drives front.1 (slice_get-append_left p.outputs later place.0 g.out place.1) in
    omega (arith, lt, le, front.0, same)

-- nothing lies beyond all targets
beyond_none : (f : Circuit) (targets : List (List ℕ)) (name : List ℕ) → ((target : List ℕ) → IsTarget f target → Contains targets target) → IsBeyond f targets (length targets + 1) name → ⊥
beyond_none f targets name complete beyond =
    beyond (length targets) (omega arith) (λ target is fan. subst (λ (l : List (List ℕ)). Contains l target) (sym (take_all (length targets) targets (omega arith))) (complete target is))

-- the gate is one of the two netlists'
abbrev IsEither : Circuit → Circuit → NamedGate → Type 0
IsEither f p g = Contains (f.gates ++ p.gates) g

-- a gate after the path has been in the patch: it is the patch's, or it lies behind one more target
abbrev IsPast : Circuit → Circuit → List (List ℕ) → ℕ → NamedGate → Type 0
IsPast f p later k g =
    (Contains f.gates g × IsBeyond f (p.outputs ++ later) (k + 1) g.out) ⊎ (Contains p.gates g × IsAhead p k g.out)

past_netlist : (f p : Circuit) (later : List (List ℕ)) (k : ℕ) → IsFitting f p later → (g h : NamedGate) → IsPast f p later k g → Contains f.gates h → IsReadBy g h → IsBeyond f (p.outputs ++ later) (k + 1) h.out
past_netlist f p later k is g h past in_f reads =
    elim past [
      | inl from_f ↦ stays_beyond f (p.outputs ++ later) (k + 1) g h in_f reads from_f.1
      | inr from_p ↦ into_netlist f p later k is g h from_p.0 in_f reads from_p.1
    ]

past_next : (f p : Circuit) (later : List (List ℕ)) (k : ℕ) → IsFitting f p later → (g h : NamedGate) → IsPast f p later k g → IsEither f p h → IsReadBy g h → IsPast f p later k h
past_next f p later k is g h past either reads =
    elim (Contains-append_cases f.gates p.gates h either) [
      | inl in_f ↦ inl (in_f, past_netlist f p later k is g h past in_f reads)
      | inr in_p ↦ elim past [
        | inl from_f ↦
            let ahead = into_patch f p later (k + 1) is g h from_f.0 in_p reads from_f.1 in
            inr (in_p, λ place output at fan. let le = ahead place output at fan in omega (arith, le))
        | inr from_p ↦ inr (in_p, stays_ahead p k g h in_p reads from_p.1)
      ]
    ]

past_along : (f p : Circuit) (later : List (List ℕ)) (k : ℕ) → IsFitting f p later → (g : NamedGate) (gates : List NamedGate) → IsPast f p later k g → All (IsEither f p) gates → IsChain IsReadBy g gates → IsPast f p later k (last_of g gates)
past_along f p later k is g [] past all chain = past
past_along f p later k is g (h ∷ gates) past all chain =
    past_along f p later k is h gates (past_next f p later k is g h past (All-head (IsEither f p) h gates all) chain.0) (All-tail (IsEither f p) h gates all) chain.1

-- a chain that begins in the netlist stays there, or goes through the patch
from_netlist : (f p : Circuit) (later : List (List ℕ)) (k : ℕ) → IsFitting f p later → (g : NamedGate) (gates : List NamedGate) → Contains f.gates g → IsBeyond f (p.outputs ++ later) k g.out → All (IsEither f p) gates → IsChain IsReadBy g gates → All (Contains f.gates) (g ∷ gates) ⊎ IsPast f p later k (last_of g gates)
from_netlist f p later k is g [] in_f beyond all chain = inl (All-cons (Contains f.gates) g [] in_f (All-nil (Contains f.gates)))
from_netlist f p later k is g (h ∷ gates) in_f beyond all chain =
    let rest = All-tail (IsEither f p) h gates all in
    elim (Contains-append_cases f.gates p.gates h (All-head (IsEither f p) h gates all)) [
      | inl next_in ↦ elim (from_netlist f p later k is h gates next_in (stays_beyond f (p.outputs ++ later) k g h next_in chain.0 beyond) rest chain.1) [
        | inl stays ↦ inl (All-cons (Contains f.gates) g (h ∷ gates) in_f stays)
        | inr past ↦ inr past
      ]
      | inr in_p ↦ inr (past_along f p later k is h gates (inr (in_p, into_patch f p later k is g h in_f in_p chain.0 beyond)) rest chain.1)
    ]

-- a gate of the netlist on a circle would lie beyond any number of targets
beyond_any : (f p : Circuit) (later : List (List ℕ)) → IsFitting f p later → (g : NamedGate) (gates : List NamedGate) → Contains f.gates g → All (IsEither f p) gates → IsCircle IsReadBy (g ∷ gates) → (k : ℕ) → IsBeyond f (p.outputs ++ later) k g.out
beyond_any f p later is g gates in_f all circle zero = λ m lt only. omega (arith, lt)
beyond_any f p later is g gates in_f all circle (suc k) =
    let before = beyond_any f p later is g gates in_f all circle k in
    elim (from_netlist f p later k is g gates in_f before all circle.0) [
      | inl stays ↦ absurd (is.netlist.loop_free (g ∷ gates) (record { members = stays; circle = circle }))
      | inr past ↦ subst (λ (n : ℕ). IsBeyond f (p.outputs ++ later) n g.out) (omega arith) (past_netlist f p later k is (last_of g gates) g past in_f circle.1)
    ]

no_circle : (f p : Circuit) (later : List (List ℕ)) → IsFitting f p later → (g : NamedGate) (gates : List NamedGate) → Contains f.gates g → All (IsEither f p) gates → IsCircle IsReadBy (g ∷ gates) → ⊥
no_circle f p later is g gates in_f all circle =
    beyond_none f (p.outputs ++ later) g.out is.fits.drives.complete (beyond_any f p later is g gates in_f all circle (length (p.outputs ++ later) + 1))

-- gates are all the patch's, or one of them is the netlist's
first_in : (f p : Circuit) (gates : List NamedGate) → All (IsEither f p) gates → All (Contains p.gates) gates ⊎ ((front : List NamedGate) × (h : NamedGate) × (back : List NamedGate) × (gates ≡ front ++ h ∷ back) × Contains f.gates h × All (IsEither f p) front × All (IsEither f p) back)
first_in f p [] all = inl (All-nil (Contains p.gates))
first_in f p (g ∷ gates) all =
    let rest = All-tail (IsEither f p) g gates all in
    let either = All-head (IsEither f p) g gates all in
    elim (Contains-append_cases f.gates p.gates g either) [
      | inl in_f ↦ inr ([], g, gates, refl, in_f, All-nil (IsEither f p), rest)
      | inr in_p ↦ elim (first_in f p gates rest) [
        | inl stay ↦ inl (All-cons (Contains p.gates) g gates in_p stay)
        | inr found ↦ inr (g ∷ found.0, found.1, found.2, ap (λ l. g ∷ l) found.3, found.4, All-cons (IsEither f p) g found.0 either found.5, found.6)
      ]
    ]

-- the netlist with the patch in it has no loop
pub IsLoopFree-splice : (f p : Circuit) (later : List (List ℕ)) → IsFitting f p later → IsLoopFree (splice_of f p)
IsLoopFree-splice f p later is loop found =
    elim (first_in f p loop found.members) [
      | inl all ↦ is.patch.loop_free loop (record { members = all; circle = found.circle })
      | inr at ↦
          let turned = circle_turned IsReadBy at.0 (at.1 ∷ at.2) (subst (λ (l : List NamedGate). IsCircle IsReadBy l) at.3 found.circle) in
          no_circle f p later is at.1 (at.2 ++ at.0) at.4 (All-append (IsEither f p) at.2 at.0 at.6 at.5) turned
    ]
