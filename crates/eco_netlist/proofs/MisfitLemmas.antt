-- Why a netlist is no patch of another one.
use Rattle.std.proofs.Common.{◌≡◌, ◌↔◌, ℕ, suc, ◌+◌, ◌-◌, ◌<◌, ◌≤◌, ◌⊎◌, inl, inr, Bool, true, false, cond, List, [], ◌∷◌, ◌++◌, Option, Some, None, length, take, drop, get_or, map, refl, sym, ◌∙◌, ap, subst, arith, append-nil, drop-cons}
use Rattle.std.specs.List.{Contains, slice_get}
use Rattle.std.specs.List.Sorted.{IsStrictlySortedBy}
use Rattle.std.specs.Cmp.Lexicographic.{slice_cmp}
use Rattle.std.specs.Ordering.{nat_cmp, is_lt}
use Rattle.std.proofs.lemmas.Bool.{false≢true}
use Rattle.std.proofs.lemmas.Cmp.{nat_list_cmp_total}
use Rattle.std.proofs.lemmas.List.Elements.{All-contains, All-head, Contains-get_or, Contains-append_left, Contains-append_cases, Contains-push, Contains-push_cases}
use Rattle.std.proofs.lemmas.List.{take-append-drop, get_or-drop, length-drop}
use Rattle.std.proofs.lemmas.Map.Keys.{sorted_from_strictly_increasing, sorted_tail, below_from_sorted}
use Rattle.std.proofs.lemmas.Option.{slice_get-get_or, slice_get_within, get_or_from_slice_get}
use Rattle.eco_laws.proofs.Members.{cases_member}
use Rattle.eco_lists.proofs.Names.{less_from}
use Rattle.eco_lists.proofs.Places.{place_of, Contains_at, slice_get-back}
use Rattle.eco_lists.proofs.Members.{Contains-map, Contains_cases, Contains_first, Contains_later, Contains_none, map-Contains}
use Rattle.eco_meaning.specs.Names.{has, target_number}
use Rattle.eco_meaning.specs.Circuit.{Circuit, NamedGate, names, IsSignal, IsTarget, AreTargets}
use Rattle.eco_meaning.specs.Patch.{Fits}
use Rattle.eco_netlist.specs.Refusals.{IsNoLater}
use Rattle.eco_netlist.specs.Netlists.{IsChecked}
use Rattle.eco_netlist.specs.Tallies.{smaller}
use Rattle.eco_netlist.specs.Misfits.{DrivesTargets, IsUnfit, IsUnfitInput, IsTakenWire, IsSmallest, IsLeastIn}
use Rattle.eco_netlist.specs.Reached.{AreLasts, AreFirstOutputs}
use Rattle.eco_netlist.proofs.NameSets.{absent_from_has}
use Rattle.eco_netlist.proofs.Plainly.{input_is_port}
use Rattle.eco_netlist.proofs.Spliced.{both_directions, signal_net}
use Rattle.eco_netlist.proofs.RefusalLemmas.{no_later_itself, no_later_from}

-- a net is a signal or not
pub signal_cases : (n : Circuit) (name : List ℕ) → IsSignal n name ⊎ (IsSignal n name → ⊥)
signal_cases n name =
    elim (cases_member n.inputs name) [
      | inl input ↦ inl (inl input)
      | inr no_input ↦ elim (cases_member (map (λ (g : NamedGate). g.out) n.gates) name) [
        | inl out ↦ inl (inr (map-Contains (λ (g : NamedGate). g.out) n.gates name out))
        | inr no_driver ↦ inr (λ signal. elim signal [
          | inl input ↦ no_input input
          | inr driven ↦ no_driver (subst (λ x. Contains (map (λ (g : NamedGate). g.out) n.gates) x) driven.2 (Contains-map (λ (g : NamedGate). g.out) n.gates driven.0 driven.1))
        ])
      ]
    ]

-- an input that p may not read, by the last target before it and the first output behind it
pub unfit_by_places : (f p : Circuit) (lasts firsts : List ℕ) (net place : ℕ) (name : List ℕ) → DrivesTargets f p → IsChecked p → AreLasts f p.outputs lasts → AreFirstOutputs p firsts → slice_get (names f) net ≡ Some name → slice_get (names p) place ≡ Some name → Contains p.inputs name → (get_or firsts place 0 < get_or lasts net 0) ↔ IsUnfit f p name
unfit_by_places f p lasts firsts net place name drives checked are first at at_p input =
    let last_at : slice_get lasts net ≡ Some (get_or lasts net 0) = slice_get-get_or lasts net 0 (subst (λ n. net < n) (sym are.count) (slice_get_within (names f) net name at)) in
    let first_at : slice_get firsts place ≡ Some (get_or firsts place 0) = slice_get-get_or firsts place 0 (subst (λ n. place < n) (sym first.count) (slice_get_within (names p) place name at_p)) in (
      λ lt. inr (
          let source = are.reached net (get_or lasts net 0) name at last_at (omega (arith, lt)) in
          let last_is = source.2 in
          let within = slice_get_within p.outputs source.0 source.1 source.3 in
          let end = first.reached place (get_or firsts place 0) name at_p first_at (omega (arith, lt, last_is, within)) in
          let few = slice_get_within p.outputs (get_or firsts place 0) end.0 end.1 in
          let cut : drop (get_or firsts place 0) p.outputs ≡ end.0 ∷ drop (suc (get_or firsts place 0)) p.outputs =
          drop-cons p.outputs (get_or firsts place 0) end.0 few ∙ ap (λ x. x ∷ drop (suc (get_or firsts place 0)) p.outputs) (get_or_from_slice_get p.outputs (get_or firsts place 0) end.0 end.0 end.1) in
          record {
            before = take (get_or firsts place 0) p.outputs;
            output = end.0;
            behind = drop (suc (get_or firsts place 0)) p.outputs;
            split = sym (take-append-drop (get_or firsts place 0) p.outputs) ∙ ap (λ l. take (get_or firsts place 0) p.outputs ++ l) cut;
            reads = end.2;
            target = source.1;
            late = subst (λ (l : List (List ℕ)). Contains l source.1) cut (Contains-drop p.outputs (get_or firsts place 0) source.0 source.1 (omega (arith, lt, last_is)) source.3);
            reached = source.4;
          }),
      λ unfit. elim unfit [
        | inl free ↦
            let target : IsTarget f name = record { net = Contains_at (names f) net name at; free = free } in
            absurd (both_directions p checked name (input_is_port p checked name input) input (drives.drives.complete name target))
        | inr early ↦
            let output_at : slice_get p.outputs (length early.before) ≡ Some early.output = ap (λ l. slice_get l (length early.before)) early.split ∙ slice_get-back early.before (early.output ∷ early.behind) (length early.before) 0 (omega arith) in
            let low = first.least place (get_or firsts place 0) name at_p first_at (length early.before) early.output output_at early.reads in
            let late = place_of (early.output ∷ early.behind) early.target early.late in
            let target_at : slice_get p.outputs (length early.before + late.0) ≡ Some early.target = ap (λ l. slice_get l (length early.before + late.0)) early.split ∙ slice_get-back early.before (early.output ∷ early.behind) (length early.before + late.0) late.0 refl ∙ late.1 in
            let high = are.greatest net (get_or lasts net 0) name at last_at (length early.before + late.0) early.target target_at early.reached in
            omega (arith, low, high)
      ],
    )
  where
    Contains-drop : (xs : List (List ℕ)) (n k : ℕ) (x : List ℕ) → n ≤ k → slice_get xs k ≡ Some x → Contains (drop n xs) x
    Contains-drop xs n k x le at =
        Contains_at (drop n xs) (k - n) x
        (slice_get-get_or (drop n xs) (k - n) x (let lt = slice_get_within xs k x at in let len = length-drop n xs in omega (arith, lt, len, le))
        ∙ ap (λ y. Some y) (get_or-drop n xs (k - n) x ∙ ap (λ i. get_or xs i x) (omega (arith, le)) ∙ get_or_from_slice_get xs k x x at))

-- a name that is no net is unfit
pub unfit_outside : (f p : Circuit) (name : List ℕ) → IsChecked f → has (names f) name ≡ false → IsUnfit f p name
unfit_outside f p name checked absent = inl (λ signal. absent_from_has (names f) name absent (signal_net f checked name signal))

-- one more name, which has the property where its bit says so
pub least_more : (Has : List ℕ → Type 0) (list : List (List ℕ)) (least : Option (List ℕ)) (name : List ℕ) (bit : Bool) → ((bit ≡ true) ↔ Has name) → IsLeastIn Has list least → IsLeastIn Has (list ++ name ∷ []) (smaller least name bit)
least_more Has list None name false says is = λ other c holds.
    elim (Contains-push_cases list name other c) [
      | inl before ↦ is other before holds
      | inr same ↦ absurd (false≢true (says.1 (subst Has (sym same) holds)))
    ]
least_more Has list None name true says is = (
  Contains-push list name,
  says.0 refl,
  λ other c holds. elim (Contains-push_cases list name other c) [
    | inl before ↦ absurd (is other before holds)
    | inr same ↦ subst (λ x. IsNoLater name x) same (no_later_itself name)
  ],
)
least_more Has list (Some least) name false says is = (
  Contains-append_left list (name ∷ []) least is.0,
  is.1,
  λ other c holds. elim (Contains-push_cases list name other c) [
    | inl before ↦ is.2 other before holds
    | inr same ↦ absurd (false≢true (says.1 (subst Has (sym same) holds)))
  ],
)
least_more Has list (Some least) name true says is =
    elim (is_lt (slice_cmp nat_cmp name least)) as (λ b. is_lt (slice_cmp nat_cmp name least) ≡ b → IsLeastIn Has (list ++ name ∷ []) (cond b (Some name) (Some least))) [
      | true ↦ λ e. (
        Contains-push list name,
        says.0 refl,
        λ other c holds. elim (Contains-push_cases list name other c) [
          | inl before ↦ λ earlier. is.2 other before holds (nat_list_cmp_total.trans other name least earlier (less_from (slice_cmp nat_cmp name least) e))
          | inr same ↦ subst (λ x. IsNoLater name x) same (no_later_itself name)
        ],
      )
      | false ↦ λ e. (
        Contains-append_left list (name ∷ []) least is.0,
        is.1,
        λ other c holds. elim (Contains-push_cases list name other c) [
          | inl before ↦ is.2 other before holds
          | inr same ↦ subst (λ x. IsNoLater least x) same (no_later_from name least e)
        ],
      )
    ] refl

-- in a list that rises by number the first has a smaller number than each later one
below_later : (x z : List ℕ) (xs : List (List ℕ)) → IsStrictlySortedBy nat_cmp (map target_number (x ∷ xs)) → Contains xs z → target_number x < target_number z
below_later x z xs rising c =
    let k = Contains-map target_number xs z c in
    let below : target_number x < get_or (map target_number xs) k.0 (target_number z) = below_from_sorted (map target_number (x ∷ xs)) 0 (suc k.0) (target_number z) rising (omega arith) (let lt = k.1 in omega arith) in
    let last = k.2 in
    omega arith

-- there is one list of the targets in order
rising_unique : (xs ys : List (List ℕ)) → IsStrictlySortedBy nat_cmp (map target_number xs) → IsStrictlySortedBy nat_cmp (map target_number ys) → ((x : List ℕ) → Contains xs x → Contains ys x) → ((y : List ℕ) → Contains ys y → Contains xs y) → xs ≡ ys
rising_unique [] [] a b there back = refl
rising_unique [] (y ∷ ys) a b there back = absurd (Contains_none y (back y (Contains_first y ys)))
rising_unique (x ∷ xs) [] a b there back = absurd (Contains_none x (there x (Contains_first x xs)))
rising_unique (x ∷ xs) (y ∷ ys) a b there back =
    let same : x ≡ y = elim (Contains_cases y x ys (there x (Contains_first x xs))) [
      | inl e ↦ sym e
      | inr later ↦ elim (Contains_cases x y xs (back y (Contains_first y ys))) [
        | inl e ↦ e
        | inr behind ↦
            let up = below_later y x ys b later in
            let down = below_later x y xs a behind in
            absurd (omega arith)
      ]
    ] in
    let rest = rising_unique xs ys
    (sorted_tail nat_cmp (target_number x) (map target_number xs) a) (sorted_tail nat_cmp (target_number y) (map target_number ys) b)
    (λ z c. elim (Contains_cases y z ys (there z (Contains_later x z xs c))) [
      | inl e ↦
          let up = below_later x z xs a c in
          let equal = ap target_number (same ∙ e) in
          absurd (omega arith)
      | inr later ↦ later
    ])
    (λ z c. elim (Contains_cases x z xs (back z (Contains_later y z ys c))) [
      | inl e ↦
          let up = below_later y z ys b c in
          let equal = ap target_number (sym same ∙ e) in
          absurd (omega arith)
      | inr later ↦ later
    ]) in
    ap (λ z. z ∷ xs) same ∙ ap (λ l. y ∷ l) rest

pub targets_unique : (f : Circuit) (xs ys : List (List ℕ)) → AreTargets f xs → AreTargets f ys → xs ≡ ys
targets_unique f xs ys a b =
    rising_unique xs ys (sorted_from_strictly_increasing (map target_number xs) a.ordered) (sorted_from_strictly_increasing (map target_number ys) b.ordered)
    (λ x c. b.complete x (All-contains (IsTarget f) xs x a.sound c)) (λ y c. a.complete y (All-contains (IsTarget f) ys y b.sound c))

-- a netlist without targets
pub closed_from : (p : Circuit) (targets : List (List ℕ)) → AreTargets p targets → length targets ≡ 0 → (name : List ℕ) → IsTarget p name → ⊥
closed_from p targets are none name target =
    let c = are.complete name target in omega (arith, c.1)

pub none_from : (p : Circuit) (targets : List (List ℕ)) → AreTargets p targets → ((name : List ℕ) → IsTarget p name → ⊥) → length targets ≡ 0
none_from p [] are closed = refl
none_from p (target ∷ targets) are closed = absurd (closed target (All-head (IsTarget p) target targets are.sound))

-- nothing unfit and nothing taken: the patch fits
pub Fits-from : (f p : Circuit) → DrivesTargets f p → IsChecked p → IsLeastIn (IsUnfit f p) p.inputs None → IsLeastIn (Contains (names f)) p.wires None → Fits f p []
Fits-from f p drives checked fit free = record {
  loop_free = checked.loop_free;
  closed = drives.closed;
  drives = rw append-nil drives.drives;
  reads = λ k d lt. elim (signal_cases f (get_or p.inputs k d)) [
    | inl signal ↦ signal
    | inr none ↦ absurd (fit (get_or p.inputs k d) (Contains-get_or p.inputs k d lt) (inl none))
  ];
  apart = λ before output behind split signal input reads target is fan.
      let driven = subst (λ (l : List (List ℕ)). Contains l target) split (drives.drives.complete target is) in
      elim (Contains-append_cases before (output ∷ behind) target driven) [
        | inl early ↦ early
        | inr late ↦ absurd (fit signal input (inr (record {
          before = before;
          output = output;
          behind = behind;
          split = split;
          reads = reads;
          target = target;
          late = late;
          reached = fan;
        })))
      ];
  fresh = λ wire c net. free wire c net;
}

-- the smallest of them
pub smallest_input : (f p : Circuit) (name : List ℕ) → IsLeastIn (IsUnfit f p) p.inputs (Some name) → IsSmallest (IsUnfitInput f p) name
smallest_input f p name is = record {
  holds = record { input = is.0; unfit = is.1 };
  smallest = λ other holds. is.2 other holds.input holds.unfit;
}

pub no_unfit_input : (f p : Circuit) → IsLeastIn (IsUnfit f p) p.inputs None → (name : List ℕ) → IsUnfitInput f p name → ⊥
no_unfit_input f p is name holds = is name holds.input holds.unfit

pub smallest_wire : (f p : Circuit) (name : List ℕ) → IsLeastIn (Contains (names f)) p.wires (Some name) → IsSmallest (IsTakenWire f p) name
smallest_wire f p name is = record {
  holds = record { wire = is.0; taken = is.1 };
  smallest = λ other holds. is.2 other holds.wire holds.taken;
}
