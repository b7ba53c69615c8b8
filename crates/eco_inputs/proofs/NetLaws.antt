-- The nets that the words name: one fault comes at most, and none where they can be cut together.
use Rattle.std.proofs.Common.{◌≡◌, ◌≢◌, ◌⊎◌, inl, inr, ℕ, suc, ◌+◌, ◌<◌, ◌≤◌, Bool, true, false, ◌||◌, eqb, List, [], ◌∷◌, ◌++◌, Option, Some, None, true≢false, take, map, get_or, length, refl, sym, ◌∙◌, ap, subst, arith}
use Rattle.std.specs.List.{All, AllPairs, Contains, list_any, slice_get}
use Rattle.std.specs.Borrow.{Bor}
use Rattle.std.specs.Option.{option_map}
use Rattle.std.specs.Str.{bytes_eq}
use Rattle.std.proofs.lemmas.Option.{get_or_from_slice_get, slice_get-get_or, slice_get-map}
use Rattle.std.proofs.lemmas.Bool.{eqb-true, eqb-false}
use Rattle.std.specs.Prelude.{MatchOption}
use Rattle.std.proofs.lemmas.List.{length-map, map-append, take-map, take-take, take_all}
use Rattle.std.proofs.lemmas.List.Elements.{All-append, All-contains, All-cons, All-more, All-nil}
use Rattle.eco_lists.proofs.Members.{Contains-map, map-Contains}
use Rattle.eco_lists.proofs.Names.{bytes_eq-same, same_name}
use Rattle.eco_lists.proofs.Places.{All_at, Contains_at, cases_unequal, pair_at, pairs_push, place_in_front, place_of, slice_get-take, take_at_more}
use Rattle.eco_meaning.specs.Names.{has}
use Rattle.eco_meaning.specs.Circuit.{Circuit, IsDriven, NamedGate, names}
use Rattle.eco_gates.specs.declared.gate.NetId.{NetId}
use Rattle.eco_gates.specs.GateValue.{GateValue}
use Rattle.eco_gates.specs.Gates.{IsGateWithin, IsWithin}
use Rattle.eco_netlist.specs.Netlists.{name_at, named_gate, names_at}
use Rattle.eco_netlist.proofs.NameSets.{Contains-from_has, absent_from_has}
use Rattle.eco_outside.specs.Store.{Files}
use Rattle.eco_query.specs.declared.TheConstants.{MOST_TARGETS}
use Rattle.eco_inputs.specs.declared.nets.NetFault.{NetFault}
use Rattle.eco_inputs.specs.declared.nets.NetFault.TheVariants.{TooMany, NoNet}
use Rattle.eco_inputs.specs.Nets.{AreDrivenNames, AreFirstNamed, AreNamed, CanBeCutTogether, IsDrivenNet, IsFirstFault, IsNetFault, IsNext, nets_row}
use Rattle.eco_inputs.specs.Rows.{IsRow}
use Rattle.eco_inputs.proofs.RowLaws.{test_law}

-- where all are different nets that gates drive, none is at fault
in_whole : (f : Circuit) (whole : List (List ℕ)) (i : ℕ) (name : List ℕ) → slice_get whole i ≡ Some name → AreDrivenNames f whole → ((IsDriven f name → ⊥) ⊎ Contains (take i whole) name) → ⊥
in_whole f whole i name at are (inl never) = never (All_at (IsDriven f) whole i name are.driven at)
in_whole f whole i name at are (inr among) =
    let (k, there) = place_of (take i whole) name among in
    let (below, here) = place_in_front i whole k name there in
    pair_at (λ a b. a ≢ b) whole k i name name are.once below here at refl

-- nor one before the first that is
before_first : (f : Circuit) (named : List (List ℕ)) (i j : ℕ) → i < j → IsFirstFault f named i → AreDrivenNames f (take j named) → ⊥
before_first f named i j less first front =
    in_whole f (take j named) i first.name (slice_get-take j named i first.name less first.at) front
    (elim first.fault [
      | inl never ↦ inl never
      | inr among ↦ inr (subst (λ list. Contains list first.name) (sym (take-take i j named (omega (arith, less)))) among)
    ])

equal_from : (i j : ℕ) → (i < j → ⊥) → (j < i → ⊥) → i ≡ j
equal_from i j not_below not_above = go (eqb i j) refl
  where
    go : (b : Bool) → eqb i j ≡ b → i ≡ j
    go true e = eqb-true i j e
    go false e = absurd (elim (cases_unequal i j (eqb-false i j e)) [ inl below ↦ not_below below | inr above ↦ not_above above ])

module _ (f : Circuit) (named : List (List ℕ)) where
  one_fault : (a b : NetFault) → IsNetFault f named a → IsNetFault f named b → a ≡ b
  one_fault (TooMany a) (TooMany b) x y = ap TooMany (x.0 ∙ sym y.0)
  one_fault (TooMany a) (NoNet j) x y = absurd (omega (arith, x.0, x.1, y.0))
  one_fault (NoNet i) (TooMany b) x y = absurd (omega (arith, y.0, y.1, x.0))
  one_fault (NoNet i) (NoNet j) x y =
      ap NoNet (equal_from i j (λ less. before_first f named i j less x.1 y.1.front) (λ less. before_first f named j i less y.1 x.1.front))

  no_fault : (a : NetFault) → IsNetFault f named a → CanBeCutTogether f named → ⊥
  no_fault (TooMany a) x can = omega (arith, x.0, x.1, can.0)
  no_fault (NoNet i) x can = in_whole f named i x.1.name x.1.at can.1 x.1.fault

  pub nets_law : {Value : Type 0} (value : Value) (files : Files) → IsRow (λ own. own) (nets_row f named value) (Some files)
  nets_law value files = test_law (λ own. own) (IsNetFault f named) (CanBeCutTogether f named) value (Some files) one_fault no_fault

  -- ---- the names one after the other

  pub first_none : (nets : List NetId) → nets ≡ [] → AreFirstNamed f named 0 nets
  first_none nets none = subst (AreFirstNamed f named 0) (sym none) (record {
    are = refl;
    within = All-nil (λ net. net.0 < length (names f));
    front = record { driven = All-nil (IsDriven f); once = λ i j d less within. absurd (omega arith) };
  })

  pub first_more : (k : ℕ) (name : List ℕ) (net : NetId) (before after : List NetId) → after ≡ before ++ net ∷ [] → slice_get named k ≡ Some name → IsDrivenNet f name net → (Contains (take k named) name → ⊥) → AreFirstNamed f named k before → AreFirstNamed f named (k + 1) after
  first_more k name net before after more at is new first =
      let next : k + 1 ≡ suc k = omega arith in
      let longer : take (k + 1) named ≡ take k named ++ name ∷ [] = ap (λ n. take n named) next ∙ take_at_more named k name at in
      subst (AreFirstNamed f named (k + 1)) (sym more) (record {
        are = map-append (λ (net : NetId). name_at (names f) net.0) before (net ∷ [])
            ∙ ap (λ list. list ++ name_at (names f) net.0 ∷ []) first.are ∙ ap (λ last. take k named ++ last ∷ []) is.is ∙ sym longer;
        within = All-append (λ net. net.0 < length (names f)) before (net ∷ []) first.within (All-cons (λ net. net.0 < length (names f)) net [] is.within (All-nil (λ net. net.0 < length (names f))));
        front = subst (AreDrivenNames f) (sym longer) (record {
          driven = All-append (IsDriven f) (take k named) (name ∷ []) first.front.driven (All-cons (IsDriven f) name [] is.driven (All-nil (IsDriven f)));
          once = pairs_push (λ a b. a ≢ b) (take k named) name first.front.once (λ j x there same. new (subst (Contains (take k named)) same (Contains_at (take k named) j x there)));
        });
      })

  -- all of them are named
  pub all_named : (nets : List NetId) (count : ℕ) → length named ≤ count → length named ≤ MOST_TARGETS → AreFirstNamed f named count nets → AreNamed f named nets
  all_named nets most whole few first =
      let all : take most named ≡ named = take_all most named whole in
      let are : names_at (names f) nets ≡ named = first.are ∙ all in
      let count : length nets ≡ length named = sym (length-map nets (λ (net : NetId). name_at (names f) net.0)) ∙ ap length are in
      let driven : All (IsDriven f) (names_at (names f) nets) = subst (All (IsDriven f)) (sym first.are) first.front.driven in
      record {
        are = are;
        can = record {
          within = first.within;
          driven = λ k d less. driven_at k d less driven;
          once = subst (AllPairs (λ a b. a ≢ b)) (sym first.are) first.front.once;
          few = omega (arith, few, count);
        };
      }
    where
      driven_at : (k : ℕ) (d : NetId) → k < length nets → All (IsDriven f) (names_at (names f) nets) → IsDriven f (name_at (names f) (get_or nets k d).0)
      driven_at k d less driven =
          All_at (IsDriven f) (names_at (names f) nets) k (name_at (names f) (get_or nets k d).0) driven
          (slice_get-map (λ (net : NetId). name_at (names f) net.0) nets k ∙ ap (option_map (λ (net : NetId). name_at (names f) net.0)) (slice_get-get_or nets k d less))

-- ---- the gates one after the other

module _ (f : Circuit) (gates : List GateValue) (are : map (named_gate (names f)) gates ≡ f.gates) (within : IsWithin (length (names f)) gates) (k : ℕ) (g : GateValue) (less : k < length gates) (is : g ≡ get_or gates k g) (net : NetId) (out : net ≡ g.out) (own seen name : List ℕ) (at : slice_get (names f) net.0 ≡ Some own) (same : seen ≡ own) where
  member : Contains gates g
  member = (k, less, sym is)

  name_of_net : name_at (names f) net.0 ≡ seen
  name_of_net = get_or_from_slice_get (names f) net.0 own [] at ∙ sym same

  -- the gate drives a net of the name
  pub drives : bytes_eq seen name ≡ true → IsDrivenNet f name net
  drives equal =
      let named = name_of_net ∙ same_name seen name equal in
      record {
        within = subst (λ (n : NetId). n.0 < length (names f)) (sym out) (All-contains (IsGateWithin (length (names f))) gates g within member).out;
        is = named;
        driven = (
          named_gate (names f) g,
          subst (λ list. Contains list (named_gate (names f) g)) are (Contains-map (named_gate (names f)) gates g member),
          ap (λ (n : NetId). name_at (names f) n.0) (sym out) ∙ named,
        );
      }

  -- it doesn't
  pub drives_not : bytes_eq seen name ≡ false → All (λ gate. name_at (names f) gate.out.0 ≢ name) (take k gates) → All (λ gate. name_at (names f) gate.out.0 ≢ name) (take (k + 1) gates)
  drives_not unequal before =
      All-more (λ (gate : GateValue). name_at (names f) gate.out.0 ≢ name) gates k g less before
      (subst (λ (gate : GateValue). name_at (names f) gate.out.0 ≢ name) is
      (λ e. true≢false (sym (bytes_eq-same name) ∙ ap (λ n. bytes_eq n name) (sym e ∙ ap (λ (n : NetId). name_at (names f) n.0) (sym out) ∙ name_of_net) ∙ unequal)))

-- no gate does
pub none_drives : (f : Circuit) (gates : List GateValue) (k : ℕ) (name : List ℕ) → map (named_gate (names f)) gates ≡ f.gates → length gates ≤ k → All (λ gate. name_at (names f) gate.out.0 ≢ name) (take k gates) → IsDriven f name → ⊥
none_drives f gates k name are whole none (named, member, out) =
    let (g, c, same) = map-Contains (named_gate (names f)) gates named (subst (λ list. Contains list named) (sym are) member) in
    All-contains (λ (gate : GateValue). name_at (names f) gate.out.0 ≢ name) gates g
    (subst (All (λ (gate : GateValue). name_at (names f) gate.out.0 ≢ name)) (take_all k gates whole) none) c
    (ap (λ (h : NamedGate). h.out) same ∙ out)

-- ---- the next name

abbrev texts : List (Bor (List ℕ)) → List (List ℕ)
texts named = map (λ name. name.now) named

any_text : (name : List ℕ) (named : List (Bor (List ℕ))) → list_any (λ other. bytes_eq name other.now) named ≡ has (texts named) name
any_text name [] = refl
any_text name (x ∷ named) = ap (λ b. bytes_eq name x.now || b) (any_text name named)

module _ (f : Circuit) (named : List (Bor (List ℕ))) (place : ℕ) (d : Bor (List ℕ)) (among : Bool) (less : place < length named) (is : among ≡ list_any (λ other. bytes_eq (get_or named place d).now other.now) (take place named)) where
  abbrev name : List ℕ
  name = (get_or named place d).now

  here : slice_get (texts named) place ≡ Some name
  here = slice_get-map (λ (name : Bor (List ℕ)). name.now) named place ∙ ap (option_map (λ (name : Bor (List ℕ)). name.now)) (slice_get-get_or named place d less)

  seen : among ≡ has (take place (texts named)) name
  seen = is ∙ any_text name (take place named) ∙ ap (λ list. has list name) (sym (take-map (λ (name : Bor (List ℕ)). name.now) place named))

  -- it stands before too
  pub next_among : among ≡ true → IsNext f (texts named) place None
  next_among stands = (name, here, inr (Contains-from_has (take place (texts named)) name (sym seen ∙ stands)))

  -- it doesn't
  pub next_driven : among ≡ false → (r : Option NetId) (text : List ℕ) → text ≡ name → MatchOption r (IsDriven f text → ⊥) (IsDrivenNet f text) → IsNext f (texts named) place r
  next_driven new None text same driven = (name, here, inl (subst (λ (n : List ℕ). IsDriven f n → ⊥) same driven))
  next_driven new (Some net) text same driven = (name, here, subst (λ (n : List ℕ). IsDrivenNet f n net) same driven, absent_from_has (take place (texts named)) name (sym seen ∙ new))
