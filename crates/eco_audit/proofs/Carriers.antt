-- Carriers take on part by part.
use Rattle.std.proofs.Common.{◌≡◌, inl, inr, ℕ, ◌+◌, ◌<◌, ◌≤◌, Bool, true, false, Some, IsSome, option_map, List, [], ◌∷◌, ◌++◌, length, set, get_or, refl, sym, ◌∙◌, ap, subst, arith}
use Rattle.std.specs.List.{All, Contains, slice_get}
use Rattle.std.proofs.lemmas.List.{append_assoc, length-set}
use Rattle.std.proofs.lemmas.List.Elements.{All-contains}
use Rattle.std.proofs.lemmas.Option.{slice_get-get_or, slice_get-map, slice_get_within, get_or_from_slice_get, same_Some}
use Rattle.eco_lists.proofs.Members.{Contains_none, map-Contains}
use Rattle.eco_lists.proofs.Places.{All_at, All_from_places, Contains_at, item_at, place_of, set_cases, slice_get-append_left, slice_get-set_other}
use Rattle.eco_meaning.specs.Bound.{Part, TellsApart, IsAlikeAt, IsLoad, IsCarried}
use Rattle.eco_meaning.specs.Circuit.{Circuit, Values, names}
use Rattle.eco_meaning.specs.Cost.{weight_of, IsCandidate, IsUnpaid, AreTurns}
use Rattle.eco_meaning.specs.Choice.{IsReached}
use Rattle.eco_laws.specs.Reached.{IsPatchOf}
use Rattle.eco_laws.proofs.Keeping.{reached_for_fewer}
use Rattle.eco_laws.proofs.OneValue.{signal_net}
use Rattle.eco_gates.specs.declared.gate.NetId.{NetId}
use Rattle.eco_netlist.specs.Netlists.{AreNets, name_at, names_at}
use Rattle.eco_audit.specs.declared.carrying.Carrier.{Carrier}
use Rattle.eco_audit.specs.declared.solution.Solution.{Solution}
use Rattle.eco_audit.specs.Bounds.{AreCarried, HasInputs}
use Rattle.eco_audit.specs.Carriers.{IsUnlike, IsPaid, IsShort, ArePaid, PaysAll, IsCarrier, AreCarriers, IsOverloaded, TakesOn, IsUnladen, AreUnladen, carrier_name}
use Rattle.eco_audit.specs.Judging.{AreBitsOf, AreFilled, IsJudged, map_of}
use Rattle.eco_audit.proofs.Loads.{MakesLoad, alike_by_maps, apart_by_maps, front_load, load_more, load_once}
use Rattle.eco_audit.proofs.NetValues.{bit_there}

-- ---- payments

-- the first carriers have paid
pub record HavePaid (ones zeros : List Bool) (amount : ℕ) (old new : List Carrier) (count : ℕ) : Type 0 where
  pub len : length new ≡ length old
  pub paid : (place : ℕ) (a b : Carrier) → place < count → slice_get old place ≡ Some a → slice_get new place ≡ Some b → IsPaid ones zeros amount a b
  pub later : (place : ℕ) → count ≤ place → slice_get new place ≡ slice_get old place

module _ (ones zeros : List Bool) (amount : ℕ) (old : List Carrier) where
  pub one_more_paid : (new : List Carrier) (count : ℕ) (a b : Carrier) → slice_get new count ≡ Some a → IsPaid ones zeros amount a b → HavePaid ones zeros amount old new count → HavePaid ones zeros amount old (set new count b) (count + 1)
  one_more_paid new count a b at paid so_far = record {
    len = length-set new count b ∙ so_far.len;
    paid = λ place x y less at_old at_new. elim (set_cases new count b place y at_new) [
      | inl here ↦
          let same : x ≡ a = same_Some x a (sym at_old ∙ ap (slice_get old) here.0 ∙ sym (so_far.later count (omega arith)) ∙ at) in
          subst (λ (c : Carrier). IsPaid ones zeros amount c y) (sym same) (subst (IsPaid ones zeros amount a) (sym here.1) paid)
      | inr other ↦ let before : place < count = omega (arith, less, other.0) in so_far.paid place x y before at_old other.1
    ];
    later = λ place least. slice_get-set_other new count place b (λ same. omega (arith, least, same)) ∙ so_far.later place (omega (arith, least));
  }

  pub all_paid : (new : List Carrier) (count : ℕ) → length new ≤ count → HavePaid ones zeros amount old new count → ArePaid ones zeros amount old new
  all_paid new count all so_far = record {
    len = so_far.len;
    paid = λ place a b at_old at_new. so_far.paid place a b (omega (arith, all, slice_get_within new place b at_new)) at_old at_new;
  }

-- ---- values

-- the bit at a net of the implementation is the net's
pub value_at : (s : Solution) (bits : List Bool) (net : ℕ) → IsJudged s → AreBitsOf s.out.now bits → net < length (names s.problem.now.implementation) →
    slice_get bits net ≡ Some (map_of s bits (name_at (names s.problem.now.implementation) net))
value_at s bits net is valued less =
    let f = s.problem.now.implementation in
    let p = s.patch.now in
    let name = name_at (names f) net in
    let same : names s.out.now ≡ names f ++ p.wires = ap names (is.before 9 (omega arith)) ∙ sym (append_assoc f.ports f.wires p.wires) in
    let there : slice_get (names s.out.now) net ≡ Some name =
    ap (λ (l : List (List ℕ)). slice_get l net) same ∙ slice_get-append_left (names f) p.wires net name (slice_get-get_or (names f) net [] less) in
    bit_there (names s.out.now) bits net name valued there

-- each has one
pub nets_within : (s : Solution) (bits : List Bool) (carriers : List Carrier) → IsJudged s → AreBitsOf s.out.now bits → All (λ c. c.net.0 < length (names s.problem.now.implementation)) carriers →
    All (λ c. c.net.0 < length bits) carriers
nets_within s bits carriers is valued within =
    All_from_places (λ (c : Carrier). c.net.0 < length bits) carriers (λ k c at.
    slice_get_within bits c.net.0 (map_of s bits (carrier_name s c))
    (value_at s bits c.net.0 is valued (All_at (λ (c : Carrier). c.net.0 < length (names s.problem.now.implementation)) carriers k c within at)))

-- ---- loads

-- a patch of no target
pub patch_of_none : (s : Solution) → IsJudged s → IsPatchOf s.problem.now.implementation s.patch.now []
patch_of_none s is = record {
  sound = is.implementation;
  patch = is.patch;
  later = [];
  fits = is.fits;
  behind = s.patch.now.outputs;
  first = refl;
}

module _ (s : Solution) (is : IsJudged s) (part : Part) (ones zeros : List Bool) (first : AreFilled s part.force1 ones) (second : AreFilled s part.force0 zeros) where
  abbrev f : Circuit
  f = s.problem.now.implementation

  abbrev p : Circuit
  p = s.patch.now

  abbrev v : Values
  v = map_of s ones

  abbrev u : Values
  u = map_of s zeros

  v_is : IsReached f p [] part.force1 v
  v_is = reached_for_fewer f p [] p.outputs part.force1 v first.reached

  u_is : IsReached f p [] part.force0 u
  u_is = reached_for_fewer f p [] p.outputs part.force0 u second.reached

  -- the bits at a carrier's net are those of its name
  one_is : (c : Carrier) → c.net.0 < length (names f) → get_or ones c.net.0 false ≡ v (carrier_name s c)
  one_is c less = get_or_from_slice_get ones c.net.0 (v (carrier_name s c)) false (value_at s ones c.net.0 is first.valued less)

  zero_is : (c : Carrier) → c.net.0 < length (names f) → get_or zeros c.net.0 false ≡ u (carrier_name s c)
  zero_is c less = get_or_from_slice_get zeros c.net.0 (u (carrier_name s c)) false (value_at s zeros c.net.0 is second.valued less)

  -- so they tell whether the carrier tells the part apart
  carrier_apart : (parts : List Part) (c : Carrier) → IsCarrier s parts c → IsUnlike ones zeros c → TellsApart f p (carrier_name s c) part
  carrier_apart parts c carrier unlike =
      apart_by_maps f p (patch_of_none s is) (carrier_name s c) (signal_net f is.implementation (carrier_name s c) carrier.candidate.signal) carrier.candidate.apart part v u v_is u_is
      (λ same. unlike (one_is c carrier.net ∙ same ∙ sym (zero_is c carrier.net)))

  carrier_alike : (parts : List Part) (c : Carrier) → IsCarrier s parts c → get_or ones c.net.0 false ≡ get_or zeros c.net.0 false → IsAlikeAt f p (carrier_name s c) part
  carrier_alike parts c carrier same =
      alike_by_maps f p (patch_of_none s is) (carrier_name s c) (signal_net f is.implementation (carrier_name s c) carrier.candidate.signal) carrier.candidate.apart part v u v_is u_is
      (sym (one_is c carrier.net) ∙ same ∙ zero_is c carrier.net)

  -- a carrier of the same net with one part more
  carrier_more : (parts : List Part) (a b : Carrier) (load : ℕ) (carrier : IsCarrier s parts a) → b.net ≡ a.net → MakesLoad f p (carrier_name s a) part carrier.load load → carrier.load + a.spare ≡ load + b.spare →
      IsCarrier s (parts ++ part ∷ []) b
  carrier_more parts a b load carrier net makes spare =
      let named : carrier_name s a ≡ carrier_name s b = ap (λ (n : NetId). name_at (names f) n.0) (sym net) in
      record {
        net = subst (λ (n : NetId). n.0 < length (names f)) (sym net) carrier.net;
        candidate = subst (IsCandidate f s.problem.now.weights s.problem.now.input_weight []) named carrier.candidate;
        load = load;
        sum = subst (λ (n : List ℕ). IsLoad f p n (parts ++ part ∷ []) load) named (load_more f p (carrier_name s a) parts part carrier.load load carrier.sum makes);
        weighs = ap (weight_of f s.problem.now.weights s.problem.now.input_weight) (sym named) ∙ carrier.weighs ∙ ap Some spare;
      }

  paid_carrier : (parts : List Part) (a b : Carrier) → IsCarrier s parts a → IsPaid ones zeros part.amount a b → IsCarrier s (parts ++ part ∷ []) b
  paid_carrier parts a b carrier paid =
      elim paid.spare [
        | inl unlike ↦ carrier_more parts a b (part.amount + carrier.load) carrier paid.net (inl (carrier_apart parts a carrier unlike.0, refl)) (omega (arith, unlike.1))
        | inr alike ↦ carrier_more parts a b carrier.load carrier paid.net (inr (carrier_alike parts a carrier alike.0, refl)) (omega (arith, alike.1))
      ]

  -- a carrier that is short carries too much
  short_carrier : (parts : List Part) (c : Carrier) → IsCarrier s parts c → IsShort ones zeros part.amount c → IsOverloaded s (parts ++ part ∷ [])
  short_carrier parts c carrier short = record {
    name = carrier_name s c;
    candidate = carrier.candidate;
    weight = carrier.load + c.spare;
    weighs = carrier.weighs;
    load = part.amount + carrier.load;
    sum = load_more f p (carrier_name s c) parts part carrier.load (part.amount + carrier.load) carrier.sum (inl (carrier_apart parts c carrier short.0, refl));
    over = omega (arith, short.1);
  }

  pub taken_on : (old new : List Carrier) (taken : Bool) → PaysAll ones zeros part.amount old new taken → TakesOn s part old new taken
  taken_on old new true paid = λ parts are. record {
    each = All_from_places (IsCarrier s (parts ++ part ∷ [])) new (λ k b at_b.
        let (a, at_a) = item_at old k (omega (arith, paid.len, slice_get_within new k b at_b)) in
        paid_carrier parts a b (All_at (IsCarrier s parts) old k a are.each at_a) (paid.paid k a b at_a at_b));
    all = λ name candidate.
        let (a, among, named) = are.all name candidate in
        let (k, at_a) = place_of old a among in
        let (b, at_b) = item_at new k (omega (arith, paid.len, slice_get_within old k a at_a)) in
        (b, Contains_at new k b at_b, ap (λ (n : NetId). name_at (names f) n.0) (paid.paid k a b at_a at_b).net ∙ named);
  }
  taken_on old new false short = λ parts are.
      let (c, among, is_short) = short in
      short_carrier parts c (All-contains (IsCarrier s parts) old c are.each among) is_short

-- ---- all parts

-- no candidate carries more than it weighs, where carriers carry all
pub all_carried : (s : Solution) (parts : List Part) (carriers : List Carrier) → AreCarriers s parts carriers → AreCarried s parts
all_carried s parts carriers are name candidate =
    let (c, among, named) = are.all name candidate in
    let carrier = All-contains (IsCarrier s parts) carriers c are.each among in
    subst (IsCarried s.problem.now.implementation s.problem.now.weights s.problem.now.input_weight s.patch.now parts) named
    record { weight = carrier.load + c.spare; weighs = carrier.weighs; load = carrier.load; sum = carrier.sum; within = omega arith }

-- one does where the first parts are too much
pub overloaded : (s : Solution) (front back parts : List Part) → IsJudged s → All (HasInputs s.problem.now.implementation) parts → parts ≡ front ++ back → IsOverloaded s front → AreCarried s parts → ⊥
overloaded s front back parts is fit cut over carried =
    let f = s.problem.now.implementation in
    let p = s.patch.now in
    let here = carried over.name over.candidate in
    let (less, first, within) = front_load f p over.name front back here.load (subst (λ (l : List Part). IsLoad f p over.name l here.load) cut here.sum) in
    let fit_front = All_from_places (HasInputs f) front (λ k part at.
    All_at (HasInputs f) parts k part fit (ap (λ (l : List Part). slice_get l k) cut ∙ slice_get-append_left front back k part at)) in
    let once : less ≡ over.load = load_once f p (patch_of_none s is) over.name front less over.load fit_front first over.sum in
    let weight : over.weight ≡ here.weight = same_Some over.weight here.weight (sym over.weighs ∙ here.weighs) in
    omega (arith, once, within, weight, here.within, over.over)

-- ---- the candidates

module _ (s : Solution) (nets : List NetId) (turns : AreTurns s.problem.now.implementation s.problem.now.weights s.problem.now.input_weight [] [] (names_at (names s.problem.now.implementation) nets)) where
  abbrev list : List (List ℕ)
  list = names s.problem.now.implementation

  candidate_at : (k : ℕ) (net : NetId) → slice_get nets k ≡ Some net → IsCandidate s.problem.now.implementation s.problem.now.weights s.problem.now.input_weight [] (name_at list net.0)
  candidate_at k net at =
      (All_at (IsUnpaid s.problem.now.implementation s.problem.now.weights s.problem.now.input_weight [] []) (names_at list nets) k (name_at list net.0) turns.sound
      (slice_get-map (λ (n : NetId). name_at list n.0) nets k ∙ ap (option_map (λ (n : NetId). name_at list n.0)) at)).candidate

  pub turns_weigh : All (λ net. IsSome (weight_of s.problem.now.implementation s.problem.now.weights s.problem.now.input_weight (name_at list net.0))) nets
  turns_weigh =
      All_from_places (λ (net : NetId). IsSome (weight_of s.problem.now.implementation s.problem.now.weights s.problem.now.input_weight (name_at list net.0))) nets
      (λ k net at. (candidate_at k net at).weighted)

  pub first_carriers : (carriers : List Carrier) → AreNets list nets → AreUnladen s.problem.now nets carriers → AreCarriers s [] carriers
  first_carriers carriers within unladen = record {
    each = All_from_places (IsCarrier s []) carriers (λ k c at.
        let there : slice_get nets k ≡ Some c.net =
        ap (λ (l : List NetId). slice_get l k) (sym unladen.nets_of) ∙ slice_get-map (λ (c : Carrier). c.net) carriers k ∙ ap (option_map (λ (c : Carrier). c.net)) at in
        record {
          net = All_at (λ (net : NetId). net.0 < length list) nets k c.net within there;
          candidate = candidate_at k c.net there;
          load = 0;
          sum = refl;
          weighs = All_at (IsUnladen s.problem.now) carriers k c unladen.unladen at ∙ ap Some (omega arith);
        });
    all = λ name candidate.
        let among = turns.complete name record { candidate = candidate; unpaid = λ c. Contains_none name c } in
        let (net, listed, named) = map-Contains (λ (n : NetId). name_at list n.0) nets name among in
        let (c, member, same) = map-Contains (λ (c : Carrier). c.net) carriers net (subst (λ (l : List NetId). Contains l net) (sym unladen.nets_of) listed) in
        (c, member, ap (λ (n : NetId). name_at list n.0) same ∙ named);
  }
