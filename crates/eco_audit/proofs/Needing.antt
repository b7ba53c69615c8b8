-- One map that is reached tells the values of all, so it decides what an input forces and where two agree.
use Rattle.std.proofs.Common.{[], ◌∷◌, map, ◌∙◌}
use Rattle.std.proofs.lemmas.List.Elements.{All-contains}
use Rattle.eco_lists.proofs.Members.{Contains_first, Contains_none}
use Rattle.eco_meaning.specs.Circuit.{IsSignal}
use Rattle.eco_meaning.specs.Patch.{IsBehindOnly}
use Rattle.eco_laws.proofs.AskedLemmas.{among_is_forced, earlier_have_values, fixed_rest_is_new}
use Rattle.eco_laws.proofs.OneValue.{reached_maps_agree, signal_net}
use Rattle.eco_audit.specs.Needs.{UnfixedIsForced, FixedIsUnforced, AlikeByMaps}

pub unfixed_is_forced : UnfixedIsForced
unfixed_is_forced f goal p earlier target later x v bit patch len reached unfixed =
    among_is_forced f goal p earlier target later [] x bit (map v earlier)
    record { len = len; never = λ u u_is other listed right. Contains_none (map u later) listed }
    (earlier_have_values f p earlier x v patch reached) unfixed

pub fixed_is_unforced : FixedIsUnforced
fixed_is_unforced f goal p earlier target later x bits v bit patch reached found forced =
    fixed_rest_is_new f goal p earlier target later (found.rest ∷ []) x bit (map v earlier) bits patch
    record { len = forced.len; never = λ u u_is other listed right. forced.never u u_is other right }
    (earlier_have_values f p earlier x v patch reached) found (Contains_first found.rest [])

pub alike_by_maps : AlikeByMaps
alike_by_maps f p earlier signals name x y v u patch are behind v_is u_is = (
  λ agree other is. agree v u v_is u_is other is,
  λ same a b a_is b_is other is.
      let net = signal_net f patch.sound other (All-contains (IsSignal f) signals other are is.0) in
      let only = All-contains (IsBehindOnly f earlier) signals other behind is.0 in
      (reached_maps_agree f p earlier patch x a v a_is v_is).1 other net only ∙ same other is
      ∙ (reached_maps_agree f p earlier patch y u b u_is b_is).1 other net only,
)
