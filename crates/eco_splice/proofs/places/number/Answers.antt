use Rattle.std.proofs.Common.{◌≡◌, ◌-◌, suc, false, get_or, ◌∙◌, arith}
use Rattle.std.proofs.lemmas.Option.{slice_get-get_or}
use Rattle.eco_splice.proofs.TableLemmas.{place_step}
use Rattle.eco_splice.proofs.places.number.Goals as goal

pub loop-place-preserved : goal.loop-place-preserved
loop-place-preserved c =
    let k = c.loop-place.place - 1 in
    let test = c.loop-place-test.true in
    let step : c.loop-place.place ≡ suc k = omega (arith, test) in
    record {
      plain = c.set_place.ensures.plain_length ∙ c.loop-place.invariant.plain;
      complemented = c.set_place.ensures.complemented_length ∙ c.loop-place.invariant.complemented;
      first = λ e within.
          place_step c.args.edges.now c.loop-place.place k (get_or c.args.edges.now k (record { node = 0; complemented = false })) e _ _ step
          (slice_get-get_or c.args.edges.now k (record { node = 0; complemented = false }) (omega arith))
          (λ same. rw same c.set_place.ensures.own)
          (c.set_place.ensures.others e)
          (c.loop-place.invariant.first e within);
    }
