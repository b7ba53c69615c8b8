-- Netlists that fit together are a change.
use Rattle.std.proofs.Common.{subst}
use Rattle.std.specs.Option.{IfSome}
use Rattle.eco_netlist.specs.Netlists.{IsChecked}
use Rattle.eco_query.specs.Pairing.{FitTogether}
use Rattle.eco_query.proofs.CareLemmas.{care_of}
use Rattle.eco_compile.proofs.Problems.{same_inputs, same_outputs}
use Rattle.eco_change.proofs.change.change_of.Goals as goal

pub invariant_of-result : goal.invariant_of-result
invariant_of-result c =
    let f = c.args.old in
    let g = c.args.specification in
    let (fits, checked) = subst (λ care. FitTogether f g care × IfSome care IsChecked) c.as_ref.ensures.value c.in-Ok.ensures in
    let f_is = c.nets.ensures.checked in
    let g_is = c.nets-2.ensures.checked in
    record {
      checked = f_is;
      closed = c.requires.old_closed;
      asked = record {
        checked = g_is;
        inputs = same_inputs f g f_is g_is fits.ports;
        outputs = same_outputs f g f_is g_is fits.ports;
        closed = c.requires.closed;
        care = care_of f c.args.care checked fits.inputs fits.one_output c.requires.care_closed;
      };
      fits = fits;
      room = c.requires.room;
    }
