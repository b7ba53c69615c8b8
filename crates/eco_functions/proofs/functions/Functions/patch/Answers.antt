-- What the slices hold is what the functions hold.
use Rattle.std.proofs.Common.{◌≡◌, sym, subst, ◌∙◌}
use Rattle.std.specs.List.{All}
use Rattle.std.proofs.lemmas.Result.{IfOk-weaker}
use Rattle.std.specs.Prelude.{[]}
use Rattle.eco_meaning.specs.Circuit.{names, IsSignal}
use Rattle.eco_netlist.specs.Netlists.{names_at}
use Rattle.eco_functions.specs.Functions.{FunctionsValue, AreFunctions, ReadEarlier}
use Rattle.eco_functions.specs.Parts.{functions_of}
use Rattle.eco_functions.specs.Standing.{IsPatchWith}
use Rattle.eco_functions.proofs.Patching.{with_slices, slices_are, functions_rooted, any_counts}
use Rattle.eco_functions.proofs.functions.Functions.patch.Goals as goal

pub patch_of-requires-clause-signals : goal.patch_of-requires-clause-signals
patch_of-requires-clause-signals c =
    let inside = functions_of c.self.inside.parts in
    let here = with_slices inside c.as_slice-2.result.now c.as_slice.result.now in
    let same : here ≡ c.args.self.now = slices_are inside c.args.self.now c.as_slice-2.result.now c.as_slice.result.now c.as_slice-2.ensures.value c.as_slice.ensures.value c.self.view_is in
    subst (λ (value : FunctionsValue). All (IsSignal c.args.f.now) (names_at (names c.args.f.now) value.base)) (sym same) c.requires.signals

pub patch_of-requires-clause-rooted : goal.patch_of-requires-clause-rooted
patch_of-requires-clause-rooted c =
    let inside = functions_of c.self.inside.parts in
    let here = with_slices inside c.as_slice-2.result.now c.as_slice.result.now in
    let same : here ≡ c.args.self.now = slices_are inside c.args.self.now c.as_slice-2.result.now c.as_slice.result.now c.as_slice-2.ensures.value c.as_slice.ensures.value c.self.view_is in
    let f = c.args.f.now in
    let are : AreFunctions here = subst AreFunctions (c.self.view_is ∙ sym same) c.self.invariant in
    let earlier : ReadEarlier f here = subst (ReadEarlier f) (sym same) c.requires.earlier in
    functions_rooted f here are earlier

pub returns : goal.returns
returns c =
    let inside = functions_of c.self.inside.parts in
    let here = with_slices inside c.as_slice-2.result.now c.as_slice.result.now in
    let same : here ≡ c.args.self.now = slices_are inside c.args.self.now c.as_slice-2.result.now c.as_slice.result.now c.as_slice-2.ensures.value c.as_slice.ensures.value c.self.view_is in
    let f = c.args.f.now in
    record {
      patch = IfOk-weaker c.patch_of.result (IsPatchWith f (record here { counts = [] })) (IsPatchWith f c.args.self.now)
          (λ p is. subst (λ (value : FunctionsValue). IsPatchWith f value p) same (any_counts f here p is)) c.patch_of.ensures.patch;
    }
