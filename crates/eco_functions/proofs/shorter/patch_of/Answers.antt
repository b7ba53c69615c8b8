-- The fixed form, or the shorter patch.
use Rattle.std.proofs.Common.{◌≡◌, List, Option, length, ap, sym, subst, ◌∙◌}
use Rattle.std.specs.Prelude.{IfSome}
use Rattle.std.proofs.lemmas.List.{length-map}
use Rattle.eco_meaning.specs.Circuit.{Circuit, NamedGate, names}
use Rattle.eco_netlist.specs.Netlists.{named_gate, names_at}
use Rattle.eco_functions.specs.Standing.{IsShorterPatch}
use Rattle.eco_functions.proofs.Patching.{fixed_patch, shorter_patch_is}
use Rattle.eco_functions.proofs.shorter.patch_of.Goals as goal

pub returns-in-Ok-Some : goal.returns-in-Ok-Some
returns-in-Ok-Some c =
    let fixed = c.in_ok-fixed.fixed in
    let made = c.in_ok-fixed.ensures in
    let gates = c.gates.result.now in
    let count : length gates ≡ length fixed.gates = sym (length-map gates (named_gate (names fixed))) ∙ ap (λ (list : List NamedGate). length list) c.gates.ensures.named in
    let is = IsShorterPatch c.args.f.now c.args.roots.now.aig.now c.args.roots.now.edges.now (names_at (names c.args.f.now) c.args.roots.now.base.now) (length gates) in
    let shorter : is c.in-Ok-Some.patch = subst (λ (made : Option Circuit). IfSome made is) c.in-Ok-Some.field-0-is c.in-Ok-Some.ensures.shorter in
    record {
      patch = shorter_patch_is c.args.f.now c.args.roots.now.aig.now c.args.roots.now.base.now c.args.roots.now.edges.now fixed c.in-Ok-Some.patch made.exactly made.gates
          (length gates) count shorter;
    }

pub returns-in-Ok-None : goal.returns-in-Ok-None
returns-in-Ok-None c =
    let made = c.in_ok-fixed.ensures in
    record {
      patch = fixed_patch c.args.f.now c.args.roots.now.aig.now c.args.roots.now.base.now c.args.roots.now.edges.now c.in_ok-fixed.fixed c.nets.ensures.checked
          made.exactly made.fits made.ports made.inputs made.values made.reads made.gates;
    }
