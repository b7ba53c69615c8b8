use Rattle.std.proofs.Common.{refl, sym, ◌∙◌, ap}
use Rattle.eco_meaning.specs.Circuit.{Circuit}
use Rattle.std.proofs.lemmas.List.{length-map}
use Rattle.eco_meaning.specs.Circuit.{names}
use Rattle.eco_netlist.specs.Netlists.{names_at}
use Rattle.eco_netlist.specs.Plain.{as_declared}
use Rattle.eco_netlist.proofs.NetNames.{All-names_at}
use Rattle.eco_splice.proofs.GraphPatches.{ArePatched, patch_checked, patch_fits, patch_values, patch_reads, patch_count}
use Rattle.eco_splice.proofs.graph.patch_netlist.Goals as goal

at_draft : (c : goal.In_ok-draft) → ArePatched c.args.f.now c.args.roots.now.aig.now c.args.roots.now.edges.now (names_at (names c.args.f.now) c.args.roots.now.base.now) (as_declared c.in_ok-draft.draft)
at_draft c = record {
  graph = c.in_ok-draft.ensures.graph;
  nets = All-names_at (names c.args.f.now) c.args.roots.now.base.now c.requires.nets;
  distinct = c.requires.distinct;
  signals = c.requires.signals;
  inputs = c.requires.inputs ∙ sym (length-map c.args.roots.now.base.now _);
  is = c.in_ok-draft.ensures.exactly;
  room = c.in_ok-draft.ensures.room;
}

pub finish_plain-requires : goal.finish_plain-requires
finish_plain-requires c = patch_checked _ _ _ _ _ (at_draft c)

at_patch : (c : goal.In_ok-patch) → ArePatched c.args.f.now c.args.roots.now.aig.now c.args.roots.now.edges.now (names_at (names c.args.f.now) c.args.roots.now.base.now) c.in_ok-patch.patch
at_patch c = record {
  graph = c.in_ok-draft.ensures.graph;
  nets = All-names_at (names c.args.f.now) c.args.roots.now.base.now c.requires.nets;
  distinct = c.requires.distinct;
  signals = c.requires.signals;
  inputs = c.requires.inputs ∙ sym (length-map c.args.roots.now.base.now _);
  is = rw c.in_ok-patch.ensures.plain c.in_ok-draft.ensures.exactly;
  room = rw c.in_ok-patch.ensures.plain c.in_ok-draft.ensures.room;
}

pub returns-clause-exactly : goal.returns-clause-exactly
returns-clause-exactly c = (at_patch c).is

pub returns-clause-fits : goal.returns-clause-fits
returns-clause-fits c = patch_fits _ _ _ _ _ (at_patch c) c.requires.rooted

pub returns-clause-ports : goal.returns-clause-ports
returns-clause-ports c = let is = (at_patch c).is in rw is.made refl

pub returns-clause-inputs : goal.returns-clause-inputs
returns-clause-inputs c = ap (λ (n : Circuit). n.inputs) (at_patch c).is.made

pub returns-clause-values : goal.returns-clause-values
returns-clause-values c = patch_values _ _ _ _ _ (at_patch c)

pub returns-clause-reads : goal.returns-clause-reads
returns-clause-reads c = patch_reads _ _ _ _ _ (at_patch c)

pub returns-clause-gates : goal.returns-clause-gates
returns-clause-gates c = patch_count _ _ _ _ _ (at_patch c).is
