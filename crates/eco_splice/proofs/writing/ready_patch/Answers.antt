use Rattle.std.proofs.Common.{sym, ◌∙◌}
use Rattle.std.proofs.lemmas.List.{length-map}
use Rattle.eco_meaning.specs.Circuit.{names}
use Rattle.eco_netlist.specs.Netlists.{names_at}
use Rattle.eco_netlist.specs.Plain.{as_declared}
use Rattle.eco_netlist.proofs.NetNames.{All-names_at}
use Rattle.eco_splice.proofs.LinePatches.{ArePatched, patch_checked, patch_written}
use Rattle.eco_splice.proofs.writing.ready_patch.Goals as goal

at_draft : (c : goal.In_ok-draft) → ArePatched c.args.f.now c.args.roots.now.aig.now c.args.roots.now.edges.now (names_at (names c.args.f.now) c.args.roots.now.base.now) c.args.lines.now (as_declared c.in_ok-draft.draft)
at_draft c = record {
  graph = c.in_ok-draft.ensures.graph;
  nets = All-names_at (names c.args.f.now) c.args.roots.now.base.now c.requires.nets;
  distinct = c.requires.distinct;
  signals = c.requires.signals;
  inputs = c.requires.inputs ∙ sym (length-map c.args.roots.now.base.now _);
  lines_fit = c.requires.lines;
  ready = c.requires.ready;
  is = c.in_ok-draft.ensures.exactly;
  room = c.in_ok-draft.ensures.room;
}

pub finish_plain-requires : goal.finish_plain-requires
finish_plain-requires c = patch_checked _ _ _ _ _ _ (at_draft c)

pub returns : goal.returns
returns c = record {
  written = patch_written _ _ _ _ _ _ (record {
    graph = c.in_ok-draft.ensures.graph;
    nets = All-names_at (names c.args.f.now) c.args.roots.now.base.now c.requires.nets;
    distinct = c.requires.distinct;
    signals = c.requires.signals;
    inputs = c.requires.inputs ∙ sym (length-map c.args.roots.now.base.now _);
    lines_fit = c.requires.lines;
    ready = c.requires.ready;
    is = rw c.in_ok-patch.ensures.plain c.in_ok-draft.ensures.exactly;
    room = c.in_ok-draft.ensures.room;
  }) c.requires.rooted;
}
