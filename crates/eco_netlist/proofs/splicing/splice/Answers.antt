use Rattle.std.proofs.Common.{List, ℕ}
use Rattle.eco_meaning.specs.Circuit.{Circuit}
use Rattle.eco_meaning.specs.Patch.{Fits, splice_of}
use Rattle.eco_netlist.specs.Netlists.{IsChecked}
use Rattle.eco_netlist.proofs.SplicedLoops.{IsFitting, IsLoopFree-splice}
use Rattle.eco_netlist.proofs.Spliced.{IsChecked-splice, targets_splice}
use Rattle.eco_netlist.proofs.splicing.splice.Goals as goal

fitting : (f p : Circuit) (later : List (List ℕ)) → IsChecked f → IsChecked p → Fits f p later → IsFitting f p later
fitting f p later netlist patch fits = record { netlist = netlist; patch = patch; fits = fits }

pub order_of-requires : goal.order_of-requires
order_of-requires c =
    let f = c.args.f.now in
    let p = c.args.p.now in (
      splice_of f p,
      IsChecked-splice f p c.requires.0 (fitting f p c.requires.0 c.lists_left.ensures.implementation c.lists_left.ensures.patch c.requires.1),
      c.in-Ok.ensures,
    )

pub built-requires-clause-netlist : goal.built-requires-clause-netlist
built-requires-clause-netlist c =
    let f = c.args.f.now in
    let p = c.args.p.now in (
      splice_of f p,
      IsChecked-splice f p c.requires.0 (fitting f p c.requires.0 c.lists_left.ensures.implementation c.lists_left.ensures.patch c.requires.1),
      c.in-Ok.ensures,
      c.in_ok-lists.ensures.lists,
    )

pub returns-in-Ok-order_of : goal.returns-in-Ok-order_of
returns-in-Ok-order_of c =
    let f = c.args.f.now in
    let p = c.args.p.now in
    let is = fitting f p c.requires.0 c.lists_left.ensures.implementation c.lists_left.ensures.patch c.requires.1 in
    record {
      spliced = c.built.ensures.made (splice_of f p) c.in-Ok.ensures c.in_ok-lists.ensures.lists;
      loop_free = IsLoopFree-splice f p c.requires.0 is;
      checked = IsChecked-splice f p c.requires.0 is;
      left = λ later fits. targets_splice f p later (fitting f p later c.lists_left.ensures.implementation c.lists_left.ensures.patch fits);
    }
