-- All nets are left, and then they go to the inputs.
use Rattle.eco_locate.specs.declared.covering.Cover.{Cover}
use Rattle.eco_locate.specs.Judged.{excluded_nets}
use Rattle.eco_locate.proofs.CoverLemmas.{cover_begins}
use Rattle.eco_locate.proofs.covering.cover_of.Goals as goal

pub cover_all-requires : goal.cover_all-requires
cover_all-requires c =
    let cover : Cover = record { left = c.in_ok-excluded_nets.field-0; excluding = c.new.result } in
    record {
      excludes = c.requires.excludes;
      cover = (excluded_nets c.args.excluding.now, cover_begins c.args.change.now.old c.args.change.now.goal (excluded_nets c.args.excluding.now) cover c.requires.within c.in_ok-excluded_nets.ensures c.new.ensures.items);
    }

pub returns-in-Ok : goal.returns-in-Ok
returns-in-Ok c =
    let cover : Cover = record { left = c.in_ok-excluded_nets.field-0; excluding = c.new.result } in
    c.in-Ok.ensures (excluded_nets c.args.excluding.now)
    (cover_begins c.args.change.now.old c.args.change.now.goal (excluded_nets c.args.excluding.now) cover c.requires.within c.in_ok-excluded_nets.ensures c.new.ensures.items)
