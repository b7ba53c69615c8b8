-- What the rows tell, and the row that helps is new, so that it may be listed too, and fewer are left.
use Rattle.std.proofs.Common.{length, sym, ◌∙◌, ap, subst}
use Rattle.eco_desk.specs.Engines.{EngineValue}
use Rattle.eco_rectify.specs.Searched.{TellsHelp, TellsMissed}
use Rattle.eco_rectify.proofs.Listed.{one_more, fewer_left, none_is_missed, missed_length, nothing_helps, help_is_new}
use Rattle.eco_rectify.proofs.listing.rectify.Goals as goal

pub returns-in_default-clause-answer : goal.returns-in_default-clause-answer
returns-in_default-clause-answer g c =
    let missed = subst (λ (e : EngineValue). TellsMissed e.problem c.as_slice.result.now c.in_ok-input.field-0) c.loop-rows.invariant.stays c.in_ok-input.ensures.missed in
    none_is_missed c.args.engine.now.problem c.as_slice.result.now c.in_ok-input.field-0 c.loop-rows.invariant.some c.in_default.is missed

pub find_help-requires : goal.find_help-requires
find_help-requires g c =
    let missed = subst (λ (e : EngineValue). TellsMissed e.problem c.as_slice.result.now c.in_ok-input.field-0) c.loop-rows.invariant.stays c.in_ok-input.ensures.missed in
    let same = c.in_ok-input.ensures.stays ∙ c.loop-rows.invariant.stays in
    record {
      input = missed_length c.args.engine.now.problem c.as_slice.result.now c.in_ok-input.field-0 c.in-Some.input c.loop-rows.invariant.some c.in-Some.is missed
          ∙ ap (λ (e : EngineValue). length e.problem.implementation.inputs) (sym same);
    }

pub returns-in_default-2-clause-answer : goal.returns-in_default-2-clause-answer
returns-in_default-2-clause-answer g c =
    let missed = subst (λ (e : EngineValue). TellsMissed e.problem c.as_slice.result.now c.in_ok-input.field-0) c.loop-rows.invariant.stays c.in_ok-input.ensures.missed in
    let helps = subst (λ (e : EngineValue). TellsHelp e.problem c.in-Some.input c.in_ok-row.field-0) (c.in_ok-input.ensures.stays ∙ c.loop-rows.invariant.stays) c.in_ok-row.ensures.help in
    nothing_helps c.args.engine.now.problem c.as_slice.result.now c.in_ok-input.field-0 c.in_ok-row.field-0 c.in-Some.input c.loop-rows.invariant.some c.in-Some.is missed c.in_default-2.is helps

pub loop-rows-smaller : goal.loop-rows-smaller
loop-rows-smaller g c =
    let problem = c.args.engine.now.problem in
    let rows = c.loop-rows.rows.items in
    let missed = subst (λ (e : EngineValue). TellsMissed e.problem rows c.in_ok-input.field-0) c.loop-rows.invariant.stays
    (subst (λ list. TellsMissed c.loop-rows.engine.problem list c.in_ok-input.field-0) c.as_slice.ensures.value c.in_ok-input.ensures.missed) in
    let helps = subst (λ (e : EngineValue). TellsHelp e.problem c.in-Some.input c.in_ok-row.field-0) (c.in_ok-input.ensures.stays ∙ c.loop-rows.invariant.stays) c.in_ok-row.ensures.help in
    let new = help_is_new problem rows c.in_ok-input.field-0 c.in_ok-row.field-0 c.in-Some.input c.in-Some-2.row c.loop-rows.invariant.some c.in-Some.is missed c.in-Some-2.is helps in
    fewer_left problem.implementation rows c.push.new.self.items c.in-Some-2.row c.loop-rows.invariant.some c.loop-rows.invariant.rows new c.in_ok-push.ensures.items

pub loop-rows-preserved : goal.loop-rows-preserved
loop-rows-preserved g c =
    let problem = c.args.engine.now.problem in
    let rows = c.loop-rows.rows.items in
    let missed = subst (λ (e : EngineValue). TellsMissed e.problem rows c.in_ok-input.field-0) c.loop-rows.invariant.stays
    (subst (λ list. TellsMissed c.loop-rows.engine.problem list c.in_ok-input.field-0) c.as_slice.ensures.value c.in_ok-input.ensures.missed) in
    let helps = subst (λ (e : EngineValue). TellsHelp e.problem c.in-Some.input c.in_ok-row.field-0) (c.in_ok-input.ensures.stays ∙ c.loop-rows.invariant.stays) c.in_ok-row.ensures.help in
    let new = help_is_new problem rows c.in_ok-input.field-0 c.in_ok-row.field-0 c.in-Some.input c.in-Some-2.row c.loop-rows.invariant.some c.in-Some.is missed c.in-Some-2.is helps in
    record {
      stays = c.in_ok-row.ensures.stays ∙ c.in_ok-input.ensures.stays ∙ c.loop-rows.invariant.stays;
      some = c.loop-rows.invariant.some;
      rows = one_more problem.implementation rows c.push.new.self.items c.in-Some-2.row c.loop-rows.invariant.rows new c.in_ok-push.ensures.items;
    }
