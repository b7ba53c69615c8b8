use Rattle.std.proofs.Common.{◌+◌, ◌++◌, [], ◌∷◌, map, take, cond, sym, ap, ◌∙◌, subst}
use Rattle.std.proofs.lemmas.Bool.{not-false, not-true}
use Rattle.std.proofs.lemmas.List.{map-append}
use Rattle.eco_aiger.specs.Grammar.{symbol_words, IsSymbol}
use Rattle.eco_aiger.specs.Defined.{is_in}
use Rattle.eco_aiger.specs.Parts.{symbol_of, AreSymbols}
use Rattle.eco_aiger.specs.declared.tree.Symbol.{Symbol}
use Rattle.eco_aiger.proofs.Rows.{rows_stuck_at}
use Rattle.eco_aiger.proofs.SectionLaws.{unread_known, symbols_push, symbols_repeat}
use Rattle.eco_aiger.proofs.sections.named_symbols.Goals as goal

pub returns-then-not-branch-clause-err : goal.returns-then-not-branch-clause-err
returns-then-not-branch-clause-err c =
    let is = rw c.in-Some.is at c.in_ok-symbol.ensures in
    let old = ap (λ keys. is_in keys c.in-Some.symbol.port) (sym c.loop-index.invariant.named) ∙ not-false _ (sym c.in_ok-insert-in-Some.ensures.added ∙ c.if-not-branch.true) in
    unread_known c.fault_at.result
    (symbols_repeat c.args.inputs c.args.outputs c.args.lines.now c.loop-index.index _ c.loop-index.list.items c.in-Some.symbol c.requires.inputs_small c.requires.outputs_small c.loop-index-test.true c.loop-index.invariant.are is old)

pub returns-in-None-clause-err : goal.returns-in-None-clause-err
returns-in-None-clause-err c =
    let none = rw c.in-None.is at c.in_ok-symbol.ensures in
    unread_known c.fault_at-in-None.result
    (λ list are. rows_stuck_at (symbol_words c.args.inputs) (IsSymbol (c.args.inputs + c.args.outputs)) c.args.lines.now c.loop-index.index _ c.loop-index-test.true none list are.are)

pub loop-index-preserved : goal.loop-index-preserved
loop-index-preserved c =
    let is = rw c.in-Some.is at c.in_ok-symbol.ensures in
    let push = c.in_ok-push-in-Some.ensures.items in
    let absent = not-true _ (sym c.in_ok-insert-in-Some.ensures.added ∙ c.if-not-branch.false) in
    let new = ap (λ keys. is_in keys c.in-Some.symbol.port) (sym c.loop-index.invariant.named) ∙ absent in
    record {
      are =
          subst (λ items. AreSymbols c.args.inputs c.args.outputs (map (λ line. line.now) (take (c.loop-index.index + 1) c.args.lines.now)) (map symbol_of items)) (sym push)
          (symbols_push c.args.inputs c.args.outputs c.args.lines.now c.loop-index.index _ c.loop-index.list.items c.in-Some.symbol c.loop-index-test.true c.loop-index.invariant.are is new);
      named =
          c.in_ok-insert-in-Some.ensures.keys
          ∙ ap (λ b. cond b c.loop-index.named.keys (c.loop-index.named.keys ++ c.in-Some.symbol.port ∷ [])) absent
          ∙ ap (λ keys. keys ++ c.in-Some.symbol.port ∷ []) c.loop-index.invariant.named
          ∙ sym (map-append (λ (s : Symbol). s.port) c.loop-index.list.items (c.in-Some.symbol ∷ []))
          ∙ ap (map (λ (s : Symbol). s.port)) (sym push);
    }
