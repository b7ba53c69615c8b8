-- `gen` has one outcome, and what it comes to is what its rules ask for.
use Rattle.std.proofs.Common.{inl, inr, Some, refl}
use Rattle.eco_outside.specs.Store.{Files, StoreView}
use Rattle.eco_words.specs.CommandLine.{GenOptions}
use Rattle.eco_cli.specs.declared.draw.Drawn.{Drawn}
use Rattle.eco_cli.specs.Gen.{IsDrawnAnswer, drawn, drawn_row, gen_rules, spent_text}
use Rattle.eco_inputs.specs.Rows.{IsRow}
use Rattle.eco_cli.specs.Rules.{IsLawful, IsPrepared}
use Rattle.eco_cli.proofs.Preparing.{spent_prepared}
use Rattle.eco_inputs.proofs.RowLaws.{value_law}

row_law : (options : GenOptions) (files : Files) → IsRow (λ why. why) (drawn_row options) (Some files)
row_law options files = value_law (λ why. why) (drawn options) (Some files)

pub gen_law : (options : GenOptions) → IsLawful (gen_rules options)
gen_law options = record { rows = row_law options; determined = λ why. refl; asked = λ files problem passed why stands. absurd why }

-- what was drawn is answered
pub drawn_prepared : (options : GenOptions) (before after : StoreView) (ending : Drawn) → IsDrawnAnswer options ending → IsPrepared (gen_rules options) before after ending.answer
drawn_prepared options before after ending (inl (made, is)) =
    let (zero, none, text) = is.answer in
    inl (
      zero,
      record {
        value = drawn options;
        passed = (tt, refl);
        answers = record { none = none; p = made.patch; spliced = made.out; report = made.report; solves = is.solves; text = text };
      },
    )
drawn_prepared options before after ending (inr (stuck, is)) =
    spent_prepared (gen_rules options) before after (drawn options) stuck (spent_text options stuck) (tt, refl) (is.given_up, refl) ending.answer is.answer
