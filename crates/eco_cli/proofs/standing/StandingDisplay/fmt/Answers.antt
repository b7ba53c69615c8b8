-- The text of a run's standing, by its step.
use Rattle.std.proofs.Common.{◌≡◌, ℕ, ◌-◌, List, [], ◌++◌, inl, inr, subst, sym, ap, ◌∙◌}
use Rattle.std.specs.Prelude.{codes, decimal}
use Rattle.std.specs.Fmt.{HasWritten}
use Rattle.eco_cli.specs.declared.standing.Standing.{Standing}
use Rattle.eco_cli.specs.Telling.{step_text, signals_text, standing_text}
use Rattle.eco_cli.proofs.standing.StandingDisplay.fmt.Goals as goal

-- the text with this number of questions in this step, and this behind it
abbrev text_with : Standing → ℕ → List ℕ → List ℕ
text_with s here signals =
    step_text s.step ++ (codes ", question " ++ (decimal s.questions ++ (codes " (" ++ (decimal here ++ (codes " in this step)" ++ signals)))))

-- it is the standing's
text_is : (s : Standing) (here : ℕ) (signals : List ℕ) → here ≡ s.questions - s.before → signals ≡ signals_text s.step s.signals → text_with s here signals ≡ standing_text s
text_is s here signals is same = ap (λ n. text_with s n signals) is ∙ ap (text_with s (s.questions - s.before)) same

pub returns-in-Deciding-clause-writes : goal.returns-in-Deciding-clause-writes
returns-in-Deciding-clause-writes g c = λ plain ok.
    let s = c.args.self.now in
    subst (λ text. HasWritten g.W.Write.write_str_gives c.args.f.now text c.write.new.self) (text_is s c.saturating_sub-here.result [] c.saturating_sub-here.ensures (sym (ap (λ step. signals_text step s.signals) c.in-Deciding.is))) (c.write.ensures.writes plain ok)

pub returns-in-Choosing : goal.returns-in-Choosing
returns-in-Choosing g c =
    let s = c.args.self.now in
    let signals = codes ", signals so far: " ++ decimal s.signals in
    let same : signals ≡ signals_text s.step s.signals = elim c.in-Choosing.is [
      | inl choosing ↦ sym (ap (λ step. signals_text step s.signals) choosing.1)
      | inr making ↦ sym (ap (λ step. signals_text step s.signals) making.1)
    ] in
    record {
      writes = λ plain ok.
          subst (λ text. HasWritten g.W.Write.write_str_gives c.args.f.now text c.write-in-Choosing.new.self) (text_is s c.saturating_sub-here.result signals c.saturating_sub-here.ensures same) (c.write-in-Choosing.ensures.writes plain ok);
      styled = tt;
    }
