use Rattle.std.proofs.Common.{◌≡◌, ◌∙◌, sym, refl, ℕ, false, Option, Some, None, is_some}
use Rattle.std.proofs.lemmas.Bool.{false≢true}
use Rattle.std.proofs.lemmas.Map.Made.{is_some-lookup}
use Rattle.std.specs.Str.{bytes_eq}
use Rattle.indexmap.proofs.CallerLemmas.{insert_entry-new}
use Rattle.eco_weight.proofs.GatherLemmas.{gathers_there, gathers_new}
use Rattle.eco_weight.proofs.gathered.Gathered.add.Goals as goal

none_from : (o : Option ℕ) → is_some o ≡ false → o ≡ None
none_from None e = refl
none_from (Some x) e = absurd (false≢true (sym e))

pub returns-then-has : goal.returns-then-has
returns-then-has c = λ told g.
    rw (c.smaller.ensures, c.take.ensures.value) (gathers_there told c.args.self.now.lines.entries c.args.self.now.twice c.args.name c.args.weight (sym c.has.ensures ∙ c.if-has.true) g)

pub returns-in_ok-insert : goal.returns-in_ok-insert
returns-in_ok-insert c = λ told g.
    let absent = sym c.has.ensures ∙ c.if-has.false in
    let missing = none_from _ (is_some-lookup (bytes_eq c.args.name) c.args.self.now.lines.entries ∙ absent) in
    let more = c.in_ok-insert.ensures.entries ∙ insert_entry-new bytes_eq c.args.self.now.lines c.args.name c.args.weight missing in
    gathers_new told c.args.self.now.lines.entries c.insert.new.self.entries c.args.self.now.twice c.args.name c.args.weight absent more c.in_ok-insert.ensures.unique g
