-- The columns in play come one by one, from the last one on, until they tell the rows apart.
use Rattle.std.proofs.Common.{◌≡◌, ◌+◌, ◌-◌, ◌++◌, ℕ, Bool, List, Option, length, arith, sym, subst}
use Rattle.std.specs.Option.{MatchOption}
use Rattle.std.proofs.lemmas.List.Elements.{All-append}
use Rattle.eco_laws.specs.Columns.{IsInPlay}
use Rattle.eco_cover.specs.declared.classes.Alike.{Alike}
use Rattle.eco_cover.specs.Classes.{AreUnmixed, IsMixed, ShowsAlike}
use Rattle.eco_cover.proofs.Alike.{classes_named, fixed_in_play, play_goes_on, unmixed_tell, mixed_show, shown_not_told}
use Rattle.eco_cover.proofs.needed.next.Goals as goal

pub returns-in-None : goal.returns-in-None
returns-in-None c =
    let ones = c.args.ones.now in
    let zeros = c.args.zeros.now in
    let width = c.args.width in
    let fixed = c.args.fixed.now in
    let classes = c.in_ok-classes.classes.items in
    let wide = All-append (λ (row : List Bool). length row ≡ width) ones zeros c.requires.ones c.requires.zeros in
    record {
      next = unmixed_tell fixed width ones zeros classes (fixed_in_play fixed width (ones ++ zeros) classes wide c.in_ok-classes.ensures)
          (subst (AreUnmixed (length ones)) c.as_slice.ensures.value c.in-None.ensures);
    }

pub loop-column-init : goal.loop-column-init
loop-column-init c =
    let ones = c.args.ones.now in
    let zeros = c.args.zeros.now in
    let width = c.args.width in
    let fixed = c.args.fixed.now in
    let classes = c.in_ok-classes.classes.items in
    let wide = All-append (λ (row : List Bool). length row ≡ width) ones zeros c.requires.ones c.requires.zeros in
    let are = fixed_in_play fixed width (ones ++ zeros) classes wide c.in_ok-classes.ensures in
    record {
      classes = are;
      shown = mixed_show fixed width ones zeros classes c.in-Some.alike are
          (subst (λ (list : List ℕ). IsMixed (length ones) list c.in-Some.alike) c.as_slice.ensures.value c.in-Some.ensures);
    }

pub turn-requires-clause-named : goal.turn-requires-clause-named
turn-requires-clause-named c =
    classes_named (IsInPlay c.args.fixed.now c.loop-column.column) (c.args.ones.now ++ c.args.zeros.now) c.loop-column.classes.items c.loop-column.invariant.classes

pub loop-column-preserved : goal.loop-column-preserved
loop-column-preserved c =
    let ones = c.args.ones.now in
    let zeros = c.args.zeros.now in
    let width = c.args.width in
    let fixed = c.args.fixed.now in
    let column = c.loop-column.column - 1 in
    let split = c.turn.new.classes.items in
    let wide = All-append (λ (row : List Bool). length row ≡ width) ones zeros c.requires.ones c.requires.zeros in
    let before = c.loop-column-test.true in
    let within = c.loop-column.auto.column in
    let are = play_goes_on fixed width column c.loop-column.column (ones ++ zeros) c.loop-column.classes.items split wide (omega (arith, before, within)) (omega (arith, before)) c.loop-column.invariant.classes c.in_ok-pair.ensures.classes in
    record {
      classes = are;
      shown = mixed_show fixed column ones zeros split c.in-Some-2.pair are
          (subst (λ (pair : Option Alike). MatchOption pair (AreUnmixed (length ones) split) (IsMixed (length ones) split)) c.in-Some-2.is c.in_ok-pair.ensures.alike);
    }

pub returns-in-None-2 : goal.returns-in-None-2
returns-in-None-2 c =
    let ones = c.args.ones.now in
    let zeros = c.args.zeros.now in
    let width = c.args.width in
    let fixed = c.args.fixed.now in
    let column = c.loop-column.column - 1 in
    let split = c.turn.new.classes.items in
    let wide = All-append (λ (row : List Bool). length row ≡ width) ones zeros c.requires.ones c.requires.zeros in
    let before = c.loop-column-test.true in
    let within = c.loop-column.auto.column in
    let next : column + 1 ≡ c.loop-column.column = omega (arith, before) in
    let are = play_goes_on fixed width column c.loop-column.column (ones ++ zeros) c.loop-column.classes.items split wide (omega (arith, before, within)) next c.loop-column.invariant.classes c.in_ok-pair.ensures.classes in
    let unmixed = subst (λ (pair : Option Alike). MatchOption pair (AreUnmixed (length ones) split) (IsMixed (length ones) split)) c.in-None-2.is c.in_ok-pair.ensures.alike in
    let shown = subst (λ (n : ℕ). ShowsAlike fixed n ones zeros c.loop-column.alike) (sym next) c.loop-column.invariant.shown in
    record {
      next = record {
        behind = omega (arith, before);
        within = omega (arith, before, within);
        tell = unmixed_tell fixed column ones zeros split are unmixed;
        one_in = shown.one_in;
        zero_in = shown.zero_in;
        alike = shown.alike;
      };
    }

pub unreachable-requires : goal.unreachable-requires
unreachable-requires c =
    shown_not_told c.args.fixed.now c.loop-column.column c.args.from c.args.ones.now c.args.zeros.now c.loop-column.alike c.loop-column-test.false c.loop-column.invariant.shown c.requires.apart
