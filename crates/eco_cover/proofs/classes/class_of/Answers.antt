-- The row stays with the class's first one, or comes to the first one that hasn't its bit, or begins a class.
use Rattle.std.proofs.Common.{◌≡◌, ◌<◌, ◌∙◌, Some, None, length, get_or, sym, ap, arith}
use Rattle.std.specs.List.{slice_get}
use Rattle.std.proofs.lemmas.Option.{slice_get-get_or}
use Rattle.eco_cover.proofs.Splitting.{equal_bits, unlike_bits, first_stays, other_takes, row_begins, others_stay_with_first, others_stay_with_other, others_grow}
use Rattle.eco_cover.proofs.classes.class_of.Goals as goal

pub bounds-bits-first : goal.bounds-bits-first
bounds-bits-first c =
    let classes = c.args.classes.now in
    let (itself, below) = c.requires.named c.args.row (get_or classes c.args.row 0) (slice_get-get_or classes c.args.row 0 c.requires.row) in
    omega (arith, below, c.requires.row, c.requires.bits)

pub returns-then-bits-row-clause-class : goal.returns-then-bits-row-clause-class
returns-then-bits-row-clause-class c =
    let classes = c.args.classes.now in
    let bits = c.args.bits.now in
    let row = c.args.row in
    let first = get_or classes row 0 in
    let at = slice_get-get_or classes row 0 c.requires.row in
    let (itself, below) = c.requires.named row first at in
    first_stays classes bits row first c.requires.named at
    (equal_bits bits row first (omega (arith, c.requires.row, c.requires.bits)) (omega (arith, below, c.requires.row, c.requires.bits)) c.if-bits-row.true)

pub returns-then-bits-row-clause-others : goal.returns-then-bits-row-clause-others
returns-then-bits-row-clause-others c =
    let classes = c.args.classes.now in
    let bits = c.args.bits.now in
    let row = c.args.row in
    let first = get_or classes row 0 in
    let at = slice_get-get_or classes row 0 c.requires.row in
    let (itself, below) = c.requires.named row first at in
    others_stay_with_first classes bits row first c.args.others.now.items at
    (equal_bits bits row first (omega (arith, c.requires.row, c.requires.bits)) (omega (arith, below, c.requires.row, c.requires.bits)) c.if-bits-row.true) c.requires.others

pub index-requires : goal.index-requires
index-requires c =
    let classes = c.args.classes.now in
    let (itself, below) = c.requires.named c.args.row (get_or classes c.args.row 0) (slice_get-get_or classes c.args.row 0 c.requires.row) in
    omega (arith, below, c.requires.row, c.requires.others.count, c.args.others.now.ok.0)

pub index_mut-requires : goal.index_mut-requires
index_mut-requires c =
    let classes = c.args.classes.now in
    let (itself, below) = c.requires.named c.args.row (get_or classes c.args.row 0) (slice_get-get_or classes c.args.row 0 c.requires.row) in
    omega (arith, below, c.requires.row, c.requires.others.count, c.args.others.now.ok.0)

pub returns-in-Some-clause-class : goal.returns-in-Some-clause-class
returns-in-Some-clause-class c =
    let classes = c.args.classes.now in
    let bits = c.args.bits.now in
    let others = c.args.others.now.items in
    let row = c.args.row in
    let first = get_or classes row 0 in
    let at = slice_get-get_or classes row 0 c.requires.row in
    let (itself, below) = c.requires.named row first at in
    let first_in : first < length others = omega (arith, below, c.requires.row, c.requires.others.count) in
    let unlike = unlike_bits bits row first (omega (arith, c.requires.row, c.requires.bits)) (omega (arith, below, c.requires.row, c.requires.bits)) c.if-bits-row.false in
    let is : slice_get others first ≡ Some (Some c.in-Some.other) = slice_get-get_or others first c.index.result.now first_in ∙ ap Some (sym c.index.ensures ∙ c.in-Some.is) in
    other_takes classes bits row first c.in-Some.other c.requires.bits c.requires.named at unlike (c.requires.others.some first c.in-Some.other is)

pub returns-in-Some-clause-others : goal.returns-in-Some-clause-others
returns-in-Some-clause-others c =
    let classes = c.args.classes.now in
    let bits = c.args.bits.now in
    let others = c.args.others.now.items in
    let row = c.args.row in
    let first = get_or classes row 0 in
    let at = slice_get-get_or classes row 0 c.requires.row in
    let (itself, below) = c.requires.named row first at in
    let first_in : first < length others = omega (arith, below, c.requires.row, c.requires.others.count) in
    let is : slice_get others first ≡ Some (Some c.in-Some.other) = slice_get-get_or others first c.index.result.now first_in ∙ ap Some (sym c.index.ensures ∙ c.in-Some.is) in
    others_stay_with_other classes bits row first c.in-Some.other others at is c.requires.others

pub returns-in-None-clause-class : goal.returns-in-None-clause-class
returns-in-None-clause-class c =
    let classes = c.args.classes.now in
    let bits = c.args.bits.now in
    let others = c.args.others.now.items in
    let row = c.args.row in
    let first = get_or classes row 0 in
    let at = slice_get-get_or classes row 0 c.requires.row in
    let (itself, below) = c.requires.named row first at in
    let first_in : first < length others = omega (arith, below, c.requires.row, c.requires.others.count) in
    let unlike = unlike_bits bits row first (omega (arith, c.requires.row, c.requires.bits)) (omega (arith, below, c.requires.row, c.requires.bits)) c.if-bits-row.false in
    let vacant : slice_get others first ≡ Some None = slice_get-get_or others first c.index.result.now first_in ∙ ap Some (sym c.index.ensures ∙ c.in-None.is) in
    row_begins classes bits row first others at unlike c.requires.others vacant

pub returns-in-None-clause-others : goal.returns-in-None-clause-others
returns-in-None-clause-others c =
    let classes = c.args.classes.now in
    let bits = c.args.bits.now in
    let others = c.args.others.now.items in
    let row = c.args.row in
    let first = get_or classes row 0 in
    let at = slice_get-get_or classes row 0 c.requires.row in
    let (itself, below) = c.requires.named row first at in
    let first_in : first < length others = omega (arith, below, c.requires.row, c.requires.others.count) in
    let unlike = unlike_bits bits row first (omega (arith, c.requires.row, c.requires.bits)) (omega (arith, below, c.requires.row, c.requires.bits)) c.if-bits-row.false in
    let vacant : slice_get others first ≡ Some None = slice_get-get_or others first c.index.result.now first_in ∙ ap Some (sym c.index.ensures ∙ c.in-None.is) in
    others_grow classes bits row first others at unlike c.requires.others vacant
