-- The laws of two joined sides.
use Rattle.std.proofs.Common.{refl, subst}
use Rattle.eco_tseitin.specs.Joined.{IsSewn}
use Rattle.eco_tseitin.proofs.SideLaws.{is_read}
use Rattle.eco_tseitin.proofs.TwoLaws.{first_part, second_part, both_models, both_answers, shared_between, marks_count, shared_distinct, one_within, other_within}
use Rattle.eco_tseitin.proofs.joining.join.Goals as goal

pub returns-in-Ok-clause-shape : goal.returns-in-Ok-clause-shape
returns-in-Ok-clause-shape c =
    let is : IsSewn c.args.first.cnf c.args.first.base.items c.args.second c.in-Ok.seam = subst (λ list. IsSewn c.args.first.cnf list c.args.second c.in-Ok.seam) c.as_slice.ensures.value c.in-Ok.ensures in
    record {
      shared_are = is.shared_are;
      own = is.own;
      others = is.others;
      own_are = is.own_are;
      others_are = is.others_are;
      vars = is.vars;
      clauses = is.clauses;
      marks = is.marks;
      one_reads = refl;
      other_reads = is.other_reads;
    }

pub returns-in-Ok-clause-first : goal.returns-in-Ok-clause-first
returns-in-Ok-clause-first c = λ graph inputs base asserted is.
    first_part c.args.first c.args.second c.requires.first c.requires.second c.requires.count _ (returns-in-Ok-clause-shape c) graph inputs base asserted (is_read graph inputs base asserted c.args.first is)

pub returns-in-Ok-clause-second : goal.returns-in-Ok-clause-second
returns-in-Ok-clause-second c = λ graph inputs base asserted is.
    second_part c.args.first c.args.second c.requires.first c.requires.second c.requires.count _ (returns-in-Ok-clause-shape c) graph inputs base asserted (is_read graph inputs base asserted c.args.second is)

pub returns-in-Ok-clause-models : goal.returns-in-Ok-clause-models
returns-in-Ok-clause-models c = both_models c.args.first c.args.second c.requires.first c.requires.second c.requires.count _ (returns-in-Ok-clause-shape c)

pub returns-in-Ok-clause-answers : goal.returns-in-Ok-clause-answers
returns-in-Ok-clause-answers c = both_answers c.args.first c.args.second c.requires.first c.requires.second c.requires.count _ (returns-in-Ok-clause-shape c)

pub returns-in-Ok-clause-apart : goal.returns-in-Ok-clause-apart
returns-in-Ok-clause-apart c = shared_between c.args.first c.args.second c.requires.first c.requires.second c.requires.count _ (returns-in-Ok-clause-shape c)

pub returns-in-Ok-clause-marks : goal.returns-in-Ok-clause-marks
returns-in-Ok-clause-marks c = marks_count c.args.first c.args.second c.requires.first c.requires.second c.requires.count _ (returns-in-Ok-clause-shape c)

pub returns-in-Ok-clause-count : goal.returns-in-Ok-clause-count
returns-in-Ok-clause-count c = (returns-in-Ok-clause-shape c).shared_are.count_is

pub returns-in-Ok-clause-distinct : goal.returns-in-Ok-clause-distinct
returns-in-Ok-clause-distinct c = shared_distinct c.args.first c.args.second c.requires.first c.requires.second c.requires.count _ (returns-in-Ok-clause-shape c)

pub returns-in-Ok-clause-one_within : goal.returns-in-Ok-clause-one_within
returns-in-Ok-clause-one_within c = one_within c.args.first c.args.second c.requires.first c.requires.second c.requires.count _ (returns-in-Ok-clause-shape c)

pub returns-in-Ok-clause-other_within : goal.returns-in-Ok-clause-other_within
returns-in-Ok-clause-other_within c = other_within c.args.first c.args.second c.requires.first c.requires.second c.requires.count _ (returns-in-Ok-clause-shape c)

pub returns-in-Ok-clause-few : goal.returns-in-Ok-clause-few
returns-in-Ok-clause-few c = (returns-in-Ok-clause-shape c).vars
