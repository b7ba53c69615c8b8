-- Lists of rows grow by rows that are new, and not beyond what the targets allow; and what they tell.
use Rattle.std.proofs.Common.{◌≡◌, ◌-◌, ◌^◌, ◌≤◌, ◌<◌, Bool, Option, None, Some, List, [], ◌∷◌, ◌++◌, length, arith, sym, ap, subst}
use Rattle.std.proofs.Math.Pow.{pow_mono}
use Rattle.std.proofs.lemmas.List.{length-append}
use Rattle.std.proofs.lemmas.List.Elements.{All-nil, All-cons, All-append}
use Rattle.eco_meaning.specs.Circuit.{Circuit}
use Rattle.eco_meaning.specs.Meaning.{IsRectifiable, IsWrong}
use Rattle.eco_query.specs.Problem.{HasSomeTargets, ProblemValue}
use Rattle.eco_query.specs.declared.TheConstants.{MOST_TARGETS}
use Rattle.eco_laws.proofs.RowLemmas.{distinct_few, stay_distinct}
use Rattle.eco_laws.proofs.AskedLemmas.{none_missed, missed_is_wrong, missed_row_is_new, fixed_bits_fit}
use Rattle.eco_rectify.specs.Searched.{AreListed, IsNewRow, TellsHelp, TellsMissed}

-- with a new row they are listed too
pub one_more : (f : Circuit) (rows more : List (List Bool)) (row : List Bool) → AreListed f rows → IsNewRow f rows row → more ≡ rows ++ row ∷ [] → AreListed f more
one_more f rows more row listed new same =
    subst (AreListed f) (sym same) (record {
      fitting = λ targets are. All-append (λ (r : List Bool). length r ≡ length targets) rows (row ∷ []) (listed.fitting targets are)
          (All-cons (λ (r : List Bool). length r ≡ length targets) row [] (new.fitting targets are) (All-nil (λ (r : List Bool). length r ≡ length targets)));
      distinct = stay_distinct rows row listed.distinct new.unlisted;
    })

-- there are at most as many as the most targets have values
few_rows : (f : Circuit) (rows : List (List Bool)) → HasSomeTargets f → AreListed f rows → length rows ≤ 2 ^ MOST_TARGETS
few_rows f rows some listed =
    let (targets, are, count) = some.counted in
    let few = distinct_few (length targets) rows (listed.fitting targets are) listed.distinct in
    let within : length targets ≤ MOST_TARGETS = omega (arith, count, some.few) in
    let most : 2 ^ length targets ≤ 2 ^ MOST_TARGETS = pow_mono within in
    omega (arith, few, most)

-- a new row leaves fewer that may come
pub fewer_left : (f : Circuit) (rows more : List (List Bool)) (row : List Bool) → HasSomeTargets f → AreListed f rows → IsNewRow f rows row → more ≡ rows ++ row ∷ [] → 2 ^ MOST_TARGETS - length more < 2 ^ MOST_TARGETS - length rows
fewer_left f rows more row some listed new same =
    let few = few_rows f more some (one_more f rows more row listed new same) in
    omega (arith, few, ap length same, length-append rows (row ∷ []))

-- where the rows miss no input, f can be rectified
pub none_is_missed : (problem : ProblemValue) (rows : List (List Bool)) (told : Option (List Bool)) → HasSomeTargets problem.implementation → told ≡ None → TellsMissed problem rows told → IsRectifiable problem.implementation problem.goal
none_is_missed problem rows told some is missed =
    let (targets, are, count) = some.counted in
    none_missed problem.implementation problem.goal targets rows (subst (TellsMissed problem rows) is missed targets are)

-- a missed input has a bit for each input
pub missed_length : (problem : ProblemValue) (rows : List (List Bool)) (told : Option (List Bool)) (x : List Bool) → HasSomeTargets problem.implementation → told ≡ Some x → TellsMissed problem rows told →
    length x ≡ length problem.implementation.inputs
missed_length problem rows told x some is missed =
    let (targets, are, count) = some.counted in
    (subst (TellsMissed problem rows) is missed targets are).len

-- where nothing helps, it is wrong
pub nothing_helps : (problem : ProblemValue) (rows : List (List Bool)) (told help : Option (List Bool)) (x : List Bool) → HasSomeTargets problem.implementation → told ≡ Some x → TellsMissed problem rows told →
    help ≡ None → TellsHelp problem x help → IsWrong problem.implementation problem.goal x
nothing_helps problem rows told help x some is missed none helps =
    let (targets, are, count) = some.counted in
    missed_is_wrong problem.implementation problem.goal targets rows x (subst (TellsMissed problem rows) is missed targets are) (subst (TellsHelp problem x) none helps targets are)

-- and what helps is a new row
pub help_is_new : (problem : ProblemValue) (rows : List (List Bool)) (told help : Option (List Bool)) (x row : List Bool) → HasSomeTargets problem.implementation → told ≡ Some x → TellsMissed problem rows told →
    help ≡ Some row → TellsHelp problem x help → IsNewRow problem.implementation rows row
help_is_new problem rows told help x row some is missed this helps =
    let f = problem.implementation in
    let (targets, are, count) = some.counted in
    let fixed = subst (TellsHelp problem x) this helps in
    record {
      fitting = λ nets are_nets. fixed_bits_fit f problem.goal nets [] x row (fixed nets are_nets);
      unlisted = missed_row_is_new f problem.goal targets rows [] x row (subst (TellsMissed problem rows) is missed targets are) (fixed targets are);
    }
