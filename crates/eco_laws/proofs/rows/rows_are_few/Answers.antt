use Rattle.eco_laws.proofs.RowLemmas.{all_missing, one_less, listed_same, new_pairs_run_out, distinct_few, stay_distinct}
use Rattle.eco_laws.proofs.rows.rows_are_few.Goals as goal

pub returns : goal.returns
returns c = record { all = all_missing; less = one_less; same = listed_same; pairs = new_pairs_run_out; few = distinct_few; distinct = stay_distinct }
