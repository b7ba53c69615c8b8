use Rattle.std.proofs.Common.{◌≡◌, ◌≤◌, true, take}
use Rattle.std.specs.List.{list_all}
use Rattle.eco_meaning.specs.Names.{is_digit, number_of}
use Rattle.eco_text.proofs.digits.spelled_up_to.Given as goal

abbrev pub invariant-loop-digit : goal.invariant-loop-digit
invariant-loop-digit l = record {
  decimal : list_all is_digit (take l.digit-index l.digits) ≡ true;
  value : l.number ≡ number_of (take l.digit-index l.digits);
  limit : l.number ≤ l.most;
}
