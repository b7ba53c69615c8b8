-- Choices, and parts of them.
use Rattle.std.proofs.lemmas.List.Elements.{All-contains}
use Rattle.std.specs.List.{Contains}
use Rattle.eco_lists.proofs.Members.{Contains_none}
use Rattle.eco_meaning.specs.Circuit.{IsConsistent}
use Rattle.eco_choices.specs.Choices.{WrongButNoneIsWrong, WrongButIsWrongButPart}

pub wrong_but_none : WrongButNoneIsWrong
wrong_but_none f goal x = (
  λ wrong. record {
    len = wrong.len;
    never = λ v v_is input right. wrong.never v (λ g member free. v_is g member) input right.agrees;
  },
  λ wrong. record {
    len = wrong.len;
    never = λ v v_is input asked.
        let consistent : IsConsistent f v = λ g member. v_is g member (Contains_none g.out) in
        wrong.never v consistent input (record { consistent = consistent; agrees = asked });
  },
)

pub wrong_but_part : WrongButIsWrongButPart
wrong_but_part f goal nets part x within wrong = record {
  len = wrong.len;
  never = λ v v_is. wrong.never v (λ g member free. v_is g member (λ c. free (All-contains (Contains nets) part g.out within c)));
}
