-- Nets that are listed, left and gone.
use Rattle.std.proofs.Common.{inl, inr, [], ◌∷◌, ◌++◌, subst}
use Rattle.std.specs.List.{Contains}
use Rattle.std.proofs.lemmas.List.Elements.{All-contains, All-nil, All-cons, All-append, Contains-append_left, Contains-append_right, Contains-append_cases}
use Rattle.eco_lists.proofs.Members.{Contains_first, Contains_cases}
use Rattle.eco_lists.proofs.Places.{All_from_places, All_at}
use Rattle.eco_meaning.specs.Meaning.{IsWrong}
use Rattle.eco_choices.specs.Choices.{IsWrongBut, IsChoice}
use Rattle.eco_choices.specs.Located.{IsExcluded, SiftingBegins, SiftingByInput, SiftingByChoice, SiftingEnds}

pub sifting_begins : SiftingBegins
sifting_begins f goal left all = record {
  choices = All-nil (λ net. IsChoice f goal (net ∷ []));
  wrong = All-nil (IsWrong f goal);
  excluded = All-nil (IsExcluded f goal []);
  sifted = λ net driven. inr (inl (all net driven));
}

pub sifting_by_input : SiftingByInput
sifting_by_input f goal listed left gone rest taken seen input is wrong split still = record {
  choices = is.choices;
  wrong = All-append (IsWrong f goal) seen (input ∷ []) is.wrong (All-cons (IsWrong f goal) input [] wrong (All-nil (IsWrong f goal)));
  excluded = All-append (IsExcluded f goal (seen ++ input ∷ [])) gone taken
      (All_from_places (IsExcluded f goal (seen ++ input ∷ [])) gone (λ k net at.
      let before = All_at (IsExcluded f goal seen) gone k net is.excluded at in
      record { input = before.input; among = Contains-append_left seen (input ∷ []) before.input before.among; wrong = before.wrong }))
      (All_from_places (IsExcluded f goal (seen ++ input ∷ [])) taken (λ k net at. record {
        input = input;
        among = Contains-append_right seen (input ∷ []) input (Contains_first input []);
        wrong = All_at (λ net. IsWrongBut f goal (net ∷ []) input) taken k net still at;
      }));
  sifted = λ net driven. elim (is.sifted net driven) [
    | inl choice ↦ inl choice
    | inr other ↦ elim other [
      | inr before ↦ inr (inr (Contains-append_left gone taken net before))
      | inl had ↦ elim (split net had) [
        | inl stays ↦ inr (inl stays)
        | inr goes ↦ inr (inr (Contains-append_right gone taken net goes))
      ]
    ]
  ];
}

pub sifting_by_choice : SiftingByChoice
sifting_by_choice f goal listed before behind gone net seen is choice = record {
  choices = All-append (λ net. IsChoice f goal (net ∷ [])) listed (net ∷ []) is.choices
      (All-cons (λ net. IsChoice f goal (net ∷ [])) net [] choice (All-nil (λ net. IsChoice f goal (net ∷ []))));
  wrong = is.wrong;
  excluded = is.excluded;
  sifted = λ other driven. elim (is.sifted other driven) [
    | inl had ↦ inl (Contains-append_left listed (net ∷ []) other had)
    | inr not_listed ↦ elim not_listed [
      | inr away ↦ inr (inr away)
      | inl had ↦ elim (Contains-append_cases before (net ∷ behind) other had) [
        | inl front ↦ inr (inl (Contains-append_left before behind other front))
        | inr from ↦ elim (Contains_cases net other behind from) [
          | inl same ↦ inl (subst (Contains (listed ++ net ∷ [])) same (Contains-append_right listed (net ∷ []) net (Contains_first net [])))
          | inr back ↦ inr (inl (Contains-append_right before behind other back))
        ]
      ]
    ]
  ];
}

pub sifting_ends : SiftingEnds
sifting_ends f goal listed over gone seen printed is once driven among excluded = record {
  once = once;
  driven = driven;
  choices = is.choices;
  wrong = All_from_places (IsWrong f goal) printed (λ k input at.
      All-contains (IsWrong f goal) seen input is.wrong (All_at (Contains seen) printed k input among at));
  complete = λ net drives. elim (is.sifted net drives) [
    | inl had ↦ inl had
    | inr other ↦ elim other [
      | inl open_net ↦ inr (inl open_net)
      | inr away ↦ inr (inr (All-contains (IsExcluded f goal printed) gone net excluded away))
    ]
  ];
}
