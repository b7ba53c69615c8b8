-- What the judged nets of a netlist say of it by their names.
use Rattle.std.specs.Prelude.{ℕ, map}
use Rattle.eco_meaning.specs.Circuit.{Circuit, names}
use Rattle.eco_meaning.specs.Meaning.{Goal}
use Rattle.eco_netlist.specs.Netlists.{IsChecked, names_at}
use Rattle.eco_choices.specs.Located.{IsLocated}
use Rattle.eco_locate.specs.declared.answer.Located.{Located}
use Rattle.eco_locate.specs.Judged.{IsJudged}

-- what is told of the nets of a checked netlist is what tells which single nets are choices
abbrev pub JudgedIsLocated : Type 0
JudgedIsLocated =
    (f : Circuit) (goal : Goal) (limit : ℕ) (located : Located) → IsChecked f → IsJudged f goal limit located →
    IsLocated f goal (names_at (names f) located.listed.items) (names_at (names f) (map (λ o. o.net) located.over.items))
    (map (λ e. e.input) located.excluding.items)
