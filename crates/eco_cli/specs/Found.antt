-- What `locate` finds of the nets of a netlist, and what is printed of it.
use Rattle.std.specs.Prelude.{◌≡◌, ℕ, Bool, List, ◌++◌, map, length, codes, decimal}
use Rattle.std.specs.List.{flat_map}
use Rattle.eco_meaning.specs.Circuit.{Circuit, names}
use Rattle.eco_meaning.specs.Meaning.{IsWrong}
use Rattle.eco_netlist.specs.Netlists.{name_at, names_at}
use Rattle.eco_choices.specs.Located.{IsLocated}
use Rattle.eco_change.specs.Change.{ChangeValue}
use Rattle.eco_locate.specs.declared.answer.Excluding.{Excluding}
use Rattle.eco_locate.specs.declared.answer.Located.{Located}
use Rattle.eco_locate.specs.declared.answer.Open.{Open}
use Rattle.eco_locate.specs.declared.ranking.Ranked.{Ranked}
use Rattle.eco_locate.specs.Judged.{IsJudged, excluded_nets}
use Rattle.eco_locate.specs.Moves.{IsRearranged}
use Rattle.eco_report.specs.Texts.{bit_digit}

-- ---- what is printed

-- `net NAME CONE READERS`
abbrev pub net_line : List (List ℕ) → Ranked → List ℕ
net_line names ranked =
    codes "net " ++ name_at names ranked.net.0 ++ codes " " ++ decimal ranked.cone ++ codes " " ++ decimal ranked.readers ++ codes "\n"

-- `open NAME`
abbrev pub open_line : List (List ℕ) → Open → List ℕ
open_line names over = codes "open " ++ name_at names over.net.0 ++ codes "\n"

-- `input BITS COUNT`
abbrev pub input_line : Excluding → List ℕ
input_line excluding =
    codes "input " ++ map bit_digit excluding.input ++ codes " " ++ decimal (length excluding.nets.items) ++ codes "\n"

-- the nets that can be cut and how many they are, the nets that are left open, and how many are excluded, by which inputs
abbrev pub found_text : Circuit → List Ranked → Located → List ℕ
found_text f ranked located =
    codes "located\n" ++ codes "single " ++ decimal (length ranked) ++ codes "\n" ++ flat_map (net_line (names f)) ranked
    ++ flat_map (open_line (names f)) located.over.items
    ++ codes "excluded " ++ decimal (length (excluded_nets located.excluding.items)) ++ codes "\n"
    ++ flat_map input_line located.excluding.items

-- ---- what it means

-- Some input is wrong. Each net that a gate drives is listed, left open or excluded, once: cutting a listed one alone suffices, an
-- input excludes an excluded one, and the question of an open one was given up within the limit. The listed ones stand in some
-- order, and the text tells them all.
pub record IsFound (change : ChangeValue) (limit : ℕ) (ranked : List Ranked) (located : Located) (text : List ℕ) : Type 0 where
  pub wrong : (x : List Bool) × IsWrong change.old change.goal x
  pub judged : IsJudged change.old change.goal limit located
  pub complete : IsLocated change.old change.goal (names_at (names change.old) located.listed.items)
      (names_at (names change.old) (map (λ o. o.net) located.over.items)) (map (λ e. e.input) located.excluding.items)
  pub moved : IsRearranged located.listed.items (map (λ r. r.net) ranked)
  pub told : text ≡ found_text change.old ranked located
