-- The texts of reports, byte by byte: each line ends in a line feed, fields are parted by one blank.
use Rattle.std.specs.Prelude.{ℕ, Bool, List, [], ◌++◌, Option, Some, None, length, map, codes, decimal, if◌then◌else◌}
use Rattle.std.specs.List.{flat_map}
use Rattle.eco_meaning.specs.Bound.{Part, Bound}
use Rattle.eco_meaning.specs.Report.{BaseSignal, TargetGroup, Least, PatchReport}

-- a bit as a digit
abbrev pub bit_digit : Bool → ℕ
bit_digit bit = if bit then 49 else 48

-- `WORD BITS`
abbrev pub bits_text : List ℕ → List Bool → List ℕ
bits_text word bits = word ++ codes " " ++ map bit_digit bits ++ codes "\n"

-- `base NAME WEIGHT`, `force1 BITS`, `force0 BITS`
abbrev pub base_text : BaseSignal → List ℕ
base_text b =
    codes "base " ++ b.signal ++ codes " " ++ decimal b.weight ++ codes "\n" ++ bits_text (codes "force1") b.force1
    ++ bits_text (codes "force0") b.force0

-- `target NAME COUNT`, then its base signals
abbrev pub group_text : TargetGroup → List ℕ
group_text g =
    codes "target " ++ g.target ++ codes " " ++ decimal (length g.base) ++ codes "\n" ++ flat_map base_text g.base

-- `amount NUMBER`, `force1 BITS`, `force0 BITS`
abbrev pub part_text : Part → List ℕ
part_text p =
    codes "amount " ++ decimal p.amount ++ codes "\n" ++ bits_text (codes "force1") p.force1
    ++ bits_text (codes "force0") p.force0

-- where there is a bound, `bound TOTAL COUNT`, then its parts
abbrev pub bound_text : Option Bound → List ℕ
bound_text None = []
bound_text (Some b) =
    codes "bound " ++ decimal b.total ++ codes " " ++ decimal (length b.parts) ++ codes "\n" ++ flat_map part_text b.parts

-- `least NAME NUMBER`
abbrev pub least_text : Least → List ℕ
least_text l = codes "least " ++ l.target ++ codes " " ++ decimal l.cost ++ codes "\n"

-- `patched`, `cost NUMBER`, `gates NUMBER`, then each target, then the bound, then what each target costs at least
abbrev pub text_of : PatchReport → List ℕ
text_of r =
    codes "patched\ncost " ++ decimal r.cost ++ codes "\ngates " ++ decimal r.gates ++ codes "\n"
    ++ flat_map group_text r.groups ++ bound_text r.bound ++ flat_map least_text r.least

-- `unrectifiable`, then `input BITS`
abbrev pub unrectifiable_text : List Bool → List ℕ
unrectifiable_text input = codes "unrectifiable\n" ++ bits_text (codes "input") input
