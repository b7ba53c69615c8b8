-- Lists whose members go from one to another.
use Rattle.std.specs.Prelude.{◌≡◌, ◌⊎◌, ◌↔◌, ◌+◌, List, length, Contains}

-- the members of the third list are those of the first two, and it is as long as both
pub record IsJoint {X : Type 0} (first second both : List X) : Type 0 where
  pub members : (x : X) → Contains both x ↔ (Contains first x ⊎ Contains second x)
  pub count : length both ≡ length first + length second

-- both lists have the same members, and are as long
pub record IsRearranged {X : Type 0} (before after : List X) : Type 0 where
  pub members : (x : X) → Contains before x ↔ Contains after x
  pub count : length after ≡ length before
