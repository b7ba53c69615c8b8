-- What one step of the walk over the gates leaves.
use Rattle.std.specs.Prelude.{◌≡◌, ◌≢◌, ◌⊎◌, ℕ, ◌<◌, List, [], ◌∷◌, ◌++◌, Option, MatchOption, Some, length, replicate, slice_get, slice_set}
use Rattle.eco_gates.specs.declared.gate.Term.{Term}
use Rattle.eco_gates.specs.declared.walk.Mark.{Mark}
use Rattle.eco_gates.specs.declared.walk.Mark.TheVariants.{New, Open, Done}
use Rattle.eco_gates.specs.declared.walk.Frame.{Frame}
use Rattle.eco_gates.specs.declared.walk.Walk.{Walk}
use Rattle.eco_gates.specs.declared.walk.Wait.{Wait}
use Rattle.eco_gates.specs.declared.walk.Step.{Step}
use Rattle.eco_gates.specs.declared.walk.Step.TheVariants.{Moved, Finished, Met}
use Rattle.eco_gates.specs.GateValue.{GateValue}
use Rattle.eco_gates.specs.Walk.{IsWalk, IsLater, IsMet, AreReady, steps_left, unfinished_of}

-- the walk stands as it should
abbrev pub IsWalkState : List GateValue → List (Option ℕ) → Walk → Type 0
IsWalkState gates drivers walk = IsWalk gates drivers walk.marks.items walk.order.items walk.stack.items

-- a step was done, or nothing is left on the stack, or a gate was met that is on the stack
abbrev pub HasStepped : List GateValue → Walk → Walk → Step → Type 0
HasStepped gates old new Moved = steps_left new.marks.items new.stack.items < steps_left old.marks.items old.stack.items
HasStepped gates old new Finished = new.stack.items ≡ []
HasStepped gates old new (Met first) = IsMet gates new.stack.items first

-- the walk has come further
pub record Advances (gates : List GateValue) (drivers : List (Option ℕ)) (old new : Walk) (step : Step) : Type 0 where
  pub stands : IsWalkState gates drivers new
  pub later : IsLater old.marks.items new.marks.items
  pub stepped : HasStepped gates old new step

-- no input of the gate waits for a gate, from the place on that the walk has come to
abbrev pub WaitsForNone : List GateValue → List (Option ℕ) → List Mark → Frame → Type 0
WaitsForNone gates drivers marks frame =
    (g : GateValue) → slice_get gates frame.gate ≡ Some g → AreReady drivers marks g.ins frame.ready (length g.ins)

-- the first input that waits for a gate
pub record WaitsAt (gates : List GateValue) (drivers : List (Option ℕ)) (marks : List Mark) (frame : Frame) (wait : Wait) : Type 0 where
  pub gate : GateValue
  pub gate_at : slice_get gates frame.gate ≡ Some gate
  pub before : AreReady drivers marks gate.ins frame.ready wait.at
  pub term : Term
  pub term_at : slice_get gate.ins wait.at ≡ Some term
  pub waits : unfinished_of drivers marks term ≡ Some wait.driver

-- the walk is done with the gate
abbrev pub HasLeft : Walk → Walk → ℕ → Step → Type 0
HasLeft old new gate Moved = (new.marks.items ≡ slice_set old.marks.items gate Done)
    × (new.order.items ≡ old.order.items ++ gate ∷ [])
    × (new.stack.items ≡ old.stack.items)
HasLeft old new gate Finished = ⊥
HasLeft old new gate (Met first) = ⊥

-- the gate is back on the stack, and the gate that it waits for lies on it: it was new, or it was there already
abbrev pub HasEntered : Walk → Walk → ℕ → Wait → Step → Type 0
HasEntered old new gate wait Moved = (slice_get old.marks.items wait.driver ≡ Some New)
    × (new.marks.items ≡ slice_set old.marks.items wait.driver Open)
    × (new.order.items ≡ old.order.items)
    × (new.stack.items ≡ old.stack.items ++ record { gate = gate; ready = wait.at } ∷ [] ++ record { gate = wait.driver; ready = 0 } ∷ [])
HasEntered old new gate wait Finished = ⊥
HasEntered old new gate wait (Met first) = (first ≡ wait.driver)
    × (slice_get old.marks.items wait.driver ≢ Some New)
    × (new.marks.items ≡ old.marks.items)
    × (new.order.items ≡ old.order.items)
    × (new.stack.items ≡ old.stack.items ++ record { gate = gate; ready = wait.at } ∷ [])

-- the walk before its first step
pub record IsFresh (gates : ℕ) (walk : Walk) : Type 0 where
  pub marks : walk.marks.items ≡ replicate gates New
  pub order : walk.order.items ≡ []
  pub stack : walk.stack.items ≡ []

-- the gate is on the stack, or it was not new
abbrev pub HasOpened : Walk → Walk → ℕ → Type 0
HasOpened old new root =
    ((slice_get old.marks.items root ≡ Some New)
    × (new.marks.items ≡ slice_set old.marks.items root Open)
    × (new.order.items ≡ old.order.items)
    × (new.stack.items ≡ old.stack.items ++ record { gate = root; ready = 0 } ∷ []))
    ⊎ ((slice_get old.marks.items root ≢ Some New)
    × (new.marks.items ≡ old.marks.items)
    × (new.order.items ≡ old.order.items)
    × (new.stack.items ≡ old.stack.items))

-- the walk from a gate has come to its end, or a gate was met that is on the stack
pub record HasWalked (gates : List GateValue) (drivers : List (Option ℕ)) (root_number : ℕ) (old new : Walk) (met : Option ℕ) : Type 0 where
  pub stands : IsWalkState gates drivers new
  pub later : IsLater old.marks.items new.marks.items
  pub root : slice_get new.marks.items root_number ≢ Some New
  pub outcome : MatchOption met (new.stack.items ≡ []) (IsMet gates new.stack.items)
