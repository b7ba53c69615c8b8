-- How the walk over the gates stands, from gates to those whose outputs they read.
use Rattle.std.specs.Prelude.{◌≡◌, ◌≢◌, ℕ, ◌+◌, ◌*◌, ◌<◌, ◌≤◌, List, [], ◌∷◌, length, take, slice_get, slice_index_or, Option, Some, None, All, AllPairs, Contains, IfSome, ◌==◌}
use Rattle.std.specs.List.{position_or_len}
use Rattle.eco_gates.specs.declared.gate.Term.{Term}
use Rattle.eco_gates.specs.declared.gate.Term.TheVariants.{Zero, One, Net}
use Rattle.eco_gates.specs.declared.walk.Mark.{Mark}
use Rattle.eco_gates.specs.declared.walk.Mark.TheVariants.{New, Open, Done}
use Rattle.eco_gates.specs.declared.walk.Frame.{Frame}
use Rattle.eco_gates.specs.GateValue.{GateValue}
use Rattle.eco_gates.specs.Gates.{ReadsOut}

-- for each net the number of the gate that drives it, if one does
pub record AreDrivers (nets : ℕ) (gates : List GateValue) (drivers : List (Option ℕ)) : Type 0 where
  pub len : length drivers ≡ nets
  pub sound : (net i : ℕ) → slice_get drivers net ≡ Some (Some i) → (g : GateValue) × (slice_get gates i ≡ Some g) × (g.out.0 ≡ net)
  pub complete : (i : ℕ) (g : GateValue) → slice_get gates i ≡ Some g → slice_get drivers g.out.0 ≡ Some (Some i)

-- the drivers are numbers of gates
abbrev pub AreDriversBelow : ℕ → List (Option ℕ) → Type 0
AreDriversBelow count drivers = All (λ driver. IfSome driver (λ i. i < count)) drivers

-- the gate, unless the walk is done with it
abbrev pub unless_done : Mark → ℕ → Option ℕ
unless_done New driver = Some driver
unless_done Open driver = Some driver
unless_done Done driver = None

abbrev pub unfinished_driver : List Mark → Option ℕ → Option ℕ
unfinished_driver marks None = None
unfinished_driver marks (Some driver) = unless_done (slice_index_or marks driver Done) driver

-- the gate that drives what the term reads, if there is one and the walk is not done with it
abbrev pub unfinished_of : List (Option ℕ) → List Mark → Term → Option ℕ
unfinished_of drivers marks Zero = None
unfinished_of drivers marks One = None
unfinished_of drivers marks (Net net) = unfinished_driver marks (slice_index_or drivers net.0 None)

-- the walk is done with the drivers of the terms at these places
abbrev pub AreReady : List (Option ℕ) → List Mark → List Term → ℕ → ℕ → Type 0
AreReady drivers marks terms from to =
    (k : ℕ) (term : Term) → from ≤ k → k < to → slice_get terms k ≡ Some term → unfinished_of drivers marks term ≡ None

-- the order has the gates that the walk is done with, each behind those whose outputs it reads; the stack has the
-- gates that it is at, each of which reads the output of the next one
pub record IsWalk (gates : List GateValue) (drivers : List (Option ℕ)) (marks : List Mark) (order : List ℕ) (stack : List Frame) : Type 0 where
  pub len : length marks ≡ length gates
  pub done_in_order : (i : ℕ) → slice_get marks i ≡ Some Done → Contains order i
  pub order_done : (k i : ℕ) → slice_get order k ≡ Some i → slice_get marks i ≡ Some Done
  pub once : AllPairs (λ i j. i ≢ j) order
  pub behind : (k i j : ℕ) → slice_get order k ≡ Some i → ReadsOut gates j i → Contains (take k order) j
  pub open_on_stack : (i : ℕ) → slice_get marks i ≡ Some Open → (k : ℕ) × (f : Frame) × (slice_get stack k ≡ Some f) × (f.gate ≡ i)
  pub stack_open : (k : ℕ) (f : Frame) → slice_get stack k ≡ Some f → slice_get marks f.gate ≡ Some Open
  pub apart : AllPairs (λ f h. f.gate ≢ h.gate) stack
  pub ready : (k : ℕ) (f : Frame) (g : GateValue) → slice_get stack k ≡ Some f → slice_get gates f.gate ≡ Some g → AreReady drivers marks g.ins 0 f.ready
  pub path : (k : ℕ) (f h : Frame) → slice_get stack k ≡ Some f → slice_get stack (k + 1) ≡ Some h → ReadsOut gates h.gate f.gate

-- no gate is new that was not new before
abbrev pub IsLater : List Mark → List Mark → Type 0
IsLater old new = (i : ℕ) → slice_get new i ≡ Some New → slice_get old i ≡ Some New

-- how many gates are new
abbrev pub new_count : List Mark → ℕ
new_count [] = 0
new_count (New ∷ marks) = new_count marks + 1
new_count (Open ∷ marks) = new_count marks
new_count (Done ∷ marks) = new_count marks

-- how many steps are left at most
abbrev pub steps_left : List Mark → List Frame → ℕ
steps_left marks stack = 2 * new_count marks + length stack

-- the gate is on the stack, and the last gate of the stack reads its output
pub record IsMet (gates : List GateValue) (stack : List Frame) (first : ℕ) : Type 0 where
  pub place : ℕ
  pub frame : Frame
  pub at : slice_get stack place ≡ Some frame
  pub gate : frame.gate ≡ first
  pub last : Frame
  pub last_at : (k : ℕ) → k + 1 ≡ length stack → slice_get stack k ≡ Some last
  pub reads : ReadsOut gates first last.gate

-- the place of a gate on the stack, or the length of the stack where it is not there
abbrev pub place_of_gate : ℕ → List Frame → ℕ
place_of_gate gate stack = position_or_len (λ frame. frame.gate == gate) stack
