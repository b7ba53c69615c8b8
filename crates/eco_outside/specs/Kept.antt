-- What the fields of a store or a sink stand for.
use Rattle.std.specs.Prelude.{ℕ, ◌+◌, ◌-◌, ◌^◌, ◌==◌, ◌&&◌, not, Bool, true, List, [], ◌∷◌, map, min, Option, option_map, String, Vec}
use Rattle.std.specs.List.{list_any}
use Rattle.std.specs.Str.{bytes_eq}
use Rattle.std.specs.String.{string_bytes}
use Rattle.std.specs.FinMap as finite
use Rattle.eco_outside.specs.declared.fault_log.FaultLog.{FaultLog}
use Rattle.eco_outside.specs.Store.{StoreView, Files}

module _ {A B : Type 0} where
  -- a file that is kept, as its name and its bytes
  abbrev pub entry : String A × Vec ℕ B → List ℕ × List ℕ
  entry file = (string_bytes file.0, file.1.items)

  -- the files that are kept; of two with one name the first counts
  abbrev pub files_of : List (String A × Vec ℕ B) → Files
  files_of kept = finite.from_entries (map entry kept)

  -- no two of the files have one name
  abbrev pub have_own_names : List (String A × Vec ℕ B) → Bool
  have_own_names [] = true
  have_own_names (file ∷ kept) = not (list_any (λ other. bytes_eq (string_bytes other.0) (string_bytes file.0)) kept) && have_own_names kept

-- what callers know of a store with these files and that log
abbrev pub store_view : Option Files → FaultLog → StoreView
store_view told log = record {
  files = told;
  read_faults = log.read_faults;
  write_faults = log.write_faults;
  blamed = option_map (λ call. (call.0, string_bytes call.1)) log.blamed;
  taken = log.taken;
}

-- which calls are to fail: the number of the next call, the numbers of those that fail,
-- and how many bytes one that fails still takes
pub record Plan : Type 0 where
  pub next : ℕ
  pub failing : List ℕ
  pub keep : ℕ

-- the next call is to fail
abbrev pub fails_next : Plan → Bool
fails_next plan = list_any (λ number. number == plan.next) plan.failing

-- the plan behind that call; the numbers stop at the end of their type
abbrev pub behind_call : Plan → Plan
behind_call plan = record plan { next = min (plan.next + 1) (2 ^ 64 - 1) }
