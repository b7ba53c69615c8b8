-- The files that a command names, by its options, and when two of them are one.
use Rattle.std.specs.Prelude.{◌≡◌, ◌≢◌, ℕ, Bool, false, List, [], ◌∷◌, ◌++◌, map, codes, Option, Some, None, option_copied, option_to_list, unwrap_or, AllPairs, Contains}
use Rattle.std.specs.Borrow.{Bor}
use Rattle.std.specs.List.{flat_map}
use Rattle.std.specs.Str.{bytes_eq}
use Rattle.eco_outside.specs.Store.{Files}
use Rattle.eco_words.specs.CommandLine.{ChangeOptions, ProblemOptions}
use Rattle.eco_inputs.specs.declared.paths.FileOption.{FileOption}
use Rattle.eco_inputs.specs.declared.paths.FileOption.TheVariants.{Implementation, Specification, Weight, Care, Patch, Out, Report, Cut}
use Rattle.eco_inputs.specs.Rows.{Row, test_row}

-- ---- of any command

-- a command's files, in the order of its options: each option, and its path where one is given
abbrev pub FilesBy : Type 0 → Type 0
FilesBy Name = List (Name × Option (List ℕ))

module _ {Name : Type 0} where
  -- the paths that are given
  abbrev pub paths_of : FilesBy Name → List (List ℕ)
  paths_of files = flat_map (λ file. option_to_list file.1) files

  -- no two of them are the same
  abbrev pub ArePathsApart : FilesBy Name → Type 0
  ArePathsApart files = AllPairs (λ one other. one ≢ other) (paths_of files)

  -- this option is the first whose path is also that of one before it
  pub record IsFirstRepeat (files : FilesBy Name) (option : Name) : Type 0 where
    pub before : FilesBy Name
    pub path : List ℕ
    pub behind : FilesBy Name
    pub cut : files ≡ before ++ (option, Some path) ∷ behind
    pub apart : ArePathsApart before
    pub repeats : Contains (paths_of before) path

  -- two options name one file; or all paths are apart
  abbrev pub paths_row : FilesBy Name → Row (Option Files) Name (Unit {0})
  paths_row files = test_row (IsFirstRepeat files) (ArePathsApart files) tt

-- ---- of a problem

-- the option's name
abbrev pub option_name : FileOption → List ℕ
option_name Implementation = codes "impl"
option_name Specification = codes "spec"
option_name Weight = codes "weight"
option_name Care = codes "care"
option_name Patch = codes "patch"
option_name Out = codes "out"
option_name Report = codes "report"
option_name Cut = codes "cut"

-- the path that a problem gives for it; nothing where it gives none
abbrev pub problem_path_of : ProblemOptions → FileOption → List ℕ
problem_path_of options Implementation = options.implementation
problem_path_of options Specification = options.specification
problem_path_of options Weight = options.weight
problem_path_of options Care = unwrap_or options.care []
problem_path_of options Patch = []
problem_path_of options Out = []
problem_path_of options Report = []
problem_path_of options Cut = []

-- its files
abbrev pub problem_files_of : ProblemOptions → FilesBy FileOption
problem_files_of options =
    (Implementation, Some options.implementation) ∷ (Specification, Some options.specification) ∷ (Weight, Some options.weight)
    ∷ (Care, options.care) ∷ []

-- ---- of a change

-- the path that a change gives for an option; nothing where it gives none
abbrev pub change_path_of : ChangeOptions → FileOption → List ℕ
change_path_of options Implementation = options.implementation
change_path_of options Specification = options.specification
change_path_of options Care = unwrap_or options.care []
change_path_of options file = []

-- its files
abbrev pub change_files_of : ChangeOptions → FilesBy FileOption
change_files_of options =
    (Implementation, Some options.implementation) ∷ (Specification, Some options.specification) ∷ (Care, options.care) ∷ []

-- ---- as the code looks for them

-- the files whose paths are lent
abbrev pub lent : {Name : Type 0} → List (Name × Option (Bor (List ℕ))) → FilesBy Name
lent files = map (λ file. (file.0, option_copied file.1)) files

-- whether both paths are given, and are one
abbrev pub are_one : Option (List ℕ) → Option (List ℕ) → Bool
are_one None other = false
are_one (Some one) None = false
are_one (Some one) (Some other) = bytes_eq one other
