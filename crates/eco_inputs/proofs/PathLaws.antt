-- Files that two options name: one option at most is the first, and none where all paths are apart.
use Rattle.std.proofs.Common.{◌≡◌, ◌≢◌, ◌⊎◌, inl, inr, ℕ, ◌<◌, ◌+◌, true, false, ◌||◌, List, [], ◌∷◌, ◌++◌, length, take, drop, get_or, Option, None, Some, Bor, refl, sym, ◌∙◌, ap, subst, arith, length-append, append-nil}
use Rattle.std.specs.List.{AllPairs, Contains, list_any}
use Rattle.std.specs.Option.{option_copied, option_to_list}
use Rattle.std.specs.Str.{bytes_eq}
use Rattle.std.proofs.lemmas.Bool.{false≢true}
use Rattle.std.proofs.lemmas.List.{append_assoc, drop_more, get_or_append_left, get_or_at, map-append, map_more, take-append-drop}
use Rattle.std.proofs.lemmas.List.Concat.{flat_map-append}
use Rattle.std.proofs.lemmas.List.Elements.{Contains-get_or}
use Rattle.std.proofs.lemmas.List.Quantifiers.{all_pairs_push}
use Rattle.eco_meaning.specs.Names.{has}
use Rattle.eco_netlist.proofs.NameSets.{Contains-from_has, has-from_Contains}
use Rattle.eco_outside.specs.Store.{Files}
use Rattle.eco_inputs.specs.Paths.{ArePathsApart, FilesBy, IsFirstRepeat, are_one, lent, paths_of, paths_row}
use Rattle.eco_inputs.specs.Rows.{IsRow}
use Rattle.eco_inputs.proofs.RowLaws.{test_law}

-- where a list is cut at two members, they are one, or the one cut lies before the other
cuts : {X : Type 0} (a b : List X) (x y : X) (c d : List X) → a ++ x ∷ c ≡ b ++ y ∷ d → (x ≡ y) ⊎ (((m : List X) × (b ≡ a ++ x ∷ m)) ⊎ ((m : List X) × (a ≡ b ++ y ∷ m)))
cuts [] [] x y c d e = inl cc
cuts [] (z ∷ b) x y c d e = inr (inl (b, cc))
cuts (z ∷ a) [] x y c d e = inr (inr (a, cc))
cuts (z ∷ a) (w ∷ b) x y c d e =
    let rest : a ++ x ∷ c ≡ b ++ y ∷ d = cc in
    elim (cuts a b x y c d rest) [
      | inl same ↦ inl same
      | inr later ↦ elim later [ inl (m, is) ↦ inr (inl (m, cc)) | inr (m, is) ↦ inr (inr (m, cc)) ]
    ]

-- files as the code has them
abbrev Lent : Type 0 → Type 0
Lent Name = List (Name × Option (Bor (List ℕ)))

module _ {Name : Type 0} where
  -- ---- one outcome

  -- the paths of files and of those behind them
  paths-append : (files behind : FilesBy Name) → paths_of (files ++ behind) ≡ paths_of files ++ paths_of behind
  paths-append files behind = flat_map-append (λ (file : Name × Option (List ℕ)). option_to_list file.1) files behind

  -- a path that comes again isn't apart
  not_apart : (before behind : FilesBy Name) (option : Name) (path : List ℕ) → Contains (paths_of before) path → ArePathsApart (before ++ (option, Some path) ∷ behind) → ⊥
  not_apart before behind option path (k, within, at) apart =
      let pairs : AllPairs (λ one other. one ≢ other) (paths_of before ++ path ∷ paths_of behind) = subst (AllPairs (λ one other. one ≢ other)) (paths-append before ((option, Some path) ∷ behind)) apart in
      pairs k (length (paths_of before)) path within (omega (arith, length-append (paths_of before) (path ∷ paths_of behind)))
      (get_or_append_left (paths_of before) (path ∷ paths_of behind) path k within ∙ at ∙ sym (get_or_at (paths_of before) path (paths_of behind) path (length (paths_of before)) refl))

  -- the last two of paths that are apart are two
  pub last_apart : (before : FilesBy Name) (one other : Name) (path last : List ℕ) → ArePathsApart (before ++ (one, Some path) ∷ (other, Some last) ∷ []) → path ≢ last
  last_apart before one other path last apart same =
      let front : List (List ℕ) = paths_of before in
      let there : Contains (front ++ path ∷ []) last =
      (length front, omega (arith, length-append front (path ∷ [])), get_or_at front path [] last (length front) refl ∙ same) in
      not_apart (before ++ (one, Some path) ∷ []) [] other last (subst (λ paths. Contains paths last) (sym (paths-append before ((one, Some path) ∷ []))) there)
      (subst ArePathsApart (sym (append_assoc before ((one, Some path) ∷ []) ((other, Some last) ∷ []))) apart)

  -- one option at most is the first whose path comes again
  one_repeat : (files : FilesBy Name) (a b : Name) → IsFirstRepeat files a → IsFirstRepeat files b → a ≡ b
  one_repeat files a b x y =
      elim (cuts x.before y.before (a, Some x.path) (b, Some y.path) x.behind y.behind (sym x.cut ∙ y.cut)) [
        | inl same ↦ ap (λ file. file.0) same
        | inr later ↦ elim later [
          | inl (m, is) ↦ absurd (not_apart x.before m a x.path x.repeats (subst ArePathsApart is y.apart))
          | inr (m, is) ↦ absurd (not_apart y.before m b y.path y.repeats (subst ArePathsApart is x.apart))
        ]
      ]

  -- and none where the paths are apart
  no_repeat : (files : FilesBy Name) (a : Name) → IsFirstRepeat files a → ArePathsApart files → ⊥
  no_repeat files a x apart = not_apart x.before x.behind a x.path x.repeats (subst ArePathsApart x.cut apart)

  pub repeat_law : (files : FilesBy Name) (told : Files) → IsRow (λ own. own) (paths_row files) (Some told)
  repeat_law files told = test_law (λ own. own) (IsFirstRepeat files) (ArePathsApart files) tt (Some told) (one_repeat files) (no_repeat files)

  -- ---- the search for it

  -- a path of files, by the test of each
  has_paths : (files : Lent Name) (path : List ℕ) → list_any (λ file. are_one (Some path) (option_copied file.1)) files ≡ has (paths_of (lent files)) path
  has_paths [] path = refl
  has_paths ((option, None) ∷ files) path = has_paths files path
  has_paths ((option, Some own) ∷ files) path = ap (λ later. bytes_eq path own.now || later) (has_paths files path)

  -- a path that isn't given never comes again
  never_again : (files : Lent Name) → list_any (λ other. are_one None (option_copied other.1)) files ≡ false
  never_again [] = refl
  never_again (file ∷ files) = never_again files

  -- a path that comes again is given, and is among those of the files
  again : (files : Lent Name) (path : Option (Bor (List ℕ))) → list_any (λ other. are_one (option_copied path) (option_copied other.1)) files ≡ true → (own : List ℕ) × (option_copied path ≡ Some own) × Contains (paths_of (lent files)) own
  again files None e = absurd (false≢true (sym (never_again files) ∙ e))
  again files (Some own) e = (own.now, refl, Contains-from_has (paths_of (lent files)) own.now (sym (has_paths files own.now) ∙ e))

  -- one that doesn't is none of these
  not_again : (files : Lent Name) (path : Option (Bor (List ℕ))) → list_any (λ other. are_one (option_copied path) (option_copied other.1)) files ≡ false → (own : List ℕ) → option_copied path ≡ Some own → Contains (paths_of (lent files)) own → ⊥
  not_again files None e own is among = absurd cc
  not_again files (Some given) e own is among =
      let same : own ≡ given.now = cc in
      false≢true (sym e ∙ has_paths files given.now ∙ has-from_Contains (paths_of (lent files)) given.now (subst (Contains (paths_of (lent files))) same among))

  -- the file at this place is the first whose path comes again
  pub first_at : (files : Lent Name) (index : ℕ) (file : Name × Option (Bor (List ℕ))) → index < length files → file ≡ get_or files index file → ArePathsApart (lent (take index files)) → list_any (λ other. are_one (option_copied file.1) (option_copied other.1)) (take index files) ≡ true → IsFirstRepeat (lent files) file.0
  first_at files index file within at apart comes =
      let (own, is, among) = again (take index files) file.1 comes in
      record {
        before = lent (take index files);
        path = own;
        behind = lent (drop (index + 1) files);
        cut =
            ap lent (sym (take-append-drop index files) ∙ ap (λ rest. take index files ++ rest) (drop_more files index file within ∙ ap (λ here. here ∷ drop (index + 1) files) (sym at)))
            ∙ map-append _ (take index files) (file ∷ drop (index + 1) files)
            ∙ ap (λ path. lent (take index files) ++ (file.0, path) ∷ lent (drop (index + 1) files)) is;
        apart = apart;
        repeats = among;
      }

  -- paths that are apart stay so with one more that isn't among them
  one_more : (files : FilesBy Name) (option : Name) (path : Option (List ℕ)) → ArePathsApart files → ((own : List ℕ) → path ≡ Some own → Contains (paths_of files) own → ⊥) → ArePathsApart (files ++ (option, path) ∷ [])
  one_more files option None apart new =
      subst (AllPairs (λ one other. one ≢ other)) (sym (paths-append files ((option, None) ∷ []) ∙ append-nil (paths_of files))) apart
  one_more files option (Some own) apart new =
      subst (AllPairs (λ one other. one ≢ other)) (sym (paths-append files ((option, Some own) ∷ [])))
      (all_pairs_push (λ one other. one ≢ other) (paths_of files) own apart
      (λ k d within same. new own refl (subst (Contains (paths_of files)) same (Contains-get_or (paths_of files) k d within))))

  -- the paths up to this place are apart, where that of the file there doesn't come again
  pub apart_more : (files : Lent Name) (index : ℕ) (file : Name × Option (Bor (List ℕ))) → index < length files → file ≡ get_or files index file → ArePathsApart (lent (take index files)) → list_any (λ other. are_one (option_copied file.1) (option_copied other.1)) (take index files) ≡ false → ArePathsApart (lent (take (index + 1) files))
  apart_more files index file within at apart new =
      subst ArePathsApart (sym (map_more _ files index file within ∙ ap (λ here. lent (take index files) ++ (here.0, option_copied here.1) ∷ []) (sym at)))
      (one_more (lent (take index files)) file.0 (option_copied file.1) apart (not_again (take index files) file.1 new))
