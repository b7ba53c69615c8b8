use Rattle.std.proofs.Common.{◌≡◌, ℕ, ◌-◌, List, ◌++◌, length, take, drop, Option, ◌∙◌, ap, append_assoc, take-append-drop}
use Rattle.std.specs.Io.KnownBytes.{Appends}
use Rattle.std.proofs.KnownBytes.{Appends-trans}
use Rattle.std.proofs.lemmas.List.{take_rest}
use Rattle.eco_outside.proofs.file_store.write_whole.Goals as goal

-- a write behind those that are done: what is written and what is left are still all the bytes
written_more : (a b c : Option (List ℕ)) (written rest bytes : List ℕ) (count : ℕ) → Appends a b written → written ++ rest ≡ bytes → Appends b c (take count rest)
    → (more : List ℕ) × Appends a c more × (more ++ take (length rest - count) (drop count rest) ≡ bytes)
written_more a b c written rest bytes count before whole now = (
  written ++ take count rest,
  Appends-trans a b c written (take count rest) before now,
  ap (λ (l : List ℕ). (written ++ take count rest) ++ l) (take_rest rest count) ∙ append_assoc written (take count rest) (drop count rest)
      ∙ ap (λ (l : List ℕ). written ++ l) (take-append-drop count rest) ∙ whole,
)

pub writes-preserved : goal.writes-preserved
writes-preserved g c =
    let before = c.writes.invariant in
    written_more _ _ _ before.0 c.writes.rest.now c.args.bytes.now _ before.1 before.2 c.in-Ok.ensures.bytes
