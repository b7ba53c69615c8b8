-- Marks of what a net reaches.
use Rattle.std.proofs.Common.{◌≡◌, ◌↔◌, ℕ, zero, suc, ◌<◌, List, [], ◌∷◌, Bool, true, false, Some, length, get_or, refl, sym, ◌∙◌, ap, subst, arith}
use Rattle.std.specs.List.{Any, slice_get}
use Rattle.std.specs.Prelude.{IsTrue}
use Rattle.std.proofs.lemmas.Option.{slice_get-get_or, get_or_from_slice_get}
use Rattle.eco_meaning.specs.Circuit.{Circuit, names, Fan}
use Rattle.eco_gates.specs.declared.gate.NetId.{NetId}
use Rattle.eco_netlist.specs.Netlists.{name_at, names_at}
use Rattle.eco_audit.specs.Checks.{AreReachedMarks}

-- what one source reaches
of_one : (p : Circuit) (name source other : List ℕ) → source ≡ name → Any (λ s. Fan p s other) (source ∷ []) → Fan p name other
of_one p name source other named (zero, x, less, is, fan) = subst (λ n. Fan p n other) (sym is ∙ named) fan
of_one p name source other named (suc k, x, less, is, fan) = absurd (omega (arith, less))

to_one : (p : Circuit) (name source other : List ℕ) → source ≡ name → Fan p name other → Any (λ s. Fan p s other) (source ∷ [])
to_one p name source other named fan = (0, source, omega arith, refl, subst (λ n. Fan p n other) (sym named) fan)

-- the marks of one net
pub one_source : (p : Circuit) (name : List ℕ) (net : NetId) (marks : List Bool) → name_at (names p) net.0 ≡ name → length marks ≡ length (names p) →
    ((k : ℕ) (other : List ℕ) → slice_get (names p) k ≡ Some other → (slice_get marks k ≡ Some true) ↔ Any (λ source. Fan p source other) (names_at (names p) (net ∷ []))) → AreReachedMarks p name marks
one_source p name net marks named len marked = record {
  len = len;
  marked = λ k other at.
      let (to, from) = marked k other at in (
        λ is_marked. of_one p name (name_at (names p) net.0) other named (to is_marked),
        λ fan. from (to_one p name (name_at (names p) net.0) other named fan),
      );
}

-- a mark as a bit
pub marked_bit : (marks : List Bool) (k : ℕ) → k < length marks → IsTrue (get_or marks k false) ↔ (slice_get marks k ≡ Some true)
marked_bit marks k less = (
  λ is. slice_get-get_or marks k false less ∙ ap Some is,
  λ at. get_or_from_slice_get marks k true false at,
)
