-- A net depends on the undriven nets behind which it lies, and on nothing else.
use Rattle.std.proofs.Common.{◌≡◌, inl, inr, ℕ, List, Some, map, refl, sym, ◌∙◌, ap}
use Rattle.eco_lists.proofs.Places.{map_agree, Contains_at}
use Rattle.eco_meaning.specs.declared.name.Operand.{Operand}
use Rattle.eco_meaning.specs.declared.name.Operand.TheVariants.{Zero, One, Named}
use Rattle.eco_meaning.specs.Gates.{apply}
use Rattle.eco_meaning.specs.Circuit.{NamedGate, Values, value_of, Reads, Fan, IsTarget}
use Rattle.eco_meaning.specs.Circuit.Fan.{itself, next}
use Rattle.eco_laws.specs.Sources.{IsSource, DependsOnSources, DependsOnTargets}
use Rattle.eco_laws.proofs.Members.{cases_member}
use Rattle.eco_laws.proofs.AlongReads.{along_reads}

same_bit : (v u : Values) (term : Operand) → ((name : List ℕ) → term ≡ Named name → v name ≡ u name) → value_of v term ≡ value_of u term
same_bit v u Zero agree = refl
same_bit v u One agree = refl
same_bit v u (Named name) agree = agree name refl

-- a gate reads the same bits where the nets that it reads have the same values
pub same_terms : (v u : Values) (g : NamedGate) → ((name : List ℕ) → Reads g name → v name ≡ u name) → map (value_of v) g.terms ≡ map (value_of u) g.terms
same_terms v u g agree =
    map_agree (value_of v) (value_of u) g.terms
    (λ k term at. same_bit v u term (λ name is. agree name (Contains_at g.terms k (Named name) (at ∙ ap Some is))))

pub by_sources : DependsOnSources
by_sources n v u sound v_is u_is name net =
    along_reads n sound (λ name. ((source : List ℕ) → IsSource n source → Fan n source name → v source ≡ u source) → v name ≡ u name)
    (λ name net none agree. agree name (record { net = net; free = none }) itself)
    (λ g member before agree.
    v_is g member
    ∙ ap (apply g.kind) (same_terms v u g (λ name reads. before name reads (λ source is fan. agree source is (next g member name reads fan))))
    ∙ sym (u_is g member))
    name net

pub by_targets : DependsOnTargets
by_targets n v u targets sound v_is u_is inputs agree name net behind =
    by_sources n v u sound v_is u_is name net (λ source is fan. elim (cases_member n.inputs source) [
      | inl input ↦ inputs source input
      | inr none ↦
          let target : IsTarget n source = record {
            net = is.net;
            free = λ signal. elim signal [ inl input ↦ none input | inr driven ↦ is.free driven ];
          } in
          agree source (behind source target fan)
    ])
