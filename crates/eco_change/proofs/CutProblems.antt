-- A netlist with nets cut is the implementation of a problem.
use Rattle.std.proofs.Common.{◌≡◌, ℕ, ◌≤◌, not, List, ◌++◌, Option, Some, None, map, length, refl, sym, ◌∙◌, ap, subst, arith}
use Rattle.std.specs.List.{filter}
use Rattle.std.proofs.lemmas.Bool.{false≢true}
use Rattle.std.proofs.lemmas.List.{length-append, length-map}
use Rattle.std.proofs.lemmas.List.Filters.{length-filter_both}
use Rattle.eco_meaning.specs.Names.{has}
use Rattle.eco_meaning.specs.Circuit.{Circuit, names, AreTargets}
use Rattle.eco_meaning.specs.Meaning.{Goal}
use Rattle.eco_gates.specs.declared.gate.NetId.{NetId}
use Rattle.eco_netlist.specs.Netlists.{name_at, names_at}
use Rattle.eco_netlist.proofs.MisfitLemmas.{targets_unique}
use Rattle.eco_netlist.proofs.SoundNetlists.{sound_netlist}
use Rattle.eco_query.specs.declared.problem.PairError.{PairError}
use Rattle.eco_query.specs.declared.problem.PairError.TheVariants.{PortsDiffer, CareInputs, CareOutputs, NoTarget, TooManyTargets, OutOfMemory}
use Rattle.eco_query.specs.Problem.{HasFewNets}
use Rattle.eco_query.specs.Pairing.{HasInputsOf, HasOneOutput, Refuses}
use Rattle.eco_cutting.specs.Cuts.{Cut, IsCut, AreCuts, cut_of}
use Rattle.eco_cutting.proofs.MadeLemmas.{cut_is_made}
use Rattle.eco_change.specs.Change.{IsChange}
use Rattle.eco_change.specs.CutProblem.{CanBeCut, IsCutBy}

-- what is made of f by a cut of these nets
pub made_by_cut : (f g h : Circuit) (nets : List NetId) (cuts slice : List Cut) (m : Circuit) → g ≡ f → h ≡ f → AreCuts g cuts → map (λ c. c.net) cuts ≡ names_at (names g) nets → slice ≡ cuts → m ≡ cut_of h slice → IsCutBy f (names_at (names f) nets) m
made_by_cut f g h nets cuts slice m first second can_be named same made = record {
  cuts = cuts;
  can_be = subst (λ (n : Circuit). AreCuts n cuts) first can_be;
  named = named ∙ ap (λ (n : Circuit). names_at (names n) nets) first;
  made = made ∙ ap (cut_of h) same ∙ ap (λ (n : Circuit). cut_of n cuts) second;
}

module _ (f : Circuit) (goal : Goal) (nets : List NetId) (m : Circuit) (is : IsChange f goal) (can_be : CanBeCut f nets) (some : 1 ≤ length nets) (cut : IsCutBy f (names_at (names f) nets) m) where
  pub one_cut : IsCut f (names_at (names f) nets) m
  one_cut =
      subst (λ (n : Circuit). IsCut f (names_at (names f) nets) n) (sym cut.made)
      (subst (λ (list : List (List ℕ)). IsCut f list (cut_of f cut.cuts)) cut.named (cut_is_made f cut.cuts (sound_netlist f is.checked) is.closed cut.can_be))

  -- as many targets as nets
  counted : (targets : List (List ℕ)) → AreTargets m targets → length targets ≡ length nets
  counted targets are =
      sym (ap length (targets_unique m (map (λ c. c.target) one_cut.cuts) targets one_cut.targets are))
      ∙ length-map one_cut.cuts (λ c. c.target) ∙ sym (length-map one_cut.cuts (λ c. c.net)) ∙ ap length one_cut.named
      ∙ length-map nets (λ net. name_at (names f) net.0)

  pub few_nets : HasFewNets m
  few_nets =
      subst HasFewNets (sym cut.made)
      (
      let news = map (λ c. c.target) cut.cuts in
      let ported = filter (λ c. has f.outputs c.net) cut.cuts in
      let olds = map (λ c. c.old) ported in
      let count : length cut.cuts ≡ length nets = sym (length-map cut.cuts (λ c. c.net)) ∙ ap length cut.named ∙ length-map nets (λ net. name_at (names f) net.0) in
      omega (
        arith,
        is.room,
        can_be.few,
        count,
        length-filter_both (λ (c : Cut). has f.outputs c.net) (λ c. not (has f.outputs c.net)) (λ c. refl) cut.cuts,
        length-map cut.cuts (λ c. c.target),
        length-map ported (λ c. c.old),
        length-append f.ports f.wires,
        length-append f.ports (f.wires ++ (news ++ olds)),
        length-append f.wires (news ++ olds),
        length-append news olds,
      )
      )

  not_alone : (care : Option Circuit) (name : List ℕ) → HasInputsOf f care → Refuses (cut_of f cut.cuts) goal.spec care (CareInputs name) → CareInputs name ≡ OutOfMemory
  not_alone None name inputs refused = absurd refused.1
  not_alone (Some c) name inputs refused = absurd (false≢true (sym (inputs name) ∙ refused.1.0))

  not_other : (care : Option Circuit) (count : ℕ) → HasOneOutput care → Refuses (cut_of f cut.cuts) goal.spec care (CareOutputs count) → CareOutputs count ≡ OutOfMemory
  not_other None count one refused = absurd refused.2
  not_other (Some c) count one refused = absurd (refused.3 (sym refused.2 ∙ one))

  -- nothing but want of memory can refuse it
  pub only_memory : (error : PairError) → Refuses m goal.spec goal.care error → error ≡ OutOfMemory
  only_memory (PortsDiffer name) refused =
      let here = subst (λ (n : Circuit). Refuses n goal.spec goal.care (PortsDiffer name)) cut.made refused in
      absurd (false≢true (sym (is.fits.ports name) ∙ here.0))
  only_memory (CareInputs name) refused =
      not_alone goal.care name is.fits.inputs (subst (λ (n : Circuit). Refuses n goal.spec goal.care (CareInputs name)) cut.made refused)
  only_memory (CareOutputs count) refused =
      not_other goal.care count is.fits.one_output (subst (λ (n : Circuit). Refuses n goal.spec goal.care (CareOutputs count)) cut.made refused)
  only_memory NoTarget refused =
      let (targets, are, none) = refused.1 in absurd (omega (arith, counted targets are, none, some))
  only_memory (TooManyTargets count) refused =
      let (targets, are, same) = refused.1 in absurd (omega (arith, counted targets are, same, can_be.few, refused.2))
  only_memory OutOfMemory refused = refl
