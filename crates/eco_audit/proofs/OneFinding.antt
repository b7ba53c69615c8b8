-- One finding is the first, and none where all is right.
use Rattle.std.proofs.Common.{◌≡◌, ◌⊎◌, inl, inr, ℕ, zero, suc, ◌<◌, ◌≤◌, List, [], ◌∷◌, ◌++◌, sym, ◌∙◌, ap, refl, subst, arith}
use Rattle.std.proofs.lemmas.List.Elements.{All-contains, Contains-append_right}
use Rattle.std.specs.Cmp.Lexicographic.{slice_cmp}
use Rattle.std.specs.List.{All, Contains}
use Rattle.std.specs.Ordering.{nat_cmp}
use Rattle.std.proofs.lemmas.Bool.{cases_lt}
use Rattle.eco_lists.proofs.Members.{Contains_first}
use Rattle.eco_lists.proofs.Names.{equal_from}
use Rattle.eco_meaning.specs.Circuit.{Circuit}
use Rattle.eco_meaning.specs.Report.{BaseSignal, TargetGroup, PatchReport}
use Rattle.eco_netlist.specs.Misfits.{IsSmallest, IsTakenWire}
use Rattle.eco_query.specs.Problem.{ProblemValue}
use Rattle.eco_report.specs.declared.file.ReportFile.TheVariants.{Patched, Unrectifiable, Budget}
use Rattle.eco_audit.specs.declared.finding.Finding.{Finding}
use Rattle.eco_audit.specs.declared.finding.Finding.TheVariants as finding
use Rattle.eco_audit.specs.Findings.{HasFinding, IsFirstOfFindings, row_of}
use Rattle.eco_audit.specs.FileLaws.{OneFindingIsFirst, SoundHasNoFinding, determined_finding}
use Rattle.eco_audit.specs.Reported.{Saying, IsFirstWrong, IsFirstWrongOf, IsReadInTime, IsReportedCandidate, IsReportedNeeded, IsReportedWeight}
use Rattle.eco_audit.proofs.Deciding.{findings_exclude}

-- ---- one of a kind

-- two places in a list are one, or one is behind the other
places : {X : Type 0} (a : List X) (x : X) (b c : List X) (y : X) (d : List X) → a ++ x ∷ b ≡ c ++ y ∷ d → ((a ≡ c) × (x ≡ y)) ⊎ (((k : List X) × (c ≡ a ++ x ∷ k)) ⊎ ((k : List X) × (a ≡ c ++ y ∷ k)))
places [] x b [] y d e = let same : x ≡ y = cc in inl (refl, same)
places [] x b (z ∷ c) y d e = let same : z ≡ x = cc in inr (inl (c, ap (λ v. v ∷ c) same))
places (z ∷ a) x b [] y d e = let same : z ≡ y = cc in inr (inr (a, ap (λ v. v ∷ a) same))
places (z ∷ a) x b (w ∷ c) y d e =
    let first : z ≡ w = cc in
    let rest : a ++ x ∷ b ≡ c ++ y ∷ d = cc in
    elim (places a x b c y d rest) [
      | inl same ↦ inl (ap (λ v. v ∷ a) first ∙ ap (λ l. w ∷ l) same.0, same.1)
      | inr (inl p) ↦ inr (inl (p.0, ap (λ v. v ∷ c) (sym first) ∙ ap (λ l. z ∷ l) p.1))
      | inr (inr p) ↦ inr (inr (p.0, ap (λ v. v ∷ a) first ∙ ap (λ l. w ∷ l) p.1))
    ]

-- what stands among signals of which all holds
here_of : (Holds : BaseSignal → Type 0) (front : List BaseSignal) (reported : BaseSignal) (back all : List BaseSignal) → all ≡ front ++ reported ∷ back → All Holds all → Holds reported
here_of Holds front reported back all split holds =
    All-contains Holds all reported holds
    (subst (λ (l : List BaseSignal). Contains l reported) (sym split) (Contains-append_right front (reported ∷ back) reported (Contains_first reported back)))

-- the first signal that is wrong
wrong_of_once : (Holds : BaseSignal → Type 0) (base : List BaseSignal) (n m : List ℕ) → IsFirstWrongOf Holds base n → IsFirstWrongOf Holds base m → n ≡ m
wrong_of_once Holds base n m f g =
    elim (places f.front f.reported f.back g.front g.reported g.back (sym f.split ∙ g.split)) [
      | inl same ↦ sym f.named ∙ ap (λ (b : BaseSignal). b.signal) same.1 ∙ g.named
      | inr (inl p) ↦ absurd (f.wrong (here_of Holds f.front f.reported p.0 g.front p.1 g.first))
      | inr (inr p) ↦ absurd (g.wrong (here_of Holds g.front g.reported p.0 f.front p.1 f.first))
    ]

-- what a group tells before the first wrong signal is right
not_wrong : (Holds : BaseSignal → Type 0) (base : List BaseSignal) (n : List ℕ) → All Holds base → IsFirstWrongOf Holds base n → ⊥
not_wrong Holds base n all f = f.wrong (here_of Holds f.front f.reported f.back base f.split all)

wrong_once : (Says : Saying) (groups : List TargetGroup) (n m : List ℕ) → IsFirstWrong Says groups n → IsFirstWrong Says groups m → n ≡ m
wrong_once Says groups n m f g =
    elim (places f.before f.group f.behind g.before g.group g.behind (sym f.split ∙ g.split)) [
      | inl same ↦
          let there = subst (λ (x : TargetGroup). IsFirstWrongOf (Says g.before x) x.base m) (sym same.1) g.wrong in
          let here = subst (λ (l : List TargetGroup). IsFirstWrongOf (Says l f.group) f.group.base m) (sym same.0) there in
          wrong_of_once (Says f.before f.group) f.group.base n m f.wrong here
      | inr (inl p) ↦ absurd (not_wrong (Says f.before f.group) f.group.base n (g.first f.before f.group p.0 p.1) f.wrong)
      | inr (inr p) ↦ absurd (not_wrong (Says g.before g.group) g.group.base m (f.first g.before g.group p.0 p.1) g.wrong)
    ]

-- one name is the smallest
smallest_once : (Has : List ℕ → Type 0) (n m : List ℕ) → IsSmallest Has n → IsSmallest Has m → n ≡ m
smallest_once Has n m f g = equal_from n m (slice_cmp nat_cmp n m) refl (g.smallest n f.holds) (f.smallest m g.holds)

-- ---- the first finding

not_less : (m n : ℕ) → (n < m → ⊥) → m ≤ n
not_less m n never = elim (cases_lt n m) [ inl less ↦ absurd (never less) | inr behind ↦ behind ]

-- of two first findings neither comes before the other
same_row : (problem : ProblemValue) (p out : Circuit) (r : PatchReport) (a b : Finding) → IsFirstOfFindings problem p out r a → IsFirstOfFindings problem p out r b → row_of a ≡ row_of b
same_row problem p out r a b f g =
    let up : row_of a ≤ row_of b = not_less (row_of a) (row_of b) (λ less. f.first b less g.stands) in
    let down : row_of b ≤ row_of a = not_less (row_of b) (row_of a) (λ less. g.first a less f.stands) in
    omega (arith, up, down)

-- the finding of a row, with this name where it has one
finding_at : ℕ → List ℕ → Finding
finding_at zero n = finding.NotPatched
finding_at (suc zero) n = finding.Targets
finding_at (suc (suc zero)) n = finding.Ports
finding_at (suc (suc (suc zero))) n = finding.Candidate n
finding_at (suc (suc (suc (suc zero)))) n = finding.Weight n
finding_at (suc (suc (suc (suc (suc zero))))) n = finding.Cost
finding_at (suc (suc (suc (suc (suc (suc zero)))))) n = finding.Gates
finding_at (suc (suc (suc (suc (suc (suc (suc zero))))))) n = finding.Inner n
finding_at (suc (suc (suc (suc (suc (suc (suc (suc zero)))))))) n = finding.Reach n
finding_at (suc (suc (suc (suc (suc (suc (suc (suc (suc zero))))))))) n = finding.Splice
finding_at (suc (suc (suc (suc (suc (suc (suc (suc (suc (suc zero)))))))))) n = finding.Need n
finding_at (suc (suc (suc (suc (suc (suc (suc (suc (suc (suc (suc zero))))))))))) n = finding.Bound
finding_at (suc (suc (suc (suc (suc (suc (suc (suc (suc (suc (suc (suc later)))))))))))) n = finding.Differs []

-- the name that a finding shows
name_in : Finding → List ℕ
name_in finding.NotPatched = []
name_in finding.Targets = []
name_in finding.Ports = []
name_in (finding.Candidate n) = n
name_in (finding.Weight n) = n
name_in finding.Cost = []
name_in finding.Gates = []
name_in (finding.Inner n) = n
name_in (finding.Reach n) = n
name_in finding.Splice = []
name_in (finding.Need n) = n
name_in finding.Bound = []
name_in (finding.Differs input) = []

found_back : (a : Finding) → finding_at (row_of a) (name_in a) ≡ determined_finding a
unfolding finding_at name_in
found_back finding.NotPatched = refl
found_back finding.Targets = refl
found_back finding.Ports = refl
found_back (finding.Candidate n) = refl
found_back (finding.Weight n) = refl
found_back finding.Cost = refl
found_back finding.Gates = refl
found_back (finding.Inner n) = refl
found_back (finding.Reach n) = refl
found_back finding.Splice = refl
found_back (finding.Need n) = refl
found_back finding.Bound = refl
found_back (finding.Differs input) = refl

module _ (problem : ProblemValue) (p out : Circuit) (r : PatchReport) where
  -- which name a finding of a row shows
  abbrev Names : ℕ → List ℕ → Type 0
  Names zero n = n ≡ []
  Names (suc zero) n = n ≡ []
  Names (suc (suc zero)) n = n ≡ []
  Names (suc (suc (suc zero))) n = IsFirstWrong (IsReportedCandidate problem) r.groups n
  Names (suc (suc (suc (suc zero)))) n = IsFirstWrong (IsReportedWeight problem) r.groups n
  Names (suc (suc (suc (suc (suc zero))))) n = n ≡ []
  Names (suc (suc (suc (suc (suc (suc zero)))))) n = n ≡ []
  Names (suc (suc (suc (suc (suc (suc (suc zero))))))) n = IsSmallest (IsTakenWire problem.implementation p) n
  Names (suc (suc (suc (suc (suc (suc (suc (suc zero)))))))) n = IsFirstWrong (IsReadInTime problem.implementation p) r.groups n
  Names (suc (suc (suc (suc (suc (suc (suc (suc (suc zero))))))))) n = n ≡ []
  Names (suc (suc (suc (suc (suc (suc (suc (suc (suc (suc zero)))))))))) n = IsFirstWrong (IsReportedNeeded problem p) r.groups n
  Names (suc (suc (suc (suc (suc (suc (suc (suc (suc (suc (suc zero))))))))))) n = n ≡ []
  Names (suc (suc (suc (suc (suc (suc (suc (suc (suc (suc (suc (suc later)))))))))))) n = n ≡ []

  named : (a : Finding) → HasFinding problem p out r a → Names (row_of a) (name_in a)
  unfolding name_in
  named finding.NotPatched f = refl
  named finding.Targets f = refl
  named finding.Ports f = refl
  named (finding.Candidate n) f = f
  named (finding.Weight n) f = f
  named finding.Cost f = refl
  named finding.Gates f = refl
  named (finding.Inner n) f = f
  named (finding.Reach n) f = f
  named finding.Splice f = refl
  named (finding.Need n) f = f
  named finding.Bound f = refl
  named (finding.Differs input) f = refl

  one_name : (row : ℕ) (n m : List ℕ) → Names row n → Names row m → n ≡ m
  one_name zero n m f g = f ∙ sym g
  one_name (suc zero) n m f g = f ∙ sym g
  one_name (suc (suc zero)) n m f g = f ∙ sym g
  one_name (suc (suc (suc zero))) n m f g = wrong_once (IsReportedCandidate problem) r.groups n m f g
  one_name (suc (suc (suc (suc zero)))) n m f g = wrong_once (IsReportedWeight problem) r.groups n m f g
  one_name (suc (suc (suc (suc (suc zero))))) n m f g = f ∙ sym g
  one_name (suc (suc (suc (suc (suc (suc zero)))))) n m f g = f ∙ sym g
  one_name (suc (suc (suc (suc (suc (suc (suc zero))))))) n m f g = smallest_once (IsTakenWire problem.implementation p) n m f g
  one_name (suc (suc (suc (suc (suc (suc (suc (suc zero)))))))) n m f g = wrong_once (IsReadInTime problem.implementation p) r.groups n m f g
  one_name (suc (suc (suc (suc (suc (suc (suc (suc (suc zero))))))))) n m f g = f ∙ sym g
  one_name (suc (suc (suc (suc (suc (suc (suc (suc (suc (suc zero)))))))))) n m f g = wrong_once (IsReportedNeeded problem p) r.groups n m f g
  one_name (suc (suc (suc (suc (suc (suc (suc (suc (suc (suc (suc zero))))))))))) n m f g = f ∙ sym g
  one_name (suc (suc (suc (suc (suc (suc (suc (suc (suc (suc (suc (suc later)))))))))))) n m f g = f ∙ sym g

  one_fault : (a b : Finding) → IsFirstOfFindings problem p out r a → IsFirstOfFindings problem p out r b → determined_finding a ≡ determined_finding b
  one_fault a b f g =
      let row = same_row problem p out r a b f g in
      let name = one_name (row_of a) (name_in a) (name_in b) (named a f.stands) (subst (λ k. Names k (name_in b)) (sym row) (named b g.stands)) in
      sym (found_back a) ∙ ap (finding_at (row_of a)) name ∙ ap (λ k. finding_at k (name_in b)) row ∙ found_back b

pub one_finding : OneFindingIsFirst
one_finding problem p out (Patched r) a b f g = one_fault problem p out r a b f g
one_finding problem p out (Unrectifiable input) a b f g = ap determined_finding (f ∙ sym g)
one_finding problem p out (Budget word limit) a b f g = ap determined_finding (f ∙ sym g)

-- ---- none where all is right

pub no_finding : SoundHasNoFinding
no_finding problem p out (Patched r) a checked sound f = findings_exclude problem p out r a checked f.stands sound
no_finding problem p out (Unrectifiable input) a checked sound f = sound
no_finding problem p out (Budget word limit) a checked sound f = sound
