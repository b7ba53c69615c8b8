-- The bytes of a text in ASCII AIGER have one outcome: a netlist, or an error but for what is left open.
use Rattle.std.proofs.Common.{◌≡◌, ℕ, List, ap, refl, subst}
use Rattle.eco_meaning.specs.Circuit.{Circuit, IsTarget}
use Rattle.eco_netlist.proofs.ClosedLemmas.{closed_made}
use Rattle.eco_netlist.proofs.Refused.{never_refused}
use Rattle.eco_netlist.specs.declared.draft.TargetRule.TheVariants.{Never}
use Rattle.eco_aiger.proofs.OnceLaws.{one_file, one_netlist}
use Rattle.eco_aiger.specs.declared.error.AigerError.TheVariants as aiger
use Rattle.eco_aiger.specs.Syntax.{File}
use Rattle.eco_aiger.specs.Grammar.{IsText}
use Rattle.eco_aiger.specs.Meaning.{declared_of}
use Rattle.eco_aiger.specs.Texts.{IsAigerText, RefusesFile}
use Rattle.eco_aiger.proofs.Exclusive.{none_least, least_once}
use Rattle.eco_query.specs.Problem.{IsClosed}
use Rattle.eco_inputs.specs.declared.kinds.AigerTextError.{AigerTextError}
use Rattle.eco_inputs.specs.declared.kinds.AigerTextError.TheVariants.{Line, DefinedTwice, Undefined}
use Rattle.eco_inputs.specs.declared.kinds.NetlistError.{NetlistError}
use Rattle.eco_inputs.specs.declared.kinds.NetlistError.TheVariants.{Syntax, Refused, Aiger}
use Rattle.eco_inputs.specs.Kinds.{HasAigerTextError, aiger_kind, determined_aiger, determined_netlist}
use Rattle.eco_inputs.specs.Reading.{IsKind}
use Rattle.eco_inputs.proofs.OneRefusal.{one_refusal}

faults_once : (bytes : List ℕ) (a b : AigerTextError) → HasAigerTextError bytes (Aiger a) → HasAigerTextError bytes (Aiger b) → determined_aiger a ≡ determined_aiger b
faults_once bytes (Line n) (Line m) x y = refl
faults_once bytes (Line n) (DefinedTwice w) x y = absurd (x y.0 y.1)
faults_once bytes (Line n) (Undefined w) x y = absurd (x y.0 y.1)
faults_once bytes (DefinedTwice v) (Line m) x y = absurd (y x.0 x.1)
faults_once bytes (Undefined v) (Line m) x y = absurd (y x.0 x.1)
faults_once bytes (DefinedTwice v) (DefinedTwice w) x y =
    let other = subst (λ f. RefusesFile f (aiger.DefinedTwice w)) (one_file bytes y.0 x.0 y.1 x.1) y.2 in
    ap DefinedTwice (least_once _ v w x.2 other)
faults_once bytes (DefinedTwice v) (Undefined w) x y =
    let other = subst (λ f. RefusesFile f (aiger.Undefined w)) (one_file bytes y.0 x.0 y.1 x.1) y.2 in
    absurd (none_least _ v other.0 x.2)
faults_once bytes (Undefined v) (DefinedTwice w) x y =
    let other = subst (λ f. RefusesFile f (aiger.DefinedTwice w)) (one_file bytes y.0 x.0 y.1 x.1) y.2 in
    absurd (none_least _ w x.2.0 other)
faults_once bytes (Undefined v) (Undefined w) x y =
    let other = subst (λ f. RefusesFile f (aiger.Undefined w)) (one_file bytes y.0 x.0 y.1 x.1) y.2 in
    ap Undefined (least_once _ v w x.2.1 other.1)

-- what is declared is refused only where no other error stands
no_other : (bytes : List ℕ) (f : File) → IsText bytes f → (error : AigerTextError) → HasAigerTextError bytes (Aiger error) → (twice : (v : ℕ) → RefusesFile f (aiger.DefinedTwice v) → ⊥) → (missing : (v : ℕ) → RefusesFile f (aiger.Undefined v) → ⊥) → ⊥
no_other bytes f text (Line n) y twice missing = y f text
no_other bytes f text (DefinedTwice v) y twice missing =
    twice v (subst (λ g. RefusesFile g (aiger.DefinedTwice v)) (one_file bytes y.0 f y.1 text) y.2)
no_other bytes f text (Undefined v) y twice missing =
    missing v (subst (λ g. RefusesFile g (aiger.Undefined v)) (one_file bytes y.0 f y.1 text) y.2)

aiger_once : (bytes : List ℕ) (a b : NetlistError) → HasAigerTextError bytes a → HasAigerTextError bytes b → determined_netlist a ≡ determined_netlist b
aiger_once bytes (Syntax at) b x y = absurd x
aiger_once bytes (Refused why) (Syntax at) x y = absurd y
aiger_once bytes (Aiger error) (Syntax at) x y = absurd y
aiger_once bytes (Aiger error) (Aiger other) x y = ap Aiger (faults_once bytes error other x y)
aiger_once bytes (Refused why) (Refused other) x y =
    let second = subst (λ f. RefusesFile f (aiger.Refused other)) (one_file bytes y.0 x.0 y.1 x.1) y.2 in
    ap Refused (one_refusal Never (declared_of x.0) why other x.2.2 second.2)
aiger_once bytes (Refused why) (Aiger error) x y =
    absurd (no_other bytes x.0 x.1 error y (λ v h. none_least _ v x.2.0 h) (λ v h. none_least _ v x.2.1 h.1))
aiger_once bytes (Aiger error) (Refused why) x y =
    absurd (no_other bytes y.0 y.1 error x (λ v h. none_least _ v y.2.0 h) (λ v h. none_least _ v y.2.1 h.1))

aiger_apart : (bytes : List ℕ) (a : NetlistError) (n : Circuit) → HasAigerTextError bytes a → IsAigerText bytes n → ⊥
aiger_apart bytes (Syntax at) n x y = x
aiger_apart bytes (Aiger error) n x y =
    no_other bytes y.file y.text error x (λ v h. none_least _ v y.netlist.once h) (λ v h. none_least _ v y.netlist.all h.1)
aiger_apart bytes (Refused why) n x y =
    let second = subst (λ f. RefusesFile f (aiger.Refused why)) (one_file bytes x.0 y.file x.1 y.text) x.2 in
    never_refused Never (declared_of y.file) y.netlist.faultless why second.2

pub aigers : IsKind determined_netlist aiger_kind
aigers = record { once = aiger_once; apart = aiger_apart; same = one_netlist }

-- a netlist in AIGER has no targets
pub closed_aiger : (bytes : List ℕ) (n : Circuit) → IsAigerText bytes n → IsClosed n
closed_aiger bytes n t name target =
    closed_made (declared_of t.file) t.netlist.faultless name (subst (λ m. IsTarget m name) t.netlist.value target)
