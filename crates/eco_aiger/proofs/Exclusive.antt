-- A text of a netlist is refused for nothing, and any text for one cause at most.
use Rattle.std.proofs.Common.{◌≡◌, inl, inr, ℕ, Bool, List, Some, refl, ap, subst, arith}
use Rattle.std.proofs.lemmas.Bool.{both_ways}
use Rattle.eco_meaning.specs.Circuit.{Circuit}
use Rattle.eco_netlist.specs.declared.draft.TargetRule.TheVariants.{Never}
use Rattle.eco_netlist.proofs.Refused.{never_refused}
use Rattle.eco_aiger.specs.declared.error.AigerError.{AigerError}
use Rattle.eco_aiger.specs.declared.error.AigerError.TheVariants.{Line, DefinedTwice, Undefined, Refused, OutOfMemory}
use Rattle.eco_aiger.specs.Syntax.{File}
use Rattle.eco_aiger.specs.Meaning.{declared_of}
use Rattle.eco_aiger.specs.Defined.{is_twice, is_missing, defined_in, used_in, IsLeast, NeverPasses}
use Rattle.eco_aiger.specs.Texts.{IsAigerText, IsRefused, RefusesText, RefusesFile, IsFileNetlist, IsSameCause}
use Rattle.eco_aiger.proofs.OnceLaws.{one_file}

-- a test that no number passes has no least one, and one that some pass has one
pub none_least : (test : ℕ → Bool) (v : ℕ) → NeverPasses test → IsLeast test v → ⊥
none_least test v never least = both_ways (test v) (never v) least.passes

pub least_once : (test : ℕ → Bool) (u v : ℕ) → IsLeast test u → IsLeast test v → u ≡ v
least_once test u v a b =
    let le = a.none_less v b.passes in
    let ge = b.none_less u a.passes in
    omega arith

-- the file of a netlist has no error
unrefused : (f : File) (n : Circuit) → IsFileNetlist f n → (e : AigerError) → RefusesFile f e → e ≡ OutOfMemory
unrefused f n is (Line k) h = absurd h
unrefused f n is (DefinedTwice v) h = absurd (none_least (is_twice (defined_in f)) v is.once h)
unrefused f n is (Undefined v) h = absurd (none_least (is_missing (defined_in f) (used_in f)) v is.all h.1)
unrefused f n is (Refused refusal) h = absurd (never_refused Never (declared_of f) is.faultless refusal h.2)
unrefused f n is OutOfMemory h = refl

of_file : (bytes : List ℕ) (n : Circuit) (e : AigerError) → IsAigerText bytes n → RefusesText bytes e → e ≡ OutOfMemory
of_file bytes n e t fault =
    unrefused t.file n t.netlist e (subst (λ f. RefusesFile f e) (one_file bytes fault.0 t.file fault.1 t.text) fault.2)

pub netlist_unrefused : (bytes : List ℕ) (n : Circuit) (e : AigerError) → IsAigerText bytes n → IsRefused bytes e → e ≡ OutOfMemory
netlist_unrefused bytes n (Line k) t h = absurd (h t.file t.text)
netlist_unrefused bytes n (DefinedTwice v) t h = of_file bytes n (DefinedTwice v) t h
netlist_unrefused bytes n (Undefined v) t h = of_file bytes n (Undefined v) t h
netlist_unrefused bytes n (Refused refusal) t h = of_file bytes n (Refused refusal) t h
netlist_unrefused bytes n OutOfMemory t h = refl

-- a file has one error at most
fault_once : (f : File) (e d : AigerError) → RefusesFile f e → RefusesFile f d → IsSameCause e d
fault_once f OutOfMemory d h k = inl refl
fault_once f (Line n) d h k = absurd h
fault_once f (DefinedTwice v) OutOfMemory h k = inr (inl refl)
fault_once f (DefinedTwice v) (Line n) h k = absurd k
fault_once f (DefinedTwice v) (DefinedTwice u) h k = inr (inr (ap (λ (x : ℕ). Some (1, x)) (least_once (is_twice (defined_in f)) v u h k)))
fault_once f (DefinedTwice v) (Undefined u) h k = absurd (none_least (is_twice (defined_in f)) v k.0 h)
fault_once f (DefinedTwice v) (Refused refusal) h k = absurd (none_least (is_twice (defined_in f)) v k.0 h)
fault_once f (Undefined v) OutOfMemory h k = inr (inl refl)
fault_once f (Undefined v) (Line n) h k = absurd k
fault_once f (Undefined v) (DefinedTwice u) h k = absurd (none_least (is_twice (defined_in f)) u h.0 k)
fault_once f (Undefined v) (Undefined u) h k = inr (inr (ap (λ (x : ℕ). Some (2, x)) (least_once (is_missing (defined_in f) (used_in f)) v u h.1 k.1)))
fault_once f (Undefined v) (Refused refusal) h k = absurd (none_least (is_missing (defined_in f) (used_in f)) v k.1 h.1)
fault_once f (Refused refusal) OutOfMemory h k = inr (inl refl)
fault_once f (Refused refusal) (Line n) h k = absurd k
fault_once f (Refused refusal) (DefinedTwice u) h k = absurd (none_least (is_twice (defined_in f)) u h.0 k)
fault_once f (Refused refusal) (Undefined u) h k = absurd (none_least (is_missing (defined_in f) (used_in f)) u h.1 k.1)
fault_once f (Refused refusal) (Refused other) h k = inr (inr refl)

of_files : (bytes : List ℕ) (e d : AigerError) → RefusesText bytes e → RefusesText bytes d → IsSameCause e d
of_files bytes e d h k = fault_once k.0 e d (subst (λ f. RefusesFile f e) (one_file bytes h.0 k.0 h.1 k.1) h.2) k.2

-- so has a text: behind the lines at fault, of whose file nothing is said, come those of its file
line_first : (bytes : List ℕ) (n : ℕ) (d : AigerError) → IsRefused bytes (Line n) → IsRefused bytes d → IsSameCause (Line n) d
line_first bytes n (Line m) h k = inr (inr refl)
line_first bytes n (DefinedTwice v) h k = absurd (h k.0 k.1)
line_first bytes n (Undefined v) h k = absurd (h k.0 k.1)
line_first bytes n (Refused refusal) h k = absurd (h k.0 k.1)
line_first bytes n OutOfMemory h k = inr (inl refl)

fault_first : (bytes : List ℕ) (e d : AigerError) → RefusesText bytes e → IsRefused bytes d → IsSameCause e d
fault_first bytes e (Line m) h k = absurd (k h.0 h.1)
fault_first bytes e (DefinedTwice v) h k = of_files bytes e (DefinedTwice v) h k
fault_first bytes e (Undefined v) h k = of_files bytes e (Undefined v) h k
fault_first bytes e (Refused refusal) h k = of_files bytes e (Refused refusal) h k
fault_first bytes e OutOfMemory h k = inr (inl refl)

pub one_cause : (bytes : List ℕ) (e d : AigerError) → IsRefused bytes e → IsRefused bytes d → IsSameCause e d
one_cause bytes (Line n) d h k = line_first bytes n d h k
one_cause bytes (DefinedTwice v) d h k = fault_first bytes (DefinedTwice v) d h k
one_cause bytes (Undefined v) d h k = fault_first bytes (Undefined v) d h k
one_cause bytes (Refused refusal) d h k = fault_first bytes (Refused refusal) d h k
one_cause bytes OutOfMemory d h k = inl refl
