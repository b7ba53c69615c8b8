-- Each command by itself: when words without an error are it, and that they are no other one.
use Rattle.std.proofs.Common.{◌≡◌, ◌∙◌, ℕ, Bool, true, false, true≢false, refl, sym, ap, subst, inl, inr, codes, List, [], Option, Some, None}
use Rattle.std.specs.Prelude.{IsSome}
use Rattle.std.specs.Option.{option_map_or}
use Rattle.std.specs.Str.{bytes_eq}
use Rattle.clap.specs.Words.{Text, subcommand_of}
use Rattle.eco_lists.proofs.Names.{bytes_eq-same, same_name}
use Rattle.eco_words.specs.EcoCommand.{eco_app}
use Rattle.eco_words.specs.CommandLine.{AuditOptions, ChangeOptions, Command, GenOptions, GivesChange, GivesFlag, GivesInputWeight, GivesProblem, IsAudit, IsCommand, IsGen, IsGiven, IsLocate, IsProve, IsRecheck, IsSynth, LocateOptions, ProblemOptions, ProveOptions, RecheckOptions, SynthOptions, errors_in, numbers_of, subcommand_in, value_in, values_in}
use Rattle.eco_words.specs.CommandLine.{audit, gen, locate, prove, recheck, synth}
use Rattle.eco_words.specs.Steps.{AllHaveValues, IsEntered, IsTaken, required_of}
use Rattle.eco_words.specs.declared.answer.Invocation.{Invocation}
use Rattle.eco_words.specs.declared.answer.Invocation.TheVariants as invocation
use Rattle.eco_words.proofs.Levels.{enters_known}
use Rattle.eco_words.proofs.NumberOptions.{AreRight, has_room, least_questions, one_budget, one_least, one_seed, one_size, one_targets, one_weight, questions_least}

value_of : (o : Option Text) → IsSome o → (v : Text) × (o ≡ Some v)
value_of None some = absurd (true≢false (sym some))
value_of (Some v) some = (v, refl)

-- a flag is given or isn't
some_flag : (o : Option Text) → (given : Bool) × GivesFlag o given
some_flag None = (false, ((λ e. absurd (true≢false (sym e))), (λ e. absurd (cc))))
some_flag (Some text) = (
  bytes_eq text (codes "true"),
  (
    (λ e. ap Some (same_name text (codes "true") e)),
    (λ e. let same : text ≡ codes "true" = cc e in ap (λ t. bytes_eq t (codes "true")) same ∙ bytes_eq-same (codes "true")),
  ),
)

one_flag : (o : Option Text) (a b : Bool) → GivesFlag o a → GivesFlag o b → a ≡ b
one_flag o true b ha hb = sym (hb.1 (ha.0 refl))
one_flag o false true ha hb = ha.1 (hb.0 refl)
one_flag o false false ha hb = refl

-- what was read is the command
pub command_given : (words : List Text) (i : Invocation) → errors_in words ≡ [] → IsTaken (subcommand_of eco_app words) i → IsCommand words i
unfolding value_in values_in subcommand_in
command_given words (invocation.Synth given) e taken =
    let has = taken.has in
    record { faultless = e; subcommand = taken.is ∙ ap Some has.0; problem = has.1.problem; given = has.1.paths; budgeted = has.1.budget; bounded = has.1.bound; least = has.1.least }
command_given words (invocation.Audit given) e taken =
    let has = taken.has in
    record { faultless = e; subcommand = taken.is ∙ ap Some has.0; problem = has.1.problem; given = has.1.paths; budgeted = has.1.budget }
command_given words (invocation.Prove given) e taken =
    let has = taken.has in
    record { faultless = e; subcommand = taken.is ∙ ap Some has.0; given = has.1.paths; budgeted = has.1.budget }
command_given words (invocation.Recheck given) e taken =
    let has = taken.has in
    record { faultless = e; subcommand = taken.is ∙ ap Some has.0; given = has.1 }
command_given words (invocation.Gen given) e taken =
    let has = taken.has in
    record { faultless = e; subcommand = taken.is ∙ ap Some has.0; given = has.1.numbers; budgeted = has.1.budget }
command_given words (invocation.Locate given) e taken =
    let has = taken.has in
    record { faultless = e; subcommand = taken.is ∙ ap Some has.0; change = has.1.change; nets = has.1.nets; cut = has.1.cut; budgeted = has.1.budget }

module _ (words : List Text) where
  -- the numbers of the subcommand that the words enter all come to one
  abbrev pub AllRight : Option Text → Type 0
  AllRight name = AreRight (value_in words) (option_map_or numbers_of name [])

  pub faultless : (command : Command) → IsGiven words command → errors_in words ≡ []
  faultless (synth options) given = given.faultless
  faultless (audit options) given = given.faultless
  faultless (prove options) given = given.faultless
  faultless (recheck options) given = given.faultless
  faultless (gen options) given = given.faultless
  faultless (locate options) given = given.faultless

  abbrev name_of : Command → Text
  name_of (synth options) = codes "synth"
  name_of (audit options) = codes "audit"
  name_of (prove options) = codes "prove"
  name_of (recheck options) = codes "recheck"
  name_of (gen options) = codes "gen"
  name_of (locate options) = codes "locate"

  entered_as : (command : Command) → IsGiven words command → subcommand_in words ≡ Some (name_of command)
  entered_as (synth options) given = given.subcommand
  entered_as (audit options) given = given.subcommand
  entered_as (prove options) given = given.subcommand
  entered_as (recheck options) given = given.subcommand
  entered_as (gen options) given = given.subcommand
  entered_as (locate options) given = given.subcommand

  pub given_right : (command : Command) → IsGiven words command → AllRight (subcommand_in words)
  given_right (synth options) given =
      let questions = least_questions (value_in words (codes "least")) options.least given.least in
      subst AllRight (sym given.subcommand) ((options.budget, given.budgeted), ((options.problem.input_weight, given.problem.input_weight), (questions, tt)))
  given_right (audit options) given = subst AllRight (sym given.subcommand) ((options.budget, given.budgeted), ((options.problem.input_weight, given.problem.input_weight), tt))
  given_right (prove options) given = subst AllRight (sym given.subcommand) ((options.budget, given.budgeted), tt)
  given_right (recheck options) given = subst AllRight (sym given.subcommand) tt
  given_right (gen options) given =
      let its = given.given in
      let room = has_room (value_in words (codes "size")) options.size options.targets its.size its.room in
      subst AllRight (sym given.subcommand) ((options.seed, its.seed), ((options.size, its.size), ((options.targets, (its.targets, room)), ((options.budget, given.budgeted), tt))))
  given_right (locate options) given = subst AllRight (sym given.subcommand) ((options.budget, given.budgeted), tt)

  -- ---- one command

  -- what is given of a problem is one
  one_problem : (p q : ProblemOptions) → GivesProblem (value_in words) p → GivesProblem (value_in words) q → p ≡ q
  one_problem p q hp hq =
      let implementation : p.implementation ≡ q.implementation = cc (hp.implementation, hq.implementation) in
      let specification : p.specification ≡ q.specification = cc (hp.specification, hq.specification) in
      let weight : p.weight ≡ q.weight = cc (hp.weight, hq.weight) in
      let care : p.care ≡ q.care = sym hp.care ∙ hq.care in
      let input_weight = one_weight (value_in words (codes "input-weight")) p.input_weight q.input_weight hp.input_weight hq.input_weight in
      λ i. record {
        implementation = implementation i;
        specification = specification i;
        weight = weight i;
        care = care i;
        input_weight = input_weight i;
      }

  one_synth : (p q : SynthOptions) → IsSynth words p → IsSynth words q → p ≡ q
  one_synth p q hp hq =
      let problem = one_problem p.problem q.problem hp.problem hq.problem in
      let patch : p.patch ≡ q.patch = cc (hp.given.patch, hq.given.patch) in
      let out : p.out ≡ q.out = cc (hp.given.out, hq.given.out) in
      let budget = one_budget (value_in words (codes "budget")) p.budget q.budget hp.budgeted hq.budgeted in
      let bound = one_flag (value_in words (codes "bound")) p.bound q.bound hp.bounded hq.bounded in
      let least = one_least (value_in words (codes "least")) p.least q.least hp.least hq.least in
      λ i. record {
        problem = problem i;
        patch = patch i;
        out = out i;
        budget = budget i;
        bound = bound i;
        least = least i;
      }

  one_audit : (p q : AuditOptions) → IsAudit words p → IsAudit words q → p ≡ q
  one_audit p q hp hq =
      let problem = one_problem p.problem q.problem hp.problem hq.problem in
      let patch : p.patch ≡ q.patch = cc (hp.given.patch, hq.given.patch) in
      let out : p.out ≡ q.out = cc (hp.given.out, hq.given.out) in
      let report : p.report ≡ q.report = cc (hp.given.report, hq.given.report) in
      let budget = one_budget (value_in words (codes "budget")) p.budget q.budget hp.budgeted hq.budgeted in
      λ i. record {
        problem = problem i;
        patch = patch i;
        out = out i;
        report = report i;
        budget = budget i;
      }

  one_prove : (p q : ProveOptions) → IsProve words p → IsProve words q → p ≡ q
  one_prove p q hp hq =
      let left : p.left ≡ q.left = cc (hp.given.left, hq.given.left) in
      let right : p.right ≡ q.right = cc (hp.given.right, hq.given.right) in
      let cnf : p.cnf ≡ q.cnf = cc (hp.given.cnf, hq.given.cnf) in
      let trace : p.trace ≡ q.trace = cc (hp.given.trace, hq.given.trace) in
      let budget = one_budget (value_in words (codes "budget")) p.budget q.budget hp.budgeted hq.budgeted in
      λ i. record { left = left i; right = right i; cnf = cnf i; trace = trace i; budget = budget i }

  one_recheck : (p q : RecheckOptions) → IsRecheck words p → IsRecheck words q → p ≡ q
  one_recheck p q hp hq =
      let cnf : p.cnf ≡ q.cnf = cc (hp.given.cnf, hq.given.cnf) in
      let trace : p.trace ≡ q.trace = cc (hp.given.trace, hq.given.trace) in
      λ i. record { cnf = cnf i; trace = trace i }

  one_gen : (p q : GenOptions) → IsGen words p → IsGen words q → p ≡ q
  one_gen p q hp hq =
      let seed = one_seed (value_in words (codes "seed")) p.seed q.seed hp.given.seed hq.given.seed in
      let size = one_size (value_in words (codes "size")) p.size q.size hp.given.size hq.given.size in
      let targets = one_targets (value_in words (codes "targets")) p.targets q.targets hp.given.targets hq.given.targets in
      let budget = one_budget (value_in words (codes "budget")) p.budget q.budget hp.budgeted hq.budgeted in
      λ i. record { seed = seed i; size = size i; targets = targets i; budget = budget i }

  one_change : (p q : ChangeOptions) → GivesChange (value_in words) p → GivesChange (value_in words) q → p ≡ q
  one_change p q hp hq =
      let implementation : p.implementation ≡ q.implementation = cc (hp.implementation, hq.implementation) in
      let specification : p.specification ≡ q.specification = cc (hp.specification, hq.specification) in
      let care : p.care ≡ q.care = sym hp.care ∙ hq.care in
      λ i. record { implementation = implementation i; specification = specification i; care = care i }

  one_locate : (p q : LocateOptions) → IsLocate words p → IsLocate words q → p ≡ q
  one_locate p q hp hq =
      let change = one_change p.change q.change hp.change hq.change in
      let cut : p.cut ≡ q.cut = cc (hp.cut, hq.cut) in
      let nets : p.nets ≡ q.nets = hp.nets ∙ sym hq.nets in
      let budget = one_budget (value_in words (codes "budget")) p.budget q.budget hp.budgeted hq.budgeted in
      λ i. record { change = change i; nets = nets i; cut = cut i; budget = budget i }

  -- words of two subcommands have two names
  other : {X : Type 0} (a b : Command) → IsGiven words a → IsGiven words b → bytes_eq (name_of a) (name_of b) ≡ false → X
  other a b ha hb unlike =
      let same : Some (name_of a) ≡ Some (name_of b) = sym (entered_as a ha) ∙ entered_as b hb in
      let name : name_of a ≡ name_of b = cc same in
      absurd (true≢false (sym (bytes_eq-same (name_of a)) ∙ (ap (bytes_eq (name_of a)) name ∙ unlike)))

  pub one_command : (a b : Command) → IsGiven words a → IsGiven words b → a ≡ b
  one_command (synth p) (synth q) ha hb = ap synth (one_synth p q ha hb)
  one_command (audit p) (audit q) ha hb = ap audit (one_audit p q ha hb)
  one_command (prove p) (prove q) ha hb = ap prove (one_prove p q ha hb)
  one_command (recheck p) (recheck q) ha hb = ap recheck (one_recheck p q ha hb)
  one_command (gen p) (gen q) ha hb = ap gen (one_gen p q ha hb)
  one_command (locate p) (locate q) ha hb = ap locate (one_locate p q ha hb)
  one_command a b ha hb = other a b ha hb refl

  -- ---- some command

  -- the subcommand of this name was entered, its options have the values that it wants, and its numbers are right
  record Stands (name : Text) : Type 0 where
    pub faultless : errors_in words ≡ []
    pub entered : subcommand_in words ≡ Some name
    pub values : AllHaveValues (value_in words) (required_of name)
    pub right : AreRight (value_in words) (numbers_of name)

  -- something is given of a problem, where it has its files, and the weight of an input is a number
  some_problem : IsSome (value_in words (codes "impl")) → IsSome (value_in words (codes "spec")) → IsSome (value_in words (codes "weight"))
      → ((number : ℕ) × GivesInputWeight (value_in words (codes "input-weight")) number)
      → (options : ProblemOptions) × GivesProblem (value_in words) options
  some_problem implementation specification weight weighed =
      let i = value_of _ implementation in
      let s = value_of _ specification in
      let w = value_of _ weight in (
        record {
          implementation = i.0;
          specification = s.0;
          weight = w.0;
          care = value_in words (codes "care");
          input_weight = weighed.0;
        },
        record {
          implementation = i.1;
          specification = s.1;
          weight = w.1;
          care = refl;
          input_weight = weighed.1;
        },
      )

  some_synth : Stands (codes "synth") → (command : Command) × IsGiven words command
  some_synth stands =
      let problem = some_problem stands.values.0 stands.values.1.0 stands.values.1.1.0 stands.right.1.0 in
      let patch = value_of _ stands.values.1.1.1.0 in
      let out = value_of _ stands.values.1.1.1.1.0 in
      let least = questions_least (value_in words (codes "least")) stands.right.1.1.0.0 stands.right.1.1.0.1 in
      let bound = some_flag (value_in words (codes "bound")) in (
        synth (record {
          problem = problem.0;
          patch = patch.0;
          out = out.0;
          budget = stands.right.0.0;
          bound = bound.0;
          least = least.0;
        }),
        record {
          faultless = stands.faultless;
          subcommand = stands.entered;
          problem = problem.1;
          given = record { patch = patch.1; out = out.1 };
          budgeted = stands.right.0.1;
          bounded = bound.1;
          least = least.1;
        },
      )

  some_audit : Stands (codes "audit") → (command : Command) × IsGiven words command
  some_audit stands =
      let problem = some_problem stands.values.0 stands.values.1.0 stands.values.1.1.0 stands.right.1.0 in
      let patch = value_of _ stands.values.1.1.1.0 in
      let out = value_of _ stands.values.1.1.1.1.0 in
      let report = value_of _ stands.values.1.1.1.1.1.0 in (
        audit (record {
          problem = problem.0;
          patch = patch.0;
          out = out.0;
          report = report.0;
          budget = stands.right.0.0;
        }),
        record {
          faultless = stands.faultless;
          subcommand = stands.entered;
          problem = problem.1;
          given = record { patch = patch.1; out = out.1; report = report.1 };
          budgeted = stands.right.0.1;
        },
      )

  some_prove : Stands (codes "prove") → (command : Command) × IsGiven words command
  some_prove stands =
      let left = value_of _ stands.values.0 in
      let right = value_of _ stands.values.1.0 in
      let cnf = value_of _ stands.values.1.1.0 in
      let trace = value_of _ stands.values.1.1.1.0 in (
        prove (record { left = left.0; right = right.0; cnf = cnf.0; trace = trace.0; budget = stands.right.0.0 }),
        record {
          faultless = stands.faultless;
          subcommand = stands.entered;
          given = record { left = left.1; right = right.1; cnf = cnf.1; trace = trace.1 };
          budgeted = stands.right.0.1;
        },
      )

  some_recheck : Stands (codes "recheck") → (command : Command) × IsGiven words command
  some_recheck stands =
      let cnf = value_of _ stands.values.0 in
      let trace = value_of _ stands.values.1.0 in (
        recheck (record { cnf = cnf.0; trace = trace.0 }),
        record { faultless = stands.faultless; subcommand = stands.entered; given = record { cnf = cnf.1; trace = trace.1 } },
      )

  some_gen : Stands (codes "gen") → (command : Command) × IsGiven words command
  some_gen stands =
      let seed = stands.right.0 in
      let size = stands.right.1.0 in
      let targets = stands.right.1.1.0 in
      let budget = stands.right.1.1.1.0 in (
        gen (record { seed = seed.0; size = size.0; targets = targets.0; budget = budget.0 }),
        record {
          faultless = stands.faultless;
          subcommand = stands.entered;
          given = record { seed = seed.1; size = size.1; targets = targets.1.0; room = targets.1.1 size.0 size.1 };
          budgeted = budget.1;
        },
      )

  some_locate : Stands (codes "locate") → (command : Command) × IsGiven words command
  some_locate stands =
      let implementation = value_of _ stands.values.0 in
      let specification = value_of _ stands.values.1.0 in
      let cut = value_of _ stands.values.1.1.0 in (
        locate (record {
          change = record {
            implementation = implementation.0;
            specification = specification.0;
            care = value_in words (codes "care");
          };
          nets = values_in words (codes "net");
          cut = cut.0;
          budget = stands.right.0.0;
        }),
        record {
          faultless = stands.faultless;
          subcommand = stands.entered;
          change = record { implementation = implementation.1; specification = specification.1; care = refl };
          nets = refl;
          cut = cut.1;
          budgeted = stands.right.0.1;
        },
      )

  some_entered : (entry : IsEntered (subcommand_of eco_app words)) → Stands entry.name → (command : Command) × IsGiven words command
  some_entered entry stands = elim entry.known [
    | inl is ↦ some_synth (subst Stands is stands)
    | inr (inl is) ↦ some_audit (subst Stands is stands)
    | inr (inr (inl is)) ↦ some_prove (subst Stands is stands)
    | inr (inr (inr (inl is))) ↦ some_recheck (subst Stands is stands)
    | inr (inr (inr (inr (inl is)))) ↦ some_gen (subst Stands is stands)
    | inr (inr (inr (inr (inr (inl is))))) ↦ some_locate (subst Stands is stands)
    | inr (inr (inr (inr (inr (inr never))))) ↦ absurd never
  ]

  pub some_command : errors_in words ≡ [] → AllRight (subcommand_in words) → (command : Command) × IsGiven words command
  unfolding value_in subcommand_in
  some_command e right =
      let entry = enters_known words e in
      some_entered entry (record { faultless = e; entered = entry.is; values = entry.values; right = subst AllRight entry.is right })
