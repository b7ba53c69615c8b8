-- What is said of the earlier targets depends on a patch only by the maps that it leaves.
use Rattle.std.proofs.Common.{ℕ, Bool, true, false, List, sym, ◌∙◌}
use Rattle.std.specs.List.{Contains}
use Rattle.std.proofs.lemmas.List.Elements.{All-weaker, All-contains}
use Rattle.eco_meaning.specs.Circuit.{Circuit}
use Rattle.eco_meaning.specs.Meaning.{Goal}
use Rattle.eco_meaning.specs.Cost.{Weights}
use Rattle.eco_meaning.specs.Choice.{IsForced, AgreeAt, IsConflict, Suffices, IsLeft, IsOther, IsGreedyBase}
use Rattle.eco_laws.specs.Parts.{PartsOfParts, LeavesTheSame, PartsLeaveTheSame, CarriesOver, ChoicesCarryOver}

pub parts_leave_the_same : PartsLeaveTheSame
parts_leave_the_same f p q earlier takes_p takes_q part x v = (
  λ reached.
      let w = reached.follows in
      let o = takes_q v in
      record {
        consistent = reached.consistent;
        input = reached.input;
        follows = (o.0, o.1, o.2, λ name c. w.3 name c ∙ part.alike w.0 o.0 w.1 o.1 (λ n input. sym (w.2 n input) ∙ o.2 n (part.reads n input)) name c);
      },
  λ reached.
      let o = reached.follows in
      let w = takes_p v in
      record {
        consistent = reached.consistent;
        input = reached.input;
        follows = (w.0, w.1, w.2, λ name c. o.3 name c ∙ sym (part.alike w.0 o.0 w.1 o.1 (λ n input. sym (w.2 n input) ∙ o.2 n (part.reads n input)) name c));
      },
)

pub parts_of_parts : PartsOfParts
parts_of_parts p q r earlier more takes among first second = record {
  reads = λ name c. second.reads name (first.reads name c);
  alike = λ w o w_is o_is same name c.
      let u = takes o in
      first.alike w u.0 w_is u.1 (λ n input. same n input ∙ u.2 n (first.reads n input)) name c
      ∙ second.alike u.0 o u.1 o_is (λ n input. sym (u.2 n input)) name (All-contains (Contains more) earlier name among c);
}

module _ (f p q : Circuit) (earlier : List (List ℕ)) (same : LeavesTheSame f p q earlier) where
  pub forced_too : (goal : Goal) (target : List ℕ) (x : List Bool) (bit : Bool) → IsForced f goal p earlier target x bit → IsForced f goal q earlier target x bit
  forced_too goal target x bit forced = record { len = forced.len; never = λ v reached other right. forced.never v ((same x v).1 reached) other right }

  pub forced_back : (goal : Goal) (target : List ℕ) (x : List Bool) (bit : Bool) → IsForced f goal q earlier target x bit → IsForced f goal p earlier target x bit
  forced_back goal target x bit forced = record { len = forced.len; never = λ v reached other right. forced.never v ((same x v).0 reached) other right }

  pub alike_too : (Signals : List ℕ → Type 0) (x y : List Bool) → AgreeAt f p earlier Signals x y → AgreeAt f q earlier Signals x y
  alike_too Signals x y alike v u at_x at_y = alike v u ((same x v).1 at_x) ((same y u).1 at_y)

  pub alike_back : (Signals : List ℕ → Type 0) (x y : List Bool) → AgreeAt f q earlier Signals x y → AgreeAt f p earlier Signals x y
  alike_back Signals x y alike v u at_x at_y = alike v u ((same x v).0 at_x) ((same y u).0 at_y)

  pub conflict_too : (goal : Goal) (target : List ℕ) (Signals : List ℕ → Type 0) (x y : List Bool) → IsConflict f goal p earlier target Signals x y → IsConflict f goal q earlier target Signals x y
  conflict_too goal target Signals x y conflict = record {
    one = forced_too goal target x true conflict.one;
    zero = forced_too goal target y false conflict.zero;
    alike = alike_too Signals x y conflict.alike;
  }

  pub conflict_back : (goal : Goal) (target : List ℕ) (Signals : List ℕ → Type 0) (x y : List Bool) → IsConflict f goal q earlier target Signals x y → IsConflict f goal p earlier target Signals x y
  conflict_back goal target Signals x y conflict = record {
    one = forced_back goal target x true conflict.one;
    zero = forced_back goal target y false conflict.zero;
    alike = alike_back Signals x y conflict.alike;
  }

  pub suffices_too : (goal : Goal) (target : List ℕ) (Signals : List ℕ → Type 0) → Suffices f goal p earlier target Signals → Suffices f goal q earlier target Signals
  suffices_too goal target Signals enough x y conflict = enough x y (conflict_back goal target Signals x y conflict)

  pub suffices_back : (goal : Goal) (target : List ℕ) (Signals : List ℕ → Type 0) → Suffices f goal q earlier target Signals → Suffices f goal p earlier target Signals
  suffices_back goal target Signals enough x y conflict = enough x y (conflict_too goal target Signals x y conflict)

  greedy_too : (goal : Goal) (w : Weights) (input_weight : ℕ) (target : List ℕ) (paid kept : List (List ℕ)) → IsGreedyBase f goal w input_weight p earlier target paid kept → IsGreedyBase f goal w input_weight q earlier target paid kept
  greedy_too goal w input_weight target paid kept is = record {
    turns = is.turns;
    are_turns = is.are_turns;
    chosen = record {
      members = is.chosen.members;
      ordered = is.chosen.ordered;
      needed =
          All-weaker (λ name. Suffices f goal p earlier target (IsLeft paid is.turns kept name) → ⊥) (λ name. Suffices f goal q earlier target (IsLeft paid is.turns kept name) → ⊥)
          (λ name needed enough. needed (suffices_back goal target (IsLeft paid is.turns kept name) enough)) kept is.chosen.needed;
      dropped = λ name turn none. suffices_too goal target (IsLeft paid is.turns kept name) (is.chosen.dropped name turn none);
    };
  }

  pub stands_with : CarriesOver f p q earlier
  stands_with = record {
    forced = forced_too;
    lost = λ goal x lost. record { len = lost.len; never = λ v reached right. lost.never v ((same x v).1 reached) right };
    kept = λ goal kept x lost. kept x record { len = lost.len; never = λ v reached right. lost.never v ((same x v).0 reached) right };
    agree = λ signals. alike_too (Contains signals);
    suffices = λ goal target signals. suffices_too goal target (Contains signals);
    needed = λ goal target base name x y. conflict_too goal target (IsOther base name) x y;
    greedy = greedy_too;
    values = λ signals x bits are. record {
      some = (are.some.0, (same x are.some.0).0 are.some.1);
      only = λ v reached. are.only v ((same x v).1 reached);
    };
  }

pub choices_stand : ChoicesCarryOver
choices_stand f p q earlier same = (stands_with f p q earlier same, stands_with f q p earlier (λ x v. ((same x v).1, (same x v).0)))
