-- The clauses ask for an input at which the empty row doesn't help.
use Rattle.std.proofs.Common.{◌≡◌, ◌+◌, ◌*◌, ◌≤◌, Bool, List, [], ◌∷◌, length, sym, ◌∙◌, ap, subst, refl, arith}
use Rattle.std.specs.List.{All}
use Rattle.std.proofs.lemmas.List.Elements.{All-nil, All-cons}
use Rattle.std.specs.Option.{option_copied}
use Rattle.eco_meaning.specs.Meaning.{Goal, IsWrong}
use Rattle.eco_compile.specs.Compiled.{HasOpenNets}
use Rattle.eco_laws.specs.Asked.{IsMissed}
use Rattle.eco_compile.specs.Goals.{goal_nodes}
use Rattle.eco_compile.proofs.Asked.{closed_targets}
use Rattle.eco_pose.specs.Boards.{row_nodes}
use Rattle.eco_pose.specs.Answers.{AsksFor}
use Rattle.eco_pose.proofs.MissLaws.{asks_same, wrong_from_missed, missed_from_wrong}
use Rattle.eco_pose.proofs.SideLaws.{open_rows}
use Rattle.eco_pose.proofs.SizeLaws.{differing_few}
use Rattle.eco_pose.proofs.posing.pose_differing.Goals as goal

pub pose_missed-requires-clause-rows : goal.pose_missed-requires-clause-rows
pose_missed-requires-clause-rows c =
    let left = c.args.left.now in
    let same : c.as_slice.result.now ≡ [] ∷ [] = c.as_slice.ensures.value ∙ c.in_ok-rows.ensures.items ∙ ap (λ row. row ∷ []) (c.of.ensures ∙ c.new.ensures.items) in
    subst (All (λ (row : List Bool). HasOpenNets left (length left.inputs + length row))) (sym same)
    (open_rows left [] ([] ∷ []) (closed_targets left c.requires.closed) (All-cons (λ (row : List Bool). length row ≡ 0) [] [] refl (All-nil (λ (row : List Bool). length row ≡ 0))))

pub returns : goal.returns
returns c problem =
    let left = c.args.left.now in
    let posed = c.in_ok-posed.posed in
    let asked : Goal = record { spec = c.args.right.now; care = option_copied c.args.care } in
    let same : c.as_slice.result.now ≡ [] ∷ [] = c.as_slice.ensures.value ∙ c.in_ok-rows.ensures.items ∙ ap (λ row. row ∷ []) (c.of.ensures ∙ c.new.ensures.items) in
    record {
      asks =
          asks_same (IsMissed left asked [] ([] ∷ [])) (IsWrong left asked) posed.first posed.clauses.clauses (wrong_from_missed left asked) (missed_from_wrong left asked)
          (subst (λ rows. AsksFor (IsMissed left asked [] rows) posed.first posed.clauses.clauses) same (c.in_ok-posed.ensures.asks [] (closed_targets left c.requires.closed)));
      shape = c.in_ok-posed.ensures.shape;
      reads = c.in_ok-posed.ensures.reads;
      few =
          let few =
          differing_few left asked posed.clauses.vars c.nets.ensures.checked
          (subst (λ (rows : List (List Bool)). posed.clauses.vars ≤ 1 + length left.inputs + goal_nodes asked + length rows * row_nodes left) same c.in_ok-posed.ensures.few) in
          omega arith;
    }
