-- The two sides, joined.
use Rattle.std.proofs.Common.{◌≡◌, ◌∙◌, ap, length}
use Rattle.std.proofs.lemmas.List.{length-map}
use Rattle.std.proofs.lemmas.Result.{IfOk-weaker}
use Rattle.eco_tseitin.specs.Encoding.{literal_of}
use Rattle.eco_pose.specs.Posing.{posed_of}
use Rattle.eco_desk.specs.Pairs.{IsPairOf}
use Rattle.eco_desk.proofs.encoding.pose_pair.Goals as goal

pub returns : goal.returns
returns c =
    let base = c.args.base.now in
    let sides = c.in_ok-sides.sides in
    let encoded = c.in_ok-one.ensures.encoded in
    IfOk-weaker c.posed_pair.result (λ posed. posed ≡ posed_of sides) (IsPairOf c.args.graph.now c.args.inputs.now base c.args.first.now c.args.second.now)
    (λ posed is. record {
      one = c.in_ok-one.one;
      other = c.in-Ok.other;
      sides = sides;
      one_encoded = encoded;
      other_encoded = c.in-Ok.ensures.encoded;
      one_base = ap length encoded.base_are ∙ length-map base (literal_of encoded.side.nodes);
      parts = record {
        one_part = c.in_ok-sides.ensures.first;
        other_part = c.in_ok-sides.ensures.second;
        models = c.in_ok-sides.ensures.models;
        answers = c.in_ok-sides.ensures.answers;
        apart = c.in_ok-sides.ensures.apart;
        marks = c.in_ok-sides.ensures.marks;
        count = c.in_ok-sides.ensures.count;
        distinct = c.in_ok-sides.ensures.distinct;
      };
      joined = c.in_ok-sides.ensures.shape;
      is = is;
    })
    c.posed_pair.ensures
