use Rattle.std.proofs.Common.{length, sym, ◌∙◌, ap, subst, arith}
use Rattle.std.specs.List.{All}
use Rattle.eco_trace.specs.Clauses.{Clauses, IsVarWithin}
use Rattle.eco_tseitin.specs.Encoded.{Asserts}
use Rattle.eco_tseitin.proofs.EncodeLaws.{literals_within, encoded_all}
use Rattle.eco_tseitin.proofs.SideLaws.{is_read}
use Rattle.eco_tseitin.proofs.encode.encode_side.Goals as goal

pub assert_all-requires : goal.assert_all-requires
assert_all-requires c =
    let third = c.in_ok-asserted_lits.ensures.encoded in
    let nodes = c.encode_all-3.new.encoder.nodes in
    subst (All (IsVarWithin (length nodes))) (sym (c.as_slice.ensures.value ∙ third.literals)) (literals_within nodes c.args.asserted.now third.has)

pub returns-clause-encoded : goal.returns-clause-encoded
returns-clause-encoded c =
    let graph = c.args.aig.now in
    let three = c.encode_all-3.new.encoder in
    let last = c.assert_all.new.encoder in
    let held : Asserts c.in_ok-asserted_lits.asserted_lits.items three last = subst (λ lits. Asserts lits three last) c.as_slice.ensures.value c.in_ok-assert_all.ensures.asserted in
    encoded_all graph c.args.inputs.now c.args.base.now c.args.asserted.now c.new-encoder.result c.encode_all.new.encoder c.encode_all-2.new.encoder three last c.in_ok-asserted_lits.asserted_lits.items _ (c.new-encoder.ensures.encoding graph c.nodes.ensures.graph) c.in_ok-input_lits.ensures.encoded c.in_ok-base_lits.ensures.encoded c.in_ok-asserted_lits.ensures.encoded held c.finish-cnf.ensures.clauses

pub returns-clause-ready : goal.returns-clause-ready
returns-clause-ready c =
    let told = is_read c.args.aig.now c.args.inputs.now c.args.base.now c.args.asserted.now _ (returns-clause-encoded c) in
    record {
      formed = search;
      few_vars = omega (arith, ap (λ (cnf : Clauses). cnf.vars) c.finish-cnf.ensures.clauses, c.finish-cnf.ensures.few);
      few_base = omega (arith, told.count);
      inputs_within = told.inputs_within;
      base_within = told.base_within;
    }

pub returns-clause-few : goal.returns-clause-few
returns-clause-few c = (is_read c.args.aig.now c.args.inputs.now c.args.base.now c.args.asserted.now _ (returns-clause-encoded c)).few
