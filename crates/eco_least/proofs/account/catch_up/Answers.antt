-- What is seen further is seen of known inputs.
use Rattle.std.proofs.Common.{true, false, sym, subst}
use Rattle.eco_least.specs.Rows.{AreForcing}
use Rattle.eco_least.proofs.AccountLaws.{forced_lens, known_ones, known_zeros}
use Rattle.eco_least.proofs.account.catch_up.Goals as goal

pub see_behind-requires-clause-inputs : goal.see_behind-requires-clause-inputs
see_behind-requires-clause-inputs g c =
    let t = c.args.target.now in
    let weighed = c.args.weighed.now in
    forced_lens t weighed c.requires.weighed true c.as_slice.result.now
    (subst (AreForcing t true) (sym c.as_slice.ensures.value) (known_ones t weighed c.args.account.now c.requires.account))

pub see_behind-requires-2-clause-inputs : goal.see_behind-requires-2-clause-inputs
see_behind-requires-2-clause-inputs g c =
    let t = c.args.target.now in
    let weighed = c.args.weighed.now in
    forced_lens t weighed c.requires.weighed false c.as_slice-2.result.now
    (subst (AreForcing t false) (sym c.as_slice-2.ensures.value) (known_zeros t weighed c.args.account.now c.requires.account))

pub returns : goal.returns
returns g c =
    let t = c.args.target.now in
    let weighed = c.args.weighed.now in
    let account = c.args.account.now in
    record {
      known = c.requires.account.known;
      ones = c.in_ok-see_behind.ensures true (subst (AreForcing t true) (sym c.as_slice.ensures.value) (known_ones t weighed account c.requires.account)) c.requires.account.ones;
      zeros = c.in_ok-see_behind-2.ensures false (subst (AreForcing t false) (sym c.as_slice-2.ensures.value) (known_zeros t weighed account c.requires.account)) c.requires.account.zeros;
      rows = c.requires.account.rows;
    }
