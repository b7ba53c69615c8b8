-- Literals by numbers.
pub use Rattle.std.proofs.Common.{ap}
use Rattle.std.proofs.Common.{◌≡◌, ℕ, ◌+◌, ◌*◌, ◌/◌, ◌%◌, ◌==◌, Bool, true, false, ap, arith}
use Rattle.std.proofs.lemmas.Bool.Decides.{nat_tests}
use Rattle.eco_trace.specs.declared.clause.Lit.{Lit}
use Rattle.eco_cdcl.specs.Entries.{code_of, lit_of}

-- a number is that of its literal
pub code_lit : (n : ℕ) → code_of (lit_of n) ≡ n
code_lit n = grind (arith, nat_tests)

-- a literal is that of its number
pub lit_code : (l : Lit) → lit_of (code_of l) ≡ l
lit_code l = made l.var.0 l.positive
  where
    made : (v : ℕ) (b : Bool) → lit_of (code_of (record { var = record { 0 = v }; positive = b })) ≡ record { var = record { 0 = v }; positive = b }
    made v true =
        let half : (2 * v + 1) / 2 ≡ v = omega arith in
        let odd : ((2 * v + 1) % 2 == 1) ≡ true = grind (arith, nat_tests) in
        cc
    made v false =
        let half : (2 * v + 0) / 2 ≡ v = omega arith in
        let even : ((2 * v + 0) % 2 == 1) ≡ false = grind (arith, nat_tests) in
        cc
