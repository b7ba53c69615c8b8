-- Values of options and of results.
use Rattle.std.proofs.Common.{◌≡◌, Option, None, Some, IsSome, refl}
use Rattle.std.specs.Prelude.{IfOk, unwrap_or}
use Rattle.std.specs.declared.result.Result.{Result}
use Rattle.std.specs.declared.result.Result.TheVariants.{Ok, Err}
use Rattle.std.proofs.lemmas.Bool.{true≢false, false≢true}

-- a value that there is
pub some_value : {X : Type 0} (found : Option X) (otherwise : X) → IsSome found → found ≡ Some (unwrap_or found otherwise)
some_value None otherwise some = absurd (false≢true some)
some_value (Some x) otherwise some = refl

-- two facts of a result's value give a third
pub IfOk-both : {X E : Type 0} (r : Result X E) (P Q R : X → Type 0) → ((x : X) → P x → Q x → R x) → IfOk r P → IfOk r Q → IfOk r R
IfOk-both (Ok x) P Q R f p q = f x p q
IfOk-both (Err e) P Q R f p q = tt
