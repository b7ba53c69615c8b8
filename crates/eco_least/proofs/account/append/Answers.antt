-- All values go behind the others.
use Rattle.std.proofs.Common.{◌≡◌, ◌++◌, sym, ◌∙◌, subst}
use mathlib.Core.List.{map-id}
use Rattle.std.proofs.lemmas.Iterator.Adapters.{fact_from_extend, YieldsList-from_vec}
use Rattle.eco_least.proofs.account.append.Goals as goal

pub returns : goal.returns
returns c =
    fact_from_extend (λ x. x) c.extend.result c.extend.ensures.ran (λ it b. YieldsList-from_vec {s = it} _ b.0 (b.1 ∙ c.args.more.ok.0))
    (λ xs e h. subst (λ l. c.extend.new.self.items ≡ c.args.sights.now.items ++ l) (sym (map-id xs) ∙ e) h.0)
