-- What `eco_gates` says of the bits by their numbers holds by the names, at each place of the words.
use Rattle.std.proofs.Common.{ℕ, ◌<◌, List, length, sym, ◌∙◌, ap, subst}
use Rattle.std.proofs.lemmas.List.{length-map}
use Rattle.eco_gates.specs.GateValue.{GateValue}
use Rattle.eco_gates.specs.Words.{is_set, lane}
use Rattle.eco_netlist.proofs.ValueLemmas.{IsNamed, IsFilled, named_parts, filled_by_name}
use Rattle.eco_netlist.proofs.netlist.Netlist.fill_words.Goals as goal

pub returns : goal.returns
returns c =
    let named : IsNamed c.args.self.now c.self.inside.names.keys c.self.inside.gates.items =
    named_parts c.self.inside c.args.self.now c.self.view_is c.self.invariant in
    let here : IsNamed c.args.self.now c.self.inside.names.keys c.as_slice.result.now =
    subst (λ (gates : List GateValue). IsNamed c.args.self.now c.self.inside.names.keys gates) (sym c.as_slice.ensures.value) named in
    let old = c.args.words.now in
    let new = c.fill_words.new.words in
    let filled : (place : ℕ) → place < 64 → IsFilled c.args.self.now (lane old place) (lane new place) = λ place lt.
    let count = length-map old (λ word. is_set word place) in
    let more = length-map new (λ word. is_set word place) in
    filled_by_name c.args.self.now c.self.inside.names.keys c.as_slice.result.now (lane old place) (lane new place)
    here (count ∙ c.requires ∙ ap length named.numbers) (more ∙ c.fill_words.ensures.length ∙ sym count)
    (c.fill_words.ensures.consistent place lt) (c.fill_words.ensures.kept place lt)
    (λ bits same. c.fill_words.ensures.only place lt bits (same ∙ count)) in
    record {
      length = c.fill_words.ensures.length;
      valued = λ place lt. (filled place lt).valued;
      consistent = λ place v lt. (filled place lt).consistent v;
      kept = λ place v lt. (filled place lt).kept v;
      only = λ place v lt. (filled place lt).only v;
    }
