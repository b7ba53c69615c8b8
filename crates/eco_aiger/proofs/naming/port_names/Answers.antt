use Rattle.std.proofs.Common.{◌≡◌, ◌++◌, [], ◌∷◌, length, map, sym, ap, ◌∙◌, arith}
use Rattle.std.specs.List.{range_with_len}
use Rattle.std.proofs.lemmas.List.FromFn.{map-range_with_len_more}
use Rattle.eco_aiger.specs.Meaning.{port_name, named_or, text_of}
use Rattle.eco_aiger.specs.Grammar.{port_word}
use Rattle.eco_aiger.specs.Parts.{file_of, symbol_of}
use Rattle.eco_aiger.proofs.NameLaws.{found_is_name}
use Rattle.eco_aiger.proofs.naming.port_names.Goals as goal

pub port_name-requires : goal.port_name-requires
port_name-requires c =
    let symbols = c.args.tree.now.symbols.items in
    found_is_name _ (map symbol_of symbols) c.loop-port.port c.text_of-text.result c.requires.proper.symbols_are
    (c.text_of-text.ensures ∙ ap (λ l. text_of (map symbol_of l) c.loop-port.port) c.as_slice-symbols.ensures.value)

pub loop-port-preserved : goal.loop-port-preserved
loop-port-preserved c =
    let f = file_of c.args.tree.now in
    let port = c.loop-port.port in
    let text = c.text_of-text.ensures ∙ ap (λ l. text_of (map symbol_of l) port) c.as_slice-symbols.ensures.value in
    let inputs = c.args.tree.now.inputs in
    let count : c.len-inputs.result ≡ length inputs.items = omega (arith, c.len-inputs.ensures, inputs.ok.0) in
    let name : c.in_ok-name.name ≡ port_name f port =
    c.in_ok-name.ensures ∙ ap (λ t. named_or t (port_word c.len-inputs.result port)) text ∙ ap (λ n. named_or (text_of f.symbols port) (port_word n port)) count in
    let more = map-range_with_len_more (port_name f) 0 port port (omega arith) in
    c.in_ok-push.ensures.items
    ∙ ap (λ names. names ++ c.in_ok-name.name ∷ []) c.loop-port.invariant
    ∙ ap (λ n. map (port_name f) (range_with_len 0 port) ++ n ∷ []) name
    ∙ sym more
