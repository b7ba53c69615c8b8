use Rattle.std.proofs.Common.{List, ℕ, sym, ap, ◌∙◌, subst}
use Rattle.eco_netlist.specs.Building.{AreLists, AreParts, HasLists, HasParts}
use Rattle.eco_netlist.specs.Draft.{Declared, made}
use Rattle.eco_netlist.specs.Drafted.{declared_of}
use Rattle.eco_netlist.specs.Refusals.{EndsIn, IsWellFormed}
use Rattle.eco_netlist.proofs.BuildLemmas.{checked_made, parts_made_of, lists_made_of}
use Rattle.eco_netlist.proofs.LoopLemmas.{no_loop}
use Rattle.eco_netlist.proofs.draft.Draft.finish.Goals as goal

-- the parts are those of the declarations
parts : (c : goal.After-parts-2-1) → AreParts c.args.rule (declared_of c.self.inside.declarations) c.in-Ok-parts_of.parts.names.keys c.in-Ok-parts_of.parts.gates.items
parts c = c.in-Ok-parts_of.ensures.parts c.args.rule c.in-Ok.ensures.numbering

pub order_of-requires-clause-within : goal.order_of-requires-clause-within
order_of-requires-clause-within c = (parts c).within

pub order_of-requires-clause-once : goal.order_of-requires-clause-once
order_of-requires-clause-once c = (parts c).once

-- and they make the netlist
parts_of : (c : goal.In-Ok-order_of) → AreParts c.args.rule (declared_of c.self.inside.declarations) c.in-Ok-parts_of.parts.names.keys c.in-Ok-parts_of.parts.gates.items
parts_of c = c.in-Ok-parts_of.ensures.parts c.args.rule c.in-Ok.ensures.numbering

has_parts : (c : goal.In-Ok-order_of) → HasParts (made c.args.rule (declared_of c.self.inside.declarations)) c.in-Ok-parts_of.parts
has_parts c = parts_made_of c.args.rule (declared_of c.self.inside.declarations) c.in-Ok-parts_of.parts c.in-Ok-parts_of.ensures.title (parts_of c)

has_lists : (c : goal.In-Ok-order_of) → HasLists (made c.args.rule (declared_of c.self.inside.declarations)) c.in-Ok.survey.lists
has_lists c =
    lists_made_of c.args.rule c.self.inside.declarations c.in-Ok-parts_of.parts.names.keys c.in-Ok-parts_of.parts.gates.items c.in-Ok.survey.lists (parts_of c)
    (subst (λ (list : List (List ℕ)). AreLists c.args.rule c.self.inside.declarations list c.in-Ok.survey.lists) (sym c.in-Ok-parts_of.ensures.names) c.in-Ok.ensures.lists)

pub built-requires-clause-netlist : goal.built-requires-clause-netlist
built-requires-clause-netlist c = (
  made c.args.rule (declared_of c.self.inside.declarations),
  checked_made c.args.rule (declared_of c.self.inside.declarations) c.in-Ok-parts_of.parts.names.keys c.in-Ok-parts_of.parts.gates.items c.in-Ok-order_of.order.items (parts_of c) c.in-Ok-order_of.ensures.order,
  has_parts c,
  has_lists c,
)

pub returns-in-Ok-order_of-clause-ok : goal.returns-in-Ok-order_of-clause-ok
returns-in-Ok-order_of-clause-ok c = (
  c.built.ensures.made (made c.args.rule (declared_of c.self.inside.declarations)) (has_parts c.before) (has_lists c.before) ∙ ap (made c.args.rule) c.self.view_is,
  subst (λ (d : Declared). IsWellFormed c.args.rule d) c.self.view_is record {
    declared = c.in-Ok.ensures.numbering.sound;
    loop_free = no_loop c.args.rule (declared_of c.self.inside.declarations) c.in-Ok-parts_of.parts.names.keys c.in-Ok-parts_of.parts.gates.items c.in-Ok-order_of.order.items
        (parts_of c.before) c.in-Ok-order_of.ensures.order;
  },
)

pub returns-in-Err-order_of-clause-refused : goal.returns-in-Err-order_of-clause-refused
returns-in-Err-order_of-clause-refused c =
    subst (λ (d : Declared). EndsIn c.args.rule d c.in-Err-order_of.error) c.self.view_is
    (c.in-Err-order_of.ensures.refused c.args.rule (declared_of c.self.inside.declarations) (c.in-Ok-parts_of.ensures.parts c.args.rule c.in-Ok.ensures.numbering))
