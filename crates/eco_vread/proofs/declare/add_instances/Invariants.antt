-- with the gates of the instances that are left it has those of all
use Rattle.std.proofs.Common.{◌≡◌, true, flat_map}
use Rattle.std.specs.List.{list_all}
use Rattle.std.specs.Vec.Iter.{into_iter_items}
use Rattle.eco_vread.specs.Grammar.{is_proper_instance}
use Rattle.eco_vread.specs.Meaning.{instance_gates}
use Rattle.eco_vread.specs.Trees.{instance_of}
use Rattle.eco_vread.specs.Declaring.{with_gates}
use Rattle.eco_vread.proofs.declare.add_instances.Given as goal

abbrev pub invariant-loop-instance : goal.invariant-loop-instance
invariant-loop-instance l = record {
  declared : with_gates l.draft (flat_map (λ i. instance_gates l.kind (instance_of i)) (into_iter_items l.instance-iterator))
      ≡ with_gates l.initial.draft (flat_map (λ i. instance_gates l.kind (instance_of i)) l.fn.instances.items);
  proper : list_all (λ i. is_proper_instance l.kind (instance_of i)) (into_iter_items l.instance-iterator) ≡ true;
}
