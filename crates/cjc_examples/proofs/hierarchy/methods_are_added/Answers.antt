use Rattle.std.proofs.Common.{refl}
use Rattle.cjc_world.specs.Classes.{classes_from, all_classes, class_named, class_at}
use Rattle.cjc_world.specs.Supertypes.{supertypes_within, supertypes, line}
use Rattle.cjc_world.specs.Interfaces.{gathered, known}
use Rattle.cjc_world.specs.Added.{own_methods, methods_of, asked_by, has_open, lacking, added, added_at}
use Rattle.cjc_examples.proofs.hierarchy.methods_are_added.Goals as goal

pub returns-clause-interface : goal.returns-clause-interface
unfolding classes_from all_classes class_named class_at supertypes_within supertypes line gathered known own_methods
    methods_of asked_by has_open lacking added added_at
returns-clause-interface c = refl

pub returns-clause-of_its_interfaces : goal.returns-clause-of_its_interfaces
unfolding classes_from all_classes class_named class_at supertypes_within supertypes line gathered known own_methods
    methods_of asked_by has_open lacking added added_at
returns-clause-of_its_interfaces c = refl

pub returns-clause-beside_what_the_superclass_got : goal.returns-clause-beside_what_the_superclass_got
unfolding classes_from all_classes class_named class_at supertypes_within supertypes line gathered known own_methods
    methods_of asked_by has_open lacking added added_at
returns-clause-beside_what_the_superclass_got c = refl

pub returns-clause-not_abstract : goal.returns-clause-not_abstract
unfolding classes_from all_classes class_named class_at supertypes_within supertypes line gathered known own_methods
    methods_of asked_by has_open lacking added added_at
returns-clause-not_abstract c = refl

pub returns-clause-private : goal.returns-clause-private
unfolding classes_from all_classes class_named class_at supertypes_within supertypes line gathered known own_methods
    methods_of asked_by has_open lacking added added_at
returns-clause-private c = refl
