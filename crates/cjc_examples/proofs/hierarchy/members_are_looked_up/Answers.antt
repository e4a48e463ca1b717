use Rattle.std.proofs.Common.{refl}
use Rattle.cjc_world.specs.Classes.{classes_from, all_classes, class_named, class_at}
use Rattle.cjc_world.specs.Supertypes.{supertypes_within, supertypes, line}
use Rattle.cjc_world.specs.Interfaces.{gathered, known}
use Rattle.cjc_world.specs.Lookup.{first, own_field, find_field, own_method, find_method, selected}
use Rattle.cjc_world.specs.Subtype.{is_subclass, is_element, is_subtype}
use Rattle.cjc_examples.proofs.hierarchy.members_are_looked_up.Goals as goal

pub returns-clause-fields : goal.returns-clause-fields
unfolding classes_from all_classes class_named class_at supertypes_within supertypes line gathered known first
    own_field find_field own_method find_method selected is_subclass is_element is_subtype
returns-clause-fields c = refl

pub returns-clause-methods : goal.returns-clause-methods
unfolding classes_from all_classes class_named class_at supertypes_within supertypes line gathered known first
    own_field find_field own_method find_method selected is_subclass is_element is_subtype
returns-clause-methods c = refl

pub returns-clause-selected : goal.returns-clause-selected
unfolding classes_from all_classes class_named class_at supertypes_within supertypes line gathered known first
    own_field find_field own_method find_method selected is_subclass is_element is_subtype
returns-clause-selected c = refl

pub returns-clause-subtypes : goal.returns-clause-subtypes
unfolding classes_from all_classes class_named class_at supertypes_within supertypes line gathered known first
    own_field find_field own_method find_method selected is_subclass is_element is_subtype
returns-clause-subtypes c = refl
