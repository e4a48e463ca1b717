use Rattle.std.proofs.Common.{refl}
use Rattle.cjc_bytes.specs.Breaks.{each_from}
use Rattle.cjc_world.specs.Classes.{classes_from, all_classes, class_named}
use Rattle.cjc_world.specs.Subtype.{is_subclass}
use Rattle.cjc_world.specs.Supertypes.{supertypes, supertypes_within}
use Rattle.cjc_group.specs.Implementing.{upwards}
use Rattle.cjc_group.proofs.laws.groups_are_tested.Goals as goal

pub returns-clause-agreeing : goal.returns-clause-agreeing
unfolding each_from classes_from all_classes class_named upwards
returns-clause-agreeing c = refl

pub returns-clause-rebuilt : goal.returns-clause-rebuilt
unfolding each_from classes_from all_classes class_named upwards
returns-clause-rebuilt c = refl

pub returns-clause-later : goal.returns-clause-later
unfolding each_from classes_from all_classes class_named upwards
returns-clause-later c = refl

pub returns-clause-resting : goal.returns-clause-resting
unfolding each_from classes_from all_classes class_named upwards
returns-clause-resting c = refl

pub returns-clause-twice : goal.returns-clause-twice
unfolding each_from classes_from all_classes class_named upwards
returns-clause-twice c = refl

pub returns-clause-differing : goal.returns-clause-differing
unfolding each_from classes_from all_classes class_named upwards
returns-clause-differing c = refl

pub returns-clause-left_open : goal.returns-clause-left_open
unfolding each_from classes_from all_classes class_named upwards
returns-clause-left_open c = refl

pub returns-clause-missing : goal.returns-clause-missing
unfolding each_from classes_from all_classes class_named is_subclass supertypes supertypes_within
returns-clause-missing c = refl

pub returns-clause-known : goal.returns-clause-known
unfolding each_from classes_from all_classes class_named is_subclass supertypes supertypes_within
returns-clause-known c = refl
