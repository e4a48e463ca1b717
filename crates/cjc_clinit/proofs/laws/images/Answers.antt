use Rattle.std.proofs.Common.{refl, [], ◌∷◌}
use Rattle.cjc_subset.specs.LowerWorld.Classes.{classes_from, all_classes, class_named}
use Rattle.cjc_subset.specs.LowerWorld.Supertypes.{supertypes_within, supertypes}
use Rattle.cjc_subset.specs.LowerWorld.Lookup.{own_field, find_field}
use Rattle.cjc_clinit.specs.Initialiser.{open_place}
use Rattle.cjc_clinit.specs.Working.Reading.{stage_after, state_after, read, after_initialiser, after_code, after_codes}
use Rattle.cjc_clinit.specs.Worked.{files, replaced_held, replaced_image, statements_held, statements_image}
use Rattle.cjc_clinit.proofs.Effects.{image-so}
use Rattle.cjc_clinit.proofs.laws.images.Goals as goal

pub returns-clause-statements : goal.returns-clause-statements
unfolding classes_from all_classes class_named supertypes_within supertypes own_field find_field open_place stage_after
    state_after read after_initialiser after_code after_codes
returns-clause-statements c = image-so files _ statements_image.arrays (statements_held ∷ []) statements_image refl refl

pub returns-clause-replaced : goal.returns-clause-replaced
unfolding classes_from all_classes class_named supertypes_within supertypes own_field find_field open_place stage_after
    state_after read after_initialiser after_code after_codes
returns-clause-replaced c = image-so files _ replaced_image.arrays (replaced_held ∷ []) replaced_image refl refl
