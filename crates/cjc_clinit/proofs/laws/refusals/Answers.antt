use Rattle.std.proofs.Common.{refl, [], ◌∷◌, negsuc, codes}
use Rattle.cjc_subset.specs.LowerBytecode.declared.insn.JOp.TheVariants as jop
use Rattle.cjc_subset.specs.LowerWorld.Classes.{classes_from, all_classes, class_named}
use Rattle.cjc_subset.specs.LowerWorld.Supertypes.{supertypes_within, supertypes}
use Rattle.cjc_subset.specs.LowerWorld.Lookup.{own_field, find_field}
use Rattle.cjc_clinit.specs.Initialiser.{open_place}
use Rattle.cjc_clinit.specs.Working.Reading.{stage_after, state, state_after, read}
use Rattle.cjc_clinit.specs.declared.stage.Held.TheVariants as held
use Rattle.cjc_clinit.specs.declared.stage.Stage.TheVariants as stages
use Rattle.cjc_clinit.specs.Worked.{class_t, files, numbered, put, return, statements, statements_held}
use Rattle.cjc_clinit.specs.Worked.{statements_image}
use Rattle.cjc_clinit.proofs.OneImage.{right-so}
use Rattle.cjc_clinit.proofs.Wrong.{wrong-so}
use Rattle.cjc_clinit.proofs.laws.refusals.Goals as goal

pub returns-clause-none : goal.returns-clause-none
unfolding classes_from all_classes class_named supertypes_within supertypes own_field find_field open_place stage_after
    state_after read
returns-clause-none c = right-so files 0 class_t (numbered 0 statements) (state statements_held statements_image.arrays
    stages.Ended) refl

pub returns-clause-call : goal.returns-clause-call
unfolding classes_from all_classes class_named supertypes_within supertypes own_field find_field open_place stage_after
    state_after read
returns-clause-call c = wrong-so files 0 class_t [] _ 0 refl

pub returns-clause-nop : goal.returns-clause-nop
unfolding classes_from all_classes class_named supertypes_within supertypes own_field find_field open_place stage_after
    state_after read
returns-clause-nop c = wrong-so files 0 class_t [] _ 1 refl

pub returns-clause-getstatic : goal.returns-clause-getstatic
unfolding classes_from all_classes class_named supertypes_within supertypes own_field find_field open_place stage_after
    state_after read
returns-clause-getstatic c = wrong-so files 0 class_t [] _ 0 refl

pub returns-clause-past : goal.returns-clause-past
unfolding classes_from all_classes class_named supertypes_within supertypes own_field find_field open_place stage_after
    state_after read
returns-clause-past c = wrong-so files 0 class_t [] _ 1 refl

pub returns-clause-endless : goal.returns-clause-endless
unfolding classes_from all_classes class_named supertypes_within supertypes own_field find_field open_place stage_after
    state_after read
returns-clause-endless c = wrong-so files 0 class_t [] _ 0 refl

pub returns-clause-foreign : goal.returns-clause-foreign
unfolding classes_from all_classes class_named supertypes_within supertypes own_field find_field open_place stage_after
    state_after read
returns-clause-foreign c = wrong-so files 0 class_t [] _ 1 refl

pub returns-clause-constant : goal.returns-clause-constant
unfolding classes_from all_classes class_named supertypes_within supertypes own_field find_field open_place stage_after
    state_after read
returns-clause-constant c = wrong-so files 0 class_t [] _ 1 refl

pub returns-clause-twice : goal.returns-clause-twice
unfolding classes_from all_classes class_named supertypes_within supertypes own_field find_field open_place stage_after
    state_after read
returns-clause-twice c = wrong-so files 0 class_t [] _ 3 refl

pub returns-clause-null : goal.returns-clause-null
unfolding classes_from all_classes class_named supertypes_within supertypes own_field find_field open_place stage_after
    state_after read
returns-clause-null c = wrong-so files 0 class_t [] _ 1 refl

pub returns-clause-other_array : goal.returns-clause-other_array
unfolding classes_from all_classes class_named supertypes_within supertypes own_field find_field open_place stage_after
    state_after read
returns-clause-other_array c = wrong-so files 0 class_t [] _ 2 refl

pub returns-clause-boolean : goal.returns-clause-boolean
unfolding classes_from all_classes class_named supertypes_within supertypes own_field find_field open_place stage_after
    state_after read
returns-clause-boolean c = wrong-so files 0 class_t [] _ 1 refl

pub returns-clause-short : goal.returns-clause-short
unfolding classes_from all_classes class_named supertypes_within supertypes own_field find_field open_place stage_after
    state_after read
returns-clause-short c = wrong-so files 0 class_t [] _ 1 refl

pub returns-clause-least_short : goal.returns-clause-least_short
unfolding classes_from all_classes class_named supertypes_within supertypes own_field find_field open_place stage_after
    state_after read
returns-clause-least_short c =
    right-so files 0 class_t (numbered 0 (jop.Number (negsuc 32767) ∷ put (codes "s") (codes "S") ∷ return ∷ []))
    (state (held.Nothing ∷ held.Nothing ∷ held.Nothing ∷ held.Number (negsuc 32767) ∷ held.Nothing ∷ held.Nothing
    ∷ []) [] stages.Ended) refl

pub returns-clause-count : goal.returns-clause-count
unfolding classes_from all_classes class_named supertypes_within supertypes own_field find_field open_place stage_after
    state_after read
returns-clause-count c = wrong-so files 0 class_t [] _ 1 refl

pub returns-clause-below_zero : goal.returns-clause-below_zero
unfolding classes_from all_classes class_named supertypes_within supertypes own_field find_field open_place stage_after
    state_after read
returns-clause-below_zero c = wrong-so files 0 class_t [] _ 1 refl

pub returns-clause-chars : goal.returns-clause-chars
unfolding classes_from all_classes class_named supertypes_within supertypes own_field find_field open_place stage_after
    state_after read
returns-clause-chars c = wrong-so files 0 class_t [] _ 1 refl

pub returns-clause-index : goal.returns-clause-index
unfolding classes_from all_classes class_named supertypes_within supertypes own_field find_field open_place stage_after
    state_after read
returns-clause-index c = wrong-so files 0 class_t [] _ 3 refl

pub returns-clause-empty : goal.returns-clause-empty
unfolding classes_from all_classes class_named supertypes_within supertypes own_field find_field open_place stage_after
    state_after read
returns-clause-empty c = wrong-so files 0 class_t [] _ 2 refl

pub returns-clause-value : goal.returns-clause-value
unfolding classes_from all_classes class_named supertypes_within supertypes own_field find_field open_place stage_after
    state_after read
returns-clause-value c = wrong-so files 0 class_t [] _ 4 refl

pub returns-clause-store : goal.returns-clause-store
unfolding classes_from all_classes class_named supertypes_within supertypes own_field find_field open_place stage_after
    state_after read
returns-clause-store c = wrong-so files 0 class_t [] _ 5 refl
