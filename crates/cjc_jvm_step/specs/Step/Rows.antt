-- When instructions that ask look-ups or static cells have followed their rows.
use Rattle.std.specs.Prelude.{List}
use Rattle.cjc_script.specs.declared.report.FieldValue.{FieldValue}
use Rattle.cjc_script.specs.declared.report.Thing.{Thing}
use Rattle.cjc_jvm_semantics.specs.Linked.{Linked}
use Rattle.cjc_jvm_semantics.specs.Effects.{Store}
use Rattle.cjc_jvm_semantics.specs.Machine.{Frame}
use Rattle.cjc_jvm_step.specs.declared.frame.deed.Deed.{Deed}
use Rattle.cjc_jvm_step.specs.Frame.Deeds.{Row, FollowsEffect}

-- the heap and the static cells
abbrev pub store_of : (heap : List Thing) (statics : List FieldValue) → Store
store_of heap statics = record { heap = heap; statics = statics }

-- A row that leaves static cells as they are has been followed by these look-ups, beside whatever cells.
abbrev pub FollowsBy : Linked → Row → Deed → (old new : Frame) (heap heap' : List Thing) → Type 0
FollowsBy l row deed old new heap heap' =
    (statics : List FieldValue) →
    FollowsEffect (row l old.method old.at old.locals (store_of heap statics) old.stack) deed old new
    (store_of heap statics) (store_of heap' statics)

-- A row that leaves the heap as it is has been followed, by whatever look-ups and beside whatever heap.
abbrev pub FollowsIn : Row → Deed → (old new : Frame) (statics statics' : List FieldValue) → Type 0
FollowsIn row deed old new statics statics' =
    (l : Linked) (heap : List Thing) →
    FollowsEffect (row l old.method old.at old.locals (store_of heap statics) old.stack) deed old new
    (store_of heap statics) (store_of heap statics')
