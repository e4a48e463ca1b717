-- The receiver of a method as code has it.
use Rattle.std.specs.Prelude.{List, [], ◌∷◌, if◌then◌else◌}
use Rattle.cjc_bytes.specs.AccessFlags.{is_static}
use Rattle.cjc_capread.specs.declared.tree.ClassRef.{ClassRef}
use Rattle.cjc_capread.specs.declared.tree.MethodDescriptor.{MethodDescriptor}
use Rattle.cjc_card_acts.specs.LowerFrames.declared.acts.Given.{Given}
use Rattle.cjc_card_acts.specs.LowerFrames.declared.acts.Given.TheVariants.{AnObject}
use Rattle.cjc_verify.specs.ClassTypes.{class_type}

-- the receiver of a method that is not static, listed under a class
abbrev pub receiver_by : ClassRef → MethodDescriptor → List Given
receiver_by holder m = if is_static m.flags then [] else AnObject (class_type holder) ∷ []
