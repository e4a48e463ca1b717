-- The places of methods and rule 417, by the files of a package alone.
use Rattle.std.specs.Prelude.{ℕ, ◌+◌, List, [], length, nat_lt, ◌||◌, if◌then◌else◌, Option, None, Some}
use Rattle.cjc_bytes.specs.Breaks.{Break, RulePlace, at, class_spot, member_spot}
use Rattle.cjc_bytes.specs.Order.{file_of}
use Rattle.cjc_bytes.specs.Refused.{method_text}
use Rattle.cjc_world.specs.declared.found.Found.{Found}
use Rattle.cjc_world.specs.Classes.{Class, Member, all_classes, class_at}
use Rattle.cjc_world.specs.Files.{Files}
use Rattle.cjc_components.specs.Descriptor.{method_in}
use Rattle.cjc_components.specs.Limits.{has_many_words}
use Rattle.cjc_pool.specs.JvmSemantics.OnePackage.{method_at}
use Rattle.cjc_int_package.specs.Limits.{lacks_int_room}
use Rattle.cjc_int_package.specs.Modes.{Tables}

-- an offset of a method of a class; one that the class gets stands at the class
abbrev pub spot_in : Files → Class → Found → Member → (offset : ℕ) → RulePlace
spot_in files c f m offset =
    if nat_lt f.member (length c.fields + length c.methods)
    then member_spot (file_of files.lines c.number) 1 c.name (f.member + 1) (method_text m.name m.desc) offset
    else class_spot (file_of files.lines c.number) 1 c.name

-- 417 at a member of a class
abbrev pub words_at : Tables → Files → Found → Option Class → List Break
words_at t files f None = []
words_at t files f (Some c) = let m = method_in (all_classes files) c f.member
    in at (has_many_words m || lacks_int_room t files (method_at files f)) (spot_in files c f m 0) 417

-- 417 of a method by the numbers of its class and member
abbrev pub word_breaks_in : Tables → Files → Found → List Break
word_breaks_in t files f = words_at t files f (class_at (all_classes files) f.imported f.class)
