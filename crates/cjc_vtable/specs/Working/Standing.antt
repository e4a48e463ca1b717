-- The classes of a package by their numbers.
use Rattle.std.specs.Prelude.{◌≡◌, ◌<◌, ℕ, slice_get, false, Some}
use Rattle.cjc_world.specs.Bytes.AccessFlags.{is_interface}
use Rattle.cjc_order.specs.Classes.Numbers.{class_count}
use Rattle.cjc_world.specs.ClassFile.declared.tree.ClassTree.{ClassTree}
use Rattle.cjc_world.specs.Files.{Files}
use Rattle.cjc_world.specs.Classes.{Class, declared}

-- a class of this number that the list names
abbrev pub IsOwn : Files → ℕ → Class → Type 0
IsOwn files n c = (n < class_count files.lines) × (t : ClassTree) × (slice_get files.classes n ≡ Some t)
    × (c ≡ declared n t)

-- such a class that is no interface
abbrev pub IsClass : Files → ℕ → Type 0
IsClass files n = (n < class_count files.lines) × (t : ClassTree) × (slice_get files.classes n ≡ Some t)
    × (is_interface t.flags ≡ false)
