-- Members that entries of the constant pool name, as code looks for their descriptors.
use Rattle.std.specs.Prelude.{ℕ, ◌-◌, List, length, map, option_and_then, option_map, slice_get, unwrap_or, Option}
use Rattle.std.specs.Prelude.{Bool, true}
use Rattle.std.specs.Prelude.{false, if◌then◌else◌, is_some, None}
use Rattle.cjc_capread.specs.declared.tree.PoolEntry.{PoolEntry}
use Rattle.cjc_capread.specs.declared.tree.PoolEntry.TheVariants.{Classref}
use Rattle.cjc_classes.specs.LowerComponents.Descriptor.{method_in, no_member}
use Rattle.cjc_methods.specs.Tokens.Tokens.{method_of_token}
use Rattle.cjc_world.specs.ClassFile.declared.tree.ClassTree.{ClassTree}
use Rattle.cjc_world.specs.ClassFile.declared.tree.FieldTree.{FieldTree}
use Rattle.cjc_world.specs.ExportFile.declared.tree.ExportClass.{ExportClass}
use Rattle.cjc_world.specs.Classes.{Class, all_classes, class_at, method_of_export}
use Rattle.cjc_world.specs.Files.{Files}
use Rattle.cjc_verify.specs.Named.{found_desc}
use Rattle.cjc_verify.specs.Pairs.{Pair}

-- the descriptor of a field of a class file by its place
abbrev pub desc_of_own : ClassTree → (place : ℕ) → Option (List ℕ)
desc_of_own c k = option_map (λ (f : FieldTree). f.desc) (slice_get c.fields k)

-- the descriptor of a method of an export file's class by its place among the members
abbrev pub desc_in_export : ExportClass → (member : ℕ) → List ℕ
desc_in_export c k = let m = unwrap_or (slice_get (map method_of_export c.methods) (k - length c.fields)) no_member
    in m.desc

-- the descriptor of a method of a class, of the package or imported, by the class's number
abbrev pub own_method_desc : Files → (imported : Bool) → (number member : ℕ) → Option (List ℕ)
own_method_desc files imported n k = option_map (λ (c : Class). let m = method_in (all_classes files) c k in m.desc)
    (class_at (all_classes files) imported n)

-- the class file of a class of the package, by the class's number
abbrev pub own_tree : Files → (number : ℕ) → Option ClassTree
own_tree files n = if is_some (class_at (all_classes files) false n) then slice_get files.classes n else None

-- the descriptor of the virtual method that a token means in the class of a number
abbrev pub virtual_of_number : Pair → (token number : ℕ) → Option (List ℕ)
virtual_of_number p token n = option_and_then (found_desc p) (method_of_token p.tokens n token)

-- a class, which has no type
abbrev pub is_class : PoolEntry → Bool
is_class (Classref class) = true
is_class entry = false
