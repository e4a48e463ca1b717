-- The places of a package that rules speak of, and what is broken in a method by its numbers.
use Rattle.std.specs.Prelude.{ℕ, ◌+◌, List, [], length, slice_get, Option, Some, None}
use Rattle.cjc_bytes.specs.Breaks.{Break, RulePlace, class_spot, member_spot}
use Rattle.cjc_bytes.specs.Order.{FilePlace, file_of}
use Rattle.cjc_bytes.specs.Refused.{field_text, method_text}
use Rattle.cjc_code.specs.ClassFile.declared.tree.ClassTree.{ClassTree}
use Rattle.cjc_code.specs.ClassFile.declared.tree.MethodTree.{MethodTree}
use Rattle.cjc_code.specs.ClassFile.declared.tree.FieldTree.{FieldTree}
use Rattle.cjc_world.specs.Files.{Files}

-- ---- places

-- a class of the package, which is the first of its file
abbrev pub at_class : FilePlace → ClassTree → RulePlace
at_class f c = class_spot f 1 c.name

-- the field of a class at this place among its fields
abbrev pub at_field : FilePlace → ClassTree → ℕ → FieldTree → RulePlace
at_field f c i m = member_spot f 1 c.name (i + 1) (field_text m.name m.desc) 0

-- the method at this place among its methods, at an offset of its code
abbrev pub at_method : FilePlace → ClassTree → ℕ → MethodTree → (offset : ℕ) → RulePlace
at_method f c i m offset = member_spot f 1 c.name (length c.fields + i + 1) (method_text m.name m.desc) offset

-- ---- of a method by the numbers of its class and of itself, where both are there

-- what is broken in the method, nothing where there is none
abbrev pub of_method : (FilePlace → ClassTree → MethodTree → List Break) → FilePlace → ClassTree → Option MethodTree
    → List Break
of_method breaks f c None = []
of_method breaks f c (Some m) = breaks f c m

-- what is broken in the method of this number of the class, nothing where one of them is missing
abbrev pub of_class : (FilePlace → ClassTree → MethodTree → List Break) → FilePlace → (method : ℕ) → Option ClassTree
    → List Break
of_class breaks f method None = []
of_class breaks f method (Some c) = of_method breaks f c (slice_get c.methods method)

-- what is broken in the method of this number of the class of that number, nothing where one of them is missing
abbrev pub of_code : Files → (class method : ℕ) → (FilePlace → ClassTree → MethodTree → List Break) → List Break
of_code files class method breaks = of_class breaks (file_of files.lines class) method (slice_get files.classes class)
