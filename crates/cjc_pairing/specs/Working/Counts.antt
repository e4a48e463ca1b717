-- Which methods a class is to have in Descriptor, by its number: its own but the initialiser, and those it got.
use Rattle.std.specs.Prelude.{ℕ, ◌+◌, List, [], ◌∷◌, length, count_by, slice_get, Option, Some, None, Bool, not, codes}
use Rattle.std.specs.Str.{bytes_eq}
use Rattle.cjc_classes.specs.ClassFile.declared.tree.ClassTree.{ClassTree}
use Rattle.cjc_classes.specs.ClassFile.declared.tree.MethodTree.{MethodTree}
use Rattle.cjc_card_link.specs.World.Added.{added_at}
use Rattle.cjc_card_link.specs.World.Files.{Files}

-- a method that is no class initialiser
abbrev pub is_written : MethodTree → Bool
is_written m = not (bytes_eq m.name (codes "<clinit>"))

-- the methods of the class of a number, those that it got counted
abbrev pub count_in : Files → (number : ℕ) → ClassTree → ℕ
count_in files n c = count_by is_written c.methods + length (added_at files n)

-- if there is one
abbrev pub count_where : Files → (number : ℕ) → Option ClassTree → List ℕ
count_where files n None = []
count_where files n (Some c) = count_in files n c ∷ []

-- those of the class of a number among those of the package, if there is one
abbrev pub count_at : Files → (number : ℕ) → List ℕ
count_at files n = count_where files n (slice_get files.classes n)
