-- The descriptors of a package as a walk over its files meets them.
use Rattle.std.specs.Prelude.{ℕ, List, [], ◌∷◌, ◌++◌, map, flat_map, slice_get, Option, Some, None, if◌then◌else◌}
use Rattle.std.specs.Prelude.{codes}
use Rattle.std.specs.Str.{bytes_eq}
use Rattle.cjc_bytes.specs.declared.fault.MemberId.{MemberId}
use Rattle.cjc_components.specs.LowerCapRead.declared.tree.ClassRef.{ClassRef}
use Rattle.cjc_world.specs.ClassFile.declared.tree.ClassTree.{ClassTree}
use Rattle.cjc_world.specs.ClassFile.declared.tree.MethodTree.{MethodTree}
use Rattle.cjc_world.specs.Files.{Files}
use Rattle.cjc_world.specs.Added.{added_at}
use Rattle.cjc_components.specs.Types.{desc_of_field}
use Rattle.cjc_classes.specs.TypeInfo.Working.Nibbles.{nibbles_in}

-- the nibbles of descriptors
abbrev pub all_nibbles : (ref : List ℕ → ClassRef) → List (List ℕ) → List (List ℕ)
all_nibbles ref descs = map (nibbles_in ref) descs

-- those of the descriptors of an item
abbrev pub nibbles_of_each : {A : Type 0} → (ref : List ℕ → ClassRef) → (A → List (List ℕ)) → A → List (List ℕ)
nibbles_of_each ref descs x = all_nibbles ref (descs x)

-- a method that is no <clinit>
abbrev pub desc_of_method : MethodTree → List (List ℕ)
desc_of_method m = if bytes_eq m.name (codes "<clinit>") then [] else m.desc ∷ []

-- the descriptor of a method that is added to a class
abbrev pub desc_of_added : MemberId → List (List ℕ)
desc_of_added m = m.desc ∷ []

-- a class and what is added to it
abbrev pub descs_in : (added : List MemberId) → ClassTree → List (List ℕ)
descs_in added c = flat_map desc_of_field c.fields ++ (flat_map desc_of_method c.methods
    ++ flat_map desc_of_added added)

-- the descriptors of a class and of what is added to it, if there is a class
abbrev pub descs_where : (added : List MemberId) → Option ClassTree → List (List ℕ)
descs_where added None = []
descs_where added (Some c) = descs_in added c

-- the class of a number
abbrev pub descs_at : Files → ℕ → List (List ℕ)
descs_at files number = descs_where (added_at files number) (slice_get files.classes number)
