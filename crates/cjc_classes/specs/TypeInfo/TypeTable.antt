-- Type descriptors and where they begin.
use Rattle.std.specs.Prelude.{◌≡◌, ℕ, List, Option, map, slice_get, option_map, option_and_then, position, unwrap_or}
use Rattle.std.specs.Prelude.{Some}
use Rattle.std.specs.Str.{bytes_eq}
use Rattle.cjc_components.specs.LowerCapRead.declared.tree.ClassRef.{ClassRef}
use Rattle.cjc_world.specs.ClassFile.declared.tree.ClassTree.{ClassTree}
use Rattle.cjc_world.specs.Files.{Files}
use Rattle.cjc_world.specs.Classes.{Class, declared}
use Rattle.cjc_world.specs.Order.{class_order}
use Rattle.cjc_components.specs.LowerNCode.declared.narrow.PoolKey.{PoolKey}
use Rattle.cjc_components.specs.Package.{Package, pool, world}
use Rattle.cjc_components.specs.Names.{class_ref}
use Rattle.cjc_components.specs.Types.{nibbles_by, type_starts, types_of}
use Rattle.cjc_classes.specs.TypeInfo.Working.Nibbles.{nibbles_in}

-- by their nibbles, and the offset of each
pub record TypeTable : Type 0 where
  pub types : List (List ℕ)
  pub starts : List ℕ

-- those of a package
abbrev pub type_table : Package → TypeTable
type_table p = record { types = types_of p; starts = type_starts p }

-- where the type stands that a descriptor says, where class_refs are these
abbrev pub offset_in : TypeTable → (ref : List ℕ → ClassRef) → (desc : List ℕ) → ℕ
offset_in t ref desc = unwrap_or (option_and_then (slice_get t.starts) (position (bytes_eq (nibbles_in ref desc))
    t.types)) 0

-- the class of a number
abbrev pub class_at : List ClassTree → ℕ → Option Class
class_at classes n = option_map (declared n) (slice_get classes n)

-- What ties what is made of a package to it: its files, the numbers of its classes in their order, its keys, and its
-- class_refs.
pub record AreOf (p : Package) (files : Files) (order : List ℕ) (keys : List PoolKey) (refs : List ℕ
    → ClassRef) : Type 0 where
  pub by_files : p.files ≡ files
  pub in_order : map Some (class_order (world p)) ≡ map (class_at files.classes) order
  pub by_keys : keys ≡ pool p
  pub by_refs : refs ≡ class_ref p
