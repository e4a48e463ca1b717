-- A package made by hand as class files and as components: p/B extends the imported q/A, overrides a and inherits b.
use Rattle.std.specs.Prelude.{[], ◌∷◌, ◌++◌, codes}
use Rattle.cjc_code.specs.ClassFile.declared.tree.ClassTree.{ClassTree}
use Rattle.cjc_code.specs.ClassFile.PoolItem as items
use Rattle.cjc_capwrite.specs.CapRead.declared.tree.ClassRef.TheVariants.{Inside, Outside}
use Rattle.cjc_capwrite.specs.CapRead.declared.tree.StaticRef.TheVariants as refs
use Rattle.cjc_capwrite.specs.CapRead.declared.tree.PoolEntry.TheVariants.{Classref, VirtualMethodref}
use Rattle.cjc_capwrite.specs.CapRead.declared.tree.PoolEntry.TheVariants.{StaticMethodref}
use Rattle.cjc_world.specs.Files.{Files}
use Rattle.cjc_components.specs.LowerJvmSemantics.Worked.{method, virtual, class}
use Rattle.cjc_components.specs.LowerCardSemantics.Machine.Worked.{id, method_at, described, class_with, no_statics}
use Rattle.cjc_components.specs.LowerCardSemantics.Machine.Worked.{named}
use Rattle.cjc_components.specs.LowerCardSemantics.Machine.Worked.{names}
use Rattle.cjc_components.specs.LowerCardSemantics.Machine.Loaded.{OfFile, Part, Loaded}
use Rattle.cjc_examples.specs.Narrow.Both.{over, loaded}

-- the constructor calls that of q/A; a gives 7; make makes a B; k gives b of a B
abbrev pub class_b : ClassTree
class_b = class 0x0020 (codes "p/B") (codes "q/A") [] (items.Method (id (codes "q/A") (codes "<init>") (codes "()V"))
    ∷ items.Class (codes "p/B") ∷ items.Method (id (codes "p/B") (codes "<init>") (codes "()V"))
    ∷ items.Method (id (codes "p/B") (codes "b") (codes "()S")) ∷ []) []
    (virtual (codes "<init>") (codes "()V") 1 1 (0x2A ∷ 0xB7 ∷ 0x00 ∷ 0x01 ∷ 0xB1 ∷ [])
    ∷ virtual (codes "a") (codes "()S") 1 1 (0x10 ∷ 0x07 ∷ 0xAC ∷ [])
    ∷ method (codes "make") (codes "()Lp/B;") 2 0 [] (0xBB ∷ 0x00 ∷ 0x02 ∷ 0x59 ∷ 0xB7 ∷ 0x00 ∷ 0x03 ∷ 0xB0 ∷ [])
    ∷ method (codes "k") (codes "(Lp/B;)S") 1 1 [] (0x2A ∷ 0xB6 ∷ 0x00 ∷ 0x04 ∷ 0xAC ∷ []) ∷ [])

-- the package
abbrev pub files : Files
files = over (codes "p") (class_b ∷ [])

-- the same as components: the table begins at the token of a, and has an entry 0xFFFF for b
abbrev pub part : Part
part = record {
  method = record {
    handlers = [];
    methods = ((0x01 ∷ 0x10 ∷ 0x18 ∷ 0x8C ∷ 0x00 ∷ 0x00 ∷ 0x7A ∷ [])
        ++ ((0x01 ∷ 0x10 ∷ 0x10 ∷ 0x07 ∷ 0x78 ∷ []) ++ ((0x02 ∷ 0x00 ∷ 0x8F ∷ 0x00 ∷ 0x01 ∷ 0x3D ∷ 0x8C ∷ 0x00 ∷ 0x02
        ∷ 0x77 ∷ []) ++ (0x01 ∷ 0x10 ∷ 0x18 ∷ 0x8B ∷ 0x00 ∷ 0x03 ∷ 0x78 ∷ []))));
  };
  pool = StaticMethodref (refs.Outside 1 0 0) ∷ Classref (Inside 2) ∷ StaticMethodref (refs.Inside 1)
      ∷ VirtualMethodref (Inside 2) 2 ∷ [];
  class = record { interfaces = []; classes = class_with (Outside 1 0) 1 (8 ∷ 0xFFFF ∷ []) ∷ [] };
  descriptor = described 2 (method_at 0 0x81 1 5 ∷ method_at 1 1 8 3 ∷ method_at 0xFF 9 13 8 ∷ method_at 0xFF 9 23 5
      ∷ []) ∷ [];
  exports = [];
  statics = no_statics;
  imports = OfFile 0 ∷ OfFile 1 ∷ [];
  classes = names (codes "p/B") (named (codes "<init>") (codes "()V") ∷ named (codes "a") (codes "()S")
      ∷ named (codes "make") (codes "()Lp/B;") ∷ named (codes "k") (codes "(Lp/B;)S") ∷ []) ∷ [];
  cells = [];
}

-- the package over the export files
abbrev pub components : Loaded
components = loaded part
