-- A package made by hand as class files and as components: p/M and p/N share the interface p/I alone, and p/T.t calls v
-- on one of them.
use Rattle.std.specs.Prelude.{[], ◌∷◌, ◌++◌, codes}
use Rattle.cjc_code.specs.ClassFile.declared.tree.ClassTree.{ClassTree}
use Rattle.cjc_code.specs.ClassFile.PoolItem as items
use Rattle.cjc_capwrite.specs.CapRead.declared.tree.ClassRef.TheVariants.{Inside, Outside}
use Rattle.cjc_capwrite.specs.CapRead.declared.tree.PoolEntry.TheVariants.{Classref}
use Rattle.cjc_world.specs.Files.{Files}
use Rattle.cjc_components.specs.LowerJvmSemantics.Worked.{abstract, method, virtual, class}
use Rattle.cjc_components.specs.LowerCardSemantics.Machine.Worked.{id, method_at, described, class_with, no_statics}
use Rattle.cjc_components.specs.LowerCardSemantics.Machine.Worked.{named}
use Rattle.cjc_components.specs.LowerCardSemantics.Machine.Worked.{names}
use Rattle.cjc_components.specs.LowerCardSemantics.Machine.Worked.{object}
use Rattle.cjc_components.specs.LowerCardSemantics.Machine.Loaded.{OfFile, Part, Loaded}
use Rattle.cjc_examples.specs.Narrow.Both.{over, loaded}

-- an interface with v
abbrev pub interface_i : ClassTree
interface_i = class 0x0601 (codes "p/I") object [] [] [] (abstract (codes "v") (codes "()S") ∷ [])

-- v gives 1; v gives 2
abbrev pub class_m : ClassTree
class_m = class 0x0021 (codes "p/M") object (codes "p/I" ∷ []) [] [] (virtual (codes "v") (codes "()S") 1 1 (0x04 ∷ 0xAC
    ∷ []) ∷ [])

-- p/N implements p/I, too
abbrev pub class_n : ClassTree
class_n = class 0x0021 (codes "p/N") object (codes "p/I" ∷ []) [] [] (virtual (codes "v") (codes "()S") 1 1 (0x05 ∷ 0xAC
    ∷ []) ∷ [])

-- v of a new M, or of a new N where the argument is 0
abbrev pub class_t : ClassTree
class_t = class 0x0021 (codes "p/T") object [] (items.Class (codes "p/M") ∷ items.Class (codes "p/N")
    ∷ items.InterfaceMethod (id (codes "p/I") (codes "v") (codes "()S")) ∷ []) []
    (method (codes "t") (codes "(S)S") 1 2 [] (0x1A ∷ 0x99 ∷ 0x00 ∷ 0x0A ∷ 0xBB ∷ 0x00 ∷ 0x01 ∷ 0x4C ∷ 0xA7 ∷ 0x00
    ∷ 0x07 ∷ 0xBB ∷ 0x00 ∷ 0x02 ∷ 0x4C ∷ 0x2B ∷ 0xB9 ∷ 0x00 ∷ 0x03 ∷ 0x01 ∷ 0x00 ∷ 0xAC ∷ []) ∷ [])

-- the package
abbrev pub files : Files
files = over (codes "p") (interface_i ∷ class_m ∷ class_n ∷ class_t ∷ [])

-- the same as components
abbrev pub part : Part
part = record {
  method = record {
    handlers = [];
    methods = ((0x01 ∷ 0x10 ∷ 0x04 ∷ 0x78 ∷ []) ++ ((0x01 ∷ 0x10 ∷ 0x05 ∷ 0x78 ∷ [])
        ++ (0x01 ∷ 0x11 ∷ 0x1C ∷ 0x60 ∷ 0x08 ∷ 0x8F ∷ 0x00 ∷ 0x00 ∷ 0x2C ∷ 0x70 ∷ 0x06 ∷ 0x8F ∷ 0x00 ∷ 0x01 ∷ 0x2C
        ∷ 0x19
        ∷ 0x8E ∷ 0x01 ∷ 0x00 ∷ 0x02 ∷ 0x00 ∷ 0x78 ∷ [])));
  };
  pool = Classref (Inside 3) ∷ Classref (Inside 19) ∷ Classref (Inside 2) ∷ [];
  class = record {
    interfaces = record { flags = 8; superinterfaces = [] } ∷ [];
    classes = record (class_with (Outside 0 0) 1 (1 ∷ [])) {
      interfaces = record {
        interface = Inside 2;
        index = 1 ∷ [];
      } ∷ [];
    } ∷ record (class_with (Outside 0 0) 1 (5 ∷ [])) {
      interfaces = record {
        interface =
            Inside 2;
        index = 1 ∷ [];
      } ∷ [];
    } ∷ class_with (Outside 0 0) 1 [] ∷ [];
  };
  descriptor = described 2 (method_at 0 0x41 0 0 ∷ []) ∷ described 3 (method_at 1 1 1 2 ∷ [])
      ∷ described 19 (method_at 1 1 5 2 ∷ []) ∷ described 35 (method_at 0xFF 9 9 20 ∷ []) ∷ [];
  exports = [];
  statics = no_statics;
  imports = OfFile 0 ∷ OfFile 1 ∷ [];
  classes = record {
    name = codes "p/I";
    methods = named (codes "v") (codes "()S") ∷ [];
    fields = [];
    interface_methods = named (codes "v") (codes "()S") ∷ [];
  } ∷ names (codes "p/M") (named (codes "v") (codes "()S")
      ∷ []) ∷ names (codes "p/N") (named (codes "v") (codes "()S") ∷ [])
      ∷ names (codes "p/T") (named (codes "t") (codes "(S)S") ∷ []) ∷ [];
  cells = [];
}

-- the package over the export files
abbrev pub components : Loaded
components = loaded part
