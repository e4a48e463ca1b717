-- A package made by hand as class files and as components: p/T has static methods that calculate, choose, catch and
-- call.
use Rattle.std.specs.Prelude.{List, [], ◌∷◌, ◌++◌, Some, None, true, false, pos, codes}
use Rattle.cjc_code.specs.ClassFile.declared.tree.Catch.{Catch}
use Rattle.cjc_code.specs.ClassFile.declared.tree.ClassTree.{ClassTree}
use Rattle.cjc_code.specs.ClassFile.declared.tree.MethodTree.{MethodTree}
use Rattle.cjc_code.specs.ClassFile.PoolItem as items
use Rattle.cjc_capwrite.specs.CapRead.declared.tree.ClassRef.TheVariants.{Outside}
use Rattle.cjc_capwrite.specs.CapRead.declared.tree.StaticRef.TheVariants as refs
use Rattle.cjc_capwrite.specs.CapRead.declared.tree.PoolEntry.TheVariants.{Classref, StaticMethodref}
use Rattle.cjc_world.specs.Files.{Files}
use Rattle.cjc_components.specs.LowerJvmSemantics.Worked.{method, class}
use Rattle.cjc_components.specs.LowerCardSemantics.Machine.Worked.{id, method_at, described, class_with, handler_at}
use Rattle.cjc_components.specs.LowerCardSemantics.Machine.Worked.{no_statics, named}
use Rattle.cjc_components.specs.LowerCardSemantics.Machine.Worked.{names, object}
use Rattle.cjc_components.specs.LowerCardSemantics.Machine.Loaded.{OfFile, Part, Loaded}
use Rattle.cjc_examples.specs.Narrow.Both.{over, loaded}

-- ---- class files

-- the handlers of c
abbrev pub catches : List Catch
catches =
    record { start = 2; end = 3; target = 5; class = Some (codes "java/lang/ClassCastException") }
    ∷ record { start = 3; end = 4; target = 8; class = None }
    ∷ record { start = 0; end = 4; target = 11; class = None } ∷ []

-- the methods of p/T
abbrev pub methods : List MethodTree
methods =
    -- (short) (a / a) under three handlers, of which the first covers nothing that can throw what it takes
    method (codes "c") (codes "(S)S") 2 1 catches (0x1A ∷ 0x1A ∷ 0x6C ∷ 0x93 ∷ 0xAC ∷ 0x57 ∷ 0x04 ∷ 0xAC ∷ 0x57 ∷ 0x05
    ∷ 0xAC ∷ 0x57 ∷ 0x06 ∷ 0xAC ∷ [])
    -- (short) (a + 1)
    ∷ method (codes "f") (codes "(S)S") 2 1 [] (0x1A ∷ 0x04 ∷ 0x60 ∷ 0x93 ∷ 0xAC ∷ [])
    -- b[o + 1]
    ∷ method (codes "h") (codes "([BS)B") 3 2 [] (0x2A ∷ 0x1B ∷ 0x04 ∷ 0x60 ∷ 0x33 ∷ 0xAC ∷ [])
    -- b[o - 1]
    ∷ method (codes "i") (codes "([BS)B") 3 2 [] (0x2A ∷ 0x1B ∷ 0x04 ∷ 0x64 ∷ 0x33 ∷ 0xAC ∷ [])
    -- b[b.length - 1]
    ∷ method (codes "j") (codes "([B)B") 3 1 [] (0x2A ∷ 0x2A ∷ 0xBE ∷ 0x04 ∷ 0x64 ∷ 0x33 ∷ 0xAC ∷ [])
    -- (short) (a / b)
    ∷ method (codes "d") (codes "(SS)S") 2 2 [] (0x1A ∷ 0x1B ∷ 0x6C ∷ 0x93 ∷ 0xAC ∷ [])
    -- (short) (a >>> 20)
    ∷ method (codes "u") (codes "(S)S") 2 1 [] (0x1A ∷ 0x10 ∷ 0x14 ∷ 0x7C ∷ 0x93 ∷ 0xAC ∷ [])
    -- (short) (a << 16)
    ∷ method (codes "l") (codes "(S)S") 2 1 [] (0x1A ∷ 0x10 ∷ 0x10 ∷ 0x78 ∷ 0x93 ∷ 0xAC ∷ [])
    -- (short) (a & 0xFFFF)
    ∷ method (codes "m") (codes "(S)S") 2 1 [] (0x1A ∷ 0x12 ∷ 0x01 ∷ 0x7E ∷ 0x93 ∷ 0xAC ∷ [])
    -- 1 for 5, 2 for 70000, else 0
    ∷ method (codes "s") (codes "(S)S") 1 1 [] (0x1A ∷ 0xAB ∷ 0x00 ∷ 0x00 ∷ 0x00 ∷ 0x00 ∷ 0x00 ∷ 0x1F ∷ 0x00 ∷ 0x00
    ∷ 0x00 ∷ 0x02 ∷ 0x00 ∷ 0x00 ∷ 0x00 ∷ 0x05 ∷ 0x00 ∷ 0x00 ∷ 0x00 ∷ 0x1B ∷ 0x00 ∷ 0x01 ∷ 0x11 ∷ 0x70 ∷ 0x00 ∷ 0x00
    ∷ 0x00 ∷ 0x1D ∷ 0x04 ∷ 0xAC ∷ 0x05 ∷ 0xAC ∷ 0x03 ∷ 0xAC ∷ [])
    -- 1 for 40000 and 40001, else 0
    ∷ method (codes "t") (codes "(S)S") 1 1 [] (0x1A ∷ 0xAA ∷ 0x00 ∷ 0x00 ∷ 0x00 ∷ 0x00 ∷ 0x00 ∷ 0x19 ∷ 0x00 ∷ 0x00
    ∷ 0x9C ∷ 0x40 ∷ 0x00 ∷ 0x00 ∷ 0x9C ∷ 0x41 ∷ 0x00 ∷ 0x00 ∷ 0x00 ∷ 0x17 ∷ 0x00 ∷ 0x00 ∷ 0x00 ∷ 0x17 ∷ 0x04 ∷ 0xAC
    ∷ 0x03 ∷ 0xAC ∷ [])
    -- q/A.z()
    ∷ method (codes "g") (codes "()Z") 1 0 [] (0xB8 ∷ 0x00 ∷ 0x02 ∷ 0xAC ∷ [])
    ∷ []

-- p/T names the number 65535 and q/A.z
abbrev pub class_t : ClassTree
class_t = class 0x0021 (codes "p/T") object [] (items.Int (pos 65535)
    ∷ items.Method (id (codes "q/A") (codes "z") (codes "()Z")) ∷ []) [] methods

-- the package
abbrev pub files : Files
files = over (codes "p") (class_t ∷ [])

-- ---- components

-- the same in the bytes of Method, behind two handlers: the first covers the division alone, the second lets none
-- follow
abbrev pub part : Part
part = record {
  method = record {
    handlers = handler_at 0x15 1 false 0x17 1 ∷ handler_at 0x13 3 true 0x1D 0 ∷ [];
    methods = ((0x02 ∷ 0x10 ∷ 0x1C ∷ 0x1C ∷ 0x47 ∷ 0x78 ∷ 0x3B ∷ 0x04 ∷ 0x78 ∷ 0x3B ∷ 0x05 ∷ 0x78 ∷ 0x3B ∷ 0x06 ∷ 0x78
        ∷ [])
        ++ ((0x02 ∷ 0x10 ∷ 0x1C ∷ 0x04 ∷ 0x41 ∷ 0x78 ∷ [])
        ++ ((0x03 ∷ 0x20 ∷ 0x18 ∷ 0x1D ∷ 0x04 ∷ 0x41 ∷ 0x25 ∷ 0x78 ∷ [])
        ++ ((0x03 ∷ 0x20 ∷ 0x18 ∷ 0x1D ∷ 0x04 ∷ 0x43 ∷ 0x25 ∷ 0x78 ∷ [])
        ++ ((0x03 ∷ 0x10 ∷ 0x18 ∷ 0x18 ∷ 0x92 ∷ 0x04 ∷ 0x43 ∷ 0x25 ∷ 0x78 ∷ [])
        ++ ((0x02 ∷ 0x20 ∷ 0x1C ∷ 0x1D ∷ 0x47 ∷ 0x78 ∷ [])
        ++ ((0x02 ∷ 0x10 ∷ 0x1C ∷ 0x10 ∷ 0x14 ∷ 0x51 ∷ 0x78 ∷ [])
        ++ ((0x02 ∷ 0x10 ∷ 0x1C ∷ 0x10 ∷ 0x10 ∷ 0x4D ∷ 0x78 ∷ [])
        ++ ((0x02 ∷ 0x10 ∷ 0x1C ∷ 0x02 ∷ 0x53 ∷ 0x78 ∷ [])
        ++ ((0x01 ∷ 0x10 ∷ 0x1C ∷ 0x75 ∷ 0x00 ∷ 0x0D ∷ 0x00 ∷ 0x01 ∷ 0x00 ∷ 0x05 ∷ 0x00 ∷ 0x09 ∷ 0x04 ∷ 0x78 ∷ 0x05
        ∷ 0x78 ∷ 0x03 ∷ 0x78 ∷ [])
        ++ ((0x01 ∷ 0x10 ∷ 0x1C ∷ 0x3B ∷ 0x70 ∷ 0x04 ∷ 0x04 ∷ 0x78 ∷ 0x03 ∷ 0x78 ∷ [])
        ++ (0x01 ∷ 0x00 ∷ 0x8D ∷ 0x00 ∷ 0x02 ∷ 0x78 ∷ []))))))))))));
  };
  pool = Classref (Outside 0 0) ∷ Classref (Outside 0 5) ∷ StaticMethodref (refs.Outside 1 0 1) ∷ [];
  class = record { interfaces = []; classes = class_with (Outside 0 0) 1 [] ∷ [] };
  descriptor = described 2 (method_at 0xFF 9 17 13 ∷ method_at 0xFF 9 32 4 ∷ method_at 0xFF 9 38 6
      ∷ method_at 0xFF 9 46 6 ∷ method_at 0xFF 9 54 7 ∷ method_at 0xFF 9 63 4 ∷ method_at 0xFF 9 69 5
      ∷ method_at 0xFF 9 76 5 ∷ method_at 0xFF 9 83 4 ∷ method_at 0xFF 9 89 16 ∷ method_at 0xFF 9 107 8
      ∷ method_at 0xFF 9 117 4 ∷ []) ∷ [];
  exports = [];
  statics = no_statics;
  imports = OfFile 0 ∷ OfFile 1 ∷ [];
  classes = names (codes "p/T") (named (codes "c") (codes "(S)S") ∷ named (codes "f") (codes "(S)S")
      ∷ named (codes "h") (codes "([BS)B") ∷ named (codes "i") (codes "([BS)B") ∷ named (codes "j") (codes "([B)B")
      ∷ named (codes "d") (codes "(SS)S") ∷ named (codes "u") (codes "(S)S") ∷ named (codes "l") (codes "(S)S")
      ∷ named (codes "m") (codes "(S)S") ∷ named (codes "s") (codes "(S)S") ∷ named (codes "t") (codes "(S)S")
      ∷ named (codes "g") (codes "()Z") ∷ []) ∷ [];
  cells = [];
}

-- the package over the export files
abbrev pub components : Loaded
components = loaded part

-- the same with a stop bit in every handler
abbrev pub all_stop : Loaded
all_stop = loaded (record part {
  method = record part.method {
    handlers = handler_at 0x15 1 true 0x17 1
        ∷ handler_at 0x13 3 true 0x1D 0 ∷ [];
  };
})
