-- A package made by hand as class files and as components: static fields of all kinds, and what they hold at first.
use Rattle.std.specs.Prelude.{ℕ, List, [], ◌∷◌, None, pos, codes}
use Rattle.cjc_bytes.specs.declared.descriptor.Kind.TheVariants as kinds
use Rattle.cjc_bytes.specs.declared.fault.MemberId.{MemberId}
use Rattle.cjc_code.specs.ClassFile.declared.tree.ClassTree.{ClassTree}
use Rattle.cjc_code.specs.ClassFile.PoolItem as items
use Rattle.cjc_capwrite.specs.CapRead.declared.tree.ClassRef.TheVariants.{Outside}
use Rattle.cjc_capwrite.specs.CapRead.declared.tree.StaticRef.TheVariants as refs
use Rattle.cjc_capwrite.specs.CapRead.declared.tree.PoolEntry.TheVariants.{StaticFieldref}
use Rattle.cjc_components.specs.LowerScript.declared.value.Value.TheVariants.{Num, Null, Obj}
use Rattle.cjc_components.specs.LowerScript.declared.report.FieldValue.{FieldValue}
use Rattle.cjc_components.specs.LowerScript.declared.report.Note.{Note}
use Rattle.cjc_components.specs.LowerScript.declared.report.Outcome.{Outcome}
use Rattle.cjc_components.specs.LowerScript.declared.report.Report.{Report}
use Rattle.cjc_components.specs.LowerScript.declared.report.Thing.TheVariants.{Array}
use Rattle.cjc_world.specs.declared.image.StaticImage.{StaticImage}
use Rattle.cjc_world.specs.Files.{Files}
use Rattle.cjc_components.specs.LowerJvmSemantics.Worked.{method, class, field}
use Rattle.cjc_components.specs.LowerCardSemantics.Machine.Worked.{id, method_at, described, class_with, named, names}
use Rattle.cjc_components.specs.LowerCardSemantics.Machine.Worked.{object}
use Rattle.cjc_components.specs.LowerCardSemantics.Machine.Loaded.{OfFile, Part, Loaded}
use Rattle.cjc_examples.specs.Narrow.Both.{over, loaded}

-- a field of p/T
abbrev pub of_t : (name desc : List ℕ) → MemberId
of_t name desc = id (codes "p/T") name desc

-- t is an array of bytes, o is null, z is false, s is 7; next sets z, adds the second byte to s and gives it
abbrev pub class_t : ClassTree
class_t = class 0x0021 (codes "p/T") object [] (items.Field (of_t (codes "s") (codes "S"))
    ∷ items.Field (of_t (codes "t") (codes "[B")) ∷ items.Field (of_t (codes "z") (codes "Z")) ∷ [])
    (field 8 (codes "t") (codes "[B") None ∷ field 8 (codes "o") (codes "Ljava/lang/Object;") None
    ∷ field 8 (codes "z") (codes "Z") None ∷ field 8 (codes "s") (codes "S") None ∷ [])
    (method (codes "next") (codes "()S") 3 0 [] (0x04 ∷ 0xB3 ∷ 0x00 ∷ 0x03 ∷ 0xB2 ∷ 0x00 ∷ 0x01 ∷ 0xB2 ∷ 0x00 ∷ 0x02
    ∷ 0x04 ∷ 0x33 ∷ 0x60 ∷ 0x93 ∷ 0x59 ∷ 0xB3 ∷ 0x00 ∷ 0x01 ∷ 0xAC ∷ []) ∷ [])

-- the package, and what its static fields hold at first
abbrev pub files : Files
files = over (codes "p") (class_t ∷ [])

-- t has 1, 2 and 3; o is null, z is 0 and s is 7
abbrev pub image : StaticImage
image = record {
  arrays = record { field = of_t (codes "t") (codes "[B"); kind = kinds.Byte; items = pos 1 ∷ pos 2 ∷ pos 3 ∷ [] } ∷ [];
  nulls = of_t (codes "o") (codes "Ljava/lang/Object;") ∷ [];
  zeros = of_t (codes "z") (codes "Z") ∷ [];
  others = record { field = of_t (codes "s") (codes "S"); value = pos 7 } ∷ [];
}

-- the same as components: the array, the reference, the boolean and the short stand at 0, 2, 4 and 5
abbrev pub part : Part
part = record {
  method = record {
    handlers = [];
    methods = (0x03 ∷ 0x00 ∷ 0x04 ∷ 0x80 ∷ 0x00 ∷ 0x00 ∷ 0x7D ∷ 0x00 ∷ 0x01 ∷ 0x7B ∷ 0x00
        ∷ 0x02 ∷ 0x04 ∷ 0x25 ∷ 0x41 ∷ 0x3D ∷ 0x81 ∷ 0x00 ∷ 0x01 ∷ 0x78 ∷ []);
  };
  pool = StaticFieldref (refs.Inside 4) ∷ StaticFieldref (refs.Inside 5) ∷ StaticFieldref (refs.Inside 0) ∷ [];
  class = record { interfaces = []; classes = class_with (Outside 0 0) 1 [] ∷ [] };
  descriptor = described 2 (method_at 0xFF 9 1 18 ∷ []) ∷ [];
  exports = [];
  statics = record {
    image_size = 7;
    reference_count = 2;
    array_inits = record { type_ = 3; values = 1 ∷ 2 ∷ 3 ∷ [] }
        ∷ [];
    default_value_count = 1;
    values = 0 ∷ 7 ∷ [];
  };
  imports = OfFile 0 ∷ OfFile 1 ∷ [];
  classes = names (codes "p/T") (named (codes "next") (codes "()S") ∷ []) ∷ [];
  cells = record { offset = 0; id = of_t (codes "t") (codes "[B") } ∷ record {
    offset = 2;
    id = of_t (codes "o") (codes "Ljava/lang/Object;");
  } ∷ record { offset = 4; id = of_t (codes "z") (codes "Z") }
      ∷ record { offset = 5; id = of_t (codes "s") (codes "S") } ∷ [];
}

-- the package over the export files
abbrev pub components : Loaded
components = loaded part

-- the static cells of a report, where z and s are so
abbrev pub cells : (z s : ℕ) → List FieldValue
cells z s =
    record { field = of_t (codes "t") (codes "[B"); value = Obj 0 }
    ∷ record { field = of_t (codes "o") (codes "Ljava/lang/Object;"); value = Null }
    ∷ record { field = of_t (codes "z") (codes "Z"); value = Num (pos z) }
    ∷ record { field = of_t (codes "s") (codes "S"); value = Num (pos s) } ∷ []

-- a report, whose heap is the array
abbrev pub kept : List Note → List FieldValue → Outcome → (spent : ℕ) → Report
kept notes statics outcome spent = record {
  notes = notes;
  statics = statics;
  heap = Array (codes "[B") (Num (pos 1)
      ∷ Num (pos 2) ∷ Num (pos 3) ∷ []) ∷ [];
  outcome = outcome;
  spent = spent;
}
