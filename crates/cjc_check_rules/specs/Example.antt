-- A package with an interface, two classes, fields, a handler and an array, and what is false of it where one item is
-- another.
use Rattle.std.specs.Prelude.{ℕ, codes, List, [], ◌∷◌, length, map, flat_map, reverse, Bool, true, false, if◌then◌else◌}
use Rattle.std.specs.Prelude.{Some, None, Result, Ok, Err, ℤ}
use Rattle.cjc_capread.specs.declared.tree.ClassRef.{ClassRef}
use Rattle.cjc_capread.specs.declared.tree.Header.{Header}
use Rattle.cjc_capread.specs.declared.tree.Directory.{Directory}
use Rattle.cjc_capread.specs.declared.tree.Applet.{Applet}
use Rattle.cjc_capread.specs.declared.tree.Import.{Import}
use Rattle.cjc_capread.specs.declared.tree.ConstantPool.{ConstantPool}
use Rattle.cjc_capread.specs.declared.tree.ClassInfo.{ClassInfo}
use Rattle.cjc_capread.specs.declared.tree.Handler.{Handler}
use Rattle.cjc_capread.specs.declared.tree.Method.{Method}
use Rattle.cjc_capread.specs.declared.tree.StaticField.{StaticField}
use Rattle.cjc_capread.specs.declared.tree.ReferenceLocation.{ReferenceLocation}
use Rattle.cjc_capread.specs.declared.tree.Export.{Export}
use Rattle.cjc_capread.specs.declared.tree.Descriptor.{Descriptor}
use Rattle.cjc_capread.specs.declared.tree.MethodDescriptor.{MethodDescriptor}
use Rattle.cjc_capread.specs.declared.tree.ClassRef.TheVariants.{Inside, Outside}
use Rattle.cjc_capread.specs.declared.tree.StaticRef.TheVariants as static_refs
use Rattle.cjc_capread.specs.declared.tree.PoolEntry.TheVariants.{Classref, InstanceFieldref, StaticFieldref}
use Rattle.cjc_capread.specs.declared.tree.PoolEntry.TheVariants.{StaticMethodref}
use Rattle.cjc_capread.specs.declared.tree.FieldPlace.TheVariants.{Static, Instance}
use Rattle.cjc_capread.specs.declared.tree.FieldType.TheVariants.{Short, Described}
use Rattle.cjc_capread.specs.declared.tree.CapTree.{CapTree}
use Rattle.cjc_export.specs.declared.tree.ExportClass.{ExportClass}
use Rattle.cjc_export.specs.declared.tree.ExportTree.{ExportTree}
use Rattle.cjc_check_rules.specs.Classes.{classes_at}
use Rattle.cjc_check_rules.specs.Members.{has_token}
use Rattle.cjc_capread.specs.Decode.{Instruction}
use Rattle.cjc_check_rules.specs.Spots.{ComponentPlace, Placed}
use Rattle.cjc_check_rules.specs.Codes.{instructions}
use Rattle.cjc_check_rules.specs.Instructions.{jumps}
use Rattle.cjc_check_rules.specs.Consistent.{Sentence, sentences}

-- the sentences that are false, and don't count as true, each with the tag and the offset of a place where it is broken
abbrev pub told : (number : ℕ) → ComponentPlace → List ℕ
told number s = number ∷ s.component ∷ s.offset ∷ []

-- the places of a sentence that is false and whose needed sentences are true
abbrev pub told_of : Sentence → List (List ℕ)
told_of s = if s.needed then map (told s.number) s.spots else []

-- all that is broken of a package beside its export files, in the order of the sentences
abbrev pub broken : CapTree → List ExportTree → List (List ℕ)
broken cap exports = flat_map told_of (sentences cap exports)

-- where the instructions of these bytes begin, and their jumps; none where they are no instructions
abbrev pub insns_of : Result (List (Placed Instruction)) ℕ → List (Placed Instruction)
insns_of (Err at) = []
insns_of (Ok is) = is

-- the offsets of the instructions that these bytes are
abbrev pub starts_of : List ℕ → List ℕ
starts_of bytes = map (λ p. p.at) (insns_of (instructions (length bytes) (length bytes) 0 bytes))

-- how far the instructions of these bytes may jump, in order
abbrev pub jumps_of : List ℕ → List ℤ
jumps_of bytes = flat_map (λ p. jumps p.item) (insns_of (instructions (length bytes) (length bytes) 0 bytes))

-- ---- java/lang with Object and ArithmeticException

-- a public class with its constructor and `equals`
abbrev pub exported_class : (token : ℕ) → (name : List ℕ) → (supers : List (List ℕ)) → ExportClass
exported_class token name supers = record {
  token = token;
  flags = 0x0001;
  name = name;
  listed = supers;
  supers = supers;
  interfaces = [];
  fields = [];
  methods =
      record { token = 0; flags = 0x0001; name = codes "<init>"; desc = codes "()V" }
      ∷ record { token = 0; flags = 0x0001; name = codes "equals"; desc = codes "(Ljava/lang/Object;)Z" }
      ∷ [];
}

-- the export file of java/lang, with Object and ArithmeticException
abbrev pub lang : ExportTree
lang = record {
  name = codes "java/lang";
  aid = 0xA0 ∷ 0 ∷ 0 ∷ 0 ∷ 0x62 ∷ 0 ∷ 1 ∷ [];
  major = 1;
  minor = 0;
  library = true;
  classes =
      exported_class 0 (codes "java/lang/Object") []
      ∷ exported_class 4 (codes "java/lang/ArithmeticException") (codes "java/lang/Object" ∷ [])
      ∷ [];
}

-- ---- the package

-- a method of Descriptor whose first handler is 0
abbrev pub described : (token flags offset type_offset bytecode_count handler_count : ℕ) → MethodDescriptor
described token flags offset type_offset bytecode_count handler_count = record {
  token = token;
  flags = flags;
  offset = offset;
  type_offset = type_offset;
  bytecode_count = bytecode_count;
  handler_count = handler_count;
  first_handler = 0;
}

-- I with v()S; P, a field s:S, a constructor and v()S; R, a subclass of P, static fields t:[B and s:S, a constructor
-- and a static f(S)S
-- that divides in a range with a handler. The parameters are the items that the alterations below change.

-- Header of the package p in version 1.0 with these flags
abbrev pub header_of : (flags : ℕ) → Header
header_of flags = record { flags = flags; minor = 0; major = 1; aid = 0xA0 ∷ 0 ∷ 0 ∷ 0 ∷ 1 ∷ []; name = codes "p" }

-- Directory with the sizes of Applet and Descriptor and the number of applets given
abbrev pub directory_of : (applet_size descriptor_size applet_count : ℕ) → Directory
directory_of applet_size descriptor_size applet_count = record {
  component_sizes = 17 ∷ 33 ∷ applet_size ∷ 11 ∷ 22 ∷ 33 ∷ 40 ∷ 18 ∷ 9 ∷ 11 ∷ descriptor_size ∷ 0 ∷ [];
  image_size = 4;
  array_init_count = 1;
  array_init_size = 3;
  import_count = 1;
  applet_count = applet_count;
}

-- one applet whose install method has this offset
abbrev pub applet_of : (install_method : ℕ) → Applet
applet_of install_method = record {
  applets = record {
    aid = 0xA0 ∷ 0 ∷ 0 ∷ 0 ∷ 1 ∷ [];
    install_method = install_method;
  } ∷ [];
}

-- one package of this AID alone, in this major version
abbrev pub import_under : (aid : List ℕ) → (major : ℕ) → Import
import_under aid major = record { packages = record { minor = 0; major = major; aid = aid } ∷ [] }

-- java/lang alone, in this major version
abbrev pub import_of : (major : ℕ) → Import
import_of major = import_under lang.aid major

-- five entries; the token of the instance field and the class token of the Classref are given
abbrev pub pool_of : (field class : ℕ) → ConstantPool
pool_of field class = record {
  entries =
      StaticMethodref (static_refs.Outside 0 0 0)
      ∷ InstanceFieldref (Inside 3) field
      ∷ StaticMethodref (static_refs.Inside 9)
      ∷ StaticFieldref (static_refs.Inside 2)
      ∷ Classref (Outside 0 class)
      ∷ [];
}

-- I, P and R; the superclass of P, the entry of its public table and the index of its map are given
abbrev pub class_of : (superclass : ClassRef) → (entry index : ℕ) → ClassInfo
class_of superclass entry index = record {
  interfaces = record { flags = 8; superinterfaces = [] } ∷ [];
  classes =
      record {
        flags = 0;
        superclass = superclass;
        declared_instance_size = 1;
        first_reference_token = 0xFF;
        reference_count = 0;
        public_base = 1;
        package_base = 0;
        public_methods = entry ∷ [];
        package_methods = [];
        interfaces = record { interface = Inside 2; index = index ∷ [] } ∷ [];
      }
      ∷ record {
        flags = 0;
        superclass = Inside 3;
        declared_instance_size = 0;
        first_reference_token = 0xFF;
        reference_count = 0;
        public_base = 2;
        package_base = 0;
        public_methods = [];
        package_methods = [];
        interfaces = record { interface = Inside 2; index = 1 ∷ [] } ∷ [];
      }
      ∷ [];
}

-- the four methods and their handler; its stop bit and catch index, and three bytes of the code, are given
abbrev pub method_of : (stop : Bool) → (catch_index load leave static : ℕ) → Method
method_of stop catch_index load leave static = record {
  handlers = record { start = 33; stop = stop; length = 1; handler = 35; catch_index = catch_index } ∷ [];
  methods =
      -- 9: aload_0, invokespecial 0, return
      0x01 ∷ 0x10 ∷ 0x18 ∷ 0x8C ∷ 0 ∷ 0 ∷ 0x7A
      -- 16: aload_0, getfield_s 1, sreturn
      ∷ 0x01 ∷ 0x10 ∷ load ∷ 0x85 ∷ 1 ∷ leave
      -- 22: aload_0, invokespecial 2, return
      ∷ 0x01 ∷ 0x10 ∷ 0x18 ∷ 0x8C ∷ 0 ∷ 2 ∷ 0x7A
      -- 29: sload_0, sload_0, sdiv, sreturn, pop, getstatic_s 3, sreturn
      ∷ 0x02 ∷ 0x10 ∷ 0x1C ∷ 0x1C ∷ 0x47 ∷ 0x78 ∷ 0x3B ∷ 0x7D ∷ 0 ∷ static ∷ 0x78
      ∷ [];
}

-- the image of t and s, with this number of references
abbrev pub statics_of : (reference_count : ℕ) → StaticField
statics_of reference_count = record {
  image_size = 4;
  reference_count = reference_count;
  array_inits = record { type_ = 3; values = 1 ∷ 2 ∷ 3 ∷ [] } ∷ [];
  default_value_count = 0;
  values = 0 ∷ 7 ∷ [];
}

-- the place of the index of one byte at this distance, and those of the four of two bytes
abbrev pub locations_of : (one_byte : ℕ) → ReferenceLocation
locations_of one_byte = record { one_byte = one_byte ∷ []; two_byte = 7 ∷ 6 ∷ 13 ∷ 11 ∷ [] }

-- R with its field s, its constructor and a static method at this offset
abbrev pub export_of : (method : ℕ) → Export
export_of method = record { classes = record { class_offset = 19; fields = 2 ∷ []; methods = 22 ∷ method ∷ [] } ∷ [] }

-- I, P and R, with the offset of the type of the first pool entry given
abbrev pub descriptor_of : (pool_type : ℕ) → Descriptor
descriptor_of pool_type = record {
  classes =
      record {
        token = 0xFF;
        flags = 0x40;
        this_class = Inside 2;
        interfaces = [];
        fields = [];
        methods = described 0 0x41 0 14 0 0 ∷ [];
      }
      ∷ record {
        token = 0xFF;
        flags = 0;
        this_class = Inside 3;
        interfaces = Inside 2 ∷ [];
        fields = record { token = 0; flags = 1; place = Instance (Inside 3) 0; type_ = Short } ∷ [];
        methods = described 0xFF 0x80 9 12 5 0 ∷ described 1 1 16 14 4 0 ∷ [];
      }
      ∷ record {
        token = 0;
        flags = 1;
        this_class = Inside 19;
        interfaces = Inside 2 ∷ [];
        fields =
            record { token = 0xFF; flags = 0x0A; place = Static 0; type_ = Described 18 }
            ∷ record { token = 0; flags = 9; place = Static 2; type_ = Short }
            ∷ [];
        methods = described 0 0x81 22 12 5 0 ∷ described 1 9 29 16 9 1 ∷ [];
      }
      ∷ [];
  pool_types = pool_type ∷ 14 ∷ 12 ∷ 14 ∷ 0xFFFF ∷ [];
  types =
      -- 12: ()V
      record { nibbles = 1 ∷ [] }
      -- 14: S and ()S
      ∷ record { nibbles = 4 ∷ [] }
      -- 16: (S)S
      ∷ record { nibbles = 4 ∷ 4 ∷ [] }
      -- 18: [B
      ∷ record { nibbles = 0xB ∷ [] }
      ∷ [];
}

-- the package with every item as it has to be
abbrev pub example : CapTree
example = record {
  header = header_of 2;
  directory = directory_of 0 133 0;
  applet = None;
  import = Some (import_of 1);
  pool = Some (pool_of 0 4);
  class = Some (class_of (Outside 0 0) 16 1);
  method = Some (method_of true 4 0x18 0x78 3);
  statics = Some (statics_of 1);
  locations = Some (locations_of 20);
  export = Some (export_of 29);
  descriptor = Some (descriptor_of 12);
}

-- the example with an applet whose install method has this offset
abbrev pub with_applet : (install_method : ℕ) → CapTree
with_applet install_method = record example {
  header = header_of 6;
  directory = directory_of 9 133 1;
  applet = Some (applet_of install_method);
}

-- alterations of one item each
abbrev pub altered : List CapTree
altered =
    -- a size, no ACC_EXPORT, a major version, the last byte of an AID, a class_ref, a superclass that is an interface
    record example { directory = directory_of 0 134 0 }
    ∷ record example { header = header_of 0 }
    ∷ record example { import = Some (import_of 2) }
    ∷ record example { import = Some (import_under (0xA0 ∷ 0 ∷ 0 ∷ 0 ∷ 0x62 ∷ 0 ∷ 2 ∷ []) 1) }
    ∷ record example { pool = Some (pool_of 0 9) }
    ∷ record example { class = Some (class_of (Inside 2) 16 1) }
    -- a table entry, an index of a map, the token of a field
    ∷ record example { class = Some (class_of (Outside 0 0) 17 1) }
    ∷ record example { class = Some (class_of (Outside 0 0) 16 2) }
    ∷ record example { pool = Some (pool_of 1 4) }
    -- no opcode, ssub for sreturn, the index of a StaticMethodref, a catch index, a stop bit
    ∷ record example { method = Some (method_of true 4 0xB9 0x78 3) }
    ∷ record example { method = Some (method_of true 4 0x18 0x43 3) }
    ∷ record example { method = Some (method_of true 4 0x18 0x78 0) }
    ∷ record example { method = Some (method_of true 3 0x18 0x78 3) }
    ∷ record example { method = Some (method_of false 4 0x18 0x78 3) }
    -- the place of an index, an install method that is not static, a count, an exported method, a type
    ∷ record example { locations = Some (locations_of 21) }
    ∷ with_applet 22
    ∷ record example { statics = Some (statics_of 2) }
    ∷ record example { export = Some (export_of 16) }
    ∷ record example { descriptor = Some (descriptor_of 13) }
    ∷ []

-- where each is broken
abbrev pub altered_at : List (List (List ℕ))
altered_at =
    ((701 ∷ 2 ∷ 23 ∷ []) ∷ [])
    ∷ ((702 ∷ 1 ∷ 9 ∷ []) ∷ [])
    ∷ ((703 ∷ 4 ∷ 5 ∷ []) ∷ [])
    ∷ ((703 ∷ 4 ∷ 13 ∷ []) ∷ [])
    ∷ ((704 ∷ 5 ∷ 22 ∷ []) ∷ [])
    ∷ ((705 ∷ 6 ∷ 7 ∷ []) ∷ [])
    ∷ ((706 ∷ 6 ∷ 16 ∷ []) ∷ [])
    ∷ ((707 ∷ 6 ∷ 21 ∷ []) ∷ [])
    ∷ ((708 ∷ 5 ∷ 9 ∷ []) ∷ [])
    ∷ ((709 ∷ 7 ∷ 21 ∷ []) ∷ [])
    ∷ ((710 ∷ 7 ∷ 24 ∷ []) ∷ [])
    ∷ ((711 ∷ 7 ∷ 40 ∷ []) ∷ [])
    ∷ ((712 ∷ 7 ∷ 10 ∷ []) ∷ [])
    ∷ ((713 ∷ 7 ∷ 6 ∷ []) ∷ [])
    ∷ ((714 ∷ 9 ∷ 5 ∷ []) ∷ [])
    ∷ ((715 ∷ 3 ∷ 10 ∷ []) ∷ [])
    ∷ ((716 ∷ 8 ∷ 3 ∷ []) ∷ [])
    ∷ ((717 ∷ 10 ∷ 12 ∷ []) ∷ [])
    ∷ ((718 ∷ 11 ∷ 118 ∷ []) ∷ [])
    ∷ []

-- ---- a smaller package: a public class with the static method f(S)S, sload_0, sconst_1, sadd, sreturn

-- one class with this superclass, no tables' entries and no interfaces
abbrev pub small_class : (superclass : ClassRef) → ClassInfo
small_class superclass = record {
  interfaces = [];
  classes =
      record {
        flags = 0;
        superclass = superclass;
        declared_instance_size = 0;
        first_reference_token = 0xFF;
        reference_count = 0;
        public_base = 1;
        package_base = 0;
        public_methods = [];
        package_methods = [];
        interfaces = [];
      }
      ∷ [];
}

-- one static method without handlers, with this code
abbrev pub small_method : (code : List ℕ) → Method
small_method code = record { handlers = []; methods = 0x02 ∷ 0x10 ∷ code }

-- the class with one static method at this offset
abbrev pub small_export : (method : ℕ) → Export
small_export method = record { classes = record { class_offset = 2; fields = []; methods = method ∷ [] } ∷ [] }

-- the smaller package with every item as it has to be
abbrev pub small : CapTree
small = record {
  header = header_of 2;
  directory = record {
    component_sizes = 17 ∷ 33 ∷ 0 ∷ 11 ∷ 2 ∷ 12 ∷ 7 ∷ 10 ∷ 4 ∷ 7 ∷ 26 ∷ 0 ∷ [];
    image_size = 0;
    array_init_count = 0;
    array_init_size = 0;
    import_count = 1;
    applet_count = 0;
  };
  applet = None;
  import = Some (import_of 1);
  pool = Some (record { entries = [] });
  class = Some (small_class (Outside 0 0));
  method = Some (small_method (0x1C ∷ 0x04 ∷ 0x41 ∷ 0x78 ∷ []));
  statics = Some (record {
    image_size = 0;
    reference_count = 0;
    array_inits = [];
    default_value_count = 0;
    values = [];
  });
  locations = Some (record { one_byte = []; two_byte = [] });
  export = Some (small_export 1);
  descriptor = Some (record {
    classes =
        record {
          token = 0;
          flags = 1;
          this_class = Inside 2;
          interfaces = [];
          fields = [];
          methods = described 0 9 1 2 4 0 ∷ [];
        }
        ∷ [];
    pool_types = [];
    types = record { nibbles = 4 ∷ 4 ∷ [] } ∷ [];
  });
}

-- no such class, the class itself as its superclass, a jump into an operand, an index into an empty pool, another
-- method,
-- no flags, a method cut short, and an AID without its last byte
abbrev pub changed : List CapTree
changed =
    record small { class = Some (small_class (Outside 0 11)) }
    ∷ record small { class = Some (small_class (Inside 2)) }
    ∷ record small { method = Some (small_method (0x1C ∷ 0x70 ∷ 0x01 ∷ 0x78 ∷ [])) }
    ∷ record small { method = Some (small_method (0x8F ∷ 0 ∷ 0 ∷ 0x78 ∷ [])) }
    ∷ record small { export = Some (small_export 3) }
    ∷ record small { header = header_of 0 }
    ∷ record small { method = Some (small_method (0x1C ∷ 0x04 ∷ 0x41 ∷ [])) }
    ∷ record small { import = Some (import_under (0xA0 ∷ 0 ∷ 0 ∷ 0 ∷ 0x62 ∷ 0 ∷ []) 1) }
    ∷ []

-- which sentences are false of each, and where
abbrev pub changed_at : List (List (List ℕ))
changed_at =
    ((704 ∷ 6 ∷ 6 ∷ []) ∷ [])
    ∷ ((705 ∷ 6 ∷ 6 ∷ []) ∷ [])
    ∷ ((710 ∷ 7 ∷ 7 ∷ []) ∷ [])
    ∷ ((711 ∷ 7 ∷ 7 ∷ []) ∷ (714 ∷ 9 ∷ 5 ∷ []) ∷ [])
    ∷ ((717 ∷ 10 ∷ 8 ∷ []) ∷ [])
    ∷ ((702 ∷ 1 ∷ 9 ∷ []) ∷ [])
    ∷ ((701 ∷ 2 ∷ 15 ∷ []) ∷ (709 ∷ 7 ∷ 9 ∷ []) ∷ [])
    ∷ ((701 ∷ 2 ∷ 9 ∷ []) ∷ (703 ∷ 4 ∷ 6 ∷ []) ∷ [])
    ∷ []

-- ---- tables

-- a class whose superclass is java/lang/Object, with two entries in its public table and one in its package table, and
-- a subclass at 18
-- that adds nothing
abbrev pub two_classes : ClassInfo
two_classes = record {
  interfaces = [];
  classes =
      record {
        flags = 0;
        superclass = Outside 0 0;
        declared_instance_size = 0;
        first_reference_token = 0xFF;
        reference_count = 0;
        public_base = 1;
        package_base = 0;
        public_methods = 8 ∷ 0xFFFF ∷ [];
        package_methods = 20 ∷ [];
        interfaces = [];
      }
      ∷ record {
        flags = 0;
        superclass = Inside 2;
        declared_instance_size = 0;
        first_reference_token = 0xFF;
        reference_count = 0;
        public_base = 3;
        package_base = 1;
        public_methods = [];
        package_methods = [];
        interfaces = [];
      }
      ∷ [];
}

-- which of these tokens the class at an offset has
abbrev pub tokens_at : (offset : ℕ) → List ℕ → List Bool
tokens_at offset tokens = map (has_token (reverse (classes_at two_classes)) (lang ∷ []) (Inside offset)) tokens

-- ---- handlers

-- of a method at 17 whose code is sload_0, sload_0, sdiv, sreturn and three times pop, a constant and sreturn: one for
-- the class at index 1
-- over the division, and one for any exception over all three
abbrev pub two_handlers : (stop : Bool) → List Handler
two_handlers stop =
    record { start = 0x15; stop = stop; length = 1; handler = 0x17; catch_index = 1 }
    ∷ record { start = 0x13; stop = true; length = 3; handler = 0x1D; catch_index = 0 }
    ∷ []
