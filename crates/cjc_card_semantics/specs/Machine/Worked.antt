-- Packages made by hand, and scripts for them.
use Rattle.std.specs.Prelude.{ℕ, List, [], ◌∷◌, ◌++◌, Option, Bool, true, false, codes}
use Rattle.cjc_export.specs.Bytes.declared.fault.MemberId.{MemberId}
use Rattle.cjc_capread.specs.declared.tree.ClassRef.{ClassRef}
use Rattle.cjc_capread.specs.declared.tree.ClassRef.TheVariants.{Inside, Outside}
use Rattle.cjc_capread.specs.declared.tree.StaticRef.TheVariants as refs
use Rattle.cjc_capread.specs.declared.tree.PoolEntry.TheVariants.{Classref, InstanceFieldref, VirtualMethodref}
use Rattle.cjc_capread.specs.declared.tree.PoolEntry.TheVariants.{StaticFieldref, StaticMethodref}
use Rattle.cjc_capread.specs.declared.tree.ClassEntry.{ClassEntry}
use Rattle.cjc_capread.specs.declared.tree.Handler.{Handler}
use Rattle.cjc_capread.specs.declared.tree.MethodDescriptor.{MethodDescriptor}
use Rattle.cjc_capread.specs.declared.tree.ClassDescriptor.{ClassDescriptor}
use Rattle.cjc_capread.specs.declared.tree.StaticField.{StaticField}
use Rattle.cjc_export.specs.declared.tree.ExportMethod.{ExportMethod}
use Rattle.cjc_export.specs.declared.tree.ExportClass.{ExportClass}
use Rattle.cjc_export.specs.declared.tree.ExportTree.{ExportTree}
use Rattle.cjc_script.specs.declared.value.Value.{Value}
use Rattle.cjc_script.specs.declared.script.Entry.{Entry}
use Rattle.cjc_script.specs.declared.script.Answer.{Answer}
use Rattle.cjc_script.specs.declared.script.Script.{Script}
use Rattle.cjc_script.specs.declared.report.Thing.{Thing}
use Rattle.cjc_script.specs.declared.report.Thing.TheVariants as things
use Rattle.cjc_script.specs.declared.report.Note.{Note}
use Rattle.cjc_script.specs.declared.report.Outcome.{Outcome}
use Rattle.cjc_script.specs.declared.report.Report.{Report}
use Rattle.cjc_card_semantics.specs.Bytecode.Effects.{Memory, Effect, effect}
use Rattle.cjc_card_semantics.specs.Machine.Classes.{Class, Field}
use Rattle.cjc_card_semantics.specs.Machine.Statics.{Image}
use Rattle.cjc_card_semantics.specs.Machine.Operations.{Callee, Resolved}
use Rattle.cjc_card_semantics.specs.Machine.ByToken.{classes}
use Rattle.cjc_card_semantics.specs.Machine.Loaded.{MethodName, ClassNames, OfGroup, OfFile, Part, Loaded}

-- ---- how they are written here

-- a member
abbrev pub id : (class name desc : List ℕ) → MemberId
id class name desc = record { class = class; name = name; desc = desc }

-- a method at an offset, with so many bytes of code
abbrev pub method_at : (token flags offset count : ℕ) → MethodDescriptor
method_at token flags offset count = record {
  token = token;
  flags = flags;
  offset = offset;
  type_offset = 0;
  bytecode_count = count;
  handler_count = 0;
  first_handler = 0;
}

-- what Descriptor says of a class
abbrev pub described : (offset : ℕ) → List MethodDescriptor → ClassDescriptor
described offset methods = record {
  token = 0xFF;
  flags = 1;
  this_class = Inside offset;
  interfaces = [];
  fields = [];
  methods = methods;
}

-- a class without fields whose tables begin at these tokens
abbrev pub class_with : ClassRef → (public_base : ℕ) → (public_methods : List ℕ) → ClassEntry
class_with superclass base methods = record {
  flags = 0;
  superclass = superclass;
  declared_instance_size = 0;
  first_reference_token = 0xFF;
  reference_count = 0;
  public_base = base;
  package_base = 0;
  public_methods = methods;
  package_methods = [];
  interfaces = [];
}

-- a handler
abbrev pub handler_at : (start length : ℕ) (stop : Bool) (target catch_index : ℕ) → Handler
handler_at start length stop target catch_index = record {
  start = start;
  stop = stop;
  length = length;
  handler = target;
  catch_index = catch_index;
}

-- no static field
abbrev pub no_statics : StaticField
no_statics = record { image_size = 0; reference_count = 0; array_inits = []; default_value_count = 0; values = [] }

-- a method's name
abbrev pub named : (name desc : List ℕ) → MethodName
named name desc = record { name = name; desc = desc }

-- the names of a class without fields
abbrev pub names : (class : List ℕ) → List MethodName → ClassNames
names class methods = record { name = class; methods = methods; fields = []; interface_methods = [] }

-- an entry that calls a static method
abbrev pub call : (class name desc : List ℕ) → List Value → Entry
call class name desc args = record {
  number = 0;
  acts = [];
  virtual_call = false;
  method = id class name desc;
  args = args;
}

-- an entry that sends to the first of its values
abbrev pub send : (class name desc : List ℕ) → List Value → Entry
send class name desc args = record {
  number = 0;
  acts = [];
  virtual_call = true;
  method = id class name desc;
  args = args;
}

-- entries and answers
abbrev pub script : List Entry → List Answer → Script
script entries answers = record { entries = entries; answers = answers }

-- a report without static cells
abbrev pub ends : List Note → List Thing → Outcome → (spent : ℕ) → Report
ends notes heap outcome spent = record { notes = notes; statics = []; heap = heap; outcome = outcome; spent = spent }

-- an object of a class without fields
abbrev pub bare : (class : List ℕ) → Thing
bare class = things.Object class []

-- what an instruction of the group asks of the machine
abbrev pub does : Loaded → Resolved → (room next : ℕ) → List (Option Value) → Memory Class Field (List Image)
    → List Value → Effect Class Field Callee (List Image)
does l operation room next locals m stack = effect (classes l) operation room next locals m stack

-- ---- java/lang

-- a method of an export file
abbrev pub exported_method : (token flags : ℕ) (name desc : List ℕ) → ExportMethod
exported_method token flags name desc = record { token = token; flags = flags; name = name; desc = desc }

-- a class with its constructor and equals
abbrev pub exported : (token : ℕ) (name : List ℕ) (supers : List (List ℕ)) → ExportClass
exported token name supers = record {
  token = token;
  flags = 1;
  name = name;
  listed = supers;
  supers = supers;
  interfaces = [];
  fields = [];
  methods = exported_method 0 1 (codes "<init>") (codes "()V") ∷ exported_method 0 1 (codes "equals")
      (codes "(Ljava/lang/Object;)Z") ∷ [];
}

-- an export file
abbrev pub tree : (name : List ℕ) → List ExportClass → ExportTree
tree name classes = record { name = name; aid = []; major = 1; minor = 0; library = true; classes = classes }

-- the class of all
abbrev pub object : List ℕ
object = codes "java/lang/Object"

-- an exception of java/lang
abbrev pub exception : (token : ℕ) (name : List ℕ) → ExportClass
exception token name = exported token name (codes "java/lang/RuntimeException" ∷ codes "java/lang/Exception"
    ∷ codes "java/lang/Throwable" ∷ object ∷ [])

-- the export file of java/lang
abbrev pub lang : ExportTree
lang = tree (codes "java/lang") (
    exported 0 object []
    ∷ exported 1 (codes "java/lang/Throwable") (object ∷ [])
    ∷ exported 2 (codes "java/lang/Exception") (codes "java/lang/Throwable" ∷ object ∷ [])
    ∷ exported 3 (codes "java/lang/RuntimeException") (codes "java/lang/Exception" ∷ codes "java/lang/Throwable"
    ∷ object ∷ [])
    ∷ exception 4 (codes "java/lang/ArithmeticException")
    ∷ exception 5 (codes "java/lang/ClassCastException")
    ∷ exception 6 (codes "java/lang/NullPointerException")
    ∷ exception 7 (codes "java/lang/ArrayIndexOutOfBoundsException")
    ∷ exception 8 (codes "java/lang/NegativeArraySizeException")
    ∷ exception 9 (codes "java/lang/ArrayStoreException")
    ∷ [])

-- a package by itself over java/lang
abbrev pub alone : Part → Loaded
alone part = record { parts = part ∷ []; trees = lang ∷ [] }

-- p/A extends Object, p/B extends p/A with an entry 0xFFFF for w and fields s, i and r; p/T with static methods.
-- 17 T.e: (S)S sload_0 sload_0 sdiv sreturn; at 23 pop sconst_1 sreturn; at 29 pop sconst_3 sreturn
-- 32 A.v: ()S gives 1
-- 36 A.w: ()S gives 3
-- 40 B.v: ()S gives 2
-- 44 T.g: (S)S sload_0 sconst_1 sadd sreturn
-- 50 T.f: (S)S sload_0 invokestatic g sreturn
-- 57 T.h: ()S new B invokevirtual v sreturn
-- 66 T.u: ()S new B invokevirtual w sreturn
abbrev pub calls : Part
calls = record {
  method = record {
    handlers = handler_at 0x15 1 false 0x17 1 ∷ handler_at 0x13 3 true 0x1D 0 ∷ [];
    methods = (2 ∷ 16 ∷ 28 ∷ 28 ∷ 71 ∷ 120 ∷ 59 ∷ 4 ∷ 120 ∷ 59 ∷ 5 ∷ 120 ∷ 59 ∷ 6 ∷ 120 ∷ [])
        ++ (1 ∷ 16 ∷ 4 ∷ 120 ∷ []) ++ (1 ∷ 16 ∷ 6 ∷ 120 ∷ []) ++ (1 ∷ 16 ∷ 5 ∷ 120 ∷ [])
        ++ (2 ∷ 16 ∷ 28 ∷ 4 ∷ 65 ∷ 120 ∷ []) ++ (2 ∷ 16 ∷ 28 ∷ 141 ∷ 0 ∷ 2 ∷ 120 ∷ []) ++ (1 ∷ 0 ∷ 143 ∷ 0 ∷ 5 ∷ 139 ∷ 0
        ∷ 3 ∷ 120 ∷ []) ++ (1 ∷ 0 ∷ 143 ∷ 0 ∷ 5 ∷ 139 ∷ 0 ∷ 4 ∷ 120 ∷ []);
  };
  pool = Classref (Outside 0 0) ∷ Classref (Outside 0 5) ∷ StaticMethodref (refs.Inside 44)
      ∷ VirtualMethodref (Inside 2) 1 ∷ VirtualMethodref (Inside 2) 2 ∷ Classref (Inside 16) ∷ [];
  class = record {
    interfaces = [];
    classes = class_with (Outside 0 0) 1 (32 ∷ 36 ∷ [])
        ∷ record (class_with (Inside 2) 1 (40 ∷ 0xFFFF ∷ [])) {
          declared_instance_size = 4;
          first_reference_token = 3;
          reference_count = 1;
        } ∷ class_with (Outside 0 0) 1 [] ∷ [];
  };
  descriptor = described 2 (method_at 1 1 32 2 ∷ method_at 2 1 36 2 ∷ []) ∷ described 16 (method_at 1 1 40 2 ∷ [])
      ∷ described 30 (method_at 0xFF 9 17 13 ∷ method_at 0xFF 9 50 5 ∷ method_at 0xFF 9 44 4 ∷ method_at 0xFF 9 57 7
      ∷ method_at 0xFF 9 66 7 ∷ []) ∷ [];
  exports = [];
  statics = no_statics;
  imports = OfFile 0 ∷ [];
  classes = names (codes "p/A") (named (codes "v") (codes "()S") ∷ named (codes "w") (codes "()S") ∷ [])
      ∷ record {
        name = codes "p/B";
        methods = named (codes "v") (codes "()S") ∷ [];
        fields = record {
          token = 0;
          name = codes "s";
          desc = codes "S";
        } ∷ record { token = 1; name = codes "i"; desc = codes "I" } ∷ record {
          token =
              3;
          name = codes "r";
          desc = codes "Ljava/lang/Object;";
        } ∷ [];
        interface_methods = [];
      }
      ∷ names (codes "p/T") (named (codes "e") (codes "(S)S") ∷ named (codes "f") (codes "(S)S")
      ∷ named (codes "g") (codes "(S)S") ∷ named (codes "h") (codes "()S") ∷ named (codes "u") (codes "()S") ∷ []) ∷ [];
  cells = [];
}

-- q/I has a and b; q/A implements it by tokens 2 and 1; q/B extends q/A and lists no interface; q/T.k makes a B and
-- calls I.b.
-- 1 A.b: ()S bspush 7 sreturn
-- 6 A.a: ()S sconst_3 sreturn
-- 10 T.k: ()S new B invokeinterface I.b sreturn
abbrev pub maps : Part
maps = record {
  method = record {
    handlers = [];
    methods = (1 ∷ 16 ∷ 16 ∷ 7 ∷ 120 ∷ []) ++ (1 ∷ 16 ∷ 6 ∷ 120 ∷ [])
        ++ (1 ∷ 0 ∷ 143 ∷ 0 ∷ 0 ∷ 142 ∷ 1 ∷ 0 ∷ 1 ∷ 1 ∷ 120 ∷ []);
  };
  pool = Classref (Inside 22) ∷ Classref (Inside 2) ∷ [];
  class = record {
    interfaces = record { flags = 8; superinterfaces = [] } ∷ [];
    classes = record (class_with (Outside 0 0) 1 (1 ∷ 6 ∷ [])) {
      interfaces = record {
        interface = Inside 2;
        index = 2 ∷ 1 ∷ [];
      } ∷ [];
    } ∷ class_with (Inside 3) 3 [] ∷ class_with (Outside 0 0) 1 [] ∷ [];
  };
  descriptor = described 2 (method_at 0 0x41 0 0 ∷ method_at 1 0x41 0 0 ∷ []) ∷ described 3 (method_at 1 1 1 3
      ∷ method_at 2 1 6 2 ∷ []) ∷ described 22 [] ∷ described 32 (method_at 0xFF 9 10 9 ∷ []) ∷ [];
  exports = [];
  statics = no_statics;
  imports = OfFile 0 ∷ [];
  classes = record {
    name = codes "q/I";
    methods = named (codes "a") (codes "()S") ∷ named (codes "b") (codes "()S")
        ∷ [];
    fields = [];
    interface_methods = named (codes "a") (codes "()S") ∷ named (codes "b") (codes "()S") ∷ [];
  }
      ∷ names (codes "q/A") (named (codes "b") (codes "()S") ∷ named (codes "a") (codes "()S") ∷ [])
      ∷ names (codes "q/B") ([]) ∷ names (codes "q/T") (named (codes "k") (codes "()S") ∷ []) ∷ [];
  cells = [];
}

-- lib/L extends Object, with a constructor, a static method, a package-visible v and a public w that calls v.
-- 1 <init>: ()V aload_0 invokespecial Object.<init> return
-- 8 inc: (S)S sload_0 sconst_1 sadd sreturn
-- 14 v: ()S package-visible, gives 1
-- 18 w: ()S aload_0 invokevirtual v sreturn
abbrev pub lib : Part
lib = record {
  method = record {
    handlers = [];
    methods = (1 ∷ 16 ∷ 24 ∷ 140 ∷ 0 ∷ 0 ∷ 122 ∷ []) ++ (2 ∷ 16 ∷ 28 ∷ 4 ∷ 65 ∷ 120 ∷ [])
        ++ (1 ∷ 16 ∷ 4 ∷ 120 ∷ []) ++ (1 ∷ 16 ∷ 24 ∷ 139 ∷ 0 ∷ 1 ∷ 120 ∷ []);
  };
  pool = StaticMethodref (refs.Outside 0 0 0) ∷ VirtualMethodref (Inside 2) 0x80 ∷ [];
  class = record {
    interfaces = [];
    classes = record (class_with (Outside 0 0) 1 (18 ∷ [])) {
      package_methods = 14
          ∷ [];
    } ∷ [];
  };
  descriptor = described 2 (method_at 0 0x81 1 5 ∷ method_at 1 9 8 4 ∷ method_at 0x80 0 14 2 ∷ method_at 1 1 18 5 ∷ [])
      ∷ [];
  exports = record { class_offset = 2; fields = []; methods = 1 ∷ 8 ∷ [] } ∷ [];
  statics = no_statics;
  imports = OfFile 0 ∷ [];
  classes = names (codes "lib/L") (named (codes "<init>") (codes "()V") ∷ named (codes "inc") (codes "(S)S")
      ∷ named (codes "v") (codes "()S") ∷ named (codes "w") (codes "()S") ∷ []) ∷ [];
  cells = [];
}

-- app/M extends lib/L: f calls L.inc, v is public with token 2, k makes an M and calls w on it.
-- 1 f: (S)S sload_0 invokestatic L.inc sreturn
-- 8 v: ()S gives 2
-- 12 k: ()S new M dup invokespecial L.<init> invokevirtual w sreturn
abbrev pub app : Part
app = record {
  method = record {
    handlers = [];
    methods = (1 ∷ 16 ∷ 28 ∷ 141 ∷ 0 ∷ 0 ∷ 120 ∷ []) ++ (1 ∷ 16 ∷ 5 ∷ 120 ∷ [])
        ++ (2 ∷ 0 ∷ 143 ∷ 0 ∷ 1 ∷ 61 ∷ 140 ∷ 0 ∷ 2 ∷ 139 ∷ 0 ∷ 3 ∷ 120 ∷ []);
  };
  pool = StaticMethodref (refs.Outside 1 0 1) ∷ Classref (Inside 2) ∷ StaticMethodref (refs.Outside 1 0 0)
      ∷ VirtualMethodref (Inside 2) 1 ∷ [];
  class = record { interfaces = []; classes = class_with (Outside 1 0) 2 (8 ∷ []) ∷ [] };
  descriptor = described 2 (method_at 0xFF 9 1 5 ∷ method_at 2 1 8 2 ∷ method_at 0xFF 9 12 11 ∷ []) ∷ [];
  exports = [];
  statics = no_statics;
  imports = OfFile 0 ∷ OfGroup 0 ∷ [];
  classes = names (codes "app/M") (named (codes "f") (codes "(S)S") ∷ named (codes "v") (codes "()S")
      ∷ named (codes "k") (codes "()S") ∷ []) ∷ [];
  cells = [];
}

-- both packages, and the second by itself with the export file of the first
abbrev pub both : Loaded
both = record { parts = lib ∷ app ∷ []; trees = lang ∷ [] }

-- the export file of lib
abbrev pub lib_tree : ExportTree
lib_tree = tree (codes "lib") (record {
  token = 0;
  flags = 1;
  name = codes "lib/L";
  listed = object ∷ [];
  supers = object ∷ [];
  interfaces = [];
  fields = [];
  methods = exported_method 0 1 (codes "<init>") (codes "()V") ∷ exported_method 1 9 (codes "inc") (codes "(S)S")
      ∷ exported_method 2 9 (codes "zero") (codes "()S") ∷ exported_method 0 1 (codes "equals")
      (codes "(Ljava/lang/Object;)Z") ∷ exported_method 1 1 (codes "w") (codes "()S") ∷ [];
} ∷ [])

-- the second package over the export file of the first
abbrev pub app_alone : Loaded
app_alone = record { parts = record app { imports = OfFile 0 ∷ OfFile 1 ∷ [] } ∷ []; trees = lang ∷ lib_tree ∷ [] }

-- n/C has an int field; n/T has a static int and methods with the int opcodes that see more than the stack and the
-- locals.
-- 1 T.s: ()I iipush 70000 putstatic_i getstatic_i ireturn
-- 15 T.a: ()I sconst_2 newarray int dup sconst_1 iipush 70000 iastore sconst_1 iaload ireturn
-- 31 T.o: ()I new C dup iipush 70000 putfield_i getfield_i ireturn
-- 47 T.w: ()I the same by putfield_i_w and getfield_i_w
-- 65 C.put: (I)V iload_1 putfield_i_this return
-- 71 C.get: ()I getfield_i_this ireturn
-- 76 T.t: ()I new C astore_0 aload_0 iipush 70000 invokevirtual put aload_0 invokevirtual get ireturn (local 0 is no
-- argument)
-- 96 T.i: (I)S iload_0 itableswitch 70000 to 70001: 0, 1, else 2
-- 120 T.l: (I)S iload_0 ilookupswitch -1 and 70000: 0, else 2
abbrev pub ints : Part
ints = record {
  method = record {
    handlers = [];
    methods = (2 ∷ 0 ∷ 20 ∷ 0 ∷ 1 ∷ 17 ∷ 112 ∷ 130 ∷ 0 ∷ 0 ∷ 126 ∷ 0 ∷ 0 ∷ 121 ∷ [])
        ++ (5 ∷ 0 ∷ 5 ∷ 144 ∷ 13 ∷ 61 ∷ 4 ∷ 20 ∷ 0 ∷ 1 ∷ 17 ∷ 112 ∷ 58 ∷ 4 ∷ 39 ∷ 121 ∷ [])
        ++ (4 ∷ 0 ∷ 143 ∷ 0 ∷ 1 ∷ 61 ∷ 20 ∷ 0 ∷ 1 ∷ 17 ∷ 112 ∷ 138 ∷ 2 ∷ 134 ∷ 2 ∷ 121 ∷ [])
        ++ (4 ∷ 0 ∷ 143 ∷ 0 ∷ 1 ∷ 61 ∷ 20 ∷ 0 ∷ 1 ∷ 17 ∷ 112 ∷ 180 ∷ 0 ∷ 2 ∷ 172 ∷ 0 ∷ 2 ∷ 121 ∷ [])
        ++ (2 ∷ 48 ∷ 33 ∷ 184 ∷ 2 ∷ 122 ∷ []) ++ (2 ∷ 16 ∷ 176 ∷ 2 ∷ 121 ∷ []) ++ (4 ∷ 1 ∷ 143 ∷ 0 ∷ 1 ∷ 43 ∷ 24 ∷ 20
        ∷ 0
        ∷ 1 ∷ 17 ∷ 112 ∷ 139 ∷ 0 ∷ 3 ∷ 24 ∷ 139 ∷ 0 ∷ 4 ∷ 121 ∷ []) ++ (2 ∷ 32 ∷ 32 ∷ 116 ∷ 0 ∷ 19 ∷ 0 ∷ 1 ∷ 17 ∷ 112
        ∷ 0
        ∷ 1 ∷ 17 ∷ 113 ∷ 0 ∷ 15 ∷ 0 ∷ 17 ∷ 3 ∷ 120 ∷ 4 ∷ 120 ∷ 5 ∷ 120 ∷ []) ++ (2 ∷ 32 ∷ 32 ∷ 118 ∷ 0 ∷ 19 ∷ 0 ∷ 2
        ∷ 255
        ∷ 255 ∷ 255 ∷ 255 ∷ 0 ∷ 17 ∷ 0 ∷ 1 ∷ 17 ∷ 112 ∷ 0 ∷ 17 ∷ 3 ∷ 120 ∷ 5 ∷ 120 ∷ []);
  };
  pool = StaticFieldref (refs.Inside 0) ∷ Classref (Inside 2) ∷ InstanceFieldref (Inside 2) 0
      ∷ VirtualMethodref (Inside 2) 1 ∷ VirtualMethodref (Inside 2) 2 ∷ [];
  class = record {
    interfaces = [];
    classes = record (class_with (Outside 0 0) 1 (65 ∷ 71 ∷ []))
        { declared_instance_size = 2 } ∷ class_with (Outside 0 0) 1 [] ∷ [];
  };
  descriptor = described 2 (method_at 1 1 65 4 ∷ method_at 2 1 71 3 ∷ []) ∷ described 16 (method_at 0xFF 9 1 12
      ∷ method_at 0xFF 9 15 14 ∷ method_at 0xFF 9 31 14 ∷ method_at 0xFF 9 47 16 ∷ method_at 0xFF 9 76 18
      ∷ method_at 0xFF 9 96 22 ∷ method_at 0xFF 9 120 22 ∷ []) ∷ [];
  exports = [];
  statics = record { image_size = 4; reference_count = 0; array_inits = []; default_value_count = 4; values = [] };
  imports = OfFile 0 ∷ [];
  classes = record {
    name = codes "n/C";
    methods = named (codes "put") (codes "(I)V")
        ∷ named (codes "get") (codes "()I") ∷ [];
    fields = record { token = 0; name = codes "i"; desc = codes "I" } ∷ [];
    interface_methods = [];
  } ∷ names (codes "n/T") (named (codes "s") (codes "()I") ∷ named (codes "a") (codes "()I")
      ∷ named (codes "o") (codes "()I") ∷ named (codes "w") (codes "()I") ∷ named (codes "t") (codes "()I")
      ∷ named (codes "i") (codes "(I)S") ∷ named (codes "l") (codes "(I)S") ∷ []) ∷ [];
  cells = record { offset = 0; id = id (codes "n/T") (codes "k") (codes "I") } ∷ [];
}

-- k/A has an int field and a public, an abstract and a package-visible method; the methods of k/T each meet an end of
-- the machine.
-- 17 T.z: ()S sconst_0 sconst_0 sdiv sreturn
-- 23 T.x: ()V max_stack 0: invokestatic z, under a handler for any exception; return
-- 29 T.r: ()V max_stack 0: invokestatic one return
-- 35 T.one: ()S gives 1
-- 39 T.n: ()S aconst_null invokestatic lib/L.inc sreturn
-- 46 T.y: ()S aconst_null invokevirtual of a token that nothing has
-- 53 T.q: ()S aconst_null invokevirtual m
-- 60 T.j: ()S aconst_null invokeinterface of a token that nothing has
-- 69 T.u: ()S sload_0 of a local that is not set
-- 73 T.p: ()S new A dup sconst_1 putfield_s i getfield_s of its second token
-- 85 T.v: ()S new A dup iipush 70000 putfield_i i getfield_s i
-- 101 T.c: ()S sconst_2 anewarray A checkcast array of Object instanceof Object sreturn
-- 116 T.d: ()V sconst_0 newarray short athrow
-- 122 A.m: ()S with a flag that is not listed, gives 1
-- 126 A.b: ()S abstract
-- 128 T.k: ()S new A invokevirtual b
-- 137 A.h: ()S package-visible number 127, gives 2
-- 141 T.o: ()Lk/A; new A areturn
-- 147 T.w: ()S aconst_null invokestatic t
-- 154 T.t: (S)S gives 1, whatever word it is given
-- 158 T.e: ()S sconst_1 newarray short sconst_1 saload sreturn
-- 166 T.f: ()[S sconst_m1 newarray short areturn
-- 172 T.g: ()Lk/A; new A checkcast T areturn
-- 182 T.h: ()V sconst_1 anewarray A sconst_0 new T aastore return
-- 194 T.m: (S)S with no argument by its header: sload_0
-- 198 T.a: ()V max_stack 0: invokestatic lib/L.zero return
abbrev pub corners : Part
corners = record {
  method = record {
    handlers = handler_at 25 3 true 28 0 ∷ handler_at 156 1 true 157 0 ∷ [];
    methods = (2 ∷ 0 ∷ 3 ∷ 3 ∷ 71 ∷ 120 ∷ []) ++ (0 ∷ 0 ∷ 141 ∷ 0 ∷ 0 ∷ 122 ∷ []) ++ (0 ∷ 0 ∷ 141 ∷ 0 ∷ 1 ∷ 122 ∷ [])
        ++ (1 ∷ 0 ∷ 4 ∷ 120 ∷ []) ++ (1 ∷ 0 ∷ 1 ∷ 141 ∷ 0 ∷ 2 ∷ 120 ∷ []) ++ (1 ∷ 0 ∷ 1 ∷ 139 ∷ 0 ∷ 3 ∷ 120 ∷ [])
        ++ (1 ∷ 0 ∷ 1 ∷ 139 ∷ 0 ∷ 4 ∷ 120 ∷ []) ++ (1 ∷ 0 ∷ 1 ∷ 142 ∷ 1 ∷ 0 ∷ 5 ∷ 0 ∷ 120 ∷ [])
        ++ (1 ∷ 1 ∷ 28 ∷ 120 ∷ [])
        ++ (3 ∷ 0 ∷ 143 ∷ 0 ∷ 5 ∷ 61 ∷ 4 ∷ 137 ∷ 6 ∷ 133 ∷ 7 ∷ 120 ∷ []) ++ (4 ∷ 0 ∷ 143 ∷ 0 ∷ 5 ∷ 61 ∷ 20 ∷ 0 ∷ 1 ∷ 17
        ∷ 112 ∷ 138 ∷ 6 ∷ 133 ∷ 6 ∷ 120 ∷ []) ++ (2 ∷ 0 ∷ 5 ∷ 145 ∷ 0 ∷ 5 ∷ 148 ∷ 14 ∷ 0 ∷ 8 ∷ 149 ∷ 0 ∷ 0 ∷ 9 ∷ 120
        ∷ [])
        ++ (2 ∷ 0 ∷ 3 ∷ 144 ∷ 12 ∷ 147 ∷ []) ++ (17 ∷ 16 ∷ 4 ∷ 120 ∷ []) ++ (64 ∷ 16 ∷ [])
        ++ (2 ∷ 0 ∷ 143 ∷ 0 ∷ 5 ∷ 139 ∷ 0 ∷ 10 ∷ 120 ∷ []) ++ (1 ∷ 16 ∷ 5 ∷ 120 ∷ [])
        ++ (1 ∷ 0 ∷ 143 ∷ 0 ∷ 5 ∷ 119 ∷ [])
        ++ (1 ∷ 0 ∷ 1 ∷ 141 ∷ 0 ∷ 11 ∷ 120 ∷ []) ++ (1 ∷ 16 ∷ 4 ∷ 120 ∷ []) ++ (3 ∷ 0 ∷ 4 ∷ 144 ∷ 12 ∷ 4 ∷ 38 ∷ 120
        ∷ [])
        ++ (1 ∷ 0 ∷ 2 ∷ 144 ∷ 12 ∷ 119 ∷ []) ++ (1 ∷ 0 ∷ 143 ∷ 0 ∷ 5 ∷ 148 ∷ 0 ∷ 0 ∷ 12 ∷ 119 ∷ [])
        ++ (3 ∷ 0 ∷ 4 ∷ 145 ∷ 0 ∷ 5 ∷ 3 ∷ 143 ∷ 0 ∷ 12 ∷ 55 ∷ 122 ∷ []) ++ (1 ∷ 0 ∷ 28 ∷ 120 ∷ [])
        ++ (0 ∷ 0 ∷ 141 ∷ 0 ∷ 13 ∷ 122 ∷ []);
  };
  pool = StaticMethodref (refs.Inside 17) ∷ StaticMethodref (refs.Inside 35) ∷ StaticMethodref (refs.Outside 1 0 1)
      ∷ VirtualMethodref (Inside 2) 9 ∷ VirtualMethodref (Inside 2) 1 ∷ Classref (Inside 2)
      ∷ InstanceFieldref (Inside 2) 0 ∷ InstanceFieldref (Inside 2) 1 ∷ Classref (Outside 0 0) ∷ Classref (Outside 0 0)
      ∷ VirtualMethodref (Inside 2) 2 ∷ StaticMethodref (refs.Inside 154) ∷ Classref (Inside 18)
      ∷ StaticMethodref (refs.Outside 1 0 2) ∷ [];
  class = record {
    interfaces = [];
    classes = record (class_with (Outside 0 0) 1 (122 ∷ 126 ∷ []))
        { declared_instance_size = 2; package_base = 127; package_methods = 137 ∷ [] } ∷ class_with (Outside 0 0) 1 []
        ∷ [];
  };
  descriptor = described 2 (method_at 1 1 122 2 ∷ method_at 2 0x41 126 0 ∷ method_at 0xFF 0 137 2 ∷ [])
      ∷ described 18 (method_at 0xFF 9 17 4 ∷ method_at 0xFF 9 23 4 ∷ method_at 0xFF 9 29 4 ∷ method_at 0xFF 9 35 2
      ∷ method_at 0xFF 9 39 5 ∷ method_at 0xFF 9 46 5 ∷ method_at 0xFF 9 53 5 ∷ method_at 0xFF 9 60 7
      ∷ method_at 0xFF 9 69 2 ∷ method_at 0xFF 9 73 10 ∷ method_at 0xFF 9 85 14 ∷ method_at 0xFF 9 101 13
      ∷ method_at 0xFF 9 116 4 ∷ method_at 0xFF 9 128 7 ∷ method_at 0xFF 9 141 4 ∷ method_at 0xFF 9 147 5
      ∷ method_at 0xFF 9 154 2 ∷ method_at 0xFF 9 158 6 ∷ method_at 0xFF 9 166 4 ∷ method_at 0xFF 9 172 8
      ∷ method_at 0xFF 9 182 10 ∷ method_at 0xFF 9 194 2 ∷ method_at 0xFF 9 198 4 ∷ []) ∷ [];
  exports = [];
  statics = no_statics;
  imports = OfFile 0 ∷ OfFile 1 ∷ [];
  classes = record {
    name = codes "k/A";
    methods = named (codes "m") (codes "()S") ∷ named (codes "b") (codes "()S")
        ∷ named (codes "h") (codes "()S") ∷ [];
    fields = record { token = 0; name = codes "i"; desc = codes "I" } ∷ [];
    interface_methods = [];
  } ∷ names (codes "k/T") (named (codes "z") (codes "()S") ∷ named (codes "x") (codes "()V")
      ∷ named (codes "r") (codes "()V") ∷ named (codes "one") (codes "()S") ∷ named (codes "n") (codes "()S")
      ∷ named (codes "y") (codes "()S") ∷ named (codes "q") (codes "()S") ∷ named (codes "j") (codes "()S")
      ∷ named (codes "u") (codes "()S") ∷ named (codes "p") (codes "()S") ∷ named (codes "v") (codes "()S")
      ∷ named (codes "c") (codes "()S") ∷ named (codes "d") (codes "()V") ∷ named (codes "k") (codes "()S")
      ∷ named (codes "o") (codes "()Lk/A;") ∷ named (codes "w") (codes "()S") ∷ named (codes "t") (codes "(S)S")
      ∷ named (codes "e") (codes "()S") ∷ named (codes "f") (codes "()[S") ∷ named (codes "g") (codes "()Lk/A;")
      ∷ named (codes "h") (codes "()V") ∷ named (codes "m") (codes "(S)S") ∷ named (codes "a") (codes "()V") ∷ []) ∷ [];
  cells = [];
}

-- the package of ends over java/lang and the export file of lib
abbrev pub at_ends : Loaded
at_ends = record { parts = corners ∷ []; trees = lang ∷ lib_tree ∷ [] }
