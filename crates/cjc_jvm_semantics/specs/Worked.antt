-- Packages made by hand, in the bytes of their code, and scripts for them.
use Rattle.std.specs.Prelude.{ℕ, List, [], ◌∷◌, ◌++◌, map, Option, Some, None, true, false, ℤ, pos, negsuc, codes}
use Rattle.cjc_code.specs.Bytes.declared.fault.MemberId.{MemberId}
use Rattle.cjc_code.specs.Bytes.declared.descriptor.Kind.TheVariants as kinds
use Rattle.cjc_code.specs.ClassFile.declared.tree.Catch.{Catch}
use Rattle.cjc_code.specs.ClassFile.declared.tree.ClassTree.{ClassTree}
use Rattle.cjc_code.specs.ClassFile.declared.tree.FieldTree.{FieldTree}
use Rattle.cjc_code.specs.ClassFile.declared.tree.MethodTree.{MethodTree}
use Rattle.cjc_code.specs.ClassFile.PoolItem.{PoolItem}
use Rattle.cjc_code.specs.ClassFile.PoolItem as items
use Rattle.cjc_code.specs.declared.insn.JInsn.{JInsn}
use Rattle.cjc_code.specs.declared.insn.JOp.{JOp}
use Rattle.cjc_code.specs.declared.insn.JOp.TheVariants as jop
use Rattle.cjc_world.specs.ExportFile.declared.tree.ExportClass.{ExportClass}
use Rattle.cjc_world.specs.ExportFile.declared.tree.ExportMethod.{ExportMethod}
use Rattle.cjc_world.specs.ExportFile.declared.tree.ExportTree.{ExportTree}
use Rattle.cjc_script.specs.declared.value.Value.{Value}
use Rattle.cjc_script.specs.declared.value.Value.TheVariants.{Num, Null}
use Rattle.cjc_script.specs.declared.script.Entry.{Entry}
use Rattle.cjc_script.specs.declared.script.Answer.{Answer}
use Rattle.cjc_script.specs.declared.script.Reply.{Reply}
use Rattle.cjc_script.specs.declared.script.Script.{Script}
use Rattle.cjc_script.specs.declared.report.FieldValue.{FieldValue}
use Rattle.cjc_script.specs.declared.report.Thing.{Thing}
use Rattle.cjc_script.specs.declared.report.Thing.TheVariants as things
use Rattle.cjc_script.specs.declared.report.Note.{Note}
use Rattle.cjc_script.specs.declared.report.Outcome.{Outcome}
use Rattle.cjc_script.specs.declared.report.Report.{Report}
use Rattle.cjc_world.specs.declared.image.StaticImage.{StaticImage}
use Rattle.cjc_world.specs.Files.{Files}
use Rattle.cjc_jvm_semantics.specs.Linked.{Method}
use Rattle.cjc_jvm_semantics.specs.Effects.{Store}
use Rattle.cjc_jvm_semantics.specs.ByName.{run}

-- ---- how they are written here

-- a member
abbrev pub id : (class name desc : List ℕ) → MemberId
id class name desc = record { class = class; name = name; desc = desc }

-- a public static method: max_stack, max_locals, code
abbrev pub method : (name desc : List ℕ) → (max_stack max_locals : ℕ) → List Catch → List ℕ → MethodTree
method name desc stack locals catches bytes = record {
  flags = 9;
  name = name;
  desc = desc;
  code = Some (record { max_stack = stack; max_locals = locals; bytes = bytes; catches = catches });
}

-- a public method of objects
abbrev pub virtual : (name desc : List ℕ) → (max_stack max_locals : ℕ) → List ℕ → MethodTree
virtual name desc stack locals bytes = record (method name desc stack locals [] bytes) { flags = 1 }

-- a public abstract method
abbrev pub abstract : (name desc : List ℕ) → MethodTree
abstract name desc = record { flags = 0x0401; name = name; desc = desc; code = None }

-- a class below a superclass
abbrev pub class : (flags : ℕ) → (name superclass : List ℕ) → (interfaces : List (List ℕ)) → List PoolItem
    → List FieldTree → List MethodTree → ClassTree
class flags name superclass interfaces pool fields methods = record {
  major = 52;
  flags = flags;
  name = name;
  superclass = superclass;
  interfaces = interfaces;
  pool = items.Other ∷ pool;
  fields = fields;
  methods = methods;
}

-- a field
abbrev pub field : (flags : ℕ) → (name desc : List ℕ) → Option ℤ → FieldTree
field flags name desc constant = record { flags = flags; name = name; desc = desc; constant = constant }

-- java/lang/Object
abbrev pub object : List ℕ
object = codes "java/lang/Object"

-- a class of an export file
abbrev pub export : (name : List ℕ) → (supers : List (List ℕ)) → List ExportMethod → ExportClass
export name supers methods = record {
  token = 0;
  flags = 1;
  name = name;
  listed = supers;
  supers = supers;
  interfaces = [];
  fields = [];
  methods = methods;
}

-- a method of an export file
abbrev pub exported : (token flags : ℕ) → (name desc : List ℕ) → ExportMethod
exported token flags name desc = record { token = token; flags = flags; name = name; desc = desc }

-- an exception of java/lang
abbrev pub exception : List ℕ → ExportClass
exception name = export name (codes "java/lang/Throwable" ∷ object ∷ []) []

-- java/lang
abbrev pub lang : ExportTree
lang = record {
  name = codes "java/lang";
  aid = [];
  major = 1;
  minor = 0;
  library = true;
  classes =
      export object [] (exported 0 1 (codes "<init>") (codes "()V") ∷ exported 0 1 (codes "equals")
      (codes "(Ljava/lang/Object;)Z") ∷ [])
      ∷ export (codes "java/lang/Throwable") (object ∷ []) []
      ∷ map exception (codes "java/lang/ArithmeticException" ∷ codes "java/lang/ClassCastException"
      ∷ codes "java/lang/NullPointerException" ∷ codes "java/lang/ArrayIndexOutOfBoundsException"
      ∷ codes "java/lang/NegativeArraySizeException" ∷ codes "java/lang/ArrayStoreException" ∷ []);
}

-- lib has class lib/L with static methods, interface lib/J with j, and class lib/K, which implements it
abbrev pub lib : ExportTree
lib = record {
  name = codes "lib";
  aid = [];
  major = 1;
  minor = 0;
  library = true;
  classes =
      export (codes "lib/L") (object ∷ []) (exported 0 9 (codes "inc") (codes "(S)S") ∷ exported 1 9 (codes "zero")
      (codes "()S") ∷ [])
      ∷ record (export (codes "lib/J") (object ∷ []) (exported 0 0x0401 (codes "j") (codes "()S") ∷ []))
      { flags = 0x0601 }
      ∷ record (export (codes "lib/K") (object ∷ []) (exported 0 1 (codes "<init>") (codes "()V")
      ∷ exported 1 1 (codes "j") (codes "()S") ∷ [])) { interfaces = codes "lib/J" ∷ [] }
      ∷ [];
}

-- a package over java/lang and lib
abbrev pub over_both : (name : List ℕ) → List ClassTree → Files
over_both name classes = record {
  package_name = name;
  lines = record { class_file = false; name = [] } ∷ record { class_file = false; name = [] }
      ∷ map (λ c. record { class_file = true; name = [] }) classes;
  classes = classes;
  exports = lang ∷ lib ∷ [];
}

-- no static field
abbrev pub no_image : StaticImage
no_image = record { arrays = []; nulls = []; zeros = []; others = [] }

-- ---- scripts and reports

-- a call of a static method
abbrev pub call : (class name desc : List ℕ) → List Value → Entry
call class name desc args = record {
  number = 0;
  acts = [];
  virtual_call = false;
  method = id class name desc;
  args = args;
}

-- a method sent to the first of these values
abbrev pub send : (class name desc : List ℕ) → List Value → Entry
send class name desc args = record (call class name desc args) { virtual_call = true }

-- an answer, numbered 1
abbrev pub answer : Reply → Answer
answer reply = record { number = 1; acts = []; reply = reply }

-- entries and answers
abbrev pub script : List Entry → List Answer → Script
script entries answers = record { entries = entries; answers = answers }

-- an object without fields
abbrev pub bare : List ℕ → Thing
bare class = things.Object class []

-- a report without static cells
abbrev pub ends : List Note → List Thing → Outcome → (spent : ℕ) → Report
ends notes heap outcome spent = record { notes = notes; statics = []; heap = heap; outcome = outcome; spent = spent }

-- ---- package p: p/T has static methods that use the other classes

-- an interface with i: ()S
abbrev pub interface_i : ClassTree
interface_i = class 0x0601 (codes "p/I") object [] [] [] (abstract (codes "i") (codes "()S") ∷ [])

-- <init> calls that of java/lang/Object; v gives 1; g is the private h, which gives 6
abbrev pub class_a : ClassTree
class_a = class 0x0021 (codes "p/A") object [] (items.Method (id object (codes "<init>") (codes "()V"))
    ∷ items.Method (id (codes "p/A") (codes "h") (codes "()S")) ∷ [])
    (field 1 (codes "s") (codes "S") None ∷ [])
    (virtual (codes "<init>") (codes "()V") 1 1 (0x2A ∷ 0xB7 ∷ 0 ∷ 1 ∷ 0xB1 ∷ [])
    ∷ virtual (codes "v") (codes "()S") 1 1 (0x04 ∷ 0xAC ∷ [])
    ∷ virtual (codes "g") (codes "()S") 1 1 (0x2A ∷ 0xB7 ∷ 0 ∷ 2 ∷ 0xAC ∷ [])
    ∷ record (virtual (codes "h") (codes "()S") 1 1 (0x10 ∷ 6 ∷ 0xAC ∷ [])) { flags = 2 } ∷ [])

-- v gives 2, w is the superclass's v, i gives 4, b is abstract
abbrev pub class_b : ClassTree
class_b = class 0x0021 (codes "p/B") (codes "p/A") (codes "p/I"
    ∷ []) (items.Method (id (codes "p/A") (codes "v") (codes "()S")) ∷ [])
    (field 1 (codes "r") (codes "Ljava/lang/Object;") None ∷ [])
    (virtual (codes "v") (codes "()S") 1 1 (0x05 ∷ 0xAC ∷ [])
    ∷ virtual (codes "w") (codes "()S") 1 1 (0x2A ∷ 0xB7 ∷ 0 ∷ 1 ∷ 0xAC ∷ [])
    ∷ virtual (codes "i") (codes "()S") 1 1 (0x07 ∷ 0xAC ∷ [])
    ∷ abstract (codes "b") (codes "()S") ∷ [])

-- p/C extends lib/K; e asks the superclass whether it equals null
abbrev pub class_c : ClassTree
class_c = class 0x0021 (codes "p/C") (codes "lib/K") []
    (items.Method (id object (codes "equals") (codes "(Ljava/lang/Object;)Z")) ∷ []) []
    (virtual (codes "e") (codes "()Z") 2 1 (0x2A ∷ 0x01 ∷ 0xB7 ∷ 0 ∷ 1 ∷ 0xAC ∷ []) ∷ [])

-- p/F extends lib/K; its j gives 7
abbrev pub class_f : ClassTree
class_f = class 0x0021 (codes "p/F") (codes "lib/K") [] [] [] (virtual (codes "j") (codes "()S") 1 1 (0x10 ∷ 7 ∷ 0xAC
    ∷ []) ∷ [])

-- p/D is abstract and implements p/I without a method; p/E extends it, and i gives 3
abbrev pub class_d : ClassTree
class_d = class 0x0421 (codes "p/D") object (codes "p/I" ∷ []) [] [] []

-- p/E, the class that extends p/D
abbrev pub class_e : ClassTree
class_e = class 0x0021 (codes "p/E") (codes "p/D") [] [] [] (virtual (codes "i") (codes "()S") 1 1 (0x06 ∷ 0xAC ∷ [])
    ∷ [])

-- what the code of p/T names, from index 1 on
abbrev pub names : List PoolItem
names =
    items.Class (codes "p/B")
    ∷ items.Class (codes "p/A")
    ∷ items.Method (id (codes "p/A") (codes "v") (codes "()S"))
    ∷ items.InterfaceMethod (id (codes "p/I") (codes "i") (codes "()S"))
    ∷ items.Method (id (codes "lib/L") (codes "inc") (codes "(S)S"))
    ∷ items.Method (id (codes "p/A") (codes "<init>") (codes "()V"))
    ∷ items.Field (id (codes "p/B") (codes "s") (codes "S"))
    ∷ items.Class (codes "[Ljava/lang/Object;")
    ∷ items.Class object
    ∷ items.Method (id (codes "p/T") (codes "add") (codes "(S)S"))
    ∷ items.Method (id (codes "p/A") (codes "nowhere") (codes "()S"))
    ∷ items.Method (id (codes "p/T") (codes "one") (codes "()S"))
    ∷ items.Method (id (codes "p/T") (codes "zero") (codes "()S"))
    ∷ items.Method (id (codes "lib/L") (codes "zero") (codes "()S"))
    ∷ items.Method (id (codes "p/B") (codes "b") (codes "()S"))
    ∷ items.Method (id (codes "p/A") (codes "equals") (codes "(Ljava/lang/Object;)Z"))
    ∷ items.Class (codes "p/T")
    ∷ items.Method (id (codes "p/B") (codes "w") (codes "()S"))
    ∷ items.InterfaceMethod (id (codes "lib/J") (codes "j") (codes "()S"))
    ∷ items.Class (codes "p/C")
    ∷ items.Method (id (codes "p/C") (codes "j") (codes "()S"))
    ∷ items.Method (id (codes "p/C") (codes "e") (codes "()Z"))
    ∷ items.Class (codes "p/E")
    ∷ items.Method (id (codes "p/D") (codes "i") (codes "()S"))
    ∷ items.Method (id (codes "p/A") (codes "g") (codes "()S"))
    ∷ items.Class (codes "p/D")
    ∷ items.Method (id (codes "p/T") (codes "back") (codes "(S)S"))
    ∷ items.Class (codes "p/F")
    ∷ []

-- a handler of a class, or of any exception
abbrev pub catch : (start end target : ℕ) → Option (List ℕ) → Catch
catch start end target class = record { start = start; end = end; target = target; class = class }

-- methods that calculate
abbrev pub calculations : List MethodTree
calculations =
    -- (short) (a + 1)
    method (codes "add") (codes "(S)S") 2 1 [] (0x1A ∷ 0x04 ∷ 0x60 ∷ 0x93 ∷ 0xAC ∷ [])
    -- b[o + 1]
    ∷ method (codes "at") (codes "([BS)S") 3 2 [] (0x2A ∷ 0x1B ∷ 0x04 ∷ 0x60 ∷ 0x33 ∷ 0xAC ∷ [])
    -- b[o - 1], b[b.length - 1]
    ∷ method (codes "before") (codes "([BS)S") 3 2 [] (0x2A ∷ 0x1B ∷ 0x04 ∷ 0x64 ∷ 0x33 ∷ 0xAC ∷ [])
    ∷ method (codes "last") (codes "([B)S") 3 1 [] (0x2A ∷ 0x2A ∷ 0xBE ∷ 0x04 ∷ 0x64 ∷ 0x33 ∷ 0xAC ∷ [])
    -- (short) (a / b)
    ∷ method (codes "div") (codes "(SS)S") 2 2 [] (0x1A ∷ 0x1B ∷ 0x6C ∷ 0x93 ∷ 0xAC ∷ [])
    -- (short) (a >>> 20)
    ∷ method (codes "ushr") (codes "(S)S") 2 1 [] (0x1A ∷ 0x10 ∷ 20 ∷ 0x7C ∷ 0x93 ∷ 0xAC ∷ [])
    -- (short) (a << 16)
    ∷ method (codes "shl") (codes "(S)S") 2 1 [] (0x1A ∷ 0x10 ∷ 16 ∷ 0x78 ∷ 0x93 ∷ 0xAC ∷ [])
    -- (short) (a / a) under three handlers, which give 1, 2 and 3
    ∷ method (codes "caught") (codes "(S)S") 2 1 (catch 2 3 5 (Some (codes "java/lang/ClassCastException"))
    ∷ catch 3 4 8 None ∷ catch 0 4 11 None ∷ [])
    (0x1A ∷ 0x1A ∷ 0x6C ∷ 0x93 ∷ 0xAC ∷ 0x57 ∷ 0x04 ∷ 0xAC ∷ 0x57 ∷ 0x05 ∷ 0xAC ∷ 0x57 ∷ 0x06 ∷ 0xAC ∷ [])
    -- the second element of a new array of two ints, which is set to a
    ∷ method (codes "ints") (codes "(I)I") 4 1 [] (0x05 ∷ 0xBC ∷ 10 ∷ 0x59 ∷ 0x04 ∷ 0x1A ∷ 0x4F ∷ 0x04 ∷ 0x2E ∷ 0xAC
    ∷ [])
    ∷ []

-- methods that call
abbrev pub calls : List MethodTree
calls =
    -- lib/L.inc(a)
    method (codes "ext") (codes "(S)S") 1 1 [] (0x1A ∷ 0xB8 ∷ 0 ∷ 5 ∷ 0xAC ∷ [])
    -- a new B's v, w, i, and equals(null)
    ∷ method (codes "virt") (codes "()S") 1 0 [] (0xBB ∷ 0 ∷ 1 ∷ 0xB6 ∷ 0 ∷ 3 ∷ 0xAC ∷ [])
    ∷ method (codes "above") (codes "()S") 1 0 [] (0xBB ∷ 0 ∷ 1 ∷ 0xB6 ∷ 0 ∷ 18 ∷ 0xAC ∷ [])
    ∷ method (codes "iface") (codes "()S") 1 0 [] (0xBB ∷ 0 ∷ 1 ∷ 0xB9 ∷ 0 ∷ 4 ∷ 1 ∷ 0 ∷ 0xAC ∷ [])
    ∷ method (codes "same") (codes "()Z") 2 0 [] (0xBB ∷ 0 ∷ 1 ∷ 0x01 ∷ 0xB6 ∷ 0 ∷ 16 ∷ 0xAC ∷ [])
    -- a new A with its constructor; a new B without
    ∷ method (codes "make") (codes "()Lp/A;") 2 0 [] (0xBB ∷ 0 ∷ 2 ∷ 0x59 ∷ 0xB7 ∷ 0 ∷ 6 ∷ 0xB0 ∷ [])
    ∷ method (codes "new") (codes "()Lp/B;") 1 0 [] (0xBB ∷ 0 ∷ 1 ∷ 0xB0 ∷ [])
    -- j of a lib/J; a new C's j and e, which reach lib/K
    ∷ method (codes "abroad") (codes "(Llib/J;)S") 1 1 [] (0x2A ∷ 0xB9 ∷ 0 ∷ 19 ∷ 1 ∷ 0 ∷ 0xAC ∷ [])
    ∷ method (codes "below") (codes "()S") 1 0 [] (0xBB ∷ 0 ∷ 20 ∷ 0xB6 ∷ 0 ∷ 21 ∷ 0xAC ∷ [])
    ∷ method (codes "super") (codes "()Z") 1 0 [] (0xBB ∷ 0 ∷ 20 ∷ 0xB6 ∷ 0 ∷ 22 ∷ 0xAC ∷ [])
    -- i of a new E through p/D, where only an interface has it; g of a new A
    ∷ method (codes "added") (codes "()S") 1 0 [] (0xBB ∷ 0 ∷ 23 ∷ 0xB6 ∷ 0 ∷ 24 ∷ 0xAC ∷ [])
    ∷ method (codes "private") (codes "()S") 1 0 [] (0xBB ∷ 0 ∷ 2 ∷ 0xB6 ∷ 0 ∷ 25 ∷ 0xAC ∷ [])
    -- 71424 is passed as a short, and comes back as one
    ∷ method (codes "pass") (codes "()I") 2 0 [] (0x11 ∷ 0x11 ∷ 0x70 ∷ 0x10 ∷ 16 ∷ 0x68 ∷ 0xB8 ∷ 0 ∷ 27 ∷ 0xAC ∷ [])
    ∷ method (codes "back") (codes "(S)S") 1 1 [] (0x1A ∷ 0xAC ∷ [])
    -- 71424 is put into a new B's short field s, and read
    ∷ method (codes "put") (codes "()I") 4 0 [] (0xBB ∷ 0 ∷ 1 ∷ 0x59 ∷ 0x11 ∷ 0x11 ∷ 0x70 ∷ 0x10 ∷ 16 ∷ 0x68 ∷ 0xB5 ∷ 0
    ∷ 7 ∷ 0xB4 ∷ 0 ∷ 7 ∷ 0xAC ∷ [])
    ∷ []

-- methods that meet an end of the machine
abbrev pub corners : List MethodTree
corners =
    -- 0 / 0; under a handler without room
    method (codes "zero") (codes "()S") 2 0 [] (0x03 ∷ 0x03 ∷ 0x6C ∷ 0xAC ∷ [])
    ∷ method (codes "noroom") (codes "()V") 0 0 (catch 0 3 3 None ∷ []) (0xB8 ∷ 0 ∷ 13 ∷ 0xB1 ∷ [])
    -- a result, and an answer, for a frame without room
    ∷ method (codes "one") (codes "()S") 1 0 [] (0x04 ∷ 0xAC ∷ [])
    ∷ method (codes "full") (codes "()V") 0 0 [] (0xB8 ∷ 0 ∷ 12 ∷ 0xB1 ∷ [])
    ∷ method (codes "answer") (codes "()V") 0 0 [] (0xB8 ∷ 0 ∷ 14 ∷ 0xB1 ∷ [])
    -- add(null); nowhere of null; v of null; w of a new A
    ∷ method (codes "other") (codes "()S") 1 0 [] (0x01 ∷ 0xB8 ∷ 0 ∷ 10 ∷ 0xAC ∷ [])
    ∷ method (codes "lost") (codes "()S") 1 0 [] (0x01 ∷ 0xB6 ∷ 0 ∷ 11 ∷ 0xAC ∷ [])
    ∷ method (codes "null") (codes "()S") 1 0 [] (0x01 ∷ 0xB6 ∷ 0 ∷ 3 ∷ 0xAC ∷ [])
    ∷ method (codes "wrong") (codes "()S") 1 0 [] (0xBB ∷ 0 ∷ 2 ∷ 0xB6 ∷ 0 ∷ 18 ∷ 0xAC ∷ [])
    -- an array of A as an array of Object, and whether that is an Object
    ∷ method (codes "arrays") (codes "()S") 1 0 [] (0x05 ∷ 0xBD ∷ 0 ∷ 2 ∷ 0xC0 ∷ 0 ∷ 8 ∷ 0xC1 ∷ 0 ∷ 9 ∷ 0xAC ∷ [])
    -- an array is thrown; an abstract method of a new B
    ∷ method (codes "toss") (codes "()V") 1 0 [] (0x03 ∷ 0xBC ∷ 9 ∷ 0xBF ∷ [])
    ∷ method (codes "abstract") (codes "()S") 1 0 [] (0xBB ∷ 0 ∷ 1 ∷ 0xB6 ∷ 0 ∷ 15 ∷ 0xAC ∷ [])
    -- an array of -1; an A as a T; an A into an array of T
    ∷ method (codes "count") (codes "()[S") 1 0 [] (0x02 ∷ 0xBC ∷ 9 ∷ 0xB0 ∷ [])
    ∷ method (codes "cast") (codes "()Lp/T;") 1 0 [] (0xBB ∷ 0 ∷ 2 ∷ 0xC0 ∷ 0 ∷ 17 ∷ 0xB0 ∷ [])
    ∷ method (codes "item") (codes "()V") 3 0 [] (0x04 ∷ 0xBD ∷ 0 ∷ 17 ∷ 0x03 ∷ 0xBB ∷ 0 ∷ 2 ∷ 0x53 ∷ 0xB1 ∷ [])
    -- a new F
    ∷ method (codes "new_f") (codes "()Lp/F;") 1 0 [] (0xBB ∷ 0 ∷ 28 ∷ 0xB0 ∷ [])
    -- a new object of an abstract class; lib/L.inc(null)
    ∷ method (codes "new_d") (codes "()Lp/D;") 1 0 [] (0xBB ∷ 0 ∷ 26 ∷ 0xB0 ∷ [])
    ∷ method (codes "abroad") (codes "()S") 1 0 [] (0x01 ∷ 0xB8 ∷ 0 ∷ 5 ∷ 0xAC ∷ [])
    -- a local that is not set
    ∷ method (codes "unset") (codes "()S") 1 1 [] (0x1A ∷ 0xAC ∷ [])
    ∷ []

-- the package
abbrev pub p : Files
p = over_both (codes "p") (interface_i ∷ class_a ∷ class_b ∷ class_c ∷ class_d ∷ class_e ∷ class_f
    ∷ class 0x0021 (codes "p/T") object [] names [] (calculations ++ (calls ++ corners)) ∷ [])

-- a run of a method of p/T
abbrev pub of_t : (name desc : List ℕ) → List Value → List Answer → Report
of_t name desc args answers = run p no_image (script (call (codes "p/T") name desc args ∷ []) answers) 100

-- the fields of a B
abbrev pub a_b : ℤ → Thing
a_b z = things.Object (codes "p/B") (record { field = id (codes "p/A") (codes "s") (codes "S"); value = Num z }
    ∷ record { field = id (codes "p/B") (codes "r") (codes "Ljava/lang/Object;"); value = Null } ∷ [])

-- the fields of an A
abbrev pub an_a : Thing
an_a = things.Object (codes "p/A") (record { field = id (codes "p/A") (codes "s") (codes "S"); value = Num (pos 0) }
    ∷ [])

-- ---- package r: static fields

-- k is 5 at first, a is an array, n is null, c is the constant 7, z is 0; next gives k + c and puts it into k
abbrev pub r : Files
r = over_both (codes "r") (class 0x0021 (codes "r/S") object [] (items.Field (id (codes "r/S") (codes "k") (codes "S"))
    ∷ items.Field (id (codes "r/S") (codes "c") (codes "S")) ∷ [])
    (field 9 (codes "n") (codes "Ljava/lang/Object;") None ∷ field 9 (codes "k") (codes "S") None
    ∷ field 9 (codes "a") (codes "[B") None ∷ field 0x19 (codes "c") (codes "S") (Some (pos 7))
    ∷ field 9 (codes "z") (codes "I") None ∷ [])
    (method (codes "next") (codes "()S") 2 0 [] (0xB2 ∷ 0 ∷ 1 ∷ 0xB2 ∷ 0 ∷ 2 ∷ 0x60 ∷ 0x59 ∷ 0xB3 ∷ 0 ∷ 1 ∷ 0xAC ∷ [])
    ∷ []) ∷ [])

-- the image of its static fields
abbrev pub r_image : StaticImage
r_image = record {
  arrays = record {
    field = id (codes "r/S") (codes "a") (codes "[B");
    kind = kinds.Byte;
    items = pos 1 ∷ negsuc 0
        ∷ [];
  } ∷ [];
  nulls = id (codes "r/S") (codes "n") (codes "Ljava/lang/Object;") ∷ [];
  zeros = id (codes "r/S") (codes "z") (codes "I") ∷ [];
  others = record { field = id (codes "r/S") (codes "k") (codes "S"); value = pos 5 } ∷ [];
}

-- a static cell of r/S
abbrev pub cell : (name desc : List ℕ) → Value → FieldValue
cell name desc value = record { field = id (codes "r/S") name desc; value = value }

-- ---- rows by themselves

-- an instruction at an offset
abbrev pub insn : (at : ℕ) → JOp → JInsn
insn at op = record { at = at; op = op }

-- a method of p/T with room for so many values; instructions stand at offsets 0 and 9
abbrev pub roomy : (max_stack : ℕ) → Method
roomy max_stack = record {
  id = id (codes "p/T") (codes "f") (codes "()V");
  is_abstract = false;
  max_stack = max_stack;
  max_locals = 2;
  insns = insn 0 jop.Nop ∷ insn 9 jop.Nop ∷ [];
  catches = [];
}

-- an array of booleans and one of shorts
abbrev pub two_arrays : Store
two_arrays = record {
  heap = things.Array (codes "[Z") (Num (pos 0) ∷ []) ∷ things.Array (codes "[S") (Num (pos 0) ∷ [])
      ∷ [];
  statics = [];
}

-- the same with another element in each
abbrev pub arrays_with : (boolean short : ℤ) → Store
arrays_with boolean short = record {
  heap = things.Array (codes "[Z") (Num boolean ∷ [])
      ∷ things.Array (codes "[S") (Num short ∷ []) ∷ [];
  statics = [];
}

-- ---- two packages

-- lib/L: inc gives (short) (a + 1); the package-visible v gives 1, and w is v
abbrev pub library_class : ClassTree
library_class = class 0x0021 (codes "lib/L") object [] (items.Method (id object (codes "<init>") (codes "()V"))
    ∷ items.Method (id (codes "lib/L") (codes "v") (codes "()S")) ∷ []) []
    (virtual (codes "<init>") (codes "()V") 1 1 (0x2A ∷ 0xB7 ∷ 0 ∷ 1 ∷ 0xB1 ∷ [])
    ∷ method (codes "inc") (codes "(S)S") 2 1 [] (0x1A ∷ 0x04 ∷ 0x60 ∷ 0x93 ∷ 0xAC ∷ [])
    ∷ record (virtual (codes "v") (codes "()S") 1 1 (0x04 ∷ 0xAC ∷ [])) { flags = 0 }
    ∷ virtual (codes "w") (codes "()S") 1 1 (0x2A ∷ 0xB6 ∷ 0 ∷ 2 ∷ 0xAC ∷ []) ∷ [])

-- app/M extends lib/L: f is inc; the public v gives 2; make makes one
abbrev pub app_class : ClassTree
app_class = class 0x0021 (codes "app/M") (codes "lib/L") [] (items.Method (id (codes "lib/L") (codes "inc")
    (codes "(S)S")) ∷ items.Class (codes "app/M") ∷ items.Method (id (codes "app/M") (codes "<init>") (codes "()V"))
    ∷ items.Method (id (codes "lib/L") (codes "<init>") (codes "()V")) ∷ []) []
    (virtual (codes "<init>") (codes "()V") 1 1 (0x2A ∷ 0xB7 ∷ 0 ∷ 4 ∷ 0xB1 ∷ [])
    ∷ method (codes "f") (codes "(S)S") 1 1 [] (0x1A ∷ 0xB8 ∷ 0 ∷ 1 ∷ 0xAC ∷ [])
    ∷ virtual (codes "v") (codes "()S") 1 1 (0x05 ∷ 0xAC ∷ [])
    ∷ method (codes "make") (codes "()Lapp/M;") 2 0 [] (0xBB ∷ 0 ∷ 2 ∷ 0x59 ∷ 0xB7 ∷ 0 ∷ 3 ∷ 0xB0 ∷ []) ∷ [])

-- what package lib exports
abbrev pub library_tree : ExportTree
library_tree = record {
  name = codes "lib";
  aid = [];
  major = 1;
  minor = 0;
  library = true;
  classes = export (codes "lib/L") (object ∷ []) (exported 0 1 (codes "<init>") (codes "()V")
      ∷ exported 1 9 (codes "inc") (codes "(S)S") ∷ exported 1 1 (codes "w") (codes "()S") ∷ []) ∷ [];
}

-- package lib, and package app over it
abbrev pub library_package : Files
library_package = record {
  package_name = codes "lib";
  lines = record { class_file = false; name = [] }
      ∷ record { class_file = true; name = [] } ∷ [];
  classes = library_class ∷ [];
  exports = lang ∷ [];
}

-- package app, which imports java/lang and lib
abbrev pub app_package : Files
app_package = record {
  package_name = codes "app";
  lines = record { class_file = false; name = [] } ∷ record { class_file = false; name = [] }
      ∷ record { class_file = true; name = [] } ∷ [];
  classes = app_class ∷ [];
  exports = lang ∷ library_tree ∷ [];
}

-- both together
abbrev pub both : List Files
both = library_package ∷ app_package ∷ []

abbrev pub no_images : List StaticImage
no_images = no_image ∷ no_image ∷ []
