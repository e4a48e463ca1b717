-- The export file of java/lang that the package imports (Java Card Virtual Machine Specification 2.2.2, chapter 5):
-- version 1.0,
-- with Object, Throwable and nine exceptions.
use Rattle.std.specs.Prelude.{ℕ, List, [], ◌∷◌, ◌++◌, length, codes}
use Rattle.std.specs.List.{flat_map}
use Rattle.cjc_cmd_card.specs.Bytes.AccessFlags.{acc_public}
use Rattle.cjc_cmd_make.specs.Package.ClassFile.{two, four}

-- an entry of the constant pool (section 5.6); an index of an entry counts from 0
pub data Constant : Type 0 where
  -- CONSTANT_Utf8: a text
  utf8 : List ℕ → Constant
  -- CONSTANT_Classref: the index of its name
  class : ℕ → Constant
  -- CONSTANT_Package: the index of its name, and its AID
  library : ℕ → List ℕ → Constant

-- an entry: its tag, and what it says; of the package, the flag of a library, its name, its version 1.0 and its AID
abbrev pub constant_bytes : Constant → List ℕ
constant_bytes (utf8 text) = 1 ∷ [] ++ two (length text) ++ text
constant_bytes (class name) = 7 ∷ [] ++ two name
constant_bytes (library name aid) = 13 ∷ 1 ∷ [] ++ two name ++ 0 ∷ 1 ∷ length aid ∷ aid

-- a public method with token 0: token, access_flags, name_index, descriptor_index (section 5.9)
abbrev pub method_bytes : (name desc : ℕ) → List ℕ
method_bytes name desc = 0 ∷ [] ++ two acc_public ++ two name ++ two desc

-- a public class, by its token, its index and those of its superclasses going upwards (section 5.7): token,
-- access_flags, name_index,
-- export_supers_count, supers, export_interfaces_count, export_fields_count, export_methods_count, its constructor and
-- `equals`
abbrev pub class_bytes : (token own : ℕ) → List ℕ → List ℕ
class_bytes token own supers =
    token ∷ [] ++ two acc_public ++ two own ++ two (length supers) ++ flat_map two supers ++ 0 ∷ [] ++ two 0 ++ two 2
    ++ method_bytes 4 5 ++ method_bytes 6 7

-- the constant pool
abbrev pub constants : List Constant
constants =
    utf8 (codes "java/lang")  -- 0
    ∷ library 0 (0xA0 ∷ 0 ∷ 0 ∷ 0 ∷ 0x62 ∷ 0 ∷ 1 ∷ [])  -- 1
    ∷ utf8 (codes "java/lang/Object")  -- 2
    ∷ class 2  -- 3
    ∷ utf8 (codes "<init>")  -- 4
    ∷ utf8 (codes "()V")  -- 5
    ∷ utf8 (codes "equals")  -- 6
    ∷ utf8 (codes "(Ljava/lang/Object;)Z")  -- 7
    ∷ utf8 (codes "java/lang/Throwable")  -- 8
    ∷ class 8  -- 9
    ∷ utf8 (codes "java/lang/Exception")  -- 10
    ∷ class 10  -- 11
    ∷ utf8 (codes "java/lang/RuntimeException")  -- 12
    ∷ class 12  -- 13
    ∷ utf8 (codes "java/lang/ArithmeticException")  -- 14
    ∷ class 14  -- 15
    ∷ utf8 (codes "java/lang/ClassCastException")  -- 16
    ∷ class 16  -- 17
    ∷ utf8 (codes "java/lang/NullPointerException")  -- 18
    ∷ class 18  -- 19
    ∷ utf8 (codes "java/lang/IndexOutOfBoundsException")  -- 20
    ∷ class 20  -- 21
    ∷ utf8 (codes "java/lang/ArrayIndexOutOfBoundsException")  -- 22
    ∷ class 22  -- 23
    ∷ utf8 (codes "java/lang/NegativeArraySizeException")  -- 24
    ∷ class 24  -- 25
    ∷ utf8 (codes "java/lang/ArrayStoreException")  -- 26
    ∷ class 26  -- 27
    ∷ []

-- the superclasses of an exception at run time: RuntimeException, Exception, Throwable, Object
abbrev pub above_exceptions : List ℕ
above_exceptions = 13 ∷ 11 ∷ 9 ∷ 3 ∷ []

-- the classes by token
abbrev pub classes : List ℕ
classes =
    class_bytes 0 3 []
    ++ class_bytes 1 9 (3 ∷ [])
    ++ class_bytes 2 11 (9 ∷ 3 ∷ [])
    ++ class_bytes 3 13 (11 ∷ 9 ∷ 3 ∷ [])
    ++ class_bytes 4 15 above_exceptions
    ++ class_bytes 5 17 above_exceptions
    ++ class_bytes 6 19 above_exceptions
    ++ class_bytes 7 21 above_exceptions
    ++ class_bytes 8 23 (21 ∷ above_exceptions)
    ++ class_bytes 9 25 above_exceptions
    ++ class_bytes 10 27 above_exceptions

-- magic, minor_version and major_version (2.2), constant_pool_count and the constant pool, this_package,
-- export_class_count and the classes
abbrev pub lang_file : List ℕ
lang_file = four 0x00FACADE ++ 2 ∷ 2 ∷ [] ++ two (length constants) ++ flat_map constant_bytes constants ++ two 1
    ++ 11 ∷ [] ++ classes
