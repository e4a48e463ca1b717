-- The tree of the export file of java/lang.
use Rattle.std.specs.Prelude.{ℕ, true, List, [], ◌∷◌, codes}
use Rattle.cjc_cmd_card.specs.ExportFile.declared.tree.ExportClass.{ExportClass}
use Rattle.cjc_cmd_card.specs.ExportFile.declared.tree.ExportMethod.{ExportMethod}
use Rattle.cjc_cmd_card.specs.ExportFile.declared.tree.ExportTree.{ExportTree}

-- a public method with token 0
abbrev pub method : (name desc : List ℕ) → ExportMethod
method name desc = record { token = 0; flags = 1; name = name; desc = desc }

-- a public class with its constructor and equals
abbrev pub class : (token : ℕ) (name : List ℕ) (supers : List (List ℕ)) → ExportClass
class token name supers = record {
  token = token;
  flags = 1;
  name = name;
  listed = supers;
  supers = supers;
  interfaces = [];
  fields = [];
  methods = method (codes "<init>") (codes "()V") ∷ method (codes "equals") (codes "(Ljava/lang/Object;)Z") ∷ [];
}

-- the superclasses of an exception at run time
abbrev pub above_exceptions : List (List ℕ)
above_exceptions = codes "java/lang/RuntimeException" ∷ codes "java/lang/Exception" ∷ codes "java/lang/Throwable"
    ∷ codes "java/lang/Object" ∷ []

-- the package java/lang, a library of version 1.0
abbrev pub lang_tree : ExportTree
lang_tree = record {
  name = codes "java/lang";
  aid = 0xA0 ∷ 0x00 ∷ 0x00 ∷ 0x00 ∷ 0x62 ∷ 0x00 ∷ 0x01 ∷ [];
  major = 1;
  minor = 0;
  library = true;
  classes =
      class 0 (codes "java/lang/Object") []
      ∷ class 1 (codes "java/lang/Throwable") (codes "java/lang/Object" ∷ [])
      ∷ class 2 (codes "java/lang/Exception") (codes "java/lang/Throwable" ∷ codes "java/lang/Object" ∷ [])
      ∷ class 3 (codes "java/lang/RuntimeException") (codes "java/lang/Exception" ∷ codes "java/lang/Throwable"
      ∷ codes "java/lang/Object" ∷ [])
      ∷ class 4 (codes "java/lang/ArithmeticException") above_exceptions
      ∷ class 5 (codes "java/lang/ClassCastException") above_exceptions
      ∷ class 6 (codes "java/lang/NullPointerException") above_exceptions
      ∷ class 7 (codes "java/lang/IndexOutOfBoundsException") above_exceptions
      ∷ class 8 (codes "java/lang/ArrayIndexOutOfBoundsException") (codes "java/lang/IndexOutOfBoundsException"
      ∷ above_exceptions)
      ∷ class 9 (codes "java/lang/NegativeArraySizeException") above_exceptions
      ∷ class 10 (codes "java/lang/ArrayStoreException") above_exceptions
      ∷ [];
}
