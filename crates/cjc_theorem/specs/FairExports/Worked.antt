-- Export files made by hand: java/lang with all that a package needs of it, a package q, and javacard/framework with an
-- applet, an interface and a class that implements it.
use Rattle.std.specs.Prelude.{ℕ, List, [], ◌∷◌, codes}
use Rattle.cjc_token_proof.specs.CardSemantics.Machine.Worked.{exception, exported, exported_method, object, tree}
use Rattle.cjc_world.specs.ExportFile.declared.tree.ExportClass.{ExportClass}
use Rattle.cjc_world.specs.ExportFile.declared.tree.ExportMethod.{ExportMethod}
use Rattle.cjc_world.specs.ExportFile.declared.tree.ExportTree.{ExportTree}

-- equals
abbrev pub equals : ExportMethod
equals = exported_method 0 1 (codes "equals") (codes "(Ljava/lang/Object;)Z")

-- a class with these methods
abbrev pub with_methods : ExportClass → List ExportMethod → ExportClass
with_methods c methods = record c { methods = methods }

-- java/lang, each of its classes with a constructor and equals
abbrev pub lang : ExportTree
lang = record (tree (codes "java/lang") (
    exported 0 object []
    ∷ exported 1 (codes "java/lang/Throwable") (object ∷ [])
    ∷ exported 2 (codes "java/lang/Exception") (codes "java/lang/Throwable" ∷ object ∷ [])
    ∷ exported 3 (codes "java/lang/RuntimeException") (codes "java/lang/Exception" ∷ codes "java/lang/Throwable"
    ∷ object ∷ [])
    ∷ exception 4 (codes "java/lang/ArithmeticException")
    ∷ exception 5 (codes "java/lang/ClassCastException")
    ∷ exception 6 (codes "java/lang/NullPointerException")
    ∷ exception 7 (codes "java/lang/IndexOutOfBoundsException")
    ∷ exported 8 (codes "java/lang/ArrayIndexOutOfBoundsException") (codes "java/lang/IndexOutOfBoundsException"
    ∷ codes "java/lang/RuntimeException" ∷ codes "java/lang/Exception" ∷ codes "java/lang/Throwable" ∷ object ∷ [])
    ∷ exception 9 (codes "java/lang/NegativeArraySizeException")
    ∷ exception 10 (codes "java/lang/ArrayStoreException")
    ∷ [])) { aid = 0xA0 ∷ 0x00 ∷ 0x00 ∷ 0x00 ∷ 0x62 ∷ 0x00 ∷ 0x01 ∷ [] }

-- q has A with a constructor, a static z, equals, a and b
abbrev pub q : ExportTree
q = record (tree (codes "q") (with_methods (exported 0 (codes "q/A") (object ∷ [])) (
    exported_method 0 1 (codes "<init>") (codes "()V")
    ∷ exported_method 1 9 (codes "z") (codes "()Z")
    ∷ equals
    ∷ exported_method 1 1 (codes "a") (codes "()S")
    ∷ exported_method 2 1 (codes "b") (codes "()S")
    ∷ []) ∷ [])) { aid = 0xA0 ∷ 0x00 ∷ 0x00 ∷ 0x00 ∷ 0x02 ∷ [] }

-- Applet is abstract, with a protected constructor and a protected register
abbrev pub applet : ExportClass
applet = record (with_methods (exported 0 (codes "javacard/framework/Applet") (object ∷ [])) (
    exported_method 0 4 (codes "<init>") (codes "()V")
    ∷ equals
    ∷ exported_method 1 4 (codes "register") (codes "()V")
    ∷ exported_method 2 0x0401 (codes "process") (codes "(Ljavacard/framework/APDU;)V")
    ∷ [])) { flags = 0x0401 }

-- an interface with these methods
abbrev pub interface : (token : ℕ) (name : List ℕ) → List ExportMethod → ExportClass
interface token name methods = record (with_methods (exported token name (object ∷ [])) methods) { flags = 0x0601 }

-- PIN is an interface: its first method has token 0, as equals of java/lang/Object has
abbrev pub pin : ExportClass
pin = interface 3 (codes "javacard/framework/PIN") (
    exported_method 0 0x0401 (codes "check") (codes "([BSB)Z")
    ∷ exported_method 1 0x0401 (codes "getTriesRemaining") (codes "()B")
    ∷ exported_method 2 0x0401 (codes "isValidated") (codes "()Z")
    ∷ exported_method 3 0x0401 (codes "reset") (codes "()V")
    ∷ [])

-- OwnerPIN implements PIN, by virtual methods of its own
abbrev pub owner_pin : ExportClass
owner_pin = record (with_methods (exported 4 (codes "javacard/framework/OwnerPIN") (object ∷ [])) (
    exported_method 0 1 (codes "<init>") (codes "(BB)V")
    ∷ equals
    ∷ exported_method 1 1 (codes "check") (codes "([BSB)Z")
    ∷ exported_method 2 1 (codes "getTriesRemaining") (codes "()B")
    ∷ exported_method 3 4 (codes "getValidatedFlag") (codes "()Z")
    ∷ exported_method 4 1 (codes "isValidated") (codes "()Z")
    ∷ exported_method 5 1 (codes "reset") (codes "()V")
    ∷ [])) { interfaces = codes "javacard/framework/PIN" ∷ [] }

-- javacard/framework with Applet, APDU, ISOException, PIN and OwnerPIN
abbrev pub framework : ExportTree
framework = record (tree (codes "javacard/framework") (
    applet
    ∷ with_methods (exported 1 (codes "javacard/framework/APDU") (object ∷ [])) (equals
    ∷ exported_method 1 1 (codes "getBuffer") (codes "()[B") ∷ [])
    ∷ with_methods (exception 2 (codes "javacard/framework/ISOException")) (exported_method 0 9 (codes "throwIt")
    (codes "(S)V") ∷ equals ∷ [])
    ∷ pin
    ∷ owner_pin
    ∷ [])) { aid = 0xA0 ∷ 0x00 ∷ 0x00 ∷ 0x00 ∷ 0x62 ∷ 0x01 ∷ 0x01 ∷ [] }
