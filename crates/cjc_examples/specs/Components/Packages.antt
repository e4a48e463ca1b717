-- Packages made by hand, as they are written: each instruction is reached, and no jump is wide.
use Rattle.std.specs.Prelude.{ℕ, ◌+◌, List, [], ◌∷◌, ◌++◌, map, Option, Some, None, Bool, true, false, ℤ, pos, codes}
use Rattle.cjc_bytes.specs.declared.fault.MemberId.{MemberId}
use Rattle.cjc_bytes.specs.declared.settings.AppletLine.{AppletLine}
use Rattle.cjc_bytes.specs.declared.settings.FileLine.{FileLine}
use Rattle.cjc_code.specs.ClassFile.declared.tree.ClassTree.{ClassTree}
use Rattle.cjc_world.specs.ExportFile.declared.tree.ExportField.{ExportField}
use Rattle.cjc_world.specs.ExportFile.declared.tree.ExportMethod.{ExportMethod}
use Rattle.cjc_world.specs.ExportFile.declared.tree.ExportClass.{ExportClass}
use Rattle.cjc_world.specs.ExportFile.declared.tree.ExportTree.{ExportTree}
use Rattle.cjc_components.specs.LowerList.Listed.{ListTree}
use Rattle.cjc_world.specs.declared.found.Found.{Found}
use Rattle.cjc_world.specs.declared.image.StaticImage.{StaticImage}
use Rattle.cjc_world.specs.Files.{Files}
use Rattle.cjc_world.specs.Classes.{all_classes}
use Rattle.cjc_world.specs.Order.{method_order}
use Rattle.cjc_components.specs.LowerJvmSemantics.Worked.{method, virtual, abstract, class, field}
use Rattle.cjc_components.specs.LowerJvmSemantics.Wallet.{wallet_class}
use Rattle.cjc_components.specs.LowerJvmSemantics.Wallet
use Rattle.cjc_components.specs.LowerCardSemantics.Machine.Worked.{object, exported, tree}
use Rattle.cjc_components.specs.LowerNCode.declared.narrow.NMethod.{NMethod}
use Rattle.cjc_components.specs.LowerNCode.PoolOrder.{pool_order}
use Rattle.cjc_components.specs.LowerNarrow.Rows.Selected.{near_fields}
use Rattle.cjc_examples.specs.Narrow.Both.{q, all_reached}
use Rattle.cjc_examples.specs.Narrow.Calculating.{catches}
use Rattle.cjc_examples.specs.Narrow.Overriding.{class_b}
use Rattle.cjc_components.specs.Package.{LaidMethod, Package}
use Rattle.cjc_components.specs.Written.{code_at, is_abstract_at}

-- ---- how they are written here

-- a method as it is written
abbrev pub laid_by : Found → (is_abstract : Bool) → NMethod → LaidMethod
laid_by f is_abstract code = record {
  member = f;
  is_abstract = is_abstract;
  code = code;
  wide = map (λ i. false) code.insns;
}

-- a method of the package, where these instance fields have an index of one byte
abbrev pub laid : Files → (near : List MemberId) → Found → LaidMethod
laid files near f = laid_by f (is_abstract_at files f) (code_at files near all_reached f)

-- all methods, where these instance fields have an index of one byte
abbrev pub methods_with : Files → (near : List MemberId) → List LaidMethod
methods_with files near = map (laid files near) (method_order (all_classes files))

-- the pool has the same keys whichever fields have one
abbrev pub methods_of : Files → List LaidMethod
methods_of files = methods_with files (near_fields (pool_order (map (λ m. m.code) (methods_with files []))))

-- a package p of version 1.0, whose AID is A000000001
abbrev pub listed : List AppletLine → ListTree
listed applets = record {
  name = codes "list";
  «package» = codes "p";
  aid = 0xA0 ∷ 0 ∷ 0 ∷ 0 ∷ 1 ∷ [];
  major = 1;
  minor = 0;
  ints = false;
  applets = applets;
  lines = [];
}

-- with these applets, first values and files
abbrev pub package_of : List AppletLine → StaticImage → Files → Package
package_of applets image files = record {
  list = listed applets;
  files = files;
  image = image;
  methods = methods_of files;
}

-- no static field holds anything
abbrev pub no_image : StaticImage
no_image = record { arrays = []; nulls = []; zeros = []; others = [] }

-- the export file of java/lang, with as few classes as serve
abbrev pub lang : ExportTree
lang = record (tree (codes "java/lang") (exported 0 object [] ∷ exported 5 (codes "java/lang/ClassCastException")
    (object ∷ []) ∷ [])) { aid = 0xA0 ∷ 0x00 ∷ 0x00 ∷ 0x00 ∷ 0x62 ∷ 0x00 ∷ 0x01 ∷ [] }

-- a line of the list
abbrev pub line : (class_file : Bool) → FileLine
line class_file = record { class_file = class_file; name = [] }

-- export files and class files
abbrev pub files_of : List ExportTree → List ClassTree → Files
files_of exports classes = record {
  package_name = codes "p";
  lines = map (λ t. line false) exports
      ++ map (λ c. line true) classes;
  classes = classes;
  exports = exports;
}

-- ---- one method that adds 1

-- p/T, whose f(S)S adds 1
abbrev pub adds : Package
adds = package_of [] no_image (files_of (lang ∷ []) (
    class 0x0021 (codes "p/T") object [] [] [] (method (codes "f") (codes "(S)S") 2 1 [] (0x1A ∷ 0x04 ∷ 0x60 ∷ 0x93
    ∷ 0xAC ∷ []) ∷ []) ∷ []))

-- ---- a class that overrides a method of an imported class

-- that class over java/lang and the package of its superclass
abbrev pub overrides : Package
overrides = package_of [] no_image (files_of (lang ∷ q ∷ []) (class_b ∷ []))

-- ---- an abstract class that gets a method, and its subclass

-- an interface with v
abbrev pub interface_i : ClassTree
interface_i = class 0x0601 (codes "p/I") object [] [] [] (abstract (codes "v") (codes "()S") ∷ [])

-- abstract, without v
abbrev pub class_p : ClassTree
class_p = class 0x0421 (codes "p/P") object (codes "p/I" ∷ []) [] [] []

-- v gives 1
abbrev pub class_r : ClassTree
class_r = class 0x0021 (codes "p/R") (codes "p/P") [] [] [] (virtual (codes "v") (codes "()S") 1 1 (0x04 ∷ 0xAC ∷ [])
    ∷ [])

-- both classes and the interface
abbrev pub inherits : Package
inherits = package_of [] no_image (files_of (lang ∷ []) (class_r ∷ class_p ∷ interface_i ∷ []))

-- ---- handlers

-- p/T with a method that divides under handlers
abbrev pub catching : Package
catching = package_of [] no_image (files_of (lang ∷ []) (
    class 0x0021 (codes "p/T") object [] [] [] (method (codes "c") (codes "(S)S") 2 1 catches (0x1A ∷ 0x1A ∷ 0x6C ∷ 0x93
    ∷ 0xAC ∷ 0x57 ∷ 0x04 ∷ 0xAC ∷ 0x57 ∷ 0x05 ∷ 0xAC ∷ 0x57 ∷ 0x06 ∷ 0xAC ∷ []) ∷ []) ∷ []))

-- ---- an applet

-- javacard/framework has Applet
abbrev pub framework : ExportTree
framework = record (tree (codes "javacard/framework") (exported 0 (codes "javacard/framework/Applet") (object ∷ [])
    ∷ [])) { aid = 0xA0 ∷ 0x00 ∷ 0x00 ∷ 0x00 ∷ 0x62 ∷ 0x01 ∷ 0x01 ∷ [] }

-- with its install method
abbrev pub class_w : ClassTree
class_w = class 0x0021 (codes "p/W") (codes "javacard/framework/Applet") [] [] [] (method (codes "install")
    (codes "([BSB)V") 0 3 [] (0xB1 ∷ []) ∷ [])

-- beside a public interface, which is not shareable
abbrev pub installs : Package
installs = package_of (record { class = codes "p/W"; aid = 0xA0 ∷ 0x00 ∷ 0x00 ∷ 0x00 ∷ 0x01 ∷ 0x01 ∷ [] } ∷ []) no_image
    (files_of (lang ∷ framework ∷ []) (class_w ∷ interface_i ∷ []))

-- ---- members of all kinds

-- interfaces with w and x
abbrev pub interface_j : ClassTree
interface_j = class 0x0601 (codes "p/J") object [] [] [] (abstract (codes "w") (codes "()S") ∷ [])

-- p/K extends p/J and has x
abbrev pub interface_k : ClassTree
interface_k = class 0x0601 (codes "p/K") object (codes "p/J" ∷ []) [] [] (abstract (codes "x") (codes "()S") ∷ [])

-- an abstract class with fields of each group, a constant and a static field, which gets w and x
abbrev pub class_a : ClassTree
class_a = class 0x0421 (codes "p/A") object (codes "p/K" ∷ []) []
    (field 2 (codes "o") (codes "Ljava/lang/Object;") None ∷ field 1 (codes "s") (codes "S") None
    ∷ field 4 (codes "b") (codes "[B") None ∷ field 0 (codes "c") (codes "B") None
    ∷ field 0x19 (codes "five") (codes "S") (Some (pos 5)) ∷ field 8 (codes "n") (codes "Ljava/lang/Object;") None ∷ [])
    (method (codes "f") (codes "()V") 0 0 [] (0xB1 ∷ []) ∷ [])

-- its static field holds null
abbrev pub declares : Package
declares = package_of [] (record no_image {
  nulls = record {
    class = codes "p/A";
    name = codes "n";
    desc = codes "Ljava/lang/Object;";
  } ∷ [];
}) (files_of (lang ∷ []) (class_a ∷ interface_k ∷ interface_j ∷ []))

-- a method of the export file
abbrev pub told : (token flags : ℕ) → (name desc : List ℕ) → ExportMethod
told token flags name desc = record { token = token; flags = flags; name = name; desc = desc }

-- a field of the export file
abbrev pub field_told : (token flags : ℕ) → (name desc : List ℕ) → Option ℤ → ExportField
field_told token flags name desc constant = record {
  token = token;
  flags = flags;
  name = name;
  desc = desc;
  constant = constant;
}

-- the classes of its export file
abbrev pub declared : List ExportClass
declared =
    record {
      token = 0;
      flags = 0x0401;
      name = codes "p/A";
      listed = object ∷ [];
      supers = object ∷ [];
      interfaces = codes "p/J" ∷ codes "p/K" ∷ [];
      fields = field_told 0 1 (codes "s") (codes "S") None ∷ field_told 1 4 (codes "b") (codes "[B") None
          ∷ field_told 0xFF 0x19 (codes "five") (codes "S") (Some (pos 5)) ∷ [];
      methods = told 0 9 (codes "f") (codes "()V") ∷ told 1 0x0401 (codes "w") (codes "()S")
          ∷ told 2 0x0401 (codes "x") (codes "()S") ∷ told 0 1 (codes "equals") (codes "(Ljava/lang/Object;)Z") ∷ [];
    }
    ∷ record {
      token = 1;
      flags = 0x0601;
      name = codes "p/K";
      listed = object ∷ [];
      supers = object ∷ [];
      interfaces = codes "p/J" ∷ [];
      fields = [];
      methods = told 1 0x0401 (codes "x") (codes "()S") ∷ told 0 0x0401 (codes "w") (codes "()S") ∷ [];
    }
    ∷ record {
      token = 2;
      flags = 0x0601;
      name = codes "p/J";
      listed = object ∷ [];
      supers = object ∷ [];
      interfaces = [];
      fields = [];
      methods = told 0 0x0401 (codes "w") (codes "()S") ∷ [];
    }
    ∷ []

-- ---- the wallet

-- classes with tokens from one on
abbrev pub with_tokens : (token : ℕ) → List ExportClass → List ExportClass
with_tokens k [] = []
with_tokens k (c ∷ classes) = record c { token = k } ∷ with_tokens (k + 1) classes

-- javacard/framework of the wallet, with tokens
abbrev pub wallet_framework : ExportTree
wallet_framework = record Wallet.framework { classes = with_tokens 0 Wallet.framework.classes }

-- the wallet as an applet, over java/lang and that javacard/framework
abbrev pub wallet : Package
wallet = package_of (record { class = codes "p/Wallet"; aid = 0xA0 ∷ 0x00 ∷ 0x00 ∷ 0x00 ∷ 0x01 ∷ 0x01 ∷ [] }
    ∷ []) no_image (files_of (lang ∷ wallet_framework ∷ []) (wallet_class ∷ []))
