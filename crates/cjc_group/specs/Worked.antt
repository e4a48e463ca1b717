-- Groups made by hand: a library, and a package over it; an interface, one over it, and a class over that.
use Rattle.std.specs.Prelude.{ℕ, List, [], ◌∷◌, map, None, true, false, codes}
use Rattle.cjc_bytes.specs.Breaks.{Break}
use Rattle.cjc_bytes.specs.Refused.{refused_at, in_class}
use Rattle.cjc_bytes.specs.declared.fault.Refusal.{Refusal}
use Rattle.cjc_world.specs.ClassFile.declared.tree.ClassTree.{ClassTree}
use Rattle.cjc_world.specs.ClassFile.declared.tree.MethodTree.{MethodTree}
use Rattle.cjc_world.specs.ExportFile.declared.tree.ExportMethod.{ExportMethod}
use Rattle.cjc_world.specs.ExportFile.declared.tree.ExportTree.{ExportTree}
use Rattle.cjc_group.specs.Members.{Member}
use Rattle.cjc_group.specs.Missing.{missing}
use Rattle.cjc_group.specs.Rules.{breaks}

-- ---- how they are written here

-- java/lang/Object
abbrev pub object : List ℕ
object = codes "java/lang/Object"

-- a class or a method by its flags: of a class 0x0021 is public, 0x0421 public and abstract; of a method 0 is
-- package-visible, 1 public, 9 public and static, 0x0400 package-visible and abstract
abbrev pub method : (flags : ℕ) → (name : List ℕ) → MethodTree
method flags name = record { flags = flags; name = name; desc = codes "()S"; code = None }

-- a class below a superclass
abbrev pub class : (flags : ℕ) → (name superclass : List ℕ) → List MethodTree → ClassTree
class flags name superclass methods = record {
  major = 52;
  flags = flags;
  name = name;
  superclass = superclass;
  interfaces = [];
  pool = [];
  fields = [];
  methods = methods;
}

-- a public static method of an export file
abbrev pub exported : (token : ℕ) → (name : List ℕ) → ExportMethod
exported token name = record { token = token; flags = 9; name = name; desc = codes "()S" }

-- the export file of a package of one class
abbrev pub exports_class : (package_name : List ℕ) → (aid : ℕ) → (class : List ℕ) → (supers : List (List ℕ))
    → List ExportMethod → ExportTree
exports_class package_name aid class supers methods = record {
  name = package_name;
  aid = 0xA0 ∷ 0 ∷ 0 ∷ 0 ∷ aid ∷ [];
  major = 1;
  minor = 0;
  library = true;
  classes = record {
    token = 0;
    flags = 1;
    name = class;
    listed = supers;
    supers = supers;
    interfaces = [];
    fields = [];
    methods = methods;
  } ∷ [];
}

-- a package of one class by its list, with its export files and the one that is written for it
abbrev pub package_of : (list package_name : List ℕ) → (aid : ℕ) → ClassTree → List ExportTree → ExportTree → Member
package_of list package_name aid class exports written = record {
  list = record {
    name = list;
    «package» = package_name;
    aid = 0xA0 ∷ 0 ∷ 0 ∷ 0 ∷ aid ∷ [];
    major = 1;
    minor = 0;
    ints = false;
    applets = [];
    lines = [];
  };
  files = record {
    package_name = package_name;
    lines = record { class_file = true; name = [] } ∷ map (λ (t : ExportTree). record {
      class_file = false;
      name = [];
    }) exports;
    classes = class ∷ [];
    exports = exports;
  };
  written = written;
}

-- ---- packages

-- java/lang, and another of its name
abbrev pub lang : ExportTree
lang = exports_class (codes "java/lang") 1 object [] []

abbrev pub other_lang : ExportTree
other_lang = exports_class (codes "java/lang") 1 object [] (exported 0 (codes "f") ∷ [])

-- lib has class lib/L with the static method inc; before a static method dec came to stand in front of it, and after
abbrev pub lib_tree : ExportTree
lib_tree = exports_class (codes "lib") 2 (codes "lib/L") (object ∷ []) (exported 0 (codes "inc") ∷ [])

abbrev pub rebuilt_tree : ExportTree
rebuilt_tree = exports_class (codes "lib") 2 (codes "lib/L") (object ∷ []) (exported 0 (codes "dec")
    ∷ exported 1 (codes "inc") ∷ [])

abbrev pub lib : Member
lib = package_of (codes "lib.list") (codes "lib") 2 (class 0x0021 (codes "lib/L") object (method 9 (codes "inc") ∷ []))
    (lang ∷ []) lib_tree

abbrev pub rebuilt : Member
rebuilt = record lib { written = rebuilt_tree }

-- the same, and lib/L is abstract and has the package-visible abstract method inc
abbrev pub open_lib : Member
open_lib = package_of (codes "lib.list") (codes "lib") 2
    (class 0x0421 (codes "lib/L") object (method 0x0400 (codes "inc")
    ∷ [])) (lang ∷ []) lib_tree

-- app has class app/M, which extends lib/L, over java/lang and lib
abbrev pub app_over : List ExportTree → Member
app_over exports = package_of (codes "app.list") (codes "app") 3 (class 0x0021 (codes "app/M") (codes "lib/L") [])
    exports (exports_class (codes "app") 3 (codes "app/M") (codes "lib/L" ∷ object ∷ []) [])

abbrev pub app : Member
app = app_over (lang ∷ lib_tree ∷ [])

-- a package outside, whose class stands below lib/L
abbrev pub resting : ExportTree
resting = exports_class (codes "q") 9 (codes "q/R") (codes "lib/L" ∷ object ∷ []) []

-- an interface below others: of a class file, and the export file of a package of one; 0x0601 is public, abstract and an
-- interface
abbrev pub interface : (name : List ℕ) → (interfaces : List (List ℕ)) → ClassTree
interface name interfaces = record (class 0x0601 name object []) { interfaces = interfaces }

abbrev pub exports_interface : (package_name : List ℕ) → (aid : ℕ) → (name : List ℕ) → (interfaces : List (List ℕ))
    → ExportTree
exports_interface package_name aid name interfaces = record (exports_class package_name aid name [] []) {
  classes = record {
    token = 0;
    flags = 0x0601;
    name = name;
    listed = [];
    supers = object ∷ [];
    interfaces = interfaces;
    fields = [];
    methods = [];
  } ∷ [];
}

-- top has interface top/I, and mid has mid/Z, which extends it
abbrev pub top_tree : ExportTree
top_tree = exports_interface (codes "top") 4 (codes "top/I") []

abbrev pub top : Member
top = package_of (codes "top.list") (codes "top") 4 (interface (codes "top/I") []) (lang ∷ []) top_tree

abbrev pub mid_tree : ExportTree
mid_tree = exports_interface (codes "mid") 5 (codes "mid/Z") (codes "top/I" ∷ [])

abbrev pub mid : Member
mid = package_of (codes "mid.list") (codes "mid") 5 (interface (codes "mid/Z") (codes "top/I" ∷ []))
    (lang ∷ top_tree ∷ []) mid_tree

-- low has class low/Y, which implements mid/Z
abbrev pub low_over : List ExportTree → Member
low_over exports = package_of (codes "low.list") (codes "low") 6
    (record (class 0x0021 (codes "low/Y") object []) { interfaces = codes "mid/Z" ∷ [] }) exports
    (exports_class (codes "low") 6 (codes "low/Y") (object ∷ []) [])

-- ---- what they break

-- the refusals of what a group breaks
abbrev pub refusals : List Member → List Refusal
refusals group = map (λ (b : Break). b.refusal) (breaks group)

-- one, at the list of app, or at a class of it
abbrev pub at_app : (rule : ℕ) → (class : List ℕ) → List Refusal
at_app rule class = refused_at rule (in_class (codes "app.list") class [] 0) ∷ []

-- one at the list of lib
abbrev pub at_lib : (rule : ℕ) → List Refusal
at_lib rule = refused_at rule (in_class (codes "lib.list") [] [] 0) ∷ []

-- the refusals of 203
abbrev pub missing_refusals : List Member → List Refusal
missing_refusals group = map (λ (b : Break). b.refusal) (missing group)

-- one at the class of low
abbrev pub at_low : (rule : ℕ) → List Refusal
at_low rule = refused_at rule (in_class (codes "low.list") (codes "low/Y") [] 0) ∷ []
