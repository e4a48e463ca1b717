-- What the machine by name asks of the class files and export files.
use Rattle.std.specs.Prelude.{ℕ, ◌/◌, ◌%◌, List, [], ◌∷◌, flat_map, Option, Some, None, Bool, false, ◌==◌, ◌&&◌, ◌||◌, not, if◌then◌else◌}
use Rattle.cjc_bytes.specs.declared.fault.MemberId.{MemberId}
use Rattle.cjc_classfile.specs.declared.tree.Catch.{Catch}
use Rattle.cjc_classfile.specs.declared.tree.MethodTree.{MethodTree}
use Rattle.cjc_classfile.specs.declared.tree.ClassTree.{ClassTree}
use Rattle.cjc_classfile.specs.Code.{CodeTree}
use Rattle.cjc_code.specs.declared.insn.JInsn.{JInsn}
use Rattle.cjc_code.specs.Decoded.{decoded}
use Rattle.cjc_export.specs.declared.tree.ExportClass.{ExportClass}
use Rattle.cjc_export.specs.declared.tree.ExportTree.{ExportTree}
use Rattle.cjc_script.specs.declared.report.FieldValue.{FieldValue}
use Rattle.cjc_script.specs.declared.report.Thing.{Thing}
use Rattle.cjc_first.specs.Scripts.Names.{same_text, same_id, is_among}
use Rattle.cjc_first.specs.Scripts.Types.{Sort, Signature, signature}

-- a method of the package that has code; where its bytes are no instructions, it has none
pub record Method : Type 0 where
  pub id : MemberId
  pub is_static : Bool
  pub params : List Sort
  pub result : Option Sort
  pub max_stack : ℕ
  pub max_locals : ℕ
  pub insns : List JInsn
  pub catches : List Catch

-- what a call reaches: a method of the package, an imported one whose event names this class, or one that returns at once
pub data Callee : Type 0 where
  Inside : (method : Method) → Callee
  Outside : (class : List ℕ) → Callee
  AtOnce : Callee

-- the look-ups that the machine goes by
pub record Linked : Type 0 where
  -- the static cells and the heap when the initialisers have run
  pub statics : List FieldValue
  pub heap : List Thing
  -- the static method that the named class of the package declares, `<clinit>` aside
  pub entry : MemberId → Option Method
  -- the method of the package that is selected on an object of this class, which is of the named class
  pub sent : (class : List ℕ) → MemberId → Option Method
  -- what a call reaches, by its opcode, the class that holds the code and the class of the receiver, if there is one
  pub called : (op : ℕ) (holder : List ℕ) (receiver : Option (List ℕ)) → MemberId → Option Callee
  -- one class, or an array by its descriptor, is of another
  pub subtype : List ℕ → List ℕ → Bool
  -- some file has the class
  pub is_there : List ℕ → Bool
  -- an imported class that is no interface
  pub is_imported : List ℕ → Bool

-- ---- the look-ups over the lists of files, for packages whose code calls nothing and that have no object and no static cell

-- ACC_STATIC
abbrev pub is_static : ℕ → Bool
is_static flags = flags / 8 % 2 == 1

abbrev pub method_with : ClassTree → MethodTree → Option Signature → Option CodeTree → List Method
method_with class tree (Some types) (Some code) = record {
  id = record { class = class.name; name = tree.name; desc = tree.desc };
  is_static = is_static tree.flags;
  params = types.params;
  result = types.result;
  max_stack = code.max_stack;
  max_locals = code.max_locals;
  insns = decoded class tree code;
  catches = code.catches;
} ∷ []
method_with class tree types code = []

abbrev pub method_of : ClassTree → MethodTree → List Method
method_of class tree = method_with class tree (signature tree.desc) tree.code

-- the methods with code that the classes declare
unfoldable pub declared_methods : List ClassTree → List Method
declared_methods classes = flat_map (λ c. flat_map (method_of c) c.methods) classes

-- <clinit>
abbrev pub initialiser : List ℕ
initialiser = 60 ∷ 99 ∷ 108 ∷ 105 ∷ 110 ∷ 105 ∷ 116 ∷ 62 ∷ []

abbrev pub can_enter : MemberId → Method → Bool
can_enter id m = same_id m.id id && (m.is_static && not (same_text id.name initialiser))

abbrev pub entered_among : List Method → MemberId → Option Method
entered_among [] id = None
entered_among (m ∷ methods) id = if can_enter id m then Some m else entered_among methods id

abbrev pub exported : List ExportTree → List ExportClass
exported trees = flat_map (λ t. t.classes) trees

-- java/lang/Object
abbrev pub object : List ℕ
object = 106 ∷ 97 ∷ 118 ∷ 97 ∷ 47 ∷ 108 ∷ 97 ∷ 110 ∷ 103 ∷ 47 ∷ 79 ∷ 98 ∷ 106 ∷ 101 ∷ 99 ∷ 116 ∷ []

abbrev pub lists_super : List ExportClass → (sub sup : List ℕ) → Bool
lists_super [] sub sup = false
lists_super (c ∷ classes) sub sup =
    if same_text c.name sub then is_among sup c.supers || is_among sup c.interfaces else lists_super classes sub sup

abbrev pub is_array : List ℕ → Bool
is_array [] = false
is_array (c ∷ name) = c == 91

abbrev pub is_subtype : List ExportClass → (sub sup : List ℕ) → Bool
is_subtype classes sub sup =
    same_text sub sup || (if is_array sub then same_text sup object else lists_super classes sub sup)

abbrev pub has_class : List ExportClass → List ℕ → Bool
has_class [] name = false
has_class (c ∷ classes) name = same_text c.name name || has_class classes name

abbrev pub declares_class : List ClassTree → List ℕ → Bool
declares_class [] name = false
declares_class (c ∷ classes) name = same_text c.name name || declares_class classes name

-- ACC_INTERFACE
abbrev pub is_interface : ℕ → Bool
is_interface flags = flags / 512 % 2 == 1

abbrev pub has_plain_class : List ExportClass → List ℕ → Bool
has_plain_class [] name = false
has_plain_class (c ∷ classes) name =
    if same_text c.name name then not (is_interface c.flags) else has_plain_class classes name

abbrev pub linked : List ClassTree → List ExportTree → Linked
linked classes exports = record {
  statics = [];
  heap = [];
  entry = entered_among (declared_methods classes);
  sent = λ class id. None;
  called = λ op holder receiver id. None;
  subtype = is_subtype (exported exports);
  is_there = λ name. declares_class classes name || has_class (exported exports) name;
  is_imported = has_plain_class (exported exports);
}
