-- What is found of the members that code and scripts of a package name, whichever of its methods are in int mode.
use Rattle.std.specs.Prelude.{◌≡◌, ◌<◌, ◌^◌, ℕ, ℤ, Bool, true, false, List, [], ◌∷◌, length, map, Option, Some, None}
use Rattle.std.specs.List.{AllByRecursion}
use Rattle.cjc_bytes.specs.AccessFlags.{is_static}
use Rattle.cjc_bytes.specs.Descriptor.{Parts}
use Rattle.cjc_bytes.specs.Spots.{desc_of}
use Rattle.cjc_bytes.specs.declared.fault.MemberId.{MemberId}
use Rattle.cjc_check_proof.specs.WorldProof.Calls.Targets.{IsOwnCode, IsTarget}
use Rattle.cjc_classes.specs.JvmSemantics.Linked.{Callee, Constant, Instance, Method, Static}
use Rattle.cjc_classes.specs.JvmSemantics.OnePackage.{ResolvedMember, callee_at, cells, entry_named, field_named}
use Rattle.cjc_classes.specs.JvmSemantics.OnePackage.{is_constructor, is_initialiser, method_hit, sent_named}
use Rattle.cjc_classes.specs.Subset.Types.{is_unsupported_desc}
use Rattle.cjc_classes.specs.Types.Steps.{operand}
use Rattle.cjc_classes.specs.Types.Types.{parts, result_of}
use Rattle.cjc_classes.specs.Types.declared.cell.Cell.{Cell}
use Rattle.cjc_classes.specs.Types.declared.cell.Cell.TheVariants.{Number, Refs}
use Rattle.cjc_components.specs.Range.Span.{Holds, full}
use Rattle.cjc_narrow_proof.specs.NCode.ByLabel.{Named}
use Rattle.cjc_narrow_proof.specs.Runs.Calls.{Chooses}
use Rattle.cjc_narrow_proof.specs.Runs.Types.{IsThere}
use Rattle.cjc_narrow_proof.specs.Script.Sorts.{Reference, Shape, shape_name}
use Rattle.cjc_narrow_proof.specs.Selection.Relation.{IsMadeOf}
use Rattle.cjc_narrow_proof.specs.Selection.Rows.{HasField, lists}
use Rattle.cjc_narrow_proof.specs.Tables.Calls.{count_of, types_of}
use Rattle.cjc_narrow_proof.specs.Tables.Kinds.{is_one_of}
use Rattle.cjc_world.specs.ClassFile.declared.tree.ClassTree.{ClassTree}
use Rattle.cjc_world.specs.ClassFile.declared.tree.MethodTree.{MethodTree}
use Rattle.cjc_world.specs.Classes.{all_classes}
use Rattle.cjc_world.specs.Files.{Files}
use Rattle.cjc_world.specs.Lookup.{find_method, receiver}
use Rattle.cjc_world.specs.Subtype.{is_subtype}
use Rattle.cjc_world.specs.Upwards.{Below}
use Rattle.cjc_world.specs.declared.found.Found.{Found}
use Rattle.cjc_world.specs.declared.image.StaticImage.{StaticImage}

-- ---- descriptors

-- A descriptor of types that a package may use (301), in as many bytes as 32 bits count.
pub record IsUsable (method : Bool) (desc : List ℕ) : Type 0 where
  pub types : Parts
  pub short : length desc < 2 ^ 32
  pub is_desc : desc_of desc ≡ Some types
  pub of_method : types.is_method ≡ method
  pub supported : is_unsupported_desc desc ≡ false

-- ---- calls

-- what a static call may reach
abbrev pub IsOfClass : ClassTree → MethodTree → Type 0
IsOfClass class method = is_static method.flags ≡ true

-- what a call may reach on a receiver of a type: a method of a class which the type is of
abbrev pub IsOnReceiver : Files → (type : List ℕ) → ClassTree → MethodTree → Type 0
IsOnReceiver files type class method = (is_static method.flags ≡ false)
    × Below (all_classes files) (receiver type) class.name

-- A method that code names: it is found, also from the class that declares it, which is the named class or stands above
-- it (202, 205); its types are some that a package may use (301), and the class of its result is there (203).
pub record IsNamedMethod (files : Files) (id : MemberId) : Type 0 where
  pub place : Found
  pub hit : ResolvedMember
  pub found : find_method (all_classes files) id.class id.name id.desc ≡ Some place
  pub is_hit : method_hit (all_classes files) place ≡ Some hit
  pub again : (let owner = hit.owner in find_method (all_classes files) owner.name id.name id.desc) ≡ Some place
  pub above : (let owner = hit.owner in is_subtype (all_classes files) id.class owner.name) ≡ true
  pub no_initialiser : is_initialiser id.name ≡ false
  pub desc : IsUsable true id.desc
  pub result : (kind : Shape (List ℕ)) → (let types = types_of id.desc in types.result) ≡ Some (Reference kind)
      → IsThere (all_classes files) kind

-- A static call, and what it reaches.
pub record IsStaticFound (files : Files) (id : MemberId) : Type 0 where
  pub method : IsNamedMethod files id
  pub is_static_one : (let hit = method.hit in is_static hit.flags) ≡ true
  pub no_constructor : is_constructor id.name ≡ false
  pub callee : Callee
  pub reaches : (let hit = method.hit in let owner = hit.owner in callee_at files owner.name id method.place)
      ≡ Some callee
  pub target : IsTarget files id IsOfClass callee

-- What is chosen on a receiver of a type of which something may be there.
pub record IsChoiceFound (files : Files) (id : MemberId) (class type : List ℕ) (choice : List ℕ → Option Callee) :
    Type 0 where
  pub is_of : is_subtype (all_classes files) type class ≡ true
  pub callee : Callee
  pub chooses : choice type ≡ Some callee
  pub target : IsTarget files id (IsOnReceiver files type) callee

-- A call on a receiver, on a stack of these types.
pub record IsReceiverFound (files : Files) (l : Named) (holder : List ℕ) (stack : List Cell) (op : ℕ) (id : MemberId) :
    Type 0 where
  pub method : IsNamedMethod files id
  pub class : List ℕ
  pub choice : List ℕ → Option Callee
  pub form : Chooses files holder id method.place method.hit op class choice
  pub choices : (names : List (List ℕ)) → operand stack (count_of id.desc) ≡ Refs names → (kind : Shape (List ℕ))
      → is_one_of l names kind ≡ true → IsMadeOf l kind → IsChoiceFound files id class (shape_name kind) choice

-- ---- fields of objects

-- A field that code names is found, and what may be its receiver has it.
pub record IsFieldFound (files : Files) (l : Named) (id : MemberId) (cell : Cell) : Type 0 where
  pub target : MemberId
  pub desc : IsUsable false id.desc
  pub found : field_named files (all_classes files) id ≡ Some (Instance target)
  pub has : (names : List (List ℕ)) → cell ≡ Refs names → (kind : Shape (List ℕ)) → is_one_of l names kind ≡ true
      → IsMadeOf l kind → HasField l target kind

-- ---- static fields

-- A static field that code names is a constant of 32 bits, which putstatic does not name, or one of the package's
-- static cells.
pub data IsStaticFieldFound (files : Files) (image : StaticImage) (put : Bool) (id : MemberId) : Type 0 where
  finds_constant : (z : ℤ) → put ≡ false → IsUsable false id.desc → result_of (parts id.desc).result ≡ Number ∷ []
      → Holds full z
      → field_named files (all_classes files) id ≡ Some (Constant z) → IsStaticFieldFound files image put id
  finds_cell : (target : MemberId) → IsUsable false id.desc
      → field_named files (all_classes files) id ≡ Some (Static target)
      → lists (map (λ cell. cell.field) (cells image files.classes)) target ≡ true
      → IsStaticFieldFound files image put id

-- ---- what scripts name

-- A member that the package declares: its parameters are of types that are there, and the methods that are called or
-- sent are methods of the package with code, on objects of the classes that declare them.
pub record IsMemberFound (files : Files) (l : Named) (id : MemberId) : Type 0 where
  pub desc : IsUsable true id.desc
  pub known : AllByRecursion (λ type. (kind : Shape (List ℕ)) → type ≡ Reference kind
      → IsThere (all_classes files) kind) (let types = types_of id.desc in types.params)
  pub is_called : (m : Method) → entry_named files (all_classes files) id ≡ Some m → (code : IsOwnCode files id m)
      × (is_static (let k = code.method in k.flags) ≡ true)
  pub is_sent : (kind : Shape (List ℕ)) (m : Method) → IsMadeOf l kind
      → sent_named files (all_classes files) (shape_name kind) id ≡ Some m → (code : IsOwnCode files id m)
      × (is_static (let k = code.method in k.flags) ≡ false)
  pub receives : (kind : Shape (List ℕ)) (m : Method) → IsMadeOf l kind
      → sent_named files (all_classes files) (shape_name kind) id ≡ Some m
      → is_subtype (all_classes files) (shape_name kind) (let id = m.id in id.class) ≡ true

-- It is one of these, or no method is found for it, on no type of which something may be there.
pub data IsScriptFound (files : Files) (l : Named) (id : MemberId) : Type 0 where
  finds_none : entry_named files (all_classes files) id ≡ None
      → ((kind : Shape (List ℕ)) → IsMadeOf l kind → sent_named files (all_classes files) (shape_name kind) id ≡ None)
      → IsScriptFound files l id
  finds_member : IsMemberFound files l id → IsScriptFound files l id
