-- What the class files and export files say of a call: which member it names, and what it reaches.
use Rattle.std.specs.Prelude.{◌≡◌, ℕ, true, false, ◌&&◌, ◌||◌, List, Option, Some, option_and_then}
use Rattle.cjc_bytes.specs.AccessFlags.{is_static, is_private, is_interface}
use Rattle.cjc_bytes.specs.declared.fault.MemberId.{MemberId}
use Rattle.cjc_script.specs.Sorts.{Shape, Reference, shape_name}
use Rattle.cjc_world.specs.declared.found.Found.{Found}
use Rattle.cjc_world.specs.Classes.{all_classes, class_named}
use Rattle.cjc_world.specs.Files.{Files}
use Rattle.cjc_world.specs.Lookup.{is_selectable, find_method, receiver}
use Rattle.cjc_world.specs.Subtype.{is_subtype}
use Rattle.cjc_types.specs.declared.cell.Cell.{Cell}
use Rattle.cjc_types.specs.declared.cell.Cell.TheVariants.{Refs}
use Rattle.cjc_types.specs.Steps.{operand}
use Rattle.cjc_ncode.specs.ByLabel.{Named}
use Rattle.cjc_jvm_semantics.specs.Linked.{Callee, Inside, Abroad}
use Rattle.cjc_jvm_semantics.specs.OnePackage.{ResolvedMember, method_hit, is_constructor, is_initialiser, callee_at}
use Rattle.cjc_jvm_semantics.specs.OnePackage.{selected_from, select_in, interface_callee, first_super}
use Rattle.cjc_narrow_proof.specs.Selection.Relation.{IsMadeOf}
use Rattle.cjc_narrow_proof.specs.Tables.Kinds.{is_one_of}
use Rattle.cjc_narrow_proof.specs.Tables.Calls.{IsWordDesc, types_of, count_of}
use Rattle.cjc_code.specs.Jvm as jvm
use Rattle.cjc_narrow_proof.specs.Runs.Tables.{Tables}
use Rattle.cjc_narrow_proof.specs.Runs.Types.{IsThere}
use Rattle.cjc_narrow_proof.specs.Runs.Begun.{IsBegun}

-- A method that a call names: it is found, also from the class that declares it, which is the named class or stands
-- above it (202, 205); its
-- types are one word each (301, 302), and the class of its result is there (203).
pub record IsCallee (files : Files) (id : MemberId) : Type 0 where
  pub place : Found
  pub hit : ResolvedMember
  pub found : find_method (all_classes files) id.class id.name id.desc ≡ Some place
  pub is_hit : method_hit (all_classes files) place ≡ Some hit
  pub again : (let owner = hit.owner in find_method (all_classes files) owner.name id.name id.desc) ≡ Some place
  pub above : (let owner = hit.owner in is_subtype (all_classes files) id.class owner.name) ≡ true
  pub no_initialiser : is_initialiser id.name ≡ false
  pub desc : IsWordDesc id.desc
  pub result : (kind : Shape (List ℕ)) → (let types = types_of id.desc in types.result) ≡ Some (Reference kind)
      → IsThere (all_classes files) kind

-- What a static call reaches: a method of the package with tables, or an imported one.
pub data IsReached (files : Files) (tables : Tables) (id : MemberId) : Callee → Type 0 where
  inside : {m : _} → IsBegun files tables false id.desc m → IsReached files tables id (Inside m)
  abroad : {event : MemberId} → event.desc ≡ id.desc → IsReached files tables id (Abroad event)

-- What a call reaches on a receiver of a type: a method of the package with tables that is declared by a class which it
-- is of, or an
-- imported one.
pub data IsChosen (files : Files) (tables : Tables) (id : MemberId) (type : List ℕ) : Callee → Type 0 where
  inside : {m : _} → IsBegun files tables true id.desc m → is_subtype (all_classes files) type (let n = m.id in n.class)
      ≡ true → IsChosen files tables id type (Inside m)
  abroad : {event : MemberId} → event.desc ≡ id.desc → IsChosen files tables id type (Abroad event)

-- How a call on a receiver chooses: of which class receivers are, and what is chosen by the type of one.
pub data Chooses (files : Files) (holder : List ℕ) (id : MemberId) (place : Found) (hit : ResolvedMember) : (op : ℕ)
    → (class : List ℕ) → (choice : List ℕ → Option Callee) → Type 0 where
  -- invokevirtual: what is selected on it
  on_class : is_constructor id.name ≡ false → is_selectable hit.flags ≡ true
      → Chooses files holder id place hit jvm.invokevirtual id.class (λ type. selected_from files (all_classes files)
      (select_in (all_classes files)) type id)
  -- invokespecial: a constructor or private method itself
  itself : is_static hit.flags ≡ false → (is_constructor id.name || is_private hit.flags) ≡ true
      → Chooses files holder id place hit jvm.invokespecial id.class (λ type. (let owner = hit.owner
      in callee_at files owner.name id place))
  -- or what is selected above the class that holds the code
  above_holder : (callee : Callee) → is_static hit.flags ≡ false → (is_constructor id.name || is_private hit.flags)
      ≡ false → option_and_then (λ super. selected_from files (all_classes files) (select_in (all_classes files)) super
      id) (first_super (class_named (all_classes files) holder)) ≡ Some callee
      → Chooses files holder id place hit jvm.invokespecial holder (λ type. option_and_then (λ super. selected_from
      files (all_classes files) (select_in (all_classes files)) super id) (first_super (class_named (all_classes files)
      holder)))
  -- invokeinterface
  by_interface : is_constructor id.name ≡ false → (let owner = hit.owner in is_interface owner.flags
      && is_selectable hit.flags) ≡ true → Chooses files holder id place hit jvm.invokeinterface id.class
      (λ type. (let owner = hit.owner in interface_callee files (all_classes files) (select_in (all_classes files))
      owner.name type id (class_named (all_classes files) (receiver type))))

-- A static call.
pub record IsStaticOn (files : Files) (tables : Tables) (id : MemberId) : Type 0 where
  pub method : IsCallee files id
  pub is_static_one : (let hit = method.hit in is_static hit.flags) ≡ true
  pub no_constructor : is_constructor id.name ≡ false
  pub callee : Callee
  pub reaches : (let hit = method.hit in let owner = hit.owner in callee_at files owner.name id method.place)
      ≡ Some callee
  pub is_reached : IsReached files tables id callee

-- What is chosen on a receiver of a type of which something may be there.
pub record IsChoice (files : Files) (tables : Tables) (id : MemberId) (class type : List ℕ) (choice : List ℕ
    → Option Callee) : Type 0 where
  pub is_of : is_subtype (all_classes files) type class ≡ true
  pub callee : Callee
  pub chooses : choice type ≡ Some callee
  pub is_chosen : IsChosen files tables id type callee

-- A call on a receiver, on a stack of these types.
pub record IsReceiverOn (files : Files) (l : Named) (tables : Tables) (holder : List ℕ) (stack : List Cell) (op : ℕ)
    (id : MemberId) : Type 0 where
  pub method : IsCallee files id
  pub class : List ℕ
  pub choice : List ℕ → Option Callee
  pub form : Chooses files holder id method.place method.hit op class choice
  pub choices : (names : List (List ℕ)) → operand stack (count_of id.desc) ≡ Refs names → (kind : Shape (List ℕ))
      → is_one_of l names kind ≡ true → IsMadeOf l kind → IsChoice files tables id class (shape_name kind) choice
