-- What the class files and export files of several packages say of a call: which member it names in the package that
-- asks, what the joint world has for it, and what it reaches.
use Rattle.std.specs.Prelude.{◌≡◌, ℕ, true, false, ◌&&◌, ◌||◌, List, Option, Some, option_and_then}
use Rattle.cjc_bytes.specs.AccessFlags.{is_static, is_private, is_interface}
use Rattle.cjc_bytes.specs.declared.fault.MemberId.{MemberId}
use Rattle.cjc_script.specs.Sorts.{Shape, Reference, shape_name}
use Rattle.cjc_world.specs.declared.found.Found.{Found}
use Rattle.cjc_world.specs.Classes.{all_classes, class_named}
use Rattle.cjc_world.specs.Files.{Files}
use Rattle.cjc_world.specs.Lookup.{is_selectable, find_method, receiver}
use Rattle.cjc_world.specs.Subtype.{is_subtype}
use Rattle.cjc_types.specs.declared.cell.Cell.{Cell}
use Rattle.cjc_types.specs.declared.cell.Cell.TheVariants.{Refs}
use Rattle.cjc_types.specs.Steps.{operand}
use Rattle.cjc_ncode.specs.ByLabel.{Named}
use Rattle.cjc_jvm_semantics.specs.Linked.{Callee, Inside, Abroad}
use Rattle.cjc_jvm_semantics.specs.OnePackage.{ResolvedMember, of_class, method_hit, is_constructor, is_initialiser}
use Rattle.cjc_jvm_semantics.specs.OnePackage.{callee_at, selected_from, interface_callee, first_super}
use Rattle.cjc_jvm_semantics.specs.Group.{joint, joint_method, selection_for}
use Rattle.cjc_narrow_proof.specs.Selection.Relation.{IsMadeOf}
use Rattle.cjc_narrow_proof.specs.Tables.Kinds.{is_one_of}
use Rattle.cjc_narrow_proof.specs.Tables.Calls.{IsWordDesc, types_of, count_of}
use Rattle.cjc_code.specs.Jvm as jvm
use Rattle.cjc_narrow_proof.specs.Runs.Tables.{Tables}
use Rattle.cjc_narrow_proof.specs.Runs.Types.{IsThere}
use Rattle.cjc_joint_proof.specs.JointNames.{above}
use Rattle.cjc_joint_theorem.specs.Together.Homes.{Homes, joint_world, IsBegunIn}

-- A method that a call names: the asker's world has it, also from the class that declares it, and the joint world has
-- one for it. The class of its result is there.
pub record IsCalleeIn (group : List Files) (p : Files) (id : MemberId) : Type 0 where
  pub place : Found
  pub hit : ResolvedMember
  pub found : find_method (all_classes p) id.class id.name id.desc ≡ Some place
  pub is_hit : method_hit (all_classes p) place ≡ Some hit
  pub again : (let owner = hit.owner in find_method (all_classes p) owner.name id.name id.desc) ≡ Some place
  pub there : Found
  pub met : ResolvedMember
  pub stands : joint_method (joint_world group) hit.owner id ≡ Some there
  pub is_met : method_hit (joint_world group) there ≡ Some met
  pub is_above : (let owner = hit.owner in is_subtype (joint_world group) id.class owner.name) ≡ true
  pub no_initialiser : is_initialiser id.name ≡ false
  pub desc : IsWordDesc id.desc
  pub result : (kind : Shape (List ℕ)) → (let types = types_of id.desc in types.result) ≡ Some (Reference kind)
      → IsThere (joint_world group) kind

-- What a static call reaches: a method of a package with tables, or an imported one.
pub data IsReachedIn (group : List Files) (homes : Homes) (tables : Tables) (id : MemberId) : Callee → Type 0 where
  inside : {m : _} → IsBegunIn group homes tables false id.desc m → IsReachedIn group homes tables id (Inside m)
  abroad : {event : MemberId} → event.desc ≡ id.desc → IsReachedIn group homes tables id (Abroad event)

-- What a call reaches on a receiver of a type: a method of a package with tables that is declared by a class which it
-- is of, or an imported one.
pub data IsChosenIn (group : List Files) (homes : Homes) (tables : Tables) (id : MemberId) (type : List ℕ) : Callee
    → Type 0 where
  inside : {m : _} → IsBegunIn group homes tables true id.desc m → is_subtype (joint_world group) type (let n = m.id
      in n.class) ≡ true → IsChosenIn group homes tables id type (Inside m)
  abroad : {event : MemberId} → event.desc ≡ id.desc → IsChosenIn group homes tables id type (Abroad event)

-- what is selected in the joint world for a method that it has
abbrev pub selected_together : (group : List Files) → ResolvedMember → (class : List ℕ) → MemberId → Option Callee
selected_together group met class id = selected_from (joint group) (joint_world group)
    (selection_for (joint_world group) met) class id

-- the same above the class that holds the code
abbrev pub above_together : (group : List Files) → ResolvedMember → (holder : List ℕ) → MemberId → Option Callee
above_together group met holder id = option_and_then (λ super. selected_together group met super id)
    (first_super (class_named (joint_world group) holder))

-- How a call on a receiver chooses: of which class receivers are, and what is chosen by the type of one.
pub data ChoosesIn (group : List Files) (p : Files) (holder : List ℕ) (id : MemberId) (hit : ResolvedMember)
    (there : Found) (met : ResolvedMember) : (op : ℕ) → (class : List ℕ) → (choice : List ℕ → Option Callee)
    → Type 0 where
  -- invokevirtual: what is selected on it
  on_class : is_constructor id.name ≡ false → is_selectable met.flags ≡ true
      → ChoosesIn group p holder id hit there met jvm.invokevirtual id.class (λ type. selected_together group met type
      id)
  -- invokespecial: a constructor or private method itself, by the asker's world and by the joint one
  itself : is_static met.flags ≡ false → (is_constructor id.name || is_private hit.flags) ≡ true
      → (is_constructor id.name || is_private met.flags) ≡ true
      → ChoosesIn group p holder id hit there met jvm.invokespecial id.class (λ type. (let owner = met.owner
      in callee_at (joint group) owner.name id there))
  -- or what is selected above the class that holds the code, also for the method that the class above has
  above_holder : (callee : Callee) → is_static met.flags ≡ false → (is_constructor id.name || is_private hit.flags)
      ≡ false → (is_constructor id.name || is_private met.flags) ≡ false → above_together group met holder id
      ≡ Some callee → above (joint group) (joint_world group) p (of_class holder id) ≡ Some callee
      → ChoosesIn group p holder id hit there met jvm.invokespecial holder (λ type. above_together group met holder id)
  -- invokeinterface
  by_interface : is_constructor id.name ≡ false → (let owner = met.owner in is_interface owner.flags
      && is_selectable met.flags) ≡ true → ChoosesIn group p holder id hit there met jvm.invokeinterface id.class
      (λ type. (let owner = met.owner in interface_callee (joint group) (joint_world group) (selection_for
      (joint_world group) met) owner.name type id (class_named (joint_world group) (receiver type))))

-- A static call.
pub record IsStaticIn (group : List Files) (homes : Homes) (tables : Tables) (p : Files) (id : MemberId) :
    Type 0 where
  pub method : IsCalleeIn group p id
  pub is_static_one : (let met = method.met in is_static met.flags) ≡ true
  pub no_constructor : is_constructor id.name ≡ false
  pub callee : Callee
  pub reaches : (let met = method.met in let owner = met.owner in callee_at (joint group) owner.name id method.there)
      ≡ Some callee
  pub is_reached : IsReachedIn group homes tables id callee

-- What is chosen on a receiver of a type of which something may be there.
pub record IsChoiceIn (group : List Files) (homes : Homes) (tables : Tables) (id : MemberId) (class type : List ℕ)
    (choice : List ℕ → Option Callee) : Type 0 where
  pub is_of : is_subtype (joint_world group) type class ≡ true
  pub callee : Callee
  pub chooses : choice type ≡ Some callee
  pub is_chosen : IsChosenIn group homes tables id type callee

-- A call on a receiver, on a stack of these types.
pub record IsReceiverIn (group : List Files) (l : Named) (homes : Homes) (tables : Tables) (p : Files)
    (holder : List ℕ) (stack : List Cell) (op : ℕ) (id : MemberId) : Type 0 where
  pub method : IsCalleeIn group p id
  pub class : List ℕ
  pub choice : List ℕ → Option Callee
  pub form : ChoosesIn group p holder id method.hit method.there method.met op class choice
  pub choices : (names : List (List ℕ)) → operand stack (count_of id.desc) ≡ Refs names → (kind : Shape (List ℕ))
      → is_one_of l names kind ≡ true → IsMadeOf l kind → IsChoiceIn group homes tables id class (shape_name kind)
      choice
