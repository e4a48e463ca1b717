-- What the class files and export files of several packages say of a call in code of either mode: which member it names
-- in the package that asks, what the joint world has for it, and what it reaches.
use Rattle.std.specs.Prelude.{◌≡◌, ℕ, Bool, true, false, List, Option, Some}
use Rattle.cjc_bytes.specs.AccessFlags.{is_static}
use Rattle.cjc_bytes.specs.declared.fault.MemberId.{MemberId}
use Rattle.cjc_script.specs.Sorts.{Shape, Reference, shape_name}
use Rattle.cjc_world.specs.declared.found.Found.{Found}
use Rattle.cjc_world.specs.Classes.{all_classes}
use Rattle.cjc_world.specs.Files.{Files}
use Rattle.cjc_world.specs.Lookup.{find_method}
use Rattle.cjc_world.specs.Subtype.{is_subtype}
use Rattle.cjc_types.specs.declared.cell.Cell.{Cell}
use Rattle.cjc_types.specs.declared.cell.Cell.TheVariants.{Refs}
use Rattle.cjc_types.specs.Steps.{operand}
use Rattle.cjc_ncode.specs.ByLabel.{Named}
use Rattle.cjc_jvm_semantics.specs.Linked.{Callee, Method, Inside, Abroad}
use Rattle.cjc_jvm_semantics.specs.OnePackage.{ResolvedMember, method_hit, is_constructor, is_initialiser, callee_at}
use Rattle.cjc_jvm_semantics.specs.Group.{joint, joint_method}
use Rattle.cjc_narrow_proof.specs.Selection.Relation.{IsMadeOf}
use Rattle.cjc_narrow_proof.specs.Tables.Calls.{types_of, count_of}
use Rattle.cjc_narrow_proof.specs.Tables.Kinds.{is_one_of}
use Rattle.cjc_narrow_proof.specs.Runs.Tables.{Tables}
use Rattle.cjc_narrow_proof.specs.Runs.Types.{IsThere}
use Rattle.cjc_int_alike.specs.Calls.{IsIntDesc}
use Rattle.cjc_joint_theorem.specs.Together.Calls.{ChoosesIn}
use Rattle.cjc_joint_theorem.specs.Together.Homes.{Homes, joint_world}
use Rattle.cjc_joint_modes.specs.Codes.{IsBegunByModeIn}

-- A method that a call names: the asker's world has it, also from the class that declares it, and the joint world has
-- one for it. Its types are of some values, and the class of its result is there.
pub record IsIntCalleeIn (group : List Files) (p : Files) (id : MemberId) : Type 0 where
  pub place : Found
  pub hit : ResolvedMember
  pub found : find_method (all_classes p) id.class id.name id.desc ≡ Some place
  pub is_hit : method_hit (all_classes p) place ≡ Some hit
  pub again : (let owner = hit.owner in find_method (all_classes p) owner.name id.name id.desc) ≡ Some place
  pub there : Found
  pub met : ResolvedMember
  pub stands : joint_method (joint_world group) hit.owner id ≡ Some there
  pub is_met : method_hit (joint_world group) there ≡ Some met
  pub is_above : (let owner = hit.owner in is_subtype (joint_world group) id.class owner.name) ≡ true
  pub no_initialiser : is_initialiser id.name ≡ false
  pub desc : IsIntDesc id.desc
  pub result : (kind : Shape (List ℕ)) → (let types = types_of id.desc in types.result) ≡ Some (Reference kind)
      → IsThere (joint_world group) kind

module _ (group : List Files) (homes : Homes) (tables : Tables) (is_int : Method → Bool) (id : MemberId) where
  -- What a static call reaches: a method of a package with tables, or an imported one.
  pub data IsIntReachedIn : Callee → Type 0 where
    reaches_method : {m : Method} → IsBegunByModeIn group homes tables is_int false id.desc m
        → IsIntReachedIn (Inside m)
    reaches_import : {event : MemberId} → event.desc ≡ id.desc → IsIntReachedIn (Abroad event)

  -- What a call reaches on a receiver of a type: a method of a package with tables that is declared by a class which it
  -- is of, or an imported one.
  pub data IsIntChosenIn (type : List ℕ) : Callee → Type 0 where
    chooses_method : {m : Method} → IsBegunByModeIn group homes tables is_int true id.desc m
        → is_subtype (joint_world group) type (let n = m.id in n.class) ≡ true → IsIntChosenIn type (Inside m)
    chooses_import : {event : MemberId} → event.desc ≡ id.desc → IsIntChosenIn type (Abroad event)

  -- A static call.
  pub record IsIntStaticIn (p : Files) : Type 0 where
    pub method : IsIntCalleeIn group p id
    pub is_static_one : (let met = method.met in is_static met.flags) ≡ true
    pub no_constructor : is_constructor id.name ≡ false
    pub callee : Callee
    pub reaches : (let met = method.met in let owner = met.owner in callee_at (joint group) owner.name id method.there)
        ≡ Some callee
    pub is_reached : IsIntReachedIn callee

  -- What is chosen on a receiver of a type of which something may be there.
  pub record IsIntChoiceIn (class type : List ℕ) (choice : List ℕ → Option Callee) : Type 0 where
    pub is_of : is_subtype (joint_world group) type class ≡ true
    pub callee : Callee
    pub chooses : choice type ≡ Some callee
    pub is_chosen : IsIntChosenIn type callee

  -- A call on a receiver, on a stack of these types.
  pub record IsIntReceiverIn (l : Named) (p : Files) (holder : List ℕ) (stack : List Cell) (op : ℕ) : Type 0 where
    pub method : IsIntCalleeIn group p id
    pub class : List ℕ
    pub choice : List ℕ → Option Callee
    pub form : ChoosesIn group p holder id method.hit method.there method.met op class choice
    pub choices : (names : List (List ℕ)) → operand stack (count_of id.desc) ≡ Refs names → (kind : Shape (List ℕ))
        → is_one_of l names kind ≡ true → IsMadeOf l kind → IsIntChoiceIn class (shape_name kind) choice
