-- What calls in code of packages of a group name and reach, whatever code is written for the packages: a method of a
-- class file of one of them, with code, or an event.
use Rattle.std.specs.Prelude.{◌≡◌, ℕ, Bool, List, Option, Some, false, not, slice_get, true}
use Rattle.cjc_bytes.specs.AccessFlags.{is_static}
use Rattle.cjc_bytes.specs.declared.fault.MemberId.{MemberId}
use Rattle.cjc_jvm_semantics.specs.Group.{joint, joint_image, joint_method}
use Rattle.cjc_jvm_semantics.specs.Linked.{Abroad, Callee, Inside, Method}
use Rattle.cjc_jvm_semantics.specs.OnePackage.{ResolvedMember, callee_at, is_constructor, is_initialiser, method_hit}
use Rattle.cjc_world.specs.Classes.{all_classes}
use Rattle.cjc_world.specs.Files.{Files}
use Rattle.cjc_world.specs.Lookup.{find_method}
use Rattle.cjc_world.specs.Subtype.{is_subtype}
use Rattle.cjc_world.specs.declared.found.Found.{Found}
use Rattle.cjc_narrow_proof.specs.NCode.ByLabel.{Named}
use Rattle.cjc_narrow_proof.specs.Runs.Calls as alone
use Rattle.cjc_narrow_proof.specs.Runs.Types.{IsThere}
use Rattle.cjc_narrow_proof.specs.Script.Sorts.{Reference, Shape, shape_name}
use Rattle.cjc_narrow_proof.specs.Selection.Relation.{IsMadeOf}
use Rattle.cjc_narrow_proof.specs.Tables.Calls.{count_of, types_of}
use Rattle.cjc_narrow_proof.specs.Tables.Kinds.{is_one_of}
use Rattle.cjc_shape_proof.specs.WorldProof.Calls.Targets.{IsOwnCode}
use Rattle.cjc_token_proof.specs.Types.declared.cell.Cell.{Cell}
use Rattle.cjc_token_proof.specs.Types.declared.cell.Cell.TheVariants.{Refs}
use Rattle.cjc_token_proof.specs.Types.Steps.{operand}
use Rattle.cjc_joint_theorem.specs.Members.{Member, files_of, homes_of, images_of, tables_of}
use Rattle.cjc_joint_theorem.specs.Together.Calls.{ChoosesIn}
use Rattle.cjc_joint_theorem.specs.Together.Homes.{group_look_ups, joint_world}

-- ---- in one package

-- A method that code names, of whatever types: it is found, also from the class that declares it, which is the named
-- class or stands above it, and the class of its result is there.
pub record IsNamedCallee (files : Files) (id : MemberId) : Type 0 where
  pub place : Found
  pub hit : ResolvedMember
  pub found : find_method (all_classes files) id.class id.name id.desc ≡ Some place
  pub is_hit : method_hit (all_classes files) place ≡ Some hit
  pub again : (let owner = hit.owner in find_method (all_classes files) owner.name id.name id.desc) ≡ Some place
  pub above : (let owner = hit.owner in is_subtype (all_classes files) id.class owner.name) ≡ true
  pub no_initialiser : is_initialiser id.name ≡ false
  pub result : (kind : Shape (List ℕ)) → (let types = types_of id.desc in types.result) ≡ Some (Reference kind)
      → IsThere (all_classes files) kind

-- one with parameters and a result of one word each is such a one
abbrev pub named_callee : {files : Files} {id : MemberId} → alone.IsCallee files id → IsNamedCallee files id
named_callee c = record {
  place = c.place;
  hit = c.hit;
  found = c.found;
  is_hit = c.is_hit;
  again = c.again;
  above = c.above;
  no_initialiser = c.no_initialiser;
  result = c.result;
}

-- ---- in a group

-- Such a method, for which the joint world has one. The class of its result is there.
pub record IsStandingCallee (group : List Files) (p : Files) (id : MemberId) : Type 0 where
  pub place : Found
  pub hit : ResolvedMember
  pub found : find_method (all_classes p) id.class id.name id.desc ≡ Some place
  pub is_hit : method_hit (all_classes p) place ≡ Some hit
  pub again : (let owner = hit.owner in find_method (all_classes p) owner.name id.name id.desc) ≡ Some place
  pub there : Found
  pub met : ResolvedMember
  pub stands : joint_method (joint_world group) hit.owner id ≡ Some there
  pub is_met : method_hit (joint_world group) there ≡ Some met
  pub is_above : (let owner = hit.owner in is_subtype (joint_world group) id.class owner.name) ≡ true
  pub no_initialiser : is_initialiser id.name ≡ false
  pub result : (kind : Shape (List ℕ)) → (let types = types_of id.desc in types.result) ≡ Some (Reference kind)
      → IsThere (joint_world group) kind

-- A method with code of a class file of a package of the group, of this name and descriptor, on objects or not.
pub record IsOwnOf (members : List Member) (id : MemberId) (on : Bool) (m : Method) : Type 0 where
  pub part : ℕ
  pub member : Member
  pub at : slice_get members part ≡ Some member
  pub code : IsOwnCode member.files id m
  pub flags : is_static (let c = code in let k = c.method in k.flags) ≡ not on

-- the look-ups by which types of receivers are told
abbrev pub joint_look_ups : List Member → Named
joint_look_ups members = group_look_ups (files_of members) (joint_image (images_of members)) (homes_of members)
    (tables_of members)

module _ (members : List Member) (id : MemberId) where
  -- What a static call reaches: a method of a class file, or an imported one.
  pub data IsReachedIn : Callee → Type 0 where
    reaches_method : {m : Method} → IsOwnOf members id false m → IsReachedIn (Inside m)
    reaches_import : {event : MemberId} → event.desc ≡ id.desc → IsReachedIn (Abroad event)

  -- What a call reaches on a receiver of a type: a method of a class file whose class the type is of, or an imported
  -- one.
  pub data IsChosenIn (type : List ℕ) : Callee → Type 0 where
    chooses_method : {m : Method} → IsOwnOf members id true m
        → is_subtype (joint_world (files_of members)) type (let n = m.id in n.class) ≡ true
        → IsChosenIn type (Inside m)
    chooses_import : {event : MemberId} → event.desc ≡ id.desc → IsChosenIn type (Abroad event)

  -- A static call.
  pub record IsStaticIn (p : Files) : Type 0 where
    pub method : IsStandingCallee (files_of members) p id
    pub is_static_one : (let met = method.met in is_static met.flags) ≡ true
    pub no_constructor : is_constructor id.name ≡ false
    pub callee : Callee
    pub reaches : (let met = method.met in let owner = met.owner in callee_at (joint (files_of members)) owner.name id
        method.there) ≡ Some callee
    pub is_reached : IsReachedIn callee

  -- What is chosen on a receiver of a type of which something may be there.
  pub record IsChoiceIn (class type : List ℕ) (choice : List ℕ → Option Callee) : Type 0 where
    pub is_of : is_subtype (joint_world (files_of members)) type class ≡ true
    pub callee : Callee
    pub chooses : choice type ≡ Some callee
    pub is_chosen : IsChosenIn type callee

  -- A call on a receiver, on a stack of these types.
  pub record IsReceiverIn (p : Files) (holder : List ℕ) (stack : List Cell) (op : ℕ) : Type 0 where
    pub method : IsStandingCallee (files_of members) p id
    pub class : List ℕ
    pub choice : List ℕ → Option Callee
    pub form : ChoosesIn (files_of members) p holder id method.hit method.there method.met op class choice
    pub choices : (names : List (List ℕ)) → operand stack (count_of id.desc) ≡ Refs names → (kind : Shape (List ℕ))
        → is_one_of (joint_look_ups members) names kind ≡ true → IsMadeOf (joint_look_ups members) kind
        → IsChoiceIn class (shape_name kind) choice
