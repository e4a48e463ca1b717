-- What the class files and export files say of a call in a method in int mode: which member it names, and what it
-- reaches.
use Rattle.std.specs.Prelude.{◌≡◌, ℕ, Bool, true, false, not, List, Option, Some}
use Rattle.cjc_bytes.specs.AccessFlags.{is_static}
use Rattle.cjc_bytes.specs.Descriptor.{IsClassName}
use Rattle.cjc_bytes.specs.declared.fault.MemberId.{MemberId}
use Rattle.cjc_script.specs.Sorts.{Shape, Reference, shape_name}
use Rattle.cjc_world.specs.Classes.{all_classes}
use Rattle.cjc_world.specs.Files.{Files}
use Rattle.cjc_world.specs.Lookup.{find_method}
use Rattle.cjc_world.specs.Subtype.{is_subtype}
use Rattle.cjc_world.specs.declared.found.Found.{Found}
use Rattle.cjc_world.specs.declared.image.StaticImage.{StaticImage}
use Rattle.cjc_types.specs.Steps.{operand}
use Rattle.cjc_types.specs.declared.cell.Cell.{Cell}
use Rattle.cjc_types.specs.declared.cell.Cell.TheVariants.{Refs}
use Rattle.cjc_jvm_semantics.specs.ByName.{linked}
use Rattle.cjc_jvm_semantics.specs.Linked.{Callee, Method, Inside, Abroad}
use Rattle.cjc_jvm_semantics.specs.OnePackage.{ResolvedMember, callee_at, is_constructor, is_initialiser, method_hit}
use Rattle.cjc_narrow.specs.Rows.Package.{flags_of}
use Rattle.cjc_narrow.specs.Rows.Resolved.{method_found}
use Rattle.cjc_narrow_proof.specs.Runs.Calls.{Chooses}
use Rattle.cjc_narrow_proof.specs.Runs.Tables.{Tables}
use Rattle.cjc_narrow_proof.specs.Runs.Types.{IsThere}
use Rattle.cjc_narrow_proof.specs.Selection.Relation.{IsMadeOf}
use Rattle.cjc_narrow_proof.specs.Tables.Calls.{count_of, types_of}
use Rattle.cjc_narrow_proof.specs.Tables.Kinds.{is_one_of}
use Rattle.cjc_int_alike.specs.ByModes.{analysis_by_mode, bodies_by_mode, look_ups_by_mode, result_in}
use Rattle.cjc_int_alike.specs.Callees.{IsBegunByMode}
use Rattle.cjc_int_alike.specs.Calls.{IsIntDesc}

-- A method that a call names: it is found, also from the class that declares it, which is the named class or stands
-- above it (202, 205); its types are of some values (301), and the class of its result is there (203).
pub record IsIntCallee (files : Files) (id : MemberId) : Type 0 where
  pub place : Found
  pub hit : ResolvedMember
  pub found : find_method (all_classes files) id.class id.name id.desc ≡ Some place
  pub is_hit : method_hit (all_classes files) place ≡ Some hit
  pub again : (let owner = hit.owner in find_method (all_classes files) owner.name id.name id.desc) ≡ Some place
  pub above : (let owner = hit.owner in is_subtype (all_classes files) id.class owner.name) ≡ true
  pub no_initialiser : is_initialiser id.name ≡ false
  pub desc : IsIntDesc id.desc
  pub result : (kind : Shape (List ℕ)) → (let types = types_of id.desc in types.result) ≡ Some (Reference kind)
      → IsThere (all_classes files) kind

module _ (files : Files) (image : StaticImage) (near : List MemberId) (tables : Tables) (is_int : Method → Bool) where
  -- A method of the package that has code begins, in either mode, with this descriptor, and a receiver or none.
  pub record IsBegunIn (has_receiver : Bool) (written : List ℕ) (m : Method) : Type 0 where
    pub begun : IsBegunByMode (linked files image) (look_ups_by_mode files image near tables is_int) (all_classes files)
        (analysis_by_mode files image near tables is_int) (bodies_by_mode files image near tables is_int)
        (result_in files image near tables is_int) m
    pub desc : (let id = m.id in id.desc) ≡ written
    pub flags : (let id = m.id in is_static (flags_of (method_found (all_classes files) id))) ≡ not has_receiver
    pub named : IsClassName (let id = m.id in id.class)

  -- What a static call reaches: a method of the package, or an imported one.
  pub data IsReachedIn (id : MemberId) : Callee → Type 0 where
    inside : {m : Method} → IsBegunIn false id.desc m → IsReachedIn id (Inside m)
    abroad : {event : MemberId} → event.desc ≡ id.desc → IsReachedIn id (Abroad event)

  -- What a call reaches on a receiver of a type: a method of the package that is declared by a class which it is of, or
  -- an imported one.
  pub data IsChosenIn (id : MemberId) (type : List ℕ) : Callee → Type 0 where
    inside_of : {m : Method} → IsBegunIn true id.desc m → is_subtype (all_classes files) type (let n = m.id in n.class)
        ≡ true → IsChosenIn id type (Inside m)
    abroad_of : {event : MemberId} → event.desc ≡ id.desc → IsChosenIn id type (Abroad event)

  -- A static call.
  pub record IsIntStaticOn (id : MemberId) : Type 0 where
    pub method : IsIntCallee files id
    pub is_static_one : (let hit = method.hit in is_static hit.flags) ≡ true
    pub no_constructor : is_constructor id.name ≡ false
    pub callee : Callee
    pub reaches : (let hit = method.hit in let owner = hit.owner in callee_at files owner.name id method.place)
        ≡ Some callee
    pub is_reached : IsReachedIn id callee

  -- What is chosen on a receiver of a type of which something may be there.
  pub record IsIntChoice (id : MemberId) (class type : List ℕ) (choice : List ℕ → Option Callee) : Type 0 where
    pub is_of : is_subtype (all_classes files) type class ≡ true
    pub callee : Callee
    pub chooses : choice type ≡ Some callee
    pub is_chosen : IsChosenIn id type callee

  -- A call on a receiver, on a stack of these types.
  pub record IsIntReceiverOn (holder : List ℕ) (stack : List Cell) (op : ℕ) (id : MemberId) : Type 0 where
    pub method : IsIntCallee files id
    pub class : List ℕ
    pub choice : List ℕ → Option Callee
    pub form : Chooses files holder id method.place method.hit op class choice
    pub choices : (names : List (List ℕ)) → operand stack (count_of id.desc) ≡ Refs names → (kind : Shape (List ℕ))
        → is_one_of (look_ups_by_mode files image near tables is_int) names kind ≡ true
        → IsMadeOf (look_ups_by_mode files image near tables is_int) kind
        → IsIntChoice id class (shape_name kind) choice
