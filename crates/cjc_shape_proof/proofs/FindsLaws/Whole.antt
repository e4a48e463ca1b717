-- What a package keeps that breaks no rule over sound export files.
use Rattle.std.proofs.Common.{◌≡◌, ℕ, Bool, false, List}
use Rattle.std.specs.Prelude.{Some}
use Rattle.cjc_bytes.specs.declared.fault.MemberId.{MemberId}
use Rattle.cjc_bytes.specs.declared.settings.Settings.{Settings}
use Rattle.cjc_classes.specs.JvmSemantics.Effects.{Fault, exception_class}
use Rattle.cjc_classes.specs.JvmSemantics.Linked.{Method}
use Rattle.cjc_check_proof.specs.WorldProof.Calls.Solid.{IsSolid}
use Rattle.cjc_check_proof.specs.WorldProof.Calls.Targets.{IsReceiver}
use Rattle.cjc_world.specs.ClassFile.declared.tree.ClassTree.{ClassTree}
use Rattle.cjc_components.specs.Bytecode.declared.insn.JOp.TheVariants as jop
use Rattle.cjc_components.specs.Bytecode.declared.method_code.MethodCode.{MethodCode}
use Rattle.cjc_shape_proof.specs.Whole.{Accepts, HoldsFor, IsWhole}
use Rattle.cjc_shape_proof.proofs.FindsLaws.Receivers.{receiver_of, root_abroad, root_of}
use Rattle.cjc_shape_proof.proofs.FindsLaws.Short as short
use Rattle.cjc_narrow_proof.specs.Laws.Unbroken.{AreSpelt, IsInsnOf}
use Rattle.cjc_narrow_proof.proofs.LawsLaws.ClassNames.{each_name}
use Rattle.cjc_narrow_proof.proofs.LawsLaws.Whole.{converted}
use Rattle.cjc_narrow_proof.specs.Runs.Calls.{IsReceiverOn, IsStaticOn}
use Rattle.cjc_narrow_proof.specs.Runs.Converted.{IsConverted, IsException, IsFirst, IsFound}
use Rattle.cjc_narrow_proof.specs.Runs.Names.{AreNamed, IsFieldOf}
use Rattle.cjc_narrow_proof.specs.Runs.Tables.{HasTables, Tables, look_ups, narrow_codes}
use Rattle.cjc_narrow_proof.specs.Script.Sorts.{Shape, shape_name}
use Rattle.cjc_narrow_proof.specs.Selection.Relation.{IsMadeOf}
use Rattle.cjc_check_proof.specs.WorldProof.Files.{IsClean}
use Rattle.cjc_check_proof.proofs.WorldProofExceptions.{exception_is}
use Rattle.cjc_check_proof.proofs.WorldProofSolid.{solid as solid_of}
use Rattle.cjc_narrow_proof.proofs.TablesLaws.Spelt.{class_read}
use Rattle.cjc_classes.specs.Types.declared.cell.Cell.{Cell}
use Rattle.cjc_classes.specs.Types.Flow.{Body}
use Rattle.cjc_world.specs.declared.image.StaticImage.{StaticImage}
use Rattle.cjc_world.specs.Classes.{Class, all_classes, class_named}
use Rattle.cjc_world.specs.Files.{Files}
use Rattle.cjc_world.specs.Lookup.{object, receiver}
use Rattle.cjc_world.specs.Subtype.{starts}

module _ (list : List ℕ) (files : Files) (codes : List MethodCode) (settings : Settings) (tables : Tables)
    (whole : IsWhole list files codes settings tables) where
  spelt : AreSpelt files
  spelt = record { package_name = whole.package_name; exports = (let s = whole.sound in s.names) }

  clean : IsClean list files codes settings
  clean = record {
    world = (let u = whole.unbroken in u.world);
    checks = (let u = whole.unbroken in u.checks);
    read = whole.read;
    sound = whole.sound;
  }

  plain : (x : List ℕ) (c : Class) → class_named (all_classes files) x ≡ Some c → starts 91 x ≡ false
  plain x c e = let h = class_read x (each_name files list (let u = whole.unbroken in u.listed) (let u = whole.unbroken
      in u.world) spelt x c e) in h.no_array

  pub is_solid : IsSolid files
  is_solid = solid_of list files codes settings clean plain

  pub root_is : IsReceiver (all_classes files) object
  root_is = root_of files whole.sound

  pub exceptions_are : (fault : Fault) → IsException (all_classes files) (exception_class fault)
  exceptions_are fault = let h = exception_is list files (let u = whole.unbroken in u.world) whole.sound fault
      in record { imported = h.0; throwable = h.1 }

  module _ (image : StaticImage) (near : List MemberId) where
    pub receivers_are : (kind : Shape (List ℕ)) → IsMadeOf (look_ups files image near tables) kind
        → IsReceiver (all_classes files) (receiver (shape_name kind))
    receivers_are kind made = receiver_of files image (narrow_codes files near tables) is_solid root_is kind made

    pub static_is : (class : ClassTree) (id : MemberId) → IsInsnOf files codes class (jop.Call 0xB8 id)
        → IsStaticOn files tables id
    static_is class id at = short.static_is list files codes settings whole.unbroken spelt whole.read is_solid root_is
        image near tables whole.tabled class id at

    pub virtual_is : (b : Body) (stack : List Cell) (class : ClassTree) (id : MemberId)
        → IsInsnOf files codes class (jop.Call 0xB6 id) → Accepts files b 0xB6 id stack
        → IsReceiverOn files (look_ups files image near tables) tables class.name stack 0xB6 id
    virtual_is b stack class id at accepts_one = short.virtual_is list files codes settings whole.unbroken spelt
        whole.read is_solid root_is image near tables whole.tabled b stack class.name class id at accepts_one

    pub interface_is : (b : Body) (stack : List Cell) (class : ClassTree) (id : MemberId)
        → IsInsnOf files codes class (jop.Call 0xB9 id) → Accepts files b 0xB9 id stack
        → IsReceiverOn files (look_ups files image near tables) tables class.name stack 0xB9 id
    interface_is b stack class id at accepts_one = short.interface_is list files codes settings whole.unbroken spelt
        whole.read is_solid root_is image near tables whole.tabled b stack class.name class id at accepts_one

    pub special_is : (b : Body) (stack : List Cell) (class : ClassTree) (id : MemberId) → b.class ≡ class.name
        → IsInsnOf files codes class (jop.Call 0xB7 id) → Accepts files b 0xB7 id stack
        → IsReceiverOn files (look_ups files image near tables) tables class.name stack 0xB7 id
    special_is b stack class id is_holder at accepts_one = short.special_is list files codes settings whole.unbroken
        spelt whole.read is_solid root_is image near tables whole.tabled b stack class id is_holder at accepts_one

    pub scripts_find : (id : MemberId) → IsFound files (look_ups files image near tables) tables id
    scripts_find id = short.found_is list files codes settings whole.unbroken spelt whole.read is_solid root_is image
        near tables whole.tabled id

    pub fields_are : (class : ClassTree) (put : Bool) (id : MemberId) → IsInsnOf files codes class (jop.Field put id)
        → (cell : Cell) → HoldsFor files id.class cell → (m : Method) → (f : MemberId)
        × IsFieldOf files image near tables m id f cell
    unfolding root_is
    fields_are class put id at cell accepts_one m = short.field_of list files codes settings whole.unbroken spelt
        whole.read is_solid root_is image near tables whole.tabled (root_abroad files whole.sound) class put id at cell
        accepts_one m

    pub converted_is : ((m : Method) → HasTables files tables m → AreNamed files image near tables m)
        → IsFirst (look_ups files image near tables) files image → IsConverted files image near tables
    converted_is named first = converted list files codes settings whole.unbroken spelt image near tables
        (record {
          tabled = (let t = whole.tabled in t.only);
          exceptions = exceptions_are;
          named = named;
          scripted = scripts_find;
          first = first;
        })
