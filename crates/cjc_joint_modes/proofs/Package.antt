-- What is asked of several packages by modes is what whole runs by modes ask of their tables.
use Rattle.std.proofs.Common.{◌≡◌, ℕ, zero, suc, Bool, true, false, ◌&&◌, List, [], ◌∷◌, map, slice_get, Option, Some}
use Rattle.std.proofs.Common.{None, option_map, refl, ap, subst, ◌∙◌}
use Rattle.std.specs.Prelude.{if◌then◌else◌, codes, is_some}
use Rattle.std.specs.List.{AllByRecursion}
use Rattle.cjc_bytes.specs.Descriptor.{Part, IsClassName}
use Rattle.cjc_bytes.specs.declared.fault.MemberId.{MemberId}
use Rattle.cjc_bytes.proofs.Bools.{and_true}
use Rattle.cjc_script.specs.declared.value.Value.TheVariants.{Num}
use Rattle.cjc_script.specs.declared.report.FieldValue.{FieldValue}
use Rattle.cjc_script.specs.declared.report.Thing.TheVariants as things
use Rattle.cjc_script.specs.Sorts.{Shape, OfClass, Reference, array_name, shape_name, sort_of}
use Rattle.cjc_world.specs.Classes.{Class, class_named}
use Rattle.cjc_world.specs.Files.{Files}
use Rattle.cjc_world.specs.Subtype.{is_subtype}
use Rattle.cjc_world.specs.declared.image.ArrayCell.{ArrayCell}
use Rattle.cjc_world.specs.declared.image.StaticImage.{StaticImage}
use Rattle.cjc_types.specs.Types.{parts}
use Rattle.cjc_card_semantics.specs.Bytecode.Effects.{HeapObject}
use Rattle.cjc_world.proofs.Subtypes.{reflexive, transitive}
use Rattle.cjc_ncode.specs.ByLabel.{Named, by_label, shown_slot}
use Rattle.cjc_jvm_semantics.specs.Linked.{Method, Linked}
use Rattle.cjc_jvm_semantics.specs.Effects.{Fault, Arithmetic, NullPointer, IndexOutside, NegativeSize, ClassCast}
use Rattle.cjc_jvm_semantics.specs.Effects.{ArrayStore, exception_class}
use Rattle.cjc_jvm_semantics.specs.OnePackage.{is_plain_import, static_array, cells}
use Rattle.cjc_jvm_semantics.specs.Group.{joint, group_linked}
use Rattle.cjc_narrow_proof.specs.Selection.Relation.{Heap, HasObjects, made, bare, ThingFits, numbers, Stores, shown}
use Rattle.cjc_narrow_proof.specs.Selection.Rows.{narrow_fault}
use Rattle.cjc_narrow_proof.specs.Selection.Replies.{is_of_some, may_be_thrown, ThrowsAlike}
use Rattle.cjc_narrow_proof.specs.Selection.Acts.{ActsAreTold}
use Rattle.cjc_narrow_proof.proofs.SelectionLaws.ActsDone.{acts_alike}
use Rattle.cjc_narrow_proof.specs.Selection.Tables.{Point, MayRaise}
use Rattle.cjc_narrow_proof.specs.Selection.Throws.{IsRaised}
use Rattle.cjc_narrow_proof.specs.Selection.Reached.{IsAnswered}
use Rattle.cjc_narrow_proof.specs.Tables.Analysis.{Analysis, TypesAreTold, table_of}
use Rattle.cjc_narrow_proof.specs.Tables.Arrays.{ClassesAreNamed}
use Rattle.cjc_narrow_proof.proofs.TablesLaws.Spelt.{shape_spelt, class_read}
use Rattle.cjc_narrow_proof.proofs.TablesLaws.Points.{point_from, point_under}
use Rattle.cjc_narrow_proof.specs.Tables.Kinds.{point_at}
use Rattle.cjc_narrow.specs.Rows.Package.{fault_name, name_there, plain_import, start_of, first_array, first_cell}
use Rattle.cjc_narrow.specs.Rows.Package.{element_of_kind}
use Rattle.cjc_narrow_proof.specs.Runs.Tables.{Tables}
use Rattle.cjc_narrow_proof.specs.Runs.Converted.{IsFirstArray}
use Rattle.cjc_narrow_proof.specs.Runs.Types.{IsThere}
use Rattle.cjc_narrow_proof.proofs.RunsLaws.Calls.{there_by_name}
use Rattle.cjc_narrow_proof.proofs.RunsLaws.Named.{made_is_there}
use Rattle.cjc_types.specs.Search.{cells_of}
use Rattle.cjc_code.specs.declared.insn.JInsn.{JInsn}
use Rattle.cjc_int_runs.specs.ByModes.{ShortRule}
use Rattle.cjc_int_runs.specs.IntFrames.{IntBody}
use Rattle.cjc_int_runs.specs.Scripted.{AreAsked, none_asked, one_asked}
use Rattle.cjc_int_alike.specs.Callees.{IsEnteredByMode, IsScriptedByMode, script_finds, script_finds_none}
use Rattle.cjc_int_alike.specs.Package.{IsModePackage}
use Rattle.cjc_joint_theorem.specs.Asked.{group_named}
use Rattle.cjc_joint_theorem.specs.Together.Homes.{Homes, joint_world}
use Rattle.cjc_joint_modes.specs.Codes.{group_analysis_by_mode, group_bodies_by_mode, group_body_by}
use Rattle.cjc_joint_modes.specs.Codes.{group_codes_by_mode, group_look_ups_by_mode, in_int_mode, in_short_mode}
use Rattle.cjc_joint_modes.specs.Codes.{result_for}
use Rattle.cjc_joint_modes.specs.Converted.{IsIntMemberIn, IsFoundByModeIn, AreConvertedByModes, a_member, no_method}
use Rattle.cjc_joint_modes.proofs.Begun.{begun_by, int_begun}
use Rattle.cjc_joint_modes.proofs.Calls.{asks}
use Rattle.cjc_joint_modes.proofs.Named.{is_supported}
use Rattle.cjc_joint_modes.proofs.Rules.{short_rule}

-- an imported class, no interface, is one that some file has
class_there : (o : Option Class) → is_plain_import o ≡ true → (c : Class) × (o ≡ Some c)
class_there None e = cc
class_there (Some c) e = (c, refl)

imported_is : (w : List Class) (name : List ℕ) → is_plain_import (class_named w name) ≡ true
    → plain_import w name ≡ Some name
imported_is w name e = ap (λ b. if b then Some name else None) e

import_of : (w : List Class) (name other : List ℕ) → plain_import w name ≡ Some other
    → is_plain_import (class_named w name) ≡ true
import_of w name other e = go (is_plain_import (class_named w name)) refl e
  where
    go : (b : Bool) → is_plain_import (class_named w name) ≡ b → (if b then Some name else None) ≡ Some other
        → is_plain_import (class_named w name) ≡ true
    go true is e = is
    go false is e = cc

same_fault : (fault : Fault) → fault_name (narrow_fault fault) ≡ exception_class fault
same_fault Arithmetic = refl
same_fault NullPointer = refl
same_fault IndexOutside = refl
same_fault NegativeSize = refl
same_fault ClassCast = refl
same_fault ArrayStore = refl

cells_shown : (xs : List FieldValue) → xs ≡ map shown_slot (map first_cell xs)
cells_shown [] = refl
cells_shown (x ∷ xs) = ap (λ ys. x ∷ ys) (cells_shown xs)

module _ (group : List Files) (image : StaticImage) (homes : Homes) (tables : Tables) (is_int : Method → Bool)
    (is : AreConvertedByModes group image homes tables is_int) where
  abbrev w : List Class
  w = joint_world group

  abbrev by : Linked
  by = group_linked group image

  abbrev l : Named
  l = group_look_ups_by_mode group image homes tables is_int

  abbrev a : Analysis
  a = group_analysis_by_mode group image homes tables is_int

  abbrev bodies : Method → Option IntBody
  bodies = group_bodies_by_mode group image homes tables is_int

  types_told : TypesAreTold w l
  unfolding group_named
  types_told = record {
    tells = λ name shape spelt kind. ap (is_subtype w (shape_name kind)) (shape_spelt name shape spelt);
    itself = reflexive w;
    through = transitive w;
  }

  classes_named : ClassesAreNamed w l
  unfolding group_named
  classes_named = record {
    classes = is.names;
    objects = λ class objects. of_objects class objects.0 objects.1;
  }
    where
      of_objects : (class : List ℕ) (fields : List MemberId) → HasObjects l class fields → IsClassName class
      of_objects class fields (made has) = let c = made_is_there w class fields has in is.names class c.0 c.1
      of_objects class fields (bare none has) = let c = class_there (class_named w class) (import_of w class class has)
          in is.names class c.0 c.1

  raised : (fault : Fault) → IsRaised l fault
  unfolding group_named
  raised fault =
      let e = is.exceptions fault in
      let c = class_there (class_named w (exception_class fault)) e.imported in
      record {
        class = ap (name_there w) (same_fault fault) ∙ there_by_name w (exception_class fault) c.0 c.1;
        imported = imported_is w (exception_class fault) e.imported;
      }

  exceptions : MayRaise l (table_of l a)
  exceptions = record { raises = raised; may_raise = λ fault. (let e = is.exceptions fault in e.throwable) }

  thrown : (class : List ℕ) → ThrowsAlike by l class
  unfolding group_linked group_named
  thrown class = record {
    tells = go (is_plain_import (class_named w class)) (is_subtype w class (codes "java/lang/Throwable"));
    imported = λ may. imported_is w class (and_true (is_plain_import (class_named w class))
        (is_subtype w class (codes "java/lang/Throwable")) may).0;
  }
    where
      go : (a b : Bool) → (if b then (if a then Some class else None) else None) ≡ (if a && b then Some class else None)
      go true true = refl
      go true false = refl
      go false true = refl
      go false false = refl

  may_be : (class : List ℕ) → may_be_thrown by class ≡ true → is_subtype w class (codes "java/lang/Throwable") ≡ true
  unfolding group_linked
  may_be class may =
      let both = and_true (is_plain_import (class_named w class)) (is_subtype w class (codes "java/lang/Throwable"))
      may in
      both.1

  acts_told : ActsAreTold by l
  unfolding group_linked group_named
  acts_told = record {
    there = λ class e. (let c = some_class (class_named w class) e in there_by_name w class c.0 c.1);
    not_there = λ class e. ap (option_map (λ (c : Class). c.name)) (no_class (class_named w class) e);
    imported = λ class e. imported_is w class e;
    not_imported = λ class e. ap (λ b. if b then Some class else None) e;
    tells = λ of class. refl;
    spelt = shape_spelt;
  }
    where
      some_class : (o : Option Class) → is_some o ≡ true → (c : Class) × (o ≡ Some c)
      some_class None e = cc
      some_class (Some c) e = (c, refl)

      no_class : (o : Option Class) → is_some o ≡ false → o ≡ None
      no_class None e = refl
      no_class (Some c) e = cc

  answered : IsAnswered by l (table_of l a)
  answered = record { acts = acts_alike by l acts_told; throws = thrown; may_throw = may_be }

  may_throw_all : (kind : Shape (List ℕ)) → l.is_of kind (OfClass (codes "java/lang/Throwable")) ≡ true
      → is_subtype w (shape_name kind) (codes "java/lang/Throwable") ≡ true
  unfolding group_named
  may_throw_all kind e = e

  -- ---- what scripts name

  given : (ps : List Part) → AllByRecursion (λ type. (kind : Shape (List ℕ)) → type ≡ Reference kind
      → IsThere w kind) (map sort_of ps) → AreAsked by l (map sort_of ps)
  given [] known = none_asked
  given (p ∷ ps) known = one_asked (λ kind e. asks group image homes tables is_int kind (known.0 kind e))
      (given ps known.1)

  entered : (id : MemberId) → IsIntMemberIn group l homes tables is_int id
      → IsEnteredByMode by l w a bodies result_for id
  unfolding group_linked group_named
  entered id h = record {
    desc = h.desc;
    given = given (let d = parts id.desc in d.params) h.known;
    called = refl;
    sent = λ kind. refl;
    is_called = λ m found. begun_by group image homes tables is_int false id.desc m (h.is_called m found);
    is_sent = λ kind m made_there found. begun_by group image homes tables is_int true id.desc m (h.is_sent kind m
        made_there found);
    receives = λ kind m made_there found. (let b = h.is_sent kind m made_there found
        in let name = class_read (let id = m.id in id.class) b.named in
        ap (is_of_some l kind) name.class ∙ h.receives kind m made_there found);
  }

  scripted : (id : MemberId) → IsScriptedByMode by l w a bodies result_for id
  unfolding group_linked group_named
  scripted id = go (is.scripted id)
    where
      go : IsFoundByModeIn group l homes tables is_int id → IsScriptedByMode by l w a bodies result_for id
      go (no_method not_called not_sent) = script_finds_none (record {
        not_called = not_called;
        not_sent = λ kind made. not_sent kind made;
        narrow_not_called = ap (option_map (start_of (group_codes_by_mode homes tables is_int))) not_called;
        narrow_not_sent = λ kind made. ap (option_map (start_of (group_codes_by_mode homes tables is_int)))
            (not_sent kind made);
      })
      go (a_member h) = script_finds (entered id h)

  -- ---- what the images say

  first_shown : (arrays : List ArrayCell) → AllByRecursion IsFirstArray arrays → map static_array arrays
      ≡ map (shown l) (map first_array arrays)
  unfolding by_label
  first_shown [] h = refl
  first_shown (x ∷ arrays) h =
      let one = h.0 in
      ap (λ d. things.Array d (map (λ z. Num z) x.items) ∷ map static_array arrays) one.named
      ∙ ap (λ xs. things.Array (array_name (element_of_kind x.kind)) (map (λ z. Num z) x.items)
      ∷ xs) (first_shown arrays h.1)

  first_fits : (heap : Heap) (arrays : List ArrayCell) → AllByRecursion IsFirstArray arrays
      → (k : ℕ) (thing : HeapObject (List ℕ) MemberId) → slice_get (map first_array arrays) k ≡ Some thing
      → ThingFits l heap thing
  first_fits heap [] h k thing e = cc
  first_fits heap (x ∷ arrays) h zero thing e =
      let one = h.0 in
      let same : first_array x ≡ thing = cc in
      subst (ThingFits l heap) same (numbers one.few one.held)
  first_fits heap (x ∷ arrays) h (suc k) thing e = first_fits heap arrays h.1 k thing e

  starts : Stores l (record { heap = by.heap; statics = by.statics }) l.memory
  unfolding group_linked group_named
  starts = record {
    heap = first_shown image.arrays (let first = is.first in first.arrays);
    statics = cells_shown (cells image (let j = joint group in j.classes));
    heap_fits = first_fits (map first_array image.arrays) image.arrays (let first = is.first in first.arrays);
    statics_fit = (let first = is.first in first.cells);
    cells = refl;
  }

  -- ---- methods

  -- a method for which there is a body is in int mode
  on_int_mode : (m : Method) (b : IntBody) → bodies m ≡ Some b → is_int m ≡ true
  on_int_mode m b e = go (is_int m) e
    where
      go : (int : Bool) → group_body_by group image homes tables is_int int m ≡ Some b → int ≡ true
      go true e = refl
      go false e = cc

  off_int_mode : (m : Method) → bodies m ≡ None → is_int m ≡ false
  off_int_mode m e = go (is_int m) e
    where
      go : (int : Bool) → group_body_by group image homes tables is_int int m ≡ None → int ≡ false
      go true e = cc
      go false e = refl

  -- each reached instruction of another method keeps its rule
  short_methods : (m : Method) → bodies m ≡ None → (at : ℕ) (p : Point)
      → (let tb = table_of l a in tb.point m at ≡ Some p) → (i : JInsn) × ((slice_get m.insns at ≡ Some i)
      × ShortRule by l (table_of l a) bodies result_for m at p i)
  short_methods m none at p known =
      let off = off_int_mode m none in
      let q = point_under (point_at l (tables.types m) (tables.ranges m) at) (a.opened m at) p known in
      let h = point_from l (slice_get (tables.types m) at) (slice_get (tables.ranges m) at) q.0 q.1 in
      let has = is.others m at h.typed off h.has_types in
      short_rule group image homes tables is_int is.names m has off (is.named m (in_short_mode off has))
      (is.one_word m has off) types_told classes_named may_throw_all at p known h.typed h.has_types

  pub is_package : IsModePackage by l w a bodies result_for
  is_package = record {
    types = types_told;
    arrays = classes_named;
    int_methods = λ m b has. (let on = on_int_mode m b has in int_begun group image homes tables is_int m
        (is.int_methods m on) on);
    supported = λ m b has at i t there row. (let on = on_int_mode m b has in let h = is.int_methods m on in
        is_supported group image homes tables is_int is.names m h.home on (cells_of t.stack) i.op
        (is.named m (in_int_mode on h) at i t there row));
    short_methods = short_methods;
    throwables = may_throw_all;
    exceptions = exceptions;
    answered = answered;
    scripted = scripted;
    starts = starts;
  }
