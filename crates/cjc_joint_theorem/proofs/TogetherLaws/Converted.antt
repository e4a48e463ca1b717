-- What is asked of several packages is what whole runs ask of their tables.
use Rattle.std.proofs.Common.{◌≡◌, ℕ, zero, suc, Bool, true, false, ◌&&◌, List, [], ◌∷◌, map, slice_get, Option, Some}
use Rattle.std.proofs.Common.{None, option_map, refl, sym, ap, subst, ◌∙◌}
use Rattle.std.specs.Prelude.{if◌then◌else◌, codes, is_some}
use Rattle.std.specs.List.{AllByRecursion}
use Rattle.cjc_bytes.specs.Descriptor.{Part, IsClassName}
use Rattle.cjc_bytes.specs.declared.fault.MemberId.{MemberId}
use Rattle.cjc_bytes.proofs.Bools.{and_true}
use Rattle.cjc_script.specs.declared.value.Value.TheVariants.{Num}
use Rattle.cjc_script.specs.declared.report.FieldValue.{FieldValue}
use Rattle.cjc_script.specs.declared.report.Thing.TheVariants as things
use Rattle.cjc_script.specs.Sorts.{Shape, OfClass, Reference, array_name, shape_name, sort_of}
use Rattle.cjc_world.specs.Classes.{Class, class_named}
use Rattle.cjc_world.specs.Files.{Files}
use Rattle.cjc_world.specs.Subtype.{is_subtype}
use Rattle.cjc_world.specs.declared.image.ArrayCell.{ArrayCell}
use Rattle.cjc_world.specs.declared.image.StaticImage.{StaticImage}
use Rattle.cjc_types.specs.Types.{parts}
use Rattle.cjc_card_semantics.specs.Bytecode.Effects.{HeapObject}
use Rattle.cjc_world.proofs.Subtypes.{reflexive, transitive}
use Rattle.cjc_ncode.specs.ByLabel.{Named, by_label, shown_slot}
use Rattle.cjc_jvm_semantics.specs.Linked.{Method, Linked}
use Rattle.cjc_jvm_semantics.specs.Effects.{Fault, Arithmetic, NullPointer, IndexOutside, NegativeSize, ClassCast}
use Rattle.cjc_jvm_semantics.specs.Effects.{ArrayStore, exception_class}
use Rattle.cjc_jvm_semantics.specs.OnePackage.{is_plain_import, static_array, cells}
use Rattle.cjc_jvm_semantics.specs.Group.{joint, group_linked}
use Rattle.cjc_narrow_proof.specs.Selection.Relation.{Heap, HasObjects, made, bare, ThingFits, numbers, Stores, shown}
use Rattle.cjc_narrow_proof.specs.Selection.Rows.{is_word_sort, narrow_fault}
use Rattle.cjc_narrow_proof.specs.Selection.Replies.{is_of_some, may_be_thrown, ThrowsAlike}
use Rattle.cjc_narrow_proof.specs.Selection.Entries.{AreGiven, no_parameter, a_parameter}
use Rattle.cjc_narrow_proof.specs.Selection.Acts.{ActsAreTold}
use Rattle.cjc_narrow_proof.proofs.SelectionLaws.ActsDone.{acts_alike}
use Rattle.cjc_narrow_proof.specs.Selection.Tables.{Point, MayRaise}
use Rattle.cjc_narrow_proof.specs.Selection.Throws.{IsRaised}
use Rattle.cjc_narrow_proof.specs.Selection.Reached.{IsAnswered}
use Rattle.cjc_narrow_proof.specs.Tables.Analysis.{Analysis, TypesAreTold, table_of}
use Rattle.cjc_narrow_proof.specs.Tables.Arrays.{ClassesAreNamed}
use Rattle.cjc_narrow_proof.specs.Tables.Package.{IsEntered, IsScripted, IsPackage}
use Rattle.cjc_narrow_proof.specs.Tables.Package as whole_package
use Rattle.cjc_narrow_proof.proofs.TablesLaws.Spelt.{shape_spelt, class_read}
use Rattle.cjc_narrow_proof.proofs.TablesLaws.Points.{point_from, point_under}
use Rattle.cjc_narrow_proof.specs.Tables.Kinds.{point_at}
use Rattle.cjc_narrow.specs.Rows.Package.{fault_name, name_there, plain_import, start_of, first_array, first_cell}
use Rattle.cjc_narrow.specs.Rows.Package.{element_of_kind}
use Rattle.cjc_narrow_proof.specs.Runs.Tables.{Tables, HasTables}
use Rattle.cjc_narrow_proof.specs.Runs.Converted.{IsFirstArray}
use Rattle.cjc_narrow_proof.specs.Runs.Types.{IsThere}
use Rattle.cjc_narrow_proof.proofs.RunsLaws.Calls.{there_by_name}
use Rattle.cjc_narrow_proof.proofs.RunsLaws.Named.{made_is_there}
use Rattle.cjc_types.specs.Search.{cells_of}
use Rattle.cjc_joint_theorem.specs.Asked.{group_named}
use Rattle.cjc_joint_theorem.specs.Together.Homes.{Homes, files_for, group_codes, group_look_ups, joint_world}
use Rattle.cjc_joint_theorem.specs.Together.Homes.{group_analysis, HasTablesIn}
use Rattle.cjc_joint_theorem.specs.Together.Converted.{IsMemberIn, IsFoundIn, AreConverted}
use Rattle.cjc_joint_theorem.specs.Together.Converted as converted
use Rattle.cjc_joint_theorem.proofs.TogetherLaws.Whole.{is_whole, begun_by}
use Rattle.cjc_joint_theorem.proofs.TogetherLaws.Calls.{asks}
use Rattle.cjc_joint_theorem.proofs.TogetherLaws.Named.{is_supported}

-- an imported class, no interface, is one that some file has
class_there : (o : Option Class) → is_plain_import o ≡ true → (c : Class) × (o ≡ Some c)
class_there None e = cc
class_there (Some c) e = (c, refl)

imported_is : (w : List Class) (name : List ℕ) → is_plain_import (class_named w name) ≡ true
    → plain_import w name ≡ Some name
imported_is w name e = ap (λ b. if b then Some name else None) e

import_of : (w : List Class) (name other : List ℕ) → plain_import w name ≡ Some other
    → is_plain_import (class_named w name) ≡ true
import_of w name other e = go (is_plain_import (class_named w name)) refl e
  where
    go : (b : Bool) → is_plain_import (class_named w name) ≡ b → (if b then Some name else None) ≡ Some other
        → is_plain_import (class_named w name) ≡ true
    go true is e = is
    go false is e = cc

same_fault : (fault : Fault) → fault_name (narrow_fault fault) ≡ exception_class fault
same_fault Arithmetic = refl
same_fault NullPointer = refl
same_fault IndexOutside = refl
same_fault NegativeSize = refl
same_fault ClassCast = refl
same_fault ArrayStore = refl

cells_shown : (xs : List FieldValue) → xs ≡ map shown_slot (map first_cell xs)
cells_shown [] = refl
cells_shown (x ∷ xs) = ap (λ ys. x ∷ ys) (cells_shown xs)

module _ (group : List Files) (image : StaticImage) (homes : Homes) (tables : Tables) (is : AreConverted group image
    homes tables) where
  abbrev w : List Class
  w = joint_world group

  abbrev by : Linked
  by = group_linked group image

  abbrev l : Named
  l = group_look_ups group image homes tables

  abbrev a : Analysis
  a = group_analysis group image homes tables

  types_told : TypesAreTold w l
  unfolding group_named
  types_told = record {
    tells = λ name shape spelt kind. ap (is_subtype w (shape_name kind)) (shape_spelt name shape spelt);
    itself = reflexive w;
    through = transitive w;
  }

  classes_named : ClassesAreNamed w l
  unfolding group_named
  classes_named = record {
    classes = is.names;
    objects = λ class objects. of_objects class objects.0 objects.1;
  }
    where
      of_objects : (class : List ℕ) (fields : List MemberId) → HasObjects l class fields → IsClassName class
      of_objects class fields (made has) = let c = made_is_there w class fields has in is.names class c.0 c.1
      of_objects class fields (bare none has) = let c = class_there (class_named w class) (import_of w class class has)
          in is.names class c.0 c.1

  raised : (fault : Fault) → IsRaised l fault
  unfolding group_named
  raised fault =
      let e = is.exceptions fault in
      let c = class_there (class_named w (exception_class fault)) e.imported in
      record {
        class = ap (name_there w) (same_fault fault) ∙ there_by_name w (exception_class fault) c.0 c.1;
        imported = imported_is w (exception_class fault) e.imported;
      }

  exceptions : MayRaise l (table_of l a)
  exceptions = record { raises = raised; may_raise = λ fault. (let e = is.exceptions fault in e.throwable) }

  thrown : (class : List ℕ) → ThrowsAlike by l class
  unfolding group_linked group_named
  thrown class = record {
    tells = go (is_plain_import (class_named w class)) (is_subtype w class (codes "java/lang/Throwable"));
    imported = λ may. imported_is w class (and_true (is_plain_import (class_named w class))
        (is_subtype w class (codes "java/lang/Throwable")) may).0;
  }
    where
      go : (a b : Bool) → (if b then (if a then Some class else None) else None) ≡ (if a && b then Some class else None)
      go true true = refl
      go true false = refl
      go false true = refl
      go false false = refl

  may_be : (class : List ℕ) → may_be_thrown by class ≡ true → is_subtype w class (codes "java/lang/Throwable") ≡ true
  unfolding group_linked
  may_be class may =
      let both = and_true (is_plain_import (class_named w class)) (is_subtype w class (codes "java/lang/Throwable"))
      may in
      both.1

  acts_told : ActsAreTold by l
  unfolding group_linked group_named
  acts_told = record {
    there = λ class e. (let c = some_class (class_named w class) e in there_by_name w class c.0 c.1);
    not_there = λ class e. ap (option_map (λ (c : Class). c.name)) (no_class (class_named w class) e);
    imported = λ class e. imported_is w class e;
    not_imported = λ class e. ap (λ b. if b then Some class else None) e;
    tells = λ of class. refl;
    spelt = shape_spelt;
  }
    where
      some_class : (o : Option Class) → is_some o ≡ true → (c : Class) × (o ≡ Some c)
      some_class None e = cc
      some_class (Some c) e = (c, refl)

      no_class : (o : Option Class) → is_some o ≡ false → o ≡ None
      no_class None e = refl
      no_class (Some c) e = cc

  answered : IsAnswered by l (table_of l a)
  answered = record { acts = acts_alike by l acts_told; throws = thrown; may_throw = may_be }

  has_tables : (m : Method) (at : ℕ) (p : Point) → (let tb = table_of l a in tb.point m at ≡ Some p)
      → HasTablesIn group homes tables m
  has_tables m at p known =
      let q = point_under (point_at l (tables.types m) (tables.ranges m) at) (a.opened m at) p known in
      let h = point_from l (slice_get (tables.types m) at) (slice_get (tables.ranges m) at) q.0 q.1 in
      is.methods m at h.typed h.has_types

  may_throw_all : (kind : Shape (List ℕ)) → l.is_of kind (OfClass (codes "java/lang/Throwable")) ≡ true
      → is_subtype w (shape_name kind) (codes "java/lang/Throwable") ≡ true
  unfolding group_named
  may_throw_all kind e = e

  -- ---- what scripts name

  given : (ps : List Part) → AllByRecursion (λ p. is_word_sort (sort_of p) ≡ true) ps
      → AllByRecursion (λ type. (kind : Shape (List ℕ)) → type ≡ Reference kind → IsThere w kind) (map sort_of ps)
      → AreGiven by l (map sort_of ps)
  given [] words known = no_parameter
  given (p ∷ ps) words known = a_parameter words.0 (λ kind e. asks group image homes tables kind (known.0 kind e))
      (given ps words.1 known.1)

  declares : (m : Method) → HasTables (files_for homes m) tables m → IsClassName (let id = m.id in id.class)
  declares m h = subst (λ (n : Method). IsClassName (let id = n.id in id.class)) (sym h.is) h.named

  entered : (id : MemberId) → IsMemberIn group l homes tables id → IsEntered by l w a id
  unfolding group_linked group_named
  entered id h = record {
    desc = h.desc;
    given = given (let d = parts id.desc in d.params) (let desc = h.desc in desc.params) h.known;
    called = refl;
    sent = λ kind. refl;
    is_called = λ m found. begun_by group image homes tables false id.desc m (h.is_called m found);
    is_sent = λ kind m made_there found. begun_by group image homes tables true id.desc m (h.is_sent kind m made_there
        found);
    receives = λ kind m made_there found. (let b = h.is_sent kind m made_there found
        in let t = b.has_tables in let name = class_read (let id = m.id in id.class) (declares m t.has) in
        ap (is_of_some l kind) name.class ∙ h.receives kind m made_there found);
  }

  scripted : (id : MemberId) → IsScripted by l w a id
  unfolding group_linked group_named
  scripted id = go (is.scripted id)
    where
      go : IsFoundIn group l homes tables id → IsScripted by l w a id
      go (converted.no_method not_called not_sent) = whole_package.no_method (record {
        not_called = not_called;
        not_sent = λ kind made. not_sent kind made;
        narrow_not_called = ap (option_map (start_of (group_codes homes tables))) not_called;
        narrow_not_sent = λ kind made. ap (option_map (start_of (group_codes homes tables))) (not_sent kind made);
      })
      go (converted.a_member h) = whole_package.methods (entered id h)

  -- ---- what the images say

  first_shown : (arrays : List ArrayCell) → AllByRecursion IsFirstArray arrays → map static_array arrays
      ≡ map (shown l) (map first_array arrays)
  unfolding by_label
  first_shown [] h = refl
  first_shown (x ∷ arrays) h =
      let one = h.0 in
      ap (λ d. things.Array d (map (λ z. Num z) x.items) ∷ map static_array arrays) one.named
      ∙ ap (λ xs. things.Array (array_name (element_of_kind x.kind)) (map (λ z. Num z) x.items)
      ∷ xs) (first_shown arrays h.1)

  first_fits : (heap : Heap) (arrays : List ArrayCell) → AllByRecursion IsFirstArray arrays
      → (k : ℕ) (thing : HeapObject (List ℕ) MemberId) → slice_get (map first_array arrays) k ≡ Some thing
      → ThingFits l heap thing
  first_fits heap [] h k thing e = cc
  first_fits heap (x ∷ arrays) h zero thing e =
      let one = h.0 in
      let same : first_array x ≡ thing = cc in
      subst (ThingFits l heap) same (numbers one.few one.held)
  first_fits heap (x ∷ arrays) h (suc k) thing e = first_fits heap arrays h.1 k thing e

  starts : Stores l (record { heap = by.heap; statics = by.statics }) l.memory
  unfolding group_linked group_named
  starts = record {
    heap = first_shown image.arrays (let first = is.first in first.arrays);
    statics = cells_shown (cells image (let j = joint group in j.classes));
    heap_fits = first_fits (map first_array image.arrays) image.arrays (let first = is.first in first.arrays);
    statics_fit = (let first = is.first in first.cells);
    cells = refl;
  }

  pub is_package : IsPackage by l w a
  is_package = record {
    types = types_told;
    arrays = classes_named;
    methods = λ m at p known. is_whole group image homes tables m (has_tables m at p known);
    supported = λ m whole at i t there row. (let h = is.methods m at t row in is_supported group image homes tables
        is.names m h.home (cells_of t.stack) i.op (is.named m h at i t there row));
    throwables = may_throw_all;
    exceptions = exceptions;
    answered = answered;
    scripted = scripted;
    starts = starts;
  }
