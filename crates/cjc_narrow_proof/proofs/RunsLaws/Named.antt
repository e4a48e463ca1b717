-- What the class files say of the names in an instruction is told alike on both sides.
use Rattle.std.proofs.Common.{◌≡◌, ℕ, true, false, List, [], ◌∷◌, map, Option, Some, None, refl, sym, ap, subst, ◌∙◌, ℤ}
use Rattle.std.specs.Prelude.{is_some, if◌then◌else◌, ◌++◌, option_map, option_and_then}
use Rattle.std.specs.List.{list_all}
use Rattle.cjc_bytes.specs.Descriptor.{IsClassName}
use Rattle.cjc_bytes.specs.declared.fault.MemberId.{MemberId}
use Rattle.cjc_code.specs.declared.insn.JOp.{JOp}
use Rattle.cjc_script.specs.declared.value.Value.{Value}
use Rattle.cjc_script.specs.declared.report.FieldValue.{FieldValue}
use Rattle.cjc_script.specs.Sorts.{Shape, OfReferences, shape_name, shape_named, field_sort}
use Rattle.cjc_world.specs.Classes.{Class, all_classes, class_named}
use Rattle.cjc_world.specs.Files.{Files}
use Rattle.cjc_world.specs.Subtype.{starts, is_subtype}
use Rattle.cjc_world.specs.declared.image.StaticImage.{StaticImage}
use Rattle.cjc_world.proofs.Cycles.{class_named-name}
use Rattle.cjc_types.specs.declared.cell.Cell.{Cell}
use Rattle.cjc_types.specs.declared.cell.Cell.TheVariants.{Refs}
use Rattle.cjc_types.specs.Types.{array_of}
use Rattle.cjc_types.specs.Steps.{operand}
use Rattle.cjc_ncode.specs.ByLabel.{Named}
use Rattle.cjc_jvm_semantics.specs.Linked.{Method, Linked, Constant, Static, Instance}
use Rattle.cjc_jvm_semantics.specs.Effects.{Store, is_type}
use Rattle.cjc_jvm_semantics.specs.OnePackage.{ResolvedMember, field_named, is_made, object_fields, made_of, cells}
use Rattle.cjc_jvm_semantics.specs.ByName.{linked}
use Rattle.cjc_narrow_proof.specs.Selection.Rows.{lists, HasField, FieldIsThere}
use Rattle.cjc_narrow_proof.specs.Selection.Objects.{is_field, IsMade, IsClassThere, IsTypeThere}
use Rattle.cjc_narrow_proof.specs.Selection.Cells.{CellIsThere, IsConstant}
use Rattle.cjc_narrow_proof.specs.Tables.Kinds.{is_one_of}
use Rattle.cjc_narrow_proof.specs.Tables.Package.{IsSupported}
use Rattle.cjc_narrow_proof.specs.Tables.Package as supported
use Rattle.cjc_narrow_proof.specs.Tables.Names as resolved
use Rattle.cjc_narrow_proof.proofs.TablesLaws.Spelt.{shape_spelt, class_read}
use Rattle.cjc_narrow.specs.Rows.Resolved.{resolved_field, by_owner, field_found, resolution}
use Rattle.cjc_narrow.specs.Pairs.Roles.{with_pairs}
use Rattle.cjc_narrow.specs.Rows.Package.{first_cell, named}
use Rattle.cjc_narrow.proofs.RowsLaws.Fields.{fields_agree}
use Rattle.cjc_narrow_proof.specs.Runs.Tables.{Tables, look_ups, analysis}
use Rattle.cjc_narrow_proof.specs.Runs.Types.{IsThere, of_class as class_there, of_numbers, of_references}
use Rattle.cjc_narrow_proof.specs.Runs.Names.{IsFieldOf, IsStaticOf, IsNamed}
use Rattle.cjc_narrow_proof.specs.Runs.Names as names
use Rattle.cjc_narrow_proof.proofs.RunsLaws.Calls.{static_called, receiver_called}

-- a class of which objects are made is one that some file has
pub made_is_there : (w : List Class) (name : List ℕ) (fields : List MemberId) → made_of w name ≡ Some fields
    → (c : Class) × (class_named w name ≡ Some c)
made_is_there w name fields e = go (class_named w name) refl e
  where
    go : (o : Option Class) → class_named w name ≡ o → option_and_then (λ c. if is_made c
        then Some (object_fields w name) else None) o ≡ Some fields → (c : Class) × (class_named w name ≡ Some c)
    go None is e = cc
    go (Some c) is e = (c, is)

-- a field has the descriptor that names it, wherever it is found
same_desc : (id : MemberId) (o : Option ResolvedMember) → (let f = by_owner id o in f.desc) ≡ id.desc
same_desc id None = refl
same_desc id (Some hit) = refl

fields_of_cells : (xs : List FieldValue) → map (λ s. s.key) (map first_cell xs) ≡ map (λ cell. cell.field) xs
fields_of_cells [] = refl
fields_of_cells (x ∷ xs) = ap (λ ys. x.field ∷ ys) (fields_of_cells xs)

array_by_class : (class : List ℕ) → starts 91 class ≡ false → array_of class ≡ shape_name (OfReferences class)
array_by_class class e = ap (λ b. if b then 91 ∷ class else 91 ∷ 76 ∷ class ++ 59 ∷ []) e

module _ (files : Files) (image : StaticImage) (near : List MemberId) (tables : Tables) (class_names : (name : List ℕ)
    (c : Class) → class_named (all_classes files) name ≡ Some c → IsClassName name) (m : Method) where
  abbrev w : List Class
  w = all_classes files

  abbrev by : Linked
  by = linked files image

  abbrev l : Named
  l = look_ups files image near tables

  field_there : (id f : MemberId) (receiver : Cell) → IsFieldOf files image near tables m id f receiver
      → (types : List (List ℕ)) → receiver ≡ Refs types → FieldIsThere by l (let a = analysis files image near tables
      in a.resolution m) m id (is_one_of l types)
  unfolding linked resolution with_pairs
  field_there id f receiver h types e =
      let agree = fields_agree files image near (let n = m.id in n.class) id in
      let same = agree.instance f h.found in
      let desc = h.desc in
      record {
        is_found = h.found ∙ ap (λ g. Some (Instance g)) (sym same);
        type = ap field_sort (same_desc id (field_found w id));
        one_word = desc.one_word;
        has = λ kind passes made. subst (λ g. HasField l g kind) (sym same) (h.has types e kind passes made);
      }

  cell_there : (id f : MemberId) → IsStaticOf files image near tables m id f
      → CellIsThere by l (let a = analysis files image near tables in a.resolution m) m id
  unfolding linked named resolution with_pairs
  cell_there id f h =
      let agree = fields_agree files image near (let n = m.id in n.class) id in
      let same = agree.static f h.found in
      let desc = h.desc in
      record {
        is_found = h.found ∙ ap (λ g. Some (Static g)) (sym same.1);
        is_no_constant = same.0;
        type = ap field_sort (same_desc id (field_found w id));
        one_word = desc.one_word;
        has = ap (λ fs. lists fs (resolved_field w id)) (fields_of_cells (cells image files.classes))
            ∙ ap (lists (map (λ cell. cell.field) (cells image files.classes))) same.1 ∙ h.has;
      }

  is_constant : (id : MemberId) (z : ℤ) → field_named files w id ≡ Some (Constant z)
      → IsConstant by (let a = analysis files image near tables in a.resolution m) m id z
  unfolding linked resolution with_pairs
  is_constant id z found = record {
    by_name = found;
    narrow = (let agree = fields_agree files image near (let n = m.id
        in n.class) id in agree.constant z found);
  }

  class_is_there : (class : List ℕ) (c : Class) → class_named w class ≡ Some c → IsClassThere by l m class
  unfolding linked named
  class_is_there class c there =
      let name = class_read class (class_names class c there) in
      record {
        is_name = name.class;
        is_there = ap is_some there;
        arrays = record {
          is_there = ap (option_map (λ (c : Class). c.name)) there
              ∙ ap Some (class_named-name w class c there);
          is_named = name.array;
        };
      }

  type_is_there : (type : List ℕ) (kind : Shape (List ℕ)) → shape_named type ≡ Some kind → IsThere w kind
      → IsTypeThere by l m type
  unfolding linked named
  type_is_there type kind named there = record {
    kind = kind;
    is_name = named;
    is_there = λ at locals store. is_there at locals store kind there;
    tells = λ of. ap (is_subtype w (shape_name of)) (sym (shape_spelt type kind named));
  }
    where
      is_there : (at : ℕ) (locals : List (Option Value)) (store : Store) (kind : Shape (List ℕ)) → IsThere w kind
          → is_type by m at locals store (Some kind) ≡ true
      is_there at locals store _ (class_there c found) = ap is_some found
      is_there at locals store _ of_numbers = refl
      is_there at locals store _ (of_references c found) = ap is_some found

  made_there : (class : List ℕ) (fields : List MemberId) → made_of w class ≡ Some fields → list_all is_field fields
      ≡ true → IsMade by l m class
  unfolding linked named
  made_there class fields made are = record { fields = fields; by_name = made; narrow = made; are_fields = are }

  pub is_supported : (stack : List Cell) (op : JOp) → IsNamed files image near tables m stack op
      → IsSupported by l w (analysis files image near tables) m stack op
  is_supported stack op (names.names_nothing is) = supported.names_nothing is
  is_supported stack op (names.is_on_array is) = supported.is_on_array is
  is_supported stack _ (names.returns is) = supported.returns is
  is_supported stack _ names.throws = supported.throws
  is_supported stack _ (names.a_field {named = id} f h) = supported.is_resolved (resolved.a_field (let d = h.desc
      in d.is_desc) (field_there id f (operand stack 0) h))
  is_supported stack _ (names.a_put_field {named = id} f h) =
      supported.is_resolved (resolved.a_put_field (let d = h.desc in d.is_desc) (field_there id f (operand stack 1) h))
  is_supported stack _ (names.a_static {put = true} {named = id} f h) =
      supported.is_resolved (resolved.a_put_static (let d = h.desc in d.is_desc) (cell_there id f h))
  is_supported stack _ (names.a_static {put = false} {named = id} f h) =
      supported.is_resolved (resolved.a_static (let d = h.desc in d.is_desc) (cell_there id f h))
  is_supported stack _ (names.a_constant {named = id} z number inside found) =
      supported.is_resolved (resolved.a_constant number inside (is_constant id z found))
  is_supported stack _ (names.a_class {class = class} fields made are) =
      let c = made_is_there w class fields made in
      let name = class_read class (class_names class c.0 c.1) in
      supported.is_resolved (resolved.a_class (made_there class fields made are) name.class)
  is_supported stack _ (names.an_array {class = class} c there) =
      let name = class_read class (class_names class c there) in
      let same = array_by_class class name.no_array in
      supported.is_resolved (resolved.an_array (class_is_there class c there) (ap shape_named same
      ∙ name.array) (sym same))
  is_supported stack _ names.booleans = supported.is_resolved resolved.booleans
  is_supported stack _ names.bytes = supported.is_resolved resolved.bytes
  is_supported stack _ names.shorts = supported.is_resolved resolved.shorts
  is_supported stack _ (names.a_cast {type = type} kind named there) =
      supported.is_resolved (resolved.a_cast (type_is_there type kind named there))
  is_supported stack _ (names.a_test {type = type} kind named there) =
      supported.is_resolved (resolved.a_test (type_is_there type kind named there))
  is_supported stack _ (names.a_static_call {id = id} h) = supported.calls (static_called files image near tables m id
      stack h)
  is_supported stack _ (names.a_call_on_receiver {op = op} {id = id} h) =
      supported.calls (receiver_called files image near tables m stack op id h)
