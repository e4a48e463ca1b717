-- What the class files of several packages say of the names in an instruction is told alike on both sides.
use Rattle.std.proofs.Common.{◌≡◌, ℕ, true, false, List, [], ◌∷◌, map, Option, Some, None, refl, sym, ap, subst, ◌∙◌, ℤ}
use Rattle.std.specs.Prelude.{is_some, if◌then◌else◌, ◌++◌, option_and_then}
use Rattle.std.specs.List.{list_all}
use Rattle.cjc_bytes.specs.Descriptor.{IsClassName}
use Rattle.cjc_bytes.specs.declared.fault.MemberId.{MemberId}
use Rattle.cjc_code.specs.declared.insn.JOp.{JOp}
use Rattle.cjc_script.specs.declared.value.Value.{Value}
use Rattle.cjc_script.specs.declared.report.FieldValue.{FieldValue}
use Rattle.cjc_script.specs.Sorts.{Shape, OfReferences, shape_name, shape_named, field_sort}
use Rattle.cjc_world.specs.Classes.{Class, all_classes, class_named}
use Rattle.cjc_world.specs.Files.{Files}
use Rattle.cjc_world.specs.Subtype.{starts, is_subtype}
use Rattle.cjc_world.specs.declared.image.StaticImage.{StaticImage}
use Rattle.cjc_types.specs.declared.cell.Cell.{Cell}
use Rattle.cjc_types.specs.declared.cell.Cell.TheVariants.{Refs}
use Rattle.cjc_types.specs.Types.{array_of}
use Rattle.cjc_types.specs.Steps.{operand}
use Rattle.cjc_ncode.specs.ByLabel.{Named}
use Rattle.cjc_jvm_semantics.specs.Linked.{Method, Linked, ResolvedField, Constant, Static, Instance}
use Rattle.cjc_jvm_semantics.specs.Effects.{Store, is_type}
use Rattle.cjc_jvm_semantics.specs.OnePackage.{ResolvedMember, made_of, cells}
use Rattle.cjc_jvm_semantics.specs.ByName.{linked}
use Rattle.cjc_jvm_semantics.specs.Group.{joint, group_linked, field_from, have_class}
use Rattle.cjc_narrow_proof.specs.Selection.Rows.{lists, HasField, FieldIsThere}
use Rattle.cjc_narrow_proof.specs.Selection.Objects.{is_field, IsMade, IsClassThere, IsTypeThere}
use Rattle.cjc_narrow_proof.specs.Selection.Cells.{CellIsThere, IsConstant}
use Rattle.cjc_narrow_proof.specs.Tables.Analysis.{Analysis}
use Rattle.cjc_narrow_proof.specs.Tables.Kinds.{is_one_of}
use Rattle.cjc_narrow_proof.specs.Tables.Package.{IsSupported}
use Rattle.cjc_narrow_proof.specs.Tables.Package as supported
use Rattle.cjc_narrow_proof.specs.Tables.Names as resolved
use Rattle.cjc_narrow_proof.proofs.TablesLaws.Spelt.{shape_spelt, class_read}
use Rattle.cjc_narrow_proof.proofs.RunsLaws.Calls.{there_by_name}
use Rattle.cjc_narrow_proof.proofs.RunsLaws.Named.{made_is_there}
use Rattle.cjc_narrow.specs.Rows.Resolved.{resolved_field, by_owner, field_found, resolution}
use Rattle.cjc_narrow.specs.Pairs.Roles.{with_pairs}
use Rattle.cjc_narrow.specs.Rows.Package.{first_cell}
use Rattle.cjc_narrow.proofs.RowsLaws.Fields.{fields_agree}
use Rattle.cjc_narrow_proof.specs.Runs.Tables.{Tables}
use Rattle.cjc_narrow_proof.specs.Runs.Types.{IsThere, of_class as class_there, of_numbers, of_references}
use Rattle.cjc_joint_theorem.specs.Asked.{group_named}
use Rattle.cjc_joint_theorem.specs.Together.Homes.{Homes, files_for, group_look_ups, joint_world, group_analysis}
use Rattle.cjc_joint_theorem.specs.Together.Homes.{IsAtHome, IsThereIn}
use Rattle.cjc_joint_theorem.specs.Together.Names.{IsFieldIn, IsInstanceIn, IsCellIn, IsNamedIn}
use Rattle.cjc_joint_theorem.specs.Together.Names as names
use Rattle.cjc_joint_theorem.proofs.TogetherLaws.Calls.{static_called, receiver_called}

-- a field has the descriptor that names it, wherever it is found
same_desc : (id : MemberId) (o : Option ResolvedMember) → (let f = by_owner id o in f.desc) ≡ id.desc
same_desc id None = refl
same_desc id (Some hit) = refl

fields_of_cells : (xs : List FieldValue) → map (λ s. s.key) (map first_cell xs) ≡ map (λ cell. cell.field) xs
fields_of_cells [] = refl
fields_of_cells (x ∷ xs) = ap (λ ys. x.field ∷ ys) (fields_of_cells xs)

array_by_class : (class : List ℕ) → starts 91 class ≡ false → array_of class ≡ shape_name (OfReferences class)
array_by_class class e = ap (λ b. if b then 91 ∷ class else 91 ∷ 76 ∷ class ++ 59 ∷ []) e

-- a class that a package's own world has
has_own : (p : Files) (class : List ℕ) (c : Class) → class_named (all_classes p) class ≡ Some c
    → have_class (Some p) class ≡ true
has_own p class c e = ap is_some e

module _ (group : List Files) (image : StaticImage) (homes : Homes) (tables : Tables) (class_names : (name : List ℕ)
    (c : Class) → class_named (joint_world group) name ≡ Some c → IsClassName name) (m : Method)
    (home : IsAtHome group homes m) where
  abbrev w : List Class
  w = joint_world group

  abbrev by : Linked
  by = group_linked group image

  abbrev l : Named
  l = group_look_ups group image homes tables

  abbrev a : Analysis
  a = group_analysis group image homes tables

  abbrev p : Files
  p = files_for homes m

  abbrev near : List MemberId
  near = let h = homes m in h.near

  abbrev holder : List ℕ
  holder = let id = m.id in id.class

  -- what the machine by name finds for a field
  by_field : (id : MemberId) (field : ResolvedField) → field_from (joint group) w id p ≡ Some field
      → by.field holder id ≡ Some field
  unfolding group_linked
  by_field id field e = ap (option_and_then (field_from (joint group) w id)) home.asks ∙ e

  -- a class that the asker's files have
  knows_it : (class : List ℕ) → have_class (Some p) class ≡ true → by.is_there (Some holder) class ≡ true
  unfolding group_linked
  knows_it class e = ap (λ o. have_class o class) home.asks ∙ e

  field_there : (id f : MemberId) (receiver : Cell) → IsInstanceIn group image homes tables m id f receiver
      → (types : List (List ℕ)) → receiver ≡ Refs types → FieldIsThere by l (a.resolution m) m id (is_one_of l types)
  unfolding linked resolution with_pairs
  field_there id f receiver h types e =
      let found = h.found in
      let agree = fields_agree p image near holder id in
      let same = agree.instance f found.own in
      let desc = h.desc in
      record {
        is_found = by_field id (Instance f) found.together ∙ ap (λ g. Some (Instance g)) (sym same);
        type = ap field_sort (same_desc id (field_found (all_classes p) id));
        one_word = desc.one_word;
        has = λ kind passes made. subst (λ g. HasField l g kind) (sym same) (h.has types e kind passes made);
      }

  cell_there : (id f : MemberId) → IsCellIn group image homes tables m id f → CellIsThere by l (a.resolution m) m id
  unfolding linked group_named resolution with_pairs
  cell_there id f h =
      let found = h.found in
      let agree = fields_agree p image near holder id in
      let same = agree.static f found.own in
      let desc = h.desc in
      record {
        is_found = by_field id (Static f) found.together ∙ ap (λ g. Some (Static g)) (sym same.1);
        is_no_constant = same.0;
        type = ap field_sort (same_desc id (field_found (all_classes p) id));
        one_word = desc.one_word;
        has = ap (λ fs. lists fs (resolved_field (all_classes p) id)) (fields_of_cells (cells image (let j = joint group
            in j.classes)))
            ∙ ap (lists (map (λ cell. cell.field) (cells image (let j = joint group in j.classes)))) same.1 ∙ h.has;
      }

  is_constant : (id : MemberId) (z : ℤ) → IsFieldIn group p id (Constant z)
      → IsConstant by (a.resolution m) m id z
  unfolding linked resolution with_pairs
  is_constant id z found = record {
    by_name = by_field id (Constant z) found.together;
    narrow = (let agree = fields_agree p image near holder id in agree.constant z found.own);
  }

  class_is_there : (class : List ℕ) (c : Class) → have_class (Some p) class ≡ true → class_named w class ≡ Some c
      → IsClassThere by l m class
  unfolding group_named
  class_is_there class c known there =
      let name = class_read class (class_names class c there) in
      record {
        is_name = name.class;
        is_there = knows_it class known;
        arrays = record { is_there = there_by_name w class c there; is_named = name.array };
      }

  type_is_there : (type : List ℕ) (kind : Shape (List ℕ)) → shape_named type ≡ Some kind → IsThereIn group p kind
      → IsTypeThere by l m type
  unfolding group_linked group_named
  type_is_there type kind named there = record {
    kind = kind;
    is_name = named;
    is_there = λ at locals store. is_there at locals store kind there.own;
    tells = λ of. ap (is_subtype w (shape_name of)) (sym (shape_spelt type kind named));
  }
    where
      is_there : (at : ℕ) (locals : List (Option Value)) (store : Store) (kind : Shape (List ℕ))
          → IsThere (all_classes p) kind → is_type by m at locals store (Some kind) ≡ true
      is_there at locals store _ (class_there {class = class} c found) = knows_it class (has_own p class c found)
      is_there at locals store _ of_numbers = refl
      is_there at locals store _ (of_references {class = class} c found) = knows_it class (has_own p class c found)

  made_there : (class : List ℕ) (fields : List MemberId) → have_class (Some p) class ≡ true → made_of w class
      ≡ Some fields → list_all is_field fields ≡ true → IsMade by l m class
  unfolding group_linked group_named
  made_there class fields known made are = record {
    fields = fields;
    by_name = ap (λ b. if b then made_of w class else None) (knows_it class known) ∙ made;
    narrow = made;
    are_fields = are;
  }

  pub is_supported : (stack : List Cell) (op : JOp) → IsNamedIn group image homes tables m stack op
      → IsSupported by l w a m stack op
  is_supported stack op (names.names_nothing is) = supported.names_nothing is
  is_supported stack op (names.is_on_array is) = supported.is_on_array is
  is_supported stack _ (names.returns is) = supported.returns is
  is_supported stack _ names.throws = supported.throws
  is_supported stack _ (names.a_field {named = id} f h) = supported.is_resolved (resolved.a_field (let d = h.desc
      in d.is_desc) (field_there id f (operand stack 0) h))
  is_supported stack _ (names.a_put_field {named = id} f h) =
      supported.is_resolved (resolved.a_put_field (let d = h.desc in d.is_desc) (field_there id f (operand stack 1) h))
  is_supported stack _ (names.a_static {put = true} {named = id} f h) =
      supported.is_resolved (resolved.a_put_static (let d = h.desc in d.is_desc) (cell_there id f h))
  is_supported stack _ (names.a_static {put = false} {named = id} f h) =
      supported.is_resolved (resolved.a_static (let d = h.desc in d.is_desc) (cell_there id f h))
  is_supported stack _ (names.a_constant {named = id} z number inside found) =
      supported.is_resolved (resolved.a_constant number inside (is_constant id z found))
  is_supported stack _ (names.a_class {class = class} fields known made are) =
      let c = made_is_there w class fields made in
      let name = class_read class (class_names class c.0 c.1) in
      supported.is_resolved (resolved.a_class (made_there class fields known made are) name.class)
  is_supported stack _ (names.an_array {class = class} c known there) =
      let name = class_read class (class_names class c there) in
      let same = array_by_class class name.no_array in
      supported.is_resolved (resolved.an_array (class_is_there class c known there) (ap shape_named same
      ∙ name.array) (sym same))
  is_supported stack _ names.booleans = supported.is_resolved resolved.booleans
  is_supported stack _ names.bytes = supported.is_resolved resolved.bytes
  is_supported stack _ names.shorts = supported.is_resolved resolved.shorts
  is_supported stack _ (names.a_cast {type = type} kind named there) =
      supported.is_resolved (resolved.a_cast (type_is_there type kind named there))
  is_supported stack _ (names.a_test {type = type} kind named there) =
      supported.is_resolved (resolved.a_test (type_is_there type kind named there))
  is_supported stack _ (names.a_static_call {id = id} h) = supported.calls (static_called group image homes tables m
      home id stack h)
  is_supported stack _ (names.a_call_on_receiver {op = op} {id = id} h) =
      supported.calls (receiver_called group image homes tables m home stack op id h)
