-- What the class files say of the names in an instruction of a method in int mode is told alike on both sides.
use Rattle.std.proofs.Common.{◌≡◌, ℕ, Bool, true, false, List, [], ◌∷◌, map, Option, Some, None, refl, sym, ap, subst}
use Rattle.std.proofs.Common.{◌∙◌, ℤ}
use Rattle.std.specs.Prelude.{is_some, if◌then◌else◌, ◌++◌, option_map}
use Rattle.std.specs.List.{list_all}
use Rattle.cjc_bytes.specs.Descriptor.{IsClassName}
use Rattle.cjc_bytes.specs.declared.fault.MemberId.{MemberId}
use Rattle.cjc_code.specs.declared.insn.JOp.{JOp}
use Rattle.cjc_script.specs.declared.value.Value.{Value}
use Rattle.cjc_script.specs.declared.report.FieldValue.{FieldValue}
use Rattle.cjc_script.specs.Sorts.{Shape, OfReferences, shape_name, shape_named, field_sort}
use Rattle.cjc_world.specs.Classes.{Class, all_classes, class_named}
use Rattle.cjc_world.specs.Files.{Files}
use Rattle.cjc_world.specs.Subtype.{starts, is_subtype}
use Rattle.cjc_world.specs.declared.image.StaticImage.{StaticImage}
use Rattle.cjc_world.proofs.Cycles.{class_named-name}
use Rattle.cjc_types.specs.declared.cell.Cell.{Cell}
use Rattle.cjc_types.specs.declared.cell.Cell.TheVariants.{Refs}
use Rattle.cjc_types.specs.Steps.{operand}
use Rattle.cjc_types.specs.Types.{array_of}
use Rattle.cjc_ncode.specs.ByLabel.{Named}
use Rattle.cjc_ncode.specs.Written.{Resolution}
use Rattle.cjc_jvm_semantics.specs.ByName.{linked}
use Rattle.cjc_jvm_semantics.specs.Effects.{Store, is_type}
use Rattle.cjc_jvm_semantics.specs.Linked.{Method, Linked, Constant, Static, Instance}
use Rattle.cjc_jvm_semantics.specs.OnePackage.{ResolvedMember, field_named, made_of, cells}
use Rattle.cjc_narrow.proofs.RowsLaws.Fields.{fields_agree}
use Rattle.cjc_narrow.specs.Rows.Package.{first_cell, named}
use Rattle.cjc_narrow.specs.Rows.Resolved.{resolved_field, by_owner, field_found, resolution}
use Rattle.cjc_narrow_proof.specs.Runs.Tables.{Tables}
use Rattle.cjc_narrow_proof.specs.Runs.Types.{IsThere, of_class as class_there, of_numbers, of_references}
use Rattle.cjc_narrow_proof.specs.Selection.Cells.{IsConstant}
use Rattle.cjc_narrow_proof.specs.Selection.Objects.{is_field, IsMade, IsClassThere, IsTypeThere}
use Rattle.cjc_narrow_proof.specs.Selection.Rows.{lists, HasField}
use Rattle.cjc_narrow_proof.specs.Tables.Kinds.{is_one_of}
use Rattle.cjc_narrow_proof.proofs.RunsLaws.Named.{made_is_there}
use Rattle.cjc_narrow_proof.proofs.TablesLaws.Spelt.{shape_spelt, class_read}
use Rattle.cjc_int_runs.specs.Fields.{IntFieldIsThere, IntCellIsThere}
use Rattle.cjc_int_alike.specs.ByModes.{analysis_by_mode, bodies_by_mode, int_resolution, look_ups_by_mode, result_in}
use Rattle.cjc_int_alike.specs.ByModes.{resolution_by}
use Rattle.cjc_int_alike.specs.Callees.{IsCalledByMode}
use Rattle.cjc_int_alike.specs.Named.{IsIntFieldOf, IsIntStaticOf, IsIntNamed}
use Rattle.cjc_int_alike.specs.Named as names
use Rattle.cjc_int_alike.specs.Names.{IsIntResolved}
use Rattle.cjc_int_alike.specs.Names as resolved
use Rattle.cjc_int_alike.specs.Package.{IsSupportedByMode, plainly, by_name, by_array, by_return, by_throw, by_call}

-- a field has the descriptor that names it, wherever it is found
same_desc : (id : MemberId) (o : Option ResolvedMember) → (let f = by_owner id o in f.desc) ≡ id.desc
same_desc id None = refl
same_desc id (Some hit) = refl

fields_of_cells : (xs : List FieldValue) → map (λ s. s.key) (map first_cell xs) ≡ map (λ cell. cell.field) xs
fields_of_cells [] = refl
fields_of_cells (x ∷ xs) = ap (λ ys. x.field ∷ ys) (fields_of_cells xs)

pub array_by_class : (class : List ℕ) → starts 91 class ≡ false → array_of class ≡ shape_name (OfReferences class)
array_by_class class e = ap (λ b. if b then 91 ∷ class else 91 ∷ 76 ∷ class ++ 59 ∷ []) e

module _ (files : Files) (image : StaticImage) (near : List MemberId) (tables : Tables) (is_int : Method → Bool)
    (class_names : (name : List ℕ) (c : Class) → class_named (all_classes files) name ≡ Some c → IsClassName name)
    (m : Method) where
  abbrev w : List Class
  w = all_classes files

  abbrev by : Linked
  by = linked files image

  abbrev l : Named
  l = look_ups_by_mode files image near tables is_int

  abbrev r : Resolution
  r = int_resolution files image near tables is_int m

  pub field_there : (id f : MemberId) (receiver : Cell) → IsIntFieldOf files image near tables is_int m id f receiver
      → (types : List (List ℕ)) → receiver ≡ Refs types → IntFieldIsThere by l r m id (is_one_of l types)
  unfolding linked resolution
  field_there id f receiver h types e =
      let agree = fields_agree files image near (let n = m.id in n.class) id in
      let same = agree.instance f h.found in
      let desc = h.desc in
      record {
        is_found = h.found ∙ ap (λ g. Some (Instance g)) (sym same);
        type = ap field_sort (same_desc id (field_found w id));
        some_value = desc.some_value;
        has = λ kind passes made. subst (λ g. HasField l g kind) (sym same) (h.has types e kind passes made);
      }

  pub cell_there : (id f : MemberId) → IsIntStaticOf files image near tables is_int m id f → IntCellIsThere by l r m id
  unfolding linked named resolution
  cell_there id f h =
      let agree = fields_agree files image near (let n = m.id in n.class) id in
      let same = agree.static f h.found in
      let desc = h.desc in
      record {
        is_found = h.found ∙ ap (λ g. Some (Static g)) (sym same.1);
        is_no_constant = same.0;
        type = ap field_sort (same_desc id (field_found w id));
        some_value = desc.some_value;
        has = ap (λ fs. lists fs (resolved_field w id)) (fields_of_cells (cells image files.classes))
            ∙ ap (lists (map (λ cell. cell.field) (cells image files.classes))) same.1 ∙ h.has;
      }

  pub is_constant : (id : MemberId) (z : ℤ) → field_named files w id ≡ Some (Constant z) → IsConstant by r m id z
  unfolding linked resolution
  is_constant id z found = record {
    by_name = found;
    narrow = (let agree = fields_agree files image near (let n = m.id
        in n.class) id in agree.constant z found);
  }

  pub class_is_there : (class : List ℕ) (c : Class) → class_named w class ≡ Some c → IsClassThere by l m class
  unfolding linked named
  class_is_there class c there =
      let name = class_read class (class_names class c there) in
      record {
        is_name = name.class;
        is_there = ap is_some there;
        arrays = record {
          is_there = ap (option_map (λ (c : Class). c.name)) there
              ∙ ap Some (class_named-name w class c there);
          is_named = name.array;
        };
      }

  pub type_is_there : (type : List ℕ) (kind : Shape (List ℕ)) → shape_named type ≡ Some kind → IsThere w kind
      → IsTypeThere by l m type
  unfolding linked named
  type_is_there type kind named there = record {
    kind = kind;
    is_name = named;
    is_there = λ at locals store. is_there at locals store kind there;
    tells = λ of. ap (is_subtype w (shape_name of)) (sym (shape_spelt type kind named));
  }
    where
      is_there : (at : ℕ) (locals : List (Option Value)) (store : Store) (kind : Shape (List ℕ)) → IsThere w kind
          → is_type by m at locals store (Some kind) ≡ true
      is_there at locals store _ (class_there c found) = ap is_some found
      is_there at locals store _ of_numbers = refl
      is_there at locals store _ (of_references c found) = ap is_some found

  pub made_there : (class : List ℕ) (fields : List MemberId) → made_of w class ≡ Some fields → list_all is_field fields
      ≡ true → IsMade by l m class
  unfolding linked named
  made_there class fields made are = record { fields = fields; by_name = made; narrow = made; are_fields = are }

  -- An instruction of a method in int mode is supported, where what it names is had.
  module _ (is_on : is_int m ≡ true) where
    abbrev Supported : List Cell → JOp → Type 0
    Supported stack op = IsSupportedByMode by l w (analysis_by_mode files image near tables is_int)
        (bodies_by_mode files image near tables is_int) (result_in files image near tables is_int) m stack op

    found_here : (stack : List Cell) (op : JOp) → IsIntResolved by l r m stack op → Supported stack op
    found_here stack op is = by_name (subst (λ int. IsIntResolved by l (resolution_by files image near tables is_int int
        m) m stack op) (sym is_on) is)

    pub is_supported : (stack : List Cell) (op : JOp) → IsIntNamed files image near tables is_int m stack op
        → Supported stack op
    is_supported stack op (names.names_nothing is) = plainly is
    is_supported stack op (names.is_on_array is) = by_array is
    is_supported stack _ (names.returns is) = by_return is
    is_supported stack _ names.throws = by_throw
    is_supported stack _ (names.a_field {named = id} f h) = found_here stack _ (resolved.a_field (let d = h.desc
        in d.is_desc) (field_there id f (operand stack 0) h))
    is_supported stack _ (names.a_put_field {named = id} f h) = found_here stack _ (resolved.a_put_field
        (let d = h.desc in d.is_desc) (field_there id f (operand stack 1) h))
    is_supported stack _ (names.a_static {put = true} {named = id} f h) = found_here stack _
        (resolved.a_put_static (let d = h.desc in d.is_desc) (cell_there id f h))
    is_supported stack _ (names.a_static {put = false} {named = id} f h) = found_here stack _
        (resolved.a_static (let d = h.desc in d.is_desc) (cell_there id f h))
    is_supported stack _ (names.a_constant {named = id} z number inside found) = found_here stack _
        (resolved.a_constant number inside (is_constant id z found))
    is_supported stack _ (names.a_class {class = class} fields made are) =
        let c = made_is_there w class fields made in
        let name = class_read class (class_names class c.0 c.1) in
        found_here stack _ (resolved.a_class (made_there class fields made are) name.class)
    is_supported stack _ (names.an_array {class = class} c there) =
        let name = class_read class (class_names class c there) in
        let same = array_by_class class name.no_array in
        found_here stack _ (resolved.an_array (class_is_there class c there) (ap shape_named same ∙ name.array)
        (sym same))
    is_supported stack _ names.booleans = found_here stack _ resolved.booleans
    is_supported stack _ names.bytes = found_here stack _ resolved.bytes
    is_supported stack _ names.shorts = found_here stack _ resolved.shorts
    is_supported stack _ names.ints = found_here stack _ resolved.ints
    is_supported stack _ (names.a_cast {type = type} kind named there) = found_here stack _
        (resolved.a_cast (type_is_there type kind named there))
    is_supported stack _ (names.a_test {type = type} kind named there) = found_here stack _
        (resolved.a_test (type_is_there type kind named there))
    is_supported stack op (names.calls is) = by_call (subst (λ int. IsCalledByMode by l w
        (analysis_by_mode files image near tables is_int) (bodies_by_mode files image near tables is_int)
        (result_in files image near tables is_int) (resolution_by files image near tables is_int int m) m stack op)
        (sym is_on) is)
