-- What the class files of several packages say of the names in an instruction in code of either mode is told alike on
-- both sides.
use Rattle.std.proofs.Common.{◌≡◌, ℕ, Bool, true, false, List, [], ◌∷◌, map, Option, Some, None, refl, sym, ap, subst}
use Rattle.std.proofs.Common.{◌∙◌, ℤ}
use Rattle.std.specs.Prelude.{is_some, if◌then◌else◌, option_and_then}
use Rattle.std.specs.List.{list_all}
use Rattle.cjc_bytes.specs.Descriptor.{IsClassName}
use Rattle.cjc_bytes.specs.declared.fault.MemberId.{MemberId}
use Rattle.cjc_code.specs.declared.insn.JOp.{JOp}
use Rattle.cjc_script.specs.declared.value.Value.{Value}
use Rattle.cjc_script.specs.declared.report.FieldValue.{FieldValue}
use Rattle.cjc_script.specs.Sorts.{Shape, shape_name, shape_named, field_sort}
use Rattle.cjc_world.specs.Classes.{Class, all_classes, class_named}
use Rattle.cjc_world.specs.Files.{Files}
use Rattle.cjc_world.specs.Subtype.{is_subtype}
use Rattle.cjc_world.specs.declared.image.StaticImage.{StaticImage}
use Rattle.cjc_types.specs.declared.cell.Cell.{Cell}
use Rattle.cjc_types.specs.declared.cell.Cell.TheVariants.{Refs}
use Rattle.cjc_types.specs.Steps.{operand}
use Rattle.cjc_ncode.specs.ByLabel.{Named}
use Rattle.cjc_jvm_semantics.specs.Linked.{Method, Linked, ResolvedField, Constant, Static, Instance}
use Rattle.cjc_jvm_semantics.specs.Effects.{Store, is_type}
use Rattle.cjc_jvm_semantics.specs.OnePackage.{ResolvedMember, made_of, cells}
use Rattle.cjc_jvm_semantics.specs.ByName.{linked}
use Rattle.cjc_jvm_semantics.specs.Group.{joint, group_linked, field_from, have_class}
use Rattle.cjc_narrow_proof.specs.Selection.Rows.{lists, HasField, FieldIsThere}
use Rattle.cjc_narrow_proof.specs.Selection.Objects.{is_field, IsMade, IsClassThere, IsTypeThere}
use Rattle.cjc_narrow_proof.specs.Selection.Cells.{CellIsThere, IsConstant}
use Rattle.cjc_narrow_proof.specs.Tables.Analysis.{Analysis}
use Rattle.cjc_narrow_proof.specs.Tables.Kinds.{is_one_of}
use Rattle.cjc_narrow_proof.specs.Tables.Package.{IsSupported}
use Rattle.cjc_narrow_proof.specs.Tables.Package as supported
use Rattle.cjc_narrow_proof.specs.Tables.Names as resolved
use Rattle.cjc_narrow_proof.proofs.TablesLaws.Spelt.{shape_spelt, class_read}
use Rattle.cjc_narrow_proof.proofs.RunsLaws.Calls.{there_by_name}
use Rattle.cjc_narrow_proof.proofs.RunsLaws.Named.{made_is_there}
use Rattle.cjc_narrow.specs.Rows.Resolved.{resolved_field, by_owner, field_found, resolution}
use Rattle.cjc_narrow.specs.Pairs.Roles.{with_pairs}
use Rattle.cjc_narrow.specs.Rows.Package.{first_cell}
use Rattle.cjc_narrow.proofs.RowsLaws.Fields.{fields_agree}
use Rattle.cjc_narrow_proof.specs.Runs.Tables.{Tables}
use Rattle.cjc_narrow_proof.specs.Runs.Types.{IsThere, of_class as class_there, of_numbers, of_references}
use Rattle.cjc_joint_theorem.specs.Asked.{group_named}
use Rattle.cjc_ncode.specs.ByLabel.{Callee}
use Rattle.cjc_ncode.specs.Written.{Resolution}
use Rattle.cjc_narrow_proof.specs.Selection.Callees.{Names, a_static, a_direct, a_super, a_virtual, an_interface}
use Rattle.cjc_narrow_proof.specs.Selection.Rows.{is_word_sort}
use Rattle.cjc_narrow_proof.specs.Tables.Names.{IsResolved}
use Rattle.cjc_narrow_proof.specs.Tables.Package.{leaves_frame}
use Rattle.cjc_narrow_proof.specs.Tables.Supported.{IsReturn}
use Rattle.cjc_code.specs.declared.insn.JOp.TheVariants as jop
use Rattle.cjc_int_runs.specs.Fields.{IntFieldIsThere, IntCellIsThere}
use Rattle.cjc_int_runs.specs.IntFrames.{IntBody}
use Rattle.cjc_int_alike.specs.Callees.{IsCalledByMode, calls_method, calls_import, calls_on_receiver}
use Rattle.cjc_int_alike.specs.Named.{IsOneWord}
use Rattle.cjc_int_alike.specs.Names.{IsIntResolved, as_outside, iaload, iastore}
use Rattle.cjc_int_alike.specs.Names as int_names
use Rattle.cjc_int_alike.specs.Package.{IsSupportedByMode, plainly, by_name, by_array, by_return, by_throw, by_call}
use Rattle.cjc_int_alike.proofs.Named.{array_by_class}
use Rattle.cjc_joint_theorem.specs.Together.Homes.{Homes, files_for, resolution_for, joint_world, IsAtHome, IsThereIn}
use Rattle.cjc_joint_theorem.specs.Together.Names.{IsFieldIn}
use Rattle.cjc_joint_modes.specs.Codes.{group_analysis_by_mode, group_bodies_by_mode, group_look_ups_by_mode}
use Rattle.cjc_joint_modes.specs.Codes.{int_resolution_for, resolution_by, result_for}
use Rattle.cjc_joint_modes.specs.Names.{IsIntInstanceIn, IsIntCellIn, IsIntNamedIn}
use Rattle.cjc_joint_modes.specs.Names as names
use Rattle.cjc_joint_modes.proofs.Calls.{static_called, receiver_called}

-- a field has the descriptor that names it, wherever it is found
same_desc : (id : MemberId) (o : Option ResolvedMember) → (let f = by_owner id o in f.desc) ≡ id.desc
same_desc id None = refl
same_desc id (Some hit) = refl

fields_of_cells : (xs : List FieldValue) → map (λ s. s.key) (map first_cell xs) ≡ map (λ cell. cell.field) xs
fields_of_cells [] = refl
fields_of_cells (x ∷ xs) = ap (λ ys. x.field ∷ ys) (fields_of_cells xs)

-- a class that a package's own world has
has_own : (p : Files) (class : List ℕ) (c : Class) → class_named (all_classes p) class ≡ Some c
    → have_class (Some p) class ≡ true
has_own p class c e = ap is_some e

module _ (group : List Files) (image : StaticImage) (homes : Homes) (tables : Tables) (is_int : Method → Bool)
    (class_names : (name : List ℕ) (c : Class) → class_named (joint_world group) name ≡ Some c → IsClassName name)
    (m : Method) (home : IsAtHome group homes m) where
  abbrev w : List Class
  w = joint_world group

  abbrev by : Linked
  by = group_linked group image

  abbrev l : Named
  l = group_look_ups_by_mode group image homes tables is_int

  abbrev a : Analysis
  a = group_analysis_by_mode group image homes tables is_int

  abbrev bodies : Method → Option IntBody
  bodies = group_bodies_by_mode group image homes tables is_int

  abbrev r : Resolution
  r = int_resolution_for homes tables m

  abbrev p : Files
  p = files_for homes m

  abbrev near : List MemberId
  near = let h = homes m in h.near

  abbrev holder : List ℕ
  holder = let id = m.id in id.class

  -- what the machine by name finds for a field
  by_field : (id : MemberId) (field : ResolvedField) → field_from (joint group) w id p ≡ Some field
      → by.field holder id ≡ Some field
  unfolding group_linked
  by_field id field e = ap (option_and_then (field_from (joint group) w id)) home.asks ∙ e

  -- a class that the asker's files have
  knows_it : (class : List ℕ) → have_class (Some p) class ≡ true → by.is_there (Some holder) class ≡ true
  unfolding group_linked
  knows_it class e = ap (λ o. have_class o class) home.asks ∙ e

  field_there : (id f : MemberId) (receiver : Cell) → IsIntInstanceIn group image homes tables is_int m id f receiver
      → (types : List (List ℕ)) → receiver ≡ Refs types → IntFieldIsThere by l r m id (is_one_of l types)
  unfolding linked resolution
  field_there id f receiver h types e =
      let found = h.found in
      let agree = fields_agree p image near holder id in
      let same = agree.instance f found.own in
      let desc = h.desc in
      record {
        is_found = by_field id (Instance f) found.together ∙ ap (λ g. Some (Instance g)) (sym same);
        type = ap field_sort (same_desc id (field_found (all_classes p) id));
        some_value = desc.some_value;
        has = λ kind passes made. subst (λ g. HasField l g kind) (sym same) (h.has types e kind passes made);
      }

  cell_there : (id f : MemberId) → IsIntCellIn group image homes tables is_int m id f → IntCellIsThere by l r m id
  unfolding linked group_named resolution
  cell_there id f h =
      let found = h.found in
      let agree = fields_agree p image near holder id in
      let same = agree.static f found.own in
      let desc = h.desc in
      record {
        is_found = by_field id (Static f) found.together ∙ ap (λ g. Some (Static g)) (sym same.1);
        is_no_constant = same.0;
        type = ap field_sort (same_desc id (field_found (all_classes p) id));
        some_value = desc.some_value;
        has = ap (λ fs. lists fs (resolved_field (all_classes p) id)) (fields_of_cells (cells image (let j = joint group
            in j.classes)))
            ∙ ap (lists (map (λ cell. cell.field) (cells image (let j = joint group in j.classes)))) same.1 ∙ h.has;
      }

  is_constant : (id : MemberId) (z : ℤ) → IsFieldIn group p id (Constant z)
      → IsConstant by r m id z
  unfolding linked resolution
  is_constant id z found = record {
    by_name = by_field id (Constant z) found.together;
    narrow = (let agree = fields_agree p image near holder id in agree.constant z found.own);
  }

  class_is_there : (class : List ℕ) (c : Class) → have_class (Some p) class ≡ true → class_named w class ≡ Some c
      → IsClassThere by l m class
  unfolding group_named
  class_is_there class c known there =
      let name = class_read class (class_names class c there) in
      record {
        is_name = name.class;
        is_there = knows_it class known;
        arrays = record { is_there = there_by_name w class c there; is_named = name.array };
      }

  type_is_there : (type : List ℕ) (kind : Shape (List ℕ)) → shape_named type ≡ Some kind → IsThereIn group p kind
      → IsTypeThere by l m type
  unfolding group_linked group_named
  type_is_there type kind named there = record {
    kind = kind;
    is_name = named;
    is_there = λ at locals store. is_there at locals store kind there.own;
    tells = λ of. ap (is_subtype w (shape_name of)) (sym (shape_spelt type kind named));
  }
    where
      is_there : (at : ℕ) (locals : List (Option Value)) (store : Store) (kind : Shape (List ℕ))
          → IsThere (all_classes p) kind → is_type by m at locals store (Some kind) ≡ true
      is_there at locals store _ (class_there {class = class} c found) = knows_it class (has_own p class c found)
      is_there at locals store _ of_numbers = refl
      is_there at locals store _ (of_references {class = class} c found) = knows_it class (has_own p class c found)

  made_there : (class : List ℕ) (fields : List MemberId) → have_class (Some p) class ≡ true → made_of w class
      ≡ Some fields → list_all is_field fields ≡ true → IsMade by l m class
  unfolding group_linked group_named
  made_there class fields known made are = record {
    fields = fields;
    by_name = ap (λ b. if b then made_of w class else None) (knows_it class known) ∙ made;
    narrow = made;
    are_fields = are;
  }

  -- ---- in int mode

  module _ (is_on : is_int m ≡ true) where
    abbrev Supported : List Cell → JOp → Type 0
    Supported stack op = IsSupportedByMode by l w a bodies result_for m stack op

    found_here : (stack : List Cell) (op : JOp) → IsIntResolved by l r m stack op → Supported stack op
    found_here stack op is = by_name (subst (λ int. IsIntResolved by l (resolution_by homes tables int m) m stack op)
        (sym is_on) is)

    call_here : (stack : List Cell) (op : JOp) → IsCalledByMode by l w a bodies result_for r m stack op
        → Supported stack op
    call_here stack op is = by_call (subst (λ int. IsCalledByMode by l w a bodies result_for (resolution_by homes tables
        int m) m stack op) (sym is_on) is)

    -- An instruction of a method in int mode is supported, where what it names is had.
    pub is_supported : (stack : List Cell) (op : JOp) → IsIntNamedIn group image homes tables is_int m stack op
        → Supported stack op
    is_supported stack op (names.names_nothing is) = plainly is
    is_supported stack op (names.is_on_array is) = by_array is
    is_supported stack _ (names.returns is) = by_return is
    is_supported stack _ names.throws = by_throw
    is_supported stack _ (names.a_field {named = id} f h) = found_here stack _ (int_names.a_field (let d = h.desc
        in d.is_desc) (field_there id f (operand stack 0) h))
    is_supported stack _ (names.a_put_field {named = id} f h) = found_here stack _ (int_names.a_put_field
        (let d = h.desc in d.is_desc) (field_there id f (operand stack 1) h))
    is_supported stack _ (names.a_static {put = true} {named = id} f h) = found_here stack _
        (int_names.a_put_static (let d = h.desc in d.is_desc) (cell_there id f h))
    is_supported stack _ (names.a_static {put = false} {named = id} f h) = found_here stack _
        (int_names.a_static (let d = h.desc in d.is_desc) (cell_there id f h))
    is_supported stack _ (names.a_constant {named = id} z number inside found) = found_here stack _
        (int_names.a_constant number inside (is_constant id z found))
    is_supported stack _ (names.a_class {class = class} fields known made are) =
        let c = made_is_there w class fields made in
        let name = class_read class (class_names class c.0 c.1) in
        found_here stack _ (int_names.a_class (made_there class fields known made are) name.class)
    is_supported stack _ (names.an_array {class = class} c known there) =
        let name = class_read class (class_names class c there) in
        let same = array_by_class class name.no_array in
        found_here stack _ (int_names.an_array (class_is_there class c known there) (ap shape_named same
        ∙ name.array) (sym same))
    is_supported stack _ names.booleans = found_here stack _ int_names.booleans
    is_supported stack _ names.bytes = found_here stack _ int_names.bytes
    is_supported stack _ names.shorts = found_here stack _ int_names.shorts
    is_supported stack _ names.ints = found_here stack _ int_names.ints
    is_supported stack _ (names.a_cast {type = type} kind named there) = found_here stack _
        (int_names.a_cast (type_is_there type kind named there))
    is_supported stack _ (names.a_test {type = type} kind named there) = found_here stack _
        (int_names.a_test (type_is_there type kind named there))
    is_supported stack _ (names.a_static_call {id = id} h) = call_here stack _
        (static_called group image homes tables is_int m home id stack h)
    is_supported stack _ (names.a_call_on_receiver {op = op} {id = id} h) = call_here stack _
        (receiver_called group image homes tables is_int m home stack op id h)

  -- ---- in short mode

  module _ (off : is_int m ≡ false) where
    abbrev r_short : Resolution
    r_short = resolution_for homes tables m

    -- what names stand for outside int mode
    here : (P : Resolution → Type 0) → P r_short → P (a.resolution m)
    here P p = subst (λ int. P (resolution_by homes tables int m)) (sym off) p

    field_short : (id f : MemberId) (receiver : Cell) → IsIntInstanceIn group image homes tables is_int m id f receiver
        → is_word_sort (field_sort id.desc) ≡ true → (types : List (List ℕ)) → receiver ≡ Refs types
        → FieldIsThere by l r_short m id (is_one_of l types)
    unfolding with_pairs
    field_short id f receiver h word types e =
        let found = field_there id f receiver h types e in
        record { is_found = found.is_found; type = found.type; one_word = word; has = found.has }

    cell_short : (id f : MemberId) → IsIntCellIn group image homes tables is_int m id f
        → is_word_sort (field_sort id.desc) ≡ true → CellIsThere by l r_short m id
    unfolding with_pairs
    cell_short id f h word =
        let found = cell_there id f h in
        record {
          is_found = found.is_found;
          is_no_constant = found.is_no_constant;
          type = found.type;
          one_word = word;
          has = found.has;
        }

    constant_short : (id : MemberId) (z : ℤ) → IsConstant by r m id z → IsConstant by r_short m id z
    unfolding with_pairs
    constant_short id z h = record { by_name = h.by_name; narrow = h.narrow }

    names_short : (op : ℕ) (id : MemberId) (named : Callee) → Names r op id named → Names r_short op id named
    unfolding with_pairs
    names_short _ _ _ (a_static e) = a_static e
    names_short _ _ _ (a_direct e) = a_direct e
    names_short _ _ _ (a_super e) = a_super e
    names_short _ _ _ (a_virtual e) = a_virtual e
    names_short _ _ _ an_interface = an_interface

    abbrev Called : Resolution → List Cell → JOp → Type 0
    Called r stack op = IsCalledByMode by l w a bodies result_for r m stack op

    called_short : (stack : List Cell) (op : JOp) → Called r stack op → Called r_short stack op
    called_short stack _ (calls_method {id = id} named desc names class words callee up reached begun) =
        calls_method named desc (names_short 0xB8 id named names) class words callee up reached begun
    called_short stack _ (calls_import {id = id} named desc names class words event up reached asked) =
        calls_import named desc (names_short 0xB8 id named names) class words event up reached asked
    called_short stack _ (calls_on_receiver {op = op} {id = id} named desc names one object words selected up
        selects) = calls_on_receiver named desc (names_short op id named names) one object words selected up
        selects

    -- A call in code that is not in int mode finds the same on both sides.
    pub called_here : (stack : List Cell) (op : ℕ) (id : MemberId)
        → IsIntNamedIn group image homes tables is_int m stack (jop.Call op id)
        → Called (a.resolution m) stack (jop.Call op id)
    called_here stack op id (names.names_nothing is) = elim is [ ]
    called_here stack op id (names.is_on_array (as_outside is)) = elim is [ ]
    called_here stack _ id (names.a_static_call h) =
        here (λ r. Called r stack (jop.Call 0xB8 id)) (called_short stack (jop.Call 0xB8 id)
        (static_called group image homes tables is_int m home id stack h))
    called_here stack op id (names.a_call_on_receiver h) =
        here (λ r. Called r stack (jop.Call op id)) (called_short stack (jop.Call op id)
        (receiver_called group image homes tables is_int m home stack op id h))

    pub return_here : (stack : List Cell) (opcode : ℕ)
        → IsIntNamedIn group image homes tables is_int m stack (jop.Return opcode) → IsReturn opcode
    return_here stack opcode (names.names_nothing is) = elim is [ ]
    return_here stack opcode (names.is_on_array (as_outside is)) = elim is [ ]
    return_here stack opcode (names.returns is) = is

    found_short : (stack : List Cell) (op : JOp) → IsResolved by l r_short m stack op → IsSupported by l w a m stack op
    found_short stack op is = supported.is_resolved (here (λ r. IsResolved by l r m stack op) is)

    -- An instruction that neither calls nor returns is supported, where what it names is had.
    pub supported_short : (stack : List Cell) (op : JOp) → IsIntNamedIn group image homes tables is_int m stack op
        → IsOneWord op → leaves_frame op ≡ false → IsSupported by l w a m stack op
    supported_short stack op (names.names_nothing is) word stays = supported.names_nothing is
    supported_short stack op (names.is_on_array (as_outside is)) word stays = supported.is_on_array is
    supported_short stack _ (names.is_on_array iaload) word stays = absurd cc
    supported_short stack _ (names.is_on_array iastore) word stays = absurd cc
    supported_short stack _ (names.returns is) word stays = absurd cc
    supported_short stack _ names.throws word stays = supported.throws
    supported_short stack _ (names.a_field {named = id} f h) word stays = found_short stack _
        (resolved.a_field (let d = h.desc in d.is_desc) (field_short id f (operand stack 0) h word))
    supported_short stack _ (names.a_put_field {named = id} f h) word stays = found_short stack _
        (resolved.a_put_field (let d = h.desc in d.is_desc) (field_short id f (operand stack 1) h word))
    supported_short stack _ (names.a_static {put = true} {named = id} f h) word stays = found_short stack _
        (resolved.a_put_static (let d = h.desc in d.is_desc) (cell_short id f h word))
    supported_short stack _ (names.a_static {put = false} {named = id} f h) word stays = found_short stack _
        (resolved.a_static (let d = h.desc in d.is_desc) (cell_short id f h word))
    supported_short stack _ (names.a_constant {named = id} z number inside found) word stays = found_short stack _
        (resolved.a_constant number inside (constant_short id z (is_constant id z found)))
    supported_short stack _ (names.a_class {class = class} fields known made are) word stays =
        let c = made_is_there w class fields made in
        let name = class_read class (class_names class c.0 c.1) in
        found_short stack _ (resolved.a_class (made_there class fields known made are) name.class)
    supported_short stack _ (names.an_array {class = class} c known there) word stays =
        let name = class_read class (class_names class c there) in
        let same = array_by_class class name.no_array in
        found_short stack _ (resolved.an_array (class_is_there class c known there) (ap shape_named same
        ∙ name.array) (sym same))
    supported_short stack _ names.booleans word stays = found_short stack _ resolved.booleans
    supported_short stack _ names.bytes word stays = found_short stack _ resolved.bytes
    supported_short stack _ names.shorts word stays = found_short stack _ resolved.shorts
    supported_short stack _ names.ints word stays = absurd cc
    supported_short stack _ (names.a_cast {type = type} kind named there) word stays = found_short stack _
        (resolved.a_cast (type_is_there type kind named there))
    supported_short stack _ (names.a_test {type = type} kind named there) word stays = found_short stack _
        (resolved.a_test (type_is_there type kind named there))
    supported_short stack _ (names.a_static_call h) word stays = absurd cc
    supported_short stack _ (names.a_call_on_receiver h) word stays = absurd cc
