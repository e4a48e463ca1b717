-- What an instruction of a method that is not in int mode names is told alike on both sides, where it has one word.
use Rattle.std.proofs.Common.{◌≡◌, ◌∙◌, ℕ, Bool, true, false, List, Option, Some, refl, sym, ap, subst}
use Rattle.std.proofs.Common.{ℤ}
use Rattle.cjc_bytes.specs.Descriptor.{IsClassName}
use Rattle.cjc_bytes.specs.declared.fault.MemberId.{MemberId}
use Rattle.cjc_code.specs.declared.insn.JOp.{JOp}
use Rattle.cjc_code.specs.declared.insn.JOp.TheVariants as jop
use Rattle.cjc_script.specs.Sorts.{shape_named, field_sort}
use Rattle.cjc_world.specs.Classes.{Class, all_classes, class_named}
use Rattle.cjc_world.specs.Files.{Files}
use Rattle.cjc_world.specs.declared.image.StaticImage.{StaticImage}
use Rattle.cjc_types.specs.declared.cell.Cell.{Cell}
use Rattle.cjc_types.specs.declared.cell.Cell.TheVariants.{Refs}
use Rattle.cjc_types.specs.Steps.{operand}
use Rattle.cjc_ncode.specs.ByLabel.{Callee, Named}
use Rattle.cjc_ncode.specs.Written.{Resolution}
use Rattle.cjc_jvm_semantics.specs.ByName.{linked}
use Rattle.cjc_jvm_semantics.specs.Linked.{Method, Linked}
use Rattle.cjc_narrow.specs.Pairs.Roles.{with_pairs}
use Rattle.cjc_narrow_proof.specs.Runs.Tables.{Tables, paired_in}
use Rattle.cjc_narrow_proof.specs.Selection.Callees.{Names, a_static, a_direct, a_super, a_virtual, an_interface}
use Rattle.cjc_narrow_proof.specs.Selection.Cells.{CellIsThere, IsConstant}
use Rattle.cjc_narrow_proof.specs.Selection.Rows.{FieldIsThere, is_word_sort}
use Rattle.cjc_narrow_proof.specs.Tables.Analysis.{Analysis}
use Rattle.cjc_narrow_proof.specs.Tables.Kinds.{is_one_of}
use Rattle.cjc_narrow_proof.specs.Tables.Names.{IsResolved}
use Rattle.cjc_narrow_proof.specs.Tables.Names as resolved
use Rattle.cjc_narrow_proof.specs.Tables.Package.{IsSupported, leaves_frame}
use Rattle.cjc_narrow_proof.specs.Tables.Package as supported
use Rattle.cjc_narrow_proof.specs.Tables.Supported.{IsReturn}
use Rattle.cjc_narrow_proof.proofs.RunsLaws.Named.{made_is_there}
use Rattle.cjc_narrow_proof.proofs.TablesLaws.Spelt.{class_read}
use Rattle.cjc_int_runs.specs.IntFrames.{IntBody}
use Rattle.cjc_int_alike.specs.ByModes.{analysis_by_mode, bodies_by_mode, int_resolution, look_ups_by_mode, result_in}
use Rattle.cjc_int_alike.specs.ByModes.{resolution_by}
use Rattle.cjc_int_alike.specs.Callees.{IsCalledByMode, calls_method, calls_import, calls_on_receiver}
use Rattle.cjc_int_alike.specs.Named.{IsIntFieldOf, IsIntStaticOf, IsIntNamed, IsOneWord}
use Rattle.cjc_int_alike.specs.Named as names
use Rattle.cjc_int_alike.specs.Names.{as_outside, iaload, iastore}
use Rattle.cjc_int_alike.proofs.Named.{array_by_class, cell_there, class_is_there, field_there, is_constant}
use Rattle.cjc_int_alike.proofs.Named.{made_there, type_is_there}

module _ (files : Files) (image : StaticImage) (near : List MemberId) (tables : Tables) (is_int : Method → Bool)
    (class_names : (name : List ℕ) (c : Class) → class_named (all_classes files) name ≡ Some c → IsClassName name)
    (m : Method) (off : is_int m ≡ false) where
  abbrev w : List Class
  w = all_classes files

  abbrev by : Linked
  by = linked files image

  abbrev l : Named
  l = look_ups_by_mode files image near tables is_int

  abbrev a : Analysis
  a = analysis_by_mode files image near tables is_int

  abbrev r : Resolution
  r = paired_in files near tables m

  abbrev bodies : Method → Option IntBody
  bodies = bodies_by_mode files image near tables is_int

  -- what names stand for outside int mode
  here : (P : Resolution → Type 0) → P r → P (a.resolution m)
  here P p = subst (λ int. P (resolution_by files image near tables is_int int m)) (sym off) p

  -- ---- fields

  field_short : (id f : MemberId) (receiver : Cell) → IsIntFieldOf files image near tables is_int m id f receiver
      → is_word_sort (field_sort id.desc) ≡ true → (types : List (List ℕ)) → receiver ≡ Refs types
      → FieldIsThere by l r m id (is_one_of l types)
  unfolding with_pairs
  field_short id f receiver h word types e =
      let found = field_there files image near tables is_int class_names m id f receiver h types e in
      record { is_found = found.is_found; type = found.type; one_word = word; has = found.has }

  cell_short : (id f : MemberId) → IsIntStaticOf files image near tables is_int m id f
      → is_word_sort (field_sort id.desc) ≡ true → CellIsThere by l r m id
  unfolding with_pairs
  cell_short id f h word =
      let found = cell_there files image near tables is_int class_names m id f h in
      record {
        is_found = found.is_found;
        is_no_constant = found.is_no_constant;
        type = found.type;
        one_word = word;
        has = found.has;
      }

  constant_short : (id : MemberId) (z : ℤ) → IsConstant by (int_resolution files image near tables is_int m) m id z
      → IsConstant by r m id z
  unfolding with_pairs
  constant_short id z h = record { by_name = h.by_name; narrow = h.narrow }

  -- ---- calls

  names_short : (op : ℕ) (id : MemberId) (named : Callee)
      → Names (int_resolution files image near tables is_int m) op id named → Names r op id named
  unfolding with_pairs
  names_short _ _ _ (a_static e) = a_static e
  names_short _ _ _ (a_direct e) = a_direct e
  names_short _ _ _ (a_super e) = a_super e
  names_short _ _ _ (a_virtual e) = a_virtual e
  names_short _ _ _ an_interface = an_interface

  abbrev Called : Resolution → List Cell → JOp → Type 0
  Called r stack op = IsCalledByMode by l w a bodies (result_in files image near tables is_int) r m stack op

  called_short : (stack : List Cell) (op : JOp) → Called (int_resolution files image near tables is_int m) stack op
      → Called r stack op
  called_short stack _ (calls_method {id = id} named desc names class words callee by_name reached begun) =
      calls_method named desc (names_short 0xB8 id named names) class words callee by_name reached begun
  called_short stack _ (calls_import {id = id} named desc names class words event by_name reached asked) =
      calls_import named desc (names_short 0xB8 id named names) class words event by_name reached asked
  called_short stack _ (calls_on_receiver {op = op} {id = id} named desc names one object words selected by_name
      selects) = calls_on_receiver named desc (names_short op id named names) one object words selected by_name selects

  called_leaves : (r : Resolution) (stack : List Cell) (op : JOp) → Called r stack op → leaves_frame op ≡ true
  called_leaves r stack _ (calls_method named desc names class words callee by_name reached begun) = refl
  called_leaves r stack _ (calls_import named desc names class words event by_name reached asked) = refl
  called_leaves r stack _ (calls_on_receiver named desc names one object words selected by_name selects) = refl

  -- A call in code that is not in int mode finds the same on both sides.
  pub called_here : (stack : List Cell) (op : ℕ) (id : MemberId)
      → IsIntNamed files image near tables is_int m stack (jop.Call op id)
      → Called (a.resolution m) stack (jop.Call op id)
  called_here stack op id (names.names_nothing is) = elim is [ ]
  called_here stack op id (names.is_on_array (as_outside is)) = elim is [ ]
  called_here stack op id (names.calls is) =
      here (λ r. Called r stack (jop.Call op id)) (called_short stack (jop.Call op id) is)

  pub return_here : (stack : List Cell) (opcode : ℕ)
      → IsIntNamed files image near tables is_int m stack (jop.Return opcode) → IsReturn opcode
  return_here stack opcode (names.names_nothing is) = elim is [ ]
  return_here stack opcode (names.is_on_array (as_outside is)) = elim is [ ]
  return_here stack opcode (names.returns is) = is
  return_here stack opcode (names.calls is) = elim is [ ]

  -- ---- each instruction

  found_here : (stack : List Cell) (op : JOp) → IsResolved by l r m stack op → IsSupported by l w a m stack op
  found_here stack op is = supported.is_resolved (here (λ r. IsResolved by l r m stack op) is)

  -- An instruction that neither calls nor returns is supported, where what it names is had.
  pub supported_short : (stack : List Cell) (op : JOp) → IsIntNamed files image near tables is_int m stack op
      → IsOneWord op → leaves_frame op ≡ false → IsSupported by l w a m stack op
  supported_short stack op (names.names_nothing is) word stays = supported.names_nothing is
  supported_short stack op (names.is_on_array (as_outside is)) word stays = supported.is_on_array is
  supported_short stack _ (names.is_on_array iaload) word stays = absurd cc
  supported_short stack _ (names.is_on_array iastore) word stays = absurd cc
  supported_short stack _ (names.returns is) word stays = absurd cc
  supported_short stack _ names.throws word stays = supported.throws
  supported_short stack _ (names.a_field {named = id} f h) word stays = found_here stack _
      (resolved.a_field (let d = h.desc in d.is_desc) (field_short id f (operand stack 0) h word))
  supported_short stack _ (names.a_put_field {named = id} f h) word stays = found_here stack _
      (resolved.a_put_field (let d = h.desc in d.is_desc) (field_short id f (operand stack 1) h word))
  supported_short stack _ (names.a_static {put = true} {named = id} f h) word stays = found_here stack _
      (resolved.a_put_static (let d = h.desc in d.is_desc) (cell_short id f h word))
  supported_short stack _ (names.a_static {put = false} {named = id} f h) word stays = found_here stack _
      (resolved.a_static (let d = h.desc in d.is_desc) (cell_short id f h word))
  supported_short stack _ (names.a_constant {named = id} z number inside found) word stays = found_here stack _
      (resolved.a_constant number inside (constant_short id z
      (is_constant files image near tables is_int class_names m id z found)))
  supported_short stack _ (names.a_class {class = class} fields made are) word stays =
      let c = made_is_there w class fields made in
      let name = class_read class (class_names class c.0 c.1) in
      found_here stack _ (resolved.a_class (made_there files image near tables is_int class_names m class fields made
      are) name.class)
  supported_short stack _ (names.an_array {class = class} c there) word stays =
      let name = class_read class (class_names class c there) in
      let same = array_by_class class name.no_array in
      found_here stack _ (resolved.an_array (class_is_there files image near tables is_int class_names m class c there)
      (ap shape_named same ∙ name.array) (sym same))
  supported_short stack _ names.booleans word stays = found_here stack _ resolved.booleans
  supported_short stack _ names.bytes word stays = found_here stack _ resolved.bytes
  supported_short stack _ names.shorts word stays = found_here stack _ resolved.shorts
  supported_short stack _ names.ints word stays = absurd cc
  supported_short stack _ (names.a_cast {type = type} kind named there) word stays = found_here stack _
      (resolved.a_cast (type_is_there files image near tables is_int class_names m type kind named there))
  supported_short stack _ (names.a_test {type = type} kind named there) word stays = found_here stack _
      (resolved.a_test (type_is_there files image near tables is_int class_names m type kind named there))
  supported_short stack op (names.calls is) word stays =
      let clash : true ≡ false = sym (called_leaves (int_resolution files image near tables is_int m) stack op is)
      ∙ stays in absurd cc
