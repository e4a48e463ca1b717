-- A method in int mode of a package that breaks no rule has the tables that whole runs by modes ask.
use Rattle.std.proofs.Common.{◌≡◌, ℕ, ◌<◌, ◌^◌, refl, sym, ap, subst, ◌∙◌, arith, Bool, true, false, List, []}
use Rattle.std.proofs.Common.{length}
use Rattle.std.specs.Prelude.{◌&&◌, ◌++◌, ◌∷◌, not, if◌then◌else◌, slice_get, IfSome, Some}
use Rattle.std.specs.List.{AllByRecursion, Contains, list_any}
use Rattle.std.proofs.lemmas.Bool.{lt-ltb}
use Rattle.cjc_bytes.specs.Descriptor.{AreTypes, IsClassName, IsDescriptor, IsResult, Part, Parts, field, method}
use Rattle.cjc_bytes.specs.Descriptor.{next, none, nothing, value}
use Rattle.cjc_bytes.specs.Spots.{desc_of}
use Rattle.cjc_bytes.specs.declared.fault.MemberId.{MemberId}
use Rattle.cjc_bytes.specs.declared.descriptor.Kind.{Kind}
use Rattle.cjc_bytes.specs.declared.descriptor.Kind.TheVariants as kinds
use Rattle.cjc_bytes.proofs.Bools.{or_left, or_right}
use Rattle.cjc_bytes.proofs.DescriptorTypes.{desc_spelt}
use Rattle.cjc_bytes.proofs.Gets.{all_at}
use Rattle.cjc_bytes.proofs.Numbers.{none_at}
use Rattle.cjc_bytes.proofs.Quantified.{last_false}
use Rattle.cjc_check_proof.proofs.WorldProofExceptions.{exception_is}
use Rattle.cjc_check_proof.proofs.WorldProofRules.{method_kept}
use Rattle.cjc_classes.specs.JvmSemantics.Effects.{Fault, exception_class}
use Rattle.cjc_classes.specs.JvmSemantics.Linked.{Method}
use Rattle.cjc_classes.specs.JvmSemantics.OnePackage.{is_initialiser, method_at, method_by}
use Rattle.cjc_classes.specs.List.Listed.{ListTree}
use Rattle.cjc_classes.specs.Narrow.Rows.Resolved.{constant_named}
use Rattle.cjc_classes.specs.Types.Flow.{Body, body_of}
use Rattle.cjc_classes.specs.Types.Tables.{Breach, IsLeastTable, IsMethodOf, IsTypeTable, rows_of}
use Rattle.cjc_classes.specs.Types.declared.table.TypeTable.{TypeTable}
use Rattle.cjc_classes.specs.Types.Types.{no_parts, parts, parts_or_none}
use Rattle.cjc_components.specs.Bytecode.ReadLaws.Members.{IsReadClass}
use Rattle.cjc_components.specs.Bytecode.declared.method_code.MethodCode.{MethodCode}
use Rattle.cjc_components.specs.Package.{LaidMethod, Package}
use Rattle.cjc_narrow_proof.proofs.BytecodeMembers.{read_class}
use Rattle.cjc_narrow_proof.proofs.LawsLaws.ClassNames.{each_name, own_name}
use Rattle.cjc_narrow_proof.proofs.LawsLaws.Handlers.{caught_there, class_there}
use Rattle.cjc_narrow_proof.proofs.LawsLaws.Own.{flags_by_name}
use Rattle.cjc_narrow_proof.proofs.LawsLaws.Room.{room_to_begin}
use Rattle.cjc_narrow_proof.proofs.LawsLaws.WordTypes.{type_values, word_desc}
use Rattle.cjc_narrow_proof.proofs.SelectedLaws.IntFree.{own_desc}
use Rattle.cjc_narrow_proof.proofs.TypesLeast.{one_least}
use Rattle.cjc_narrow_proof.proofs.SelectedLaws.SomeInsns.{some_insns}
use Rattle.cjc_narrow_proof.specs.Runs.Converted.{IsException, IsFirst}
use Rattle.cjc_narrow_proof.specs.Runs.Tables.{HasTables, Tables as RunTables}
use Rattle.cjc_narrow_proof.specs.Script.Sorts.{Boolean, Byte, Int, NoValue, Reference, Short, Sort, sort_of}
use Rattle.cjc_narrow_proof.specs.Selected.Keeps.{FindsItself}
use Rattle.cjc_narrow_proof.specs.Selection.Objects as narrow
use Rattle.cjc_vtable.specs.LowerSubset.Ints.{code_works_on_int}
use Rattle.cjc_vtable.specs.LowerSubset.Types.{is_any_unsupported, is_unsupported_desc, is_unsupported_part}
use Rattle.cjc_int_alike.specs.ByModes.{HasIntTables, PassesInIntMode, codes_by_mode, look_ups_by_mode}
use Rattle.cjc_int_alike.specs.Calls.{IsIntDesc, is_some_result}
use Rattle.cjc_int_alike.specs.LowerIntRuns.Fields.{has_values}
use Rattle.cjc_int_components.specs.Limits.{lacks_int_room, word_breaks_by_modes}
use Rattle.cjc_int_components.specs.Modes.{Tables}
use Rattle.cjc_int_components.proofs.Room.{room_in_int_mode}
use Rattle.cjc_int_narrow.specs.LowerIntMode.Room.{IsRoom}
use Rattle.cjc_int_narrow.specs.LowerIntMode.declared.modes.Mode.TheVariants as modes
use Rattle.cjc_shape.specs.LowerJudge.Rules.{settings_of}
use Rattle.cjc_shape_proof.specs.Intervals.Tables.{IsLeastRanges, Passes}
use Rattle.cjc_shape_proof.proofs.WrittenLaws.Checked.{are_spelt, read_files}
use Rattle.cjc_shape_proof.proofs.WrittenLaws.Coded.{own_at}
use Rattle.cjc_shape_proof.proofs.WrittenLaws.Shaping.{none_broken}
use Rattle.cjc_theorem.proofs.WholeRuns.Memory.{first_is}
use Rattle.cjc_theorem.proofs.WholeRuns.Objects.{own_field_values}
use Rattle.cjc_theorem.proofs.WholeRuns.Runs.{values_fit}
use Rattle.cjc_world.proofs.ClassFileFitting.{spelt_fits}
use Rattle.cjc_world.specs.ClassFile.Code.{CodeTree}
use Rattle.cjc_world.specs.ClassFile.Fits.{ClassFits, CodeFits, MethodFits}
use Rattle.cjc_world.specs.ClassFile.declared.tree.ClassTree.{ClassTree}
use Rattle.cjc_world.specs.ClassFile.declared.tree.MethodTree.{MethodTree}
use Rattle.cjc_world.specs.Classes.{Class, all_classes, class_named}
use Rattle.cjc_int_theorem.specs.Alike.{AreRunBy}
use Rattle.cjc_int_theorem.specs.ByModes.{IsConvertedByModes}
use Rattle.cjc_int_theorem.specs.Tabled.{IsOwnMethod}
use Rattle.cjc_int_theorem.proofs.SameCode.{stands_there}
use Rattle.cjc_int_theorem.proofs.Methods.{are_methods}

-- ---- descriptors

pub of_values : (sort : Sort) → narrow.has_values sort ≡ true → has_values sort ≡ true
of_values Boolean e = refl
of_values Byte e = refl
of_values Short e = refl
of_values Int e = refl
of_values (Reference shape) e = refl
of_values NoValue e = e

types_values : {ps : List Part} {bytes : List ℕ} → AreTypes ps bytes → (more : List Part)
    → list_any is_unsupported_part (ps ++ more) ≡ false → AllByRecursion (λ p. has_values (sort_of p) ≡ true) ps
types_values none more f = tt
types_values (next {p = p} {ps = ps} t ts) more f = (
  of_values (sort_of p) (type_values t (or_left (is_unsupported_part p) (list_any is_unsupported_part (ps ++ more)) f)),
  types_values ts more (or_right (is_unsupported_part p) (list_any is_unsupported_part (ps ++ more)) f),
)

some_so : (kind : Kind) (r : Part) → has_values (sort_of r) ≡ true → is_some_result kind (sort_of r) ≡ true
some_so kinds.Void r h = refl
some_so kinds.Bool r h = h
some_so kinds.Byte r h = h
some_so kinds.Short r h = h
some_so kinds.Int r h = h
some_so kinds.Other r h = h
some_so kinds.Ref r h = h

result_values : {r : Part} {bytes : List ℕ} → IsResult r bytes → is_unsupported_part r ≡ false
    → is_some_result r.kind (sort_of r) ≡ true
result_values (value {p = p} t) f = some_so p.kind p (of_values (sort_of p) (type_values t f))
result_values nothing f = refl

-- 301, where int may stand
pub int_desc : (desc : List ℕ) (d : Parts) → length desc < 2 ^ 32 → desc_of desc ≡ Some d → d.is_method ≡ true
    → is_unsupported_desc desc ≡ false → IsIntDesc desc
unfolding parts is_unsupported_desc
int_desc desc d short is is_method no_unsupported =
    let fits = lt-ltb (length desc) (2 ^ 32) short in
    let parts_are : parts desc ≡ d = ap (λ b. if b then parts_or_none (desc_of desc) else no_parts) fits
    ∙ ap parts_or_none is in
    let f : is_any_unsupported (Some d) ≡ false = ap is_any_unsupported (sym is)
    ∙ ap (λ b. b && is_any_unsupported (desc_of desc)) (sym fits) ∙ no_unsupported in
    let both = by (desc_spelt d desc is) is_method f in
    record {
      is_desc = is ∙ ap Some (sym parts_are);
      is_method = ap (λ (p : Parts). p.is_method) parts_are ∙ is_method;
      params = subst (λ (p : Parts). AllByRecursion (λ q. has_values (sort_of q) ≡ true) p.params) (sym parts_are)
          both.0;
      result = ap (λ (p : Parts). let r = p.result in is_some_result r.kind (sort_of r)) parts_are ∙ both.1;
    }
  where
    by : {d : Parts} {bytes : List ℕ} → IsDescriptor d bytes → d.is_method ≡ true → is_any_unsupported (Some d) ≡ false
        → AllByRecursion (λ p. has_values (sort_of p) ≡ true) d.params
        × ((let r = d.result in is_some_result r.kind (sort_of r)) ≡ true)
    by (field t) m f = absurd cc
    by (method {ps = ps} {r = r} ts t) m f =
        (types_values ts (r ∷ []) f, result_values t (last_false is_unsupported_part ps r f))

-- ---- a package

module _ (list : ListTree) (codes : List MethodCode) (t : Tables) (p : Package) (is : IsConvertedByModes list codes t p)
  where
    pub class_names : (name : List ℕ) (c : Class) → class_named (all_classes p.files) name ≡ Some c → IsClassName name
    class_names = each_name p.files list.name is.checked.listed is.checked.unbroken (are_spelt list codes p is.checked)

    pub exceptions_are : (fault : Fault) → IsException (all_classes p.files) (exception_class fault)
    exceptions_are fault = let h = exception_is list.name p.files is.checked.unbroken is.checked.exports fault
        in record { imported = h.0; throwable = h.1 }

    -- what the image says is of sound types
    pub first_fits : (near : List MemberId) (tables : RunTables) (in_int_mode : Method → Bool)
        → IsFirst (look_ups_by_mode p.files p.image near tables in_int_mode) p.files p.image
    first_fits near tables in_int_mode = first_is p.files codes p.image is.is_package.image
        (own_field_values list.name p.files codes (settings_of list) is.checked.checks
        (read_files list codes p is.checked)) (values_fit p.files codes is.checked.initialisers)
        (codes_by_mode p.files p.image near tables in_int_mode)

    -- ---- a method in int mode

    module _ (code : MethodCode) (class : ClassTree) (method : MethodTree) (tree : CodeTree)
        (of : IsMethodOf p.files code class method tree) (listed : Contains codes code)
        (plain : is_initialiser method.name ≡ false) where
      abbrev x : Method
      x = method_by class method (Some tree)

      abbrev body : Body
      body = body_of class method tree code.insns

      there : (k : ℕ) × (m : LaidMethod) × (slice_get p.methods k ≡ Some m) × (method_at p.files m.member ≡ Some x)
      there = stands_there list codes t p is code.class code.method class method tree of.is_class of.is_method
          of.is_code plain

      own_method : IsOwnMethod p.files x
      own_method = record {
        class = class;
        method = method;
        tree = tree;
        own = record {
          number = code.class;
          place = code.method;
          is_class = of.is_class;
          is_method = of.is_method;
        };
        plain = plain;
        is_code = of.is_code;
        is = refl;
      }

      finds : FindsItself p.files class method
      finds = flags_by_name p.files list.name is.checked.listed is.checked.unbroken code.class class of.is_class
          code.method method of.is_method

      -- 417
      room : t.mode x ≡ modes.Int → IsRoom body (t.types x) modes.Int true
      room mode =
          let (k, m, e, found) = there in
          let none = none_broken p (own_at list codes p is.checked (are_methods list codes t p is))
          (word_breaks_by_modes t p) is.words k m e in
          let off : lacks_int_room t p.files (Some x) ≡ false = ap (lacks_int_room t p.files) (sym found)
          ∙ or_right _ (lacks_int_room t p.files (method_at p.files m.member)) (none_at _ _ 417 none) in
          subst (λ b. IsRoom body (t.types x) modes.Int (not b)) off
          (room_in_int_mode p.files code class method tree of finds t mode)

      own_class : IsReadClass class
      own_class = let r = (read_files list codes p is.checked).classes code.class class of.is_class
          in read_class class r.0 r.1 r.2

      fitting : MethodFits method
      fitting =
          let r = (read_files list codes p is.checked).classes code.class class of.is_class in
          let fit : ClassFits class = spelt_fits class r.0 r.1 r.2 in
          all_at MethodFits class.methods code.method method fit.methods of.is_method

      short : length method.desc < 2 ^ 32
      short = let few = fitting.desc in omega (arith, few)

      pub has_int_tables : (tables : RunTables) (in_int_mode : Method → Bool)
          → AreRunBy p.files t tables in_int_mode → t.mode x ≡ modes.Int
          → PassesInIntMode body (t.types x) (t.ranges x) → HasIntTables p.files tables x
      has_int_tables tables in_int_mode are mode passes =
          let constant = constant_named p.files (all_classes p.files) in
          let types = sym (are.types x own_method) in
          let ranges = sym (are.ranges x own_method) in
          let least = is.least code class method tree (subst (λ cs. Contains cs code) is.checked.codes_are listed) of in
          let d = own_class.methods code.method method of.is_method in
          let kept = method_kept list.name p.files codes (settings_of list) is.checked.checks code.class class
          of.is_class code.method method of.is_method in
          let has_bytes : CodeFits tree = subst (λ o. IfSome o CodeFits) of.is_code fitting.code in
          record {
            code = code;
            class = class;
            method = method;
            tree = tree;
            of_package = of;
            is = refl;
            least = subst (IsLeastTable body) types least.0;
            unbroken = λ place rule broken. is.typed code class method tree of place rule
                (subst (λ rows. Breach (all_classes p.files) body rows place rule) (sym types) broken);
            ranges = subst (λ rows. IsLeastRanges body constant rows (tables.ranges x)) types
                (subst (IsLeastRanges body constant (t.types x)) ranges least.1);
            passes = subst (λ rows. PassesInIntMode body rows (tables.ranges x)) types
                (subst (PassesInIntMode body (t.types x)) ranges passes);
            room = subst (λ rows. IsRoom body rows modes.Int true) types (room mode);
            found = finds;
            desc = int_desc method.desc d.0 short d.1 d.2 kept.0;
            begins = record {
              some = some_insns p.files code class method tree of has_bytes.some;
              room = room_to_begin p.files code class method tree of short;
            };
            caught = λ c name among e. (let one = class_there (all_classes p.files) name (caught_there p.files codes
                is.checked.names code class method tree of listed c name among e) in class_names name one.0 one.1);
          }

      -- and outside int mode, where it works on no int
      has_short_tables : (tables : RunTables) (in_int_mode : Method → Bool)
          → AreRunBy p.files t tables in_int_mode → code_works_on_int p.files code ≡ false
          → (table : TypeTable) → IsTypeTable (all_classes p.files) body table → Passes body (t.types x) (t.ranges x)
          → HasTables p.files tables x
      has_short_tables tables in_int_mode are free table is_table passes =
          let constant = constant_named p.files (all_classes p.files) in
          let types = sym (are.types x own_method) in
          let ranges = sym (are.ranges x own_method) in
          let least = is.least code class method tree (subst (λ cs. Contains cs code) is.checked.codes_are listed) of in
          let d = own_class.methods code.method method of.is_method in
          let kept = method_kept list.name p.files codes (settings_of list) is.checked.checks code.class class
          of.is_class code.method method of.is_method in
          let has_bytes : CodeFits tree = subst (λ o. IfSome o CodeFits) of.is_code fitting.code in
          record {
            code = code;
            class = class;
            method = method;
            tree = tree;
            of_package = of;
            is = refl;
            table = table;
            is_table = is_table;
            types = sym types ∙ one_least body (t.types x) (rows_of body table) least.0 is_table.stands.least;
            ranges = subst (λ rows. IsLeastRanges body constant rows (tables.ranges x)) types
                (subst (IsLeastRanges body constant (t.types x)) ranges least.1);
            passes = subst (λ rows. Passes body rows (tables.ranges x)) types
                (subst (Passes body (t.types x)) ranges passes);
            found = finds;
            desc = word_desc method.desc d.0 short d.1 d.2 kept.0 (own_desc p.files code class method tree of free);
            named = own_name p.files list.name is.checked.listed is.checked.unbroken (are_spelt list codes p
                is.checked) code.class class of.is_class;
            begins = record {
              some = some_insns p.files code class method tree of has_bytes.some;
              room = room_to_begin p.files code class method tree of short;
            };
            caught = λ c name among e. (let one = class_there (all_classes p.files) name (caught_there p.files codes
                is.checked.names code class method tree of listed c name among e) in class_names name one.0 one.1);
          }

      -- each with its code, which is among those of the package
      pub int_listed : (tables : RunTables) (in_int_mode : Method → Bool)
          → AreRunBy p.files t tables in_int_mode → t.mode x ≡ modes.Int
          → PassesInIntMode body (t.types x) (t.ranges x) → (h : HasIntTables p.files tables x)
          × Contains codes h.code
      unfolding has_int_tables
      int_listed tables in_int_mode are mode passes = (has_int_tables tables in_int_mode are mode passes, listed)

      pub short_listed : (tables : RunTables) (in_int_mode : Method → Bool)
          → AreRunBy p.files t tables in_int_mode → code_works_on_int p.files code ≡ false
          → (table : TypeTable) → IsTypeTable (all_classes p.files) body table → Passes body (t.types x) (t.ranges x)
          → (h : HasTables p.files tables x) × Contains codes h.code × (code_works_on_int p.files h.code ≡ false)
      unfolding has_short_tables
      short_listed tables in_int_mode are free table is_table passes =
          (has_short_tables tables in_int_mode are free table is_table passes, listed, free)
