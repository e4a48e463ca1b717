-- Methods of Method of a converted package beside those of its class files: what is written for a method with code is
-- selected by its least type table, which breaks no rule.
use Rattle.std.proofs.Common.{◌≡◌, ℕ, ◌+◌, ◌-◌, ◌<◌, sym, ap, subst, ◌∙◌, arith, false, List, length}
use Rattle.std.proofs.Common.{slice_get, Option, Some, Contains}
use Rattle.std.specs.Prelude.{IfSome}
use Rattle.cjc_verified_proof.proofs.BytesGets.{all_at, contained, contains_at, get_below, get_inside}
use Rattle.cjc_verified_proof.proofs.ClassFileFitting.{spelt_fits}
use Rattle.cjc_world.specs.ClassFile.Code.{CodeTree}
use Rattle.cjc_world.specs.ClassFile.Fits as fits
use Rattle.cjc_world.specs.ClassFile.declared.tree.ClassTree.{ClassTree}
use Rattle.cjc_world.specs.ClassFile.declared.tree.MethodTree.{MethodTree}
use Rattle.cjc_world.specs.Files.{Files}
use Rattle.cjc_components.specs.Bytecode.Decoded.{decoded, insns_of, of_code, of_method}
use Rattle.cjc_components.specs.Bytecode.PackageCodes.{all_codes}
use Rattle.cjc_components.specs.Bytecode.declared.method_code.MethodCode.{MethodCode}
use Rattle.cjc_components.specs.Package.{LaidMethod, Package, pool, world}
use Rattle.cjc_ncode.specs.declared.narrow.NMethod.{NMethod}
use Rattle.cjc_narrow.specs.Rows.Resolved.{argument_words}
use Rattle.cjc_narrow.specs.Rows.Selected.{near_fields, selected_code}
use Rattle.cjc_narrow_proof.proofs.SelectedLaws.Run.{same_code}
use Rattle.cjc_types.proofs.Least.{one_least}
use Rattle.cjc_types.specs.Flow.{body_of}
use Rattle.cjc_types.specs.Tables.{Breach, IsLeastTable, IsMethodOf, rows_of}
use Rattle.cjc_types.specs.Types.{parts}
use Rattle.cjc_types.specs.declared.state.State.{State}
use Rattle.cjc_shape.specs.LowerMethods.Ready.{AreReady, IsDecoded}
use Rattle.cjc_verified_proof.specs.Bytes.declared.fault.MemberId.{MemberId}
use Rattle.cjc_shape_proof.proofs.ShapeInts.{free_by}
use Rattle.cjc_shape_proof.proofs.WrittenLaws.Coded.{plain_here}
use Rattle.cjc_shape_proof.proofs.WrittenLaws.Places.{coded_there}
use Rattle.cjc_shape_proof.specs.LowerIntPackage.LowerIntMode.declared.modes.Mode.TheVariants as modes
use Rattle.cjc_shape_proof.specs.LowerIntPackage.Modes.{Tables}
use Rattle.cjc_shape_proof.specs.LowerIntPackage.Written.{IsWrittenByMode, code_by_mode, code_in}
use Rattle.cjc_theorem.proofs.AlikeLaws.Converted.{same_by_modes}
use Rattle.cjc_theorem.proofs.ShapeSound.{are_ready}
use Rattle.cjc_theorem.specs.LowerJudge.declared.judged.Judged.{Judged}
use Rattle.cjc_shape_proof.proofs.WrittenLaws.Checked.{read_files}
use Rattle.cjc_theorem.specs.Shape.Whole.Conversion.{HasModes}
use Rattle.cjc_theorem.specs.ShapeProof.Written.Checked.{IsOfFiles}
use Rattle.cjc_theorem.specs.ShapeProof.Written.LaidOut.{IsLaidOut}
use Rattle.cjc_token_proof.specs.Subset.Ints.{code_works_on_int}
use Rattle.cjc_verified_proof.specs.JvmSemantics.Linked.{Method}
use Rattle.cjc_verified_proof.specs.JvmSemantics.OnePackage.{method_at, method_by}
use Rattle.cjc_verified_proof.specs.List.Listed.{ListTree}
use Rattle.cjc_accepted_proof.specs.Beside.{Beside, IsBeside}
use Rattle.cjc_accepted_proof.specs.CardActs.CardTypes.{ValueType}
use Rattle.cjc_accepted_proof.specs.Coded.{card_type}
use Rattle.cjc_accepted_proof.specs.Frames.{IsTypeFor}

module _ (list : ListTree) (files : List (List ℕ)) (judged : Judged) (p : Package) (is : IsOfFiles list judged.codes p)
    (laid : IsLaidOut list files judged p) where
  abbrev near : List MemberId
  near = near_fields (pool p)

  -- what was told of its methods
  abbrev pub tables : Tables
  tables = laid.is_package.tables

  abbrev rows : Method → List (Option State)
  rows = let t = tables in t.types

  same : p.files ≡ judged.world
  same = same_by_modes list files judged laid.read laid.sound p laid.is_package

  own_ready : AreReady p.files judged.codes judged.types
  own_ready = subst (λ (w : Files). AreReady w judged.codes judged.types) (sym same) (are_ready list files judged
      laid.sound)

  own_modes : HasModes list.ints judged.world tables
  own_modes = subst (λ (w : Files). HasModes list.ints w tables) same laid.is_package.has

  -- ---- a method of a class file with code

  module _ (k : ℕ) (m : LaidMethod) (there : slice_get p.methods k ≡ Some m) (n i : ℕ) (t : ClassTree) (x : MethodTree)
      (tree : CodeTree) (is_class : (let w = p.files in slice_get w.classes n ≡ Some t))
      (is_method : slice_get t.methods i ≡ Some x) (is_code : x.code ≡ Some tree)
      (named : method_at p.files m.member ≡ Some (method_by t x (Some tree))) where
    pub decoding_is : IsDecoded t x tree
    decoding_is = own_ready.decoded n i t x tree is_class is_method is_code

    abbrev pub code : MethodCode
    code = record { class = n; method = i; insns = decoding_is.insns }

    pub of_package : IsMethodOf p.files code t x tree
    of_package = record {
      is_class = is_class;
      is_method = is_method;
      is_code = is_code;
      bytes = decoding_is.bytes;
      insns = ap (of_method t) is_method ∙ ap (of_code t x) is_code ∙ decoding_is.decodes;
    }

    among : Contains (all_codes (let w = p.files in w.classes)) code
    among =
        let place = coded_there 0 (let w = p.files in w.classes) n i t x tree decoding_is.insns is_class is_method
        is_code decoding_is.decodes in
        let number : 0 + n ≡ n = omega arith in
        contained (all_codes (let w = p.files in w.classes)) place.0 code (place.1
        ∙ ap (λ c. Some (record { class = c; method = i; insns = decoding_is.insns })) number)

    pub listed : Contains judged.codes code
    listed = subst (λ cs. Contains cs code) (sym own_ready.codes_are) among

    abbrev table_rows : List (Option State)
    table_rows = rows (method_by t x (Some tree))

    pub least : IsLeastTable (body_of t x tree code.insns) table_rows
    least = laid.is_package.spelt.least code t x tree among of_package

    pub unbroken : (place rule : ℕ) → Breach (world p) (body_of t x tree code.insns) table_rows place rule → ⊥
    unbroken place rule breach =
        let at = contains_at judged.codes code listed in
        let lt = get_below judged.codes at.0 code at.1 in
        let count = own_ready.count in
        let table = get_inside judged.types at.0 (omega (arith, lt, count)) in
        let ready = own_ready.each at.0 code table.0 at.1 table.1 t x tree of_package in
        let types = ready.types in
        let same = one_least (body_of t x tree code.insns) table_rows (rows_of (body_of t x tree code.insns) table.0)
        least types.stands.least in
        types.unbroken place rule (subst (λ rs. Breach (world p) (body_of t x tree code.insns) rs place rule) same
        breach)

    pub some_bytes : 0 < length tree.bytes
    some_bytes =
        let reads = read_files list judged.codes p is.checked in
        let r = reads.classes n t is_class in
        let few = spelt_fits t r.0 r.1 r.2 in
        let one = all_at fits.MethodFits t.methods i x few.methods is_method in
        let coded : fits.CodeFits tree = subst (λ o. IfSome o fits.CodeFits) is_code one.code in
        coded.some

    insns_are : decoded t x tree ≡ code.insns
    unfolding decoded
    insns_are = ap insns_of decoding_is.decodes

    -- ---- where it is in short mode

    module _ (short : (let q = tables in q.mode (method_by t x (Some tree))) ≡ modes.Short) where
      -- what is written is what is selected
      pub selected_is : (let laid = m in laid.code) ≡ selected_code p.files near t x tree code.insns table_rows
      selected_is =
          let written : IsWrittenByMode p.files near tables m = laid.is_package.is_package.methods k m there in
          written.code ∙ ap (code_by_mode p.files near tables m.member) named
          ∙ ap (λ q. code_in p.files near tables q (method_by t x (Some tree))) short
          ∙ same_code p.files near rows t x tree (own_ready.found n i t x is_class is_method)
          ∙ ap (λ insns. selected_code p.files near t x tree insns table_rows) insns_are

      -- it does not work on int
      pub works_on_none : code_works_on_int p.files code ≡ false
      works_on_none =
          let at = contains_at judged.codes code listed in
          let plain = plain_here list judged.codes p is.checked is.methods k m there t x tree named in
          let of = subst (λ (w : Files). IsMethodOf w code t x tree) same of_package in
          ap (λ (w : Files). code_works_on_int w code) same
          ∙ free_by list files judged laid.sound tables own_modes at.0 code at.1 t x tree of plain short

      -- the words of its stack, of its arguments and of its other locals
      pub stack_is : (let c = m.code in c.max_stack) ≡ tree.max_stack
      stack_is = ap (λ (c : NMethod). c.max_stack) selected_is

      pub nargs_is : (let c = m.code in c.nargs) ≡ argument_words x.flags x.desc
      nargs_is = ap (λ (c : NMethod). c.nargs) selected_is

      pub locals_are : (let c = m.code in c.max_locals) ≡ tree.max_locals - argument_words x.flags x.desc
      locals_are = ap (λ (c : NMethod). c.max_locals) selected_is

      module _ (offset : ℕ) (result : ValueType) where
        abbrev pub beside : Beside
        beside = record {
          offset = offset;
          laid = m;
          result = result;
          code = code;
          class = t;
          method = x;
          tree = tree;
          rows = table_rows;
          near = near;
        }

        pub is_beside : (let d = parts x.desc in let v = d.result in IsTypeFor (card_type p) v.kind v.class result)
            → IsBeside p beside judged.codes
        is_beside typed = record {
          number = k;
          is_laid = there;
          named = named;
          is_method = of_package;
          listed = listed;
          some = some_bytes;
          least = least;
          unbroken = unbroken;
          insns = ap (λ (c : NMethod). c.insns) selected_is;
          catches = ap (λ (c : NMethod). c.catches) selected_is;
          result = typed;
        }
