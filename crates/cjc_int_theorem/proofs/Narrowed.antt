-- A package by modes whose methods have their tables is one whose narrow code runs as its class files.
use Rattle.std.proofs.Common.{◌≡◌, ℕ, sym, ap, subst, ◌∙◌, Bool, true, false, List}
use Rattle.std.specs.Prelude.{Some, slice_get}
use Rattle.cjc_bytes.specs.declared.fault.MemberId.{MemberId}
use Rattle.cjc_bytes.proofs.Bools.{true_not_false}
use Rattle.cjc_classes.specs.JvmSemantics.Linked.{Method}
use Rattle.cjc_classes.specs.JvmSemantics.OnePackage.{is_initialiser, method_by}
use Rattle.cjc_classes.specs.List.Listed.{ListTree}
use Rattle.cjc_classes.specs.Subset.Ints.{works_on_int}
use Rattle.cjc_classes.specs.Types.Flow.{body_of}
use Rattle.cjc_token_proof.specs.Types.Search.{cells_of}
use Rattle.cjc_classes.specs.Types.Tables.{rows_of}
use Rattle.cjc_classes.specs.Types.declared.state.State.{State}
use Rattle.cjc_components.specs.Bytecode.declared.insn.JInsn.{JInsn}
use Rattle.cjc_components.specs.Bytecode.declared.insn.JOp.{JOp}
use Rattle.cjc_components.specs.Bytecode.declared.insn.JOp.TheVariants as jop
use Rattle.cjc_components.specs.Bytecode.declared.method_code.MethodCode.{MethodCode}
use Rattle.cjc_components.specs.Package.{Package}
use Rattle.cjc_int_alike.specs.ByModes.{HasIntTables, analysis_by_mode, bodies_by_mode, codes_by_mode}
use Rattle.cjc_int_alike.specs.ByModes.{look_ups_by_mode, result_in}
use Rattle.cjc_int_alike.specs.Callees.{IsBegunByMode, begun_in_int_mode, begun_in_short_mode}
use Rattle.cjc_int_alike.specs.Converted.{IsNarrowedByModes}
use Rattle.cjc_int_alike.specs.Named.{IsIntNamed, IsOneWord}
use Rattle.cjc_int_alike.proofs.Modes.{int_begun}
use Rattle.cjc_int_alike.proofs.Short.{short_begun}
use Rattle.cjc_int_components.specs.Modes.{Tables}
use Rattle.cjc_int_theorem.specs.ByModes.{IsConvertedByModes}
use Rattle.cjc_int_theorem.specs.Tabled.{AreTabledByModes, IsOwnMethod, IsTabledByMode, tabled_int, tabled_short}
use Rattle.cjc_int_theorem.proofs.Finds.{script_named}
use Rattle.cjc_int_theorem.proofs.FindsNamed.{insn_is, insns_are, row_named}
use Rattle.cjc_int_theorem.proofs.IntTables.{class_names, exceptions_are, first_fits}
use Rattle.cjc_jvm_semantics.specs.ByName.{linked}
use Rattle.cjc_narrow_proof.specs.Laws.Unbroken.{IsInsnOf}
use Rattle.cjc_narrow_proof.specs.Runs.Tables.{HasTables, Tables as RunTables}
use Rattle.cjc_narrow_proof.proofs.LawsLaws.WordTypes.{word_desc}
use Rattle.cjc_narrow_proof.proofs.SelectedLaws.IntFree.{insn_free}
use Rattle.cjc_shape.specs.LowerJudge.Rules.{settings_of}
use Rattle.cjc_shape_proof.specs.Finds.{IsStaticFieldFound, finds_cell, finds_constant}
use Rattle.cjc_shape_proof.proofs.FindsLaws.Calls.{called_usable}
use Rattle.cjc_shape_proof.proofs.FindsLaws.Fields.{field_usable, word_field}
use Rattle.cjc_shape_proof.proofs.FindsLaws.Receivers.{root_abroad, root_of}
use Rattle.cjc_shape_proof.proofs.WrittenLaws.Checked.{are_spelt, own_names, own_solid, read_files}
use Rattle.cjc_theorem.proofs.WholeRuns.Statics.{static_found}
use Rattle.cjc_vtable.specs.Fixpoint.Tables.{HasRow}
use Rattle.cjc_world.specs.ClassFile.Code.{CodeTree}
use Rattle.cjc_world.specs.ClassFile.declared.tree.ClassTree.{ClassTree}
use Rattle.cjc_world.specs.ClassFile.declared.tree.MethodTree.{MethodTree}
use Rattle.cjc_world.specs.Classes.{all_classes}

module _ (list : ListTree) (codes : List MethodCode) (t : Tables) (p : Package) (is : IsConvertedByModes list codes t p)
    (near : List MemberId) (tables : RunTables) (is_int : Method → Bool)
    (tabled : AreTabledByModes p.files codes tables is_int) where
  begins : (m : Method) → IsOwnMethod p.files m → IsBegunByMode (linked p.files p.image)
      (look_ups_by_mode p.files p.image near tables is_int) (all_classes p.files)
      (analysis_by_mode p.files p.image near tables is_int) (bodies_by_mode p.files p.image near tables is_int)
      (result_in p.files p.image near tables is_int) m
  begins m own = by (tabled.own m own)
    where
      by : IsTabledByMode p.files codes tables is_int m → IsBegunByMode (linked p.files p.image)
          (look_ups_by_mode p.files p.image near tables is_int) (all_classes p.files)
          (analysis_by_mode p.files p.image near tables is_int) (bodies_by_mode p.files p.image near tables is_int)
          (result_in p.files p.image near tables is_int) m
      by (tabled_int on has listed) = begun_in_int_mode (int_begun p.files p.image near tables is_int m has on)
      by (tabled_short off has listed free) = begun_in_short_mode (short_begun p.files p.image near tables is_int m has
          off)

  int_methods : (m : Method) → is_int m ≡ true → HasIntTables p.files tables m
  int_methods m on = by (tabled.own m (tabled.only_int m on))
    where
      by : IsTabledByMode p.files codes tables is_int m → HasIntTables p.files tables m
      by (tabled_int on_too has listed) = has
      by (tabled_short off has listed free) = absurd (true_not_false (is_int m) on off)

  others : (m : Method) (at : ℕ) (s : State) → is_int m ≡ false → HasRow (tables.types m) at s
      → HasTables p.files tables m
  others m at s off row = by (tabled.own m (tabled.only m at s row))
    where
      by : IsTabledByMode p.files codes tables is_int m → HasTables p.files tables m
      by (tabled_int on has listed) = absurd (true_not_false (is_int m) on off)
      by (tabled_short off_too has listed free) = has

  -- ---- what instructions name

  -- a method of the package with code that is no initialiser
  written : (m : Method) → IsOwnMethod p.files m → (class : ClassTree) (method : MethodTree) (tree : CodeTree)
      → m ≡ method_by class method (Some tree) → is_initialiser method.name ≡ false
  written m own class method tree same =
      ap is_initialiser (ap (λ (x : Method). let id = x.id in id.name) (sym same ∙ own.is)) ∙ own.plain

  named : (m : Method) (at : ℕ) (i : JInsn) (s : State) → slice_get m.insns at ≡ Some i → HasRow (tables.types m) at s
      → IsIntNamed p.files p.image near tables is_int m (cells_of s.stack) i.op
  named m at i s insn row = by (tabled.own m (tabled.only m at s row))
    where
      other : (class : ClassTree) (method : MethodTree) (tree : CodeTree) → m ≡ method_by class method (Some tree)
          → is_initialiser method.name ≡ false
      other = written m (tabled.only m at s row)

      by : IsTabledByMode p.files codes tables is_int m
          → IsIntNamed p.files p.image near tables is_int m (cells_of s.stack) i.op
      by (tabled_int on h listed) =
          let here = ap (λ xs. slice_get xs at) (sym (ap (λ (x : Method). x.insns) h.is ∙ insns_are list codes p
          is.checked near tables is_int begins h.code h.class h.method h.tree h.of_package listed
          (other h.class h.method h.tree h.is))) ∙ insn in
          subst (λ x. IsIntNamed p.files p.image near tables is_int x (cells_of s.stack) i.op) (sym h.is)
          (row_named list codes p is.checked near tables is_int begins h.code h.class h.method h.tree h.of_package
          listed (other h.class h.method h.tree h.is) (tables.types (method_by h.class h.method (Some h.tree)))
          h.unbroken at i s here
          (subst (λ (x : Method). HasRow (tables.types x) at s) h.is row))
      by (tabled_short off h listed free) =
          let code = h.code in
          let table_is = h.is_table in
          let here = ap (λ xs. slice_get xs at) (sym (ap (λ (x : Method). x.insns) h.is ∙ insns_are list codes p
          is.checked near tables is_int begins h.code h.class h.method h.tree h.of_package listed
          (other h.class h.method h.tree h.is))) ∙ insn in
          subst (λ x. IsIntNamed p.files p.image near tables is_int x (cells_of s.stack) i.op) (sym h.is)
          (row_named list codes p is.checked near tables is_int begins h.code h.class h.method h.tree h.of_package
          listed (other h.class h.method h.tree h.is) (rows_of (body_of h.class h.method h.tree code.insns) h.table)
          table_is.unbroken at i s here
          (subst (λ rows. HasRow rows at s) h.types row))

  -- ---- outside int mode all has one word

  word_of : (class : ClassTree) (op : JOp) → IsInsnOf p.files codes class op → works_on_int op ≡ false → IsOneWord op
  unfolding works_on_int
  word_of class (jop.Field put id) at e =
      let d = field_usable list.name p.files codes (settings_of list) (own_names list codes p is.checked)
      (read_files list codes p is.checked) (own_solid list codes p is.checked) (root_of p.files is.checked.exports)
      (root_abroad p.files is.checked.exports) p.image (codes_by_mode p.files p.image near tables is_int) class put id
      at in
      (word_field id.desc d.types d.short d.is_desc d.of_method d.supported e).one_word
  word_of class (jop.Static put id) at e = by (static_found list.name p.files codes (settings_of list)
      (own_names list codes p is.checked) (read_files list codes p is.checked) (own_solid list codes p is.checked)
      p.image class put id at)
    where
      by : IsStaticFieldFound p.files p.image put id → IsOneWord (jop.Static put id)
      by (finds_constant z reads d number held found) =
          (word_field id.desc d.types d.short d.is_desc d.of_method d.supported e).one_word
      by (finds_cell target d found has) =
          (word_field id.desc d.types d.short d.is_desc d.of_method d.supported e).one_word
  word_of class (jop.Call op id) at e =
      let d = called_usable list.name p.files codes (settings_of list) (own_names list codes p is.checked)
      (are_spelt list codes p is.checked) (read_files list codes p is.checked) (own_solid list codes p is.checked)
      (root_of p.files is.checked.exports) p.image (codes_by_mode p.files p.image near tables is_int) class op id at in
      word_desc id.desc d.types d.short d.is_desc d.of_method d.supported e
  word_of class (jop.NewArray n) at e = e
  word_of class (jop.ArrayLoad n) at e = e
  word_of class (jop.ArrayStore n) at e = e
  word_of class jop.Nop at e = tt
  word_of class jop.Null at e = tt
  word_of class (jop.Number z) at e = tt
  word_of class (jop.Load refs k) at e = tt
  word_of class (jop.Store refs k) at e = tt
  word_of class (jop.Stack op) at e = tt
  word_of class (jop.Arith op) at e = tt
  word_of class (jop.Inc k by) at e = tt
  word_of class (jop.Narrow op) at e = tt
  word_of class (jop.If op target) at e = tt
  word_of class (jop.Goto target) at e = tt
  word_of class (jop.TableSwitch other low targets) at e = tt
  word_of class (jop.LookupSwitch other cases) at e = tt
  word_of class (jop.Return op) at e = tt
  word_of class (jop.New name) at e = tt
  word_of class (jop.ANewArray name) at e = tt
  word_of class jop.ArrayLength at e = tt
  word_of class jop.Throw at e = tt
  word_of class (jop.CheckCast name) at e = tt
  word_of class (jop.InstanceOf name) at e = tt

  one_word : (m : Method) (at : ℕ) (i : JInsn) (s : State) → is_int m ≡ false → slice_get m.insns at ≡ Some i
      → HasRow (tables.types m) at s → IsOneWord i.op
  one_word m at i s off insn row = by (tabled.own m (tabled.only m at s row))
    where
      other : (class : ClassTree) (method : MethodTree) (tree : CodeTree) → m ≡ method_by class method (Some tree)
          → is_initialiser method.name ≡ false
      other = written m (tabled.only m at s row)

      by : IsTabledByMode p.files codes tables is_int m → IsOneWord i.op
      by (tabled_int on h listed) = absurd (true_not_false (is_int m) on off)
      by (tabled_short off_too h listed free) =
          let here = ap (λ xs. slice_get xs at) (sym (ap (λ (x : Method). x.insns) h.is ∙ insns_are list codes p
          is.checked near tables is_int begins h.code h.class h.method h.tree h.of_package listed
          (other h.class h.method h.tree h.is))) ∙ insn in
          word_of h.class i.op (insn_is list codes p is.checked near tables is_int begins h.code h.class h.method h.tree
          h.of_package listed (other h.class h.method h.tree h.is) at i here)
          (insn_free p.files h.code h.class h.method h.tree h.of_package free at i here)

  -- ---- the package

  pub is_narrowed : IsNarrowedByModes p.files p.image near tables is_int
  is_narrowed = record {
    int_methods = int_methods;
    others = others;
    names = class_names list codes t p is;
    exceptions = exceptions_are list codes t p is;
    named = named;
    one_word = one_word;
    scripted = script_named list codes p is.checked near tables is_int begins;
    first = first_fits list codes t p is near tables is_int;
  }
