-- No method that is written works on int but in int mode.
use Rattle.std.proofs.Common.{◌≡◌, ℕ, refl, ap, subst, ◌∙◌, Bool, true, false, List, length}
use Rattle.std.specs.List.{Contains}
use Rattle.std.specs.Prelude.{ℤ, Option, Some, slice_get}
use Rattle.std.proofs.lemmas.Option.{slice_get-get_or}
use Rattle.cjc_exported.specs.Bytes.declared.fault.MemberId.{MemberId}
use Rattle.cjc_exported.specs.ClassFile.Code.{CodeTree}
use Rattle.cjc_exported.specs.ClassFile.declared.tree.ClassTree.{ClassTree}
use Rattle.cjc_exported.specs.ClassFile.declared.tree.MethodTree.{MethodTree}
use Rattle.cjc_methods.specs.List.Listed.{ListTree}
use Rattle.cjc_judge.specs.Rules.{settings_of}
use Rattle.cjc_judge.specs.declared.judged.Judged.{Judged}
use Rattle.cjc_exported.specs.Components.Package.{Package}
use Rattle.cjc_int_narrow.proofs.IntModeNamed.{free_in_short_mode}
use Rattle.cjc_intervals.proofs.Flow.{range_laws}
use Rattle.cjc_intervals.proofs.RangeLaws.Least.{least_exists}
use Rattle.cjc_intervals.proofs.RangeLaws.Stays.{range_flow_stays}
use Rattle.cjc_intervals.specs.Flow.{range_flow}
use Rattle.cjc_intervals.specs.Frames.{RangeState}
use Rattle.cjc_intervals.specs.Tables.{IsLeastRanges}
use Rattle.cjc_methods.specs.Bytecode.PackageCodes.{all_codes}
use Rattle.cjc_methods.specs.Bytecode.declared.method_code.MethodCode.{MethodCode}
use Rattle.cjc_methods.specs.JvmSemantics.Linked.{Method}
use Rattle.cjc_methods.specs.JvmSemantics.OnePackage.{method_by}
use Rattle.cjc_methods.specs.LowerIntPackage.LowerIntMode.Modes.{IsModeOf}
use Rattle.cjc_methods.specs.LowerIntPackage.LowerIntMode.declared.modes.Mode.TheVariants as modes
use Rattle.cjc_methods.specs.LowerIntPackage.Modes.{Tables}
use Rattle.cjc_methods.specs.Ready.{AreFree}
use Rattle.cjc_methods.specs.Subset.Ints.{code_works_on_int}
use Rattle.cjc_methods.specs.Tokens.Members.{is_initialiser}
use Rattle.cjc_methods.specs.Types.declared.state.State.{State}
use Rattle.cjc_methods.specs.Types.Flow.{Body, body_of}
use Rattle.cjc_methods.specs.Types.Tables.{IsMethodOf}
use Rattle.cjc_narrow_proof.proofs.SelectedLaws.IntFree.{code_without}
use Rattle.cjc_narrow_proof.specs.Laws.Unbroken.{NoneWorksOnInt}
use Rattle.cjc_shape.specs.Prepared.{IsSound}
use Rattle.cjc_shape.specs.Whole.Conversion.{AreShort, HasModes, IsPackageOf}
use Rattle.cjc_shape.proofs.JudgedLaws.Selected.{judged_checks}
use Rattle.cjc_shape.proofs.PreparedLaws.Sound.{is_tested}
use Rattle.cjc_shape.proofs.WholeLaws.Drafts.{same_spelt}
use Rattle.cjc_shape.proofs.WholeLaws.Modes.{code_listed, mode_told, one_mode, own_has, own_tables}
use Rattle.cjc_exported.specs.World.Files.{Files}

-- each method has a least table of intervals
ranges_exist : (b : Body) (constant : MemberId → Option ℤ) (types : List (Option State))
    → (ranges : List (Option RangeState)) × IsLeastRanges b constant types ranges
ranges_exist b constant types = least_exists (range_flow b constant types) (length b.insns)
    (range_laws b constant types) (range_flow_stays b constant types)

module _ (list : ListTree) (files : List (List ℕ)) (judged : Judged) (is : IsSound list files judged) where
  -- ---- methods by their modes

  module _ (t : Tables) (has : HasModes list.ints judged.world t) where
    -- one that is not in int mode
    pub free_by : (k : ℕ) (code : MethodCode) → slice_get judged.codes k ≡ Some code
        → (class : ClassTree) (method : MethodTree) (tree : CodeTree) → IsMethodOf judged.world code class method tree
        → is_initialiser method.name ≡ false → t.mode (method_by class method (Some tree)) ≡ modes.Short
        → code_works_on_int judged.world code ≡ false
    free_by k code is_code class method tree of plain short = by list.ints refl
      where
        m : Method
        m = method_by class method (Some tree)

        by : (b : Bool) → list.ints ≡ b → code_works_on_int judged.world code ≡ false
        by false e = code_without list.name judged.world judged.codes (settings_of list)
            (judged_checks list files judged (is_tested list files judged is)) e k code is_code
        by true e =
            free_in_short_mode judged.world code class method tree of (t.types m) (t.ranges m) (t.mode m) short
            (subst (λ a. IsModeOf a (body_of class method tree code.insns) (t.types m) (t.ranges m) (t.mode m)) e
            (has.modes.with_code code class method tree (code_listed list files judged is k code is_code) of plain))

    pub are_free : AreFree judged.world judged.codes judged.modes
    are_free k code class method tree is_code is_mode of plain =
        free_by k code is_code class method tree of plain
        (mode_told list files judged is t has k code modes.Short is_code is_mode class method tree of)

    -- where none is in int mode
    none_works : AreShort list.ints judged.world → NoneWorksOnInt judged.world judged.codes
    none_works short code class method tree listed of plain =
        let there : slice_get judged.codes listed.0 ≡ Some code = slice_get-get_or judged.codes listed.0 code listed.1
        ∙ ap Some listed.2 in
        free_by listed.0 code there class method tree of plain (by (code_listed list files judged is listed.0 code
        there))
      where
        m : Method
        m = method_by class method (Some tree)

        by : Contains (all_codes (let w = judged.world in w.classes)) code → t.mode m ≡ modes.Short
        by there =
            let b = body_of class method tree code.insns in
            let tables = has.least code class method tree there of in
            one_mode list.ints b (t.types m) (t.ranges m) (t.mode m) modes.Short
            (has.modes.with_code code class method tree there of plain)
            (short code class method tree there of plain (t.types m) tables.0 (t.ranges m) tables.1)

  -- ---- packages without int mode

  pub short_free : AreShort list.ints judged.world → NoneWorksOnInt judged.world judged.codes
  short_free = none_works (own_tables list files judged is ranges_exist) (own_has list files judged is ranges_exist)

  pub package_free : (p : Package) → IsPackageOf list files p → NoneWorksOnInt judged.world judged.codes
  package_free p whole =
      let here = same_spelt list files judged is p.files whole.rows whole.spelt in
      short_free (subst (λ (w : Files). AreShort list.ints w) here whole.short)
