-- Narrow code of a package can be laid out, and is the only one.
use Rattle.std.proofs.Common.{◌≡◌, ℕ, suc, refl, sym, ap, subst, ◌∙◌, arith, List, [], ◌∷◌, length}
use Rattle.std.specs.Prelude.{map, slice_get, All, Option, Some}
use Rattle.std.proofs.lemmas.List.Elements.{All-head, All-tail}
use Rattle.cjc_bytes.specs.declared.fault.MemberId.{MemberId}
use Rattle.cjc_world.specs.ClassFile.declared.tree.ClassTree.{ClassTree}
use Rattle.cjc_components.specs.Bytecode.declared.method_code.MethodCode.{MethodCode}
use Rattle.cjc_pool.specs.List.Listed.{ListTree}
use Rattle.cjc_world.specs.ClassFile.Code.{CodeTree}
use Rattle.cjc_world.specs.ClassFile.declared.tree.MethodTree.{MethodTree}
use Rattle.cjc_narrow.specs.Types.declared.table.TypeTable.{TypeTable}
use Rattle.cjc_world.specs.declared.found.Found.{Found}
use Rattle.cjc_world.specs.Classes.{all_classes}
use Rattle.cjc_world.specs.Files.{Files}
use Rattle.cjc_world.specs.Order.{method_order}
use Rattle.cjc_pool.specs.JvmSemantics.OnePackage.{method_by}
use Rattle.cjc_pool.specs.NCode.declared.narrow.NMethod.{NMethod}
use Rattle.cjc_pool.specs.NCode.PoolOrder.{pool_order}
use Rattle.cjc_narrow.specs.Rows.Resolved.{argument_words}
use Rattle.cjc_narrow.specs.Rows.Selected.{near_fields}
use Rattle.cjc_pool.specs.Layout.Layouts.{IsWhole}
use Rattle.cjc_components.specs.Descriptor.{method_in}
use Rattle.cjc_components.specs.Package.{LaidMethod, Package, codes}
use Rattle.cjc_components.specs.Written.{no_code}
use Rattle.cjc_intervals.specs.Frames.{RangeState}
use Rattle.cjc_int_mode.specs.declared.modes.Mode.{Mode}
use Rattle.cjc_int_mode.specs.declared.modes.Mode.TheVariants as modes
use Rattle.cjc_int_package.specs.Modes.{Tables}
use Rattle.cjc_int_package.specs.Written.{IsPackageByModes, IsWrittenByMode, code_by_mode_at}
use Rattle.cjc_methods.specs.Ready.{AreReady, AreTold, IsOwn, IsReady, states}
use Rattle.cjc_methods.specs.Working.ByMode.{selected_by}
use Rattle.cjc_methods.proofs.Again.{same_pools}
use Rattle.cjc_methods.proofs.Coded.{with_code_by_mode, without_code_by_mode}
use Rattle.cjc_methods.proofs.Own.{by_place, class_of, tree_at}
use Rattle.cjc_methods.proofs.Ownership.{all_cons, all_none}

none_whole : (nargs : ℕ) → IsWhole (no_code nargs)
none_whole nargs = record { leads = tt; lies = tt; size = omega arith }

-- of a method by its mode
each_whole : (files : Files) (code : MethodCode) (class : ClassTree) (method : MethodTree) (tree : CodeTree)
    (table : TypeTable) → IsReady files code class method tree table → (near : List MemberId) (mode : Mode)
    (ranges : List (Option RangeState))
    → IsWhole (selected_by mode files near code class method tree (states code class method tree table) ranges)
each_whole files code class method tree table ready near modes.Short ranges = ready.whole near
each_whole files code class method tree table ready near modes.Int ranges = ready.int_whole near ranges

module _ (files : Files) (codes : List MethodCode) (types : List TypeTable) (modes_of : List Mode)
    (ready : AreReady files codes types) (t : Tables) (told : AreTold files codes types modes_of t)
    (sized : length modes_of ≡ length codes) (near : List MemberId) where
  one_whole : (f : Found) → IsOwn files f → IsWhole (code_by_mode_at files near t f)
  one_whole f own =
      let tree = tree_at files f own in
      by_place files codes types modes_of ready sized f own (IsWhole (code_by_mode_at files near t f))
      (λ k h table e mode g.
      let each = ready.each k h.code table h.is_code e h.class h.method h.tree h.is_own in
      subst IsWhole (sym (with_code_by_mode files near codes types modes_of ready t told f own.own k
      (class_of files f own) tree.1 h table e mode g))
      (each_whole files h.code h.class h.method h.tree table each near mode
      (t.ranges (method_by h.class h.method (Some h.tree)))))
      (λ none.
      let m = method_in (all_classes files) own.class f.member in
      subst IsWhole (sym (without_code_by_mode files near codes types modes_of ready t told f own.own
      (class_of files f own) own.class tree.1 own.is_class (tree.2 own.class own.is_class) none))
      (none_whole (argument_words m.flags m.desc)))

  pub all_whole : (members : List Found) → All (IsOwn files) members
      → All IsWhole (map (code_by_mode_at files near t) members)
  all_whole [] own = all_none IsWhole
  all_whole (f ∷ fs) own = all_cons IsWhole (code_by_mode_at files near t f) (map (code_by_mode_at files near t) fs)
      (one_whole f (All-head (IsOwn files) f fs own)) (all_whole fs (All-tail (IsOwn files) f fs own))

-- ---- the code of a package

-- of methods as they are written
codes_written : (files : Files) (near : List MemberId) (t : Tables) (ms : List LaidMethod)
    → ((k : ℕ) (m : LaidMethod) → slice_get ms k ≡ Some m → IsWrittenByMode files near t m)
    → map (λ m. m.code) ms ≡ map (code_by_mode_at files near t) (map (λ m. m.member) ms)
codes_written files near t [] each = refl
codes_written files near t (m ∷ ms) each =
    ap (λ (x : NMethod). x ∷ map (λ (y : LaidMethod). y.code) ms) (each 0 m refl).code
    ∙ ap (λ xs. code_by_mode_at files near t m.member ∷ xs)
    (codes_written files near t ms (λ k x is. each (suc k) x is))

pub codes_same : (list : ListTree) (files : Files) (insns : List MethodCode) (t : Tables) (p : Package)
    → IsPackageByModes list files insns t p
    → (narrow : List NMethod) → narrow ≡ map (code_by_mode_at files (near_fields (pool_order narrow)) t)
    (method_order (all_classes files)) → codes p ≡ narrow
codes_same list files insns t p is narrow e =
    let fs = method_order (all_classes files) in
    let near = near_fields (pool_order (codes p)) in
    let own = near_fields (pool_order narrow) in
    let here : codes p ≡ map (code_by_mode_at files near t) fs = codes_written files near t p.methods is.methods
    ∙ ap (map (code_by_mode_at files near t)) is.members in
    let pools : pool_order (codes p) ≡ pool_order narrow = ap pool_order here ∙ same_pools files t near own fs
    ∙ ap pool_order (sym e) in
    here ∙ ap (λ pool. map (code_by_mode_at files (near_fields pool) t) fs) pools ∙ sym e
