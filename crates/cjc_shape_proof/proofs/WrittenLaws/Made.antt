-- How the methods of a converted package come to their code, and that they are short.
use Rattle.std.proofs.Common.{◌≡◌, ℕ, suc, ◌+◌, ◌*◌, ◌<◌, ◌≤◌, refl, ap, subst, ◌∙◌, arith, List, [], ◌∷◌, length, map}
use Rattle.std.specs.Prelude.{All, Option, Some, None, option_map, slice_get, sum_by}
use Rattle.std.specs.List.{Contains}
use Rattle.std.proofs.lemmas.List.Sums.{sum_by-cons}
use Rattle.std.proofs.lemmas.Option.{slice_get-map}
use Rattle.cjc_bytes.specs.declared.fault.MemberId.{MemberId}
use Rattle.cjc_bytes.proofs.Gets.{item_has}
use Rattle.cjc_classes.specs.JvmSemantics.Linked.{Method}
use Rattle.cjc_classes.specs.JvmSemantics.OnePackage.{method_at, method_by}
use Rattle.cjc_world.specs.ClassFile.Code.{CodeTree}
use Rattle.cjc_world.specs.ClassFile.declared.tree.ClassTree.{ClassTree}
use Rattle.cjc_world.specs.ClassFile.declared.tree.MethodTree.{MethodTree}
use Rattle.cjc_components.specs.Bytecode.declared.method_code.MethodCode.{MethodCode}
use Rattle.cjc_check_proof.specs.Made.{AllAreMade, IsMade}
use Rattle.cjc_components.specs.Limits.{size_breaks, widest_method}
use Rattle.cjc_components.specs.Methods.{method_size}
use Rattle.cjc_components.specs.Package.{LaidMethod, Package, pool}
use Rattle.cjc_components.specs.Written.{IsWritten}
use Rattle.cjc_classes.specs.Emit.Emitted.{CanBeWritten, placed_at}
use Rattle.cjc_check_proof.proofs.LimitsLaws.Limits.{method_counted}
use Rattle.cjc_check_proof.proofs.LimitsLaws.Offsets.{header_few}
use Rattle.cjc_shape.specs.LowerJudge.declared.judged.Judged.{Judged}
use Rattle.cjc_components.proofs.LayoutPlaces.{all_wide}
use Rattle.cjc_classes.specs.Layout.Layouts.{IsWhole}
use Rattle.cjc_narrow_proof.specs.NCode.declared.narrow.NMethod.{NMethod}
use Rattle.cjc_classes.specs.List.Listed.{ListTree}
use Rattle.cjc_narrow_proof.specs.NCode.Lowering.Naming.{Naming}
use Rattle.cjc_shape.specs.LowerMethods.Ready.{AreReady, AreTold, IsOwn}
use Rattle.cjc_classes.specs.Narrow.Rows.Selected.{near_fields}
use Rattle.cjc_shape.proofs.PreparedLaws.Sound.{are_ready}
use Rattle.cjc_narrow_proof.specs.Selected.Keeps.{FindsItself}
use Rattle.cjc_classes.specs.Types.declared.state.State.{State}
use Rattle.cjc_classes.specs.Types.Flow.{body_of}
use Rattle.cjc_classes.specs.Types.Tables.{IsLeastTable, IsMethodOf}
use Rattle.cjc_classes.specs.Types.declared.table.TypeTable.{TypeTable}
use Rattle.cjc_shape.proofs.WholeLaws.Drafts.{owned as all_are_own}
use Rattle.cjc_shape.proofs.WholeLaws.Modes.{modes_count, tables_told}
use Rattle.cjc_world.specs.Classes.{all_classes}
use Rattle.cjc_world.specs.Files.{Files}
use Rattle.cjc_world.specs.Order.{method_order}
use Rattle.cjc_world.specs.declared.found.Found.{Found}
use Rattle.cjc_check_proof.specs.TokenProof.WrittenCalls.Standing.{AreMethods, IsSmall}
use Rattle.cjc_shape.specs.LowerIntPackage.LowerIntMode.declared.modes.Mode.{Mode}
use Rattle.cjc_shape.specs.LowerIntPackage.Modes.{Tables}
use Rattle.cjc_shape.specs.LowerIntPackage.Written.{code_by_mode_at}
use Rattle.cjc_shape.specs.Prepared.{IsSound}
use Rattle.cjc_shape.specs.Whole.Conversion.{IsPackageByModesOf}
use Rattle.cjc_shape_proof.specs.Written.Checked.{IsChecked}
use Rattle.cjc_shape_proof.specs.Written.Converted.{IsConverted}
use Rattle.cjc_shape_proof.proofs.WrittenLaws.Coded.{ComesFrom, from_abstract, from_code, from_none}
use Rattle.cjc_shape_proof.proofs.WrittenLaws.Coded as coded
use Rattle.cjc_shape_proof.proofs.WrittenLaws.Files.{is_checked, own_methods}
use Rattle.cjc_shape_proof.proofs.WrittenLaws.FittingLaws.Methods.{has, listed_member, own_code}
use Rattle.cjc_shape_proof.proofs.WrittenLaws.Ordering.{IsOrdered}

-- ---- 416 of Method

sizes_few : (ms : List LaidMethod) → ((k : ℕ) (m : LaidMethod) → slice_get ms k ≡ Some m → IsWhole m.code)
    → sum_by method_size ms ≤ 4 * length ms + sum_by (λ (m : LaidMethod). let code = m.code in code.widest) ms
sizes_few [] whole = omega arith
sizes_few (m ∷ ms) whole =
    let rest = sizes_few ms (λ k x e. whole (suc k) x e) in
    let head = header_few m in
    let w = whole 0 m refl in
    let wide = all_wide (let code = m.code in code.insns) m.wide (length (let code = m.code in code.insns)) in
    let size = w.size in
    let a = sum_by-cons method_size m ms in
    let b = sum_by-cons (λ (x : LaidMethod). let code = x.code in code.widest) m ms in
    omega (arith, rest, head, wide, size, a, b)

pub small_by : (p : Package) → ((k : ℕ) (m : LaidMethod) → slice_get p.methods k ≡ Some m → IsWhole m.code)
    → size_breaks p ≡ [] → IsSmall p
small_by p whole sizes =
    let few = sizes_few p.methods whole in
    let all : widest_method p ≤ 65535 = method_counted p sizes in
    omega (arith, few, all)

-- ---- a package by modes

module _ (list : ListTree) (files : List (List ℕ)) (judged : Judged) (sound : IsSound list files judged) (p : Package)
    (whole : IsPackageByModesOf list files p) where
  -- what is selected by modes can be laid out
  abbrev pub WholeLaw : Type 0
  WholeLaw =
      (w : Files) (insns : List MethodCode) (types : List TypeTable) (modes : List Mode) → AreReady w insns types
      → length modes ≡ length insns → (t : Tables) → AreTold w insns types modes t
      → (fields : List MemberId) (members : List Found) → All (IsOwn w) members
      → All IsWhole (map (code_by_mode_at w fields t) members)

  abbrev made : Found → NMethod
  made = code_by_mode_at judged.world (near_fields (pool p)) whole.tables

  abbrev fs : List Found
  fs = method_order (all_classes judged.world)

  all_whole : WholeLaw → All IsWhole (map made fs)
  all_whole law = law judged.world judged.codes judged.types judged.modes (are_ready list files judged sound)
      (modes_count list files judged sound) whole.tables
      (tables_told list files judged sound whole.tables (has list files judged sound p whole)) (near_fields (pool p)) fs
      (all_are_own list files judged sound)

  -- jumps and handlers lead to what is written, which is no longer than the widest count
  pub whole_at : WholeLaw → (k : ℕ) (m : LaidMethod) → slice_get p.methods k ≡ Some m → IsWhole m.code
  whole_at law k m e =
      let there : slice_get (map made fs) k ≡ Some m.code =
      slice_get-map made fs k ∙ ap (option_map made) (listed_member list files judged sound p whole k m e)
      ∙ ap Some (own_code list files judged sound p whole k m e) in
      item_has IsWhole (map made fs) k m.code (all_whole law) there

-- ---- the package

module _ (list : ListTree) (files : List (List ℕ)) (judged : Judged) (p : Package) (is : IsConverted list files judged
    p) where
  abbrev near : List MemberId
  near = near_fields (pool p)

  abbrev rows : Method → List (Option State)
  rows = is.is_package.rows

  its : IsChecked list judged.codes p
  its = is_checked list files judged p is

  own_methods_are : AreMethods p
  own_methods_are = own_methods list files judged p is

  pub written_at : (k : ℕ) (m : LaidMethod) → slice_get p.methods k ≡ Some m → IsWritten p.files near rows m
  written_at k m e = is.is_package.is_package.methods k m e

  -- 311
  pub ordered_at : (k : ℕ) (m : LaidMethod) → slice_get p.methods k ≡ Some m → IsOrdered m.code
  ordered_at = coded.ordered_at list judged.codes p its own_methods_are is.forms

  -- ---- where a method is of its class file

  module _ (n : Naming) (can : (k : ℕ) (m : LaidMethod) → slice_get p.methods k ≡ Some m
      → CanBeWritten n (placed_at 0 m.code m.wide))
      (is_added : (m : LaidMethod) → IsWritten p.files near rows m → method_at p.files m.member ≡ None
      → IsMade n p.files m)
      (is_bare : (m : LaidMethod) → IsWritten p.files near rows m → (class : ClassTree) (method : MethodTree)
      → method_at p.files m.member ≡ Some (method_by class method None) → IsMade n p.files m)
      (is_coded : (m : LaidMethod) → IsWritten p.files near rows m
      → (code : MethodCode) (class : ClassTree) (method : MethodTree) (tree : CodeTree)
      → IsMethodOf p.files code class method tree
      → method_at p.files m.member ≡ Some (method_by class method (Some tree)) → FindsItself p.files class method
      → IsLeastTable (body_of class method tree code.insns) (rows (method_by class method (Some tree)))
      → 0 < length tree.bytes → CanBeWritten n (placed_at 0 m.code m.wide) → IsMade n p.files m) where
    one_made : (k : ℕ) (m : LaidMethod) → slice_get p.methods k ≡ Some m → IsMade n p.files m
    one_made k m e = by (coded.comes_from list judged.codes p its own_methods_are k m e)
      where
        by : ComesFrom p.files judged.codes m → IsMade n p.files m
        by (from_none none) = is_added m (written_at k m e) none
        by (from_abstract class method known) = is_bare m (written_at k m e) class method known
        by (from_code c) =
            is_coded m (written_at k m e) c.code c.class c.method c.tree c.of c.known c.found
            (is.is_package.spelt.least c.code c.class c.method c.tree
            (subst (λ cs. Contains cs c.code) its.codes_are c.listed) c.of)
            c.some (can k m e)

    pub all_made : AllAreMade n p.files p.methods
    all_made = one_made
