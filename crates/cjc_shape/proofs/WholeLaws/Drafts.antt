-- What a list and its files settle of each package that is theirs: its files, and the rows of its methods.
use Rattle.std.proofs.Common.{◌≡◌, ℕ, zero, suc, ◌<◌, refl, sym, ap, subst, ◌∙◌, arith}
use Rattle.std.proofs.Common.{List, [], ◌∷◌, length}
use Rattle.std.specs.Prelude.{All, Option, Some, None, map, slice_get}
use Rattle.std.proofs.lemmas.Option.{slice_get-get_or, slice_get_within}
use Rattle.cjc_exported.specs.Bytes.declared.fault.MemberId.{MemberId}
use Rattle.cjc_methods.specs.JvmSemantics.Linked.{Method}
use Rattle.cjc_methods.specs.JvmSemantics.OnePackage.{method_at, method_by}
use Rattle.cjc_methods.specs.Bytecode.PackageCodes.{all_codes}
use Rattle.cjc_exported.specs.Components.Package.{Package}
use Rattle.cjc_exported.specs.Components.Written.{code_at, code_by}
use Rattle.cjc_judge.specs.declared.judged.Judged.{Judged}
use Rattle.cjc_judge.specs.Rules.{files_spelt}
use Rattle.cjc_judge.specs.Spelt.{FileTree}
use Rattle.cjc_judge.proofs.Firsts.{one_spelling}
use Rattle.cjc_shape.proofs.JudgedLaws.Selected.{is_world, same_world}
use Rattle.cjc_methods.specs.List.Listed.{ListTree}
use Rattle.cjc_methods.specs.Ready.{AreRows, IsOwn}
use Rattle.cjc_intervals.specs.Frames.{RangeState}
use Rattle.cjc_methods.specs.LowerIntPackage.LowerIntMode.declared.modes.Mode.TheVariants as modes
use Rattle.cjc_methods.specs.LowerIntPackage.Modes.{Tables}
use Rattle.cjc_methods.specs.LowerIntPackage.Written.{code_by_mode, code_by_mode_at}
use Rattle.cjc_shape.specs.Prepared.{IsSound}
use Rattle.cjc_shape.proofs.PreparedLaws.Rows.{are_rows, rows_in}
use Rattle.cjc_shape.proofs.PreparedLaws.Sound.{are_ready, is_tested, listed, world_unbroken}
use Rattle.cjc_methods.specs.Types.declared.state.State.{State}
use Rattle.cjc_methods.specs.Types.declared.table.TypeTable.{TypeTable}
use Rattle.cjc_methods.specs.Types.Flow.{body_of}
use Rattle.cjc_methods.specs.Types.Tables.{IsLeastTable, rows_of}
use Rattle.cjc_narrow_proof.proofs.TypesLeast.{one_least}
use Rattle.cjc_exported.specs.World.declared.found.Found.{Found}
use Rattle.cjc_exported.specs.World.Classes.{all_classes}
use Rattle.cjc_exported.specs.World.Files.{Files}
use Rattle.cjc_exported.specs.World.Order.{method_order}
use Rattle.cjc_shape.proofs.WholeLaws.Ordered.{all_own}
use Rattle.cjc_shape.specs.Whole.Conversion.{AreLeast, IsSpeltBy}
use Rattle.cjc_methods.proofs.BytesGets.{contained}

-- ---- short mode

-- tables by which every method is in short mode
abbrev pub short_tables : (rows : Method → List (Option State)) → (ranges : Method → List (Option RangeState)) → Tables
short_tables rows ranges = record { types = rows; ranges = ranges; mode = λ m. modes.Short }

-- what they select is selected by their rows
pub short_code : (files : Files) (near : List MemberId) (rows : Method → List (Option State))
    (ranges : Method → List (Option RangeState)) (f : Found)
    → code_by_mode_at files near (short_tables rows ranges) f ≡ code_at files near rows f
short_code files near rows ranges f = by (method_at files f)
  where
    by : (o : Option Method) → code_by_mode files near (short_tables rows ranges) f o ≡ code_by files near rows f o
    by None = refl
    by (Some m) = refl

module _ (list : ListTree) (files : List (List ℕ)) (judged : Judged) (is : IsSound list files judged) where
  abbrev world : Files
  world = judged.world

  -- what they spell
  abbrev read_trees : List FileTree
  read_trees = (is_tested list files judged is).judged_by.read.trees

  abbrev fs : List Found
  fs = method_order (all_classes world)

  -- ---- what the files settle

  -- their world
  pub same_spelt : (w : Files) (rows : Method → List (Option State)) → IsSpeltBy list files w rows → w ≡ world
  same_spelt w rows s =
      let mine = is_world list files judged (is_tested list files judged is) in
      s.world_is ∙ ap (files_spelt list) (one_spelling list.lines files s.trees read_trees s.is_world.0 mine.0)
      ∙ sym (same_world list files judged (is_tested list files judged is))

  -- the rows of their methods
  pub rows_agree : (w : Files) (rows : Method → List (Option State)) → IsSpeltBy list files w rows
      → AreRows world judged.codes judged.types rows
  rows_agree w rows s k code table is_code is_table class method tree is_method =
      let least = subst (λ v. AreLeast v rows) (same_spelt w rows s) s.least in
      let ready = are_ready list files judged is in
      let listed : slice_get (all_codes world.classes) k ≡ Some code = sym (ap (λ cs. slice_get cs k) ready.codes_are)
      ∙ is_code in
      let one = least code class method tree (contained (all_codes world.classes) k code listed) is_method in
      let other = (ready.each k code table is_code is_table class method tree is_method).types.stands.least in
      one_least (body_of class method tree code.insns) (rows (method_by class method (Some tree)))
      (rows_of (body_of class method tree code.insns) table) one other

  abbrev pub rows : Method → List (Option State)
  rows = rows_in world judged.codes judged.types

  pub rows_are : AreRows world judged.codes judged.types rows
  rows_are =
      let all = are_ready list files judged is in
      are_rows world list.name (listed list files judged is) (world_unbroken list files judged is) judged.codes
      judged.types is.judged_by.of_package
      (λ k c q e f d m t of. (all.each k c q e f d m t of).types)

  pub owned : All (IsOwn world) fs
  owned = all_own world (listed list files judged is)

  -- the members of a package of these files
  pub same_members : (p : Package) → p.files ≡ world → map (λ m. m.member) p.methods ≡ method_order (all_classes
      p.files) → map (λ m. m.member) p.methods ≡ fs
  same_members p here members = members ∙ ap (λ w. method_order (all_classes w)) here

  pub least : AreLeast world rows
  least code class method tree contains is_method =
      let all = are_ready list files judged is in
      let k = contains.0 in
      let listed : slice_get judged.codes k ≡ Some code =
      ap (λ cs. slice_get cs k) all.codes_are ∙ slice_get-get_or (all_codes world.classes) k code contains.1
      ∙ ap Some contains.2 in
      let within : k < length judged.types = (let l = slice_get_within judged.codes k code listed in let c = all.count
      in omega (arith, l, c)) in
      by k listed (slice_get judged.types k) refl within
    where
      by : (k : ℕ) → slice_get judged.codes k ≡ Some code → (o : Option TypeTable) → slice_get judged.types k ≡ o
          → k < length judged.types
          → IsLeastTable (body_of class method tree code.insns) (rows (method_by class method (Some tree)))
      by k listed None e within = absurd (none judged.types k within e)
        where
          none : (xs : List TypeTable) (k : ℕ) → k < length xs → slice_get xs k ≡ None → ⊥
          none [] k l e = absurd (omega arith)
          none (x ∷ xs) zero l e = cc
          none (x ∷ xs) (suc k) l e = none xs k (omega arith) e
      by k listed (Some table) e within =
          let all = are_ready list files judged is in
          subst (λ rs. IsLeastTable (body_of class method tree code.insns) rs)
          (sym (rows_are k code table listed e class method tree is_method))
          (all.each k code table listed e class method tree is_method).types.stands.least

  -- what they spell, by rows of least tables
  pub spelt_of : (others : Method → List (Option State)) → AreLeast world others → IsSpeltBy list files world others
  spelt_of others all = record {
    trees = read_trees;
    is_world = is_world list files judged (is_tested list files judged is);
    world_is = same_world list files judged (is_tested list files judged is);
    least = all;
  }
