-- Methods that come to their code as a package's do keep all that consistent code asks.
use Rattle.std.proofs.Common.{◌≡◌, ℕ, ◌∙◌, ap, sym, subst, List, length}
use Rattle.std.specs.Prelude.{slice_get, Some}
use Rattle.cjc_world.specs.Files.{Files}
use Rattle.cjc_ncode.specs.declared.narrow.NInsn.{NInsn}
use Rattle.cjc_ncode.specs.declared.narrow.NMethod.{NMethod}
use Rattle.cjc_ncode.specs.Lowering.Naming.{Naming}
use Rattle.cjc_pool.specs.Narrow.Written.Rows.{has_rows, rows_by}
use Rattle.cjc_pool.specs.Layout.Handlers.{AllLie}
use Rattle.cjc_pool.specs.Layout.Sizes.{AllLead}
use Rattle.cjc_pool.specs.Emit.Emitted.{CanBeWritten, placed_at}
use Rattle.cjc_narrow_proof.proofs.SelectedLaws.Whole.{selected_whole}
use Rattle.cjc_components.specs.Package.{LaidMethod}
use Rattle.cjc_check_proof.specs.Code.Caught.{HandlersLie}
use Rattle.cjc_check_proof.specs.Code.Ends.{AllStayInside, has_end, last_ends, StaysInside}
use Rattle.cjc_check_proof.specs.Code.Kinds.{AllHaveKinds, HasKind}
use Rattle.cjc_check_proof.specs.Code.Written.{AllWritable}
use Rattle.cjc_check_proof.specs.Made.{AllAreMade, by_selection, IsMade, without_code}
use Rattle.cjc_check_proof.proofs.PromisesLaws.Ending.{selected_ends}
use Rattle.cjc_check_proof.proofs.PromisesLaws.KeyKinds.{selected_has_kinds}
use Rattle.cjc_check_proof.proofs.PromisesLaws.Nothing.{nothing_inside, nothing_named, nothing_written}

module _ (n : Naming) (files : Files) (m : LaidMethod) where
  one_written : IsMade n files m → CanBeWritten n (placed_at 0 m.code m.wide)
  one_written (without_code abstract_one none uncaught least) = nothing_written n m none least
  one_written (by_selection is least some near made can) = can

  one_inside : IsMade n files m → StaysInside m
  one_inside (without_code abstract_one none uncaught least) = nothing_inside m abstract_one none
  one_inside (by_selection {code = code} {class = class} {method = method} {tree = tree} is {rows = rows} least some
      near made can) =
      let whole = selected_whole files code class method tree is rows least near in
      record {
        leads = subst (λ (x : NMethod). AllLead (length x.insns) x.insns) (sym made) whole.leads;
        ends = has_end (ap (λ (x : NMethod). last_ends x.insns) made ∙ selected_ends files code class method tree is
            rows least some near);
      }

  one_lies : IsMade n files m → AllLie (length m.code.insns) m.code.catches
  one_lies (without_code abstract_one none uncaught least) = subst (AllLie (length m.code.insns)) (sym uncaught) tt
  one_lies (by_selection {code = code} {class = class} {method = method} {tree = tree} is {rows = rows} least some near
      made can) =
      let whole = selected_whole files code class method tree is rows least near in
      subst (λ (x : NMethod). AllLie (length x.insns) x.catches) (sym made) whole.lies

  one_kind : IsMade n files m → (k : ℕ) (i : NInsn) → slice_get m.code.insns k ≡ Some i → HasKind i
  one_kind (without_code abstract_one none uncaught least) k i e = nothing_named m none k i e
  one_kind (by_selection {code = code} {class = class} {method = method} {tree = tree} is {rows = rows} least some near
      made can) k i e =
      selected_has_kinds files near class method tree code.insns (rows_by (has_rows rows)) k i
      (ap (λ (x : NMethod). slice_get x.insns k) (sym made) ∙ e)

module _ (n : Naming) (files : Files) (ms : List LaidMethod) (made : AllAreMade n files ms) where
  pub all_written : AllWritable n ms
  all_written k m e = one_written n files m (made k m e)

  pub all_inside : AllStayInside ms
  all_inside k m e = one_inside n files m (made k m e)

  pub all_lie : HandlersLie ms
  all_lie k m e = one_lies n files m (made k m e)

  pub all_kinds : AllHaveKinds ms
  all_kinds k m e j i f = one_kind n files m (made k m e) j i f
