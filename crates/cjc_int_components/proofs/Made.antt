-- Methods that come to their code by their modes keep all that consistent code asks.
use Rattle.std.proofs.Common.{◌≡◌, ℕ, zero, suc, refl, sym, ap, subst, ◌∙◌, List, [], ◌∷◌, length}
use Rattle.std.specs.Prelude.{Option, Some, slice_get}
use Rattle.cjc_int_narrow.specs.Bytes.declared.fault.MemberId.{MemberId}
use Rattle.cjc_int_narrow.specs.ClassFile.Code.{CodeTree}
use Rattle.cjc_int_narrow.specs.ClassFile.declared.tree.ClassTree.{ClassTree}
use Rattle.cjc_int_narrow.specs.ClassFile.declared.tree.MethodTree.{MethodTree}
use Rattle.cjc_int_narrow.specs.World.Files.{Files}
use Rattle.cjc_int_narrow.specs.Bytecode.declared.method_code.MethodCode.{MethodCode}
use Rattle.cjc_check_proof.specs.Types.Flow.{body_of}
use Rattle.cjc_check_proof.specs.Types.declared.state.State.{State}
use Rattle.cjc_check_proof.specs.Intervals.Frames.{RangeState}
use Rattle.cjc_ncode.specs.IntCode.IntCode.{Reached}
use Rattle.cjc_ncode.specs.Lowering.Naming.{Naming}
use Rattle.cjc_ncode.specs.declared.narrow.NInsn.{NInsn}
use Rattle.cjc_ncode.specs.declared.narrow.NMethod.{NMethod}
use Rattle.cjc_int_narrow.specs.LowerNarrow.Rows.Resolved.{resolution}
use Rattle.cjc_check_proof.specs.Layout.Handlers.{AllLie}
use Rattle.cjc_check_proof.specs.Layout.Sizes.{AllLead}
use Rattle.cjc_check_proof.specs.LowerEmit.Emitted.{CanBeWritten, placed_at}
use Rattle.cjc_check_proof.specs.LowerComponents.Package.{LaidMethod}
use Rattle.cjc_check_proof.specs.Code.Caught.{HandlersLie}
use Rattle.cjc_check_proof.specs.Code.Ends.{AllStayInside, StaysInside, has_end, last_ends}
use Rattle.cjc_check_proof.specs.Code.Kinds.{AllHaveKinds, HasKind}
use Rattle.cjc_check_proof.specs.Code.Written.{AllWritable}
use Rattle.cjc_check_proof.specs.Made.{AllAreMade, IsMade}
use Rattle.cjc_check_proof.proofs.PromisesLaws.Made as Outside
use Rattle.cjc_int_narrow.specs.LowerIntMode.Written.{int_frame, places_from, reached_from, written_in_int_mode}
use Rattle.cjc_int_narrow.proofs.Stands.{int_code_whole}
use Rattle.cjc_int_components.specs.Made.{AllAreMadeByMode, IsMadeByMode, in_int_mode, in_short_mode}
use Rattle.cjc_int_selection.specs.Names.{NamesAsOneOf, as_one, no_name}
use Rattle.cjc_int_components.proofs.Ending.{int_code_ends}
use Rattle.cjc_int_components.proofs.KeyKinds.{named_kind, plain_kind}
use Rattle.cjc_int_selection.proofs.Naming.{all_named}

-- ---- the code of a method in int mode

one_kind : (files : Files) (near : List MemberId) (holder : List ℕ) (reached : List Reached) (i : NInsn)
    → NamesAsOneOf (resolution files near holder) reached i → HasKind i
one_kind files near holder reached i (no_name e) = plain_kind i e
one_kind files near holder reached i (as_one k j is h) = named_kind files near holder (let n = j.insn in n.op) i h

pub int_code_has_kinds : (files : Files) (near : List MemberId) (code : MethodCode) (class : ClassTree)
    (method : MethodTree) (tree : CodeTree) (rows : List (Option State)) (ranges : List (Option RangeState)) (k : ℕ)
    (i : NInsn) → (let m = written_in_int_mode (resolution files near class.name) tree (body_of class method tree
    code.insns) rows ranges in slice_get m.insns k ≡ Some i) → HasKind i
int_code_has_kinds files near code class method tree rows ranges k i e =
    let b = body_of class method tree code.insns in
    let kept = reached_from ranges 0 code.insns rows in
    one_kind files near class.name kept i (all_named (resolution files near class.name) (int_frame b) tree kept
    (places_from 0 code.insns rows) k i e)

-- ---- one method

-- the first of one
alone : (n : Naming) (files : Files) (m : LaidMethod) → IsMade n files m → AllAreMade n files (m ∷ [])
alone n files m made zero x e = let same : m ≡ x = cc in subst (IsMade n files) same made
alone n files m made (suc k) x e = absurd cc

module _ (n : Naming) (files : Files) (m : LaidMethod) where
  one_written : IsMadeByMode n files m → CanBeWritten n (placed_at 0 m.code m.wide)
  one_written (in_short_mode made) = Outside.all_written n files (m ∷ []) (alone n files m made) 0 m refl
  one_written (in_int_mode is least some near ranges made can) = can

  one_inside : IsMadeByMode n files m → StaysInside m
  one_inside (in_short_mode made) = Outside.all_inside n files (m ∷ []) (alone n files m made) 0 m refl
  one_inside (in_int_mode {code = code} {class = class} {method = method} {tree = tree} is {rows = rows} least some
      near ranges made can) =
      let r = resolution files near class.name in
      let whole = int_code_whole files code class method tree is rows least ranges r in
      record {
        leads = subst (λ (x : NMethod). AllLead (length x.insns) x.insns) (sym made) whole.leads;
        ends = has_end (ap (λ (x : NMethod). last_ends x.insns) made ∙ int_code_ends files code class method tree is
            rows least some ranges r);
      }

  one_lies : IsMadeByMode n files m → AllLie (length m.code.insns) m.code.catches
  one_lies (in_short_mode made) = Outside.all_lie n files (m ∷ []) (alone n files m made) 0 m refl
  one_lies (in_int_mode {code = code} {class = class} {method = method} {tree = tree} is {rows = rows} least some near
      ranges made can) =
      let r = resolution files near class.name in
      let whole = int_code_whole files code class method tree is rows least ranges r in
      subst (λ (x : NMethod). AllLie (length x.insns) x.catches) (sym made) whole.lies

  one_has_kinds : IsMadeByMode n files m → (k : ℕ) (i : NInsn) → slice_get m.code.insns k ≡ Some i → HasKind i
  one_has_kinds (in_short_mode made) k i e = Outside.all_kinds n files (m ∷ []) (alone n files m made) 0 m refl k i e
  one_has_kinds (in_int_mode {code = code} {class = class} {method = method} {tree = tree} is {rows = rows} least some
      near ranges made can) k i e =
      int_code_has_kinds files near code class method tree rows ranges k i
      (ap (λ (x : NMethod). slice_get x.insns k) (sym made) ∙ e)

-- ---- all methods

module _ (n : Naming) (files : Files) (ms : List LaidMethod) (made : AllAreMadeByMode n files ms) where
  pub all_written : AllWritable n ms
  all_written k m e = one_written n files m (made k m e)

  pub all_inside : AllStayInside ms
  all_inside k m e = one_inside n files m (made k m e)

  pub all_lie : HandlersLie ms
  all_lie k m e = one_lies n files m (made k m e)

  pub all_kinds : AllHaveKinds ms
  all_kinds k m e j i f = one_has_kinds n files m (made k m e) j i f
