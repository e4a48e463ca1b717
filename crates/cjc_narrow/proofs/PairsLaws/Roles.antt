-- The roles of a method, by place and by offset, and what is written by them.
use Rattle.std.proofs.Common.{◌≡◌, ℕ, zero, suc, ◌+◌, ◌<◌, arith, refl, sym, ap, subst, ◌∙◌, Bool, true, false, List}
use Rattle.std.proofs.Common.{[], ◌∷◌}
use Rattle.std.proofs.Common.{◌++◌, length, get_or}
use Rattle.std.specs.Prelude.{◌==◌, if◌then◌else◌, Option, Some, None, ℤ, replicate}
use Rattle.std.proofs.lemmas.Option.{slice_get-get_or}
use Rattle.std.proofs.lemmas.List.Concat.{flat_map-cons}
use Rattle.std.specs.List.{flat_map}
use Rattle.cjc_types.specs.ClassFile.declared.tree.Catch.{Catch}
use Rattle.cjc_types.specs.Bytes.declared.fault.MemberId.{MemberId}
use Rattle.cjc_types.specs.Bytecode.declared.insn.JInsn.{JInsn}
use Rattle.cjc_types.specs.Bytecode.declared.insn.JOp.{JOp}
use Rattle.cjc_types.specs.Bytecode.declared.insn.JOp.TheVariants as jop
use Rattle.cjc_ncode.specs.declared.narrow.PairRole.{PairRole}
use Rattle.cjc_ncode.specs.declared.narrow.PairRole.TheVariants.{Alone, Opens, Closes}
use Rattle.cjc_ncode.specs.Written.{Access, Resolution, accessed, is_load, on_this, reached, sources, static_by}
use Rattle.cjc_ncode.specs.Written.{written}
use Rattle.cjc_ncode.specs.Written.{written_as, written_for}
use Rattle.cjc_narrow.specs.declared.select.pairs.PairStep.{PairStep}
use Rattle.cjc_types.specs.Fixpoint.Kept.{IsAscending as MarksAscend}
use Rattle.cjc_types.specs.Flow.{Body}
use Rattle.cjc_types.specs.Marks.{marks_of}
use Rattle.cjc_types.specs.Working.MarkLaws.{marks_are}
use Rattle.cjc_narrow.specs.Written.Operands.{IsAscending}
use Rattle.cjc_narrow.specs.Written.Rows.{rows_by}
use Rattle.cjc_narrow.specs.Pairs.Roles.{AreRoles, first_role, is_open, role_in, roles_from, roles_of, steps_from}
use Rattle.cjc_narrow.specs.Pairs.Roles.{keeps_this, steps_of, with_roles}
use Rattle.cjc_narrow.specs.Select.Working.Code.{code_by, source_if, sources_by, written_if}

-- ---- by place and by offset

pub equal : (n : ℕ) → (n == n) ≡ true
equal n = grind arith

pub apart : (m n : ℕ) → m < n → (m == n) ≡ false
apart m n lt = grind arith

pub are_roles : (r : Resolution) (insns : List JInsn) (roles : List PairRole) → IsAscending insns
    → length roles ≡ length insns → AreRoles (with_roles r insns roles) insns roles
are_roles r insns roles ascending same k d e lt = sym (found insns roles ascending same k lt)
  where
    found : (insns : List JInsn) (roles : List PairRole) → IsAscending insns → length roles ≡ length insns → (k : ℕ)
        → k < length insns → role_in insns roles ((get_or insns k d).at) ≡ get_or roles k e
    found [] roles ascending same k lt = absurd (omega arith)
    found (i ∷ insns) [] ascending same k lt = cc
    found (i ∷ insns) (role ∷ roles) ascending same zero lt =
        ap (λ b. if b then role else role_in insns roles i.at) (equal i.at)
    found (i ∷ insns) (role ∷ roles) ascending same (suc k) lt =
        let within : k < length insns = omega arith in
        let up : i.at < (get_or insns k d).at = ascending 0 (suc k) i (get_or insns k d) refl
        (slice_get-get_or insns k d within) (omega arith) in
        ap (λ b. if b then role else role_in insns roles ((get_or insns k d).at)) (apart i.at
        ((get_or insns k d).at) up)
        ∙ found insns roles (λ j n x y is_x is_y less. ascending (suc j) (suc n) x y is_x is_y (omega arith))
        (let s : length roles ≡ length insns = omega arith in s) k within

-- ---- marks

pub marks_ascend : (marks : List ℕ) (b : Body) → marks ≡ marks_of b → MarksAscend marks
marks_ascend marks b e = subst (λ (ms : List ℕ). MarksAscend ms) (sym e) ((marks_are b).ascending)

-- ---- as many as instructions

pub steps_long : (keeps : Bool) (r : Resolution) (marks : List ℕ) (catches : List Catch) (at before : ℕ)
    (insns : List JInsn) (flags : List Bool) → length flags ≡ length insns
    → length (steps_from keeps r marks catches at before insns flags) ≡ length insns
steps_long keeps r marks catches at before [] flags same = refl
steps_long keeps r marks catches at before (i ∷ insns) [] same = cc
steps_long keeps r marks catches at before (i ∷ insns) (is ∷ flags) same =
    ap suc (steps_long keeps r marks catches (at + 1) i.at insns flags (omega arith))

pub roles_long : (opened : Bool) (steps : List PairStep) → length (roles_from opened steps) ≡ length steps
roles_long opened [] = refl
roles_long opened (s ∷ steps) = ap suc (roles_long (is_open opened (first_role opened s steps)) steps)

pub roles_each : (r : Resolution) (b : Body) (flags : List Bool) → length flags ≡ length b.insns
    → length (roles_of r b flags) ≡ length b.insns
roles_each r b flags same = roles_long false (steps_of r b flags)
    ∙ steps_long (keeps_this b flags) r _ b.catches 0 0 b.insns flags same

-- ---- what is written doesn't depend on the roles of others

module _ (r : Resolution) (role_at : ℕ → PairRole) where
  q : Resolution
  q = record r { role = role_at }

  static_same : (put : Bool) (f : MemberId) (constant : Option ℤ) → static_by q put f constant
      ≡ static_by r put f constant
  unfolding q
  static_same put f (Some z) = refl
  static_same put f None = refl

  written_same : (place : ℕ → ℕ) (op : JOp) → written q place op ≡ written r place op
  unfolding q
  written_same place jop.Nop = refl
  written_same place jop.Null = refl
  written_same place (jop.Number z) = refl
  written_same place (jop.Load false l) = refl
  written_same place (jop.Load true l) = refl
  written_same place (jop.Store false l) = refl
  written_same place (jop.Store true l) = refl
  written_same place (jop.ArrayLoad op) = refl
  written_same place (jop.ArrayStore op) = refl
  written_same place (jop.Stack op) = refl
  written_same place (jop.Arith op) = refl
  written_same place (jop.Inc l by) = refl
  written_same place (jop.Narrow op) = refl
  written_same place (jop.If op target) = refl
  written_same place (jop.Goto target) = refl
  written_same place (jop.TableSwitch other low targets) = refl
  written_same place (jop.LookupSwitch other cases) = refl
  written_same place (jop.Return op) = refl
  written_same place (jop.Static put f) = static_same put f (r.constant f)
  written_same place (jop.Field put f) = refl
  written_same place (jop.Call op m) = refl
  written_same place (jop.New class) = refl
  written_same place (jop.NewArray kind) = refl
  written_same place (jop.ANewArray class) = refl
  written_same place jop.ArrayLength = refl
  written_same place jop.Throw = refl
  written_same place (jop.CheckCast class) = refl
  written_same place (jop.InstanceOf class) = refl

  pub written_as_same : (role : PairRole) (place : ℕ → ℕ) (op : JOp)
      → written_as role (record r { role = role_at }) place op ≡ written_as role r place op
  unfolding q
  written_as_same Alone place op = written_same place op
  written_as_same Opens place op = ap (λ xs. if is_load op then [] else xs) (written_same place op)
  written_as_same Closes place op = by (accessed op)
    where
      by : (found : Option Access) → on_this q place op found ≡ on_this r place op found
      by None = written_same place op
      by (Some a) = refl

  -- ---- the code

  pub code_same : (place : ℕ → ℕ) (insns : List JInsn) (flags : List Bool) (roles : List PairRole)
      → length flags ≡ length insns → length roles ≡ length insns → AreRoles (record r { role = role_at }) insns roles
      → code_by r place insns flags roles
      ≡ flat_map (written_for (record r { role = role_at }) place) (reached insns (rows_by flags))
  unfolding q
  code_same place [] flags roles same alike are = refl
  code_same place (i ∷ insns) [] roles same alike are = cc
  code_same place (i ∷ insns) (is ∷ flags) [] same alike are = cc
  code_same place (i ∷ insns) (is ∷ flags) (role ∷ roles) same alike are =
      by is (code_same place insns flags roles (omega arith) (omega arith) (λ k d e lt. are (suc k) d e (omega arith)))
    where
      by : (is : Bool) → code_by r place insns flags roles
          ≡ flat_map (written_for (record r { role = role_at }) place) (reached insns (rows_by flags))
          → written_if is role r place i.op ++ code_by r place insns flags roles
          ≡ flat_map (written_for (record r { role = role_at }) place) (reached (i ∷ insns) (rows_by (is ∷ flags)))
      by false rest = rest
      by true rest =
          ap (λ more. written_as role r place i.op ++ more) rest
          ∙ ap (λ xs. xs ++ flat_map (written_for (record r { role = role_at }) place) (reached insns (rows_by flags)))
          (sym (written_as_same role place i.op) ∙ ap (λ x. written_as x (record r { role = role_at }) place i.op)
          (are 0 i role (omega arith)))
          ∙ sym (flat_map-cons (written_for (record r { role = role_at }) place) i (reached insns (rows_by flags)))

  pub sources_same : (k : ℕ) (insns : List JInsn) (flags : List Bool) (roles : List PairRole)
      → length flags ≡ length insns → length roles ≡ length insns → AreRoles (record r { role = role_at }) insns roles
      → sources_by r k insns flags roles ≡ sources (record r { role = role_at }) k insns (rows_by flags)
  unfolding q
  sources_same k [] flags roles same alike are = refl
  sources_same k (i ∷ insns) [] roles same alike are = cc
  sources_same k (i ∷ insns) (is ∷ flags) [] same alike are = cc
  sources_same k (i ∷ insns) (is ∷ flags) (role ∷ roles) same alike are =
      by is (sources_same (k + 1) insns flags roles (omega arith) (omega arith) (λ k d e lt. are (suc k) d e
      (omega arith)))
    where
      by : (is : Bool) → sources_by r (k + 1) insns flags roles
          ≡ sources (record r { role = role_at }) (k + 1) insns (rows_by flags)
          → source_if is role r k i.op ++ sources_by r (k + 1) insns flags roles
          ≡ sources (record r { role = role_at }) k (i ∷ insns) (rows_by (is ∷ flags))
      by false rest = rest
      by true rest =
          ap (λ more. replicate (length (written_as role r (λ o. 0) i.op)) k ++ more) rest
          ∙ ap (λ xs. replicate (length xs) k ++ sources (record r { role = role_at }) (k + 1) insns (rows_by flags))
          (sym (written_as_same role (λ o. 0) i.op) ∙ ap (λ x. written_as x (record r { role = role_at }) (λ o. 0) i.op)
          (are 0 i role (omega arith)))
