-- Pairs are open only in methods that are not static and whose reached instructions store nothing into local 0.
use Rattle.std.proofs.Common.{◌≡◌, ℕ, zero, suc, ◌+◌, refl, sym, ap, subst, ◌∙◌, Bool, true, false, List, [], ◌∷◌, map}
use Rattle.std.proofs.Common.{slice_get, Option, Some, None}
use Rattle.std.specs.Prelude.{◌&&◌, ◌||◌, ◌==◌, not, is_some, if◌then◌else◌}
use Rattle.cjc_types.proofs.BytesBools.{not_true, or_left, or_right}
use Rattle.cjc_types.specs.Bytes.AccessFlags.{is_static}
use Rattle.cjc_types.specs.Bytecode.Jvm as jvm
use Rattle.cjc_types.specs.Bytecode.declared.insn.JInsn.{JInsn}
use Rattle.cjc_types.specs.Bytecode.declared.insn.JOp.{JOp}
use Rattle.cjc_types.specs.Bytecode.declared.insn.JOp.TheVariants as jop
use Rattle.cjc_types.specs.ClassFile.declared.tree.Catch.{Catch}
use Rattle.cjc_types.specs.Fixpoint.Tables.{HasRow}
use Rattle.cjc_types.specs.Flow.{Body}
use Rattle.cjc_types.specs.Marks.{marks_of}
use Rattle.cjc_types.specs.declared.state.State.{State}
use Rattle.cjc_check_proof.specs.NCode.Written.{Resolution}
use Rattle.cjc_narrow.specs.Pairs.Open.{Open, closed, open_at, open_behind}
use Rattle.cjc_narrow.specs.Pairs.Roles.{any_stores, is_taken, keeps_this, kind_if, kind_of, last_wait, steps_from}
use Rattle.cjc_narrow.specs.Pairs.Roles.{steps_of, stores_this}
use Rattle.cjc_narrow.specs.declared.select.pairs.PairKind.{PairKind}
use Rattle.cjc_narrow.specs.declared.select.pairs.PairKind.TheVariants.{Gets, Other, Pushes, Puts, Silent, This}
use Rattle.cjc_narrow.specs.declared.select.pairs.PairStep.{PairStep}
use Rattle.cjc_narrow.specs.declared.select.pairs.Wait.TheVariants.{Begins}

-- ---- nothing opens a pair where local 0 is not kept

no_this : (r : Resolution) (op : JOp) → kind_of false r op ≡ This → ⊥
no_this r jop.Nop e = absurd cc
no_this r jop.Null e = absurd cc
no_this r (jop.Number z) e = absurd cc
no_this r (jop.Narrow op) e = by (op == jvm.i2b) e
  where
    by : (b : Bool) → (if b then Other else Silent) ≡ This → ⊥
    by true f = absurd cc
    by false f = absurd cc
no_this r (jop.Load refs l) e = absurd cc
no_this r (jop.Static put f) e = by (not put && is_some (r.constant f)) e
  where
    by : (b : Bool) → (if b then Pushes else Other) ≡ This → ⊥
    by true g = absurd cc
    by false g = absurd cc
no_this r (jop.Field put f) e = by (r.is_near f) put e
  where
    by : (near put : Bool) → (if near then (if put then Puts else Gets) else Other) ≡ This → ⊥
    by true true g = absurd cc
    by true false g = absurd cc
    by false put g = absurd cc
no_this r op e = absurd cc

none_opens : (kind : PairKind) (taken : Bool) → (kind ≡ This → ⊥) → open_behind closed kind taken ≡ closed
none_opens This taken h = absurd (h refl)
none_opens Silent taken h = refl
none_opens Pushes taken h = refl
none_opens Gets taken h = refl
none_opens Puts taken h = refl
none_opens Other taken h = refl

never_this : (is : Bool) (r : Resolution) (op : JOp) → kind_if is false r op ≡ This → ⊥
never_this true r op e = no_this r op e
never_this false r op e = absurd cc

stays_closed : (r : Resolution) (marks : List ℕ) (catches : List Catch) (at before : ℕ) (insns : List JInsn)
    (flags : List Bool) (k : ℕ) → open_at closed (steps_from false r marks catches at before insns flags) k ≡ closed
stays_closed r marks catches at before insns flags zero = refl
stays_closed r marks catches at before [] flags (suc k) = refl
stays_closed r marks catches at before (i ∷ insns) [] (suc k) = refl
stays_closed r marks catches at before (i ∷ insns) (is ∷ flags) (suc k) =
    let rest = steps_from false r marks catches (at + 1) i.at insns flags in
    ap (λ (o : Open). open_at o rest k) (none_opens (kind_if is false r i.op) (is_taken (last_wait Begins rest))
    (never_this is r i.op)) ∙ stays_closed r marks catches (at + 1) i.at insns flags k

-- no pair is open anywhere
pub never_open : (r : Resolution) (b : Body) (flags : List Bool) → keeps_this b flags ≡ false → (k : ℕ)
    → open_at closed (steps_of r b flags) k ≡ closed
never_open r b flags e k = ap (λ (v : Bool). open_at closed (steps_from v r (marks_of b) b.catches 0 0 b.insns flags) k)
    e ∙ stays_closed r (marks_of b) b.catches 0 0 b.insns flags k

-- ---- where it is kept

pub kept_object : (b : Body) (flags : List Bool) → keeps_this b flags ≡ true → is_static b.flags ≡ false
kept_object b flags e = or_left (is_static b.flags) (any_stores b.insns flags) (not_true (is_static b.flags
    || any_stores b.insns flags) e)

none_stores : (insns : List JInsn) (rows : List (Option State)) → any_stores insns (map is_some rows) ≡ false → (at : ℕ)
    (i : JInsn) (x : State) → slice_get insns at ≡ Some i → HasRow rows at x → stores_this i.op ≡ false
none_stores [] rows e at i x there row = absurd cc
none_stores (j ∷ insns) [] e at i x there row = absurd cc
none_stores (j ∷ insns) (None ∷ rows) e zero i x there row = absurd cc
none_stores (j ∷ insns) (Some y ∷ rows) e zero i x there row =
    let same : j ≡ i = cc in
    ap (λ (z : JInsn). stores_this z.op) (sym same) ∙ or_left (stores_this j.op) (any_stores insns (map is_some rows)) e
none_stores (j ∷ insns) (None ∷ rows) e (suc at) i x there row = none_stores insns rows e at i x there row
none_stores (j ∷ insns) (Some y ∷ rows) e (suc at) i x there row = none_stores insns rows (or_right (stores_this j.op)
    (any_stores insns (map is_some rows)) e) at i x there row

pub kept_this : (b : Body) (rows : List (Option State)) → keeps_this b (map is_some rows) ≡ true → (at : ℕ) (i : JInsn)
    (x : State) → slice_get b.insns at ≡ Some i → HasRow rows at x → stores_this i.op ≡ false
kept_this b rows e = none_stores b.insns rows (or_right (is_static b.flags) (any_stores b.insns (map is_some rows))
    (not_true (is_static b.flags || any_stores b.insns (map is_some rows)) e))
