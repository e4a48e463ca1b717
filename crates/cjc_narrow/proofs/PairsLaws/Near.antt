-- A field instruction that closes a pair has an index of one byte.
use Rattle.std.proofs.Common.{◌≡◌, ℕ, zero, suc, ◌+◌, arith, refl, sym, ap, subst, ◌∙◌, Bool, true, false, List}
use Rattle.std.proofs.Common.{[], ◌∷◌}
use Rattle.std.specs.Prelude.{◌==◌, if◌then◌else◌, slice_get, Option, Some, None}
use Rattle.cjc_types.specs.ClassFile.declared.tree.Catch.{Catch}
use Rattle.cjc_types.specs.Bytecode.declared.insn.JInsn.{JInsn}
use Rattle.cjc_types.specs.Bytecode.declared.insn.JOp.{JOp}
use Rattle.cjc_types.specs.Bytecode.declared.insn.JOp.TheVariants as jop
use Rattle.cjc_ncode.specs.declared.narrow.PairRole.TheVariants.{Closes}
use Rattle.cjc_ncode.specs.Written.{Access, Resolution, accessed, reached}
use Rattle.cjc_narrow.specs.declared.select.pairs.PairKind.{PairKind}
use Rattle.cjc_narrow.specs.declared.select.pairs.PairKind.TheVariants.{Silent, This, Pushes, Gets, Puts, Other}
use Rattle.cjc_narrow.specs.declared.select.pairs.PairStep.{PairStep}
use Rattle.cjc_narrow.specs.Pairs.Fusible.{accesses}
use Rattle.cjc_narrow.specs.Pairs.Roles.{access_kind, first_role, is_joined, is_open, kind_if, role_in, role_of}
use Rattle.cjc_narrow.specs.Pairs.Roles.{roles_from}
use Rattle.cjc_narrow.specs.Pairs.Roles.{steps_from}
use Rattle.cjc_narrow.specs.Written.Operands.{IsAscending}
use Rattle.cjc_narrow.specs.Written.Rows.{has_rows}
use Rattle.cjc_narrow.proofs.PairsLaws.Roles.{apart, equal}
use Rattle.cjc_narrow.proofs.WrittenLaws.Order.{ascending_rest}

closes_accesses : (o : Bool) (kind : PairKind) (taken : Bool) → role_of o kind taken ≡ Closes → accesses kind ≡ true
closes_accesses o Gets taken e = refl
closes_accesses o Puts taken e = refl
closes_accesses false This true e = absurd cc
closes_accesses false This false e = absurd cc
closes_accesses false Silent taken e = absurd cc
closes_accesses false Pushes taken e = absurd cc
closes_accesses false Other taken e = absurd cc
closes_accesses true This taken e = absurd cc
closes_accesses true Silent taken e = absurd cc
closes_accesses true Pushes taken e = absurd cc
closes_accesses true Other taken e = absurd cc

near_of : (keeps : Bool) (r : Resolution) (op : JOp) (a : Access) → accessed op ≡ Some a
    → accesses (kind_if true keeps r op) ≡ true → r.is_near a.field ≡ true
near_of keeps r (jop.Field put f) a e h =
    let same : f ≡ a.field = cc in subst (λ g. r.is_near g ≡ true) same (by put (r.is_near f) h)
  where
    by : (put near : Bool) → accesses (access_kind put near) ≡ true → near ≡ true
    by put true h = refl
    by put false h = absurd cc
near_of keeps r op a e h = absurd cc

module _ {A : Type 0} where
  is_one : (insns : List JInsn) (rows : List (Option A)) (k : ℕ) (i : JInsn) → slice_get (reached insns rows) k ≡ Some i
      → (n : ℕ) × (slice_get insns n ≡ Some i)
  is_one [] rows k i e = absurd cc
  is_one (x ∷ insns) [] k i e = absurd cc
  is_one (x ∷ insns) (None ∷ rows) k i e = let h = is_one insns rows k i e in (suc h.0, h.1)
  is_one (x ∷ insns) (Some row ∷ rows) zero i e = (0, e)
  is_one (x ∷ insns) (Some row ∷ rows) (suc k) i e = let h = is_one insns rows k i e in (suc h.0, h.1)

  -- an instruction behind the first stands at another offset
  behind : (x : JInsn) (insns : List JInsn) (rows : List (Option A)) → IsAscending (x ∷ insns) → (k : ℕ) (i : JInsn)
      → slice_get (reached insns rows) k ≡ Some i → (x.at == i.at) ≡ false
  behind x insns rows up k i e =
      let there = is_one insns rows k i e in
      apart x.at i.at (up 0 (suc there.0) x i refl there.1 (omega arith))

module _ (keeps : Bool) (r : Resolution) (marks : List ℕ) (catches : List Catch) where
  abbrev step : Bool → (at before : ℕ) → JInsn → PairStep
  step is at before x = record { joined = is_joined marks catches at before x.at; kind = kind_if is keeps r x.op }

  module _ {A : Type 0} where
    abbrev steps : (at before : ℕ) → List JInsn → List (Option A) → List PairStep
    steps at before insns rows = steps_from keeps r marks catches at before insns (has_rows rows)

    pub closes_near : (o : Bool) (at before : ℕ) (insns : List JInsn) (rows : List (Option A)) → IsAscending insns
        → (k : ℕ) (i : JInsn) → slice_get (reached insns rows) k ≡ Some i
        → role_in insns (roles_from o (steps at before insns rows)) i.at ≡ Closes
        → (a : Access) → accessed i.op ≡ Some a → r.is_near a.field ≡ true
    closes_near o at before [] rows up k i e c a g = absurd cc
    closes_near o at before (x ∷ insns) [] up k i e c a g = absurd cc
    closes_near o at before (x ∷ insns) (None ∷ rows) up k i e c a g =
        let rest = steps (at + 1) x.at insns rows in
        let role = first_role o (step false at before x) rest in
        closes_near (is_open o role) (at + 1) x.at insns rows (ascending_rest x insns up) k i e
        (sym (ap (λ b. if b then role else role_in insns (roles_from (is_open o role) rest) i.at)
        (behind x insns rows up k i e)) ∙ c) a g
    closes_near o at before (x ∷ insns) (Some row ∷ rows) up zero i e c a g =
        let rest = steps (at + 1) x.at insns rows in
        let role = first_role o (step true at before x) rest in
        let same : x ≡ i = cc in
        let here : (x.at == i.at) ≡ true = ap (λ (y : JInsn). x.at == y.at) (sym same) ∙ equal x.at in
        near_of keeps r x.op a (ap (λ (y : JInsn). accessed y.op) same ∙ g)
        (closes_accesses o (kind_if true keeps r x.op) _
        (sym (ap (λ b. if b then role else role_in insns (roles_from (is_open o role) rest) i.at) here) ∙ c))
    closes_near o at before (x ∷ insns) (Some row ∷ rows) up (suc k) i e c a g =
        let rest = steps (at + 1) x.at insns rows in
        let role = first_role o (step true at before x) rest in
        closes_near (is_open o role) (at + 1) x.at insns rows (ascending_rest x insns up) k i e
        (sym (ap (λ b. if b then role else role_in insns (roles_from (is_open o role) rest) i.at)
        (behind x insns rows up k i e)) ∙ c) a g
