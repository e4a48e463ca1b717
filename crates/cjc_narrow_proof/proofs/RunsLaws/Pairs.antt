-- The instructions of a method stand in pairs as they are written: by the roles that are found for them.
use Rattle.std.proofs.Common.{◌≡◌, ℕ, zero, suc, ◌+◌, ◌<◌, refl, sym, ap, subst, ◌∙◌, arith, Bool, true, false}
use Rattle.std.proofs.Common.{◌&&◌}
use Rattle.std.proofs.Common.{List, [], ◌∷◌, length, get_or, drop, slice_get, Option, Some, None}
use Rattle.std.specs.Prelude.{◌==◌, if◌then◌else◌, is_some}
use Rattle.std.specs.List.{list_any}
use Rattle.std.proofs.lemmas.Bool.{eqb-true}
use Rattle.std.proofs.lemmas.Option.{get_or_from_slice_get}
use Rattle.cjc_bytes.specs.declared.fault.MemberId.{MemberId}
use Rattle.cjc_bytes.proofs.Bools.{not_true, or_left}
use Rattle.cjc_bytes.proofs.Gets.{get_below}
use Rattle.cjc_code.specs.ClassFile.declared.tree.Catch.{Catch}
use Rattle.cjc_code.specs.Jvm as jvm
use Rattle.cjc_code.specs.declared.insn.JInsn.{JInsn}
use Rattle.cjc_code.specs.declared.insn.JOp.{JOp}
use Rattle.cjc_code.specs.declared.insn.JOp.TheVariants as jop
use Rattle.cjc_types.specs.Fixpoint.Kept.{mark_of}
use Rattle.cjc_types.specs.Fixpoint.Tables.{HasRow}
use Rattle.cjc_types.specs.Flow.{Body, place_at}
use Rattle.cjc_types.specs.Marks.{is_marked, marks_of}
use Rattle.cjc_types.specs.Steps.{targets}
use Rattle.cjc_types.specs.Working.MarkLaws.{handles_marked, jump_marked, mark_none}
use Rattle.cjc_types.specs.declared.state.State.{State}
use Rattle.cjc_types.proofs.Typed.{contains_kept}
use Rattle.cjc_ncode.specs.declared.narrow.PairRole.{PairRole}
use Rattle.cjc_ncode.specs.declared.narrow.PairRole.TheVariants.{Alone, Opens, Closes}
use Rattle.cjc_ncode.specs.Written.{Resolution}
use Rattle.cjc_narrow.specs.declared.select.pairs.PairKind.{PairKind}
use Rattle.cjc_narrow.specs.declared.select.pairs.PairKind.TheVariants.{Silent, This, Pushes, Gets, Puts, Other}
use Rattle.cjc_narrow.specs.declared.select.pairs.PairStep.{PairStep}
use Rattle.cjc_narrow.specs.declared.select.pairs.Wait.TheVariants.{Begins}
use Rattle.cjc_narrow.specs.Pairs.Open.{IsPaired, Open, begun, closed, gets, is_alone, is_opened, open_at}
use Rattle.cjc_narrow.specs.Pairs.Open.{opens, pushed, pushes, pushes_this, puts, silent_begun, silent_pushed}
use Rattle.cjc_narrow.specs.Pairs.Roles.{differs, is_joined, is_taken, keeps_this, kind_if, kind_of, last_wait, role_in}
use Rattle.cjc_narrow.specs.Pairs.Roles.{role_of, roles_of, steps_from, steps_of, with_pairs, with_roles}
use Rattle.cjc_narrow.specs.Written.Rows.{has_rows}
use Rattle.cjc_narrow.proofs.PairsLaws.Open.{paired, stands_in}
use Rattle.cjc_narrow.proofs.PairsLaws.Roles.{are_roles, roles_each}
use Rattle.cjc_narrow_proof.specs.Tables.Analysis.{Ascend}
use Rattle.cjc_narrow_proof.specs.Tables.Pairs.{AreInPairs, IsInPair, IsPushed, IsSilent, a_constant, a_local, a_narrow}
use Rattle.cjc_narrow_proof.specs.Tables.Pairs.{a_nop, a_null, a_number, goes_on, stands_alone}
use Rattle.cjc_narrow_proof.specs.Tables.Pairs as spec

-- ---- by the kind of an instruction

-- what an instruction of a kind is
abbrev Told : Resolution → JOp → PairKind → Type 0
Told r op Silent = IsSilent op
Told r op This = op ≡ jop.Load true 0
Told r op Pushes = IsPushed r op
Told r op Gets = (f : MemberId) × (op ≡ jop.Field false f)
Told r op Puts = (f : MemberId) × (op ≡ jop.Field true f)
Told r op Other = Unit {0}

told : (keeps : Bool) (r : Resolution) (op : JOp) → Told r op (kind_of keeps r op)
told keeps r jop.Nop = a_nop
told keeps r jop.Null = a_null
told keeps r (jop.Number z) = a_number
told keeps r (jop.Narrow op) = by (op == jvm.i2b) refl
  where
    by : (b : Bool) → (op == jvm.i2b) ≡ b → Told r (jop.Narrow op) (if b then Other else Silent)
    by true e = tt
    by false e = a_narrow e
told keeps r (jop.Load refs l) = by keeps refs (l == 0) refl
  where
    by : (keeps refs first : Bool) → (l == 0) ≡ first
        → Told r (jop.Load refs l) (if keeps && (refs && first) then This else Pushes)
    by true true true e = ap (jop.Load true) (eqb-true l 0 e)
    by true true false e = a_local
    by true false first e = a_local
    by false refs first e = a_local
told keeps r (jop.Static true f) = tt
told keeps r (jop.Static false f) = by (r.constant f) refl
  where
    by : (o : Option _) → r.constant f ≡ o → Told r (jop.Static false f) (if true && is_some o then Pushes else Other)
    by None e = tt
    by (Some z) e = a_constant e
told keeps r (jop.Field put f) = by put (r.is_near f)
  where
    by : (put near : Bool) → Told r (jop.Field put f) (if near then (if put then Puts else Gets) else Other)
    by true true = (f, refl)
    by false true = (f, refl)
    by put false = tt
told keeps r op = tt

in_pair : (r : Resolution) (op : JOp) {o p : Open} {joined : Bool} {kind : PairKind} {role : PairRole} → Told r op kind
    → IsPaired o joined kind role p → IsInPair r o op role p
in_pair r op t is_alone = stands_alone
in_pair r op t opens = subst (λ op. IsInPair r closed op Opens begun) (sym t) spec.opens
in_pair r op t silent_begun = goes_on refl t
in_pair r op t silent_pushed = goes_on refl t
in_pair r op t pushes_this = spec.pushes (subst (IsPushed r) (sym t) a_local)
in_pair r op t pushes = spec.pushes t
in_pair r op t gets = subst (λ op. IsInPair r begun op Closes closed) (sym t.1) spec.gets
in_pair r op t puts = subst (λ op. IsInPair r pushed op Closes closed) (sym t.1) spec.puts

-- ---- the step of an instruction

-- that of the instruction at a place, behind one at some offset
pub record IsStep (keeps : Bool) (r : Resolution) (marks : List ℕ) (catches : List Catch) (at : ℕ) (i : JInsn)
    (is : Bool)
    (s : PairStep) : Type 0 where
  pub before : ℕ
  pub joined : s.joined ≡ is_joined marks catches at before i.at
  pub kind : s.kind ≡ kind_if is keeps r i.op

step_at : (keeps : Bool) (r : Resolution) (marks : List ℕ) (catches : List Catch) (at before : ℕ) (insns : List JInsn)
    (flags : List Bool) (k : ℕ) (i : JInsn) (is : Bool) → slice_get insns k ≡ Some i → slice_get flags k ≡ Some is
    → (s : PairStep) × (slice_get (steps_from keeps r marks catches at before insns flags) k ≡ Some s)
    × IsStep keeps r marks catches (at + k) i is s
step_at keeps r marks catches at before [] flags k i is e f = absurd cc
step_at keeps r marks catches at before (x ∷ insns) [] k i is e f = absurd cc
step_at keeps r marks catches at before (x ∷ insns) (y ∷ flags) zero i is e f =
    let same : x ≡ i = cc in
    let flag : y ≡ is = cc in
    let first : at ≡ at + 0 = omega arith in (
      record { joined = is_joined marks catches at before x.at; kind = kind_if y keeps r x.op },
      refl,
      record {
        before = before;
        joined = ap (λ (j : JInsn). is_joined marks catches at before j.at) same
            ∙ ap (λ n. is_joined marks catches n before i.at) first;
        kind = ap (λ (j : JInsn). kind_if y keeps r j.op) same ∙ ap (λ b. kind_if b keeps r i.op) flag;
      },
    )
step_at keeps r marks catches at before (x ∷ insns) (y ∷ flags) (suc k) i is e f =
    let rest = step_at keeps r marks catches (at + 1) x.at insns flags k i is e f in
    let next : at + 1 + k ≡ at + suc k = omega arith in
    (rest.0, rest.1, subst (λ n. IsStep keeps r marks catches n i is rest.0) next rest.2)

-- a row that is there
row_there : {A : Type 0} (rows : List (Option A)) (k : ℕ) (row : A) → slice_get rows k ≡ Some (Some row)
    → slice_get (has_rows rows) k ≡ Some true
row_there [] k row e = absurd cc
row_there (None ∷ rows) zero row e = absurd cc
row_there (Some x ∷ rows) zero row e = refl
row_there (x ∷ rows) (suc k) row e = row_there rows k row e

flag_there : {A : Type 0} (rows : List (Option A)) (k : ℕ) → k < length rows → (is : Bool)
    × (slice_get (has_rows rows) k ≡ Some is)
flag_there [] k lt = absurd (omega (arith, lt))
flag_there (x ∷ rows) zero lt = (is_some x, refl)
flag_there (x ∷ rows) (suc k) lt = flag_there rows k (omega (arith, lt))

rows_long : {A : Type 0} (rows : List (Option A)) → length (has_rows rows) ≡ length rows
rows_long [] = refl
rows_long (x ∷ rows) = ap suc (rows_long rows)

-- ---- a method

module _ (r : Resolution) (b : Body) (types : List (Option State)) (up : Ascend b.insns)
    (sized : length types ≡ length b.insns) where
  abbrev steps : List PairStep
  steps = steps_of r b (has_rows types)

  abbrev roles : List PairRole
  roles = roles_of r b (has_rows types)

  long : length (has_rows types) ≡ length b.insns
  long = rows_long types ∙ sized

  -- the role by the offset is that by the place
  role_at : (at : ℕ) (i : JInsn) → slice_get b.insns at ≡ Some i → (role : PairRole) → slice_get roles at ≡ Some role
      → role_in b.insns roles i.at ≡ role
  role_at at i there role is =
      let lt = get_below b.insns at i there in
      let same : get_or b.insns at i ≡ i = get_or_from_slice_get b.insns at i i there in
      ap (λ (j : JInsn). role_in b.insns roles j.at) (sym same)
      ∙ sym (are_roles r b.insns roles up (roles_each r b (has_rows types) long) at i Alone lt)
      ∙ get_or_from_slice_get roles at role Alone is

  -- no jump and no handler leads into a pair
  never_inside : (to : ℕ) (i : JInsn) → slice_get b.insns to ≡ Some i → is_marked b to ≡ true
      → open_at closed steps to ≡ closed
  never_inside to i there marked =
      let lt = get_below b.insns to i there in
      let flag = flag_there types to (omega (arith, lt, sized)) in
      let s = step_at (keeps_this b (has_rows types)) r (marks_of b) b.catches 0 0 b.insns (has_rows types) to i flag.0
      there flag.1 in
      let stands = stands_in closed steps tt to s.0 s.1 in
      let p = paired (open_at closed steps to) s.0 (drop (suc to) steps) stands.held in
      by p.0 s.2
    where
      free : (joined : Bool) (before : ℕ) → joined ≡ is_joined (marks_of b) b.catches (0 + to) before i.at
          → joined ≡ true → ⊥
      free joined before e is =
          let here : 0 + to ≡ to = omega arith in
          let none : is_some (mark_of (marks_of b) to) ≡ false = ap (λ n. is_some (mark_of (marks_of b) n)) (sym here)
          ∙ or_left (is_some (mark_of (marks_of b) (0 + to))) (list_any (λ c. differs c before i.at) b.catches)
          (not_true _ (sym e ∙ is)) in
          let lt = get_below b.insns to i there in
          let clash = mark_none b to (λ z. omega (arith, lt, z)) (no_mark (mark_of (marks_of b) to) none) in absurd cc
        where
          no_mark : (o : Option ℕ) → is_some o ≡ false → o ≡ None
          no_mark None e = refl
          no_mark (Some n) e = absurd cc

      by : {o p : Open} {s : PairStep} {role : PairRole} {is : Bool} → IsPaired o s.joined s.kind role p
          → IsStep (keeps_this b (has_rows types)) r (marks_of b) b.catches (0 + to) i is s → o ≡ closed
      by {o = o} {s = s} pair step = go s.joined step.joined pair
        where
          go : {o p : Open} (joined : Bool) {kind : PairKind} {role : PairRole}
              → joined ≡ is_joined (marks_of b) b.catches (0 + to) step.before i.at → IsPaired o joined kind role p
              → o ≡ closed
          go joined e is_alone = refl
          go joined e opens = refl
          go _ e silent_begun = absurd (free true step.before e refl)
          go _ e silent_pushed = absurd (free true step.before e refl)
          go _ e pushes_this = absurd (free true step.before e refl)
          go _ e pushes = absurd (free true step.before e refl)
          go _ e gets = absurd (free true step.before e refl)
          go _ e puts = absurd (free true step.before e refl)

  each : (at : ℕ) (i : JInsn) (t : State) → slice_get b.insns at ≡ Some i → HasRow types at t
      → IsInPair (with_pairs r b (has_rows types)) (open_at closed steps at) i.op
      (let q = with_pairs r b (has_rows types) in q.role i.at) (open_at closed steps (suc at))
  unfolding with_pairs
  each at i t there row =
      let s = step_at (keeps_this b (has_rows types)) r (marks_of b) b.catches 0 0 b.insns (has_rows types) at i true
      there (row_there types at t row) in
      let stands = stands_in closed steps tt at s.0 s.1 in
      let o = open_at closed steps at in
      let taken = is_taken (last_wait Begins (drop (suc at) steps)) in
      let p = (paired o s.0 (drop (suc at) steps) stands.held).0 in
      let role = role_at at i there (role_of (is_opened o) s.0.kind taken) stands.role in
      let is_told : Told (with_roles r b.insns roles) i.op s.0.kind = subst (Told (with_roles r b.insns roles) i.op)
      (sym s.2.kind) (told (keeps_this b (has_rows types)) (with_roles r b.insns roles) i.op) in
      subst (λ role. IsInPair (with_roles r b.insns roles) o i.op role (open_at closed steps (suc at))) (sym role)
      (subst (IsInPair (with_roles r b.insns roles) o i.op (role_of (is_opened o) s.0.kind taken)) (sym stands.behind)
      (in_pair (with_roles r b.insns roles) i.op is_told p))

  pub are_in_pairs : AreInPairs (with_pairs r b (has_rows types)) b types (open_at closed steps)
  are_in_pairs = record {
    each = each;
    first = refl;
    targets = λ at i offset to there among stands. never_inside to stands.insn stands.is_insn
        (jump_marked b at i to there (contains_kept (place_at b.insns) (targets i.op) offset to among
        stands.found)).marked;
    handlers = λ c to among stands. never_inside to stands.insn stands.is_insn
        (handles_marked b c to among stands.found).marked;
  }
