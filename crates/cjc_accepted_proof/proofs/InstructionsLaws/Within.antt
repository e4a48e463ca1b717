-- Rows of reached instructions in pairs that are written as one: the aload_0 that is left out, what stands behind it,
-- and the field instruction that takes the object of local 0.
use Rattle.std.proofs.Common.{◌≡◌, ◌⊎◌, ℕ, suc, ◌+◌, ◌<◌, refl, sym, ap, subst, ◌∙◌, arith, Bool, true, false, inl, inr}
use Rattle.std.proofs.Common.{List, [], ◌∷◌, slice_get, Option, Some, None, Contains}
use Rattle.std.specs.Prelude.{◌&&◌, ◌||◌, not, nat_le, nat_lt, if◌then◌else◌, ℤ}
use Rattle.std.specs.List.{list_all}
use Rattle.cjc_types.proofs.BytesBools.{not_false, or_left, or_right, true_or_false}
use Rattle.cjc_types.proofs.Greater.{member_passes}
use Rattle.cjc_types.specs.Bytes.declared.fault.MemberId.{MemberId}
use Rattle.cjc_types.specs.Bytecode.declared.insn.JInsn.{JInsn}
use Rattle.cjc_types.specs.Bytecode.declared.insn.JOp.{JOp}
use Rattle.cjc_types.specs.Bytecode.declared.insn.JOp.TheVariants as jop
use Rattle.cjc_types.specs.Cells.{IsCellBelow}
use Rattle.cjc_types.specs.Fixpoint.Tables.{HasRow}
use Rattle.cjc_types.specs.Flow.{Body}
use Rattle.cjc_types.specs.Names.{In}
use Rattle.cjc_types.specs.Range.Words.{low_word}
use Rattle.cjc_types.specs.Rules.{accepts, all_types, has_wrong, has_wrong_local, is_off, is_wrong, is_wrong_return}
use Rattle.cjc_types.specs.Rules as broken
use Rattle.cjc_types.specs.States.{states}
use Rattle.cjc_types.specs.Steps.{after, gives, goes_on, operand, stack_behind, takes}
use Rattle.cjc_types.specs.Types.{as_reference, parts, result_of}
use Rattle.cjc_types.specs.World.Classes.{Class}
use Rattle.cjc_types.specs.World.Subtype.{is_subtype}
use Rattle.cjc_types.specs.Tables.{Breach}
use Rattle.cjc_types.specs.declared.cell.Cell.{Cell}
use Rattle.cjc_types.specs.declared.cell.Cell.TheVariants.{Number, Refs, Unusable}
use Rattle.cjc_types.specs.declared.state.Stack.{Stack}
use Rattle.cjc_types.specs.declared.state.Stack.TheVariants.{Cells, Clash}
use Rattle.cjc_types.specs.declared.state.State.{State}
use Rattle.cjc_check_proof.specs.NCode.Lowering.Naming.{Naming}
use Rattle.cjc_check_proof.specs.NCode.Written.{Resolution, accessed, on_this, place_in, pushed_word, reached}
use Rattle.cjc_check_proof.specs.NCode.Written.{static_by}
use Rattle.cjc_check_proof.specs.NCode.Written.{this_access, written, written_as, written_for, written_open}
use Rattle.cjc_check_proof.specs.NCode.declared.narrow.NInsn.{NInsn}
use Rattle.cjc_check_proof.specs.NCode.declared.narrow.NInsn.TheVariants.{Local, Named, Op}
use Rattle.cjc_check_proof.specs.NCode.declared.narrow.PairRole.{PairRole}
use Rattle.cjc_check_proof.specs.NCode.declared.narrow.PairRole.TheVariants.{Alone, Closes, Opens}
use Rattle.cjc_check_proof.specs.NCode.declared.narrow.PoolKey.{PoolKey}
use Rattle.cjc_check_proof.specs.NCode.declared.narrow.PoolKey.TheVariants as keys
use Rattle.cjc_check_proof.specs.NarrowProof.Tables.Pairs.{AreInPairs, IsInPair, IsPushed, IsSilent, a_constant}
use Rattle.cjc_check_proof.specs.NarrowProof.Tables.Pairs.{a_local, a_narrow, a_nop, a_null, a_number, gets, opens}
use Rattle.cjc_check_proof.specs.NarrowProof.Tables.Pairs.{pushes, puts, stands_alone}
use Rattle.cjc_check_proof.specs.NarrowProof.Tables.Pairs as in_pair
use Rattle.cjc_verify.specs.CardActs.CardTypes.{MemberType, ValueType}
use Rattle.cjc_verify.specs.CardActs.Rows.{loading, pushing, row}
use Rattle.cjc_verify.specs.CardSemantics.Bytecode.Effects as letters
use Rattle.cjc_verify.specs.CardSemantics.Bytecode.Meanings.{Gets, Puts, Use}
use Rattle.cjc_verify.specs.ClassTypes.{class_type}
use Rattle.cjc_verify.specs.Instructions.{getting, putting, using_some}
use Rattle.cjc_verify.specs.Named.{entry_of, entry_type}
use Rattle.cjc_verify.specs.Narrow.Pairs.Open.{Open, begun, closed, pushed}
use Rattle.cjc_verify.specs.Pairs.{Pair}
use Rattle.cjc_verify.specs.Script.Sorts.{Boolean, Byte, Int, NoValue, Reference, Short, Sort, field_sort}
use Rattle.cjc_frames.specs.Acts.{Subtype, given}
use Rattle.cjc_frames.specs.declared.acts.Act.{Act}
use Rattle.cjc_frames.specs.declared.acts.Given.{Given}
use Rattle.cjc_frames.specs.declared.acts.Given.TheVariants.{ANull, ANumber}
use Rattle.cjc_frames.specs.declared.acts.Given.TheVariants as given_words
use Rattle.cjc_frames.specs.declared.acts.Step.{Step}
use Rattle.cjc_accepted_proof.specs.Coded.{step_laid}
use Rattle.cjc_accepted_proof.specs.Frames.{Mirrors, Stands, card_cell, card_cells, card_state}
use Rattle.cjc_accepted_proof.specs.Methods.{RowStands}
use Rattle.cjc_accepted_proof.specs.Plain.{act_laid, letter_moving}
use Rattle.cjc_accepted_proof.specs.Served.{FieldServed, IsServed, IsServedIn, letter_of}
use Rattle.cjc_accepted_proof.specs.Served as serves
use Rattle.cjc_accepted_proof.proofs.InstructionsLaws.Acts as acts
use Rattle.cjc_accepted_proof.proofs.InstructionsLaws.Alone.{row_of_none, row_of_one}
use Rattle.cjc_accepted_proof.proofs.InstructionsLaws.Inside.{closing_write_mirrors, opening_below, pushing_inside}
use Rattle.cjc_accepted_proof.proofs.InstructionsLaws.Inside.{silent_below}
use Rattle.cjc_accepted_proof.proofs.InstructionsLaws.Members.{constant_mirrors}
use Rattle.cjc_accepted_proof.proofs.InstructionsLaws.Plain.{load_mirrors, null_mirrors, number_mirrors}
use Rattle.cjc_accepted_proof.proofs.PairsLaws.{closing_mirrors, pair_row_stands}
use Rattle.cjc_accepted_proof.proofs.ThisLaws.{may_hold, name_in, out_holds}

-- ---- field instructions that take the object of local 0

module _ (p : Pair) (result : ValueType) (n : Naming) (to : ℕ → ℕ) (at : ℕ) (wide : Bool) where
  abbrev acted : NInsn → Act
  acted insn = act_laid p result n to at wide insn

  -- what the entry of a key is used for
  abbrev used : Use → PoolKey → Act
  used how key = using_some p how (entry_type p (n.index key)) (entry_of p (n.index key))

  this_get_act : (s : Sort) (key : PoolKey) → acted (Named (this_access false s) key) ≡ used (Gets true (letter_of s))
      key
  unfolding row
  this_get_act Boolean key = refl
  this_get_act Byte key = refl
  this_get_act Short key = refl
  this_get_act Int key = refl
  this_get_act (Reference shape) key = refl
  this_get_act NoValue key = refl

  this_put_act : (s : Sort) (key : PoolKey) → acted (Named (this_access true s) key) ≡ used (Puts true (letter_of s))
      key
  unfolding row
  this_put_act Boolean key = refl
  this_put_act Byte key = refl
  this_put_act Short key = refl
  this_put_act Int key = refl
  this_put_act (Reference shape) key = refl
  this_put_act NoValue key = refl

-- ---- the object of local 0

all_in : (test : List ℕ → Bool) (xs : List (List ℕ)) → ((n : List ℕ) → In n xs → test n ≡ true) → list_all test xs
    ≡ true
all_in test [] h = refl
all_in test (x ∷ xs) h = ap (λ b. b && list_all test xs) (h x (inl refl)) ∙ all_in test xs (λ n i. h n (inr i))

-- what a reference that may be of a class passes, an object of that class passes
class_passes : (class : List ℕ) (test : List ℕ → Bool) (c t : Cell) → may_hold class c ≡ true → all_types test c ≡ true
    → IsCellBelow t (Refs (class ∷ [])) → all_types test t ≡ true
class_passes class test Number t h e below = absurd cc
class_passes class test Unusable t h e below = absurd cc
class_passes class test (Refs names) Number h e below = absurd below
class_passes class test (Refs names) Unusable h e below = absurd below
class_passes class test (Refs names) (Refs less) h e below =
    let one = member_passes test names class e (name_in class names h) in
    all_in test less (λ n i. by n (below n i) one)
  where
    by : (n : List ℕ) → In n (class ∷ []) → test class ≡ true → test n ≡ true
    by n (inl same) one = subst (λ m. test m ≡ true) same one
    by n (inr none) one = absurd none

right : (b : Bool) → not b ≡ false → b ≡ true
right true e = refl
right false e = absurd cc

-- ---- what instructions name

module _ (card_type : List ℕ → Option (List ℕ)) (is_of : Subtype) (w : List Class) (p : Pair) (n : Naming)
    (r : Resolution) (b : Body) where
  -- a constant that is pushed is a number
  pub number_of : (f : MemberId) (z : ℤ) → r.constant f ≡ Some z → IsServed card_type is_of w p n r b (jop.Static false
      f) → (let d = parts f.desc in result_of d.result) ≡ Number ∷ []
  number_of f z known (serves.plain h) = elim h [ ]
  number_of f z known (serves.on_array h) = elim h [ ]
  number_of f z known (serves.a_static put is) = absurd (no_constant is.is_no_constant known)
    where
      no_constant : {o : Option ℤ} → o ≡ None → o ≡ Some z → ⊥
      no_constant e g = cc
  number_of f z known (serves.a_constant y e number) = number

  field_served : (put : Bool) (f : MemberId) → IsServed card_type is_of w p n r b (jop.Field put f)
      → FieldServed card_type is_of w p n r f
  field_served put f (serves.plain h) = elim h [ ]
  field_served put f (serves.on_array h) = elim h [ ]
  field_served put f (serves.a_field own is) = is

-- ---- rows

module _ (card_type : List ℕ → Option (List ℕ)) (is_of : Subtype) (w : List Class) (b : Body) (p : Pair)
    (result : ValueType) (n : Naming) (r : Resolution) (rows : List (Option State)) (opened : ℕ → Open)
    (to : ℕ → ℕ) (wide : ℕ → Bool) (count : ℕ) (sv : IsServedIn card_type is_of w p n r b result)
    (unbroken : (at rule : ℕ) → Breach w b rows at rule → ⊥)
    (served : (at : ℕ) (i : JInsn) (x : State) → slice_get b.insns at ≡ Some i → HasRow rows at x
    → IsServed card_type is_of w p n r b i.op)
    (held : (at : ℕ) (x : State) → HasRow rows at x → out_holds b.class (opened at) x.stack ≡ true)
    (this : (at : ℕ) (x : State) → HasRow rows at x → (c : Cell) × (slice_get x.locals 0 ≡ Some c)
    × IsCellBelow c (Refs (b.class ∷ []))) where
  abbrev step : (label : ℕ) → NInsn → Step
  step = step_laid p result n to wide

  abbrev place : ℕ → ℕ
  place offset = place_in r (reached b.insns rows) offset

  module _ (at from : ℕ) (i : JInsn) (ls s : List Cell) (there : slice_get b.insns at ≡ Some i)
      (row : HasRow rows at (record { stack = Cells s; locals = ls })) where
    abbrev x : State
    x = record { stack = Cells s; locals = ls }

    abbrev StandsHere : Type 0
    StandsHere = RowStands card_type is_of r b rows opened step count b.max_stack to at from i x

    abbrev Under : State → State → Type 0
    Under y z = let t = states count in t.Below y z

    -- ---- no rule is broken

    not_wrong : is_wrong w b i.op ls s ≡ false
    not_wrong = by (true_or_false (is_wrong w b i.op ls s))
      where
        by : ((is_wrong w b i.op ls s ≡ true) ⊎ (is_wrong w b i.op ls s ≡ false)) → is_wrong w b i.op ls s ≡ false
        by (inl e) = absurd (unbroken at 502 (record {
          insn = i;
          is_insn = there;
          state = x;
          reached = row;
          breaks = broken.wrong s ls e;
        }))
        by (inr e) = e

    not_off : is_off b i.op ls s ≡ false
    not_off = by (true_or_false (is_off b i.op ls s))
      where
        by : ((is_off b i.op ls s ≡ true) ⊎ (is_off b i.op ls s ≡ false)) → is_off b i.op ls s ≡ false
        by (inl e) = absurd (unbroken at 503 (record {
          insn = i;
          is_insn = there;
          state = x;
          reached = row;
          breaks = broken.off s ls e;
        }))
        by (inr e) = e

    abbrev first_two : Bool
    first_two = has_wrong w b i.op (takes i.op) 0 s || has_wrong_local i.op ls

    operands_right : {op : JOp} → i.op ≡ op → has_wrong w b op (takes op) 0 s ≡ false
    operands_right is = subst (λ (o : JOp). has_wrong w b o (takes o) 0 s ≡ false) is (or_left (has_wrong w b i.op
        (takes i.op) 0 s) (has_wrong_local i.op ls) (or_left first_two (is_wrong_return b i.op) not_wrong))

    local_right : {op : JOp} → i.op ≡ op → has_wrong_local op ls ≡ false
    local_right is = subst (λ (o : JOp). has_wrong_local o ls ≡ false) is (or_right (has_wrong w b i.op
        (takes i.op) 0 s) (has_wrong_local i.op ls) (or_left first_two (is_wrong_return b i.op) not_wrong))

    on : {op : JOp} → i.op ≡ op → is_off b op ls s ≡ false
    on is = subst (λ (o : JOp). is_off b o ls s ≡ false) is not_off

    -- ---- rows of none and of one

    none_row : {o q : Open} {op : JOp} → opened at ≡ o → opened (suc at) ≡ q → i.op ≡ op → written_for r place i ≡ []
        → Under (card_state card_type o x) (card_state card_type q (after op x)) → goes_on op ≡ true → StandsHere
    none_row {o = o} {q = q} {op = op} before behind is none below goes = row_of_none card_type is_of w r b rows
        opened step count to at
        from i x none (subst (λ (u : Open). Under (card_state card_type u x) (card_state card_type (opened (suc at))
        (after i.op x))) (sym before) (subst (λ (u : Open). Under (card_state card_type o x) (card_state card_type u
        (after i.op x))) (sym behind) (subst (λ (z : JOp). Under (card_state card_type o x) (card_state card_type q
        (after z x))) (sym is) below))) (ap goes_on is ∙ goes)

    one_row : {o q : Open} {op : JOp} → opened at ≡ o → opened (suc at) ≡ q → i.op ≡ op → (insn : NInsn)
        → written_for r place i ≡ insn ∷ [] → (a : Act) → act_laid p result n to (to from) (wide from) insn ≡ a
        → Stands is_of count b.max_stack a (card_state card_type o x) (card_state card_type q (after op x))
        → goes_on op ≡ true → a.targets ≡ [] → StandsHere
    one_row {o = o} {q = q} {op = op} before behind is insn one a act stands goes nowhere =
        row_of_one card_type is_of w r b rows opened step count to at from i x insn one
        (subst (λ (c : Act). Stands is_of count b.max_stack c (card_state card_type (opened at) x) (card_state card_type
        (opened (suc at)) (after i.op x))) (sym act)
        (subst (λ (u : Open). Stands is_of count b.max_stack a (card_state card_type u x) (card_state card_type
        (opened (suc at)) (after i.op x))) (sym before)
        (subst (λ (u : Open). Stands is_of count b.max_stack a (card_state card_type o x) (card_state card_type u
        (after i.op x))) (sym behind)
        (subst (λ (z : JOp). Stands is_of count b.max_stack a (card_state card_type o x) (card_state card_type q
        (after z x))) (sym is) stands))))
        (λ h. ap goes_on is ∙ goes)
        (λ offset within. absurd (none_in offset (subst (λ (ts : List ℕ). Contains ts offset) (ap (λ (c : Act).
        c.targets) act ∙ nowhere) within)))
      where
        none_in : (offset : ℕ) → Contains [] offset → ⊥
        none_in offset (k, lt, e) = omega (arith, lt)

    -- what is written
    alone_is : {op : JOp} → i.op ≡ op → r.role i.at ≡ Alone → written_for r place i ≡ written r place op
    alone_is is role = ap (λ (z : PairRole). written_as z r place i.op) role ∙ ap (written r place) is

    -- ---- the pair

    -- what is pushed behind the reference that is left out
    push_row : (c : Cell) (rest : List Cell) → s ≡ c ∷ rest → {op : JOp} → opened at ≡ begun → opened (suc at) ≡ pushed
        → i.op ≡ op → r.role i.at ≡ Alone → (insn : NInsn) → written r place op ≡ insn ∷ [] → (a : Act)
        → act_laid p result n to (to from) (wide from) insn ≡ a → Mirrors card_type is_of op a ls (c ∷ rest)
        → takes op ≡ 0 → (g : Given) → a.gives ≡ g ∷ [] → a.writes ≡ []
        → given (card_cells card_type ls) (card_cells card_type (c ∷ rest)) g ≡ given (card_cells card_type ls)
        (card_cells card_type rest) g → (d : Cell) → gives op ls (c ∷ rest) ≡ d ∷ [] → goes_on op ≡ true
        → a.targets ≡ [] → StandsHere
    push_row c rest top {op = op} before behind is role insn one a act mirrors none g put no_writes same d given_one
        goes nowhere =
        one_row before behind is insn (alone_is is role ∙ one) a act
        (subst (λ (t : List Cell). Stands is_of count b.max_stack a (card_state card_type begun (record {
          stack = Cells t;
          locals = ls;
        })) (card_state card_type pushed (after op (record { stack = Cells t; locals = ls })))) (sym top)
        (pair_row_stands card_type is_of w b count begun pushed op a ls (c ∷ rest) (pushing_inside card_type is_of op a
        g ls c rest mirrors none put no_writes same d given_one) (subst (λ (t : List Cell). is_off b op ls t ≡ false)
        top
        (on is)))) goes nowhere

    load_row : (c : Cell) (rest : List Cell) → s ≡ c ∷ rest → (refs : Bool) (k : ℕ) → opened at ≡ begun
        → opened (suc at) ≡ pushed → i.op ≡ jop.Load refs k → r.role i.at ≡ Alone → StandsHere
    load_row c rest top true k before behind is role = push_row c rest top before behind is role (if nat_le k 3 then Op
        (0x18 + k) else Local 0x15 k) refl (loading letters.Reference k) (acts.load_act p result n to (to from)
        (wide from) true k) (load_mirrors card_type is_of true k ls (c ∷ rest) (local_right is)) refl
        (given_words.Local k) refl refl refl (as_reference (operand ls k)) refl refl refl
    load_row c rest top false k before behind is role = push_row c rest top before behind is role (if nat_le k 3 then Op
        (0x1C + k) else Local 0x16 k) refl (loading letters.Short k) (acts.load_act p result n to (to from)
        (wide from) false k) (load_mirrors card_type is_of false k ls (c ∷ rest) (local_right is)) refl
        ANumber refl refl refl Number refl refl refl

    pushes_row : (c : Cell) (rest : List Cell) → s ≡ c ∷ rest → {op : JOp} → IsPushed r op → opened at ≡ begun
        → opened (suc at) ≡ pushed → i.op ≡ op → r.role i.at ≡ Alone → StandsHere
    pushes_row c rest top a_null before behind is role = push_row c rest top before behind is role (Op 0x01) refl
        (pushing (ANull ∷ [])) (acts.null_act p result n to (to from) (wide from)) (null_mirrors card_type is_of ls (c
        ∷ rest)) refl ANull refl refl refl (Refs []) refl refl refl
    pushes_row c rest top (a_number {z = z}) before behind is role = push_row c rest top before behind is role
        (pushed_word (low_word z)) refl (pushing (ANumber ∷ [])) (acts.number_act p result n to (to from) (wide from)
        (low_word z)) (number_mirrors card_type is_of z ls (c ∷ rest)) refl ANumber refl refl refl Number refl refl refl
    pushes_row c rest top (a_local {refs = refs} {k = k}) before behind is role = load_row c rest top refs k before
        behind is role
    pushes_row c rest top (a_constant {named = f} {z = z} known) before behind is role =
        let number = number_of card_type is_of w p n r b f z known (subst (IsServed card_type is_of w p n r b) is
        (served at i x there row)) in
        push_row c rest top before behind is role (pushed_word (low_word z)) (ap (static_by r false f) known)
        (pushing (ANumber ∷ [])) (acts.number_act p result n to (to from) (wide from) (low_word z)) (constant_mirrors
        card_type is_of w sv.subtypes b f number ls (c ∷ rest)) refl ANumber refl refl refl Number number refl refl

    -- ---- the field instruction

    closes_is : (put : Bool) (f : MemberId) → i.op ≡ jop.Field put f → r.role i.at ≡ Closes
        → written_for r place i ≡ Named (this_access put (field_sort f.desc)) (keys.Field (r.field f)) ∷ []
    closes_is put f is role = ap (λ (z : PairRole). written_as z r place i.op) role
        ∙ ap (λ (o : JOp). on_this r place o (accessed o)) is

    get_row : (c : Cell) (rest : List Cell) → s ≡ c ∷ rest → may_hold b.class c ≡ true → (f : MemberId)
        → opened at ≡ begun → opened (suc at) ≡ closed → i.op ≡ jop.Field false f → r.role i.at ≡ Closes → StandsHere
    get_row c rest top h f before behind is role =
        let sf = field_served card_type is_of w p n r b false f (subst (IsServed card_type is_of w p n r b) is
        (served at i x there row)) in
        let fits = sf.fits in
        let letter = letter_of (field_sort f.desc) in
        let key = keys.Field (r.field f) in
        let t = entry_type p (n.index key) in
        let a = getting true letter sf.class t.result in
        let l = this at x row in
        let operand_right = subst (λ (z : List Cell). has_wrong w b (jop.Field false f) 1 0 z ≡ false) top
        (operands_right is) in
        let passes = right (accepts w b (jop.Field false f) 0 c) (or_left (not (accepts w b (jop.Field false f) 0 c))
        (has_wrong w b (jop.Field false f) 1 1 rest) operand_right) in
        let local = fits.receiver l.0 (class_passes b.class (λ name. is_subtype w name f.class) c l.0 h passes l.2) in
        one_row before behind is (Named (this_access false (field_sort f.desc)) key) (closes_is false f is role) a
        (this_get_act p result n to (to from) (wide from) (field_sort f.desc) key ∙ ap (using_some p (Gets true letter)
        t) sf.entry)
        (subst (λ (z : List Cell). Stands is_of count b.max_stack a (card_state card_type begun (record {
          stack = Cells z;
          locals = ls;
        })) (card_state card_type closed (after (jop.Field false f) (record { stack = Cells z; locals = ls }))))
        (sym top) (pair_row_stands card_type is_of w b count begun closed (jop.Field false f) a ls (c ∷ rest)
        (closing_mirrors card_type is_of w sv.subtypes f letter sf.class t.result fits ls rest l.0 c l.1 local)
        (subst (λ (z : List Cell). is_off b (jop.Field false f) ls z ≡ false) top (on is)))) refl refl

    put_row : (v c : Cell) (rest : List Cell) → s ≡ v ∷ c ∷ rest → may_hold b.class c ≡ true → (f : MemberId)
        → opened at ≡ pushed → opened (suc at) ≡ closed → i.op ≡ jop.Field true f → r.role i.at ≡ Closes → StandsHere
    put_row v c rest top h f before behind is role =
        let sf = field_served card_type is_of w p n r b true f (subst (IsServed card_type is_of w p n r b) is (served
        at i x there row)) in
        let fits = sf.fits in
        let letter = letter_of (field_sort f.desc) in
        let key = keys.Field (r.field f) in
        let t = entry_type p (n.index key) in
        let a = putting true letter sf.class t.result in
        let l = this at x row in
        let operand_right = subst (λ (z : List Cell). has_wrong w b (jop.Field true f) 2 0 z ≡ false) top
        (operands_right is) in
        let behind_value = or_right (not (accepts w b (jop.Field true f) 0 v)) (has_wrong w b (jop.Field true f) 2 1
        (c ∷ rest)) operand_right in
        let passes = right (accepts w b (jop.Field true f) 1 c) (or_left (not (accepts w b (jop.Field true f) 1 c))
        (has_wrong w b (jop.Field true f) 2 2 rest) behind_value) in
        let local = fits.receiver l.0 (class_passes b.class (λ name. is_subtype w name f.class) c l.0 h passes l.2) in
        one_row before behind is (Named (this_access true (field_sort f.desc)) key) (closes_is true f is role) a
        (this_put_act p result n to (to from) (wide from) (field_sort f.desc) key ∙ ap (using_some p (Puts true letter)
        t) sf.entry)
        (subst (λ (z : List Cell). Stands is_of count b.max_stack a (card_state card_type pushed (record {
          stack = Cells z;
          locals = ls;
        })) (card_state card_type closed (after (jop.Field true f) (record { stack = Cells z; locals = ls }))))
        (sym top) (pair_row_stands card_type is_of w b count pushed closed (jop.Field true f) a ls (v ∷ c ∷ rest)
        (closing_write_mirrors card_type is_of w sv.subtypes b f letter sf.class t.result fits sf.is_value ls rest l.0 v
        c l.1 local operand_right)
        (subst (λ (z : List Cell). is_off b (jop.Field true f) ls z ≡ false) top (on is)))) refl refl

    -- ---- in a pair

    -- the reference that is left out is on top, or below one
    top_there : (t : List Cell) → out_holds b.class begun (Cells t) ≡ true → (c : Cell) × (rest : List Cell)
        × (t ≡ c ∷ rest) × (may_hold b.class c ≡ true)
    top_there [] e = absurd cc
    top_there (c ∷ rest) e = (c, rest, refl, e)

    second_there : (t : List Cell) → out_holds b.class pushed (Cells t) ≡ true → (v : Cell) × (c : Cell)
        × (rest : List Cell) × (t ≡ v ∷ c ∷ rest) × (may_hold b.class c ≡ true)
    second_there [] e = absurd cc
    second_there (v ∷ []) e = absurd cc
    second_there (v ∷ c ∷ rest) e = (v, c, rest, refl, e)

    held_as : {o : Open} → opened at ≡ o → out_holds b.class o (Cells s) ≡ true
    held_as before = subst (λ (o : Open). out_holds b.class o (Cells s) ≡ true) before (held at x row)

    silent_is : {op : JOp} → IsSilent op → written r place op ≡ []
    silent_is a_nop = refl
    silent_is (a_narrow other) = ap (λ (t : Bool). if t then Op 0x5B ∷ [] else []) other

    silent_goes : {op : JOp} → IsSilent op → goes_on op ≡ true
    silent_goes a_nop = refl
    silent_goes (a_narrow other) = refl

    row_by : {o q : Open} {op : JOp} {role : PairRole} → IsInPair r o op role q → opened at ≡ o → opened (suc at) ≡ q
        → i.op ≡ op → r.role i.at ≡ role → (opened at ≡ closed → opened (suc at) ≡ closed → StandsHere) → StandsHere
    row_by stands_alone before behind is role alone = alone before behind
    row_by opens before behind is role alone = none_row before behind is
        (ap (λ (z : PairRole). written_as z r place i.op) role ∙ ap (written_open r place) is)
        (opening_below card_type count ls s) refl
    row_by {o = o} (in_pair.goes_on is_open silent) before behind is role alone = none_row before behind is
        (alone_is is role ∙ silent_is silent) (silent_below card_type w b count o silent ls s (operands_right is)
        (on is)) (silent_goes silent)
    row_by (pushes one) before behind is role alone =
        let t = top_there s (held_as before) in
        pushes_row t.0 t.1 t.2 one before behind is role
    row_by (gets {f = f}) before behind is role alone =
        let t = top_there s (held_as before) in
        get_row t.0 t.1 t.2 t.3 f before behind is role
    row_by (puts {f = f}) before behind is role alone =
        let t = second_there s (held_as before) in
        put_row t.0 t.1 t.2 t.3 t.4 f before behind is role

  -- each row, where those outside of pairs stand
  pub row_within : AreInPairs r b rows opened → (at from : ℕ) (i : JInsn) (x : State) → slice_get b.insns at ≡ Some i
      → HasRow rows at x → (opened at ≡ closed → opened (suc at) ≡ closed
      → RowStands card_type is_of r b rows opened step count b.max_stack to at from i x)
      → RowStands card_type is_of r b rows opened step count b.max_stack to at from i x
  row_within pairs at from i x there row alone = by x.stack x.locals row (pairs.each at i x there row) alone
    where
      by : (t : Stack) (ls : List Cell) → HasRow rows at (record { stack = t; locals = ls })
          → IsInPair r (opened at) i.op (r.role i.at) (opened (suc at)) → (opened at ≡ closed → opened (suc at) ≡ closed
          → RowStands card_type is_of r b rows opened step count b.max_stack to at from i (record {
            stack = t;
            locals = ls;
          })) → RowStands card_type is_of r b rows opened step count b.max_stack to at from i (record {
            stack = t;
            locals = ls;
          })
      by Clash ls row pair alone = absurd (unbroken at 501 (record {
        insn = i;
        is_insn = there;
        state = record { stack = Clash; locals = ls };
        reached = row;
        breaks = broken.clash ls;
      }))
      by (Cells s) ls row pair alone = row_by at from i ls s there row pair refl refl refl refl alone
