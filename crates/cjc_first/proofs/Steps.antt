-- The method of the form and the bytes that are written for it go in lock-step, but for i2s.
use Rattle.std.proofs.Common.{◌≡◌, ℕ, zero, suc, ◌+◌, ◌-◌, ◌*◌, ◌/◌, ◌%◌, ◌<◌, ◌≤◌, refl, sym, ap, subst, ◌∙◌, arith, Bool, true, false, List, [], ◌∷◌, ◌++◌, length, drop, replicate, ℤ, pos, negsuc, ◌+ℤ◌, length-append}
use Rattle.std.specs.Prelude.{◌≢◌, ◌≤ℤ◌, Option, Some, None, slice_get, nat_le, ◌&&◌, ◌||◌, ◌==◌, not, if◌then◌else◌, map}
use Rattle.std.specs.List.{list_any}
use Rattle.std.proofs.lemmas.Bool.Decides.{nat_tests}
use Rattle.cjc_bytes.specs.declared.fault.MemberId.{MemberId}
use Rattle.cjc_capread.specs.declared.tree.ClassRef.TheVariants.{Inside as InsideRef}
use Rattle.cjc_first.specs.TokenMachine.Cells.{Cell, Word, Thing}
use Rattle.cjc_first.specs.TokenMachine.Cells
use Rattle.cjc_script.specs.declared.report.Thing.{Thing as ReportThing}
use Rattle.cjc_capread.specs.declared.tree.ClassRef.{ClassRef}
use Rattle.cjc_first.proofs.Acts.{KnowAlike, prepared_alike}
use Rattle.cjc_first.specs.TokenMachine.Rows.{Fetched, Does, fetch, sadd, sreturn}
use Rattle.cjc_first.specs.TokenMachine.Rows
use Rattle.cjc_first.specs.TokenMachine.Naming.{Loaded, Begun, Header, header, extended, loaded_from, begun_with, described, all_methods}
use Rattle.cjc_first.specs.TokenMachine.ByToken.{cell_of}
use Rattle.cjc_first.specs.TokenMachine.ByToken
use Rattle.cjc_code.specs.declared.insn.JOp.{JOp}
use Rattle.cjc_code.specs.declared.insn.JOp.TheVariants as jop
use Rattle.cjc_code.specs.declared.insn.JInsn.{JInsn}
use Rattle.cjc_export.specs.declared.tree.ExportTree.{ExportTree}
use Rattle.cjc_first.specs.NameMachine.Linked.{Method, Linked, initialiser, entered_among, is_subtype, exported, has_plain_class}
use Rattle.cjc_first.specs.NameMachine.ByName.{Frame, State, Store, Deed, Go, Leave, does, Turn, Next, Ended, turn, and_then, begun_in, step, deed_of, done, spend_in, low_word, wide, calculated}
use Rattle.cjc_first.specs.NameMachine.ByName
use Rattle.cjc_script.specs.declared.value.Value.{Value}
use Rattle.cjc_script.specs.declared.value.Value.TheVariants.{Num, Null, Obj}
use Rattle.cjc_script.specs.declared.script.Entry.{Entry}
use Rattle.cjc_script.specs.declared.script.Answer.{Answer}
use Rattle.cjc_script.specs.declared.report.Note.{Note}
use Rattle.cjc_script.specs.declared.report.Note.TheVariants as noted
use Rattle.cjc_script.specs.declared.report.Outcome.{Outcome}
use Rattle.cjc_script.specs.declared.report.Outcome.TheVariants.{Running, Unfit, Stuck}
use Rattle.cjc_script.specs.Agree.{Agree}
use Rattle.cjc_first.specs.Scripts.Names.{same_text, same_id}
use Rattle.cjc_first.specs.Scripts.Types.{Short, signature}
use Rattle.cjc_script.specs.declared.report.Report.{Report}
use Rattle.cjc_script.specs.declared.script.Act.{Act}
use Rattle.cjc_first.specs.Scripts.Fits.{all_fit}
use Rattle.cjc_first.specs.FirstForm.{is_push, is_iadd, is_i2s, is_ireturn, is_rest, is_sum, ops_of}
use Rattle.cjc_first.specs.Selected.{selected, selected_code}
use Rattle.cjc_first.specs.Converted.{descriptor_part}
use Rattle.cjc_words.proofs.Words.{low_word-add}
use Rattle.cjc_first.proofs.Codes.{and_true, found, fetch-sadd, fetch-sreturn}
use Rattle.cjc_first.proofs.Lists.{get_here, next_here, le_test, lt_test, from_next}
use Rattle.cjc_first.proofs.Pushes.{op_pushes, param_at, fits_alike}

-- the code of an instruction and of what follows it
code_cons : (i : JInsn) (rest : List JInsn) → selected_code (ops_of (i ∷ rest)) ≡ selected i.op ++ selected_code (ops_of rest)
unfolding selected_code
code_cons i rest = refl

-- ---- what each of the form's instructions does by name, and what is selected for it

i2s_does : (op : JOp) → is_i2s op ≡ true → (room at : ℕ) (locals : List (Option Value)) (store : Store) (x : ℤ) (rest : List Value) → does op room at locals store (Num x ∷ rest) ≡ Go (at + 1) (Num (low_word x) ∷ rest) locals store
unfolding does
i2s_does (jop.Narrow op) e room at locals store x rest = ap (λ t. if t then Go (at + 1) (Num (low_word x) ∷ rest) locals store else ByName.Stick) e
i2s_does _ e room at locals store x rest = cc

pub i2s_selected : (op : JOp) → is_i2s op ≡ true → selected op ≡ []
unfolding selected
i2s_selected (jop.Narrow op) e = refl
i2s_selected _ e = cc

iadd_does : (op : JOp) → is_iadd op ≡ true → (room at : ℕ) (locals : List (Option Value)) (store : Store) (x y : ℤ) (rest : List Value) → does op room at locals store (Num y ∷ Num x ∷ rest) ≡ Go (at + 1) (Num (wide (x +ℤ y)) ∷ rest) locals store
unfolding does
iadd_does (jop.Arith op) e room at locals store x y rest = ap (λ t. calculated (if t then Some (λ a b. a +ℤ b) else None) at locals store (Num y ∷ Num x ∷ rest)) e
iadd_does _ e room at locals store x y rest = cc

pub iadd_selected : (op : JOp) → is_iadd op ≡ true → selected op ≡ 0x41 ∷ []
unfolding selected
iadd_selected (jop.Arith op) e = ap (λ t. if t then 0x41 ∷ [] else []) e
iadd_selected _ e = cc

ireturn_does : (op : JOp) → is_ireturn op ≡ true → (room at : ℕ) (locals : List (Option Value)) (store : Store) (x : ℤ) (rest : List Value) → does op room at locals store (Num x ∷ rest) ≡ Leave (Some (Num x))
unfolding does
ireturn_does (jop.Return op) e room at locals store x rest = ap (λ t. if t then Leave (Some (Num x)) else ByName.Stick) e
ireturn_does _ e room at locals store x rest = cc

pub ireturn_selected : (op : JOp) → is_ireturn op ≡ true → selected op ≡ 0x78 ∷ []
unfolding selected
ireturn_selected (jop.Return op) e = ap (λ t. if t then 0x78 ∷ [] else []) e
ireturn_selected _ e = cc

agree_along : {a b c d : Report} → a ≡ b → c ≡ d → Agree b d → Agree a c
agree_along e f h = record {
  notes = ap (λ r. r.notes) e ∙ h.notes ∙ sym (ap (λ r. r.notes) f);
  statics = ap (λ r. r.statics) e ∙ h.statics ∙ sym (ap (λ r. r.statics) f);
  heap = ap (λ r. r.heap) e ∙ h.heap ∙ sym (ap (λ r. r.heap) f);
  outcome = ap (λ r. r.outcome) e ∙ h.outcome ∙ sym (ap (λ r. r.outcome) f);
}

-- names that pass the test are one
pub text_same : (a b : List ℕ) → same_text a b ≡ true → a ≡ b
text_same [] [] e = refl
text_same [] (y ∷ ys) e = cc
text_same (x ∷ xs) [] e = cc
text_same (x ∷ xs) (y ∷ ys) e =
    let h = and_true (x == y) (same_text xs ys) e in
    let heads : x ≡ y = grind (arith, nat_tests) in
    ap (λ z. z ∷ xs) heads ∙ ap (λ zs. y ∷ zs) (text_same xs ys h.1)

or_true : (a b : Bool) → b ≡ true → (a || b) ≡ true
or_true true b e = refl
or_true false b e = e

module _ (exports : List ExportTree) (class : List ℕ) (there : List ℕ → Bool) (id : MemberId) (k room nlocals : ℕ) (insns : List JInsn) where
  abbrev pub method : Method
  method = record { id = id; is_static = true; params = replicate k Short; result = Some Short; max_stack = room; max_locals = nlocals; insns = insns; catches = [] }

  abbrev pub by_name : Linked
  by_name = record {
    statics = [];
    heap = [];
    entry = entered_among (method ∷ []);
    sent = λ class id. None;
    called = λ op holder receiver id. None;
    subtype = is_subtype (exported exports);
    is_there = there;
    is_imported = has_plain_class (exported exports);
  }

  abbrev pub code : List ℕ
  code = selected_code (ops_of insns)

  abbrev pub bytes : List ℕ
  bytes = room ∷ (16 * k + (nlocals - k)) ∷ code

  abbrev pub by_token : Loaded
  by_token = loaded_from (record { handlers = []; methods = bytes }) (descriptor_part k (length code)) exports (record {
    classes = record { class = InsideRef 2; name = class } ∷ [];
    methods = record { offset = 1; id = id } ∷ [];
    fields = λ class. [];
    cells = [];
  })

  -- ---- states

  abbrev pub at_name : (at : ℕ) (stack args : List Value) → Frame
  at_name at stack args =
      record { method = method; at = at; stack = stack; locals = map (λ v. Some v) args ++ replicate (nlocals - length args) None }

  abbrev pub at_card : (place : ℕ) (stack : List Cell) (args : List Value) → ByToken.Frame
  at_card place stack args = record {
    room = room;
    first = 3;
    end = 3 + length code;
    at = place;
    behind = 3;
    stack = stack;
    locals = map (λ c. Some c) (map cell_of args) ++ replicate (nlocals - k) None;
  }

  abbrev pub name_store : List Thing → Store
  name_store heap = record { heap = ByToken.named_heap by_token heap; statics = [] }

  abbrev pub card_store : List Thing → Cells.Store
  card_store heap = record { heap = heap; references = []; bytes = [] }

  abbrev pub named : List Thing → List Frame → List Entry → List Answer → List Note → ℕ → State
  named heap frames entries answers notes spent =
      record { frames = frames; store = name_store heap; entries = entries; answers = answers; notes = notes; spent = spent }

  abbrev pub carded : List Thing → List ByToken.Frame → List Entry → List Answer → List Note → ℕ → ByToken.State
  carded heap frames entries answers notes spent =
      record { frames = frames; store = card_store heap; entries = entries; answers = answers; notes = notes; spent = spent }

  -- the instructions that are left, and where their code lies
  pub record Sits (at place : ℕ) (rest : List JInsn) : Type 0 where
    pub left : drop at insns ≡ rest
    pub lies : by_token.from place ≡ selected_code (ops_of rest)
    pub some : 3 ≤ place
    pub ends : place + length (selected_code (ops_of rest)) ≡ 3 + length code

  length_cons : (i : JInsn) (rest : List JInsn) → length (selected_code (ops_of (i ∷ rest))) ≡ length (selected i.op) + length (selected_code (ops_of rest))
  length_cons i rest = ap length (code_cons i rest) ∙ length-append (selected i.op) (selected_code (ops_of rest))

  sits_next : (at place : ℕ) (i : JInsn) (rest : List JInsn) → Sits at place (i ∷ rest) → Sits (at + 1) (place + length (selected i.op)) rest
  sits_next at place i rest s = record {
    left = next_here insns at i rest s.left;
    lies = from_next bytes place (selected i.op) (selected_code (ops_of rest)) (omega (arith, s.some)) (s.lies ∙ code_cons i rest);
    some = omega (arith, s.some);
    ends = omega (arith, s.ends, length_cons i rest);
  }

  -- what stands on the stacks, by what is left; one for which the card has no instruction next
  pub data Stage : ℕ → List JInsn → List Value → List Cell → Type 0 where
    opens : {rest : List JInsn} → is_sum k (ops_of rest) ≡ true → 1 ≤ room → (list_any is_iadd (ops_of rest) ≡ true → 2 ≤ room) → Stage 0 rest [] []
    one : {rest : List JInsn} {x y : ℤ} → is_rest k (ops_of rest) ≡ true → (list_any is_iadd (ops_of rest) ≡ true → 2 ≤ room) → y ≡ low_word x → Stage 1 rest (Num x ∷ []) (Word y ∷ [])
    two : {i : JInsn} {rest : List JInsn} {a b c d : ℤ} → is_iadd i.op ≡ true → is_rest k (ops_of rest) ≡ true → 2 ≤ room → b ≡ low_word a → d ≡ low_word c → Stage 0 (i ∷ rest) (Num c ∷ Num a ∷ []) (Word d ∷ Word b ∷ [])
    closes : {i : JInsn} {z : ℤ} → is_ireturn i.op ≡ true → Stage 0 (i ∷ []) (Num z ∷ []) (Word z ∷ [])

  abbrev pub fit : List Value → Bool
  fit args = all_fit by_name.subtype [] (replicate k Short) args

  -- ---- one instruction

  module _ (heap : List Thing) (at place : ℕ) (i : JInsn) (rest : List JInsn) (sits : Sits at place (i ∷ rest)) (args : List Value) (entries : List Entry) (answers : List Answer) (notes : List Note) (spent spent' : ℕ) where
    abbrev store : Store
    store = name_store heap

    abbrev before : List Value → State
    before stack = named heap (at_name at stack args ∷ []) entries answers notes spent

    abbrev before' : List Cell → ByToken.State
    before' cells = carded heap (at_card place cells args ∷ []) entries answers notes spent'

    abbrev locals : List (Option Value)
    locals = map (λ v. Some v) args ++ replicate (nlocals - length args) None

    name_does : (stack : List Value) (d : Deed) → does i.op room at locals store stack ≡ d → turn by_name (before stack) ≡ spend_in (done by_name d (at_name at stack args) [] (before stack))
    name_does stack d e =
        ap (λ o. spend_in (done by_name (deed_of o (at_name at stack args) store) (at_name at stack args) [] (before stack))) (get_here insns at i rest sits.left)
        ∙ ap (λ d. spend_in (done by_name d (at_name at stack args) [] (before stack))) e

    abbrev cells' : List (Option Cell)
    cells' = map (λ c. Some c) (map cell_of args) ++ replicate (nlocals - k) None

    card_does : (cells : List Cell) (row : Does) (size : ℕ) (d : Rows.Deed) → ((more : List ℕ) → fetch (selected i.op ++ more) ≡ found row size) → size ≡ length (selected i.op) → row room (place + size) cells' (card_store heap) cells ≡ d → ByToken.turn by_token (before' cells) ≡ ByToken.spend_in (ByToken.done by_token d (place + size) (at_card place cells args) [] (before' cells))
    card_does cells row size d fetched is_size e =
        let g = at_card place cells args in
        let inside : ByToken.is_inside g size ≡ true =
        ap (λ t. t && nat_le (place + size) (3 + length code)) (le_test 3 place sits.some)
        ∙ le_test (place + size) (3 + length code) (omega (arith, sits.ends, length_cons i rest, is_size)) in
        ap (λ b. ByToken.spend_in (ByToken.executed by_token (fetch b) g [] (before' cells))) (sits.lies ∙ code_cons i rest)
        ∙ ap (λ o. ByToken.spend_in (ByToken.executed by_token o g [] (before' cells))) (fetched (selected_code (ops_of rest)))
        ∙ ap (λ t. ByToken.spend_in (if t then ByToken.done by_token (row room (place + size) cells' (card_store heap) cells) (place + size) g [] (before' cells) else ByToken.stuck g (before' cells))) inside
        ∙ ap (λ d. ByToken.spend_in (ByToken.done by_token d (place + size) g [] (before' cells))) e

  -- ---- states that go together

  -- states of the two machines that go together, and whether the card may have no instruction next
  pub data Tied : ℕ → State → ByToken.State → Type 0 where
    resting : (heap : List Thing) (entries : List Entry) (answers : List Answer) (notes : List Note) (spent spent' : ℕ) → Tied 0 (named heap [] entries answers notes spent) (carded heap [] entries answers notes spent')
    active : {slack : ℕ} (heap : List Thing) (at place : ℕ) (rest : List JInsn) (args stack : List Value) (cells : List Cell) (entries : List Entry) (answers : List Answer) (notes : List Note) (spent spent' : ℕ) → Sits at place rest → fit args ≡ true → Stage slack rest stack cells → Tied slack (named heap (at_name at stack args ∷ []) entries answers notes spent) (carded heap (at_card place cells args ∷ []) entries answers notes spent')

  -- an instruction by name, and one by token or none
  pub data Moves : ℕ → State → ByToken.State → Type 0 where
    both : {slack e : ℕ} {s s' : State} {t t' : ByToken.State} → turn by_name s ≡ Next s' → ByToken.turn by_token t ≡ ByToken.Next t' → Tied e s' t' → e ≤ 1 → Moves slack s t
    alone : {s s' : State} {t : ByToken.State} → turn by_name s ≡ Next s' → Tied 0 s' t → Moves 1 s t

  module _ (heap : List Thing) (at place : ℕ) (args : List Value) (fits : fit args ≡ true) (entries : List Entry) (answers : List Answer) (notes : List Note) (spent spent' : ℕ) where
    abbrev from : List Value → State
    from stack = named heap (at_name at stack args ∷ []) entries answers notes spent

    abbrev from' : List Cell → ByToken.State
    from' cells = carded heap (at_card place cells args ∷ []) entries answers notes spent'

    abbrev locals_now : List (Option Value)
    locals_now = map (λ v. Some v) args ++ replicate (nlocals - length args) None

    abbrev cells_now : List (Option Cell)
    cells_now = map (λ c. Some c) (map cell_of args) ++ replicate (nlocals - k) None

    params_now : (l : ℕ) → l < k → (x : ℤ) × (slice_get locals_now l ≡ Some (Some (Num x))) × (slice_get cells_now l ≡ Some (Some (Word x))) × (negsuc 32767 ≤ℤ x) × (x ≤ℤ pos 32767)
    params_now l below =
        let r = param_at by_name.subtype [] k args (replicate (nlocals - length args) None) (replicate (nlocals - k) None) fits l below in
        (r.x, r.named, r.card, r.low, r.high)

    push_moves : {slack e : ℕ} (i : JInsn) (rest : List JInsn) (stack : List Value) (cells : List Cell) → Sits at place (i ∷ rest) → is_push k i.op ≡ true → length stack < room → length cells < room → e ≤ 1 → ((x y : ℤ) → y ≡ low_word x → Stage e rest (Num x ∷ stack) (Word y ∷ cells)) → Moves slack (from stack) (from' cells)
    push_moves i rest stack cells sits push h h' le stage =
        let p = op_pushes room locals_now (name_store heap) cells_now (card_store heap) k params_now i.op push at stack cells (lt_test (length stack) room h) (lt_test (length cells) room h') in
        both
        (name_does heap at place i rest sits args entries answers notes spent spent' stack _ p.named)
        (card_does heap at place i rest sits args entries answers notes spent spent' cells p.row (length (selected i.op)) _ p.fetched refl (p.card (place + length (selected i.op))))
        (active heap (at + 1) (place + length (selected i.op)) rest args (Num p.x ∷ stack) (Word p.y ∷ cells) entries answers notes (spent + 1) (spent' + 1) (sits_next at place i rest sits) fits (stage p.x p.y p.same))
        le

    add_moves : (i : JInsn) (rest : List JInsn) (a b c d : ℤ) → Sits at place (i ∷ rest) → is_iadd i.op ≡ true → is_rest k (ops_of rest) ≡ true → 2 ≤ room → b ≡ low_word a → d ≡ low_word c → Moves 0 (from (Num c ∷ Num a ∷ [])) (from' (Word d ∷ Word b ∷ []))
    add_moves i rest a b c d sits is_add is_more two_room ab cd =
        let sel = iadd_selected i.op is_add in
        let size : 1 ≡ length (selected i.op) = sym (ap length sel) in
        let same : low_word (b +ℤ d) ≡ low_word (wide (a +ℤ c)) = ap (λ x. low_word (x +ℤ d)) ab ∙ ap (λ x. low_word (low_word a +ℤ x)) cd ∙ low_word-add a c in
        let sits' = sits_next at place i rest sits in
        both
        (name_does heap at place i rest sits args entries answers notes spent spent' (Num c ∷ Num a ∷ []) _ (iadd_does i.op is_add room at locals_now (name_store heap) a c []))
        (card_does heap at place i rest sits args entries answers notes spent spent' (Word d ∷ Word b ∷ []) sadd 1 _ (λ more. ap (λ b. fetch (b ++ more)) sel ∙ fetch-sadd more) size refl)
        (active heap (at + 1) (place + 1) rest args (Num (wide (a +ℤ c)) ∷ []) (Word (low_word (b +ℤ d)) ∷ []) entries answers notes (spent + 1) (spent' + 1) (subst (λ n. Sits (at + 1) (place + n) rest) (sym size) sits') fits (one is_more (λ e. two_room) same))
        (omega arith)

    close_moves : (i : JInsn) (z : ℤ) → Sits at place (i ∷ []) → is_ireturn i.op ≡ true → Moves 0 (from (Num z ∷ [])) (from' (Word z ∷ []))
    close_moves i z sits is_end =
        let sel = ireturn_selected i.op is_end in
        both
        (name_does heap at place i [] sits args entries answers notes spent spent' (Num z ∷ []) _ (ireturn_does i.op is_end room at locals_now (name_store heap) z []))
        (card_does heap at place i [] sits args entries answers notes spent spent' (Word z ∷ []) sreturn 1 _ (λ more. ap (λ b. fetch (b ++ more)) sel ∙ fetch-sreturn more) (sym (ap length sel)) refl)
        (resting heap entries answers (notes ++ noted.Result (Some (Num z)) ∷ []) (spent + 1) (spent' + 1))
        (omega arith)

    cut_moves : (i j : JInsn) (x y : ℤ) → Sits at place (i ∷ j ∷ []) → is_i2s i.op ≡ true → is_ireturn j.op ≡ true → y ≡ low_word x → Moves 1 (from (Num x ∷ [])) (from' (Word y ∷ []))
    cut_moves i j x y sits is_cut is_end same =
        let stays : length (selected i.op) ≡ 0 = ap length (i2s_selected i.op is_cut) in
        let sits' = subst (λ n. Sits (at + 1) n (j ∷ [])) (omega (arith, stays)) (sits_next at place i (j ∷ []) sits) in
        let stage : Stage 0 (j ∷ []) (Num (low_word x) ∷ []) (Word y ∷ []) = subst (λ z. Stage 0 (j ∷ []) (Num (low_word x) ∷ []) (Word z ∷ [])) (sym same) (closes is_end) in
        alone
        (name_does heap at place i (j ∷ []) sits args entries answers notes spent spent' (Num x ∷ []) _ (i2s_does i.op is_cut room at locals_now (name_store heap) x []))
        (active heap (at + 1) place (j ∷ []) args (Num (low_word x) ∷ []) (Word y ∷ []) entries answers notes (spent + 1) spent' sits' fits stage)

    pub stage_moves : {slack : ℕ} (rest : List JInsn) (stack : List Value) (cells : List Cell) → Sits at place rest → Stage slack rest stack cells → Moves slack (from stack) (from' cells)
    stage_moves [] _ _ sits (opens is some more) = cc
    stage_moves (i ∷ rest) _ _ sits (opens is some more) =
        let h = and_true (is_push k i.op) (is_rest k (ops_of rest)) is in
        push_moves i rest [] [] sits h.0 some some (omega arith) (λ x y same. one h.1 (λ e. more (or_true (is_iadd i.op) (list_any is_iadd (ops_of rest)) e)) same)
    stage_moves [] _ _ sits (one is more same) = cc
    stage_moves (i ∷ []) _ _ sits (one is more same) = cc
    stage_moves (i ∷ j ∷ []) _ _ sits (one {x = x} {y = y} is more same) =
        let h = and_true (is_i2s i.op) (is_ireturn j.op) is in cut_moves i j x y sits h.0 h.1 same
    stage_moves (i ∷ j ∷ c ∷ rest) _ _ sits (one {x = x} {y = y} is more same) =
        let h = and_true (is_push k i.op && is_iadd j.op) (is_rest k (ops_of (c ∷ rest))) is in
        let g = and_true (is_push k i.op) (is_iadd j.op) h.0 in
        let two_room = more (or_true (is_iadd i.op) (list_any is_iadd (ops_of (j ∷ c ∷ rest))) (ap (λ t. t || list_any is_iadd (ops_of (c ∷ rest))) g.1)) in
        push_moves i (j ∷ c ∷ rest) (Num x ∷ []) (Word y ∷ []) sits g.0 two_room two_room (omega arith) (λ z w again. two g.1 h.1 two_room same again)
    stage_moves _ _ _ sits (two {i = i} {rest = rest} {a = a} {b = b} {c = c} {d = d} is_add is_more two_room ab cd) = add_moves i rest a b c d sits is_add is_more two_room ab cd
    stage_moves _ _ _ sits (closes {i = i} {z = z} is_end) = close_moves i z sits is_end

  -- ---- entries

  -- what a turn does on both machines
  pub data Turned (slack : ℕ) (s : State) (t : ByToken.State) : Type 0 where
    moves : Moves slack s t → Turned slack s t
    over : {o : Outcome} {s' : State} {t' : ByToken.State} → turn by_name s ≡ Ended o s' → ByToken.turn by_token t ≡ ByToken.Ended o t' → Agree (ByToken.report by_token o t') (ByName.report o s') → o ≢ Running → ((at : ℕ) → o ≢ Stuck at) → Turned slack s t

  -- what is known of the method
  pub record IsSmall : Type 0 where
    pub some_room : 1 ≤ room
    pub two_room : list_any is_iadd (ops_of insns) ≡ true → 2 ≤ room
    pub little_room : room ≤ 15
    pub few_params : k ≤ 15
    pub locals_hold : k ≤ nlocals
    pub few_locals : nlocals ≤ 15
    pub sums : is_sum k (ops_of insns) ≡ true
    pub types : signature id.desc ≡ Some (record { params = replicate k Short; result = Some Short })
    pub named : same_text id.name initialiser ≡ false
    pub know : KnowAlike by_name by_token

  module _ (small : IsSmall) where
    abbrev begun : Begun
    begun = record { max_stack = room; nargs = k; max_locals = nlocals - k; first = 3; end = 3 + length code }

    -- the header is read
    header_read : header bytes ≡ Some (record { max_stack = room; nargs = k; max_locals = nlocals - k; size = 2 })
    unfolding header
    header_read =
        let b = 16 * k + (nlocals - k) in
        let none : room / 16 ≡ 0 = omega (arith, small.little_room) in
        let h : Header = record { max_stack = room % 16; nargs = b / 16; max_locals = b % 16; size = 2 } in
        let ea : room % 16 ≡ room = omega (arith, small.little_room) in
        let eb : b / 16 ≡ k = omega (arith, small.few_locals) in
        let ec : b % 16 ≡ nlocals - k = omega (arith, small.few_locals) in
        ap (λ n. if n == 0 then Some h else (if n == 8 then extended (b ∷ code) else None)) none
        ∙ ap (λ x. let g : Header = record { max_stack = x; nargs = b / 16; max_locals = b % 16; size = 2 } in Some g) ea
        ∙ ap (λ x. let g : Header = record { max_stack = room; nargs = x; max_locals = b % 16; size = 2 } in Some g) eb
        ∙ ap (λ x. let g : Header = record { max_stack = room; nargs = k; max_locals = x; size = 2 } in Some g) ec

    method_read : by_token.begun 1 ≡ Some begun
    method_read = ap (λ h. begun_with 1 h (described (all_methods (descriptor_part k (length code)).classes) 1)) header_read

    sits_first : Sits 0 3 insns
    sits_first = record { left = refl; lies = refl; some = omega arith; ends = refl }

    module _ (heap : List Thing) (number : ℕ) (acts : List Act) (member : MemberId) (args : List Value) (entries : List Entry) (answers : List Answer) (notes : List Note) (spent spent' : ℕ) where
      abbrev call : (virtual : Bool) → Entry
      call virtual = record { number = number; acts = acts; virtual_call = virtual; method = member; args = args }

      -- the heap after the acts, and whether they fitted
      abbrev ready : ByToken.Prepared
      ready = ByToken.prepared by_token acts heap

      abbrev rest_name : Bool → State
      rest_name virtual = named heap [] (call virtual ∷ entries) answers notes spent

      abbrev rest_card : Bool → ByToken.State
      rest_card virtual = carded heap [] (call virtual ∷ entries) answers notes spent'

      -- behind the acts
      abbrev then_name : Bool → State
      then_name virtual = named ready.heap [] (call virtual ∷ entries) answers notes spent

      abbrev then_card : Bool → ByToken.State
      then_card virtual = carded ready.heap [] (call virtual ∷ entries) answers notes spent'

      begin_name : Bool → Option Method → Turn
      begin_name virtual o = and_then (begun_in by_name o (call virtual) entries (then_name virtual)) (λ t. step by_name t.frames t)

      begin_card : Bool → Option ℕ → ByToken.Turn
      begin_card virtual o = ByToken.and_then (ByToken.begun_in by_token o (call virtual) entries (then_card virtual)) (λ t. ByToken.step by_token t.frames t)

      name_acts : (virtual : Bool) → turn by_name (rest_name virtual) ≡ and_then (if ready.fit then begun_in by_name (ByName.entry_method by_name (call virtual) (ByToken.named_heap by_token ready.heap)) (call virtual) entries (then_name virtual) else Ended (Unfit number) (then_name virtual)) (λ t. step by_name t.frames t)
      name_acts virtual = ap (λ p. and_then (ByName.begun_by by_name p (call virtual) entries (rest_name virtual)) (λ t. step by_name t.frames t)) (prepared_alike by_name by_token small.know acts heap)

      name_ready : (virtual : Bool) → ready.fit ≡ true → turn by_name (rest_name virtual) ≡ begin_name virtual (ByName.entry_method by_name (call virtual) (ByToken.named_heap by_token ready.heap))
      unfolding begin_name
      name_ready virtual e = name_acts virtual ∙ ap (λ t. and_then (if t then begun_in by_name (ByName.entry_method by_name (call virtual) (ByToken.named_heap by_token ready.heap)) (call virtual) entries (then_name virtual) else Ended (Unfit number) (then_name virtual)) (λ t. step by_name t.frames t)) e

      card_ready : (virtual : Bool) → ready.fit ≡ true → ByToken.turn by_token (rest_card virtual) ≡ begin_card virtual (ByToken.entry_offset by_token (call virtual) ready.heap)
      unfolding begin_card
      card_ready virtual e = ap (λ t. ByToken.and_then (if t then ByToken.begun_in by_token (ByToken.entry_offset by_token (call virtual) ready.heap) (call virtual) entries (then_card virtual) else ByToken.Ended (Unfit number) (then_card virtual)) (λ t. ByToken.step by_token t.frames t)) e

      is_unfit : (virtual : Bool) → turn by_name (rest_name virtual) ≡ Ended (Unfit number) (then_name virtual) → ByToken.turn by_token (rest_card virtual) ≡ ByToken.Ended (Unfit number) (then_card virtual) → Turned 0 (rest_name virtual) (rest_card virtual)
      is_unfit virtual e e' = over e e' (record { notes = refl; statics = refl; heap = refl; outcome = refl }) (λ h. cc) (λ at h. cc)

      begins : turn by_name (rest_name false) ≡ turn by_name (named ready.heap (at_name 0 [] args ∷ []) entries answers notes spent) → ByToken.turn by_token (rest_card false) ≡ ByToken.turn by_token (carded ready.heap (at_card 3 [] args ∷ []) entries answers notes spent') → fit args ≡ true → Turned 0 (rest_name false) (rest_card false)
      begins e e' fits = by (stage_moves ready.heap 0 3 args fits entries answers notes spent spent' insns [] [] sits_first (opens small.sums small.some_room small.two_room))
        where
          by : Moves 0 (named ready.heap (at_name 0 [] args ∷ []) entries answers notes spent) (carded ready.heap (at_card 3 [] args ∷ []) entries answers notes spent') → Turned 0 (rest_name false) (rest_card false)
          by (both a b tied le) = moves (both (e ∙ a) (e' ∙ b) tied le)

      abbrev unfit_or : Bool → Turn
      unfit_or t = and_then (if t then Next (named ready.heap (at_name 0 [] args ∷ []) entries answers notes spent) else Ended (Unfit number) (then_name false)) (λ t. step by_name t.frames t)

      abbrev unfit_or' : Bool → ByToken.Turn
      unfit_or' t = ByToken.and_then (if t then ByToken.Next (carded ready.heap (at_card 3 [] args ∷ []) entries answers notes spent') else ByToken.Ended (Unfit number) (then_card false)) (λ t. ByToken.step by_token t.frames t)

      name_found : ready.fit ≡ true → same_id id member ≡ true → same_text member.name initialiser ≡ false → turn by_name (rest_name false) ≡ unfit_or (fit args)
      unfolding begin_name
      name_found r e f =
          name_ready false r
          ∙ ap (λ t. begin_name false (if t && not (same_text member.name initialiser) then Some method else None)) e
          ∙ ap (λ t. begin_name false (if not t then Some method else None)) f
          ∙ ap unfit_or (fits_alike by_name.subtype by_name.subtype (ByToken.named_heap by_token ready.heap) [] k args)

      card_found : ready.fit ≡ true → same_id id member ≡ true → signature member.desc ≡ Some (record { params = replicate k Short; result = Some Short }) → ByToken.turn by_token (rest_card false) ≡ unfit_or' (fit args)
      unfolding begin_card
      card_found r e types =
          card_ready false r
          ∙ ap (λ t. begin_card false (if t && true then Some 1 else None)) e
          ∙ ap (λ o. ByToken.and_then (ByToken.begun_at by_token o (call false) entries (then_card false)) (λ t. ByToken.step by_token t.frames t)) method_read
          ∙ ap (λ o. unfit_or' (ByToken.args_fit by_token ready.heap o args)) types
          ∙ ap unfit_or' (fits_alike by_token.subtype by_name.subtype (ByToken.named_heap by_token ready.heap) [] k args)

      static_turned : ready.fit ≡ true → Turned 0 (rest_name false) (rest_card false)
      unfolding begin_name begin_card
      static_turned r = by (same_id id member) refl
        where
          fitting : same_id id member ≡ true → same_text member.name initialiser ≡ false → signature member.desc ≡ Some (record { params = replicate k Short; result = Some Short }) → (t : Bool) → fit args ≡ t → Turned 0 (rest_name false) (rest_card false)
          fitting e f types true fits = begins (name_found r e f ∙ ap unfit_or fits) (card_found r e types ∙ ap unfit_or' fits) fits
          fitting e f types false fits = is_unfit false (name_found r e f ∙ ap unfit_or fits) (card_found r e types ∙ ap unfit_or' fits)

          by : (t : Bool) → same_id id member ≡ t → Turned 0 (rest_name false) (rest_card false)
          by false e = is_unfit false
              (name_ready false r ∙ ap (λ t. begin_name false (if t && not (same_text member.name initialiser) then Some method else None)) e)
              (card_ready false r ∙ ap (λ t. begin_card false (if t && true then Some 1 else None)) e)
          by true e =
              let h = and_true (same_text id.class member.class && same_text id.name member.name) (same_text id.desc member.desc) e in
              let names = text_same id.name member.name (and_true (same_text id.class member.class) (same_text id.name member.name) h.0).1 in
              let descs = text_same id.desc member.desc h.1 in
              fitting e (ap (λ n. same_text n initialiser) (sym names) ∙ small.named) (ap signature (sym descs) ∙ small.types) (fit args) refl

      -- no method is selected on an object
      none_by_name : (heap : List ReportThing) (args : List Value) → ByName.selected_in by_name member heap args ≡ None
      none_by_name heap [] = refl
      none_by_name heap (Num z ∷ args) = refl
      none_by_name heap (Null ∷ args) = refl
      none_by_name heap (Obj o ∷ args) = by (slice_get heap o)
        where
          by : (t : Option ReportThing) → ByName.receiver_in by_name member t ≡ None
          by None = refl
          by (Some thing) = refl

      none_by_token : (heap : List Thing) (args : List Value) → ByToken.selected_in by_token member heap args ≡ None
      none_by_token heap [] = refl
      none_by_token heap (Num z ∷ args) = refl
      none_by_token heap (Null ∷ args) = refl
      none_by_token heap (Obj o ∷ args) = by (ByToken.class_in by_token (slice_get heap o))
        where
          by : (r : Option ClassRef) → ByToken.receiver_in by_token member r ≡ None
          by None = refl
          by (Some class) = refl

      virtual_turned : ready.fit ≡ true → Turned 0 (rest_name true) (rest_card true)
      unfolding begin_name begin_card
      virtual_turned r = is_unfit true
          (name_ready true r ∙ ap (begin_name true) (none_by_name (ByToken.named_heap by_token ready.heap) args))
          (card_ready true r ∙ ap (begin_card true) (none_by_token ready.heap args))

      entry_turned : (virtual : Bool) → Turned 0 (rest_name virtual) (rest_card virtual)
      entry_turned virtual = by virtual ready.fit refl
        where
          by : (virtual : Bool) (t : Bool) → ready.fit ≡ t → Turned 0 (rest_name virtual) (rest_card virtual)
          by true true r = virtual_turned r
          by false true r = static_turned r
          by virtual false r = is_unfit virtual
              (name_acts virtual ∙ ap (λ t. and_then (if t then begun_in by_name (ByName.entry_method by_name (call virtual) (ByToken.named_heap by_token ready.heap)) (call virtual) entries (then_name virtual) else Ended (Unfit number) (then_name virtual)) (λ t. step by_name t.frames t)) r)
              (ap (λ t. ByToken.and_then (if t then ByToken.begun_in by_token (ByToken.entry_offset by_token (call virtual) ready.heap) (call virtual) entries (then_card virtual) else ByToken.Ended (Unfit number) (then_card virtual)) (λ t. ByToken.step by_token t.frames t)) r)

    turned : {slack : ℕ} {s : State} {t : ByToken.State} → Tied slack s t → Turned slack s t
    turned (resting heap [] answers notes spent spent') = over {s' = named heap [] [] answers notes spent} {t' = carded heap [] [] answers notes spent'} refl refl (record { notes = refl; statics = refl; heap = refl; outcome = refl }) (λ h. cc) (λ at h. cc)
    turned (resting heap (e ∷ entries) answers notes spent spent') = entry_turned heap e.number e.acts e.method e.args entries answers notes spent spent' e.virtual_call
    turned (active heap at place rest args stack cells entries answers notes spent spent' sits fits stage) =
        moves (stage_moves heap at place args fits entries answers notes spent spent' rest stack cells sits stage)

    -- ---- runs

    -- n instructions by name are matched by so many by token
    pub record Reaches (slack n : ℕ) (s : State) (t : ByToken.State) : Type 0 where
      pub count : ℕ
      pub at_most : count ≤ n
      pub same : Agree (ByToken.run_from by_token count t) (ByName.run_from by_name n s)
      pub far : (ByName.run_from by_name n s).outcome ≡ Running → n ≤ 2 * count + slack
      pub fine : (at : ℕ) → (ByName.run_from by_name n s).outcome ≢ Stuck at

    at_once : {slack : ℕ} {s : State} {t : ByToken.State} → Tied slack s t → Reaches slack 0 s t
    at_once (resting heap [] answers notes spent spent') = record { count = 0; at_most = omega arith; same = record { notes = refl; statics = refl; heap = refl; outcome = refl }; far = λ e. omega arith; fine = λ at e. cc }
    at_once (resting heap (e ∷ entries) answers notes spent spent') = record { count = 0; at_most = omega arith; same = record { notes = refl; statics = refl; heap = refl; outcome = refl }; far = λ e. omega arith; fine = λ at e. cc }
    at_once (active heap at place rest args stack cells entries answers notes spent spent' sits fits stage) = record { count = 0; at_most = omega arith; same = record { notes = refl; statics = refl; heap = refl; outcome = refl }; far = λ e. omega arith; fine = λ at e. cc }

    after : (n : ℕ) {slack : ℕ} {s : State} {t : ByToken.State} → ((e : ℕ) (s' : State) (t' : ByToken.State) → Tied e s' t' → Reaches e n s' t') → Turned slack s t → Reaches slack (suc n) s t
    after n {slack = slack} {s = s} {t = t} reach (moves (both {e = e} {s' = s'} {t' = t'} a b tied le)) =
        let r = reach e s' t' tied in
        let name_on : ByName.run_from by_name (suc n) s ≡ ByName.run_from by_name n s' = ap (λ u. ByName.settled u (ByName.run_from by_name n)) a in
        let token_on : ByToken.run_from by_token (suc r.count) t ≡ ByToken.run_from by_token r.count t' = ap (λ u. ByToken.settled by_token u (ByToken.run_from by_token r.count)) b in
        record {
          count = suc r.count;
          at_most = omega (arith, r.at_most);
          same = agree_along token_on name_on r.same;
          far = λ going. let f = r.far (sym (ap (λ q. q.outcome) name_on) ∙ going) in omega (arith, f, le);
          fine = λ at is. r.fine at (sym (ap (λ q. q.outcome) name_on) ∙ is);
        }
    after n {s = s} {t = t} reach (moves (alone {s' = s'} a tied)) =
        let r = reach 0 s' t tied in
        let name_on : ByName.run_from by_name (suc n) s ≡ ByName.run_from by_name n s' = ap (λ u. ByName.settled u (ByName.run_from by_name n)) a in
        record {
          count = r.count;
          at_most = omega (arith, r.at_most);
          same = agree_along refl name_on r.same;
          far = λ going. let f = r.far (sym (ap (λ q. q.outcome) name_on) ∙ going) in omega (arith, f);
          fine = λ at is. r.fine at (sym (ap (λ q. q.outcome) name_on) ∙ is);
        }
    after n {s = s} {t = t} reach (over {o = o} {s' = s'} {t' = t'} a b same going stuck) =
        let name_on : ByName.run_from by_name (suc n) s ≡ ByName.report o s' = ap (λ u. ByName.settled u (ByName.run_from by_name n)) a in
        let token_on : ByToken.run_from by_token 1 t ≡ ByToken.report by_token o t' = ap (λ u. ByToken.settled by_token u (ByToken.run_from by_token 0)) b in
        record {
          count = 1;
          at_most = omega arith;
          same = agree_along token_on name_on same;
          far = λ is. absurd (going (sym (ap (λ q. q.outcome) name_on) ∙ is));
          fine = λ at is. stuck at (sym (ap (λ q. q.outcome) name_on) ∙ is);
        }

    pub all_reach : (n : ℕ) {slack : ℕ} {s : State} {t : ByToken.State} → Tied slack s t → Reaches slack n s t
    all_reach zero tied = at_once tied
    all_reach (suc n) tied = after n (λ e s' t' next. all_reach n next) (turned tied)
