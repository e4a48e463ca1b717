-- A method of its parts, and its numbers by its tables.
use Rattle.std.proofs.Common.{◌≡◌, ℕ, zero, suc, ◌+◌, ◌*◌, ◌<◌, ◌≤◌, ◌^◌, arith, refl, sym, ap, ◌∙◌, Bool, true}
use Rattle.std.proofs.Common.{false, List, [], ◌∷◌, ◌++◌, length, map, get_or, slice_get, Option, Some, None}
use Rattle.std.specs.Prelude.{option_map, nat_le}
use Rattle.std.proofs.lemmas.Bool.{leb-true, leb-false}
use Rattle.cjc_ncode.proofs.BytesLists.{length_mapped}
use Rattle.cjc_int_mode.specs.ClassFile.Code.{CodeTree}
use Rattle.cjc_int_mode.specs.ClassFile.declared.tree.ClassTree.{ClassTree}
use Rattle.cjc_int_mode.specs.ClassFile.declared.tree.MethodTree.{MethodTree}
use Rattle.cjc_int_mode.specs.Bytecode.declared.insn.JInsn.{JInsn}
use Rattle.cjc_int_mode.specs.Bytecode.declared.insn.JOp.{JOp}
use Rattle.cjc_int_mode.specs.Bytecode.declared.insn.JOp.TheVariants as jop
use Rattle.cjc_ncode.specs.declared.narrow.NMethod.{NMethod}
use Rattle.cjc_ncode.specs.Written.{Resolution, catches_at, reached}
use Rattle.cjc_ncode.specs.IntCode.IntCode.{Before as TableRow, Frame, Reached, int_method, nargs, place_in, prologue}
use Rattle.cjc_ncode.specs.IntCode.IntCode.{scratch_pairs, scratch_pairs_of, written_from}
use Rattle.cjc_int_mode.specs.Fixpoint.Tables.{HasRow}
use Rattle.cjc_narrow.specs.Types.declared.state.State.{State}
use Rattle.cjc_narrow.specs.Types.Flow.{Body, body_of}
use Rattle.cjc_int_mode.specs.Intervals.Frames.{RangeState}
use Rattle.cjc_int_mode.specs.Room.{many_words, high_stack}
use Rattle.cjc_int_mode.specs.Written.{before, int_frame, most_pairs, places_from, reached_from, written_in_int_mode}
use Rattle.cjc_int_mode.proofs.Written.{pairs_same}
use Rattle.cjc_int_narrow.specs.declared.known.Before.{Before}
use Rattle.cjc_int_narrow.specs.Operands.{CanBeSaid}
use Rattle.cjc_int_narrow.specs.Reached.{known, places_by, reached_by}
use Rattle.cjc_int_narrow.specs.Select.{AreBefore, IsSelectable, OperandsStand, rows_before}
use Rattle.cjc_int_narrow.specs.Working.Frames.{frame_of}
use Rattle.cjc_int_narrow.specs.Working.Whole.{AreParts, Fits}

-- ---- parts

pub assembled : (f : Frame) (r : Resolution) (code : CodeTree) (insns : List JInsn) (befores : List (Option Before))
    (place : ℕ → ℕ) (m : NMethod) → place ≡ place_in f r (reached_by insns befores)
    → AreParts f r code insns befores place m → m ≡ int_method f r code (reached_by insns befores) (places_by 0 insns
    befores)
assembled f r code insns befores place m places parts =
    let written = parts.has_insns ∙ ap (λ (p : ℕ → ℕ). prologue f ++ written_from f r p (length (prologue f))
    (reached_by insns befores)) places in
    let handlers = parts.has_catches ∙ ap (λ (p : ℕ → ℕ). catches_at p code.catches) places in
    (λ i. record {
      insns = written i;
      from = parts.has_from i;
      catches = handlers i;
      max_stack = parts.has_stack i;
      nargs = parts.has_nargs i;
      max_locals = parts.has_locals i;
      widest = parts.has_widest i;
    })

-- ---- tables

-- the rows of the first instruction and of the others
first_same : (b : Option Before) (befores : List (Option Before)) (row : Option TableRow)
    (rows : List (Option TableRow)) → map (option_map known) (b ∷ befores) ≡ row ∷ rows → option_map known b ≡ row
first_same b befores row rows e = cc

rest_same : (b : Option Before) (befores : List (Option Before)) (row : Option TableRow) (rows : List (Option TableRow))
    → map (option_map known) (b ∷ befores) ≡ row ∷ rows → map (option_map known) befores ≡ rows
rest_same b befores row rows e = cc

module _ (ranges : List (Option RangeState)) where
  same_reached : (place : ℕ) (insns : List JInsn) (types : List (Option State)) (befores : List (Option Before))
      → map (option_map known) befores ≡ rows_before ranges place insns types
      → reached_by insns befores ≡ reached_from ranges place insns types
  same_reached place [] types befores e = refl
  same_reached place (i ∷ insns) [] [] e = refl
  same_reached place (i ∷ insns) [] (b ∷ befores) e = absurd cc
  same_reached place (i ∷ insns) (t ∷ types) [] e = absurd cc
  same_reached place (i ∷ insns) (None ∷ types) (None ∷ befores) e = same_reached (place + 1) insns types befores
      (rest_same None befores None (rows_before ranges (place + 1) insns types) e)
  same_reached place (i ∷ insns) (Some t ∷ types) (None ∷ befores) e =
      let first = first_same None befores (Some (before i.op t (get_or ranges place None)))
      (rows_before ranges (place + 1) insns types) e in absurd cc
  same_reached place (i ∷ insns) (None ∷ types) (Some b ∷ befores) e =
      let first = first_same (Some b) befores None (rows_before ranges (place + 1) insns types) e in absurd cc
  same_reached place (i ∷ insns) (Some t ∷ types) (Some b ∷ befores) e =
      let row : TableRow = before i.op t (get_or ranges place None) in
      let first : Some (known b) ≡ Some row = first_same (Some b) befores (Some row)
      (rows_before ranges (place + 1) insns types) e in
      let same : known b ≡ row = cc in
      ap (λ (n : TableRow). record { insn = i; before = n } ∷ reached_by insns befores) same
      ∙ ap (λ (rest : List Reached). record { insn = i; before = row } ∷ rest) (same_reached (place + 1) insns types
      befores (rest_same (Some b) befores (Some row) (rows_before ranges (place + 1) insns types) e))

  same_places : (place : ℕ) (insns : List JInsn) (types : List (Option State)) (befores : List (Option Before))
      → map (option_map known) befores ≡ rows_before ranges place insns types
      → places_by place insns befores ≡ places_from place insns types
  same_places place [] types befores e = refl
  same_places place (i ∷ insns) [] [] e = refl
  same_places place (i ∷ insns) [] (b ∷ befores) e = absurd cc
  same_places place (i ∷ insns) (t ∷ types) [] e = absurd cc
  same_places place (i ∷ insns) (None ∷ types) (None ∷ befores) e = same_places (place + 1) insns types befores
      (rest_same None befores None (rows_before ranges (place + 1) insns types) e)
  same_places place (i ∷ insns) (Some t ∷ types) (None ∷ befores) e =
      let first = first_same None befores (Some (before i.op t (get_or ranges place None)))
      (rows_before ranges (place + 1) insns types) e in absurd cc
  same_places place (i ∷ insns) (None ∷ types) (Some b ∷ befores) e =
      let first = first_same (Some b) befores None (rows_before ranges (place + 1) insns types) e in absurd cc
  same_places place (i ∷ insns) (Some t ∷ types) (Some b ∷ befores) e =
      ap (λ (rest : List ℕ). place ∷ rest) (same_places (place + 1) insns types befores (rest_same (Some b) befores
      (Some (before i.op t (get_or ranges place None))) (rows_before ranges (place + 1) insns types) e))

  rows_long : (place : ℕ) (insns : List JInsn) (types : List (Option State)) → length types ≡ length insns
      → length (rows_before ranges place insns types) ≡ length insns
  rows_long place [] types e = refl
  rows_long place (i ∷ insns) [] e = absurd (omega (arith, e))
  rows_long place (i ∷ insns) (t ∷ types) e = ap suc (rows_long (place + 1) insns types (omega (arith, e)))

  there : (place : ℕ) (insns : List JInsn) (types : List (Option State)) (befores : List (Option Before)) (k : ℕ)
      (b : Before) → map (option_map known) befores ≡ rows_before ranges place insns types
      → slice_get befores k ≡ Some (Some b) → (x : State) × HasRow types k x
  there place insns types [] k b e at = absurd cc
  there place [] types (c ∷ befores) k b e at = absurd cc
  there place (i ∷ insns) [] (c ∷ befores) k b e at = absurd cc
  there place (i ∷ insns) (Some t ∷ types) (c ∷ befores) zero b e at = (t, refl)
  there place (i ∷ insns) (None ∷ types) (c ∷ befores) zero b e at =
      let first = first_same c befores None (rows_before ranges (place + 1) insns types) e in
      let is : c ≡ Some b = cc in absurd cc
  there place (i ∷ insns) (t ∷ types) (c ∷ befores) (suc k) b e at =
      there (place + 1) insns types befores k b
      (rest_same c befores (option_map (λ x. before i.op x (get_or ranges place None)) t)
      (rows_before ranges (place + 1) insns types) e) at

-- an instruction that is reached has no more pairs than the most
pairs_there : (insns : List JInsn) (befores : List (Option Before)) (k : ℕ) (i : JInsn) (b : Before)
    → slice_get insns k ≡ Some i → slice_get befores k ≡ Some (Some b)
    → scratch_pairs_of i.op ≤ scratch_pairs (reached_by insns befores)
pairs_there [] befores k i b is at = absurd cc
pairs_there (j ∷ insns) [] k i b is at = absurd cc
pairs_there (j ∷ insns) (None ∷ befores) zero i b is at = absurd cc
pairs_there (j ∷ insns) (Some c ∷ befores) zero i b is at =
    let same : j ≡ i = cc in
    let e : scratch_pairs_of j.op ≡ scratch_pairs_of i.op = ap (λ (n : JInsn). scratch_pairs_of n.op) same in
    omega (arith, e)
pairs_there (j ∷ insns) (None ∷ befores) (suc k) i b is at = pairs_there insns befores k i b is at
pairs_there (j ∷ insns) (Some c ∷ befores) (suc k) i b is at =
    let rest = pairs_there insns befores k i b is at in omega (arith, rest)

-- ---- bytes

pub few_enough : (n : ℕ) → (255 < n → ⊥) → n ≤ 255
few_enough n not_more = go (nat_le n 255) refl
  where
    go : (b : Bool) → nat_le n 255 ≡ b → n ≤ 255
    go true e = leb-true n 255 e
    go false e = absurd (not_more (leb-false n 255 e))

stands : (f : Frame) (pairs : ℕ) (op : JOp) → nargs f + (2 * f.max_locals + 2 * pairs) ≤ 255
    → scratch_pairs_of op ≤ pairs → OperandsStand f.max_locals op → CanBeSaid f op
stands f pairs (jop.Load refs l) words le lt = omega (arith, words, lt)
stands f pairs (jop.Store refs l) words le lt = omega (arith, words, lt)
stands f pairs (jop.Inc l by) words le lt = omega (arith, words, lt)
stands f pairs (jop.Call op m) words le interface = record { interface = interface; pairs = omega (arith, words, le) }
stands f pairs jop.Nop words le h = tt
stands f pairs jop.Null words le h = tt
stands f pairs (jop.Number z) words le h = tt
stands f pairs (jop.ArrayLoad op) words le h = tt
stands f pairs (jop.ArrayStore op) words le h = tt
stands f pairs (jop.Stack op) words le h = tt
stands f pairs (jop.Arith op) words le h = tt
stands f pairs (jop.Narrow op) words le h = tt
stands f pairs (jop.If op target) words le h = tt
stands f pairs (jop.Goto target) words le h = tt
stands f pairs (jop.TableSwitch other low targets) words le h = tt
stands f pairs (jop.LookupSwitch other cases) words le h = tt
stands f pairs (jop.Return op) words le h = tt
stands f pairs (jop.Static put field) words le h = tt
stands f pairs (jop.Field put field) words le h = tt
stands f pairs (jop.New class) words le h = tt
stands f pairs (jop.NewArray kind) words le h = tt
stands f pairs (jop.ANewArray class) words le h = tt
stands f pairs jop.ArrayLength words le h = tt
stands f pairs jop.Throw words le h = tt
stands f pairs (jop.CheckCast class) words le h = tt
stands f pairs (jop.InstanceOf class) words le h = tt

-- ---- the frame

-- what is read of a method is what its class file says
pub framed : (class : ClassTree) (method : MethodTree) (code : CodeTree) (insns : List JInsn) (holder desc : List ℕ)
    (max_locals : ℕ) → holder ≡ class.name → desc ≡ method.desc → max_locals ≡ code.max_locals
    → frame_of holder method.flags desc max_locals ≡ int_frame (body_of class method code insns)
unfolding frame_of
framed class method code insns holder desc max_locals is_holder is_desc are_locals =
    ap (λ (h : List ℕ). frame_of h method.flags desc max_locals) is_holder
    ∙ ap (λ (d : List ℕ). frame_of class.name method.flags d max_locals) is_desc
    ∙ ap (λ (m : ℕ). frame_of class.name method.flags method.desc m) are_locals

-- ---- a method by its tables

module _ (b : Body) (types : List (Option State)) (ranges : List (Option RangeState)) (befores : List (Option Before))
    (are : AreBefore b types ranges befores) where
  reached_are : reached_by b.insns befores ≡ reached_from ranges 0 b.insns types
  reached_are = same_reached ranges 0 b.insns types befores are

  pub written_whole : (r : Resolution) (code : CodeTree) (m : NMethod) → m ≡ int_method (int_frame b) r code
      (reached_by b.insns befores) (places_by 0 b.insns befores) → m ≡ written_in_int_mode r code b types ranges
  written_whole r code m is =
      is ∙ ap (λ (kept : List Reached). int_method (int_frame b) r code kept (places_by 0 b.insns befores)) reached_are
      ∙ ap (λ (places : List ℕ). int_method (int_frame b) r code (reached_from ranges 0 b.insns types) places)
      (same_places ranges 0 b.insns types befores are)

  pub fits : (code : CodeTree) → code.max_stack ≡ b.max_stack → length b.insns < 2 ^ 32 → IsSelectable b types
      → Fits (int_frame b) code b.insns befores
  fits code is_stack few selectable =
      let most : scratch_pairs (reached_by b.insns befores) ≡ most_pairs (reached b.insns types) =
      ap scratch_pairs reached_are ∙ pairs_same ranges 0 b.insns types in
      let stack : 2 * b.max_stack + 4 ≤ 255 = few_enough (2 * b.max_stack + 4)
      (λ gt. selectable.room (high_stack gt)) in
      let room : nargs (int_frame b) + (2 * b.max_locals + 2 * most_pairs (reached b.insns types)) ≤ 255 =
      few_enough (nargs (int_frame b) + (2 * b.max_locals + 2 * most_pairs (reached b.insns types)))
      (λ gt. selectable.room (many_words gt)) in
      let words : nargs (int_frame b) + (2 * b.max_locals + 2 * scratch_pairs (reached_by b.insns befores)) ≤ 255 =
      omega (arith, most, room) in
      record {
        stack = omega (arith, is_stack, stack);
        words = words;
        arguments = selectable.arguments;
        few = few;
        each = sym (length_mapped (option_map known) befores) ∙ ap length are
            ∙ rows_long ranges 0 b.insns types selectable.each;
        ascending = selectable.ascending;
        said = λ k i x is at. (let row = there ranges 0 b.insns types befores k x are at
            in stands (int_frame b) (scratch_pairs (reached_by b.insns befores)) i.op words
            (pairs_there b.insns befores k i x is at) (selectable.stand k i row.0 is row.1));
      }
