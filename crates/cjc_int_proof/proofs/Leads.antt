-- Where the jumps and switches lead that are written in int mode.
use Rattle.std.proofs.Common.{◌≡◌, ℕ, suc, ◌+◌, ◌-◌, ◌<◌, ◌≤◌, arith, refl, Bool, true, false, List, [], ◌∷◌, ◌++◌}
use Rattle.std.proofs.Common.{length, slice_get}
use Rattle.std.specs.Prelude.{if◌then◌else◌, nat_le, ◌==◌, map, take, Option, Some, None, ℤ, pos, negsuc, ◌+ℤ◌}
use Rattle.std.specs.List.{list_any}
use Rattle.std.proofs.lemmas.List.{length-append}
use Rattle.cjc_types.specs.Steps.{targets}
use Rattle.cjc_types.specs.Bytes.declared.fault.MemberId.{MemberId}
use Rattle.cjc_layout.specs.Script.Sorts.{Sort, Boolean, Byte, Short, Int, Reference, NoValue, Shape, OfClass}
use Rattle.cjc_layout.specs.Script.Sorts.{OfNumbers}
use Rattle.cjc_layout.specs.Script.Sorts.{OfReferences, Booleans, Bytes, Shorts, Ints, Signature, field_sort}
use Rattle.cjc_layout.specs.Script.Sorts.{shape_named, signature_of}
use Rattle.cjc_layout.specs.CardSemantics.Bytecode.Arguments.{widths}
use Rattle.cjc_types.specs.ClassFile.Code.{CodeTree}
use Rattle.cjc_layout.specs.CapRead.Card as card
use Rattle.cjc_types.specs.Bytecode.Jvm as jvm
use Rattle.cjc_types.specs.Bytecode.declared.insn.JCase.{JCase}
use Rattle.cjc_types.specs.Bytecode.declared.insn.JOp.{JOp}
use Rattle.cjc_types.specs.Bytecode.declared.insn.JOp.TheVariants as jop
use Rattle.cjc_ncode.specs.declared.narrow.NInsn.{NInsn}
use Rattle.cjc_ncode.specs.declared.narrow.NInsn.TheVariants.{Op, Push, Local, Words, Jump, Named, Interface}
use Rattle.cjc_ncode.specs.declared.narrow.PoolKey.TheVariants as keys
use Rattle.cjc_ncode.specs.Written.{Resolution, call_by, condition, field_access, leaving, local, nargs_of, pair_case}
use Rattle.cjc_ncode.specs.Written.{static_access, type_test}
use Rattle.cjc_ncode.specs.IntCode.IntCode.{Before, Frame, Reached, called_with, copied, dropped, element_read}
use Rattle.cjc_ncode.specs.IntCode.IntCode.{element_written, field_get, field_put, first_word, guard, handed_over}
use Rattle.cjc_ncode.specs.IntCode.IntCode.{index_of_one, index_of_two, int_method, is_by_scratch, is_reference}
use Rattle.cjc_ncode.specs.IntCode.IntCode.{is_short, jumped, loads, moved, moved_from, narrowed, on_stack, place_in}
use Rattle.cjc_ncode.specs.IntCode.IntCode.{prologue, pushed, put_aside, returned, scratch, static_get, static_put}
use Rattle.cjc_ncode.specs.IntCode.IntCode.{stores, table_cases, taken_back, widened, widened_result, words, written}
use Rattle.cjc_ncode.specs.IntCode.IntCode.{written_from}
use Rattle.cjc_layout.specs.Sizes.{AllLead, CasesLead, Leads}
use Rattle.cjc_int_proof.specs.Labels.{LabelsStand}

module _ (count : ℕ) where
  -- these lead to places of the code
  abbrev Lead : List NInsn → Type 0
  Lead xs = AllLead count xs

  join : (xs ys : List NInsn) → Lead xs → Lead ys → Lead (xs ++ ys)
  join [] ys h k = k
  join (x ∷ xs) ys (h, rest) k = (h, join xs ys rest k)

  one : (i : NInsn) → Leads count i → Lead (i ∷ [])
  one i h = (h, tt)

  either : (b : Bool) (xs ys : List NInsn) → Lead xs → Lead ys → Lead (if b then xs else ys)
  either true xs ys h k = h
  either false xs ys h k = k

  either_one : (b : Bool) (x y : NInsn) → Leads count x → Leads count y → Leads count (if b then x else y)
  either_one true x y h k = h
  either_one false x y h k = k

  -- ---- numbers and locals

  pushes : (z : ℤ) → Lead (pushed z ∷ [])
  pushes (pos n) = one (pushed (pos n)) (either_one (nat_le n 5) (Op (card.iconst_0 + n)) (if nat_le n 127
      then Push card.bipush (pos n) else (if nat_le n 32767 then Push card.sipush (pos n)
      else Push card.iipush (pos n))) tt (either_one (nat_le n 127) (Push card.bipush (pos n)) (if nat_le n 32767
      then Push card.sipush (pos n) else Push card.iipush (pos n)) tt (either_one (nat_le n 32767)
      (Push card.sipush (pos n)) (Push card.iipush (pos n)) tt tt)))
  pushes (negsuc n) = one (pushed (negsuc n)) (either_one (n == 0) (Op card.iconst_m1) (if nat_le n 127
      then Push card.bipush (negsuc n) else (if nat_le n 32767 then Push card.sipush (negsuc n)
      else Push card.iipush (negsuc n))) tt (either_one (nat_le n 127) (Push card.bipush (negsuc n)) (if nat_le n 32767
      then Push card.sipush (negsuc n) else Push card.iipush (negsuc n)) tt (either_one (nat_le n 32767)
      (Push card.sipush (negsuc n)) (Push card.iipush (negsuc n)) tt tt)))

  locals : (short long n : ℕ) → Lead (local short long n)
  locals short long n = one (if nat_le n 3 then Op (short + n) else Local long n) (either_one (nat_le n 3) (Op (short
      + n)) (Local long n) tt tt)

  loading : (refs : Bool) (n : ℕ) → Lead (loads refs n)
  loading false n = locals card.iload_0 card.iload n
  loading true n = locals card.aload_0 card.aload n

  storing : (refs : Bool) (n : ℕ) → Lead (stores refs n)
  storing false n = locals card.istore_0 card.istore n
  storing true n = locals card.astore_0 card.astore n

  widening : (s : Sort) → Lead (widened s)
  widening s = either (is_short s) (Op card.s2i ∷ []) [] (tt, tt) tt

  narrowing : (s : Sort) → Lead (narrowed s)
  narrowing s = either (is_short s) (Op card.i2s ∷ []) [] (tt, tt) tt

  moving : (f : Frame) (s : Sort) (word l : ℕ) → Lead (moved f s word l)
  moving f s word l =
      let load : List NInsn = if is_short s then local card.sload_0 card.sload word else loads (is_reference s) word in
      join (load ++ widened s) (stores (is_reference s) (first_word f l))
      (join load (widened s) (either (is_short s) (local card.sload_0 card.sload word) (loads (is_reference s) word)
      (locals card.sload_0 card.sload word) (loading (is_reference s) word)) (widening s))
      (storing (is_reference s) (first_word f l))

  moves : (f : Frame) (word l : ℕ) (sorts : List Sort) → Lead (moved_from f word l sorts)
  moves f word l [] = tt
  moves f word l (s ∷ sorts) = join (moved f s word l) (moved_from f (word + widths (s ∷ [])) (l + 1) sorts)
      (moving f s word l) (moves f (word + widths (s ∷ [])) (l + 1) sorts)

  -- ---- elements

  guarding : (inside : Bool) (here : ℕ) → here + length (guard inside here) ≤ count → Lead (guard inside here)
  guarding true here le = (tt, tt)
  guarding false here le =
      let target : here + 8 < count = omega (arith, le) in (tt, (tt, (tt, (tt, (tt, (target, (tt, (tt, (tt, tt)))))))))

  reading : (op : ℕ) → Lead (element_read op)
  reading op = either (op == jvm.iaload) (Op card.iaload ∷ []) (if op == jvm.aaload then Op card.aaload ∷ []
      else (if op == jvm.baload then Op card.baload ∷ Op card.s2i ∷ [] else Op card.saload ∷ Op card.s2i ∷ [])) (tt, tt)
      (either (op == jvm.aaload) (Op card.aaload ∷ []) (if op == jvm.baload then Op card.baload ∷ Op card.s2i ∷ []
      else Op card.saload ∷ Op card.s2i ∷ []) (tt, tt) (either (op == jvm.baload) (Op card.baload ∷ Op card.s2i ∷ [])
      (Op card.saload ∷ Op card.s2i ∷ []) (tt, (tt, tt)) (tt, (tt, tt))))

  by_one : (inside : Bool) (here : ℕ) (op : ℕ) → here + length (index_of_one inside here ++ Op op ∷ []) ≤ count
      → Lead (index_of_one inside here ++ Op op ∷ [])
  by_one true here op le = (tt, (tt, (tt, (tt, tt))))
  by_one false here op le =
      let target : here + 1 + 8 < count = omega (arith, le) in
      (tt, (tt, (tt, (tt, (tt, (tt, (target, (tt, (tt, (tt, (tt, (tt, tt))))))))))))

  by_two : (inside : Bool) (here : ℕ) (op : ℕ) → here + length (index_of_two inside here ++ Op op ∷ []) ≤ count
      → Lead (index_of_two inside here ++ Op op ∷ [])
  by_two true here op le = (tt, (tt, (tt, (tt, tt))))
  by_two false here op le =
      let target : here + 1 + 8 < count = omega (arith, le) in
      (tt, (tt, (tt, (tt, (tt, (tt, (target, (tt, (tt, (tt, (tt, (tt, tt))))))))))))

  elements : (op : ℕ) (inside : Bool) (here : ℕ) → here + length (element_written op inside here) ≤ count
      → Lead (element_written op inside here)
  elements op inside here le = go (op == jvm.iastore) (op == jvm.aastore) le
    where
      narrow : ℕ
      narrow = if op == jvm.bastore then card.bastore else card.sastore

      go : (a b : Bool) → here + length (if a then index_of_two inside here ++ Op card.iastore ∷ [] else (if b
          then index_of_one inside here ++ Op card.aastore ∷ [] else Op card.i2s ∷ (index_of_one inside (here + 1) ++
          Op narrow ∷ []))) ≤ count → Lead (if a then index_of_two inside here ++ Op card.iastore ∷ [] else (if b
          then index_of_one inside here ++ Op card.aastore ∷ [] else Op card.i2s ∷ (index_of_one inside (here + 1) ++
          Op narrow ∷ [])))
      go true b h = by_two inside here card.iastore h
      go false true h = by_one inside here card.aastore h
      go false false h =
          let rest : (here + 1) + length (index_of_one inside (here + 1) ++ Op narrow ∷ []) ≤ count =
          omega (arith, h) in
          (tt, by_one inside (here + 1) narrow rest)

  -- ---- the stack

  dropping : (r : Bool) → Leads count (dropped r)
  dropping r = tt

  drops : (references : List Bool) → Lead (map dropped references)
  drops [] = tt
  drops (r ∷ references) = (tt, drops references)

  copying : (w : ℕ) → Leads count (copied w)
  copying w = either_one (w == 1) (Op card.dup) (if w == 2 then Op card.dup2 else Words card.dup_x w 0) tt (either_one
      (w == 2) (Op card.dup2) (Words card.dup_x w 0) tt tt)

  stacking : (op : ℕ) (references : List Bool) → Lead (on_stack op references)
  stacking op references = go (op == jvm.pop) (op == jvm.pop2) (op == jvm.dup) (op == jvm.dup2) (op == jvm.dup_x1)
      (op == jvm.dup_x2) (op == jvm.dup2_x1) (op == jvm.dup2_x2)
    where
      go : (a b c d e f g h : Bool) → Lead (if a then map dropped (take 1 references) else (if b
          then map dropped (take 2 references) else (if c then copied (words 1 references) ∷ [] else (if d
          then copied (words 2 references) ∷ []
          else (if e then Words card.dup_x (words 1 references) (words 2 references) ∷ []
          else (if f then Words card.dup_x (words 1 references) (words 3 references) ∷ []
          else (if g then Words card.dup_x (words 2 references) (words 3 references) ∷ []
          else (if h then Words card.dup_x (words 2 references) (words 4 references) ∷ []
          else Words card.swap_x (words 1 references) (words 2 references - words 1 references) ∷ []))))))))
      go true b c d e f g h = drops (take 1 references)
      go false true c d e f g h = drops (take 2 references)
      go false false true d e f g h = one (copied (words 1 references)) (copying (words 1 references))
      go false false false true e f g h = one (copied (words 2 references)) (copying (words 2 references))
      go false false false false true f g h = (tt, tt)
      go false false false false false true g h = (tt, tt)
      go false false false false false false true h = (tt, tt)
      go false false false false false false false true = (tt, tt)
      go false false false false false false false false = (tt, tt)

  -- ---- jumps, switches and returns

  jumping : (op target : ℕ) → target < count → Lead (jumped op target)
  jumping op target lt = go (nat_le op jvm.ifle) (nat_le op jvm.if_icmple)
    where
      go : (a b : Bool) → Lead (if a then Op card.iconst_0 ∷ Op card.icmp ∷ Jump (card.ifeq + (op - jvm.ifeq)) target
          ∷ [] else (if b then Op card.icmp ∷ Jump (card.ifeq + (op - jvm.if_icmpeq)) target ∷ []
          else Jump (condition op) target ∷ []))
      go true b = (tt, (tt, (lt, tt)))
      go false true = (tt, (lt, tt))
      go false false = (lt, tt)

  tables : (place : ℕ → ℕ) (low : ℤ) (ts : List ℕ) → ((j o : ℕ) → slice_get ts j ≡ Some o → place o < count)
      → CasesLead count (table_cases place low ts)
  tables place low [] h = tt
  tables place low (t ∷ ts) h = (h 0 t refl, tables place (low +ℤ pos 1) ts (λ j o e. h (suc j) o e))

  pairs : (place : ℕ → ℕ) (cases : List JCase) → ((j o : ℕ) → slice_get (map (λ c. c.target) cases) j ≡ Some o
      → place o < count) → CasesLead count (map (pair_case place) cases)
  pairs place [] h = tt
  pairs place (c ∷ cases) h = (h 0 c.target refl, pairs place cases (λ j o e. h (suc j) o e))

  returning : (result : Option Sort) → Lead (returned result)
  returning None = (tt, (tt, tt))
  returning (Some Boolean) = (tt, (tt, tt))
  returning (Some Byte) = (tt, (tt, tt))
  returning (Some Short) = (tt, (tt, tt))
  returning (Some Int) = (tt, tt)
  returning (Some (Reference shape)) = (tt, (tt, tt))
  returning (Some NoValue) = (tt, (tt, tt))

  -- ---- names

  testing : (op : ℕ) (type : Option (Shape (List ℕ))) → Lead (type_test op type)
  testing op None = tt
  testing op (Some (OfClass class)) = (tt, tt)
  testing op (Some (OfReferences class)) = (tt, tt)
  testing op (Some (OfNumbers Booleans)) = (tt, tt)
  testing op (Some (OfNumbers Bytes)) = (tt, tt)
  testing op (Some (OfNumbers Shorts)) = (tt, tt)
  testing op (Some (OfNumbers Ints)) = (tt, tt)

  asides : (f : Frame) (j : ℕ) (sorts : List Sort) → Lead (put_aside f j sorts)
  asides f j [] = tt
  asides f j (s ∷ sorts) = join (put_aside f (j + 1) sorts) (stores (is_reference s) (scratch f j)) (asides f (j + 1)
      sorts) (storing (is_reference s) (scratch f j))

  backs : (f : Frame) (j : ℕ) (sorts : List Sort) → Lead (taken_back f j sorts)
  backs f j [] = tt
  backs f j (s ∷ sorts) = join (loads (is_reference s) (scratch f j) ++ narrowed s) (taken_back f (j + 1) sorts)
      (join (loads (is_reference s) (scratch f j)) (narrowed s) (loading (is_reference s) (scratch f j)) (narrowing s))
      (backs f (j + 1) sorts)

  handing : (f : Frame) (params : List Sort) → Lead (handed_over f params)
  handing f params = either (is_by_scratch params) (put_aside f 0 params ++ taken_back f 0 params) (if list_any is_short
      params then Op card.i2s ∷ [] else []) (join (put_aside f 0 params) (taken_back f 0 params) (asides f 0 params)
      (backs f 0 params)) (either (list_any is_short params) (Op card.i2s ∷ []) [] (tt, tt) tt)

  module _ (f : Frame) (r : Resolution) where
    calling : (op : ℕ) (m : MemberId) → Lead (call_by r op m)
    calling op m = go (op == jvm.invokeinterface) (op == jvm.invokevirtual) (op == jvm.invokespecial)
      where
        go : (a b c : Bool) → Lead ((if a then Interface (nargs_of m) (r.interface m)
            else (if b then Named card.invokevirtual (r.virtual m) else (if c
            then Named card.invokespecial (r.special m) else Named card.invokestatic (r.static m)))) ∷ [])
        go true b c = (tt, tt)
        go false true c = (tt, tt)
        go false false true = (tt, tt)
        go false false false = (tt, tt)

    results : (result : Option Sort) → Lead (widened_result result)
    results None = tt
    results (Some s) = widening s

    sending : (op : ℕ) (m : MemberId) (types : Option Signature) → Lead (called_with f r op m types)
    sending op m None = calling op m
    sending op m (Some types) = join (handed_over f types.params ++ call_by r op m) (widened_result types.result)
        (join (handed_over f types.params) (call_by r op m) (handing f types.params) (calling op m))
        (results types.result)

    statics : (put : Bool) (g : MemberId) (constant : Option ℤ) → Lead (if put then static_put r g
        else static_get r g constant)
    statics true g constant = join (narrowed (field_sort g.desc)) (Named (static_access true (field_sort g.desc))
        (keys.StaticField (r.field g)) ∷ []) (narrowing (field_sort g.desc)) (tt, tt)
    statics false g (Some z) = pushes z
    statics false g None = (tt, widening (field_sort g.desc))

    fields : (put : Bool) (g : MemberId) → Lead (if put then field_put r g else field_get r g)
    fields true g = join (narrowed (field_sort g.desc)) (Named (field_access true (r.is_near g) (field_sort g.desc))
        (keys.Field (r.field g)) ∷ []) (narrowing (field_sort g.desc)) (tt, tt)
    fields false g = (tt, widening (field_sort g.desc))

    -- ---- an instruction

    leading : (place : ℕ → ℕ) (b : Before) (here : ℕ) (op : JOp) → here + length (written f r place b here op) ≤ count
        → ((j o : ℕ) → slice_get (targets op) j ≡ Some o → place o < count) → Lead (written f r place b here op)
    leading place b here jop.Nop le h = tt
    leading place b here jop.Null le h = (tt, tt)
    leading place b here (jop.Number z) le h = pushes z
    leading place b here (jop.Load refs l) le h = loading refs (first_word f l)
    leading place b here (jop.Store refs l) le h = storing refs (first_word f l)
    leading place b here (jop.ArrayLoad op) le h =
        let long = length-append (guard b.is_index_inside here) (element_read op) in
        join (guard b.is_index_inside here) (element_read op)
        (guarding b.is_index_inside here (omega (arith, le, long))) (reading op)
    leading place b here (jop.ArrayStore op) le h = elements op b.is_index_inside here le
    leading place b here (jop.Stack op) le h = stacking op b.references
    leading place b here (jop.Arith op) le h = (tt, tt)
    leading place b here (jop.Inc l by) le h = (tt, tt)
    leading place b here (jop.Narrow op) le h = (tt, (tt, tt))
    leading place b here (jop.If op target) le h = jumping op (place target) (h 0 target refl)
    leading place b here (jop.Goto target) le h = (h 0 target refl, tt)
    leading place b here (jop.TableSwitch other low ts) le h = (
      (
        h 0 other refl,
        tables place low ts (λ j o e. h (suc j)
            o e),
      ),
      tt,
    )
    leading place b here (jop.LookupSwitch other cases) le h = (
      (
        h 0 other refl,
        pairs place cases (λ j o e. h (suc j) o
            e),
      ),
      tt,
    )
    leading place b here (jop.Return op) le h = either (op == jvm.ireturn) (returned f.result) (Op (leaving op) ∷ [])
        (returning f.result) (tt, tt)
    leading place b here (jop.Static put g) le h = statics put g (r.constant g)
    leading place b here (jop.Field put g) le h = fields put g
    leading place b here (jop.Call op m) le h = sending op m (signature_of m.desc)
    leading place b here (jop.New class) le h = (tt, tt)
    leading place b here (jop.NewArray kind) le h = (tt, (tt, tt))
    leading place b here (jop.ANewArray class) le h = (tt, (tt, tt))
    leading place b here jop.ArrayLength le h = (tt, (tt, tt))
    leading place b here jop.Throw le h = (tt, tt)
    leading place b here (jop.CheckCast class) le h = testing card.checkcast (shape_named class)
    leading place b here (jop.InstanceOf class) le h = join (type_test card.instanceof (shape_named class)) (Op card.s2i
        ∷ []) (testing card.instanceof (shape_named class)) (tt, tt)

    -- ---- all

    all_lead : (place : ℕ → ℕ) (here : ℕ) (reached : List Reached)
        → here + length (written_from f r place here reached) ≤ count
        → ((k j o : ℕ) (i : Reached) → slice_get reached k ≡ Some i → slice_get (targets (let n = i.insn in n.op)) j
        ≡ Some o → place o < count) → Lead (written_from f r place here reached)
    all_lead place here [] le h = tt
    all_lead place here (i ∷ reached) le h =
        let n = i.insn in
        let new : List NInsn = written f r place i.before here n.op in
        let rest : List NInsn = written_from f r place (here + length new) reached in
        let long = length-append new rest in
        join new rest (leading place i.before here n.op (omega (arith, le, long)) (λ j o e. h 0 j o i refl e))
        (all_lead place (here + length new) reached (omega (arith, le, long)) (λ k j o x at e. h (suc k) j o x at e))

pub all_labels_stand : (f : Frame) (r : Resolution) (code : CodeTree) (reached : List Reached) (places : List ℕ)
    → (let m = int_method f r code reached places in LabelsStand f r reached (length m.insns)
    → AllLead (length m.insns) m.insns)
all_labels_stand f r code reached places h =
    let p = place_in f r reached in
    let front : List NInsn = prologue f in
    let back : List NInsn = written_from f r p (length front) reached in
    let long = length-append front back in
    join (length (front ++ back)) front back (moves (length (front ++ back)) f 0 0 f.params)
    (all_lead (length (front ++ back)) f r p (length front) reached (omega (arith, long)) h)
