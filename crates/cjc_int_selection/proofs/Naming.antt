-- Each instruction that is written in int mode names nothing, or what the instruction of the class file names.
use Rattle.cjc_ncode.specs.Written.{written as outside_written}
use Rattle.std.proofs.Common.{◌≡◌, ℕ, zero, suc, ◌+◌, ◌-◌, refl, subst, Bool, true, false, List, [], ◌∷◌, ◌++◌, length}
use Rattle.std.proofs.Common.{slice_get, map, take}
use Rattle.std.specs.Prelude.{if◌then◌else◌, nat_le, ◌==◌, Option, Some, None, ℤ, pos, negsuc}
use Rattle.std.specs.List.{list_any}
use Rattle.cjc_int_narrow.specs.Bytes.declared.fault.MemberId.{MemberId}
use Rattle.cjc_int_narrow.specs.Script.Sorts.{Sort, Int, Signature, field_sort, shape_named, signature_of}
use Rattle.cjc_int_narrow.specs.CardSemantics.Bytecode.Arguments.{widths}
use Rattle.cjc_int_narrow.specs.ClassFile.Code.{CodeTree}
use Rattle.cjc_ncode.specs.LowerCapRead.Card as card
use Rattle.cjc_int_narrow.specs.Bytecode.Jvm as jvm
use Rattle.cjc_int_narrow.specs.Bytecode.declared.insn.JOp.{JOp}
use Rattle.cjc_int_narrow.specs.Bytecode.declared.insn.JOp.TheVariants as jop
use Rattle.cjc_ncode.specs.declared.narrow.NInsn.{NInsn}
use Rattle.cjc_ncode.specs.declared.narrow.NInsn.TheVariants.{Op, Push, Local, Inc, Words, Jump, Switch, Named}
use Rattle.cjc_ncode.specs.declared.narrow.NInsn.TheVariants.{NewArray}
use Rattle.cjc_ncode.specs.declared.narrow.PoolKey.TheVariants as keys
use Rattle.cjc_ncode.specs.Written.{Resolution, arithmetic, call_by, condition, element_number, field_access, is_byte}
use Rattle.cjc_ncode.specs.Written.{leaving, local, pair_case, static_access, type_test}
use Rattle.cjc_ncode.specs.IntCode.IntCode.{Before, Frame, Reached, called_with, copied, dropped, element_read}
use Rattle.cjc_ncode.specs.IntCode.IntCode.{element_written, field_get, field_put, first_word, guard, handed_over}
use Rattle.cjc_ncode.specs.IntCode.IntCode.{index_of_one, index_of_two, int_method, is_by_scratch, is_reference}
use Rattle.cjc_ncode.specs.IntCode.IntCode.{is_short, jumped, loads, moved, moved_from, narrowed, on_stack, place_in}
use Rattle.cjc_ncode.specs.IntCode.IntCode.{prologue, pushed, put_aside, returned, scratch, static_get, static_put}
use Rattle.cjc_ncode.specs.IntCode.IntCode.{stores, table_cases, taken_back, widened, widened_result, words, written}
use Rattle.cjc_ncode.specs.IntCode.IntCode.{written_from}
use Rattle.cjc_int_narrow.specs.LowerIntProof.Operands.{names_nothing}
use Rattle.cjc_int_selection.specs.Names.{NamesAs, NamesAsOneOf, as_one, has_name, no_name, nothing, outside}
use Rattle.cjc_int_selection.specs.Names.{static_field}

-- these name nothing
AllPlain : List NInsn → Type 0
AllPlain [] = Unit {0}
AllPlain (i ∷ insns) = (names_nothing i ≡ true) × AllPlain insns

none : AllPlain []
unfolding AllPlain
none = tt

before_all : (i : NInsn) (insns : List NInsn) → names_nothing i ≡ true → AllPlain insns → AllPlain (i ∷ insns)
unfolding AllPlain
before_all i insns h k = (h, k)

join : (xs ys : List NInsn) → AllPlain xs → AllPlain ys → AllPlain (xs ++ ys)
unfolding AllPlain
join [] ys h k = k
join (x ∷ xs) ys h k = (h.0, join xs ys h.1 k)

one : (i : NInsn) → names_nothing i ≡ true → AllPlain (i ∷ [])
one i h = before_all i [] h none

either : (b : Bool) (xs ys : List NInsn) → AllPlain xs → AllPlain ys → AllPlain (if b then xs else ys)
either true xs ys h k = h
either false xs ys h k = k

either_one : (b : Bool) (x y : NInsn) → names_nothing x ≡ true → names_nothing y ≡ true
    → names_nothing (if b then x else y) ≡ true
either_one true x y h k = h
either_one false x y h k = k

bares : (n : ℕ) → AllPlain (Op n ∷ [])
bares n = one (Op n) refl

two_bares : (n m : ℕ) → AllPlain (Op n ∷ Op m ∷ [])
two_bares n m = before_all (Op n) (Op m ∷ []) refl (bares m)

-- ---- numbers and locals

pushes : (z : ℤ) → names_nothing (pushed z) ≡ true
pushes (pos n) = either_one (nat_le n 5) (Op (card.iconst_0 + n)) (if nat_le n 127 then Push card.bipush (pos n)
    else (if nat_le n 32767 then Push card.sipush (pos n) else Push card.iipush (pos n))) refl
    (either_one (nat_le n 127) (Push card.bipush (pos n)) (if nat_le n 32767 then Push card.sipush (pos n)
    else Push card.iipush (pos n)) refl (either_one (nat_le n 32767) (Push card.sipush (pos n))
    (Push card.iipush (pos n)) refl refl))
pushes (negsuc n) = either_one (n == 0) (Op card.iconst_m1) (if nat_le n 127 then Push card.bipush (negsuc n)
    else (if nat_le n 32767 then Push card.sipush (negsuc n) else Push card.iipush (negsuc n))) refl
    (either_one (nat_le n 127) (Push card.bipush (negsuc n)) (if nat_le n 32767 then Push card.sipush (negsuc n)
    else Push card.iipush (negsuc n)) refl (either_one (nat_le n 32767) (Push card.sipush (negsuc n))
    (Push card.iipush (negsuc n)) refl refl))

locals : (short long n : ℕ) → AllPlain (local short long n)
locals short long n = one (if nat_le n 3 then Op (short + n) else Local long n) (either_one (nat_le n 3) (Op (short
    + n)) (Local long n) refl refl)

loading : (refs : Bool) (n : ℕ) → AllPlain (loads refs n)
loading false n = locals card.iload_0 card.iload n
loading true n = locals card.aload_0 card.aload n

storing : (refs : Bool) (n : ℕ) → AllPlain (stores refs n)
storing false n = locals card.istore_0 card.istore n
storing true n = locals card.astore_0 card.astore n

widening : (s : Sort) → AllPlain (widened s)
widening s = either (is_short s) (Op card.s2i ∷ []) [] (bares card.s2i) none

narrowing : (s : Sort) → AllPlain (narrowed s)
narrowing s = either (is_short s) (Op card.i2s ∷ []) [] (bares card.i2s) none

moving : (f : Frame) (s : Sort) (word l : ℕ) → AllPlain (moved f s word l)
moving f s word l =
    let load : List NInsn = if is_short s then local card.sload_0 card.sload word else loads (is_reference s) word in
    join (load ++ widened s) (stores (is_reference s) (first_word f l))
    (join load (widened s) (either (is_short s) (local card.sload_0 card.sload word) (loads (is_reference s) word)
    (locals card.sload_0 card.sload word) (loading (is_reference s) word)) (widening s))
    (storing (is_reference s) (first_word f l))

moves : (f : Frame) (word l : ℕ) (sorts : List Sort) → AllPlain (moved_from f word l sorts)
moves f word l [] = none
moves f word l (s ∷ sorts) = join (moved f s word l) (moved_from f (word + widths (s ∷ [])) (l + 1) sorts)
    (moving f s word l) (moves f (word + widths (s ∷ [])) (l + 1) sorts)

-- ---- elements

guarding : (inside : Bool) (here : ℕ) → AllPlain (guard inside here)
unfolding AllPlain
guarding true here = bares card.i2s
guarding false here = (refl, (refl, (refl, (refl, (refl, (refl, (refl, (refl, (refl, tt)))))))))

reading : (n : ℕ) → AllPlain (element_read n)
reading n = either (n == jvm.iaload) (Op card.iaload ∷ []) (if n == jvm.aaload then Op card.aaload ∷ []
    else (if n == jvm.baload then Op card.baload ∷ Op card.s2i ∷ [] else Op card.saload ∷ Op card.s2i ∷ []))
    (bares card.iaload) (either (n == jvm.aaload) (Op card.aaload ∷ []) (if n == jvm.baload then Op card.baload
    ∷ Op card.s2i ∷ [] else Op card.saload ∷ Op card.s2i ∷ []) (bares card.aaload) (either (n == jvm.baload)
    (Op card.baload ∷ Op card.s2i ∷ []) (Op card.saload ∷ Op card.s2i ∷ []) (two_bares card.baload card.s2i)
    (two_bares card.saload card.s2i)))

one_words : (op a b : ℕ) → AllPlain (Words op a b ∷ [])
one_words op a b = one (Words op a b) refl

of_one : (inside : Bool) (here : ℕ) → AllPlain (index_of_one inside here)
of_one inside here = before_all (Words card.swap_x 1 2) (guard inside (here + 1) ++ Words card.swap_x 1 1 ∷ []) refl
    (join (guard inside (here + 1)) (Words card.swap_x 1 1 ∷ []) (guarding inside (here + 1))
    (one_words card.swap_x 1 1))

of_two : (inside : Bool) (here : ℕ) → AllPlain (index_of_two inside here)
of_two inside here = before_all (Words card.swap_x 2 2) (guard inside (here + 1) ++ Words card.swap_x 1 2 ∷ []) refl
    (join (guard inside (here + 1)) (Words card.swap_x 1 2 ∷ []) (guarding inside (here + 1))
    (one_words card.swap_x 1 2))

elements : (n : ℕ) (inside : Bool) (here : ℕ) → AllPlain (element_written n inside here)
elements n inside here = go (n == jvm.iastore) (n == jvm.aastore)
  where
    last : NInsn
    last = Op (if n == jvm.bastore then card.bastore else card.sastore)

    go : (a b : Bool) → AllPlain (if a then index_of_two inside here ++ Op card.iastore ∷ [] else (if b
        then index_of_one inside here ++ Op card.aastore ∷ []
        else Op card.i2s ∷ (index_of_one inside (here + 1) ++ Op (if n == jvm.bastore then card.bastore
        else card.sastore) ∷ [])))
    go true b = join (index_of_two inside here) (Op card.iastore ∷ []) (of_two inside here) (bares card.iastore)
    go false true = join (index_of_one inside here) (Op card.aastore ∷ []) (of_one inside here) (bares card.aastore)
    go false false = before_all (Op card.i2s) (index_of_one inside (here + 1) ++ Op (if n == jvm.bastore
        then card.bastore else card.sastore) ∷ []) refl (join (index_of_one inside (here + 1)) (Op (if n == jvm.bastore
        then card.bastore else card.sastore) ∷ []) (of_one inside (here + 1)) (bares _))

-- ---- the stack

drops : (references : List Bool) → AllPlain (map dropped references)
unfolding AllPlain
drops [] = tt
drops (r ∷ references) = (refl, drops references)

copies : (w : ℕ) → AllPlain (copied w ∷ [])
copies w = one (copied w) (either_one (w == 1) (Op card.dup) (if w == 2 then Op card.dup2
    else Words card.dup_x w 0) refl (either_one (w == 2) (Op card.dup2) (Words card.dup_x w 0) refl refl))

stacking : (n : ℕ) (references : List Bool) → AllPlain (on_stack n references)
stacking n refs = go (n == jvm.pop) (n == jvm.pop2) (n == jvm.dup) (n == jvm.dup2) (n == jvm.dup_x1) (n == jvm.dup_x2)
    (n == jvm.dup2_x1) (n == jvm.dup2_x2)
  where
    go : (a b c d e f g h : Bool) → AllPlain (if a then map dropped (take 1 refs) else (if b
        then map dropped (take 2 refs) else (if c then copied (words 1 refs) ∷ [] else (if d
        then copied (words 2 refs) ∷ [] else (if e then Words card.dup_x (words 1 refs) (words 2 refs) ∷ [] else (if f
        then Words card.dup_x (words 1 refs) (words 3 refs) ∷ [] else (if g
        then Words card.dup_x (words 2 refs) (words 3 refs) ∷ [] else (if h
        then Words card.dup_x (words 2 refs) (words 4 refs) ∷ []
        else Words card.swap_x (words 1 refs) (words 2 refs - words 1 refs) ∷ []))))))))
    go true b c d e f g h = drops (take 1 refs)
    go false true c d e f g h = drops (take 2 refs)
    go false false true d e f g h = copies (words 1 refs)
    go false false false true e f g h = copies (words 2 refs)
    go false false false false true f g h = one_words card.dup_x (words 1 refs) (words 2 refs)
    go false false false false false true g h = one_words card.dup_x (words 1 refs) (words 3 refs)
    go false false false false false false true h = one_words card.dup_x (words 2 refs) (words 3 refs)
    go false false false false false false false true = one_words card.dup_x (words 2 refs) (words 4 refs)
    go false false false false false false false false = one_words card.swap_x (words 1 refs) (words 2 refs
        - words 1 refs)

-- ---- jumps and returns

jumping : (n target : ℕ) → AllPlain (jumped n target)
unfolding AllPlain
jumping n target = go (nat_le n jvm.ifle) (nat_le n jvm.if_icmple)
  where
    go : (a b : Bool) → AllPlain (if a then Op card.iconst_0 ∷ Op card.icmp ∷ Jump (card.ifeq + (n - jvm.ifeq)) target
        ∷ [] else (if b then Op card.icmp ∷ Jump (card.ifeq + (n - jvm.if_icmpeq)) target ∷ []
        else Jump (condition n) target ∷ []))
    go true b = (refl, (refl, (refl, tt)))
    go false true = (refl, (refl, tt))
    go false false = (refl, tt)

returning : (result : Option Sort) → AllPlain (returned result)
returning None = two_bares card.i2s card.sreturn
returning (Some Int) = bares card.ireturn
returning (Some s) = two_bares card.i2s card.sreturn

-- ---- parameters of a call

asides : (f : Frame) (j : ℕ) (sorts : List Sort) → AllPlain (put_aside f j sorts)
asides f j [] = none
asides f j (s ∷ sorts) = join (put_aside f (j + 1) sorts) (stores (is_reference s) (scratch f j))
    (asides f (j + 1) sorts) (storing (is_reference s) (scratch f j))

backs : (f : Frame) (j : ℕ) (sorts : List Sort) → AllPlain (taken_back f j sorts)
backs f j [] = none
backs f j (s ∷ sorts) = join (loads (is_reference s) (scratch f j) ++ narrowed s) (taken_back f (j + 1) sorts)
    (join (loads (is_reference s) (scratch f j)) (narrowed s) (loading (is_reference s) (scratch f j)) (narrowing s))
    (backs f (j + 1) sorts)

handing : (f : Frame) (params : List Sort) → AllPlain (handed_over f params)
handing f params = either (is_by_scratch params) (put_aside f 0 params ++ taken_back f 0 params) (if list_any is_short
    params then Op card.i2s ∷ [] else []) (join (put_aside f 0 params) (taken_back f 0 params) (asides f 0 params)
    (backs f 0 params)) (either (list_any is_short params) (Op card.i2s ∷ []) [] (bares card.i2s) none)

results : (result : Option Sort) → AllPlain (widened_result result)
results None = none
results (Some s) = widening s

-- ---- what names something

module _ (r : Resolution) where
  -- these name what the instruction does
  AllName : JOp → List NInsn → Type 0
  AllName op [] = Unit {0}
  AllName op (i ∷ insns) = NamesAs r op i × AllName op insns

  plain : (op : JOp) (insns : List NInsn) → AllPlain insns → AllName op insns
  unfolding AllPlain AllName
  plain op [] h = tt
  plain op (i ∷ insns) h = (nothing h.0, plain op insns h.1)

  names : (op : JOp) (i : NInsn) → NamesAs r op i → AllName op (i ∷ [])
  unfolding AllName
  names op i h = (h, tt)

  both : (op : JOp) (xs ys : List NInsn) → AllName op xs → AllName op ys → AllName op (xs ++ ys)
  unfolding AllName
  both op [] ys h k = k
  both op (x ∷ xs) ys h k = (h.0, both op xs ys h.1 k)

  there : (op : JOp) (xs : List NInsn) (k : ℕ) (i : NInsn) → AllName op xs → slice_get xs k ≡ Some i → NamesAs r op i
  unfolding AllName
  there op [] k i h e = absurd cc
  there op (x ∷ xs) zero i h e = let same : x ≡ i = cc in subst (NamesAs r op) same h.0
  there op (x ∷ xs) (suc k) i h e = there op xs k i h.1 e

  -- what is written outside int mode
  written_outside : (op : JOp) → has_name op ≡ true → (xs : List NInsn) → ((k : ℕ) (i : NInsn) → slice_get xs k ≡ Some i
      → slice_get (outside_written r (λ o. 0) op) k ≡ Some i) → AllName op xs
  unfolding AllName
  written_outside op has xs h = go xs (λ k i e. outside has k (h k i e))
    where
      go : (ys : List NInsn) → ((k : ℕ) (i : NInsn) → slice_get ys k ≡ Some i → NamesAs r op i) → AllName op ys
      go [] g = tt
      go (y ∷ ys) g = (g 0 y refl, go ys (λ k i e. g (suc k) i e))

  same_outside : (op : JOp) → has_name op ≡ true → AllName op (outside_written r (λ o. 0) op)
  same_outside op has = written_outside op has (outside_written r (λ o. 0) op) (λ k i e. e)

  module _ (f : Frame) where
    sends : (op : ℕ) (m : MemberId) (types : Option Signature)
        → AllName (jop.Call op m) (called_with f r op m types)
    sends op m None = same_outside (jop.Call op m) refl
    sends op m (Some types) =
        let all = jop.Call op m in
        both all (handed_over f types.params ++ call_by r op m) (widened_result types.result)
        (both all (handed_over f types.params) (call_by r op m) (plain all (handed_over f types.params)
        (handing f types.params)) (same_outside all refl))
        (plain all (widened_result types.result) (results types.result))

    statics : (put : Bool) (g : MemberId) (constant : Option ℤ) → r.constant g ≡ constant → AllName (jop.Static put g)
        (if put then static_put r g else static_get r g constant)
    statics true g constant e =
        let op = jop.Static true g in
        let access : NInsn = Named (static_access true (field_sort g.desc)) (keys.StaticField (r.field g)) in
        both op (narrowed (field_sort g.desc)) (access ∷ []) (plain op (narrowed (field_sort g.desc))
        (narrowing (field_sort g.desc))) (names op access (static_field true g refl (λ h. absurd cc) refl))
    statics false g (Some z) e = plain (jop.Static false g) (pushed z ∷ []) (one (pushed z) (pushes z))
    statics false g None e =
        let op = jop.Static false g in
        let access : NInsn = Named (static_access false (field_sort g.desc)) (keys.StaticField (r.field g)) in
        both op (access ∷ []) (widened (field_sort g.desc)) (names op access (static_field false g refl (λ h. e) refl))
        (plain op (widened (field_sort g.desc)) (widening (field_sort g.desc)))

    fields : (put : Bool) (g : MemberId) → AllName (jop.Field put g) (if put then field_put r g else field_get r g)
    fields true g =
        let op = jop.Field true g in
        let access : NInsn = Named (field_access true (r.is_near g) (field_sort g.desc)) (keys.Field (r.field g)) in
        both op (narrowed (field_sort g.desc)) (access ∷ []) (plain op (narrowed (field_sort g.desc))
        (narrowing (field_sort g.desc))) (same_outside op refl)
    fields false g =
        let op = jop.Field false g in
        let access : NInsn = Named (field_access false (r.is_near g) (field_sort g.desc)) (keys.Field (r.field g)) in
        both op (access ∷ []) (widened (field_sort g.desc)) (same_outside op refl)
        (plain op (widened (field_sort g.desc)) (widening (field_sort g.desc)))

    -- ---- an instruction

    naming : (place : ℕ → ℕ) (b : Before) (here : ℕ) (op : JOp) → AllName op (written f r place b here op)
    naming place b here jop.Nop = plain jop.Nop [] none
    naming place b here jop.Null = plain jop.Null (Op card.aconst_null ∷ []) (bares card.aconst_null)
    naming place b here (jop.Number z) = plain (jop.Number z) (pushed z ∷ []) (one (pushed z) (pushes z))
    naming place b here (jop.Load refs l) = plain (jop.Load refs l) (loads refs (first_word f l))
        (loading refs (first_word f l))
    naming place b here (jop.Store refs l) = plain (jop.Store refs l) (stores refs (first_word f l))
        (storing refs (first_word f l))
    naming place b here (jop.ArrayLoad n) = plain (jop.ArrayLoad n) (guard b.is_index_inside here ++ element_read n)
        (join (guard b.is_index_inside here) (element_read n) (guarding b.is_index_inside here) (reading n))
    naming place b here (jop.ArrayStore n) = plain (jop.ArrayStore n) (element_written n b.is_index_inside here)
        (elements n b.is_index_inside here)
    naming place b here (jop.Stack n) = plain (jop.Stack n) (on_stack n b.references) (stacking n b.references)
    naming place b here (jop.Arith n) = plain (jop.Arith n) (Op (arithmetic n + 1) ∷ []) (bares (arithmetic n + 1))
    naming place b here (jop.Inc l by) =
        let step : NInsn = Inc (if is_byte by then card.iinc else card.iinc_w) (first_word f l) by in
        plain (jop.Inc l by) (step ∷ []) (one step refl)
    naming place b here (jop.Narrow n) =
        let cut = if n == jvm.i2b then card.i2b else card.i2s in
        plain (jop.Narrow n) (Op cut ∷ Op card.s2i ∷ []) (two_bares cut card.s2i)
    naming place b here (jop.If n target) = plain (jop.If n target) (jumped n (place target)) (jumping n (place target))
    naming place b here (jop.Goto target) = plain (jop.Goto target) (Jump card.goto (place target) ∷ [])
        (one (Jump card.goto (place target)) refl)
    naming place b here (jop.TableSwitch other low ts) =
        let switch : NInsn = Switch card.itableswitch (place other) low (table_cases place low ts) in
        plain (jop.TableSwitch other low ts) (switch ∷ []) (one switch refl)
    naming place b here (jop.LookupSwitch other cases) =
        let switch : NInsn = Switch card.ilookupswitch (place other) (pos 0) (map (pair_case place) cases) in
        plain (jop.LookupSwitch other cases) (switch ∷ []) (one switch refl)
    naming place b here (jop.Return n) = plain (jop.Return n) (if n == jvm.ireturn then returned f.result
        else Op (leaving n) ∷ []) (either (n == jvm.ireturn) (returned f.result) (Op (leaving n) ∷ [])
        (returning f.result) (bares (leaving n)))
    naming place b here (jop.Static put g) = statics put g (r.constant g) refl
    naming place b here (jop.Field put g) = fields put g
    naming place b here (jop.Call n m) = sends n m (signature_of m.desc)
    naming place b here (jop.New class) = same_outside (jop.New class) refl
    naming place b here (jop.NewArray kind) =
        let make : NInsn = NewArray (element_number kind) in
        plain (jop.NewArray kind) (Op card.i2s ∷ make ∷ []) (before_all (Op card.i2s) (make ∷ []) refl (one make refl))
    naming place b here (jop.ANewArray class) =
        let op = jop.ANewArray class in
        let make : NInsn = Named card.anewarray (keys.Class class) in
        both op (Op card.i2s ∷ []) (make ∷ []) (plain op (Op card.i2s ∷ []) (bares card.i2s)) (same_outside op refl)
    naming place b here jop.ArrayLength = plain jop.ArrayLength (Op card.arraylength ∷ Op card.s2i ∷ [])
        (two_bares card.arraylength card.s2i)
    naming place b here jop.Throw = plain jop.Throw (Op card.athrow ∷ []) (bares card.athrow)
    naming place b here (jop.CheckCast class) = same_outside (jop.CheckCast class) refl
    naming place b here (jop.InstanceOf class) =
        let op = jop.InstanceOf class in
        both op (type_test card.instanceof (shape_named class)) (Op card.s2i ∷ []) (same_outside op refl)
        (plain op (Op card.s2i ∷ []) (bares card.s2i))

    -- ---- all

    AllOf : List Reached → List NInsn → Type 0
    AllOf reached [] = Unit {0}
    AllOf reached (i ∷ insns) = NamesAsOneOf r reached i × AllOf reached insns

    there_of : (reached : List Reached) (xs : List NInsn) (k : ℕ) (i : NInsn) → AllOf reached xs
        → slice_get xs k ≡ Some i → NamesAsOneOf r reached i
    unfolding AllOf
    there_of reached [] k i h e = absurd cc
    there_of reached (x ∷ xs) zero i h e = let same : x ≡ i = cc in subst (NamesAsOneOf r reached) same h.0
    there_of reached (x ∷ xs) (suc k) i h e = there_of reached xs k i h.1 e

    both_of : (reached : List Reached) (xs ys : List NInsn) → AllOf reached xs → AllOf reached ys
        → AllOf reached (xs ++ ys)
    unfolding AllOf
    both_of reached [] ys h k = k
    both_of reached (x ∷ xs) ys h k = (h.0, both_of reached xs ys h.1 k)

    plain_of : (reached : List Reached) (xs : List NInsn) → AllPlain xs → AllOf reached xs
    unfolding AllPlain AllOf
    plain_of reached [] h = tt
    plain_of reached (x ∷ xs) h = (no_name h.0, plain_of reached xs h.1)

    first_of : (j : Reached) (reached : List Reached) (xs : List NInsn) → AllName (let n = j.insn in n.op) xs
        → AllOf (j ∷ reached) xs
    unfolding AllName AllOf
    first_of j reached [] h = tt
    first_of j reached (x ∷ xs) h = (as_one 0 j refl h.0, first_of j reached xs h.1)

    later : (j : Reached) (reached : List Reached) (i : NInsn) → NamesAsOneOf r reached i
        → NamesAsOneOf r (j ∷ reached) i
    later j reached i (no_name h) = no_name h
    later j reached i (as_one k n e h) = as_one (suc k) n e h

    later_of : (j : Reached) (reached : List Reached) (xs : List NInsn) → AllOf reached xs → AllOf (j ∷ reached) xs
    unfolding AllOf
    later_of j reached [] h = tt
    later_of j reached (x ∷ xs) h = (later j reached x h.0, later_of j reached xs h.1)

    all_name : (place : ℕ → ℕ) (here : ℕ) (reached : List Reached) → AllOf reached (written_from f r place here reached)
    unfolding AllOf
    all_name place here [] = tt
    all_name place here (j ∷ reached) =
        let n = j.insn in
        let new : List NInsn = written f r place j.before here n.op in
        let rest : List NInsn = written_from f r place (here + length new) reached in
        both_of (j ∷ reached) new rest (first_of j reached new (naming place j.before here n.op))
        (later_of j reached rest (all_name place (here + length new) reached))

    pub all_named : (code : CodeTree) (reached : List Reached) (places : List ℕ) (k : ℕ) (i : NInsn)
        → (let m = int_method f r code reached places in slice_get m.insns k ≡ Some i) → NamesAsOneOf r reached i
    all_named code reached places k i e =
        let p = place_in f r reached in
        let front : List NInsn = prologue f in
        let back : List NInsn = written_from f r p (length front) reached in
        there_of reached (front ++ back) k i (both_of reached front back (plain_of reached front (moves f 0 0 f.params))
        (all_name p (length front) reached)) e
