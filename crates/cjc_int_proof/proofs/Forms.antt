-- What is written in int mode has opcodes of the forms that it stands in.
use Rattle.std.proofs.Common.{◌≡◌, ℕ, zero, suc, ◌+◌, ◌-◌, ◌≤◌, arith, refl, subst, Bool, true, false, List, []}
use Rattle.std.proofs.Common.{◌∷◌, ◌++◌, length, slice_get}
use Rattle.std.specs.Prelude.{if◌then◌else◌, nat_le, ◌==◌, map, take, Option, Some, None, ℤ, pos, negsuc}
use Rattle.std.specs.List.{list_any}
use Rattle.std.proofs.lemmas.Bool.{leb-true}
use Rattle.cjc_types.specs.Bytes.declared.fault.MemberId.{MemberId}
use Rattle.cjc_layout.specs.Script.Sorts.{Sort, Boolean, Byte, Short, Int, Reference, NoValue, Shape, OfClass}
use Rattle.cjc_layout.specs.Script.Sorts.{OfNumbers}
use Rattle.cjc_layout.specs.Script.Sorts.{OfReferences, Booleans, Bytes, Shorts, Ints, Signature, field_sort}
use Rattle.cjc_layout.specs.Script.Sorts.{shape_named, signature_of}
use Rattle.cjc_layout.specs.CardSemantics.Bytecode.Arguments.{widths}
use Rattle.cjc_layout.specs.CardSemantics.Bytecode.Meanings.{Use, Uses, meaning}
use Rattle.cjc_types.specs.ClassFile.Code.{CodeTree}
use Rattle.cjc_layout.specs.CapRead.Card as card
use Rattle.cjc_types.specs.Bytecode.Jvm as jvm
use Rattle.cjc_types.specs.Bytecode.declared.insn.JOp.{JOp}
use Rattle.cjc_types.specs.Bytecode.declared.insn.JOp.TheVariants as jop
use Rattle.cjc_ncode.specs.declared.narrow.NCase.{NCase}
use Rattle.cjc_ncode.specs.declared.narrow.NInsn.{NInsn}
use Rattle.cjc_ncode.specs.declared.narrow.NInsn.TheVariants.{Op, Push, Local, Inc, Words, Jump, Switch, Named}
use Rattle.cjc_ncode.specs.declared.narrow.NInsn.TheVariants.{Interface, NewArray, TypeTest}
use Rattle.cjc_ncode.specs.declared.narrow.PoolKey.{PoolKey}
use Rattle.cjc_ncode.specs.declared.narrow.PoolKey.TheVariants as keys
use Rattle.cjc_ncode.specs.Written.{Resolution, call_by, condition, element_number, field_access, is_byte, leaving}
use Rattle.cjc_ncode.specs.Written.{local, nargs_of, pair_case, static_access, type_test}
use Rattle.cjc_ncode.specs.IntCode.IntCode.{Before, Frame, Reached, called_with, copied, dropped, element_read}
use Rattle.cjc_ncode.specs.IntCode.IntCode.{element_written, field_get, field_put, first_word, guard, handed_over}
use Rattle.cjc_ncode.specs.IntCode.IntCode.{index_of_one, index_of_two, int_method, is_by_scratch, is_reference}
use Rattle.cjc_ncode.specs.IntCode.IntCode.{is_short, jumped, loads, moved, moved_from, narrowed, on_stack, place_in}
use Rattle.cjc_ncode.specs.IntCode.IntCode.{prologue, pushed, put_aside, returned, scratch, static_get, static_put}
use Rattle.cjc_ncode.specs.IntCode.IntCode.{stores, table_cases, taken_back, widened, widened_result, words, written}
use Rattle.cjc_ncode.specs.IntCode.IntCode.{written_from}
use Rattle.cjc_layout.specs.Forms.{HasForm, IsTest, a_class, numbers, references, bare, push, increase, jump, range}
use Rattle.cjc_layout.specs.Forms.{lookup, named, by_interface, new_array, casts, asks}
use Rattle.cjc_layout.specs.Forms as forms

-- these have the forms of their opcodes
AllForm : List NInsn → Type 0
AllForm [] = Unit {0}
AllForm (i ∷ insns) = HasForm i × AllForm insns

none : AllForm []
unfolding AllForm
none = tt

before_all : (i : NInsn) (insns : List NInsn) → HasForm i → AllForm insns → AllForm (i ∷ insns)
unfolding AllForm
before_all i insns h k = (h, k)

join : (xs ys : List NInsn) → AllForm xs → AllForm ys → AllForm (xs ++ ys)
unfolding AllForm
join [] ys h k = k
join (x ∷ xs) ys h k = (h.0, join xs ys h.1 k)

there : (xs : List NInsn) (k : ℕ) (i : NInsn) → AllForm xs → slice_get xs k ≡ Some i → HasForm i
unfolding AllForm
there [] k i h e = absurd cc
there (x ∷ xs) zero i h e = let same : x ≡ i = cc in subst HasForm same h.0
there (x ∷ xs) (suc k) i h e = there xs k i h.1 e

one : (i : NInsn) → HasForm i → AllForm (i ∷ [])
one i h = before_all i [] h none

either : (b : Bool) (xs ys : List NInsn) → AllForm xs → AllForm ys → AllForm (if b then xs else ys)
either true xs ys h k = h
either false xs ys h k = k

either_one : (b : Bool) (x y : NInsn) → HasForm x → HasForm y → HasForm (if b then x else y)
either_one true x y h k = h
either_one false x y h k = k

op : (n : ℕ) → HasForm (Op n)
op n = bare

bares : (n : ℕ) → AllForm (Op n ∷ [])
bares n = one (Op n) (op n)

two_bares : (n m : ℕ) → AllForm (Op n ∷ Op m ∷ [])
two_bares n m = before_all (Op n) (Op m ∷ []) (op n) (bares m)

-- ---- numbers and locals

push_one : (z : ℤ) → HasForm (Push card.bipush z)
unfolding meaning
push_one z = push refl

push_two : (z : ℤ) → HasForm (Push card.sipush z)
unfolding meaning
push_two z = push refl

push_four : (z : ℤ) → HasForm (Push card.iipush z)
unfolding meaning
push_four z = push refl

pushes : (z : ℤ) → HasForm (pushed z)
pushes (pos n) = either_one (nat_le n 5) (Op (card.iconst_0 + n)) (if nat_le n 127 then Push card.bipush (pos n)
    else (if nat_le n 32767 then Push card.sipush (pos n) else Push card.iipush (pos n))) (op (card.iconst_0 + n))
    (either_one (nat_le n 127) (Push card.bipush (pos n)) (if nat_le n 32767 then Push card.sipush (pos n)
    else Push card.iipush (pos n)) (push_one (pos n)) (either_one (nat_le n 32767) (Push card.sipush (pos n))
    (Push card.iipush (pos n)) (push_two (pos n)) (push_four (pos n))))
pushes (negsuc n) = either_one (n == 0) (Op card.iconst_m1) (if nat_le n 127 then Push card.bipush (negsuc n)
    else (if nat_le n 32767 then Push card.sipush (negsuc n) else Push card.iipush (negsuc n))) (op card.iconst_m1)
    (either_one (nat_le n 127) (Push card.bipush (negsuc n)) (if nat_le n 32767 then Push card.sipush (negsuc n)
    else Push card.iipush (negsuc n)) (push_one (negsuc n)) (either_one (nat_le n 32767) (Push card.sipush (negsuc n))
    (Push card.iipush (negsuc n)) (push_two (negsuc n)) (push_four (negsuc n))))

locals : (short long n : ℕ) → HasForm (Local long n) → AllForm (local short long n)
locals short long n h = one (if nat_le n 3 then Op (short + n) else Local long n) (either_one (nat_le n 3) (Op (short
    + n)) (Local long n) (op (short + n)) h)

int_load : (n : ℕ) → HasForm (Local card.iload n)
unfolding meaning
int_load n = forms.local refl

reference_load : (n : ℕ) → HasForm (Local card.aload n)
unfolding meaning
reference_load n = forms.local refl

short_load : (n : ℕ) → HasForm (Local card.sload n)
unfolding meaning
short_load n = forms.local refl

int_store : (n : ℕ) → HasForm (Local card.istore n)
unfolding meaning
int_store n = forms.local refl

reference_store : (n : ℕ) → HasForm (Local card.astore n)
unfolding meaning
reference_store n = forms.local refl

loading : (refs : Bool) (n : ℕ) → AllForm (loads refs n)
loading false n = locals card.iload_0 card.iload n (int_load n)
loading true n = locals card.aload_0 card.aload n (reference_load n)

storing : (refs : Bool) (n : ℕ) → AllForm (stores refs n)
storing false n = locals card.istore_0 card.istore n (int_store n)
storing true n = locals card.astore_0 card.astore n (reference_store n)

widening : (s : Sort) → AllForm (widened s)
widening s = either (is_short s) (Op card.s2i ∷ []) [] (bares card.s2i) none

narrowing : (s : Sort) → AllForm (narrowed s)
narrowing s = either (is_short s) (Op card.i2s ∷ []) [] (bares card.i2s) none

moving : (f : Frame) (s : Sort) (word l : ℕ) → AllForm (moved f s word l)
moving f s word l =
    let load : List NInsn = if is_short s then local card.sload_0 card.sload word else loads (is_reference s) word in
    join (load ++ widened s) (stores (is_reference s) (first_word f l))
    (join load (widened s) (either (is_short s) (local card.sload_0 card.sload word) (loads (is_reference s) word)
    (locals card.sload_0 card.sload word (short_load word)) (loading (is_reference s) word)) (widening s))
    (storing (is_reference s) (first_word f l))

moves : (f : Frame) (word l : ℕ) (sorts : List Sort) → AllForm (moved_from f word l sorts)
moves f word l [] = none
moves f word l (s ∷ sorts) = join (moved f s word l) (moved_from f (word + widths (s ∷ [])) (l + 1) sorts)
    (moving f s word l) (moves f (word + widths (s ∷ [])) (l + 1) sorts)

increases : (b : Bool) (n : ℕ) (by : ℤ) → HasForm (Inc (if b then card.iinc else card.iinc_w) n by)
unfolding meaning
increases true n by = increase refl
increases false n by = increase refl

-- ---- jumps

-- ifeq to goto
jumps : (k target : ℕ) → k ≤ 16 → HasForm (Jump (card.ifeq + k) target)
unfolding meaning
jumps zero target h = jump refl refl
jumps (suc zero) target h = jump refl refl
jumps (suc (suc zero)) target h = jump refl refl
jumps (suc (suc (suc zero))) target h = jump refl refl
jumps (suc (suc (suc (suc zero)))) target h = jump refl refl
jumps (suc (suc (suc (suc (suc zero))))) target h = jump refl refl
jumps (suc (suc (suc (suc (suc (suc zero)))))) target h = jump refl refl
jumps (suc (suc (suc (suc (suc (suc (suc zero))))))) target h = jump refl refl
jumps (suc (suc (suc (suc (suc (suc (suc (suc zero)))))))) target h = jump refl refl
jumps (suc (suc (suc (suc (suc (suc (suc (suc (suc zero))))))))) target h = jump refl refl
jumps (suc (suc (suc (suc (suc (suc (suc (suc (suc (suc zero)))))))))) target h = jump refl refl
jumps (suc (suc (suc (suc (suc (suc (suc (suc (suc (suc (suc zero))))))))))) target h = jump refl refl
jumps (suc (suc (suc (suc (suc (suc (suc (suc (suc (suc (suc (suc zero)))))))))))) target h = jump refl refl
jumps (suc (suc (suc (suc (suc (suc (suc (suc (suc (suc (suc (suc (suc zero))))))))))))) target h = jump refl refl
jumps (suc (suc (suc (suc (suc (suc (suc (suc (suc (suc (suc (suc (suc (suc zero)))))))))))))) target h = jump refl refl
jumps (suc (suc (suc (suc (suc (suc (suc (suc (suc (suc (suc (suc (suc (suc (suc zero))))))))))))))) target h =
    jump refl refl
jumps (suc (suc (suc (suc (suc (suc (suc (suc (suc (suc (suc (suc (suc (suc (suc (suc zero)))))))))))))))) target h =
    jump refl refl
jumps (suc (suc (suc (suc (suc (suc (suc (suc (suc (suc (suc (suc (suc (suc (suc (suc (suc k))))))))))))))))) target h =
    absurd (omega (arith, h))

-- ---- elements

guarding : (inside : Bool) (here : ℕ) → AllForm (guard inside here)
guarding true here = bares card.i2s
guarding false here =
    join (Op card.dup2 ∷ Op card.dup2 ∷ []) (Op card.i2s ∷ Op card.s2i ∷ Op card.icmp ∷ Jump card.ifeq (here + 8)
    ∷ Op card.pop2 ∷ Op card.iconst_m1 ∷ Op card.i2s ∷ []) (two_bares card.dup2 card.dup2)
    (join (Op card.i2s ∷ Op card.s2i ∷ []) (Op card.icmp ∷ Jump card.ifeq (here + 8) ∷ Op card.pop2 ∷ Op card.iconst_m1
    ∷ Op card.i2s ∷ []) (two_bares card.i2s card.s2i)
    (join (Op card.icmp ∷ Jump card.ifeq (here + 8) ∷ []) (Op card.pop2 ∷ Op card.iconst_m1 ∷ Op card.i2s ∷ [])
    (before_all (Op card.icmp) (Jump card.ifeq (here + 8) ∷ []) (op card.icmp) (one (Jump card.ifeq (here + 8))
    (jumps 0 (here + 8) (leb-true 0 16 refl))))
    (before_all (Op card.pop2) (Op card.iconst_m1 ∷ Op card.i2s ∷ []) (op card.pop2) (two_bares card.iconst_m1
    card.i2s))))

reading : (n : ℕ) → AllForm (element_read n)
reading n = either (n == jvm.iaload) (Op card.iaload ∷ []) (if n == jvm.aaload then Op card.aaload ∷ []
    else (if n == jvm.baload then Op card.baload ∷ Op card.s2i ∷ [] else Op card.saload ∷ Op card.s2i ∷ []))
    (bares card.iaload) (either (n == jvm.aaload) (Op card.aaload ∷ []) (if n == jvm.baload then Op card.baload
    ∷ Op card.s2i ∷ [] else Op card.saload ∷ Op card.s2i ∷ []) (bares card.aaload) (either (n == jvm.baload)
    (Op card.baload ∷ Op card.s2i ∷ []) (Op card.saload ∷ Op card.s2i ∷ []) (two_bares card.baload card.s2i)
    (two_bares card.saload card.s2i)))

copies : (m n : ℕ) → HasForm (Words card.dup_x m n)
unfolding meaning
copies m n = forms.words refl

swaps : (m n : ℕ) → HasForm (Words card.swap_x m n)
unfolding meaning
swaps m n = forms.words refl

by_one : (inside : Bool) (here : ℕ) → AllForm (index_of_one inside here)
by_one inside here = before_all (Words card.swap_x 1 2) (guard inside (here + 1) ++ Words card.swap_x 1 1 ∷ [])
    (swaps 1 2) (join (guard inside (here + 1)) (Words card.swap_x 1 1 ∷ []) (guarding inside (here + 1))
    (one (Words card.swap_x 1 1) (swaps 1 1)))

by_two : (inside : Bool) (here : ℕ) → AllForm (index_of_two inside here)
by_two inside here = before_all (Words card.swap_x 2 2) (guard inside (here + 1) ++ Words card.swap_x 1 2 ∷ [])
    (swaps 2 2) (join (guard inside (here + 1)) (Words card.swap_x 1 2 ∷ []) (guarding inside (here + 1))
    (one (Words card.swap_x 1 2) (swaps 1 2)))

elements : (n : ℕ) (inside : Bool) (here : ℕ) → AllForm (element_written n inside here)
elements n inside here =
    let narrow : ℕ = if n == jvm.bastore then card.bastore else card.sastore in
    let short : List NInsn = Op card.i2s ∷ (index_of_one inside (here + 1) ++ Op narrow ∷ []) in
    either (n == jvm.iastore) (index_of_two inside here ++ Op card.iastore ∷ []) (if n == jvm.aastore
    then index_of_one inside here ++ Op card.aastore ∷ [] else short) (join (index_of_two inside here) (Op card.iastore
    ∷ []) (by_two inside here) (bares card.iastore)) (either (n == jvm.aastore) (index_of_one inside here
    ++ Op card.aastore ∷ []) short (join (index_of_one inside here) (Op card.aastore ∷ []) (by_one inside here)
    (bares card.aastore)) (before_all (Op card.i2s) (index_of_one inside (here + 1) ++ Op narrow ∷ []) (op card.i2s)
    (join (index_of_one inside (here + 1)) (Op narrow ∷ []) (by_one inside (here + 1)) (bares narrow))))

-- ---- the stack

dropping : (r : Bool) → HasForm (dropped r)
dropping r = op (if r then card.pop else card.pop2)

drops : (cells : List Bool) → AllForm (map dropped cells)
drops [] = none
drops (r ∷ cells) = before_all (dropped r) (map dropped cells) (dropping r) (drops cells)

copying : (w : ℕ) → HasForm (copied w)
copying w = either_one (w == 1) (Op card.dup) (if w == 2 then Op card.dup2 else Words card.dup_x w 0) (op card.dup)
    (either_one (w == 2) (Op card.dup2) (Words card.dup_x w 0) (op card.dup2) (copies w 0))

stacking : (n : ℕ) (cells : List Bool) → AllForm (on_stack n cells)
stacking n cells = go (n == jvm.pop) (n == jvm.pop2) (n == jvm.dup) (n == jvm.dup2) (n == jvm.dup_x1)
    (n == jvm.dup_x2) (n == jvm.dup2_x1) (n == jvm.dup2_x2)
  where
    below : (x y : ℕ) → AllForm (Words card.dup_x x y ∷ [])
    below x y = one (Words card.dup_x x y) (copies x y)

    go : (a b c d e f g h : Bool) → AllForm (if a then map dropped (take 1 cells) else (if b
        then map dropped (take 2 cells) else (if c then copied (words 1 cells) ∷ [] else (if d
        then copied (words 2 cells) ∷ []
        else (if e then Words card.dup_x (words 1 cells) (words 2 cells) ∷ []
        else (if f then Words card.dup_x (words 1 cells) (words 3 cells) ∷ []
        else (if g then Words card.dup_x (words 2 cells) (words 3 cells) ∷ []
        else (if h then Words card.dup_x (words 2 cells) (words 4 cells) ∷ []
        else Words card.swap_x (words 1 cells) (words 2 cells - words 1 cells) ∷ []))))))))
    go true b c d e f g h = drops (take 1 cells)
    go false true c d e f g h = drops (take 2 cells)
    go false false true d e f g h = one (copied (words 1 cells)) (copying (words 1 cells))
    go false false false true e f g h = one (copied (words 2 cells)) (copying (words 2 cells))
    go false false false false true f g h = below (words 1 cells) (words 2 cells)
    go false false false false false true g h = below (words 1 cells) (words 3 cells)
    go false false false false false false true h = below (words 2 cells) (words 3 cells)
    go false false false false false false false true = below (words 2 cells) (words 4 cells)
    go false false false false false false false false = one (Words card.swap_x (words 1 cells)
        (words 2 cells - words 1 cells)) (swaps (words 1 cells) (words 2 cells - words 1 cells))

-- ---- jumps, switches and returns

conditions : (n target : ℕ) → nat_le n jvm.ifle ≡ false → nat_le n jvm.if_icmple ≡ false
    → HasForm (Jump (condition n) target)
conditions n target not_zero not_both = go (nat_le n jvm.ifle) (nat_le n jvm.if_icmple) (n == jvm.if_acmpeq)
    (n == jvm.if_acmpne) (n == jvm.ifnull) not_zero not_both
  where
    go : (a b c d e : Bool) → a ≡ false → b ≡ false → HasForm (Jump (if a then n - jvm.ifeq + card.ifeq else (if b
        then n - jvm.if_icmpeq + card.if_scmpeq else (if c then card.if_acmpeq else (if d then card.if_acmpne else (if e
        then card.ifnull else card.ifnonnull))))) target)
    go true b c d e h k = absurd cc
    go false true c d e h k = absurd cc
    go false false true d e h k = jumps 8 target (leb-true 8 16 refl)
    go false false false true e h k = jumps 9 target (leb-true 9 16 refl)
    go false false false false true h k = jumps 6 target (leb-true 6 16 refl)
    go false false false false false h k = jumps 7 target (leb-true 7 16 refl)

jumping : (n target : ℕ) → AllForm (jumped n target)
jumping n target = go (nat_le n jvm.ifle) (nat_le n jvm.if_icmple) refl refl
  where
    go : (a b : Bool) → nat_le n jvm.ifle ≡ a → nat_le n jvm.if_icmple ≡ b → AllForm (if a then Op card.iconst_0
        ∷ Op card.icmp ∷ Jump (card.ifeq + (n - jvm.ifeq)) target ∷ [] else (if b then Op card.icmp
        ∷ Jump (card.ifeq + (n - jvm.if_icmpeq)) target ∷ [] else Jump (condition n) target ∷ []))
    go true b e g =
        let high = leb-true n jvm.ifle e in
        join (Op card.iconst_0 ∷ Op card.icmp ∷ []) (Jump (card.ifeq + (n - jvm.ifeq)) target ∷ [])
        (two_bares card.iconst_0 card.icmp) (one (Jump (card.ifeq + (n - jvm.ifeq)) target)
        (jumps (n - jvm.ifeq) target (omega (arith, high))))
    go false true e g =
        let high = leb-true n jvm.if_icmple g in
        join (Op card.icmp ∷ []) (Jump (card.ifeq + (n - jvm.if_icmpeq)) target ∷ []) (bares card.icmp)
        (one (Jump (card.ifeq + (n - jvm.if_icmpeq)) target) (jumps (n - jvm.if_icmpeq) target (omega (arith, high))))
    go false false e g = one (Jump (condition n) target) (conditions n target e g)

tables : (other : ℕ) (low : ℤ) (cases : List NCase) → HasForm (Switch card.itableswitch other low cases)
unfolding meaning
tables other low cases = range refl

lookups : (other : ℕ) (low : ℤ) (cases : List NCase) → HasForm (Switch card.ilookupswitch other low cases)
unfolding meaning
lookups other low cases = lookup refl

returning : (result : Option Sort) → AllForm (returned result)
returning None = two_bares card.i2s card.sreturn
returning (Some Boolean) = two_bares card.i2s card.sreturn
returning (Some Byte) = two_bares card.i2s card.sreturn
returning (Some Short) = two_bares card.i2s card.sreturn
returning (Some Int) = bares card.ireturn
returning (Some (Reference shape)) = two_bares card.i2s card.sreturn
returning (Some NoValue) = two_bares card.i2s card.sreturn

-- ---- names

-- an opcode that uses a key
uses : (n : ℕ) (key : PoolKey) (how : Use) → meaning n ≡ Uses how → HasForm (Named n key)
uses n key how e = named e

static_forms : (put : Bool) (sort : Sort) (key : PoolKey) → HasForm (Named (static_access put sort) key)
unfolding meaning
static_forms true Boolean key = uses (card.putstatic_a + 1) key _ refl
static_forms true Byte key = uses (card.putstatic_a + 1) key _ refl
static_forms true Short key = uses (card.putstatic_a + 2) key _ refl
static_forms true Int key = uses (card.putstatic_a + 3) key _ refl
static_forms true (Reference shape) key = uses card.putstatic_a key _ refl
static_forms true NoValue key = uses card.putstatic_a key _ refl
static_forms false Boolean key = uses (card.getstatic_a + 1) key _ refl
static_forms false Byte key = uses (card.getstatic_a + 1) key _ refl
static_forms false Short key = uses (card.getstatic_a + 2) key _ refl
static_forms false Int key = uses (card.getstatic_a + 3) key _ refl
static_forms false (Reference shape) key = uses card.getstatic_a key _ refl
static_forms false NoValue key = uses card.getstatic_a key _ refl

field_forms : (put near : Bool) (sort : Sort) (key : PoolKey) → HasForm (Named (field_access put near sort) key)
unfolding meaning
field_forms true true Boolean key = uses (card.putfield_a + 1) key _ refl
field_forms true true Byte key = uses (card.putfield_a + 1) key _ refl
field_forms true true Short key = uses (card.putfield_a + 2) key _ refl
field_forms true true Int key = uses (card.putfield_a + 3) key _ refl
field_forms true true (Reference shape) key = uses card.putfield_a key _ refl
field_forms true true NoValue key = uses card.putfield_a key _ refl
field_forms true false Boolean key = uses (card.putfield_a_w + 1) key _ refl
field_forms true false Byte key = uses (card.putfield_a_w + 1) key _ refl
field_forms true false Short key = uses (card.putfield_a_w + 2) key _ refl
field_forms true false Int key = uses (card.putfield_a_w + 3) key _ refl
field_forms true false (Reference shape) key = uses card.putfield_a_w key _ refl
field_forms true false NoValue key = uses card.putfield_a_w key _ refl
field_forms false true Boolean key = uses (card.getfield_a + 1) key _ refl
field_forms false true Byte key = uses (card.getfield_a + 1) key _ refl
field_forms false true Short key = uses (card.getfield_a + 2) key _ refl
field_forms false true Int key = uses (card.getfield_a + 3) key _ refl
field_forms false true (Reference shape) key = uses card.getfield_a key _ refl
field_forms false true NoValue key = uses card.getfield_a key _ refl
field_forms false false Boolean key = uses (card.getfield_a_w + 1) key _ refl
field_forms false false Byte key = uses (card.getfield_a_w + 1) key _ refl
field_forms false false Short key = uses (card.getfield_a_w + 2) key _ refl
field_forms false false Int key = uses (card.getfield_a_w + 3) key _ refl
field_forms false false (Reference shape) key = uses card.getfield_a_w key _ refl
field_forms false false NoValue key = uses card.getfield_a_w key _ refl

makes : (key : PoolKey) → HasForm (Named card.new key)
unfolding meaning
makes key = uses card.new key _ refl

makes_references : (key : PoolKey) → HasForm (Named card.anewarray key)
unfolding meaning
makes_references key = uses card.anewarray key _ refl

arrays : (kind : ℕ) → HasForm (NewArray kind)
arrays kind = new_array

-- a type test of either kind
tests : (n : ℕ) → ((kind : ℕ) (class : Option (List ℕ)) → IsTest kind class → HasForm (TypeTest n kind class))
    → (type : Option (Shape (List ℕ))) → AllForm (type_test n type)
tests n make None = none
tests n make (Some (OfClass class)) = one (TypeTest n 0 (Some class)) (make 0 (Some class) a_class)
tests n make (Some (OfReferences class)) = one (TypeTest n 14 (Some class)) (make 14 (Some class) references)
tests n make (Some (OfNumbers Booleans)) = one (TypeTest n 10 None) (make 10 None (numbers Booleans))
tests n make (Some (OfNumbers Bytes)) = one (TypeTest n 11 None) (make 11 None (numbers Bytes))
tests n make (Some (OfNumbers Shorts)) = one (TypeTest n 12 None) (make 12 None (numbers Shorts))
tests n make (Some (OfNumbers Ints)) = one (TypeTest n 13 None) (make 13 None (numbers Ints))

cast_forms : (type : Option (Shape (List ℕ))) → AllForm (type_test card.checkcast type)
unfolding meaning
cast_forms type = tests card.checkcast (λ kind class t. casts refl t) type

ask_forms : (type : Option (Shape (List ℕ))) → AllForm (type_test card.instanceof type)
unfolding meaning
ask_forms type = tests card.instanceof (λ kind class t. asks refl t) type

-- ---- calls

asides : (f : Frame) (j : ℕ) (sorts : List Sort) → AllForm (put_aside f j sorts)
asides f j [] = none
asides f j (s ∷ sorts) = join (put_aside f (j + 1) sorts) (stores (is_reference s) (scratch f j)) (asides f (j + 1)
    sorts) (storing (is_reference s) (scratch f j))

backs : (f : Frame) (j : ℕ) (sorts : List Sort) → AllForm (taken_back f j sorts)
backs f j [] = none
backs f j (s ∷ sorts) = join (loads (is_reference s) (scratch f j) ++ narrowed s) (taken_back f (j + 1) sorts)
    (join (loads (is_reference s) (scratch f j)) (narrowed s) (loading (is_reference s) (scratch f j)) (narrowing s))
    (backs f (j + 1) sorts)

handing : (f : Frame) (params : List Sort) → AllForm (handed_over f params)
handing f params = either (is_by_scratch params) (put_aside f 0 params ++ taken_back f 0 params) (if list_any is_short
    params then Op card.i2s ∷ [] else []) (join (put_aside f 0 params) (taken_back f 0 params) (asides f 0 params)
    (backs f 0 params)) (either (list_any is_short params) (Op card.i2s ∷ []) [] (bares card.i2s) none)

results : (result : Option Sort) → AllForm (widened_result result)
results None = none
results (Some s) = widening s

module _ (f : Frame) (r : Resolution) where
  calling : (n : ℕ) (m : MemberId) → AllForm (call_by r n m)
  unfolding meaning
  calling n m = go (n == jvm.invokeinterface) (n == jvm.invokevirtual) (n == jvm.invokespecial)
    where
      go : (a b c : Bool) → AllForm ((if a then Interface (nargs_of m) (r.interface m)
          else (if b then Named card.invokevirtual (r.virtual m) else (if c then Named card.invokespecial (r.special m)
          else Named card.invokestatic (r.static m)))) ∷ [])
      go true b c = one (Interface (nargs_of m) (r.interface m)) by_interface
      go false true c = one (Named card.invokevirtual (r.virtual m)) (uses card.invokevirtual (r.virtual m) _ refl)
      go false false true = one (Named card.invokespecial (r.special m)) (uses card.invokespecial (r.special m) _ refl)
      go false false false = one (Named card.invokestatic (r.static m)) (uses card.invokestatic (r.static m) _ refl)

  sending : (n : ℕ) (m : MemberId) (types : Option Signature) → AllForm (called_with f r n m types)
  sending n m None = calling n m
  sending n m (Some types) = join (handed_over f types.params ++ call_by r n m) (widened_result types.result)
      (join (handed_over f types.params) (call_by r n m) (handing f types.params) (calling n m)) (results types.result)

  statics : (put : Bool) (g : MemberId) (constant : Option ℤ) → AllForm (if put then static_put r g
      else static_get r g constant)
  statics true g constant = join (narrowed (field_sort g.desc)) (Named (static_access true (field_sort g.desc))
      (keys.StaticField (r.field g)) ∷ []) (narrowing (field_sort g.desc))
      (one (Named (static_access true (field_sort g.desc)) (keys.StaticField (r.field g)))
      (static_forms true (field_sort g.desc) (keys.StaticField (r.field g))))
  statics false g (Some z) = one (pushed z) (pushes z)
  statics false g None = before_all (Named (static_access false (field_sort g.desc)) (keys.StaticField (r.field g)))
      (widened (field_sort g.desc)) (static_forms false (field_sort g.desc) (keys.StaticField (r.field g)))
      (widening (field_sort g.desc))

  fields : (put : Bool) (g : MemberId) → AllForm (if put then field_put r g else field_get r g)
  fields true g = join (narrowed (field_sort g.desc)) (Named (field_access true (r.is_near g) (field_sort g.desc))
      (keys.Field (r.field g)) ∷ []) (narrowing (field_sort g.desc))
      (one (Named (field_access true (r.is_near g) (field_sort g.desc)) (keys.Field (r.field g)))
      (field_forms true (r.is_near g) (field_sort g.desc) (keys.Field (r.field g))))
  fields false g = before_all (Named (field_access false (r.is_near g) (field_sort g.desc)) (keys.Field (r.field g)))
      (widened (field_sort g.desc)) (field_forms false (r.is_near g) (field_sort g.desc) (keys.Field (r.field g)))
      (widening (field_sort g.desc))

  -- ---- an instruction

  forming : (place : ℕ → ℕ) (b : Before) (here : ℕ) (n : JOp) → AllForm (written f r place b here n)
  forming place b here jop.Nop = none
  forming place b here jop.Null = bares card.aconst_null
  forming place b here (jop.Number z) = one (pushed z) (pushes z)
  forming place b here (jop.Load refs l) = loading refs (first_word f l)
  forming place b here (jop.Store refs l) = storing refs (first_word f l)
  forming place b here (jop.ArrayLoad n) = join (guard b.is_index_inside here) (element_read n)
      (guarding b.is_index_inside here) (reading n)
  forming place b here (jop.ArrayStore n) = elements n b.is_index_inside here
  forming place b here (jop.Stack n) = stacking n b.references
  forming place b here (jop.Arith n) = bares _
  forming place b here (jop.Inc l by) = one (Inc (if is_byte by then card.iinc else card.iinc_w) (first_word f l) by)
      (increases (is_byte by) (first_word f l) by)
  forming place b here (jop.Narrow n) = two_bares (if n == jvm.i2b then card.i2b else card.i2s) card.s2i
  forming place b here (jop.If n target) = jumping n (place target)
  forming place b here (jop.Goto target) = one (Jump card.goto (place target)) (jumps 16 (place target) (leb-true 16 16
      refl))
  forming place b here (jop.TableSwitch other low ts) = one (Switch card.itableswitch (place other) low
      (table_cases place low ts)) (tables (place other) low (table_cases place low ts))
  forming place b here (jop.LookupSwitch other cases) = one (Switch card.ilookupswitch (place other) (pos 0)
      (map (pair_case place) cases)) (lookups (place other) (pos 0) (map (pair_case place) cases))
  forming place b here (jop.Return n) = either (n == jvm.ireturn) (returned f.result) (Op (leaving n) ∷ [])
      (returning f.result) (bares (leaving n))
  forming place b here (jop.Static put g) = statics put g (r.constant g)
  forming place b here (jop.Field put g) = fields put g
  forming place b here (jop.Call n m) = sending n m (signature_of m.desc)
  forming place b here (jop.New class) = one (Named card.new (keys.Class class)) (makes (keys.Class class))
  forming place b here (jop.NewArray kind) = before_all (Op card.i2s) (NewArray (element_number kind) ∷ [])
      (op card.i2s) (one (NewArray (element_number kind)) (arrays (element_number kind)))
  forming place b here (jop.ANewArray class) = before_all (Op card.i2s) (Named card.anewarray (keys.Class class) ∷ [])
      (op card.i2s) (one (Named card.anewarray (keys.Class class)) (makes_references (keys.Class class)))
  forming place b here jop.ArrayLength = two_bares card.arraylength card.s2i
  forming place b here jop.Throw = bares card.athrow
  forming place b here (jop.CheckCast class) = cast_forms (shape_named class)
  forming place b here (jop.InstanceOf class) = join (type_test card.instanceof (shape_named class)) (Op card.s2i ∷ [])
      (ask_forms (shape_named class)) (bares card.s2i)

  -- ---- all

  all_form : (place : ℕ → ℕ) (here : ℕ) (reached : List Reached) → AllForm (written_from f r place here reached)
  all_form place here [] = none
  all_form place here (i ∷ reached) =
      let n = i.insn in
      let new : List NInsn = written f r place i.before here n.op in
      join new (written_from f r place (here + length new) reached) (forming place i.before here n.op)
      (all_form place (here + length new) reached)

  pub all_have_forms : (code : CodeTree) (reached : List Reached) (places : List ℕ) (k : ℕ) (i : NInsn)
      → (let m = int_method f r code reached places in slice_get m.insns k ≡ Some i) → HasForm i
  all_have_forms code reached places k i e =
      let p = place_in f r reached in
      let front : List NInsn = prologue f in
      let back : List NInsn = written_from f r p (length front) reached in
      there (front ++ back) k i (join front back (moves f 0 0 f.params) (all_form p (length front) reached)) e
