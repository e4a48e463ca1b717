-- The effects of the instructions that initialisers have, and of a statement of them.
use Rattle.std.proofs.Common.{◌≡◌, ◌∙◌, refl, sym, ap, subst, ℕ, suc, zero, ◌+◌, ◌<◌, ◌≤◌, List, [], ◌∷◌, ◌++◌}
use Rattle.std.proofs.Common.{append-nil, length, drop, map, replicate, add-one, Bool, true, false, arith}
use Rattle.std.proofs.lemmas.Bool.Decides.{nat_tests}
use Rattle.std.proofs.lemmas.Int.{ints}
use Rattle.std.specs.Prelude.{◌≤ℤ◌, ◌==◌, if◌then◌else◌, Option, Some, None, nat_lt}
use Rattle.std.specs.Prelude.{slice_get, slice_set, ℤ, pos, negsuc}
use Rattle.std.specs.Int.RustNames.{int_le}
use Rattle.cjc_bytes.specs.declared.fault.MemberId.{MemberId}
use Rattle.cjc_bytes.specs.declared.descriptor.Kind.{Kind}
use Rattle.cjc_bytes.specs.declared.descriptor.Kind.TheVariants as kinds
use Rattle.cjc_bytes.specs.Spots.{after, bad_at, types_from, parts_of, desc_of}
use Rattle.cjc_bytes.proofs.Bools.{and_true}
use Rattle.cjc_bytes.proofs.Gets.{map_set, at_end}
use Rattle.cjc_bytes.proofs.Numbers.{at_most}
use Rattle.cjc_bytes.proofs.Integers.{above_if, by_ends_8}
use Rattle.cjc_clinit.specs.Range.Words.{low_word, low_byte}
use Rattle.cjc_vtable.proofs.RangeWords.{fits16, low_byte_fixed, low_word_fixed}
use Rattle.cjc_clinit.specs.Bytecode.declared.insn.JInsn.{JInsn}
use Rattle.cjc_clinit.specs.Bytecode.declared.insn.JOp.{JOp}
use Rattle.cjc_clinit.specs.Bytecode.declared.insn.JOp.TheVariants as jop
use Rattle.cjc_jvm_semantics.specs.LowerScript.declared.value.Value.{Value}
use Rattle.cjc_jvm_semantics.specs.LowerScript.declared.value.Value.TheVariants.{Num, Null, Obj}
use Rattle.cjc_jvm_semantics.specs.LowerScript.declared.report.Thing.{Thing}
use Rattle.cjc_jvm_semantics.specs.LowerScript.declared.report.Thing.TheVariants.{Array}
use Rattle.cjc_jvm_semantics.specs.LowerScript.Sorts.{Element, Booleans, Bytes, Shorts, Ints, OfNumbers, array_name}
use Rattle.cjc_jvm_semantics.specs.LowerScript.Sorts.{array_of, shape_named}
use Rattle.cjc_jvm_semantics.specs.Effects.{Go, Store, effect, values_with, value_in, is_same_kind, only_if, with_some}
use Rattle.cjc_jvm_semantics.specs.Effects.{element_of, cut, stores, serves, of_references, is_kind}
use Rattle.cjc_jvm_semantics.specs.Effects.{array_in as with_array, item_at, item_if, with_new_numbers}
use Rattle.cjc_jvm_semantics.specs.Effects.{after_array_store, with_heap, static_put, Moves, AByte, AShort, AnInt}
use Rattle.cjc_jvm_semantics.specs.Linked.{Linked, Method, Static}
use Rattle.cjc_jvm_semantics.specs.OnePackage.{static_array, array_desc}
use Rattle.cjc_clinit.specs.Fields.{Contents, fits, lies_in}
use Rattle.cjc_clinit.specs.Image.{array_in}
use Rattle.cjc_clinit.specs.Bytecode.Jvm.{dup}
use Rattle.cjc_clinit.specs.Initialiser.{element_kind, store, ops_of, Stores, Makes}
use Rattle.cjc_clinit.specs.Initialiser.Stores.{none, one}
use Rattle.cjc_clinit.specs.Initialiser.Makes.{of_number, of_null, of_array}
use Rattle.cjc_world_proof.specs.Initialisers.Statements.{HaveRoomFor, Reaches, ops_from, store_with, value_by}
use Rattle.cjc_world_proof.specs.Initialisers.Statements.Reaches.{here, goes}

-- ---- lists

-- the instruction at a place, and what stands behind it
pub fetched : (xs : List JInsn) (at : ℕ) (op : JOp) (ops : List JOp) → ops_of (drop at xs) ≡ op ∷ ops → (i : JInsn)
    × (slice_get xs at ≡ Some i) × (i.op ≡ op) × (ops_of (drop (suc at) xs) ≡ ops)
fetched [] zero op ops e = absurd (cc)
fetched [] (suc n) op ops e = absurd (cc)
fetched (x ∷ xs) zero op ops e = (x, refl, (let p : x.op ≡ op = cc in p), (let p : ops_of xs ≡ ops = cc in p))
fetched (x ∷ xs) (suc n) op ops e = fetched xs n op ops e

last-set : {A : Type 0} (xs : List A) (y z : A) → slice_set (xs ++ y ∷ []) (length xs) z ≡ xs ++ z ∷ []
last-set [] y z = refl
last-set (x ∷ xs) y z = ap (λ q. x ∷ q) (last-set xs y z)

map-replicate : {A B : Type 0} (f : A → B) (n : ℕ) (x : A) → replicate n (f x) ≡ map f (replicate n x)
map-replicate f zero x = refl
map-replicate f (suc n) x = ap (λ q. f x ∷ q) (map-replicate f n x)

map-there : {A B : Type 0} (f : A → B) (xs : List A) (k : ℕ) → k < length xs → (y : B)
    × (slice_get (map f xs) k ≡ Some y)
map-there f [] k l = absurd (omega arith)
map-there f (x ∷ xs) zero l = (f x, refl)
map-there f (x ∷ xs) (suc k) l = map-there f xs k (omega arith)

room : (k n : ℕ) → k < n → nat_lt k n ≡ true
room k n h = grind (arith, nat_tests)

-- ---- kinds

abbrev element_by : Kind → Element
element_by kinds.Bool = Booleans
element_by kinds.Byte = Bytes
element_by kinds.Short = Shorts
element_by kind = Ints

both-by : (a b d e : Bool) (kind : Kind) → (if a then Some kinds.Bool else if b then Some kinds.Byte else if d
    then Some kinds.Short else if e then Some kinds.Int else None) ≡ Some kind
    → ((if a then Some Booleans else if b then Some Bytes else if d then Some Shorts else if e then Some Ints else None)
    ≡ Some (element_by kind)) × (array_desc (array_of kind []) ≡ array_name (element_by kind))
both-by true b d e kind h = let k : kinds.Bool ≡ kind = cc in subst (λ q. (Some Booleans ≡ Some (element_by q))
    × (array_desc (array_of q []) ≡ array_name (element_by q))) k (refl, refl)
both-by false true d e kind h = let k : kinds.Byte ≡ kind = cc in subst (λ q. (Some Bytes ≡ Some (element_by q))
    × (array_desc (array_of q []) ≡ array_name (element_by q))) k (refl, refl)
both-by false false true e kind h = let k : kinds.Short ≡ kind = cc in subst (λ q. (Some Shorts ≡ Some (element_by q))
    × (array_desc (array_of q []) ≡ array_name (element_by q))) k (refl, refl)
both-by false false false true kind h = let k : kinds.Int ≡ kind = cc in subst (λ q. (Some Ints ≡ Some (element_by q))
    × (array_desc (array_of q []) ≡ array_name (element_by q))) k (refl, refl)
both-by false false false false kind h = absurd (cc)

elements : (number : ℕ) (kind : Kind) → element_kind number ≡ Some kind → (element_of number ≡ Some (element_by kind))
    × (array_desc (array_of kind []) ≡ array_name (element_by kind))
elements n kind h = both-by (n == 4) (n == 8) (n == 9) (n == 10) kind h

shape-by : (e : Element) → shape_named (array_name e) ≡ Some (OfNumbers e)
unfolding after bad_at types_from parts_of desc_of
shape-by Booleans = refl
shape-by Bytes = refl
shape-by Shorts = refl
shape-by Ints = refl

-- ---- numbers that fit

lies-true : (low high z : ℤ) → lies_in low high z ≡ true → (low ≤ℤ z) × (z ≤ℤ high)
lies-true low high z e = let h = and_true (int_le low z) (int_le z high) e in (above_if low z h.0, above_if z high h.1)

byte-kept : (low high z : ℤ) → negsuc 127 ≤ℤ low → high ≤ℤ pos 127 → lies_in low high z ≡ true → low_byte z ≡ z
byte-kept low high z a b e = let h = lies-true low high z e in let x = h.0 in let y = h.1
    in low_byte_fixed z (by_ends_8 z (omega (arith, ints)) (omega (arith, ints)))

short-kept : (z : ℤ) → lies_in (negsuc 32767) (pos 32767) z ≡ true → low_word z ≡ z
short-kept z e = let h = lies-true (negsuc 32767) (pos 32767) z e in low_word_fixed z (fits16 z h.0 h.1)

-- ---- one instruction

-- an array of a kind in the heap
abbrev pub array : Kind → List ℤ → Thing
array kind items = Array (array_desc (array_of kind [])) (map (λ z. Num z) items)

-- what an instruction that stores a number moves, and the elements that it serves
record Suits (kind : Kind) (z : ℤ) : Type 0 where
  moves : Moves
  element : Element
  stores : stores (store kind) ≡ Some moves
  numbers : of_references moves ≡ false
  serves : serves moves (Some (OfNumbers element)) ≡ true
  name : array_desc (array_of kind []) ≡ array_name element
  kept : cut moves z ≡ z

suits : (kind : Kind) (z : ℤ) → fits kind z ≡ true → Suits kind z
suits kinds.Bool z h = record {
  moves = AByte;
  element = Booleans;
  stores = refl;
  numbers = refl;
  serves = refl;
  name = refl;
  kept = byte-kept (pos 0) (pos 1) z (omega (arith, ints)) (omega (arith, ints)) h;
}
suits kinds.Byte z h = record {
  moves = AByte;
  element = Bytes;
  stores = refl;
  numbers = refl;
  serves = refl;
  name = refl;
  kept = byte-kept (negsuc 127) (pos 127) z (omega (arith, ints)) (omega (arith, ints)) h;
}
suits kinds.Short z h = record {
  moves = AShort;
  element = Shorts;
  stores = refl;
  numbers = refl;
  serves = refl;
  name = refl;
  kept = short-kept z h;
}
suits kinds.Int z h = record {
  moves = AnInt;
  element = Ints;
  stores = refl;
  numbers = refl;
  serves = refl;
  name = refl;
  kept = refl;
}
suits kinds.Other z h = absurd (cc)
suits kinds.Ref z h = absurd (cc)
suits kinds.Void z h = absurd (cc)

module _ (l : Linked) (m : Method) (locals : List (Option Value)) where
  -- the machine comes to where these instructions stand
  abbrev pub Comes : (at : ℕ) → (stack : List Value) → (before : Store) → (rest : List JOp) → (left : List Value)
      → (after : Store) → Type 0
  Comes at stack before rest left after = (later : ℕ) × Reaches l m locals at stack before later left after
      × (ops_from m later ≡ rest)

  once : (at : ℕ) (op : JOp) (ops rest : List JOp) (stack pushed left : List Value) (before mid after : Store)
      → ops_from m at ≡ op ∷ ops → effect l m at locals before op stack ≡ Go (at + 1) pushed locals mid
      → (ops_from m (at + 1) ≡ ops → Comes (at + 1) pushed mid rest left after) → Comes at stack before rest left after
  once at op ops rest stack pushed left before mid after stands does go =
      let f = fetched m.insns at op ops stands in
      let g = go (ap (λ n. ops_of (drop n m.insns)) (add-one at) ∙ f.3) in
      (g.0, goes f.0 f.1 (ap (λ o. effect l m at locals before o stack) f.2 ∙ does) g.1, g.2)

  push-number : (at : ℕ) (z : ℤ) (stack : List Value) (s : Store) → length stack < m.max_stack
      → effect l m at locals s (jop.Number z) stack ≡ Go (at + 1) (Num z ∷ stack) locals s
  unfolding effect
  push-number at z stack s h = ap (λ b. only_if b (Go (at + 1) (Num z ∷ stack) locals s))
      (room (length stack) m.max_stack h)

  push-null : (at : ℕ) (stack : List Value) (s : Store) → length stack < m.max_stack
      → effect l m at locals s jop.Null stack ≡ Go (at + 1) (Null ∷ stack) locals s
  unfolding effect
  push-null at stack s h = ap (λ b. only_if b (Go (at + 1) (Null ∷ stack) locals s)) (room (length stack) m.max_stack h)

  copy : (at : ℕ) (v : Value) (s : Store) → 2 ≤ m.max_stack → effect l m at locals s (jop.Stack dup) (v ∷ [])
      ≡ Go (at + 1) (v ∷ v ∷ []) locals s
  unfolding effect
  copy at v s h = ap (λ b. only_if b (Go (at + 1) (v ∷ v ∷ []) locals s)) (at_most 2 m.max_stack h)

  -- the heap with an array more
  abbrev pub with-array : Store → Kind → List ℤ → Store
  with-array s kind items = record s { heap = s.heap ++ array kind items ∷ [] }

  new-array : (at count number : ℕ) (kind : Kind) (s : Store) → 1 ≤ m.max_stack → element_kind number ≡ Some kind
      → effect l m at locals s (jop.NewArray number) (Num (pos count) ∷ []) ≡ Go (at + 1) (Obj (length s.heap)
      ∷ []) locals (with-array s kind (replicate count (pos 0)))
  unfolding effect
  new-array at count number kind s h is =
      let e = elements number kind is in
      ap (λ o. with_new_numbers l m at locals s o (Num (pos count) ∷ [])) e.0
      ∙ ap (λ b. only_if b (Go (at + 1) (Obj (length s.heap) ∷ []) locals (record s {
        heap = s.heap
            ++ Array (array_name (element_by kind)) (replicate count (Num (pos 0))) ∷ [];
      }))) (room 0 m.max_stack h)
      ∙ ap (λ d. Go (at + 1) (Obj (length s.heap) ∷ []) locals (record s {
        heap = s.heap
            ++ Array d (replicate count (Num (pos 0))) ∷ [];
      })) (sym e.1)
      ∙ ap (λ q. Go (at + 1) (Obj (length s.heap) ∷ []) locals (record s {
        heap = s.heap
            ++ Array (array_desc (array_of kind [])) q ∷ [];
      })) (map-replicate (λ z. Num z) count (pos 0))

  store-item : (at : ℕ) (kind : Kind) (items : List ℤ) (i : ℕ) (z : ℤ) (s : Store) → i < length items
      → fits kind z ≡ true
      → effect l m at locals (with-array s kind items) (jop.ArrayStore (store kind)) (Num z ∷ Num (pos i)
      ∷ Obj (length s.heap) ∷ Obj (length s.heap) ∷ []) ≡ Go (at + 1) (Obj (length s.heap) ∷ []) locals
      (with-array s kind (slice_set items i z))
  unfolding effect
  store-item at kind items i z s inside fit =
      let t = suits kind z fit in
      let k = length s.heap in
      let heap = s.heap ++ array kind items ∷ [] in
      let st = with-array s kind items in
      let desc = array_desc (array_of kind []) in
      let stack = Num z ∷ Num (pos i) ∷ Obj k ∷ Obj k ∷ [] in
      let numbers = map (λ (y : ℤ). Num y) items in
      let keep = λ (d : List ℕ) (vs : List Value) (y : ℤ). Go (at + 1) (Obj k ∷ []) locals
      (record s { heap = slice_set heap k (Array d (slice_set vs i (Num y))) }) in
      ap (λ o. after_array_store l m at locals st o stack) t.stores
      ∙ ap (λ b. only_if (is_kind b (Num z)) (with_some (slice_get heap k) (λ thing. with_array thing
      (λ d vs. only_if (serves t.moves (shape_named d)) (item_at vs (pos i) (λ n old. with_heap l m at locals st
      (slice_set heap k (Array d (slice_set vs n (Num (cut t.moves z))))) (Obj k ∷ []))))))) t.numbers
      ∙ ap (λ o. with_some o (λ thing. with_array thing (λ d vs. only_if (serves t.moves (shape_named d))
      (item_at vs (pos i) (λ n old. with_heap l m at locals st
      (slice_set heap k (Array d (slice_set vs n (Num (cut t.moves z))))) (Obj k ∷ []))))))
      (at_end s.heap (array kind items))
      ∙ ap (λ o. only_if (serves t.moves o) (item_at numbers (pos i) (λ n old. keep desc numbers (cut t.moves z))))
      (ap shape_named t.name ∙ shape-by t.element)
      ∙ ap (λ b. only_if b (item_at numbers (pos i) (λ n old. keep desc numbers (cut t.moves z)))) t.serves
      ∙ ap (λ o. item_if o (λ old. keep desc numbers (cut t.moves z))) (map-there (λ (y : ℤ). Num y) items i inside).1
      ∙ ap (λ y. keep desc numbers y) t.kept
      ∙ ap (λ vs. Go (at + 1) (Obj k ∷ []) locals (record s { heap = slice_set heap k (Array desc vs) }))
      (map_set (λ (y : ℤ). Num y) items i z)
      ∙ ap (λ h. Go (at + 1) (Obj k ∷ []) locals (record s { heap = h })) (last-set s.heap (array kind items)
      (array kind (slice_set items i z)))

  put-static : (at : ℕ) (id field : MemberId) (old v : Value) (s : Store) → l.field (let here = m.id in here.class) id
      ≡ Some (Static field) → value_in s.statics field ≡ Some old → is_same_kind old v ≡ true
      → effect l m at locals s (jop.Static true id) (v ∷ [])
      ≡ Go (at + 1) [] locals (record s { statics = values_with s.statics field v })
  unfolding effect
  put-static at id field old v s is holds same =
      let done = Go (at + 1) [] locals (record s { statics = values_with s.statics field v }) in
      ap (λ o. static_put l m at locals s o (v ∷ [])) is
      ∙ ap (λ o. with_some o (λ w. only_if (is_same_kind w v) done)) holds
      ∙ ap (λ b. only_if b done) same

  -- ---- statements

  followed : (at : ℕ) (stack mid left : List Value) (before between after : Store) (ops rest : List JOp)
      → Comes at stack before ops mid between → ((later : ℕ) → ops_from m later ≡ ops
      → Comes later mid between rest left after) → Comes at stack before rest left after
  followed at stack mid left before between after ops rest h go = by at stack before h.0 mid between h.1 (go h.0 h.2)
    where
      by : (at : ℕ) (stack : List Value) (before : Store) (later : ℕ) (mid : List Value) (between : Store)
          → Reaches l m locals at stack before later mid between → Comes later mid between rest left after
          → Comes at stack before rest left after
      by at stack before later mid between here g = g
      by at stack before later mid between (goes i e f r) g = let k = by _ _ _ later mid between r g
          in (k.0, goes i e f k.1, k.2)

  filled : (kind : Kind) (at : ℕ) (items after : List ℤ) (ops rest : List JOp) (s : Store) → Stores kind items ops after
      → HaveRoomFor m.max_stack ops → ops_from m at ≡ ops ++ rest
      → Comes at (Obj (length s.heap) ∷ []) (with-array s kind items) rest (Obj (length s.heap)
      ∷ []) (with-array s kind after)
  filled kind at items after ops rest s none roomy stands = (at, here, stands)
  filled kind at items after ops rest s (one {i = i} {z = z} {ops = more} lt fit next) roomy stands =
      let four = roomy.0 in
      let o = Obj (length s.heap) in
      let st = with-array s kind items in
      once at (jop.Stack dup) (jop.Number (pos i) ∷ jop.Number z ∷ jop.ArrayStore (store kind) ∷ (more ++ rest)) rest (o
      ∷ []) (o ∷ o ∷ []) (o ∷ []) st st (with-array s kind after) stands (copy at o st (omega (arith, four))) (λ a.
      once (at + 1) (jop.Number (pos i)) (jop.Number z ∷ jop.ArrayStore (store kind) ∷ (more ++ rest)) rest (o ∷ o
      ∷ []) (Num (pos i) ∷ o ∷ o ∷ []) (o ∷ []) st st (with-array s kind after) a (push-number (at + 1) (pos i) (o
      ∷ o ∷ []) st (omega (arith, four))) (λ b.
      once (at + 1 + 1) (jop.Number z) (jop.ArrayStore (store kind) ∷ (more ++ rest)) rest (Num (pos i) ∷ o ∷ o
      ∷ []) (Num z ∷ Num (pos i) ∷ o ∷ o ∷ []) (o ∷ []) st st (with-array s kind after) b (push-number (at + 1 + 1)
      z (Num (pos i) ∷ o ∷ o ∷ []) st (omega (arith, four))) (λ d.
      once (at + 1 + 1 + 1) (jop.ArrayStore (store kind)) (more ++ rest) rest (Num z ∷ Num (pos i) ∷ o ∷ o ∷ []) (o
      ∷ []) (o ∷ []) st (with-array s kind (slice_set items i z)) (with-array s kind after) d
      (store-item (at + 1 + 1 + 1) kind items i z s lt fit) (λ e.
      filled kind (at + 1 + 1 + 1 + 1) (slice_set items i z) after more rest s next roomy.1.1.1.1 e))))

  made-there : (at : ℕ) (made rest : List JOp) (contents : Contents) (field : MemberId) (s : Store)
      → Makes made contents → HaveRoomFor m.max_stack made → ops_from m at ≡ made ++ rest
      → Comes at [] s rest (value_by (length s.heap) contents ∷ []) (record s {
        heap = s.heap
            ++ map static_array (array_in field contents);
      })
  made-there at made rest contents field s (of_number {z = z}) roomy stands =
      let one = roomy.0 in
      subst (λ (h : List Thing). Comes at [] s rest (Num z ∷ []) (record s { heap = h })) (sym (append-nil s.heap))
      (once at (jop.Number z) rest rest [] (Num z ∷ []) (Num z ∷ []) s s s stands (push-number at z [] s (omega (
        arith,
        one,
      ))) (λ a. (at + 1, here, a)))
  made-there at made rest contents field s of_null roomy stands =
      let one = roomy.0 in
      subst (λ (h : List Thing). Comes at [] s rest (Null ∷ []) (record s { heap = h })) (sym (append-nil s.heap))
      (once at jop.Null rest rest [] (Null ∷ []) (Null ∷ []) s s s stands (push-null at [] s (omega (arith, one)))
      (λ a. (at + 1, here, a)))
  made-there at made rest contents field s (of_array {count = count} {number = number} {kind = kind} {ops = ops}
      {items = items} le is fill) roomy stands =
      let one = roomy.0 in
      let o = Obj (length s.heap) in
      once at (jop.Number (pos count)) (jop.NewArray number ∷ (ops ++ rest)) rest [] (Num (pos count) ∷ []) (o ∷ []) s s
      (with-array s kind items) stands (push-number at (pos count) [] s (omega (arith, one))) (λ a.
      once (at + 1) (jop.NewArray number) (ops ++ rest) rest (Num (pos count) ∷ []) (o ∷ []) (o ∷ []) s
      (with-array s kind (replicate count (pos 0))) (with-array s kind items) a (new-array (at + 1) count number
      kind s (omega (arith, one)) is) (λ b.
      filled kind (at + 1 + 1) (replicate count (pos 0)) items ops rest s fill roomy.1.1 b))

pub statement : (l : Linked) (m : Method) (locals : List (Option Value)) (at : ℕ) (made ops : List JOp)
    (contents : Contents) (id field : MemberId) (old : Value) (s : Store)
    → HaveRoomFor m.max_stack made → Makes made contents → ops_from m at ≡ made ++ (jop.Static true id ∷ ops)
    → l.field (let here = m.id in here.class) id ≡ Some (Static field)
    → value_in s.statics field ≡ Some old → is_same_kind old (value_by (length s.heap) contents) ≡ true
    → Comes l m locals at [] s ops [] (store_with s field contents)
statement l m locals at made ops contents id field old s roomy is stands found holds same =
    let mid = record s { heap = s.heap ++ map static_array (array_in field contents) } in
    followed l m locals at [] (value_by (length s.heap) contents ∷ []) [] s mid (store_with s field contents)
    (jop.Static true id ∷ ops) ops (made-there l m locals at made (jop.Static true id ∷ ops) contents field s is
    roomy stands) (λ later stands.
    once l m locals later (jop.Static true id) ops ops (value_by (length s.heap) contents ∷ []) [] [] mid
    (store_with s field contents) (store_with s field contents) stands (put-static l m locals later id field old
    (value_by (length s.heap) contents) mid found holds same) (λ a. (later + 1, here, a)))
