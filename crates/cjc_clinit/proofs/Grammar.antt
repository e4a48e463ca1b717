-- Reading follows the grammar: what was read so far of a statement, and what may stand behind it.
use Rattle.std.proofs.Common.{◌≡◌, ◌∙◌, refl, sym, ap, subst, ℕ, ◌<◌, ◌≤◌, List, [], ◌∷◌, ◌++◌, length, append_assoc}
use Rattle.std.proofs.Common.{append-nil, Bool, true, false, arith}
use Rattle.std.proofs.lemmas.Bool.Decides.{nat_tests}
use Rattle.std.specs.Prelude.{◌==◌, ◌&&◌, if◌then◌else◌, Option, Some, None, option_map, nat_lt, nat_le, replicate}
use Rattle.std.specs.Prelude.{slice_set, ℤ, pos, negsuc}
use Rattle.cjc_bytes.specs.declared.fault.MemberId.{MemberId}
use Rattle.cjc_bytes.specs.declared.descriptor.Kind.{Kind}
use Rattle.cjc_bytes.proofs.Options.{option_mapped, then_some}
use Rattle.cjc_bytes.proofs.Bools.{and_true}
use Rattle.cjc_bytes.proofs.Numbers.{number_same}
use Rattle.cjc_bytes.specs.declared.descriptor.Kind.TheVariants as kinds
use Rattle.cjc_subset.specs.LowerClassFile.declared.tree.ClassTree.{ClassTree}
use Rattle.cjc_subset.specs.LowerBytecode.declared.insn.JOp.{JOp}
use Rattle.cjc_subset.specs.LowerBytecode.declared.insn.JOp.TheVariants as jop
use Rattle.cjc_subset.specs.LowerWorld.declared.image.ArrayCell.{ArrayCell}
use Rattle.cjc_subset.specs.LowerWorld.Files.{Files}
use Rattle.cjc_clinit.specs.declared.stage.Held.{Held}
use Rattle.cjc_clinit.specs.declared.stage.Stage.{Stage}
use Rattle.cjc_clinit.specs.declared.stage.Stage.TheVariants as stages
use Rattle.cjc_clinit.specs.Fields.{Contents, ANumber, ANull, AnArray, fits, held_by}
use Rattle.cjc_subset.specs.LowerBytecode.Jvm.{dup, return}
use Rattle.cjc_clinit.specs.Initialiser.{element_kind, store, most_items, place_for, Stores, Makes, Put, Initialises}
use Rattle.cjc_clinit.specs.Initialiser.{IsBeginning}
use Rattle.cjc_clinit.specs.Initialiser.Stores.{none, one}
use Rattle.cjc_clinit.specs.Initialiser.Makes.{of_number, of_null, of_array}
use Rattle.cjc_clinit.specs.Image.{own_field, array_in, arrays_of}
use Rattle.cjc_clinit.specs.Working.Reading.{State, state, stage_if, index_in, after_number, after_null, after_return}
use Rattle.cjc_clinit.specs.Working.Reading.{after_stack, after_store, after_newarray, new_array, count_in, stage_after}
use Rattle.cjc_clinit.specs.Working.Reading.{contents_of, state_with, after_put, after_static, state_after, is_ended}
use Rattle.cjc_clinit.specs.Working.Reading.{ended}
use Rattle.cjc_clinit.proofs.Runs.{run, run-cons, run-append, run-both}

-- ---- stores and arrays, one store more

abbrev pub storing : Kind → ℕ → ℤ → List JOp
storing kind i z = jop.Stack dup ∷ jop.Number (pos i) ∷ jop.Number z ∷ jop.ArrayStore (store kind) ∷ []

pub stores-more : {kind : Kind} {before after : List ℤ} {ops : List JOp} (i : ℕ) (z : ℤ) → Stores kind before ops after
    → i < length after → fits kind z ≡ true → Stores kind before (ops ++ storing kind i z) (slice_set after i z)
stores-more i z none lt f = one lt f none
stores-more i z (one l g r) lt f = one l g (stores-more i z r lt f)

pub array-more : {kind : Kind} {items : List ℤ} {ops : List JOp} (i : ℕ) (z : ℤ) → Makes ops (AnArray kind items)
    → i < length items → fits kind z ≡ true → Makes (ops ++ storing kind i z) (AnArray kind (slice_set items i z))
array-more i z (of_array le k r) lt f = of_array le k (stores-more i z r lt f)

-- an array of numbers takes 0
zero-by : (a b d e : Bool) (kind : Kind) → (if a then Some kinds.Bool else if b then Some kinds.Byte else if d
    then Some kinds.Short else if e then Some kinds.Int else None) ≡ Some kind → fits kind (pos 0) ≡ true
zero-by true b d e kind h = let k : kinds.Bool ≡ kind = cc in ap (λ q. fits q (pos 0)) (sym k)
zero-by false true d e kind h = let k : kinds.Byte ≡ kind = cc in ap (λ q. fits q (pos 0)) (sym k)
zero-by false false true e kind h = let k : kinds.Short ≡ kind = cc in ap (λ q. fits q (pos 0)) (sym k)
zero-by false false false true kind h = let k : kinds.Int ≡ kind = cc in ap (λ q. fits q (pos 0)) (sym k)
zero-by false false false false kind h = absurd (cc)

pub zero-fits : {kind : Kind} {items : List ℤ} {ops : List JOp} → Makes ops (AnArray kind items)
    → fits kind (pos 0) ≡ true
zero-fits (of_array {number = n} {kind = k} le e r) = zero-by (n == 4) (n == 8) (n == 9) (n == 10) k e

-- ---- how far a statement is, and its instructions so far

abbrev pub At : Stage → List JOp → Type 0
At stages.Free pre = pre ≡ []
At (stages.Number z) pre = pre ≡ jop.Number z ∷ []
At stages.Null pre = pre ≡ jop.Null ∷ []
At (stages.Array kind items) pre = Makes pre (AnArray kind items)
At (stages.Copied kind items) pre = (front : List JOp) × Makes front (AnArray kind items) × (0 < length items)
    × (pre ≡ front ++ jop.Stack dup ∷ [])
At (stages.Indexed kind items i) pre = (front : List JOp) × Makes front (AnArray kind items) × (i < length items)
    × (pre ≡ front ++ jop.Stack dup ∷ jop.Number (pos i) ∷ [])
At (stages.Valued kind items i z) pre = (front : List JOp) × Makes front (AnArray kind items) × (i < length items)
    × (fits kind z ≡ true) × (pre ≡ front ++ jop.Stack dup ∷ jop.Number (pos i) ∷ jop.Number z ∷ [])
At stages.Ended pre = pre ≡ jop.Return return ∷ []

if-stage : (b : Bool) (s t : Stage) → stage_if b s ≡ Some t → (b ≡ true) × (s ≡ t)
if-stage true s t e = (refl, (let f : s ≡ t = cc in f))
if-stage false s t e = absurd (cc)

index-of : (items : List ℤ) (z : ℤ) (i : ℕ) → index_in items z ≡ Some i → (z ≡ pos i) × (i < length items)
index-of items (pos n) i e = by (nat_lt n (length items)) refl e
  where
    by : (b : Bool) → nat_lt n (length items) ≡ b → (if b then Some n else None) ≡ Some i → (pos n ≡ pos i)
        × (i < length items)
    by true t h = let f : n ≡ i = cc in (ap (λ q. pos q) f, subst (λ q. q < length items) f (grind (arith, nat_tests)))
    by false t h = absurd (cc)
index-of items (negsuc n) i e = absurd (cc)

count-of : (z : ℤ) (n : ℕ) → count_in z ≡ Some n → (z ≡ pos n) × (n ≤ most_items)
count-of (pos m) n e = by (nat_le m most_items) refl e
  where
    by : (b : Bool) → nat_le m most_items ≡ b → (if b then Some m else None) ≡ Some n → (pos m ≡ pos n)
        × (n ≤ most_items)
    by true t h = let f : m ≡ n = cc in (ap (λ q. pos q) f, subst (λ q. q ≤ most_items) f (grind (arith, nat_tests)))
    by false t h = absurd (cc)
count-of (negsuc m) n e = absurd (cc)

step-number : (z : ℤ) (s t : Stage) (pre : List JOp) → after_number z s ≡ Some t → At s pre
    → At t (pre ++ jop.Number z ∷ [])
step-number z stages.Free t pre e h = let f : stages.Number z ≡ t = cc in subst (λ q. At q (pre ++ jop.Number z ∷ [])) f
    (ap (λ (q : List JOp). q ++ jop.Number z ∷ []) h)
step-number z (stages.Copied kind items) t pre e h =
    let p = option_mapped (λ i. stages.Indexed kind items i) (index_in items z) t e in
    let q = index-of items z p.0 p.1 in
    subst (λ v. At v (pre ++ jop.Number z ∷ [])) p.2 (
      h.0,
      h.1,
      q.1,
      ap (λ (v : List JOp). v ++ jop.Number z ∷ []) h.3 ∙ append_assoc h.0 (jop.Stack dup
          ∷ []) (jop.Number z ∷ []) ∙ ap (λ v. h.0 ++ jop.Stack dup ∷ jop.Number v ∷ []) q.0,
    )
step-number z (stages.Indexed kind items i) t pre e h =
    let p = if-stage (fits kind z) (stages.Valued kind items i z) t e in
    subst (λ v. At v (pre ++ jop.Number z ∷ [])) p.1 (
      h.0,
      h.1,
      h.2,
      p.0,
      ap (λ (v : List JOp). v ++ jop.Number z ∷ []) h.3 ∙ append_assoc h.0 (jop.Stack dup
          ∷ jop.Number (pos i) ∷ []) (jop.Number z ∷ []),
    )
step-number z (stages.Number y) t pre e h = absurd (cc)
step-number z stages.Null t pre e h = absurd (cc)
step-number z (stages.Array kind items) t pre e h = absurd (cc)
step-number z (stages.Valued kind items i y) t pre e h = absurd (cc)
step-number z stages.Ended t pre e h = absurd (cc)

step-null : (s t : Stage) (pre : List JOp) → after_null s ≡ Some t → At s pre → At t (pre ++ jop.Null ∷ [])
step-null stages.Free t pre e h = let f : stages.Null ≡ t = cc in subst (λ q. At q (pre ++ jop.Null ∷ [])) f
    (ap (λ (q : List JOp). q ++ jop.Null ∷ []) h)
step-null (stages.Number y) t pre e h = absurd (cc)
step-null stages.Null t pre e h = absurd (cc)
step-null (stages.Array kind items) t pre e h = absurd (cc)
step-null (stages.Copied kind items) t pre e h = absurd (cc)
step-null (stages.Indexed kind items i) t pre e h = absurd (cc)
step-null (stages.Valued kind items i y) t pre e h = absurd (cc)
step-null stages.Ended t pre e h = absurd (cc)

step-return : (op : ℕ) (s t : Stage) (pre : List JOp) → after_return op s ≡ Some t → At s pre
    → At t (pre ++ jop.Return op ∷ [])
step-return op stages.Free t pre e h =
    let p = if-stage (op == return) stages.Ended t e in
    subst (λ q. At q (pre ++ jop.Return op ∷ [])) p.1 (ap (λ (q : List JOp). q ++ jop.Return op ∷ []) h
    ∙ ap (λ q. jop.Return q ∷ []) (number_same op return p.0))
step-return op (stages.Number y) t pre e h = absurd (cc)
step-return op stages.Null t pre e h = absurd (cc)
step-return op (stages.Array kind items) t pre e h = absurd (cc)
step-return op (stages.Copied kind items) t pre e h = absurd (cc)
step-return op (stages.Indexed kind items i) t pre e h = absurd (cc)
step-return op (stages.Valued kind items i y) t pre e h = absurd (cc)
step-return op stages.Ended t pre e h = absurd (cc)

step-stack : (op : ℕ) (s t : Stage) (pre : List JOp) → after_stack op s ≡ Some t → At s pre
    → At t (pre ++ jop.Stack op ∷ [])
step-stack op (stages.Array kind items) t pre e h =
    let p = if-stage (op == dup && nat_lt 0 (length items)) (stages.Copied kind items) t e in
    let q = and_true (op == dup) (nat_lt 0 (length items)) p.0 in
    let lt : 0 < length items = (let b = q.1 in grind (arith, nat_tests)) in
    subst (λ v. At v (pre ++ jop.Stack op ∷ [])) p.1 (
      pre,
      h,
      lt,
      ap (λ v. pre ++ jop.Stack v ∷ [])
          (number_same op dup q.0),
    )
step-stack op stages.Free t pre e h = absurd (cc)
step-stack op (stages.Number y) t pre e h = absurd (cc)
step-stack op stages.Null t pre e h = absurd (cc)
step-stack op (stages.Copied kind items) t pre e h = absurd (cc)
step-stack op (stages.Indexed kind items i) t pre e h = absurd (cc)
step-stack op (stages.Valued kind items i y) t pre e h = absurd (cc)
step-stack op stages.Ended t pre e h = absurd (cc)

step-store : (op : ℕ) (s t : Stage) (pre : List JOp) → after_store op s ≡ Some t → At s pre
    → At t (pre ++ jop.ArrayStore op ∷ [])
step-store op (stages.Valued kind items i z) t pre e h =
    let p = if-stage (op == store kind) (stages.Array kind (slice_set items i z)) t e in
    let parts : h.0 ++ storing kind i z ≡ pre ++ jop.ArrayStore op ∷ [] =
    sym (ap (λ (v : List JOp). v ++ jop.ArrayStore op ∷ []) h.4 ∙ append_assoc h.0 (jop.Stack dup ∷ jop.Number (pos i)
    ∷ jop.Number z ∷ []) (jop.ArrayStore op ∷ [])
    ∙ ap (λ v. h.0 ++ jop.Stack dup ∷ jop.Number (pos i) ∷ jop.Number z ∷ jop.ArrayStore v ∷ []) (number_same op
    (store kind)
    p.0)) in
    subst (λ v. At v (pre ++ jop.ArrayStore op ∷ [])) p.1 (subst (λ v. Makes v (AnArray kind (slice_set items i z)))
    parts (array-more i z h.1 h.2 h.3))
step-store op stages.Free t pre e h = absurd (cc)
step-store op (stages.Number y) t pre e h = absurd (cc)
step-store op stages.Null t pre e h = absurd (cc)
step-store op (stages.Array kind items) t pre e h = absurd (cc)
step-store op (stages.Copied kind items) t pre e h = absurd (cc)
step-store op (stages.Indexed kind items i) t pre e h = absurd (cc)
step-store op stages.Ended t pre e h = absurd (cc)

array-of : (kind : Option Kind) (count : Option ℕ) (t : Stage) → new_array kind count ≡ Some t → (k : Kind) × (n : ℕ)
    × (kind ≡ Some k) × (count ≡ Some n) × (stages.Array k (replicate n (pos 0)) ≡ t)
array-of None None t e = absurd (cc)
array-of None (Some n) t e = absurd (cc)
array-of (Some k) None t e = absurd (cc)
array-of (Some k) (Some n) t e = (k, n, refl, refl, (let f : stages.Array k (replicate n (pos 0)) ≡ t = cc in f))

step-newarray : (type : ℕ) (s t : Stage) (pre : List JOp) → after_newarray type s ≡ Some t → At s pre
    → At t (pre ++ jop.NewArray type ∷ [])
step-newarray type (stages.Number z) t pre e h =
    let p = array-of (element_kind type) (count_in z) t e in
    let q = count-of z p.1 p.3 in
    let parts : jop.Number (pos p.1) ∷ jop.NewArray type ∷ [] ≡ pre ++ jop.NewArray type ∷ [] =
    ap (λ v. jop.Number v ∷ jop.NewArray type ∷ []) (sym q.0)
    ∙ sym (ap (λ (v : List JOp). v ++ jop.NewArray type ∷ []) h) in
    subst (λ v. At v (pre ++ jop.NewArray type ∷ [])) p.4 (subst (λ v. Makes v (AnArray p.0 (replicate p.1 (pos 0))))
    parts (of_array q.1 p.2 none))
step-newarray type stages.Free t pre e h = absurd (cc)
step-newarray type stages.Null t pre e h = absurd (cc)
step-newarray type (stages.Array kind items) t pre e h = absurd (cc)
step-newarray type (stages.Copied kind items) t pre e h = absurd (cc)
step-newarray type (stages.Indexed kind items i) t pre e h = absurd (cc)
step-newarray type (stages.Valued kind items i y) t pre e h = absurd (cc)
step-newarray type stages.Ended t pre e h = absurd (cc)

-- one instruction more
pub step : (s t : Stage) (op : JOp) (pre : List JOp) → stage_after s op ≡ Some t → At s pre → At t (pre ++ op ∷ [])
unfolding stage_after
step s t (jop.Number z) pre e h = step-number z s t pre e h
step s t jop.Null pre e h = step-null s t pre e h
step s t (jop.Return op) pre e h = step-return op s t pre e h
step s t (jop.Stack op) pre e h = step-stack op s t pre e h
step s t (jop.ArrayStore op) pre e h = step-store op s t pre e h
step s t (jop.NewArray type) pre e h = step-newarray type s t pre e h
step s t op pre e h = absurd (cc)

-- what is put, where all of it is on the stack
made : (s : Stage) (contents : Contents) (pre : List JOp) → contents_of s ≡ Some contents → At s pre
    → Makes pre contents
made (stages.Number z) contents pre e h = let f : ANumber z ≡ contents = cc
    in subst (λ v. Makes pre v) f (subst (λ v. Makes v (ANumber z)) (sym h) of_number)
made stages.Null contents pre e h = let f : ANull ≡ contents = cc
    in subst (λ v. Makes pre v) f (subst (λ v. Makes v ANull) (sym h) of_null)
made (stages.Array kind items) contents pre e h = let f : AnArray kind items ≡ contents = cc
    in subst (λ v. Makes pre v) f h
made stages.Free contents pre e h = absurd (cc)
made (stages.Copied kind items) contents pre e h = absurd (cc)
made (stages.Indexed kind items i) contents pre e h = absurd (cc)
made (stages.Valued kind items i y) contents pre e h = absurd (cc)
made stages.Ended contents pre e h = absurd (cc)

abbrev pub stage_of : Contents → Stage
stage_of (ANumber z) = stages.Number z
stage_of ANull = stages.Null
stage_of (AnArray kind items) = stages.Array kind items

stage-contents : (contents : Contents) → contents_of (stage_of contents) ≡ Some contents
stage-contents (ANumber z) = refl
stage-contents ANull = refl
stage-contents (AnArray kind items) = refl

-- a put, or an instruction of a statement
pub data Stepped (files : Files) (class : ℕ) (c : ClassTree) (s : State) (t : State) : JOp → Type 0 where
  goes : {op : JOp} (u : Stage) → stage_after s.stage op ≡ Some u → t ≡ state s.fields s.arrays u
      → Stepped files class c s t op
  puts : {id : MemberId} (contents : Contents) (k : ℕ) → contents_of s.stage ≡ Some contents
      → place_for files class c s.fields contents id ≡ Some k → t ≡ state_with files class c contents id s k
      → Stepped files class c s t (jop.Static true id)

module _ (files : Files) (class : ℕ) (c : ClassTree) where
  going : (s t : State) (op : JOp) → option_map (λ u. state s.fields s.arrays u) (stage_after s.stage op) ≡ Some t
      → Stepped files class c s t op
  going s t op e = let p = option_mapped (λ u. state s.fields s.arrays u) (stage_after s.stage op) t e
      in goes p.0 p.1 (sym p.2)

  putting : (s t : State) (id : MemberId) (o : Option Contents) → contents_of s.stage ≡ o
      → after_put files class c o id s ≡ Some t → Stepped files class c s t (jop.Static true id)
  putting s t id None is e = absurd (cc)
  putting s t id (Some contents) is e = let p = option_mapped (λ k. state_with files class c contents id s k)
      (place_for files class c s.fields contents id) t e in puts contents p.0 is p.1 (sym p.2)

  static : (s t : State) (put : Bool) (id : MemberId) → after_static files class c put id s ≡ Some t
      → Stepped files class c s t (jop.Static put id)
  static s t true id e = putting s t id (contents_of s.stage) refl e
  static s t false id e = absurd (cc)

  pub stepped : (s t : State) (op : JOp) → state_after files class c s op ≡ Some t → Stepped files class c s t op
  unfolding state_after
  stepped s t (jop.Static put id) e = static s t put id e
  stepped s t op e = going s t op e

  -- ---- from a statement's beginning to the end

  -- what the rest of an initialiser does, of which this stands before
  abbrev pub Rest : List Held → List ArrayCell → List JOp → State → Type 0
  Rest fields arrays ops t = (puts : List Put) × Initialises files class c fields ops puts t.fields
      × (t.arrays ≡ arrays ++ arrays_of c puts)

  last : (s t : State) (pre : List JOp) → s ≡ t → is_ended t.stage ≡ true → At s.stage pre
      → Rest s.fields s.arrays (pre ++ []) t
  last s t pre e ended h = by s.stage refl (ap (λ (q : State). is_ended q.stage) e ∙ ended) h
    where
      by : (u : Stage) → s.stage ≡ u → is_ended u ≡ true → At u pre → Rest s.fields s.arrays (pre ++ []) t
      by stages.Ended is n h = (
        [],
        subst (λ (q : State). Initialises files class c s.fields (pre ++ []) [] q.fields) e
            (subst (λ (q : List JOp). Initialises files class c s.fields q [] s.fields) (sym (append-nil pre ∙ h))
            Initialises.ends),
        sym (ap (λ (q : State). q.arrays) e) ∙ sym (append-nil s.arrays),
      )
      by stages.Free is n h = absurd (cc)
      by (stages.Number y) is n h = absurd (cc)
      by stages.Null is n h = absurd (cc)
      by (stages.Array kind items) is n h = absurd (cc)
      by (stages.Copied kind items) is n h = absurd (cc)
      by (stages.Indexed kind items i) is n h = absurd (cc)
      by (stages.Valued kind items i y) is n h = absurd (cc)

  pub follows : (ops : List JOp) (s t : State) (pre : List JOp) → At s.stage pre → run files class c s ops ≡ Some t
      → is_ended t.stage ≡ true → Rest s.fields s.arrays (pre ++ ops) t
  follows [] s t pre h e ended = last s t pre (let f : s ≡ t = cc in f) ended h
  follows (op ∷ ops) s t pre h e ended = by (λ u front on go. follows ops u t front on go ended) op
      (stepped s p.0 op p.1)
    where
      p : (u : State) × (state_after files class c s op ≡ Some u) × (run files class c u ops ≡ Some t)
      p = then_some (λ u. run files class c u ops) (state_after files class c s op) t e

      by : ((u : State) (front : List JOp) → At u.stage front → run files class c u ops ≡ Some t
          → Rest u.fields u.arrays (front ++ ops) t) → (x : JOp) → Stepped files class c s p.0 x
          → Rest s.fields s.arrays (pre ++ x ∷ ops) t
      by more x (goes u is to) =
          let on : At p.0.stage (pre ++ x ∷ []) = subst (λ (q : State). At q.stage (pre ++ x ∷ [])) (sym to)
          (step s.stage u x pre is h) in
          let rest = more p.0 (pre ++ x ∷ []) on p.2 in
          let there = subst (λ (q : List JOp). Rest p.0.fields p.0.arrays q t) (append_assoc pre (x ∷ []) ops) rest in
          subst (λ (q : State). Rest q.fields q.arrays (pre ++ x ∷ ops) t) to there
      by more x (puts {id = id} contents k is place to) =
          let rest = more p.0 [] (subst (λ (q : State). At q.stage []) (sym to) refl) p.2 in
          let there = subst (λ (q : State). Rest q.fields q.arrays ops t) to rest in (
            record { place = k; field = id; contents = contents } ∷ there.0,
            Initialises.puts (made s.stage contents pre is h) place there.1,
            there.2 ∙ append_assoc s.arrays (array_in (own_field c id) contents) (arrays_of c there.0),
          )

  -- ---- beginnings

  pub begun : (fields : List Held) (s : Stage) (pre : List JOp) → At s pre → IsBeginning files class c fields pre
  begun fields stages.Free pre h = subst (λ (q : List JOp). IsBeginning files class c fields q) (sym h)
      (IsBeginning.begins (jop.Null ∷ []) ANull of_null)
  begun fields (stages.Number z) pre h = subst (λ (q : List JOp). IsBeginning files class c fields q) (sym h)
      (IsBeginning.begins [] (ANumber z) of_number)
  begun fields stages.Null pre h = subst (λ (q : List JOp). IsBeginning files class c fields q) (sym h)
      (IsBeginning.begins [] ANull of_null)
  begun fields (stages.Array kind items) pre h = IsBeginning.begins [] (AnArray kind items)
      (subst (λ (q : List JOp). Makes q (AnArray kind items)) (sym (append-nil pre)) h)
  begun fields (stages.Copied kind items) pre h =
      let more = jop.Number (pos 0) ∷ jop.Number (pos 0) ∷ jop.ArrayStore (store kind) ∷ [] in
      let parts : h.0 ++ storing kind 0 (pos 0) ≡ pre ++ more = sym (ap (λ (q : List JOp). q ++ more) h.3
      ∙ append_assoc h.0 (jop.Stack dup ∷ []) more) in
      IsBeginning.begins more (AnArray kind (slice_set items 0 (pos 0)))
      (subst (λ (q : List JOp). Makes q (AnArray kind (slice_set items 0 (pos 0)))) parts (array-more 0 (pos 0) h.1
      h.2 (zero-fits h.1)))
  begun fields (stages.Indexed kind items i) pre h =
      let more = jop.Number (pos 0) ∷ jop.ArrayStore (store kind) ∷ [] in
      let parts : h.0 ++ storing kind i (pos 0) ≡ pre ++ more = sym (ap (λ (q : List JOp). q ++ more) h.3
      ∙ append_assoc h.0 (jop.Stack dup ∷ jop.Number (pos i) ∷ []) more) in
      IsBeginning.begins more (AnArray kind (slice_set items i (pos 0)))
      (subst (λ (q : List JOp). Makes q (AnArray kind (slice_set items i (pos 0)))) parts (array-more i (pos 0) h.1
      h.2 (zero-fits h.1)))
  begun fields (stages.Valued kind items i z) pre h =
      let more = jop.ArrayStore (store kind) ∷ [] in
      let parts : h.0 ++ storing kind i z ≡ pre ++ more = sym (ap (λ (q : List JOp). q ++ more) h.4
      ∙ append_assoc h.0 (jop.Stack dup ∷ jop.Number (pos i) ∷ jop.Number z ∷ []) more) in
      IsBeginning.begins more (AnArray kind (slice_set items i z))
      (subst (λ (q : List JOp). Makes q (AnArray kind (slice_set items i z))) parts (array-more i z h.1 h.2 h.3))
  begun fields stages.Ended pre h = subst (λ (q : List JOp). IsBeginning files class c fields q) (sym h)
      IsBeginning.ends

  pub begins-so : (ops : List JOp) (s t : State) (pre : List JOp) → At s.stage pre → run files class c s ops ≡ Some t
      → IsBeginning files class c s.fields (pre ++ ops)
  begins-so [] s t pre h e = subst (λ (q : List JOp). IsBeginning files class c s.fields q) (sym (append-nil pre))
      (begun s.fields s.stage pre h)
  begins-so (op ∷ ops) s t pre h e = by (λ u front on go. begins-so ops u t front on go) op (stepped s p.0 op p.1)
    where
      p : (u : State) × (state_after files class c s op ≡ Some u) × (run files class c u ops ≡ Some t)
      p = then_some (λ u. run files class c u ops) (state_after files class c s op) t e

      by : ((u : State) (front : List JOp) → At u.stage front → run files class c u ops ≡ Some t
          → IsBeginning files class c u.fields (front ++ ops)) → (x : JOp) → Stepped files class c s p.0 x
          → IsBeginning files class c s.fields (pre ++ x ∷ ops)
      by more x (goes u is to) =
          let on : At p.0.stage (pre ++ x ∷ []) = subst (λ (q : State). At q.stage (pre ++ x ∷ [])) (sym to)
          (step s.stage u x pre is h) in
          let rest = more p.0 (pre ++ x ∷ []) on p.2 in
          let there = subst (λ (q : List JOp). IsBeginning files class c p.0.fields q) (append_assoc pre (x ∷ []) ops)
          rest in
          subst (λ (q : State). IsBeginning files class c q.fields (pre ++ x ∷ ops)) to there
      by more x (puts {id = id} contents k is place to) =
          let rest = more p.0 [] (subst (λ (q : State). At q.stage []) (sym to) refl) p.2 in
          IsBeginning.puts contents id k (made s.stage contents pre is h) place
          (subst (λ (q : State). IsBeginning files class c q.fields ops) to rest)

  -- ---- what the grammar has is read

  after-stage : (fields : List Held) (arrays : List ArrayCell) (s t : Stage) (op : JOp) → stage_after s op ≡ Some t
      → option_map (λ u. state fields arrays u) (stage_after s op) ≡ Some (state fields arrays t)
  after-stage fields arrays s t op e = ap (λ (o : Option Stage). option_map (λ u. state fields arrays u) o) e

  stores-run : {kind : Kind} {before after : List ℤ} {ops : List JOp} (fields : List Held) (arrays : List ArrayCell)
      → Stores kind before ops after → run files class c (state fields arrays (stages.Array kind before)) ops
      ≡ Some (state fields arrays (stages.Array kind after))
  unfolding state_after stage_after
  stores-run fields arrays none = refl
  stores-run {kind} fields arrays (one {items = items} {i = i} {z = z} {ops = ops} lt f r) =
      let item : nat_lt 0 (length items) ≡ true = grind (arith, nat_tests) in
      let index : nat_lt i (length items) ≡ true = grind (arith, nat_tests) in
      let same : (store kind == store kind) ≡ true = grind (arith, nat_tests) in
      run-cons files class c (state fields arrays (stages.Array kind items))
      (state fields arrays (stages.Copied kind items)) (jop.Stack dup) (jop.Number (pos i) ∷ jop.Number z
      ∷ jop.ArrayStore (store kind) ∷ ops)
      (after-stage fields arrays (stages.Array kind items) (stages.Copied kind items) (jop.Stack dup)
      (ap (λ b. stage_if b (stages.Copied kind items)) item))
      ∙ run-cons files class c (state fields arrays (stages.Copied kind items))
      (state fields arrays (stages.Indexed kind items i)) (jop.Number (pos i)) (jop.Number z
      ∷ jop.ArrayStore (store kind) ∷ ops)
      (after-stage fields arrays (stages.Copied kind items) (stages.Indexed kind items i) (jop.Number (pos i))
      (ap (λ b. option_map (λ j. stages.Indexed kind items j) (if b then Some i else None)) index))
      ∙ run-cons files class c (state fields arrays (stages.Indexed kind items i))
      (state fields arrays (stages.Valued kind items i z)) (jop.Number z) (jop.ArrayStore (store kind) ∷ ops)
      (after-stage fields arrays (stages.Indexed kind items i) (stages.Valued kind items i z) (jop.Number z)
      (ap (λ b. stage_if b (stages.Valued kind items i z)) f))
      ∙ run-cons files class c (state fields arrays (stages.Valued kind items i z))
      (state fields arrays (stages.Array kind (slice_set items i z))) (jop.ArrayStore (store kind)) ops
      (after-stage fields arrays (stages.Valued kind items i z) (stages.Array kind (slice_set items i z))
      (jop.ArrayStore (store kind)) (ap (λ b. stage_if b (stages.Array kind (slice_set items i z))) same))
      ∙ stores-run fields arrays r

  pub makes-run : {ops : List JOp} {contents : Contents} (fields : List Held) (arrays : List ArrayCell)
      → Makes ops contents → run files class c (state fields arrays stages.Free) ops
      ≡ Some (state fields arrays (stage_of contents))
  unfolding state_after stage_after
  makes-run fields arrays of_number = refl
  makes-run fields arrays of_null = refl
  makes-run fields arrays (of_array {count = n} {number = type} {kind = kind} {ops = ops} le e r) =
      let small : nat_le n most_items ≡ true = grind (arith, nat_tests) in
      let counts : count_in (pos n) ≡ Some n = ap (λ b. if b then Some n else None) small in
      run-cons files class c (state fields arrays (stages.Number (pos n)))
      (state fields arrays (stages.Array kind (replicate n (pos 0)))) (jop.NewArray type) ops
      (after-stage fields arrays (stages.Number (pos n)) (stages.Array kind (replicate n (pos 0))) (jop.NewArray type)
      (ap (λ k. new_array k (count_in (pos n))) e ∙ ap (λ k. new_array (Some kind) k) counts))
      ∙ stores-run fields arrays r

  put-run : (fields : List Held) (arrays : List ArrayCell) (contents : Contents) (id : MemberId) (k : ℕ)
      → place_for files class c fields contents id ≡ Some k
      → state_after files class c (state fields arrays (stage_of contents)) (jop.Static true id)
      ≡ Some (state (slice_set fields k (held_by contents)) (arrays ++ array_in (own_field c id) contents)
      stages.Free)
  unfolding state_after
  put-run fields arrays contents id k e =
      ap (λ (o : Option Contents). after_put files class c o id (state fields arrays (stage_of contents)))
      (stage-contents contents)
      ∙ ap (λ (o : Option ℕ). option_map (λ j. state_with files class c contents id
      (state fields arrays (stage_of contents)) j) o) e

  -- a statement
  statement : {pre : List JOp} (fields : List Held) (arrays : List ArrayCell) (contents : Contents) (id : MemberId)
      (k : ℕ) (ops : List JOp) → Makes pre contents → place_for files class c fields contents id ≡ Some k
      → run files class c (state fields arrays stages.Free) (pre ++ jop.Static true id ∷ ops)
      ≡ run files class c (state (slice_set fields k (held_by contents)) (arrays
      ++ array_in (own_field c id) contents) stages.Free) ops
  statement {pre} fields arrays contents id k ops m place =
      run-both files class c pre (jop.Static true id ∷ ops) (state fields arrays stages.Free)
      (state fields arrays (stage_of contents)) (makes-run fields arrays m)
      ∙ run-cons files class c (state fields arrays (stage_of contents)) (state (slice_set fields k (held_by contents))
      (arrays ++ array_in (own_field c id) contents) stages.Free) (jop.Static true id) ops (put-run fields arrays
      contents id k place)

  pub initialises-run : {fields after : List Held} {ops : List JOp} {ps : List Put} (arrays : List ArrayCell)
      → Initialises files class c fields ops ps after → run files class c (state fields arrays stages.Free) ops
      ≡ Some (state after (arrays ++ arrays_of c ps) stages.Ended)
  unfolding state_after stage_after
  initialises-run {fields} arrays Initialises.ends = ap (λ (q : List ArrayCell). Some (state fields q stages.Ended))
      (sym (append-nil arrays))
  initialises-run {fields} {after} arrays (Initialises.puts {ops = ops} {contents = contents} {id = id} {k = k}
      {rest = rest} m place r) =
      statement fields arrays contents id k ops m place ∙ initialises-run (arrays ++ array_in (own_field c id) contents)
      r
      ∙ ap (λ (q : List ArrayCell). Some (state after q stages.Ended)) (append_assoc arrays (array_in (own_field c id)
      contents) (arrays_of c rest))

  pub beginning-runs : {fields : List Held} {ops : List JOp} (arrays : List ArrayCell)
      → IsBeginning files class c fields ops → (t : State) × (run files class c (state fields arrays stages.Free) ops
      ≡ Some t)
  unfolding state_after stage_after
  beginning-runs {fields} {ops} arrays (IsBeginning.begins more contents m) =
      let p = then_some (λ u. run files class c u more) (run files class c (state fields arrays stages.Free) ops)
      (state fields arrays (stage_of contents))
      (sym (run-append files class c ops more (state fields arrays stages.Free)) ∙ makes-run fields arrays m)
      in (p.0, p.1)
  beginning-runs {fields} arrays IsBeginning.ends = (state fields arrays stages.Ended, refl)
  beginning-runs {fields} arrays (IsBeginning.puts {ops = ops} contents id k m place r) =
      let p = beginning-runs (arrays ++ array_in (own_field c id) contents) r
      in (p.0, statement fields arrays contents id k ops m place ∙ p.1)
