-- A method in int mode, where it is laid, begins with its prologue, which no handler of the package covers.
use Rattle.std.proofs.Common.{◌≡◌, ℕ, ◌+◌, ◌≤◌, ◌<◌, refl, sym, ap, subst, ◌∙◌, arith, Bool, true, false, List, []}
use Rattle.std.proofs.Common.{◌∷◌, ◌++◌, length, length-append, map, slice_get}
use Rattle.std.proofs.Common.{Option, Some, None, Contains, ◌⊎◌, inl, inr}
use Rattle.std.specs.Prelude.{cond, nat_le, nat_lt, option_and_then}
use Rattle.std.specs.List.{AllByRecursion}
use Rattle.std.proofs.lemmas.Bool.Decides.{nat_tests}
use Rattle.cjc_types.proofs.BytesBools.{and_true}
use Rattle.cjc_types.specs.ClassFile.Code.{CodeTree}
use Rattle.cjc_types.specs.ClassFile.declared.tree.Catch.{Catch as CatchByName}
use Rattle.cjc_types.specs.Fixpoint.Working.Edges.{contains_cons}
use Rattle.cjc_types.specs.Flow.{Body as BodyByName}
use Rattle.cjc_types.specs.World.Classes.{Class}
use Rattle.cjc_types.specs.declared.state.State.{State}
use Rattle.cjc_ncode.specs.IntCode.IntCode.{Frame, Reached, place_in, prologue, written_from}
use Rattle.cjc_ncode.specs.Written.{Resolution}
use Rattle.cjc_ncode.specs.declared.narrow.NMethod.{NMethod}
use Rattle.cjc_int_mode.specs.Intervals.Frames.{RangeState}
use Rattle.cjc_int_mode.specs.Written.{int_frame, reached_from, written_in_int_mode}
use Rattle.cjc_check_proof.specs.Code.Codes.{code_at}
use Rattle.cjc_check_proof.specs.Code.Written.{AllWritable}
use Rattle.cjc_check_proof.specs.NCode.Lowering.Handlers.{AllElsewhere, handlers_of}
use Rattle.cjc_check_proof.specs.NCode.Lowering.Handlers as lowered
use Rattle.cjc_check_proof.specs.NCode.Lowering.Naming.{Naming}
use Rattle.cjc_check_proof.specs.NCode.Lowering.Placed.{HandlersStand, first}
use Rattle.cjc_check_proof.specs.NCode.Written.{catch_at, catches_at}
use Rattle.cjc_check_proof.specs.NCode.declared.narrow.NCatch.{NCatch}
use Rattle.cjc_check_proof.specs.TokenProof.Tables.Loading.{components, part}
use Rattle.cjc_check_proof.proofs.CodeLaws.Places.{label_ascends, label_grows}
use Rattle.cjc_check_proof.proofs.CodeLaws.Sorted.{each_ordered}
use Rattle.cjc_frames.specs.Flow.{covers}
use Rattle.cjc_frames.specs.declared.acts.Catch.{Catch}
use Rattle.cjc_verify.specs.Bodies.{Body, catch, catches, frames_of, step, type_of_body}
use Rattle.cjc_verify.specs.CapRead.declared.tree.ClassRef.{ClassRef}
use Rattle.cjc_verify.specs.CapRead.declared.tree.Handler.{Handler}
use Rattle.cjc_verify.specs.CardActs.CardTypes.{ValueType}
use Rattle.cjc_verify.specs.ClassTypes.{class_type}
use Rattle.cjc_verify.specs.Components.Methods.{placed_at}
use Rattle.cjc_verify.specs.Components.Names.{class_ref, names}
use Rattle.cjc_verify.specs.Components.Package.{LaidMethod, Package, world}
use Rattle.cjc_verify.specs.Pairs.{Pair}
use Rattle.cjc_verify.specs.Script.Sorts.{Shape, shape_named}
use Rattle.cjc_accepted_proof.specs.Coded.{card_type, is_of, is_wide, label_at, step_of}
use Rattle.cjc_accepted_proof.specs.Frames.{nibbles_there, type_named}
use Rattle.cjc_accepted_proof.specs.Methods.{steps_from}
use Rattle.cjc_accepted_proof.specs.Written.{written_pair}
use Rattle.cjc_accepted_proof.proofs.MethodsLaws.{steps_long}
use Rattle.cjc_accepted_proof.proofs.StepsLaws.{steps_are_laid}
use Rattle.cjc_int_accepted.specs.Entered.{AreShapes, BeginBehind}
use Rattle.cjc_int_accepted.specs.Headers.{IsReadInIntMode}
use Rattle.cjc_int_accepted.specs.Methods.{Begins, Selection}
use Rattle.cjc_int_accepted.specs.Selection.{IsLaid, room_of}
use Rattle.cjc_int_accepted.proofs.FrontLaws.{prologue_begins}
use Rattle.cjc_int_accepted.proofs.HeadersLaws.{is_entered}

-- what has a type on the card is a class or an array
pub shapes_named : (w : List Class) (ref : List ℕ → ClassRef) → AreShapes (type_named w ref)
shapes_named w ref name type e = by (shape_named name) refl e
  where
    by : (o : Option (Shape (List ℕ))) → shape_named name ≡ o → option_and_then (nibbles_there w ref) o ≡ Some type
        → (shape : Shape (List ℕ)) × (shape_named name ≡ Some shape)
    by None is f = absurd cc
    by (Some shape) is f = (shape, is)

-- ---- handlers

pub all_both : {A : Type 0} (P : A → Type 0) (xs ys : List A) → AllByRecursion P xs → AllByRecursion P ys →
    AllByRecursion P
    (xs ++ ys)
all_both P [] ys front back = back
all_both P (x ∷ xs) ys front back = (front.0, all_both P xs ys front.1 back)

module _ (at : ℕ) (P : Handler → Type 0) where
  -- what holds of it if it covers the offset
  abbrev pub IsFit : Handler → Type 0
  IsFit h = h.start ≤ at → at < h.start + h.length → P h

  pub elsewhere_fit : (low high : ℕ) (hs : List Handler) → low ≤ at → at ≤ high → AllElsewhere low high hs
      → AllByRecursion IsFit hs
  elsewhere_fit low high [] over under off = tt
  elsewhere_fit low high (h ∷ hs) over under (lowered.before le off) = (
    λ from before. absurd (omega (arith, le, over, before)),
    elsewhere_fit low high hs over under off,
  )
  elsewhere_fit low high (h ∷ hs) over under (lowered.behind lt off) = (
    λ from before. absurd (omega (arith, lt, under, from)),
    elsewhere_fit low high hs over under off,
  )

  pub covering : (q : Pair) (hs : List Handler) → AllByRecursion IsFit hs → (c : Catch) → Contains (map (catch q) hs) c
      → covers c at ≡ true → (h : Handler) × P h × (h.start ≤ at) × (at < h.start + h.length) × (catch q h ≡ c)
  covering q [] all c (k, lt, e) over = absurd (omega (arith, lt))
  covering q (h ∷ hs) all c on over = by (contains_cons (catch q h) (map (catch q) hs) c on) (λ later. covering q hs
      all.1 c later over)
    where
      by : ((catch q h ≡ c) ⊎ Contains (map (catch q) hs) c) → (Contains (map (catch q) hs) c → (g : Handler) × P g
          × (g.start ≤ at) × (at < g.start + g.length) × (catch q g ≡ c)) → (g : Handler) × P g × (g.start ≤ at)
          × (at < g.start + g.length) × (catch q g ≡ c)
      by (inr later) more = more later
      by (inl same) more =
          let tests = and_true (nat_le c.start at) (nat_lt at (c.start + c.length)) over in
          let start : h.start ≡ c.start = ap (λ (z : Catch). z.start) same in
          let long : h.length ≡ c.length = ap (λ (z : Catch). z.length) same in
          let low : c.start ≤ at = (let e = tests.0 in grind (arith, nat_tests, e)) in
          let high : at < c.start + c.length = (let e = tests.1 in grind (arith, nat_tests, e)) in
          let from : h.start ≤ at = omega (arith, low, start) in
          let under : at < h.start + h.length = omega (arith, high, start, long) in
          (h, all.0 from under, from, under, same)

module _ (to : ℕ → ℕ) (front : ℕ) where
  -- it begins at a label behind these
  abbrev IsBehind : Handler → Type 0
  IsBehind h = (label : ℕ) × (front ≤ label) × (h.start ≡ to label)

  own_behind : (at : ℕ) (n : Naming) (cs : List NCatch) → AllByRecursion (λ (c : NCatch). front ≤ c.start) cs
      → AllByRecursion (IsFit at IsBehind) (handlers_of n to cs)
  own_behind at n [] all = tt
  own_behind at n (c ∷ cs) all = (λ from before. (c.start, all.0, refl), own_behind at n cs all.1)

-- handlers that are written for those of the class file begin behind the prologue
catches_behind : (f : Frame) (r : Resolution) (kept : List Reached) (cs : List CatchByName) → AllByRecursion
    (λ (c : NCatch). length (prologue f) ≤ c.start) (catches_at (place_in f r kept) cs)
catches_behind f r kept [] = tt
catches_behind f r kept (d ∷ cs) =
    let c = catch_at (place_in f r kept) d in
    by (nat_lt c.start c.end) (catches_behind f r kept cs)
  where
    by : (b : Bool) → AllByRecursion (λ (c : NCatch). length (prologue f) ≤ c.start) (catches_at (place_in f r kept) cs)
        → AllByRecursion (λ (c : NCatch). length (prologue f) ≤ c.start) (cond b (catch_at (place_in f r kept) d
        ∷ catches_at (place_in f r kept) cs) (catches_at (place_in f r kept) cs))
    by true rest = (omega arith, rest)
    by false rest = rest

-- ---- a method

module _ (p : Package) (number offset : ℕ) (laid : LaidMethod) (is_laid : slice_get p.methods number ≡ Some laid)
    (can : AllWritable (names p) p.methods) (stand : HandlersStand (names p) (placed_at offset laid) (part p))
    (r : Resolution) (code : CodeTree) (b : BodyByName) (rows : List (Option State))
    (ranges : List (Option RangeState)) (written : laid.code ≡ written_in_int_mode r code b rows ranges)
  where
    abbrev to : ℕ → ℕ
    to = label_at p offset laid

    abbrev count : ℕ
    count = length (let l = laid.code in l.insns)

    abbrev front : ℕ
    front = length (prologue (int_frame b))

    front_few : length (prologue (int_frame b)) ≤ length (let l = laid.code in l.insns)
    front_few =
        let f = int_frame b in
        let kept = reached_from ranges 0 b.insns rows in
        let same = ap (λ (l : NMethod). length l.insns) written in
        let long = length-append (prologue f) (written_from f r (place_in f r kept) (length (prologue f)) kept) in
        omega (arith, same, long)

    grows : (j k : ℕ) → j ≤ k → label_at p offset laid j ≤ label_at p offset laid k
    grows j k le = label_grows (names p) offset laid (can number laid is_laid) j k le

    ascends : (j k : ℕ) → j < k → k ≤ length (let l = laid.code in l.insns) → label_at p offset laid j <
        label_at p offset
        laid k
    ascends j k lt le = label_ascends (names p) offset laid (can number laid is_laid) j k lt le

    pub begin_behind : BeginBehind (label_at p offset laid) (length (prologue (int_frame b))) (catches (written_pair p))
    begin_behind h listed k lt over =
        let few = front_few in
        let begin : to 0 ≤ to k = grows 0 k (omega arith) in
        let none : first (placed_at offset laid) ≤ to 0 = omega arith in
        let last : to k ≤ to count = grows k count (omega (arith, lt, few)) in
        let own : AllByRecursion (λ (c : NCatch). front ≤ c.start) (let l = laid.code in l.catches) = subst
        (λ (l : NMethod). AllByRecursion (λ (c : NCatch). front ≤ c.start) l.catches) (sym written) (catches_behind
        (int_frame b) r (reached_from ranges 0 b.insns rows) code.catches) in
        let table = (let q = placed_at offset laid in let x = q.method in x.catches) in
        let low : first (placed_at offset laid) ≤ to k = omega (arith, begin, none) in
        let early = elsewhere_fit (to k) (IsBehind to front) (first (placed_at offset laid)) (to count)
        stand.earlier low
        last stand.earlier_elsewhere in
        let late = elsewhere_fit (to k) (IsBehind to front) (first (placed_at offset laid)) (to count)
        stand.later low last
        stand.later_elsewhere in
        let here = own_behind to front (to k) (names p) table (each_ordered (λ (c : NCatch). front ≤ c.start) (let l =
        laid.code in l.catches) own) in
        let fit = IsFit (to k) (IsBehind to front) in
        let all = all_both fit stand.earlier (handlers_of (names p) to table ++ stand.later) early (all_both fit
        (handlers_of (names p) to table) stand.later here late) in
        let got = covering (to k) (IsBehind to front) (written_pair p) (let q = components p in let x = q.method
        in x.handlers) (subst (AllByRecursion fit) (sym stand.table) all) h listed over in
        let its = got.1 in
        let start : got.0.start ≡ h.start = ap (λ (z : Catch). z.start) got.4 in
        (its.0, its.1, sym start ∙ its.2)

    -- so it begins
    pub method_begins : (result : ValueType) (new : Selection) (label : ℕ → ℕ) (v : Body) → IsReadInIntMode
        (card_type p)
        (written_pair p) r code b rows ranges v → Begins (card_type p) (is_of p) (room_of b rows ranges) new b
        rows label
        (label_at p offset laid) (frames_of (written_pair p) v) (steps_from (step_of p result offset laid) 0
        (prologue (int_frame b)))
    method_begins result new label v read = prologue_begins (written_pair p) result (names p) (label_at p offset laid)
        (is_wide p laid) (card_type p) (is_of p) (room_of b rows ranges) new b rows label (frames_of (written_pair p) v)
        (int_frame b) (class_type v.holder) (let t = type_of_body (components p) v in t.params) (shapes_named (world p)
        (class_ref p)) (is_entered (card_type p) (shapes_named (world p) (class_ref p)) (written_pair p) r code b rows
        ranges v read) count front_few ascends grows begin_behind

    -- ---- its steps

    -- where what the type checker reads is what is laid, its steps and words are those of the narrow code
    module _ (result : ValueType) (v : Body) (instructions : v.instructions ≡ (let c = code_at (names p) offset laid
        in c.instructions)) (returned : (let t = type_of_body (components p) v in t.result) ≡ result) (read
        : IsReadInIntMode (card_type p) (written_pair p) r code b rows ranges v) where
      steps_same : (let c = frames_of (written_pair p) v in c.steps) ≡ steps_from (step_of p result offset laid) 0
          (let l = laid.code in l.insns)
      steps_same =
          let writable = can number laid is_laid in
          ap (map (step (written_pair p) (let t = type_of_body (components p) v in t.result))) instructions
          ∙ ap (λ (t : ValueType). map (step (written_pair p) t) (let c = code_at (names p) offset laid in
          c.instructions))
          returned ∙ steps_are_laid p result offset laid writable.count

      pub method_laid : IsLaid r b rows ranges (step_of p result offset laid) (label_at p offset laid) (frames_of
          (written_pair p) v) code
      method_laid = record {
        steps = steps_same ∙ ap (λ (l : NMethod). steps_from (step_of p result offset laid) 0 l.insns) written;
        at = λ k i. refl;
        ascends = λ j k lt le. (
            let long = ap length steps_same in
            let same = steps_long (step_of p result offset laid) 0 (let l = laid.code in l.insns) in
            ascends j k lt (omega (arith, le, long, same))
            );
        locals = (
            let nargs = read.header.nargs in
            let others = read.header.max_locals in
            omega (arith, nargs, others)
            );
        max_stack = read.header.max_stack;
      }
