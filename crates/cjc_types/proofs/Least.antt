-- A method has one least table, and with it one answer.
use Rattle.std.proofs.Common.{◌≡◌, ◌⊎◌, ◌≤◌, ◌<◌, ℕ, List, [], ◌∷◌, length, slice_get, get_or, Option, Some, None}
use Rattle.std.proofs.Common.{option_map, Result, Ok, Err, IfOk, IfErr, refl, sym, ◌∙◌, ap, subst, inl, inr, arith}
use Rattle.std.proofs.lemmas.Option.{slice_get_within, slice_get-get_or, get_or_from_slice_get}
use Rattle.cjc_bytes.specs.declared.breaks.BrokenAt.{BrokenAt}
use Rattle.cjc_bytes.proofs.Gets.{same_by_get, not_past}
use Rattle.cjc_classfile.specs.Code.{CodeTree}
use Rattle.cjc_classfile.specs.declared.tree.ClassTree.{ClassTree}
use Rattle.cjc_classfile.specs.declared.tree.MethodTree.{MethodTree}
use Rattle.cjc_code.specs.declared.insn.JInsn.{JInsn}
use Rattle.cjc_code.specs.declared.method_code.MethodCode.{MethodCode}
use Rattle.cjc_fixpoint.specs.Kept.{StandsForLeast, full}
use Rattle.cjc_fixpoint.specs.Tables.{HasRow}
use Rattle.cjc_fixpoint.proofs.Walking.{kept_in_full, kept_same}
use Rattle.cjc_world.specs.Classes.{Class}
use Rattle.cjc_world.specs.Files.{Files}
use Rattle.cjc_types.specs.declared.cell.Cell.{Cell}
use Rattle.cjc_types.specs.declared.inference.FirstBroken.{FirstBroken}
use Rattle.cjc_types.specs.declared.inference.InferError.{InferError}
use Rattle.cjc_types.specs.declared.inference.InferError.TheVariants as errors
use Rattle.cjc_types.specs.declared.state.Stack.TheVariants.{Cells}
use Rattle.cjc_types.specs.declared.state.State.{State}
use Rattle.cjc_types.specs.declared.table.Frame.{Frame}
use Rattle.cjc_types.specs.declared.table.TypeTable.{TypeTable}
use Rattle.cjc_types.specs.Flow.{Body, body_of, type_flow}
use Rattle.cjc_types.specs.Marks.{marks_of}
use Rattle.cjc_types.specs.Search.{first_from, frame_of, frames_of}
use Rattle.cjc_types.specs.Working.StateLaws.{same_state}
use Rattle.cjc_types.specs.Tables.{state_of, states_of, rows_of, IsLeastTable, IsMethodOf, Breach, FirstBreach}
use Rattle.cjc_types.specs.Tables.{IsTypeTable, IsBrokenBy, IsBroken, IsAnswer, Answers}
use Rattle.cjc_types.proofs.Answering.{first_breach, unbroken_rows, framed_rows, states-frames}

-- ---- one least table

pub one_least : (b : Body) (xs ys : List (Option State)) → IsLeastTable b xs → IsLeastTable b ys → xs ≡ ys
one_least b xs ys left right = same_by_get xs ys (λ k. go k (slice_get xs k) (slice_get ys k) refl refl)
  where
    sized : length xs ≡ length ys
    sized = left.closed.sized ∙ sym right.closed.sized

    both : (k : ℕ) (x y : State) → HasRow xs k x → HasRow ys k y → x ≡ y
    both k x y is_x is_y =
        let up = left.least ys right.closed k x is_x in
        let down = right.least xs left.closed k y is_y in
        let above : up.row ≡ y = let e = up.is_row in cc in
        let below : down.row ≡ x = let e = down.is_row in cc in
        same_state b.max_locals x y (left.closed.own k x is_x) (right.closed.own k y is_y)
        (subst (λ (z : State). (type_flow b).Below x z) above up.above)
        (subst (λ (z : State). (type_flow b).Below y z) below down.above)

    go : (k : ℕ) (o p : Option (Option State)) → slice_get xs k ≡ o → slice_get ys k ≡ p → o ≡ p
    go k None None e f = refl
    go k None (Some p) e f = absurd (not_past ys xs k p (sym sized) f e)
    go k (Some o) None e f = absurd (not_past xs ys k o sized e f)
    go k (Some None) (Some None) e f = refl
    go k (Some None) (Some (Some y)) e f = let down = right.least xs left.closed k y f in let is = down.is_row
        in absurd cc
    go k (Some (Some x)) (Some None) e f = let up = left.least ys right.closed k x e in let is = up.is_row in absurd cc
    go k (Some (Some x)) (Some (Some y)) e f = ap (λ (z : State). Some (Some z)) (both k x y e f)

-- ---- one answer

frame_same : (f g : Frame) → state_of f ≡ state_of g → f ≡ g
frame_same f g e =
    let stack : f.stack ≡ g.stack = let s : Cells f.stack ≡ Cells g.stack = ap (λ (x : State). x.stack) e in cc in
    let locals : f.locals ≡ g.locals = ap (λ (x : State). x.locals) e in
    let make : List Cell → List Cell → Frame = λ s l. record { stack = s; locals = l } in
    ap (λ (s : List Cell). make s f.locals) stack ∙ ap (λ (l : List Cell). make g.stack l) locals

frames_same : (xs ys : List (Option Frame)) → states_of xs ≡ states_of ys → xs ≡ ys
frames_same [] [] e = refl
frames_same [] (y ∷ ys) e = absurd cc
frames_same (x ∷ xs) [] e = absurd cc
frames_same (x ∷ xs) (y ∷ ys) e =
    let first : option_map state_of x ≡ option_map state_of y = cc in
    let rest : xs ≡ ys = frames_same xs ys (let t : states_of xs ≡ states_of ys = cc in t) in
    let head : x ≡ y = go x y first in
    cc
  where
    go : (x y : Option Frame) → option_map state_of x ≡ option_map state_of y → x ≡ y
    go None None e = refl
    go None (Some g) e = absurd cc
    go (Some f) None e = absurd cc
    go (Some f) (Some g) e = ap Some (frame_same f g (let s : state_of f ≡ state_of g = cc in s))

pub one_table : (w : List Class) (b : Body) (left right : TypeTable) → IsTypeTable w b left → IsTypeTable w b right
    → left ≡ right
one_table w b left right h k =
    let places = length b.insns in
    let marks : left.marks ≡ right.marks = h.marks ∙ sym k.marks in
    let other : StandsForLeast (type_flow b) places left.marks (states_of right.frames) =
    subst (λ (ms : List ℕ). StandsForLeast (type_flow b) places ms (states_of right.frames)) (sym marks) k.stands in
    let rows = one_least b (full (type_flow b) places left.marks (states_of left.frames)) (full (type_flow b) places
    left.marks (states_of right.frames)) h.stands.least other.least in
    let frames : left.frames ≡ right.frames = frames_same left.frames right.frames (kept_same (type_flow b) places
    left.marks (states_of left.frames) (states_of right.frames) h.stands other rows) in
    let make : List ℕ → List (Option Frame) → TypeTable = λ ms fs. record { marks = ms; frames = fs } in
    ap (λ (ms : List ℕ). make ms left.frames) marks ∙ ap (λ (fs : List (Option Frame)). make right.marks fs) frames

pub not_both : (w : List Class) (b : Body) (table : TypeTable) (x : BrokenAt) → IsTypeTable w b table → IsBrokenBy w b x
    → ⊥
not_both w b table x h k =
    h.unbroken k.place x.rule (subst (λ (rows : List (Option State)). Breach w b rows k.place x.rule)
    (one_least b k.rows (rows_of b table) k.least h.stands.least) k.first.breach)

-- two first breaches of the rows are at one place, and by one rule
same_first : (w : List Class) (b : Body) (rows : List (Option State)) (k i r q : ℕ) → FirstBreach w b rows k r
    → FirstBreach w b rows i q → (k ≡ i) × (r ≡ q)
same_first w b rows k i r q one two = go (one.first i q two.breach) (two.first k r one.breach)
  where
    go : (k < i) ⊎ ((k ≡ i) × (r ≤ q)) → (i < k) ⊎ ((i ≡ k) × (q ≤ r)) → (k ≡ i) × (r ≡ q)
    go (inl lt) (inl gt) = absurd (omega (arith, lt, gt))
    go (inl lt) (inr same) = let e = same.0 in absurd (omega (arith, lt, e))
    go (inr same) (inl gt) = let e = same.0 in absurd (omega (arith, gt, e))
    go (inr one) (inr two) = let a = one.1 in let c = two.1 in (one.0, omega (arith, a, c))

pub one_broken : (w : List Class) (b : Body) (x y : BrokenAt) → IsBrokenBy w b x → IsBrokenBy w b y → x ≡ y
one_broken w b x y h k =
    let rows = one_least b k.rows h.rows k.least h.least in
    let first : FirstBreach w b h.rows k.place y.rule = subst (λ (xs : List (Option State)). FirstBreach w b xs k.place
    y.rule) rows k.first in
    let same = same_first w b h.rows h.place k.place x.rule y.rule h.first first in
    let place = same.0 in
    let left = h.first.breach.is_insn in
    let right = k.first.breach.is_insn in
    let both = ap (slice_get b.insns) place in
    let insn : h.first.breach.insn ≡ k.first.breach.insn = cc in
    let offset : x.offset ≡ y.offset = h.is ∙ ap (λ (i : JInsn). i.at) insn ∙ sym k.is in
    let make : ℕ → ℕ → BrokenAt = λ r o. record { rule = r; offset = o } in
    ap (λ r. make r x.offset) same.1 ∙ ap (λ o. make y.rule o) offset

module _ (w : List Class) (b : Body) where
  pub inferred_of : (result : Result TypeTable InferError) → Answers w b result
      → IfOk result (λ table. IsTypeTable w b table)
  inferred_of (Ok table) h = h
  inferred_of (Err e) h = tt

  pub broken_of : (result : Result TypeTable InferError) → Answers w b result → IfErr result (IsBroken w b)
  broken_of (Ok table) h = tt
  broken_of (Err e) h = h

  pub only_of : (result : Result TypeTable InferError) → Answers w b result → (table : TypeTable)
      → IsTypeTable w b table → IsAnswer (Ok table) result
  only_of (Ok other) h table k = inl (ap Ok (one_table w b other table h k))
  only_of (Err e) (inl none) table k = inr (ap Err none)
  only_of (Err e) (inr (x, is, told)) table k = absurd (not_both w b table x k is)

  pub breaks_of : (result : Result TypeTable InferError) → Answers w b result → (x : BrokenAt) → IsBrokenBy w b x
      → IsAnswer (Err (errors.Broken x)) result
  breaks_of (Ok table) h x k = absurd (not_both w b table x h k)
  breaks_of (Err e) (inl none) x k = inr (ap Err none)
  breaks_of (Err e) (inr (y, is, told)) x k = inl (ap Err (told ∙ ap errors.Broken (one_broken w b y x is k)))

-- ---- the method

-- the method that a code names is the one that is read
pub method_same : (files : Files) (code : MethodCode) (class : ClassTree) (method : MethodTree)
    → class ≡ get_or files.classes code.class class → method ≡ get_or class.methods code.method method
    → (c : ClassTree) (m : MethodTree) (t : CodeTree) → IsMethodOf files code c m t → (class ≡ c) × (method ≡ m)
method_same files code class method is_class is_method c m t of =
    let same_class : class ≡ c = is_class ∙ get_or_from_slice_get files.classes code.class c class of.is_class in
    let methods : get_or class.methods code.method method ≡ get_or c.methods code.method method =
    ap (λ (k : ClassTree). get_or k.methods code.method method) same_class in
    (same_class, is_method ∙ methods ∙ get_or_from_slice_get c.methods code.method m method of.is_method)

pub body_same : (files : Files) (code : MethodCode) (class : ClassTree) (method : MethodTree) (tree : CodeTree)
    (insns : List JInsn)
    → class ≡ get_or files.classes code.class class → method ≡ get_or class.methods code.method method
    → method.code ≡ Some tree → insns ≡ code.insns
    → (c : ClassTree) (m : MethodTree) (t : CodeTree) → IsMethodOf files code c m t → body_of class method tree insns
    ≡ body_of c m t code.insns
body_same files code class method tree insns is_class is_method is_code is_insns c m t of =
    let same = method_same files code class method is_class is_method c m t of in
    let codes : Some tree ≡ Some t = sym is_code ∙ ap (λ (k : MethodTree). k.code) same.1 ∙ of.is_code in
    let same_tree : tree ≡ t = cc in
    ap (λ (k : ClassTree). body_of k method tree insns) same.0
    ∙ ap (λ (k : MethodTree). body_of c k tree insns) same.1
    ∙ ap (λ (k : CodeTree). body_of c m k insns) same_tree
    ∙ ap (λ (k : List JInsn). body_of c m t k) is_insns

-- ---- what is judged

module _ (w : List Class) (b : Body) (marks : List ℕ) (kept : List (Option State)) (stands : StandsForLeast
    (type_flow b) (length b.insns) marks kept) (answer : Option FirstBroken) where
  abbrev all : List (Option State)
  all = full (type_flow b) (length b.insns) marks kept

  pub judged_broken : (insns : List JInsn) (f : FirstBroken) (d : JInsn) (x : BrokenAt) → insns ≡ b.insns
      → answer ≡ first_from w b 0 b.insns (full (type_flow b) (length b.insns) marks kept) → answer ≡ Some f
      → x ≡ record { rule = f.rule; offset = (get_or insns f.place d).at } → IsBroken w b (errors.Broken x)
  judged_broken insns f d x is_insns is_answer is_some told =
      let found : first_from w b 0 b.insns all ≡ Some f = sym is_answer ∙ is_some in
      let first = first_breach w b all f found in
      let same : get_or insns f.place d ≡ first.breach.insn = ap (λ (is : List JInsn). get_or is f.place d) is_insns
      ∙ get_or_from_slice_get b.insns f.place first.breach.insn d first.breach.is_insn in
      let this : IsBrokenBy w b (record { rule = f.rule; offset = (get_or insns f.place d).at }) = record {
        rows = all;
        least = stands.least;
        place = f.place;
        first = first;
        is = ap (λ (i : JInsn). i.at) same;
      } in
      inr (x, subst (IsBrokenBy w b) (sym told) this, refl)

  -- a kept row is a row of the table, which is no clash
  kept_frames : ((place rule : ℕ) → Breach w b (full (type_flow b) (length b.insns) marks kept) place rule → ⊥)
      → (k : ℕ) (x : State) → HasRow kept k x → state_of (frame_of x) ≡ x
  kept_frames unbroken k x row =
      let lt = slice_get_within kept k (Some x) row in
      let sized = stands.sized in
      let at = get_or marks k 0 in
      let in_all = kept_in_full (type_flow b) (length b.insns) marks kept stands k at (slice_get-get_or marks k 0
      (omega (arith, lt, sized))) in
      framed_rows w b all stands.least.closed.sized unbroken at x (in_all ∙ row)

  pub judged_fine : (frames : List (Option Frame)) → marks ≡ marks_of b
      → answer ≡ first_from w b 0 b.insns (full (type_flow b) (length b.insns) marks kept) → answer ≡ None
      → frames ≡ frames_of kept → IsTypeTable w b (record { marks = marks; frames = frames })
  judged_fine frames is_marks is_answer is_none is =
      let none : first_from w b 0 b.insns all ≡ None = sym is_answer ∙ is_none in
      let unbroken : (place rule : ℕ) → Breach w b all place rule → ⊥ = unbroken_rows w b all none in
      let same : kept ≡ states_of frames = sym (ap states_of is ∙ states-frames kept (kept_frames unbroken)) in
      record {
        marks = is_marks;
        stands = subst (λ (rows : List (Option State)). StandsForLeast (type_flow b) (length b.insns) marks rows) same
            stands;
        unbroken = subst (λ (rows : List (Option State)). (place rule : ℕ)
            → Breach w b (full (type_flow b) (length b.insns) marks rows) place rule → ⊥) same unbroken;
      }
