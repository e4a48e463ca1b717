use Rattle.std.proofs.Common.{rules, Fits, w32, ◌≡◌, ℕ, List, Some, slice_get, length, sym, ◌∙◌, ap, subst, arith}
use Rattle.std.proofs.lemmas.Option.{slice_get_within}
use Rattle.cjc_fixpoint.proofs.Runs.{few_marks}
use Rattle.cjc_types.proofs.Onwards.{inside, over, read_frame, after_mark, after_unmarked}
use Rattle.cjc_types.proofs.walk.TypeWalk.advance.Goals as goal

pub handed_copy-requires-clause-marks : goal.handed_copy-requires-clause-marks
handed_copy-requires-clause-marks c = c.items-marks.ensures ∙ c.self.invariant.marks

pub invariant_of-self : goal.invariant_of-self
invariant_of-self c =
    let walk = c.self.inside in
    let inv = c.self.invariant in
    over walk.method.now walk.types.now walk.at walk.mark walk.handed inv c.places-self-inside.result
    (length c.items-marks.result.now) c.replace-frame.new.dest c.places-self-inside.ensures
    (ap length c.items-marks.ensures)

pub overflow_add-self-then-is_at : goal.overflow_add-self-then-is_at
overflow_add-self-then-is_at c =
    let walk = c.self.inside in
    let marks = walk.types.now.marks in
    let there : slice_get marks walk.mark ≡ Some walk.at = subst (λ (ms : List ℕ). slice_get ms walk.mark
    ≡ Some walk.at) c.items-marks.ensures (c.is_at.ensures.0 c.if-is_at.true) in
    let in_marks = slice_get_within marks walk.mark walk.at there in
    let few = few_marks (length walk.method.now.insns) marks c.self.invariant.walk.stands.marked in
    let fits : Fits w32 c.places-self-inside.result = search rules in
    let count = c.places-self-inside.ensures in
    omega (arith, in_marks, few, fits, count)

pub invariant_of-self-in_ok-next : goal.invariant_of-self-in_ok-next
invariant_of-self-in_ok-next c =
    let walk = c.self.inside in
    let b = walk.method.now in
    let types = walk.types.now in
    let inv = c.self.invariant in
    let there : slice_get types.marks walk.mark ≡ Some walk.at = subst (λ (ms : List ℕ). slice_get ms walk.mark
    ≡ Some walk.at) c.items-marks.ensures (c.is_at.ensures.0 c.if-is_at.true) in
    let lt = inside b types walk.at (rw (sym c.self.view_is) at c.requires) in
    let frame = read_frame b types walk.at walk.mark walk.handed inv _ c.index-frames-mark.result c.items-frames.ensures
    there c.index-frames-mark.is in
    after_mark b types walk.at walk.mark walk.handed inv c.index-frames-mark.result c.in_ok-next.next lt there frame
    (rw c.items-marks.ensures at c.in_ok-next.ensures)

pub invariant_of-self-in_ok-next-2 : goal.invariant_of-self-in_ok-next-2
invariant_of-self-in_ok-next-2 c =
    let walk = c.self.inside in
    let b = walk.method.now in
    let types = walk.types.now in
    let inv = c.self.invariant in
    let there : slice_get types.marks walk.mark ≡ Some walk.at = subst (λ (ms : List ℕ). slice_get ms walk.mark
    ≡ Some walk.at) c.items-marks.ensures (c.is_at.ensures.0 c.if-is_at.true) in
    let lt = inside b types walk.at (rw (sym c.self.view_is) at c.requires) in
    let frame = read_frame b types walk.at walk.mark walk.handed inv _ c.index-frames-mark.result c.items-frames.ensures
    there c.index-frames-mark.is in
    after_mark b types walk.at walk.mark walk.handed inv c.index-frames-mark.result c.in_ok-next.next lt there frame
    (rw c.items-marks.ensures at c.in_ok-next.ensures)

pub handed_frame-requires-clause-marks : goal.handed_frame-requires-clause-marks
handed_frame-requires-clause-marks c = c.items-marks.ensures ∙ c.self.invariant.marks

pub invariant_of-self-in_err-next-2 : goal.invariant_of-self-in_err-next-2
invariant_of-self-in_err-next-2 c =
    let walk = c.self.inside in
    let inv = c.self.invariant in
    over walk.method.now walk.types.now walk.at walk.mark walk.handed inv c.places-self-inside.result
    (length c.items-marks.result.now) c.replace-frame.new.dest c.places-self-inside.ensures
    (ap length c.items-marks.ensures)

pub invariant_of-self-else-is_at : goal.invariant_of-self-else-is_at
invariant_of-self-else-is_at c =
    let walk = c.self.inside in
    let b = walk.method.now in
    let types = walk.types.now in
    let inv = c.self.invariant in
    let lt = inside b types walk.at (rw (sym c.self.view_is) at c.requires) in
    after_unmarked b types walk.at walk.mark walk.handed inv c.in_ok-next-2.next lt
    (λ there. let yes = c.is_at.ensures.1 (subst (λ (ms : List ℕ). slice_get ms walk.mark ≡ Some walk.at)
    (sym c.items-marks.ensures) there) in let no = c.if-is_at.false in cc)
    (rw (c.items-marks.ensures, c.replace-frame.ensures.value) at c.in_ok-next-2.ensures)
