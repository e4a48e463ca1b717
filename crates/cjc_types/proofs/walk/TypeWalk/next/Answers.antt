use Rattle.std.proofs.Common.{rules, Fits, w32, ◌≡◌, ◌<◌, ℕ, List, Some, slice_get, length, option_map, refl, sym, ◌∙◌}
use Rattle.std.proofs.Common.{ap, subst, arith}
use Rattle.std.proofs.lemmas.Option.{slice_get_within}
use Rattle.cjc_fixpoint.proofs.Runs.{few_marks}
use Rattle.cjc_types.specs.Tables.{state_of}
use Rattle.cjc_types.proofs.Onwards.{read_frame, kept_row, handed_row, given, after_mark, after_unmarked}
use Rattle.cjc_types.proofs.walk.TypeWalk.next.Goals as goal

pub handed_copy-requires-clause-marks : goal.handed_copy-requires-clause-marks
handed_copy-requires-clause-marks c = c.items-marks.ensures ∙ c.self.invariant.marks

pub handed_copy-requires-else-is_at-clause-marks : goal.handed_copy-requires-else-is_at-clause-marks
handed_copy-requires-else-is_at-clause-marks c = c.items-marks.ensures ∙ c.self.invariant.marks

pub overflow_add-self-then-is_at : goal.overflow_add-self-then-is_at
overflow_add-self-then-is_at c =
    let walk = c.self.inside in
    let marks = walk.types.now.marks in
    let there : slice_get marks walk.mark ≡ Some walk.at = subst (λ (ms : List ℕ). slice_get ms walk.mark
    ≡ Some walk.at) c.items-marks.ensures (c.is_at.ensures.0 c.if-is_at.true) in
    let in_marks = slice_get_within marks walk.mark walk.at there in
    let few = few_marks (length walk.method.now.insns) marks c.self.invariant.walk.stands.marked in
    let fits : Fits w32 c.places.result = search rules in
    let count = c.places.ensures in
    omega (arith, in_marks, few, fits, count)

pub invariant_of-self : goal.invariant_of-self
invariant_of-self c =
    let walk = c.self.inside in
    let b = walk.method.now in
    let types = walk.types.now in
    let inv = c.self.invariant in
    let there : slice_get types.marks walk.mark ≡ Some walk.at = subst (λ (ms : List ℕ). slice_get ms walk.mark
    ≡ Some walk.at) c.items-marks.ensures (c.is_at.ensures.0 c.if-is_at.true) in
    let lt : walk.at < length b.insns = let within = inv.walk.within in let other = c.if-at-places.false in let count =
    c.places.ensures in omega (arith, within, other, count) in
    let frame = c.in_ok-frame.ensures ∙ read_frame b types walk.at walk.mark walk.handed inv _ c.index-items-self.result
    c.items.ensures there c.index-items-self.is in
    after_mark b types walk.at walk.mark walk.handed inv c.in_ok-frame.frame c.in_ok-handed.handed lt there frame
    (rw c.items-marks.ensures at c.in_ok-handed.ensures)

pub invariant_of-self-else-is_at : goal.invariant_of-self-else-is_at
invariant_of-self-else-is_at c =
    let walk = c.self.inside in
    let b = walk.method.now in
    let types = walk.types.now in
    let inv = c.self.invariant in
    let lt : walk.at < length b.insns = let within = inv.walk.within in let other = c.if-at-places.false in let count =
    c.places.ensures in omega (arith, within, other, count) in
    rw c.replace-frame.ensures.after (after_unmarked b types walk.at walk.mark walk.handed inv c.in_ok-handed-2.handed
    lt
    (λ there. let yes = c.is_at.ensures.1 (subst (λ (ms : List ℕ). slice_get ms walk.mark ≡ Some walk.at)
    (sym c.items-marks.ensures) there) in let no = c.if-is_at.false in cc)
    (rw c.items-marks.ensures at c.in_ok-handed-2.ensures))

pub returns-in_ok-handed-clause-given : goal.returns-in_ok-handed-clause-given
returns-in_ok-handed-clause-given c =
    let walk = c.self.inside in
    let b = walk.method.now in
    let types = walk.types.now in
    let inv = c.self.invariant in
    let there : slice_get types.marks walk.mark ≡ Some walk.at = subst (λ (ms : List ℕ). slice_get ms walk.mark
    ≡ Some walk.at) c.items-marks.ensures (c.is_at.ensures.0 c.if-is_at.true) in
    let lt : walk.at < length b.insns = let within = inv.walk.within in let other = c.if-at-places.false in let count =
    c.places.ensures in omega (arith, within, other, count) in
    let frame = c.in_ok-frame.ensures ∙ read_frame b types walk.at walk.mark walk.handed inv _ c.index-items-self.result
    c.items.ensures there c.index-items-self.is in
    rw (← c.self.view_is) (record {
      is_place = refl;
      is_row = given b types walk.at walk.mark walk.handed inv c.in_ok-frame.frame lt (kept_row b types walk.at
          walk.mark walk.handed inv c.in_ok-frame.frame there frame);
      goes_on = refl;
    })

pub returns-in_ok-handed-2-clause-given : goal.returns-in_ok-handed-2-clause-given
returns-in_ok-handed-2-clause-given c =
    let walk = c.self.inside in
    let b = walk.method.now in
    let types = walk.types.now in
    let inv = c.self.invariant in
    let lt : walk.at < length b.insns = let within = inv.walk.within in let other = c.if-at-places.false in let count =
    c.places.ensures in omega (arith, within, other, count) in
    let row = handed_row b types walk.at walk.mark walk.handed inv
    (λ there. let yes = c.is_at.ensures.1 (subst (λ (ms : List ℕ). slice_get ms walk.mark ≡ Some walk.at)
    (sym c.items-marks.ensures) there) in let no = c.if-is_at.false in cc) lt in
    rw (← c.self.view_is) (record {
      is_place = refl;
      is_row = given b types walk.at walk.mark walk.handed inv c.replace-frame.result lt (ap (option_map state_of)
          c.replace-frame.ensures.value ∙ row);
      goes_on = refl;
    })
