use Rattle.std.proofs.Common.{◌≡◌, ℕ, List, Some, slice_get, sym, subst}
use Rattle.cjc_types.proofs.Onwards.{inside, read_frame, kept_row, handed_row, given}
use Rattle.cjc_types.proofs.walk.TypeWalk.frame.Goals as goal

pub returns-then-is_at : goal.returns-then-is_at
returns-then-is_at c =
    let walk = c.self.inside in
    let b = walk.method.now in
    let types = walk.types.now in
    let inv = c.self.invariant in
    let there : slice_get types.marks walk.mark ≡ Some walk.at = subst (λ (ms : List ℕ). slice_get ms walk.mark
    ≡ Some walk.at) c.items.ensures (c.is_at.ensures.0 c.if-is_at.true) in
    let lt = inside b types walk.at (rw (sym c.self.view_is) at c.requires) in
    let frame = read_frame b types walk.at walk.mark walk.handed inv _ c.index-items-self.result
    c.items-then-is_at.ensures there c.index-items-self.is in
    rw (← c.self.view_is) (given b types walk.at walk.mark walk.handed inv c.index-items-self.result lt
    (kept_row b types walk.at walk.mark walk.handed inv c.index-items-self.result there frame))

pub returns : goal.returns
returns c =
    let walk = c.self.inside in
    let b = walk.method.now in
    let types = walk.types.now in
    let inv = c.self.invariant in
    let lt = inside b types walk.at (rw (sym c.self.view_is) at c.requires) in
    rw (← c.self.view_is) (given b types walk.at walk.mark walk.handed inv walk.handed lt (handed_row b types walk.at
    walk.mark walk.handed inv
    (λ there. let yes = c.is_at.ensures.1 (subst (λ (ms : List ℕ). slice_get ms walk.mark ≡ Some walk.at)
    (sym c.items.ensures) there) in let no = c.if-is_at.false in cc) lt))
