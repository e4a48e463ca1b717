use Rattle.std.proofs.Common.{◌≡◌, ◌++◌, List, length, map, All, refl, sym, subst}
use Rattle.cjc_fixpoint.specs.Lattice.{joined}
use Rattle.cjc_types.specs.declared.cell.Cell.{Cell}
use Rattle.cjc_types.specs.Cells.{IsCell, joined_cell}
use Rattle.cjc_types.specs.Working.Parts.{bottom_up}
use Rattle.cjc_types.proofs.Reversed.{all_view, above_view}
use Rattle.cjc_types.proofs.Parts.{All-left, All-right, whole_above}
use Rattle.cjc_types.proofs.operands.Operands.is_above.Goals as goal

pub are_parts_above-requires-clause-left : goal.are_parts_above-requires-clause-left
are_parts_above-requires-clause-left c =
    let s = c.self.inside in
    subst (λ (zs : List (List Cell)). All IsCell (bottom_up zs)) (sym c.deref-3.ensures.value)
    (All-left IsCell (bottom_up s.parts.items) s.own.items (all_view IsCell (bottom_up s.parts.items
    ++ s.own.items) c.args.self.now c.self.view_is c.requires.left))

pub are_parts_above-requires-clause-right : goal.are_parts_above-requires-clause-right
are_parts_above-requires-clause-right c =
    let s = c.other.inside in
    subst (λ (zs : List (List Cell)). All IsCell (bottom_up zs)) (sym c.deref-4.ensures.value)
    (All-left IsCell (bottom_up s.parts.items) s.own.items (all_view IsCell (bottom_up s.parts.items
    ++ s.own.items) c.args.other.now c.other.view_is c.requires.right))

pub are_above-requires-clause-left : goal.are_above-requires-clause-left
are_above-requires-clause-left c =
    let s = c.self.inside in
    subst (λ (zs : List Cell). All IsCell zs) (sym c.deref-then-are_parts_above.ensures.value)
    (All-right IsCell (bottom_up s.parts.items) s.own.items (all_view IsCell (bottom_up s.parts.items
    ++ s.own.items) c.args.self.now c.self.view_is c.requires.left))

pub are_above-requires-clause-right : goal.are_above-requires-clause-right
are_above-requires-clause-right c =
    let s = c.other.inside in
    subst (λ (zs : List Cell). All IsCell zs) (sym c.deref-then-are_parts_above-2.ensures.value)
    (All-right IsCell (bottom_up s.parts.items) s.own.items (all_view IsCell (bottom_up s.parts.items
    ++ s.own.items) c.args.other.now c.other.view_is c.requires.right))

pub returns-then-are_parts_above : goal.returns-then-are_parts_above
returns-then-are_parts_above c = λ h.
    let s = c.self.inside in
    let t = c.other.inside in
    let alike : map length s.parts.items ≡ map length t.parts.items =
    subst (λ (zs : List (List Cell)). map length s.parts.items ≡ map length zs) c.deref-2.ensures.value
    (subst (λ (zs : List (List Cell)). map length zs ≡ map length c.deref-2.result.now) c.deref.ensures.value
    (c.if-not-are_alike.ensures refl)) in
    let kept : joined (joined joined_cell) s.parts.items t.parts.items ≡ s.parts.items =
    subst (λ (zs : List (List Cell)). joined (joined joined_cell) s.parts.items zs ≡ s.parts.items)
    c.deref-4.ensures.value
    (subst (λ (zs : List (List Cell)). joined (joined joined_cell) zs c.deref-4.result.now ≡ zs) c.deref-3.ensures.value
    (c.if-are_parts_above.ensures refl)) in
    let kept_own : joined joined_cell s.own.items t.own.items ≡ s.own.items =
    subst (λ (zs : List Cell). joined joined_cell s.own.items zs ≡ s.own.items)
    c.deref-then-are_parts_above-2.ensures.value
    (subst (λ (zs : List Cell). joined joined_cell zs c.deref-then-are_parts_above-2.result.now ≡ zs)
    c.deref-then-are_parts_above.ensures.value (c.are_above.ensures h)) in
    above_view joined_cell (bottom_up s.parts.items ++ s.own.items) (bottom_up t.parts.items
    ++ t.own.items) c.args.self.now c.args.other.now c.self.view_is c.other.view_is c.requires.sized
    (whole_above joined_cell s.parts.items t.parts.items s.own.items t.own.items alike kept kept_own)
