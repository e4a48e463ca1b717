use Rattle.std.proofs.Common.{◌≡◌, ◌++◌, List, length, map, All, refl, sym, ◌∙◌, ap, subst, arith}
use Rattle.cjc_fixpoint.specs.Lattice.{joined}
use Rattle.cjc_fixpoint.proofs.Lattices.{length-joined}
use Rattle.cjc_types.specs.declared.cell.Cell.{Cell}
use Rattle.cjc_types.specs.Cells.{IsCell, joined_cell}
use Rattle.cjc_types.specs.Working.Parts.{bottom_up}
use Rattle.cjc_types.proofs.Reversed.{all_view, joined_view}
use Rattle.cjc_types.proofs.Parts.{All-left, All-right, alike_length, joined_bottom_up, joined_whole}
use Rattle.cjc_types.proofs.operands.Operands.joined.Goals as goal
use Rattle.cjc_types.proofs.operands.Operands.joined.Goals.{In_ok-own}

pub joined_parts-requires-clause-left : goal.joined_parts-requires-clause-left
joined_parts-requires-clause-left c =
    let s = c.self.inside in
    All-left IsCell (bottom_up s.parts.items) s.own.items (all_view IsCell (bottom_up s.parts.items
    ++ s.own.items) c.args.self c.self.view_is c.requires.left)

pub joined_parts-requires-clause-right : goal.joined_parts-requires-clause-right
joined_parts-requires-clause-right c =
    let s = c.other.inside in
    subst (λ (zs : List (List Cell)). All IsCell (bottom_up zs)) (sym c.deref-then-len.ensures.value)
    (All-left IsCell (bottom_up s.parts.items) s.own.items (all_view IsCell (bottom_up s.parts.items
    ++ s.own.items) c.args.other.now c.other.view_is c.requires.right))

pub joined_cells-requires-clause-left : goal.joined_cells-requires-clause-left
joined_cells-requires-clause-left c =
    let s = c.self.inside in
    All-right IsCell (bottom_up s.parts.items) s.own.items (all_view IsCell (bottom_up s.parts.items
    ++ s.own.items) c.args.self c.self.view_is c.requires.left)

pub joined_cells-requires-clause-right : goal.joined_cells-requires-clause-right
joined_cells-requires-clause-right c =
    let s = c.other.inside in
    subst (λ (zs : List Cell). All IsCell zs) (sym c.deref-then-len-2.ensures.value)
    (All-right IsCell (bottom_up s.parts.items) s.own.items (all_view IsCell (bottom_up s.parts.items
    ++ s.own.items) c.args.other.now c.other.view_is c.requires.right))

alike_parts : (c : In_ok-own) → map length c.self.inside.parts.items ≡ map length c.other.inside.parts.items
alike_parts c =
    subst (λ (zs : List (List Cell)). map length c.self.inside.parts.items ≡ map length zs) c.deref-2.ensures.value
    (subst (λ (zs : List (List Cell)). map length zs ≡ map length c.deref-2.result.now) c.deref.ensures.value
    (c.if-are_alike.ensures refl))

joined_parts_are : (c : In_ok-own) → c.in_ok-parts.parts.items ≡ joined (joined joined_cell) c.self.inside.parts.items
    c.other.inside.parts.items
joined_parts_are c = c.in_ok-parts.ensures ∙ ap (λ (zs : List (List Cell)). joined (joined joined_cell)
    c.self.inside.parts.items zs) c.deref-then-len.ensures.value

joined_own_is : (c : In_ok-own) → c.in_ok-own.own.items ≡ joined joined_cell c.self.inside.own.items
    c.other.inside.own.items
joined_own_is c = c.in_ok-own.ensures ∙ ap (λ (zs : List Cell). joined joined_cell c.self.inside.own.items zs)
    c.deref-then-len-2.ensures.value

pub invariant_of-result : goal.invariant_of-result
invariant_of-result c =
    let s = c.self.inside in
    let t = c.other.inside in
    let alike = alike_parts c in
    let deep_kept = ap (λ (zs : List (List Cell)). length (bottom_up zs)) (joined_parts_are c)
    ∙ ap length (joined_bottom_up joined_cell s.parts.items t.parts.items alike)
    ∙ length-joined joined_cell (bottom_up s.parts.items) (bottom_up t.parts.items) (alike_length s.parts.items
    t.parts.items alike) in
    let first = c.len.ensures ∙ s.own.ok.0 in
    let second = c.len-then-are_alike.ensures ∙ t.own.ok.0 in
    let test = c.if-len.true in
    let sized : length s.own.items ≡ length t.own.items = omega (arith, first, second, test) in
    let own_kept = ap length (joined_own_is c) ∙ length-joined joined_cell s.own.items t.own.items sized in
    let deep = c.self.invariant.0 in
    let fits = c.self.invariant.1 in
    (omega (arith, deep, deep_kept), omega (arith, fits, own_kept))

pub joined_cells-requires-else-are_alike-clause-left : goal.joined_cells-requires-else-are_alike-clause-left
joined_cells-requires-else-are_alike-clause-left c =
    let s = c.self.inside in
    let all : c.in_ok-left.left.items ≡ bottom_up s.parts.items ++ s.own.items =
    c.in_ok-left.ensures
    ∙ ap (λ (zs : List (List Cell)). bottom_up zs ++ c.deref-else-are_alike-2.result.now)
    c.deref-else-are_alike.ensures.value
    ∙ ap (λ (zs : List Cell). bottom_up s.parts.items ++ zs) c.deref-else-are_alike-2.ensures.value in
    subst (λ (zs : List Cell). All IsCell zs) (sym all) (all_view IsCell (bottom_up s.parts.items
    ++ s.own.items) c.args.self c.self.view_is c.requires.left)

pub joined_cells-requires-else-are_alike-clause-right : goal.joined_cells-requires-else-are_alike-clause-right
joined_cells-requires-else-are_alike-clause-right c =
    let s = c.other.inside in
    let all : c.deref-else-are_alike-5.result.now ≡ bottom_up s.parts.items ++ s.own.items =
    c.deref-else-are_alike-5.ensures.value ∙ c.in_ok-right.ensures
    ∙ ap (λ (zs : List (List Cell)). bottom_up zs ++ c.deref-else-are_alike-4.result.now)
    c.deref-else-are_alike-3.ensures.value
    ∙ ap (λ (zs : List Cell). bottom_up s.parts.items ++ zs) c.deref-else-are_alike-4.ensures.value in
    subst (λ (zs : List Cell). All IsCell zs) (sym all) (all_view IsCell (bottom_up s.parts.items
    ++ s.own.items) c.args.other.now c.other.view_is c.requires.right)

pub returns-in_ok-own : goal.returns-in_ok-own
returns-in_ok-own c =
    let s = c.self.inside in
    let t = c.other.inside in
    joined_view joined_cell (bottom_up s.parts.items ++ s.own.items) (bottom_up t.parts.items
    ++ t.own.items) (bottom_up c.in_ok-parts.parts.items ++ c.in_ok-own.own.items) c.args.self c.args.other.now
    c.self.view_is c.other.view_is c.requires.sized
    (ap (λ (zs : List (List Cell)). bottom_up zs ++ c.in_ok-own.own.items) (joined_parts_are c)
    ∙ ap (λ (zs : List Cell). bottom_up (joined (joined joined_cell) s.parts.items t.parts.items)
    ++ zs) (joined_own_is c)
    ∙ joined_whole joined_cell s.parts.items t.parts.items s.own.items t.own.items (alike_parts c))

pub returns-in_ok-own-2 : goal.returns-in_ok-own-2
returns-in_ok-own-2 c =
    let s = c.self.inside in
    let t = c.other.inside in
    let left : c.in_ok-left.left.items ≡ bottom_up s.parts.items ++ s.own.items =
    c.in_ok-left.ensures
    ∙ ap (λ (zs : List (List Cell)). bottom_up zs ++ c.deref-else-are_alike-2.result.now)
    c.deref-else-are_alike.ensures.value
    ∙ ap (λ (zs : List Cell). bottom_up s.parts.items ++ zs) c.deref-else-are_alike-2.ensures.value in
    let right : c.deref-else-are_alike-5.result.now ≡ bottom_up t.parts.items ++ t.own.items =
    c.deref-else-are_alike-5.ensures.value ∙ c.in_ok-right.ensures
    ∙ ap (λ (zs : List (List Cell)). bottom_up zs ++ c.deref-else-are_alike-4.result.now)
    c.deref-else-are_alike-3.ensures.value
    ∙ ap (λ (zs : List Cell). bottom_up t.parts.items ++ zs) c.deref-else-are_alike-4.ensures.value in
    joined_view joined_cell (bottom_up s.parts.items ++ s.own.items) (bottom_up t.parts.items
    ++ t.own.items) (bottom_up c.new.result.items ++ c.in_ok-own-2.own.items) c.args.self c.args.other.now
    c.self.view_is c.other.view_is c.requires.sized
    (ap (λ (zs : List (List Cell)). bottom_up zs ++ c.in_ok-own-2.own.items) c.new.ensures.items
    ∙ c.in_ok-own-2.ensures
    ∙ ap (λ (zs : List Cell). joined joined_cell zs c.deref-else-are_alike-5.result.now) left
    ∙ ap (joined joined_cell (bottom_up s.parts.items ++ s.own.items)) right)
