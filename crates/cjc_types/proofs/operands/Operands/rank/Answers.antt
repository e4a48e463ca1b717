use Rattle.std.proofs.Common.{◌+◌, ◌++◌, ℕ, List, sum_by, All, sym, ◌∙◌, ap, subst}
use Rattle.std.proofs.lemmas.List.Sums.{sum_by-append}
use Rattle.cjc_types.specs.declared.cell.Cell.{Cell}
use Rattle.cjc_types.specs.Cells.{IsCell, cell_rank}
use Rattle.cjc_types.specs.Working.Parts.{bottom_up}
use Rattle.cjc_types.proofs.Reversed.{all_view, sum_reversed}
use Rattle.cjc_types.proofs.Parts.{All-left, All-right}
use Rattle.cjc_types.proofs.operands.Operands.rank.Goals as goal

pub parts_rank-requires-clause-own : goal.parts_rank-requires-clause-own
parts_rank-requires-clause-own c =
    let s = c.self.inside in
    subst (λ (zs : List (List Cell)). All IsCell (bottom_up zs)) (sym c.deref.ensures.value)
    (All-left IsCell (bottom_up s.parts.items) s.own.items (all_view IsCell (bottom_up s.parts.items
    ++ s.own.items) c.args.self.now c.self.view_is c.requires.own))

pub cells_rank-requires-clause-own : goal.cells_rank-requires-clause-own
cells_rank-requires-clause-own c =
    let s = c.self.inside in
    subst (λ (zs : List Cell). All IsCell zs) (sym c.deref-2.ensures.value)
    (All-right IsCell (bottom_up s.parts.items) s.own.items (all_view IsCell (bottom_up s.parts.items
    ++ s.own.items) c.args.self.now c.self.view_is c.requires.own))

pub returns-clause-rank : goal.returns-clause-rank
returns-clause-rank c =
    let s = c.self.inside in
    let deep : List Cell = bottom_up s.parts.items in
    ap (λ (n : ℕ). n + c.cells_rank.result) (c.parts_rank.ensures.rank
    ∙ ap (λ (zs : List (List Cell)). sum_by cell_rank (bottom_up zs)) c.deref.ensures.value)
    ∙ ap (λ (n : ℕ). sum_by cell_rank deep + n) (c.cells_rank.ensures.rank
    ∙ ap (λ (zs : List Cell). sum_by cell_rank zs) c.deref-2.ensures.value)
    ∙ sym (sum_by-append cell_rank deep s.own.items)
    ∙ sum_reversed cell_rank (deep ++ s.own.items)
    ∙ ap (λ (zs : List Cell). sum_by cell_rank zs) c.self.view_is
