use Rattle.std.proofs.Common.{ℕ, List, ap, ◌∙◌}
use Rattle.std.specs.Prelude.{option_and_then, option_map, slice_get}
use Rattle.cjc_card_link.specs.Tables.{loaded_of}
use Rattle.cjc_card_link.proofs.Exporting.{cells_by, exported_by, is_listed, is_none}
use Rattle.cjc_card_link.proofs.tables.Tables.exported_cell.Goals as goal

pub returns-in-Some-exported : goal.returns-in-Some-exported
returns-in-Some-exported c =
    let l = loaded_of c.args.self.now in
    is_listed (cells_by c.args.part c.args.token) l.parts c.args.part c.args.class c.in-Some.package.now
    c.in-Some-exported.class.now _
    (c.cell_at.ensures ∙ ap (λ (os : List ℕ). option_map (λ o. record { part = c.args.part; offset = o })
    (slice_get os c.args.token)) c.items.ensures) c.in-Some-exported.ensures c.in-Some.ensures

pub returns-in-None-exported : goal.returns-in-None-exported
returns-in-None-exported c =
    let l = loaded_of c.args.self.now in
    is_none (cells_by c.args.part c.args.token) l.parts c.args.part c.args.class c.in-Some.package.now
    c.in-None-exported.ensures c.in-Some.ensures

pub returns-in-None : goal.returns-in-None
returns-in-None c =
    ap (option_and_then (exported_by (cells_by c.args.part c.args.token) c.args.class)) c.in-None.ensures
