use Rattle.std.proofs.Common.{◌<◌, ◌∙◌, ap, arith, sym, subst, length}
use Rattle.std.specs.Prelude.{nat_lt}
use Rattle.std.proofs.lemmas.Bool.{eqb-true, eqb-false}
use Rattle.cjc_components.specs.LowerList.Listed.{ListTree}
use Rattle.cjc_exported.proofs.ExportFile.Exporting.{export-none, export-some}
use Rattle.cjc_exported.proofs.export_file.component.export.Goals as goal

pub returns-then-is_empty : goal.returns-then-is_empty
returns-then-is_empty c = λ p of_list of_files offsets.
    let applets = ap (λ xs. nat_lt 0 (length xs)) (c.items.ensures ∙ ap (λ (list : ListTree). list.applets)
    (sym of_list)) in
    export-none p c.in_ok-classes.classes (c.in_ok-classes.ensures p of_files applets offsets)
    (ap length (sym c.items-2.ensures) ∙ eqb-true (length c.items-2.result.now) 0 (sym c.is_empty.ensures
    ∙ c.if-is_empty.true))

pub returns-else-is_empty : goal.returns-else-is_empty
returns-else-is_empty c = λ p of_list of_files offsets.
    let applets = ap (λ xs. nat_lt 0 (length xs)) (c.items.ensures ∙ ap (λ (list : ListTree). list.applets)
    (sym of_list)) in
    let some : 0 < length c.items-2.result.now =
    omega (arith, eqb-false (length c.items-2.result.now) 0 (sym c.is_empty.ensures ∙ c.if-is_empty.false)) in
    export-some p c.in_ok-classes.classes (c.in_ok-classes.ensures p of_files applets offsets)
    (subst (λ xs. 0 < length xs) c.items-2.ensures some)
