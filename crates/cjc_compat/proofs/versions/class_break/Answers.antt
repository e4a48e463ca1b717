use Rattle.std.proofs.Common.{◌≡◌, List, Option, None, Some, true, refl, sym, ap, subst, ◌∙◌}
use Rattle.std.specs.Prelude.{IfOk, option_map}
use Rattle.std.specs.Borrow.{Bor}
use Rattle.cjc_export.specs.Bytes.Breaks.{IsFirstOf}
use Rattle.cjc_export.specs.Bytes.Told.{break_of}
use Rattle.cjc_export.proofs.BytesFirsts.{at_same}
use Rattle.cjc_compat.specs.Rules.{class_breaks, with_token}
use Rattle.cjc_export.specs.declared.tree.ExportClass.{ExportClass}
use Rattle.cjc_compat.proofs.versions.class_break.Goals as goal

pub returns-in-None : goal.returns-in-None
returns-in-None c = λ f n e.
    let token = c.args.old.now.token in
    let none : with_token token c.args.new.now.classes ≡ None = ap (λ (cs : List ExportClass). with_token token cs)
    (sym c.items.ensures) ∙ sym c.with_token.ensures ∙ ap (option_map (λ (x : Bor ExportClass). x.now)) c.in-None.is in
    subst (λ (o : Option ExportClass). IsFirstOf (class_breaks f n c.args.old.now o) (option_map break_of
    c.broken.result)) (sym none) (at_same {b = true} 742 _ refl e c.broken.ensures)

pub returns-in-Some : goal.returns-in-Some
returns-in-Some c = λ f n e.
    let token = c.args.old.now.token in
    let some : with_token token c.args.new.now.classes ≡ Some c.in-Some.class.now = ap (λ (cs : List ExportClass).
    with_token token cs) (sym c.items.ensures) ∙ sym c.with_token.ensures
    ∙ ap (option_map (λ (x : Bor ExportClass). x.now)) c.in-Some.is in
    subst (λ (o : Option ExportClass). IfOk c.kept_break.result (λ b. IsFirstOf (class_breaks f n c.args.old.now o)
    (option_map break_of b))) (sym some) (c.kept_break.ensures f n e)
