use Rattle.std.proofs.Common.{List, ap, sym, ◌∙◌, ◌++◌, ◌∷◌, [], ◌+◌, take}
use Rattle.std.specs.Prelude.{max, if◌then◌else◌}
use Rattle.std.proofs.lemmas.List.{take_all, take_more}
use Rattle.cjc_compat.specs.Rules.{virtual_end}
use Rattle.cjc_compat.proofs.Ends.{end_more}
use Rattle.cjc_export.specs.Supers.{is_virtual}
use Rattle.cjc_export.specs.declared.tree.ExportMethod.{ExportMethod}
use Rattle.cjc_compat.proofs.rules.virtual_end.Goals as goal

pub loop-method-preserved : goal.loop-method-preserved
loop-method-preserved c =
    let i = c.loop-method.method-index in
    let ms = c.args.methods.now in
    let m = c.method-item.result in
    c.end_after-end.ensures
    ∙ ap (λ e. if is_virtual m then max e (m.token + 1) else e) c.loop-method.invariant
    ∙ sym (end_more (take i ms) m)
    ∙ sym (ap virtual_end (take_more ms i m c.loop-method-test.true
    ∙ ap (λ (x : ExportMethod). take i ms ++ x ∷ []) (sym c.method-item.is)))

pub returns : goal.returns
returns c = c.loop-method.invariant ∙ ap virtual_end (take_all c.loop-method.method-index c.args.methods.now
    c.loop-method-test.false)
