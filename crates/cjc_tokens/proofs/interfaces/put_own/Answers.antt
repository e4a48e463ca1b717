use Rattle.std.proofs.Common.{◌≡◌, ◌∙◌, ap, map, length, subst}
use Rattle.std.specs.Prelude.{OnOk}
use Rattle.cjc_world.specs.Classes.{method_of_class, method_of_export}
use Rattle.cjc_world.specs.Added.{by_token, without_initialiser}
use Rattle.cjc_tokens.specs.Members.{signature_of}
use Rattle.cjc_tokens.specs.Slots.{with_new}
use Rattle.cjc_tokens.specs.Working.{signs}
use Rattle.cjc_tokens.proofs.Asked.{own-declared, own-imported}
use Rattle.cjc_tokens.proofs.interfaces.put_own.Goals as goal

pub returns-in-Declared : goal.returns-in-Declared
returns-in-Declared c =
    subst (λ q. OnOk c.put_declared.result (signs c.put_declared.new.row.items ≡ with_new (signs c.args.row.now.items)
    (map signature_of q)))
    (ap (λ q. without_initialiser (map method_of_class q)) c.items.ensures
    ∙ own-declared c.args.class c.in-Declared.field-0 c.in-Declared.class c.in-Declared.is) c.put_declared.ensures

pub returns-in-Imported : goal.returns-in-Imported
returns-in-Imported c =
    subst (λ q. OnOk c.put_exported.result (signs c.put_exported.new.row.items ≡ with_new (signs c.args.row.now.items)
    (map signature_of q)))
    (ap (λ q. without_initialiser (by_token (length q) 0 (map method_of_export q))) c.items-in-Imported.ensures
    ∙ own-imported c.args.class c.in-Imported.field-0 c.in-Imported.class c.in-Imported.is) c.put_exported.ensures
