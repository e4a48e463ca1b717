use Rattle.std.proofs.Common.{◌≡◌, get_or, ap, ◌∙◌, rules}
use Rattle.cjc_first.specs.FirstForm.{line_of}
use Rattle.cjc_first.proofs.ExportFiles.{CanBeExported, exported_writable}
use Rattle.cjc_convert.proofs.conversion.export_of.Goals as goal

pub write-requires : goal.write-requires
write-requires c =
    let f = c.requires.form in
    let method : c.index-items-0.result ≡ f.method = c.index-items-0.is ∙ ap (λ ms. get_or ms 0 c.index-items-0.result) (c.items.ensures ∙ f.methods) in
    let can : CanBeExported (line_of c.args.list.now) = record { name = f.short_name; aid_low = c.requires.aid.0; aid_high = c.requires.aid.1; major = search rules; minor = search rules } in
    rw (c.in_ok-export.ensures, method) (exported_writable (line_of c.args.list.now) c.args.root.now c.args.tree.now f.method f.params can c.requires.methods f.name_length f.is_sum.name_length f.is_sum.desc f.is_sum.few)
