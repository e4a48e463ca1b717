use Rattle.std.proofs.Common.{◌∙◌, ap, sym, Some}
use Rattle.cjc_world.specs.Working.Known.{class_of}
use Rattle.cjc_verify.proofs.DescribedLaws.Entries.{listed_desc, listed_never, listed_none}
use Rattle.cjc_verify.proofs.described.named.listed_method_desc.Goals as goal

pub returns-in-Some-Imported : goal.returns-in-Some-Imported
returns-in-Some-Imported c =
    let a = c.in-Some-Imported in
    ap Some c.desc_in_export.ensures
    ∙ listed_desc c.args.world.now c.args.number c.args.member a.field-0-0 a.class.now
    (sym (ap (λ k. Some (class_of k)) a.field-0-is) ∙ a.ensures.at)

pub returns-in-Some-Declared : goal.returns-in-Some-Declared
returns-in-Some-Declared c =
    let a = c.in-Some-Declared in
    listed_never c.args.world.now c.args.number c.args.member a.field-0-0 a.field-0-1.now
    (sym (ap (λ k. Some (class_of k)) a.field-0-is) ∙ a.ensures.at)

pub returns-in-None : goal.returns-in-None
returns-in-None c = listed_none c.args.world.now c.args.number c.args.member c.in-None.ensures.at
