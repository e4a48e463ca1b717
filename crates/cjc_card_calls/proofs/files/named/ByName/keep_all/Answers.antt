use Rattle.std.proofs.Common.{refl}
use Rattle.std.specs.Prelude.{if◌then◌else◌, Some, None}
use Rattle.std.specs.Str.{bytes_eq}
use Rattle.cjc_card_semantics.specs.ExportFile.Supers.{class_named}
use Rattle.cjc_card_link.proofs.OrElse.{note_more, note_all}
use Rattle.cjc_card_calls.proofs.FilesLaws.ByName.{one_class}
use Rattle.cjc_card_calls.proofs.files.named.ByName.keep_all.Goals as goal

pub loop-class-preserved : goal.loop-class-preserved
loop-class-preserved c = λ x. note_more (λ n cs. class_named cs x) (λ n d. if bytes_eq d.name x then Some d
    else None) (λ n. one_class x)
    c.loop-class.class-index c.class-item.result c.class-item.result c.args.classes.now _ _ _ c.loop-class-test.true
    c.class-item.is (c.in_ok-keep.ensures x) (c.loop-class.invariant x)

pub returns : goal.returns
returns c = λ x. note_all (λ n cs. class_named cs x) (λ n. refl) c.loop-class.class-index c.args.classes.now _ _
    c.loop-class-test.false (c.loop-class.invariant x)
