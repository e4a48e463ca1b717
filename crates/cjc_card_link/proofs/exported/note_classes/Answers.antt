use Rattle.std.proofs.Common.{refl}
use Rattle.std.specs.Prelude.{option_map, if◌then◌else◌, Some, None}
use Rattle.std.specs.Str.{bytes_eq}
use Rattle.cjc_card_semantics.specs.Machine.Classes.{External, token_named}
use Rattle.cjc_card_link.proofs.OrElse.{note_more, note_all}
use Rattle.cjc_card_link.proofs.ByName.{one_class}
use Rattle.cjc_card_link.proofs.exported.note_classes.Goals as goal

pub loop-class-preserved : goal.loop-class-preserved
loop-class-preserved c = λ x. note_more (λ n cs. option_map (External c.args.tree) (token_named cs x))
    (λ n d. if bytes_eq d.name x then Some (External c.args.tree d.token) else None) (λ n. one_class c.args.tree x)
    c.loop-class.class-index c.class-item.result c.class-item.result c.args.classes.now _ _ _ c.loop-class-test.true
    c.class-item.is (c.in_ok-note_class.ensures x) (c.loop-class.invariant x)

pub returns : goal.returns
returns c = λ x. note_all (λ n cs. option_map (External c.args.tree) (token_named cs x)) (λ n. refl)
    c.loop-class.class-index c.args.classes.now _ _ c.loop-class-test.false (c.loop-class.invariant x)
