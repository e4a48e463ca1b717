use Rattle.std.proofs.Common.{[], ◌∷◌, refl, ap, ◌∙◌, map, List}
use Rattle.std.proofs.lemmas.List.{map-append}
use Rattle.cjc_card_semantics.specs.Machine.Classes.{External}
use Rattle.cjc_card_frame.specs.declared.heap.class.Class.{Class as ClassData}
use Rattle.cjc_card_frame.specs.Objects.{class_of}
use Rattle.cjc_card_calls.proofs.LinesLaws.Putting.{put_all, put_more}
use Rattle.cjc_card_calls.proofs.lines.every.put_file.Goals as goal

pub loop-class-preserved : goal.loop-class-preserved
loop-class-preserved c =
    put_more (λ n cs. map (λ d. External c.args.tree d.token) cs) (λ n d. External c.args.tree d.token
    ∷ []) (λ n d ds. refl)
    c.loop-class.class-index c.class-item.result c.class-item.result c.args.listed.now
    (map class_of c.loop-class.classes) _ _ c.loop-class-test.true c.class-item.is
    (ap (λ (cs : List ClassData). map class_of cs) c.in_ok-push.ensures.ok ∙ map-append class_of c.loop-class.classes _)
    c.loop-class.invariant

pub returns : goal.returns
returns c = put_all (λ n cs. map (λ d. External c.args.tree d.token) cs) (λ n. refl) c.loop-class.class-index
    c.args.listed.now _ _ c.loop-class-test.false c.loop-class.invariant
