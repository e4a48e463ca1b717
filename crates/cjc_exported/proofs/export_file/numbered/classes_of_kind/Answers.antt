use Rattle.std.proofs.Common.{◌≡◌, ◌∙◌, ◌+◌, ◌∷◌, ◌++◌, [], drop, map, ap, sym}
use Rattle.std.specs.Prelude.{filter, if◌then◌else◌, slice_get, Some, None, option_map}
use Rattle.cjc_world.specs.Classes.{all_classes}
use Rattle.cjc_world.specs.Working.Known.{class_of}
use Rattle.cjc_exported.specs.ExportFile.Working.Sources.{is_of_kind}
use Rattle.cjc_exported.proofs.ExportFile.Piles.{filtered, piled, piled-all}
use Rattle.cjc_world.proofs.BytesGets.{drop_at, drop_behind}
use Rattle.cjc_exported.proofs.export_file.numbered.classes_of_kind.Goals as goal

pub loop-place-preserved : goal.loop-place-preserved
loop-place-preserved c =
    let w = all_classes c.args.world.now in
    let k = class_of c.in-Some.class in
    let p = is_of_kind c.args.imported in
    let at : slice_get w c.loop-place.place ≡ Some k = sym c.class_in.ensures.at ∙ ap (option_map class_of) c.in-Some.is
    in
    piled (map class_of c.put_class.new.classes.items) (map class_of c.loop-place.classes.items) (if p k then k ∷ []
    else []) (filter p (drop (c.loop-place.place + 1) w)) (filter p w)
    c.in_ok-put_class-in-Some.ensures
    (ap (λ q. map class_of c.loop-place.classes.items ++ q) (sym (ap (filter p) (drop_at w c.loop-place.place k at)
    ∙ filtered p k (drop (c.loop-place.place + 1) w))) ∙ c.loop-place.invariant)

pub returns-in-None : goal.returns-in-None
returns-in-None c =
    let w = all_classes c.args.world.now in
    let p = is_of_kind c.args.imported in
    let at : slice_get w c.loop-place.place ≡ None = sym c.class_in.ensures.at ∙ ap (option_map class_of) c.in-None.is
    in
    piled-all (map class_of c.loop-place.classes.items) (filter p (drop c.loop-place.place w)) (filter p w)
    (ap (filter p) (drop_behind w c.loop-place.place at)) c.loop-place.invariant
