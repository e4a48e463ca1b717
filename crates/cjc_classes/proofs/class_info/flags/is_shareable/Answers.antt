use Rattle.std.proofs.Common.{◌∙◌, List, ℕ, ap}
use Rattle.std.specs.Prelude.{◌||◌, ◌&&◌}
use Rattle.std.specs.List.{list_any}
use Rattle.std.specs.Str.{bytes_eq}
use Rattle.cjc_bytes.specs.AccessFlags.{is_interface}
use Rattle.cjc_world.specs.Classes.{all_classes}
use Rattle.cjc_world.specs.Exported.{shareable}
use Rattle.cjc_world.specs.Working.Known.{class_of}
use Rattle.cjc_classes.proofs.ClassInfo.Shares.{shares}
use Rattle.cjc_classes.proofs.class_info.flags.is_shareable.Goals as goal

pub returns : goal.returns
returns c =
    let w = all_classes c.args.world.now in
    let d = class_of c.args.class in
    c.is_shareable_where.ensures
    ∙ ap (λ b. b || (is_interface d.flags && bytes_eq d.name shareable))
    (c.is_one_of-is_below.ensures ∙ ap (λ (names : List (List ℕ)). list_any (λ x. bytes_eq x shareable) names)
    (c.items.ensures ∙ c.in_ok-names.ensures) ∙ shares w d shareable)
