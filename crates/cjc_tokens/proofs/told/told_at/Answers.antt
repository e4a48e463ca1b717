use Rattle.std.proofs.Common.{◌∙◌, ap, map}
use Rattle.std.proofs.lemmas.Result.{IfOk-weaker}
use Rattle.cjc_world.specs.Classes.{all_classes}
use Rattle.cjc_world.specs.Working.Known.{class_of}
use Rattle.cjc_tokens.specs.Lines.{line_at}
use Rattle.cjc_tokens.specs.Working.{IsToldOf, told_among}
use Rattle.cjc_tokens.proofs.Listings.{told-line}
use Rattle.cjc_tokens.proofs.told.told_at.Goals as goal

pub returns : goal.returns
returns c =
    let w = all_classes c.args.world.now in
    let classes = ap (map class_of) c.deref.ensures.value ∙ c.in_ok-classes.ensures in
    IfOk-weaker c.told_of.result _ (IsToldOf (line_at w (class_of c.args.class))) (λ t h s. h s
    ∙ ap (λ cs. told_among cs s) classes
    ∙ told-line c.args.world.now (c.lookup_laws.ensures.are_supertypes w c.acyclic.ensures) c.args.class s)
    c.told_of.ensures
