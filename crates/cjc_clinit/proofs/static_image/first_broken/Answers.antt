use Rattle.std.proofs.Common.{List, subst}
use Rattle.std.specs.Prelude.{Result, Ok, Err, Option, IfOk, option_map}
use Rattle.cjc_bytes.specs.Breaks.{Break, IsFirstOf}
use Rattle.cjc_bytes.specs.Told.{break_of}
use Rattle.cjc_subset.specs.LowerBytecode.declared.method_code.MethodCode.{MethodCode}
use Rattle.cjc_subset.specs.LowerWorld.Files.{Files}
use Rattle.cjc_clinit.specs.Rules.{IsFirstBroken}
use Rattle.cjc_clinit.specs.Working.Reading.{image_breaks}
use Rattle.cjc_clinit.proofs.Told.{image-is}
use Rattle.cjc_clinit.proofs.static_image.first_broken.Goals as goal

answered : {X E : Type 0} (f : X → Break) (files : Files) (codes : List MethodCode) (r : Result (Option X) E)
    → IfOk r (λ b. IsFirstOf (image_breaks files codes) (option_map f b))
    → IfOk r (λ b. IsFirstBroken files codes (option_map f b))
answered f files codes (Ok o) h = (image_breaks files codes, image-is files codes, h)
answered f files codes (Err e) h = tt

pub returns : goal.returns
returns c =
    answered break_of c.args.world.now c.args.codes.now c.image_break.result
    (subst (λ (q : List MethodCode). IfOk c.image_break.result (λ b. IsFirstOf (image_breaks c.args.world.now q)
    (option_map break_of b))) c.items-2.ensures c.image_break.ensures.first)
