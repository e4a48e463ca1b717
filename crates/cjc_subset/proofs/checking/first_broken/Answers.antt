use Rattle.std.proofs.Common.{List, subst}
use Rattle.std.specs.Prelude.{option_map}
use Rattle.cjc_code.specs.declared.method_code.MethodCode.{MethodCode}
use Rattle.cjc_bytes.specs.Told.{break_of}
use Rattle.cjc_subset.specs.Checks.{check_breaks, code_breaks}
use Rattle.cjc_bytes.specs.Breaks.{IsFirstOf, each}
use Rattle.cjc_subset.proofs.checking.first_broken.Goals as goal

pub returns : goal.returns
unfolding check_breaks
returns c =
    let instructions =
    subst (λ (xs : List MethodCode). IsFirstOf (each (λ _ code. code_breaks c.args.world.now c.args.settings.now
    code) xs) (option_map break_of c.codes_break-instructions.result)) c.items.ensures
    c.codes_break-instructions.ensures in
    c.first-2.ensures _ _ (c.first.ensures _ _ c.list_break-listed.ensures c.in_ok-classes.ensures) instructions
