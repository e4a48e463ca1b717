use Rattle.std.proofs.Common.{◌≡◌, ℕ, List, drop}
use Rattle.std.specs.Prelude.{option_map}
use Rattle.cjc_capread.specs.declared.tree.ClassRef.TheVariants.{Inside}
use Rattle.cjc_card_acts.specs.CardSemantics.Machine.Classes.{or_else}
use Rattle.cjc_classes.specs.ClassInfo.Refs.{ref_in}
use Rattle.cjc_verify.specs.Refs.{spot_by}
use Rattle.cjc_verify.proofs.infos.refs.note_own.Given as goal

abbrev pub invariant-loop-i : goal.invariant-loop-i
invariant-loop-i l =
    (x : List ℕ) → or_else (ref_in l.refs x) (option_map Inside (spot_by l.world.classes (drop l.i l.order)
    (drop l.i l.starts) x))
    ≡ or_else (ref_in l.fn.refs x) (option_map Inside (spot_by l.world.classes l.order l.starts x))
