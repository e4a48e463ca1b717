use Rattle.std.proofs.Common.{◌≡◌, drop}
use Rattle.std.specs.List.{list_all}
use Rattle.cjc_frames.proofs.rules.are_of.Given as goal

abbrev pub invariant-loop-sub : goal.invariant-loop-sub
invariant-loop-sub g l = list_all (λ t. g.T.Subtypes.subtype l.types t l.sup) (drop l.sub-index l.subs)
    ≡ list_all (λ t. g.T.Subtypes.subtype l.types t l.sup) l.subs
