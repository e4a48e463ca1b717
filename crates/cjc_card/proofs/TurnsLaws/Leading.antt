-- A step that is another.
use Rattle.std.proofs.Common.{◌≡◌, List, sym, subst}
use Rattle.cjc_card.specs.Acts.States.{FrameByToken, StateByToken, TurnByToken}
use Rattle.cjc_card.specs.declared.turns.after.After.{After}
use Rattle.cjc_card.specs.States.{Leads}

pub leads_as : (had : List FrameByToken) (x y : TurnByToken) (after : After) (s : StateByToken) → x ≡ y
    → Leads had y after s → Leads had x after s
leads_as had x y after s e h = subst (λ (t : TurnByToken). Leads had t after s) (sym e) h
