-- A frame that goes on behind its call with the words of a result, where it has room for them.
use Rattle.std.proofs.Common.{◌≡◌, ℕ, List, ◌∷◌, sym, ap, ◌∙◌, Bool, true, false}
use Rattle.std.specs.Prelude.{if◌then◌else◌}
use Rattle.cjc_script.specs.declared.value.Value.{Value}
use Rattle.cjc_card_semantics.specs.Bytecode.Machine.{Next, StuckAt, returned}
use Rattle.cjc_card_semantics.specs.Machine.Loaded.{Loaded}
use Rattle.cjc_card_semantics.specs.Machine.ByToken.{by_token}
use Rattle.cjc_card.specs.Acts.States.{FrameByToken, StateByToken}
use Rattle.cjc_card.specs.States.{IsResumed, resumed, with_frames}

pub resumed_as : (l : Loaded) (from : ℕ) (words : List Value) (f new : FrameByToken) (outer had : List FrameByToken)
    (s : StateByToken) (fits : Bool) → IsResumed fits words f new
    → returned (by_token l) from words f outer (with_frames had s) ≡ (if fits then Next (with_frames (new ∷ outer) s)
    else StuckAt from (with_frames had s))
unfolding by_token
resumed_as l from words f new outer had s true h =
    ap (λ b. if b then Next (with_frames (resumed true words f ∷ outer) s) else StuckAt from (with_frames had s))
    (sym h.0)
    ∙ ap (λ (g : FrameByToken). Next (with_frames (g ∷ outer) s)) (sym h.1)
resumed_as l from words f new outer had s false h =
    ap (λ b. if b then Next (with_frames (resumed true words f ∷ outer) s) else StuckAt from (with_frames had s))
    (sym h.0)
