-- The state behind an instruction is own where the state before it is, and grows with it.
use Rattle.std.proofs.Common.{◌≡◌, ◌<◌, ◌+◌, ℕ, Bool, true, false, cond, List, [], ◌∷◌, ◌++◌, map, length, drop}
use Rattle.std.proofs.Common.{get_or, slice_set, All, sym, ap, ◌∙◌}
use Rattle.std.specs.List.{AllZip}
use Rattle.std.proofs.lemmas.List.{length-set, drop_more}
use Rattle.std.proofs.lemmas.List.Elements.{All-nil, All-append, All-drop, All-set}
use Rattle.cjc_fixpoint.specs.Lattice.{IsListOf}
use Rattle.cjc_fixpoint.proofs.Lattices.{zip-slice_set}
use Rattle.cjc_types.specs.declared.cell.Cell.{Cell}
use Rattle.cjc_types.specs.declared.cell.Cell.TheVariants.{Number, Refs, Unusable}
use Rattle.cjc_types.specs.declared.state.Stack.{Stack}
use Rattle.cjc_types.specs.declared.state.Stack.TheVariants.{Cells, Clash}
use Rattle.cjc_types.specs.declared.state.State.{State}
use Rattle.cjc_types.specs.Cells.{IsCell, IsCellBelow, cells}
use Rattle.cjc_types.specs.States.{IsStack, IsStackBelow, states}
use Rattle.cjc_types.specs.Working.CellLaws.{below_refl}
use Rattle.cjc_types.specs.Working.OperandLaws.{below_append, below_drop}
use Rattle.cjc_types.specs.Working.StateLaws.{own_stack_of, stack_of_up}
use Rattle.cjc_types.specs.Working.StepLaws.{AreBelow}
use Rattle.cjc_frames.specs.declared.acts.Given.{Given}
use Rattle.cjc_frames.specs.declared.acts.Given.TheVariants.{ANumber, ANull, AnObject, Lost, Operand, Reference, Local}
use Rattle.cjc_frames.specs.declared.acts.Given.TheVariants.{Element, Item}
use Rattle.cjc_frames.specs.declared.acts.Write.{Write}
use Rattle.cjc_frames.specs.declared.acts.Act.{Act}
use Rattle.cjc_frames.specs.Acts.{given, stack_behind, stack_after, is_none, written, with_writes}
use Rattle.cjc_frames.specs.Acts.{after}
use Rattle.cjc_frames.specs.Working.GivenLaws.{own_given, given_up, own_all_given, all_given_up}

-- ---- the stack

own_behind : (a : Act) (locals s : List Cell) → All IsCell locals → All IsCell s → All IsCell (stack_behind a locals s)
own_behind a locals s own_l own_s = All-append IsCell (map (given locals s) a.gives) (drop (length a.takes) s)
    (own_all_given locals s a.gives own_l own_s) (All-drop IsCell (length a.takes) s own_s)

-- the stack behind an instruction grows with the stack and the locals before it
pub behind_up : (a : Act) (locals more s t : List Cell) → AreBelow locals more → AreBelow s t
    → AreBelow (stack_behind a locals s) (stack_behind a more t)
behind_up a locals more s t h k = below_append IsCellBelow (map (given locals s) a.gives) (map (given more t) a.gives)
    (drop (length a.takes) s) (drop (length a.takes) t) (all_given_up locals more s t a.gives h k)
    (below_drop IsCellBelow (length a.takes) s t k)

own_stack : (a : Act) (locals : List Cell) (s : Stack) → All IsCell locals → IsStack s
    → IsStack (stack_after a locals s)
own_stack a locals Clash own_l own_s = tt
own_stack a locals (Cells s) own_l own_s = own_stack_of (stack_behind a locals s) (own_behind a locals s own_l
    own_s.own)

stack_up : (a : Act) (locals more : List Cell) (s t : Stack) → AreBelow locals more → IsStackBelow s t
    → IsStackBelow (stack_after a locals s) (stack_after a more t)
stack_up a locals more s Clash h k = tt
stack_up a locals more Clash (Cells t) h k = absurd k
stack_up a locals more (Cells s) (Cells t) h k = stack_of_up (stack_behind a locals s) (stack_behind a more t)
    (behind_up a locals more s t h k)

-- ---- locals

own_lost : (b : Bool) (x : Cell) → IsCell x → IsCell (cond b x Unusable)
own_lost true x own = own
own_lost false x own = tt

lost_up : (b : Bool) (x y : Cell) → IsCellBelow x y → IsCellBelow (cond b x Unusable) (cond b y Unusable)
lost_up true x y h = h
lost_up false x y h = tt

own_written : (a : Act) (locals : List Cell) (s : Stack) (g : Given) → All IsCell locals → IsStack s
    → IsCell (written a locals s g)
own_written a locals (Cells s) g own_l own_s = own_given locals s g own_l own_s.own
own_written a locals Clash g own_l own_s = own_lost (is_none a.takes) (given locals [] g) (own_given locals [] g own_l
    (All-nil IsCell))

-- without a stack an instruction gives no less
given_lost : (locals more s : List Cell) (g : Given) → AreBelow locals more → IsCellBelow (given locals s g)
    (given more [] g)
given_lost locals more s ANumber h = tt
given_lost locals more s ANull h = below_refl (Refs [])
given_lost locals more s (AnObject type) h = below_refl (Refs (type ∷ []))
given_lost locals more s Lost h = tt
given_lost locals more s (Operand i) h = tt
given_lost locals more s (Reference i) h = tt
given_lost locals more s (Local i) h = given_up locals more [] [] (Local i) h tt
given_lost locals more s (Element i) h = tt
given_lost locals more s (Item i) h = tt

written_up : (a : Act) (locals more : List Cell) (s t : Stack) (g : Given) → AreBelow locals more → IsStackBelow s t
    → IsCellBelow (written a locals s g) (written a more t g)
written_up a locals more (Cells s) (Cells t) g h k = given_up locals more s t g h k
written_up a locals more Clash (Cells t) g h k = absurd k
written_up a locals more (Cells s) Clash g h k = go (is_none a.takes)
  where
    go : (b : Bool) → IsCellBelow (given locals s g) (cond b (given more [] g) Unusable)
    go true = given_lost locals more s g h
    go false = tt
written_up a locals more Clash Clash g h k = lost_up (is_none a.takes) (given locals [] g) (given more [] g)
    (given_lost locals more [] g h)

own_writes : (a : Act) (before : List Cell) (s : Stack) (writes : List Write) (n : ℕ) (locals : List Cell)
    → All IsCell before → IsStack s → IsListOf cells n locals → IsListOf cells n (with_writes a before s writes locals)
own_writes a before s [] n locals own_b own_s own = own
own_writes a before s (w ∷ writes) n locals own_b own_s own = own_writes a before s writes n (slice_set locals w.local
    (written a before s w.given)) own_b own_s (record {
      sized = length-set locals w.local (written a before s w.given) ∙ own.sized;
      own = All-set IsCell locals w.local (written a before s w.given) (own_written a before s w.given own_b own_s)
          own.own;
    })

writes_up : (a : Act) (before after : List Cell) (s t : Stack) (writes : List Write) (locals more : List Cell)
    → AreBelow before after → IsStackBelow s t → AreBelow locals more
    → AreBelow (with_writes a before s writes locals) (with_writes a after t writes more)
writes_up a before after s t [] locals more h k m = m
writes_up a before after s t (w ∷ writes) locals more h k m = writes_up a before after s t writes
    (slice_set locals w.local (written a before s w.given)) (slice_set more w.local (written a after t w.given)) h k
    (zip-slice_set IsCellBelow locals more w.local (written a before s w.given) (written a after t w.given) m
    (written_up a before after s t w.given h k))

-- ---- states

-- the state behind an instruction is own where the state before it is
pub own_after : (a : Act) (n : ℕ) (x : State) → (states n).Own x → (states n).Own (after a x)
own_after a n x own = (
  own_stack a x.locals x.stack own.1.own own.0,
  own_writes a x.locals x.stack a.writes n x.locals own.1.own own.0 own.1,
)

-- the state behind an instruction grows with the state before it
pub after_up : (a : Act) (n : ℕ) (x y : State) → (states n).Below x y → (states n).Below (after a x) (after a y)
after_up a n x y h = (
  stack_up a x.locals y.locals x.stack y.stack h.1 h.0,
  writes_up a x.locals y.locals x.stack y.stack a.writes x.locals y.locals h.1 h.0 h.1,
)

-- ---- a step of the loop over writes

-- what the writes from a place on leave is what those behind it leave, behind the one there
pub writes_next : (a : Act) (before : List Cell) (s : Stack) (writes : List Write) (i : ℕ) (w : Write)
    (locals more : List Cell) → i < length writes → w ≡ get_or writes i w → more ≡ slice_set locals w.local (written a
    before s w.given) → with_writes a before s (drop (i + 1) writes) more ≡ with_writes a before s (drop i writes)
    locals
writes_next a before s writes i w locals more lt read is =
    let split : drop i writes ≡ w ∷ drop (i + 1) writes = drop_more writes i w lt
    ∙ ap (λ (v : Write). v ∷ drop (i + 1) writes) (sym read) in
    ap (with_writes a before s (drop (i + 1) writes)) is
    ∙ ap (λ (ws : List Write). with_writes a before s ws locals) (sym split)
