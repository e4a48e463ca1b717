-- An instruction that has followed its row, as the machine goes on from it.
use Rattle.std.proofs.Common.{◌≡◌, ℕ, ◌+◌, ◌<◌, ◌≤◌, List, ◌∷◌, length, refl, sym, ap, subst, ◌∙◌, arith}
use Rattle.std.specs.Prelude.{Option, Some, slice_get}
use Rattle.cjc_jvm_step.specs.Bytecode.declared.insn.JInsn.{JInsn}
use Rattle.cjc_jvm_step.specs.CardSemantics.Bytecode.Runs.{Move, On}
use Rattle.cjc_jvm_semantics.specs.Linked.{Linked}
use Rattle.cjc_jvm_semantics.specs.Effects.{Effect, Store, effect}
use Rattle.cjc_jvm_semantics.specs.Machine.{Frame, State, after_athrow, after_effect, after_fault, after_fetch}
use Rattle.cjc_jvm_semantics.specs.Machine.{after_lookup, after_return, heap_of, holder_of, offset, stuck_at}
use Rattle.cjc_jvm_step.specs.declared.frame.deed.Deed.{Deed}
use Rattle.cjc_jvm_step.specs.declared.frame.deed.Deed.TheVariants.{Go, Raise, Toss, Invoke, Leave, Stick}
use Rattle.cjc_jvm_step.specs.Frame.Deeds.{FollowsEffect, effect_done, fault_of}
use Rattle.cjc_jvm.specs.Runs.Deeds.{IsInside, after_deed, most_after}

module _ (l : Linked) (f g : Frame) (e : Effect) (v : State) (store : Store) (outer before : List Frame) where
  -- a move by the frame and the store, which are as they were
  still : (done : Effect) (go : Frame → State → Move State) → e ≡ done
      → after_effect l done f outer (record v { frames = before }) ≡ go f (record v { frames = before }) → (g ≡ f)
      × (store ≡ v.store) → after_effect l e f outer (record v { frames = before }) ≡ go g (record v {
        frames = before;
        store = store;
      })
  still done go is goes same =
      ap (λ x. after_effect l x f outer (record v { frames = before })) is
      ∙ goes
      ∙ ap (λ h. go h (record v { frames = before })) (sym same.0)
      ∙ ap (λ (st : Store). go g (record v { frames = before; store = st })) (sym same.1)

  -- by what it asks for
  pub goes_on : (deed : Deed) → FollowsEffect e deed f g v.store store
      → after_effect l e f outer (record v { frames = before }) ≡ after_deed l deed g outer (record v {
        frames = before;
        store = store;
      })
  goes_on Go row =
      ap (λ x. after_effect l x f outer (record v { frames = before })) row.effect
      ∙ ap (λ m. On (record v { frames = record g { method = m } ∷ outer; store = store })) (sym row.keeps)
  goes_on (Raise x) row = still _ (λ h s. after_fault l (fault_of x) h outer s) row.effect refl row.keeps
  goes_on (Toss k) row = still _ (λ h s. after_athrow l (slice_get (heap_of s) k) h outer k s) row.effect refl row.keeps
  goes_on (Invoke op id) row = still _ (λ h s. after_lookup l (l.call (holder_of h) op id.now) id.now h outer s)
      row.effect refl row.keeps
  goes_on (Leave x) row = still _ (λ h s. after_return l x h outer s) row.effect refl row.keeps
  goes_on Stick row = still _ (λ h s. stuck_at (offset h) s) row.effect refl row.keeps

-- a frame that has not gone on stands where it stood
at_place : (f g : Frame) → g ≡ f → f.at < length f.method.insns → g.at < length g.method.insns
at_place f g same inside = subst (λ (h : Frame). h.at < length h.method.insns) (sym same) inside

pub stands : (deed : Deed) (f g : Frame) (e : Effect) (store store' : Store) → FollowsEffect e deed f g store store'
    → f.at < length f.method.insns → IsInside deed g
stands Go f g e store store' row inside = tt
stands (Raise x) f g e store store' row inside = at_place f g row.keeps.0 inside
stands (Toss k) f g e store store' row inside = at_place f g row.keeps.0 inside
stands (Invoke op id) f g e store store' row inside = at_place f g row.keeps.0 inside
stands (Leave x) f g e store store' row inside = at_place f g row.keeps.0 inside
stands Stick f g e store store' row inside = at_place f g row.keeps.0 inside

-- the instruction that is found
pub fetched : (l : Linked) (f : Frame) (outer : List Frame) (s : State) (i : JInsn) (o : Option JInsn)
    (next : Move State) → Some i ≡ o → after_effect l (effect l f.method f.at f.locals s.store i.op f.stack) f outer s
    ≡ next → after_fetch l o f outer s ≡ next
fetched l f outer s i o next found e = ap (λ x. after_fetch l x f outer s) (sym found) ∙ e

-- as many arrays and objects as there were, or one more, beside those that acts may make
as_many : (m n : ℕ) (store store' : Store) → store' ≡ store → length store'.heap + m + n ≤ length store.heap + m + n
as_many m n store store' same = omega (arith, ap (λ (st : Store). length st.heap) same)

pub at_most : (m n : ℕ) (deed : Deed) (f g : Frame) (e : Effect) (store store' : Store)
    → FollowsEffect e deed f g store store' → length store'.heap ≤ length store.heap + 1
    → length store'.heap + m + n ≤ most_after deed (length store.heap + m + n)
at_most m n Go f g e store store' row few = omega (arith, few)
at_most m n (Raise x) f g e store store' row few = as_many m n store store' row.keeps.1
at_most m n (Toss k) f g e store store' row few = as_many m n store store' row.keeps.1
at_most m n (Invoke op id) f g e store store' row few = as_many m n store store' row.keeps.1
at_most m n (Leave x) f g e store store' row few = as_many m n store store' row.keeps.1
at_most m n Stick f g e store store' row few = as_many m n store store' row.keeps.1
