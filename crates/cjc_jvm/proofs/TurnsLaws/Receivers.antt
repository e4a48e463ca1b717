-- What calls reach.
use Rattle.std.proofs.Common.{◌≡◌, ℕ, ◌<◌, List, [], ◌∷◌, length, take, reverse, refl, sym, ap, ◌∙◌, false, arith}
use Rattle.std.proofs.lemmas.List.{length-reverse, length-take}
use Rattle.std.specs.Prelude.{◌≢◌, Option, Some, None, option_map}
use Rattle.cjc_jvm_semantics.specs.LowerBytes.declared.fault.MemberId.{MemberId}
use Rattle.cjc_jvm_step.specs.Script.declared.value.Value.{Value}
use Rattle.cjc_jvm_step.specs.Script.declared.report.Thing.{Thing}
use Rattle.cjc_jvm_step.specs.Script.Sorts.{Sort}
use Rattle.cjc_jvm_semantics.specs.Linked
use Rattle.cjc_jvm_semantics.specs.Linked.{Linked, Callee, OnClass, OnObject}
use Rattle.cjc_jvm_semantics.specs.Effects.{Effect, Toss, Stick, type_of, one_value}
use Rattle.cjc_jvm_semantics.specs.Machine.{Frame, State, are_of_sorts, offset, stuck_at, at_callee, at_selected}
use Rattle.cjc_jvm_semantics.specs.Machine.{on_receiver, at_call}
use Rattle.cjc_jvm.proofs.ActsLaws.Lengths.{are_of_sorts-unlike}
use Rattle.cjc_jvm_step.specs.declared.step.lookups.Call.{Call}
use Rattle.cjc_jvm_step.specs.declared.step.lookups.Call.TheVariants as calls
use Rattle.cjc_jvm_step.specs.Step.Names.{callee_of, selection_of, IsCall}

-- fewer operands than parameters
pub too_few : (sorts : List Sort) (stack : List Value) → length stack < length sorts
    → are_of_sorts sorts (reverse (take (length sorts) stack)) ≡ false
too_few sorts stack h =
    are_of_sorts-unlike sorts (reverse (take (length sorts) stack))
    (λ e. absurd (omega (arith, h, e, length-reverse (take (length sorts) stack), length-take (length sorts) stack)))

-- a member that is found
pub found_call : (id : MemberId) (call : Call) (o : Option Linked.Call) → IsCall id (Some call) o
    → (found : Linked.Call) × (o ≡ Some found) × IsCall id (Some call) (Some found)
found_call id (calls.OnClass callee) o e = (OnClass (callee_of callee id), e, refl)
found_call id calls.OnObject o e = (
  OnObject (λ type. selection_of o type),
  e,
  ap (λ x. Some (OnObject (λ type. selection_of x type))) e,
)

module _ (l : Linked) (result : Option Sort) (args : List Value) (f : Frame) (outer : List Frame) (s : State) where
  -- without receiver
  pub at_class : (found : Linked.Call) (callee : Callee) → Some found ≡ Some (OnClass callee)
      → at_call l found result args f outer s ≡ at_callee l (Some callee) result args f outer s
  at_class found callee e = let h : found ≡ OnClass callee = cc e in ap (λ c. at_call l c result args f outer s) h

  -- by the receiver
  pub at_object : (found : Linked.Call) (call : Option Linked.Call)
      → Some found ≡ Some (OnObject (λ type. selection_of (Some found) type)) → call ≡ Some found
      → at_call l found result args f outer s ≡ on_receiver l (λ type. selection_of call type) f.stack result args f
      outer s
  at_object found call e there =
      let h : found ≡ OnObject (λ type. selection_of (Some found) type) = cc e in
      ap (λ c. at_call l c result args f outer s) h
      ∙ ap (λ o. on_receiver l (λ type. selection_of o type) f.stack result args f outer s) (sym there)

  -- no operand is left
  pub no_receiver : (selected : List ℕ → Option Callee) (stack : List Value) → ((go : Value → List Value → Effect)
      → one_value stack go ≡ Stick) → on_receiver l selected stack result args f outer s ≡ stuck_at (offset f) s
  no_receiver selected [] h = refl
  no_receiver selected (v ∷ stack) h = let e : Toss 0 ≡ Stick = h (λ w rest. Toss 0) in absurd (cc e)

  -- a receiver of a type
  pub at_type : (selected : List ℕ → Option Callee) (o : Option Thing) (name : List ℕ)
      → Some name ≡ option_map type_of o → at_selected l selected o result args f outer s ≡ at_callee l (selected name)
      result args f outer s
  at_type selected None name e = absurd (cc e)
  at_type selected (Some thing) name e = let h : name ≡ type_of thing = cc e
      in ap (λ n. at_callee l (selected n) result args f outer s) (sym h)

  -- no receiver has the number
  pub at_nothing : (selected : List ℕ → Option Callee) (o : Option Thing) → None ≡ option_map type_of o
      → at_selected l selected o result args f outer s ≡ stuck_at (offset f) s
  at_nothing selected None e = refl
  at_nothing selected (Some thing) e = absurd (cc e)
