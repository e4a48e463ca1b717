-- What calls take and reach.
use Rattle.std.proofs.Common.{◌≡◌, ℕ, ◌≤◌, List, [], ◌∷◌, length, take, drop, reverse, refl, sym, ap, subst, ◌∙◌, Bool}
use Rattle.std.proofs.Common.{true}
use Rattle.std.proofs.lemmas.Bool.{le-leb}
use Rattle.std.specs.Prelude.{Option, Some, None, option_map, slice_get, if◌then◌else◌}
use Rattle.cjc_script.specs.declared.value.Value.{Value}
use Rattle.cjc_script.specs.declared.value.Value.TheVariants.{Null, Obj}
use Rattle.cjc_script.specs.Sorts.{Shape}
use Rattle.cjc_card_semantics.specs.Bytecode.Calculations.{NullPointer}
use Rattle.cjc_card_semantics.specs.Bytecode.Effects.{HeapObject, shape}
use Rattle.cjc_card_semantics.specs.Bytecode.Machine.{StuckAt, counted, turn_after_fault, on_receiver, reaches}
use Rattle.cjc_card_semantics.specs.Bytecode.Machine.{reaches_on, with_args}
use Rattle.cjc_card_semantics.specs.Machine.Loaded.{Loaded}
use Rattle.cjc_card_semantics.specs.Machine.Classes.{Class, Field}
use Rattle.cjc_card_semantics.specs.Machine.Operations.{Callee}
use Rattle.cjc_card_semantics.specs.Machine.Calls.{reached}
use Rattle.cjc_card_semantics.specs.Machine.ByToken.{by_token}
use Rattle.cjc_card.specs.Acts.States.{FrameByToken, StateByToken}
use Rattle.cjc_card.specs.States.{heap_of}

module _ (l : Loaded) (m : Callee) (f : FrameByToken) (outer : List FrameByToken) (s : StateByToken) where
  -- the deepest word is an array or object
  pub on_object_first : (args : List Value) (k : ℕ) → Some (Obj k) ≡ slice_get args 0
      → on_receiver (by_token l) m args f outer s ≡ reaches_on (by_token l) m (slice_get (heap_of s) k) args f outer s
  on_object_first [] k e = absurd (cc e)
  on_object_first (v ∷ args) k e =
      let same : Obj k ≡ v = cc e in
      subst (λ (w : Value). on_receiver (by_token l) m (w ∷ args) f outer s ≡ reaches_on (by_token l) m
      (slice_get (heap_of s) k) (w ∷ args) f outer s) same refl

  -- it is null
  pub on_null_first : (args : List Value) → Some Null ≡ slice_get args 0 → on_receiver (by_token l) m args f outer s
      ≡ turn_after_fault (by_token l) NullPointer f outer s
  on_null_first [] e = absurd (cc e)
  on_null_first (v ∷ args) e =
      let same : Null ≡ v = cc e in
      ap (λ (w : Value). on_receiver (by_token l) m (w ∷ args) f outer s) (sym same)

  -- a receiver of a type
  pub reaches_there : (args : List Value) (o : Option (HeapObject Class Field)) (kind : Shape Class)
      → Some kind ≡ option_map shape o → reaches_on (by_token l) m o args f outer s
      ≡ reaches (by_token l) (reached l m (Some kind)) true args f outer s
  unfolding by_token
  reaches_there args None kind e = absurd (cc e)
  reaches_there args (Some thing) kind e =
      let same : kind ≡ shape thing = cc e in
      ap (λ k. reaches (by_token l) (reached l m (Some k)) true args f outer s) (sym same)

  -- a call whose words are there
  pub counted_by : (o : Option ℕ) (n : ℕ) (args : List Value) (caller : FrameByToken) → o ≡ Some n → n ≤ length f.stack
      → args ≡ reverse (take n f.stack) → caller ≡ record f { stack = drop n f.stack }
      → counted (by_token l) o m f outer s ≡ with_args (by_token l) ((by_token l).on_object m) m args caller outer s
  counted_by o n args caller e h is left =
      let on = (by_token l).on_object m in
      ap (λ (p : Option ℕ). counted (by_token l) p m f outer s) e
      ∙ ap (λ (b : Bool). if b then with_args (by_token l) on m (reverse (take n f.stack))
      (record f { stack = drop n f.stack }) outer s else StuckAt f.at s) (le-leb n (length f.stack) h)
      ∙ ap (λ (xs : List Value). with_args (by_token l) on m xs (record f { stack = drop n f.stack }) outer s) (sym is)
      ∙ ap (λ (g : FrameByToken). with_args (by_token l) on m args g outer s) (sym left)
