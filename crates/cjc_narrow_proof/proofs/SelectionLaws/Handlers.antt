-- The search for a handler finds on both sides the same one, or none.
use Rattle.std.proofs.Common.{◌≡◌, ℕ, refl, sym, ap, subst, ◌∙◌, arith, Bool, true, false, List, [], ◌∷◌}
use Rattle.std.specs.Prelude.{Option, Some, None, option_map, nat_le, nat_lt, slice_get, if◌then◌else◌, ◌&&◌}
use Rattle.std.proofs.lemmas.Bool.Decides.{nat_tests}
use Rattle.cjc_bytes.specs.declared.fault.MemberId.{MemberId}
use Rattle.cjc_code.specs.ClassFile.declared.tree.Catch.{Catch}
use Rattle.cjc_code.specs.declared.insn.JInsn.{JInsn}
use Rattle.cjc_script.specs.declared.value.Value.TheVariants.{Obj}
use Rattle.cjc_script.specs.Sorts.{Shape, OfClass, shape_name}
use Rattle.cjc_card_semantics.specs.Bytecode.Runs.{On}
use Rattle.cjc_card_semantics.specs.Bytecode.Effects.{HeapObject, shape}
use Rattle.cjc_card_semantics.specs.Bytecode.Machine.{Next, StuckAt}
use Rattle.cjc_card_semantics.specs.Bytecode.Machine as narrow
use Rattle.cjc_ncode.specs.declared.narrow.NCatch.{NCatch}
use Rattle.cjc_ncode.specs.Written.{Resolution, place_in, catch_at, catches_at}
use Rattle.cjc_ncode.specs.ByLabel.{Named, by_label}
use Rattle.cjc_ncode.specs.ByLabel as labels
use Rattle.cjc_jvm_semantics.specs.Linked.{Linked}
use Rattle.cjc_jvm_semantics.specs.Effects.{place}
use Rattle.cjc_jvm_semantics.specs.Machine.{Frame, State, takes, handler, handler_in, at_handler, after_throw}
use Rattle.cjc_jvm_semantics.specs.Machine.{with_frames, offset, holder_of, room, stuck_at}
use Rattle.cjc_narrow_proof.specs.Selection.Relation.{Kind, object as object_here, bottom, cell, Locals}
use Rattle.cjc_narrow_proof.specs.Selection.Calls.{NFrame, NState, IsWrittenAt, CatchAgrees, takes as takes_it, passes}
use Rattle.cjc_narrow_proof.specs.Selection.Calls.{HandlesAlike}
use Rattle.cjc_narrow_proof.proofs.SelectionLaws.Places.{from_side, to_side}

module _ (by : Linked) (l : Named) (r : Resolution) (reached : List JInsn) (holder : List ℕ) (kind : Shape (List ℕ))
    (here at : ℕ) (is : IsWrittenAt r reached here at) (tells : (class : List ℕ)
    → by.subtype (Some holder) (shape_name kind) class ≡ l.is_of kind (OfClass class)) where
  abbrev to : ℕ → ℕ
  to = place_in r reached

  takes_same : (class : Option (List ℕ)) → takes by holder class (shape_name kind) ≡ labels.takes l class kind
  takes_same None = refl
  takes_same (Some class) = tells class

  abbrev named_test : Catch → Bool
  named_test c = nat_le c.start here && nat_lt here c.end && takes by holder c.class (shape_name kind)

  taken : (a b t : Bool) (target : ℕ) (rest : Option ℕ) → (if (a && b) && t then Some (to target)
      else option_map to rest) ≡ option_map to (if a && b && t then Some target else rest)
  taken true true true target rest = refl
  taken true true false target rest = refl
  taken true false t target rest = refl
  taken false b t target rest = refl

  not_taken : (a b t : Bool) (target : ℕ) (rest : Option ℕ) → (a ≡ true → b ≡ true → false ≡ true)
      → option_map to rest ≡ option_map to (if a && b && t then Some target else rest)
  not_taken true true t target rest h = let e = h refl refl in cc
  not_taken true false t target rest h = refl
  not_taken false b t target rest h = refl

  -- one handler that is written where something in its range is
  one_catch : (c : Catch) (cs : List NCatch) (rest : Option ℕ) → labels.handler l cs at kind ≡ option_map to rest
      → (k : Bool) → nat_lt (to c.start) (to c.end) ≡ k
      → labels.handler l (if k then catch_at to c ∷ cs else cs) at kind ≡ option_map to (if named_test c
      then Some c.target else rest)
  one_catch c cs rest e true k =
      ap (λ a. if (a && nat_lt at (to c.end)) && labels.takes l c.class kind then Some (to c.target)
      else labels.handler l cs at kind) (sym (from_side r reached here at is c.start))
      ∙ ap (λ b. if (nat_le c.start here && b) && labels.takes l c.class kind then Some (to c.target)
      else labels.handler l cs at kind) (sym (to_side r reached here at is c.end))
      ∙ ap (λ t. if (nat_le c.start here && nat_lt here c.end) && t then Some (to c.target)
      else labels.handler l cs at kind) (sym (takes_same c.class))
      ∙ ap (λ o. if (nat_le c.start here && nat_lt here c.end) && takes by holder c.class (shape_name kind)
      then Some (to c.target) else o) e
      ∙ taken (nat_le c.start here) (nat_lt here c.end) (takes by holder c.class (shape_name kind)) c.target rest
  one_catch c cs rest e false k =
      e ∙ not_taken (nat_le c.start here) (nat_lt here c.end) (takes by holder c.class (shape_name kind)) c.target rest
      (λ a b.
      let a' = sym (from_side r reached here at is c.start) ∙ a in
      let b' = sym (to_side r reached here at is c.end) ∙ b in
      absurd (grind (arith, nat_tests, a', b', k)))

  -- the first that takes the exception
  pub found_alike : (catches : List Catch) → labels.handler l (catches_at to catches) at kind
      ≡ option_map to (handler by holder catches here (shape_name kind))
  found_alike [] = refl
  found_alike (c ∷ catches) = one_catch c (catches_at to catches) (handler by holder catches here (shape_name kind))
      (found_alike catches) (nat_lt (to c.start) (to c.end)) refl

-- one frame takes the exception on both sides, or passes it on
pub caught : (by : Linked) (l : Named) (r : Resolution) (reached : List JInsn) (within : Shape (List ℕ)
    → Bool) (ls : List Kind) (from at object : ℕ) (thing : HeapObject (List ℕ) MemberId) (f : Frame)
    (outer : List Frame) (s : State) (g : NFrame) (others : List NFrame) (t : NState)
    → HandlesAlike by l r reached (shape thing) f g → slice_get (let m = t.memory in m.heap) object ≡ Some thing
    → within (shape thing) ≡ true → Locals (let m = t.memory in m.heap) ls f.locals g.locals
    → CatchAgrees by l (place_in r reached) within ls from at object (shape thing) f outer s g others t
    (after_throw by from (f ∷ outer) object (shape_name (shape thing)) s) (narrow.caught (by_label l) at (g
    ∷ others) object (shape thing) t)
unfolding by_label
caught by l r reached within ls from at object thing f outer s g others t alike there passes_test held =
    let kind = shape thing in
    let m = f.method in
    let same : labels.handler l (let n = g.code in n.catches) g.at kind ≡ option_map (place_in r reached)
    (handler_in by f (shape_name kind)) =
    ap (λ cs. labels.handler l cs g.at kind) alike.catches ∙ found_alike by l r reached (holder_of f) kind (offset f)
    g.at alike.is_written alike.tells m.catches in
    subst (λ o. CatchAgrees by l (place_in r reached) within ls from at object kind f outer s g others t
    (after_throw by from (f ∷ outer) object (shape_name kind) s) (narrow.caught_at (by_label l) o at g others object
    t (narrow.caught (by_label l) at others object kind t))) (sym same)
    (by_option (handler_in by f (shape_name kind)))
  where
    by_option : (o : Option ℕ) → CatchAgrees by l (place_in r reached) within ls from at object (shape thing) f outer s
        g others t (at_handler by o from f outer object s (after_throw by from outer object (shape_name (shape thing))
        s)) (narrow.caught_at (by_label l) (option_map (place_in r reached) o) at g others object t
        (narrow.caught (by_label l) at others object (shape thing) t))
    by_option None = passes
    by_option (Some target) =
        let high = alike.has_room in let high' = alike.narrow_has_room in
        let left : nat_lt 0 (room f) ≡ true = grind (arith, nat_tests) in
        let right : nat_lt 0 (let n = g.code in n.max_stack) ≡ true = grind (arith, nat_tests) in
        let handling = On (with_frames (record f {
          at = place (let m = f.method in m.insns) target;
          stack = Obj object
              ∷ [];
        } ∷ outer) s) in
        subst (λ b. CatchAgrees by l (place_in r reached) within ls from at object (shape thing) f outer s g others t
        (if b then handling else stuck_at from s) (narrow.caught_at (by_label l) (Some (place_in r reached target))
        at g others object t (narrow.caught (by_label l) at others object (shape thing) t))) (sym left)
        (subst (λ b. CatchAgrees by l (place_in r reached) within ls from at object (shape thing) f outer s g others t
        handling (if b then Next (record t {
          frames = record g {
            at = place_in r reached target;
            stack = Obj object
                ∷ [];
          } ∷ others;
        }) else StuckAt at t)) (sym right)
        (takes_it target (record { stack = cell (object_here thing there passes_test) bottom; locals = held })))
