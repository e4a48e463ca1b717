-- The run of narrow code of methods that know where they stand: two methods with the same code are two. What an
-- instruction, a handler and a report are is as by label.
use Rattle.std.specs.Prelude.{ℕ, List, map, Option}
use Rattle.cjc_code.specs.Bytes.declared.fault.MemberId.{MemberId}
use Rattle.cjc_card_semantics.specs.Script.Sorts.{Shape}
use Rattle.cjc_card_semantics.specs.Bytecode.Effects.{Slot}
use Rattle.cjc_card_semantics.specs.Bytecode.Machine.{Start, Reached, Setting}
use Rattle.cjc_ncode.specs.ByLabel.{Callee, Named, classes, fetch, handler, on_object, shown_slot}
use Rattle.cjc_ncode.specs.Lowering.Placed.{Placed}

-- what calls reach, and the methods that a script names
pub record Methods : Type 0 where
  pub reached : Callee → Option (Shape (List ℕ)) → Reached Placed
  pub called : MemberId → Option (Start Placed)
  pub sent : Shape (List ℕ) → MemberId → Option (Start Placed)

-- The look-ups of narrow code, of placed methods.
unfoldable pub by_place : Named → Methods → Setting Placed (List ℕ) MemberId MemberId Callee (List (Slot MemberId))
by_place l methods = record {
  classes = classes l;
  room = λ p. let m = p.method in m.max_stack;
  fetch = λ p at. fetch p.method at;
  handler = λ p at kind. let m = p.method in handler l m.catches at kind;
  on_object = on_object;
  words = l.words;
  reached = methods.reached;
  fault = l.fault;
  class_named = l.class_named;
  imported = l.imported;
  throwable = l.throwable;
  called = methods.called;
  sent = methods.sent;
  name = λ c. c;
  fields = λ c slots. map shown_slot slots;
  cells = map shown_slot;
}
