use Rattle.std.proofs.Common.{◌≡◌, ℕ, List, drop, false}
use Rattle.std.specs.Prelude.{map}
use Rattle.cjc_world.specs.Classes.{Class}
use Rattle.cjc_world.specs.Order.{next}
use Rattle.cjc_vtable.specs.Working.Standing.{listed_numbers, numbered_from, IsMarked}
use Rattle.cjc_vtable.proofs.order.next_class.Given as goal

abbrev pub invariant-loop-number : goal.invariant-loop-number
invariant-loop-number l =
    (w : List Class) (placed : List ℕ) → l.listed ≡ map (listed_numbers w) l.classes → IsMarked placed l.marks
    → next w false placed (numbered_from 0 l.classes) ≡ next w false placed (numbered_from l.number (drop l.number l.classes))
