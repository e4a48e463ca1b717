-- What agrees by narrower kinds agrees by wider ones.
use Rattle.std.proofs.Common.{List}
use Rattle.std.specs.Prelude.{Option}
use Rattle.cjc_range.proofs.Order.{held_wider}
use Rattle.cjc_script.specs.declared.value.Value.{Value}
use Rattle.cjc_narrow_proof.specs.Selection.Relation.{Kind, Heap, Agrees, number, null, object, free, Stacks, bottom}
use Rattle.cjc_narrow_proof.specs.Selection.Relation.{cell, left_out, Locals, no_more, local, unused, Wider}
use Rattle.cjc_narrow_proof.specs.Selection.Relation.{more_numbers, more_types, number_free, reference_free, free_free}
use Rattle.cjc_narrow_proof.specs.Selection.Relation.{away, AllWider, none_wider, one_wider, OnBoth, no_cell, a_range}
use Rattle.cjc_narrow_proof.specs.Selection.Relation.{a_reference, an_unused, Owns, all_there, on_top, below_top}

pub agrees_wider : {heap : Heap} {k j : Kind} {v w : Value} → Wider k j → Agrees heap k v w → Agrees heap j v w
agrees_wider (more_numbers {s = s} {t = t} within) (number {x = x} e h) = number e (held_wider s t x within h)
agrees_wider (more_types more) null = null
agrees_wider (more_types more) (object thing is e) = object thing is (more _ e)
agrees_wider number_free a = free
agrees_wider reference_free a = free
agrees_wider free_free a = free
agrees_wider (away k) a = elim a [ ]

pub stacks_wider : {heap : Heap} {ks js : List Kind} {vs ws : List Value} → AllWider ks js → Stacks heap ks vs ws
    → Stacks heap js vs ws
stacks_wider none_wider bottom = bottom
stacks_wider (one_wider (away k) more) (left_out a s) = left_out (agrees_wider k a) (stacks_wider more s)
stacks_wider (one_wider k more) (cell a s) = cell (agrees_wider k a) (stacks_wider more s)

pub locals_wider : {heap : Heap} {ks js : List Kind} {vs ws : List (Option Value)} → AllWider ks js
    → Locals heap ks vs ws → Locals heap js vs ws
locals_wider none_wider no_more = no_more
locals_wider (one_wider k more) (local a s) = local (agrees_wider k a) (locals_wider more s)
locals_wider (one_wider free_free more) (unused s) = unused (locals_wider more s)

pub on_both_wider : {ks js : List Kind} → AllWider ks js → OnBoth ks → OnBoth js
on_both_wider none_wider no_cell = no_cell
on_both_wider (one_wider (more_numbers h) more) (a_range b) = a_range (on_both_wider more b)
on_both_wider (one_wider number_free more) (a_range b) = an_unused (on_both_wider more b)
on_both_wider (one_wider (more_types f) more) (a_reference b) = a_reference (on_both_wider more b)
on_both_wider (one_wider reference_free more) (a_reference b) = an_unused (on_both_wider more b)
on_both_wider (one_wider free_free more) (an_unused b) = an_unused (on_both_wider more b)
on_both_wider (one_wider (away k) more) b = elim b [ ]

pub owns_wider : {words : List (Option Value)} {ks js : List Kind} {vs : List Value} → AllWider ks js
    → Owns words ks vs → Owns words js vs
owns_wider w (all_there b) = all_there (on_both_wider w b)
owns_wider (one_wider (away k) more) (on_top is held b) = on_top is held (on_both_wider more b)
owns_wider (one_wider j (one_wider (away k) more)) (below_top is held b) = below_top is held
    (on_both_wider (one_wider j more) b)
