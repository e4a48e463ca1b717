use Rattle.std.proofs.Common.{◌≡◌, ◌-◌, map, length}
use Rattle.cjc_world.specs.Classes.{method_of_export}
use Rattle.cjc_world.specs.Added.{by_token, without_initialiser}
use Rattle.cjc_tokens.specs.Members.{signature_of}
use Rattle.cjc_tokens.specs.Slots.{with_new}
use Rattle.cjc_tokens.specs.Working.{signs}
use Rattle.cjc_tokens.proofs.interfaces.put_exported.Given as goal

abbrev pub invariant-loop-token : goal.invariant-loop-token
invariant-loop-token l =
    with_new (signs l.row.items) (map signature_of (without_initialiser (by_token (length l.methods - l.token) l.token
    (map method_of_export l.methods)))) ≡ with_new (signs l.initial.row.items)
    (map signature_of (without_initialiser (by_token (length l.methods) 0 (map method_of_export l.methods))))
