use Rattle.std.proofs.Common.{◌≡◌, ◌==◌, drop}
use Rattle.std.specs.Prelude.{◌&&◌, ◌||◌}
use Rattle.std.specs.List.{list_any}
use Rattle.cjc_bytes.specs.AccessFlags.{is_static}
use Rattle.cjc_sentences.specs.Members.{is_constructor}
use Rattle.cjc_exported.proofs.offsets.has_method.Given as goal

abbrev pub invariant-loop-method : goal.invariant-loop-method
invariant-loop-method l = list_any (λ m. m.token == l.token && (is_static m.flags || is_constructor m.flags) && m.offset == l.offset) (drop l.method-index l.methods) ≡ list_any (λ m. m.token == l.token && (is_static m.flags || is_constructor m.flags) && m.offset == l.offset) l.methods
