use Rattle.std.proofs.Common.{◌≡◌, ◌++◌, take, map}
use Rattle.std.specs.Prelude.{count_by}
use Rattle.cjc_world.specs.Classes.{method_of_class}
use Rattle.cjc_tokens.specs.Methods.{class_method_tokens, is_open_bound}
use Rattle.cjc_tokens.specs.Working.{signs, slot_token}
use Rattle.cjc_tokens.proofs.methods.put_method_tokens.Given as goal

abbrev pub invariant-loop-place : goal.invariant-loop-place
invariant-loop-place l = record {
  tokens : l.tokens ≡ l.initial.tokens ++ class_method_tokens l.exported (slot_token l.shown)
      (signs l.hidden) (map method_of_class l.methods) 0 (take l.place (map method_of_class l.methods));
  bounds : l.bounds ≡ count_by is_open_bound (take l.place (map method_of_class l.methods));
}
