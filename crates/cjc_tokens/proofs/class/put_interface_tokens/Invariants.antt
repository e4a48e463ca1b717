use Rattle.std.proofs.Common.{◌≡◌, ◌++◌, List, Some, map, take}
use Rattle.cjc_world.specs.Classes.{method_of_class}
use Rattle.cjc_tokens.specs.Members.{Signature}
use Rattle.cjc_tokens.specs.Methods.{interface_token}
use Rattle.cjc_tokens.specs.Working.{signs}
use Rattle.cjc_tokens.proofs.class.put_interface_tokens.Given as goal

abbrev pub invariant-loop-method : goal.invariant-loop-method
invariant-loop-method l = (ss : List Signature) → signs l.methods ≡ map Some ss → l.tokens ≡ l.initial.tokens
    ++ map (interface_token ss) (map method_of_class (take l.method-index l.own))
