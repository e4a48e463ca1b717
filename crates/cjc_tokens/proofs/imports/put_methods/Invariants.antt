use Rattle.std.proofs.Common.{◌≡◌, ◌++◌, take, map}
use Rattle.cjc_tokens.specs.Tokens.{listed_method_token}
use Rattle.cjc_tokens.proofs.imports.put_methods.Given as goal

abbrev pub invariant-loop-method : goal.invariant-loop-method
invariant-loop-method l = l.tokens ≡ l.initial.tokens ++ map listed_method_token (take l.method-index l.methods)
