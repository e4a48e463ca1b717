use Rattle.std.proofs.Common.{◌≡◌, ◌++◌, take, map}
use Rattle.cjc_tokens.specs.Tokens.{of_import}
use Rattle.cjc_tokens.proofs.imports.put_classes.Given as goal

abbrev pub invariant-loop-class : goal.invariant-loop-class
invariant-loop-class l = l.rows ≡ l.initial.rows ++ map of_import (take l.class-index l.classes)
