use Rattle.std.proofs.Common.{◌<◌, length}
use Rattle.std.specs.Prelude.{All}
use Rattle.cjc_tokens.proofs.line.waiting.Given as goal

abbrev pub invariant-loop : goal.invariant-loop
invariant-loop l = record {
  last : l.last < length l.world.classes;
  all : All (λ n. n < length l.world.classes) l.numbers.items;
}
