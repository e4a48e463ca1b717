use Rattle.std.proofs.Common.{◌<◌, length}
use Rattle.cjc_key_tokens.specs.Walks.{called}
use Rattle.cjc_key_tokens.proofs.Walked.{HiddenSoFar}
use Rattle.cjc_key_tokens.proofs.hidden.hidden_token.Given as goal

abbrev pub invariant-loop : goal.invariant-loop
invariant-loop l = record {
  at : l.at < length l.world.classes;
  so_far : HiddenSoFar l.world (called l.name l.desc) l.number l.at;
}
