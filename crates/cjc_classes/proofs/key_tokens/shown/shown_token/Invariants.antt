use Rattle.std.proofs.Common.{◌<◌, length}
use Rattle.cjc_classes.specs.Walks.{called}
use Rattle.cjc_classes.proofs.KeyTokens.Walked.{ShownSoFar}
use Rattle.cjc_classes.proofs.key_tokens.shown.shown_token.Given as goal

abbrev pub invariant-loop : goal.invariant-loop
invariant-loop l = record {
  at : l.at < length l.world.classes;
  so_far : ShownSoFar l.world (called l.name l.desc) l.number l.at;
}
