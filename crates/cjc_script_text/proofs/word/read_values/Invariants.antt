use Rattle.std.proofs.Common.{◌≡◌, drop}
use Rattle.cjc_script_text.specs.Words.{values_of}
use Rattle.cjc_script_text.proofs.Loops.{values_from}
use Rattle.cjc_script_text.proofs.word.read_values.Given as goal

abbrev pub invariant-loop-word : goal.invariant-loop-word
invariant-loop-word l = values_from l.values (drop l.word-index l.words) ≡ values_of l.words
