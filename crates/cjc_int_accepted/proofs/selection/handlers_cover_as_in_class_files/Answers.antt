use Rattle.std.specs.Prelude.{None}
use Rattle.cjc_int_accepted.proofs.SelectionLaws.{covered, in_front}
use Rattle.cjc_int_accepted.proofs.selection.handlers_cover_as_in_class_files.Goals as goal

pub returns-clause-front : goal.returns-clause-front
returns-clause-front c r code b types ranges step to stands ascends = in_front (λ name. None) (record {
  arguments = 0;
  scratch = 0;
}) r b types ranges step code to stands ascends

pub returns-clause-covered : goal.returns-clause-covered
returns-clause-covered c r code b types ranges step to stands ascends = covered (λ name. None) (record {
  arguments = 0;
  scratch = 0;
}) r b types ranges step code to stands ascends
