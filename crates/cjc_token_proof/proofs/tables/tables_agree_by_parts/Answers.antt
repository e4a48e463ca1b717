use Rattle.cjc_token_proof.proofs.tables.tables_agree_by_parts.Goals as goal

pub returns : goal.returns
returns c = λ n placed memories l methods known class_tables call_tables. record {
  classes = class_tables.classes;
  class_known = class_tables.class_known;
  operation_known = call_tables.operation_known;
  on_object = call_tables.on_object;
  words = call_tables.words;
  reached = call_tables.reached;
  reached_known = call_tables.reached_known;
  is_object = call_tables.is_object;
  fault = class_tables.fault;
  fault_known = class_tables.fault_known;
  class_named = class_tables.class_named;
  class_named_known = class_tables.class_named_known;
  imported = class_tables.imported;
  imported_known = class_tables.imported_known;
  throwable = class_tables.throwable;
  throwable_known = class_tables.throwable_known;
  called = call_tables.called;
  called_known = call_tables.called_known;
  sent = call_tables.sent;
  sent_known = call_tables.sent_known;
  name = class_tables.name;
  fields = class_tables.fields;
  cells = class_tables.cells;
}
