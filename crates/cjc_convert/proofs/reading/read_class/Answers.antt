use Rattle.std.proofs.Common.{refl, true, length}
use Rattle.std.proofs.lemmas.Result.{err_from_is_err_and}
use Rattle.cjc_convert.proofs.Files.{class_stops, code_stops, class_fits, class_read}
use Rattle.cjc_convert.proofs.reading.read_class.Goals as goal

pub decode_class-requires : goal.decode_class-requires
decode_class-requires c = class_fits c.args.bytes.now c.in_ok-class.class c.type_inv.bytes c.in_ok-class.ensures.found

pub returns-in_err-class : goal.returns-in_err-class
returns-in_err-class c =
    let p = err_from_is_err_and c.from_residual.result c.from_residual.ensures.1 in
    rw (p.1, p.2) (class_stops _ _ c.args.trees.now c.args.trees.now _ refl c.in_err-class.ensures.refused)

pub returns-in_err-unsupported : goal.returns-in_err-unsupported
returns-in_err-unsupported c =
    let p = err_from_is_err_and c.from_residual-in_err-unsupported.result c.from_residual-in_err-unsupported.ensures.1 in
    rw (p.1, p.2) (code_stops (record { class_file = true; name = c.args.name.now }) c.args.bytes.now c.args.trees.now c.args.trees.now (length c.items.result.now) c.in_ok-class.class c.args.trees.now.codes c.decode_class.new.codes _ refl c.in_ok-class.ensures.found c.in_err-unsupported.ensures)

pub returns : goal.returns
returns c = class_read _ _ c.args.trees.now c.in_ok-class.class _ _ _ _ _ _ c.in_ok-class.ensures.found c.items.ensures c.in_ok-unsupported.ensures c.in_ok-push.ensures.ok c.take-before.ensures.value c.earlier.ensures
