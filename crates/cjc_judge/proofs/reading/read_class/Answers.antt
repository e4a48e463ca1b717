use Rattle.std.proofs.Common.{refl, true, length}
use Rattle.std.proofs.lemmas.Result.{err_from_is_err_and}
use Rattle.cjc_judge.proofs.Files.{class_stops, code_stops, class_fits, class_read}
use Rattle.cjc_judge.proofs.reading.read_class.Goals as goal

pub decode_class-requires : goal.decode_class-requires
decode_class-requires c = class_fits c.args.bytes.now c.in_ok-class.class c.type_inv.bytes c.in_ok-class.ensures.found

pub returns-in_err-class : goal.returns-in_err-class
returns-in_err-class c =
    let p = err_from_is_err_and c.from_residual.result c.from_residual.ensures.1 in
    rw (p.1, p.2) (class_stops _ _ c.args.trees.now c.args.trees.now _ refl c.in_err-class.ensures.refused)

pub returns-in_err-decode_class : goal.returns-in_err-decode_class
returns-in_err-decode_class c =
    let p = err_from_is_err_and c.from_residual-in_err-decode_class.result c.from_residual-in_err-decode_class.ensures.1
    in
    rw (p.1, p.2) (code_stops (record { class_file = true; name = c.args.name.now }) c.args.bytes.now c.args.trees.now
    c.args.trees.now (length c.items.result.now) c.in_ok-class.class c.args.trees.now.codes c.decode_class.new.codes
    c.args.trees.now.unsupported_insns c.decode_class.new.unsupported_insns _ refl c.in_ok-class.ensures.found
    c.in_err-decode_class.ensures)

pub returns : goal.returns
returns c =
    let fits = class_fits c.args.bytes.now c.in_ok-class.class c.type_inv.bytes c.in_ok-class.ensures.found in
    class_read c.args.name.now _ c.args.trees.now c.in_ok-class.class _ _ _ _ c.in_ok-class.ensures.found fits
    c.items.ensures c.in_ok-decode_class.ensures c.in_ok-push.ensures.ok
