use Rattle.std.proofs.Common.{◌≤◌, length, arith}
use Rattle.cjc_first.specs.FirstForm.{line_of, ops_of}
use Rattle.cjc_convert.specs.Conversion.{parts_of}
use Rattle.cjc_first.proofs.Limits.{small_form, keeps_limits, is_writable, methods_short}
use Rattle.cjc_convert.proofs.Converting.{made_from}
use Rattle.cjc_convert.proofs.conversion.made_for.Goals as goal

pub caps_of-requires : goal.caps_of-requires
caps_of-requires c =
    let k = c.in_ok-cap.ensures in
    let aid : length c.args.list.now.aid ≤ 255 = omega arith in
    let p = parts_of c.args.form.now in
    let s = small_form (line_of c.args.list.now) p.lang p.root p.tree k.form aid c.requires.import in
    rw k.is (record {
      writable = is_writable (line_of c.args.list.now) p.lang p.root k.form.params k.form.code (ops_of k.form.insns) s;
      limits = keeps_limits (line_of c.args.list.now) p.lang p.root k.form.params k.form.code (ops_of k.form.insns) s;
      methods = methods_short (line_of c.args.list.now) p.lang p.root k.form.params k.form.code (ops_of k.form.insns) s;
    })

pub returns-clause-made : goal.returns-clause-made
returns-clause-made c = made_from _ (parts_of c.args.form.now) _ _ _ c.in_ok-cap.ensures c.in_ok-caps.ensures.made c.in_ok-export.ensures
