use Rattle.std.proofs.Common.{List, sym, subst, map, option_map}
use Rattle.std.specs.Prelude.{Option}
use Rattle.cjc_bytes.specs.Breaks.{Break}
use Rattle.cjc_check_rules.specs.Consistent.{break_at}
use Rattle.cjc_verify.proofs.FirstPlaces.{first_of_spots}
use Rattle.cjc_verify.proofs.Firsts.{either_first, of_list}
use Rattle.cjc_verify.proofs.InCode.{code_first}
use Rattle.cjc_verify.specs.Headers.{header_spots}
use Rattle.cjc_verify.specs.Working.Bodies.{InCode, InHeader, body_of}
use Rattle.cjc_verify.specs.Working.Firsts.{IsFirstWhere}
use Rattle.cjc_verify.proofs.bodies.body_break.Goals as goal

pub returns : goal.returns
returns c =
    let p = c.args.pair.now in
    let b = body_of c.args.body.now in
    let spots = header_spots p b in
    either_first (InHeader p b) (InCode p b) _ _ _
    (of_list (map (break_at 727) spots) _ (first_of_spots 727 spots _ _ c.in_ok-spot.ensures c.break_if.ensures))
    (subst (λ (o : Option Break). IsFirstWhere (InCode p b) o) (sym c.in_ok-in_code.ensures)
    (code_first p b _ c.args.body.now.rises c.in_ok-broken.ensures))
    c.either.ensures
