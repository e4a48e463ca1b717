use Rattle.std.proofs.Common.{◌≡◌, ◌∙◌, List, ap, map, subst, sym, IfOk}
use Rattle.std.specs.Prelude.{option_map}
use Rattle.cjc_bytes.specs.Told.{break_of}
use Rattle.cjc_methods.specs.LowerCheck.Codes.Bodies.{code_of}
use Rattle.cjc_pairing.specs.CheckIndex.Lookup.Parts.{complete_of}
use Rattle.cjc_check_rules.specs.Codes.{Code, all_codes}
use Rattle.cjc_verify.proofs.Codes.{all_rise}
use Rattle.cjc_verify.specs.Bodies.{Body, bodies, bodies_of, listed}
use Rattle.cjc_verify.specs.Working.Bodies.{InBodies, body_of}
use Rattle.cjc_verify.specs.Working.Codes.{AllAscend}
use Rattle.cjc_verify.specs.Working.Firsts.{IsFirstWhere}
use Rattle.cjc_verify.specs.declared.listed.Listed.{Listed}
use Rattle.cjc_verify.specs.declared.method_body.MethodBody.{MethodBody}
use Rattle.cjc_verify.proofs.checker.by_names.Goals as goal

pub bodies-requires-clause-rise : goal.bodies-requires-clause-rise
bodies-requires-clause-rise c =
    let k = complete_of c.args.names.now.parts.now in
    subst AllAscend (sym (c.codes_of.ensures.is ∙ ap all_codes c.in_ok-cutting.ensures.is)) (all_rise k)

pub returns : goal.returns
returns c =
    let p = c.args.pair.now in
    let k = complete_of c.args.names.now.parts.now in
    let codes = map code_of c.codes_of.result.now in
    let are : map body_of c.items-2.result.now ≡ bodies p.components =
    ap (λ (bs : List MethodBody). map body_of bs) c.items-2.ensures
    ∙ c.in_ok-bodies.ensures
    ∙ ap (λ (ls : List Listed). bodies_of k ls codes) (c.items.ensures ∙ c.in_ok-listed.ensures)
    ∙ ap (bodies_of k (listed k)) (c.codes_of.ensures.is ∙ ap all_codes c.in_ok-cutting.ensures.is)
    ∙ ap bodies c.requires.same in
    subst (λ (bs : List Body). IfOk c.bodies_break.result (λ b. IsFirstWhere (InBodies p bs) (option_map break_of b)))
    are c.bodies_break.ensures
