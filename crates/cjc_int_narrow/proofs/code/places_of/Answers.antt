use Rattle.std.proofs.Common.{List, ℕ, length, ap, ◌∙◌}
use Rattle.cjc_ncode.specs.IntCode.IntCode.{prologue}
use Rattle.cjc_narrow.specs.Written.Labels.{Labels, place_of}
use Rattle.cjc_narrow.specs.Select.Working.Names.{resolution_of}
use Rattle.cjc_int_narrow.proofs.Walks.{places_found, starts_long}
use Rattle.cjc_int_narrow.proofs.code.places_of.Goals as goal

pub of-requires : goal.of-requires
of-requires c =
    let f = c.args.frame.now in
    let r = resolution_of c.args.names.now in
    record {
      each = ap length c.in_ok-code.ensures.starts ∙ starts_long f r (length (prologue f)) c.args.insns.now
          c.args.befores.now c.requires.each;
      ascending = c.requires.ascending;
    }

pub returns : goal.returns
returns c =
    let insns = c.args.insns.now in
    let labels : List ℕ → Labels = λ row. record { insns = insns; starts = row } in
    ap place_of (c.of.ensures ∙ ap labels c.in_ok-code.ensures.starts)
    ∙ places_found c.args.frame.now (resolution_of c.args.names.now) insns c.args.befores.now c.requires.ascending
    c.requires.each
