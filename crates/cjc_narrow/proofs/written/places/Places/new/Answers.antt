use Rattle.std.proofs.Common.{ap, ◌∙◌, length}
use Rattle.cjc_narrow.specs.Written.Labels.{place_of}
use Rattle.cjc_narrow.proofs.WrittenLaws.Order.{places_found, starts_long}
use Rattle.cjc_narrow.proofs.written.places.Places.new.Goals as goal

pub returns : goal.returns
returns c r are =
    ap (λ row. place_of (record { insns = c.args.insns.now; starts = row })) c.in_ok-starts.ensures
    ∙ places_found r c.args.insns.now c.args.reaches.now c.args.roles.now c.requires.ascending c.requires.each
    c.requires.roles are

pub invariant_of-result : goal.invariant_of-result
invariant_of-result c = (
  ap length c.in_ok-starts.ensures ∙ starts_long 0 c.args.insns.now c.args.reaches.now c.args.roles.now
      c.requires.each c.requires.roles,
  c.requires.ascending,
)
