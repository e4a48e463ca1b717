use Rattle.std.proofs.Common.{◌≡◌, ◌∙◌, sym, ap, arith, false}
use Rattle.cjc_world.specs.Classes.{Member}
use Rattle.cjc_tokens.specs.Members.{is_virtual_by}
use Rattle.cjc_tokens.specs.Working.{overlay, signs}
use Rattle.cjc_tokens.proofs.Overlays.{one-none, overlay-nil}
use Rattle.cjc_tokens.proofs.listed.put_one.Goals as goal

pub returns-then-not-is_virtual : goal.returns-then-not-is_virtual
returns-then-not-is_virtual c = λ m is.
    let f = c.member_flags-flags.ensures m ∙ ap (λ (q : Member). q.flags) (sym is) in
    let n = c.member_at.ensures.name m ∙ ap (λ (q : Member). q.name) (sym is) in
    let v : is_virtual_by c.member_flags-flags.result c.member_at.result.0.now ≡ false = grind arith in
    sym (ap (overlay (signs c.args.row.now.items)) (sym (one-none m c.member_flags-flags.result c.member_at.result.0.now
    f n v)) ∙ overlay-nil (signs c.args.row.now.items))
