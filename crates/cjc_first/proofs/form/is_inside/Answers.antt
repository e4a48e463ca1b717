use Rattle.std.proofs.Common.{◌≡◌, rules}
use Rattle.cjc_first.proofs.Forms.{inside_to, inside_front, inside_back}
use Rattle.cjc_first.proofs.form.is_inside.Goals as goal

pub returns-then-eq : goal.returns-then-eq
returns-then-eq c =
    let same : c.split_at.result.0.now ≡ c.args.owner.now = search rules in (
      λ yes. inside_to _ _ _ _ c.split_at.ensures.front c.split_at.ensures.back same (c.is_slash_part.ensures.0 yes),
      λ h. c.is_slash_part.ensures.1 (inside_back _ _ _ c.split_at.ensures.back h),
    )

pub returns-else-eq : goal.returns-else-eq
returns-else-eq c =
    let differs : (c.split_at.result.0.now ≡ c.args.owner.now → ⊥) = search rules in
    (λ yes. let f = c.if-eq.false in absurd cc, λ h. absurd (differs (inside_front _ _ _ c.split_at.ensures.front h)))
