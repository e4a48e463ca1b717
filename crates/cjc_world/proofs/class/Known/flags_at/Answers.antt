use Rattle.std.proofs.Common.{◌<◌, ◌≤◌, [], sym, ap, subst, ◌∙◌}
use Rattle.std.proofs.lemmas.Option.{slice_get-get_or}
use Rattle.cjc_world.specs.Classes.{Member}
use Rattle.cjc_world.specs.Rules.{members}
use Rattle.cjc_world.specs.Working.Known.{class_of}
use Rattle.cjc_world.specs.Working.Members.{flags_of}
use Rattle.cjc_world.proofs.Indexing.{got_none}
use Rattle.cjc_world.proofs.class.Known.flags_at.Goals as goal

nobody : Member
nobody = record { flags = 0; name = []; desc = []; token = 0 }

pub returns-then-place-member_count : goal.returns-then-place-member_count
returns-then-place-member_count c =
    let ms = members c.args.field (class_of c.args.self) in
    c.member_flags.ensures nobody ∙ ap flags_of (sym (slice_get-get_or ms c.args.place nobody
    (subst (λ n. c.args.place < n) c.member_count.ensures c.if-place-member_count.true)))

pub returns-else-place-member_count : goal.returns-else-place-member_count
returns-else-place-member_count c =
    let ms = members c.args.field (class_of c.args.self) in
    ap flags_of (got_none ms c.args.place (subst (λ n. n ≤ c.args.place) c.member_count.ensures
    c.if-place-member_count.false))
