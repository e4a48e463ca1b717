use Rattle.std.proofs.Common.{ℕ, ◌+◌, ◌*◌, List, ap, sym, ◌∙◌, subst, ◌==◌, length}
use Rattle.std.specs.List.{list_any}
use Rattle.std.specs.List.Sorted.{IsNonDecreasing}
use Rattle.cjc_check_rules.specs.Complete.{type_size}
use Rattle.cjc_check_rules.specs.Described.{types_at}
use Rattle.cjc_check_rules.proofs.Starts.{among_placed, starts_rise}
use Rattle.cjc_check_tables.proofs.links.described.Types.is_type.Goals as goal

pub is_among-requires : goal.is_among-requires
is_among-requires c =
    let P : List ℕ → Type 0 = IsNonDecreasing in
    let d = c.args.self.now.descriptor.now in
    subst P (sym c.requires) (starts_rise type_size (2 + 2 * length d.pool_types) d.types)

pub returns : goal.returns
returns c = c.is_among.ensures ∙ ap (λ (ns : List ℕ). list_any (λ n. n == c.args.offset) ns) c.requires
    ∙ among_placed (types_at c.args.self.now.descriptor.now) c.args.offset
