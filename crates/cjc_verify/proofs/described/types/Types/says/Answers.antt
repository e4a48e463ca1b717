use Rattle.std.proofs.Common.{ℕ, ◌+◌, ◌*◌, ◌==◌, Bool, List, length, sym, ap, ◌∙◌}
use Rattle.std.specs.Prelude.{Option, option_and_then, option_map, position, slice_get}
use Rattle.cjc_capread.specs.declared.tree.TypeDescriptor.{TypeDescriptor}
use Rattle.cjc_check_rules.specs.Complete.{type_size}
use Rattle.cjc_verify.specs.Described.{are_nibbles}
use Rattle.cjc_verify.proofs.DescribedLaws.TypesFound.{by_place}
use Rattle.cjc_verify.proofs.described.types.Types.says.Goals as goal

pub returns : goal.returns
returns c =
    let d = c.args.self.now.descriptor.now in
    let by : Option TypeDescriptor → Bool = λ t. are_nibbles (option_map (λ (t : TypeDescriptor). t.nibbles) t)
    c.args.wanted.now in
    c.says_at.ensures
    ∙ ap (λ (ts : List TypeDescriptor). by (option_and_then (slice_get ts) c.place_of-place.result))
    c.items-types.ensures
    ∙ ap (λ (o : Option ℕ). by (option_and_then (slice_get d.types) o)) (c.place_of-place.ensures
    ∙ ap (λ (ns : List ℕ). position (λ n. n == c.args.offset) ns) c.requires)
    ∙ ap by (sym (by_place type_size (2 + 2 * length d.pool_types) c.args.offset d.types))
