use Rattle.std.proofs.Common.{ℕ, List, ap, sym, ◌∙◌, subst, ◌==◌}
use Rattle.std.specs.List.{list_any}
use Rattle.std.specs.List.Sorted.{IsNonDecreasing}
use Rattle.cjc_check_rules.specs.Classes.{interfaces_at, first_interface}
use Rattle.cjc_check_rules.specs.Complete.{interface_size}
use Rattle.cjc_check_rules.proofs.Starts.{among_placed, starts_rise}
use Rattle.cjc_check_index.proofs.lookup.names.Names.is_own_interface.Goals as goal

pub is_among-requires : goal.is_among-requires
is_among-requires c = let P : List ℕ → Type 0 = IsNonDecreasing in subst P (sym c.requires.interfaces)
    (starts_rise interface_size first_interface c.args.self.now.parts.now.class.now.interfaces)

pub returns : goal.returns
returns c = c.is_among.ensures ∙ ap (λ (ns : List ℕ). list_any (λ n. n == c.args.offset) ns) c.requires.interfaces
    ∙ among_placed (interfaces_at c.args.self.now.parts.now.class.now) c.args.offset
