use Rattle.std.proofs.Common.{ℕ, List, ap, sym, ◌∙◌, subst, ◌==◌}
use Rattle.std.specs.List.{list_any}
use Rattle.std.specs.List.Sorted.{IsNonDecreasing}
use Rattle.cjc_check_rules.specs.Classes.{classes_at, first_class}
use Rattle.cjc_check_rules.specs.Complete.{class_size}
use Rattle.cjc_check_rules.proofs.Starts.{among_placed, starts_rise}
use Rattle.cjc_check_index.proofs.lookup.names.Names.is_own_class.Goals as goal

pub is_among-requires : goal.is_among-requires
is_among-requires c = let P : List ℕ → Type 0 = IsNonDecreasing
    in subst P (sym c.requires.classes) (starts_rise class_size (first_class c.args.self.now.parts.now.class.now)
    c.args.self.now.parts.now.class.now.classes)

pub returns : goal.returns
returns c = c.is_among.ensures ∙ ap (λ (ns : List ℕ). list_any (λ n. n == c.args.offset) ns) c.requires.classes
    ∙ among_placed (classes_at c.args.self.now.parts.now.class.now) c.args.offset
