use Rattle.std.proofs.Common.{ℕ, List, Bool, ap, sym, ◌∙◌, subst, ◌==◌, length}
use Rattle.std.specs.List.{list_any}
use Rattle.std.specs.List.Sorted.{IsNonDecreasing}
use Rattle.cjc_links.specs.Leaving.{IsLeaving}
use Rattle.cjc_check.proofs.linked.by_names.Goals as goal

pub by_methods-requires : goal.by_methods-requires
by_methods-requires c =
    let P : List ℕ → Type 0 = IsNonDecreasing in
    let L : List Bool → Type 0 = IsLeaving c.args.names.now.parts.now.class.now in
    record {
      ready = c.requires.ready;
      small = c.requires.small;
      all_rise = subst P (sym c.items.ensures) c.in_ok-all.ensures.rise;
      all_are = λ o. ap (λ (ns : List ℕ). list_any (λ n. n == o) ns) c.items.ensures ∙ c.in_ok-all.ensures.same o;
      statics_rise = subst P (sym c.items-2.ensures) c.in_ok-statics.ensures.rise;
      statics_are = λ o. ap (λ (ns : List ℕ). list_any (λ n. n == o) ns) c.items-2.ensures ∙ c.in_ok-statics.ensures.same o;
      leaving_is = subst L (sym c.items-3.ensures) c.in_ok-leaving.ensures.each;
      each = ap (λ (bs : List Bool). length bs) c.items-3.ensures ∙ c.in_ok-leaving.ensures.all;
      described = c.in_ok-descriptor.ensures;
    }
