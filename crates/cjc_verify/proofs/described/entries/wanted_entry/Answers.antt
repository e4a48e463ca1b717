use Rattle.std.proofs.Common.{◌≡◌, ◌∙◌, ℕ, List, sym, subst}
use Rattle.cjc_classes.specs.ClassInfo.Refs.{ref_of}
use Rattle.cjc_verify.specs.Pairs.{Pair, class_ref}
use Rattle.cjc_verify.proofs.DescribedLaws.Entries.{class_entry, member_entry}
use Rattle.cjc_verify.proofs.described.entries.wanted_entry.Goals as goal

pub returns-then-is_class : goal.returns-then-is_class
returns-then-is_class c = class_entry c.args.pair.now c.args.entry (sym c.is_class.ensures ∙ c.if-is_class.true)

pub returns : goal.returns
returns c =
    let i = c.pair.inside in
    member_entry c.args.pair.now c.args.entry (ref_of i.refs.now) _ c.in_ok-nibbles.nibbles
    (subst (λ (p : Pair). (name : List ℕ) → ref_of i.refs.now name ≡ class_ref p name) c.pair.view_is
    c.pair.invariant.refs_kept) (sym c.is_class.ensures ∙ c.if-is_class.false) c.named_desc-desc.ensures
    c.in_ok-nibbles.ensures
