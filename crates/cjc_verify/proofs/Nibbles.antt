-- Nibbles by class_refs that are kept are those of the pair.
use Rattle.std.proofs.Common.{◌≡◌, ℕ, List, ap}
use Rattle.std.specs.Prelude.{Option}
use Rattle.cjc_capread.specs.declared.tree.ClassRef.{ClassRef}
use Rattle.cjc_classes.specs.ClassInfo.Refs.{ref_of}
use Rattle.cjc_classes.specs.declared.class_info.refs.ClassRefs.{ClassRefs}
use Rattle.cjc_verify.specs.Pairs.{Pair, class_ref, nibbles_of}
use Rattle.cjc_verify.specs.WantedMembers.{card_nibbles}

pub card_is_own : (p : Pair) (refs : ClassRefs) (desc : List ℕ) → ((name : List ℕ) → ref_of refs name
    ≡ class_ref p name) → card_nibbles (ref_of refs) desc ≡ nibbles_of p desc
card_is_own p refs desc same =
    let named : ref_of refs ≡ class_ref p = λ i name. same name i in
    ap (λ (ref : List ℕ → ClassRef). card_nibbles ref desc) named
