use Rattle.std.proofs.Common.{◌≡◌, ◌<◌, ◌-◌, ◌∷◌, ◌∙◌, ap, sym, subst, drop, take, length}
use Rattle.std.specs.Prelude.{Some}
use Rattle.std.proofs.lemmas.List.{take_rest}
use Rattle.std.proofs.lemmas.Result.{on_ok_weaker}
use Rattle.cjc_world.specs.Classes.{all_classes, class_named}
use Rattle.cjc_world.specs.Supertypes.{supertypes}
use Rattle.cjc_world.specs.Working.Known.{class_of}
use Rattle.cjc_jvm_link.specs.Fresh.{fresh_in, Has, HasClass, HasEach}
use Rattle.cjc_jvm_link.proofs.Heights.{supertypes_size, size_rest, size_supers}
use Rattle.cjc_jvm_link.proofs.Keeping.{first_of_all, has_some, both_ok, keeps_each}
use Rattle.cjc_jvm_link.proofs.fresh.Fresh.+put_classes.Goals as goal

pub put_classes-requires : goal.put_classes-requires
put_classes-requires t c =
    let w = all_classes c.args.world.now in
    let names = c.args.names.now in
    let name = c.name-item.result in
    let are : names ≡ name ∷ drop 1 names = first_of_all names name c.in-len1-up.len_at_least c.name-item.is in
    let less : supertypes_size (supertypes w (drop 1 names)) < supertypes_size (supertypes w names) =
    subst (λ ns. supertypes_size (supertypes w (drop 1 names)) < supertypes_size (supertypes w ns)) (sym are)
    (size_rest w c.acyclic.ensures name (drop 1 names)) in
    let here : supertypes_size (supertypes w (take (length names - 1) (drop 1 names))) < supertypes_size
    (supertypes w names) = subst (λ ns. supertypes_size (supertypes w ns) < supertypes_size (supertypes w names))
    (sym (take_rest names 1)) less in (
      subst (λ m. supertypes_size (supertypes w (take (length names - 1) (drop 1 names))) < m) c.decreases here,
      c.requires.fresh,
    )

pub returns-then-is_some-clause-has : goal.returns-then-is_some-clause-has
returns-then-is_some-clause-has t c =
    let w = all_classes c.args.world.now in
    let names = c.args.names.now in
    let name = c.name-item.result in
    let after = c.put_classes.new.self in
    let are : names ≡ name ∷ drop 1 names = first_of_all names name c.in-len1-up.len_at_least c.name-item.is in
    let rest : HasEach w after (drop 1 names) = subst (HasEach w after) (take_rest names 1)
    c.in_ok-put_classes-in-len1-up.ensures.has in
    let kept : Has after name = has_some _ after name c.get.result (sym c.is_some.ensures ∙ c.if-is_some.true)
    (c.get.ensures ∙ ap (fresh_in after) c.items.ensures) in
    subst (HasEach w after) (sym are) (λ d e. kept, rest)

pub put_classes-requires-in-len1-up : goal.put_classes-requires-in-len1-up
put_classes-requires-in-len1-up t c =
    let w = all_classes c.args.world.now in
    let names = c.args.names.now in
    let name = c.name-item.result in
    let class = class_of c.in-Some.class in
    let are : names ≡ name ∷ drop 1 names = first_of_all names name c.in-len1-up.len_at_least c.name-item.is in
    let named : class_named w name ≡ Some class = ap (class_named w) (sym c.items-in-len1-up.ensures)
    ∙ sym c.in-Some.ensures.named in
    let less : supertypes_size (supertypes w class.supers) < supertypes_size (supertypes w names) =
    subst (λ ns. supertypes_size (supertypes w class.supers) < supertypes_size (supertypes w ns)) (sym are)
    (size_supers w c.acyclic.ensures name (drop 1 names) class named) in
    let here : supertypes_size (supertypes w c.supers.result.now) < supertypes_size (supertypes w names) =
    subst (λ ns. supertypes_size (supertypes w ns) < supertypes_size (supertypes w names)) (sym c.supers.ensures)
    less in (
      subst (λ m. supertypes_size (supertypes w c.supers.result.now) < m) c.decreases here,
      c.in_ok-put_classes-in-len1-up.ensures.fresh,
    )

pub returns-in_ok-put_classes-in-len1-up-2-clause-keeps : goal.returns-in_ok-put_classes-in-len1-up-2-clause-keeps
returns-in_ok-put_classes-in-len1-up-2-clause-keeps t c =
    on_ok_weaker c.put_class.result (λ keeps. λ x h. keeps x (c.in_ok-put_classes-in-len1-up-2.ensures.keeps x
    (c.in_ok-put_classes-in-len1-up.ensures.keeps x h))) c.put_class.ensures.keeps

pub returns-in_ok-put_classes-in-len1-up-2-clause-has : goal.returns-in_ok-put_classes-in-len1-up-2-clause-has
returns-in_ok-put_classes-in-len1-up-2-clause-has t c =
    let w = all_classes c.args.world.now in
    let names = c.args.names.now in
    let name = c.name-item.result in
    let before = c.put_classes.new.self in
    let after = c.put_class.new.self in
    let are : names ≡ name ∷ drop 1 names = first_of_all names name c.in-len1-up.len_at_least c.name-item.is in
    let rest : HasEach w before (drop 1 names) = subst (HasEach w before) (take_rest names 1)
    c.in_ok-put_classes-in-len1-up.ensures.has in
    on_ok_weaker c.put_class.result (λ done. let here : HasClass w after name = subst (HasClass w after)
    c.items-in-len1-up-2.ensures done.1 in
    let others : HasEach w after (drop 1 names) = keeps_each w before after (drop 1 names)
    (λ x h. done.0 x (c.in_ok-put_classes-in-len1-up-2.ensures.keeps x h)) rest in
    subst (HasEach w after) (sym are) (here, others)) (both_ok _ _ c.put_class.result c.put_class.ensures.keeps
    c.put_class.ensures.has)
