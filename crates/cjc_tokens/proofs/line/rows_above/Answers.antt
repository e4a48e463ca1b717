use Rattle.std.proofs.Common.{◌≡◌, ◌∙◌, Some, ap, sym, map, subst, [], ◌∷◌}
use Rattle.cjc_world.specs.Supertypes.{supertypes, once, upwards}
use Rattle.std.proofs.lemmas.Result.{IfOk-weaker}
use Rattle.cjc_world.specs.Classes.{all_classes, class_named, declared}
use Rattle.cjc_world.specs.Working.Known.{class_of}
use Rattle.cjc_tokens.specs.Lines.{Imported}
use Rattle.cjc_tokens.specs.Working.{AreRowsOf}
use Rattle.cjc_tokens.proofs.Once.{rows-once}
use Rattle.cjc_tokens.proofs.Supers.{super-declared, super-imported}
use Rattle.cjc_tokens.proofs.line.rows_above.Goals as goal

pub returns-in-Some-Declared : goal.returns-in-Some-Declared
returns-in-Some-Declared c =
    let w = all_classes c.args.world.now in
    let named : class_named w c.args.class.now.superclass
    ≡ Some (declared c.in-Some-Declared.number c.in-Some-Declared.field-0-1.now) =
    ap (class_named w) (sym c.items.ensures) ∙ sym c.in-Some-Declared.ensures.named
    ∙ ap (λ k. Some (class_of k)) c.in-Some-Declared.field-0-is in
    IfOk-weaker _ _ _ (λ s h. super-declared c.args.world.now (c.lookup_laws.ensures.are_supertypes w c.acyclic.ensures)
    (c.lookup_laws.ensures.one_supertypes w) c.args.class.now.superclass c.in-Some-Declared.number
    c.in-Some-Declared.field-0-1.now c.args.kept.now h.0 s named c.requires.kept h.1 h.2) c.kept_rows.ensures

pub returns-in_ok-classes-in-Some-Imported : goal.returns-in_ok-classes-in-Some-Imported
returns-in_ok-classes-in-Some-Imported c =
    let w = all_classes c.args.world.now in
    let d = class_of c.in-Some-Imported.field-0 in
    let are_supertypes = c.lookup_laws.ensures.are_supertypes w c.acyclic.ensures in
    let named : class_named w c.args.class.now.superclass ≡ Some (class_of c.in-Some-Imported.field-0) =
    ap (class_named w) (sym c.items.ensures) ∙ sym c.in-Some-Imported.ensures.named in
    let imported_one = ap (λ k. (class_of k).is_imported) c.in-Some-Imported.field-0-is in
    let classes = c.in_ok-classes-in-Some-Imported.ensures
    ∙ ap (λ k. class_of k ∷ once [] (upwards (supertypes w (class_of k).supers)))
    (sym c.in-Some-Imported.field-0-is) in
    IfOk-weaker _ _ _ (λ s h.
    super-imported c.args.world.now are_supertypes (c.lookup_laws.ensures.one_supertypes w) c.args.class.now.superclass
    d s named imported_one
    (rows-once w d d.supers (supertypes w d.supers) s (are_supertypes d.supers) (subst (λ q. AreRowsOf (Imported q) s)
    (ap (map class_of) c.deref.ensures.value ∙ classes) h))) c.rows_of.ensures
