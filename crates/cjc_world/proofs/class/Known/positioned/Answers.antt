use Rattle.std.proofs.Common.{◌≡◌, sym, subst}
use Rattle.std.specs.Prelude.{◌==◌, MatchOption, None, Some, slice_get}
use Rattle.std.specs.List.{find}
use Rattle.cjc_classfile.specs.declared.tree.MethodTree.{MethodTree}
use Rattle.cjc_export.specs.declared.tree.ExportMethod.{ExportMethod}
use Rattle.cjc_world.specs.Working.Asked.{IsNamed, positioned}
use Rattle.cjc_world.specs.Working.Known.{class_of}
use Rattle.cjc_world.proofs.Positions.{declared_at, imported_at}
use Rattle.cjc_world.proofs.class.Known.positioned.Goals as goal

pub returns-in-Declared : goal.returns-in-Declared
returns-in-Declared c =
    subst (λ k. MatchOption c.class_method_at.result (positioned (class_of k) c.args.position ≡ None)
    (λ p. IsNamed (positioned (class_of k) c.args.position) p.0.now p.1.now)) (sym c.in-Declared.is)
    (declared_at (λ p. p.0.now) (λ p. p.1.now) c.in-Declared.field-0 c.in-Declared.class.now c.args.position
    c.class_method_at.result
    (subst (λ ms. MatchOption c.class_method_at.result (slice_get ms c.args.position ≡ None) (λ p. (m : MethodTree)
    × (slice_get ms c.args.position ≡ Some m) × (m.name ≡ p.0.now) × (m.desc ≡ p.1.now))) c.items.ensures
    c.class_method_at.ensures))

pub returns-in-Imported : goal.returns-in-Imported
returns-in-Imported c =
    subst (λ k. MatchOption c.export_method_at.result (positioned (class_of k) c.args.position ≡ None)
    (λ p. IsNamed (positioned (class_of k) c.args.position) p.0.now p.1.now)) (sym c.in-Imported.is)
    (imported_at (λ p. p.0.now) (λ p. p.1.now) c.in-Imported.field-0 c.in-Imported.class.now c.args.position
    c.export_method_at.result
    (subst (λ ms. MatchOption c.export_method_at.result (find (λ m. m.token == c.args.position) ms ≡ None)
    (λ p. (m : ExportMethod) × (find (λ m. m.token == c.args.position) ms ≡ Some m) × (m.name ≡ p.0.now)
    × (m.desc ≡ p.1.now))) c.items-in-Imported.ensures c.export_method_at.ensures))
