-- Classes are kept one by one under their names.
use Rattle.std.proofs.Common.{◌≡◌, ℕ, List, [], ◌∷◌, ◌++◌, refl, sym, ap, ◌∙◌, Bool, true, false, Option, Some, None}
use Rattle.std.specs.Prelude.{if◌then◌else◌}
use Rattle.std.specs.Str.{bytes_eq}
use Rattle.cjc_card_semantics.specs.ExportFile.declared.tree.ExportClass.{ExportClass}
use Rattle.cjc_card_semantics.specs.ExportFile.declared.tree.ExportTree.{ExportTree}
use Rattle.cjc_card_semantics.specs.ExportFile.Supers.{class_named, classes_of}
use Rattle.cjc_card_semantics.specs.Machine.Classes.{or_else}
use Rattle.cjc_card_link.proofs.OrElse.{or_assoc}

by_test : (b : Bool) (c : ExportClass) (rest : Option ExportClass) → (if b then Some c else rest) ≡ or_else (if b
    then Some c else None) rest
by_test true c rest = refl
by_test false c rest = refl

pub one_class : (x : List ℕ) (c : ExportClass) (cs : List ExportClass) → class_named (c ∷ cs) x
    ≡ or_else (if bytes_eq c.name x then Some c else None) (class_named cs x)
one_class x c cs = by_test (bytes_eq c.name x) c (class_named cs x)

class_named-append : (x : List ℕ) (cs ds : List ExportClass) → class_named (cs ++ ds) x ≡ or_else (class_named cs x)
    (class_named ds x)
class_named-append x [] ds = refl
class_named-append x (c ∷ cs) ds =
    one_class x c (cs ++ ds)
    ∙ ap (λ (o : Option ExportClass). or_else (if bytes_eq c.name x then Some c else None) o) (class_named-append x cs
    ds)
    ∙ sym (or_assoc (if bytes_eq c.name x then Some c else None) (class_named cs x) (class_named ds x))
    ∙ ap (λ (o : Option ExportClass). or_else o (class_named ds x)) (sym (one_class x c cs))

pub one_file : (x : List ℕ) (t : ExportTree) (ts : List ExportTree) → class_named (classes_of (t ∷ ts)) x
    ≡ or_else (class_named t.classes x) (class_named (classes_of ts) x)
one_file x t ts = class_named-append x t.classes (classes_of ts)
