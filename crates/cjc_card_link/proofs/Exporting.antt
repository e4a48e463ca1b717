-- What a package of the group exports under a class token.
use Rattle.std.proofs.Common.{◌≡◌, ℕ, List, ap, ◌∙◌, Bool, Option, Some, None}
use Rattle.std.specs.Prelude.{option_and_then, option_map, slice_get}
use Rattle.cjc_card_semantics.specs.CapRead.declared.tree.ExportedClass.{ExportedClass}
use Rattle.cjc_card_semantics.specs.Machine.Loaded.{Part}
use Rattle.cjc_card_semantics.specs.Machine.Operations.{Callee, Fixed}
use Rattle.cjc_card_semantics.specs.Machine.Statics.{StaticCell}

-- what is made of the class that a package exports under a token
abbrev pub exported_by : {A : Type 0} → (ExportedClass → Option A) → (class : ℕ) → Part → Option A
exported_by made class part = option_and_then made (slice_get part.exports class)

pub is_listed : {A : Type 0} (made : ExportedClass → Option A) (parts : List Part) (q class : ℕ) (part : Part)
    (e : ExportedClass) (r : Option A) → r ≡ made e → Some e ≡ slice_get part.exports class
    → Some part ≡ slice_get parts q → r ≡ option_and_then (exported_by made class) (slice_get parts q)
is_listed made parts q class part e r is listed here =
    is ∙ ap (option_and_then made) listed ∙ ap (option_and_then (exported_by made class)) here

pub is_none : {A : Type 0} (made : ExportedClass → Option A) (parts : List Part) (q class : ℕ) (part : Part)
    → None ≡ slice_get part.exports class → Some part ≡ slice_get parts q
    → None ≡ option_and_then (exported_by made class) (slice_get parts q)
is_none made parts q class part listed here =
    ap (option_and_then made) listed ∙ ap (option_and_then (exported_by made class)) here

-- the cell of a static field's token
abbrev pub cells_by : (part token : ℕ) → ExportedClass → Option StaticCell
cells_by q token e = option_map (λ offset. record { part = q; offset = offset }) (slice_get e.fields token)

-- the static method of a token
abbrev pub methods_by : (on_object : Bool) (part token : ℕ) → ExportedClass → Option Callee
methods_by on q token e = option_map (Fixed on q) (slice_get e.methods token)
