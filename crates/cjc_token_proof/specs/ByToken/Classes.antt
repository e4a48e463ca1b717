-- What instructions ask of classes by name, and what they ask by token.
use Rattle.std.specs.Prelude.{◌≡◌, ℕ, List, [], ◌∷◌, Some, Bool, true, false}
use Rattle.cjc_bytes.specs.declared.fault.MemberId.{MemberId}
use Rattle.cjc_script.specs.Sorts.{Shape}
use Rattle.cjc_card_semantics.specs.Bytecode.Renaming.{shape_as, KnownShape}
use Rattle.cjc_card_semantics.specs.Machine.Classes.{is_of, is_interface}
use Rattle.cjc_ncode.specs.ByLabel.{Callee, Named}
use Rattle.cjc_ncode.specs.Lowering.Naming.{Naming}
use Rattle.cjc_ncode.specs.Lowering.Agreement.{KnownNames, Memories, known_by}
use Rattle.cjc_token_proof.specs.ByToken.Cells.{Order, HasCells, are_cells, cell_of, fields, image_of, is_one_of}
use Rattle.cjc_token_proof.specs.ByToken.Cells.{may_access}
use Rattle.cjc_token_proof.specs.ByToken.Objects.{HasObjects, slots_of}

-- The names that code and objects may have: classes, instance fields, static fields with their cells, classes with the
-- fields of their objects, and calls.
pub record Names : Type 0 where
  pub class : List ℕ → Bool
  pub field : MemberId → Bool
  pub object : List ℕ → List MemberId → Bool
  pub call : Callee → Bool
  -- static fields in the order of the report, and in that of their cells
  pub statics : List MemberId
  pub order : Order

-- as tests of what is known
abbrev pub tests : Names → KnownNames
tests names = record {
  class = names.class;
  field = names.field;
  cell = may_access names.order;
  statics = are_cells names.statics;
  object = names.object;
  call = names.call;
}

-- objects by their slots, and static fields by the image of the one package
abbrev pub memories : Naming → Names → Memories
memories n names = record { slots = slots_of n; statics = λ cells. image_of names.order cells ∷ [] }

-- Class infos, their names and the image say of classes and fields what the look-ups of narrow code find by name.
pub record SaysClasses (n : Naming) (l : Named) (names : Names) : Type 0 where
  -- types are of others by what stands above them
  pub kinds : (a b : Shape (List ℕ)) → KnownShape (known_by (tests names)) a → KnownShape (known_by (tests names)) b
      → is_of n.loaded (shape_as n.class a) (shape_as n.class b) ≡ l.is_of a b
  -- objects are made of classes that are no interfaces, with these fields
  pub made : (c : List ℕ) (own : List MemberId) → names.class c ≡ true → l.fields c ≡ Some own
      → (names.object c own ≡ true) × (is_interface n.loaded (n.class c) ≡ false)
  pub objects : (c : List ℕ) (own : List MemberId) → names.object c own ≡ true → HasObjects n names.field c own
  -- each static field has its cell
  pub statics : HasCells names.order names.statics
  pub cell : (f : MemberId) → is_one_of f (fields names.order) ≡ true → n.cell f ≡ cell_of names.order f
