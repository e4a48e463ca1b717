-- The methods of a package, each with its layout, as they are kept, and as components have them.
use Rattle.std.specs.Prelude.{◌≡◌, ℕ, ◌≤◌, List, [], ◌∷◌, length, map, slice_get, Some}
use Rattle.cjc_world.specs.declared.found.Found.{Found}
use Rattle.cjc_world.specs.Files.{Files}
use Rattle.cjc_pool.specs.NCode.declared.narrow.NMethod.{NMethod}
use Rattle.cjc_pool.specs.Layout.Layouts.{IsLayout}
use Rattle.cjc_components.specs.Package.{LaidMethod}
use Rattle.cjc_components.specs.Written.{is_abstract_at}
use Rattle.cjc_methods.specs.declared.layouts.laid.Laid.{Laid}
use Rattle.cjc_methods.specs.declared.layouts.laid.Methods.{Methods}

-- ---- as components have them

-- a method by its code and its layout
abbrev pub laid_method : NMethod → Laid → LaidMethod
laid_method code l = let layout = l.layout in record {
  member = l.member;
  is_abstract = l.is_abstract;
  code = code;
  wide = layout.wide;
}

-- codes with the layouts of the same places
abbrev pub with_layouts : List NMethod → List Laid → List LaidMethod
with_layouts [] laid = []
with_layouts (c ∷ codes) [] = []
with_layouts (c ∷ codes) (l ∷ laid) = laid_method c l ∷ with_layouts codes laid

-- The methods of a package.
abbrev pub laid_methods : Methods → List LaidMethod
laid_methods m = with_layouts m.codes m.laid

-- ---- what is known of them

-- Each code has its layout, and is short enough for one.
pub record AreLaid (m : Methods) : Type 0 where
  pub count : length m.laid ≡ length m.codes
  pub each : (k : ℕ) (code : NMethod) (l : Laid) → slice_get m.codes k ≡ Some code → slice_get m.laid k ≡ Some l
      → IsLayout code l.layout
  pub short : (k : ℕ) (code : NMethod) → slice_get m.codes k ≡ Some code → code.widest ≤ 32767

-- They are these members of the classes of files, with these codes.
pub record AreOf (files : Files) (members : List Found) (codes : List NMethod) (m : Methods) : Type 0 where
  pub by_codes : m.codes ≡ codes
  pub by_members : map (λ l. l.member) m.laid ≡ members
  pub by_kinds : map (λ l. l.is_abstract) m.laid ≡ map (is_abstract_at files) members
  pub laid : AreLaid m
