-- The table of what is found among the methods is the package's.
use Rattle.std.proofs.Common.{◌≡◌, ℕ, sym, ap, ◌∙◌, List}
use Rattle.std.specs.Prelude.{map}
use Rattle.cjc_exported.specs.Components.Methods.{extent_from, first_method, placed_from, placed_methods}
use Rattle.cjc_exported.specs.Components.Package.{LaidMethod, Package}
use Rattle.cjc_classes.specs.Descriptor.Made.{extent_by, extents_of}
use Rattle.cjc_classes.specs.declared.descriptor.parts.Extent.{Extent}
use Rattle.cjc_exported.specs.World.declared.found.Found.{Found}
use Rattle.cjc_methods.specs.declared.layouts.laid.Methods.{Methods}
use Rattle.cjc_methods.specs.Layouts.Laid.{AreLaid, laid_methods}
use Rattle.cjc_captree.specs.Working.Tables.{extents_by, found_in, table_of}
use Rattle.cjc_captree.proofs.ExtentsLaws.Finding.{found_is}

pub joined : (p : Package) (m : Methods) (offsets : List ℕ) → AreLaid m → p.methods ≡ laid_methods m
    → offsets ≡ map (λ q. q.offset) (placed_methods p)
    → table_of p.files (found_in m.laid (extents_by 0 offsets m.laid)) ≡ extents_of p
joined p m offsets laid is at =
    ap (λ (xs : List ℕ). table_of p.files (found_in m.laid (extents_by 0 xs m.laid))) (at
    ∙ ap (λ (ms : List LaidMethod). map (λ q. q.offset) (placed_from (first_method ms) ms)) is)
    ∙ ap (λ (g : Found → Extent). table_of p.files g) (λ i f. found_is (first_method (laid_methods m)) 0 m.codes m.laid
    laid.count laid.each f i)
    ∙ ap (λ (ms : List LaidMethod). table_of p.files (λ f. extent_by (extent_from (first_method ms) 0 ms f))) (sym is)
