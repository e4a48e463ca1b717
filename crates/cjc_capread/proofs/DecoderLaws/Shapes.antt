-- The code's table of opcodes is the table of forms.
use Rattle.std.proofs.Common.{◌≡◌, ℕ, ◌<◌, map, get_or, Option, Some, None, refl, sym, ap, ◌∙◌}
use Rattle.std.specs.Prelude.{slice_get, option_and_then, option_map}
use Rattle.std.proofs.lemmas.Option.{slice_get-map, slice_get-get_or}
use Rattle.cjc_capread.specs.Opcodes.{Form, forms, form}
use Rattle.cjc_capread.specs.declared.decoder.shape.TheConstants.{SHAPES}
use Rattle.cjc_capread.specs.declared.decoder.shape.Shape.{Shape}
use Rattle.cjc_capread.specs.Decoder.Shapes.{form_of}

same_tables : map form_of SHAPES ≡ forms
unfolding forms
same_tables = refl

found : (o : Option (Option Form)) (f : Option Form) → Some f ≡ o → f ≡ option_and_then (λ f. f) o
found (Some x) f e = cc
found None f e = absurd cc

pub shape_at : (n : ℕ) (d : Shape) → n < 256 → form_of (get_or SHAPES n d) ≡ form n
unfolding form
shape_at n d lt = found (slice_get forms n) (form_of (get_or SHAPES n d)) (
    ap (option_map form_of) (sym (slice_get-get_or SHAPES n d lt))
    ∙ sym (slice_get-map form_of SHAPES n)
    ∙ ap (λ xs. slice_get xs n) same_tables)
