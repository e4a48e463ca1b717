-- The code's table of opcodes is the table of forms.
use Rattle.std.proofs.Common.{◌≡◌, ℕ, ◌<◌, map, get_or, Option, Some, None, refl, sym, ap, ◌∙◌}
use Rattle.std.specs.Prelude.{slice_get, option_map, option_and_then}
use Rattle.std.proofs.lemmas.Option.{slice_get-map, slice_get-get_or}
use Rattle.cjc_capread.specs.declared.opcode.TheConstants.{SHAPES}
use Rattle.cjc_capread.specs.declared.opcode.OpInfo.{OpInfo}
use Rattle.cjc_capread.specs.declared.opcode.Shape.{Shape}
use Rattle.cjc_capread.specs.Opcodes.{Form, forms, form, info, op_info}
use Rattle.cjc_capread.specs.Working.Shapes.{shape_info}

same_tables : map shape_info SHAPES ≡ map (option_map info) forms
unfolding forms
same_tables = refl

found : (o : Option (Option Form)) (a : Option OpInfo) → Some a ≡ option_map (option_map info) o
    → a ≡ option_map info (option_and_then (λ f. f) o)
found (Some x) a e = cc
found None a e = absurd cc

pub shape_at : (n : ℕ) (d : Shape) → n < 256 → shape_info (get_or SHAPES n d) ≡ op_info n
unfolding form op_info
shape_at n d lt = found (slice_get forms n) (shape_info (get_or SHAPES n d)) (
    ap (option_map shape_info) (sym (slice_get-get_or SHAPES n d lt))
    ∙ sym (slice_get-map shape_info SHAPES n)
    ∙ ap (λ xs. slice_get xs n) same_tables
    ∙ slice_get-map (option_map info) forms n)
