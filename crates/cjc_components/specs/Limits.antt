-- The limits of what is written for a package, and where each is broken.
use Rattle.std.specs.Prelude.{ℕ, ◌+◌, ◌*◌, List, [], ◌∷◌, ◌++◌, flat_map, length, sum_by, nat_lt, Bool, ◌&&◌}
use Rattle.std.specs.Prelude.{◌||◌, if◌then◌else◌, Option, Some, None}
use Rattle.cjc_list.specs.Bytes.Breaks.{Break, RulePlace, at, broken_at, list_spot, class_spot, member_spot}
use Rattle.cjc_list.specs.Bytes.Order.{file_of}
use Rattle.cjc_list.specs.Bytes.Refused.{method_text}
use Rattle.cjc_capwrite.specs.Files.{ends_too_far, is_too_large, infos_of}
use Rattle.cjc_check_rules.specs.ExportFile.Written.{constants}
use Rattle.cjc_clinit.specs.World.declared.found.Found.{Found}
use Rattle.cjc_clinit.specs.World.Classes.{Member, Class, class_at}
use Rattle.cjc_emit.specs.LowerLayout.Refusals.{overtaking, least}
use Rattle.cjc_narrow.specs.Rows.Resolved.{argument_words}
use Rattle.cjc_components.specs.Package.{LaidMethod, Package, world, pool}
use Rattle.cjc_components.specs.Methods.{handler_count}
use Rattle.cjc_components.specs.Descriptor.{method_in}
use Rattle.cjc_components.specs.Components.{components_of}
use Rattle.cjc_components.specs.ExportFile.{export_of}

-- ---- places

-- a method at an offset of its code in the class file; one that is added to a class has no place of its own, and stands
-- at the class
abbrev pub method_spot : Package → Class → Found → Member → (offset : ℕ) → RulePlace
method_spot p c f m offset = let files = p.files in
    if nat_lt f.member (length c.fields + length c.methods)
    then member_spot (file_of files.lines c.number) 1 c.name (f.member + 1) (method_text m.name m.desc) offset
    else class_spot (file_of files.lines c.number) 1 c.name

-- the list
abbrev pub spot_of_list : Package → RulePlace
spot_of_list p = let list = p.list in list_spot list.name

-- ---- each method

-- 417: the parameters, with the receiver, need more than 255 words.
abbrev pub has_many_words : Member → Bool
has_many_words m = nat_lt 255 (argument_words m.flags m.desc)

-- 415: the widest sizes of what is written sum to more than 32,767.
abbrev pub is_too_long : LaidMethod → Bool
is_too_long m = let code = m.code in nat_lt 32767 code.widest

-- 311: two handlers that cover a common instruction stand in the class file in another order than their offsets; the
-- place is the first of the later ones.
abbrev pub order_breaks : (place : ℕ → RulePlace) → Option ℕ → List Break
order_breaks place None = []
order_breaks place (Some offset) = broken_at (place offset) 311 ∷ []

-- a method of a class, which has room for its arguments
abbrev pub layout_breaks : Package → Class → LaidMethod → List Break
layout_breaks p c m = let f = m.member in let code = m.code in let place =
    method_spot p c f (method_in (world p) c f.member) in
    order_breaks place (least (overtaking [] code.catches)) ++ at (is_too_long m) (place 0) 415

-- 417 of a method of a class
abbrev pub word_breaks : Package → Class → LaidMethod → List Break
word_breaks p c m = let f = m.member in let member = method_in (world p) c f.member in
    at (has_many_words member) (method_spot p c f member 0) 417

-- of all methods, by their classes
abbrev pub in_class : (Class → LaidMethod → List Break) → LaidMethod → Option Class → List Break
in_class breaks m None = []
in_class breaks m (Some c) = breaks c m

-- what is broken of all methods that are laid out, each beside its class
abbrev pub of_methods : Package → (Class → LaidMethod → List Break) → List Break
of_methods p breaks = flat_map (λ m. let f = m.member in in_class breaks m (class_at (world p) f.imported f.class))
    p.methods

-- ---- the whole

-- 414: more than 16,383 entries, in the constant pool or in that of the export file.
abbrev pub has_many_entries : Package → Bool
has_many_entries p = nat_lt 16383 (length (pool p)) || nat_lt 16383 (length (constants (export_of p)))

-- Method counted at the widest: the number of handlers, eight bytes for each, and four bytes for each method beside
-- what is written for it.
abbrev pub widest_method : Package → ℕ
widest_method p = 1 + 8 * sum_by handler_count p.methods + 4 * length p.methods + sum_by (λ m. let code = m.code
    in code.widest) p.methods

-- 416: Class has more than 32,767 bytes, or another component more than 65,535.
abbrev pub has_large_component : Package → Bool
has_large_component p = nat_lt 65535 (widest_method p) || is_too_large (infos_of (components_of p))

-- 411: the type descriptors end beyond 32,767.
abbrev pub has_far_types : Package → Bool
has_far_types p = let t = components_of p in ends_too_far t.descriptor

-- ---- which are tested

-- what is broken of the first list, else of the second
abbrev pub else_of : List Break → List Break → List Break
else_of [] breaks = breaks
else_of (b ∷ bs) breaks = b ∷ bs

-- 411 and 416 speak of a package whose methods and pool can be written
abbrev pub size_breaks : Package → List Break
size_breaks p = at (has_far_types p) (spot_of_list p) 411 ++ at (has_large_component p) (spot_of_list p) 416

-- 311, 414 and 415, of methods that have room for their arguments
abbrev pub form_breaks : Package → List Break
form_breaks p = of_methods p (layout_breaks p) ++ at (has_many_entries p) (spot_of_list p) 414

-- All that is broken of 311, 411 and 414 to 417.
abbrev pub limit_breaks : Package → List Break
limit_breaks p = else_of (of_methods p (word_breaks p)) (else_of (form_breaks p) (size_breaks p))
