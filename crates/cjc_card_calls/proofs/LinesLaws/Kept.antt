-- Lines are kept class by class.
use Rattle.std.proofs.Common.{◌≡◌, ℕ, ◌+◌, ◌<◌, List, ◌∷◌, length, get_or, drop, map, refl, ap, ◌∙◌, Bool, true, false}
use Rattle.std.proofs.Common.{Option, Some, None}
use Rattle.std.specs.Prelude.{option_map, if◌then◌else◌, ◌||◌}
use Rattle.cjc_card_semantics.specs.Machine.Loaded.{Loaded}
use Rattle.cjc_card_semantics.specs.Machine.Classes.{Class, is_in, or_else, same_class, upwards}
use Rattle.cjc_card_frame.specs.declared.heap.class.Class.{Class as ClassData}
use Rattle.cjc_card_frame.specs.Objects.{class_of}
use Rattle.cjc_card_link.specs.MetClasses.{classes-equivalence, same_class-Decides}
use Rattle.cjc_card_link.proofs.OrElse.{note_more, or_map}
use Rattle.cjc_card_calls.specs.Lines.Lines.{line_by}

here : (l : Loaded) (c x : Class) (b : Bool) (line : List ClassData) → same_class c x ≡ b
    → map class_of line ≡ upwards l c
    → option_map (map class_of) (if b then Some line else None) ≡ (if b then Some (upwards l x) else None)
here l c x true line same is = ap Some (is ∙ ap (upwards l) ((same_class-Decides c x).0 same))
here l c x false line same is = refl

pub line_noted : (l : Loaded) (c x : Class) (line : List ClassData) (old new : Option (List ClassData))
    → map class_of line ≡ upwards l c
    → new ≡ or_else old (if same_class c x then Some line else None)
    → option_map (map class_of) new ≡ or_else (option_map (map class_of) old) (if same_class c x then Some (upwards l x)
    else None)
line_noted l c x line old new is e =
    ap (option_map (map class_of)) e
    ∙ or_map (map class_of) old (if same_class c x then Some line else None)
    ∙ ap (λ (o : Option (List Class)). or_else (option_map (map class_of) old) o) (here l c x (same_class c x) line refl
    is)

by_tests : {A : Type 0} (b c : Bool) (v : A) → (if (b || c) then Some v else None) ≡ or_else (if b then Some v
    else None) (if c then Some v else None)
by_tests true c v = refl
by_tests false c v = refl

pub line_step : (l : Loaded) (x : Class) (c : ClassData) (cs : List ClassData)
    → line_by l (map class_of (c ∷ cs)) x ≡ or_else (if same_class (class_of c) x then Some (upwards l x)
    else None) (line_by l (map class_of cs) x)
line_step l x c cs =
    ap (λ (b : Bool). if (b || is_in x (map class_of cs)) then Some (upwards l x) else None) (classes-equivalence.symm x
    (class_of c))
    ∙ by_tests (same_class (class_of c) x) (is_in x (map class_of cs)) (upwards l x)

-- One more line is kept.
pub lines_more : (l : Loaded) (x : Class) (i : ℕ) (d : ClassData) (cs : List ClassData) (old new total :
    Option (List Class)) → i < length cs
    → new ≡ or_else old (if same_class (class_of (get_or cs i d)) x then Some (upwards l x) else None)
    → or_else old (line_by l (map class_of (drop i cs)) x) ≡ total
    → or_else new (line_by l (map class_of (drop (i + 1) cs)) x) ≡ total
lines_more l x i d cs old new total lt noted so_far =
    note_more (λ n ds. line_by l (map class_of ds) x) (λ n e. if same_class (class_of e) x then Some (upwards l x)
    else None) (λ n. line_step l x)
    i (get_or cs i d) d cs old new total lt refl noted so_far
