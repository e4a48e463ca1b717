-- Classes are put on a pile, and a line grows by those that were not met.
use Rattle.std.proofs.Common.{◌≡◌, ℕ, zero, suc, ◌+◌, ◌-◌, ◌<◌, List, [], ◌∷◌, ◌++◌, length, get_or, drop, map, reverse}
use Rattle.std.proofs.Common.{refl, sym, ap, ◌∙◌, Bool, true, false, arith, Option, Some, None}
use Rattle.std.specs.Prelude.{option_to_list, flat_map, if◌then◌else◌, is_some, ◌||◌}
use Rattle.std.proofs.lemmas.List.{append-nil, append_assoc, drop_more, map-append, nil_from_length, reverse-append}
use Rattle.std.proofs.lemmas.Grind.{flat_map-append}
use Rattle.std.proofs.lemmas.Simd.{map-map}
use Rattle.cjc_card_semantics.specs.Machine.Loaded.{Loaded}
use Rattle.cjc_card_semantics.specs.CapRead.declared.tree.ClassEntry.{ClassEntry}
use Rattle.cjc_card_semantics.specs.CapRead.declared.tree.InterfaceEntry.{InterfaceEntry}
use Rattle.cjc_card_semantics.specs.ExportFile.declared.tree.ExportClass.{ExportClass}
use Rattle.cjc_card_semantics.specs.Machine.Classes.{Class, External, IsClass, IsInterface, all_supers}
use Rattle.cjc_card_semantics.specs.Machine.Classes.{class_of as class_by_ref, closure, external, external_named, is_in}
use Rattle.cjc_card_semantics.specs.Machine.Classes.{object_above, object_class, or_else, same_class, some_of, supers}
use Rattle.cjc_card_frame.specs.declared.heap.class.Class.{Class as ClassData}
use Rattle.cjc_card_frame.specs.Objects.{class_of}
use Rattle.cjc_card_link.specs.declared.supers.Climb.{Climb}
use Rattle.cjc_card_link.specs.Climbs.{climbed}
use Rattle.cjc_card_link.specs.MetClasses.{classes-equivalence}

-- ---- one more is put

pub put_more : {A : Type 0} (f : A → Option Class) (xs : List A) (done at : ℕ) (x d : A) (before after old : List Class)
    → done < length xs → at ≡ length xs - 1 - done → x ≡ get_or xs at d → after ≡ option_to_list (f x) ++ before
    → before ≡ some_of (map f (drop (length xs - done) xs)) ++ old
    → after ≡ some_of (map f (drop (length xs - (done + 1)) xs)) ++ old
put_more {A} f xs done at x d before after old lt place is put so_far =
    let here : at < length xs = omega (arith, lt, place) in
    let k : length xs - (done + 1) ≡ at = omega (arith, lt, place) in
    let next : length xs - done ≡ at + 1 = omega (arith, lt, place) in
    let e : drop at xs ≡ x ∷ drop (at + 1) xs = drop_more xs at d here ∙ ap (λ (y : A). y ∷ drop (at + 1) xs) (sym is)
    in
    put
    ∙ ap (λ (ys : List Class). option_to_list (f x) ++ ys) so_far
    ∙ ap (λ (n : ℕ). option_to_list (f x) ++ (some_of (map f (drop n xs)) ++ old)) next
    ∙ sym (append_assoc (option_to_list (f x)) (some_of (map f (drop (at + 1) xs))) old)
    ∙ ap (λ (ys : List A). some_of (map f ys) ++ old) (sym e)
    ∙ ap (λ (n : ℕ). some_of (map f (drop n xs)) ++ old) (sym k)

-- ---- several are put

put_two : {A : Type 0} (xs ys zs mid new : List A) → new ≡ xs ++ mid → mid ≡ ys ++ zs → new ≡ (xs ++ ys) ++ zs
put_two xs ys zs mid new n m = n ∙ ap (λ (l : List _). xs ++ l) m ∙ sym (append_assoc xs ys zs)

pub put_interface : (l : Loaded) (part : ℕ) (i : InterfaceEntry) (old mid new : List Class)
    → new ≡ some_of (map (class_by_ref l part) i.superinterfaces) ++ mid
    → mid ≡ option_to_list (object_class l) ++ old
    → new ≡ (some_of (map (class_by_ref l part) (all_supers (Some (IsInterface i))))
    ++ object_above l (Some (IsInterface i))) ++ old
put_interface l part i old mid new n m = put_two (some_of (map (class_by_ref l part) i.superinterfaces))
    (option_to_list (object_class l)) old mid new n m

pub put_class : (l : Loaded) (part : ℕ) (c : ClassEntry) (old mid new : List Class)
    → new ≡ option_to_list (class_by_ref l part c.superclass) ++ mid
    → mid ≡ some_of (map (λ m. class_by_ref l part m.interface) c.interfaces) ++ old
    → new ≡ (some_of (map (class_by_ref l part) (all_supers (Some (IsClass c)))) ++ object_above l (Some (IsClass c)))
    ++ old
put_class l part c old mid new n m =
    let f = class_by_ref l part in
    put_two (option_to_list (f c.superclass)) (some_of (map (λ m. f m.interface) c.interfaces)) old mid new n m
    ∙ ap (λ (os : List (Option Class)). (option_to_list (f c.superclass) ++ some_of os)
    ++ old) (sym (map-map f (λ m. m.interface) c.interfaces))
    ∙ ap (λ (ys : List Class). ys ++ old) (sym (append-nil (option_to_list (f c.superclass)
    ++ some_of (map f (map (λ m. m.interface) c.interfaces)))))

pub put_external : (l : Loaded) (tree token : ℕ) (c : ExportClass) (old mid new : List Class)
    → Some c ≡ external l tree token
    → new ≡ some_of (map (external_named l) c.supers) ++ mid → mid ≡ some_of (map (external_named l) c.interfaces)
    ++ old → new ≡ supers l (External tree token) ++ old
put_external l tree token c old mid new is n m =
    let f = external_named l in
    put_two (some_of (map f c.supers)) (some_of (map f c.interfaces)) old mid new n m
    ∙ ap (λ (ys : List Class). ys ++ old) (sym (ap some_of (map-append f c.supers c.interfaces)
    ∙ flat_map-append option_to_list (map f c.supers) (map f c.interfaces)))
    ∙ ap (λ (ys : List Class). ys ++ old) (sym (append-nil (some_of (map f (c.supers ++ c.interfaces)))))
    ∙ ap (λ (o : Option ExportClass). flat_map (λ d. some_of (map f (d.supers ++ d.interfaces))) (option_to_list o)
    ++ old) is

pub put_none : (l : Loaded) (tree token : ℕ) (old : List Class) → None ≡ external l tree token
    → old ≡ supers l (External tree token) ++ old
put_none l tree token old is = ap (λ (o : Option ExportClass). flat_map (λ d. some_of (map (external_named l) (d.supers
    ++ d.interfaces))) (option_to_list o) ++ old) is

-- ---- one more is met

backwards : (items : List ClassData) (class : ClassData) → reverse (map class_of (items ++ (class ∷ [])))
    ≡ class_of class ∷ reverse (map class_of items)
backwards items class = ap reverse (map-append class_of items (class ∷ []))
    ∙ reverse-append (map class_of items) (class_of class ∷ [])

pub met_more : (items after : List ClassData) (class : ClassData) (x : Class) (was is : Bool) → after ≡ items
    ++ (class ∷ []) → was ≡ is_in x (reverse (map class_of items))
    → is ≡ same_class x (class_of class) || was → is ≡ is_in x (reverse (map class_of after))
met_more items after class x was is e old new =
    new
    ∙ ap (λ (b : Bool). same_class x (class_of class) || b) old
    ∙ ap (λ (cs : List Class). is_in x cs) (sym (backwards items class))
    ∙ ap (λ (ys : List ClassData). is_in x (reverse (map class_of ys))) (sym e)

pub climb_more : (l : Loaded) (items after : List ClassData) (class : ClassData) (left above : List Class) (n : ℕ)
    → after ≡ items ++ (class ∷ []) → is_in (class_of class) (reverse (map class_of items)) ≡ false
    → above ≡ supers l (class_of class) ++ left
    → map class_of after ++ closure (supers l) n (reverse (map class_of after)) above
    ≡ map class_of items ++ closure (supers l) (suc n) (reverse (map class_of items)) (class_of class ∷ left)
climb_more l items after class left above n e not_met up =
    let line = map class_of items in
    let c = class_of class in
    ap (λ (ys : List ClassData). map class_of ys ++ closure (supers l) n (reverse (map class_of ys)) above) e
    ∙ ap (λ (ys : List Class). ys ++ closure (supers l) n (reverse (map class_of (items ++ (class ∷ [])))) above)
    (map-append class_of items (class ∷ []))
    ∙ ap (λ (ys : List Class). (line ++ (c ∷ [])) ++ closure (supers l) n ys above) (backwards items class)
    ∙ append_assoc line (c ∷ []) (closure (supers l) n (c ∷ reverse line) above)
    ∙ ap (λ (ys : List Class). line ++ (c ∷ closure (supers l) n (c ∷ reverse line) ys)) up
    ∙ ap (λ (b : Bool). line ++ (if b then closure (supers l) n (reverse line) left else c ∷ closure (supers l) n (c
    ∷ reverse line) (supers l c ++ left))) (sym not_met)

pub climb_past : (l : Loaded) (items : List ClassData) (class : ClassData) (left : List Class) (n : ℕ)
    → is_in (class_of class) (reverse (map class_of items)) ≡ true
    → map class_of items ++ closure (supers l) n (reverse (map class_of items)) left ≡ map class_of items
    ++ closure (supers l) (suc n) (reverse (map class_of items)) (class_of class ∷ left)
climb_past l items class left n met =
    let line = map class_of items in
    let c = class_of class in
    ap (λ (b : Bool). line ++ (if b then closure (supers l) n (reverse line) left else c ∷ closure (supers l) n (c
    ∷ reverse line) (supers l c ++ left))) (sym met)

-- none is left
pub no_more : (next : Class → List Class) (n : ℕ) (seen : List Class) → closure next n seen [] ≡ []
no_more next zero seen = refl
no_more next (suc n) seen = refl

-- the line, where none is left
pub line_done : (l : Loaded) (n : ℕ) (c : Climb) (line : List ClassData) (total : List Class) → line ≡ c.line.items
    → length c.left ≡ 0 → climbed l n c ≡ total → map class_of line ≡ total
line_done l n c line total is none so_far =
    let seen = reverse (map class_of c.line.items) in
    ap (λ (ys : List ClassData). map class_of ys) is
    ∙ sym (append-nil (map class_of c.line.items))
    ∙ ap (λ (ys : List Class). map class_of c.line.items ++ ys) (sym (no_more (supers l) n seen))
    ∙ ap (λ (ys : List ClassData). map class_of c.line.items ++ closure (supers l) n seen (map class_of ys))
    (sym (nil_from_length c.left none))
    ∙ so_far

by_test : (o : Option Bool) (b : Bool) → is_some (or_else o (if b then Some true else None)) ≡ b || is_some o
by_test None true = refl
by_test None false = refl
by_test (Some v) true = refl
by_test (Some v) false = refl

pub met_after : (x c : Class) (old new : Option Bool) → new ≡ or_else old (if same_class c x then Some true else None)
    → is_some new ≡ same_class x c || is_some old
met_after x c old new e = ap is_some e ∙ by_test old (same_class c x)
    ∙ ap (λ (b : Bool). b || is_some old) (classes-equivalence.symm c x)
