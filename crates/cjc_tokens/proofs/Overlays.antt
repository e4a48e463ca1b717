-- What an imported class and its supers list, the nearest first.
use Rattle.std.proofs.Common.{◌≡◌, ℕ, zero, suc, ◌+◌, ◌<◌, ◌≤◌, refl, sym, ap, subst, ◌∙◌, Bor, Bool, true, false, List}
use Rattle.std.proofs.Common.{[], ◌∷◌, ◌++◌, length, set, get_or, drop, arith}
use Rattle.std.specs.Prelude.{Option, Some, None, if◌then◌else◌, map, option_map, is_some, ◌&&◌}
use Rattle.std.proofs.lemmas.List.{length-map}
use Rattle.cjc_world.specs.Classes.{Member, method_of_class}
use Rattle.cjc_world.specs.ClassFile.declared.tree.ClassTree.{ClassTree}
use Rattle.cjc_world.specs.ClassFile.declared.tree.MethodTree.{MethodTree}
use Rattle.cjc_world.specs.declared.class.Known.TheVariants as kinds
use Rattle.cjc_tokens.specs.declared.slot.Slot.{Slot}
use Rattle.cjc_tokens.specs.Members.{Signature, signature_of, is_exposed, is_virtual_by, is_shown, is_virtual}
use Rattle.cjc_tokens.specs.Members.{all_methods}
use Rattle.cjc_tokens.specs.Slots.{Slots, put, reserve, listed, listed_slots}
use Rattle.cjc_tokens.specs.Working.{alone, one, overlay, signature_in, signs}
use Rattle.cjc_world.specs.declared.class.Known.{Known as AnyClass}
use Rattle.cjc_world.specs.Working.Known.{class_of}
use Rattle.cjc_bytes.proofs.Gets.{drop_next, drop_past}
use Rattle.cjc_bytes.proofs.Lists.{map_append}

signature : List ℕ → List ℕ → Signature
signature n d = record { name = n; desc = d }

pub overlay-nil : (a : Slots) → overlay a [] ≡ a
overlay-nil [] = refl
overlay-nil (None ∷ a) = refl
overlay-nil (Some s ∷ a) = refl

pub overlay-assoc : (a b c : Slots) → overlay (overlay a b) c ≡ overlay a (overlay b c)
overlay-assoc [] b c = refl
overlay-assoc (None ∷ a) [] c = refl
overlay-assoc (None ∷ a) (None ∷ b) [] = refl
overlay-assoc (None ∷ a) (None ∷ b) (t ∷ c) = ap (λ q. t ∷ q) (overlay-assoc a b c)
overlay-assoc (None ∷ a) (Some s ∷ b) [] = refl
overlay-assoc (None ∷ a) (Some s ∷ b) (t ∷ c) = ap (λ q. Some s ∷ q) (overlay-assoc a b c)
overlay-assoc (Some s ∷ a) [] c = refl
overlay-assoc (Some s ∷ a) (None ∷ b) [] = refl
overlay-assoc (Some s ∷ a) (None ∷ b) (t ∷ c) = ap (λ q. Some s ∷ q) (overlay-assoc a b c)
overlay-assoc (Some s ∷ a) (Some u ∷ b) [] = refl
overlay-assoc (Some s ∷ a) (Some u ∷ b) (t ∷ c) = ap (λ q. Some s ∷ q) (overlay-assoc a b c)

put-overlay : (t : ℕ) (s : Signature) (all : Slots) → put t s all ≡ overlay (alone t (Some s)) all
put-overlay zero s [] = refl
put-overlay zero s (slot ∷ all) = refl
put-overlay (suc t) s [] = ap (λ q. None ∷ q) (put-overlay t s [] ∙ overlay-nil (alone t (Some s)))
put-overlay (suc t) s (slot ∷ all) = ap (λ q. slot ∷ q) (put-overlay t s all)

reserve-overlay : (t : ℕ) (all : Slots) → reserve t all ≡ overlay (alone t None) all
reserve-overlay zero [] = refl
reserve-overlay zero (slot ∷ all) = refl
reserve-overlay (suc t) [] = ap (λ q. None ∷ q) (reserve-overlay t [] ∙ overlay-nil (alone t None))
reserve-overlay (suc t) (slot ∷ all) = ap (λ q. slot ∷ q) (reserve-overlay t all)

pub listed-one : (m : Member) (all : Slots) → listed m all ≡ overlay (one m) all
listed-one m all = by (is_shown m) (is_virtual m)
  where
    by : (b v : Bool) → (if b then put m.token (signature_of m) all else if v then reserve m.token all else all)
        ≡ overlay (if b then alone m.token (Some (signature_of m)) else if v then alone m.token None else []) all
    by true v = put-overlay m.token (signature_of m) all
    by false true = reserve-overlay m.token all
    by false false = refl

pub listed_slots-append : (ms ns : List Member) → listed_slots (ms ++ ns) ≡ overlay (listed_slots ms) (listed_slots ns)
listed_slots-append [] ns = refl
listed_slots-append (m ∷ ms) ns =
    ap (listed m) (listed_slots-append ms ns)
    ∙ listed-one m (overlay (listed_slots ms) (listed_slots ns))
    ∙ sym (overlay-assoc (one m) (listed_slots ms) (listed_slots ns))
    ∙ ap (λ q. overlay q (listed_slots ns)) (sym (listed-one m (listed_slots ms)))

-- ---- one token is filled

-- room for it changes nothing
pub pad : (row : Slots) (t : ℕ) (slot : Option Signature) → length row ≤ t → overlay (row ++ None ∷ []) (alone t slot)
    ≡ overlay row (alone t slot)
pad [] zero slot le = refl
pad [] (suc t) slot le = refl
pad (r ∷ row) zero slot le = absurd (omega arith)
pad (None ∷ row) (suc t) slot le = ap (λ q. None ∷ q) (pad row t slot (omega arith))
pad (Some s ∷ row) (suc t) slot le = ap (λ q. Some s ∷ q) (pad row t slot (omega arith))

-- ---- the same of what the code holds

pub pad-row : (row : List (Option Slot)) (t : ℕ) (slot : Option Slot) → length row ≤ t
    → overlay (signs (row ++ None ∷ [])) (alone t (option_map signature_in slot))
    ≡ overlay (signs row) (alone t (option_map signature_in slot))
pad-row row t slot le =
    ap (λ q. overlay q (alone t (option_map signature_in slot))) (map_append (option_map signature_in) row (None ∷ []))
    ∙ pad (signs row) t (option_map signature_in slot) (let e = length-map row (option_map signature_in) in omega arith)

pub fill_none-row : (row : List (Option Slot)) (t : ℕ) (slot o : Option Slot) → t < length row → o ≡ get_or row t o
    → is_some o ≡ false → overlay (signs row) (alone t (option_map signature_in slot)) ≡ signs (set row t slot)
fill_none-row [] t slot o lt e none = absurd (omega arith)
fill_none-row (None ∷ row) zero slot o lt e none = ap (λ q. option_map signature_in slot ∷ q) (overlay-nil (signs row))
fill_none-row (Some s ∷ row) zero slot o lt e none = let no : true ≡ false = ap is_some (sym e) ∙ none in cc
fill_none-row (None ∷ row) (suc t) slot o lt e none = ap (λ q. None ∷ q) (fill_none-row row t slot o (omega arith) e
    none)
fill_none-row (Some s ∷ row) (suc t) slot o lt e none = ap (λ q. Some (signature_in s) ∷ q) (fill_none-row row t slot o
    (omega arith) e none)

pub fill_some-row : (row : List (Option Slot)) (t : ℕ) (slot o : Option Slot) → t < length row → o ≡ get_or row t o
    → is_some o ≡ true → overlay (signs row) (alone t (option_map signature_in slot)) ≡ signs row
fill_some-row [] t slot o lt e some = absurd (omega arith)
fill_some-row (None ∷ row) zero slot o lt e some = let no : false ≡ true = ap is_some (sym e) ∙ some in cc
fill_some-row (Some u ∷ row) zero slot o lt e some = ap (λ q. Some (signature_in u) ∷ q) (overlay-nil (signs row))
fill_some-row (None ∷ row) (suc t) slot o lt e some = ap (λ q. None ∷ q) (fill_some-row row t slot o (omega arith) e
    some)
fill_some-row (Some u ∷ row) (suc t) slot o lt e some = ap (λ q. Some (signature_in u) ∷ q) (fill_some-row row t slot o
    (omega arith) e some)

-- ---- a walk over the methods of a class, and over classes

pub listed-next : (all done more : Slots) (ms : List Member) (i : ℕ) (m : Member) → i < length ms → m ≡ get_or ms i m
    → more ≡ overlay done (one m) → overlay done (listed_slots (drop i ms)) ≡ all
    → overlay more (listed_slots (drop (i + 1) ms)) ≡ all
listed-next all done more ms i m lt is e inv =
    ap (λ q. overlay q (listed_slots (drop (i + 1) ms))) e
    ∙ overlay-assoc done (one m) (listed_slots (drop (i + 1) ms))
    ∙ ap (overlay done) (sym (listed-one m (listed_slots (drop (i + 1) ms))))
    ∙ ap (λ q. overlay done (listed_slots q)) (sym (drop_next ms i m lt is))
    ∙ inv

pub listed-end : (all done : Slots) (ms : List Member) (i : ℕ) → length ms ≤ i → overlay done (listed_slots (drop i ms))
    ≡ all → done ≡ all
listed-end all done ms i le inv = sym (overlay-nil done) ∙ ap (λ q. overlay done (listed_slots q))
    (sym (drop_past ms i le)) ∙ inv

pub classes-next : (all done more : Slots) (cs : List AnyClass) (i : ℕ) (k : AnyClass) → i < length cs
    → k ≡ get_or cs i k → more ≡ overlay done (listed_slots (class_of k).methods)
    → overlay done (listed_slots (all_methods (map class_of (drop i cs)))) ≡ all
    → overlay more (listed_slots (all_methods (map class_of (drop (i + 1) cs)))) ≡ all
classes-next all done more cs i k lt is e inv =
    ap (λ q. overlay q (listed_slots (all_methods (map class_of (drop (i + 1) cs))))) e
    ∙ overlay-assoc done (listed_slots (class_of k).methods)
    (listed_slots (all_methods (map class_of (drop (i + 1) cs))))
    ∙ ap (overlay done) (sym (listed_slots-append (class_of k).methods (all_methods (map class_of (drop (i + 1) cs)))))
    ∙ ap (λ q. overlay done (listed_slots (all_methods (map class_of q)))) (sym (drop_next cs i k lt is))
    ∙ inv

pub classes-end : (all done : Slots) (cs : List AnyClass) (i : ℕ) → length cs ≤ i
    → overlay done (listed_slots (all_methods (map class_of (drop i cs)))) ≡ all → done ≡ all
classes-end all done cs i le inv = sym (overlay-nil done)
    ∙ ap (λ q. overlay done (listed_slots (all_methods (map class_of q)))) (sym (drop_past cs i le)) ∙ inv

-- ---- what a method lists, by its parts

pub one-shown : (m : Member) (flags : ℕ) (name desc : List ℕ) (t : ℕ) → flags ≡ m.flags → name ≡ m.name → desc ≡ m.desc
    → t ≡ m.token → is_virtual_by flags name ≡ true → is_exposed flags ≡ true
    → alone t (Some (record { name = name; desc = desc })) ≡ one m
unfolding signature
one-shown m flags name desc t f n d k v e =
    ap (λ q. alone q (Some (signature name desc))) k
    ∙ ap (λ q. alone m.token (Some (signature q desc))) n
    ∙ ap (λ q. alone m.token (Some (signature m.name q))) d
    ∙ sym (ap (λ b. if b then alone m.token (Some (signature_of m)) else if is_virtual m then alone m.token None
    else []) shown)
  where
    both : (a b : Bool) → a ≡ true → b ≡ true → (a && b) ≡ true
    both true b e g = g
    both false b e g = cc

    shown : is_shown m ≡ true
    shown = both (is_exposed m.flags) (is_virtual m) (ap is_exposed (sym f) ∙ e) (ap (λ q. is_virtual_by q m.name)
        (sym f) ∙ ap (is_virtual_by flags) (sym n) ∙ v)

pub one-hidden : (m : Member) (flags : ℕ) (name : List ℕ) (t : ℕ) → flags ≡ m.flags → name ≡ m.name → t ≡ m.token
    → is_virtual_by flags name ≡ true → is_exposed flags ≡ false → alone t None ≡ one m
one-hidden m flags name t f n k v e =
    ap (λ q. alone q None) k
    ∙ sym (ap (λ b. if b then alone m.token (Some (signature_of m)) else if is_virtual m then alone m.token None
    else []) not_shown ∙ ap (λ b. if b then alone m.token None else []) yes')
  where
    none : (a b : Bool) → a ≡ false → (a && b) ≡ false
    none true b e = cc
    none false b e = refl

    not_shown : is_shown m ≡ false
    not_shown = none (is_exposed m.flags) (is_virtual m) (ap is_exposed (sym f) ∙ e)

    yes' : is_virtual m ≡ true
    yes' = ap (λ q. is_virtual_by q m.name) (sym f) ∙ ap (is_virtual_by flags) (sym n) ∙ v

pub one-none : (m : Member) (flags : ℕ) (name : List ℕ) → flags ≡ m.flags → name ≡ m.name → is_virtual_by flags name
    ≡ false → [] ≡ one m
one-none m flags name f n v =
    sym (ap (λ b. if b then alone m.token (Some (signature_of m)) else if is_virtual m then alone m.token None
    else []) not_shown ∙ ap (λ b. if b then alone m.token None else []) no)
  where
    none : (a b : Bool) → b ≡ false → (a && b) ≡ false
    none true b e = e
    none false b e = refl

    no : is_virtual m ≡ false
    no = ap (λ q. is_virtual_by q m.name) (sym f) ∙ ap (is_virtual_by flags) (sym n) ∙ v

    not_shown : is_shown m ≡ false
    not_shown = none (is_exposed m.flags) (is_virtual m) no

-- a class of a class file lists no tokens
pub declared-token : (k : AnyClass) (n : ℕ) (c : Bor ClassTree) (i : ℕ) (d : Member) → k ≡ kinds.Declared n c
    → i < length (class_of k).methods → 0 ≡ (get_or (class_of k).methods i d).token
declared-token k n c i d is lt = subst (λ (q : AnyClass). 0 ≡ (get_or (class_of q).methods i d).token) (sym is)
    (at c.now.methods i (subst (λ (q : AnyClass). i < length (class_of q).methods) is lt))
  where
    at : (ms : List MethodTree) (i : ℕ) → i < length (map method_of_class ms)
        → 0 ≡ (get_or (map method_of_class ms) i d).token
    at [] i lt = absurd (omega arith)
    at (m ∷ ms) zero lt = refl
    at (m ∷ ms) (suc i) lt = at ms i (omega arith)

-- the item at a place
pub member-there : (ms : List Member) (i : ℕ) → i < length ms → (m : Member) × (m ≡ get_or ms i m)
member-there [] i lt = absurd (omega arith)
member-there (m ∷ ms) zero lt = (m, refl)
member-there (m ∷ ms) (suc i) lt = member-there ms i (omega arith)
