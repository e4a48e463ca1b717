-- How many indices the map of an interface of the package has to have, by Descriptor.
use Rattle.std.specs.Prelude.{◌≡◌, ℕ, ◌+◌, ◌==◌, List, [], ◌∷◌, nat_lt, nat_eq, if◌then◌else◌, unwrap_or}
use Rattle.indexmap.specs.IndexMap.{IndexMap, get}
use Rattle.cjc_capread.specs.declared.tree.ClassDescriptor.{ClassDescriptor}
use Rattle.cjc_capread.specs.declared.tree.MethodDescriptor.{MethodDescriptor}
use Rattle.cjc_capread.specs.ClassRefs.{is_inside}

-- the greater of two numbers
abbrev pub greater : ℕ → ℕ → ℕ
greater a b = if nat_lt a b then b else a

-- more than its token, 0xFF asking for none
abbrev pub need_of_method : MethodDescriptor → ℕ
need_of_method m = if m.token == 0xFF then 0 else m.token + 1

-- the greatest need of several methods, 0 without any
abbrev pub need_of_methods : List MethodDescriptor → ℕ
need_of_methods [] = 0
need_of_methods (m ∷ methods) = greater (need_of_method m) (need_of_methods methods)

-- what the classes at an offset need
abbrev pub need_of : List ClassDescriptor → (offset : ℕ) → ℕ
need_of [] offset = 0
need_of (d ∷ classes) offset = greater (if is_inside d.this_class offset then need_of_methods d.methods
    else 0) (need_of classes offset)

-- what a map has for an offset, 0 where it has nothing
abbrev pub need_in : {S : Type 0} → IndexMap ℕ ℕ S → (offset : ℕ) → ℕ
need_in needs offset = unwrap_or (get nat_eq needs offset) 0

-- a map has what the classes at each offset need
abbrev pub AreNeeds : {S : Type 0} → IndexMap ℕ ℕ S → List ClassDescriptor → Type 0
AreNeeds needs classes = (offset : ℕ) → need_in needs offset ≡ need_of classes offset

-- one offset needs so many from now on
abbrev pub HasNeed : {S : Type 0} → (old new : IndexMap ℕ ℕ S) → (offset need : ℕ) → Type 0
HasNeed old new offset need = (x : ℕ) → need_in new x ≡ greater (need_in old x) (if offset == x then need else 0)

-- what a class of Descriptor needs is put down
abbrev pub HasClass : {S : Type 0} → (old new : IndexMap ℕ ℕ S) → ClassDescriptor → Type 0
HasClass old new d = (x : ℕ) → need_in new x ≡ greater (need_in old x) (if is_inside d.this_class x
    then need_of_methods d.methods else 0)
