-- The tables of a class and of its superclasses.
use Rattle.std.proofs.Common.{◌≡◌, ℕ, zero, suc, refl, sym, ap, ◌∙◌, List, Option, Some, None}
use Rattle.std.specs.Prelude.{slice_get}
use Rattle.cjc_card_semantics.specs.Machine.Loaded.{Loaded}
use Rattle.cjc_card_semantics.specs.Machine.Classes.{Class, Own, Info, IsClass, IsInterface, class_of, depth, info_of}
use Rattle.cjc_card_semantics.specs.Machine.Classes.{superclass, superclass_by}
use Rattle.cjc_card_semantics.specs.Machine.Dispatch.{Missing, NotFound, Open, Hidden, Selection, Token, Tower, above}
use Rattle.cjc_card_semantics.specs.Machine.Dispatch.{at_index, at_map, dispatched, dispatched_interface}
use Rattle.cjc_card_semantics.specs.Machine.Dispatch.{dispatched_open, map_of, table_or_missing, tower, tower_from}

-- no class has no tables
none_there : (l : Loaded) (n : ℕ) → Missing ≡ tower_from l n None
none_there l zero = refl
none_there l (suc n) = refl

above_by : (l : Loaded) (p : ℕ) (info : Option Info)
    → above (table_or_missing p info (λ c. tower_from l (depth l) (class_of l p c.superclass))) ≡ tower_from l (depth l)
    (superclass_by l p info)
above_by l p None = none_there l (depth l)
above_by l p (Some (IsInterface i)) = none_there l (depth l)
above_by l p (Some (IsClass c)) = refl

-- those of the superclass
above_own : (l : Loaded) (p offset : ℕ) → above (tower l (Own p offset)) ≡ tower_from l (depth l)
    (superclass l p offset)
above_own l p offset = above_by l p (info_of l p offset)

pub from_above : (l : Loaded) (p offset n : ℕ) (sup : Option Class) (token : Token) (s : Selection)
    → s ≡ dispatched (tower_from l n sup) token → n ≡ depth l → sup ≡ superclass l p offset
    → s ≡ dispatched (above (tower l (Own p offset))) token
from_above l p offset n sup token s found deep is =
    found
    ∙ ap (λ (k : ℕ). dispatched (tower_from l k sup) token) deep
    ∙ ap (λ (o : Option Class). dispatched (tower_from l (depth l) o) token) is
    ∙ ap (λ (t : Tower). dispatched t token) (sym (above_own l p offset))

-- nothing is found in no tables
pub none_found : (token : Token) → NotFound ≡ dispatched Missing token
none_found (Open token) = refl
none_found (Hidden home token) = refl

-- ---- methods of interfaces

-- the method at which a map points
pub at_place : (l : Loaded) (class : Class) (n : ℕ) (index : List ℕ) (place token : ℕ) (s : Selection)
    → s ≡ dispatched_open (tower_from l n (Some class)) token → n ≡ suc (depth l) → Some token ≡ slice_get index place
    → s ≡ at_map (tower l class) (Some index) place
at_place l class n index place token s found deep here =
    found
    ∙ ap (λ (k : ℕ). dispatched_open (tower_from l k (Some class)) token) deep
    ∙ ap (λ (o : Option ℕ). at_index (tower l class) o) here

pub no_place : (t : Tower) (index : List ℕ) (place : ℕ) → None ≡ slice_get index place
    → NotFound ≡ at_map t (Some index) place
no_place t index place here = ap (λ (o : Option ℕ). at_index t o) here

-- by the map of an interface
pub by_map : (l : Loaded) (p offset n : ℕ) (interface : Class) (token : ℕ) (index items : List ℕ) (s : Selection)
    → s ≡ at_map (tower l (Own p offset)) (Some items) token → items ≡ index
    → Some index ≡ map_of l (tower_from l n (Some (Own p offset))) interface → n ≡ suc (depth l)
    → s ≡ dispatched_interface l (Some (Own p offset)) interface token
by_map l p offset n interface token index items s found is here deep =
    let t = tower l (Own p offset) in
    found
    ∙ ap (λ (is : List ℕ). at_map t (Some is) token) is
    ∙ ap (λ (o : Option (List ℕ)). at_map t o token) here
    ∙ ap (λ (k : ℕ). at_map t (map_of l (tower_from l k (Some (Own p offset))) interface) token) deep

pub no_map : (l : Loaded) (p offset n : ℕ) (interface : Class) (token : ℕ)
    → None ≡ map_of l (tower_from l n (Some (Own p offset))) interface → n ≡ suc (depth l)
    → NotFound ≡ dispatched_interface l (Some (Own p offset)) interface token
no_map l p offset n interface token here deep =
    let t = tower l (Own p offset) in
    ap (λ (o : Option (List ℕ)). at_map t o token) here
    ∙ ap (λ (k : ℕ). at_map t (map_of l (tower_from l k (Some (Own p offset))) interface) token) deep
