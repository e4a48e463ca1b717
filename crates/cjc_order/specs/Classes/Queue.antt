-- What the code holds of the classes that wait for their place; a reader of the contracts may pass over it.
use Rattle.std.specs.Prelude.{◌≡◌, ◌<◌, ℕ, ◌+◌, ◌==◌, count_by, List, [], ◌∷◌, ◌++◌, length, map, get_or, set}
use Rattle.std.specs.Prelude.{slice_get, Bool, true, false, not, ◌&&◌, Option, None, Some}
use Rattle.std.specs.Ordering.{nat_cmp}
use Rattle.std.specs.BTreeSet.{contains}
use Rattle.cjc_world.specs.ClassFile.declared.tree.ClassTree.{ClassTree}
use Rattle.cjc_world.specs.Classes.{Class, declared}
use Rattle.cjc_world.specs.Order.{is_in, is_of_kind, lined_up}
use Rattle.cjc_order.specs.declared.classes.ready.Ready.{Ready}
use Rattle.cjc_order.specs.Classes.Numbers.{declared_at}

-- the number is among those that may stand
abbrev pub has : Ready → ℕ → Bool
has r k = contains nat_cmp r.numbers k

-- how often a number stands in a list
abbrev pub times : ℕ → List ℕ → ℕ
times k xs = count_by (λ x. x == k) xs

-- ---- subs

-- a class is put among those that list another
abbrev pub with_sub : (sub : ℕ) → List (List ℕ) → (listed : ℕ) → List (List ℕ)
with_sub s rows n = set rows n (get_or rows n [] ++ s ∷ [])

-- each lists another as often as it is among those that list that one
pub record AreSubs (listed subs : List (List ℕ)) : Type 0 where
  pub size : length subs ≡ length listed
  pub each : (i j : ℕ) → j < length listed → times i (get_or subs j []) ≡ times j (get_or listed i [])

-- ---- the queue

-- how many of these have no place
abbrev pub unplaced : (placed : List ℕ) → List ℕ → ℕ
unplaced placed xs = count_by (λ x. not (is_in placed x)) xs

-- there is a class file, and its class is an interface or a class that is none, as asked
abbrev pub is_kind_of : (interfaces : Bool) → ℕ → Option ClassTree → Bool
is_kind_of i k None = false
is_kind_of i k (Some t) = is_of_kind i (declared k t)

-- a class of this kind has the number
abbrev pub is_kind_at : (interfaces : Bool) → List ClassTree → ℕ → Bool
is_kind_at i trees k = is_kind_of i k (slice_get trees k)

-- Some have their place. Of each class it is counted how many that it lists have none, and those of some last subs that
-- have yet to be counted out; what waits for none is ready.
pub record IsQueue (i : Bool) (trees : List ClassTree) (listed : List (List ℕ)) (placed rest counts : List ℕ)
    (ready : Ready) : Type 0 where
  pub size : length counts ≡ length trees
  pub left : (k : ℕ) → get_or counts k 0 ≡ unplaced placed (get_or listed k []) + times k rest
  pub stands : (k : ℕ) → has ready k ≡ (is_kind_at i trees k && not (is_in placed k) && (get_or counts k 0 == 0))
  pub done : (k : ℕ) → is_in placed k ≡ true → get_or counts k 0 ≡ 0

-- The classes of these numbers stand first, and those that follow are lined up by so many steps.
abbrev pub IsBegun : List Class → (interfaces : Bool) → List ClassTree → List ℕ → (steps : ℕ) → List Class → Type 0
IsBegun w i trees placed steps all = map Some all ≡ map (declared_at trees) placed
    ++ map Some (lined_up w i steps placed)
