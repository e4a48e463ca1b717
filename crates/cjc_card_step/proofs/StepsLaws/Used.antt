-- What is done with entries of the constant pool, and rows of operations that are others.
use Rattle.std.proofs.Common.{◌≡◌, ℕ, List, [], ◌∷◌, refl, sym, ap, subst, ◌∙◌, ℤ, pos, negsuc}
use Rattle.std.specs.Prelude.{Option, Some, None, option_and_then, option_map}
use Rattle.cjc_card_semantics.specs.CapRead.declared.tree.PoolEntry.{PoolEntry}
use Rattle.cjc_card_semantics.specs.Script.Sorts.{Shape}
use Rattle.cjc_card_semantics.specs.Bytecode.Effects.{Ask, Call, Cast, NewNumbers, Undone}
use Rattle.cjc_card_semantics.specs.Bytecode.Meanings.{Asks, CallsInterface, Casts, MakesNumbers, Use}
use Rattle.cjc_card_semantics.specs.Machine.Loaded.{Loaded}
use Rattle.cjc_card_semantics.specs.Machine.Classes.{Class}
use Rattle.cjc_card_semantics.specs.Machine.Operations.{OnInterface, Resolved, class_at, element_type, entry, operation}
use Rattle.cjc_card_semantics.specs.Machine.Operations.{or_undone, using}
use Rattle.cjc_card_frame.specs.Frame.Frames.{Words}
use Rattle.cjc_card_frame.specs.Kinds.{pool_of}
use Rattle.cjc_card_step.specs.declared.effects.deed.Deed.{Deed}
use Rattle.cjc_card_step.specs.declared.effects.deed.Deed.TheVariants.{Stick}
use Rattle.cjc_card_step.specs.Effects.Deeds.{FollowsRow, MemoryByToken}
use Rattle.cjc_card_step.specs.Rows.{natural, row_of, target_of, used}

-- an entry that is used is used as what it names
pub used_as : {X : Type 0} (l : Loaded) (p : ℕ) (how : Use) (index : ℤ) (f : PoolEntry → Option X) (make : X
    → Resolved) (x : Option X) → ((item : PoolEntry) → using l p how item ≡ option_map make (f item))
    → x ≡ option_and_then f (entry (pool_of l p) index) → used l p how index ≡ or_undone (option_map make x)
used_as {X} l p how index f make x same e = by (entry (pool_of l p) index)
    ∙ ap (λ (o : Option X). or_undone (option_map make o)) (sym e)
  where
    by : (o : Option PoolEntry) → or_undone (option_and_then (using l p how) o)
        ≡ or_undone (option_map make (option_and_then f o))
    by None = refl
    by (Some item) = ap or_undone (same item)

-- a row of an operation that is another
pub row_as : (l : Loaded) (o p : Resolved) (room : ℕ) (deed : Deed) (old new : Words) (m m' : MemoryByToken) → o ≡ p
    → FollowsRow (row_of l p room) deed old new m m' → FollowsRow (row_of l o room) deed old new m m'
row_as l o p room deed old new m m' e h = subst (λ (q : Resolved). FollowsRow (row_of l q room) deed old new m m')
    (sym e) h

-- nothing applies where an operation is none
pub stuck_as : (l : Loaded) (o : Resolved) (room : ℕ) (w : Words) (m : MemoryByToken) → o ≡ Undone
    → FollowsRow (row_of l o room) Stick w w m m
stuck_as l o room w m e = row_as l o Undone room Stick w w m m e (λ next. record { same = refl; keeps = (refl, refl) })

-- ---- operands

-- a call of an interface's method
interface_call : Option ℕ → Option ℕ → Option Class → Resolved
interface_call (Some w) (Some t) class = or_undone (option_map (λ c. Call (OnInterface w c t)) class)
interface_call words token class = Undone

pub calls_interface : (l : Loaded) (p at : ℕ) (table : List ℤ) (w k t : ℤ) (words token : ℕ) (class : Option Class)
    → Some words ≡ natural w → Some token ≡ natural t → class ≡ class_at l p (entry (pool_of l p) k)
    → operation l p (pool_of l p) at CallsInterface (w ∷ k ∷ t ∷ []) table
    ≡ or_undone (option_map (λ c. Call (OnInterface words c token)) class)
calls_interface l p at table (negsuc w) k t words token class a b c = absurd cc
calls_interface l p at table (pos w) k (negsuc t) words token class a b c = absurd cc
calls_interface l p at table (pos w) k (pos t) words token class a b c =
    let same_words : w ≡ words = cc a in
    let same_token : t ≡ token = cc b in
    ap (λ (o : Option Class). or_undone (option_map (λ c. Call (OnInterface w c t)) o)) (sym c)
    ∙ ap (λ n. or_undone (option_map (λ c. Call (OnInterface n c t)) class)) same_words
    ∙ ap (λ n. or_undone (option_map (λ c. Call (OnInterface words c n)) class)) same_token

pub no_words : (l : Loaded) (p at : ℕ) (table : List ℤ) (w k t : ℤ) → None ≡ natural w
    → operation l p (pool_of l p) at CallsInterface (w ∷ k ∷ t ∷ []) table ≡ Undone
no_words l p at table (pos w) k t e = absurd cc
no_words l p at table (negsuc w) k t e = refl

pub no_token : (l : Loaded) (p at : ℕ) (table : List ℤ) (w k t : ℤ) → None ≡ natural t
    → operation l p (pool_of l p) at CallsInterface (w ∷ k ∷ t ∷ []) table ≡ Undone
no_token l p at table (negsuc w) k t e = refl
no_token l p at table (pos w) k (pos t) e = absurd cc
no_token l p at table (pos w) k (negsuc t) e = refl

-- newarray by the number of its type
pub makes_numbers : (l : Loaded) (p at : ℕ) (table : List ℤ) (z : ℤ) (n : Option ℕ) → n ≡ natural z
    → operation l p (pool_of l p) at MakesNumbers (z ∷ []) table
    ≡ or_undone (option_map NewNumbers (option_and_then element_type n))
makes_numbers l p at table (pos k) n e = ap (λ o. or_undone (option_map NewNumbers (option_and_then element_type o)))
    (sym e)
makes_numbers l p at table (negsuc k) n e = ap (λ o. or_undone (option_map NewNumbers (option_and_then element_type o)))
    (sym e)

-- checkcast and instanceof by the type that they name
pub casts : (l : Loaded) (p at : ℕ) (table operands : List ℤ) → operation l p (pool_of l p) at Casts operands table
    ≡ or_undone (option_map Cast (target_of l p operands))
casts l p at table [] = refl
casts l p at table (pos n ∷ []) = refl
casts l p at table (negsuc n ∷ []) = refl
casts l p at table (pos n ∷ k ∷ []) = refl
casts l p at table (negsuc n ∷ k ∷ []) = refl
casts l p at table (pos n ∷ k ∷ w ∷ rest) = refl
casts l p at table (negsuc n ∷ k ∷ w ∷ rest) = refl

pub asks : (l : Loaded) (p at : ℕ) (table operands : List ℤ) → operation l p (pool_of l p) at Asks operands table
    ≡ or_undone (option_map Ask (target_of l p operands))
asks l p at table [] = refl
asks l p at table (pos n ∷ []) = refl
asks l p at table (negsuc n ∷ []) = refl
asks l p at table (pos n ∷ k ∷ []) = refl
asks l p at table (negsuc n ∷ k ∷ []) = refl
asks l p at table (pos n ∷ k ∷ w ∷ rest) = refl
asks l p at table (negsuc n ∷ k ∷ w ∷ rest) = refl
