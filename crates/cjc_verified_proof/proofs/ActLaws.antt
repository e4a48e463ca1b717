-- Where the type checker takes an instruction to lead: to the offsets of its jumps alone, and to the next one where its
-- row says so; what hands nothing on breaks a rule.
use Rattle.std.proofs.Common.{◌≡◌, ℕ, zero, suc, ◌==◌, refl, sym, ap, subst, ◌∙◌, Bool, true, false, List, [], ◌∷◌, map}
use Rattle.std.proofs.Common.{inl, inr, ◌⊎◌, Option, Some, None, ℤ, pos, negsuc}
use Rattle.std.specs.Prelude.{if◌then◌else◌, ◌&&◌, ◌/◌, ◌%◌, not, ◌||◌, ◌+◌}
use Rattle.cjc_capread.specs.declared.tree.ClassRef.{ClassRef}
use Rattle.cjc_capread.specs.declared.tree.PoolEntry.{PoolEntry}
use Rattle.cjc_capread.specs.declared.tree.PoolEntry.TheVariants.{Classref, InstanceFieldref, VirtualMethodref}
use Rattle.cjc_capread.specs.declared.tree.PoolEntry.TheVariants.{SuperMethodref, StaticFieldref, StaticMethodref}
use Rattle.cjc_capread.specs.Decode.{Instruction}
use Rattle.cjc_check_rules.specs.Instructions.{jumps}
use Rattle.cjc_check_rules.specs.Spots.{Placed}
use Rattle.cjc_card_semantics.specs.Bytecode.Calculations.{is_copy, is_swap}
use Rattle.cjc_card_semantics.specs.Bytecode.Effects.{Letter, Reference, Byte, Short, Int}
use Rattle.cjc_card_semantics.specs.Bytecode.Meanings.{Use, Gets, Puts, GetsStatic, PutsStatic, Calls, Makes}
use Rattle.cjc_card_semantics.specs.Bytecode.Meanings.{MakesReferences, Virtual, Special, Static}
use Rattle.cjc_card_semantics.specs.Machine.Operations.{moved}
use Rattle.cjc_verify.specs.Frames.declared.acts.Act.{Act}
use Rattle.cjc_card_acts.specs.CardTypes.{MemberType, ValueType, numbers_type}
use Rattle.cjc_card_acts.specs.Rows.{Row, Pushes, Loads, Stores, Increases, Pops, Copies, CopiesBelow, Swaps}
use Rattle.cjc_card_acts.specs.Rows.{Calculates}
use Rattle.cjc_card_acts.specs.Rows.{LoadsItem, StoresItem, CountsItems, Throws, Jumps, Switches, Returns, Uses}
use Rattle.cjc_card_acts.specs.Rows.{CallsInterface, MakesNumbers, Casts, Asks, Forbidden}
use Rattle.cjc_card_acts.specs.Rows.{copying, copying_below, increasing, loading, storing, swapping, swapping_by}
use Rattle.cjc_card_acts.specs.Rows.{unknown}
use Rattle.cjc_card_acts.specs.Rows.{with_local, with_number}
use Rattle.cjc_verify.specs.ClassTypes.{class_type}
use Rattle.cjc_verify.specs.Instructions.{act_by, asking, by_interface, calling_interface, calling_through, casting}
use Rattle.cjc_verify.specs.Instructions.{class_in, making_numbers, tested_type, testing, using, using_entry}
use Rattle.cjc_verify.specs.Instructions.{using_some}
use Rattle.cjc_verify.specs.Named.{entry_of, entry_type, interface_type}
use Rattle.cjc_verify.specs.Pairs.{Pair}

-- it leads to the next instruction alone, where it leads on
abbrev IsCalm : Act → Type 0
IsCalm a = (a.targets ≡ []) × (a.ends ≡ true → a.misnames ≡ true) × (a.falls ≡ true)

calm_local : (act : ℕ → Act) → ((k : ℕ) → IsCalm (act k)) → (o : Option ℕ) (zs : List ℤ) → IsCalm (with_local act o zs)
calm_local act calm (Some k) zs = calm k
calm_local act calm None [] = (refl, λ e. cc, refl)
calm_local act calm None (pos k ∷ zs) = calm k
calm_local act calm None (negsuc k ∷ zs) = (refl, λ e. cc, refl)

calm_number : (act : ℕ → Act) → ((k : ℕ) → IsCalm (act k)) → (zs : List ℤ) → IsCalm (with_number act zs)
calm_number act calm [] = (refl, λ e. cc, refl)
calm_number act calm (pos k ∷ zs) = calm k
calm_number act calm (negsuc k ∷ zs) = (refl, λ e. cc, refl)

calm_loading : (letter : Letter) (k : ℕ) → IsCalm (loading letter k)
calm_loading Reference k = (refl, λ e. cc, refl)
calm_loading Byte k = (refl, λ e. cc, refl)
calm_loading Short k = (refl, λ e. cc, refl)
calm_loading Int k = (refl, λ e. cc, refl)

calm_storing : (letter : Letter) (k : ℕ) → IsCalm (storing letter k)
calm_storing Reference k = (refl, λ e. cc, refl)
calm_storing Byte k = (refl, λ e. cc, refl)
calm_storing Short k = (refl, λ e. cc, refl)
calm_storing Int k = (refl, λ e. cc, refl)

calm_increasing : (letter : Letter) (k : ℕ) → IsCalm (increasing letter k)
calm_increasing Reference k = (refl, λ e. cc, refl)
calm_increasing Byte k = (refl, λ e. cc, refl)
calm_increasing Short k = (refl, λ e. cc, refl)
calm_increasing Int k = (refl, λ e. cc, refl)

calm_below : (b : ℕ) → IsCalm (copying_below b)
calm_below b = by (is_copy (b / 16) (b % 16)) (b % 16 == 0)
  where
    by : (s t : Bool) → IsCalm (if s then copying (b / 16) (if t then b / 16 else b % 16) else unknown)
    by true t = (refl, λ e. cc, refl)
    by false t = (refl, λ e. cc, refl)

calm_swapping : (b : ℕ) → IsCalm (swapping_by b)
calm_swapping b = by (is_swap (b / 16) && is_swap (b % 16))
  where
    by : (s : Bool) → IsCalm (if s then swapping (b / 16) (b % 16) else unknown)
    by true = (refl, λ e. cc, refl)
    by false = (refl, λ e. cc, refl)

calm_using : (p : Pair) (how : Use) (t : MemberType) (item : PoolEntry) → IsCalm (using p how t item)
calm_using p (Gets this letter) t (Classref class) = (refl, λ e. cc, refl)
calm_using p (Gets this letter) t (InstanceFieldref class token) = (refl, λ e. cc, refl)
calm_using p (Gets this letter) t (VirtualMethodref class token) = (refl, λ e. cc, refl)
calm_using p (Gets this letter) t (SuperMethodref class token) = (refl, λ e. cc, refl)
calm_using p (Gets this letter) t (StaticFieldref field) = (refl, λ e. cc, refl)
calm_using p (Gets this letter) t (StaticMethodref method) = (refl, λ e. cc, refl)
calm_using p (Puts this letter) t (Classref class) = (refl, λ e. cc, refl)
calm_using p (Puts this letter) t (InstanceFieldref class token) = (refl, λ e. cc, refl)
calm_using p (Puts this letter) t (VirtualMethodref class token) = (refl, λ e. cc, refl)
calm_using p (Puts this letter) t (SuperMethodref class token) = (refl, λ e. cc, refl)
calm_using p (Puts this letter) t (StaticFieldref field) = (refl, λ e. cc, refl)
calm_using p (Puts this letter) t (StaticMethodref method) = (refl, λ e. cc, refl)
calm_using p (GetsStatic letter) t (Classref class) = (refl, λ e. cc, refl)
calm_using p (GetsStatic letter) t (InstanceFieldref class token) = (refl, λ e. cc, refl)
calm_using p (GetsStatic letter) t (VirtualMethodref class token) = (refl, λ e. cc, refl)
calm_using p (GetsStatic letter) t (SuperMethodref class token) = (refl, λ e. cc, refl)
calm_using p (GetsStatic letter) t (StaticFieldref field) = (refl, λ e. cc, refl)
calm_using p (GetsStatic letter) t (StaticMethodref method) = (refl, λ e. cc, refl)
calm_using p (PutsStatic letter) t (Classref class) = (refl, λ e. cc, refl)
calm_using p (PutsStatic letter) t (InstanceFieldref class token) = (refl, λ e. cc, refl)
calm_using p (PutsStatic letter) t (VirtualMethodref class token) = (refl, λ e. cc, refl)
calm_using p (PutsStatic letter) t (SuperMethodref class token) = (refl, λ e. cc, refl)
calm_using p (PutsStatic letter) t (StaticFieldref field) = (refl, λ e. cc, refl)
calm_using p (PutsStatic letter) t (StaticMethodref method) = (refl, λ e. cc, refl)
calm_using p (Calls Virtual) t (Classref class) = (refl, λ e. cc, refl)
calm_using p (Calls Virtual) t (InstanceFieldref class token) = (refl, λ e. cc, refl)
calm_using p (Calls Virtual) t (VirtualMethodref class token) = (refl, λ e. cc, refl)
calm_using p (Calls Virtual) t (SuperMethodref class token) = (refl, λ e. cc, refl)
calm_using p (Calls Virtual) t (StaticFieldref field) = (refl, λ e. cc, refl)
calm_using p (Calls Virtual) t (StaticMethodref method) = (refl, λ e. cc, refl)
calm_using p (Calls Special) t (Classref class) = (refl, λ e. cc, refl)
calm_using p (Calls Special) t (InstanceFieldref class token) = (refl, λ e. cc, refl)
calm_using p (Calls Special) t (VirtualMethodref class token) = (refl, λ e. cc, refl)
calm_using p (Calls Special) t (SuperMethodref class token) = (refl, λ e. cc, refl)
calm_using p (Calls Special) t (StaticFieldref field) = (refl, λ e. cc, refl)
calm_using p (Calls Special) t (StaticMethodref method) = (refl, λ e. cc, refl)
calm_using p (Calls Static) t (Classref class) = (refl, λ e. cc, refl)
calm_using p (Calls Static) t (InstanceFieldref class token) = (refl, λ e. cc, refl)
calm_using p (Calls Static) t (VirtualMethodref class token) = (refl, λ e. cc, refl)
calm_using p (Calls Static) t (SuperMethodref class token) = (refl, λ e. cc, refl)
calm_using p (Calls Static) t (StaticFieldref field) = (refl, λ e. cc, refl)
calm_using p (Calls Static) t (StaticMethodref method) = (refl, λ e. cc, refl)
calm_using p Makes t (Classref class) = (refl, λ e. cc, refl)
calm_using p Makes t (InstanceFieldref class token) = (refl, λ e. cc, refl)
calm_using p Makes t (VirtualMethodref class token) = (refl, λ e. cc, refl)
calm_using p Makes t (SuperMethodref class token) = (refl, λ e. cc, refl)
calm_using p Makes t (StaticFieldref field) = (refl, λ e. cc, refl)
calm_using p Makes t (StaticMethodref method) = (refl, λ e. cc, refl)
calm_using p MakesReferences t (Classref class) = (refl, λ e. cc, refl)
calm_using p MakesReferences t (InstanceFieldref class token) = (refl, λ e. cc, refl)
calm_using p MakesReferences t (VirtualMethodref class token) = (refl, λ e. cc, refl)
calm_using p MakesReferences t (SuperMethodref class token) = (refl, λ e. cc, refl)
calm_using p MakesReferences t (StaticFieldref field) = (refl, λ e. cc, refl)
calm_using p MakesReferences t (StaticMethodref method) = (refl, λ e. cc, refl)

calm_entry : (p : Pair) (how : Use) (zs : List ℤ) → IsCalm (using_entry p how zs)
calm_entry p how [] = (refl, λ e. cc, refl)
calm_entry p how (negsuc k ∷ zs) = (refl, λ e. cc, refl)
calm_entry p how (pos k ∷ zs) = by (entry_of p k)
  where
    by : (o : Option PoolEntry) → IsCalm (using_some p how (entry_type p k) o)
    by None = (refl, λ e. cc, refl)
    by (Some item) = calm_using p how (entry_type p k) item

calm_through : (p : Pair) (nargs token : ℕ) (o : Option ClassRef) → IsCalm (calling_through p nargs token o)
calm_through p nargs token None = (refl, λ e. refl, refl)
calm_through p nargs token (Some class) = by (interface_type p class token)
  where
    by : (o : Option MemberType) → IsCalm (calling_interface (class_type class) nargs o)
    by None = (refl, λ e. refl, refl)
    by (Some t) = (refl, λ e. cc, refl)

calm_interface : (p : Pair) (zs : List ℤ) → IsCalm (by_interface p zs)
calm_interface p [] = (refl, λ e. cc, refl)
calm_interface p (negsuc n ∷ zs) = (refl, λ e. cc, refl)
calm_interface p (pos n ∷ []) = (refl, λ e. cc, refl)
calm_interface p (pos n ∷ negsuc k ∷ zs) = (refl, λ e. cc, refl)
calm_interface p (pos n ∷ pos k ∷ []) = (refl, λ e. cc, refl)
calm_interface p (pos n ∷ pos k ∷ negsuc t ∷ zs) = (refl, λ e. cc, refl)
calm_interface p (pos n ∷ pos k ∷ pos t ∷ []) = calm_through p n t (class_in (entry_of p k))
calm_interface p (pos n ∷ pos k ∷ pos t ∷ z ∷ zs) = (refl, λ e. cc, refl)

calm_making : (o : Option (List ℕ)) → IsCalm (making_numbers o)
calm_making None = (refl, λ e. cc, refl)
calm_making (Some type) = (refl, λ e. cc, refl)

calm_casting : (o : Option (List ℕ)) → IsCalm (casting o)
calm_casting None = (refl, λ e. cc, refl)
calm_casting (Some type) = (refl, λ e. cc, refl)

calm_asking : (o : Option (List ℕ)) → IsCalm (asking o)
calm_asking None = (refl, λ e. cc, refl)
calm_asking (Some type) = (refl, λ e. cc, refl)

calm_testing : (p : Pair) (act : Option (List ℕ) → Act) → ((o : Option (List ℕ)) → IsCalm (act o)) → (zs : List ℤ)
    → IsCalm (testing p act zs)
calm_testing p act calm [] = calm None
calm_testing p act calm (negsuc n ∷ zs) = calm None
calm_testing p act calm (pos n ∷ []) = calm None
calm_testing p act calm (pos n ∷ negsuc k ∷ zs) = calm None
calm_testing p act calm (pos n ∷ pos k ∷ zs) = calm (tested_type n (class_in (entry_of p k)))

-- whether the next instruction may follow
abbrev pub may_fall : Row → Bool
may_fall Throws = false
may_fall (Jumps needs falls) = falls
may_fall (Switches n) = false
may_fall (Returns letter) = false
may_fall Forbidden = false
may_fall r = true

-- where an instruction leads
pub record Leads (a : Act) (i : Placed Instruction) (r : Row) : Type 0 where
  pub targets : (a.targets ≡ []) ⊎ (a.targets ≡ map (moved i.at) (jumps i.item))
  pub ends : a.ends ≡ true → a.misnames ≡ true
  pub falls : a.falls ≡ may_fall r

calm_leads : (a : Act) (i : Placed Instruction) (r : Row) → IsCalm a → may_fall r ≡ true → Leads a i r
calm_leads a i r h e = record { targets = inl h.0; ends = h.1; falls = h.2 ∙ sym e }

pub act_leads : (p : Pair) (result : ValueType) (i : Placed Instruction) (r : Row) → Leads (act_by p result i r) i r
act_leads p result i (Pushes words) = calm_leads _ i (Pushes words) (refl, λ e. cc, refl) refl
act_leads p result i (Loads letter local) = calm_leads _ i (Loads letter local) (calm_local (loading letter)
    (calm_loading letter) local i.item.operands) refl
act_leads p result i (Stores letter local) = calm_leads _ i (Stores letter local) (calm_local (storing letter)
    (calm_storing letter) local i.item.operands) refl
act_leads p result i (Increases letter) = calm_leads _ i (Increases letter) (calm_local (increasing letter)
    (calm_increasing letter) None i.item.operands) refl
act_leads p result i (Pops n) = calm_leads _ i (Pops n) (refl, λ e. cc, refl) refl
act_leads p result i (Copies n) = calm_leads _ i (Copies n) (refl, λ e. cc, refl) refl
act_leads p result i CopiesBelow = calm_leads _ i CopiesBelow (calm_number copying_below calm_below i.item.operands)
    refl
act_leads p result i Swaps = calm_leads _ i Swaps (calm_number swapping_by calm_swapping i.item.operands) refl
act_leads p result i (Calculates m n) = calm_leads _ i (Calculates m n) (refl, λ e. cc, refl) refl
act_leads p result i (LoadsItem letter) = calm_leads _ i (LoadsItem letter) (refl, λ e. cc, refl) refl
act_leads p result i (StoresItem letter) = calm_leads _ i (StoresItem letter) (refl, λ e. cc, refl) refl
act_leads p result i CountsItems = calm_leads _ i CountsItems (refl, λ e. cc, refl) refl
act_leads p result i Throws = record { targets = inl refl; ends = λ e. cc; falls = refl }
act_leads p result i (Jumps needs falls) = record { targets = inr refl; ends = λ e. cc; falls = refl }
act_leads p result i (Switches n) = record { targets = inr refl; ends = λ e. cc; falls = refl }
act_leads p result i (Returns letter) = record { targets = inl refl; ends = λ e. cc; falls = refl }
act_leads p result i (Uses how) = calm_leads _ i (Uses how) (calm_entry p how i.item.operands) refl
act_leads p result i CallsInterface = calm_leads _ i CallsInterface (calm_interface p i.item.operands) refl
act_leads p result i MakesNumbers = calm_leads _ i MakesNumbers (calm_number (λ n. making_numbers (numbers_type n))
    (λ n. calm_making (numbers_type n)) i.item.operands) refl
act_leads p result i Casts = calm_leads _ i Casts (calm_testing p casting calm_casting i.item.operands) refl
act_leads p result i Asks = calm_leads _ i Asks (calm_testing p asking calm_asking i.item.operands) refl
act_leads p result i Forbidden = record { targets = inl refl; ends = λ e. cc; falls = refl }
