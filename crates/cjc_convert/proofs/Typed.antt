-- What methods break of 501 to 503, as a list.
use Rattle.std.proofs.Common.{◌≡◌, ◌⊎◌, inl, inr, ℕ, zero, suc, ◌+◌, ◌<◌, ◌≤◌, List, [], ◌∷◌, ◌++◌, Option, Some, None, Result, Ok, Err, IfErr, OnOk, length, get_or, refl, sym, ap, subst, ◌∙◌, ⊎_elim, arith}
use Rattle.std.specs.Prelude.{slice_get}
use Rattle.std.proofs.lemmas.Bool.{cases_lt}
use Rattle.std.proofs.lemmas.Option.{slice_get_within}
use Rattle.cjc_bytes.specs.Refused.{IsUnlessNoMemory}
use Rattle.cjc_bytes.specs.declared.fault.Fault.{Fault}
use Rattle.cjc_bytes.specs.declared.fault.Fault.TheVariants as faults
use Rattle.cjc_bytes.specs.declared.fault.Refusal.{Refusal}
use Rattle.cjc_classfile.specs.Code.{CodeTree}
use Rattle.cjc_classfile.specs.declared.tree.ClassTree.{ClassTree}
use Rattle.cjc_classfile.specs.declared.tree.MethodTree.{MethodTree}
use Rattle.cjc_code.specs.declared.method_code.MethodCode.{MethodCode}
use Rattle.cjc_subset.specs.Places.{file_of, IsFirstOf}
use Rattle.cjc_types.specs.declared.table.TypeTable.{TypeTable}
use Rattle.cjc_types.specs.Flow.{body_of}
use Rattle.cjc_types.specs.Tables.{IsMethodOf, IsRefusedBy}
use Rattle.cjc_world.specs.Classes.{all_classes}
use Rattle.cjc_world.specs.Files.{Files}
use Rattle.cjc_world.specs.Rules.{Break, Among, foremost, after, IsFirst}
use Rattle.cjc_bytes.specs.Order.{numbers, AreUpTo, NotAfter}
use Rattle.cjc_convert.specs.Rules.{type_break, BreaksType, BreaksAnyType, IsListOf, IsFirstIn, IsFirstFault}
use Rattle.cjc_convert.proofs.Firsts.{among_left, among_right, among_split, none_among}
use Rattle.cjc_convert.proofs.Lists.{item_at}

up_to_itself : (xs : List ℕ) → AreUpTo xs xs
up_to_itself [] = tt
up_to_itself (x ∷ xs) = inr (refl, up_to_itself xs)

-- the one of a list is its first
pub one_first : (b : Break) → IsFirst b (b ∷ [])
one_first b = record { among = foremost; least = below }
  where
    below : (a : Break) → Among a (b ∷ []) → NotAfter b.rank a.rank
    below a foremost = up_to_itself (numbers b.rank)
    below a (after i) = absurd (none_among a i)

-- ---- one method

some_same : {A : Type 0} {o : Option A} (x y : A) → o ≡ Some x → o ≡ Some y → x ≡ y
some_same x y e f = let g = sym e ∙ f in cc

module _ (files : Files) (code : MethodCode) (class : ClassTree) (method : MethodTree) (tree : CodeTree) (here : IsMethodOf files code class method tree) where
  abbrev IsRefusal : Refusal → Type 0
  IsRefusal r = IsRefusedBy (all_classes files) (file_of files.lines code.class).name class method (body_of class method tree code.insns) r

  -- a break of the method is by its own class, method and code
  refusal_of : (b : Break) → BreaksType files code b → (r : Refusal) × IsRefusal r × (b ≡ type_break files code class method r)
  refusal_of b h =
      let c : h.class ≡ class = some_same h.class class h.of_package.is_class here.is_class in
      let m : h.method ≡ method = some_same h.method method h.of_package.is_method (ap (λ (x : ClassTree). slice_get x.methods code.method) c ∙ here.is_method) in
      let t : h.tree ≡ tree = some_same h.tree tree h.of_package.is_code (ap (λ (x : MethodTree). x.code) m ∙ here.is_code) in
      let P : ClassTree → MethodTree → CodeTree → Type 0 = λ c m t. IsRefusedBy (all_classes files) (file_of files.lines code.class).name c m (body_of c m t code.insns) h.refusal in (
        h.refusal,
        subst (λ (t : CodeTree). P class method t) t (subst (λ (m : MethodTree). P class m h.tree) m (subst (λ (c : ClassTree). P c h.method h.tree) c h.breaks)),
        h.is ∙ ap (λ (c : ClassTree). type_break files code c h.method h.refusal) c ∙ ap (λ (m : MethodTree). type_break files code class m h.refusal) m,
      )

  -- where types are inferred nothing is broken
  pub inferred_none : (table : TypeTable) → ((r : Refusal) → IsRefusal r → IsUnlessNoMemory (Ok table) (Err (faults.Refused r))) → IsFirstIn (BreaksType files code) None
  inferred_none table breaks = ([], λ b. (λ i. absurd (none_among b i), λ h. absurd (no b h)), refl)
    where
      no : (b : Break) → BreaksType files code b → ⊥
      no b h = let found = refusal_of b h in elim (breaks found.0 found.1) [ inl e ↦ absurd cc | inr e ↦ absurd cc ]

  -- a refusal is the only break
  pub refused_one : (r : Refusal) (o : Option Break) → o ≡ Some (type_break files code class method r) → IsRefusal r
      → ((s : Refusal) → IsRefusal s → IsUnlessNoMemory {X = TypeTable} (Err (faults.Refused r)) (Err (faults.Refused s))) → IsFirstIn (BreaksType files code) o
  refused_one r o is this breaks = (
    one ∷ [],
    λ b. (λ i. own b i, λ h. same b h),
    subst (IsFirstOf (one ∷ [])) (sym is) (one_first one),
  )
    where
      one : Break
      one = type_break files code class method r

      only : (b : Break) → Among b (one ∷ []) → b ≡ one
      only b foremost = refl
      only b (after i) = absurd (none_among b i)

      own : (b : Break) → Among b (one ∷ []) → BreaksType files code b
      own b i = subst (BreaksType files code) (sym (only b i)) (record { class = class; method = method; tree = tree; of_package = here; refusal = r; breaks = this; is = refl })

      same : (b : Break) → BreaksType files code b → Among b (one ∷ [])
      same b h =
          let found = refusal_of b h in
          let e : found.0 ≡ r = elim (breaks found.0 found.1) [ inl e ↦ (let f : r ≡ found.0 = cc in sym f) | inr e ↦ absurd cc ] in
          subst (λ (x : Break). Among x (one ∷ [])) (sym (found.2 ∙ ap (type_break files code class method) e)) foremost

-- what stands at a place of a list, by another name for the list
pub at_is : {A : Type 0} (xs ys : List A) (i : ℕ) (x y : A) → xs ≡ ys → slice_get ys i ≡ Some y → x ≡ get_or xs i x → x ≡ y
at_is xs ys i x y same at is = let e = ap (λ zs. slice_get zs i) same ∙ at in some_same x y (item_at xs i x (slice_get_within xs i y e) is) e

-- the refusal of an error, where memory did not run out
pub refused_this : (P : Refusal → Type 0) (r : Refusal) (e : Fault) → e ≡ faults.Refused r → (e ≡ faults.NoMemory) ⊎ ((s : Refusal) × P s × (e ≡ faults.Refused s)) → P r
refused_this P r e is (inl memory) = absurd (let f = sym is ∙ memory in cc)
refused_this P r e is (inr (s, p, same)) = let f : s ≡ r = (let g = sym same ∙ is in cc) in subst P f p

-- what is read at a place of a list does not depend on what is read past its end
pub read_twice : {A : Type 0} (xs : List A) (i : ℕ) (d : A) → i < length xs → get_or xs i d ≡ get_or xs i (get_or xs i d)
read_twice [] i d lt = absurd (omega arith)
read_twice (x ∷ xs) zero d lt = refl
read_twice (x ∷ xs) (suc i) d lt = by xs i d (get_or xs i d) (omega arith)
  where
    by : {A : Type 0} (xs : List A) (i : ℕ) (d e : A) → i < length xs → get_or xs i d ≡ get_or xs i e
    by [] i d e lt = absurd (omega arith)
    by (x ∷ xs) zero d e lt = refl
    by (x ∷ xs) (suc i) d e lt = by xs i d e (omega arith)

-- ---- method after method

-- of the first so many
abbrev pub BreaksBelow : Files → List MethodCode → ℕ → Break → Type 0
BreaksBelow files codes bound b = (i : ℕ) × (i < bound) × ((code : MethodCode) × (slice_get codes i ≡ Some code) × BreaksType files code b)

pub none_below : (files : Files) (codes : List MethodCode) → IsFirstIn (BreaksBelow files codes 0) None
none_below files codes = ([], λ b. (λ i. absurd (none_among b i), λ h. absurd (let lt = h.1 in omega (arith, lt))), refl)

-- one more
pub more_below : (files : Files) (codes : List MethodCode) (i : ℕ) (code : MethodCode) (o p q : Option Break) → i < length codes → code ≡ get_or codes i code → ((xs ys : List Break) → IsFirstOf xs o → IsFirstOf ys p → IsFirstOf (xs ++ ys) q)
    → IsFirstIn (BreaksBelow files codes i) o → IsFirstIn (BreaksType files code) p → IsFirstIn (BreaksBelow files codes (i + 1)) q
more_below files codes i code o p q lt is joins (xs, all, first) (ys, more, next) = (xs ++ ys, λ b. (λ j. own b (among_split b xs ys j), λ h. into b h), joins xs ys first next)
  where
    at : slice_get codes i ≡ Some code
    at = item_at codes i code lt is

    own : (b : Break) → Among b xs ⊎ Among b ys → BreaksBelow files codes (i + 1) b
    own b (inl j) = let h = (all b).0 j in let below = h.1 in (h.0, omega (arith, below), h.2)
    own b (inr j) = (i, omega arith, (code, at, (more b).0 j))

    into : (b : Break) → BreaksBelow files codes (i + 1) b → Among b (xs ++ ys)
    into b h = let below = h.1 in ⊎_elim
        (λ before. among_left b xs ys ((all b).1 (h.0, before, h.2)))
        (λ not. among_right b xs ys ((more b).1 (by h.0 h.2.0 (let e : h.0 ≡ i = omega (arith, below, not) in e) h.2.1 h.2.2)))
        (cases_lt h.0 i)
      where
        by : (k : ℕ) (c : MethodCode) → k ≡ i → slice_get codes k ≡ Some c → BreaksType files c b → BreaksType files code b
        by k c e there h = subst (λ (x : MethodCode). BreaksType files x b) (some_same c code there (ap (slice_get codes) e ∙ at)) h

-- and all of them
pub all_below : (files : Files) (codes : List MethodCode) (i : ℕ) (o : Option Break) → length codes ≤ i → IsFirstIn (BreaksBelow files codes i) o → IsFirstIn (BreaksAnyType files codes) o
all_below files codes i o low (xs, all, first) = (xs, λ b. (λ j. let h = (all b).0 j in (h.0, h.2.0, h.2.1, h.2.2), λ h. (all b).1 (into b h)), first)
  where
    into : (b : Break) → BreaksAnyType files codes b → BreaksBelow files codes i b
    into b h = (h.0, (let lt = slice_get_within codes h.0 h.1 h.2 in omega (arith, lt, low)), (h.1, h.2, h.3))

-- ---- what is answered

pub none_of : (G : Break → Type 0) (o : Option Break) (bs : List Break) → IsListOf G bs → bs ≡ [] → (b : Break) → G b → ⊥
none_of G o bs all is b h = none_among b (subst (Among b) is ((all b).1 h))

pub first_of : (G : Break → Type 0) (bs : List Break) (e : Fault) → IsListOf G bs → (e ≡ faults.NoMemory) ⊎ ((b : Break) × IsFirst b bs × (e ≡ faults.Refused b.refusal)) → IsFirstFault G e
first_of G bs e all (inl memory) = inl memory
first_of G bs e all (inr (b, first, is)) =
    inr (b.refusal, record { broken = b; first = record { breaks = (all b).0 first.among; least = λ a h. first.least a ((all a).1 h) }; is = refl }, is)

pub on_ok : {A E : Type 0} {P Q : Type 0} (r : Result A E) → (P → Q) → OnOk r P → OnOk r Q
on_ok (Ok a) f p = f p
on_ok (Err e) f p = p

pub if_err : {A E : Type 0} {P Q : E → Type 0} (r : Result A E) → ((e : E) → P e → Q e) → IfErr r P → IfErr r Q
if_err (Ok a) f p = p
if_err (Err e) f p = f e p
