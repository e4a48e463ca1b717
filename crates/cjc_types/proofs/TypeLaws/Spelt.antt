-- The texts of a class file: all together they are no longer than the file, and each name of its class is one of them.
use Rattle.std.proofs.Common.{◌≡◌, ℕ, zero, suc, ◌+◌, ◌-◌, ◌≤◌, Bool, true, false, List, [], ◌∷◌, Option, Some, None}
use Rattle.std.proofs.Common.{IfSome, Ok, length, slice_get, refl, sym, ap, subst, ◌∙◌, inl, inr}
use Rattle.std.proofs.Common.{arith}
use Rattle.std.specs.Prelude.{option_map, ◌==◌, nat_lt, cond}
use Rattle.std.proofs.lemmas.Option.{same_Some}
use Rattle.std.specs.List.{AllByRecursion, cons_option}
use Rattle.cjc_bytes.specs.Format.{Format, followed_by, gives, ◌>>=◌, Spells, FileSpells, repeated, in_a_row, iterated}
use Rattle.cjc_bytes.specs.Format.{u2}
use Rattle.cjc_bytes.specs.Found.{kept, all_of}
use Rattle.cjc_bytes.specs.declared.fault.MemberId.{MemberId}
use Rattle.cjc_bytes.proofs.Inverse.{InBytes, inner, given, found_is, u2_is, raw_is, number8, number16}
use Rattle.cjc_bytes.proofs.Options.{then_some}
use Rattle.cjc_classfile.specs.declared.tree.Catch.{Catch}
use Rattle.cjc_classfile.specs.declared.tree.MethodTree.{MethodTree}
use Rattle.cjc_classfile.specs.declared.tree.ClassTree.{ClassTree}
use Rattle.cjc_classfile.specs.PoolItem.{PoolItem}
use Rattle.cjc_classfile.specs.PoolItem as items
use Rattle.cjc_classfile.specs.Entry.{Entry, text, integer, class, field, method, interface_method}
use Rattle.cjc_classfile.specs.Code.{CodeTree}
use Rattle.cjc_classfile.specs.Pool.{tag_of, utf8, content, entry, entries, pool_of}
use Rattle.cjc_classfile.specs.Items.{as_text, as_desc, as_desc_of, not_empty, text_at, desc_at, desc_of_at}
use Rattle.cjc_classfile.specs.Items.{class_text_at, class_at, pair_at, class_name_at, member, item, tested, pool_items}
use Rattle.cjc_classfile.specs.Members.{desc_field, class_field, attribute, field_tree}
use Rattle.cjc_classfile.specs.CodeAttribute.{catch_class_at, catch_class, catch, code_content, code}
use Rattle.cjc_classfile.specs.Methods.{method_content, method_attribute, needs_code, method_tree}
use Rattle.cjc_classfile.specs.ClassFile.{front_part, back_part, class_file}
use Rattle.cjc_classfile.proofs.Fitting.{not_empty_is, all_fit}
use Rattle.cjc_types.specs.Names.{In}
use Rattle.cjc_types.proofs.TypeLaws.Results.{bound, kept_is, each_from}
use Rattle.cjc_types.proofs.TypeLaws.Chains.{pick}

-- ---- how long they are

-- the texts of a constant pool
unfoldable pub texts : List Entry → List (List ℕ)
texts [] = []
texts (e ∷ es) = cons_option (as_text e) (texts es)

-- the bytes that a text takes, and three before it
abbrev text_size : Option (List ℕ) → ℕ
text_size None = 0
text_size (Some t) = 3 + length t

unfoldable pub size : List (List ℕ) → ℕ
size [] = 0
size (t ∷ ts) = 3 + length t + size ts

size_cons : (o : Option (List ℕ)) (ts : List (List ℕ)) → size (cons_option o ts) ≡ text_size o + size ts
unfolding size
size_cons None ts = omega arith
size_cons (Some t) ts = refl

-- what bytes spell by this format, behind one more byte, takes as many as its text
abbrev IsSized : Format Entry → Type 0
IsSized p = (at : ℕ) (e : Entry) (bytes : List ℕ) → InBytes bytes → Spells p at e bytes
    → text_size (as_text e) ≤ suc (length bytes)

-- an entry that is no text
plain : {B : Type 0} (p : Format B) (e : B → Entry) → ((b : B) → as_text (e b) ≡ None)
    → IsSized (followed_by p (λ b. gives (e b)))
plain p e none at x bytes ok h =
    let i = inner _ _ _ _ _ ok h in
    let z : text_size (as_text (e i.x)) ≡ 0 = ap text_size (none i.x) in
    subst (λ (y : Entry). text_size (as_text y) ≤ suc (length bytes)) (given _ _ _ _ i.rest).0 (omega (arith, z))

-- one field before it
behind_one : {B : Type 0} (p : Format B) (q : B → Format Entry) → ((b : B) → IsSized (q b)) → IsSized (followed_by p q)
behind_one p q sized at e bytes ok h =
    let k = inner _ _ _ _ _ ok h in
    let s = k.sizes in
    let le = sized k.x _ e k.back k.backs k.rest in
    omega (arith, s, le)

text_sized : IsSized utf8
unfolding utf8
text_sized at e bytes ok h =
    let n = inner _ _ _ _ _ ok h in
    let count = u2_is _ _ _ n.fronts n.one in
    let b = inner _ _ _ _ _ n.backs n.rest in
    let r = raw_is _ _ _ _ b.one in
    let first = n.sizes in
    let second = b.sizes in
    let short : text_size (Some b.x) ≤ suc (length bytes) = omega (arith, count.1, r.0, r.1, first, second) in
    subst (λ (y : Entry). text_size (as_text y) ≤ suc (length bytes)) (given _ _ _ _ b.rest).0 short

tag_sized : (behind n : ℕ) (tag : _) → tag_of behind n ≡ Some tag → IsSized (content tag)
unfolding content
tag_sized behind n tag e =
    (pick (λ o. o ≡ Some tag → IsSized (content tag)) (n == 1) _ _ (λ f. subst (λ t. IsSized (content t))
    (same_Some _ tag f) (text_sized))
    (pick (λ o. o ≡ Some tag → IsSized (content tag)) (n == 3) _ _ (λ f. subst (λ t. IsSized (content t))
    (same_Some _ tag f) (plain _ _ (λ b. refl)))
    (pick (λ o. o ≡ Some tag → IsSized (content tag)) (n == 4) _ _ (λ f. subst (λ t. IsSized (content t))
    (same_Some _ tag f) (plain _ _ (λ b. refl)))
    (pick (λ o. o ≡ Some tag → IsSized (content tag)) (n == 5) _ _ (pick (λ o. o ≡ Some tag → IsSized (content tag))
    (nat_lt 0 behind) _ _ (λ f. subst (λ t. IsSized (content t)) (same_Some _ tag f) (plain _ _ (λ b. refl)))
    (λ f. absurd cc))
    (pick (λ o. o ≡ Some tag → IsSized (content tag)) (n == 6) _ _ (pick (λ o. o ≡ Some tag → IsSized (content tag))
    (nat_lt 0 behind) _ _ (λ f. subst (λ t. IsSized (content t)) (same_Some _ tag f) (plain _ _ (λ b. refl)))
    (λ f. absurd cc))
    (pick (λ o. o ≡ Some tag → IsSized (content tag)) (n == 7) _ _ (λ f. subst (λ t. IsSized (content t))
    (same_Some _ tag f) (plain _ _ (λ b. refl)))
    (pick (λ o. o ≡ Some tag → IsSized (content tag)) (n == 8) _ _ (λ f. subst (λ t. IsSized (content t))
    (same_Some _ tag f) (plain _ _ (λ b. refl)))
    (pick (λ o. o ≡ Some tag → IsSized (content tag)) (n == 9) _ _ (λ f. subst (λ t. IsSized (content t))
    (same_Some _ tag f) (plain _ _ (λ b. refl)))
    (pick (λ o. o ≡ Some tag → IsSized (content tag)) (n == 10) _ _ (λ f. subst (λ t. IsSized (content t))
    (same_Some _ tag f) (plain _ _ (λ b. refl)))
    (pick (λ o. o ≡ Some tag → IsSized (content tag)) (n == 11) _ _ (λ f. subst (λ t. IsSized (content t))
    (same_Some _ tag f) (plain _ _ (λ b. refl)))
    (pick (λ o. o ≡ Some tag → IsSized (content tag)) (n == 12) _ _ (λ f. subst (λ t. IsSized (content t))
    (same_Some _ tag f) (plain _ _ (λ b. refl)))
    (pick (λ o. o ≡ Some tag → IsSized (content tag)) (n == 15) _ _ (λ f. subst (λ t. IsSized (content t))
    (same_Some _ tag f) (behind_one _ _ (λ k. plain _ _ (λ b. refl))))
    (pick (λ o. o ≡ Some tag → IsSized (content tag)) (n == 16) _ _ (λ f. subst (λ t. IsSized (content t))
    (same_Some _ tag f) (plain _ _ (λ b. refl)))
    (pick (λ o. o ≡ Some tag → IsSized (content tag)) (n == 18) _ _ (λ f. subst (λ t. IsSized (content t))
    (same_Some _ tag f) (behind_one _ _ (λ k. plain _ _ (λ b. refl)))) (λ f. absurd cc))))))))))))))) e

entry_size : (after_wide : Bool) (behind at : ℕ) (e : Entry) (bytes : List ℕ) → InBytes bytes
    → Spells (entry after_wide behind) at e bytes → text_size (as_text e) ≤ length bytes
unfolding entry
entry_size true behind at e bytes ok h = subst (λ (y : Entry). text_size (as_text y) ≤ length bytes) (given _ _ _ _ h).0
    (omega arith)
entry_size false behind at e bytes ok h =
    let tag = inner _ _ _ _ _ ok h in
    let number = number8 (tag_of behind) _ tag.x tag.front tag.fronts tag.one in
    let one = number.sizes in
    let s = tag.sizes in
    let le = tag_sized behind number.n tag.x number.is _ e tag.back tag.backs tag.rest in
    omega (arith, one, s, le)

entries_size : (n : ℕ) (after_wide : Bool) (at : ℕ) (pool : List Entry) (bytes : List ℕ) → InBytes bytes
    → Spells (entries n after_wide) at pool bytes → size (texts pool) ≤ length bytes
unfolding entries size texts
entries_size zero after_wide at pool bytes ok h = subst (λ (es : List Entry). size (texts es) ≤ length bytes)
    (given _ _ _ _ h).0 (omega arith)
entries_size (suc n) after_wide at pool bytes ok h =
    let x = inner _ _ _ _ _ ok h in
    let xs = inner _ _ _ _ _ x.backs x.rest in
    let first = entry_size after_wide n _ x.x x.front x.fronts x.one in
    let rest = entries_size n _ _ xs.x xs.front xs.fronts xs.one in
    let s = x.sizes in
    let t = xs.sizes in
    let both = size_cons (as_text x.x) (texts xs.x) in
    subst (λ (es : List Entry). size (texts es) ≤ length bytes) (given _ _ _ _ xs.rest).0 (omega (
      arith,
      first,
      rest,
      s,
      t,
      both,
    ))

pool_size : (n at : ℕ) (pool : List Entry) (bytes : List ℕ) → InBytes bytes → Spells (pool_of n) at pool bytes
    → size (texts pool) ≤ length bytes
unfolding pool_of texts
pool_size n at pool bytes ok h =
    let x = inner _ _ _ _ _ ok h in
    let s = x.sizes in
    let le = entries_size n false _ x.x x.front x.fronts x.one in
    subst (λ (es : List Entry). size (texts es) ≤ length bytes) (given _ _ _ _ x.rest).0 (omega (arith, s, le))

-- ---- what is found among them

in_more : (o : Option (List ℕ)) (t : List ℕ) (ts : List (List ℕ)) → In t ts → In t (cons_option o ts)
in_more None t ts h = h
in_more (Some u) t ts h = inr h

in_texts : (pool : List Entry) (i : ℕ) (e : Entry) (t : List ℕ) → slice_get pool i ≡ Some e → as_text e ≡ Some t
    → In t (texts pool)
unfolding texts
in_texts [] i e t at is = absurd cc
in_texts (x ∷ xs) zero e t at is =
    let same : x ≡ e = cc in
    subst (λ (o : Option (List ℕ)). In t (cons_option o (texts xs))) (sym (ap as_text same ∙ is)) (inl refl)
in_texts (x ∷ xs) (suc i) e t at is = in_more (as_text x) t (texts xs) (in_texts xs i e t at is)

as_desc_text : (e : Entry) (t : List ℕ) → as_desc e ≡ Some t → as_text e ≡ Some t
as_desc_text (text b (Some is_method)) t e = e
as_desc_text _ t e = absurd cc

as_desc_of_text : (is_method : Bool) (e : Entry) (t : List ℕ) → as_desc_of is_method e ≡ Some t → as_text e ≡ Some t
as_desc_of_text true (text b (Some true)) t e = e
as_desc_of_text false (text b (Some false)) t e = e
as_desc_of_text _ _ t e = absurd cc

-- the names of an item are among these texts
abbrev pub IsItemNamed : List (List ℕ) → PoolItem → Type 0
IsItemNamed ts (items.Class name) = In name ts
IsItemNamed ts (items.Field id) = In id.desc ts
IsItemNamed ts (items.Method id) = In id.desc ts
IsItemNamed ts (items.InterfaceMethod id) = In id.desc ts
IsItemNamed ts _ = Unit {0}

abbrev pub IsCatchNamed : List (List ℕ) → Catch → Type 0
IsCatchNamed ts c = IfSome c.class (λ name. In name ts)

abbrev pub IsCodeNamed : List (List ℕ) → Option CodeTree → Type 0
IsCodeNamed ts o = IfSome o (λ c. AllByRecursion (IsCatchNamed ts) c.catches)

pub record IsMethodNamed (ts : List (List ℕ)) (m : MethodTree) : Type 0 where
  pub desc : In m.desc ts
  pub catches : IsCodeNamed ts m.code

pub record IsClassNamed (ts : List (List ℕ)) (c : ClassTree) : Type 0 where
  pub name : In c.name ts
  pub methods : AllByRecursion (IsMethodNamed ts) c.methods
  pub items : (k : ℕ) (x : PoolItem) → slice_get c.pool k ≡ Some x → IsItemNamed ts x

module _ (pool : List Entry) where
  text_in : (i : ℕ) (t : List ℕ) → text_at pool i ≡ Some t → In t (texts pool)
  unfolding text_at
  text_in i t e = let f = then_some as_text (slice_get pool i) t e in in_texts pool i f.0 t f.1 f.2

  desc_in : (i : ℕ) (t : List ℕ) → desc_at pool i ≡ Some t → In t (texts pool)
  unfolding desc_at
  desc_in i t e = let f = then_some as_desc (slice_get pool i) t e in in_texts pool i f.0 t f.1 (as_desc_text f.0 t f.2)

  desc_of_in : (is_method : Bool) (i : ℕ) (t : List ℕ) → desc_of_at pool is_method i ≡ Some t → In t (texts pool)
  unfolding desc_of_at
  desc_of_in is_method i t e = let f = then_some (as_desc_of is_method) (slice_get pool i) t e
      in in_texts pool i f.0 t f.1 (as_desc_of_text is_method f.0 t f.2)

  class_text_in : (i : ℕ) (t : List ℕ) → class_text_at pool i ≡ Some t → In t (texts pool)
  unfolding class_text_at
  class_text_in i t e =
      let g = then_some not_empty (text_at pool i) t e in
      subst (λ (u : List ℕ). In u (texts pool)) (not_empty_is g.0 t g.2) (text_in i g.0 g.1)

  class_in : (i : ℕ) (t : List ℕ) → class_name_at pool i ≡ Some t → In t (texts pool)
  unfolding class_name_at
  class_in i t e =
      let f = then_some (λ name. class_text_at pool name.to) (class_at pool i) t e in
      class_text_in f.0.to t f.2

  -- ---- items

  member_in : (owner pair : _) (id : MemberId) → member pool owner pair ≡ Ok id → In id.desc (texts pool)
  unfolding member
  member_in owner pair id e =
      let c = bound (kept owner.at (class_name_at pool owner.to)) _ id e in
      let m = bound (kept pair.at (pair_at pool pair.to)) _ id c.2 in
      let n = bound (kept m.0.0.at (text_at pool m.0.0.to)) _ id m.2 in
      let d = bound (kept m.0.1.at (desc_at pool m.0.1.to)) _ id n.2 in
      let same : d.0 ≡ id.desc = cc (d.2) in
      subst (λ (u : List ℕ). In u (texts pool)) same (desc_in m.0.1.to d.0 (kept_is m.0.1.at (desc_at pool m.0.1.to) d.0
      d.1))

  item_in : (e : Entry) (x : PoolItem) → item pool e ≡ Ok x → IsItemNamed (texts pool) x
  unfolding item
  item_in (integer n) x h = let same : items.Int n ≡ x = cc in subst (IsItemNamed (texts pool)) same tt
  item_in (class name) x h =
      let n = bound (kept name.at (class_text_at pool name.to)) _ x h in
      let same : items.Class n.0 ≡ x = cc (n.2) in
      subst (IsItemNamed (texts pool)) same (class_text_in name.to n.0 (kept_is name.at (class_text_at pool name.to) n.0
      n.1))
  item_in (field owner pair) x h =
      let m = bound (member pool owner pair) _ x h in
      let same : items.Field m.0 ≡ x = cc (m.2) in
      subst (IsItemNamed (texts pool)) same (member_in owner pair m.0 m.1)
  item_in (method owner pair) x h =
      let m = bound (member pool owner pair) _ x h in
      let same : items.Method m.0 ≡ x = cc (m.2) in
      subst (IsItemNamed (texts pool)) same (member_in owner pair m.0 m.1)
  item_in (interface_method owner pair) x h =
      let m = bound (member pool owner pair) _ x h in
      let same : items.InterfaceMethod m.0 ≡ x = cc (m.2) in
      subst (IsItemNamed (texts pool)) same (member_in owner pair m.0 m.1)
  item_in _ x h = let same : items.Other ≡ x = cc in subst (IsItemNamed (texts pool)) same tt

  items_in : (xs : List PoolItem) → pool_items pool ≡ Ok xs → (k : ℕ) (x : PoolItem) → slice_get xs k ≡ Some x
      → IsItemNamed (texts pool) x
  unfolding pool_items
  items_in xs e k x at =
      let passed = bound (all_of (tested pool) pool) _ xs e in
      let one = each_from (item pool) pool xs passed.2 k x at in
      item_in one.0 x one.1

  -- ---- fields of the file

  desc_field_in : (is_method : Bool) (at : ℕ) (t : List ℕ) (bytes : List ℕ) → InBytes bytes
      → Spells (desc_field pool is_method) at t bytes → In t (texts pool)
  unfolding desc_field
  desc_field_in is_method at t bytes ok h = let k = number16 (desc_of_at pool is_method) at t bytes ok h
      in desc_of_in is_method k.n t k.is

  class_field_in : (at : ℕ) (t : List ℕ) (bytes : List ℕ) → InBytes bytes → Spells (class_field pool) at t bytes
      → In t (texts pool)
  unfolding class_field
  class_field_in at t bytes ok h = let k = number16 (class_name_at pool) at t bytes ok h in class_in k.n t k.is

  catch_class_in : (at : ℕ) (o : Option (List ℕ)) (bytes : List ℕ) → InBytes bytes
      → Spells (catch_class pool) at o bytes → IfSome o (λ t. In t (texts pool))
  unfolding catch_class catch_class_at
  catch_class_in at o bytes ok h = let k = number16 (catch_class_at pool) at o bytes ok h
      in go (k.n == 0) (class_name_at pool k.n) (class_in k.n) k.is
    where
      go : (b : Bool) (c : Option (List ℕ)) → ((t : List ℕ) → c ≡ Some t → In t (texts pool))
          → cond b (Some None) (option_map Some c) ≡ Some o → IfSome o (λ t. In t (texts pool))
      go true c has e = let same : None ≡ o = cc in subst (λ (x : Option (List ℕ)). IfSome x (λ t. In t (texts pool)))
          same tt
      go false None has e = absurd cc
      go false (Some t) has e = let same : Some t ≡ o = cc
          in subst (λ (x : Option (List ℕ)). IfSome x (λ t. In t (texts pool))) same (has t refl)

  catch_in : (size at : ℕ) (c : Catch) (bytes : List ℕ) → InBytes bytes → Spells (catch pool size) at c bytes
      → IsCatchNamed (texts pool) c
  unfolding catch
  catch_in size at c bytes ok h =
      let start_place = inner _ _ _ _ _ ok h in
      let start = inner _ _ _ _ _ start_place.backs start_place.rest in
      let end_place = inner _ _ _ _ _ start.backs start.rest in
      let end = inner _ _ _ _ _ end_place.backs end_place.rest in
      let ordered = inner _ _ _ _ _ end.backs end.rest in
      let inside = inner _ _ _ _ _ ordered.backs ordered.rest in
      let target = inner _ _ _ _ _ inside.backs inside.rest in
      let caught = inner _ _ _ _ _ target.backs target.rest in
      subst (IsCatchNamed (texts pool)) (given _ _ _ _ caught.rest).0 (catch_class_in _ caught.x caught.front
      caught.fronts caught.one)

  abbrev AreNamed : CodeTree → Type 0
  AreNamed c = AllByRecursion (IsCatchNamed (texts pool)) c.catches

  content_in : (at : ℕ) (c : CodeTree) (bytes : List ℕ) → InBytes bytes → Spells (code_content pool) at c bytes
      → AreNamed c
  unfolding code_content
  content_in at c bytes ok h =
      let stack = inner _ _ _ _ _ ok h in
      let locals = inner _ _ _ _ _ stack.backs stack.rest in
      let size = inner _ _ _ _ _ locals.backs locals.rest in
      let run = inner _ _ _ _ _ size.backs size.rest in
      let count = inner _ _ _ _ _ run.backs run.rest in
      let catches = inner _ _ _ _ _ count.backs count.rest in
      let free_count = inner _ _ _ _ _ catches.backs catches.rest in
      let free = inner _ _ _ _ _ free_count.backs free_count.rest in
      subst AreNamed (given _ _ _ _ free.rest).0 (all_fit (catch pool size.x) (IsCatchNamed (texts pool))
      (catch_in size.x) count.x _ catches.x catches.front catches.fronts catches.one)

  code_in : (at : ℕ) (c : CodeTree) (bytes : List ℕ) → InBytes bytes → Spells (code pool) at c bytes → AreNamed c
  unfolding code
  code_in at c bytes ok h =
      let place = inner _ _ _ _ _ ok h in
      let size = inner _ _ _ _ _ place.backs place.rest in
      let start = inner _ _ _ _ _ size.backs size.rest in
      let tree = inner _ _ _ _ _ start.backs start.rest in
      let end = inner _ _ _ _ _ tree.backs tree.rest in
      let exact = inner _ _ _ _ _ end.backs end.rest in
      subst AreNamed (given _ _ _ _ exact.rest).0 (content_in _ tree.x tree.front tree.fronts tree.one)

  content_keeps : (is_code : Bool) (so_far : Option CodeTree) (at : ℕ) (o : Option CodeTree) (bytes : List ℕ)
      → IsCodeNamed (texts pool) so_far → InBytes bytes → Spells (method_content pool is_code so_far) at o bytes
      → IsCodeNamed (texts pool) o
  unfolding method_content
  content_keeps true so_far at o bytes named ok h =
      let tree = inner _ _ _ _ _ ok h in
      subst (IsCodeNamed (texts pool)) (given _ _ _ _ tree.rest).0 (code_in _ tree.x tree.front tree.fronts tree.one)
  content_keeps false so_far at o bytes named ok h =
      let free = inner _ _ _ _ _ ok h in
      subst (IsCodeNamed (texts pool)) (given _ _ _ _ free.rest).0 named

  attributes_keep : (needed : Bool) (n : ℕ) (so_far : Option CodeTree) (at : ℕ) (o : Option CodeTree) (bytes : List ℕ)
      → IsCodeNamed (texts pool) so_far → InBytes bytes
      → Spells (iterated n (method_attribute pool needed) so_far) at o bytes → IsCodeNamed (texts pool) o
  unfolding iterated method_attribute
  attributes_keep needed zero so_far at o bytes named ok h = subst (IsCodeNamed (texts pool)) (given _ _ _ _ h).0 named
  attributes_keep needed (suc n) so_far at o bytes named ok h =
      let turn = inner _ _ _ _ _ ok h in
      let name = inner _ _ _ _ _ turn.fronts turn.one in
      let next = content_keeps name.x so_far _ turn.x name.back named name.backs name.rest in
      attributes_keep needed n turn.x _ o turn.back next turn.backs turn.rest

  method_in : (at : ℕ) (m : MethodTree) (bytes : List ℕ) → InBytes bytes → Spells (method_tree pool) at m bytes
      → IsMethodNamed (texts pool) m
  unfolding method_tree
  method_in at m bytes ok h =
      let flags = inner _ _ _ _ _ ok h in
      let name = inner _ _ _ _ _ flags.backs flags.rest in
      let desc = inner _ _ _ _ _ name.backs name.rest in
      let count = inner _ _ _ _ _ desc.backs desc.rest in
      let tree = inner _ _ _ _ _ count.backs count.rest in
      subst (IsMethodNamed (texts pool)) (given _ _ _ _ tree.rest).0 (record {
        desc = desc_field_in true _ desc.x desc.front desc.fronts desc.one;
        catches = attributes_keep (needs_code flags.x) count.x None _ tree.x tree.front tt tree.fronts tree.one;
      })

  -- ---- the class

  -- the class behind its interfaces
  abbrev members_part : ℕ → List PoolItem → (flags : ℕ) (name superclass : List ℕ) (interfaces : List (List ℕ))
      → Format ClassTree
  members_part major xs flags name superclass interfaces = do
    field_count ← u2
    fields ← repeated field_count (field_tree pool)
    method_count ← u2
    methods ← repeated method_count (method_tree pool)
    attribute_count ← u2
    free ← in_a_row attribute_count (attribute pool)
    gives (record {
      major = major;
      flags = flags;
      name = name;
      superclass = superclass;
      interfaces = interfaces;
      pool = xs;
      fields = fields;
      methods = methods;
    })

  members_in : (major : ℕ) (xs : List PoolItem) (flags : ℕ) (name superclass : List ℕ) (interfaces : List (List ℕ))
      (at : ℕ) (t : ClassTree) (bytes : List ℕ) → In name (texts pool)
      → ((k : ℕ) (x : PoolItem) → slice_get xs k ≡ Some x → IsItemNamed (texts pool) x) → InBytes bytes
      → Spells (members_part major xs flags name superclass interfaces) at t bytes → IsClassNamed (texts pool) t
  members_in major xs flags name superclass interfaces at t bytes is its ok h =
      let field_count = inner _ _ _ _ _ ok h in
      let fields = inner _ _ _ _ _ field_count.backs field_count.rest in
      let method_count = inner _ _ _ _ _ fields.backs fields.rest in
      let methods = inner _ _ _ _ _ method_count.backs method_count.rest in
      let attribute_count = inner _ _ _ _ _ methods.backs methods.rest in
      let free = inner _ _ _ _ _ attribute_count.backs attribute_count.rest in
      subst (IsClassNamed (texts pool)) (given _ _ _ _ free.rest).0 (record {
        name = is;
        methods = all_fit (method_tree pool) (IsMethodNamed (texts pool)) method_in method_count.x _ methods.x
            methods.front methods.fronts methods.one;
        items = its;
      })

  back_in : (major : ℕ) (xs : List PoolItem) (at : ℕ) (t : ClassTree) (bytes : List ℕ) → ((k : ℕ) (x : PoolItem)
      → slice_get xs k ≡ Some x → IsItemNamed (texts pool) x) → InBytes bytes
      → Spells (back_part major pool xs) at t bytes → IsClassNamed (texts pool) t
  unfolding back_part
  back_in major xs at t bytes its ok h =
      let flags = inner _ _ _ _ _ ok h in
      let name = inner _ _ _ _ _ flags.backs flags.rest in
      let superclass = inner _ _ _ _ _ name.backs name.rest in
      let interface_count = inner _ _ _ _ _ superclass.backs superclass.rest in
      let interfaces = inner _ _ _ _ _ interface_count.backs interface_count.rest in
      let is = class_field_in _ name.x name.front name.fronts name.one in
      members_in major xs flags.x name.x superclass.x interfaces.x _ t interfaces.back is its interfaces.backs
      interfaces.rest

-- Texts that are no longer than the file, among which are the names of the class.
pub record HasTexts (t : ClassTree) (bytes : List ℕ) : Type 0 where
  pub texts : List (List ℕ)
  pub few : size texts ≤ length bytes
  pub named : IsClassNamed texts t

pub spelt_texts : (t : ClassTree) (bytes : List ℕ) → InBytes bytes → FileSpells class_file t bytes → HasTexts t bytes
unfolding class_file front_part
spelt_texts t bytes ok h =
    let front = inner _ _ _ _ _ ok h in
    let xs = inner _ _ _ _ _ front.backs front.rest in
    let magic = inner _ _ _ _ _ front.fronts front.one in
    let minor = inner _ _ _ _ _ magic.backs magic.rest in
    let major = inner _ _ _ _ _ minor.backs minor.rest in
    let count = inner _ _ _ _ _ major.backs major.rest in
    let pool = inner _ _ _ _ _ count.backs count.rest in
    let few = pool_size (count.x - 1) _ pool.x pool.front pool.fronts pool.one in
    let same : pool.x ≡ front.x.1 = ap (λ (x : ℕ × List Entry). x.1) (given _ _ _ _ pool.rest).0 in
    let a = front.sizes in
    let b = magic.sizes in
    let c = minor.sizes in
    let d = major.sizes in
    let e = count.sizes in
    let f = pool.sizes in
    let within : size (texts pool.x) ≤ length bytes = omega (arith, few, a, b, c, d, e, f) in
    let its = items_in front.x.1 xs.x (found_is (pool_items front.x.1) _ xs.x xs.front xs.one).0 in
    record {
      texts = texts front.x.1;
      few = subst (λ (es : List Entry). size (texts es) ≤ length bytes) same within;
      named = back_in front.x.1 front.x.0 xs.x _ t xs.back its xs.backs xs.rest;
    }
