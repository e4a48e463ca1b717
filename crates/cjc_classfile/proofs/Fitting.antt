-- A class that bytes spell keeps to the widths of its fields.
use Rattle.std.proofs.Common.{◌≡◌, ℕ, zero, suc, ◌+◌, ◌-◌, ◌<◌, ◌≤◌, Bool, true, false, cond, List, [], ◌∷◌, ◌++◌}
use Rattle.std.proofs.Common.{Option, Some, None, IfSome, length, refl, sym, ap, subst, ◌∙◌, arith}
use Rattle.std.specs.Prelude.{slice_get, nat_lt, nat_le}
use Rattle.std.specs.List.{AllByRecursion}
use Rattle.std.proofs.lemmas.Bool.{leb-true}
use Rattle.std.proofs.lemmas.Bool.Decides.{Decides-ltb}
use Rattle.cjc_bytes.specs.Format.{Format, number, followed_by, gives, ◌>>=◌, Spells, FileSpells, repeated, in_a_row}
use Rattle.cjc_bytes.specs.Format.{iterated, u2}
use Rattle.cjc_bytes.proofs.Inverse.{InBytes, inner, given, u2_is, raw_is, number16, number32}
use Rattle.cjc_bytes.proofs.Gets.{all_at}
use Rattle.cjc_bytes.proofs.Options.{then_some}
use Rattle.cjc_classfile.specs.declared.pool.Tag.{Tag}
use Rattle.cjc_classfile.specs.declared.pool.Tag.TheVariants as tags
use Rattle.cjc_classfile.specs.declared.pool.Index.{Index}
use Rattle.cjc_classfile.specs.declared.tree.FieldTree.{FieldTree}
use Rattle.cjc_classfile.specs.declared.tree.MethodTree.{MethodTree}
use Rattle.cjc_classfile.specs.declared.tree.ClassTree.{ClassTree}
use Rattle.cjc_classfile.specs.PoolItem.{PoolItem}
use Rattle.cjc_classfile.specs.Entry.{Entry, text, integer, float, wide, class, string, field, method, interface_method}
use Rattle.cjc_classfile.specs.Entry.{name_and_type, other}
use Rattle.cjc_classfile.specs.Code.{CodeTree}
use Rattle.cjc_classfile.specs.Pool.{utf8, content, entry, entries, pool_of}
use Rattle.cjc_classfile.specs.Items.{as_text, as_desc_of, not_empty, text_at, desc_of_at, class_text_at, class_at}
use Rattle.cjc_classfile.specs.Items.{class_name_at}
use Rattle.cjc_classfile.specs.Members.{text_field, desc_field, class_field, attribute, field_tree}
use Rattle.cjc_classfile.specs.CodeAttribute.{at_most, code_length, catch, code_content, code}
use Rattle.cjc_classfile.specs.Methods.{method_content, method_attribute, needs_code, method_tree}
use Rattle.cjc_classfile.specs.ClassFile.{front_part, back_part, class_file}
use Rattle.cjc_classfile.specs.Fits.{IsText, CodeFits, FieldFits, MethodFits, ClassFits}

-- ---- the pool

-- a text of an entry has a length of two bytes
abbrev EntryFits : Entry → Type 0
EntryFits (text bytes desc) = IsText bytes
EntryFits _ = Unit {0}

-- what stands behind an entry's tag is no text, where the entry is one that is not
plain : {B : Type 0} (p : Format B) (e : B → Entry) (at : ℕ) (x : Entry) (bytes : List ℕ) → ((b : B) → EntryFits (e b))
    → InBytes bytes → Spells (followed_by p (λ b. gives (e b))) at x bytes → EntryFits x
plain p e at x bytes fits ok h =
    let i = inner _ _ _ _ _ ok h in
    subst EntryFits (given _ _ _ _ i.rest).0 (fits i.x)

content_fits : (tag : Tag) (at : ℕ) (e : Entry) (bytes : List ℕ) → InBytes bytes → Spells (content tag) at e bytes
    → EntryFits e
unfolding content utf8
content_fits tags.Utf8 at e bytes ok h =
    let n = inner _ _ _ _ _ ok h in
    let count = u2_is _ _ _ n.fronts n.one in
    let b = inner _ _ _ _ _ n.backs n.rest in
    let r = raw_is _ _ _ _ b.one in
    let short : IsText b.x = omega (arith, count.0, r.0) in
    subst EntryFits (given _ _ _ _ b.rest).0 short
content_fits tags.Integer at e bytes ok h = plain _ _ at e bytes (λ n. tt) ok h
content_fits tags.Float at e bytes ok h = plain _ _ at e bytes (λ n. tt) ok h
content_fits tags.Wide at e bytes ok h = plain _ _ at e bytes (λ n. tt) ok h
content_fits tags.Class at e bytes ok h = plain _ _ at e bytes (λ n. tt) ok h
content_fits tags.String at e bytes ok h = plain _ _ at e bytes (λ n. tt) ok h
content_fits tags.Field at e bytes ok h = plain _ _ at e bytes (λ n. tt) ok h
content_fits tags.Method at e bytes ok h = plain _ _ at e bytes (λ n. tt) ok h
content_fits tags.InterfaceMethod at e bytes ok h = plain _ _ at e bytes (λ n. tt) ok h
content_fits tags.NameAndType at e bytes ok h = plain _ _ at e bytes (λ n. tt) ok h
content_fits tags.MethodHandle at e bytes ok h = let k = inner _ _ _ _ _ ok h in plain _ _ _ e k.back (λ n. tt) k.backs
    k.rest
content_fits tags.MethodType at e bytes ok h = plain _ _ at e bytes (λ n. tt) ok h
content_fits tags.InvokeDynamic at e bytes ok h = let k = inner _ _ _ _ _ ok h in plain _ _ _ e k.back (λ n. tt) k.backs
    k.rest

entry_fits : (after_wide : Bool) (behind at : ℕ) (e : Entry) (bytes : List ℕ) → InBytes bytes
    → Spells (entry after_wide behind) at e bytes → EntryFits e
unfolding entry
entry_fits true behind at e bytes ok h = subst EntryFits (given _ _ _ _ h).0 tt
entry_fits false behind at e bytes ok h = let tag = inner _ _ _ _ _ ok h in content_fits tag.x _ e tag.back tag.backs
    tag.rest

abbrev PoolFits : List Entry → Type 0
PoolFits pool = AllByRecursion EntryFits pool

entries_fit : (n : ℕ) (after_wide : Bool) (at : ℕ) (pool : List Entry) (bytes : List ℕ) → InBytes bytes
    → Spells (entries n after_wide) at pool bytes → PoolFits pool
unfolding entries
entries_fit zero after_wide at pool bytes ok h = subst PoolFits (given _ _ _ _ h).0 tt
entries_fit (suc n) after_wide at pool bytes ok h =
    let x = inner _ _ _ _ _ ok h in
    let xs = inner _ _ _ _ _ x.backs x.rest in
    subst PoolFits (given _ _ _ _ xs.rest).0 (
      entry_fits after_wide n _ x.x x.front x.fronts x.one,
      entries_fit n _ _ xs.x xs.front xs.fronts xs.one,
    )

pool_fits : (n at : ℕ) (pool : List Entry) (bytes : List ℕ) → InBytes bytes → Spells (pool_of n) at pool bytes
    → PoolFits pool
unfolding pool_of
pool_fits n at pool bytes ok h =
    let x = inner _ _ _ _ _ ok h in
    subst PoolFits (given _ _ _ _ x.rest).0 (tt, entries_fit n false _ x.x x.front x.fronts x.one)

-- ---- what is found in it

as_text_fits : (e : Entry) (t : List ℕ) → EntryFits e → as_text e ≡ Some t → IsText t
as_text_fits (text b d) t fits e = let same : b ≡ t = cc in subst IsText same fits
as_text_fits _ t fits e = absurd cc

as_desc_fits : (is_method : Bool) (e : Entry) (t : List ℕ) → EntryFits e → as_desc_of is_method e ≡ Some t → IsText t
as_desc_fits true (text b (Some true)) t fits e = let same : b ≡ t = cc in subst IsText same fits
as_desc_fits false (text b (Some false)) t fits e = let same : b ≡ t = cc in subst IsText same fits
as_desc_fits _ _ t fits e = absurd cc

pub not_empty_is : (a b : List ℕ) → not_empty a ≡ Some b → a ≡ b
not_empty_is [] b e = absurd cc
not_empty_is (x ∷ xs) b e = cc

most_is : (n x : ℕ) (b : Bool) → nat_le n 65535 ≡ b → cond b (Some n) None ≡ Some x → (n ≡ x) × (n ≤ 65535)
most_is n x true e f = (cc, leb-true n 65535 e)
most_is n x false e f = absurd cc

some_is : (n x : ℕ) (b : Bool) → nat_lt 0 n ≡ b → cond b (at_most 65535 n) None ≡ Some x → (0 < x) × (x ≤ 65535)
some_is n x true e f =
    let is = most_is n x (nat_le n 65535) refl f in
    let low : 0 < n = (Decides-ltb 0 n).0 e in
    (omega (arith, is.0), omega (arith, is.0, is.1))
some_is n x false e f = absurd cc

length_limits : (n x : ℕ) → code_length n ≡ Some x → (0 < x) × (x ≤ 65535)
length_limits n x e = some_is n x (nat_lt 0 n) refl e

module _ (pool : List Entry) (fit : PoolFits pool) where
  text_fits : (i : ℕ) (t : List ℕ) → text_at pool i ≡ Some t → IsText t
  unfolding text_at
  text_fits i t e = let f = then_some as_text (slice_get pool i) t e
      in as_text_fits f.0 t (all_at EntryFits pool i f.0 fit f.1) f.2

  desc_fits : (is_method : Bool) (i : ℕ) (t : List ℕ) → desc_of_at pool is_method i ≡ Some t → IsText t
  unfolding desc_of_at
  desc_fits is_method i t e = let f = then_some (as_desc_of is_method) (slice_get pool i) t e
      in as_desc_fits is_method f.0 t (all_at EntryFits pool i f.0 fit f.1) f.2

  class_fits : (i : ℕ) (t : List ℕ) → class_name_at pool i ≡ Some t → IsText t
  unfolding class_name_at class_text_at
  class_fits i t e =
      let f = then_some (λ (name : Index). class_text_at pool name.to) (class_at pool i) t e in
      let g = then_some not_empty (text_at pool f.0.to) t f.2 in
      subst IsText (not_empty_is g.0 t g.2) (text_fits f.0.to g.0 g.1)

  text_field_fits : (at : ℕ) (t : List ℕ) (bytes : List ℕ) → InBytes bytes → Spells (text_field pool) at t bytes
      → IsText t
  unfolding text_field
  text_field_fits at t bytes ok h = let k = number16 (text_at pool) at t bytes ok h in text_fits k.n t k.is

  desc_field_fits : (is_method : Bool) (at : ℕ) (t : List ℕ) (bytes : List ℕ) → InBytes bytes
      → Spells (desc_field pool is_method) at t bytes → IsText t
  unfolding desc_field
  desc_field_fits is_method at t bytes ok h = let k = number16 (desc_of_at pool is_method) at t bytes ok h
      in desc_fits is_method k.n t k.is

  class_field_fits : (at : ℕ) (t : List ℕ) (bytes : List ℕ) → InBytes bytes → Spells (class_field pool) at t bytes
      → IsText t
  unfolding class_field
  class_field_fits at t bytes ok h = let k = number16 (class_name_at pool) at t bytes ok h in class_fits k.n t k.is

  -- ---- members

  field_fits : (at : ℕ) (f : FieldTree) (bytes : List ℕ) → InBytes bytes → Spells (field_tree pool) at f bytes
      → FieldFits f
  unfolding field_tree
  field_fits at f bytes ok h =
      let flags = inner _ _ _ _ _ ok h in
      let name = inner _ _ _ _ _ flags.backs flags.rest in
      let desc = inner _ _ _ _ _ name.backs name.rest in
      let count = inner _ _ _ _ _ desc.backs desc.rest in
      let constant = inner _ _ _ _ _ count.backs count.rest in
      subst FieldFits (given _ _ _ _ constant.rest).0 (record {
        name = text_field_fits _ name.x name.front name.fronts name.one;
        desc = desc_field_fits false _ desc.x desc.front desc.fronts desc.one;
      })

  -- what stands behind the bytes of a code
  abbrev handlers_part : (max_stack max_locals size : ℕ) → List ℕ → Format CodeTree
  handlers_part max_stack max_locals size bytes = do
    count ← u2
    catches ← repeated count (catch pool size)
    free_count ← u2
    free ← in_a_row free_count (attribute pool)
    gives (record { max_stack = max_stack; max_locals = max_locals; bytes = bytes; catches = catches })

  handlers_keep : (max_stack max_locals size : ℕ) (b : List ℕ) (at : ℕ) (c : CodeTree) (bytes : List ℕ) → InBytes bytes
      → Spells (handlers_part max_stack max_locals size b) at c bytes → b ≡ c.bytes
  handlers_keep max_stack max_locals size b at c bytes ok h =
      let count = inner _ _ _ _ _ ok h in
      let catches = inner _ _ _ _ _ count.backs count.rest in
      let free_count = inner _ _ _ _ _ catches.backs catches.rest in
      let free = inner _ _ _ _ _ free_count.backs free_count.rest in
      ap (λ (x : CodeTree). x.bytes) (given _ _ _ _ free.rest).0

  content_fits_code : (at : ℕ) (c : CodeTree) (bytes : List ℕ) → InBytes bytes → Spells (code_content pool) at c bytes
      → CodeFits c
  unfolding code_content
  content_fits_code at c bytes ok h =
      let stack = inner _ _ _ _ _ ok h in
      let locals = inner _ _ _ _ _ stack.backs stack.rest in
      let size = inner _ _ _ _ _ locals.backs locals.rest in
      let run = inner _ _ _ _ _ size.backs size.rest in
      let number = number32 code_length _ _ _ size.fronts size.one in
      let long = raw_is _ _ _ _ run.one in
      let same = ap length (handlers_keep stack.x locals.x size.x run.x _ c run.back run.backs run.rest) in
      let both = limited number.n size.x (length run.x) (length c.bytes) number.is long.0 same in
      record { some = both.0; bytes = both.1 }
    where
      limited : (n x l m : ℕ) → code_length n ≡ Some x → l ≡ x → l ≡ m → (0 < m) × (m ≤ 65535)
      limited n x l m e f g = let limits = length_limits n x e in (
        omega (arith, limits.0, f, g),
        omega (arith, limits.1, f, g),
      )

  code_fits : (at : ℕ) (c : CodeTree) (bytes : List ℕ) → InBytes bytes → Spells (code pool) at c bytes → CodeFits c
  unfolding code
  code_fits at c bytes ok h =
      let place = inner _ _ _ _ _ ok h in
      let size = inner _ _ _ _ _ place.backs place.rest in
      let start = inner _ _ _ _ _ size.backs size.rest in
      let tree = inner _ _ _ _ _ start.backs start.rest in
      let end = inner _ _ _ _ _ tree.backs tree.rest in
      let exact = inner _ _ _ _ _ end.backs end.rest in
      subst CodeFits (given _ _ _ _ exact.rest).0 (content_fits_code _ tree.x tree.front tree.fronts tree.one)

  abbrev SomeFits : Option CodeTree → Type 0
  SomeFits o = IfSome o CodeFits

  content_keeps : (is_code : Bool) (so_far : Option CodeTree) (at : ℕ) (o : Option CodeTree) (bytes : List ℕ)
      → SomeFits so_far → InBytes bytes → Spells (method_content pool is_code so_far) at o bytes → SomeFits o
  unfolding method_content
  content_keeps true so_far at o bytes fits ok h =
      let tree = inner _ _ _ _ _ ok h in
      subst SomeFits (given _ _ _ _ tree.rest).0 (code_fits _ tree.x tree.front tree.fronts tree.one)
  content_keeps false so_far at o bytes fits ok h =
      let free = inner _ _ _ _ _ ok h in
      subst SomeFits (given _ _ _ _ free.rest).0 fits

  attributes_keep : (needed : Bool) (n : ℕ) (so_far : Option CodeTree) (at : ℕ) (o : Option CodeTree) (bytes : List ℕ)
      → SomeFits so_far → InBytes bytes
      → Spells (iterated n (method_attribute pool needed) so_far) at o bytes → SomeFits o
  unfolding iterated method_attribute
  attributes_keep needed zero so_far at o bytes fits ok h = subst SomeFits (given _ _ _ _ h).0 fits
  attributes_keep needed (suc n) so_far at o bytes fits ok h =
      let turn = inner _ _ _ _ _ ok h in
      let name = inner _ _ _ _ _ turn.fronts turn.one in
      let next = content_keeps name.x so_far _ turn.x name.back fits name.backs name.rest in
      attributes_keep needed n turn.x _ o turn.back next turn.backs turn.rest

  method_fits : (at : ℕ) (m : MethodTree) (bytes : List ℕ) → InBytes bytes → Spells (method_tree pool) at m bytes
      → MethodFits m
  unfolding method_tree
  method_fits at m bytes ok h =
      let flags = inner _ _ _ _ _ ok h in
      let name = inner _ _ _ _ _ flags.backs flags.rest in
      let desc = inner _ _ _ _ _ name.backs name.rest in
      let count = inner _ _ _ _ _ desc.backs desc.rest in
      let tree = inner _ _ _ _ _ count.backs count.rest in
      subst MethodFits (given _ _ _ _ tree.rest).0 (record {
        name = text_field_fits _ name.x name.front name.fronts name.one;
        desc = desc_field_fits true _ desc.x desc.front desc.fronts desc.one;
        code = attributes_keep (needs_code flags.x) count.x None _ tree.x tree.front tt tree.fronts tree.one;
      })

-- ---- the class

pub all_fit : {A : Type 0} (p : Format A) (P : A → Type 0) → ((at : ℕ) (a : A) (bytes : List ℕ) → InBytes bytes
    → Spells p at a bytes → P a)
    → (n at : ℕ) (xs : List A) (bytes : List ℕ) → InBytes bytes → Spells (repeated n p) at xs bytes
    → AllByRecursion P xs
unfolding repeated
all_fit p P one zero at xs bytes ok h = subst (AllByRecursion P) (given _ _ _ _ h).0 tt
all_fit p P one (suc n) at xs bytes ok h =
    let x = inner _ _ _ _ _ ok h in
    let ys = inner _ _ _ _ _ x.backs x.rest in
    subst (AllByRecursion P) (given _ _ _ _ ys.rest).0 (
      one _ x.x x.front x.fronts x.one,
      all_fit p P one n _ ys.x ys.front ys.fronts ys.one,
    )

pub length-repeated : {A : Type 0} (p : Format A) (n at : ℕ) (xs : List A) (bytes : List ℕ) → InBytes bytes
    → Spells (repeated n p) at xs bytes → length xs ≡ n
unfolding repeated
length-repeated p zero at xs bytes ok h = ap length (sym (given _ _ _ _ h).0)
length-repeated p (suc n) at xs bytes ok h =
    let x = inner _ _ _ _ _ ok h in
    let ys = inner _ _ _ _ _ x.backs x.rest in
    ap length (sym (given _ _ _ _ ys.rest).0) ∙ ap suc (length-repeated p n _ ys.x ys.front ys.fronts ys.one)

-- so many, by a count of two bytes
few : {A : Type 0} (p : Format A) (n at count_at : ℕ) (xs : List A) (bytes count : List ℕ) → InBytes count
    → Spells u2 count_at n count → InBytes bytes → Spells (repeated n p) at xs bytes → length xs ≤ 65535
few p n at count_at xs bytes count count_ok is ok h =
    let small = u2_is count_at n count count_ok is in
    let same = length-repeated p n at xs bytes ok h in
    omega (arith, small.0, same)

-- the class behind its interfaces
abbrev members_part : ℕ → List Entry → List PoolItem
    → (flags : ℕ) (name superclass : List ℕ) (interfaces : List (List ℕ)) → Format ClassTree
members_part major pool items flags name superclass interfaces = do
  field_count ← u2
  fields ← repeated field_count (field_tree pool)
  method_count ← u2
  methods ← repeated method_count (method_tree pool)
  attribute_count ← u2
  free ← in_a_row attribute_count (attribute pool)
  gives (record {
    major = major;
    flags = flags;
    name = name;
    superclass = superclass;
    interfaces = interfaces;
    pool = items;
    fields = fields;
    methods = methods;
  })

members_fit : (major : ℕ) (pool : List Entry) (items : List PoolItem) (flags : ℕ) (name superclass : List ℕ)
    (interfaces : List (List ℕ)) (at : ℕ) (t : ClassTree) (bytes : List ℕ) → PoolFits pool
    → IsText name → IsText superclass → AllByRecursion IsText interfaces → InBytes bytes
    → Spells (members_part major pool items flags name superclass interfaces) at t bytes → ClassFits t
members_fit major pool items flags name superclass interfaces at t bytes fit a b c ok h =
    let field_count = inner _ _ _ _ _ ok h in
    let fields = inner _ _ _ _ _ field_count.backs field_count.rest in
    let method_count = inner _ _ _ _ _ fields.backs fields.rest in
    let methods = inner _ _ _ _ _ method_count.backs method_count.rest in
    let attribute_count = inner _ _ _ _ _ methods.backs methods.rest in
    let free = inner _ _ _ _ _ attribute_count.backs attribute_count.rest in
    subst ClassFits (given _ _ _ _ free.rest).0 (record {
      name = a;
      superclass = b;
      interfaces = c;
      fields = all_fit (field_tree pool) FieldFits (field_fits pool fit) field_count.x _ fields.x fields.front
          fields.fronts fields.one;
      methods = all_fit (method_tree pool) MethodFits (method_fits pool fit) method_count.x _ methods.x methods.front
          methods.fronts methods.one;
      field_count = few (field_tree pool) field_count.x _ _ fields.x fields.front field_count.front field_count.fronts
          field_count.one fields.fronts fields.one;
      method_count = few (method_tree pool) method_count.x _ _ methods.x methods.front method_count.front
          method_count.fronts method_count.one methods.fronts methods.one;
    })

back_fits : (major : ℕ) (pool : List Entry) (items : List PoolItem) (at : ℕ) (t : ClassTree) (bytes : List ℕ)
    → PoolFits pool → InBytes bytes → Spells (back_part major pool items) at t bytes → ClassFits t
unfolding back_part
back_fits major pool items at t bytes fit ok h =
    let flags = inner _ _ _ _ _ ok h in
    let name = inner _ _ _ _ _ flags.backs flags.rest in
    let superclass = inner _ _ _ _ _ name.backs name.rest in
    let interface_count = inner _ _ _ _ _ superclass.backs superclass.rest in
    let interfaces = inner _ _ _ _ _ interface_count.backs interface_count.rest in
    let a = class_field_fits pool fit _ name.x name.front name.fronts name.one in
    let b = class_field_fits pool fit _ superclass.x superclass.front superclass.fronts superclass.one in
    let c = all_fit (class_field pool) IsText (class_field_fits pool fit) interface_count.x _ interfaces.x
    interfaces.front interfaces.fronts interfaces.one in
    members_fit major pool items flags.x name.x superclass.x interfaces.x _ t interfaces.back fit a b c interfaces.backs
    interfaces.rest

pub spelt_fits : (t : ClassTree) (bytes : List ℕ) → InBytes bytes → FileSpells class_file t bytes → ClassFits t
unfolding class_file front_part
spelt_fits t bytes ok h =
    let front = inner _ _ _ _ _ ok h in
    let items = inner _ _ _ _ _ front.backs front.rest in
    let magic = inner _ _ _ _ _ front.fronts front.one in
    let minor = inner _ _ _ _ _ magic.backs magic.rest in
    let major = inner _ _ _ _ _ minor.backs minor.rest in
    let count = inner _ _ _ _ _ major.backs major.rest in
    let pool = inner _ _ _ _ _ count.backs count.rest in
    let fit = pool_fits (count.x - 1) _ pool.x pool.front pool.fronts pool.one in
    let same = given _ _ _ _ pool.rest in
    back_fits front.x.0 front.x.1 items.x _ t items.back (subst PoolFits (ap (λ (x : ℕ × List Entry). x.1) same.0) fit)
    items.backs items.rest
