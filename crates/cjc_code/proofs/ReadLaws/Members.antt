-- What the members of a class that bytes spell are, and the numbers of its pool.
use Rattle.std.proofs.Common.{◌≡◌, ℕ, zero, suc, ◌<◌, ◌^◌, Bool, true, false, List, Option, Some, None, slice_get}
use Rattle.std.proofs.Common.{refl, sym, ap, subst, ℤ, IfSome}
use Rattle.std.specs.Prelude.{nat_lt, ◌==◌}
use Rattle.std.specs.Int.{w32, cast_signed}
use Rattle.std.specs.List.{AllByRecursion}
use Rattle.std.proofs.Math.Facts.{Fits-bits, sfits_to_z}
use Rattle.std.proofs.lemmas.Option.{same_Some}
use Rattle.cjc_bytes.specs.Descriptor.{Parts}
use Rattle.cjc_bytes.specs.Format.{Format, followed_by, gives, ◌>>=◌, Spells, FileSpells, repeated, in_a_row, iterated}
use Rattle.cjc_bytes.specs.Format.{raw, u2, u4}
use Rattle.cjc_bytes.specs.Spots.{desc_of}
use Rattle.cjc_bytes.proofs.Inverse.{InBytes, inner, given, found_is, u4_is, number8, number16}
use Rattle.cjc_bytes.proofs.Gets.{all_at}
use Rattle.cjc_bytes.proofs.Options.{option_mapped, then_some}
use Rattle.cjc_bytes.proofs.Bools.{by_if}
use Rattle.cjc_classfile.specs.declared.tree.ClassTree.{ClassTree}
use Rattle.cjc_classfile.specs.declared.tree.FieldTree.{FieldTree}
use Rattle.cjc_classfile.specs.declared.tree.MethodTree.{MethodTree}
use Rattle.cjc_classfile.specs.PoolItem.{PoolItem}
use Rattle.cjc_classfile.specs.Entry.{Entry, text, integer, float, wide, string}
use Rattle.cjc_classfile.specs.Pool.{tag_of, utf8, content, desc_kind, entry, entries, pool_of}
use Rattle.cjc_classfile.specs.Items.{as_desc_of, desc_of_at, pool_items}
use Rattle.cjc_classfile.specs.Members.{Constant, attribute, constant_at, constant_content, constant_of, desc_field}
use Rattle.cjc_classfile.specs.Members.{field_attribute, field_tree, value_of}
use Rattle.cjc_classfile.specs.Code.{CodeTree}
use Rattle.cjc_classfile.specs.CodeAttribute.{catch, code, code_content}
use Rattle.cjc_classfile.specs.Methods.{method_attribute, method_content, method_tree, needs_code}
use Rattle.cjc_classfile.specs.ClassFile.{back_part, class_file, front_part}
use Rattle.cjc_classfile.proofs.Fitting.{all_fit}
use Rattle.cjc_range.specs.Span.{Holds, full}
use Rattle.cjc_code.specs.ReadLaws.Members.{AreWords, IsDescOf, IsReadClass}
use Rattle.cjc_code.proofs.ReadLaws.Entries.{EntryFits, PoolFits, fit32, items_are}

-- ---- the pool

abbrev AllFit : Format Entry → Type 0
AllFit p = (at : ℕ) (e : Entry) (bytes : List ℕ) → InBytes bytes → Spells p at e bytes → EntryFits e

plain : {B : Type 0} (p : Format B) (e : B → Entry) → ((b : B) → EntryFits (e b))
    → AllFit (followed_by p (λ b. gives (e b)))
plain p e fits at x bytes ok h =
    let i = inner _ _ _ _ _ ok h in
    subst EntryFits (given _ _ _ _ i.rest).0 (fits i.x)

behind_one : {B : Type 0} (p : Format B) (q : B → Format Entry) → ((b : B) → AllFit (q b)) → AllFit (followed_by p q)
behind_one p q fit at e bytes ok h = let k = inner _ _ _ _ _ ok h in fit k.x _ e k.back k.backs k.rest

text_fits : AllFit utf8
unfolding utf8
text_fits at e bytes ok h =
    let n = inner _ _ _ _ _ ok h in
    let b = inner _ _ _ _ _ n.backs n.rest in
    subst EntryFits (given _ _ _ _ b.rest).0 refl

number_fits : AllFit (followed_by u4 (λ n. gives (integer (cast_signed w32 n))))
number_fits at e bytes ok h =
    let n = inner _ _ _ _ _ ok h in
    let small = (u4_is _ _ _ n.fronts n.one).0 in
    subst EntryFits (given _ _ _ _ n.rest).0 (signed n.x small)
  where
    signed : (n : ℕ) → n < 2 ^ 32 → Holds full (cast_signed w32 n)
    signed n lt = fit32 (cast_signed w32 n) (sfits_to_z {w = w32} {n = n} (Fits-bits {w = w32} {n = n} 32 tt lt))

tag_fits : (behind n : ℕ) (tag : _) → tag_of behind n ≡ Some tag → AllFit (content tag)
unfolding content
tag_fits behind n tag e =
    (by_if (λ o. o ≡ Some tag → AllFit (content tag)) (n == 1) _ _ (λ f. subst (λ t. AllFit (content t))
    (same_Some _ tag f) (text_fits))
    (by_if (λ o. o ≡ Some tag → AllFit (content tag)) (n == 3) _ _ (λ f. subst (λ t. AllFit (content t))
    (same_Some _ tag f) (number_fits))
    (by_if (λ o. o ≡ Some tag → AllFit (content tag)) (n == 4) _ _ (λ f. subst (λ t. AllFit (content t))
    (same_Some _ tag f) (plain _ _ (λ b. tt)))
    (by_if (λ o. o ≡ Some tag → AllFit (content tag)) (n == 5) _ _ (by_if (λ o. o ≡ Some tag
    → AllFit (content tag)) (nat_lt 0 behind) _ _ (λ f. subst (λ t. AllFit (content t)) (same_Some _ tag f)
    (plain _ _ (λ b. tt))) (λ f. absurd cc))
    (by_if (λ o. o ≡ Some tag → AllFit (content tag)) (n == 6) _ _ (by_if (λ o. o ≡ Some tag
    → AllFit (content tag)) (nat_lt 0 behind) _ _ (λ f. subst (λ t. AllFit (content t)) (same_Some _ tag f)
    (plain _ _ (λ b. tt))) (λ f. absurd cc))
    (by_if (λ o. o ≡ Some tag → AllFit (content tag)) (n == 7) _ _ (λ f. subst (λ t. AllFit (content t))
    (same_Some _ tag f) (plain _ _ (λ b. tt)))
    (by_if (λ o. o ≡ Some tag → AllFit (content tag)) (n == 8) _ _ (λ f. subst (λ t. AllFit (content t))
    (same_Some _ tag f) (plain _ _ (λ b. tt)))
    (by_if (λ o. o ≡ Some tag → AllFit (content tag)) (n == 9) _ _ (λ f. subst (λ t. AllFit (content t))
    (same_Some _ tag f) (plain _ _ (λ b. tt)))
    (by_if (λ o. o ≡ Some tag → AllFit (content tag)) (n == 10) _ _ (λ f. subst (λ t. AllFit (content t))
    (same_Some _ tag f) (plain _ _ (λ b. tt)))
    (by_if (λ o. o ≡ Some tag → AllFit (content tag)) (n == 11) _ _ (λ f. subst (λ t. AllFit (content t))
    (same_Some _ tag f) (plain _ _ (λ b. tt)))
    (by_if (λ o. o ≡ Some tag → AllFit (content tag)) (n == 12) _ _ (λ f. subst (λ t. AllFit (content t))
    (same_Some _ tag f) (plain _ _ (λ b. tt)))
    (by_if (λ o. o ≡ Some tag → AllFit (content tag)) (n == 15) _ _ (λ f. subst (λ t. AllFit (content t))
    (same_Some _ tag f) (behind_one _ _ (λ k. plain _ _ (λ b. tt))))
    (by_if (λ o. o ≡ Some tag → AllFit (content tag)) (n == 16) _ _ (λ f. subst (λ t. AllFit (content t))
    (same_Some _ tag f) (plain _ _ (λ b. tt)))
    (by_if (λ o. o ≡ Some tag → AllFit (content tag)) (n == 18) _ _ (λ f. subst (λ t. AllFit (content t))
    (same_Some _ tag f) (behind_one _ _ (λ k. plain _ _ (λ b. tt))))
    (λ f. absurd cc))))))))))))))) e

entry_fits : (after_wide : Bool) (behind at : ℕ) (e : Entry) (bytes : List ℕ) → InBytes bytes
    → Spells (entry after_wide behind) at e bytes → EntryFits e
unfolding entry
entry_fits true behind at e bytes ok h = subst EntryFits (given _ _ _ _ h).0 tt
entry_fits false behind at e bytes ok h =
    let tag = inner _ _ _ _ _ ok h in
    let number = number8 (tag_of behind) _ tag.x tag.front tag.fronts tag.one in
    tag_fits behind number.n tag.x number.is _ e tag.back tag.backs tag.rest

entries_fit : (n : ℕ) (after_wide : Bool) (at : ℕ) (pool : List Entry) (bytes : List ℕ) → InBytes bytes
    → Spells (entries n after_wide) at pool bytes → PoolFits pool
unfolding entries
entries_fit zero after_wide at pool bytes ok h = subst PoolFits (given _ _ _ _ h).0 tt
entries_fit (suc n) after_wide at pool bytes ok h =
    let x = inner _ _ _ _ _ ok h in
    let xs = inner _ _ _ _ _ x.backs x.rest in
    subst PoolFits (given _ _ _ _ xs.rest).0 (
      entry_fits after_wide n _ x.x x.front x.fronts x.one,
      entries_fit n _ _ xs.x xs.front xs.fronts xs.one,
    )

pool_fits : (n at : ℕ) (pool : List Entry) (bytes : List ℕ) → InBytes bytes → Spells (pool_of n) at pool bytes
    → PoolFits pool
unfolding pool_of
pool_fits n at pool bytes ok h =
    let x = inner _ _ _ _ _ ok h in
    subst PoolFits (given _ _ _ _ x.rest).0 (tt, entries_fit n false _ x.x x.front x.fronts x.one)

-- ---- descriptors

-- bytes of this kind are a descriptor
kind_is : (is_method : Bool) (bytes : List ℕ) → Some is_method ≡ desc_kind bytes → IsDescOf is_method bytes
unfolding desc_kind
kind_is is_method bytes e = let r = option_mapped (λ (d : Parts). d.is_method) (desc_of bytes) is_method (sym e)
    in (r.0, r.1, r.2)

as_desc_is : (is_method : Bool) (e : Entry) (t : List ℕ) → EntryFits e → as_desc_of is_method e ≡ Some t
    → IsDescOf is_method t
as_desc_is true (text b (Some true)) t fits e = let same : b ≡ t = cc
    in subst (IsDescOf true) same (kind_is true b fits)
as_desc_is false (text b (Some false)) t fits e = let same : b ≡ t = cc
    in subst (IsDescOf false) same (kind_is false b fits)
as_desc_is _ _ t fits e = absurd cc

-- the values of what a field's attributes say
abbrev ConstantFits : Constant → Type 0
ConstantFits (Some (Some z)) = Holds full z
ConstantFits _ = Unit {0}

constant_is : (e : Entry) (v : Option ℤ) → EntryFits e → constant_of e ≡ Some v → ConstantFits (Some v)
constant_is (integer z) v fits e = let same : Some z ≡ v = cc in subst (λ o. ConstantFits (Some o)) same fits
constant_is float v fits e = let same : None ≡ v = cc in subst (λ o. ConstantFits (Some o)) same tt
constant_is wide v fits e = let same : None ≡ v = cc in subst (λ o. ConstantFits (Some o)) same tt
constant_is (string s) v fits e = let same : None ≡ v = cc in subst (λ o. ConstantFits (Some o)) same tt
constant_is _ v fits e = absurd cc

module _ (pool : List Entry) (fit : PoolFits pool) where
  desc_is : (is_method : Bool) (at : ℕ) (t : List ℕ) (bytes : List ℕ) → InBytes bytes
      → Spells (desc_field pool is_method) at t bytes → IsDescOf is_method t
  unfolding desc_field desc_of_at
  desc_is is_method at t bytes ok h =
      let k = number16 (desc_of_at pool is_method) at t bytes ok h in
      let f = then_some (as_desc_of is_method) (slice_get pool k.n) t k.is in
      as_desc_is is_method f.0 t (all_at EntryFits pool k.n f.0 fit f.1) f.2

  constant_keeps : (is_constant : Bool) (so_far : Constant) (at : ℕ) (o : Constant) (bytes : List ℕ)
      → ConstantFits so_far → InBytes bytes → Spells (constant_content pool is_constant so_far) at o bytes
      → ConstantFits o
  unfolding constant_content constant_at
  constant_keeps true so_far at o bytes fits ok h =
      let length = inner _ _ _ _ _ ok h in
      let value = inner _ _ _ _ _ length.backs length.rest in
      let k = number16 (constant_at pool) _ value.x value.front value.fronts value.one in
      let f = then_some constant_of (slice_get pool k.n) value.x k.is in
      subst ConstantFits (given _ _ _ _ value.rest).0 (constant_is f.0 value.x (all_at EntryFits pool k.n f.0 fit f.1)
      f.2)
  constant_keeps false so_far at o bytes fits ok h =
      let free = inner _ _ _ _ _ ok h in
      subst ConstantFits (given _ _ _ _ free.rest).0 fits

  attributes_keep : (static : Bool) (n : ℕ) (so_far : Constant) (at : ℕ) (o : Constant) (bytes : List ℕ)
      → ConstantFits so_far → InBytes bytes → Spells (iterated n (field_attribute pool static) so_far) at o bytes
      → ConstantFits o
  unfolding iterated field_attribute
  attributes_keep static zero so_far at o bytes fits ok h = subst ConstantFits (given _ _ _ _ h).0 fits
  attributes_keep static (suc n) so_far at o bytes fits ok h =
      let turn = inner _ _ _ _ _ ok h in
      let name = inner _ _ _ _ _ turn.fronts turn.one in
      let next = constant_keeps name.x so_far _ turn.x name.back fits name.backs name.rest in
      attributes_keep static n turn.x _ o turn.back next turn.backs turn.rest

  record FieldIs (f : FieldTree) : Type 0 where
    desc : IsDescOf false f.desc
    constant : (z : ℤ) → f.constant ≡ Some z → Holds full z

  value_is : (c : Constant) (z : ℤ) → ConstantFits c → value_of c ≡ Some z → Holds full z
  value_is (Some (Some y)) z fits e = let same : y ≡ z = cc in subst (Holds full) same fits
  value_is (Some None) z fits e = absurd cc
  value_is None z fits e = absurd cc

  field_is : (at : ℕ) (f : FieldTree) (bytes : List ℕ) → InBytes bytes → Spells (field_tree pool) at f bytes → FieldIs f
  unfolding field_tree
  field_is at f bytes ok h =
      let flags = inner _ _ _ _ _ ok h in
      let name = inner _ _ _ _ _ flags.backs flags.rest in
      let desc = inner _ _ _ _ _ name.backs name.rest in
      let count = inner _ _ _ _ _ desc.backs desc.rest in
      let constant = inner _ _ _ _ _ count.backs count.rest in
      subst FieldIs (given _ _ _ _ constant.rest).0 (record {
        desc = desc_is false _ desc.x desc.front desc.fronts desc.one;
        constant = λ z e. value_is constant.x z (attributes_keep _ count.x None _ constant.x constant.front tt
            constant.fronts constant.one) e;
      })

  abbrev InCode : Option CodeTree → Type 0
  InCode o = IfSome o (λ c. InBytes c.bytes)

  -- what stands behind the bytes of a code
  abbrev handlers_part : (max_stack max_locals size : ℕ) → List ℕ → Format CodeTree
  handlers_part max_stack max_locals size bytes = do
    count ← u2
    catches ← repeated count (catch pool size)
    free_count ← u2
    free ← in_a_row free_count (attribute pool)
    gives (record { max_stack = max_stack; max_locals = max_locals; bytes = bytes; catches = catches })

  handlers_keep : (max_stack max_locals size : ℕ) (b : List ℕ) (at : ℕ) (c : CodeTree) (bytes : List ℕ) → InBytes bytes
      → Spells (handlers_part max_stack max_locals size b) at c bytes → b ≡ c.bytes
  handlers_keep max_stack max_locals size b at c bytes ok h =
      let count = inner _ _ _ _ _ ok h in
      let catches = inner _ _ _ _ _ count.backs count.rest in
      let free_count = inner _ _ _ _ _ catches.backs catches.rest in
      let free = inner _ _ _ _ _ free_count.backs free_count.rest in
      ap (λ (x : CodeTree). x.bytes) (given _ _ _ _ free.rest).0

  raw_same : (n at : ℕ) (b bytes : List ℕ) → Spells (raw n) at b bytes → bytes ≡ b
  unfolding raw Spells
  raw_same n at b bytes h = h.1

  content_in : (at : ℕ) (c : CodeTree) (bytes : List ℕ) → InBytes bytes → Spells (code_content pool) at c bytes
      → InBytes c.bytes
  unfolding code_content
  content_in at c bytes ok h =
      let stack = inner _ _ _ _ _ ok h in
      let locals = inner _ _ _ _ _ stack.backs stack.rest in
      let size = inner _ _ _ _ _ locals.backs locals.rest in
      let run = inner _ _ _ _ _ size.backs size.rest in
      let same = raw_same size.x _ run.x run.front run.one in
      subst InBytes (handlers_keep stack.x locals.x size.x run.x _ c run.back run.backs run.rest)
      (subst InBytes same run.fronts)

  code_in : (at : ℕ) (c : CodeTree) (bytes : List ℕ) → InBytes bytes → Spells (code pool) at c bytes → InBytes c.bytes
  unfolding code
  code_in at c bytes ok h =
      let place = inner _ _ _ _ _ ok h in
      let size = inner _ _ _ _ _ place.backs place.rest in
      let start = inner _ _ _ _ _ size.backs size.rest in
      let tree = inner _ _ _ _ _ start.backs start.rest in
      let end = inner _ _ _ _ _ tree.backs tree.rest in
      let exact = inner _ _ _ _ _ end.backs end.rest in
      subst (λ (x : CodeTree). InBytes x.bytes) (given _ _ _ _ exact.rest).0 (content_in _ tree.x tree.front tree.fronts
      tree.one)

  method_keeps : (is_code : Bool) (so_far : Option CodeTree) (at : ℕ) (o : Option CodeTree) (bytes : List ℕ)
      → InCode so_far → InBytes bytes → Spells (method_content pool is_code so_far) at o bytes → InCode o
  unfolding method_content
  method_keeps true so_far at o bytes fits ok h =
      let tree = inner _ _ _ _ _ ok h in
      subst InCode (given _ _ _ _ tree.rest).0 (code_in _ tree.x tree.front tree.fronts tree.one)
  method_keeps false so_far at o bytes fits ok h =
      let free = inner _ _ _ _ _ ok h in
      subst InCode (given _ _ _ _ free.rest).0 fits

  codes_keep : (needed : Bool) (n : ℕ) (so_far : Option CodeTree) (at : ℕ) (o : Option CodeTree) (bytes : List ℕ)
      → InCode so_far → InBytes bytes → Spells (iterated n (method_attribute pool needed) so_far) at o bytes → InCode o
  unfolding iterated method_attribute
  codes_keep needed zero so_far at o bytes fits ok h = subst InCode (given _ _ _ _ h).0 fits
  codes_keep needed (suc n) so_far at o bytes fits ok h =
      let turn = inner _ _ _ _ _ ok h in
      let name = inner _ _ _ _ _ turn.fronts turn.one in
      let next = method_keeps name.x so_far _ turn.x name.back fits name.backs name.rest in
      codes_keep needed n turn.x _ o turn.back next turn.backs turn.rest

  record MethodIs (m : MethodTree) : Type 0 where
    desc : IsDescOf true m.desc
    bytes : InCode m.code

  method_is : (at : ℕ) (m : MethodTree) (bytes : List ℕ) → InBytes bytes → Spells (method_tree pool) at m bytes
      → MethodIs m
  unfolding method_tree
  method_is at m bytes ok h =
      let flags = inner _ _ _ _ _ ok h in
      let name = inner _ _ _ _ _ flags.backs flags.rest in
      let desc = inner _ _ _ _ _ name.backs name.rest in
      let count = inner _ _ _ _ _ desc.backs desc.rest in
      let tree = inner _ _ _ _ _ count.backs count.rest in
      subst MethodIs (given _ _ _ _ tree.rest).0 (record {
        desc = desc_is true _ desc.x desc.front desc.fronts desc.one;
        bytes = codes_keep (needs_code flags.x) count.x None _ tree.x tree.front tt tree.fronts tree.one;
      })

-- ---- the class

-- the class behind its interfaces
abbrev members_part : ℕ → List Entry → List PoolItem
    → (flags : ℕ) (name superclass : List ℕ) (interfaces : List (List ℕ)) → Format ClassTree
members_part major pool items flags name superclass interfaces = do
  field_count ← u2
  fields ← repeated field_count (field_tree pool)
  method_count ← u2
  methods ← repeated method_count (method_tree pool)
  attribute_count ← u2
  free ← in_a_row attribute_count (attribute pool)
  gives (record {
    major = major;
    flags = flags;
    name = name;
    superclass = superclass;
    interfaces = interfaces;
    pool = items;
    fields = fields;
    methods = methods;
  })

members_read : (major : ℕ) (pool : List Entry) (items : List PoolItem) (flags : ℕ) (name superclass : List ℕ)
    (interfaces : List (List ℕ)) (at : ℕ) (t : ClassTree) (bytes : List ℕ) → PoolFits pool → AreWords items
    → InBytes bytes
    → Spells (members_part major pool items flags name superclass interfaces) at t bytes → IsReadClass t
members_read major pool items flags name superclass interfaces at t bytes fit words ok h =
    let field_count = inner _ _ _ _ _ ok h in
    let fields = inner _ _ _ _ _ field_count.backs field_count.rest in
    let method_count = inner _ _ _ _ _ fields.backs fields.rest in
    let methods = inner _ _ _ _ _ method_count.backs method_count.rest in
    let attribute_count = inner _ _ _ _ _ methods.backs methods.rest in
    let free = inner _ _ _ _ _ attribute_count.backs attribute_count.rest in
    subst IsReadClass (given _ _ _ _ free.rest).0 (told fields.x methods.x attribute_count.x
    (all_fit (field_tree pool) (FieldIs pool fit) (field_is pool fit) field_count.x _ fields.x fields.front
    fields.fronts
    fields.one)
    (all_fit (method_tree pool) (MethodIs pool fit) (method_is pool fit) method_count.x _ methods.x methods.front
    methods.fronts methods.one) words)
  where
    code_there : (o : Option CodeTree) (tree : CodeTree) → o ≡ Some tree → InCode pool fit o → InBytes tree.bytes
    code_there (Some c) tree e h = let same : c ≡ tree = cc in subst (λ (x : CodeTree). InBytes x.bytes) same h
    code_there None tree e h = absurd cc

    told : (fields : List FieldTree) (methods : List MethodTree) (n : ℕ) → AllByRecursion (FieldIs pool fit) fields
        → AllByRecursion (MethodIs pool fit) methods → AreWords items
        → IsReadClass (record {
          major = major;
          flags = flags;
          name = name;
          superclass = superclass;
          interfaces = interfaces;
          pool = items;
          fields = fields;
          methods = methods;
        })
    told fields methods n all_fields all_methods words = record {
      fields = λ k f e. (let one = all_at (FieldIs pool fit) fields k f all_fields e in one.desc);
      methods = λ k m e. (let one = all_at (MethodIs pool fit) methods k m all_methods e in one.desc);
      constants = λ k f z e. (let one = all_at (FieldIs pool fit) fields k f all_fields e in one.constant z);
      integers = words;
      bytes = λ k m tree e f. (let one = all_at (MethodIs pool fit) methods k m all_methods e
          in code_there m.code tree f one.bytes);
    }

back_is : (major : ℕ) (pool : List Entry) (items : List PoolItem) (at : ℕ) (t : ClassTree) (bytes : List ℕ)
    → PoolFits pool → AreWords items → InBytes bytes → Spells (back_part major pool items) at t bytes → IsReadClass t
unfolding back_part
back_is major pool items at t bytes fit words ok h =
    let flags = inner _ _ _ _ _ ok h in
    let name = inner _ _ _ _ _ flags.backs flags.rest in
    let superclass = inner _ _ _ _ _ name.backs name.rest in
    let interface_count = inner _ _ _ _ _ superclass.backs superclass.rest in
    let interfaces = inner _ _ _ _ _ interface_count.backs interface_count.rest in
    members_read major pool items flags.x name.x superclass.x interfaces.x _ t interfaces.back fit words
    interfaces.backs interfaces.rest

front_is : (at : ℕ) (x : ℕ × List Entry) (bytes : List ℕ) → InBytes bytes → Spells front_part at x bytes → PoolFits x.1
unfolding front_part
front_is at x bytes ok h =
    let magic = inner _ _ _ _ _ ok h in
    let minor = inner _ _ _ _ _ magic.backs magic.rest in
    let major = inner _ _ _ _ _ minor.backs minor.rest in
    let count = inner _ _ _ _ _ major.backs major.rest in
    let pool = inner _ _ _ _ _ count.backs count.rest in
    subst (λ (y : ℕ × List Entry). PoolFits y.1) (given _ _ _ _ pool.rest).0 (pool_fits _ _ pool.x pool.front
    pool.fronts pool.one)

pub read_class : (t : ClassTree) (bytes : List ℕ) → InBytes bytes → FileSpells class_file t bytes → IsReadClass t
unfolding class_file
read_class t bytes ok h =
    let front = inner _ _ _ _ _ ok h in
    let items = inner _ _ _ _ _ front.backs front.rest in
    let fit = front_is _ front.x front.front front.fronts front.one in
    back_is front.x.0 front.x.1 items.x _ t items.back fit (items_are front.x.1 fit items.x
    (found_is (pool_items front.x.1) _ items.x items.front items.one).0) items.backs items.rest
