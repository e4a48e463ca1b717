-- The constant pool and Descriptor that bytes spell name classes and static members by numbers that fit, and two bytes
-- count those of Method.
use Rattle.std.proofs.Common.{◌≡◌, ℕ, zero, suc, ◌+◌, ◌-◌, ◌*◌, ◌/◌, ◌%◌, ◌^◌, ◌<◌, ◌≤◌, ◌==◌, refl, sym, ap, subst}
use Rattle.std.proofs.Common.{◌∙◌, arith, Bool, eqb-true}
use Rattle.std.proofs.Common.{true, false, List, [], ◌∷◌, length, slice_get, Option, Some, None}
use Rattle.std.specs.Prelude.{if◌then◌else◌, nat_lt}
use Rattle.std.specs.Int.{w8, w16}
use Rattle.std.proofs.Math.Nat.{mul-suc}
use Rattle.std.proofs.lemmas.Bool.Decides.{nat_tests}
use Rattle.cjc_bytes.specs.Format.{FileSpells, Format, Spells, followed_by, gives, here, number, raw, repeated, u1}
use Rattle.cjc_bytes.specs.Format.{u2, ◌>>=◌}
use Rattle.cjc_bytes.proofs.Inverse.{InBytes, given, here_is, inner, number16, number8, raw_is, u1_is}
use Rattle.cjc_bytes.proofs.Inverse.{u2_is}
use Rattle.cjc_bytes.proofs.Plain.{same_some}
use Rattle.cjc_capread.specs.declared.tree.ClassDescriptor.{ClassDescriptor}
use Rattle.cjc_capread.specs.declared.tree.ClassRef.{ClassRef}
use Rattle.cjc_capread.specs.declared.tree.ClassRef.TheVariants.{Inside, Outside}
use Rattle.cjc_capread.specs.declared.tree.Component.{Component}
use Rattle.cjc_capread.specs.declared.tree.Component.TheVariants as components
use Rattle.cjc_capread.specs.declared.tree.ConstantPool.{ConstantPool}
use Rattle.cjc_capread.specs.declared.tree.Descriptor.{Descriptor}
use Rattle.cjc_capread.specs.declared.tree.Handler.{Handler}
use Rattle.cjc_capread.specs.declared.tree.Method.{Method}
use Rattle.cjc_capread.specs.declared.tree.MethodDescriptor.{MethodDescriptor}
use Rattle.cjc_capread.specs.declared.tree.PoolEntry.{PoolEntry}
use Rattle.cjc_capread.specs.declared.tree.PoolEntry.TheVariants as entries
use Rattle.cjc_capread.specs.declared.tree.StaticRef.{StaticRef}
use Rattle.cjc_capread.specs.declared.tree.StaticRef.TheVariants as statics
use Rattle.cjc_capread.specs.Component.{component, info, size_in}
use Rattle.cjc_capread.specs.Descriptor.{class_descriptor, descriptor, method_descriptor}
use Rattle.cjc_capread.specs.Method.{handler, method}
use Rattle.cjc_capread.specs.Parts.{bytes_before, class_of, class_ref, exactly, package_of, static_ref, static_rest}
use Rattle.cjc_capread.specs.Pool.{constant_pool, content, pool_entry, tag_of}
use Rattle.cjc_verified_proof.specs.Entries.{HasRefs, IsRef, IsStaticRef}

-- ---- formats

-- what all that bytes spell by a format keeps
abbrev Keeps : {A : Type 0} → (P : A → Type 0) → Format A → Type 0
Keeps {A} P p = (at : ℕ) (x : A) (bytes : List ℕ) → InBytes bytes → Spells p at x bytes → P x

keeps_given : {A : Type 0} (P : A → Type 0) (x : A) → P x → Keeps P (gives x)
keeps_given P x h at y bytes ok spelt = subst P (given x at y bytes spelt).0 h

keeps_then : {A B : Type 0} (P : A → Type 0) (Q : B → Type 0) (p : Format B) (f : B → Format A) → Keeps Q p
    → ((x : B) → Q x → Keeps P (f x)) → Keeps P (followed_by p f)
keeps_then P Q p f first more at y bytes ok spelt =
    let i = inner p f at y bytes ok spelt in
    more i.x (first at i.x i.front i.fronts i.one) _ y i.back i.backs i.rest

keeps_behind : {A B : Type 0} (P : A → Type 0) (p : Format B) (f : B → Format A) → ((x : B) → Keeps P (f x))
    → Keeps P (followed_by p f)
keeps_behind P p f more at y bytes ok spelt =
    let i = inner p f at y bytes ok spelt in
    more i.x _ y i.back i.backs i.rest

-- it is so of each of a list
abbrev Each : {A : Type 0} → (P : A → Type 0) → List A → Type 0
Each {A} P xs = (k : ℕ) (x : A) → slice_get xs k ≡ Some x → P x

each_more : {A : Type 0} (P : A → Type 0) (y : A) (ys : List A) → P y → Each P ys → Each P (y ∷ ys)
each_more P y ys one later zero x e = subst P (same_some e) one
each_more P y ys one later (suc k) x e = later k x e

each_of_none : {A : Type 0} (P : A → Type 0) → Each P []
each_of_none P k x e = cc

keeps_each : {A : Type 0} (P : A → Type 0) (p : Format A) → Keeps P p → (n : ℕ) → Keeps (Each P) (repeated n p)
unfolding repeated
keeps_each P p keep zero = keeps_given (Each P) [] (each_of_none P)
keeps_each P p keep (suc n) = keeps_then (Each P) P p _ keep (λ x one. keeps_then (Each P) (Each P) (repeated n p) _
    (keeps_each P p keep n) (λ xs later. keeps_given (Each P) (x ∷ xs) (each_more P x xs one later)))

-- ---- references

class_fits : (n : ℕ) → n < 2 ^ 16 → IsRef (class_of n)
class_fits n small = by (nat_lt n 0x8000) refl
  where
    by : (t : Bool) → nat_lt n 0x8000 ≡ t → IsRef (if t then Inside n else Outside (n / 256 - 0x80) (n % 256))
    by true e = grind (arith, nat_tests, e)
    by false e = (omega (arith, small), omega arith)

ref_fits : Keeps IsRef class_ref
unfolding class_ref
ref_fits at r bytes ok h =
    let k = number16 (λ n. Some (class_of n)) at r bytes ok h in
    subst IsRef (same_some k.is) (class_fits k.n k.small)

-- the token of a package
abbrev IsToken : Option ℕ → Type 0
IsToken None = Unit {0}
IsToken (Some m) = m < 2 ^ 7

package_fits : (n : ℕ) (o : Option ℕ) → n < 2 ^ 8 → package_of n ≡ Some o → IsToken o
package_fits n o small e = by (n == 0) (nat_lt n 0x80) e
  where
    by : (s t : Bool) → (if s then Some None else if t then None else Some (Some (n - 0x80))) ≡ Some o → IsToken o
    by true t f = subst IsToken (same_some f) tt
    by false true f = absurd cc
    by false false f = subst IsToken (same_some f) (omega (arith, small))

rest_fits : (o : Option ℕ) → IsToken o → Keeps IsStaticRef (static_rest o)
unfolding static_rest
rest_fits None low = keeps_behind IsStaticRef u2 _ (λ offset. keeps_given IsStaticRef (statics.Inside offset) tt)
rest_fits (Some m) low = keeps_then IsStaticRef (λ n. n < 2 ^ 8) u1 _ (λ at n bytes ok h. (u1_is at n bytes ok h).0)
    (λ class small. keeps_behind IsStaticRef u1 _ (λ token. keeps_given IsStaticRef (statics.Outside m class token)
    (low, small)))

static_fits : Keeps IsStaticRef static_ref
unfolding static_ref
static_fits = keeps_then IsStaticRef IsToken (number w8 package_of) static_rest (λ at o bytes ok h. (let k = number8
    package_of at o bytes ok h in package_fits k.n o k.small k.is)) rest_fits

-- ---- entries of the constant pool

-- the token of a virtual method has one byte
abbrev HasByte : PoolEntry → Type 0
HasByte (entries.VirtualMethodref class token) = token < 2 ^ 8
HasByte (entries.SuperMethodref class token) = token < 2 ^ 8
HasByte other = Unit {0}

-- what bytes spell of an entry
abbrev Fits : PoolEntry → Type 0
Fits x = HasRefs x × HasByte x

of_class : (make : ClassRef → ℕ → PoolEntry) → ((r : ClassRef) (t : ℕ) → IsRef r → t < 2 ^ 8 → Fits (make r t))
    → Keeps Fits (class_ref >>= λ r. u1 >>= λ t. gives (make r t))
of_class make fits = keeps_then Fits IsRef class_ref _ ref_fits (λ r fit. keeps_then Fits (λ t. t < 2 ^ 8) u1 _ (λ at t
    bytes ok h. (u1_is at t bytes ok h).0) (λ t small. keeps_given Fits (make r t) (fits r t fit small)))

of_static : (make : StaticRef → PoolEntry) → ((r : StaticRef) → IsStaticRef r → Fits (make r))
    → Keeps Fits (static_ref >>= λ r. gives (make r))
of_static make fits = keeps_then Fits IsStaticRef static_ref _ static_fits (λ r fit. keeps_given Fits (make r)
    (fits r fit))

-- what stands behind the number of a tag
content_fits : (n : ℕ) (t : _) → tag_of n ≡ Some t → Keeps Fits (content t)
unfolding content
content_fits n t e = class (n == 1) refl
  where
    there : (k : ℕ) → (n == k) ≡ true → tag_of k ≡ Some t
    there k is = subst (λ m. tag_of m ≡ Some t) (eqb-true n k is) e

    static_method : (n == 1) ≡ false → (n == 2) ≡ false → (n == 3) ≡ false → (n == 4) ≡ false → (n == 5) ≡ false
        → (b : Bool) → (n == 6) ≡ b → Keeps Fits (content t)
    static_method e1 e2 e3 e4 e5 true is = subst (λ u. Keeps Fits (content u)) (same_some (there 6 is))
        (of_static entries.StaticMethodref (λ r f. (f, tt)))
    static_method e1 e2 e3 e4 e5 false e6 = (let none = rw (e1, e2, e3, e4, e5, e6) at e in absurd (cc none))

    static_field : (n == 1) ≡ false → (n == 2) ≡ false → (n == 3) ≡ false → (n == 4) ≡ false → (b : Bool) → (n == 5) ≡ b
        → Keeps Fits (content t)
    static_field e1 e2 e3 e4 true is = subst (λ u. Keeps Fits (content u)) (same_some (there 5 is))
        (of_static entries.StaticFieldref (λ r f. (f, tt)))
    static_field e1 e2 e3 e4 false e5 = static_method e1 e2 e3 e4 e5 (n == 6) refl

    super_method : (n == 1) ≡ false → (n == 2) ≡ false → (n == 3) ≡ false → (b : Bool) → (n == 4) ≡ b
        → Keeps Fits (content t)
    super_method e1 e2 e3 true is = subst (λ u. Keeps Fits (content u)) (same_some (there 4 is))
        (of_class entries.SuperMethodref (λ r k f g. (f, g)))
    super_method e1 e2 e3 false e4 = static_field e1 e2 e3 e4 (n == 5) refl

    virtual_method : (n == 1) ≡ false → (n == 2) ≡ false → (b : Bool) → (n == 3) ≡ b → Keeps Fits (content t)
    virtual_method e1 e2 true is = subst (λ u. Keeps Fits (content u)) (same_some (there 3 is))
        (of_class entries.VirtualMethodref (λ r k f g. (f, g)))
    virtual_method e1 e2 false e3 = super_method e1 e2 e3 (n == 4) refl

    instance_field : (n == 1) ≡ false → (b : Bool) → (n == 2) ≡ b → Keeps Fits (content t)
    instance_field e1 true is = subst (λ u. Keeps Fits (content u)) (same_some (there 2 is))
        (of_class entries.InstanceFieldref (λ r k f g. (f, tt)))
    instance_field e1 false e2 = virtual_method e1 e2 (n == 3) refl

    class : (b : Bool) → (n == 1) ≡ b → Keeps Fits (content t)
    class true is = subst (λ u. Keeps Fits (content u)) (same_some (there 1 is)) (keeps_then Fits IsRef class_ref _
        ref_fits
        (λ r fit. keeps_behind Fits (number w8 (exactly 0)) _ (λ z. keeps_given Fits (entries.Classref r) (fit, tt))))
    class false e1 = instance_field e1 (n == 2) refl

entry_fits : Keeps Fits pool_entry
unfolding pool_entry
entry_fits at x bytes ok h =
    let i = inner (number w8 tag_of) content at x bytes ok h in
    let k = number8 tag_of at i.x i.front i.fronts i.one in
    content_fits k.n i.x k.is _ x i.back i.backs i.rest

-- the entries of a constant pool
abbrev HaveRefs : ConstantPool → Type 0
HaveRefs pool = Each Fits pool.entries

entries_fit : Keeps HaveRefs constant_pool
unfolding constant_pool
entries_fit = keeps_behind HaveRefs u2 _ (λ n. keeps_then HaveRefs (Each Fits) (repeated n pool_entry) _
    (keeps_each Fits pool_entry entry_fits n) (λ xs fit. keeps_given HaveRefs (record { entries = xs }) fit))

-- ---- the classes of Descriptor

-- the token of a method has one byte
abbrev IsLow : MethodDescriptor → Type 0
IsLow m = m.token < 2 ^ 8

low_method : Keeps IsLow method_descriptor
unfolding method_descriptor
low_method = keeps_then IsLow (λ t. t < 2 ^ 8) u1 _ (λ at t bytes ok h. (u1_is at t bytes ok h).0) (λ token small.
    keeps_behind IsLow u1 _ (λ flags. keeps_behind IsLow u2 _ (λ offset. keeps_behind IsLow u2 _ (λ type. keeps_behind
    IsLow u2 _ (λ bytecode. keeps_behind IsLow u2 _ (λ count. keeps_behind IsLow u2 _ (λ first. keeps_given IsLow _
    small)))))))

abbrev HasHolder : ClassDescriptor → Type 0
HasHolder d = IsRef d.this_class × Each IsLow d.methods

holder_fits : Keeps HasHolder class_descriptor
unfolding class_descriptor
holder_fits = keeps_behind HasHolder u1 _ (λ token. keeps_behind HasHolder u1 _ (λ flags. keeps_then HasHolder IsRef
    class_ref _ ref_fits (λ this fit. keeps_behind HasHolder u1 _ (λ is. keeps_behind HasHolder u2 _ (λ fs. keeps_behind
    HasHolder u2 _ (λ ms. keeps_behind HasHolder _ _ (λ interfaces. keeps_behind HasHolder _ _ (λ fields. keeps_then
    HasHolder (Each IsLow) (repeated ms method_descriptor) _ (keeps_each IsLow method_descriptor low_method ms)
    (λ methods low. keeps_given HasHolder _ (fit, low))))))))))

abbrev HaveHolders : Descriptor → Type 0
HaveHolders x = Each HasHolder x.classes

holders_fit : (end : ℕ) → Keeps HaveHolders (descriptor end)
unfolding descriptor
holders_fit end = keeps_behind HaveHolders u1 _ (λ n. keeps_then HaveHolders (Each HasHolder) (repeated n
    class_descriptor) _ (keeps_each HasHolder class_descriptor holder_fits n) (λ classes fit. keeps_behind HaveHolders
    u2
    _ (λ count. keeps_behind HaveHolders _ _ (λ pool_types. keeps_behind HaveHolders _ _
    (λ types. keeps_given HaveHolders
    _ fit)))))

-- ---- components

-- what is a constant pool has such entries
abbrev PoolHasRefs : Component → Type 0
PoolHasRefs (components.Pool x) = HaveRefs x
PoolHasRefs other = Unit {0}

abbrev DescriptorHasHolders : Component → Type 0
DescriptorHasHolders (components.Descriptor x) = HaveHolders x
DescriptorHasHolders other = Unit {0}

pool_fits : (bytes : List ℕ) → InBytes bytes → (x : ConstantPool)
    → FileSpells (component 5 (length bytes)) (components.Pool x) bytes → HaveRefs x
unfolding component info
pool_fits bytes ok x spelt = (let keep : Keeps PoolHasRefs (component 5 (length bytes)) = keeps_behind PoolHasRefs
    (number w8 (exactly 5)) _ (λ first. keeps_behind PoolHasRefs _ _ (λ size. keeps_then PoolHasRefs HaveRefs
    constant_pool
    _ entries_fit (λ y fit. keeps_given PoolHasRefs (components.Pool y) fit))) in keep 0 (components.Pool x) bytes ok
    spelt)

module _ (bytes : List ℕ) (ok : InBytes bytes) (x : ConstantPool)
    (spelt : FileSpells (component 5 (length bytes)) (components.Pool x) bytes) where
  -- the classes and static members that entries name
  pub pool_refs : (k : ℕ) (item : PoolEntry) → slice_get x.entries k ≡ Some item → HasRefs item
  pool_refs k item e = (pool_fits bytes ok x spelt k item e).0

  -- the tokens of virtual methods
  pub virtual_bytes : (k : ℕ) (class : ClassRef) (token : ℕ) → slice_get x.entries k
      ≡ Some (entries.VirtualMethodref class token) → token < 2 ^ 8
  virtual_bytes k class token e = (pool_fits bytes ok x spelt k (entries.VirtualMethodref class token) e).1

  pub super_bytes : (k : ℕ) (class : ClassRef) (token : ℕ) → slice_get x.entries k
      ≡ Some (entries.SuperMethodref class token) → token < 2 ^ 8
  super_bytes k class token e = (pool_fits bytes ok x spelt k (entries.SuperMethodref class token) e).1

descriptor_fits : (bytes : List ℕ) → InBytes bytes → (x : Descriptor)
    → FileSpells (component 11 (length bytes)) (components.Descriptor x) bytes → HaveHolders x
unfolding component info
descriptor_fits bytes ok x spelt = (let keep : Keeps DescriptorHasHolders (component 11 (length bytes)) = keeps_behind
    DescriptorHasHolders (number w8 (exactly 11)) _ (λ first. keeps_behind DescriptorHasHolders _ _ (λ size. keeps_then
    DescriptorHasHolders HaveHolders (descriptor (length bytes)) _ (holders_fit (length bytes)) (λ y fit. keeps_given
    DescriptorHasHolders (components.Descriptor y) fit))) in keep 0 (components.Descriptor x) bytes ok spelt)

module _ (bytes : List ℕ) (ok : InBytes bytes) (x : Descriptor)
    (spelt : FileSpells (component 11 (length bytes)) (components.Descriptor x) bytes) where
  -- the classes of Descriptor
  pub descriptor_refs : (k : ℕ) (d : ClassDescriptor) → slice_get x.classes k ≡ Some d → IsRef d.this_class
  descriptor_refs k d e = (descriptor_fits bytes ok x spelt k d e).0

  -- the tokens of their methods
  pub method_bytes : (k : ℕ) (d : ClassDescriptor) → slice_get x.classes k ≡ Some d → (j : ℕ) (m : MethodDescriptor)
      → slice_get d.methods j ≡ Some m → m.token < 2 ^ 8
  method_bytes k d e = (descriptor_fits bytes ok x spelt k d e).1

-- ---- Method

handler_size : (at : ℕ) (h : Handler) (bytes : List ℕ) → InBytes bytes → Spells handler at h bytes → length bytes ≡ 8
unfolding handler
handler_size at h bytes ok spelt =
    let a = inner u2 _ at h bytes ok spelt in
    let b = inner u2 _ _ h a.back a.backs a.rest in
    let c = inner u2 _ _ h b.back b.backs b.rest in
    let d = inner u2 _ _ h c.back c.backs c.rest in
    let g = given _ _ h d.back d.rest in
    let one = u2_is _ a.x a.front a.fronts a.one in
    let two = u2_is _ b.x b.front b.fronts b.one in
    let three = u2_is _ c.x c.front c.fronts c.one in
    let four = u2_is _ d.x d.front d.fronts d.one in
    omega (arith, a.sizes, b.sizes, c.sizes, d.sizes, g.1, one.1, two.1, three.1, four.1)

-- as many items, each of as many bytes
each_size : {A : Type 0} (p : Format A) (m : ℕ) → ((at : ℕ) (x : A) (bytes : List ℕ) → InBytes bytes
    → Spells p at x bytes
    → length bytes ≡ m) → (n at : ℕ) (xs : List A) (bytes : List ℕ) → InBytes bytes → Spells (repeated n p) at xs bytes
    → (length xs ≡ n) × (length bytes ≡ m * n)
unfolding repeated
each_size p m size zero at xs bytes ok spelt =
    let g = given [] at xs bytes spelt in
    (ap length (sym g.0), omega (arith, g.1))
each_size p m size (suc n) at xs bytes ok spelt =
    let a = inner p (λ y. repeated n p >>= λ ys. gives (y ∷ ys)) at xs bytes ok spelt in
    let b = inner (repeated n p) (λ ys. gives (a.x ∷ ys)) _ xs a.back a.backs a.rest in
    let g = given (a.x ∷ b.x) _ xs b.back b.rest in
    let one = size at a.x a.front a.fronts a.one in
    let more = each_size p m size n _ b.x b.front b.fronts b.one in (
      ap length (sym g.0) ∙ ap suc more.0,
      by m n (length bytes) (length a.front) (length a.back) (length b.front) (length b.back) a.sizes b.sizes g.1 one
          more.1,
    )
  where
    by : (m n all front back first rest : ℕ) → all ≡ front + back → back ≡ first + rest → rest ≡ 0 → front ≡ m → first
        ≡ m * n → all ≡ m * suc n
    by m n all front back first rest e f g h i =
        let product : m * suc n ≡ m * n + m = mul-suc m n in
        omega (arith, e, f, g, h, i, product)

size_said : (end n m : ℕ) → size_in end n ≡ Some m → n + 3 ≡ end
size_said end n m e = by (n + 3 == end) refl e
  where
    by : (b : Bool) → (n + 3 == end) ≡ b → (if b then Some n else None) ≡ Some m → n + 3 ≡ end
    by true is f = eqb-true (n + 3) end is
    by false is f = absurd cc

-- what is left up to the end is as long as its bytes
left_size : (end at : ℕ) (m bytes : List ℕ) → InBytes bytes → Spells (bytes_before end) at m bytes → length bytes
    ≡ length m
unfolding bytes_before
left_size end at m bytes ok spelt =
    let g = inner (here (λ k. k)) (λ at. raw (end - at)) at m bytes ok spelt in
    let none = here_is (λ k. k) at g.x g.front g.one in
    let left = raw_is (end - g.x) (at + length g.front) m g.back g.rest in
    omega (arith, g.sizes, none, left.0, left.1)

behind_handlers : (end : ℕ) (hs : List Handler) (at : ℕ) (x : Method) (bytes : List ℕ) → InBytes bytes
    → Spells (bytes_before end >>= λ methods. gives (record { handlers = hs; methods = methods })) at x bytes
    → (x.handlers ≡ hs) × (length bytes ≡ length x.methods)
behind_handlers end hs at x bytes ok spelt =
    let f = inner (bytes_before end) (λ methods. gives (record { handlers = hs; methods = methods })) at x bytes ok
    spelt in
    let g = given (record { handlers = hs; methods = f.x }) (at + length f.front) x f.back f.rest in
    let size = left_size end at f.x f.front f.fronts f.one in
    let same : length f.x ≡ length x.methods = ap (λ (m : Method). length m.methods) g.0 in
    (ap (λ (m : Method). m.handlers) (sym g.0), omega (arith, f.sizes, g.1, size, same))

method_size : (end at : ℕ) (x : Method) (bytes : List ℕ) → InBytes bytes → Spells (method end) at x bytes → length bytes
    ≡ 1 + 8 * length x.handlers + length x.methods
unfolding method
method_size end at x bytes ok spelt =
    let d = inner u1 (λ count. repeated count handler >>= λ handlers. bytes_before end >>= λ methods. gives (record {
      handlers = handlers;
      methods = methods;
    })) at x bytes ok spelt in
    let count = u1_is at d.x d.front d.fronts d.one in
    let e = inner (repeated d.x handler) (λ handlers. bytes_before end >>= λ methods. gives (record {
      handlers = handlers;
      methods = methods;
    })) (at + length d.front) x d.back d.backs d.rest in
    let all = each_size handler 8 handler_size d.x (at + length d.front) e.x e.front e.fronts e.one in
    let more = behind_handlers end e.x (at + length d.front + length e.front) x e.back e.backs e.rest in
    let handlers : length x.handlers ≡ d.x = ap length more.0 ∙ all.0 in
    let product : 8 * length x.handlers ≡ 8 * d.x = ap (λ k. 8 * k) handlers in
    omega (arith, d.sizes, count.1, e.sizes, all.1, more.1, product)

same_method : (a b : Method) → components.Method a ≡ components.Method b → a ≡ b
same_method a b e = cc

module _ (bytes : List ℕ) (ok : InBytes bytes) (x : Method) where
  info_size : (at : ℕ) (left : List ℕ) → InBytes left → Spells (info 7 (length bytes)) at (components.Method x) left
      → length left ≡ 1 + 8 * length x.handlers + length x.methods
  unfolding info
  info_size at left ok spelt =
      let c = inner (method (length bytes)) (λ y. gives (components.Method y)) at (components.Method x) left ok spelt in
      let made = given (components.Method c.x) (at + length c.front) (components.Method x) c.back c.rest in
      let size = method_size (length bytes) at c.x c.front c.fronts c.one in
      let same : c.x ≡ x = same_method c.x x made.0 in
      let whole : length left ≡ 1 + 8 * length (let m = c.x in m.handlers) + length (let m = c.x in m.methods) =
      omega (arith, c.sizes, made.1, size) in
      whole ∙ ap (λ (m : Method). 1 + 8 * length m.handlers + length m.methods) same

  -- two bytes count what Method has
  pub method_fits : FileSpells (component 7 (length bytes)) (components.Method x) bytes → 1 + 8 * length x.handlers
      + length x.methods ≤ 0xFFFF
  unfolding component
  method_fits spelt =
      let a = inner (number w8 (exactly 7)) (λ first. number w16 (size_in (length bytes)) >>= λ size. info 7
      (length bytes)) 0 (components.Method x) bytes ok spelt in
      let tag = number8 (exactly 7) 0 a.x a.front a.fronts a.one in
      let b = inner (number w16 (size_in (length bytes))) (λ size. info 7 (length bytes)) (0 + length a.front)
      (components.Method x) a.back a.backs a.rest in
      let size = number16 (size_in (length bytes)) (0 + length a.front) b.x b.front b.fronts b.one in
      let said = size_said (length bytes) size.n b.x size.is in
      let all = info_size (0 + length a.front + length b.front) b.back b.backs b.rest in
      by (length bytes) (length a.front) (length a.back) (length b.front) (length b.back) size.n (1
      + 8 * length x.handlers + length x.methods) a.sizes tag.sizes b.sizes size.sizes said size.small all
    where
      by : (end tag back size rest n all : ℕ) → end ≡ tag + back → tag ≡ 1 → back ≡ size + rest → size ≡ 2 → n + 3 ≡ end
          → n < 2 ^ 16 → rest ≡ all → all ≤ 0xFFFF
      by end tag back size rest n all e f g h i j k = omega (arith, e, f, g, h, i, j, k)
