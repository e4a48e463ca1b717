-- A component has no fewer bytes than its file, so what was read is small.
use Rattle.std.proofs.Common.{◌≡◌, ℕ, zero, suc, ◌+◌, ◌-◌, ◌*◌, ◌/◌, ◌%◌, ◌^◌, ◌<◌, ◌≤◌, ◌==◌, Bool, true, false, List}
use Rattle.std.proofs.Common.{[], ◌∷◌, ◌++◌, length, refl, sym, ap, subst, ◌∙◌, arith, All, Option, Some, None, Result}
use Rattle.std.proofs.Common.{Ok, Err, length-append}
use Rattle.std.specs.Prelude.{nat_lt, sum_by}
use Rattle.std.specs.List.{flat_map}
use Rattle.std.specs.Int.{Width, w8, w16, w32, byte_len, from_be_bytes}
use Rattle.std.proofs.lemmas.List.Sums.{sum_by-cons, sum_by-append}
use Rattle.cjc_bytes.specs.AccessFlags.{is_static}
use Rattle.cjc_bytes.specs.Format.{Format, number, run, here, looked_up, gives, followed_by, Spells, FileSpells}
use Rattle.cjc_bytes.specs.Format.{repeated, before, where_true, u1, u2, raw}
use Rattle.cjc_bytes.proofs.Laws.{file_ok}
use Rattle.cjc_bytes.proofs.Bools.{by_if}
use Rattle.cjc_capread.specs.Parts.{bytes1, bytes2, items1, bytes_before, class_ref, static_ref, static_rest}
use Rattle.cjc_capread.specs.Header.{header}
use Rattle.cjc_capread.specs.Directory.{directory}
use Rattle.cjc_capread.specs.Applet.{applet, applet_entry}
use Rattle.cjc_capread.specs.Import.{import, imported_package}
use Rattle.cjc_capread.specs.Pool.{constant_pool, content, pool_entry, tag_of}
use Rattle.cjc_capread.specs.Class.{class_entry, class_info, entry_content, implemented_interface, interface_entry}
use Rattle.cjc_capread.specs.Class.{next_entry}
use Rattle.cjc_capread.specs.Method.{handler, method}
use Rattle.cjc_capread.specs.StaticField.{array_init, static_field}
use Rattle.cjc_capread.specs.ReferenceLocation.{reference_location}
use Rattle.cjc_capread.specs.Export.{export, exported_class}
use Rattle.cjc_capread.specs.Descriptor.{class_descriptor, descriptor, ended, field_descriptor, field_place}
use Rattle.cjc_capread.specs.Descriptor.{method_descriptor, two_nibbles, type_descriptor}
use Rattle.cjc_capread.specs.Until.{or_gives, until}
use Rattle.cjc_capread.specs.Component.{component, either, info, size_in}
use Rattle.cjc_capread.specs.Kinds.{applet_of, import_of, pool_of, class_of, method_of, statics_of, locations_of}
use Rattle.cjc_capread.specs.Kinds.{export_of, descriptor_of}
use Rattle.cjc_capread.specs.declared.tree.AppletEntry.{AppletEntry}
use Rattle.cjc_capread.specs.declared.tree.Applet.{Applet}
use Rattle.cjc_capread.specs.declared.tree.ArrayInit.{ArrayInit}
use Rattle.cjc_capread.specs.declared.tree.CapTree.{CapTree}
use Rattle.cjc_capread.specs.declared.tree.ClassDescriptor.{ClassDescriptor}
use Rattle.cjc_capread.specs.declared.tree.ClassEntry.{ClassEntry}
use Rattle.cjc_capread.specs.declared.tree.ClassInfo.{ClassInfo}
use Rattle.cjc_capread.specs.declared.tree.ClassRef.{ClassRef}
use Rattle.cjc_capread.specs.declared.tree.Component.{Component}
use Rattle.cjc_capread.specs.declared.tree.Component.TheVariants as components
use Rattle.cjc_capread.specs.declared.tree.ConstantPool.{ConstantPool}
use Rattle.cjc_capread.specs.declared.tree.Descriptor.{Descriptor}
use Rattle.cjc_capread.specs.declared.tree.Directory.{Directory}
use Rattle.cjc_capread.specs.declared.tree.Export.{Export}
use Rattle.cjc_capread.specs.declared.tree.ExportedClass.{ExportedClass}
use Rattle.cjc_capread.specs.declared.tree.FieldDescriptor.{FieldDescriptor}
use Rattle.cjc_capread.specs.declared.tree.FieldPlace.{FieldPlace}
use Rattle.cjc_capread.specs.declared.tree.Handler.{Handler}
use Rattle.cjc_capread.specs.declared.tree.Header.{Header}
use Rattle.cjc_capread.specs.declared.tree.ImplementedInterface.{ImplementedInterface}
use Rattle.cjc_capread.specs.declared.tree.Import.{Import}
use Rattle.cjc_capread.specs.declared.tree.ImportedPackage.{ImportedPackage}
use Rattle.cjc_capread.specs.declared.tree.InterfaceEntry.{InterfaceEntry}
use Rattle.cjc_capread.specs.declared.tree.Method.{Method}
use Rattle.cjc_capread.specs.declared.tree.MethodDescriptor.{MethodDescriptor}
use Rattle.cjc_capread.specs.declared.tree.PoolEntry.{PoolEntry}
use Rattle.cjc_capread.specs.declared.tree.ReferenceLocation.{ReferenceLocation}
use Rattle.cjc_capread.specs.declared.tree.StaticField.{StaticField}
use Rattle.cjc_capread.specs.declared.tree.StaticRef.{StaticRef}
use Rattle.cjc_capread.specs.declared.tree.TypeDescriptor.{TypeDescriptor}
use Rattle.cjc_cmd_check.specs.Folder.Breaks.{ArePartsShort, IsShort, cap_in, cap_of, front, with_component}
use Rattle.cjc_cmd_check.specs.Folder.Breaks.{with_components, with_read}
use Rattle.cjc_cmd_check.specs.Folder.Reads.{read_component}
use Rattle.cjc_cmd_check.specs.declared.folder.folder.Parts.{Parts}
use Rattle.cjc_check.specs.LowerCheckRules.Complete.{IsSmall, applet_size, applets_size, array_size, class_info_size}
use Rattle.cjc_check.specs.LowerCheckRules.Complete.{class_size}
use Rattle.cjc_check.specs.LowerCheckRules.Complete.{described_size, descriptor_size, export_size, exported_size}
use Rattle.cjc_check.specs.LowerCheckRules.Complete.{header_size}
use Rattle.cjc_check.specs.LowerCheckRules.Complete.{import_size, interface_size, locations_size, map_size, method_size}
use Rattle.cjc_check.specs.LowerCheckRules.Complete.{package_size, pool_size, size_of, statics_size, type_size}
use Rattle.cjc_check.proofs.CheckRulesArrays.{two_each, four_each, seven_each, eight_each, twelve_each}

-- ---- formats

-- the two parts of a format that follows another, and how many bytes they have together
record Two {A B : Type 0} (p : Format B) (f : B → Format A) (a : A) (bytes : List ℕ) : Type 0 where
  x : B
  from : ℕ
  place : ℕ
  front : List ℕ
  back : List ℕ
  total : length bytes ≡ length front + length back
  one : Spells p from x front
  rest : Spells (f x) place a back

two : {A B : Type 0} (p : Format B) (f : B → Format A) (at : ℕ) (a : A) (bytes : List ℕ)
    → Spells (followed_by p f) at a bytes → Two p f a bytes
unfolding Spells
two p f at a bytes h = record {
  x = h.0;
  from = at;
  place = at + length h.1;
  front = h.1;
  back = h.2;
  total = ap length h.3 ∙ length-append h.1 h.2;
  one = h.4;
  rest = h.5;
}

given : {A : Type 0} (x : A) (at : ℕ) (a : A) (bytes : List ℕ) → Spells (gives x) at a bytes → x ≡ a
unfolding Spells
given x at a bytes h = h.1

wide : {A : Type 0} (w : Width) (table : ℕ → Option A) (at : ℕ) (a : A) (bytes : List ℕ)
    → Spells (number w table) at a bytes → length bytes ≡ byte_len w
unfolding Spells
wide w table at a bytes h = h.0

one_byte : (at a : ℕ) (bytes : List ℕ) → Spells u1 at a bytes → length bytes ≡ 1
unfolding u1
one_byte at a bytes h = wide w8 Some at a bytes h

two_bytes : (at a : ℕ) (bytes : List ℕ) → Spells u2 at a bytes → length bytes ≡ 2
unfolding u2
two_bytes at a bytes h = wide w16 Some at a bytes h

all_bytes : (n at : ℕ) (a bytes : List ℕ) → Spells (raw n) at a bytes → length a ≡ length bytes
unfolding Spells raw
all_bytes n at a bytes h = sym (ap length h.1)

behind_one : (at : ℕ) (a bytes : List ℕ) → Spells bytes1 at a bytes → length bytes ≡ 1 + length a
unfolding bytes1
behind_one at a bytes h =
    let t = two _ _ _ _ _ h in
    let total = t.total in
    let one = one_byte t.from t.x t.front t.one in
    let rest = all_bytes t.x t.place a t.back t.rest in
    omega (arith, total, one, rest)

behind_two : (at : ℕ) (a bytes : List ℕ) → Spells bytes2 at a bytes → length bytes ≡ 2 + length a
unfolding bytes2
behind_two at a bytes h =
    let t = two _ _ _ _ _ h in
    let total = t.total in
    let one = two_bytes t.from t.x t.front t.one in
    let rest = all_bytes t.x t.place a t.back t.rest in
    omega (arith, total, one, rest)

named : (at : ℕ) (a : ClassRef) (bytes : List ℕ) → Spells class_ref at a bytes → length bytes ≡ 2
unfolding class_ref
named at a bytes h = wide w16 _ at a bytes h

-- Each value has no more bytes than spell it.
abbrev Measures : {A : Type 0} → Format A → (A → ℕ) → Type 0
Measures {A} p size = (at : ℕ) (a : A) (bytes : List ℕ) → Spells p at a bytes → size a ≤ length bytes

in_row : {A : Type 0} (p : Format A) (size : A → ℕ) → Measures p size → (n : ℕ) → Measures (repeated n p) (sum_by size)
unfolding repeated
in_row {A} p size m zero at xs bytes h = subst (λ (ys : List A). sum_by size ys ≤ length bytes) (given [] at xs bytes h)
    (omega arith)
in_row {A} p size m (suc n) at xs bytes h =
    let t = two _ _ _ _ _ h in
    let u = two _ _ _ _ _ t.rest in
    let a = t.total in
    let b = u.total in
    let one = m t.from t.x t.front t.one in
    let more = in_row p size m n u.from u.x u.front u.one in
    let s = sum_by-cons size t.x u.x in
    subst (λ (ys : List A). sum_by size ys ≤ length bytes) (given (t.x ∷ u.x) u.place xs u.back u.rest) (omega (
      arith,
      a,
      b,
      one,
      more,
      s,
    ))

numbers : (n : ℕ) → Measures (repeated n u2) (λ xs. 2 * length xs)
numbers n at xs bytes h =
    let s = in_row u2 (λ x. 2) (λ k a bs g. let e = two_bytes k a bs g in omega (arith, e)) n at xs bytes h in
    let e = two_each xs in
    omega (arith, s, e)

items : (n : ℕ) → Measures (repeated n u1) (λ xs. length xs)
unfolding repeated
items zero at xs bytes h = subst (λ (ys : List ℕ). length ys ≤ length bytes) (given [] at xs bytes h) (omega arith)
items (suc n) at xs bytes h =
    let t = two _ _ _ _ _ h in
    let u = two _ _ _ _ _ t.rest in
    let a = t.total in
    let b = u.total in
    let one = one_byte t.from t.x t.front t.one in
    let more = items n u.from u.x u.front u.one in
    let is : t.x ∷ u.x ≡ xs = given (t.x ∷ u.x) u.place xs u.back u.rest in
    subst (λ (ys : List ℕ). length ys ≤ length bytes) is (omega (arith, a, b, one, more))

behind_items : Measures items1 (λ xs. 1 + length xs)
unfolding items1
behind_items at a bytes h =
    let t = two _ _ _ _ _ h in
    let total = t.total in
    let one = one_byte t.from t.x t.front t.one in
    let rest = items t.x t.place a t.back t.rest in
    omega (arith, total, one, rest)

refs : (n : ℕ) → Measures (repeated n class_ref) (λ xs. 2 * length xs)
refs n at xs bytes h =
    let s = in_row class_ref (λ x. 2) (λ k a bs g. let e = named k a bs g in omega (arith, e)) n at xs bytes h in
    let e = two_each xs in
    omega (arith, s, e)

-- The same where so many bytes stand before it.
abbrev MeasuresFrom : {A : Type 0} → Format A → ℕ → (A → ℕ) → Type 0
MeasuresFrom {A} p n size = (at : ℕ) (a : A) (bytes : List ℕ) → Spells p at a bytes → size a ≤ n + length bytes

take : {A B : Type 0} (p : Format B) (f : B → Format A) (n : ℕ) (size : A → ℕ) (own : B → ℕ) → Measures p own
    → ((x : B) → MeasuresFrom (f x) (n + own x) size) → MeasuresFrom (followed_by p f) n size
take p f n size own m rest at v bytes h =
    let t = two _ _ _ _ _ h in
    let total = t.total in
    let one = m t.from t.x t.front t.one in
    let more = rest t.x t.place v t.back t.rest in
    omega (arith, total, one, more)

last : {A : Type 0} (y : A) (n : ℕ) (size : A → ℕ) → size y ≤ n → MeasuresFrom (gives y) n size
last {A} y n size le at v bytes h = subst (λ (z : A). size z ≤ n + length bytes) (given y at v bytes h) (omega (
  arith,
  le,
))

whole : {A : Type 0} (p : Format A) (size : A → ℕ) → MeasuresFrom p 0 size → Measures p size
whole p size m at v bytes h = let le = m at v bytes h in omega (arith, le)

a_byte : {A : Type 0} (table : ℕ → Option A) → Measures (number w8 table) (λ x. 1)
a_byte table at v bytes h = let e = wide w8 table at v bytes h in omega (arith, e)

four : {A : Type 0} (table : ℕ → Option A) → Measures (number w32 table) (λ x. 4)
four table at v bytes h = let e = wide w32 table at v bytes h in omega (arith, e)

one : Measures u1 (λ x. 1)
one at v bytes h = let e = one_byte at v bytes h in omega (arith, e)

double : Measures u2 (λ x. 2)
double at v bytes h = let e = two_bytes at v bytes h in omega (arith, e)

a_ref : Measures class_ref (λ x. 2)
a_ref at v bytes h = let e = named at v bytes h in omega (arith, e)

counted : Measures bytes1 (λ a. 1 + length a)
counted at v bytes h = let e = behind_one at v bytes h in omega (arith, e)

-- ---- components

of_header : Measures header (header_size)
unfolding header
of_header = whole _ _ (take _ _ _ _ (λ m. 4) (four _) (λ m. take _ _ _ _ (λ n. 1) (a_byte _) (λ n. take _ _ _ _ (λ o. 1)
    (a_byte _) (λ o. take _ _ _ _ (λ f. 1) one (λ f. take _ _ _ _ (λ p. 1) one (λ p. take _ _ _ _ (λ q. 1) one
    (λ q. take _ _ _ _ (λ aid. 1 + length aid) counted (λ aid. take _ _ _ _ (λ name. 1 + length name) counted
    (λ name. last _ _ _ (omega arith))))))))))

of_directory : Measures directory (λ v. 2 * length v.component_sizes)
unfolding directory
of_directory = whole _ _ (take _ _ _ _ (λ sizes. 2 * length sizes) (numbers 12) (λ sizes. take _ _ _ _ (λ i. 2) double
    (λ i. take _ _ _ _ (λ a. 2) double (λ a. take _ _ _ _ (λ b. 2) double (λ b. take _ _ _ _ (λ c. 1) one
    (λ c. take _ _ _ _ (λ d. 1) one (λ d. take _ _ _ _ (λ e. 1) (a_byte _) (λ e. last _ _ _ (omega arith)))))))))

of_applet_entry : Measures applet_entry (applet_size)
unfolding applet_entry
of_applet_entry at v bytes h =
    let aid = two _ _ _ _ _ h in
    let aid_t = aid.total in
    let aid_s = behind_one aid.from aid.x aid.front aid.one in
    let place = two _ _ _ _ _ aid.rest in
    let place_t = place.total in
    let place_s = two_bytes place.from place.x place.front place.one in
    let P : AppletEntry → Type 0 = λ y. applet_size y ≤ length bytes in
    subst P (given _ place.place v place.back place.rest) (omega (arith, aid_t, aid_s, place_t, place_s))

of_applet : Measures applet (applets_size)
unfolding applet
of_applet at v bytes h =
    let count = two _ _ _ _ _ h in
    let count_t = count.total in
    let count_s = one_byte count.from count.x count.front count.one in
    let all = two _ _ _ _ _ count.rest in
    let all_t = all.total in
    let all_s = in_row applet_entry applet_size of_applet_entry count.x all.from all.x all.front all.one in
    let P : Applet → Type 0 = λ y. applets_size y ≤ length bytes in
    subst P (given _ all.place v all.back all.rest) (omega (arith, count_t, count_s, all_t, all_s))

of_package : Measures imported_package (package_size)
unfolding imported_package
of_package at v bytes h =
    let minor = two _ _ _ _ _ h in
    let minor_t = minor.total in
    let minor_s = one_byte minor.from minor.x minor.front minor.one in
    let major = two _ _ _ _ _ minor.rest in
    let major_t = major.total in
    let major_s = one_byte major.from major.x major.front major.one in
    let aid = two _ _ _ _ _ major.rest in
    let aid_t = aid.total in
    let aid_s = behind_one aid.from aid.x aid.front aid.one in
    let P : ImportedPackage → Type 0 = λ y. package_size y ≤ length bytes in
    subst P (given _ aid.place v aid.back aid.rest) (omega (arith, minor_t, minor_s, major_t, major_s, aid_t, aid_s))

of_import : Measures import (import_size)
unfolding import
of_import at v bytes h =
    let count = two _ _ _ _ _ h in
    let count_t = count.total in
    let count_s = one_byte count.from count.x count.front count.one in
    let all = two _ _ _ _ _ count.rest in
    let all_t = all.total in
    let all_s = in_row imported_package package_size of_package count.x all.from all.x all.front all.one in
    let P : Import → Type 0 = λ y. import_size y ≤ length bytes in
    subst P (given _ all.place v all.back all.rest) (omega (arith, count_t, count_s, all_t, all_s))

of_static_rest : (o : Option ℕ) → Measures (static_rest o) (λ v. 2)
unfolding static_rest
of_static_rest None at v bytes h =
    let offset = two _ _ _ _ _ h in
    let total = offset.total in
    let s = two_bytes offset.from offset.x offset.front offset.one in
    omega (arith, total, s)
of_static_rest (Some imported) at v bytes h =
    let class = two _ _ _ _ _ h in
    let token = two _ _ _ _ _ class.rest in
    let a = class.total in
    let b = token.total in
    let c = one_byte class.from class.x class.front class.one in
    let d = one_byte token.from token.x token.front token.one in
    omega (arith, a, b, c, d)

of_static_ref : Measures static_ref (λ v. 3)
unfolding static_ref
of_static_ref at v bytes h =
    let first = two _ _ _ _ _ h in
    let total = first.total in
    let s = wide w8 _ first.from first.x first.front first.one in
    let rest = of_static_rest first.x first.place v first.back first.rest in
    omega (arith, total, s, rest)

with_token : (at : ℕ) (f : ClassRef → Format PoolEntry) (v : PoolEntry) (bytes : List ℕ)
    → ((r : ClassRef) → Measures (f r) (λ x. 1)) → Spells (followed_by class_ref f) at v bytes → 3 ≤ length bytes
with_token at f v bytes m h =
    let owner = two _ _ _ _ _ h in
    let total = owner.total in
    let s = named owner.from owner.x owner.front owner.one in
    let rest = m owner.x owner.place v owner.back owner.rest in
    omega (arith, total, s, rest)

behind_byte : {A B : Type 0} (table : ℕ → Option B) (f : B → Format A)
    → Measures (followed_by (number w8 table) f) (λ x. 1)
behind_byte table f at v bytes h =
    let t = two _ _ _ _ _ h in
    let total = t.total in
    let s = wide w8 table t.from t.x t.front t.one in
    omega (arith, total, s)

behind_u1 : {A : Type 0} (f : ℕ → Format A) → Measures (followed_by u1 f) (λ x. 1)
unfolding u1
behind_u1 f at v bytes h = behind_byte Some f at v bytes h

with_static : (at : ℕ) (f : StaticRef → Format PoolEntry) (v : PoolEntry) (bytes : List ℕ)
    → Spells (followed_by static_ref f) at v bytes → 3 ≤ length bytes
with_static at f v bytes h =
    let t = two _ _ _ _ _ h in
    let total = t.total in
    let s = of_static_ref t.from t.x t.front t.one in
    omega (arith, total, s)

-- Three bytes stand behind each tag.
abbrev AllThree : {T : Type 0} → (T → Format PoolEntry) → Option T → Type 0
AllThree {T} f o = (x : T) → o ≡ Some x → Measures (f x) (λ v. 3)

one_tag : {T : Type 0} (f : T → Format PoolEntry) (a : T) → Measures (f a) (λ v. 3) → AllThree f (Some a)
one_tag {T} f a m x e = let same : a ≡ x = cc in subst (λ (y : T). Measures (f y) (λ v. 3)) same m

no_tag : {T : Type 0} (f : T → Format PoolEntry) → AllThree f None
no_tag f x e = absurd cc

of_tags : (n : ℕ) → AllThree content (tag_of n)
unfolding content
of_tags n =
    by_if (AllThree content) (n == 1) _ _ (one_tag content _ (λ at v bytes h. with_token at _ v bytes
    (λ r. behind_byte _ _) h))
    (by_if (AllThree content) (n == 2) _ _ (one_tag content _ (λ at v bytes h. with_token at _ v bytes
    (λ r. behind_u1 _) h))
    (by_if (AllThree content) (n == 3) _ _ (one_tag content _ (λ at v bytes h. with_token at _ v bytes
    (λ r. behind_u1 _) h))
    (by_if (AllThree content) (n == 4) _ _ (one_tag content _ (λ at v bytes h. with_token at _ v bytes
    (λ r. behind_u1 _) h))
    (by_if (AllThree content) (n == 5) _ _ (one_tag content _ (λ at v bytes h. with_static at _ v bytes h))
    (by_if (AllThree content) (n == 6) _ _ (one_tag content _ (λ at v bytes h. with_static at _ v bytes h))
    (no_tag content))))))

tabled : {A : Type 0} (w : Width) (table : ℕ → Option A) (at : ℕ) (a : A) (bytes : List ℕ)
    → Spells (number w table) at a bytes → table (from_be_bytes w bytes) ≡ Some a
unfolding Spells
tabled w table at a bytes h = h.1

of_entry : Measures pool_entry (λ v. 4)
unfolding pool_entry
of_entry at v bytes h =
    let tag = two _ _ _ _ _ h in
    let total = tag.total in
    let s = wide w8 _ tag.from tag.x tag.front tag.one in
    let rest = of_tags (from_be_bytes w8 tag.front) tag.x (tabled w8 tag_of tag.from tag.x tag.front tag.one) tag.place
    v tag.back tag.rest in
    omega (arith, total, s, rest)

entries : (n : ℕ) → Measures (repeated n pool_entry) (λ xs. 4 * length xs)
entries n at xs bytes h =
    let s = in_row pool_entry (λ x. 4) of_entry n at xs bytes h in
    let e = four_each xs in
    omega (arith, s, e)

of_pool : Measures constant_pool (pool_size)
unfolding constant_pool
of_pool at v bytes h =
    let count = two _ _ _ _ _ h in
    let count_t = count.total in
    let count_s = two_bytes count.from count.x count.front count.one in
    let all = two _ _ _ _ _ count.rest in
    let all_t = all.total in
    let all_s = entries count.x all.from all.x all.front all.one in
    let P : ConstantPool → Type 0 = λ y. pool_size y ≤ length bytes in
    subst P (given _ all.place v all.back all.rest) (omega (arith, count_t, count_s, all_t, all_s))

of_interface : (flags : ℕ) → (count : ℕ) → Measures (interface_entry flags count) (λ v. 2 * length v.superinterfaces)
unfolding interface_entry
of_interface flags count at v bytes h =
    let supers = two _ _ _ _ _ h in
    let supers_t = supers.total in
    let supers_s = refs count supers.from supers.x supers.front supers.one in
    let P : InterfaceEntry → Type 0 = λ y. 2 * length y.superinterfaces ≤ length bytes in
    subst P (given _ supers.place v supers.back supers.rest) (omega (arith, supers_t, supers_s))

of_map : Measures implemented_interface (map_size)
unfolding implemented_interface
of_map at v bytes h =
    let interface = two _ _ _ _ _ h in
    let interface_t = interface.total in
    let interface_s = named interface.from interface.x interface.front interface.one in
    let index = two _ _ _ _ _ interface.rest in
    let index_t = index.total in
    let index_s = behind_items index.from index.x index.front index.one in
    let P : ImplementedInterface → Type 0 = λ y. map_size y ≤ length bytes in
    subst P (given _ index.place v index.back index.rest) (omega (arith, interface_t, interface_s, index_t, index_s))

of_class : (flags : ℕ) → (count : ℕ) → Measures (class_entry flags count) (λ v. 9 + 2 * length v.public_methods + 2 *
    length v.package_methods + sum_by map_size v.interfaces)
unfolding class_entry
of_class flags count = whole _ _ (take _ _ _ _ (λ owner. 2) a_ref (λ owner. take _ _ _ _ (λ a. 1) one
    (λ a. take _ _ _ _ (λ b. 1) one (λ b. take _ _ _ _ (λ c. 1) one (λ c. take _ _ _ _ (λ d. 1) one
    (λ d. take _ _ _ _ (λ outer_count. 1) one (λ outer_count. take _ _ _ _ (λ e. 1) one
    (λ e. take _ _ _ _ (λ inner_count. 1) one (λ inner_count. take _ _ _ _ (λ outer. 2 * length outer)
    (numbers outer_count) (λ outer. take _ _ _ _ (λ inner. 2 * length inner) (numbers inner_count)
    (λ inner. take _ _ _ _ (λ maps. sum_by map_size maps) (in_row implemented_interface map_size of_map count)
    (λ maps. last _ _ _ (omega arith)))))))))))))

-- the bytes of interfaces and classes
abbrev infos : ClassInfo → ℕ
infos c = sum_by interface_size c.interfaces + sum_by class_size c.classes

one_more : {A : Type 0} (size : A → ℕ) (xs : List A) (x : A) → sum_by size (xs ++ x ∷ []) ≡ sum_by size xs + size x
one_more size xs x = let a = sum_by-append size xs (x ∷ []) in let b = sum_by-cons size x [] in omega (arith, a, b)

of_info : (so_far : ClassInfo) (is_class : Bool) (n : ℕ)
    → Measures (entry_content so_far is_class n) (λ v. infos v - infos so_far - 1)
unfolding entry_content
of_info so_far true n at v bytes h =
    let t = two _ _ _ _ _ h in
    let total = t.total in
    let s = of_class _ _ t.from t.x t.front t.one in
    let m = one_more class_size so_far.classes t.x in
    let P : ClassInfo → Type 0 = λ y. infos y - infos so_far - 1 ≤ length bytes in
    subst P (given _ t.place v t.back t.rest) (omega (arith, total, s, m))
of_info so_far false n at v bytes h =
    let t = two _ _ _ _ _ h in
    let total = t.total in
    let s = of_interface _ _ t.from t.x t.front t.one in
    let m = one_more interface_size so_far.interfaces t.x in
    let P : ClassInfo → Type 0 = λ y. infos y - infos so_far - 1 ≤ length bytes in
    subst P (given _ t.place v t.back t.rest) (omega (arith, total, s, m))

of_next : (so_far : ClassInfo) → Measures (next_entry so_far) (λ v. infos v - infos so_far)
unfolding next_entry
of_next so_far at v bytes h =
    let t = two _ _ _ _ _ h in
    let total = t.total in
    let s = wide w8 _ t.from t.x t.front t.one in
    let rest = of_info so_far _ t.x t.place v t.back t.rest in
    omega (arith, total, s, rest)

infos_by_test : (b : Bool) (p : ClassInfo → Format ClassInfo) (so_far : ClassInfo) (place : ℕ) (v : ClassInfo)
    (back : List ℕ) → ((t : ClassInfo) → Measures (p t) (λ y. infos y - infos t))
    → Spells (or_gives b (followed_by (next_entry so_far) p) so_far) place v back → infos v - infos so_far ≤ length back
infos_by_test true p so_far place v back m h =
    let t = two _ _ _ _ _ h in
    let total = t.total in
    let one = of_next so_far t.from t.x t.front t.one in
    let rest = m t.x t.place v t.back t.rest in
    omega (arith, total, one, rest)
infos_by_test false p so_far place v back m h =
    let P : ClassInfo → Type 0 = λ y. infos y - infos so_far ≤ length back in
    subst P (given so_far place v back h) (omega arith)

of_all_infos : (n end : ℕ) (so_far : ClassInfo) → Measures (until n end next_entry so_far) (λ v. infos v - infos so_far)
unfolding until
of_all_infos zero end so_far at v bytes h =
    let P : ClassInfo → Type 0 = λ y. infos y - infos so_far ≤ length bytes in
    subst P (given so_far at v bytes h) (omega arith)
of_all_infos (suc n) end so_far at v bytes h =
    let more = two _ _ _ _ _ h in
    let total = more.total in
    let rest = infos_by_test more.x (until n end next_entry) so_far more.place v more.back (λ t. of_all_infos n end t)
    more.rest in
    omega (arith, total, rest)

of_classes : (end : ℕ) → Measures (class_info end) class_info_size
unfolding class_info
of_classes end at v bytes h =
    let t = two _ _ _ _ _ h in
    let total = t.total in
    let s = wide w16 _ t.from t.x t.front t.one in
    let rest = of_all_infos end end _ t.place v t.back t.rest in
    omega (arith, total, s, rest)

of_handler : Measures handler (λ v. 8)
unfolding handler
of_handler at v bytes h =
    let a = two _ _ _ _ _ h in
    let a_t = a.total in
    let a_s = two_bytes a.from a.x a.front a.one in
    let b = two _ _ _ _ _ a.rest in
    let b_t = b.total in
    let b_s = two_bytes b.from b.x b.front b.one in
    let c = two _ _ _ _ _ b.rest in
    let c_t = c.total in
    let c_s = two_bytes c.from c.x c.front c.one in
    let d = two _ _ _ _ _ c.rest in
    let d_t = d.total in
    let d_s = two_bytes d.from d.x d.front d.one in
    let P : Handler → Type 0 = λ y. 8 ≤ length bytes in
    subst P (given _ d.place v d.back d.rest) (omega (arith, a_t, a_s, b_t, b_s, c_t, c_s, d_t, d_s))

handlers : (n : ℕ) → Measures (repeated n handler) (λ xs. 8 * length xs)
handlers n at xs bytes h =
    let s = in_row handler (λ x. 8) of_handler n at xs bytes h in
    let e = eight_each xs in
    omega (arith, s, e)

up_to : (end : ℕ) → Measures (bytes_before end) length
unfolding bytes_before
up_to end at v bytes h =
    let t = two _ _ _ _ _ h in
    let total = t.total in
    let rest = all_bytes _ t.place v t.back t.rest in
    omega (arith, total, rest)

of_method : (end : ℕ) → Measures (method end) (method_size)
unfolding method
of_method end at v bytes h =
    let count = two _ _ _ _ _ h in
    let count_t = count.total in
    let count_s = one_byte count.from count.x count.front count.one in
    let all = two _ _ _ _ _ count.rest in
    let all_t = all.total in
    let all_s = handlers count.x all.from all.x all.front all.one in
    let rest = two _ _ _ _ _ all.rest in
    let rest_t = rest.total in
    let rest_s = up_to end rest.from rest.x rest.front rest.one in
    let P : Method → Type 0 = λ y. method_size y ≤ length bytes in
    subst P (given _ rest.place v rest.back rest.rest) (omega (arith, count_t, count_s, all_t, all_s, rest_t, rest_s))

of_array : Measures array_init (array_size)
unfolding array_init
of_array at v bytes h =
    let kind = two _ _ _ _ _ h in
    let kind_t = kind.total in
    let kind_s = wide w8 _ kind.from kind.x kind.front kind.one in
    let values = two _ _ _ _ _ kind.rest in
    let values_t = values.total in
    let values_s = behind_two values.from values.x values.front values.one in
    let P : ArrayInit → Type 0 = λ y. array_size y ≤ length bytes in
    subst P (given _ values.place v values.back values.rest) (omega (arith, kind_t, kind_s, values_t, values_s))

of_statics : Measures static_field (statics_size)
unfolding static_field
of_statics at v bytes h =
    let a = two _ _ _ _ _ h in
    let a_t = a.total in
    let a_s = two_bytes a.from a.x a.front a.one in
    let b = two _ _ _ _ _ a.rest in
    let b_t = b.total in
    let b_s = two_bytes b.from b.x b.front b.one in
    let count = two _ _ _ _ _ b.rest in
    let count_t = count.total in
    let count_s = two_bytes count.from count.x count.front count.one in
    let arrays = two _ _ _ _ _ count.rest in
    let arrays_t = arrays.total in
    let arrays_s = in_row array_init array_size of_array count.x arrays.from arrays.x arrays.front arrays.one in
    let c = two _ _ _ _ _ arrays.rest in
    let c_t = c.total in
    let c_s = two_bytes c.from c.x c.front c.one in
    let values = two _ _ _ _ _ c.rest in
    let values_t = values.total in
    let values_s = behind_two values.from values.x values.front values.one in
    let P : StaticField → Type 0 = λ y. statics_size y ≤ length bytes in
    subst P (given _ values.place v values.back values.rest) (omega (
      arith,
      a_t,
      a_s,
      b_t,
      b_s,
      count_t,
      count_s,
      arrays_t,
      arrays_s,
      c_t,
      c_s,
      values_t,
      values_s,
    ))

of_locations : Measures reference_location (locations_size)
unfolding reference_location
of_locations at v bytes h =
    let a = two _ _ _ _ _ h in
    let a_t = a.total in
    let a_s = behind_two a.from a.x a.front a.one in
    let b = two _ _ _ _ _ a.rest in
    let b_t = b.total in
    let b_s = behind_two b.from b.x b.front b.one in
    let P : ReferenceLocation → Type 0 = λ y. locations_size y ≤ length bytes in
    subst P (given _ b.place v b.back b.rest) (omega (arith, a_t, a_s, b_t, b_s))

of_exported : Measures exported_class (exported_size)
unfolding exported_class
of_exported at v bytes h =
    let offset = two _ _ _ _ _ h in
    let offset_t = offset.total in
    let offset_s = two_bytes offset.from offset.x offset.front offset.one in
    let field_count = two _ _ _ _ _ offset.rest in
    let field_count_t = field_count.total in
    let field_count_s = one_byte field_count.from field_count.x field_count.front field_count.one in
    let method_count = two _ _ _ _ _ field_count.rest in
    let method_count_t = method_count.total in
    let method_count_s = one_byte method_count.from method_count.x method_count.front method_count.one in
    let fields = two _ _ _ _ _ method_count.rest in
    let fields_t = fields.total in
    let fields_s = numbers field_count.x fields.from fields.x fields.front fields.one in
    let methods = two _ _ _ _ _ fields.rest in
    let methods_t = methods.total in
    let methods_s = numbers method_count.x methods.from methods.x methods.front methods.one in
    let P : ExportedClass → Type 0 = λ y. exported_size y ≤ length bytes in
    subst P (given _ methods.place v methods.back methods.rest) (omega (
      arith,
      offset_t,
      offset_s,
      field_count_t,
      field_count_s,
      method_count_t,
      method_count_s,
      fields_t,
      fields_s,
      methods_t,
      methods_s,
    ))

of_export : Measures export (export_size)
unfolding export
of_export at v bytes h =
    let count = two _ _ _ _ _ h in
    let count_t = count.total in
    let count_s = one_byte count.from count.x count.front count.one in
    let all = two _ _ _ _ _ count.rest in
    let all_t = all.total in
    let all_s = in_row exported_class exported_size of_exported count.x all.from all.x all.front all.one in
    let P : Export → Type 0 = λ y. export_size y ≤ length bytes in
    subst P (given _ all.place v all.back all.rest) (omega (arith, count_t, count_s, all_t, all_s))

of_place : (is_fixed : Bool) → Measures (field_place is_fixed) (λ v. 3)
unfolding field_place
of_place true at v bytes h =
    let a = two _ _ _ _ _ h in
    let b = two _ _ _ _ _ a.rest in
    let a_t = a.total in
    let b_t = b.total in
    let a_s = wide w8 _ a.from a.x a.front a.one in
    let b_s = two_bytes b.from b.x b.front b.one in
    omega (arith, a_t, b_t, a_s, b_s)
of_place false at v bytes h =
    let a = two _ _ _ _ _ h in
    let b = two _ _ _ _ _ a.rest in
    let a_t = a.total in
    let b_t = b.total in
    let a_s = named a.from a.x a.front a.one in
    let b_s = one_byte b.from b.x b.front b.one in
    omega (arith, a_t, b_t, a_s, b_s)

of_field : Measures field_descriptor (λ v. 7)
unfolding field_descriptor
of_field at v bytes h =
    let a = two _ _ _ _ _ h in
    let a_t = a.total in
    let a_s = one_byte a.from a.x a.front a.one in
    let b = two _ _ _ _ _ a.rest in
    let b_t = b.total in
    let b_s = one_byte b.from b.x b.front b.one in
    let place = two _ _ _ _ _ b.rest in
    let place_t = place.total in
    let place_s = of_place _ place.from place.x place.front place.one in
    let c = two _ _ _ _ _ place.rest in
    let c_t = c.total in
    let c_s = wide w16 _ c.from c.x c.front c.one in
    let P : FieldDescriptor → Type 0 = λ y. 7 ≤ length bytes in
    subst P (given _ c.place v c.back c.rest) (omega (arith, a_t, a_s, b_t, b_s, place_t, place_s, c_t, c_s))

of_described_method : Measures method_descriptor (λ v. 12)
unfolding method_descriptor
of_described_method =
    whole _ _ (take _ _ _ _ (λ a. 1) one (λ a. take _ _ _ _ (λ b. 1) one (λ b. take _ _ _ _ (λ c. 2) double
    (λ c. take _ _ _ _ (λ d. 2) double (λ d. take _ _ _ _ (λ e. 2) double (λ e. take _ _ _ _ (λ f. 2) double
    (λ f. take _ _ _ _ (λ g. 2) double (λ g. last _ _ _ (omega arith)))))))))

fields : (n : ℕ) → Measures (repeated n field_descriptor) (λ xs. 7 * length xs)
fields n at xs bytes h =
    let s = in_row field_descriptor (λ x. 7) of_field n at xs bytes h in
    let e = seven_each xs in
    omega (arith, s, e)

methods : (n : ℕ) → Measures (repeated n method_descriptor) (λ xs. 12 * length xs)
methods n at xs bytes h =
    let s = in_row method_descriptor (λ x. 12) of_described_method n at xs bytes h in
    let e = twelve_each xs in
    omega (arith, s, e)

of_described : Measures class_descriptor (described_size)
unfolding class_descriptor
of_described = whole _ _ (take _ _ _ _ (λ a. 1) one (λ a. take _ _ _ _ (λ b. 1) one (λ b. take _ _ _ _ (λ c. 2) a_ref
    (λ c. take _ _ _ _ (λ interface_count. 1) one (λ interface_count. take _ _ _ _ (λ field_count. 2) double
    (λ field_count. take _ _ _ _ (λ method_count. 2) double (λ method_count. take _ _ _ _ (λ interfaces. 2 * length
    interfaces) (refs interface_count) (λ interfaces. take _ _ _ _ (λ all_fields. 7 * length all_fields)
    (fields field_count) (λ all_fields. take _ _ _ _ (λ all_methods. 12 * length all_methods) (methods method_count)
    (λ all_methods. last _ _ _ (omega arith)))))))))))

pairs_length : (pairs : List ℕ) → length (flat_map two_nibbles pairs) ≡ 2 * length pairs
pairs_length [] = omega arith
pairs_length (b ∷ pairs) = let h = pairs_length pairs in omega (arith, h)

half : (n : ℕ) → suc (2 * n) / 2 ≤ n
half n = omega arith

half_more : (n : ℕ) → suc (2 * n + 1) / 2 ≤ n + 1
half_more n = omega arith

of_ended : (is_odd : Bool) (n : ℕ) (nibbles : List ℕ) → length nibbles ≡ 2 * n
    → Measures (ended is_odd nibbles) (λ v. suc (length v.nibbles) / 2 - n)
unfolding ended
of_ended true n nibbles e at v bytes h =
    let t = two _ _ _ _ _ h in
    let total = t.total in
    let s = wide w8 _ t.from t.x t.front t.one in
    let all : length (nibbles ++ t.x ∷ []) ≡ 2 * n + 1 = length-append nibbles (t.x ∷ []) ∙ (omega (arith, e)) in
    let low = half_more n in
    let same = ap (λ (k : ℕ). suc k / 2) all in
    let P : TypeDescriptor → Type 0 = λ y. suc (length y.nibbles) / 2 - n ≤ length bytes in
    subst P (given _ t.place v t.back t.rest) (omega (arith, total, s, low, same))
of_ended false n nibbles e at v bytes h =
    let low = half n in
    let same = ap (λ (k : ℕ). suc k / 2) e in
    let P : TypeDescriptor → Type 0 = λ y. suc (length y.nibbles) / 2 - n ≤ length bytes in
    subst P (given _ at v bytes h) (omega (arith, low, same))

of_type : Measures type_descriptor type_size
unfolding type_descriptor
of_type at v bytes h =
    let count = two _ _ _ _ _ h in
    let pairs = two _ _ _ _ _ count.rest in
    let a = count.total in
    let b = pairs.total in
    let c = one_byte count.from count.x count.front count.one in
    let d = items _ pairs.from pairs.x pairs.front pairs.one in
    let rest = of_ended _ (length pairs.x) _ (pairs_length pairs.x) pairs.place v pairs.back pairs.rest in
    omega (arith, a, b, c, d, rest)

types_by_test : (b : Bool) (p : Format (List TypeDescriptor)) (place : ℕ) (v : List TypeDescriptor) (back : List ℕ)
    → Measures p (sum_by type_size)
    → Spells (where_true b (followed_by type_descriptor (λ x. followed_by p (λ xs. gives (x ∷ xs))))) place v back
    → sum_by type_size v ≤ length back
types_by_test true p place v back m h =
    let t = two _ _ _ _ _ h in
    let u = two _ _ _ _ _ t.rest in
    let a = t.total in
    let b = u.total in
    let one = of_type t.from t.x t.front t.one in
    let rest = m u.from u.x u.front u.one in
    let s = sum_by-cons type_size t.x u.x in
    subst (λ (ts : List TypeDescriptor). sum_by type_size ts ≤ length back) (given _ u.place v u.back u.rest)
    (omega (arith, a, b, one, rest, s))
types_by_test false p place v back m h = subst (λ (ts : List TypeDescriptor). sum_by type_size ts ≤ length back)
    (given [] place v back h) (omega arith)

of_types : (n end : ℕ) → Measures (before n end type_descriptor) (sum_by type_size)
unfolding before
of_types zero end at v bytes h = subst (λ (ts : List TypeDescriptor). sum_by type_size ts ≤ length bytes)
    (given [] at v bytes h) (omega arith)
of_types (suc n) end at v bytes h =
    let more = two _ _ _ _ _ h in
    let total = more.total in
    let rest = types_by_test more.x (before n end type_descriptor) more.place v more.back (λ k a bs g. of_types n end k
    a bs g) more.rest in
    omega (arith, total, rest)

of_descriptor : (end : ℕ) → Measures (descriptor end) (descriptor_size)
unfolding descriptor
of_descriptor end at v bytes h =
    let count = two _ _ _ _ _ h in
    let count_t = count.total in
    let count_s = one_byte count.from count.x count.front count.one in
    let classes = two _ _ _ _ _ count.rest in
    let classes_t = classes.total in
    let classes_s = in_row class_descriptor described_size of_described count.x classes.from classes.x classes.front
    classes.one in
    let pool_count = two _ _ _ _ _ classes.rest in
    let pool_count_t = pool_count.total in
    let pool_count_s = two_bytes pool_count.from pool_count.x pool_count.front pool_count.one in
    let places = two _ _ _ _ _ pool_count.rest in
    let places_t = places.total in
    let places_s = numbers pool_count.x places.from places.x places.front places.one in
    let types = two _ _ _ _ _ places.rest in
    let types_t = types.total in
    let types_s = of_types end end types.from types.x types.front types.one in
    let P : Descriptor → Type 0 = λ y. descriptor_size y ≤ length bytes in
    subst P (given _ types.place v types.back types.rest) (omega (
      arith,
      count_t,
      count_s,
      classes_t,
      classes_s,
      pool_count_t,
      pool_count_s,
      places_t,
      places_s,
      types_t,
      types_s,
    ))

-- ---- any component

abbrev component_size : Component → ℕ
component_size (components.Header x) = header_size x
component_size (components.Directory x) = 2 * length x.component_sizes
component_size (components.Applet x) = applets_size x
component_size (components.Import x) = import_size x
component_size (components.Pool x) = pool_size x
component_size (components.Class x) = class_info_size x
component_size (components.Method x) = method_size x
component_size (components.Statics x) = statics_size x
component_size (components.Locations x) = locations_size x
component_size (components.Export x) = export_size x
component_size (components.Descriptor x) = descriptor_size x

as_kind : {A : Type 0} (p : Format A) (make : A → Component) → Measures p (λ y. component_size (make y))
    → Measures (followed_by p (λ y. gives (make y))) component_size
as_kind p make m at x bytes h =
    let t = two _ _ _ _ _ h in
    let total = t.total in
    let s = m t.from t.x t.front t.one in
    let P : Component → Type 0 = λ y. component_size y ≤ length bytes in
    subst P (given (make t.x) t.place x t.back t.rest) (omega (arith, total, s))

by_tag : (b : Bool) (p q : Format Component) → Measures p component_size → Measures q component_size
    → Measures (either b p q) component_size
by_tag true p q m n at x bytes h = m at x bytes h
by_tag false p q m n at x bytes h = n at x bytes h

not_there : (at : ℕ) (x : Component) (bytes : List ℕ) → Spells (looked_up (Err 0)) at x bytes
    → component_size x ≤ length bytes
unfolding Spells
not_there at x bytes h = let e = h.1 in absurd cc

of_info_any : (tag end : ℕ) → Measures (info tag end) component_size
unfolding info
of_info_any tag end =
    by_tag (tag == 1) _ _ (as_kind header components.Header of_header)
    (by_tag (tag == 2) _ _ (as_kind directory components.Directory of_directory)
    (by_tag (tag == 3) _ _ (as_kind applet components.Applet of_applet)
    (by_tag (tag == 4) _ _ (as_kind import components.Import of_import)
    (by_tag (tag == 5) _ _ (as_kind constant_pool components.Pool of_pool)
    (by_tag (tag == 6) _ _ (as_kind (class_info end) components.Class (of_classes end))
    (by_tag (tag == 7) _ _ (as_kind (method end) components.Method (of_method end))
    (by_tag (tag == 8) _ _ (as_kind static_field components.Statics of_statics)
    (by_tag (tag == 9) _ _ (as_kind reference_location components.Locations of_locations)
    (by_tag (tag == 10) _ _ (as_kind export components.Export of_export)
    (by_tag (tag == 11) _ _ (as_kind (descriptor end) components.Descriptor (of_descriptor end))
    (λ at x bytes h. not_there at x bytes h)))))))))))

-- what a file of a component says has no more bytes than the file
pub is_within : (tag : ℕ) (bytes : List ℕ) (x : Component) → read_component tag bytes ≡ Ok x
    → 3 + component_size x ≤ length bytes
unfolding component
is_within tag bytes x e =
    let h = file_ok (component tag (length bytes)) bytes x e in
    let first = two _ _ _ _ _ h in
    let size = two _ _ _ _ _ first.rest in
    let a = first.total in
    let b = size.total in
    let c = wide w8 _ first.from first.x first.front first.one in
    let d = wide w16 _ size.from size.x size.front size.one in
    let rest = of_info_any tag (length bytes) size.place x size.back size.rest in
    omega (arith, a, b, c, d, rest)

-- ---- components put together

abbrev IsLittle : Component → Type 0
IsLittle x = 3 + component_size x < 2 ^ 32

little_applet : (x : Component) → IsLittle x → 3 + size_of applets_size (applet_of x) < 2 ^ 32
little_applet (components.Header x) h = omega arith
little_applet (components.Directory x) h = omega arith
little_applet (components.Applet x) h = h
little_applet (components.Import x) h = omega arith
little_applet (components.Pool x) h = omega arith
little_applet (components.Class x) h = omega arith
little_applet (components.Method x) h = omega arith
little_applet (components.Statics x) h = omega arith
little_applet (components.Locations x) h = omega arith
little_applet (components.Export x) h = omega arith
little_applet (components.Descriptor x) h = omega arith

little_import : (x : Component) → IsLittle x → 3 + size_of import_size (import_of x) < 2 ^ 32
little_import (components.Header x) h = omega arith
little_import (components.Directory x) h = omega arith
little_import (components.Applet x) h = omega arith
little_import (components.Import x) h = h
little_import (components.Pool x) h = omega arith
little_import (components.Class x) h = omega arith
little_import (components.Method x) h = omega arith
little_import (components.Statics x) h = omega arith
little_import (components.Locations x) h = omega arith
little_import (components.Export x) h = omega arith
little_import (components.Descriptor x) h = omega arith

little_pool : (x : Component) → IsLittle x → 3 + size_of pool_size (pool_of x) < 2 ^ 32
little_pool (components.Header x) h = omega arith
little_pool (components.Directory x) h = omega arith
little_pool (components.Applet x) h = omega arith
little_pool (components.Import x) h = omega arith
little_pool (components.Pool x) h = h
little_pool (components.Class x) h = omega arith
little_pool (components.Method x) h = omega arith
little_pool (components.Statics x) h = omega arith
little_pool (components.Locations x) h = omega arith
little_pool (components.Export x) h = omega arith
little_pool (components.Descriptor x) h = omega arith

little_class : (x : Component) → IsLittle x → 3 + size_of class_info_size (class_of x) < 2 ^ 32
little_class (components.Header x) h = omega arith
little_class (components.Directory x) h = omega arith
little_class (components.Applet x) h = omega arith
little_class (components.Import x) h = omega arith
little_class (components.Pool x) h = omega arith
little_class (components.Class x) h = h
little_class (components.Method x) h = omega arith
little_class (components.Statics x) h = omega arith
little_class (components.Locations x) h = omega arith
little_class (components.Export x) h = omega arith
little_class (components.Descriptor x) h = omega arith

little_method : (x : Component) → IsLittle x → 3 + size_of method_size (method_of x) < 2 ^ 32
little_method (components.Header x) h = omega arith
little_method (components.Directory x) h = omega arith
little_method (components.Applet x) h = omega arith
little_method (components.Import x) h = omega arith
little_method (components.Pool x) h = omega arith
little_method (components.Class x) h = omega arith
little_method (components.Method x) h = h
little_method (components.Statics x) h = omega arith
little_method (components.Locations x) h = omega arith
little_method (components.Export x) h = omega arith
little_method (components.Descriptor x) h = omega arith

little_statics : (x : Component) → IsLittle x → 3 + size_of statics_size (statics_of x) < 2 ^ 32
little_statics (components.Header x) h = omega arith
little_statics (components.Directory x) h = omega arith
little_statics (components.Applet x) h = omega arith
little_statics (components.Import x) h = omega arith
little_statics (components.Pool x) h = omega arith
little_statics (components.Class x) h = omega arith
little_statics (components.Method x) h = omega arith
little_statics (components.Statics x) h = h
little_statics (components.Locations x) h = omega arith
little_statics (components.Export x) h = omega arith
little_statics (components.Descriptor x) h = omega arith

little_locations : (x : Component) → IsLittle x → 3 + size_of locations_size (locations_of x) < 2 ^ 32
little_locations (components.Header x) h = omega arith
little_locations (components.Directory x) h = omega arith
little_locations (components.Applet x) h = omega arith
little_locations (components.Import x) h = omega arith
little_locations (components.Pool x) h = omega arith
little_locations (components.Class x) h = omega arith
little_locations (components.Method x) h = omega arith
little_locations (components.Statics x) h = omega arith
little_locations (components.Locations x) h = h
little_locations (components.Export x) h = omega arith
little_locations (components.Descriptor x) h = omega arith

little_export : (x : Component) → IsLittle x → 3 + size_of export_size (export_of x) < 2 ^ 32
little_export (components.Header x) h = omega arith
little_export (components.Directory x) h = omega arith
little_export (components.Applet x) h = omega arith
little_export (components.Import x) h = omega arith
little_export (components.Pool x) h = omega arith
little_export (components.Class x) h = omega arith
little_export (components.Method x) h = omega arith
little_export (components.Statics x) h = omega arith
little_export (components.Locations x) h = omega arith
little_export (components.Export x) h = h
little_export (components.Descriptor x) h = omega arith

little_descriptor : (x : Component) → IsLittle x → 3 + size_of descriptor_size (descriptor_of x) < 2 ^ 32
little_descriptor (components.Header x) h = omega arith
little_descriptor (components.Directory x) h = omega arith
little_descriptor (components.Applet x) h = omega arith
little_descriptor (components.Import x) h = omega arith
little_descriptor (components.Pool x) h = omega arith
little_descriptor (components.Class x) h = omega arith
little_descriptor (components.Method x) h = omega arith
little_descriptor (components.Statics x) h = omega arith
little_descriptor (components.Locations x) h = omega arith
little_descriptor (components.Export x) h = omega arith
little_descriptor (components.Descriptor x) h = h

small_with : (cap : CapTree) (tag : ℕ) (x : Component) → IsLittle x → IsSmall cap → IsSmall (with_component cap tag x)
small_with cap tag x l h =
    by_if IsSmall (tag == 3) _ _ (record {
      header = h.header;
      directory = h.directory;
      applet = little_applet x l;
      import = h.import;
      pool = h.pool;
      class = h.class;
      method = h.method;
      statics = h.statics;
      locations =
          h.locations;
      export = h.export;
      descriptor = h.descriptor;
    })
    (by_if IsSmall (tag == 4) _ _ (record {
      header = h.header;
      directory = h.directory;
      applet = h.applet;
      import = little_import x l;
      pool = h.pool;
      class = h.class;
      method = h.method;
      statics = h.statics;
      locations =
          h.locations;
      export = h.export;
      descriptor = h.descriptor;
    })
    (by_if IsSmall (tag == 5) _ _ (record {
      header = h.header;
      directory = h.directory;
      applet = h.applet;
      import = h.import;
      pool = little_pool x l;
      class = h.class;
      method = h.method;
      statics = h.statics;
      locations =
          h.locations;
      export = h.export;
      descriptor = h.descriptor;
    })
    (by_if IsSmall (tag == 6) _ _ (record {
      header = h.header;
      directory = h.directory;
      applet = h.applet;
      import = h.import;
      pool = h.pool;
      class = little_class x l;
      method = h.method;
      statics = h.statics;
      locations =
          h.locations;
      export = h.export;
      descriptor = h.descriptor;
    })
    (by_if IsSmall (tag == 7) _ _ (record {
      header = h.header;
      directory = h.directory;
      applet = h.applet;
      import = h.import;
      pool = h.pool;
      class = h.class;
      method = little_method x l;
      statics = h.statics;
      locations =
          h.locations;
      export = h.export;
      descriptor = h.descriptor;
    })
    (by_if IsSmall (tag == 8) _ _ (record {
      header = h.header;
      directory = h.directory;
      applet = h.applet;
      import = h.import;
      pool = h.pool;
      class = h.class;
      method = h.method;
      statics = little_statics x l;
      locations =
          h.locations;
      export = h.export;
      descriptor = h.descriptor;
    })
    (by_if IsSmall (tag == 9) _ _ (record {
      header = h.header;
      directory = h.directory;
      applet = h.applet;
      import = h.import;
      pool = h.pool;
      class = h.class;
      method = h.method;
      statics = h.statics;
      locations =
          little_locations x l;
      export = h.export;
      descriptor = h.descriptor;
    })
    (by_if IsSmall (tag == 10) _ _ (record {
      header = h.header;
      directory = h.directory;
      applet = h.applet;
      import = h.import;
      pool = h.pool;
      class = h.class;
      method = h.method;
      statics = h.statics;
      locations =
          h.locations;
      export = little_export x l;
      descriptor = h.descriptor;
    })
    (record {
      header = h.header;
      directory = h.directory;
      applet = h.applet;
      import = h.import;
      pool = h.pool;
      class = h.class;
      method = h.method;
      statics = h.statics;
      locations = h.locations;
      export = h.export;
      descriptor = little_descriptor x l;
    }))))))))

small_read : (cap : CapTree) (tag : ℕ) (bytes : List ℕ) (r : Result Component ℕ) → read_component tag bytes ≡ r
    → IsShort bytes → IsSmall cap → IsSmall (with_read cap tag r)
small_read cap tag bytes (Ok x) e short h = small_with cap tag x (let w = is_within tag bytes x e
    in omega (arith, w, short)) h
small_read cap tag bytes (Err k) e short h = h

small_files : (cap : CapTree) (tags : List ℕ) (files : List (List ℕ)) → All IsShort files → IsSmall cap
    → IsSmall (with_components cap tags files)
unfolding with_components
small_files cap [] [] all h = h
small_files cap [] (bytes ∷ files) all h = h
small_files cap (tag ∷ tags) [] all h = h
small_files cap (tag ∷ tags) (bytes ∷ files) all h =
    small_files (with_read cap tag (read_component tag bytes)) tags files (λ k d lt. all (suc k) d (omega (arith, lt)))
    (small_read cap tag bytes (read_component tag bytes) refl (all 0 bytes (omega arith)) h)

small_front : (h : Header) (d : Directory) → IsLittle (components.Header h) → IsLittle (components.Directory d)
    → IsSmall (front h d)
small_front h d l m = record {
  header = l;
  directory = m;
  applet = omega arith;
  import = omega arith;
  pool = omega arith;
  class = omega arith;
  method = omega arith;
  statics = omega arith;
  locations = omega arith;
  export = omega arith;
  descriptor = omega arith;
}

small_of : (h d : Result Component ℕ) (tags : List ℕ) (files : List (List ℕ)) (cap : CapTree)
    → ((x : Component) → h ≡ Ok x → IsLittle x) → ((x : Component) → d ≡ Ok x → IsLittle x) → All IsShort files
    → cap_of h d tags files ≡ Some cap → IsSmall cap
small_of (Ok (components.Header h)) (Ok (components.Directory d)) tags files cap l m all e =
    let same : with_components (front h d) tags files ≡ cap = cc in
    subst IsSmall same (small_files (front h d) tags files all (small_front h d (l (components.Header h) refl)
    (m (components.Directory d) refl)))
small_of _ _ tags files cap l m all e = absurd cc

-- what was read of a folder is small
pub small_cap : (p : Parts) (cap : CapTree) → ArePartsShort p → cap_in p ≡ Some cap → IsSmall cap
small_cap p cap short e =
    small_of (read_component 1 p.header) (read_component 2 p.directory) p.tags p.others cap
    (λ x f. let w = is_within 1 p.header x f in let s = short.header in omega (arith, w, s))
    (λ x f. let w = is_within 2 p.directory x f in let s = short.directory in omega (arith, w, s))
    short.others e
