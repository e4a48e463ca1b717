-- The written bytes of a tree spell it.
use Rattle.std.proofs.Common.{◌≡◌, ℕ, ℤ, zero, suc, ◌+◌, ◌<◌, ◌^◌, Bool, true, false, ◌&&◌, ◌||◌, not, List, [], ◌∷◌}
use Rattle.std.proofs.Common.{◌++◌, Option, Some, None, Result, Ok, is_none, option_and_then, option_map, slice_get}
use Rattle.std.proofs.Common.{length, refl, sym, ap, subst, ◌∙◌, append_assoc, arith, FitsSigned, true≢false}
use Rattle.std.specs.Prelude.{codes}
use Rattle.std.specs.List.{AllByRecursion, flat_map}
use Rattle.std.specs.Str.{bytes_eq}
use Rattle.std.specs.Int.{w8, w16, w32, to_be_bytes, from_be_bytes, cast_signed, cast_unsigned}
use Rattle.std.proofs.lemmas.Nat.{from_be_bytes-to_be_bytes_2, from_be_bytes-to_be_bytes_4}
use Rattle.std.proofs.lemmas.Int.{to_z-of_z}
use Rattle.std.proofs.lemmas.List.{append-nil}
use Rattle.cjc_bytes.specs.Format.{Format, number, looked_up, gives, ◌>>=◌, Spells, FileSpells, repeated, iterated, u1}
use Rattle.cjc_bytes.specs.Format.{u2, u4, raw}
use Rattle.cjc_bytes.specs.Found.{kept, all_of, ◌>>=◌ as ◌>>>◌}
use Rattle.cjc_export.specs.declared.pool.Index.{Index}
use Rattle.cjc_export.specs.declared.pool.Tag.TheVariants as tags
use Rattle.cjc_export.specs.declared.tree.ExportField.{ExportField}
use Rattle.cjc_export.specs.declared.tree.ExportMethod.{ExportMethod}
use Rattle.cjc_export.specs.declared.tree.ExportClass.{ExportClass}
use Rattle.cjc_export.specs.declared.tree.ExportTree.{ExportTree}
use Rattle.cjc_export.specs.declared.file.Package.{Package}
use Rattle.cjc_export.specs.Words.{exactly, broken_where}
use Rattle.cjc_bytes.specs.AccessFlags.{is_static, is_final, is_interface}
use Rattle.cjc_bytes.proofs.Gets.{all_at}
use Rattle.cjc_bytes.proofs.Bools.{and_false}
use Rattle.cjc_export.specs.Entry.{Entry, package_info}
use Rattle.cjc_export.specs.Entry as entries
use Rattle.cjc_export.specs.Pool.{tag_of, counted, index, aid_length, is_library, content, entry, as_text, as_class}
use Rattle.cjc_export.specs.Pool.{text_at, tested_name, tested, class_name_at}
use Rattle.cjc_export.specs.Package.{package_of, package_at, package_field}
use Rattle.cjc_export.specs.Members.{grown, text_field, class_field, as_desc, desc_at, desc_field, is_constant_type}
use Rattle.cjc_export.specs.Members.{may_be_constant, is_constant, constant_name_at, integer_at, as_integer}
use Rattle.cjc_export.specs.Members.{attribute_content, attribute, field_token_taken, no_token, where_constant, field}
use Rattle.cjc_export.specs.Members.{is_unbound, method_token_wrong, class_method, interface_token, not_special}
use Rattle.cjc_export.specs.Members.{interface_name_at, interface_method, method}
use Rattle.cjc_export.specs.ExportFile.{minor_version, class_token, new_name, new_name_at, method_count, class_tree}
use Rattle.cjc_export.specs.ExportFile.{front_part, export_file}
use Rattle.cjc_export.specs.Root.{with_root}
use Rattle.cjc_export.specs.Constant.{Constant, text, integer, class, this}
use Rattle.cjc_export.specs.Written.{value_name, class_needs, value_needs, field_needs, method_needs, class_tree_needs}
use Rattle.cjc_export.specs.Written.{needs, constants, index_of, index_bytes, class_ref, value_bytes, field_bytes}
use Rattle.cjc_export.specs.Written.{method_bytes, members_bytes, class_bytes, library_flag, package_bytes}
use Rattle.cjc_export.specs.Written.{constant_bytes, head_bytes, bytes_over, written}
use Rattle.cjc_export.specs.Writable.{ConstantFits, ValueFits, FieldFits, MethodFits, MethodStands, ClassFits}
use Rattle.cjc_export.specs.Writable.{CountsFit, IsWritable, EachAfter}
use Rattle.cjc_export.proofs.Numbering.{Has, found_at, index_small, all_front, all_back}
use Rattle.cjc_export.proofs.Fitting.{NameIn, aid_fits, constants_fit_each, constants_named, all_needed}

-- ---- numbers

table8 : {A : Type 0} (table : ℕ → Option A) (at n : ℕ) (a : A) → n < 2 ^ 8 → table n ≡ Some a
    → Spells (number w8 table) at a (to_be_bytes w8 n)
unfolding Spells
table8 table at n a lt e = let same_number : from_be_bytes w8 (to_be_bytes w8 n) ≡ n = grind arith
    in (refl, ap table same_number ∙ e)

table16 : {A : Type 0} (table : ℕ → Option A) (at n : ℕ) (a : A) → n < 2 ^ 16 → table n ≡ Some a
    → Spells (number w16 table) at a (to_be_bytes w16 n)
unfolding Spells
table16 table at n a lt e = (refl, ap table (from_be_bytes-to_be_bytes_2 n lt) ∙ e)

table32 : {A : Type 0} (table : ℕ → Option A) (at n : ℕ) (a : A) → n < 2 ^ 32 → table n ≡ Some a
    → Spells (number w32 table) at a (to_be_bytes w32 n)
unfolding Spells
table32 table at n a lt e = (refl, ap table (from_be_bytes-to_be_bytes_4 n lt) ∙ e)

u1_spells : (at n : ℕ) → n < 2 ^ 8 → Spells u1 at n (to_be_bytes w8 n)
unfolding u1
u1_spells at n lt = table8 Some at n n lt refl

u2_spells : (at n : ℕ) → n < 2 ^ 16 → Spells u2 at n (to_be_bytes w16 n)
unfolding u2
u2_spells at n lt = table16 Some at n n lt refl

u4_spells : (at n : ℕ) → n < 2 ^ 32 → Spells u4 at n (to_be_bytes w32 n)
unfolding u4
u4_spells at n lt = table32 Some at n n lt refl

raw_spells : (at : ℕ) (bytes : List ℕ) → Spells (raw (length bytes)) at bytes bytes
unfolding Spells raw
raw_spells at bytes = (refl, refl)

index_spells : {A : Type 0} (table : ℕ → Option A) (pool : List Constant) (at : ℕ) (c : Constant) (a : A)
    → length pool < 2 ^ 16 → table (index_of pool c) ≡ Some a → Spells (number w16 table) at a (index_bytes pool c)
index_spells table pool at c a lt e = table16 table at (index_of pool c) a (index_small pool c lt) e

-- one format and then another
joined : {A B : Type 0} (p : Format B) (f : B → Format A) (at : ℕ) (x : B) (a : A) (front back : List ℕ)
    → Spells p at x front → Spells (f x) (at + length front) a back → Spells (p >>= f) at a (front ++ back)
unfolding Spells
joined p f at x a front back h g = (x, front, back, refl, h, g)

-- a format, and what its value gives
last : {A B : Type 0} (p : Format B) (g : B → A) (at : ℕ) (x : B) (bytes : List ℕ) → Spells p at x bytes
    → Spells (p >>= λ y. gives (g y)) at (g x) bytes
unfolding Spells
last p g at x bytes h = (x, bytes, [], sym (append-nil bytes), h, (refl, refl))

-- no bytes of its own, and then a format
free : {A B : Type 0} (found : Result B ℕ) (f : B → Format A) (at : ℕ) (x : B) (a : A) (bytes : List ℕ) → found ≡ Ok x
    → Spells (f x) (at + 0) a bytes → Spells (looked_up found >>= f) at a bytes
unfolding Spells
free found f at x a bytes e g = (x, [], bytes, refl, (refl, e), g)

passes : (place : ℕ) (b : Bool) → b ≡ false → broken_where place b ≡ Ok tt
passes place b e = rw e refl

-- ---- the pool as it is read

module _ (t : ExportTree) (pool : List Constant) where
  -- the entry of a constant at this place
  abbrev entry_at : ℕ → Constant → Entry
  entry_at at (text bytes) = entries.text bytes
  entry_at at (integer n) = entries.integer (cast_signed w32 n)
  entry_at at (class name) = entries.class (record { at = at + 1; to = index_of pool (text name) })
  entry_at at this = package_info t.library (record { at = at + 1 + 1; to = index_of pool (text t.name) }) t.minor
      t.major t.aid

  abbrev entries_at : ℕ → List Constant → List Entry
  entries_at at [] = []
  entries_at at (c ∷ cs) = entry_at at c ∷ entries_at (at + length (constant_bytes t pool c)) cs

  -- an entry stands at the index of its constant
  entry_there : (at : ℕ) (cs : List Constant) (i : ℕ) (c : Constant) → slice_get cs i ≡ Some c → (k : ℕ)
      × (slice_get (entries_at at cs) i ≡ Some (entry_at k c))
  entry_there at [] i c e = absurd cc
  entry_there at (x ∷ xs) zero c e = (
    at,
    let same_constant : x ≡ c = cc
        in ap (λ y. Some (entry_at at y)) same_constant,
  )
  entry_there at (x ∷ xs) (suc i) c e = entry_there (at + length (constant_bytes t pool x)) xs i c e

  index_then : (at n : ℕ) → n < 2 ^ 16 → Spells index at (record { at = at; to = n }) (to_be_bytes w16 n)
  unfolding Spells index
  index_then at n lt = (
    at,
    [],
    to_be_bytes w16 n,
    refl,
    (refl, refl),
    (
      n,
      to_be_bytes w16 n,
      [],
      sym (append-nil (to_be_bytes w16 n)),
      u2_spells (at + 0) n lt,
      (refl, refl),
    ),
  )

-- ---- tests of tokens

untaken : (taken x : Bool) → (taken && true) ≡ false → (taken && x) ≡ false
untaken true x e = absurd (true≢false e)
untaken false x e = refl

first_of_constant : (taken n s f c : Bool) → n ≡ true → (s && f && c) ≡ true → (taken && not (n && s && f)) ≡ false
first_of_constant false n s f c a b = refl
first_of_constant true true true true c a b = refl
first_of_constant true true true false c a b = absurd (true≢false (sym b))
first_of_constant true true false f c a b = absurd (true≢false (sym b))
first_of_constant true false s f c a b = absurd (true≢false (sym a))

second_of_constant : (taken n m : Bool) → n ≡ true → m ≡ true → (taken && not (n && m)) ≡ false
second_of_constant false n m a b = refl
second_of_constant true true true a b = refl
second_of_constant true true false a b = absurd (true≢false (sym b))
second_of_constant true false m a b = absurd (true≢false (sym a))

third_of_constant : (taken m : Bool) (value : ℤ) → m ≡ true → (taken && is_none (where_constant m (Some value))) ≡ false
third_of_constant taken true value e = and_false taken
third_of_constant taken false value e = absurd (true≢false (sym e))

third_of_none : (taken m : Bool) → (taken && true) ≡ false → (taken && is_none (where_constant m None)) ≡ false
third_of_none taken true e = e
third_of_none taken false e = e

not_wrong : (m n : Bool) → n ≡ true → ((m && not n) && true) ≡ false
not_wrong true true e = refl
not_wrong true false e = absurd (true≢false (sym e))
not_wrong false n e = refl

where_none : (m : Bool) → where_constant m None ≡ None
where_none true = refl
where_none false = refl

where_some : (m : Bool) (value : ℤ) → m ≡ true → where_constant m (Some value) ≡ Some value
where_some true value e = refl
where_some false value e = absurd (true≢false (sym e))

no_token_is : (token : ℕ) → token ≡ 0xFF → no_token token ≡ true
no_token_is token e = rw e refl

static_first : (s b : Bool) (wrong : Bool → Bool) → wrong (s || b) ≡ false → (s && wrong true) ≡ false
static_first true b wrong e = e
static_first false b wrong e = refl

flag_back : (b : Bool) → is_library (library_flag b) ≡ b
flag_back true = refl
flag_back false = refl

abbrev passed : Result Unit ℕ
passed = Ok tt

tested_by : (k : ℕ) (o : Option (List ℕ)) (name : List ℕ) → o ≡ Some name → (kept k o >>> λ (n : List ℕ). passed)
    ≡ passed
tested_by k o name e = rw e refl

-- items one after the other, each with those before it known
grown_spells : {A : Type 0} (p : List A → Format A) (bytes_of : A → List ℕ) (needs_of : A
    → List Constant) (pool : List Constant) (P : List A → A → Type 0)
    → ((at : ℕ) (before : List A) (x : A) → P before x → AllByRecursion (Has pool) (needs_of x)
    → Spells (p before) at x (bytes_of x))
    → (at : ℕ) (before xs : List A) → EachAfter P before xs → AllByRecursion (Has pool) (flat_map needs_of xs)
    → Spells (iterated (length xs) (grown p) before) at (before ++ xs) (flat_map bytes_of xs)
unfolding Spells iterated grown
grown_spells p bytes_of needs_of pool P one at before [] h g = (refl, sym (append-nil before))
grown_spells {A = A} p bytes_of needs_of pool P one at before (x ∷ xs) h g =
    let rest = grown_spells p bytes_of needs_of pool P one (at + length (bytes_of x)) (before ++ x ∷ []) xs h.1
    (all_back (Has pool) (needs_of x) (flat_map needs_of xs) g) in (
      before ++ x ∷ [],
      bytes_of x,
      flat_map bytes_of xs,
      refl,
      (
        x,
        bytes_of x,
        [],
        sym (append-nil (bytes_of x)),
        one at before x h.0 (all_front (Has pool) (needs_of x)
            (flat_map needs_of xs) g),
        (refl, refl),
      ),
      subst (λ (all : List A). Spells (iterated (length xs) (grown p) (before ++ x ∷ [])) (at + length (bytes_of x)) all
          (flat_map bytes_of xs)) (append_assoc before (x ∷ []) xs) rest,
    )

-- ---- the parts of a file

module _ (t : ExportTree) (w : IsWritable t) (start : ℕ) where
  abbrev pool : List Constant
  pool = constants t

  abbrev read_pool : List Entry
  read_pool = entries_at t pool start pool

  entry_spells : (at : ℕ) (c : Constant) → ConstantFits c
      → Spells entry at (entry_at t pool at c) (constant_bytes t pool c)
  unfolding Spells entry content counted constant_bytes package_bytes
  entry_spells at (text bytes) h = (
    tags.Utf8,
    to_be_bytes w8 1,
    to_be_bytes w16 (length bytes) ++ bytes,
    refl,
    table8 tag_of at 1 tags.Utf8 (omega arith) refl,
    (
      bytes,
      to_be_bytes w16 (length bytes) ++ bytes,
      [],
      sym (append-nil (to_be_bytes w16 (length bytes) ++ bytes)),
      (
        length bytes,
        to_be_bytes w16 (length bytes),
        bytes,
        refl,
        u2_spells (at + 1) (length bytes) h,
        raw_spells (at + 1 + 2) bytes,
      ),
      (refl, refl),
    ),
  )
  entry_spells at (integer n) h = (
    tags.Integer,
    to_be_bytes w8 3,
    to_be_bytes w32 n,
    refl,
    table8 tag_of at 3 tags.Integer (omega arith) refl,
    (n, to_be_bytes w32 n, [], sym (append-nil (to_be_bytes w32 n)), u4_spells (at + 1) n h, (refl, refl)),
  )
  entry_spells at (class name) h = (
    tags.Class,
    to_be_bytes w8 7,
    index_bytes pool (text name),
    refl,
    table8 tag_of at 7 tags.Class (omega arith) refl,
    (
      record { at = at + 1; to = index_of pool (text name) },
      index_bytes pool (text name),
      [],
      sym (append-nil (index_bytes pool (text name))),
      index_then t pool (at + 1) (index_of pool (text name)) (index_small pool (text name) w.constants),
      (refl, refl),
    ),
  )
  entry_spells at this h = (
    tags.Package,
    to_be_bytes w8 13,
    package_bytes t pool,
    refl,
    table8 tag_of at 13 tags.Package (omega arith) refl,
    (
      library_flag t.library,
      to_be_bytes w8 (library_flag t.library),
      index_bytes pool (text t.name) ++ (to_be_bytes w8 t.minor ++ (to_be_bytes w8 t.major
          ++ (to_be_bytes w8 (length t.aid) ++ t.aid))),
      refl,
      u1_spells (at + 1) (library_flag t.library) (flag_small t.library),
      (
        record { at = at + 1 + 1; to = index_of pool (text t.name) },
        index_bytes pool (text t.name),
        to_be_bytes w8 t.minor ++ (to_be_bytes w8 t.major ++ (to_be_bytes w8 (length t.aid) ++ t.aid)),
        refl,
        index_then t pool (at + 1 + 1) (index_of pool (text t.name)) (index_small pool (text t.name) w.constants),
        (
          t.minor,
          to_be_bytes w8 t.minor,
          to_be_bytes w8 t.major ++ (to_be_bytes w8 (length t.aid) ++ t.aid),
          refl,
          u1_spells (at + 1 + 1 + 2) t.minor w.minor,
          (
            t.major,
            to_be_bytes w8 t.major,
            to_be_bytes w8 (length t.aid) ++ t.aid,
            refl,
            u1_spells (at + 1 + 1 + 2 + 1) t.major w.major,
            (
              length t.aid,
              to_be_bytes w8 (length t.aid),
              t.aid,
              refl,
              table8 aid_length (at + 1 + 1 + 2 + 1 + 1) (length t.aid) (length t.aid) (aid_fits t w) w.aid,
              (
                t.aid,
                t.aid,
                [],
                sym (append-nil t.aid),
                raw_spells (at + 1 + 1 + 2 + 1 + 1 + 1) t.aid,
                (
                  refl,
                  ap (λ (b : Bool). package_info b (record { at = at + 1 + 1; to = index_of pool (text t.name) })
                      t.minor t.major t.aid) (flag_back t.library),
                ),
              ),
            ),
          ),
        ),
      ),
    ),
  )
    where
      flag_small : (b : Bool) → library_flag b < 2 ^ 8
      flag_small true = omega arith
      flag_small false = omega arith

  entries_spell : (at : ℕ) (cs : List Constant) → AllByRecursion ConstantFits cs
      → Spells (repeated (length cs) entry) at (entries_at t pool at cs) (flat_map (constant_bytes t pool) cs)
  unfolding Spells repeated
  entries_spell at [] h = (refl, refl)
  entries_spell at (c ∷ cs) h = (
    entry_at t pool at c,
    constant_bytes t pool c,
    flat_map (constant_bytes t pool) cs,
    refl,
    entry_spells at c h.0,
    (
      entries_at t pool (at + length (constant_bytes t pool c)) cs,
      flat_map (constant_bytes t pool) cs,
      [],
      sym (append-nil (flat_map (constant_bytes t pool) cs)),
      entries_spell (at + length (constant_bytes t pool c)) cs h.1,
      (refl, refl),
    ),
  )

  -- what stands at an index
  text_found : (bytes : List ℕ) → Has pool (text bytes) → text_at read_pool (index_of pool (text bytes)) ≡ Some bytes
  unfolding text_at
  text_found bytes h = ap (option_and_then as_text) (entry_there t pool start pool (index_of pool (text bytes))
      (text bytes) (found_at pool (text bytes) h)).1

  integer_found : (n : ℕ) → Has pool (integer n) → integer_at read_pool (index_of pool (integer n))
      ≡ Some (cast_signed w32 n)
  unfolding integer_at
  integer_found n h = ap (option_and_then as_integer) (entry_there t pool start pool (index_of pool (integer n))
      (integer n) (found_at pool (integer n) h)).1

  name_there : (c : Constant) → Has pool c → NameIn t pool c
  name_there c h = all_at (NameIn t pool) pool (index_of pool c) c (constants_named t) (found_at pool c h)

  class_found : (name : List ℕ) → Has pool (class name) → class_name_at read_pool (index_of pool (class name))
      ≡ Some name
  unfolding class_name_at
  class_found name h =
      ap (λ (o : Option Entry). option_and_then (λ (i : Index). text_at read_pool i.to) (option_and_then as_class o))
      (entry_there t pool start pool (index_of pool (class name)) (class name) (found_at pool (class name) h)).1
      ∙ text_found name (name_there (class name) h)

  abbrev described : Package
  described = record { name = t.name; aid = t.aid; major = t.major; minor = t.minor; library = t.library }

  package_found : Has pool this → package_at read_pool (index_of pool this) ≡ Some described
  unfolding package_at
  package_found h =
      ap (option_and_then (package_of read_pool)) (entry_there t pool start pool (index_of pool this) this
      (found_at pool this h)).1
      ∙ ap (option_map (λ (n : List ℕ). record {
        name = n;
        aid = t.aid;
        major = t.major;
        minor = t.minor;
        library = t.library;
      })) (text_found t.name (name_there this h))

  tested_one : (at : ℕ) (c : Constant) → NameIn t pool c → tested read_pool (entry_at t pool at c) ≡ Ok tt
  unfolding tested tested_name
  tested_one at (text bytes) h = refl
  tested_one at (integer n) h = refl
  tested_one at (class name) h = tested_by (at + 1) (text_at read_pool (index_of pool (text name))) name
      (text_found name h)
  tested_one at this h = tested_by (at + 1 + 1) (text_at read_pool (index_of pool (text t.name))) t.name
      (text_found t.name h)

  tested_all : (at : ℕ) (cs : List Constant) → AllByRecursion (NameIn t pool) cs
      → all_of (tested read_pool) (entries_at t pool at cs) ≡ Ok tt
  unfolding all_of
  tested_all at [] h = refl
  tested_all at (c ∷ cs) h = rw (tested_one at c h.0) (tested_all (at + length (constant_bytes t pool c)) cs h.1)

  desc_found : (is_method : Bool) (desc : List ℕ) → Has pool (text desc) → as_desc is_method desc ≡ Some desc
      → desc_at read_pool is_method (index_of pool (text desc)) ≡ Some desc
  unfolding desc_at
  desc_found is_method desc h e = ap (option_and_then (as_desc is_method)) (text_found desc h) ∙ e

  text_spells : (at : ℕ) (bytes : List ℕ) → Has pool (text bytes)
      → Spells (text_field read_pool) at bytes (index_bytes pool (text bytes))
  unfolding text_field
  text_spells at bytes h = index_spells (text_at read_pool) pool at (text bytes) bytes w.constants (text_found bytes h)

  desc_spells : (at : ℕ) (is_method : Bool) (desc : List ℕ) → Has pool (text desc) → as_desc is_method desc ≡ Some desc
      → Spells (desc_field read_pool is_method) at desc (index_bytes pool (text desc))
  unfolding desc_field
  desc_spells at is_method desc h e = index_spells (desc_at read_pool is_method) pool at (text desc) desc w.constants
      (desc_found is_method desc h e)

  names_spell : (at : ℕ) (names : List (List ℕ)) → AllByRecursion (Has pool) (flat_map class_needs names)
      → Spells (repeated (length names) (class_field read_pool)) at names (flat_map (class_ref pool) names)
  unfolding Spells repeated class_field
  names_spell at [] h = (refl, refl)
  names_spell at (name ∷ names) h = (
    name,
    class_ref pool name,
    flat_map (class_ref pool) names,
    refl,
    index_spells (class_name_at read_pool) pool at (class name) name w.constants (class_found name h.1.0),
    (
      names,
      flat_map (class_ref pool) names,
      [],
      sym (append-nil (flat_map (class_ref pool) names)),
      names_spell (at + 2) names h.1.1,
      (refl, refl),
    ),
  )

  -- ---- fields

  value_found : Has pool value_name → constant_name_at read_pool None (index_of pool value_name) ≡ Some true
  unfolding constant_name_at value_name
  value_found h = ap (option_and_then (is_constant None)) (text_found (codes "ConstantValue") h)

  -- the attribute of a constant
  attribute_spells : (at place : ℕ) (wrong : Bool) (value : ℤ) → (wrong && true) ≡ false → FitsSigned w32 value
      → AllByRecursion (Has pool) (value_needs (Some value))
      → Spells (attribute read_pool place wrong 0 None) at (Some value) (index_bytes pool value_name
      ++ (to_be_bytes w32 2 ++ index_bytes pool (integer (cast_unsigned w32 value))))
  unfolding Spells attribute attribute_content
  attribute_spells at place wrong value fine fits h =
      let number_bytes : List ℕ = index_bytes pool (integer (cast_unsigned w32 value)) in (
        true,
        index_bytes pool value_name,
        to_be_bytes w32 2 ++ number_bytes,
        refl,
        index_spells (constant_name_at read_pool None) pool at value_name true w.constants (value_found h.0),
        (
          tt,
          [],
          to_be_bytes w32 2 ++ number_bytes,
          refl,
          (refl, passes place (wrong && true) fine),
          (
            2,
            to_be_bytes w32 2,
            number_bytes,
            refl,
            table32 (exactly 2) (at + 2 + 0) 2 2 (omega arith) refl,
            (
              value,
              number_bytes,
              [],
              sym (append-nil number_bytes),
              index_spells (integer_at read_pool) pool (at + 2 + 0 + 4) (integer (cast_unsigned w32 value)) value
                  w.constants
                  (integer_found (cast_unsigned w32 value) h.1.0 ∙ ap Some (to_z-of_z w32 value fits)),
              (refl, refl),
            ),
          ),
        ),
      )

  module _ (before : List ExportField) (f : ExportField) where
    abbrev taken : Bool
    taken = field_token_taken before f.flags f.token

    abbrev may : Bool
    may = may_be_constant f.flags f.desc

    abbrev valued : Option ℤ → ExportField
    valued value = record { token = f.token; flags = f.flags; name = f.name; desc = f.desc; constant = value }

    -- behind the descriptor
    value_end : (at place : ℕ) (value : Option ℤ) → ValueFits f value → (taken && is_none value) ≡ false
        → AllByRecursion (Has pool) (value_needs value)
        → Spells (u2 >>= λ count. iterated count (attribute read_pool place (may && not (no_token f.token))) None
        >>= λ found.
        looked_up (broken_where place (taken && is_none (where_constant may found)))
        >>= λ third. gives (valued (where_constant may found)))
        at (valued value) (value_bytes pool value)
    unfolding Spells iterated
    value_end at place None fits apart h = (
      0,
      to_be_bytes w16 0,
      [],
      refl,
      u2_spells at 0 (omega arith),
      (
        None,
        [],
        [],
        refl,
        (refl, refl),
        (
          tt,
          [],
          [],
          refl,
          (
            refl,
            passes place (taken && is_none (where_constant may None)) (third_of_none taken may
                apart),
          ),
          (refl, ap valued (where_none may)),
        ),
      ),
    )
    value_end at place (Some value) fits apart h =
        let bytes : List ℕ = index_bytes pool value_name
        ++ (to_be_bytes w32 2 ++ index_bytes pool (integer (cast_unsigned w32 value))) in (
          1,
          to_be_bytes w16 1,
          bytes,
          refl,
          u2_spells at 1 (omega arith),
          (
            Some value,
            bytes,
            [],
            sym (append-nil bytes),
            (
              Some value,
              bytes,
              [],
              sym (append-nil bytes),
              attribute_spells (at + 2) place (may && not (no_token f.token)) value (not_wrong may (no_token f.token)
                  (no_token_is f.token fits.2)) fits.0 h,
              (refl, refl),
            ),
            (
              tt,
              [],
              [],
              refl,
              (
                refl,
                passes place (taken && is_none (where_constant may (Some value)))
                    (third_of_constant taken may value fits.1),
              ),
              (refl, ap valued (where_some may value fits.1)),
            ),
          ),
        )

    first_passes : (value : Option ℤ) → ValueFits f value → (taken && is_none value) ≡ false
        → (taken && not (no_token f.token && is_static f.flags && is_final f.flags)) ≡ false
    first_passes None fits apart = untaken taken (not (no_token f.token && is_static f.flags && is_final f.flags)) apart
    first_passes (Some value) fits apart = first_of_constant taken (no_token f.token) (is_static f.flags)
        (is_final f.flags) (is_constant_type f.desc) (no_token_is f.token fits.2) fits.1

    second_passes : (value : Option ℤ) → ValueFits f value → (taken && is_none value) ≡ false
        → (taken && not (no_token f.token && may)) ≡ false
    second_passes None fits apart = untaken taken (not (no_token f.token && may)) apart
    second_passes (Some value) fits apart = second_of_constant taken (no_token f.token) may (no_token_is f.token fits.2)
        fits.1

  field_spells : (at : ℕ) (before : List ExportField) (f : ExportField) → FieldFits before f
      → AllByRecursion (Has pool) (field_needs f) → Spells (field read_pool before) at f (field_bytes pool f)
  unfolding Spells field field_bytes
  field_spells at before f h g =
      let back : List ℕ = value_bytes pool f.constant in
      let from_desc : List ℕ = index_bytes pool (text f.desc) ++ back in
      let from_name : List ℕ = index_bytes pool (text f.name) ++ from_desc in
      let from_flags : List ℕ = to_be_bytes w16 f.flags ++ from_name in (
        at,
        [],
        to_be_bytes w8 f.token ++ from_flags,
        refl,
        (refl, refl),
        (
          f.token,
          to_be_bytes w8 f.token,
          from_flags,
          refl,
          u1_spells (at + 0) f.token h.token,
          (
            f.flags,
            to_be_bytes w16 f.flags,
            from_name,
            refl,
            u2_spells (at + 0 + 1) f.flags h.flags,
            (
              tt,
              [],
              from_name,
              refl,
              (refl, passes at _ (first_passes before f f.constant h.value h.apart)),
              (
                f.name,
                index_bytes pool (text f.name),
                from_desc,
                refl,
                text_spells (at + 0 + 1 + 2 + 0) f.name g.0,
                (
                  f.desc,
                  index_bytes pool (text f.desc),
                  back,
                  refl,
                  desc_spells (at + 0 + 1 + 2 + 0 + 2) false f.desc g.1.0 h.is_desc,
                  (
                    tt,
                    [],
                    back,
                    refl,
                    (refl, passes at _ (second_passes before f f.constant h.value h.apart)),
                    value_end before f (at + 0 + 1 + 2 + 0 + 2 + 2 + 0) at f.constant h.value h.apart g.1.1,
                  ),
                ),
              ),
            ),
          ),
        ),
      )

  -- ---- methods

  class_method_spells : (at : ℕ) (before : List ExportMethod) (m : ExportMethod) → MethodFits m
      → method_token_wrong before (is_unbound m.flags m.name) m.token ≡ false
      → AllByRecursion (Has pool) (method_needs m)
      → Spells (class_method read_pool before) at m (method_bytes pool m)
  unfolding Spells class_method method_bytes
  class_method_spells at before m h fine g =
      let from_desc : List ℕ = index_bytes pool (text m.desc) in
      let from_name : List ℕ = index_bytes pool (text m.name) ++ from_desc in
      let from_flags : List ℕ = to_be_bytes w16 m.flags ++ from_name in (
        at,
        [],
        to_be_bytes w8 m.token ++ from_flags,
        refl,
        (refl, refl),
        (
          m.token,
          to_be_bytes w8 m.token,
          from_flags,
          refl,
          u1_spells (at + 0) m.token h.token,
          (
            m.flags,
            to_be_bytes w16 m.flags,
            from_name,
            refl,
            u2_spells (at + 0 + 1) m.flags h.flags,
            (
              tt,
              [],
              from_name,
              refl,
              (
                refl,
                passes at _ (static_first (is_static m.flags) (bytes_eq m.name (codes "<init>"))
                    (λ unbound. method_token_wrong before unbound m.token) fine),
              ),
              (
                m.name,
                index_bytes pool (text m.name),
                from_desc,
                refl,
                text_spells (at + 0 + 1 + 2 + 0) m.name g.0,
                (
                  tt,
                  [],
                  from_desc,
                  refl,
                  (refl, passes at _ fine),
                  (
                    m.desc,
                    from_desc,
                    [],
                    sym (append-nil from_desc),
                    desc_spells (at + 0 + 1 + 2 + 0 + 2 + 0) true m.desc g.1.0 h.is_desc,
                    (refl, refl),
                  ),
                ),
              ),
            ),
          ),
        ),
      )

  interface_name_found : (name : List ℕ) → Has pool (text name) → not_special name ≡ Some name
      → interface_name_at read_pool (index_of pool (text name)) ≡ Some name
  unfolding interface_name_at
  interface_name_found name h e = ap (option_and_then not_special) (text_found name h) ∙ e

  interface_method_spells : (at count : ℕ) (before : List ExportMethod) (m : ExportMethod) → MethodFits m
      → interface_token count before m.token ≡ Some m.token → not_special m.name ≡ Some m.name
      → AllByRecursion (Has pool) (method_needs m)
      → Spells (interface_method read_pool count before) at m (method_bytes pool m)
  unfolding Spells interface_method method_bytes
  interface_method_spells at count before m h own named g =
      let from_desc : List ℕ = index_bytes pool (text m.desc) in
      let from_name : List ℕ = index_bytes pool (text m.name) ++ from_desc in
      let from_flags : List ℕ = to_be_bytes w16 m.flags ++ from_name in (
        m.token,
        to_be_bytes w8 m.token,
        from_flags,
        refl,
        table8 (interface_token count before) at m.token m.token h.token own,
        (
          m.flags,
          to_be_bytes w16 m.flags,
          from_name,
          refl,
          u2_spells (at + 1) m.flags h.flags,
          (
            m.name,
            index_bytes pool (text m.name),
            from_desc,
            refl,
            index_spells (interface_name_at read_pool) pool (at + 1 + 2) (text m.name) m.name w.constants
                (interface_name_found m.name g.0 named),
            (
              m.desc,
              from_desc,
              [],
              sym (append-nil from_desc),
              desc_spells (at + 1 + 2 + 2) true m.desc g.1.0
                  h.is_desc,
              (refl, refl),
            ),
          ),
        ),
      )

  method_spells : (interface : Bool) (count at : ℕ) (before : List ExportMethod) (m : ExportMethod)
      → MethodStands interface count before m → AllByRecursion (Has pool) (method_needs m)
      → Spells (method read_pool interface count before) at m (method_bytes pool m)
  unfolding method
  method_spells true count at before m h g = interface_method_spells at count before m h.0 h.1 h.2 g
  method_spells false count at before m h g = class_method_spells at before m h.0 h.1 g

  -- ---- classes

  new_name_found : (before : List ExportClass) (name : List ℕ) → Has pool (class name) → new_name before name
      ≡ Some name → new_name_at read_pool before (index_of pool (class name)) ≡ Some name
  unfolding new_name_at
  new_name_found before name h e = ap (option_and_then (new_name before)) (class_found name h) ∙ e

  -- the members of a class fit
  record FieldsFit (c : ExportClass) : Type 0 where
    counts : CountsFit c
    fields : EachAfter FieldFits [] c.fields
    count : method_count (is_interface c.flags) (length c.methods) ≡ Some (length c.methods)
    methods : EachAfter (MethodStands (is_interface c.flags) (length c.methods)) [] c.methods
    supers : c.supers ≡ with_root c.name c.listed

  -- what is read is the class, whose superclasses are those that it lists with java/lang/Object
  as_read : (c : ExportClass) → c.supers ≡ with_root c.name c.listed
      → (let read : ExportClass = record {
        token = c.token;
        flags = c.flags;
        name = c.name;
        listed = c.listed;
        supers = with_root c.name c.listed;
        interfaces = c.interfaces;
        fields = c.fields;
        methods = c.methods;
      } in read ≡ c)
  as_read c e = ap (λ (supers : List (List ℕ)). let read : ExportClass = record {
    token = c.token;
    flags = c.flags;
    name = c.name;
    listed = c.listed;
    supers = supers;
    interfaces = c.interfaces;
    fields = c.fields;
    methods = c.methods;
  } in read) (sym e)

  -- behind the interfaces
  members_spell : (at : ℕ) (c : ExportClass) → FieldsFit c → AllByRecursion (Has pool) (flat_map field_needs c.fields)
      → AllByRecursion (Has pool) (flat_map method_needs c.methods)
      → Spells (u2 >>= λ field_count. iterated field_count (grown (field read_pool)) [] >>= λ fields.
      number w16 (method_count (is_interface c.flags))
      >>= λ count. iterated count (grown (method read_pool (is_interface c.flags) count)) [] >>= λ methods.
      gives (record {
        token = c.token;
        flags = c.flags;
        name = c.name;
        listed = c.listed;
        supers = with_root c.name c.listed;
        interfaces = c.interfaces;
        fields = fields;
        methods = methods;
      }))
      at c (members_bytes pool c)
  unfolding Spells members_bytes
  members_spell at c h g k =
      let methods_bytes : List ℕ = flat_map (method_bytes pool) c.methods in
      let from_count : List ℕ = to_be_bytes w16 (length c.methods) ++ methods_bytes in (
        length c.fields,
        to_be_bytes w16 (length c.fields),
        flat_map (field_bytes pool) c.fields ++ from_count,
        refl,
        u2_spells at (length c.fields) h.counts.fields,
        (
          c.fields,
          flat_map (field_bytes pool) c.fields,
          from_count,
          refl,
          grown_spells (field read_pool) (field_bytes pool) field_needs pool FieldFits field_spells (at + 2) [] c.fields
              h.fields g,
          (
            length c.methods,
            to_be_bytes w16 (length c.methods),
            methods_bytes,
            refl,
            table16 (method_count (is_interface c.flags)) (at + 2 + length (flat_map (field_bytes pool) c.fields))
                (length c.methods) (length c.methods) h.counts.methods h.count,
            (
              c.methods,
              methods_bytes,
              [],
              sym (append-nil methods_bytes),
              grown_spells (method read_pool (is_interface c.flags) (length c.methods)) (method_bytes pool) method_needs
                  pool (MethodStands (is_interface c.flags) (length c.methods))
                  (method_spells (is_interface c.flags) (length c.methods))
                  (at + 2 + length (flat_map (field_bytes pool) c.fields) + 2) [] c.methods h.methods k,
              (refl, as_read c h.supers),
            ),
          ),
        ),
      )

  class_spells : (at : ℕ) (before : List ExportClass) (c : ExportClass) → ClassFits before c
      → AllByRecursion (Has pool) (class_tree_needs c) → Spells (class_tree read_pool before) at c (class_bytes pool c)
  unfolding Spells class_tree class_bytes class_tree_needs
  class_spells at before c h g =
      let after_name = all_back (Has pool) (class_needs c.name) _ g in
      let after_supers = all_back (Has pool) (flat_map class_needs c.listed) _ after_name in
      let after_interfaces = all_back (Has pool) (flat_map class_needs c.interfaces) _ after_supers in
      let own : AllByRecursion (Has pool) (class_needs c.name) = all_front (Has pool) (class_needs c.name) _ g in
      let back : List ℕ = members_bytes pool c in
      let from_interfaces : List ℕ = flat_map (class_ref pool) c.interfaces ++ back in
      let from_count : List ℕ = to_be_bytes w8 (length c.interfaces) ++ from_interfaces in
      let from_supers : List ℕ = flat_map (class_ref pool) c.listed ++ from_count in
      let from_super_count : List ℕ = to_be_bytes w16 (length c.listed) ++ from_supers in
      let from_name : List ℕ = class_ref pool c.name ++ from_super_count in (
        c.token,
        to_be_bytes w8 c.token,
        to_be_bytes w16 c.flags ++ from_name,
        refl,
        table8 (class_token before) at c.token c.token h.token h.own_token,
        (
          c.flags,
          to_be_bytes w16 c.flags,
          from_name,
          refl,
          u2_spells (at + 1) c.flags h.flags,
          (
            c.name,
            class_ref pool c.name,
            from_super_count,
            refl,
            index_spells (new_name_at read_pool before) pool (at + 1 + 2) (class c.name) c.name w.constants
                (new_name_found before c.name own.1.0 h.own_name),
            (
              length c.listed,
              to_be_bytes w16 (length c.listed),
              from_supers,
              refl,
              u2_spells (at + 1 + 2 + 2) (length c.listed) h.counts.listed,
              (
                c.listed,
                flat_map (class_ref pool) c.listed,
                from_count,
                refl,
                names_spell (at + 1 + 2 + 2 + 2) c.listed (all_front (Has pool) (flat_map class_needs c.listed) _
                    after_name),
                (
                  length c.interfaces,
                  to_be_bytes w8 (length c.interfaces),
                  from_interfaces,
                  refl,
                  u1_spells _ (length c.interfaces) h.counts.interfaces,
                  (
                    c.interfaces,
                    flat_map (class_ref pool) c.interfaces,
                    back,
                    refl,
                    names_spell _ c.interfaces (all_front (Has pool) (flat_map class_needs c.interfaces) _
                        after_supers),
                    members_spell _ c (record {
                      counts = h.counts;
                      fields = h.fields;
                      count = h.count;
                      methods = h.methods;
                      supers = h.supers;
                    })
                        (all_front (Has pool) (flat_map field_needs c.fields) (flat_map method_needs c.methods)
                        after_interfaces)
                        (all_back (Has pool) (flat_map field_needs c.fields) (flat_map method_needs c.methods)
                        after_interfaces),
                  ),
                ),
              ),
            ),
          ),
        ),
      )

-- ---- the file

head_spells : (t : ExportTree) (w : IsWritable t) → Spells front_part 0 (read_pool t w 8) (head_bytes (constants t)
    ++ flat_map (constant_bytes t (constants t)) (constants t))
unfolding Spells front_part head_bytes
head_spells t w =
    let pool_bytes : List ℕ = flat_map (constant_bytes t (constants t)) (constants t) in
    let from_count : List ℕ = to_be_bytes w16 (length (constants t)) ++ pool_bytes in (
      0x00FACADE,
      to_be_bytes w32 0x00FACADE,
      to_be_bytes w8 2 ++ (to_be_bytes w8 2 ++ from_count),
      refl,
      table32 (exactly 0x00FACADE) 0 0x00FACADE 0x00FACADE (omega arith) refl,
      (
        2,
        to_be_bytes w8 2,
        to_be_bytes w8 2 ++ from_count,
        refl,
        table8 minor_version 4 2 2 (omega arith) refl,
        (
          2,
          to_be_bytes w8 2,
          from_count,
          refl,
          table8 (exactly 2) 5 2 2 (omega arith) refl,
          (
            length (constants t),
            to_be_bytes w16 (length (constants t)),
            pool_bytes,
            refl,
            u2_spells 6 (length (constants t)) w.constants,
            entries_spell t w 8 8 (constants t)
                (constants_fit_each t w),
          ),
        ),
      ),
    )

pub written_spells : (t : ExportTree) → IsWritable t → FileSpells export_file t (written t)
unfolding Spells export_file written bytes_over needs package_field
written_spells t w =
    let pool : List Constant = constants t in
    let start : ℕ = 8 in
    let all : AllByRecursion (Has (constants t)) (needs t) = all_needed t in
    let front : List ℕ = head_bytes (constants t) ++ flat_map (constant_bytes t (constants t)) (constants t) in
    let classes_bytes : List ℕ = flat_map (class_bytes (constants t)) t.classes in
    let from_count : List ℕ = to_be_bytes w8 (length t.classes) ++ classes_bytes in
    let back : List ℕ = index_bytes (constants t) this ++ from_count in (
      read_pool t w 8,
      front,
      back,
      sym (append_assoc (head_bytes (constants t)) (flat_map (constant_bytes t (constants t)) (constants t)) back),
      head_spells t w,
      (
        tt,
        [],
        back,
        refl,
        (refl, tested_all t w 8 8 (constants t) (constants_named t)),
        (
          described t w 8,
          index_bytes (constants t) this,
          from_count,
          refl,
          index_spells (package_at (read_pool t w 8)) (constants t) 8 this (described t w 8) w.constants
              (package_found t w 8 all.1.0),
          (
            length t.classes,
            to_be_bytes w8 (length t.classes),
            classes_bytes,
            refl,
            u1_spells _ (length t.classes) w.count,
            (
              t.classes,
              classes_bytes,
              [],
              sym (append-nil classes_bytes),
              grown_spells (class_tree (read_pool t w 8)) (class_bytes (constants t)) class_tree_needs (constants t)
                  ClassFits (class_spells t w 8) _ [] t.classes w.classes all.1.1,
              (refl, refl),
            ),
          ),
        ),
      ),
    )
