-- The entry of each key is that of the package.
use Rattle.std.proofs.Common.{◌≡◌, ℕ, zero, suc, ◌+◌, ◌<◌, ◌≤◌, ◌∙◌, refl, sym, ap, arith, List, [], ◌∷◌, ◌++◌, length, get_or, drop, map, add-one, append_assoc, append-nil}
use Rattle.std.specs.Prelude.{Option, Some, None}
use Rattle.std.proofs.Math.Seq.{drop-cons}
use Rattle.cjc_capread.specs.declared.tree.ClassRef.{ClassRef}
use Rattle.cjc_capread.specs.declared.tree.StaticRef.{StaticRef}
use Rattle.cjc_capread.specs.declared.tree.PoolEntry.{PoolEntry}
use Rattle.cjc_capread.specs.declared.tree.PoolEntry.TheVariants as entries
use Rattle.cjc_card.specs.Classes.{Class as CardClass, Own, Foreign}
use Rattle.cjc_lower.specs.Naming.{entry_of}
use Rattle.cjc_ncode.specs.declared.narrow.PoolKey.{PoolKey}
use Rattle.cjc_ncode.specs.declared.narrow.PoolKey.TheVariants as keys
use Rattle.cjc_tokens.specs.Tokens.{Assigned}
use Rattle.cjc_world.specs.declared.found.Found.{Found}
use Rattle.cjc_world.specs.Files.{Files}
use Rattle.cjc_world.specs.Classes.{all_classes}
use Rattle.cjc_world.specs.Lookup.{find_method}
use Rattle.cjc_components.specs.Package.{Package, pool, tokens, world}
use Rattle.cjc_components.specs.Names.{class_at, field_token, member_ref, member_token, names, offset_where, pool_entries, ref_to}
use Rattle.cjc_components.specs.Statics.{cell_offset}
use Rattle.cjc_class_info.specs.declared.refs.ClassRefs.{ClassRefs}
use Rattle.cjc_class_info.specs.Refs.{AreRefs, ref_of}
use Rattle.cjc_class_info.specs.Entries.{AreOffsets, offset_in}
use Rattle.cjc_pool_entries.specs.Entries.{entry_by, key_cell, key_token, offset_by, static_ref}

-- ---- one entry

static_at : (c : CardClass) (offset token : ℕ) → static_ref (ref_to c) offset token ≡ member_ref c offset token
static_at (Own part at) offset token = refl
static_at (Foreign file class) offset token = refl

module _ (p : Package) (r : ClassRefs) (offsets : List (List ℕ)) (refs : AreRefs p r) (are : AreOffsets p offsets) where
  offset_is : (f : Option Found) → offset_by (offset_in offsets) f ≡ offset_where p f
  offset_is None = refl
  offset_is (Some f) = are f

  static_is : (name : List ℕ) (offset token : ℕ) → static_ref (ref_of r name) offset token ≡ member_ref (class_at p name) offset token
  static_is name offset token = ap (λ (c : ClassRef). static_ref c offset token) (refs name) ∙ static_at (class_at p name) offset token

  entry_is : (key : PoolKey) → entry_by (ref_of r) (world p) (tokens p) (offset_in offsets) (key_token p key) (key_cell p key) key ≡ entry_of (names p) key
  entry_is (keys.Class name) = ap (λ (c : ClassRef). entries.Classref c) (refs name)
  entry_is (keys.Field f) = ap (λ (c : ClassRef). entries.InstanceFieldref c (field_token p f)) (refs f.class)
  entry_is (keys.Virtual m) = ap (λ (c : ClassRef). entries.VirtualMethodref c (key_token p (keys.Virtual m))) (refs m.class)
  entry_is (keys.Super m) = ap (λ (c : ClassRef). entries.SuperMethodref c (key_token p (keys.Super m))) (refs m.class)
  entry_is (keys.StaticField f) = ap (λ (s : StaticRef). entries.StaticFieldref s) (static_is f.class (cell_offset p.image f) (field_token p f))
  entry_is (keys.StaticMethod m) =
      let found = find_method (world p) m.class m.name m.desc in
      ap (λ (s : StaticRef). entries.StaticMethodref s)
      (static_is m.class (offset_by (offset_in offsets) found) (member_token p found)
      ∙ ap (λ (o : ℕ). member_ref (class_at p m.class) o (member_token p found)) (offset_is found))

-- ---- all

-- those of keys from one on are still to come
pub more : (p : Package) (r : ClassRefs) (offsets : List (List ℕ)) (files : Files) (tokens_of : Assigned) → AreRefs p r → AreOffsets p offsets → p.files ≡ files → tokens_of ≡ tokens p
    → (ks : List PoolKey) (ts cs : List ℕ) → ts ≡ map (key_token p) ks → cs ≡ map (key_cell p) ks → (k : ℕ) (x : PoolKey) (row new all : List PoolEntry) → k < length ks → x ≡ get_or ks k x
    → new ≡ row ++ entry_by (ref_of r) (all_classes files) tokens_of (offset_in offsets) (get_or ts k 0) (get_or cs k 0) x ∷ []
    → row ++ map (entry_of (names p)) (drop k ks) ≡ all → new ++ map (entry_of (names p)) (drop (k + 1) ks) ≡ all
more p r offsets files tokens_of refs are e f ks ts cs t o k x row new all lt is put inv =
    ap (λ (n : List PoolEntry). n ++ map (entry_of (names p)) (drop (k + 1) ks)) put
    ∙ append_assoc row (entry_by (ref_of r) (all_classes files) tokens_of (offset_in offsets) (get_or ts k 0) (get_or cs k 0) x ∷ []) (map (entry_of (names p)) (drop (k + 1) ks))
    ∙ ap (λ (y : PoolEntry). row ++ y ∷ map (entry_of (names p)) (drop (k + 1) ks)) one
    ∙ ap (λ (ys : List PoolKey). row ++ map (entry_of (names p)) ys) (sym here)
    ∙ inv
  where
    here : drop k ks ≡ x ∷ drop (k + 1) ks
    here = drop-cons ks k x lt ∙ ap (λ y. y ∷ drop (suc k) ks) (sym is) ∙ ap (λ n. x ∷ drop n ks) (sym (add-one k))

    at : (g : PoolKey → ℕ) (ys : List PoolKey) (n : ℕ) → n < length ys → x ≡ get_or ys n x → get_or (map g ys) n 0 ≡ g x
    at g [] n small same = absurd (omega arith)
    at g (y ∷ ys) zero small same = ap g (sym same)
    at g (y ∷ ys) (suc n) small same = at g ys n (omega arith) same

    one : entry_by (ref_of r) (all_classes files) tokens_of (offset_in offsets) (get_or ts k 0) (get_or cs k 0) x ≡ entry_of (names p) x
    one =
        ap (λ (n : ℕ). entry_by (ref_of r) (all_classes files) tokens_of (offset_in offsets) n (get_or cs k 0) x) (ap (λ (zs : List ℕ). get_or zs k 0) t ∙ at (key_token p) ks k lt is)
        ∙ ap (λ (n : ℕ). entry_by (ref_of r) (all_classes files) tokens_of (offset_in offsets) (key_token p x) n x) (ap (λ (zs : List ℕ). get_or zs k 0) o ∙ at (key_cell p) ks k lt is)
        ∙ ap (λ (a : Assigned). entry_by (ref_of r) (all_classes files) a (offset_in offsets) (key_token p x) (key_cell p x) x) f
        ∙ ap (λ (q : Files). entry_by (ref_of r) (all_classes q) (tokens p) (offset_in offsets) (key_token p x) (key_cell p x) x) (sym e)
        ∙ entry_is p r offsets refs are x

pub all_done : (p : Package) (ks : List PoolKey) (k : ℕ) (row : List PoolEntry) → length ks ≤ k → ks ≡ pool p → row ++ map (entry_of (names p)) (drop k ks) ≡ map (entry_of (names p)) ks → row ≡ pool_entries p
all_done p ks k row le is inv = sym (append-nil row) ∙ ap (λ (ys : List PoolKey). row ++ map (entry_of (names p)) ys) (sym (past ks k le)) ∙ inv ∙ ap (map (entry_of (names p))) is
  where
    past : (ys : List PoolKey) (n : ℕ) → length ys ≤ n → drop n ys ≡ []
    past [] zero small = refl
    past [] (suc n) small = refl
    past (y ∷ ys) zero small = absurd (omega arith)
    past (y ∷ ys) (suc n) small = past ys n (omega arith)
