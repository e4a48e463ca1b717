-- What is written of one method where it stands.
use Rattle.std.proofs.Common.{◌≡◌, ℕ, zero, suc, ◌+◌, ◌≤◌, ◌<◌, refl, sym, ap, ◌∙◌, arith, Bool, true, false, List, []}
use Rattle.std.proofs.Common.{◌∷◌, ◌++◌, length, get_or, drop, append_assoc, append-nil}
use Rattle.std.specs.Prelude.{map, slice_get, position, unwrap_or, Option, Some, None, if◌then◌else◌, ◌==◌}
use Rattle.std.specs.List.{flat_map}
use Rattle.std.proofs.lemmas.List.{drop_all}
use Rattle.std.proofs.lemmas.Option.{slice_get-get_or, slice_get_read}
use Rattle.std.proofs.lemmas.List.Concat.{flat_map-cons}
use Rattle.cjc_pool.specs.CapRead.declared.opcode.OpInfo.{OpInfo}
use Rattle.cjc_pool.specs.CapRead.declared.tree.Handler.{Handler}
use Rattle.cjc_pool.specs.CapRead.Opcodes.{op_info}
use Rattle.cjc_pool.specs.NCode.declared.narrow.NInsn.{NInsn}
use Rattle.cjc_pool.specs.NCode.declared.narrow.NInsn.TheVariants as insns
use Rattle.cjc_pool.specs.NCode.declared.narrow.NMethod.{NMethod}
use Rattle.cjc_pool.specs.NCode.declared.narrow.PoolKey.{PoolKey}
use Rattle.cjc_pool.specs.NCode.PoolOrder.{same_key}
use Rattle.cjc_pool.specs.NCode.Lowering.Naming.{Naming}
use Rattle.cjc_pool.specs.CapRead.Card.{invokeinterface}
use Rattle.cjc_pool.specs.NCode.Lowering.Handlers as Lower
use Rattle.cjc_pool.specs.NCode.Lowering.Package.{all_bytes, all_handlers}
use Rattle.cjc_pool.specs.NCode.Lowering.Placed.{Placed, bytes_before, code_bytes, extended_header, insn_size}
use Rattle.cjc_pool.specs.NCode.Lowering.Placed.{method_bytes}
use Rattle.cjc_pool.specs.NCode.Lowering.Placed.{offset_of, short_header}
use Rattle.cjc_pool.specs.Layout.declared.layout.Layout.{Layout}
use Rattle.cjc_pool.specs.Layout.Forms.{HasForm}
use Rattle.cjc_pool.specs.Layout.Handlers.{table_order}
use Rattle.cjc_pool.specs.Layout.Layouts.{IsLayout}
use Rattle.cjc_pool.specs.Layout.OnCard.{handler_on_card}
use Rattle.cjc_pool.specs.Layout.Sizes as Sizes
use Rattle.cjc_components.proofs.LayoutLowered.{before_same, handlers_placed}
use Rattle.cjc_pool.specs.Emit.declared.emitted.MethodBytes.{MethodBytes}
use Rattle.cjc_pool.specs.Emit.Emitted.{IsEmittable, IsEmitted, code_places, emitted_bytes, header_bytes}
use Rattle.cjc_pool.specs.Emit.Emitted.{index_place}
use Rattle.cjc_pool.specs.Emit.Emitted.{index_places, insn_places, is_short}
use Rattle.cjc_components.proofs.EmitShifted.{bytes_anywhere}
use Rattle.cjc_components.specs.Components.{places_in}
use Rattle.cjc_components.specs.Methods.{first_method, header_of, placed_at, placed_from, placed_methods, with_abstract}
use Rattle.cjc_components.specs.Names.{names}
use Rattle.cjc_components.specs.Package.{LaidMethod, Package, pool}
use Rattle.cjc_pool.specs.Pool.{PoolView, token_in}
use Rattle.cjc_methods.specs.declared.layouts.laid.Laid.{Laid}
use Rattle.cjc_methods.specs.declared.layouts.laid.Methods.{Methods}
use Rattle.cjc_methods.specs.Layouts.Laid.{AreLaid, laid_method, laid_methods}
use Rattle.cjc_methods.proofs.LayoutsLaws.Kept.{there}
use Rattle.cjc_methods.specs.Component.Emittable.{AreEmittable}
use Rattle.cjc_methods.specs.Component.Working.Parts.{IsIndexed, flagged}
use Rattle.cjc_methods.proofs.LayoutsLaws.Standing.{header_long}
use Rattle.cjc_bytes.proofs.Gets.{drop_at}

-- ---- headers

-- a header has a first byte
flagged_front : (b : Bool) (code : NMethod) (rest : List ℕ) → flagged b (header_bytes code ++ rest)
    ≡ (if b then with_abstract (header_bytes code) else header_bytes code) ++ rest
flagged_front false code rest = refl
flagged_front true code rest = by (is_short code)
  where
    by : (s : Bool) → with_abstract ((if s then short_header code else extended_header code) ++ rest)
        ≡ with_abstract (if s then short_header code else extended_header code) ++ rest
    by true = refl
    by false = refl

-- ---- bytes

module _ (n : Naming) (at : ℕ) (m : LaidMethod) where
  -- the code behind a header of so many bytes
  abbrev behind : (head : ℕ) → List ℕ
  behind head = let code = m.code in code_bytes n (λ k. at + head + bytes_before n code.insns m.wide k) (at + head)
      code.insns m.wide

  pub bytes_written : flagged m.is_abstract (emitted_bytes n m.code m.wide) ≡ method_bytes n (placed_at at m)
  bytes_written =
      ap (flagged m.is_abstract) (sym (bytes_anywhere n at m.code m.wide))
      ∙ flagged_front m.is_abstract m.code (behind (length (header_bytes m.code)))
      ∙ ap (λ head. header_of m ++ behind head) (sym (header_long m))

-- ---- places of indices

index_shift : (bytes at h : ℕ) (o : Option OpInfo) → map (λ x. at + x) (index_place bytes h o)
    ≡ index_place bytes (at + h) o
index_shift bytes at h None = refl
index_shift bytes at h (Some info) = by (info.index_bytes == bytes)
  where
    by : (b : Bool) → map (λ x. at + x) (if b then (h + info.index_at) ∷ [] else [])
        ≡ (if b then (at + h + info.index_at) ∷ [] else [])
    by true = let e : at + (h + info.index_at) ≡ at + h + info.index_at = omega arith in ap (λ x. x ∷ []) e
    by false = refl

insn_shift : (bytes at h : ℕ) (i : NInsn) → map (λ x. at + x) (insn_places bytes h i) ≡ insn_places bytes (at + h) i
insn_shift bytes at h (insns.Op op) = refl
insn_shift bytes at h (insns.Push op value) = refl
insn_shift bytes at h (insns.Local op index) = refl
insn_shift bytes at h (insns.Inc op index by) = refl
insn_shift bytes at h (insns.Words op high low) = refl
insn_shift bytes at h (insns.Jump op target) = refl
insn_shift bytes at h (insns.Switch op other low cases) = refl
insn_shift bytes at h (insns.Named op key) = index_shift bytes at h (op_info op)
insn_shift bytes at h (insns.Interface nargs m) = index_shift bytes at h (op_info invokeinterface)
insn_shift bytes at h (insns.NewArray kind) = refl
insn_shift bytes at h (insns.TypeTest op kind None) = refl
insn_shift bytes at h (insns.TypeTest op kind (Some class)) = index_shift bytes at h (op_info op)

map_both : (at : ℕ) (xs ys : List ℕ) → map (λ x. at + x) (xs ++ ys) ≡ map (λ x. at + x) xs ++ map (λ x. at + x) ys
map_both at [] ys = refl
map_both at (x ∷ xs) ys = ap (λ zs. (at + x) ∷ zs) (map_both at xs ys)

code_shift : (n : Naming) (bytes at h : ℕ) (is : List NInsn) (wide : List Bool)
    → map (λ x. at + x) (code_places n bytes h is wide) ≡ code_places n bytes (at + h) is wide
code_shift n bytes at h [] wide = refl
code_shift n bytes at h (i ∷ is) [] = refl
code_shift n bytes at h (i ∷ is) (w ∷ wide) =
    let size = insn_size n w i in
    let e : at + (h + size) ≡ at + h + size = omega arith in
    map_both at (insn_places bytes h i) (code_places n bytes (h + size) is wide)
    ∙ ap (λ xs. xs ++ map (λ x. at + x) (code_places n bytes (h + size) is wide)) (insn_shift bytes at h i)
    ∙ ap (λ xs. insn_places bytes (at + h) i ++ xs) (code_shift n bytes at (h + size) is wide)
    ∙ ap (λ a. insn_places bytes (at + h) i ++ code_places n bytes a is wide) e

pub places_written : (p : Package) (bytes at : ℕ) (m : LaidMethod)
    → map (λ x. at + x) (index_places (names p) bytes m.code m.wide) ≡ places_in p bytes (placed_at at m)
places_written p bytes at m =
    let code = m.code in
    code_shift (names p) bytes at (length (header_bytes code)) code.insns m.wide
    ∙ ap (λ head. code_places (names p) bytes (at + head) code.insns m.wide) (sym (header_long m))

-- ---- handlers

pub handlers_written : (n : Naming) (at : ℕ) (m : LaidMethod) (l : Layout) → IsLayout m.code l → l.wide ≡ m.wide
    → ((k : ℕ) (i : NInsn) → (let code = m.code in slice_get code.insns k ≡ Some i) → HasForm i)
    → map (handler_on_card n (at + length (header_bytes m.code))) l.handlers ≡ (let q = placed_at at m
    in let code = q.method in Lower.handlers_of n (offset_of n q) code.catches)
handlers_written n at m l is wide forms =
    let code = m.code in
    let first = at + length (header_bytes code) in
    let catches = table_order code.catches in
    let to : ℕ → ℕ = Sizes.bytes_before code.insns l.wide in
    ap (map (handler_on_card n first)) is.handlers
    ∙ handlers_placed n first to catches
    ∙ ap (λ ws. Lower.handlers_of n (λ k. first + Sizes.bytes_before code.insns ws k) catches) wide
    ∙ ap (λ f. Lower.handlers_of n f catches) (λ i k. first + sym (before_same n code.insns m.wide forms k) i)
    ∙ ap (λ head. Lower.handlers_of n (λ k. at + head + bytes_before n code.insns m.wide k) catches)
    (sym (header_long m))

-- ---- one after the other

pub placed_there : (at : ℕ) (ms : List LaidMethod) (k : ℕ) (m : LaidMethod) (o : ℕ) → slice_get ms k ≡ Some m
    → slice_get (map (λ (q : Placed). q.offset) (placed_from at ms)) k ≡ Some o → slice_get (placed_from at ms) k
    ≡ Some (placed_at o m)
placed_there at [] k m o e f = cc
placed_there at (x ∷ ms) zero m o e f = let g : x ≡ m = cc in let h : at ≡ o = cc in ap (λ y. Some (placed_at at y)) g
    ∙ ap (λ y. Some (placed_at y m)) h
placed_there at (x ∷ ms) (suc k) m o e f = placed_there (at + _) ms k m o e f

pub length_placed : (at : ℕ) (ms : List LaidMethod) → length (placed_from at ms) ≡ length ms
length_placed at [] = refl
length_placed at (m ∷ ms) = ap suc (length_placed (at + _) ms)

pub more : {A B : Type 0} (F : List A → List B) (part : A → List B) → ((x : A) (xs : List A) → F (x ∷ xs) ≡ part x
    ++ F xs) → (xs : List A) (k : ℕ) (x : A) (done next total : List B)
    → slice_get xs k ≡ Some x → next ≡ done ++ part x → done ++ F (drop k xs) ≡ total → next ++ F (drop (k + 1) xs)
    ≡ total
more {A} {B} F part cons xs k x done next total there n so_far =
    ap (λ ys. ys ++ F (drop (k + 1) xs)) n
    ∙ append_assoc done (part x) (F (drop (k + 1) xs))
    ∙ ap (λ ys. done ++ ys) (sym (cons x (drop (k + 1) xs)))
    ∙ ap (λ (ys : List A). done ++ F ys) (sym (drop_at xs k x there))
    ∙ so_far

pub last : {A B : Type 0} (F : List A → List B) → F [] ≡ [] → (xs : List A) (k : ℕ) (done total : List B)
    → length xs ≤ k → done ++ F (drop k xs) ≡ total → done ≡ total
last {A} {B} F none xs k done total le so_far = sym (append-nil done) ∙ ap (λ ys. done ++ ys) (sym none)
    ∙ ap (λ (ys : List A). done ++ F ys) (sym (drop_all k xs le)) ∙ so_far

pub by_keys : (p : Package) (ks : List PoolKey) → ks ≡ pool p → IsIndexed ks (names p)
by_keys p ks e = λ key. ap (λ (xs : List PoolKey). unwrap_or (position (same_key key) xs) 0) (sym e)

-- ---- the method of a place

-- what is read of a place of methods that are kept
pub record IsRead (p : Package) (ms : Methods) (ks : PoolView) (offsets : List ℕ) (k : ℕ) (code : NMethod) (l : Laid)
    (at : ℕ) : Type 0 where
  pub laid : IsLayout code l.layout
  pub emittable : (let layout = l.layout in IsEmittable ks.keys (token_in ks) (names p) code layout.wide)
  pub placed : slice_get (placed_methods p) k ≡ Some (placed_at at (laid_method code l))

pub read_there : (p : Package) (ms : Methods) (ks : PoolView) (offsets : List ℕ) (k : ℕ) (code : NMethod) (l : Laid)
    (at : ℕ) → AreLaid ms → p.methods ≡ laid_methods ms → offsets ≡ map (λ q. q.offset) (placed_methods p)
    → AreEmittable p ks
    → slice_get ms.codes k ≡ Some code → slice_get ms.laid k ≡ Some l → slice_get offsets k ≡ Some at
    → IsRead p ms ks offsets k code l at
read_there p ms ks offsets k code l at laid same is_offsets can is_code is_laid is_at =
    let here : slice_get p.methods k ≡ Some (laid_method code l) = ap (λ (xs : List LaidMethod). slice_get xs k) same
    ∙ there ms.codes ms.laid k code l is_code is_laid in
    record {
      laid = laid.each k code l is_code is_laid;
      emittable = can.each k (laid_method code l) here;
      placed = placed_there (first_method p.methods) p.methods k (laid_method code l) at here
          (ap (λ (xs : List ℕ). slice_get xs k) (sym is_offsets) ∙ is_at);
    }

pub has_forms : (p : Package) (ks : PoolView) (code : NMethod) (wide : List Bool)
    → IsEmittable ks.keys (token_in ks) (names p) code wide → (k : ℕ) (i : NInsn) → slice_get code.insns k ≡ Some i
    → HasForm i
has_forms p ks code wide can k i e = can.written.forms k i e

pub flat_cons : {A B : Type 0} (f : A → List B) (x : A) (xs : List A) → flat_map f (x ∷ xs) ≡ f x ++ flat_map f xs
flat_cons f x xs = flat_map-cons f x xs

-- ---- reads of a place

pub read_one : {A : Type 0} (xs ys : List A) (k : ℕ) (x : A) → xs ≡ ys → k < length xs → x ≡ get_or xs k x
    → slice_get ys k ≡ Some x
read_one {A} xs ys k x e lt is = ap (λ (zs : List A). slice_get zs k) (sym e) ∙ slice_get_read xs (length xs) k x refl
    lt is

pub read_by : {A : Type 0} (xs ys : List A) (k : ℕ) (d : A) → xs ≡ ys → k < length xs
    → slice_get ys k ≡ Some (get_or xs k d)
read_by {A} xs ys k d e lt = ap (λ (zs : List A). slice_get zs k) (sym e) ∙ slice_get-get_or xs k d lt

pub as_many_laid : (ms : Methods) (cs : List NMethod) (ls : List Laid) (k : ℕ) → AreLaid ms → cs ≡ ms.codes
    → ls ≡ ms.laid → k < length cs → k < length ls
as_many_laid ms cs ls k laid e f lt =
    let a = ap (λ (xs : List NMethod). length xs) e in
    let b = ap (λ (xs : List Laid). length xs) f in
    let count = laid.count in
    omega (arith, a, b, count, lt)

module _ (p : Package) (ms : Methods) (ks : PoolView) (offsets : List ℕ) (k : ℕ) (code : NMethod) (l : Laid) (at : ℕ)
    (r : IsRead p ms ks offsets k code l at) where
  pub bytes_more : (emitted : MethodBytes) → (let layout = l.layout in IsEmitted (names p) code layout.wide emitted)
      → (done next total : List ℕ) → next ≡ done ++ flagged l.is_abstract emitted.bytes
      → done ++ all_bytes (names p) (drop k (placed_methods p)) ≡ total
      → next ++ all_bytes (names p) (drop (k + 1) (placed_methods p)) ≡ total
  bytes_more emitted is done next total n so_far =
      more (all_bytes (names p)) (method_bytes (names p)) (λ x xs. refl) (placed_methods p) k
      (placed_at at (laid_method code l)) done next total r.placed
      (n ∙ ap (λ bs. done ++ flagged l.is_abstract bs) is.bytes
      ∙ ap (λ bs. done ++ bs) (bytes_written (names p) at (laid_method code l))) so_far

  pub places_more : (bytes : ℕ) (places : List ℕ) → (let layout = l.layout in places ≡ index_places (names p) bytes code
      layout.wide) → (done next total : List ℕ) → next ≡ done ++ map (λ x. at + x) places
      → done ++ flat_map (places_in p bytes) (drop k (placed_methods p)) ≡ total
      → next ++ flat_map (places_in p bytes) (drop (k + 1) (placed_methods p)) ≡ total
  places_more bytes places is done next total n so_far =
      more (flat_map (places_in p bytes)) (places_in p bytes) (flat_cons (places_in p bytes)) (placed_methods p) k
      (placed_at at (laid_method code l)) done next total r.placed
      (n ∙ ap (λ ps. done ++ map (λ x. at + x) ps) is
      ∙ ap (λ bs. done ++ bs) (places_written p bytes at (laid_method code l))) so_far

  pub handlers_more : (done next total : List Handler) → (let layout = l.layout in next ≡ done
      ++ map (handler_on_card (names p) (at + length (header_bytes code))) layout.handlers)
      → done ++ all_handlers (names p) (drop k (placed_methods p)) ≡ total
      → next ++ all_handlers (names p) (drop (k + 1) (placed_methods p)) ≡ total
  handlers_more done next total n so_far =
      let layout = l.layout in
      more (all_handlers (names p)) (λ q. let m = q.method in Lower.handlers_of (names p) (offset_of (names p) q)
      m.catches) (λ x xs. refl) (placed_methods p) k (placed_at at (laid_method code l)) done next total r.placed
      (n ∙ ap (λ hs. done ++ hs) (handlers_written (names p) at (laid_method code l) layout r.laid refl
      (has_forms p ks code layout.wide r.emittable))) so_far
