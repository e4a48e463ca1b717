-- The passes over jumps: offsets as sums of narrow sizes, and what a pass that makes jumps wide keeps.
use Rattle.std.proofs.Common.{◌≡◌, ℕ, zero, suc, ◌+◌, ◌<◌, ◌≤◌, refl, sym, ap, subst, ◌∙◌, ⊎_elim, arith, Bool, true}
use Rattle.std.proofs.Common.{false, List, [], ◌∷◌, ◌++◌, length, map, get_or, add-one, take}
use Rattle.std.proofs.lemmas.List.{length-map}
use Rattle.std.specs.Prelude.{Some, slice_get, slice_set, slice_index, option_map}
use Rattle.std.proofs.lemmas.Bool.{cases_lt}
use Rattle.std.proofs.lemmas.Option.{slice_get-get_or, slice_get-map}
use Rattle.cjc_ncode.specs.declared.narrow.NInsn.{NInsn}
use Rattle.cjc_ncode.specs.declared.narrow.NInsn.TheVariants as narrow
use Rattle.cjc_layout.specs.Sizes.{insn_size, bytes_before, code_size, widest_size, Leads, AllLead}
use Rattle.cjc_layout.specs.Legal.{is_near, IsLegal, IsWithin}
use Rattle.cjc_layout.specs.Layouts.{HasPlaces}
use Rattle.cjc_layout.specs.Working.{bit, sum_before, narrow_count, is_far, Widening}
use Rattle.cjc_layout.proofs.Places.{far_wide, within_set, size_grows, all_wide}
use Rattle.cjc_ncode.proofs.BytesBools.{not_true, not_false}
use Rattle.cjc_ncode.proofs.BytesGets.{slice_get_at, get_below}

-- ---- offsets as sums

abbrev pub is_jump : NInsn → Bool
is_jump (narrow.Jump op target) = true
is_jump _ = false

bit_size : (i : NInsn) (w : Bool) → (w ≡ true → is_jump i ≡ true) → insn_size false i + bit w ≡ insn_size w i
bit_size (narrow.Jump op target) true h = refl
bit_size i false h = omega arith
bit_size (narrow.Op op) true h = let e = h refl in cc
bit_size (narrow.Push op value) true h = let e = h refl in cc
bit_size (narrow.Local op index) true h = let e = h refl in cc
bit_size (narrow.Inc op index by) true h = let e = h refl in cc
bit_size (narrow.Words op m n) true h = let e = h refl in cc
bit_size (narrow.Switch op other low cases) true h = let e = h refl in cc
bit_size (narrow.Named op key) true h = let e = h refl in cc
bit_size (narrow.Interface nargs m) true h = let e = h refl in cc
bit_size (narrow.NewArray kind) true h = let e = h refl in cc
bit_size (narrow.TypeTest op kind class) true h = let e = h refl in cc

first_jump : (w : Bool) (i : NInsn) (ws : List Bool) (is : List NInsn) → IsWithin (w ∷ ws) (map is_jump (i ∷ is))
    → w ≡ true → is_jump i ≡ true
first_jump w i ws is within e = let f = within 0 (ap (λ x. Some x) e) in cc

pub sum_same : (insns : List NInsn) (wide : List Bool) → IsWithin wide (map is_jump insns) → (k : ℕ)
    → sum_before (map (insn_size false) insns) wide k ≡ bytes_before insns wide k
sum_same insns wide within zero = refl
sum_same [] wide within (suc k) = refl
sum_same (i ∷ insns) [] within (suc k) = refl
sum_same (i ∷ insns) (w ∷ wide) within (suc k) =
    let r = sum_same insns wide (λ j e. within (suc j) e) k in
    let b = bit_size i w (first_jump w i wide insns within) in omega arith

-- the choice of all jumps is legal, so no least choice has anything else
pub jumps_legal : (insns : List NInsn) → IsLegal insns (map is_jump insns)
jumps_legal insns = record {
  count = length-map insns is_jump;
  near = λ k op to e f. let g : slice_get (map is_jump insns) k ≡ Some true = slice_get-map is_jump insns k
      ∙ ap (option_map is_jump) e in let clash : Some true ≡ Some false = sym g ∙ f in cc;
}

sum_suc : (sizes : List ℕ) (wide : List Bool) (k : ℕ) → length wide ≡ length sizes → k < length sizes
    → sum_before sizes wide (suc k) ≡ sum_before sizes wide k + (get_or sizes k 0 + bit (get_or wide k false))
sum_suc [] wide k len h = absurd (omega arith)
sum_suc (n ∷ sizes) [] k len h = absurd (omega arith)
sum_suc (n ∷ sizes) (w ∷ wide) zero len h = omega arith
sum_suc (n ∷ sizes) (w ∷ wide) (suc k) len h = let r = sum_suc sizes wide k (omega arith) (omega arith) in omega arith

pub sum_next : (sizes : List ℕ) (wide : List Bool) (k : ℕ) → length wide ≡ length sizes → k < length sizes
    → sum_before sizes wide (k + 1) ≡ sum_before sizes wide k + (get_or sizes k 0 + bit (get_or wide k false))
sum_next sizes wide k len h = rw add-one (sum_suc sizes wide k len h)

pub sum_grows : (sizes : List ℕ) (wide : List Bool) (a b : ℕ) → a ≤ b → sum_before sizes wide a ≤ sum_before sizes wide
    b
sum_grows sizes wide zero b h = omega arith
sum_grows sizes wide (suc a) zero h = absurd (omega arith)
sum_grows [] wide (suc a) (suc b) h = omega arith
sum_grows (n ∷ sizes) [] (suc a) (suc b) h = omega arith
sum_grows (n ∷ sizes) (w ∷ wide) (suc a) (suc b) h = let r = sum_grows sizes wide a b (omega arith) in omega arith

-- ---- widening

set_count : (wide : List Bool) (k : ℕ) → slice_get wide k ≡ Some false → suc (narrow_count (slice_set wide k true))
    ≡ narrow_count wide
set_count [] k e = cc
set_count (true ∷ wide) zero e = cc
set_count (false ∷ wide) zero e = refl
set_count (true ∷ wide) (suc k) e = set_count wide k e
set_count (false ∷ wide) (suc k) e = let r = set_count wide k e in omega arith

pub lead_at : (count : ℕ) (insns : List NInsn) (k : ℕ) (i : NInsn) → AllLead count insns → slice_get insns k ≡ Some i
    → Leads count i
lead_at count [] k i lead e = cc
lead_at count (j ∷ insns) zero i lead e = let f : j ≡ i = cc in subst (Leads count) f lead.0
lead_at count (j ∷ insns) (suc k) i lead e = lead_at count insns k i lead.1 e

module _ (insns : List NInsn) (wide : List Bool) (places : List ℕ) (count : length wide ≡ length insns)
    (has : HasPlaces insns (bytes_before insns wide) places) (leads : AllLead (length insns) insns) where
  near_same : (k op to : ℕ) → slice_get insns k ≡ Some (narrow.Jump op to)
      → is_near (slice_index places k) (slice_index places to) ≡ is_near (bytes_before insns wide k)
      (bytes_before insns wide to)
  near_same k op to e =
      let inside = get_below insns k (narrow.Jump op to) e in
      let at = has.each k inside in
      let slice_get_at = has.each to (lead_at (length insns) insns k (narrow.Jump op to) leads e) in
      ap (λ a. is_near a (slice_index places to)) at ∙ ap (is_near (bytes_before insns wide k)) slice_get_at

  -- a jump that is too far is wide in every legal choice above
  far_is_wide : (other : List Bool) → IsLegal insns other → IsWithin wide other → (k : ℕ) (i : NInsn)
      → slice_get insns k ≡ Some i → is_far (slice_index places) k i ≡ true → slice_get other k ≡ Some true
  far_is_wide other legal within k (narrow.Jump op to) e far =
      let no = not_true (is_near (slice_index places k) (slice_index places to)) far in
      far_wide insns wide other count legal within k op to e (sym (near_same k op to e) ∙ no)
  far_is_wide other legal within k (narrow.Op op) e far = cc
  far_is_wide other legal within k (narrow.Push op value) e far = cc
  far_is_wide other legal within k (narrow.Local op index) e far = cc
  far_is_wide other legal within k (narrow.Inc op index by) e far = cc
  far_is_wide other legal within k (narrow.Words op m n) e far = cc
  far_is_wide other legal within k (narrow.Switch op default low cases) e far = cc
  far_is_wide other legal within k (narrow.Named op key) e far = cc
  far_is_wide other legal within k (narrow.Interface nargs m) e far = cc
  far_is_wide other legal within k (narrow.NewArray kind) e far = cc
  far_is_wide other legal within k (narrow.TypeTest op kind class) e far = cc

  -- where none is too far the choice is legal
  none_far : ((k : ℕ) (i : NInsn) → slice_get insns k ≡ Some i → slice_get wide k ≡ Some false
      → is_far (slice_index places) k i ≡ false) → IsLegal insns wide
  none_far none = record {
    count = count;
    near = λ k op to e f. sym (near_same k op to e) ∙ not_false (is_near (slice_index places k) (slice_index places to))
        (none k (narrow.Jump op to) e f);
  }

length_set : (wide : List Bool) (k : ℕ) (b : Bool) → length (slice_set wide k b) ≡ length wide
length_set [] k b = refl
length_set (w ∷ wide) zero b = refl
length_set (w ∷ wide) (suc k) b = let r = length_set wide k b in omega arith

module _ (insns : List NInsn) (old wide : List Bool) (places : List ℕ) (changed : Bool) (k : ℕ)
    (inv : Widening insns old wide places changed k) (h : k < length insns) where
  -- one more instruction is seen and left as it is
  more_near : (changed ≡ false → (i : NInsn) → slice_get insns k ≡ Some i → slice_get old k ≡ Some false
      → is_far (slice_index places) k i ≡ false) → Widening insns old wide places changed (k + 1)
  more_near here = record {
    count = inv.count;
    below = inv.below;
    fewer = inv.fewer;
    less = inv.less;
    same = inv.same;
    near = λ c j i lt e f. ⊎_elim
        (λ before. inv.near c j i before e f)
        (λ le. let is : j ≡ k = omega arith in
        subst (λ n. slice_get insns n ≡ Some i → slice_get old n ≡ Some false → is_far (slice_index places) n i ≡ false)
        (sym is) (here c i) e f)
        (cases_lt j k);
  }

  pub leave_wide : get_or wide k false ≡ true → Widening insns old wide places changed (k + 1)
  leave_wide is = more_near (λ c i e f.
      let g : slice_get old k ≡ Some true = ap (λ ws. slice_get ws k) (sym (inv.same c))
      ∙ slice_get-get_or wide k false (let n = inv.count in omega arith) ∙ ap (λ b. Some b) is in
      let clash : Some true ≡ Some false = sym g ∙ f in cc)

  pub leave_near : (i : NInsn) → i ≡ get_or insns k i → is_far (slice_index places) k i ≡ false
      → Widening insns old wide places changed (k + 1)
  leave_near i is near = more_near (λ c j e f.
      let g : Some i ≡ Some j = sym (slice_get_at insns k i h is) ∙ e in
      let same : i ≡ j = cc in
      subst (λ x. is_far (slice_index places) k x ≡ false) same near)

  pub make_wide : length old ≡ length insns → HasPlaces insns (bytes_before insns old) places
      → AllLead (length insns) insns → (i : NInsn) → i ≡ get_or insns k i → get_or wide k false ≡ false
      → is_far (slice_index places) k i ≡ true → Widening insns old (slice_set wide k true) places true (k + 1)
  make_wide count has leads i is narrow far =
      let g : slice_get wide k ≡ Some false = slice_get-get_or wide k false (let n = inv.count in omega arith)
      ∙ ap (λ b. Some b) narrow in
      let n = set_count wide k g in
      record {
        count = length_set wide k true ∙ inv.count;
        below = λ other legal within. within_set wide other k (inv.below other legal within) (far_is_wide insns old
            places count has leads other legal within k i (slice_get_at insns k i h is) far);
        fewer = (let f = inv.fewer in omega arith);
        less = λ e. let f = inv.fewer in omega arith;
        same = λ e. cc;
        near = λ e. cc;
      }

-- where a pass changed nothing the choice is legal
pub still_legal : (insns : List NInsn) (old wide : List Bool) (places : List ℕ) (changed : Bool) (k : ℕ)
    → Widening insns old wide places changed k → length insns ≤ k → length old ≡ length insns
    → HasPlaces insns (bytes_before insns old) places → AllLead (length insns) insns → changed ≡ false → (wide ≡ old)
    × IsLegal insns old
still_legal insns old wide places changed k inv past count has leads e = (
  inv.same e,
  none_far insns old places count has leads (λ j i f g. inv.near e j i (let b = get_below insns j i f
      in omega arith) f g),
)

-- ---- sizes one by one

pub size_small : (insns : List NInsn) (k : ℕ) (i : NInsn) → slice_get insns k ≡ Some i
    → insn_size false i ≤ widest_size insns
size_small [] k i e = cc
size_small (j ∷ insns) zero i e =
    let s : j ≡ i = cc in
    let g = size_grows j false true (λ e. refl) in
    let t : insn_size false j ≡ insn_size false i = ap (insn_size false) s in omega arith
size_small (j ∷ insns) (suc k) i e = let r = size_small insns k i e in omega arith

take_suc : {A B : Type 0} (f : A → B) (xs : List A) (k : ℕ) (x : A) → slice_get xs k ≡ Some x → map f (take (suc k) xs)
    ≡ map f (take k xs) ++ f x ∷ []
take_suc f [] k x e = cc
take_suc f (y ∷ xs) zero x e = let s : y ≡ x = cc in ap (λ z. f z ∷ []) s
take_suc f (y ∷ xs) (suc k) x e = ap (λ zs. f y ∷ zs) (take_suc f xs k x e)

pub take_next : {A B : Type 0} (f : A → B) (xs : List A) (k : ℕ) (x : A) → slice_get xs k ≡ Some x
    → map f (take (k + 1) xs) ≡ map f (take k xs) ++ f x ∷ []
take_next f xs k x e = rw add-one (take_suc f xs k x e)

-- ---- what the passes need of one another

module _ (insns : List NInsn) (sizes : List ℕ) (wide : List Bool) (same : sizes ≡ map (insn_size false) insns)
    (within : IsWithin wide (map is_jump insns)) where
  pub sum_is : (k : ℕ) → sum_before sizes wide k ≡ bytes_before insns wide k
  sum_is k = ap (λ xs. sum_before xs wide k) same ∙ sum_same insns wide within k

  pub count_is : length sizes ≡ length insns
  count_is = ap length same ∙ length-map insns (insn_size false)

  pub sum_short : widest_size insns ≤ 32767 → sum_before sizes wide (length sizes) ≤ 32767
  sum_short short = let s = sum_is (length sizes) in let w = all_wide insns wide (length sizes) in omega arith

  pub sum_end : sum_before sizes wide (length sizes) ≡ code_size insns wide
  sum_end = sum_is (length sizes) ∙ ap (bytes_before insns wide) count_is

  pub has_places : (places : List ℕ) → length places ≡ length sizes → ((k : ℕ) → k < length sizes → slice_index places k
      ≡ sum_before sizes wide k) → HasPlaces insns (bytes_before insns wide) places
  has_places places count each = record {
    count = count ∙ count_is;
    each = λ k h. each k (let n = count_is
        in omega arith) ∙ sum_is k;
  }
