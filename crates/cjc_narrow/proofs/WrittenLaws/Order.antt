-- Places, handlers and sizes over the instructions of a method, one after the other.
use Rattle.std.proofs.Common.{◌≡◌, ℕ, zero, suc, ◌+◌, ◌<◌, ◌≤◌, arith, refl, sym, ap, subst, ◌∙◌, Bool, true, false}
use Rattle.std.proofs.Common.{cond, List, [], ◌∷◌, ◌++◌, length, get_or, drop, append_assoc, append-nil}
use Rattle.std.specs.Prelude.{if◌then◌else◌, map, nat_lt, slice_get, Option, Some, None, ℤ, pos}
use Rattle.std.specs.List.{prefix_len}
use Rattle.std.specs.List.Sorted.{IsNonDecreasingBy}
use Rattle.std.proofs.lemmas.Option.{slice_get-get_or}
use Rattle.std.proofs.lemmas.List.{drop_all}
use Rattle.cjc_types.specs.Bytes.declared.fault.MemberId.{MemberId}
use Rattle.cjc_types.specs.Bytes.Descriptor.{Part}
use Rattle.cjc_types.proofs.BytesGets.{from_index}
use Rattle.cjc_jvm_semantics.specs.LowerScript.Sorts.{sort_of}
use Rattle.cjc_ncode.specs.LowerCardSemantics.Bytecode.Arguments.{width, widths}
use Rattle.cjc_types.specs.ClassFile.declared.tree.Catch.{Catch}
use Rattle.cjc_types.specs.Bytecode.declared.insn.JInsn.{JInsn}
use Rattle.cjc_types.specs.Bytecode.declared.insn.JOp.{JOp}
use Rattle.cjc_types.specs.Bytecode.declared.insn.JOp.TheVariants as jop
use Rattle.cjc_ncode.specs.declared.narrow.NCatch.{NCatch}
use Rattle.cjc_ncode.specs.Written.{Resolution, catch_at, catches_at, low_of, place_in, reached, static_by, table_cases}
use Rattle.cjc_ncode.specs.Written.{Access, accessed, is_load, on_this, widest_sum, written, written_as, written_for}
use Rattle.cjc_ncode.specs.declared.narrow.PairRole.{PairRole}
use Rattle.cjc_ncode.specs.declared.narrow.PairRole.TheVariants.{Alone, Opens, Closes}
use Rattle.cjc_narrow.specs.Pairs.Roles.{AreRoles}
use Rattle.cjc_narrow.specs.Written.Operands.{IsAscending}
use Rattle.cjc_narrow.specs.Written.Rows.{rows_by}
use Rattle.cjc_narrow.specs.Written.Labels.{place_of}
use Rattle.cjc_narrow.specs.Written.Working.Places.{as_named, catch_if, count_as, count_if, starts, widest_if}
use Rattle.cjc_narrow.proofs.WrittenLaws.Cases.{table_length, pair_length}

-- ---- starts

pub starts_next : (row : List ℕ) (before : ℕ) (insns : List JInsn) (flags : List Bool) (roles : List PairRole) (k : ℕ)
    (d : JInsn) (e : Bool) (f : PairRole) (total : List ℕ) → k < length insns → length flags ≡ length insns
    → length roles ≡ length insns
    → row ++ starts before (drop k insns) (drop k flags) (drop k roles) ≡ total
    → (let i = get_or insns k d in (row ++ before ∷ [])
    ++ starts (count_if (get_or flags k e) (get_or roles k f) before i.op) (drop (k + 1) insns) (drop (k + 1) flags)
    (drop (k + 1) roles) ≡ total)
starts_next row before insns flags roles k d e f total lt same alike so_far =
    let i = get_or insns k d in
    let less : k < length flags = omega arith in
    let within : k < length roles = omega arith in
    append_assoc row (before ∷ []) (starts (count_if (get_or flags k e) (get_or roles k f) before i.op)
    (drop (k + 1) insns) (drop (k + 1) flags) (drop (k + 1) roles))
    ∙ ap (λ rs. row ++ starts before (i ∷ drop (k + 1) insns) (get_or flags k e ∷ drop (k + 1) flags) rs)
    (sym (from_index roles k f within))
    ∙ ap (λ fs. row ++ starts before (i ∷ drop (k + 1) insns) fs (drop k roles)) (sym (from_index flags k e less))
    ∙ ap (λ is. row ++ starts before is (drop k flags) (drop k roles)) (sym (from_index insns k d lt))
    ∙ so_far

pub starts_end : (row : List ℕ) (before : ℕ) (insns : List JInsn) (flags : List Bool) (roles : List PairRole) (k : ℕ)
    (total : List ℕ) → length insns ≤ k
    → row ++ starts before (drop k insns) (drop k flags) (drop k roles) ≡ total → row ++ before ∷ [] ≡ total
starts_end row before insns flags roles k total le so_far =
    ap (λ is. row ++ starts before is (drop k flags) (drop k roles)) (sym (drop_all k insns le)) ∙ so_far

pub starts_long : (before : ℕ) (insns : List JInsn) (flags : List Bool) (roles : List PairRole)
    → length flags ≡ length insns → length roles ≡ length insns
    → length (starts before insns flags roles) ≡ length insns + 1
starts_long before [] flags roles same alike = refl
starts_long before (i ∷ insns) [] roles same alike = cc
starts_long before (i ∷ insns) (is ∷ flags) [] same alike = cc
starts_long before (i ∷ insns) (is ∷ flags) (role ∷ roles) same alike =
    let rest : length flags ≡ length insns = omega arith in
    let others : length roles ≡ length insns = omega arith in
    let long = starts_long (count_if is role before i.op) insns flags roles rest others in omega arith

-- ---- widest sizes

widest_first : (i : JInsn) (insns : List JInsn) (is : Bool) (flags : List Bool) (size : ℕ)
    → size + widest_sum (reached (i ∷ insns) (rows_by (is ∷ flags))) ≡ widest_if is size i.op + widest_sum
    (reached insns (rows_by flags))
widest_first i insns true flags size = omega arith
widest_first i insns false flags size = refl

pub widest_next : (size : ℕ) (insns : List JInsn) (flags : List Bool) (k : ℕ) (d : JInsn) (e : Bool) (total : ℕ)
    → k < length insns → length flags ≡ length insns
    → size + widest_sum (reached (drop k insns) (rows_by (drop k flags))) ≡ total
    → (let i = get_or insns k d in widest_if (get_or flags k e) size i.op + widest_sum (reached (drop (k + 1) insns)
    (rows_by (drop (k + 1) flags))) ≡ total)
widest_next size insns flags k d e total lt same so_far =
    let i = get_or insns k d in
    let less : k < length flags = omega arith in
    sym (widest_first i (drop (k + 1) insns) (get_or flags k e) (drop (k + 1) flags) size)
    ∙ ap (λ fs. size + widest_sum (reached (i ∷ drop (k + 1) insns) (rows_by fs))) (sym (from_index flags k e less))
    ∙ ap (λ is. size + widest_sum (reached is (rows_by (drop k flags)))) (sym (from_index insns k d lt))
    ∙ so_far

pub widest_end : (size : ℕ) (insns : List JInsn) (flags : List Bool) (k : ℕ) (total : ℕ) → length insns ≤ k
    → size + widest_sum (reached (drop k insns) (rows_by (drop k flags))) ≡ total → size ≡ total
widest_end size insns flags k total le so_far =
    let none : widest_sum (reached (drop k insns) (rows_by (drop k flags))) ≡ 0 =
    ap (λ is. widest_sum (reached is (rows_by (drop k flags)))) (drop_all k insns le) in
    omega arith

-- ---- handlers

catch_first : (place : ℕ → ℕ) (c : Catch) (catches : List Catch) → catches_at place (c ∷ catches) ≡ catch_if place c
    ++ catches_at place catches
catch_first place c catches = by (nat_lt (place c.start) (place c.end))
  where
    by : (b : Bool) → (if b then catch_at place c ∷ catches_at place catches else catches_at place catches)
        ≡ (if b then catch_at place c ∷ [] else []) ++ catches_at place catches
    by true = refl
    by false = refl

pub catch_next : (place : ℕ → ℕ) (row : List NCatch) (catches : List Catch) (i : ℕ) (d : Catch) (total : List NCatch)
    → i < length catches
    → row ++ catches_at place (drop i catches) ≡ total → (row ++ catch_if place (get_or catches i d))
    ++ catches_at place (drop (i + 1) catches) ≡ total
catch_next place row catches i d total lt so_far =
    let c = get_or catches i d in
    append_assoc row (catch_if place c) (catches_at place (drop (i + 1) catches))
    ∙ ap (λ more. row ++ more) (sym (catch_first place c (drop (i + 1) catches)))
    ∙ ap (λ rest. row ++ catches_at place rest) (sym (from_index catches i d lt))
    ∙ so_far

pub catch_end : (place : ℕ → ℕ) (row : List NCatch) (catches : List Catch) (i : ℕ) (total : List NCatch)
    → length catches ≤ i → row ++ catches_at place (drop i catches) ≡ total → row ≡ total
catch_end place row catches i total le so_far = sym (append-nil row) ∙ ap (λ rest. row ++ catches_at place rest)
    (sym (drop_all i catches le)) ∙ so_far

-- ---- words

pub widths_next : (words more : ℕ) (all rest : List Part) (p : Part) (total : ℕ) → all ≡ p ∷ rest
    → more ≡ width (sort_of p) → words + widths (map sort_of all) ≡ total
    → (words + more) + widths (map sort_of rest) ≡ total
widths_next words more all rest p total is one so_far =
    let first : widths (map sort_of all) ≡ width (sort_of p) + widths (map sort_of rest) =
    ap (λ ps. widths (map sort_of ps)) is in
    omega (arith, first, one, so_far)

pub widths_end : (words : ℕ) (all : List Part) (total : ℕ) → all ≡ [] → words + widths (map sort_of all) ≡ total
    → words ≡ total
widths_end words all total is so_far =
    let none : widths (map sort_of all) ≡ 0 = ap (λ ps. widths (map sort_of ps)) is in
    omega (arith, none, so_far)

-- ---- how many instructions are written, whatever names stand for

static_length : (r q : Resolution) (put : Bool) (f : MemberId) (value other : Option ℤ)
    → length (static_by r put f value) ≡ length (static_by q put f other)
static_length r q put f (Some z) (Some y) = refl
static_length r q put f (Some z) None = refl
static_length r q put f None (Some y) = refl
static_length r q put f None None = refl

pub same_length : (r q : Resolution) (f g : ℕ → ℕ) (op : JOp) → length (written r f op) ≡ length (written q g op)
same_length r q f g jop.Nop = refl
same_length r q f g jop.Null = refl
same_length r q f g (jop.Number z) = refl
same_length r q f g (jop.Load false l) = refl
same_length r q f g (jop.Load true l) = refl
same_length r q f g (jop.Store false l) = refl
same_length r q f g (jop.Store true l) = refl
same_length r q f g (jop.ArrayLoad op) = refl
same_length r q f g (jop.ArrayStore op) = refl
same_length r q f g (jop.Stack op) = refl
same_length r q f g (jop.Arith op) = refl
same_length r q f g (jop.Inc l by) = refl
same_length r q f g (jop.Narrow op) = refl
same_length r q f g (jop.If op target) = refl
same_length r q f g (jop.Goto target) = refl
same_length r q f g (jop.TableSwitch other low targets) =
    table_length 0x73 (f other) (low_of (table_cases f low targets)) f low targets
    ∙ sym (table_length 0x73 (g other) (low_of (table_cases g low targets)) g low targets)
same_length r q f g (jop.LookupSwitch other cases) = pair_length 0x75 (f other) (pos 0) f cases
    ∙ sym (pair_length 0x75 (g other) (pos 0) g cases)
same_length r q f g (jop.Return op) = refl
same_length r q f g (jop.Static put field) = static_length r q put field (r.constant field) (q.constant field)
same_length r q f g (jop.Field put field) = refl
same_length r q f g (jop.Call op m) = refl
same_length r q f g (jop.New class) = refl
same_length r q f g (jop.NewArray kind) = refl
same_length r q f g (jop.ANewArray class) = refl
same_length r q f g jop.ArrayLength = refl
same_length r q f g jop.Throw = refl
same_length r q f g (jop.CheckCast class) = refl
same_length r q f g (jop.InstanceOf class) = refl

-- of any role
pub same_length_as : (r q : Resolution) (f g : ℕ → ℕ) (role : PairRole) (op : JOp) → length (written_as role r f op)
    ≡ length (written_as role q g op)
same_length_as r q f g Alone op = same_length r q f g op
same_length_as r q f g Opens op = by (is_load op)
  where
    by : (b : Bool) → length (if b then [] else written r f op) ≡ length (if b then [] else written q g op)
    by true = refl
    by false = same_length r q f g op
same_length_as r q f g Closes op = by (accessed op)
  where
    by : (found : Option Access) → length (on_this r f op found) ≡ length (on_this q g op found)
    by None = same_length r q f g op
    by (Some a) = refl

-- ---- the place of an offset

-- no instruction stands before the offset
AllBehind : ℕ → List JInsn → Type 0
AllBehind offset insns = (k : ℕ) (x : JInsn) → slice_get insns k ≡ Some x → nat_lt x.at offset ≡ false

none_before : (r : Resolution) (offset : ℕ) (insns : List JInsn) (flags : List Bool) → AllBehind offset insns
    → place_in r (reached insns (rows_by flags)) offset ≡ 0
unfolding AllBehind
none_before r offset [] flags behind = refl
none_before r offset (i ∷ insns) [] behind = refl
none_before r offset (i ∷ insns) (false ∷ flags) behind = none_before r offset insns flags (λ k x e. behind (suc k) x e)
none_before r offset (i ∷ insns) (true ∷ flags) behind =
    ap (λ b. (if b then length (written_for r (λ o. 0) i) else 0) + place_in r (reached insns (rows_by flags)) offset)
    (behind 0 i refl)
    ∙ (let rest = none_before r offset insns flags (λ k x e. behind (suc k) x e)
    in let zero_more : 0 + place_in r (reached insns (rows_by flags)) offset ≡ 0 = omega arith in zero_more)

later : (a b c : ℕ) → nat_lt a c ≡ false → a < b → nat_lt b c ≡ false
later a b c e lt = grind arith

all_behind : (offset : ℕ) (i : JInsn) (insns : List JInsn) → IsAscending (i ∷ insns) → nat_lt i.at offset ≡ false
    → AllBehind offset (i ∷ insns)
unfolding AllBehind
all_behind offset i insns ascending e zero x is = let same : i ≡ x = cc in subst (λ (y : JInsn). nat_lt y.at offset
    ≡ false) same e
all_behind offset i insns ascending e (suc k) x is = later i.at x.at offset e (ascending 0 (suc k) i x refl is
    (omega arith))

pub ascending_rest : (i : JInsn) (insns : List JInsn) → IsAscending (i ∷ insns) → IsAscending insns
ascending_rest i insns ascending j k x y is_x is_y lt = ascending (suc j) (suc k) x y is_x is_y (omega arith)

place_found : (r : Resolution) (offset before : ℕ) (insns : List JInsn) (flags : List Bool) (roles : List PairRole)
    → IsAscending insns → length flags ≡ length insns → length roles ≡ length insns → AreRoles r insns roles
    → get_or (starts before insns flags roles) (prefix_len (λ i. nat_lt i.at offset) insns) 0
    ≡ before + place_in r (reached insns (rows_by flags)) offset
place_found r offset before [] flags roles ascending same alike are = let s : before ≡ before + 0 = omega arith in s
place_found r offset before (i ∷ insns) [] roles ascending same alike are = cc
place_found r offset before (i ∷ insns) (is ∷ flags) [] ascending same alike are = cc
place_found r offset before (i ∷ insns) (is ∷ flags) (role ∷ roles) ascending same alike are =
    by is (nat_lt i.at offset) refl (place_found r offset (count_if is role before i.op) insns flags roles
    (ascending_rest i insns ascending) (let s : length flags ≡ length insns = omega arith in s)
    (let s : length roles ≡ length insns = omega arith in s) (λ k d e lt. are (suc k) d e (omega arith)))
  where
    behind : (flag : Bool) → nat_lt i.at offset ≡ false → place_in r (reached (i ∷ insns) (rows_by (flag ∷ flags)))
        offset ≡ 0
    behind flag e = none_before r offset (i ∷ insns) (flag ∷ flags) (all_behind offset i insns ascending e)

    more : (flag : Bool) → nat_lt i.at offset ≡ true
        → count_if flag role before i.op + place_in r (reached insns (rows_by flags)) offset
        ≡ before + place_in r (reached (i ∷ insns) (rows_by (flag ∷ flags))) offset
    more false e = refl
    more true e =
        let same_count : count_as role i.op ≡ length (written_for r (λ o. 0) i) =
        same_length_as as_named r (λ o. 0) (λ o. 0) role i.op
        ∙ ap (λ x. length (written_as x r (λ o. 0) i.op)) (are 0 i role (omega arith)) in
        let here : (if nat_lt i.at offset then length (written_for r (λ o. 0) i) else 0)
        ≡ length (written_for r (λ o. 0) i) = ap (λ b. if b then length (written_for r (λ o. 0) i) else 0) e in
        omega arith

    by : (flag b : Bool) → nat_lt i.at offset ≡ b → get_or (starts (count_if flag role before i.op) insns flags roles)
        (prefix_len (λ i. nat_lt i.at offset) insns) 0 ≡ count_if flag role before i.op + place_in r
        (reached insns (rows_by flags)) offset
        → get_or (before ∷ starts (count_if flag role before i.op) insns flags roles) (cond (nat_lt i.at offset)
        (1 + prefix_len (λ i. nat_lt i.at offset) insns) 0) 0
        ≡ before + place_in r (reached (i ∷ insns) (rows_by (flag ∷ flags))) offset
    by flag true e rest =
        let n = prefix_len (λ i. nat_lt i.at offset) insns in
        let next : 1 + n ≡ suc n = omega arith in
        ap (λ b. get_or (before ∷ starts (count_if flag role before i.op) insns flags roles) (cond b (1 + n) 0) 0) e
        ∙ ap (λ m. get_or (before ∷ starts (count_if flag role before i.op) insns flags roles) m 0) next
        ∙ rest
        ∙ more flag e
    by flag false e rest =
        let n = prefix_len (λ i. nat_lt i.at offset) insns in
        let s : before ≡ before + 0 = omega arith in
        ap (λ b. get_or (before ∷ starts (count_if flag role before i.op) insns flags roles) (cond b (1 + n) 0) 0) e
        ∙ s
        ∙ ap (λ m. before + m) (sym (behind flag e))

-- Places from the first instruction on are those of the narrow code.
pub places_found : (r : Resolution) (insns : List JInsn) (flags : List Bool) (roles : List PairRole)
    → IsAscending insns → length flags ≡ length insns → length roles ≡ length insns → AreRoles r insns roles
    → place_of (record { insns = insns; starts = starts 0 insns flags roles })
    ≡ place_in r (reached insns (rows_by flags))
places_found r insns flags roles ascending same alike are i offset =
    (place_found r offset 0 insns flags roles ascending same alike are
    ∙ zero_add (place_in r (reached insns (rows_by flags)) offset)) i
  where
    zero_add : (n : ℕ) → 0 + n ≡ n
    zero_add n = omega arith

-- ascending instructions do not fall
pub rising : (insns : List JInsn) → IsAscending insns → IsNonDecreasingBy (λ i. i.at) insns
rising insns ascending j k d le lt = by (nat_lt j k) refl
  where
    at : (i : ℕ) → i < length insns → slice_get insns i ≡ Some (get_or insns i d)
    at i less = slice_get-get_or insns i d less

    by : (b : Bool) → nat_lt j k ≡ b → (get_or insns j d).at ≤ (get_or insns k d).at
    by true e =
        let less : j < k = grind arith in
        let within : j < length insns = omega arith in
        let up = ascending j k (get_or insns j d) (get_or insns k d) (at j within) (at k lt) less in omega arith
    by false e =
        let same : j ≡ k = grind arith in
        let equal : (get_or insns j d).at ≡ (get_or insns k d).at = ap (λ n. (get_or insns n d).at) same in omega arith
