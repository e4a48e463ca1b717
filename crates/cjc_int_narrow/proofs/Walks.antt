-- What is written for instructions one after the other, where it comes from, and where it stands.
use Rattle.std.proofs.Common.{◌≡◌, ℕ, zero, suc, ◌+◌, ◌-◌, ◌<◌, ◌≤◌, arith, refl, sym, ap, subst, ◌∙◌, Bool, true}
use Rattle.std.proofs.Common.{false, cond, List, [], ◌∷◌, ◌++◌, length, get_or, drop, append_assoc, append-nil}
use Rattle.std.proofs.Common.{slice_get}
use Rattle.std.specs.Prelude.{if◌then◌else◌, nat_lt, Option, Some, None}
use Rattle.std.specs.List.{prefix_len}
use Rattle.std.proofs.lemmas.List.{drop_all, length-append}
use Rattle.std.proofs.lemmas.List.Sums.{sum_by-cons}
use Rattle.cjc_ncode.proofs.BytesGets.{from_index}
use Rattle.cjc_int_mode.specs.Bytecode.declared.insn.JInsn.{JInsn}
use Rattle.cjc_int_mode.specs.Bytecode.declared.insn.JOp.{JOp}
use Rattle.cjc_ncode.specs.declared.narrow.NInsn.{NInsn}
use Rattle.cjc_ncode.specs.Written.{Resolution}
use Rattle.cjc_ncode.specs.IntCode.IntCode.{Frame}
use Rattle.cjc_ncode.specs.IntCode.IntCode.{widest}
use Rattle.cjc_ncode.specs.IntCode.IntCode.{Reached, place_from, place_in, prologue, sources, written, written_from}
use Rattle.cjc_int_proof.proofs.Counts.{same_length}
use Rattle.cjc_narrow.specs.Written.Labels.{place_of}
use Rattle.cjc_narrow.specs.Written.Operands.{IsAscending}
use Rattle.cjc_int_narrow.specs.declared.known.Before.{Before}
use Rattle.cjc_int_narrow.specs.Reached.{known, places_by, reached_by}
use Rattle.cjc_int_narrow.specs.Working.Walks.{all_widest, count, count_if, source_if, starts, widest_if, written_if}

-- ---- one instruction

-- how many instructions were put
pub times_of : (f : Frame) (r : Resolution) (p : ℕ → ℕ) (b : Before) (here : ℕ) (op : JOp) (before after : List NInsn)
    → after ≡ before ++ written f r p (known b) here op → length after - length before ≡ count f r b op
times_of f r p b here op before after e =
    let long : length after ≡ length before + length (written f r p (known b) here op) = ap length e
    ∙ length-append before (written f r p (known b) here op) in
    let same = same_length f r p (λ o. 0) (known b) here 0 op in
    omega (arith, long, same)

counted : (f : Frame) (r : Resolution) (p : ℕ → ℕ) (b : Option Before) (here : ℕ) (op : JOp) (out after : List NInsn)
    → after ≡ out ++ written_if b f r p here op → length after ≡ count_if b f r (length out) op
counted f r p None here op out after e = ap length e ∙ ap length (append-nil out)
counted f r p (Some b) here op out after e = ap length e ∙ length-append out (written f r p (known b) here op)
    ∙ ap (λ (n : ℕ). length out + n) (same_length f r p (λ o. 0) (known b) here 0 op)

-- ---- one after the other

-- no instruction stands before the offset
abbrev AllBehind : ℕ → List JInsn → Type 0
AllBehind offset insns = (k : ℕ) (x : JInsn) → slice_get insns k ≡ Some x → nat_lt x.at offset ≡ false

later : (a b c : ℕ) → nat_lt a c ≡ false → a < b → nat_lt b c ≡ false
later a b c e lt = grind arith

all_behind : (offset : ℕ) (i : JInsn) (insns : List JInsn) → IsAscending (i ∷ insns) → nat_lt i.at offset ≡ false
    → AllBehind offset (i ∷ insns)
all_behind offset i insns ascending e zero x is = let same : i ≡ x = cc in subst (λ (y : JInsn). nat_lt y.at offset
    ≡ false) same e
all_behind offset i insns ascending e (suc k) x is = later i.at x.at offset e (ascending 0 (suc k) i x refl is
    (omega arith))

ascending_rest : (i : JInsn) (insns : List JInsn) → IsAscending (i ∷ insns) → IsAscending insns
ascending_rest i insns ascending j k x y is_x is_y lt = ascending (suc j) (suc k) x y is_x is_y (omega (arith, lt))

module _ (f : Frame) (r : Resolution) where
  code_first : (p : ℕ → ℕ) (here : ℕ) (i : JInsn) (rest : List JInsn) (b : Option Before)
      (others : List (Option Before)) → written_from f r p here (reached_by (i ∷ rest) (b ∷ others))
      ≡ written_if b f r p here i.op ++ written_from f r p (here + length (written_if b f r p here i.op))
      (reached_by rest others)
  code_first p here i rest None others =
      let same : here ≡ here + 0 = omega arith in
      ap (λ (n : ℕ). written_from f r p n (reached_by rest others)) same
  code_first p here i rest (Some b) others = refl

  source_first : (k : ℕ) (i : JInsn) (rest : List JInsn) (b : Option Before) (others : List (Option Before))
      → sources f r (reached_by (i ∷ rest) (b ∷ others)) (places_by k (i ∷ rest) (b ∷ others))
      ≡ source_if b f r k i.op ++ sources f r (reached_by rest others) (places_by (k + 1) rest others)
  source_first k i rest None others = refl
  source_first k i rest (Some b) others = refl

  module _ (insns : List JInsn) (befores : List (Option Before)) (k : ℕ) (d : JInsn) (e : Option Before)
      (lt : k < length insns) (each : length befores ≡ length insns) where
    -- the instruction at the place, and what is known before it
    abbrev insn : JInsn
    insn = get_or insns k d

    abbrev known_there : Option Before
    known_there = get_or befores k e

    insns_open : insn ∷ drop (k + 1) insns ≡ drop k insns
    insns_open = sym (from_index insns k d lt)

    befores_open : known_there ∷ drop (k + 1) befores ≡ drop k befores
    befores_open = sym (from_index befores k e (omega (arith, lt, each)))

    pub code_next : (p : ℕ → ℕ) (out after total : List NInsn)
        → after ≡ out ++ written_if known_there f r p (length out) (let i = insn in i.op)
        → out ++ written_from f r p (length out) (reached_by (drop k insns) (drop k befores)) ≡ total
        → after ++ written_from f r p (length after) (reached_by (drop (k + 1) insns) (drop (k + 1) befores)) ≡ total
    code_next p out after total is so_far =
        let new : List NInsn = written_if known_there f r p (length out) (let i = insn in i.op) in
        let rest = reached_by (drop (k + 1) insns) (drop (k + 1) befores) in
        let long : length after ≡ length out + length new = ap length is ∙ length-append out new in
        ap (λ a. a ++ written_from f r p (length after) rest) is
        ∙ append_assoc out new (written_from f r p (length after) rest)
        ∙ ap (λ (n : ℕ). out ++ (new ++ written_from f r p n rest)) long
        ∙ ap (λ more. out ++ more) (sym (code_first p (length out) insn (drop (k + 1) insns) known_there
        (drop (k + 1) befores)))
        ∙ ap (λ (bs : List (Option Before)). out ++ written_from f r p (length out) (reached_by (insn
        ∷ drop (k + 1) insns) bs)) befores_open
        ∙ ap (λ (xs : List JInsn). out ++ written_from f r p (length out) (reached_by xs (drop k befores))) insns_open
        ∙ so_far

    pub sources_next : (from after total : List ℕ) → after ≡ from ++ source_if known_there f r k (let i = insn in i.op)
        → from ++ sources f r (reached_by (drop k insns) (drop k befores)) (places_by k (drop k insns) (drop k befores))
        ≡ total
        → after ++ sources f r (reached_by (drop (k + 1) insns) (drop (k + 1) befores)) (places_by (k + 1)
        (drop (k + 1) insns) (drop (k + 1) befores)) ≡ total
    sources_next from after total is so_far =
        let new : List ℕ = source_if known_there f r k (let i = insn in i.op) in
        let rest = sources f r (reached_by (drop (k + 1) insns) (drop (k + 1) befores)) (places_by (k + 1)
        (drop (k + 1) insns) (drop (k + 1) befores)) in
        ap (λ a. a ++ rest) is
        ∙ append_assoc from new rest
        ∙ ap (λ more. from ++ more) (sym (source_first k insn (drop (k + 1) insns) known_there (drop (k + 1) befores)))
        ∙ ap (λ (bs : List (Option Before)). from ++ sources f r (reached_by (insn ∷ drop (k + 1) insns) bs)
        (places_by k (insn ∷ drop (k + 1) insns) bs)) befores_open
        ∙ ap (λ (xs : List JInsn). from ++ sources f r (reached_by xs (drop k befores)) (places_by k xs
        (drop k befores))) insns_open
        ∙ so_far

    pub starts_next : (p : ℕ → ℕ) (here : ℕ) (row more total : List ℕ) (n : ℕ) (out after : List NInsn) → n ≡ length out
        → after ≡ out ++ written_if known_there f r p here (let i = insn in i.op) → more ≡ row ++ n ∷ []
        → row ++ starts f r (length out) (drop k insns) (drop k befores) ≡ total
        → more ++ starts f r (length after) (drop (k + 1) insns) (drop (k + 1) befores) ≡ total
    starts_next p here row more total n out after is_n is_after is_more so_far =
        let rest : ℕ → List ℕ = λ m. starts f r m (drop (k + 1) insns) (drop (k + 1) befores) in
        ap (λ a. a ++ rest (length after)) (is_more ∙ ap (λ (m : ℕ). row ++ m ∷ []) is_n)
        ∙ append_assoc row (length out ∷ []) (rest (length after))
        ∙ ap (λ (m : ℕ). row ++ length out ∷ rest m) (counted f r p known_there here (let i = insn in i.op) out after
        is_after)
        ∙ ap (λ (bs : List (Option Before)). row ++ starts f r (length out) (insn ∷ drop (k + 1) insns) bs) befores_open
        ∙ ap (λ (xs : List JInsn). row ++ starts f r (length out) xs (drop k befores)) insns_open
        ∙ so_far

  module _ (insns : List JInsn) (befores : List (Option Before)) (k : ℕ) (le : length insns ≤ k) where
    pub code_end : (p : ℕ → ℕ) (out total : List NInsn)
        → out ++ written_from f r p (length out) (reached_by (drop k insns) (drop k befores)) ≡ total → out ≡ total
    code_end p out total so_far =
        sym (append-nil out)
        ∙ ap (λ (xs : List JInsn). out ++ written_from f r p (length out) (reached_by xs (drop k befores)))
        (sym (drop_all k insns le)) ∙ so_far

    pub sources_end : (from total : List ℕ)
        → from ++ sources f r (reached_by (drop k insns) (drop k befores)) (places_by k (drop k insns) (drop k befores))
        ≡ total → from ≡ total
    sources_end from total so_far =
        sym (append-nil from)
        ∙ ap (λ (xs : List JInsn). from ++ sources f r (reached_by xs (drop k befores)) (places_by k xs
        (drop k befores))) (sym (drop_all k insns le)) ∙ so_far

    pub starts_end : (row more total : List ℕ) (n before : ℕ) → n ≡ before → more ≡ row ++ n ∷ []
        → row ++ starts f r before (drop k insns) (drop k befores) ≡ total → more ≡ total
    starts_end row more total n before is_n is_more so_far =
        is_more ∙ ap (λ (m : ℕ). row ++ m ∷ []) is_n
        ∙ ap (λ (xs : List JInsn). row ++ starts f r before xs (drop k befores)) (sym (drop_all k insns le)) ∙ so_far

  pub starts_long : (before : ℕ) (insns : List JInsn) (befores : List (Option Before)) → length befores ≡ length insns
      → length (starts f r before insns befores) ≡ length insns + 1
  starts_long before [] befores same = refl
  starts_long before (i ∷ insns) [] same = absurd (omega (arith, same))
  starts_long before (i ∷ insns) (b ∷ befores) same =
      let rest : length befores ≡ length insns = omega (arith, same) in
      let long = starts_long (count_if b f r before i.op) insns befores rest in omega (arith, long)

  -- ---- the place of an offset

  none_before : (offset : ℕ) (insns : List JInsn) (befores : List (Option Before)) → AllBehind offset insns
      → place_from f r (reached_by insns befores) offset ≡ 0
  none_before offset [] befores behind = refl
  none_before offset (i ∷ insns) [] behind = refl
  none_before offset (i ∷ insns) (None ∷ befores) behind =
      none_before offset insns befores (λ k x e. behind (suc k) x e)
  none_before offset (i ∷ insns) (Some b ∷ befores) behind =
      let rest = none_before offset insns befores (λ k x e. behind (suc k) x e) in
      ap (λ (c : Bool). (if c then count f r b i.op else 0) + place_from f r (reached_by insns befores) offset)
      (behind 0 i refl) ∙ ap (λ (n : ℕ). 0 + n) rest

  place_found : (offset before : ℕ) (insns : List JInsn) (befores : List (Option Before)) → IsAscending insns
      → length befores ≡ length insns
      → get_or (starts f r before insns befores) (prefix_len (λ i. nat_lt i.at offset) insns) 0
      ≡ before + place_from f r (reached_by insns befores) offset
  place_found offset before [] befores ascending same = let s : before ≡ before + 0 = omega arith in s
  place_found offset before (i ∷ insns) [] ascending same = absurd (omega (arith, same))
  place_found offset before (i ∷ insns) (b ∷ befores) ascending same =
      by b (nat_lt i.at offset) refl (place_found offset (count_if b f r before i.op) insns befores
      (ascending_rest i insns ascending) (let s : length befores ≡ length insns = omega (arith, same) in s))
    where
      behind : (c : Option Before) → nat_lt i.at offset ≡ false → place_from f r (reached_by (i ∷ insns) (c ∷ befores))
          offset ≡ 0
      behind c e = none_before offset (i ∷ insns) (c ∷ befores) (all_behind offset i insns ascending e)

      more : (c : Option Before) → nat_lt i.at offset ≡ true
          → count_if c f r before i.op + place_from f r (reached_by insns befores) offset
          ≡ before + place_from f r (reached_by (i ∷ insns) (c ∷ befores)) offset
      more None e = refl
      more (Some c) e =
          let here : (if nat_lt i.at offset then count f r c i.op else 0) ≡ count f r c i.op =
          ap (λ (t : Bool). if t then count f r c i.op else 0) e in
          omega (arith, here)

      by : (c : Option Before) (t : Bool) → nat_lt i.at offset ≡ t
          → get_or (starts f r (count_if c f r before i.op) insns befores)
          (prefix_len (λ i. nat_lt i.at offset) insns) 0 ≡ count_if c f r before i.op + place_from f r
          (reached_by insns befores) offset
          → get_or (before ∷ starts f r (count_if c f r before i.op) insns befores) (cond (nat_lt i.at offset)
          (1 + prefix_len (λ i. nat_lt i.at offset) insns) 0) 0
          ≡ before + place_from f r (reached_by (i ∷ insns) (c ∷ befores)) offset
      by c true e rest =
          let n = prefix_len (λ i. nat_lt i.at offset) insns in
          let next : 1 + n ≡ suc n = omega arith in
          let row = starts f r (count_if c f r before i.op) insns befores in
          ap (λ (t : Bool). get_or (before ∷ row) (cond t (1 + n) 0) 0) e
          ∙ ap (λ (m : ℕ). get_or (before ∷ row) m 0) next
          ∙ rest
          ∙ more c e
      by c false e rest =
          let n = prefix_len (λ i. nat_lt i.at offset) insns in
          let s : before ≡ before + 0 = omega arith in
          let row = starts f r (count_if c f r before i.op) insns befores in
          ap (λ (t : Bool). get_or (before ∷ row) (cond t (1 + n) 0) 0) e
          ∙ s
          ∙ ap (λ (m : ℕ). before + m) (sym (behind c e))

  -- Places behind the prologue are those of the narrow code.
  pub places_found : (insns : List JInsn) (befores : List (Option Before)) → IsAscending insns
      → length befores ≡ length insns
      → place_of (record { insns = insns; starts = starts f r (length (prologue f)) insns befores }) ≡ place_in f r
      (reached_by insns befores)
  places_found insns befores ascending same i offset = place_found offset (length (prologue f)) insns befores ascending
      same i

-- ---- widest sizes

module _ (r : Resolution) where
  widest_first : (i : JInsn) (rest : List JInsn) (b : Option Before) (others : List (Option Before)) (n : ℕ)
      → n + all_widest r (i ∷ rest) (b ∷ others) ≡ widest_if r b n i.op + all_widest r rest others
  widest_first i rest None others n = refl
  widest_first i rest (Some b) others n =
      let first : all_widest r (i ∷ rest) (Some b ∷ others) ≡ widest r i.op + all_widest r rest others =
      sum_by-cons (λ (i : Reached). let j = i.insn in widest r j.op) (record { insn = i; before = known b })
      (reached_by rest others) in
      omega (arith, first)

  pub widest_next : (insns : List JInsn) (befores : List (Option Before)) (k n more total : ℕ) (d : JInsn)
      (e : Option Before) → k < length insns → length befores ≡ length insns
      → more ≡ widest_if r (get_or befores k e) n (let i = get_or insns k d in i.op)
      → n + all_widest r (drop k insns) (drop k befores) ≡ total
      → more + all_widest r (drop (k + 1) insns) (drop (k + 1) befores) ≡ total
  widest_next insns befores k n more total d e lt each is so_far =
      let i = get_or insns k d in
      let b = get_or befores k e in
      let rest = drop (k + 1) insns in
      let others = drop (k + 1) befores in
      let within : k < length befores = omega (arith, lt, each) in
      ap (λ (m : ℕ). m + all_widest r rest others) is
      ∙ sym (widest_first i rest b others n)
      ∙ ap (λ (bs : List (Option Before)). n + all_widest r (i ∷ rest) bs) (sym (from_index befores k e within))
      ∙ ap (λ (xs : List JInsn). n + all_widest r xs (drop k befores)) (sym (from_index insns k d lt))
      ∙ so_far

  pub widest_end : (insns : List JInsn) (befores : List (Option Before)) (k n total : ℕ) → length insns ≤ k
      → n + all_widest r (drop k insns) (drop k befores) ≡ total → n ≡ total
  widest_end insns befores k n total le so_far =
      let same : n ≡ n + 0 = omega arith in
      same ∙ ap (λ (xs : List JInsn). n + all_widest r xs (drop k befores)) (sym (drop_all k insns le)) ∙ so_far
