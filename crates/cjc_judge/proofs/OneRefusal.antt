-- Broken rules that stand at one place have one refusal.
use Rattle.std.proofs.Common.{◌≡◌, ◌⊎◌, inl, inr, ℕ, suc, ◌+◌, ◌≤◌, Bool, List, [], ◌∷◌, length, Some}
use Rattle.std.proofs.Common.{Option, refl, sym, ap, subst, ◌∙◌, arith}
use Rattle.std.specs.Prelude.{slice_get, if◌then◌else◌}
use Rattle.cjc_bytes.specs.declared.fault.Refusal.{Refusal}
use Rattle.cjc_bytes.specs.declared.settings.FileLine.{FileLine}
use Rattle.cjc_bytes.specs.Breaks.{Break}
use Rattle.cjc_bytes.specs.Order.{Rank, numbers, AreUpTo}
use Rattle.cjc_bytes.specs.Refused.{refused_at, refusal}
use Rattle.cjc_bytes.proofs.Laws.{one_value, one_place, spelt_or_broken}
use Rattle.cjc_bytes.proofs.Plain.{no_true}
use Rattle.cjc_bytes.proofs.Lists.{same_rank}
use Rattle.cjc_world.specs.ClassFile.ClassFile.{class_file, refusal_at}
use Rattle.cjc_world.specs.ClassFile.declared.tree.ClassTree.{ClassTree}
use Rattle.cjc_clinit.specs.Bytecode.PackageCodes.{all_codes}
use Rattle.cjc_world.specs.ExportFile.ExportFile.{export_file}
use Rattle.cjc_list.specs.Listed.{ListTree}
use Rattle.cjc_judge.specs.Codes.{all_unsupported_insns}
use Rattle.cjc_judge.specs.Rules.{FileBreach, no_class_file, no_instructions, no_export_file, file_rank, file_refusal}
use Rattle.cjc_judge.specs.Rules.{code_refusal, method_rank, BreaksFile, BreaksWorld, BreaksNames, HasWrongNumbers}
use Rattle.cjc_judge.specs.Rules.{HasWrongTypes}
use Rattle.cjc_judge.specs.Rules.{BreaksGroup, files_spelt, settings_of, has_applets, Breach, of_file, of_world}
use Rattle.cjc_judge.specs.Rules.{of_names, of_group, OnLevels, on_first, on_second, IsFirstRefused, IsFirstBroken}
use Rattle.cjc_judge.specs.Spelt.{FileTree, of_class, of_export, SpellTrees, classes_of, exports_of}
use Rattle.cjc_judge.specs.declared.groups.Group.{Group}
use Rattle.cjc_judge.specs.declared.groups.Group.TheVariants as groups
use Rattle.cjc_judge.proofs.Firsts.{file_family, world_family, names_family, late_family, one_spelling}
use Rattle.cjc_judge.proofs.Places.{IsTold, place_at, class_files, export_files}
use Rattle.cjc_judge.proofs.ToldWorld.{world_told}
use Rattle.cjc_judge.proofs.ToldRules.{image_told, names_told, unsupported_insns_told, checks_told, tokens_told}
use Rattle.cjc_judge.proofs.ToldRules.{method_told}

-- ---- the rules of one file

one_code : (line : FileLine) (t u : ClassTree) (m n o p : ℕ) → t ≡ u → method_rank t m ≡ method_rank u n → o ≡ p
    → code_refusal line t m 103 o ≡ code_refusal line u n 103 p
one_code line t u m n o p same member offset =
    let fields = ap (λ (c : ClassTree). length c.fields) same in
    let method : m ≡ n = omega (arith, member, fields) in
    ap (λ (c : ClassTree). code_refusal line c m 103 o) same ∙ ap (λ (k : ℕ). code_refusal line u k 103 o) method
    ∙ ap (λ (k : ℕ). code_refusal line u n 103 k) offset

one_file : (index : ℕ) (line : FileLine) (bytes : List ℕ) (x y : FileBreach line bytes) → file_rank index line bytes x
    ≡ file_rank index line bytes y → file_refusal line bytes x ≡ file_refusal line bytes y
one_file index line bytes (no_class_file p c h) (no_class_file q d g) e =
    ap (refusal_at line.name bytes) (one_place class_file bytes p q h g)
one_file index line bytes (no_class_file p c h) (no_instructions t m o d s g) e =
    absurd (spelt_or_broken class_file bytes t p s h)
one_file index line bytes (no_class_file p c h) (no_export_file q d g) e = no_true line c d
one_file index line bytes (no_instructions t m o c s h) (no_class_file q d g) e =
    absurd (spelt_or_broken class_file bytes t q s g)
one_file index line bytes (no_instructions t m o c s h) (no_instructions u n p d r g) e =
    one_code line t u m n o p (one_value class_file bytes t u s r) (ap (λ (k : Rank). k.member) e)
    (ap (λ (k : Rank). k.offset) e)
one_file index line bytes (no_instructions t m o c s h) (no_export_file q d g) e = no_true line c d
one_file index line bytes (no_export_file p c h) (no_class_file q d g) e = no_true line d c
one_file index line bytes (no_export_file p c h) (no_instructions u n o d r g) e = no_true line d c
one_file index line bytes (no_export_file p c h) (no_export_file q d g) e =
    ap (refusal line.name 104) (one_place export_file bytes p q h g)

some_is : {A : Type 0} (o : Option A) (x y : A) → o ≡ Some x → o ≡ Some y → x ≡ y
some_is o x y e f = let g = sym e ∙ f in cc

file_number_of : (i : ℕ) (line : FileLine) (bytes : List ℕ) (x : FileBreach line bytes)
    → (file_rank i line bytes x).file ≡ i + 1
file_number_of i line bytes (no_class_file p c h) = refl
file_number_of i line bytes (no_instructions t m o c s h) = refl
file_number_of i line bytes (no_export_file p c h) = refl

two_files : (i j : ℕ) (l m : FileLine) (bs cs : List ℕ) → i ≡ j → l ≡ m → bs ≡ cs
    → (x : FileBreach l bs) (y : FileBreach m cs) → file_rank i l bs x ≡ file_rank j m cs y
    → file_refusal l bs x ≡ file_refusal m cs y
two_files i j l m bs cs numbers lines files x =
    subst (λ (n : ℕ). (y : FileBreach m cs) → file_rank i l bs x ≡ file_rank n m cs y
    → file_refusal l bs x ≡ file_refusal m cs y) numbers
    (subst (λ (k : FileLine). (y : FileBreach k cs) → file_rank i l bs x ≡ file_rank i k cs y
    → file_refusal l bs x ≡ file_refusal k cs y) lines
    (subst (λ (b : List ℕ). (y : FileBreach l b) → file_rank i l bs x ≡ file_rank i l b y
    → file_refusal l bs x ≡ file_refusal l b y) files (λ y. one_file i l bs x y)))

of_files : (lines : List FileLine) (files : List (List ℕ)) (a b : Break) → BreaksFile lines files a
    → BreaksFile lines files b → a.rank ≡ b.rank → a.refusal ≡ b.refusal
of_files lines files a b (i, at, x, is) (j, at', y, is') e =
    let same : file_rank i at.line at.bytes x ≡ file_rank j at'.line at'.bytes y = sym (ap (λ (b : Break). b.rank) is)
    ∙ e ∙ ap (λ (b : Break). b.rank) is' in
    let index : i ≡ j = (let n = sym (file_number_of i at.line at.bytes x) ∙ ap (λ (r : Rank). r.file) same
    ∙ file_number_of j at'.line at'.bytes y in omega (arith, n)) in
    ap (λ (b : Break). b.refusal) is
    ∙ two_files i j at.line at'.line at.bytes at'.bytes index
    (some_is (slice_get lines j) at.line at'.line (sym (ap (slice_get lines) index) ∙ at.is_line) at'.is_line)
    (some_is (slice_get files j) at.bytes at'.bytes (sym (ap (slice_get files) index) ∙ at.is_file) at'.is_file) x y
    same
    ∙ sym (ap (λ (b : Break). b.refusal) is')

-- ---- the rules of what the files spell

-- The files spell these, and what is told of the break stands at its place among them.
abbrev pub IsSpelt : ListTree → List (List ℕ) → Break → Type 0
IsSpelt list files b = (trees : List FileTree) × SpellTrees list.lines files trees
    × IsTold list.name (files_spelt list trees) b

pub class_lines : (lines : List FileLine) (files : List (List ℕ)) (trees : List FileTree) → SpellTrees lines files trees
    → length (classes_of trees) ≡ class_files lines
class_lines [] files trees s = ap (λ (ts : List FileTree). length (classes_of ts)) s.1
class_lines (l ∷ ls) [] trees s = absurd s
class_lines (l ∷ ls) (b ∷ bs) [] s = absurd s
class_lines (l ∷ ls) (b ∷ bs) (of_class t ∷ ts) s =
    ap suc (class_lines ls bs ts s.1) ∙ sym (ap (λ (v : Bool). if v then suc (class_files ls) else class_files ls)
    s.0.0)
class_lines (l ∷ ls) (b ∷ bs) (of_export t ∷ ts) s =
    class_lines ls bs ts s.1 ∙ sym (ap (λ (v : Bool). if v then suc (class_files ls) else class_files ls) s.0.0)

export_lines : (lines : List FileLine) (files : List (List ℕ)) (trees : List FileTree) → SpellTrees lines files trees
    → length (exports_of trees) ≡ export_files lines
export_lines [] files trees s = ap (λ (ts : List FileTree). length (exports_of ts)) s.1
export_lines (l ∷ ls) [] trees s = absurd s
export_lines (l ∷ ls) (b ∷ bs) [] s = absurd s
export_lines (l ∷ ls) (b ∷ bs) (of_class t ∷ ts) s =
    export_lines ls bs ts s.1 ∙ sym (ap (λ (v : Bool). if v then export_files ls else suc (export_files ls)) s.0.0)
export_lines (l ∷ ls) (b ∷ bs) (of_export t ∷ ts) s =
    ap suc (export_lines ls bs ts s.1) ∙ sym (ap (λ (v : Bool). if v then export_files ls else suc (export_files ls))
    s.0.0)

module _ (list : ListTree) (files : List (List ℕ)) where
  world_spelt : (b : Break) → BreaksWorld list files b → IsSpelt list files b
  world_spelt b (trees, spelt, among) = (trees, spelt, (world_told list.name (files_spelt list trees)).holds b among)

  group_spelt : (g : Group) (b : Break) → BreaksGroup list files g b → IsSpelt list files b
  group_spelt groups.Unsupported b (trees, spelt, among) = (
    trees,
    spelt,
    (unsupported_insns_told list.name (files_spelt list trees) (class_lines list.lines files trees spelt)
        (export_lines list.lines files trees spelt) (all_unsupported_insns (classes_of trees))).holds b among,
  )
  group_spelt groups.Language b ((trees, world, among), third) = (
    trees,
    world.0,
    (checks_told list.name (files_spelt list trees) (class_lines list.lines files trees world.0)
        (export_lines list.lines files trees world.0)
        (all_codes (classes_of trees)) (settings_of list)).holds b among,
  )
  group_spelt groups.Initialisers b (trees, world, h) = (
    trees,
    world.0,
    image_told list.name (files_spelt list trees) (class_lines list.lines files trees world.0)
        (export_lines list.lines files trees world.0)
        (all_codes (classes_of trees)) b h,
  )
  group_spelt groups.Limits b (trees, world, among) = (
    trees,
    world.0,
    (checks_told list.name (files_spelt list trees) (class_lines list.lines files trees world.0)
        (export_lines list.lines files trees world.0)
        (all_codes (classes_of trees)) (settings_of list)).holds b among,
  )
  group_spelt groups.Tokens b (trees, world, among) = (
    trees,
    world.0,
    (tokens_told list.name (files_spelt list trees) (class_lines list.lines files trees world.0)
        (export_lines list.lines files trees world.0)
        (has_applets list)).holds b among,
  )
  group_spelt groups.Types b (trees, world, (i, code, at, h)) = (
    trees,
    world.0,
    method_told list.name (files_spelt list trees) (class_lines list.lines files trees world.0)
        (export_lines list.lines files trees world.0)
        HasWrongTypes code b h,
  )
  group_spelt groups.Ranges b (inl (trees, world, (i, code, at, h))) = (
    trees,
    world.0,
    method_told list.name (files_spelt list trees) (class_lines list.lines files trees world.0)
        (export_lines list.lines files trees world.0)
        HasWrongTypes code b h,
  )
  group_spelt groups.Ranges b (inr (trees, world, (i, code, at, h))) = (
    trees,
    world.0,
    method_told list.name (files_spelt list trees) (class_lines list.lines files trees world.0)
        (export_lines list.lines files trees world.0)
        (HasWrongNumbers list.ints) code b h,
  )

  one_told : (a b : Break) → IsSpelt list files a → IsSpelt list files b → a.rank ≡ b.rank → a.refusal ≡ b.refusal
  one_told a b (ts, spelt, told) (us, spelt', told') e =
      let same : us ≡ ts = one_spelling list.lines files us ts spelt' spelt in
      let here : IsTold list.name (files_spelt list ts) b =
      subst (λ (vs : List FileTree). IsTold list.name (files_spelt list vs) b) same told' in
      told ∙ ap (λ (r : Rank). refused_at r.rule (place_at list.name (files_spelt list ts) r)) e ∙ sym here

  -- ---- all rules

  -- by a file of its own, or by what the files spell, in a later hundred
  abbrev FromWhere : Break → Type 0
  FromWhere b = BreaksFile list.lines files b ⊎ ((2 ≤ b.rank.family) × IsSpelt list files b)

  module _ (tested : List Group) where
    from_where : (b : Break) → Breach list files tested b → FromWhere b
    from_where b (of_file h) = inl h
    from_where b (of_world h) = inr ((let two = world_family list files b h in omega (arith, two)), world_spelt b h)
    from_where b (of_names h) = inr ((let two = names_family list files b h in omega (arith, two)), by h)
      where
        by : BreaksNames list files b → IsSpelt list files b
        by (trees, world, among) = (
          trees,
          world.0,
          (names_told list.name (files_spelt list trees) (class_lines list.lines files trees world.0)
              (export_lines list.lines files trees world.0)
              (all_codes (classes_of trees))).holds b among,
        )
    from_where b (of_group (i, g, at, h)) = inr (
      (let three = late_family list files g b h in omega (arith, three)),
      group_spelt g b h,
    )

    both : (a b : Break) → FromWhere a → FromWhere b → a.rank ≡ b.rank → a.refusal ≡ b.refusal
    both a b (inl x) (inl y) e = of_files list.lines files a b x y e
    both a b (inl x) (inr y) e =
        absurd (let one = file_family list.lines files a x in let same = ap (λ (r : Rank). r.family) e in let late = y.0
        in omega (arith, one, same, late))
    both a b (inr x) (inl y) e =
        absurd (let one = file_family list.lines files b y in let same = ap (λ (r : Rank). r.family) e in let late = x.0
        in omega (arith, one, same, late))
    both a b (inr x) (inr y) e = one_told a b x.1 y.1 e

    -- breaks of one rank have one refusal
    pub one_refusal : (a b : Break) → Breach list files tested a → Breach list files tested b → a.rank ≡ b.rank
        → a.refusal ≡ b.refusal
    one_refusal a b x y e = both a b (from_where a x) (from_where b y) e

-- ---- the first broken rule

up_to_both : (xs ys : List ℕ) → AreUpTo xs ys → AreUpTo ys xs → xs ≡ ys
up_to_both [] [] p q = refl
up_to_both [] (y ∷ ys) p q = absurd q
up_to_both (x ∷ xs) [] p q = absurd p
up_to_both (x ∷ xs) (y ∷ ys) (inl l) (inl m) = absurd (omega (arith, l, m))
up_to_both (x ∷ xs) (y ∷ ys) (inl l) (inr m) = absurd (let e = m.0 in omega (arith, l, e))
up_to_both (x ∷ xs) (y ∷ ys) (inr l) (inl m) = absurd (let e = l.0 in omega (arith, m, e))
up_to_both (x ∷ xs) (y ∷ ys) (inr l) (inr m) = let first = l.0 in let rest = up_to_both xs ys l.1 m.1 in cc

rank_of : List ℕ → Rank → Rank
rank_of (f ∷ n ∷ c ∷ m ∷ o ∷ r ∷ []) k = record { family = f; file = n; class = c; member = m; offset = o; rule = r }
rank_of ns k = k

-- the first of some breaks has one refusal, where those of one rank have one
pub one_first_of : {Breaks : Break → Type 0} → ((a b : Break) → Breaks a → Breaks b → a.rank ≡ b.rank
    → a.refusal ≡ b.refusal) → (r s : Refusal) → IsFirstRefused Breaks r → IsFirstRefused Breaks s → r ≡ s
one_first_of once r s f g =
    f.is
    ∙ once f.broken g.broken f.first.breaks g.first.breaks
    (same_rank f.broken.rank g.broken.rank (f.first.least g.broken g.first.breaks) (g.first.least f.broken
    f.first.breaks))
    ∙ sym g.is

-- the first broken rule is one
pub one_first : (list : ListTree) (files : List (List ℕ)) (tested : List Group) (r s : Refusal)
    → IsFirstBroken list files tested r → IsFirstBroken list files tested s → r ≡ s
one_first list files tested = one_first_of (one_refusal list files tested)

-- a second level, too, has one refusal at one rank
pub one_on_levels : {First Second : Break → Type 0} → ((a b : Break) → First a → First b → a.rank ≡ b.rank
    → a.refusal ≡ b.refusal) → ((a b : Break) → Second a → Second b → a.rank ≡ b.rank → a.refusal ≡ b.refusal)
    → (a b : Break) → OnLevels First Second a → OnLevels First Second b → a.rank ≡ b.rank → a.refusal ≡ b.refusal
one_on_levels first second a b (on_first x) (on_first y) e = first a b x y e
one_on_levels first second a b (on_first x) (on_second none y) e = absurd (none a x)
one_on_levels first second a b (on_second none x) (on_first y) e = absurd (none b y)
one_on_levels first second a b (on_second none x) (on_second _ y) e = second a b x y e
