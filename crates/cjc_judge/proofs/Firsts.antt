-- The first broken rule of some groups, by the first of each.
use Rattle.std.proofs.Common.{◌≡◌, ℕ, ◌+◌, ◌<◌, ◌≤◌, ◌⊎◌, inl, inr, Bool, true, false, List, [], ◌∷◌, ◌++◌, length}
use Rattle.std.proofs.Common.{Option, Some, None, refl, sym, ap, subst, ◌∙◌, arith}
use Rattle.std.specs.Prelude.{map, slice_get, ◌/◌, if◌then◌else◌}
use Rattle.cjc_bytes.specs.declared.order.FileKey.{FileKey}
use Rattle.cjc_bytes.specs.declared.order.FileKey.TheVariants as keys
use Rattle.cjc_bytes.specs.Order.{FilePlace, NotAfter}
use Rattle.cjc_bytes.specs.declared.fault.Refusal.{Refusal}
use Rattle.cjc_bytes.specs.declared.settings.FileLine.{FileLine}
use Rattle.std.proofs.lemmas.Option.{slice_get_within}
use Rattle.cjc_bytes.proofs.Laws.{one_value}
use Rattle.cjc_world.specs.ClassFile.ClassFile.{class_file}
use Rattle.cjc_world.specs.ClassFile.declared.tree.ClassTree.{ClassTree}
use Rattle.cjc_world.specs.ExportFile.ExportFile.{export_file}
use Rattle.cjc_world.specs.ExportFile.declared.tree.ExportTree.{ExportTree}
use Rattle.cjc_list.specs.Listed.{ListTree}
use Rattle.cjc_world.specs.Classes.{Class, Member, declared, numbered, size, all_classes}
use Rattle.cjc_world.specs.Files.{Files}
use Rattle.cjc_world.specs.Rules.{at_class, at_member, told, when, class_rules, member_rules, members, members_before}
use Rattle.cjc_world.specs.Rules.{members_from, class_breaks, classes_breaks, class_file_breaks, export_file_breaks}
use Rattle.cjc_world.specs.Rules.{breaks_from, breaks}
use Rattle.cjc_bytes.specs.Breaks.{Break, Among, IsFirst, RulePlace, broken_at, list_spot}
use Rattle.cjc_bytes.proofs.BrokenRules.{no_among}
use Rattle.cjc_bytes.proofs.Plain.{no_true}
use Rattle.cjc_judge.specs.Spelt.{FileTree, of_class, of_export, SpellsTree, SpellTrees, classes_of}
use Rattle.cjc_clinit.specs.Rules.{BreaksImage, of_class, of_code}
use Rattle.cjc_judge.specs.Rules.{FileBreach, no_class_file, no_instructions, no_export_file, file_rank, BreaksFile}
use Rattle.cjc_judge.specs.Rules.{files_spelt, AreWorld, BreaksWorld, BreaksNames, BreaksUnsupported, BreaksSubset}
use Rattle.cjc_judge.specs.Rules.{BreaksAnyType, BreaksTypes, BreaksAnyRange, BreaksRanges, BreaksTokens}
use Rattle.cjc_judge.specs.Rules.{BreaksInitialisers, BreaksGroup, AnyBreaks, unsupported_breaks, settings_of, Breach}
use Rattle.cjc_judge.specs.Rules.{of_file, of_world, of_names, of_group, OnLevels, on_first, on_second, has_applets}
use Rattle.cjc_judge.specs.Rules.{IsFirstRefused, IsFirstBroken}
use Rattle.cjc_judge.specs.declared.groups.Group.{Group}
use Rattle.cjc_judge.specs.declared.groups.Group.TheVariants as groups
use Rattle.cjc_judge.specs.Working.Groups.{WorldBreaks}
use Rattle.cjc_judge.specs.Trees.{FileIs, AllSpelt}
use Rattle.cjc_clinit.specs.Subset.Names.{name_breaks}
use Rattle.cjc_clinit.specs.Bytecode.PackageCodes.{all_codes}
use Rattle.cjc_judge.specs.Codes.{all_unsupported_insns}
use Rattle.cjc_clinit.specs.Subset.Checks.{check_breaks}
use Rattle.cjc_clinit.specs.Subset.Places.{at_class as at_spot}
use Rattle.cjc_vtable.specs.LowerTokens.Rules.{tested_breaks}
use Rattle.cjc_vtable.specs.LowerTokens.Rules as tokens
use Rattle.cjc_judge.proofs.Each.{Each, each_none, each_more, each_append}
use Rattle.cjc_judge.proofs.Families.{IsSecond, IsLanguage, names_second, unsupported_insns_third, checks_language}
use Rattle.cjc_judge.proofs.Families.{tokens_fourth, type_fifth, range_sixth}
use Rattle.cjc_judge.proofs.Files.{files_fine}

-- ---- two groups

-- What is broken is of one of two groups.
abbrev pub Either : (Break → Type 0) → (Break → Type 0) → Break → Type 0
Either G H b = G b ⊎ H b

-- A first of a group that stands before all of another is the first of both.
pub first_before : {G H : Break → Type 0} {r : Refusal} (f : IsFirstRefused G r)
    → ((a : Break) → H a → NotAfter f.broken.rank a.rank) → IsFirstRefused (Either G H) r
first_before {G} {H} f behind = record {
  broken = f.broken;
  first = record {
    breaks = inl f.first.breaks;
    least = least;
  };
  is = f.is;
}
  where
    least : (a : Break) → Either G H a → NotAfter f.broken.rank a.rank
    least a (inl g) = f.first.least a g
    least a (inr h) = behind a h

-- A first of a group is the first of it and of one that breaks nothing.
pub first_after : {G H : Break → Type 0} {r : Refusal} → ((a : Break) → G a → ⊥) → IsFirstRefused H r
    → IsFirstRefused (Either G H) r
first_after {G} {H} none f = record {
  broken = f.broken;
  first = record { breaks = inr f.first.breaks; least = least };
  is = f.is;
}
  where
    least : (a : Break) → Either G H a → NotAfter f.broken.rank a.rank
    least a (inl g) = absurd (none a g)
    least a (inr h) = f.first.least a h

-- ---- the groups, and the hundreds of their rules

-- the groups that a command names
abbrev pub Behind : ListTree → List (List ℕ) → List Group → Break → Type 0
Behind list files tested = AnyBreaks (BreaksGroup list files) tested

-- where a broken rule is from: the first ones first
abbrev pub Groups : ListTree → List (List ℕ) → List Group → Break → Type 0
Groups list files tested = Either (BreaksFile list.lines files) (Either (BreaksWorld list files)
    (Either (BreaksNames list files) (Behind list files tested)))

group_of : (list : ListTree) (files : List (List ℕ)) (tested : List Group) (b : Break) → Breach list files tested b
    → Groups list files tested b
group_of list files tested b (of_file h) = inl h
group_of list files tested b (of_world h) = inr (inl h)
group_of list files tested b (of_names h) = inr (inr (inl h))
group_of list files tested b (of_group h) = inr (inr (inr h))

of_groups : (list : ListTree) (files : List (List ℕ)) (tested : List Group) (b : Break) → Groups list files tested b
    → Breach list files tested b
of_groups list files tested b (inl h) = of_file h
of_groups list files tested b (inr (inl h)) = of_world h
of_groups list files tested b (inr (inr (inl h))) = of_names h
of_groups list files tested b (inr (inr (inr h))) = of_group h

first_broken : (list : ListTree) (files : List (List ℕ)) (tested : List Group) (r : Refusal)
    → IsFirstRefused (Groups list files tested) r → IsFirstBroken list files tested r
first_broken list files tested r f = record {
  broken = f.broken;
  first = record {
    breaks = of_groups list files tested f.broken f.first.breaks;
    least = λ a h. f.first.least a (group_of list files tested a h);
  };
  is = f.is;
}

pub file_family : (lines : List FileLine) (files : List (List ℕ)) (b : Break) → BreaksFile lines files b
    → b.rank.family ≡ 1
file_family lines files b (i, at, breach, is) = ap (λ (x : Break). x.rank.family) is ∙ by i at.line at.bytes breach
  where
    by : (i : ℕ) (line : FileLine) (bytes : List ℕ) (x : FileBreach line bytes) → (file_rank i line bytes x).family ≡ 1
    by i line bytes (no_class_file p c h) = refl
    by i line bytes (no_instructions t m o c s h) = refl
    by i line bytes (no_export_file p c h) = refl

-- rules of the second hundred
AreSecond : List ℕ → Type 0
AreSecond [] = Unit {0}
AreSecond (rule ∷ rules) = (rule / 100 ≡ 2) × AreSecond rules

are_when : (b : Bool) (rule : ℕ) → rule / 100 ≡ 2 → AreSecond (when b rule)
unfolding AreSecond
are_when true rule e = (e, tt)
are_when false rule e = tt

are_append : (xs ys : List ℕ) → AreSecond xs → AreSecond ys → AreSecond (xs ++ ys)
unfolding AreSecond
are_append [] ys p q = q
are_append (x ∷ xs) ys p q = (p.0, are_append xs ys p.1 q)

class_rules_second : (owner : List ℕ) (w : List Class) (c : Class) → AreSecond (class_rules owner w c)
unfolding class_rules
class_rules_second owner w c =
    are_append _ _ (are_append _ _ (are_append _ _ (are_append _ _ (are_when _ 201 refl) (are_when _ 202 refl))
    (are_when _ 203 refl)) (are_when _ 204 refl)) (are_when _ 208 refl)

member_rules_second : (w : List Class) (c : Class) (ms : List Member) (i : ℕ) (name desc : List ℕ)
    → AreSecond (member_rules w c ms i name desc)
unfolding member_rules
member_rules_second w c ms i name desc = are_append _ _ (are_when _ 202 refl) (are_when _ 203 refl)

second_map : (at : ℕ → Break) (rules : List ℕ) → ((rule : ℕ) → (at rule).rank.family ≡ rule / 100) → AreSecond rules
    → Each IsSecond (map at rules)
unfolding AreSecond
second_map at [] is two = each_none IsSecond
second_map at (rule ∷ rules) is two = each_more IsSecond (at rule) (map at rules) (is rule
    ∙ two.0) (second_map at rules is two.1)

members_second : (file : FileKey) (name : List ℕ) (k : ℕ) (w : List Class) (c : Class) (field : Bool) (i : ℕ)
    (ms : List Member) → Each IsSecond (members_from file name k w c field i ms)
unfolding members_from
members_second file name k w c field i [] = each_none IsSecond
members_second file name k w c field i (m ∷ ms) =
    each_append IsSecond _ _ (second_map (λ rule. at_member file name k c.name (members_before field c + i + 1)
    (told field m.name m.desc) rule) _ (λ rule. refl) (member_rules_second w c (members field c) i m.name m.desc))
    (members_second file name k w c field (i + 1) ms)

class_second : (owner : List ℕ) (file : FileKey) (name : List ℕ) (k : ℕ) (w : List Class) (c : Class)
    → Each IsSecond (class_breaks owner file name k w c)
unfolding class_breaks
class_second owner file name k w c =
    each_append IsSecond _ _ (each_append IsSecond _ _ (second_map (λ rule. at_class file name k c.name rule) _
    (λ rule. refl) (class_rules_second owner w c)) (members_second file name k w c true 0 c.fields))
    (members_second file name k w c false 0 c.methods)

classes_second : (owner : List ℕ) (file : FileKey) (name : List ℕ) (k : ℕ) (w cs : List Class)
    → Each IsSecond (classes_breaks owner file name k w cs)
unfolding classes_breaks
classes_second owner file name k w [] = each_none IsSecond
classes_second owner file name k w (c ∷ cs) = each_append IsSecond _ _ (class_second owner file name k w c)
    (classes_second owner file name (k + 1) w cs)

class_file_second : (files : Files) (file : FileKey) (name : List ℕ) (w : List Class) (number : ℕ)
    (o : Option ClassTree) → Each IsSecond (class_file_breaks files file name w number o)
class_file_second files file name w number None = each_none IsSecond
class_file_second files file name w number (Some c) = class_second files.package_name file name 1 w (declared number c)

export_file_second : (files : Files) (file : FileKey) (name : List ℕ) (w : List Class) (e number : ℕ)
    (o : Option ExportTree) → Each IsSecond (export_file_breaks files file name w e number o)
export_file_second files file name w e number None = each_none IsSecond
export_file_second files file name w e number (Some t) =
    each_append IsSecond _ _ (second_map (λ rule. at_class file name 0 [] rule) _ (λ rule. refl) (are_when _ 202 refl))
    (classes_second files.package_name file name 1 w (numbered number t.classes))

lines_second : (files : Files) (w : List Class) (k c e i : ℕ) (lines : List FileLine)
    → Each IsSecond (breaks_from files w k c e i lines)
unfolding breaks_from
lines_second files w k c e i [] = each_none IsSecond
lines_second files w k c e i (line ∷ lines) = by line.class_file (λ c e i. lines_second files w (k + 1) c e i lines)
  where
    by : (b : Bool) → ((c e i : ℕ) → Each IsSecond (breaks_from files w (k + 1) c e i lines))
        → Each IsSecond (if b
        then class_file_breaks files (keys.Line k) line.name w c (slice_get files.classes c)
        ++ breaks_from files w (k + 1) (c + 1) e i lines
        else export_file_breaks files (keys.Line k) line.name w e i (slice_get files.exports e)
        ++ breaks_from files w (k + 1) c (e + 1) (i + size (slice_get files.exports e)) lines)
    by true more = each_append IsSecond _ _ (class_file_second files (keys.Line k) line.name w c
        (slice_get files.classes c)) (more (c + 1) e i)
    by false more = each_append IsSecond _ _ (export_file_second files (keys.Line k) line.name w e i
        (slice_get files.exports e)) (more c (e + 1) (i + size (slice_get files.exports e)))

breaks_second : (list : List ℕ) (files : Files) → Each IsSecond (breaks list files)
unfolding breaks
breaks_second list files = each_append IsSecond _ _ (second_map (λ rule. broken_at (list_spot list) rule) _
    (λ rule. refl) (are_when _ 207 refl)) (lines_second files (all_classes files) 0 0 0 0 files.lines)

pub world_family : (list : ListTree) (files : List (List ℕ)) (b : Break) → BreaksWorld list files b → b.rank.family ≡ 2
world_family list files b (trees, spelt, among) = (breaks_second list.name (files_spelt list trees)).holds b among

pub names_family : (list : ListTree) (files : List (List ℕ)) (b : Break) → BreaksNames list files b → b.rank.family ≡ 2
names_family list files b (trees, world, among) =
    (names_second (files_spelt list trees) (all_codes (classes_of trees))).holds b among

unsupported_family : (list : ListTree) (files : List (List ℕ)) (b : Break) → BreaksUnsupported list files b
    → b.rank.family ≡ 3
unsupported_family list files b (trees, spelt, among) =
    (unsupported_insns_third (files_spelt list trees) (all_unsupported_insns (classes_of trees))).holds b among

subset_family : (list : ListTree) (files : List (List ℕ)) (b : Break) → BreaksSubset list files b → IsLanguage b
subset_family list files b (trees, world, among) =
    (checks_language list.name (files_spelt list trees) (all_codes (classes_of trees)) (settings_of list)).holds b among

tokens_family : (list : ListTree) (files : List (List ℕ)) (b : Break) → BreaksTokens list files b → b.rank.family ≡ 4
tokens_family list files b (trees, world, among) = (tokens_fourth (has_applets list) (files_spelt list trees)).holds b
    among

types_family : (list : ListTree) (files : List (List ℕ)) (b : Break) → BreaksTypes list files b → b.rank.family ≡ 5
types_family list files b (trees, world, (i, code, at, h)) = type_fifth (files_spelt list trees) code b h

ranges_family : (list : ListTree) (files : List (List ℕ)) (b : Break) → BreaksRanges list files b → b.rank.family ≡ 6
ranges_family list files b (trees, world, (i, code, at, h)) = range_sixth list.ints (files_spelt list trees) code b h

initialisers_family : (list : ListTree) (files : List (List ℕ)) (b : Break) → BreaksInitialisers list files b
    → b.rank.family ≡ 3
initialisers_family list files b (trees, world, of_class n c is h) = ap (λ (b : Break). b.rank.family) h.is
initialisers_family list files b (trees, world, of_code i code at h) = ap (λ (b : Break). b.rank.family) h.is

-- the groups behind names are of the third hundred or a later one: one line a group
pub late_family : (list : ListTree) (files : List (List ℕ)) (g : Group) (b : Break) → BreaksGroup list files g b
    → 3 ≤ b.rank.family
late_family list files groups.Unsupported b h = let three = unsupported_family list files b h in omega (arith, three)
late_family list files groups.Language b h = (subset_family list files b h.0).0
late_family list files groups.Initialisers b h = let three = initialisers_family list files b h in omega (arith, three)
late_family list files groups.Limits b h = (subset_family list files b h).0
late_family list files groups.Tokens b h = let four = tokens_family list files b h in omega (arith, four)
late_family list files groups.Types b h = let five = types_family list files b h in omega (arith, five)
late_family list files groups.Ranges b (inl h) = let five = types_family list files b h in omega (arith, five)
late_family list files groups.Ranges b (inr h) = let six = ranges_family list files b h in omega (arith, six)

behind_family : (list : ListTree) (files : List (List ℕ)) (tested : List Group) (b : Break) → Behind list files tested b
    → 3 ≤ b.rank.family
behind_family list files tested b (i, g, at, h) = late_family list files g b h

-- ---- what the files spell

one_tree : (line : FileLine) (bytes : List ℕ) (t u : FileTree) → SpellsTree line bytes t → SpellsTree line bytes u
    → t ≡ u
one_tree line bytes (of_class t) (of_class u) p q = ap of_class (one_value class_file bytes t u p.1 q.1)
one_tree line bytes (of_class t) (of_export u) p q = no_true line p.0 q.0
one_tree line bytes (of_export t) (of_class u) p q = no_true line q.0 p.0
one_tree line bytes (of_export t) (of_export u) p q = ap of_export (one_value export_file bytes t u p.1 q.1)

-- files spell one list of trees at most
pub one_spelling : (lines : List FileLine) (files : List (List ℕ)) (ts us : List FileTree) → SpellTrees lines files ts
    → SpellTrees lines files us → ts ≡ us
one_spelling [] files ts us p q = p.1 ∙ sym q.1
one_spelling (l ∷ ls) [] ts us p q = absurd p
one_spelling (l ∷ ls) (b ∷ bs) [] us p q = absurd p
one_spelling (l ∷ ls) (b ∷ bs) (t ∷ ts) [] p q = absurd q
one_spelling (l ∷ ls) (b ∷ bs) (t ∷ ts) (u ∷ us) p q =
    let first = one_tree l b t u p.0 q.0 in
    let rest = one_spelling ls bs ts us p.1 q.1 in
    cc

pub spells : (line : FileLine) (bytes : List ℕ) (t : FileTree) → FileIs line bytes t → SpellsTree line bytes t
spells line bytes (of_class t) p = (p.0, p.1)
spells line bytes (of_export t) p = (p.0, p.1)

pub all_spell : (lines : List FileLine) (files : List (List ℕ)) (ts : List FileTree) → AllSpelt lines files ts
    → SpellTrees lines files ts
all_spell [] files ts p = p
all_spell (l ∷ ls) [] ts p = absurd p
all_spell (l ∷ ls) (b ∷ bs) [] p = absurd p
all_spell (l ∷ ls) (b ∷ bs) (t ∷ ts) p = (spells l b t p.0, all_spell ls bs ts p.1)

-- ---- the first of all, by the first of each

lower_family : (a b : Break) → a.rank.family < b.rank.family → NotAfter a.rank b.rank
lower_family a b lt = inl lt

-- a rule of the first hundred
pub file_stops : (list : ListTree) (files : List (List ℕ)) (tested : List Group) (r : Refusal)
    → IsFirstRefused (BreaksFile list.lines files) r → IsFirstBroken list files tested r
file_stops list files tested r f = first_broken list files tested r (first_before f behind)
  where
    one : f.broken.rank.family ≡ 1
    one = file_family list.lines files f.broken f.first.breaks

    behind : (a : Break) → Either (BreaksWorld list files) (Either (BreaksNames list files) (Behind list files tested))
        a → NotAfter f.broken.rank a.rank
    behind a (inl h) = lower_family f.broken a (let two = world_family list files a h in omega (arith, one, two))
    behind a (inr (inl h)) = lower_family f.broken a (let two = names_family list files a h in omega (arith, one, two))
    behind a (inr (inr h)) = lower_family f.broken a (let three = behind_family list files tested a h
        in omega (arith, one, three))

module _ (list : ListTree) (files : List (List ℕ)) (tested : List Group) (trees : List FileTree)
    (all : AllSpelt list.lines files trees) where
  spelt_once : (us : List FileTree) → SpellTrees list.lines files us → us ≡ trees
  spelt_once us p = one_spelling list.lines files us trees p (all_spell list.lines files trees all)

  -- a rule of the world, where no file breaks a rule by itself
  pub world_stops : (b : Break) → IsFirst b (breaks list.name (files_spelt list trees))
      → IsFirstBroken list files tested b.refusal
  world_stops b f = first_broken list files tested b.refusal (first_after (files_fine list.lines files trees all)
      (first_before world behind))
    where
      least : (a : Break) → BreaksWorld list files a → NotAfter b.rank a.rank
      least a (us, spelt, among) =
          f.least a (subst (λ (ts : List FileTree). Among a (breaks list.name (files_spelt list ts)))
          (spelt_once us spelt) among)

      world : IsFirstRefused (BreaksWorld list files) b.refusal
      world = record {
        broken = b;
        first = record {
          breaks = (trees, all_spell list.lines files trees all, f.among);
          least = least;
        };
        is = refl;
      }

      -- names are asked of a world alone
      no_world : (us : List FileTree) → SpellTrees list.lines files us → breaks list.name (files_spelt list us) ≡ [] → ⊥
      no_world us spelt none =
          no_among b (subst (Among b) (sym (ap (λ (ts : List FileTree). breaks list.name (files_spelt list ts))
          (spelt_once us spelt)) ∙ none) f.among)

      behind : (a : Break) → Either (BreaksNames list files) (Behind list files tested) a → NotAfter b.rank a.rank
      behind a (inl (us, world, among)) = absurd (no_world us world.0 world.1)
      behind a (inr h) = lower_family b a (let two = (breaks_second list.name (files_spelt list trees)).holds b f.among
          in let three = behind_family list files tested a h in omega (arith, two, three))

  module _ (unbroken : breaks list.name (files_spelt list trees) ≡ []) where
    world_fine : (a : Break) → BreaksWorld list files a → ⊥
    world_fine a (us, spelt, among) =
        no_among a (subst (Among a) (ap (λ (ts : List FileTree). breaks list.name (files_spelt list ts))
        (spelt_once us spelt) ∙ unbroken) among)

    abbrev names : List Break
    names = name_breaks (files_spelt list trees) (all_codes (classes_of trees))

    of_names_here : (a : Break) → BreaksNames list files a → Among a names
    of_names_here a (us, world, among) =
        subst (λ (ts : List FileTree). Among a (name_breaks (files_spelt list ts) (all_codes (classes_of ts))))
        (spelt_once us world.0) among

    -- a rule of names, where the classes are a world
    pub names_stop : (b : Break) → IsFirst b names → IsFirstBroken list files tested b.refusal
    names_stop b f = first_broken list files tested b.refusal (first_after (files_fine list.lines files trees all)
        (first_after world_fine (first_before first behind)))
      where
        first : IsFirstRefused (BreaksNames list files) b.refusal
        first = record {
          broken = b;
          first = record {
            breaks = (trees, (all_spell list.lines files trees all, unbroken), f.among);
            least = λ a h. f.least a (of_names_here a h);
          };
          is = refl;
        }

        behind : (a : Break) → Behind list files tested a → NotAfter b.rank a.rank
        behind a h = lower_family b a (let two = (names_second (files_spelt list trees)
            (all_codes (classes_of trees))).holds b f.among in let three = behind_family list files tested a h
            in omega (arith, two, three))

    module _ (named : names ≡ []) where
      names_fine : (a : Break) → BreaksNames list files a → ⊥
      names_fine a h = no_among a (subst (Among a) named (of_names_here a h))

      abbrev Here : Group → Break → Type 0
      Here = WorldBreaks list (files_spelt list trees) (all_codes (classes_of trees)) (all_unsupported_insns
          (classes_of trees))

      of_checks : (a : Break) → BreaksSubset list files a
          → Among a (check_breaks list.name (files_spelt list trees) (all_codes (classes_of trees)) (settings_of list))
      of_checks a (us, world, among) =
          subst (λ (ts : List FileTree). Among a (check_breaks list.name (files_spelt list ts)
          (all_codes (classes_of ts)) (settings_of list))) (spelt_once us world.0) among

      of_types : (a : Break) → BreaksTypes list files a
          → BreaksAnyType (files_spelt list trees) (all_codes (classes_of trees)) a
      of_types a (us, world, h) = subst (λ (ts : List FileTree). BreaksAnyType (files_spelt list ts)
          (all_codes (classes_of ts)) a) (spelt_once us world.0) h

      are_world : AreWorld list files trees
      are_world = (all_spell list.lines files trees all, unbroken)

      -- what the files break of a group is what their world breaks of it: one line a group, both ways
      to_world : (g : Group) (a : Break) → BreaksGroup list files g a → Here g a
      to_world groups.Unsupported a (us, spelt, among) =
          subst (λ (ts : List FileTree). Among a (unsupported_breaks (files_spelt list ts) (all_unsupported_insns
          (classes_of ts)))) (spelt_once us spelt) among
      to_world groups.Language a h = (of_checks a h.0, h.1)
      to_world groups.Initialisers a (us, world, h) = subst (λ (ts : List FileTree). BreaksImage (files_spelt list ts)
          (all_codes (classes_of ts)) a) (spelt_once us world.0) h
      to_world groups.Limits a h = of_checks a h
      to_world groups.Tokens a (us, world, among) =
          subst (λ (ts : List FileTree). Among a (tested_breaks (has_applets list) (files_spelt list ts)))
          (spelt_once us world.0) among
      to_world groups.Types a h = of_types a h
      to_world groups.Ranges a (inl h) = inl (of_types a h)
      to_world groups.Ranges a (inr (us, world, h)) =
          inr (subst (λ (ts : List FileTree). BreaksAnyRange list.ints (files_spelt list ts) (all_codes
          (classes_of ts)) a)
          (spelt_once us world.0) h)

      from_world : (g : Group) (a : Break) → Here g a → BreaksGroup list files g a
      from_world groups.Unsupported a i = (trees, all_spell list.lines files trees all, i)
      from_world groups.Language a h = ((trees, are_world, h.0), h.1)
      from_world groups.Initialisers a h = (trees, are_world, h)
      from_world groups.Limits a i = (trees, are_world, i)
      from_world groups.Tokens a i = (trees, are_world, i)
      from_world groups.Types a h = (trees, are_world, h)
      from_world groups.Ranges a (inl h) = inl (trees, are_world, h)
      from_world groups.Ranges a (inr h) = inr (trees, are_world, h)

      abbrev HereAny : Break → Type 0
      HereAny = AnyBreaks Here tested

      to_any : (a : Break) → Behind list files tested a → HereAny a
      to_any a (i, g, at, h) = (i, g, at, to_world g a h)

      from_any : (a : Break) → HereAny a → Behind list files tested a
      from_any a (i, g, at, h) = (i, g, at, from_world g a h)

      -- a rule of the groups, where no name is wrong
      pub groups_stop : (r : Refusal) → IsFirstRefused HereAny r → IsFirstBroken list files tested r
      groups_stop r f = first_broken list files tested r (first_after (files_fine list.lines files trees all)
          (first_after world_fine (first_after names_fine (record {
            broken = f.broken;
            first = record { breaks = from_any f.broken f.first.breaks; least = λ a h. f.first.least a (to_any a h) };
            is = f.is;
          }))))

      -- no rule is broken
      pub none_broken : ((b : Break) → HereAny b → ⊥) → (b : Break) → Breach list files tested b → ⊥
      none_broken none b (of_file h) = files_fine list.lines files trees all b h
      none_broken none b (of_world h) = world_fine b h
      none_broken none b (of_names h) = names_fine b h
      none_broken none b (of_group h) = none b (to_any b h)

-- ---- levels

-- A first of the first level is the first of both.
pub first_level_stops : {First Second : Break → Type 0} {r : Refusal} → IsFirstRefused First r
    → IsFirstRefused (OnLevels First Second) r
first_level_stops {First} {Second} f = record {
  broken = f.broken;
  first = record {
    breaks = on_first f.first.breaks;
    least = least;
  };
  is = f.is;
}
  where
    least : (a : Break) → OnLevels First Second a → NotAfter f.broken.rank a.rank
    least a (on_first h) = f.first.least a h
    least a (on_second none h) = absurd (none f.broken f.first.breaks)

-- A first of the second level is the first of both, where the first level breaks nothing.
pub second_level_stops : {First Second : Break → Type 0} {r : Refusal} → ((a : Break) → First a → ⊥)
    → IsFirstRefused Second r → IsFirstRefused (OnLevels First Second) r
second_level_stops {First} {Second} none f = record {
  broken = f.broken;
  first = record { breaks = on_second none f.first.breaks; least = least };
  is = f.is;
}
  where
    least : (a : Break) → OnLevels First Second a → NotAfter f.broken.rank a.rank
    least a (on_first h) = absurd (none a h)
    least a (on_second _ h) = f.first.least a h

-- ---- 413 at the class of its file

pub high_at : (bs : List Break) (f g : FilePlace) (c : ClassTree) (s : RulePlace) → g ≡ f → s ≡ at_spot g c
    → IsFirst (tokens.at_class f c.name) bs → IsFirst (broken_at s 413) bs
high_at bs f g c s e is h = subst (λ (b : Break). IsFirst b bs) (sym (ap (λ (q : RulePlace). broken_at q 413) is
    ∙ ap (λ (q : FilePlace). broken_at (at_spot q c) 413) e)) h

-- a rule of single files, or one of a later hundred
pub file_or_later : (list : ListTree) (files : List (List ℕ)) (tested : List Group) (b : Break)
    → Breach list files tested b → BreaksFile list.lines files b ⊎ (2 ≤ b.rank.family)
file_or_later list files tested b (of_file h) = inl h
file_or_later list files tested b (of_world h) = inr (let two = world_family list files b h in omega (arith, two))
file_or_later list files tested b (of_names h) = inr (let two = names_family list files b h in omega (arith, two))
file_or_later list files tested b (of_group h) = inr (let three = behind_family list files tested b h
    in omega (arith, three))

-- the file is one of those of the lines
pub file_low : (lines : List FileLine) (files : List (List ℕ)) (b : Break) → BreaksFile lines files b
    → b.rank.file ≤ length lines
file_low lines files b (i, at, breach, is) =
    let one = ap (λ (x : Break). x.rank.file) is in
    let two = by at.line at.bytes breach in
    let low = slice_get_within lines i at.line at.is_line in
    omega (arith, one, two, low)
  where
    by : (line : FileLine) (bytes : List ℕ) (x : FileBreach line bytes) → (file_rank i line bytes x).file ≡ i + 1
    by line bytes (no_class_file p c h) = refl
    by line bytes (no_instructions t m o c s h) = refl
    by line bytes (no_export_file p c h) = refl

-- and its rule is one of 101 to 104
pub file_rule : (lines : List FileLine) (files : List (List ℕ)) (b : Break) → BreaksFile lines files b
    → b.rank.rule ≤ 104
file_rule lines files b (i, at, breach, is) = by (ap (λ (x : Break). x.rank.rule) is) (low at.line at.bytes breach)
  where
    either : (t : Bool) → (if t then 102 else 101) ≤ 104
    either true = omega arith
    either false = omega arith

    low : (line : FileLine) (bytes : List ℕ) (x : FileBreach line bytes) → (file_rank i line bytes x).rule ≤ 104
    low line bytes (no_class_file p c h) = either _
    low line bytes (no_instructions t m o c s h) = omega arith
    low line bytes (no_export_file p c h) = omega arith

    by : {r : ℕ} → b.rank.rule ≡ r → r ≤ 104 → b.rank.rule ≤ 104
    by e le = omega (arith, e, le)
