-- What is told of the rules of a world.
use Rattle.std.proofs.Common.{◌≡◌, ℕ, suc, ◌+◌, Bool, true, false, List, [], ◌∷◌, ◌++◌, length, Option, Some, None}
use Rattle.std.proofs.Common.{refl, sym, ap, ◌∙◌, arith}
use Rattle.std.specs.Prelude.{slice_get, not, if◌then◌else◌}
use Rattle.cjc_bytes.specs.declared.order.FileKey.TheVariants as keys
use Rattle.cjc_bytes.specs.declared.settings.FileLine.{FileLine}
use Rattle.cjc_bytes.specs.Breaks.{Break, broken_at, list_spot}
use Rattle.cjc_world.specs.ClassFile.declared.tree.ClassTree.{ClassTree}
use Rattle.cjc_world.specs.ExportFile.declared.tree.ExportTree.{ExportTree}
use Rattle.cjc_world.specs.Classes.{Class, Member, all_classes, declared, numbered, of_class_file, of_export_file, size}
use Rattle.cjc_world.specs.Files.{Files}
use Rattle.cjc_world.specs.Rules.{at_class, at_member, told, when, class_rules, member_rules, members, members_before}
use Rattle.cjc_world.specs.Rules.{members_from, class_breaks, classes_breaks, class_file_breaks, export_file_breaks}
use Rattle.cjc_world.specs.Rules.{breaks_from, breaks, is_second_package, has_language}
use Rattle.cjc_judge.proofs.Each.{Each, each_none, each_append, each_map}
use Rattle.cjc_judge.proofs.Places.{IsTold, item, texts_of, text_or, classes_in, told_list, told_file, told_class}
use Rattle.cjc_judge.proofs.Places.{told_member, field_at, method_at}

module _ (list : List ℕ) (files : Files) where
  abbrev Told : Break → Type 0
  Told = IsTold list files

  -- ---- one file

  module _ (index : ℕ) (line : FileLine) (is_line : slice_get files.lines index ≡ Some line) where
    module _ (class : ℕ) (c : Class) (is_class : item (classes_in files 0 0 0 files.lines index) class ≡ Some c) where
      members_told : (w : List Class) (field : Bool) (k : ℕ) (ms : List Member)
          → ((j : ℕ) (m : Member) → slice_get ms j ≡ Some m
          → text_or (item (texts_of c) (members_before field c + (k + j) + 1)) ≡ told field m.name m.desc)
          → Each Told (members_from (keys.Line index) line.name class w c field k ms)
      unfolding members_from
      members_told w field k [] are = each_none Told
      members_told w field k (m ∷ ms) are =
          each_append Told _ _
          (each_map Told (λ rule. at_member (keys.Line index) line.name class c.name (members_before field c + k + 1)
          (told field m.name m.desc) rule) (member_rules w c (members field c) k m.name m.desc)
          (λ rule. told_member list files index line is_line class c (members_before field c + k + 1)
          (told field m.name m.desc) 0 rule is_class
          (ap (λ (n : ℕ). text_or (item (texts_of c) (members_before field c + n + 1))) (let e : k ≡ k + 0 = omega arith
          in e) ∙ are 0 m refl)))
          (members_told w field (k + 1) ms
          (λ j x there. ap (λ (n : ℕ). text_or (item (texts_of c) (members_before field c + n + 1))) (let e : k + 1 + j
          ≡ k + suc j = omega arith in e) ∙ are (suc j) x there))

      class_told : (owner : List ℕ) (w : List Class)
          → Each Told (class_breaks owner (keys.Line index) line.name class w c)
      unfolding class_breaks
      class_told owner w =
          each_append Told _ _
          (each_append Told _ _
          (each_map Told (λ rule. at_class (keys.Line index) line.name class c.name rule) (class_rules owner w c)
          (λ rule. told_class list files index line is_line class c rule is_class))
          (members_told w true 0 c.fields (λ j m there. field_at c j (0 + (0 + j) + 1) m (omega arith) there)))
          (members_told w false 0 c.methods (λ j m there. method_at c j (length c.fields + (0 + j) + 1) m (omega arith)
          there))

    classes_told : (owner : List ℕ) (w : List Class) (class : ℕ) (cs : List Class)
        → ((j : ℕ) (c : Class) → slice_get cs j ≡ Some c → item (classes_in files 0 0 0 files.lines index) (class + j)
        ≡ Some c)
        → Each Told (classes_breaks owner (keys.Line index) line.name class w cs)
    unfolding classes_breaks
    classes_told owner w class [] are = each_none Told
    classes_told owner w class (c ∷ cs) are =
        each_append Told _ _
        (class_told class c (ap (λ (n : ℕ). item (classes_in files 0 0 0 files.lines index) n) (let e : class
        ≡ class + 0 = omega arith in e) ∙ are 0 c refl) owner w)
        (classes_told owner w (class + 1) cs
        (λ j d there. ap (λ (n : ℕ). item (classes_in files 0 0 0 files.lines index) n) (let e : class + 1 + j
        ≡ class + suc j = omega arith in e) ∙ are (suc j) d there))

    class_file_told : (w : List Class) (number : ℕ) (o : Option ClassTree) → classes_in files 0 0 0 files.lines index
        ≡ of_class_file number o
        → Each Told (class_file_breaks files (keys.Line index) line.name w number o)
    class_file_told w number None is = each_none Told
    class_file_told w number (Some c) is = class_told 1 (declared number c) (ap (λ (cs : List Class). item cs 1) is)
        files.package_name w

    export_file_told : (w : List Class) (e number : ℕ) (o : Option ExportTree)
        → classes_in files 0 0 0 files.lines index ≡ of_export_file number o
        → Each Told (export_file_breaks files (keys.Line index) line.name w e number o)
    export_file_told w e number None is = each_none Told
    export_file_told w e number (Some t) is =
        each_append Told _ _
        (each_map Told (λ rule. at_class (keys.Line index) line.name 0 [] rule) (when (is_second_package files e t) 202)
        (λ rule. told_file list files index line is_line rule))
        (classes_told files.package_name w 1 (numbered number t.classes)
        (λ j c there. ap (λ (cs : List Class). item cs (1 + j)) is ∙ ap (λ (n : ℕ). item (numbered number t.classes) n)
        (let e : 1 + j ≡ suc j = omega arith in e) ∙ there))

  -- ---- all files

  lines_told : (w : List Class) (k c e i : ℕ) (lines : List FileLine)
      → ((j : ℕ) (line : FileLine) → slice_get lines j ≡ Some line → slice_get files.lines (k + j) ≡ Some line)
      → ((j : ℕ) → classes_in files 0 0 0 files.lines (k + j) ≡ classes_in files c e i lines j)
      → Each Told (breaks_from files w k c e i lines)
  unfolding breaks_from
  lines_told w k c e i [] at_lines at_classes = each_none Told
  lines_told w k c e i (line ∷ lines) at_lines at_classes =
      by line.class_file refl (λ c e i at_lines at_classes. lines_told w (k + 1) c e i lines at_lines at_classes)
    where
      stay : k + 0 ≡ k
      stay = omega arith

      is_line : slice_get files.lines k ≡ Some line
      is_line = ap (slice_get files.lines) (sym stay) ∙ at_lines 0 line refl

      here : (b : Bool) → line.class_file ≡ b → classes_in files 0 0 0 files.lines k
          ≡ (if b then of_class_file c (slice_get files.classes c) else of_export_file i (slice_get files.exports e))
      here b is =
          ap (λ (n : ℕ). classes_in files 0 0 0 files.lines n) (sym stay) ∙ at_classes 0
          ∙ ap (λ (v : Bool). if v then of_class_file c (slice_get files.classes c)
          else of_export_file i (slice_get files.exports e)) is

      lines_behind : (j : ℕ) (l : FileLine) → slice_get lines j ≡ Some l → slice_get files.lines (k + 1 + j) ≡ Some l
      lines_behind j l there = ap (slice_get files.lines) (let e : k + 1 + j ≡ k + suc j = omega arith in e)
          ∙ at_lines (suc j) l there

      behind : (b : Bool) → line.class_file ≡ b → (j : ℕ)
          → classes_in files 0 0 0 files.lines (k + 1 + j) ≡ (if b then classes_in files (c + 1) e i lines j
          else classes_in files c (e + 1) (i + size (slice_get files.exports e)) lines j)
      behind b is j =
          ap (λ (n : ℕ). classes_in files 0 0 0 files.lines n) (let e : k + 1 + j ≡ k + suc j = omega arith in e)
          ∙ at_classes (suc j)
          ∙ ap (λ (v : Bool). if v then classes_in files (c + 1) e i lines j
          else classes_in files c (e + 1) (i + size (slice_get files.exports e)) lines j) is

      by : (b : Bool) → line.class_file ≡ b
          → ((c e i : ℕ) → ((j : ℕ) (l : FileLine) → slice_get lines j ≡ Some l → slice_get files.lines (k + 1 + j)
          ≡ Some l)
          → ((j : ℕ) → classes_in files 0 0 0 files.lines (k + 1 + j) ≡ classes_in files c e i lines j)
          → Each Told (breaks_from files w (k + 1) c e i lines))
          → Each Told (if b
          then class_file_breaks files (keys.Line k) line.name w c (slice_get files.classes c)
          ++ breaks_from files w (k + 1) (c + 1) e i lines
          else export_file_breaks files (keys.Line k) line.name w e i (slice_get files.exports e)
          ++ breaks_from files w (k + 1) c (e + 1) (i + size (slice_get files.exports e)) lines)
      by true is more =
          each_append Told _ _ (class_file_told k line is_line w c (slice_get files.classes c) (here true is))
          (more (c + 1) e i lines_behind (behind true is))
      by false is more =
          each_append Told _ _ (export_file_told k line is_line w e i (slice_get files.exports e) (here false is))
          (more c (e + 1) (i + size (slice_get files.exports e)) lines_behind (behind false is))

  -- 201 to 204, 207 and 208
  pub world_told : Each Told (breaks list files)
  unfolding breaks
  world_told =
      each_append Told _ _
      (each_map Told (λ rule. broken_at (list_spot list) rule)
      (when (not (has_language (all_classes files) files.exports)) 207) (λ rule. told_list list files rule))
      (lines_told (all_classes files) 0 0 0 0 files.lines
      (λ j line there. ap (slice_get files.lines) (let e : 0 + j ≡ j = omega arith in e) ∙ there)
      (λ j. ap (λ (n : ℕ). classes_in files 0 0 0 files.lines n) (let e : 0 + j ≡ j = omega arith in e)))
