-- The breaks of files stand in the order of refusals, so that the foremost is the first.
use Rattle.std.proofs.Common.{◌≡◌, inl, inr, ℕ, ◌+◌, ◌<◌, ◌≤◌, ◌^◌, ◌/◌, List, [], ◌∷◌, ◌++◌, Bool, true, false, length}
use Rattle.std.proofs.Common.{filter, refl, sym, ap, subst, ◌∙◌, arith, Result, Ok, Err}
use Rattle.std.specs.Prelude.{All, zero, suc}
use Rattle.std.specs.List.{range_with_len}
use Rattle.cjc_bytes.specs.Breaks.{Break, Among, foremost, after, IsFirst, IsFirstRefusal, broken_at}
use Rattle.cjc_bytes.specs.Order.{FilePlace, NotAfter, AreUpTo, file_number, numbers}
use Rattle.cjc_bytes.specs.Reading.{read_file}
use Rattle.cjc_bytes.specs.declared.fault.Fault.{Fault}
use Rattle.cjc_bytes.specs.declared.order.FileKey.TheVariants as keys
use Rattle.cjc_bytes.specs.declared.settings.FileLine.{FileLine}
use Rattle.cjc_bytes.proofs.Firsts.{upto_refl, among_either, among_one}
use Rattle.cjc_capread.specs.declared.tree.Component.{Component}
use Rattle.cjc_capread.specs.declared.tree.Component.TheVariants as components
use Rattle.cjc_check.specs.LowerExportFile.ExportFile.{export_file}
use Rattle.cjc_check.specs.LowerExportFile.declared.tree.ExportTree.{ExportTree}
use Rattle.cjc_cmd_check.specs.Folder.Breaks.{break_in, component_breaks, component_place, export_breaks, file_breaks}
use Rattle.cjc_cmd_check.specs.Folder.Breaks.{file_spot, part_breaks, unless_broken}
use Rattle.cjc_cmd_check.specs.declared.folder.folder.Folder.{Folder}
use Rattle.cjc_cmd_check.specs.declared.folder.folder.Parts.{Parts}
use Rattle.cjc_cmd_check.specs.Folder.Reads.{export_places, has_size, read_component, tags_in, tags_of, tags_with_size}
use Rattle.cjc_cmd_check.specs.Folder.Working.Heads.{IsForemost}
use Rattle.cjc_cmd_check.proofs.FolderLaws.Along.{passed, kept_place}
use Rattle.cjc_cmd_check.proofs.FolderLaws.Files.{IsOther, tags_within, component_step}

-- ---- lists in the order of refusals

-- each break is of the first hundred, and of a file with a greater number
abbrev pub AreBehind : (file : ℕ) → List Break → Type 0
AreBehind file bs = (a : Break) → Among a bs → (a.rank.family ≡ 1) × (file < a.rank.file)

-- each break stands before those behind it, by its file
abbrev pub AreOrdered : List Break → Type 0
AreOrdered [] = Unit {0}
AreOrdered (b ∷ bs) = (b.rank.family ≡ 1) × AreBehind b.rank.file bs × AreOrdered bs

earlier_file : (a b : Break) → b.rank.family ≡ 1 → a.rank.family ≡ 1 → b.rank.file < a.rank.file
    → NotAfter b.rank a.rank
earlier_file a b f g lt = inr (f ∙ sym g, inl lt)

least_of : (b : Break) (rest : List Break) → AreOrdered (b ∷ rest) → (a : Break) → Among a (b ∷ rest)
    → NotAfter b.rank a.rank
least_of b rest h a foremost = upto_refl (numbers b.rank)
least_of b rest h a (after more) = let x = h.1 a more in earlier_file a b h.0 x.0 x.1

pub foremost_first : (bs : List Break) (e : Fault) → AreOrdered bs → IsForemost bs e → IsFirstRefusal bs e
foremost_first bs e o (inl none) = inl none
foremost_first bs e o (inr (b, rest, parts, told)) =
    let first : IsFirst b (b ∷ rest) = record { among = foremost; least = least_of b rest (subst AreOrdered parts o) }
    in
    inr (b, subst (IsFirst b) (sym parts) first, told)

none_behind : (file : ℕ) → AreBehind file []
none_behind file a among = elim among [ ]

behind_more : (low file : ℕ) (bs : List Break) → low ≤ file → AreBehind file bs → AreBehind low bs
behind_more low file bs le h a among = let x = h a among in (x.0, omega (arith, le, x.1))

behind_both : (file : ℕ) (xs ys : List Break) → AreBehind file xs → AreBehind file ys → AreBehind file (xs ++ ys)
behind_both file xs ys h g a among = elim (among_either a xs ys among) [
  | inl left ↦ h a left
  | inr right ↦ g a right
]

-- ---- one file

in_one : {A : Type 0} (rule : ℕ) (f : FilePlace) (r : Result A ℕ) (a : Break) → Among a (break_in rule f r)
    → (rule / 100 ≡ a.rank.family) × (file_number f.key ≡ a.rank.file)
in_one rule f (Ok tree) a among = elim among [ ]
in_one rule f (Err k) a among = let e = among_one a (broken_at (file_spot f k) rule) among
    in (ap (λ (b : Break). b.rank.family) (sym e), ap (λ (b : Break). b.rank.file) (sym e))

-- what a file breaks stands before what later ones do
one_then : {A : Type 0} (rule : ℕ) (f : FilePlace) (r : Result A ℕ) (rest : List Break) → rule / 100 ≡ 1
    → AreBehind (file_number f.key) rest → AreOrdered rest → AreOrdered (break_in rule f r ++ rest)
one_then rule f (Ok tree) rest first behind o = o
one_then rule f (Err k) rest first behind o = (first, behind, o)

one_behind : {A : Type 0} (low rule : ℕ) (f : FilePlace) (r : Result A ℕ) (rest : List Break) → rule / 100 ≡ 1
    → low < file_number f.key → AreBehind low rest → AreBehind low (break_in rule f r ++ rest)
one_behind low rule f r rest first lt behind = behind_both low (break_in rule f r) rest (λ a among. let x = in_one rule
    f r a among in (sym x.0 ∙ first, subst (λ (n : ℕ). low < n) x.1 lt)) behind

-- ---- export files

export_step : (f : FilePlace) (places : List FilePlace) (bytes : List ℕ) (files : List (List ℕ))
    → export_breaks (f ∷ places) (bytes ∷ files) ≡ break_in 104 f (read_file export_file bytes)
    ++ export_breaks places files
unfolding export_breaks
export_step f places bytes files = refl

no_place : (files : List (List ℕ)) → export_breaks [] files ≡ []
unfolding export_breaks
no_place [] = refl
no_place (b ∷ files) = refl

no_file : (places : List FilePlace) → export_breaks places [] ≡ []
unfolding export_breaks
no_file [] = refl
no_file (f ∷ places) = refl

-- what holds of the breaks of the export files among these lines, the first of which has this number
record AreInLines (n : ℕ) (bs : List Break) : Type 0 where
  ordered : AreOrdered bs
  behind : AreBehind n bs

empty_lines : (n : ℕ) → AreInLines n []
empty_lines n = record { ordered = tt; behind = none_behind n }

no_lines : (n : ℕ) (files : List (List ℕ)) → export_breaks (export_places n []) files ≡ []
unfolding export_places
no_lines n files = no_place files

abbrev LaterLines : (n : ℕ) → List FileLine → Type 0
LaterLines n lines = (files : List (List ℕ)) → AreInLines (n + 1) (export_breaks (export_places (n + 1) lines) files)

passed_by : (n : ℕ) (lines : List FileLine) (files : List (List ℕ)) → LaterLines n lines
    → AreInLines n (export_breaks (export_places (n + 1) lines) files)
passed_by n lines files later = let h = later files in record {
  ordered = h.ordered;
  behind = behind_more n (n + 1) (export_breaks (export_places (n + 1) lines) files) (omega arith) h.behind;
}

one_line : (n : ℕ) (line : FileLine) (lines : List FileLine) (bytes : List ℕ) (files : List (List ℕ))
    → LaterLines n lines
    → AreInLines n (break_in 104 (record { key = keys.Line n; name = line.name }) (read_file export_file bytes)
    ++ export_breaks (export_places (n + 1) lines) files)
one_line n line lines bytes files later =
    let f : FilePlace = record { key = keys.Line n; name = line.name } in
    let r = read_file export_file bytes in
    let rest = export_breaks (export_places (n + 1) lines) files in
    let h = later files in
    record {
      ordered = one_then 104 f r rest refl h.behind h.ordered;
      behind = one_behind n 104 f r rest refl (omega arith) (behind_more n (n + 1) rest (omega arith) h.behind);
    }

in_line : (n : ℕ) (line : FileLine) (lines : List FileLine) (b : Bool) → line.class_file ≡ b → (files : List (List ℕ))
    → LaterLines n lines
    → AreInLines n (export_breaks (export_places n (line ∷ lines)) files)
in_line n line lines true e files later = subst (λ (ps : List FilePlace). AreInLines n (export_breaks ps files))
    (sym (passed n line lines e)) (passed_by n lines files later)
in_line n line lines false e [] later = subst (AreInLines n) (sym (no_file (export_places n (line ∷ lines))))
    (empty_lines n)
in_line n line lines false e (bytes ∷ files) later =
    let split = ap (λ (ps : List FilePlace). export_breaks ps (bytes ∷ files)) (kept_place n line lines e)
    ∙ export_step (record { key = keys.Line n; name = line.name }) (export_places (n + 1) lines) bytes files in
    subst (AreInLines n) (sym split) (one_line n line lines bytes files later)

in_lines : (n : ℕ) (lines : List FileLine) (files : List (List ℕ))
    → AreInLines n (export_breaks (export_places n lines) files)
in_lines n [] files = subst (AreInLines n) (sym (no_lines n files)) (empty_lines n)
in_lines n (line ∷ lines) files = in_line n line lines line.class_file refl files (λ more. in_lines (n + 1) lines more)

-- ---- components

abbrev IsAscending : (low : ℕ) → List ℕ → Type 0
IsAscending low [] = Unit {0}
IsAscending low (tag ∷ tags) = (low < tag) × IsAscending tag tags

filter_step : (p : ℕ → Bool) (a n low : ℕ) (b : Bool) → p a ≡ b → low < a → ((low : ℕ) → low < a + 1
    → IsAscending low (filter p (range_with_len (a + 1) n))) → IsAscending low (filter p (range_with_len a (suc n)))
filter_step p a n low true e lt rest = subst (IsAscending low) (sym (kept_first p a (range_with_len (a + 1) n) e)) (
  lt,
  rest a (omega arith),
)
  where
    kept_first : (p : ℕ → Bool) (x : ℕ) (xs : List ℕ) → p x ≡ true → filter p (x ∷ xs) ≡ x ∷ filter p xs
    kept_first p x xs e = rw e refl
filter_step p a n low false e lt rest = subst (IsAscending low) (sym (left_out p a (range_with_len (a + 1) n) e))
    (rest low (omega (arith, lt)))
  where
    left_out : (p : ℕ → Bool) (x : ℕ) (xs : List ℕ) → p x ≡ false → filter p (x ∷ xs) ≡ filter p xs
    left_out p x xs e = rw e refl

filter_ascends : (p : ℕ → Bool) (n a low : ℕ) → low < a → IsAscending low (filter p (range_with_len a n))
filter_ascends p zero a low lt = tt
filter_ascends p (suc n) a low lt = filter_step p a n low (p a) refl lt (λ l h. filter_ascends p n (a + 1) l h)

sizes_ascend : (sizes : List ℕ) → IsAscending 2 (tags_with_size sizes)
unfolding tags_with_size
sizes_ascend sizes = filter_ascends (has_size sizes) 9 3 2 (omega arith)

tags_ascend : (bytes : List ℕ) → IsAscending 2 (tags_of bytes)
tags_ascend bytes = of (read_component 2 bytes)
  where
    of : (r : Result Component ℕ) → IsAscending 2 (tags_in r)
    of (Ok (components.Directory d)) = sizes_ascend d.component_sizes
    of (Ok (components.Header x)) = tt
    of (Ok (components.Applet x)) = tt
    of (Ok (components.Import x)) = tt
    of (Ok (components.Pool x)) = tt
    of (Ok (components.Class x)) = tt
    of (Ok (components.Method x)) = tt
    of (Ok (components.Statics x)) = tt
    of (Ok (components.Locations x)) = tt
    of (Ok (components.Export x)) = tt
    of (Ok (components.Descriptor x)) = tt
    of (Err e) = tt

no_tags : (files : List (List ℕ)) → component_breaks [] files ≡ []
unfolding component_breaks
no_tags [] = refl
no_tags (b ∷ files) = refl

no_files : (tags : List ℕ) → component_breaks tags [] ≡ []
unfolding component_breaks
no_files [] = refl
no_files (t ∷ tags) = refl

record AreInTags (low : ℕ) (bs : List Break) : Type 0 where
  ordered : AreOrdered bs
  behind : AreBehind (2 ^ 64 + low) bs

in_tags : (low : ℕ) (tags : List ℕ) (files : List (List ℕ)) → IsAscending low tags
    → AreInTags low (component_breaks tags files)
in_tags low [] files h = subst (AreInTags low) (sym (no_tags files)) (record {
  ordered = tt;
  behind = none_behind (2 ^ 64 + low);
})
in_tags low (tag ∷ tags) [] h = subst (AreInTags low) (sym (no_files (tag ∷ tags))) (record {
  ordered = tt;
  behind = none_behind (2 ^ 64 + low);
})
in_tags low (tag ∷ tags) (bytes ∷ files) h =
    let rest = in_tags tag tags files h.1 in
    let r = read_component tag bytes in
    let f = component_place tag in
    let bs = component_breaks tags files in
    subst (AreInTags low) (sym (component_step tag tags bytes files)) (record {
      ordered = one_then 106 f r bs refl rest.behind rest.ordered;
      behind = one_behind (2 ^ 64 + low) 106 f r bs refl (omega (arith, h.0)) (behind_more (2 ^ 64 + low) (2 ^ 64 + tag)
          bs (omega (arith, h.0)) rest.behind);
    })

-- ---- all files

-- The breaks of export files stand in this order, however many there are.
pub exports_ordered : (lines : List FileLine) (files : List (List ℕ))
    → AreOrdered (export_breaks (export_places 0 lines) files)
exports_ordered lines files = (in_lines 0 lines files).ordered

unless_ordered : (xs ys : List Break) → AreOrdered xs → AreOrdered ys → AreOrdered (unless_broken xs ys)
unless_ordered [] ys o p = p
unless_ordered (x ∷ xs) ys o p = o

-- the tags of components that were read ascend from Header on
parts_in_tags : (p : Parts) → p.tags ≡ tags_of p.directory → AreInTags 0 (part_breaks p)
parts_in_tags p tags = in_tags 0 (1 ∷ 2 ∷ p.tags) (p.header ∷ p.directory ∷ p.others) (
  omega arith,
  (omega arith, subst (IsAscending 2) (sym tags) (tags_ascend p.directory)),
)

-- The breaks of components stand in the order of refusals.
pub parts_ordered : (p : Parts) → p.tags ≡ tags_of p.directory → AreOrdered (part_breaks p)
parts_ordered p tags = (parts_in_tags p tags).ordered

-- they stand behind all files of a list
pub parts_behind : (p : Parts) → p.tags ≡ tags_of p.directory → AreBehind (2 ^ 64) (part_breaks p)
parts_behind p tags = behind_more (2 ^ 64) (2 ^ 64 + 0) (part_breaks p) (omega arith) (parts_in_tags p tags).behind

-- The breaks of the files of a folder stand in the order of refusals.
pub files_ordered : (f : Folder) → f.parts.tags ≡ tags_of f.parts.directory → AreOrdered (file_breaks f)
files_ordered f tags = unless_ordered (export_breaks (export_places 0 f.list.lines) f.exports) (part_breaks f.parts)
    (exports_ordered f.list.lines f.exports) (parts_ordered f.parts tags)

-- ---- components stand before a script

-- each break is of a file before that of a script
abbrev pub AreBelow : List Break → Type 0
AreBelow bs = (a : Break) → Among a bs → a.rank.file < 2 ^ 64 + 256

none_below : AreBelow []
none_below a among = elim among [ ]

one_below : {A : Type 0} (tag : ℕ) (r : Result A ℕ) (rest : List Break) → tag < 256 → AreBelow rest
    → AreBelow (break_in 106 (component_place tag) r ++ rest)
one_below tag r rest lt below a among = elim (among_either a (break_in 106 (component_place tag) r) rest among) [
  | inl here ↦ let x = in_one 106 (component_place tag) r a here in let file = x.1 in omega (arith, lt, file)
  | inr later ↦ below a later
]

-- each tag is one of a byte
abbrev AreTags : List ℕ → Type 0
AreTags [] = Unit {0}
AreTags (tag ∷ tags) = (tag < 256) × AreTags tags

tags_below : (tags : List ℕ) (files : List (List ℕ)) → AreTags tags → AreBelow (component_breaks tags files)
tags_below [] files h = subst AreBelow (sym (no_tags files)) none_below
tags_below (tag ∷ tags) [] h = subst AreBelow (sym (no_files (tag ∷ tags))) none_below
tags_below (tag ∷ tags) (bytes ∷ files) h =
    subst AreBelow (sym (component_step tag tags bytes files)) (one_below tag (read_component tag bytes)
    (component_breaks tags files) h.0 (tags_below tags files h.1))

are_tags : (tags : List ℕ) → All IsOther tags → AreTags tags
are_tags [] h = tt
are_tags (tag ∷ tags) h = let first = h 0 tag (omega arith) in let high = first.1
    in (omega (arith, high), are_tags tags (λ k d lt. h (suc k) d (omega (arith, lt))))

pub parts_below : (p : Parts) → p.tags ≡ tags_of p.directory → AreBelow (part_breaks p)
parts_below p tags =
    tags_below (1 ∷ 2 ∷ p.tags) (p.header ∷ p.directory ∷ p.others) (
      omega arith,
      (omega arith, are_tags p.tags (subst (All IsOther) (sym tags) (tags_within p.directory))),
    )
