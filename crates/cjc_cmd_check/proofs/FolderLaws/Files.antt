-- Files one after the other: what each says, or the first that breaks.
use Rattle.std.proofs.Common.{◌≡◌, inl, inr, ℕ, ◌+◌, ◌<◌, ◌≤◌, List, [], ◌∷◌, ◌++◌, Bool, length, get_or, map, drop}
use Rattle.std.proofs.Common.{refl, sym, ap, subst, ◌∙◌, arith, append-nil, append_assoc, Option, Some, None, Result}
use Rattle.std.proofs.Common.{Ok, Err, IfOk, IfErr}
use Rattle.std.proofs.lemmas.List.{drop_more, drop_all, get_or-map, length-map}
use Rattle.std.proofs.lemmas.List.Elements.{All-filter}
use Rattle.std.proofs.lemmas.List.FromFn.{get_or-range_with_len, length-range_with_len}
use Rattle.std.specs.Prelude.{All}
use Rattle.std.specs.List.{range_with_len}
use Rattle.cjc_bytes.specs.Breaks.{Break, IsFirstRefusal}
use Rattle.cjc_bytes.specs.Format.{Format, FileBreaks, FileSpells, Spells}
use Rattle.cjc_bytes.specs.Order.{FilePlace}
use Rattle.cjc_bytes.specs.Reading.{read_file}
use Rattle.cjc_bytes.specs.Refused.{IsBreak, refusal}
use Rattle.cjc_bytes.specs.declared.order.FileKey.TheVariants as keys
use Rattle.cjc_bytes.specs.declared.fault.Fault.{Fault}
use Rattle.cjc_bytes.specs.declared.fault.Fault.TheVariants as faults
use Rattle.cjc_bytes.proofs.Laws.{file_breaks, file_ok, file_spelt}
use Rattle.cjc_bytes.specs.declared.fault.Refusal.{Refusal}
use Rattle.cjc_capread.specs.Component.{component, info}
use Rattle.cjc_capread.specs.Kinds.{directory_of, header_of}
use Rattle.cjc_capread.specs.declared.tree.Component.{Component}
use Rattle.cjc_capread.specs.declared.tree.Component.TheVariants as components
use Rattle.cjc_capread.specs.declared.tree.Directory.{Directory}
use Rattle.cjc_capread.specs.declared.tree.Header.{Header}
use Rattle.cjc_capread.specs.declared.tree.CapTree.{CapTree}
use Rattle.cjc_check.specs.LowerExportFile.ExportFile.{export_file}
use Rattle.cjc_check.specs.LowerExportFile.declared.tree.ExportTree.{ExportTree}
use Rattle.cjc_cmd_check.specs.declared.folder.folder.Parts.{Parts}
use Rattle.cjc_check.specs.LowerCheckRules.Consistent.{file_name}
use Rattle.cjc_cmd_check.specs.Folder.Breaks.{break_in, component_breaks, component_place, export_breaks, export_trees}
use Rattle.cjc_cmd_check.specs.Folder.Breaks.{kept_tree, part_breaks, unless_broken, with_component, with_components}
use Rattle.cjc_cmd_check.specs.Folder.Breaks.{with_read}
use Rattle.cjc_cmd_check.specs.Folder.Reads.{read_component, has_size, tags_in, tags_of, tags_with_size}
use Rattle.cjc_cmd_check.specs.Folder.Working.Heads.{IsForemost}

-- where a file breaks its format, that is the foremost break of it
pub foremost_of : {A : Type 0} (format : Format A) (bytes : List ℕ) (rule : ℕ) (f : FilePlace) (e : Fault)
    → IsBreak format bytes (refusal f.name rule) e → IsForemost (break_in rule f (read_file format bytes)) e
foremost_of format bytes rule f e (inl none) = inl none
foremost_of format bytes rule f e (inr (k, breaks, is)) =
    let at = ap (break_in rule f) (file_breaks format bytes k breaks) in
    inr (_, [], at, is)

-- the foremost break of what stands in front is that of all
pub foremost_in_front : (front more bs : List Break) (e : Fault) → bs ≡ front ++ more → IsForemost front e
    → IsForemost bs e
foremost_in_front front more bs e is (inl none) = inl none
foremost_in_front front more bs e is (inr (b, rest, parts, told)) = inr (
  b,
  rest ++ more,
  is
      ∙ ap (λ (xs : List Break). xs ++ more) parts,
  told,
)

-- it is that of both
pub foremost_left : (xs ys : List Break) (e : Fault) → IsForemost xs e → IsForemost (unless_broken xs ys) e
foremost_left xs ys e (inl none) = inl none
foremost_left xs ys e (inr (b, rest, parts, told)) = inr (
  b,
  rest,
  ap (λ (bs : List Break). unless_broken bs ys) parts,
  told,
)

-- where the first has none, the first break is that of the second
pub first_right : (xs ys : List Break) (e : Fault) → xs ≡ [] → IsFirstRefusal ys e
    → IsFirstRefusal (unless_broken xs ys) e
first_right xs ys e none h = subst (λ (bs : List Break). IsFirstRefusal (unless_broken bs ys) e) (sym none) h

pub none_broken : (xs ys : List Break) → xs ≡ [] → ys ≡ [] → unless_broken xs ys ≡ []
none_broken xs ys e f = ap (λ (bs : List Break). unless_broken bs ys) e ∙ f

-- ---- components

pub read_found : (tag : ℕ) (bytes : List ℕ) (r : Result Component Fault)
    → IfOk r (λ t. FileSpells (component tag (length bytes)) t bytes) → IfOk r (λ x. read_component tag bytes ≡ Ok x)
read_found tag bytes (Ok x) h = file_spelt (component tag (length bytes)) bytes x h
read_found tag bytes (Err e) h = tt

pub read_refused : (tag : ℕ) (bytes name : List ℕ) (r : Result Component Fault) → name ≡ file_name tag
    → IfErr r (IsBreak (component tag (length bytes)) bytes (refusal name 106))
    → IfErr r (IsForemost (break_in 106 (component_place tag) (read_component tag bytes)))
read_refused tag bytes name (Ok x) is h = tt
read_refused tag bytes name (Err e) is h = foremost_of (component tag (length bytes)) bytes 106 (component_place tag) e
    (rw is at h)

no_header : (h : Header) (x : Component) → components.Header h ≡ x → header_of x ≡ None → ⊥
no_header h x is none = let some : Some h ≡ None = ap header_of is ∙ none in cc

no_directory : (d : Directory) (x : Component) → components.Directory d ≡ x → directory_of x ≡ None → ⊥
no_directory d x is none = let some : Some d ≡ None = ap directory_of is ∙ none in cc

-- a component of tag 1 is a Header, and one of tag 2 a Directory
pub says_header : (bytes : List ℕ) (x : Component) → read_component 1 bytes ≡ Ok x → header_of x ≡ None → ⊥
unfolding Spells component info
says_header bytes x read none = let spelt = file_ok (component 1 (length bytes)) bytes x read
    in no_header spelt.5.5.0 x spelt.5.5.5.1 none

pub says_directory : (bytes : List ℕ) (x : Component) → read_component 2 bytes ≡ Ok x → directory_of x ≡ None → ⊥
unfolding Spells component info
says_directory bytes x read none = let spelt = file_ok (component 2 (length bytes)) bytes x read
    in no_directory spelt.5.5.0 x spelt.5.5.5.1 none

pub tags_some : (bytes : List ℕ) (x : Component) (d : Directory) → FileSpells (component 2 (length bytes)) x bytes
    → directory_of x ≡ Some d → tags_of bytes ≡ tags_with_size d.component_sizes
tags_some bytes x d spelt is = ap tags_in (file_spelt (component 2 (length bytes)) bytes x spelt) ∙ of x is
  where
    of : (x : Component) → directory_of x ≡ Some d → tags_in (Ok x) ≡ tags_with_size d.component_sizes
    of (components.Directory e) i = let same : e ≡ d = cc in ap (λ (y : Directory). tags_with_size y.component_sizes)
        same
    of (components.Header e) i = absurd cc
    of (components.Applet e) i = absurd cc
    of (components.Import e) i = absurd cc
    of (components.Pool e) i = absurd cc
    of (components.Class e) i = absurd cc
    of (components.Method e) i = absurd cc
    of (components.Statics e) i = absurd cc
    of (components.Locations e) i = absurd cc
    of (components.Export e) i = absurd cc
    of (components.Descriptor e) i = absurd cc

pub tags_none : (bytes : List ℕ) (x : Component) → FileSpells (component 2 (length bytes)) x bytes
    → directory_of x ≡ None → tags_of bytes ≡ []
tags_none bytes x spelt is = ap tags_in (file_spelt (component 2 (length bytes)) bytes x spelt) ∙ of x is
  where
    of : (x : Component) → directory_of x ≡ None → tags_in (Ok x) ≡ []
    of (components.Directory e) i = absurd cc
    of (components.Header e) i = refl
    of (components.Applet e) i = refl
    of (components.Import e) i = refl
    of (components.Pool e) i = refl
    of (components.Class e) i = refl
    of (components.Method e) i = refl
    of (components.Statics e) i = refl
    of (components.Locations e) i = refl
    of (components.Export e) i = refl
    of (components.Descriptor e) i = refl

-- where the bytes of Directory break it, it says of no component that it is there
pub refused_none : (name : List ℕ) (bytes : List ℕ) (e : Fault) (r : Refusal) → e ≡ faults.Refused r
    → IsBreak (component 2 (length bytes)) bytes (refusal name 106) e → tags_of bytes ≡ []
refused_none name bytes e r is (inl none) = absurd cc
refused_none name bytes e r is (inr (k, breaks, told)) = ap tags_in (file_breaks (component 2 (length bytes)) bytes k
    breaks)

-- ---- export files, in a loop

abbrev pub export_here : List ℕ → Result ExportTree ℕ
export_here bytes = read_file export_file bytes

files_here : (i : ℕ) (bytes : List ℕ) (files : List (List ℕ)) → i < length files → bytes ≡ get_or files i bytes
    → drop i files ≡ bytes ∷ drop (i + 1) files
files_here i bytes files lt is = drop_more files i bytes lt ∙ ap (λ (b : List ℕ). b ∷ drop (i + 1) files) (sym is)

trees_step : (bytes : List ℕ) (rest : List (List ℕ)) → export_trees (bytes ∷ rest) ≡ kept_tree (export_here bytes)
    ++ export_trees rest
unfolding export_trees
trees_step bytes rest = refl

breaks_step : (f : FilePlace) (places : List FilePlace) (bytes : List ℕ) (rest : List (List ℕ))
    → export_breaks (f ∷ places) (bytes ∷ rest) ≡ break_in 104 f (export_here bytes) ++ export_breaks places rest
unfolding export_breaks
breaks_step f places bytes rest = refl

pub trees_more : (i : ℕ) (bytes : List ℕ) (files : List (List ℕ)) (tree : ExportTree) (trees total : List ExportTree)
    → i < length files → bytes ≡ get_or files i bytes → FileSpells export_file tree bytes
    → trees ++ export_trees (drop i files) ≡ total → (trees ++ tree ∷ []) ++ export_trees (drop (i + 1) files) ≡ total
trees_more i bytes files tree trees total lt is spelt so_far =
    let one = ap export_trees (files_here i bytes files lt is) ∙ trees_step bytes (drop (i + 1) files)
    ∙ ap (λ (r : Result ExportTree ℕ). kept_tree r ++ export_trees (drop (i + 1) files)) (file_spelt export_file
    bytes tree spelt) in
    append_assoc trees (tree ∷ []) (export_trees (drop (i + 1) files)) ∙ ap (λ (ts : List ExportTree). trees
    ++ ts) (sym one) ∙ so_far

no_tree : (files : List (List ℕ)) → files ≡ [] → export_trees files ≡ []
unfolding export_trees
no_tree files e = rw e refl

pub trees_all : (i : ℕ) (files : List (List ℕ)) (trees total : List ExportTree) → length files ≤ i
    → trees ++ export_trees (drop i files) ≡ total → trees ≡ total
trees_all i files trees total le so_far = sym (append-nil trees) ∙ ap (λ (ts : List ExportTree). trees
    ++ ts) (sym (no_tree (drop i files) (drop_all i files le))) ∙ so_far

-- the breaks of all files are those of the files that are left
abbrev pub AreLeft : List FilePlace → List (List ℕ) → (i : ℕ) → Type 0
AreLeft places files i = export_breaks places files ≡ export_breaks (drop i places) (drop i files)

-- so it is by whichever places, where they have the names
abbrev pub AreLeftBy : (names : List (List ℕ)) → List (List ℕ) → (i : ℕ) → Type 0
AreLeftBy names files i = (places : List FilePlace) → map (λ (f : FilePlace). f.name) places ≡ names
    → AreLeft places files i

nowhere : FilePlace
nowhere = record { key = keys.List; name = [] }

step_at : (i : ℕ) (places : List FilePlace) (bytes : List ℕ) (files : List (List ℕ)) → i < length places
    → i < length files → bytes ≡ get_or files i bytes
    → export_breaks (drop i places) (drop i files) ≡ break_in 104 (get_or places i nowhere) (export_here bytes)
    ++ export_breaks (drop (i + 1) places) (drop (i + 1) files)
step_at i places bytes files lp lf bi =
    let f = get_or places i nowhere in
    let d : drop i places ≡ f ∷ drop (i + 1) places = drop_more places i nowhere lp in
    ap (λ (ps : List FilePlace). export_breaks ps (drop i files)) d ∙ ap (export_breaks (f ∷ drop (i + 1) places))
    (files_here i bytes files lf bi) ∙ breaks_step f (drop (i + 1) places) bytes (drop (i + 1) files)

in_places : (i : ℕ) (places : List FilePlace) (names : List (List ℕ)) → map (λ (f : FilePlace). f.name) places ≡ names
    → i < length names → i < length places
in_places i places names m lt = let long : length places ≡ length names =
    sym (length-map places (λ (f : FilePlace). f.name)) ∙ ap length m in omega (arith, long)

name_at : (i : ℕ) (places : List FilePlace) (names : List (List ℕ)) (name : List ℕ)
    → map (λ (f : FilePlace). f.name) places ≡ names → i < length names → name ≡ get_or names i name
    → (get_or places i nowhere).name ≡ name
name_at i places names name m lt is =
    sym (get_or-map (λ (f : FilePlace). f.name) places i nowhere name (in_places i places names m lt))
    ∙ ap (λ (ns : List (List ℕ)). get_or ns i name) m ∙ sym is

pub left_start : (names files : List (List ℕ)) → AreLeftBy names files 0
left_start names files places m = refl

-- a file that spells an export file breaks nothing
pub left_more : (i : ℕ) (names : List (List ℕ)) (bytes : List ℕ) (files : List (List ℕ)) (tree : ExportTree)
    → i < length names → i < length files → bytes ≡ get_or files i bytes
    → FileSpells export_file tree bytes → AreLeftBy names files i → AreLeftBy names files (i + 1)
left_more i names bytes files tree ln lf is spelt so_far places m =
    so_far places m ∙ step_at i places bytes files (in_places i places names m ln) lf is
    ∙ ap (λ (r : Result ExportTree ℕ). break_in 104 (get_or places i nowhere) r ++ export_breaks (drop (i + 1) places)
    (drop (i + 1) files)) (file_spelt export_file bytes tree spelt)

no_files : (places : List FilePlace) (files : List (List ℕ)) → files ≡ [] → export_breaks places files ≡ []
unfolding export_breaks
no_files [] [] e = refl
no_files [] (b ∷ files) e = refl
no_files (f ∷ places) [] e = refl
no_files (f ∷ places) (b ∷ files) e = absurd cc

pub left_all : (i : ℕ) (names files : List (List ℕ)) → length files ≤ i → AreLeftBy names files i
    → (places : List FilePlace) → map (λ (f : FilePlace). f.name) places ≡ names → export_breaks places files ≡ []
left_all i names files le so_far places m = so_far places m ∙ no_files (drop i places) (drop i files)
    (drop_all i files le)

-- the first file that spells none
pub left_breaks : (i : ℕ) (names : List (List ℕ)) (name bytes : List ℕ) (files : List (List ℕ)) (e : Fault)
    → i < length names → i < length files → name ≡ get_or names i name → bytes ≡ get_or files i bytes
    → IsBreak export_file bytes (refusal name 104) e → AreLeftBy names files i → (places : List FilePlace)
    → map (λ (f : FilePlace). f.name) places ≡ names → IsForemost (export_breaks places files) e
left_breaks i names name bytes files e ln lf ni bi breaks so_far places m =
    let f = get_or places i nowhere in
    let named = name_at i places names name m ln ni in
    let here : IsForemost (break_in 104 f (export_here bytes)) e = foremost_of export_file bytes 104 f e
    (subst (λ (n : List ℕ). IsBreak export_file bytes (refusal n 104) e) (sym named) breaks) in
    foremost_in_front (break_in 104 f (export_here bytes)) _ _ e (so_far places m
    ∙ step_at i places bytes files (in_places i places names m ln) lf bi) here

-- ---- components, in a loop

with_step : (cap : CapTree) (tag : ℕ) (tags : List ℕ) (bytes : List ℕ) (files : List (List ℕ))
    → with_components cap (tag ∷ tags) (bytes ∷ files) ≡ with_components (with_read cap tag (read_component tag bytes))
    tags files
unfolding with_components
with_step cap tag tags bytes files = refl

pub component_step : (tag : ℕ) (tags : List ℕ) (bytes : List ℕ) (files : List (List ℕ))
    → component_breaks (tag ∷ tags) (bytes ∷ files) ≡ break_in 106 (component_place tag) (read_component tag bytes)
    ++ component_breaks tags files
unfolding component_breaks
component_step tag tags bytes files = refl

abbrev pub tag_at : List ℕ → (i : ℕ) → ℕ
tag_at tags i = get_or tags i 0

tags_here : (i : ℕ) (tags : List ℕ) → i < length tags → drop i tags ≡ tag_at tags i ∷ drop (i + 1) tags
tags_here i tags lt = drop_more tags i 0 lt

pub component_left : (i : ℕ) (tags : List ℕ) (bytes : List ℕ) (files : List (List ℕ)) → i < length tags
    → i < length files → bytes ≡ get_or files i bytes
    → component_breaks (drop i tags) (drop i files) ≡ break_in 106 (component_place (tag_at tags i))
    (read_component (tag_at tags i) bytes) ++ component_breaks (drop (i + 1) tags) (drop (i + 1) files)
component_left i tags bytes files lt lf bi =
    ap (λ (ts : List ℕ). component_breaks ts (drop i files)) (tags_here i tags lt)
    ∙ ap (component_breaks (tag_at tags i ∷ drop (i + 1) tags)) (files_here i bytes files lf bi)
    ∙ component_step (tag_at tags i) (drop (i + 1) tags) bytes (drop (i + 1) files)

pub component_more : (i : ℕ) (tags : List ℕ) (bytes : List ℕ) (files : List (List ℕ)) (x : Component)
    (total : List Break) → i < length tags → i < length files → bytes ≡ get_or files i bytes
    → read_component (tag_at tags i) bytes ≡ Ok x → total ≡ component_breaks (drop i tags) (drop i files)
    → total ≡ component_breaks (drop (i + 1) tags) (drop (i + 1) files)
component_more i tags bytes files x total lt lf bi read so_far =
    so_far ∙ component_left i tags bytes files lt lf bi
    ∙ ap (λ (r : Result Component ℕ). break_in 106 (component_place (tag_at tags i)) r
    ++ component_breaks (drop (i + 1) tags) (drop (i + 1) files)) read

pub with_more : (i : ℕ) (tags : List ℕ) (bytes : List ℕ) (files : List (List ℕ)) (x : Component) (cap total : CapTree)
    → i < length tags → i < length files → bytes ≡ get_or files i bytes
    → read_component (tag_at tags i) bytes ≡ Ok x → with_components cap (drop i tags) (drop i files) ≡ total
    → with_components (with_component cap (tag_at tags i) x) (drop (i + 1) tags) (drop (i + 1) files) ≡ total
with_more i tags bytes files x cap total lt lf bi read so_far =
    let tag = tag_at tags i in
    let one = ap (λ (ts : List ℕ). with_components cap ts (drop i files)) (tags_here i tags lt)
    ∙ ap (with_components cap (tag ∷ drop (i + 1) tags)) (files_here i bytes files lf bi)
    ∙ with_step cap tag (drop (i + 1) tags) bytes (drop (i + 1) files) in
    let said : with_read cap tag (read_component tag bytes) ≡ with_component cap tag x = ap (with_read cap tag) read in
    sym (one ∙ ap (λ (c : CapTree). with_components c (drop (i + 1) tags) (drop (i + 1) files)) said) ∙ so_far

no_more : (cap : CapTree) (tags : List ℕ) (files : List (List ℕ)) → files ≡ [] → with_components cap tags files ≡ cap
unfolding with_components
no_more first [] [] e = refl
no_more first [] (b ∷ files) e = refl
no_more first (t ∷ tags) [] e = refl
no_more first (t ∷ tags) (b ∷ files) e = absurd cc

pub with_all : (i : ℕ) (tags : List ℕ) (files : List (List ℕ)) (cap total : CapTree) → length files ≤ i
    → with_components cap (drop i tags) (drop i files) ≡ total → cap ≡ total
with_all i tags files cap total le so_far = sym (no_more cap (drop i tags) (drop i files) (drop_all i files le))
    ∙ so_far

no_component : (tags : List ℕ) (files : List (List ℕ)) → files ≡ [] → component_breaks tags files ≡ []
unfolding component_breaks
no_component [] [] e = refl
no_component [] (b ∷ files) e = refl
no_component (t ∷ tags) [] e = refl
no_component (t ∷ tags) (b ∷ files) e = absurd cc

pub component_all : (i : ℕ) (tags : List ℕ) (files : List (List ℕ)) (total : List Break) → length files ≤ i
    → total ≡ component_breaks (drop i tags) (drop i files) → total ≡ []
component_all i tags files total le so_far = so_far ∙ no_component (drop i tags) (drop i files) (drop_all i files le)

-- ---- the whole

pub part_step : (p : Parts) → part_breaks p ≡ break_in 106 (component_place 1) (read_component 1 p.header)
    ++ (break_in 106 (component_place 2) (read_component 2 p.directory) ++ component_breaks p.tags p.others)
part_step p =
    component_step 1 (2 ∷ p.tags) p.header (p.directory ∷ p.others)
    ∙ ap (λ (bs : List Break). break_in 106 (component_place 1) (read_component 1 p.header)
    ++ bs) (component_step 2 p.tags p.directory p.others)

pub behind_header : (p : Parts) (h : Component) → read_component 1 p.header ≡ Ok h
    → part_breaks p ≡ break_in 106 (component_place 2) (read_component 2 p.directory)
    ++ component_breaks p.tags p.others
behind_header p h header =
    part_step p ∙ ap (λ (r : Result Component ℕ). break_in 106 (component_place 1) r
    ++ (break_in 106 (component_place 2) (read_component 2 p.directory) ++ component_breaks p.tags p.others)) header

pub behind_directory : (p : Parts) (h d : Component) → read_component 1 p.header ≡ Ok h → read_component 2 p.directory
    ≡ Ok d → part_breaks p ≡ component_breaks p.tags p.others ++ []
behind_directory p h d header directory =
    behind_header p h header ∙ ap (λ (r : Result Component ℕ). break_in 106 (component_place 2) r
    ++ component_breaks p.tags p.others) directory ∙ sym (append-nil (component_breaks p.tags p.others))

abbrev pub IsOther : (tag : ℕ) → Type 0
IsOther tag = (1 ≤ tag) × (tag ≤ 11)

range_within : All IsOther (range_with_len 3 9)
range_within k d lt =
    let long : k < 9 = rw (length-range_with_len 3 9) at lt in
    let at = get_or-range_with_len 3 9 k d long in
    (omega (arith, at), omega (arith, at, long))

sizes_within : (sizes : List ℕ) → All IsOther (tags_with_size sizes)
unfolding tags_with_size
sizes_within sizes = All-filter (has_size sizes) IsOther (range_with_len 3 9) range_within

none_within : All IsOther []
none_within k d lt = absurd (omega (arith, lt))

-- Directory names no tags but these
pub tags_within : (bytes : List ℕ) → All IsOther (tags_of bytes)
tags_within bytes = of (read_component 2 bytes)
  where
    of : (r : Result Component ℕ) → All IsOther (tags_in r)
    of (Ok (components.Directory d)) = sizes_within d.component_sizes
    of (Ok (components.Header x)) = none_within
    of (Ok (components.Applet x)) = none_within
    of (Ok (components.Import x)) = none_within
    of (Ok (components.Pool x)) = none_within
    of (Ok (components.Class x)) = none_within
    of (Ok (components.Method x)) = none_within
    of (Ok (components.Statics x)) = none_within
    of (Ok (components.Locations x)) = none_within
    of (Ok (components.Export x)) = none_within
    of (Ok (components.Descriptor x)) = none_within
    of (Err e) = none_within
