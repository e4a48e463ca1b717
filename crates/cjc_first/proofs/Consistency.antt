-- The components of a package of the form are consistent with the export file of java/lang.
use Rattle.std.proofs.Common.{◌≡◌, ℕ, zero, suc, ◌+◌, ◌-◌, ◌*◌, ◌/◌, ◌≤◌, Bool, true, false, cond, List, [], ◌∷◌, ◌++◌, length, replicate, take, drop, refl, sym, ap, ◌∙◌, arith, length-append}
use Rattle.std.specs.Prelude.{Some, None, is_some, not, ◌==◌, ◌||◌, slice_get, nat_eq, nat_le, ◌&&◌, if◌then◌else◌, flat_map, option_map, pos, ◌+ℤ◌}
use Rattle.std.specs.List.{find, list_all, list_any, last_or}
use Rattle.std.specs.Ordering.{int_eq}
use Rattle.std.specs.Str.{bytes_eq}
use Rattle.std.proofs.lemmas.Bool.Decides.{nat_tests}
use Rattle.std.proofs.lemmas.List.{take_all, drop_all, length-replicate}
use Rattle.std.proofs.lemmas.Grind.{common_steps}
use Rattle.cjc_capread.specs.declared.tree.ClassRef.TheVariants.{Inside, Outside}
use Rattle.cjc_capread.specs.declared.tree.MethodDescriptor.{MethodDescriptor}
use Rattle.cjc_capread.specs.declared.tree.CapTree.{CapTree}
use Rattle.cjc_capwrite.specs.Package.{header_bytes, directory_bytes, import_bytes, imported_package_bytes}
use Rattle.cjc_capwrite.specs.Pool.{pool_bytes}
use Rattle.cjc_capwrite.specs.Class.{class_info_bytes, class_entry_bytes}
use Rattle.cjc_capwrite.specs.Method.{method_bytes}
use Rattle.cjc_capwrite.specs.Statics.{static_field_bytes, reference_location_bytes}
use Rattle.cjc_capwrite.specs.Export.{export_bytes, exported_class_bytes}
use Rattle.cjc_capwrite.specs.Descriptor.{packed, type_bytes, types_bytes, descriptor_bytes, class_descriptor_bytes, method_descriptor_bytes, code_bytes}
use Rattle.cjc_first.specs.Sentences.Complete.{Complete}
use Rattle.cjc_first.specs.Sentences.Instructions.{Instruction, instructions, indices, ends_code}
use Rattle.cjc_first.specs.Sentences.ClassRefs.{in_nibbles, is_there, classes_are_there, supers_fit}
use Rattle.cjc_first.specs.Sentences.Directory.{size_items, directory_agrees, flags_agree}
use Rattle.cjc_first.specs.Sentences.Imports.{imports_agree}
use Rattle.cjc_first.specs.Sentences.Tables.{tables_hold_methods, maps_hold_tokens}
use Rattle.cjc_first.specs.Sentences.PoolEntries.{members_are_there}
use Rattle.cjc_first.specs.Sentences.Methods.{Code, code_of, codes_from, header_size, onto, all_codes, code_is_closed, is_entry_for, all_indices, cut, ends_well, methods_are_whole, codes_are_closed, indices_have_tags}
use Rattle.cjc_first.specs.Sentences.Handlers.{handlers_stand, stop_bits_fit}
use Rattle.cjc_first.specs.Sentences.Locations.{places_of, distances, locations_are_listed}
use Rattle.cjc_first.specs.Sentences.Statics.{installs_are_static, image_adds_up}
use Rattle.cjc_first.specs.Sentences.Described.{exports_are_described, descriptor_is_whole}
use Rattle.cjc_first.specs.Sentences.Consistent.{Consistent}
use Rattle.cjc_classfile.specs.Code.{CodeTree}
use Rattle.cjc_classfile.specs.declared.tree.ClassTree.{ClassTree}
use Rattle.cjc_code.specs.declared.insn.JOp.{JOp}
use Rattle.cjc_export.specs.declared.tree.ExportTree.{ExportTree}
use Rattle.cjc_bytes.specs.AccessFlags.{has}
use Rattle.cjc_export.specs.Tokens.{has_token, own_tokens, HaveOwnTokens}
use Rattle.cjc_first.specs.Sentences.Classes.{imported, is_exported_class}
use Rattle.cjc_export.specs.declared.tree.ExportClass.{ExportClass}
use Rattle.cjc_first.specs.Above.{IsRoot}
use Rattle.cjc_first.proofs.Inheriting.{and_true}
use Rattle.cjc_first.specs.FirstForm.{PackageLine, IsFirstForm, is_sum, ops_of, object}
use Rattle.cjc_first.specs.Selected.{selected_code}
use Rattle.cjc_first.specs.Converted.{converted, tree_for, sizes, header_part, import_part, pool_part, class_part, method_part, static_part, location_part, export_part, descriptor_part, method_bytes as method_of}
use Rattle.cjc_first.proofs.Lists.{le_test}
use Rattle.cjc_first.proofs.Whole.{AreQuiet, Whole, sum_whole, quiet_lands, quiet_indices}
use Rattle.cjc_first.proofs.BehavesAlike.{short_header}

-- ---- sizes

same_bytes : (bytes : List ℕ) → bytes_eq bytes bytes ≡ true
same_bytes [] = refl
same_bytes (b ∷ bytes) = let e : nat_eq b b ≡ true = grind (arith, nat_tests) in ap (λ t. t && bytes_eq bytes bytes) e ∙ same_bytes bytes

packed_exactly : (ns : List ℕ) → (length (packed None ns) ≡ (length ns + 1) / 2) × ((high : ℕ) → length (packed (Some high) ns) ≡ (length ns + 2) / 2)
packed_exactly [] = (refl, λ high. refl)
packed_exactly (n ∷ ns) =
    let rest = packed_exactly ns in
    (omega (arith, rest.1 n), λ high. omega (arith, rest.0))

module _ (line : PackageLine) (lang : ExportTree) (root : ExportClass) (params : ℕ) (code : CodeTree) (ops : List JOp) where
  abbrev tree : CapTree
  tree = tree_for line lang root params code ops

  abbrev methods : List ℕ
  methods = method_of params code ops

  abbrev count : ℕ
  count = length (selected_code ops)

  header_long : length (header_bytes (header_part line)) ≡ 11 + length line.aid + length line.name
  unfolding header_bytes
  header_long = simp length-append (omega arith)

  descriptor_long : length (descriptor_bytes (descriptor_part params count)) ≡ 25 + (params + 2) / 2
  unfolding descriptor_bytes class_descriptor_bytes method_descriptor_bytes code_bytes types_bytes type_bytes
  descriptor_long =
      let nibbles = replicate {A = ℕ} (params + 1) 4 in
      let e : length nibbles ≡ params + 1 = length-replicate {A = ℕ} (params + 1) 4 in
      simp length-append (omega (arith, (packed_exactly nibbles).0, e))

  abbrev parts : Complete
  parts = record {
    applet = None;
    import = import_part lang;
    pool = pool_part;
    class = class_part root;
    method = method_part methods;
    statics = static_part;
    locations = location_part;
    export = Some export_part;
    descriptor = descriptor_part params count;
  }

  import_long : length (import_bytes (import_part lang)) ≡ 4 + length lang.aid
  unfolding import_bytes imported_package_bytes
  import_long = simp length-append (omega arith)

  items : size_items tree ≡ sizes line lang.aid params (length methods)
  unfolding tree_for directory_bytes pool_bytes class_info_bytes class_entry_bytes method_bytes static_field_bytes reference_location_bytes export_bytes exported_class_bytes
  items =
      let m : suc (length methods) ≡ 1 + length methods = omega arith in
      ap (λ h. h ∷ 33 ∷ 0 ∷ length (import_bytes (import_part lang)) ∷ 2 ∷ 12 ∷ suc (length methods) ∷ 10 ∷ 4 ∷ 7 ∷ length (descriptor_bytes (descriptor_part params count)) ∷ 0 ∷ []) header_long
      ∙ ap (λ i. (11 + length line.aid + length line.name) ∷ 33 ∷ 0 ∷ i ∷ 2 ∷ 12 ∷ suc (length methods) ∷ 10 ∷ 4 ∷ 7 ∷ length (descriptor_bytes (descriptor_part params count)) ∷ 0 ∷ []) import_long
      ∙ ap (λ n. (11 + length line.aid + length line.name) ∷ 33 ∷ 0 ∷ (4 + length lang.aid) ∷ 2 ∷ 12 ∷ n ∷ 10 ∷ 4 ∷ 7 ∷ length (descriptor_bytes (descriptor_part params count)) ∷ 0 ∷ []) m
      ∙ ap (λ d. (11 + length line.aid + length line.name) ∷ 33 ∷ 0 ∷ (4 + length lang.aid) ∷ 2 ∷ 12 ∷ (1 + length methods) ∷ 10 ∷ 4 ∷ 7 ∷ d ∷ 0 ∷ []) descriptor_long

  directory : directory_agrees tree ≡ true
  unfolding directory_agrees tree_for
  directory =
      let s = sizes line lang.aid params (length methods) in
      ap (λ xs. bytes_eq s xs && true) items ∙ ap (λ t. t && true) (same_bytes s)

  flags : flags_agree tree ≡ true
  unfolding flags_agree tree_for
  flags = refl

-- ---- the method

is_short : (room : ℕ) → room ≤ 15 → (has room 0x80 ≡ false) × (has room 0x40 ≡ false)
is_short room le = (grind (arith, common_steps), grind (arith, common_steps))

abbrev method : (count : ℕ) → MethodDescriptor
method count = record { token = 0; flags = 0x09; offset = 1; type_offset = 2; bytecode_count = count; handler_count = 0; first_handler = 0 }

-- a method with a short header is cut into its instructions
cut_short : (room x : ℕ) (code : List ℕ) (is : List Instruction) → room ≤ 15 → instructions 3 code ≡ Some is → codes_from 1 (method (length code) ∷ []) (room ∷ x ∷ code) ≡ Some (code_of false 3 (length code) is ∷ [])
cut_short room x code is le are =
    let n = length code in
    let bytes = room ∷ x ∷ code in
    let short = is_short room le in
    let size : header_size bytes ≡ 2 = ap (λ t. if t then 4 else 2) short.0 in
    let all : drop (2 + n) bytes ≡ [] = drop_all (2 + n) bytes (omega arith) in
    let holds : nat_le (2 + n) (length bytes) ≡ true = le_test (2 + n) (length bytes) (omega arith) in
    ap (λ h. onto (if nat_le (h + n) (length bytes) then option_map (code_of (has room 0x40) (1 + h) n) (instructions (1 + h) (take n (drop h bytes))) else None) (codes_from (1 + (h + n)) [] (drop (h + n) bytes))) size
    ∙ ap (λ t. onto (if t then option_map (code_of (has room 0x40) 3 n) (instructions 3 (take n code)) else None) (codes_from (1 + (2 + n)) [] (drop (2 + n) bytes))) holds
    ∙ ap (λ b. onto (option_map (code_of (has room 0x40) 3 n) (instructions 3 (take n code))) (codes_from (1 + (2 + n)) [] b)) all
    ∙ ap (λ a. onto (option_map (code_of a 3 n) (instructions 3 (take n code))) (Some [])) short.1
    ∙ ap (λ c. onto (option_map (code_of false 3 n) (instructions 3 c)) (Some [])) (take_all n code (omega arith))
    ∙ ap (λ o. onto (option_map (code_of false 3 n) o) (Some [])) are

closed : (code : Code) → AreQuiet code.instructions → (i : Instruction) → last_or None code.instructions ≡ Some i → ends_code i.opcode ≡ true → code_is_closed code ≡ true
closed code quiet i last ends =
    ap (λ t. t && ends_well code (last_or None code.instructions)) (quiet_lands (λ by i. list_any (λ j. int_eq (pos j.at) (pos i.at +ℤ by)) code.instructions) code.instructions quiet)
    ∙ ap (ends_well code) last ∙ ends

types_name_none : (n : ℕ) → in_nibbles (replicate n 4) ≡ []
types_name_none zero = refl
types_name_none (suc zero) = refl
types_name_none (suc (suc zero)) = refl
types_name_none (suc (suc (suc zero))) = refl
types_name_none (suc (suc (suc (suc zero)))) = refl
types_name_none (suc (suc (suc (suc (suc n))))) = types_name_none (suc (suc (suc (suc n))))

-- ---- the other sentences

or_true : (a b : Bool) → b ≡ true → (a || b) ≡ true
or_true true b e = refl
or_true false b e = e

same_token : (t : ℕ) → (t == t) ≡ true
same_token t = grind (arith, nat_tests)

-- a class that is found has its token among those of the classes
token_among : (classes : List ExportClass) (root : ExportClass) → find (λ c. bytes_eq c.name object) classes ≡ Some root → has_token root.token classes ≡ true
token_among [] root e = absurd cc
token_among (c ∷ cs) root e = by (bytes_eq c.name object) e (token_among cs root)
  where
    by : (b : Bool) → cond b (Some c) (find (λ x. bytes_eq x.name object) cs) ≡ Some root → (find (λ x. bytes_eq x.name object) cs ≡ Some root → has_token root.token cs ≡ true) → (c.token == root.token || has_token root.token cs) ≡ true
    by true f more =
        let same : c ≡ root = cc in
        ap (λ (x : ExportClass). x.token == root.token || has_token root.token cs) same ∙ ap (λ t. t || has_token root.token cs) (same_token root.token)
    by false f more = or_true (c.token == root.token) (has_token root.token cs) (more f)

other_token : (c root : ExportClass) (cs : List ExportClass) → has_token c.token cs ≡ false → has_token root.token cs ≡ true → (c.token == root.token) ≡ false
other_token c root cs unlike there =
    elim (c.token == root.token) as (λ (b : Bool). (c.token == root.token) ≡ b → b ≡ false) [
      | true ↦ λ is. (
          let same : c.token ≡ root.token = grind (arith, nat_tests) in
          let both : true ≡ false = sym there ∙ ap (λ t. has_token t cs) (sym same) ∙ unlike in
          absurd cc)
      | false ↦ λ is. refl
    ] refl

not_there : (a b : Bool) → (not a && b) ≡ true → (a ≡ false) × (b ≡ true)
not_there true b e = absurd cc
not_there false b e = (refl, e)

-- the class of the export file by its name is that by its token
by_its_token : (classes : List ExportClass) (root : ExportClass) → own_tokens classes ≡ true → find (λ c. bytes_eq c.name object) classes ≡ Some root → find (λ c. c.token == root.token) classes ≡ Some root
by_its_token [] root own e = absurd cc
by_its_token (c ∷ cs) root own e =
    let both = not_there (has_token c.token cs) (own_tokens cs) own in
    by both.0 (bytes_eq c.name object) e (by_its_token cs root both.1)
  where
    by : has_token c.token cs ≡ false → (b : Bool) → cond b (Some c) (find (λ x. bytes_eq x.name object) cs) ≡ Some root
        → (find (λ x. bytes_eq x.name object) cs ≡ Some root → find (λ x. x.token == root.token) cs ≡ Some root) → find (λ x. x.token == root.token) (c ∷ cs) ≡ Some root
    by unlike true f more =
        let same : c ≡ root = cc in
        let test : (c.token == root.token) ≡ true = ap (λ (x : ExportClass). x.token == root.token) same ∙ same_token root.token in
        ap (λ t. cond t (Some c) (find (λ x. x.token == root.token) cs)) test ∙ ap Some same
    by unlike false f more =
        let test = other_token c root cs unlike (token_among cs root f) in
        ap (λ t. cond t (Some c) (find (λ x. x.token == root.token) cs)) test ∙ more f

module _ (line : PackageLine) (lang : ExportTree) (root : ExportClass) (is_root : IsRoot lang root) (own : own_tokens lang.classes ≡ true) (params : ℕ) (code : CodeTree) (ops : List JOp) (room : code.max_stack ≤ 15) (few : params ≤ 15) (locals : code.max_locals ≤ 15) (sum : is_sum params ops ≡ true) where
  abbrev whole : Whole 3 (selected_code ops)
  whole = sum_whole params ops sum 3

  abbrev written : Complete
  written = parts line lang root params code ops

  abbrev cut_code : Code
  cut_code = code_of false 3 (length (selected_code ops)) whole.is

  cut_is : cut written ≡ Some (cut_code ∷ [])
  unfolding cut
  cut_is =
      ap (λ h. codes_from 1 (method (length (selected_code ops)) ∷ []) (h ++ selected_code ops)) (short_header code.max_stack params (code.max_locals - params) room few (omega (arith, locals)))
      ∙ cut_short code.max_stack (16 * params + (code.max_locals - params)) (selected_code ops) whole.is room whole.are

  no_indices : all_indices written ≡ []
  no_indices = ap (λ o. flat_map (λ c. flat_map indices c.instructions) (all_codes o)) cut_is ∙ ap (λ xs. xs ++ []) (quiet_indices whole.is whole.quiet)

  and_also : (a b : Bool) → a ≡ true → b ≡ true → (a && b) ≡ true
  and_also a b e f = ap (λ t. t && b) e ∙ f

  imports : imports_agree written (lang ∷ []) ≡ true
  unfolding imports_agree
  imports =
      let major : (lang.major == lang.major) ≡ true = grind (arith, nat_tests) in
      and_also _ _ (and_also _ _ major (same_bytes lang.aid)) refl

  found : imported (lang ∷ []) 0 root.token ≡ Some root
  found = by_its_token lang.classes root own is_root.named

  classes : classes_are_there written (lang ∷ []) ≡ true
  unfolding classes_are_there
  classes =
      ap (λ rs. list_all (is_there (class_part root) (lang ∷ [])) (Outside 0 root.token ∷ Inside 2 ∷ (rs ++ []))) (types_name_none (params + 1))
      ∙ ap (λ o. is_some o && true) found

  supers : supers_fit written (lang ∷ []) ≡ true
  unfolding supers_fit
  supers =
      ap (λ o. ((is_exported_class o && true) && true) && true) found
      ∙ ap (λ b. ((not b && true) && true) && true) is_root.is_class

  tables : tables_hold_methods written ≡ true
  unfolding tables_hold_methods
  tables = refl

  maps : maps_hold_tokens written (lang ∷ []) ≡ true
  unfolding maps_hold_tokens
  maps = refl

  members : members_are_there written (lang ∷ []) ≡ true
  unfolding members_are_there
  members = refl

  are_whole : methods_are_whole written ≡ true
  unfolding methods_are_whole
  are_whole = ap is_some cut_is

  are_closed : codes_are_closed written ≡ true
  unfolding codes_are_closed
  are_closed =
      let last = whole.last None in
      ap (λ o. list_all code_is_closed (all_codes o)) cut_is ∙ ap (λ t. t && true) (closed cut_code whole.quiet last.0 last.1 last.2)

  tags : indices_have_tags written ≡ true
  unfolding indices_have_tags
  tags = ap (list_all (λ i. is_entry_for (slice_get [] i.index) i.opcode)) no_indices

  handlers : handlers_stand written ≡ true
  unfolding handlers_stand
  handlers = refl

  stops : stop_bits_fit written ≡ true
  unfolding stop_bits_fit
  stops = refl

  locations : locations_are_listed written ≡ true
  unfolding locations_are_listed
  locations = ap (λ xs. bytes_eq [] (distances 0 (places_of 1 xs)) && bytes_eq [] (distances 0 ([] ++ places_of 2 xs))) no_indices

  installs : installs_are_static written ≡ true
  unfolding installs_are_static
  installs = refl

  image : image_adds_up written ≡ true
  unfolding image_adds_up
  image = refl

  exports : exports_are_described written ≡ true
  unfolding exports_are_described
  exports = refl

  descriptor : descriptor_is_whole written ≡ true
  unfolding descriptor_is_whole
  descriptor = refl

  pub consistent : Consistent (tree_for line lang root params code ops) (lang ∷ [])
  unfolding tree_for
  consistent =
      and_also _ _ (directory line lang root params code ops)
      (and_also _ _ (flags line lang root params code ops)
      (and_also _ _ imports
      (and_also _ _ classes
      (and_also _ _ supers
      (and_also _ _ tables
      (and_also _ _ maps
      (and_also _ _ members
      (and_also _ _ are_whole
      (and_also _ _ are_closed
      (and_also _ _ tags
      (and_also _ _ handlers
      (and_also _ _ stops
      (and_also _ _ locations
      (and_also _ _ installs
      (and_also _ _ image
      (and_also _ _ exports
      (and_also _ _ descriptor refl)))))))))))))))))

-- The components of a package of the form are consistent with the export file whose class is the superclass.
pub form_is_consistent : (line : PackageLine) (tree : ClassTree) (form : IsFirstForm line tree) (lang : ExportTree) (root : ExportClass) → IsRoot lang root → HaveOwnTokens (lang ∷ []) → Consistent (converted line lang root tree form) (lang ∷ [])
form_is_consistent line class form lang root is_root own =
    let m = form.is_sum in
    let c = m.is_sum in
    consistent line lang root is_root (and_true (own_tokens lang.classes) true own).0 form.params form.code (ops_of form.insns) c.stack m.few c.locals c.is_sum
