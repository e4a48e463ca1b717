-- Packages as they are loaded together, each beside itself alone.
use Rattle.std.proofs.Common.{◌≡◌, ℕ, zero, suc, ◌+◌, arith, refl, sym, ap, ◌∙◌, Bool, true, List, [], ◌∷◌, map}
use Rattle.std.specs.Prelude.{Option, Some, None, option_map, option_and_then, slice_get, is_some, if◌then◌else◌}
use Rattle.cjc_token_proof.proofs.BytesGets.{get_mapped}
use Rattle.cjc_card_semantics.specs.CapRead.declared.tree.ExportedClass.{ExportedClass}
use Rattle.cjc_card_semantics.specs.CapRead.declared.tree.ClassRef.TheVariants.{Outside}
use Rattle.cjc_card_semantics.specs.CapRead.declared.tree.StaticRef.TheVariants as refs
use Rattle.cjc_card_semantics.specs.Machine.Classes.{Class, Own, External, class_of, external, import_of}
use Rattle.cjc_card_semantics.specs.Machine.Classes.{imported_class, info_of}
use Rattle.cjc_card_semantics.specs.Machine.Operations.{Callee, Fixed, cell_through, method_through, outer}
use Rattle.cjc_card_semantics.specs.Machine.Operations.{static_cell, static_method, unbound_of}
use Rattle.cjc_card_semantics.specs.Machine.Classes.{info_at, where_there, with_token}
use Rattle.cjc_card_semantics.specs.Machine.Loaded.{OfFile, Loaded, Part}
use Rattle.cjc_card_semantics.specs.ExportFile.declared.tree.ExportClass.{ExportClass}
use Rattle.cjc_card_semantics.specs.ExportFile.declared.tree.ExportMethod.{ExportMethod}
use Rattle.cjc_card_semantics.specs.ExportFile.declared.tree.ExportTree.{ExportTree}
use Rattle.cjc_link_semantics.specs.Components.Paired.Naming.{files_from, part_of}
use Rattle.cjc_link_semantics.specs.Loaded.{Member, group_loaded, import_as, import_by, package_number, part_in}
use Rattle.cjc_link_semantics.specs.Loaded.{tree_number}
use Rattle.cjc_joint_proof.specs.Loading.{AllLead, Leads, alone, to_package, to_outside}
use Rattle.cjc_joint_proof.specs.Naming.{HasEach}
use Rattle.cjc_joint_proof.specs.Parts.{HasNoOther, IsPart, class_in}

files_at : (n : ℕ) (ts : List ExportTree) (k : ℕ)
    → slice_get (files_from n ts) k ≡ option_map (λ (t : ExportTree). OfFile (n + k)) (slice_get ts k)
files_at n [] k = refl
files_at n (t ∷ ts) zero = let z : n ≡ n + 0 = omega arith in ap (λ m. Some (OfFile m)) z
files_at n (t ∷ ts) (suc k) =
    let s : n + 1 + k ≡ n + suc k = omega arith in
    files_at (n + 1) ts k ∙ ap (λ m. option_map (λ (t : ExportTree). OfFile m) (slice_get ts k)) s

-- a class of an export file, of the file that is there
pub external_at : (l : Loaded) (k token : ℕ) (o : Option ExportTree) → slice_get l.trees k ≡ o → external l k token
    ≡ option_and_then (λ (t : ExportTree). with_token t.classes token) o
external_at l k token o e = ap (option_and_then (λ (t : ExportTree). with_token t.classes token)) e

module _ (m : Member) where
  by_files : (k token : ℕ) → option_and_then (imported_class (alone m) token) (import_of (alone m) 0 k)
      ≡ imported_class (alone m) token (OfFile k)
  by_files k token =
      let files = m.files in
      ap (option_and_then (imported_class (alone m) token)) (files_at 0 files.exports k)
      ∙ by (slice_get files.exports k) refl
    where
      by : (o : Option ExportTree) → (let files = m.files in slice_get files.exports k ≡ o)
          → option_and_then (imported_class (alone m) token) (option_map (λ (t : ExportTree). OfFile (0 + k)) o)
          ≡ imported_class (alone m) token (OfFile k)
      by None e = sym (ap (λ o. if is_some o then Some (External k token) else None) (external_at (alone m) k token None
          e))
      by (Some t) e = let z : 0 + k ≡ k = omega arith in ap (λ n. imported_class (alone m) token (OfFile n)) z

module _ (group : List Member) (q : ℕ) (m : Member) (is : slice_get group q ≡ Some m) where
  part_there : (let l = group_loaded group in slice_get l.parts q ≡ Some (part_in group l.trees m))
  part_there =
      let l = group_loaded group in
      get_mapped (part_in group l.trees) group q ∙ ap (option_map (part_in group l.trees)) is

  pub is_part : IsPart (alone m) (group_loaded group) q
  is_part =
      let l = group_loaded group in
      let files = m.files in
      record {
        part = part_of m.applets m.files m.image m.components;
        imports = map (import_by group l.trees) files.exports;
        by_itself = refl;
        files = by_files m;
        there = part_there;
      }

  -- what a package token of the group's package means
  pub import_at : (k : ℕ) (o : Option ExportTree) → (let files = m.files in slice_get files.exports k ≡ o)
      → import_of (group_loaded group) q k ≡ option_map (import_by group (let l = group_loaded group in l.trees)) o
  import_at k o e =
      let l = group_loaded group in
      let files = m.files in
      ap (option_and_then (λ (part : Part). slice_get part.imports k)) part_there
      ∙ (get_mapped (import_by group l.trees) files.exports k ∙ ap (option_map (import_by group l.trees)) e)

  class_at_import : (k token : ℕ) (t : ExportTree) → (let files = m.files in slice_get files.exports k ≡ Some t)
      → class_in (group_loaded group) q (External k token) ≡ imported_class (group_loaded group) token (import_by group
      (let l = group_loaded group in l.trees) t)
  class_at_import k token t e = ap (option_and_then (imported_class (group_loaded group) token)) (import_at k (Some t)
      e)

  module _ (k token : ℕ) (t : ExportTree) (listed : let files = m.files in slice_get files.exports k ≡ Some t) where
    -- an import that is a package of the group
    through_package : (r : ℕ) (part : Part) → package_number group t.name ≡ Some r
        → (let l = group_loaded group in slice_get l.parts r ≡ Some part)
        → class_in (group_loaded group) q (External k token)
        ≡ option_and_then (λ (e : ExportedClass). where_there (group_loaded group) (Own r e.class_offset)) (slice_get
        part.exports token)
    through_package r part number there =
        let l = group_loaded group in
        class_at_import k token t listed
        ∙ (ap (λ o. imported_class l token (import_as l.trees t.name o)) number
        ∙ ap (option_and_then (λ (p : Part). option_and_then (λ (e : ExportedClass). where_there l (Own r
        e.class_offset)) (slice_get p.exports token))) there)

    through_file : package_number group t.name ≡ None
        → (let l = group_loaded group in slice_get l.trees (tree_number l.trees t.name) ≡ Some t)
        → class_in (group_loaded group) q (External k token)
        ≡ (if is_some (with_token t.classes token) then Some (External (tree_number (let l = group_loaded group in
        l.trees) t.name) token) else None)
    through_file number there =
        let l = group_loaded group in
        class_at_import k token t listed
        ∙ (ap (λ o. imported_class l token (import_as l.trees t.name o)) number
        ∙ ap (λ o. if is_some o then Some (External (tree_number l.trees t.name) token) else None) (external_at l
        (tree_number l.trees t.name) token (Some t) there))

    pub leads_inside : (r : ℕ) (part : Part) → package_number group t.name ≡ Some r
        → (let l = group_loaded group in slice_get l.parts r ≡ Some part) → (c : ExportedClass)
        → slice_get part.exports token ≡ Some c → is_some (info_at part c.class_offset) ≡ true
        → class_in (group_loaded group) q (External k token) ≡ Some (Own r c.class_offset)
    leads_inside r part number there c at has =
        let l = group_loaded group in
        let info : info_of l r c.class_offset ≡ info_at part c.class_offset = ap (option_and_then (λ (p : Part). info_at
        p c.class_offset)) there in
        through_package r part number there
        ∙ (ap (option_and_then (λ (e : ExportedClass). where_there l (Own r e.class_offset))) at
        ∙ (ap (λ o. if is_some o then Some (Own r c.class_offset) else None) info
        ∙ ap (λ b. if b then Some (Own r c.class_offset) else None) has))

    pub leads_outside : (e : ExportClass) → with_token t.classes token ≡ Some e → package_number group t.name ≡ None
        → (let l = group_loaded group in slice_get l.trees (tree_number l.trees t.name) ≡ Some t)
        → class_in (group_loaded group) q (External k token) ≡ Some (External (tree_number (let l = group_loaded group
        in l.trees) t.name) token)
    leads_outside e at number there =
        let l = group_loaded group in
        through_file number there
        ∙ ap (λ o. if is_some o then Some (External (tree_number l.trees t.name) token) else None) at

    none_there : with_token t.classes token ≡ None → Leads group t
        → class_in (group_loaded group) q (External k token) ≡ None
    none_there none (to_package r part number there exports) =
        let l = group_loaded group in
        through_package r part number there
        ∙ ap (option_and_then (λ (e : ExportedClass). where_there l (Own r e.class_offset))) (exports.no_other token
        none)
    none_there none (to_outside number there) =
        let l = group_loaded group in
        through_file number there
        ∙ ap (λ o. if is_some o then Some (External (tree_number l.trees t.name) token) else None) none

  pub no_other : AllLead group m → HasNoOther (alone m) (group_loaded group) q
  no_other lead k token none = by (let files = m.files in slice_get files.exports k) refl
    where
      by : (o : Option ExportTree) → (let files = m.files in slice_get files.exports k ≡ o)
          → class_in (group_loaded group) q (External k token) ≡ None
      by None e = ap (option_and_then (imported_class (group_loaded group) token)) (import_at k None e)
      by (Some t) e = none_there k token t e (sym (external_at (alone m) k token (Some t) e) ∙ none) (lead k t e)

  -- ---- what the package can name is there

  class_of_export : (k token : ℕ) (c : Class) → class_of (alone m) 0 (Outside k token) ≡ Some c
      → is_some (external (alone m) k token) ≡ true
  class_of_export k token c e = by (external (alone m) k token) (sym (by_files m k token) ∙ e)
    where
      by : (o : Option ExportClass) → (if is_some o then Some (External k token) else None) ≡ Some c → is_some o ≡ true
      by None f = cc
      by (Some x) f = refl

  class_led : AllLead group m → (k token : ℕ) (e : ExportClass) (o : Option ExportTree)
      → (let files = m.files in slice_get files.exports k ≡ o) → external (alone m) k token ≡ Some e → (d : Class)
      × (class_in (group_loaded group) q (External k token) ≡ Some d)
  class_led lead k token e None at there =
      let no : None ≡ Some e = sym (external_at (alone m) k token None at) ∙ there in absurd (cc)
  class_led lead k token e (Some t) at there =
      let has = sym (external_at (alone m) k token (Some t) at) ∙ there in by has (lead k t at)
    where
      by : with_token t.classes token ≡ Some e → Leads group t → (d : Class)
          × (class_in (group_loaded group) q (External k token) ≡ Some d)
      by has (to_package r part number loaded exports) =
          let x = exports.each token e has in (
            Own r (let c = x.class in c.class_offset),
            leads_inside k token t at r part number loaded x.class x.listed
                x.there,
          )
      by has (to_outside number loaded) = (
        External (tree_number (let l = group_loaded group in l.trees) t.name) token,
        leads_outside k token t at e has
            number loaded,
      )

  class_there : AllLead group m → (k token : ℕ) (c : Class) → class_of (alone m) 0 (Outside k token) ≡ Some c
      → (d : Class) × (class_of (group_loaded group) q (Outside k token) ≡ Some d)
  class_there lead k token c e = by (external (alone m) k token) refl (class_of_export k token c e)
    where
      by : (o : Option ExportClass) → external (alone m) k token ≡ o → is_some o ≡ true → (d : Class)
          × (class_of (group_loaded group) q (Outside k token) ≡ Some d)
      by None at f = cc
      by (Some x) at f = class_led lead k token x (let files = m.files in slice_get files.exports k) refl at

  import_alone : (k : ℕ) (o : Option ExportTree) → (let files = m.files in slice_get files.exports k ≡ o)
      → import_of (alone m) 0 k ≡ option_map (λ (t : ExportTree). OfFile (0 + k)) o
  import_alone k o e =
      let files = m.files in files_at 0 files.exports k ∙ ap (option_map (λ (t : ExportTree). OfFile (0 + k))) e

  no_cell : (k class token : ℕ) → static_cell (alone m) 0 (refs.Outside k class token) ≡ None
  no_cell k class token = by (let files = m.files in slice_get files.exports k) refl
    where
      by : (o : Option ExportTree) → (let files = m.files in slice_get files.exports k ≡ o)
          → static_cell (alone m) 0 (refs.Outside k class token) ≡ None
      by None e = ap (option_and_then (cell_through (alone m) class token)) (import_alone k None e)
      by (Some t) e = ap (option_and_then (cell_through (alone m) class token)) (import_alone k (Some t) e)

  -- a method that an export file lists in a class
  record Listed (on : Bool) (class token : ℕ) (t : ExportTree) : Type 0 where
    entry : ExportClass
    method : ExportMethod
    has : with_token t.classes class ≡ Some entry
    listed : unbound_of entry.methods token ≡ Some method

  listed_in : (on : Bool) (class token : ℕ) (t : ExportTree) (c : Callee) (o : Option ExportClass)
      → with_token t.classes class ≡ o → option_and_then (λ (e : ExportClass). option_map (outer on e.name) (unbound_of
      e.methods token)) o ≡ Some c → Listed on class token t
  listed_in on class token t c None has e = cc
  listed_in on class token t c (Some x) has e = by (unbound_of x.methods token) refl e
    where
      by : (o : Option ExportMethod) → unbound_of x.methods token ≡ o → option_map (outer on x.name) o ≡ Some c
          → Listed on class token t
      by None at f = cc
      by (Some y) at f = record { entry = x; method = y; has = has; listed = at }

  method_led : (on : Bool) (k class token : ℕ) (t : ExportTree) → (let files = m.files in slice_get files.exports k
      ≡ Some t) → Leads group t → Listed on class token t → (c : Callee) × (static_method (group_loaded group) q on
      (refs.Outside k class token) ≡ Some c)
  method_led on k class token t at (to_package r part number loaded exports) x =
      let l = group_loaded group in
      let y = exports.each class x.entry x.has in
      let z = y.methods token x.method x.listed in (
        Fixed on r z.0,
        ap (option_and_then (method_through l on class token)) (import_at k (Some t) at)
            ∙ (ap (λ o. method_through l on class token (import_as l.trees t.name o)) number
            ∙ (ap (option_and_then (λ (p : Part). option_and_then (λ (e : ExportedClass). option_map (Fixed on r)
            (slice_get
            e.methods token)) (slice_get p.exports class))) loaded
            ∙ (ap (option_and_then (λ (e : ExportedClass). option_map (Fixed on r) (slice_get e.methods token)))
            y.listed
            ∙ ap (option_map (Fixed on r)) z.1))),
      )
  method_led on k class token t at (to_outside number loaded) x =
      let l = group_loaded group in
      let e = x.entry in (
        outer on e.name x.method,
        ap (option_and_then (method_through l on class token)) (import_at k (Some t) at)
            ∙ (ap (λ o. method_through l on class token (import_as l.trees t.name o)) number
            ∙ (ap (option_and_then (λ (e : ExportClass). option_map (outer on e.name) (unbound_of e.methods token)))
            (external_at l (tree_number l.trees t.name) class (Some t) loaded ∙ x.has)
            ∙ ap (option_map (outer on e.name)) x.listed)),
      )

  method_there : AllLead group m → (on : Bool) (k class token : ℕ) (c : Callee)
      → static_method (alone m) 0 on (refs.Outside k class token) ≡ Some c → (d : Callee)
      × (static_method (group_loaded group) q on (refs.Outside k class token) ≡ Some d)
  method_there lead on k class token c e = by (let files = m.files in slice_get files.exports k) refl
    where
      by : (o : Option ExportTree) → (let files = m.files in slice_get files.exports k ≡ o) → (d : Callee)
          × (static_method (group_loaded group) q on (refs.Outside k class token) ≡ Some d)
      by None at =
          let no : None ≡ Some c = sym (ap (option_and_then (method_through (alone m) on class token)) (import_alone k
          None at)) ∙ e in absurd (cc)
      by (Some t) at =
          let z : 0 + k ≡ k = omega arith in
          let through = sym (ap (option_and_then (method_through (alone m) on class token)) (import_alone k (Some t)
          at)) ∙ e in
          let there = sym (ap (λ n. method_through (alone m) on class token (OfFile n)) z) ∙ through in
          let found = sym (ap (option_and_then (λ (e : ExportClass). option_map (outer on e.name) (unbound_of e.methods
          token))) (external_at (alone m) k class (Some t) at)) ∙ there in
          method_led on k class token t at (lead k t at) (listed_in on class token t c (with_token t.classes class) refl
          found)

  pub has_each : AllLead group m → HasEach (alone m) (group_loaded group) q
  has_each lead = record {
    classes = class_there lead;
    cells = λ k class token s e. (let no : None ≡ Some s = sym (no_cell k class token) ∙ e in absurd (cc));
    methods = method_there lead;
  }
