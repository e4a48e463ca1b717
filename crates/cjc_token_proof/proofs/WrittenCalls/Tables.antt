-- The infos of classes have their tables and maps.
use Rattle.std.proofs.Common.{◌≡◌, ℕ, zero, suc, ◌+◌, refl, sym, ap, subst, ◌∙◌, arith, Bool, true, false, List, []}
use Rattle.std.proofs.Common.{◌∷◌}
use Rattle.std.specs.Prelude.{Some, None, slice_get, map, unwrap_or, option_and_then, is_some, if◌then◌else◌}
use Rattle.cjc_bytes.specs.AccessFlags.{is_interface}
use Rattle.cjc_token_proof.specs.ByToken.Supers.{has_class}
use Rattle.cjc_token_proof.specs.Calls.Dispatching.{SaysTables}
use Rattle.cjc_card_semantics.specs.Machine.Classes.{Class as CardClass, Own, External, IsClass, IsInterface, class_of}
use Rattle.cjc_card_semantics.specs.Machine.Classes.{imported_class, info_of, where_there}
use Rattle.cjc_card_semantics.specs.Machine.Loaded.{OfFile}
use Rattle.cjc_components.specs.Class.{class_entry, interface_entry}
use Rattle.cjc_components.specs.Methods.{method_offset}
use Rattle.cjc_components.specs.Names.{class_at, class_ref, ref_to}
use Rattle.cjc_components.specs.Package.{Package, world}
use Rattle.cjc_world.specs.ExportFile.declared.tree.ExportTree.{ExportTree}
use Rattle.cjc_ncode.specs.Lowering.Naming.{IsClass as Means}
use Rattle.cjc_components.specs.Paired.Naming.{files_from}
use Rattle.cjc_token_proof.specs.Tables.Infos.{HasEntry, HasInfo}
use Rattle.cjc_token_proof.specs.Tables.Loading.{loaded, naming}
use Rattle.cjc_tokens.specs.Lines.{line_at}
use Rattle.cjc_tokens.specs.Methods.{interfaces_at}
use Rattle.cjc_tokens.specs.Slots.{shown_token}
use Rattle.cjc_vtable.specs.declared.table.InterfaceMap.{InterfaceMap}
use Rattle.cjc_vtable.specs.Tables.{interface_map}
use Rattle.cjc_world.specs.Classes.{Class, class_named}
use Rattle.cjc_world.specs.Interfaces.{known}
use Rattle.cjc_world.proofs.Cycles.{class_named-name}
use Rattle.cjc_token_proof.proofs.WrittenCalls.Facts.{Facts}
use Rattle.cjc_token_proof.proofs.WrittenCalls.SupertypeTrees.{interfaces_fine}

-- ---- class_refs mean classes

pub import_at : (k : ℕ) (trees : List ExportTree) (j : ℕ) (t : ExportTree) → slice_get trees j ≡ Some t
    → slice_get (files_from k trees) j ≡ Some (OfFile (k + j))
import_at k [] j t e = absurd (cc)
import_at k (u ∷ trees) zero t e = let z : k ≡ k + 0 = omega arith in ap (λ n. Some (OfFile n)) z
import_at k (u ∷ trees) (suc j) t e = let z : k + 1 + j ≡ k + suc j = omega arith in import_at (k + 1) trees j t e
    ∙ ap (λ n. Some (OfFile n)) z

module _ (p : Package) (facts : Facts p) where
  ref_of_own : (c : Class) → HasInfo p c → class_of (loaded p) 0 (class_ref p c.name) ≡ Some (class_at p c.name)
  ref_of_own c h =
      ap (λ (k : CardClass). class_of (loaded p) 0 (ref_to k)) h.on_card
      ∙ ap (λ o. if is_some o then Some (Own 0 h.offset) else None) h.info
      ∙ ap Some (sym h.on_card)

  ref_of_file : (c : Class) → HasEntry p c → class_of (loaded p) 0 (class_ref p c.name) ≡ Some (class_at p c.name)
  ref_of_file c h =
      ap (λ (k : CardClass). class_of (loaded p) 0 (ref_to k)) h.on_card
      ∙ ap (option_and_then (imported_class (loaded p) h.entry.token)) (import_at 0 p.files.exports h.file h.tree
      h.in_list)
      ∙ (let z : 0 + h.file ≡ h.file = omega arith in ap (λ n. where_there (loaded p) (External n h.entry.token)) z)
      ∙ ap (λ o. if is_some o then Some (External h.file h.entry.token) else None) h.there
      ∙ ap Some (sym h.on_card)

  pub class_meant : (x : List ℕ) (c : Class) → class_named (world p) x ≡ Some c → Means (naming p) x
  class_meant x c e = by c.is_imported refl
    where
      by : (t : Bool) → c.is_imported ≡ t → Means (naming p) x
      by true is = subst (Means (naming p)) (class_named-name (world p) x c e) (ref_of_file c (facts.file x c e is))
      by false is = subst (Means (naming p)) (class_named-name (world p) x c e) (ref_of_own c (facts.own x c e is))

  -- ---- tables

  mapped : (c : Class) (is : List Class) → ((k : ℕ) (i : Class) → slice_get is k ≡ Some i → class_named (world p) i.name
      ≡ Some i) → (k : ℕ) (m : InterfaceMap) → slice_get (map
      (interface_map (world p) (shown_token (line_at (world p) c)))
      is) k ≡ Some m → has_class (world p) m.interface ≡ true
  mapped c [] fine k m e = absurd (cc)
  mapped c (i ∷ is) fine zero m e =
      let same : interface_map (world p) (shown_token (line_at (world p) c)) i ≡ m = cc in
      sym (ap (λ (q : InterfaceMap). has_class (world p) q.interface) same) ∙ ap is_some (fine 0 i refl)
  mapped c (i ∷ is) fine (suc k) m e = mapped c is (λ j o h. fine (suc j) o h) k m e

  -- the info of a class of the package
  pub entry_there : (x : List ℕ) (c : Class) (known : class_named (world p) x ≡ Some c) (own : c.is_imported ≡ false)
      → is_interface c.flags ≡ false → (let h = facts.own x c known own in info_of (loaded p) 0 h.offset
      ≡ Some (IsClass (class_entry (class_ref p) p c)))
  entry_there x c known own class_here =
      let h = facts.own x c known own in
      h.info ∙ ap (λ t. Some (if t then IsInterface (interface_entry (class_ref p) (world p) c)
      else IsClass (class_entry (class_ref p) p c))) class_here

  pub tables : (x s : List ℕ) (c : Class) → class_named (world p) x ≡ Some c → c.is_imported ≡ false
      → is_interface c.flags ≡ false → c.supers ≡ s ∷ [] → SaysTables (world p) (naming p) (method_offset p) x c s
  tables x s c e own class_here supers =
      let h = facts.own x c e own in
      let d = facts.super_there x s c e own supers in
      record {
        at = h.offset;
        entry = class_entry (class_ref p) p c;
        on_card = sym (ap (class_at p) (class_named-name (world p) x c e)) ∙ h.on_card;
        there = entry_there x c e own class_here;
        superclass = ap (λ ss. class_of (loaded p) 0 (class_ref p (unwrap_or (slice_get ss 0) []))) supers
            ∙ class_meant s d.0 d.1;
        public_base = refl;
        public_methods = refl;
        package_base = refl;
        package_methods = refl;
        maps = refl;
        mapped = mapped c (known (interfaces_at (world p) c)) (interfaces_fine (world p) c);
      }
