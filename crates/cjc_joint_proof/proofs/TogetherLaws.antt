-- Each of the packages that are loaded together holds its methods, under the names that all have on the card.
use Rattle.std.proofs.Common.{◌≡◌, ℕ, zero, suc, arith, refl, sym, ap, subst, ◌∙◌, Bool, true, false, List, [], ◌∷◌}
use Rattle.std.proofs.Common.{Some, None}
use Rattle.std.specs.Prelude.{Option, is_some, slice_get, unwrap_or, if◌then◌else◌}
use Rattle.std.specs.Str.{bytes_eq}
use Rattle.cjc_token_proof.proofs.BytesLists.{bytes_true, name_is}
use Rattle.cjc_card_semantics.specs.Bytes.declared.fault.MemberId.{MemberId}
use Rattle.cjc_card_semantics.specs.Machine.Classes.{Own, class_of}
use Rattle.cjc_card_semantics.specs.Machine.Loaded.{Loaded}
use Rattle.cjc_card_semantics.specs.Machine.Operations.{static_cell, token_of}
use Rattle.cjc_exported.proofs.WorldCycles.{class_named-name}
use Rattle.cjc_exported.specs.Components.Methods.{placed_methods}
use Rattle.cjc_exported.specs.World.Classes.{Class, class_named}
use Rattle.cjc_exported.specs.World.Files.{Files}
use Rattle.cjc_link_semantics.specs.Components.Names.{class_at, class_ref, field_token, member_ref, ref_to}
use Rattle.cjc_link_semantics.specs.Components.Package.{Package, world}
use Rattle.cjc_link_semantics.specs.Components.Statics.{cell_offset}
use Rattle.cjc_link_semantics.specs.JvmSemantics.Group.{package_of}
use Rattle.cjc_link_semantics.specs.Loaded.{group_loaded, part_in}
use Rattle.cjc_token_proof.proofs.TablesLaws.Clean.{has_named}
use Rattle.cjc_token_proof.proofs.TablesLaws.Infos.{none_at_zero}
use Rattle.cjc_token_proof.proofs.TablesLaws.Named.{has_info, has_none}
use Rattle.cjc_token_proof.specs.NCode.Lowering.Naming.{IsCell, IsClass, IsFixed, IsToken}
use Rattle.cjc_token_proof.specs.NCode.Lowering.Package.{HoldsMethods}
use Rattle.cjc_token_proof.specs.NCode.Lowering.Placed.{Placed}
use Rattle.cjc_token_proof.specs.Tables.Loading.{loaded, naming, part}
use Rattle.cjc_token_proof.specs.Tables.Sound.{IsSound}
use Rattle.cjc_joint_proof.specs.JointAlike.{AllHold, naming_at}
use Rattle.cjc_joint_proof.specs.JointNames.{place_of}
use Rattle.cjc_joint_proof.specs.JointPackages.{AreLinked, class_together, files_together}
use Rattle.cjc_joint_proof.specs.JointTogether.{IsOwnClass, NamesOwnFields, cell_together, field_together, methods_by}
use Rattle.cjc_joint_proof.specs.JointTogether.{methods_together, names_by, naming_together, offset_by, token_by}
use Rattle.cjc_joint_proof.specs.Loading.{AllLead, group_of, member_of}
use Rattle.cjc_joint_proof.specs.Naming.{AreKept, HasEach, Meant, meant_in, named_by}
use Rattle.cjc_joint_proof.proofs.ClassLaws.{class_means, home, package_is_at, part_at, placed, sound_at, together_at}
use Rattle.cjc_joint_proof.proofs.ReferLaws.{of_package}
use Rattle.cjc_joint_proof.proofs.LoadLaws.{has_each, is_part}
use Rattle.cjc_joint_proof.proofs.NamingLaws as alone
use Rattle.cjc_joint_proof.proofs.RenamedLaws.{code_holds}

-- ---- the place of a package

pub place_is : (group : List Files) (q : ℕ) (f : Files) (x : List ℕ) → slice_get group q ≡ Some f
    → f.package_name ≡ package_of x
    → ((j : ℕ) (g : Files) → slice_get group j ≡ Some g → g.package_name ≡ f.package_name → j ≡ q)
    → place_of group x ≡ q
place_is [] q f x is home once = cc
place_is (g ∷ group) zero f x is home once =
    let same : g ≡ f = cc in
    ap (λ b. if b then 0 else suc (place_of group x)) (ap (λ (v : Files). bytes_eq v.package_name (package_of x)) same
    ∙ (ap (λ y. bytes_eq y (package_of x)) home ∙ name_is (package_of x)))
place_is (g ∷ group) (suc q) f x is home once =
    by (bytes_eq g.package_name (package_of x)) refl (place_is group q f x is home (λ j h at same. let more : suc j
    ≡ suc q = once (suc j) h at same in omega (arith, more)))
  where
    by : (b : Bool) → bytes_eq g.package_name (package_of x) ≡ b → place_of group x ≡ q
        → (if b then 0 else suc (place_of group x)) ≡ suc q
    by true e rest =
        let no : 0 ≡ suc q = once 0 g refl (bytes_true g.package_name (package_of x) e ∙ sym home) in
        absurd (omega (arith, no))
    by false e rest = ap suc rest

-- a class_ref that means a class is of one that some file has
known_ref : (list : List ℕ) (p : Package) → IsSound list p.files → (x : List ℕ) → IsClass (naming p) x → (c : Class)
    × (class_named (world p) x ≡ Some c)
known_ref list p sound x h = by (class_named (world p) x) refl
  where
    by : (o : Option Class) → class_named (world p) x ≡ o → (c : Class) × (class_named (world p) x ≡ Some c)
    by (Some c) e = (c, e)
    by None e =
        let r = has_none list p sound x e in
        let nowhere : class_of (loaded p) 0 (class_ref p x) ≡ None = ap (λ c. class_of (loaded p) 0 (ref_to c))
        r.on_card ∙ ap (λ o. if is_some o then Some (Own 0 0) else None) (none_at_zero p) in
        let clash : None ≡ Some (class_at p x) = sym nowhere ∙ h in
        absurd cc

module _ (packages : List Package) (linked : AreLinked packages) where
  abbrev l : Loaded
  l = group_loaded (group_of packages)

  module _ (q : ℕ) (p : Package) (here : slice_get packages q ≡ Some p) where
    -- what the names of the package stand for
    abbrev meant : Meant
    meant = record (meant_in l q (naming p)) {
      class = class_together packages;
      field_token = field_together packages;
      cell = cell_together packages;
    }

    -- ---- names

    is_class : (c : List ℕ) → IsClass (naming p) c → IsClass (named_by (naming p) meant) c
    is_class c e =
        let s = sound_at packages linked q p here in
        let k = known_ref s.list p s.sound c e in
        class_means packages linked q p here c k.0 k.1

    -- fields of its own classes are those of its place
    pub at_home : (x : List ℕ) → IsOwnClass p x → place_of (files_together packages) x ≡ q
    at_home x o =
        let name : (let c = o.class in c.name) ≡ x = class_named-name (world p) x o.class o.there in
        place_is (files_together packages) q p.files x (together_at packages linked q p here) (sym (home packages
        linked q p here x o.class o.there o.own) ∙ ap package_of name) (λ j g at same. package_is_at packages linked q
        p here j g at same)

    pub package_at_home : (x : List ℕ) → IsOwnClass p x → slice_get packages (place_of (files_together packages) x)
        ≡ Some p
    package_at_home x o = ap (slice_get packages) (at_home x o) ∙ here

    pub field_kept : (f : MemberId) → IsOwnClass p f.class → field_together packages f ≡ field_token p f
    field_kept f o = ap (λ x. token_by x f) (package_at_home f.class o)

    pub cell_kept : (f : MemberId) → IsOwnClass p f.class → IsCell (named_by (naming p) meant) f
    cell_kept f o =
        let s = sound_at packages linked q p here in
        let h = has_info s.list p s.sound o.class (has_named (world p) f.class o.class o.there) o.own in
        let name : (let c = o.class in c.name) ≡ f.class = class_named-name (world p) f.class o.class o.there in
        ap (λ c. static_cell l q (member_ref c (cell_offset p.image f) (field_token p f))) (ap (class_at p) (sym name)
        ∙ h.on_card)
        ∙ sym (ap (λ n. Some (record { part = n; offset = cell_offset p.image f })) (at_home f.class o))
        ∙ sym (ap (λ x. Some (record {
          part = place_of (files_together packages) f.class;
          offset = offset_by x f;
        })) (package_at_home f.class o))

    kept : NamesOwnFields p → (j : ℕ) (m : Placed) → slice_get (placed_methods p) j ≡ Some m
        → AreKept (naming p) meant m
    kept own j m is k insn at = record {
      field = λ op f e. field_kept f (own.fields j k op m f is (at ∙ ap Some e));
      cell = λ op f e c. cell_kept f (own.statics j k op m f is (at ∙ ap Some e));
    }

    module _ (leads : AllLead (group_of packages) (member_of p)) where
      each : HasEach (loaded p) l q
      each = has_each (group_of packages) q (member_of p) (of_package packages q p here) leads

      is_fixed : (on : Bool) (m : MemberId) → IsFixed (naming p) on m → IsFixed (named_by (naming p) meant) on m
      is_fixed = alone.is_fixed l q (naming p) refl (is_part (group_of packages) q (member_of p) (of_package packages q
          p here)) each

      is_token : (m : MemberId) → IsClass (naming p) m.class → IsToken (naming p) m → IsToken (named_by (naming p)
          meant) m
      is_token m c t =
          let there = is_class m.class c in
          sym (ap (λ o. token_of (unwrap_or o (Own q 0)) (let n = naming p in n.virtual_token m)) there)
          ∙ alone.is_token l q (naming p) refl (is_part (group_of packages) q (member_of p) (of_package packages q p
          here)) each m c t

      -- the package holds its methods there
      pub holds : NamesOwnFields p → HoldsMethods (naming p) (part p) (placed_methods p)
          → HoldsMethods (named_by (naming p) meant) (part_in (group_of packages) l.trees (member_of p)) (placed_methods
          p)
      holds own h =
          let there = part_in (group_of packages) l.trees (member_of p) in
          code_holds (naming p) meant is_class is_fixed is_token there.imports (part p) (placed_methods p) h (kept own)
          (part_at packages linked q p here)

  -- all hold their methods
  pub all_hold : ((q : ℕ) (p : Package) → slice_get packages q ≡ Some p → AllLead (group_of packages) (member_of p))
      → ((q : ℕ) (p : Package) → slice_get packages q ≡ Some p → NamesOwnFields p)
      → ((q : ℕ) (p : Package) → slice_get packages q ≡ Some p → HoldsMethods (naming p) (part p) (placed_methods p))
      → AllHold (naming_together packages) (methods_together packages)
  all_hold leads own held q component at =
      let o = placed packages linked q component at in
      let p = o.«package» in
      let there = holds q p o.there (leads q p o.there) (own q p o.there) (held q p o.there) in
      subst (λ c. HoldsMethods (naming_at (naming_together packages) q) c (methods_together packages q)) (sym o.is)
      (subst (λ x. HoldsMethods (record (names_by l q x) {
        loaded = l;
        part = q;
        class = class_together packages;
        field_token = field_together packages;
        cell = cell_together packages;
      }) (part_in (group_of packages) l.trees (member_of p)) (methods_by x)) (sym o.there) there)
