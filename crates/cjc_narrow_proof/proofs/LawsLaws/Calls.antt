-- A method that a look-up finds is in the world, and a call that breaks no rule fits the one that it names, whichever
-- methods work on int.
use Rattle.std.proofs.Common.{◌≡◌, ℕ, ◌+◌, refl, sym, ap, ◌∙◌, arith, Bool, true, false, List, [], ◌∷◌, length}
use Rattle.std.specs.Prelude.{not, ◌&&◌, ◌||◌, ◌==◌, ◌-◌, Option, Some, None, option_and_then, option_map, position}
use Rattle.std.specs.Prelude.{slice_get, if◌then◌else◌}
use Rattle.cjc_bytes.specs.AccessFlags.{is_private, is_static}
use Rattle.cjc_bytes.specs.declared.fault.MemberId.{MemberId}
use Rattle.cjc_bytes.specs.declared.settings.Settings.{Settings}
use Rattle.cjc_bytes.proofs.Bools.{bool_four, bool_middle}
use Rattle.cjc_code.specs.ClassFile.declared.tree.ClassTree.{ClassTree}
use Rattle.cjc_code.specs.declared.insn.JOp.TheVariants as jop
use Rattle.cjc_code.specs.declared.method_code.MethodCode.{MethodCode}
use Rattle.cjc_jvm_semantics.specs.OnePackage.{ResolvedMember, method_hit}
use Rattle.cjc_narrow_proof.specs.Laws.Calls.{CallFits}
use Rattle.cjc_narrow_proof.specs.Laws.Unbroken.{IsInsnOf, KeepsNames}
use Rattle.cjc_narrow_proof.proofs.LawsLaws.Instructions.{op_there}
use Rattle.cjc_vtable.specs.LowerSubset.Members.{hit, hit_of}
use Rattle.cjc_vtable.specs.LowerSubset.Members as subset
use Rattle.cjc_vtable.specs.LowerSubset.Names.{is_hidden, is_other_kind, is_unfit_call, is_unfit_class, is_unfit_method}
use Rattle.cjc_vtable.specs.LowerSubset.Names.{names_unfit}
use Rattle.cjc_vtable.proofs.Filed.{at-number}
use Rattle.cjc_vtable.proofs.SlotNames.{position-at}
use Rattle.cjc_world.specs.declared.found.Found.{Found}
use Rattle.cjc_world.specs.Classes.{Class, Member, all_classes, class_at, class_named}
use Rattle.cjc_world.specs.Files.{Files}
use Rattle.cjc_world.specs.Interfaces.{gathered, known}
use Rattle.cjc_world.specs.Supertypes.{supertypes, line, upwards}
use Rattle.cjc_world.specs.Lookup.{find_method, first, is_called, is_wanted, member_at, or_else, own_method}
use Rattle.cjc_world.proofs.Adding.{named-known, named-upwards}
use Rattle.cjc_world.proofs.ByPlace.{AreNamed}
use Rattle.cjc_world.proofs.Settled.{supertypes-AreSupertypes}
use Rattle.cjc_world.proofs.Unbroken.{unbroken_is_acyclic}

-- ---- what is found is there

first_found : (w : List Class) (own : Class → Option Found) (cs : List Class) (f : Found) → AreNamed w cs
    → first own cs ≡ Some f → (c : Class) × (class_named w c.name ≡ Some c) × (own c ≡ Some f)
unfolding AreNamed first
first_found w own [] f named e = absurd cc
first_found w own (c ∷ cs) f named e = by (own c) refl e (first_found w own cs f named.1)
  where
    by : (o : Option Found) → own c ≡ o → or_else o (first own cs) ≡ Some f → (first own cs ≡ Some f → (d : Class)
        × (class_named w d.name ≡ Some d) × (own d ≡ Some f)) → (d : Class) × (class_named w d.name ≡ Some d)
        × (own d ≡ Some f)
    by (Some g) h e rest = (c, named.0, h ∙ e)
    by None h e rest = rest e

-- a method of a class with its flags, as the two sides say it
abbrev hit_in : Class → Member → ResolvedMember
hit_in c m = record { owner = c; flags = m.flags }

abbrev tested_in : Class → Member → subset.ResolvedMember
tested_in c m = record { owner = c; flags = m.flags }

abbrev tested_as : ResolvedMember → subset.ResolvedMember
tested_as h = record { owner = h.owner; flags = h.flags }

hit_at_place : (w : List Class) (c : Class) (i : ℕ) (m : Member) → class_at w c.is_imported c.number ≡ Some c
    → slice_get c.methods i ≡ Some m → method_hit w (member_at c (length c.fields + i)) ≡ Some (record {
      owner = c;
      flags = m.flags;
    })
hit_at_place w c i m there e =
    let at : length c.fields + i - length c.fields ≡ i = omega arith in
    ap (option_and_then (λ d. option_map (λ m. record { owner = d; flags = m.flags })
    (slice_get d.methods (length c.fields + i - length d.fields)))) there
    ∙ ap (λ k. option_map (λ m. record { owner = c; flags = m.flags }) (slice_get c.methods k)) at
    ∙ ap (option_map (λ m. record { owner = c; flags = m.flags })) e

own_hit : (w : List Class) (name desc : List ℕ) (c : Class) (f : Found) → class_at w c.is_imported c.number ≡ Some c
    → own_method false name desc c ≡ Some f → (h : ResolvedMember) × (method_hit w f ≡ Some h)
unfolding own_method
own_hit w name desc c f there e = by (position P c.methods) refl e
  where
    P : Member → Bool
    P m = is_wanted false m.flags && is_called name desc m

    by : (o : Option ℕ) → position P c.methods ≡ o → option_map (λ i. member_at c (length c.fields + i)) o ≡ Some f
        → (h : ResolvedMember) × (method_hit w f ≡ Some h)
    by None g e = absurd cc
    by (Some i) g e =
        let m = position-at P c.methods i g in
        let is : member_at c (length c.fields + i) ≡ f = cc in (
          record { owner = c; flags = (let n = m.0 in n.flags) },
          ap (method_hit w) (sym is)
              ∙ hit_at_place w c i m.0 there m.1,
        )

pub found_hit : (list : List ℕ) (files : Files) (codes : List MethodCode) (settings : Settings)
    → KeepsNames list files codes settings → (class name desc : List ℕ) (f : Found)
    → find_method (all_classes files) class name desc ≡ Some f → (h : ResolvedMember)
    × (method_hit (all_classes files) f ≡ Some h)
unfolding find_method line
found_hit list files codes settings is class name desc f e = by (first own (upwards (supertypes w names))) refl e
  where
    w : List Class
    w = all_classes files

    names : List (List ℕ)
    names = class ∷ []

    own : Class → Option Found
    own = own_method false name desc

    at : (cs : List Class) → AreNamed w cs → first own cs ≡ Some f → (h : ResolvedMember) × (method_hit w f ≡ Some h)
    at cs named e = let r = first_found w own cs f named e in own_hit w name desc r.0 f (at-number files (let c = r.0
        in c.name) r.0 r.1) r.2

    by : (o : Option Found) → first own (upwards (supertypes w names)) ≡ o
        → or_else o (first own (known (gathered false (supertypes w names)))) ≡ Some f → (h : ResolvedMember)
        × (method_hit w f ≡ Some h)
    by (Some g) h e = at (upwards (supertypes w names)) (named-upwards w names (supertypes w names)
        (supertypes-AreSupertypes w (unbroken_is_acyclic list files is.world) names)) (h ∙ e)
    by None h e = at (known (gathered false (supertypes w names))) (named-known w false names (supertypes w names)
        (supertypes-AreSupertypes w (unbroken_is_acyclic list files is.world) names)) e

-- ---- 206 of calls

same_hit : (w : List Class) (f : Found) (h : ResolvedMember) → method_hit w f ≡ Some h → hit w false (Some f)
    ≡ Some (tested_as h)
unfolding hit
same_hit w f h e = by (class_at w f.imported f.class) e
  where
    go : (c : Class) (o : Option Member) → option_map (hit_in c) o ≡ Some h → option_map (tested_in c) o
        ≡ Some (tested_as h)
    go c None e = absurd cc
    go c (Some m) e = let is : hit_in c m ≡ h = cc in ap (λ k. Some (tested_as k)) is

    by : (o : Option Class)
        → option_and_then (λ c. option_map (hit_in c) (slice_get c.methods (f.member - length c.fields))) o ≡ Some h
        → hit_of false f o ≡ Some (tested_as h)
    by None e = absurd cc
    by (Some c) e = go c (slice_get c.methods (f.member - length c.fields)) e

pub call_fits : (op : ℕ) (name : List ℕ) (flags : ℕ) → is_unfit_call op name flags ≡ false → CallFits op name flags
call_fits op name flags e =
    let h = bool_four (is_other_kind (op == 184) flags) (((op == 182) || (op == 185)) && is_private flags)
    (subset.is_initialiser name) (not (op == 183) && subset.is_constructor name) e in
    record {
      no_initialiser = h.2;
      no_constructor = λ f. constructor (op == 183) (subset.is_constructor name) f h.3;
      of_class = λ f. kind (op == 184) (is_static flags) f h.0;
      on_object = λ f. other (op == 184) (is_static flags) f h.0;
      selectable = λ f g. open_one (is_private flags) (is_static flags) (private ((op == 182)
          || (op == 185)) (is_private flags) g h.1) (other (op == 184) (is_static flags) f h.0);
    }
  where
    constructor : (a b : Bool) → a ≡ false → (not a && b) ≡ false → b ≡ false
    constructor true b f e = absurd cc
    constructor false b f e = e

    kind : (a s : Bool) → a ≡ true → (if s then not a else a) ≡ false → s ≡ true
    kind true true f e = refl
    kind true false f e = absurd cc
    kind false s f e = absurd cc

    other : (a s : Bool) → a ≡ false → (if s then not a else a) ≡ false → s ≡ false
    other a false f e = refl
    other true true f e = absurd cc
    other false true f e = absurd cc

    private : (a p : Bool) → a ≡ true → (a && p) ≡ false → p ≡ false
    private true p f e = e
    private false p f e = absurd cc

    open_one : (p s : Bool) → p ≡ false → s ≡ false → (not p && not s) ≡ true
    open_one false false f g = refl
    open_one true s f g = absurd cc
    open_one false true f g = absurd cc

pub called_fits : (list : List ℕ) (files : Files) (codes : List MethodCode) (settings : Settings)
    → KeepsNames list files codes settings → (class : ClassTree) (op : ℕ) (id : MemberId)
    → IsInsnOf files codes class (jop.Call op id)
    → (f : Found) (h : ResolvedMember) → find_method (all_classes files) id.class id.name id.desc ≡ Some f
    → method_hit (all_classes files) f ≡ Some h → CallFits op id.name h.flags
unfolding names_unfit
called_fits list files codes settings is class op id at f h found e =
    let w = all_classes files in
    let fine = (op_there list files codes settings is class (jop.Call op id) at).2 in
    let named = ap (hit w false) found ∙ same_hit w f h e in
    let fit = ap (is_unfit_method w class op id) (sym named) ∙ fine in
    call_fits op id.name h.flags (bool_middle (is_hidden w class id (tested_as h)) (is_unfit_call op id.name h.flags)
    (is_unfit_class w class op id (tested_as h)) fit)
