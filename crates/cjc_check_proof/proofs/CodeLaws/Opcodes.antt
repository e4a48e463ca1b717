-- What the form of an opcode is by its meaning, and which opcodes jump, end code or test types: by a look at each
-- opcode.
use Rattle.std.proofs.Common.{◌≡◌, ℕ, zero, suc, ◌<◌, refl, sym, ap, subst, ◌∙◌, ⊎_elim, arith, Bool, true, false}
use Rattle.std.proofs.Common.{List, [], ◌∷◌, Option, Some, None}
use Rattle.std.specs.Prelude.{◌&&◌, not, if◌then◌else◌}
use Rattle.std.proofs.lemmas.Bool.{cases_lt}
use Rattle.cjc_capread.specs.Opcodes.{Form, Fields, Table, Lookup, Operand, Byte, Signed1, Signed2, Signed4, Index1}
use Rattle.cjc_capread.specs.Opcodes.{Index2, form, forms}
use Rattle.cjc_token_proof.specs.CardSemantics.Bytecode.Meanings.{Use, Gets, Puts, GetsStatic, PutsStatic, Calls, Makes}
use Rattle.cjc_token_proof.specs.CardSemantics.Bytecode.Meanings.{MakesReferences, Virtual, Special, Static, Meaning}
use Rattle.cjc_token_proof.specs.CardSemantics.Bytecode.Meanings.{Plain}
use Rattle.cjc_token_proof.specs.CardSemantics.Bytecode.Meanings.{Branches, Ranged, Paired, Uses, Casts, Asks, Nothing}
use Rattle.cjc_token_proof.specs.CardSemantics.Bytecode.Meanings.{meaning, known_meaning}
use Rattle.cjc_check_rules.specs.Spots.{lies_between}
use Rattle.cjc_check_rules.specs.Instructions.{ends_code, is_jump, is_needed_by}
use Rattle.cjc_capread.specs.declared.tree.ClassRef.TheVariants.{Inside}
use Rattle.cjc_capread.specs.declared.tree.StaticRef.TheVariants as refs
use Rattle.cjc_capread.specs.declared.tree.PoolEntry.TheVariants.{Classref, InstanceFieldref, VirtualMethodref}
use Rattle.cjc_capread.specs.declared.tree.PoolEntry.TheVariants.{SuperMethodref, StaticFieldref, StaticMethodref}
use Rattle.cjc_ncode.specs.declared.narrow.PoolKey.{PoolKey}
use Rattle.cjc_ncode.specs.declared.narrow.PoolKey.TheVariants as keys
use Rattle.cjc_ncode.specs.Lowering.Naming.{Naming, entry_of}
use Rattle.cjc_check_proof.specs.Code.Kinds.{is_for}
use Rattle.cjc_bytes.proofs.Bools.{and_true, not_true}
use Rattle.cjc_components.proofs.EmitForms.{nothing_past}

-- ---- meanings

-- it neither jumps nor is without meaning
abbrev pub is_calm : Meaning → Bool
is_calm (Branches test) = false
is_calm Nothing = false
is_calm m = true

-- it has operands and no table
abbrev pub has_fields : Meaning → Bool
has_fields (Plain calculation) = true
has_fields (Branches test) = true
has_fields (Uses how) = true
has_fields Casts = true
has_fields Asks = true
has_fields m = false

-- it calculates or jumps
abbrev pub names_nothing : Meaning → Bool
names_nothing (Plain calculation) = true
names_nothing (Branches test) = true
names_nothing m = false

abbrev pub is_ranged : Meaning → Bool
is_ranged (Ranged is_int) = true
is_ranged m = false

abbrev pub is_paired : Meaning → Bool
is_paired (Paired is_int) = true
is_paired m = false

abbrev pub is_switch : Meaning → Bool
is_switch (Ranged is_int) = true
is_switch (Paired is_int) = true
is_switch m = false

abbrev pub is_test : Meaning → Bool
is_test Casts = true
is_test Asks = true
is_test m = false

abbrev pub is_use : Meaning → Bool
is_use (Uses how) = true
is_use m = false

-- ---- forms

abbrev pub is_fields : Option Form → Bool
is_fields (Some (Fields kinds)) = true
is_fields f = false

abbrev pub is_index : Operand → Bool
is_index Index1 = true
is_index Index2 = true
is_index kind = false

abbrev pub none_is_index : List Operand → Bool
none_is_index [] = true
none_is_index (kind ∷ kinds) = not (is_index kind) && none_is_index kinds

abbrev pub has_no_index : Option Form → Bool
has_no_index (Some (Fields kinds)) = none_is_index kinds
has_no_index f = false

abbrev is_table : Option Form → Bool
is_table (Some (Table m)) = true
is_table f = false

abbrev is_lookup : Option Form → Bool
is_lookup (Some (Lookup m)) = true
is_lookup f = false

abbrev is_byte : Operand → Bool
is_byte Byte = true
is_byte kind = false

abbrev is_index2 : Operand → Bool
is_index2 Index2 = true
is_index2 kind = false

abbrev are_test : List Operand → Bool
are_test (a ∷ b ∷ []) = is_byte a && is_index2 b
are_test kinds = false

-- a type and an index of two bytes
abbrev pub is_test_form : Option Form → Bool
is_test_form (Some (Fields kinds)) = are_test kinds
is_test_form f = false

the_byte : (k : Operand) → is_byte k ≡ true → k ≡ Byte
the_byte Byte e = refl
the_byte Signed1 e = absurd cc
the_byte Signed2 e = absurd cc
the_byte Signed4 e = absurd cc
the_byte Index1 e = absurd cc
the_byte Index2 e = absurd cc

the_index2 : (k : Operand) → is_index2 k ≡ true → k ≡ Index2
the_index2 Index2 e = refl
the_index2 Byte e = absurd cc
the_index2 Signed1 e = absurd cc
the_index2 Signed2 e = absurd cc
the_index2 Signed4 e = absurd cc
the_index2 Index1 e = absurd cc

the_test : (kinds : List Operand) → are_test kinds ≡ true → kinds ≡ Byte ∷ Index2 ∷ []
the_test [] e = absurd cc
the_test (a ∷ []) e = absurd cc
the_test (a ∷ b ∷ c ∷ kinds) e = absurd cc
the_test (a ∷ b ∷ []) e =
    let t = and_true (is_byte a) (is_index2 b) e in
    ap (λ k. k ∷ b ∷ []) (the_byte a t.0) ∙ ap (λ k. Byte ∷ k ∷ []) (the_index2 b t.1)

the_test_form : (f : Option Form) → is_test_form f ≡ true → f ≡ Some (Fields (Byte ∷ Index2 ∷ []))
the_test_form None e = absurd cc
the_test_form (Some (Table m)) e = absurd cc
the_test_form (Some (Lookup m)) e = absurd cc
the_test_form (Some (Fields kinds)) e = ap (λ ks. Some (Fields ks)) (the_test kinds e)

the_table : (f : Option Form) → is_table f ≡ true → (m : Operand) × (f ≡ Some (Table m))
the_table None e = absurd cc
the_table (Some (Fields kinds)) e = absurd cc
the_table (Some (Table m)) e = (m, refl)
the_table (Some (Lookup m)) e = absurd cc

the_lookup : (f : Option Form) → is_lookup f ≡ true → (m : Operand) × (f ≡ Some (Lookup m))
the_lookup None e = absurd cc
the_lookup (Some (Fields kinds)) e = absurd cc
the_lookup (Some (Table m)) e = absurd cc
the_lookup (Some (Lookup m)) e = (m, refl)

the_fields : (f : Option Form) → is_fields f ≡ true → (kinds : List Operand) × (f ≡ Some (Fields kinds))
the_fields None e = absurd cc
the_fields (Some (Table m)) e = absurd cc
the_fields (Some (Lookup m)) e = absurd cc
the_fields (Some (Fields kinds)) e = (kinds, refl)

the_plain : (f : Option Form) → has_no_index f ≡ true → (kinds : List Operand) × (none_is_index kinds ≡ true)
    × (f ≡ Some (Fields kinds))
the_plain None e = absurd cc
the_plain (Some (Table m)) e = absurd cc
the_plain (Some (Lookup m)) e = absurd cc
the_plain (Some (Fields kinds)) e = (kinds, e, refl)

-- ---- all opcodes

abbrev all_fine : (ℕ → Bool) → ℕ → Bool
all_fine fine zero = true
all_fine fine (suc n) = fine n && all_fine fine n

fine_below : (fine : ℕ → Bool) (n op : ℕ) → all_fine fine n ≡ true → op < n → fine op ≡ true
fine_below fine zero op e h = absurd (omega (arith, h))
fine_below fine (suc n) op e h =
    let p = and_true (fine n) (all_fine fine n) e in
    ⊎_elim (λ lt. fine_below fine n op p.1 lt) (λ le. let s : n ≡ op = omega (arith, h, le)
    in subst (λ k. fine k ≡ true) s p.0) (cases_lt op n)

abbrev follows : (Meaning → Bool) → (ℕ → Bool) → ℕ → Bool
follows test what op = if test (meaning op) then what op else true

-- what follows from a meaning at each opcode follows from it everywhere
rule : (test : Meaning → Bool) (what : ℕ → Bool) → all_fine (follows test what) 185 ≡ true → test (known_meaning None)
    ≡ false → (op : ℕ) → test (meaning op) ≡ true → what op ≡ true
rule test what all off op e = ⊎_elim
    (λ lt. ap (λ b. if b then what op else true) (sym e) ∙ fine_below (follows test what) 185 op all lt)
    (λ le. let clash : true ≡ false = sym e ∙ (ap test (nothing_past op le) ∙ off) in absurd cc)
    (cases_lt op 185)

calm_all : all_fine (follows is_calm (λ op. not (is_jump op))) 185 ≡ true
unfolding meaning
calm_all = refl

-- what has another meaning than a jump is none
pub calm : (op : ℕ) → is_calm (meaning op) ≡ true → is_jump op ≡ false
calm op e = not_true (is_jump op) (rule is_calm (λ op. not (is_jump op)) calm_all refl op e)

fields_all : all_fine (follows has_fields (λ op. is_fields (form op))) 185 ≡ true
unfolding meaning form forms
fields_all = refl

pub fields : (op : ℕ) → has_fields (meaning op) ≡ true → (kinds : List Operand) × (form op ≡ Some (Fields kinds))
fields op e = the_fields (form op) (rule has_fields (λ op. is_fields (form op)) fields_all refl op e)

plain_all : all_fine (follows names_nothing (λ op. has_no_index (form op))) 185 ≡ true
unfolding meaning form forms
plain_all = refl

pub plain : (op : ℕ) → names_nothing (meaning op) ≡ true → (kinds : List Operand) × (none_is_index kinds ≡ true)
    × (form op ≡ Some (Fields kinds))
plain op e = the_plain (form op) (rule names_nothing (λ op. has_no_index (form op)) plain_all refl op e)

ranges_all : all_fine (follows is_ranged (λ op. is_table (form op))) 185 ≡ true
unfolding meaning form forms
ranges_all = refl

pub range_form : (op : ℕ) → is_ranged (meaning op) ≡ true → (m : Operand) × (form op ≡ Some (Table m))
range_form op e = the_table (form op) (rule is_ranged (λ op. is_table (form op)) ranges_all refl op e)

pairs_all : all_fine (follows is_paired (λ op. is_lookup (form op))) 185 ≡ true
unfolding meaning form forms
pairs_all = refl

pub pair_form : (op : ℕ) → is_paired (meaning op) ≡ true → (m : Operand) × (form op ≡ Some (Lookup m))
pair_form op e = the_lookup (form op) (rule is_paired (λ op. is_lookup (form op)) pairs_all refl op e)

switches_all : all_fine (follows is_switch ends_code) 185 ≡ true
unfolding meaning
switches_all = refl

pub switches : (op : ℕ) → is_switch (meaning op) ≡ true → ends_code op ≡ true
switches op e = rule is_switch ends_code switches_all refl op e

tests_all : all_fine (follows is_test (λ op. lies_between 0x94 0x95 op && is_test_form (form op))) 185 ≡ true
unfolding meaning form forms
tests_all = refl

pub tests : (op : ℕ) → is_test (meaning op) ≡ true → (lies_between 0x94 0x95 op ≡ true)
    × (form op ≡ Some (Fields (Byte ∷ Index2 ∷ [])))
tests op e =
    let t = and_true (lies_between 0x94 0x95 op) (is_test_form (form op)) (rule is_test (λ op. lies_between 0x94 0x95 op
    && is_test_form (form op)) tests_all refl op e) in
    (t.0, the_test_form (form op) t.1)

uses_all : all_fine (follows is_use (λ op. not (lies_between 0x94 0x95 op))) 185 ≡ true
unfolding meaning
uses_all = refl

pub uses : (op : ℕ) → is_use (meaning op) ≡ true → lies_between 0x94 0x95 op ≡ false
uses op e = not_true (lies_between 0x94 0x95 op) (rule is_use (λ op. not (lies_between 0x94 0x95 op)) uses_all refl op
    e)

-- ---- what opcodes use

-- the opcode takes each entry that is for its use
abbrev takes : Use → ℕ → Bool
takes (Gets this letter) op = is_needed_by (InstanceFieldref (Inside 0) 0) op
takes (Puts this letter) op = is_needed_by (InstanceFieldref (Inside 0) 0) op
takes (GetsStatic letter) op = is_needed_by (StaticFieldref (refs.Inside 0)) op
takes (PutsStatic letter) op = is_needed_by (StaticFieldref (refs.Inside 0)) op
takes (Calls Virtual) op = is_needed_by (VirtualMethodref (Inside 0) 0) op
takes (Calls Special) op = is_needed_by (SuperMethodref (Inside 0) 0) op
    && is_needed_by (StaticMethodref (refs.Inside 0)) op
takes (Calls Static) op = is_needed_by (StaticMethodref (refs.Inside 0)) op
takes Makes op = is_needed_by (Classref (Inside 0)) op
takes MakesReferences op = is_needed_by (Classref (Inside 0)) op

abbrev takes_by : Meaning → ℕ → Bool
takes_by (Uses how) op = takes how op
takes_by m op = true

takes_all : all_fine (λ op. takes_by (meaning op) op) 185 ≡ true
unfolding meaning
takes_all = refl

use_below : (op : ℕ) → is_use (meaning op) ≡ true → op < 185
use_below op e = ⊎_elim (λ lt. lt) (λ le. let clash : true ≡ false = sym e ∙ ap is_use (nothing_past op le)
    in absurd cc) (cases_lt op 185)

-- an opcode takes the entry of a key that is for its use
pub needs : (n : Naming) (op : ℕ) (how : Use) (key : PoolKey) → meaning op ≡ Uses how → is_for how key ≡ true
    → is_needed_by (entry_of n key) op ≡ true
needs n op how key e kind = by how key kind (ap (λ m. takes_by m op) (sym e)
    ∙ fine_below (λ op. takes_by (meaning op) op) 185 op takes_all (use_below op (ap is_use e)))
  where
    by : (how : Use) (key : PoolKey) → is_for how key ≡ true → takes how op ≡ true → is_needed_by (entry_of n key) op
        ≡ true
    by (Gets this letter) (keys.Field f) k t = t
    by (Puts this letter) (keys.Field f) k t = t
    by (GetsStatic letter) (keys.StaticField f) k t = t
    by (PutsStatic letter) (keys.StaticField f) k t = t
    by (Calls Virtual) (keys.Virtual m) k t = t
    by (Calls Special) (keys.Super m) k t = (and_true _ _ t).0
    by (Calls Special) (keys.StaticMethod m) k t = (and_true (is_needed_by (SuperMethodref (Inside 0) 0) op) _ t).1
    by (Calls Static) (keys.StaticMethod m) k t = t
    by Makes (keys.Class c) k t = t
    by MakesReferences (keys.Class c) k t = t
    by how key k t = absurd cc
