-- What is written of Class spells it.
use Rattle.std.proofs.Common.{◌≡◌, ℕ, zero, suc, ◌+◌, ◌*◌, ◌/◌, ◌%◌, ◌<◌, ◌≤◌, true, false, ltb, List, [], ◌∷◌, ◌++◌}
use Rattle.std.proofs.Common.{length, refl, sym, ap, ◌∙◌, arith, length-append, append_assoc}
use Rattle.std.specs.List.{flat_map, AllByRecursion}
use Rattle.std.proofs.lemmas.Bool.{lt-ltb, le-ltb}
use Rattle.std.proofs.lemmas.List.{append-nil}
use Rattle.std.proofs.lemmas.List.Concat.{flat_map-cons}
use Rattle.cjc_capread.specs.Bytes.Format.{Format}
use Rattle.cjc_capread.proofs.BytesWriters.{Writes, then_writes, last_writes, here_writes, gives_writes, number1_writes}
use Rattle.cjc_capread.proofs.BytesWriters.{u1_writes, repeated_writes}
use Rattle.cjc_capread.specs.declared.tree.ClassInfo.{ClassInfo}
use Rattle.cjc_capread.specs.declared.tree.InterfaceEntry.{InterfaceEntry}
use Rattle.cjc_capread.specs.declared.tree.ClassEntry.{ClassEntry}
use Rattle.cjc_capread.specs.declared.tree.ImplementedInterface.{ImplementedInterface}
use Rattle.cjc_capread.specs.Parts.{exactly}
use Rattle.cjc_capread.specs.Until.{until}
use Rattle.cjc_capread.specs.Class.{interface_entry, implemented_interface, class_entry, first_byte, with_interface}
use Rattle.cjc_capread.specs.Class.{with_class, entry_content, next_entry, class_info}
use Rattle.cjc_capwrite.specs.Class.{interface_bytes, implemented_bytes, class_entry_bytes, class_info_bytes}
use Rattle.cjc_capwrite.specs.Parts.{one, two, class_bytes}
use Rattle.cjc_capwrite.specs.Fits.{InterfaceFits, ImplementedFits, ClassEntryFits, ClassInfoFits}
use Rattle.cjc_capwrite.proofs.PartsWritten.{one_writes, table_writes, items1_writes, numbers_write, class_ref_writes}
use Rattle.cjc_capwrite.proofs.PartsWritten.{class_refs_write}

-- ---- items that fill the bytes up to a place

until_more_writes : {S : Type 0} (p : S → Format S) (n end at : ℕ) (old new final : S) (front back : List ℕ) → at < end
    → Writes (p old) at new front → Writes (until n end p new) (at + length front) final back
    → Writes (until (suc n) end p old) at final (front ++ back)
unfolding until
until_more_writes p n end at old new final front back lt h g =
    let test : ltb at end ≡ true = lt-ltb at end lt in
    here_writes (rw test (then_writes h g))

until_end_writes : {S : Type 0} (p : S → Format S) (n end at : ℕ) (s : S) → end ≤ at → Writes (until n end p s) at s []
unfolding until
until_end_writes p zero end at s le = gives_writes s at
until_end_writes p (suc n) end at s le =
    let test : ltb at end ≡ false = le-ltb at end le in
    here_writes (rw test (gives_writes s at))

-- ---- the nibbles of a first byte

high_nibble : (high low : ℕ) → high < 16 → low < 16 → (high % 16 * 16 + low % 16) / 16 ≡ high
high_nibble high low h l = let a : high % 16 ≡ high = grind arith in let b : low % 16 ≡ low = grind arith in omega arith

low_nibble : (high low : ℕ) → high < 16 → low < 16 → (high % 16 * 16 + low % 16) % 16 ≡ low
low_nibble high low h l = let a : high % 16 ≡ high = grind arith in let b : low % 16 ≡ low = grind arith in omega arith

-- ---- entries behind their first byte

interface_writes : (at flags count : ℕ) (x : InterfaceEntry) → flags ≡ x.flags → count ≡ length x.superinterfaces
    → InterfaceFits x
    → Writes (interface_entry flags count) at x (flat_map class_bytes x.superinterfaces)
unfolding interface_entry
interface_writes at flags count x is len fits =
    rw is (last_writes (class_refs_write at count x.superinterfaces (sym len) fits.superinterfaces) refl)

implemented_writes : (at : ℕ) (x : ImplementedInterface) → ImplementedFits x
    → Writes implemented_interface at x (implemented_bytes x)
unfolding implemented_interface implemented_bytes
implemented_writes at x fits = then_writes (class_ref_writes at x.interface fits.interface)
    (last_writes (items1_writes _ x.index fits.index) refl)

-- a class's bytes behind its first
abbrev class_rest : ClassEntry → List ℕ
class_rest x =
    class_bytes x.superclass ++ (x.declared_instance_size ∷ [] ++ (x.first_reference_token ∷ []
    ++ (x.reference_count ∷ []
    ++ (x.public_base ∷ [] ++ (one (length x.public_methods) ++ (x.package_base ∷ [] ++ (one (length x.package_methods)
    ++ (flat_map two x.public_methods ++ (flat_map two x.package_methods
    ++ flat_map implemented_bytes x.interfaces)))))))))

class_writes : (at flags count : ℕ) (x : ClassEntry) → flags ≡ x.flags → count ≡ length x.interfaces → ClassEntryFits x
    → Writes (class_entry flags count) at x (class_rest x)
unfolding class_entry
class_writes at flags count x is len fits = rw is (
    then_writes (class_ref_writes at x.superclass fits.superclass)
    (then_writes (u1_writes _ x.declared_instance_size)
    (then_writes (u1_writes _ x.first_reference_token)
    (then_writes (u1_writes _ x.reference_count)
    (then_writes (u1_writes _ x.public_base)
    (then_writes (one_writes _ (length x.public_methods) fits.public_count)
    (then_writes (u1_writes _ x.package_base)
    (then_writes (one_writes _ (length x.package_methods) fits.package_count)
    (then_writes (numbers_write _ (length x.public_methods) x.public_methods refl fits.public_methods)
    (then_writes (numbers_write _ (length x.package_methods) x.package_methods refl fits.package_methods)
    (last_writes (repeated_writes implemented_interface implemented_bytes ImplementedFits implemented_writes _ count
    x.interfaces (sym len) fits.interfaces) refl)))))))))))

-- ---- entries, each after those before it

next_class_writes : (at : ℕ) (so_far : ClassInfo) (x : ClassEntry) → ClassEntryFits x
    → Writes (next_entry so_far) at (with_class so_far x) (class_entry_bytes x)
unfolding next_entry entry_content class_entry_bytes
next_class_writes at so_far x fits =
    let n = x.flags % 16 * 16 + length x.interfaces % 16 in
    let small : x.flags < 8 = fits.flags in
    let few : length x.interfaces < 16 = fits.count in
    let flag : x.flags % 16 ≡ x.flags = grind arith in
    let first : n < 0x80 = omega arith in
    let test : ltb n 0x80 ≡ true = lt-ltb n 0x80 first in
    then_writes (number1_writes (first_byte so_far) at n n (rw test refl))
    (rw test (last_writes (class_writes _ (n / 16) (n % 16) x (high_nibble x.flags (length x.interfaces) (omega arith)
    few) (low_nibble x.flags (length x.interfaces) (omega arith) few) fits) refl))

next_interface_writes : (at : ℕ) (interfaces : List InterfaceEntry) (x : InterfaceEntry) → InterfaceFits x
    → (let so_far : ClassInfo = record { interfaces = interfaces; classes = [] }
    in Writes (next_entry so_far) at (with_interface so_far x) (interface_bytes x))
unfolding next_entry entry_content interface_bytes
next_interface_writes at interfaces x fits =
    let n = x.flags % 16 * 16 + length x.superinterfaces % 16 in
    let small : x.flags < 16 = fits.flags in
    let few : length x.superinterfaces < 16 = fits.count in
    let marked : 8 ≤ x.flags = fits.marked in
    let flag : x.flags % 16 ≡ x.flags = grind arith in
    let first : 0x80 ≤ n = omega arith in
    let test : ltb n 0x80 ≡ false = le-ltb n 0x80 first in
    then_writes (number1_writes (first_byte (record { interfaces = interfaces; classes = [] })) at n n (rw test refl))
    (rw test (last_writes (interface_writes _ (n / 16) (n % 16) x (high_nibble x.flags (length x.superinterfaces) small
    few) (low_nibble x.flags (length x.superinterfaces) small few) fits) refl))

some_class : (x : ClassEntry) → 0 < length (class_entry_bytes x)
unfolding class_entry_bytes
some_class x = omega arith

some_interface : (x : InterfaceEntry) → 0 < length (interface_bytes x)
unfolding interface_bytes
some_interface x = omega arith

classes_write : (at n end : ℕ) (interfaces : List InterfaceEntry) (done xs : List ClassEntry)
    → at + length (flat_map class_entry_bytes xs) ≡ end → end ≤ n + at → AllByRecursion ClassEntryFits xs
    → Writes (until n end next_entry (record { interfaces = interfaces; classes = done })) at
    (record { interfaces = interfaces; classes = done ++ xs }) (flat_map class_entry_bytes xs)
classes_write at n end interfaces done [] fill enough fits = rw (append-nil done) (until_end_writes next_entry n end at
    (record { interfaces = interfaces; classes = done }) (omega (arith, fill)))
classes_write at zero end interfaces done (x ∷ xs) fill enough fits =
    let room = some_class x in
    let len : length (flat_map class_entry_bytes (x ∷ xs)) ≡ length (class_entry_bytes x) + length
    (flat_map class_entry_bytes xs) = ap length (flat_map-cons class_entry_bytes x xs) ∙ length-append _ _ in
    absurd (omega (arith, room, len))
classes_write at (suc n) end interfaces done (x ∷ xs) fill enough fits =
    let room = some_class x in
    let len : length (flat_map class_entry_bytes (x ∷ xs)) ≡ length (class_entry_bytes x) + length
    (flat_map class_entry_bytes xs) = ap length (flat_map-cons class_entry_bytes x xs) ∙ length-append _ _ in
    let rest : at + length (class_entry_bytes x) + length (flat_map class_entry_bytes xs) ≡ end =
    omega (arith, fill, len) in
    let left : end ≤ n + (at + length (class_entry_bytes x)) = omega (arith, enough, room) in
    let old : ClassInfo = record { interfaces = interfaces; classes = done } in
    let onward = classes_write (at + length (class_entry_bytes x)) n end interfaces (done ++ x ∷ []) xs rest left fits.1
    in
    let whole : (done ++ x ∷ []) ++ xs ≡ done ++ x ∷ xs = simp append_assoc in
    rw (flat_map-cons class_entry_bytes x xs, ← whole) (
    until_more_writes next_entry n end at old (with_class old x) (record {
      interfaces = interfaces;
      classes = (done ++ x ∷ []) ++ xs;
    }) (class_entry_bytes x) (flat_map class_entry_bytes xs) (omega (
      arith,
      rest,
      room,
    ))
    (next_class_writes at old x fits.0) onward)

entries_write : (at n end : ℕ) (done xs : List InterfaceEntry) (classes : List ClassEntry)
    → at + length (flat_map interface_bytes xs ++ flat_map class_entry_bytes classes) ≡ end → end ≤ n + at
    → AllByRecursion InterfaceFits xs → AllByRecursion ClassEntryFits classes
    → Writes (until n end next_entry (record { interfaces = done; classes = [] })) at (record {
      interfaces = done ++ xs;
      classes = classes;
    }) (flat_map interface_bytes xs ++ flat_map class_entry_bytes classes)
entries_write at n end done [] classes fill enough fits rest =
    rw (append-nil done) (classes_write at n end done [] classes fill enough rest)
entries_write at zero end done (x ∷ xs) classes fill enough fits behind =
    let room = some_interface x in
    let len : length (flat_map interface_bytes (x ∷ xs) ++ flat_map class_entry_bytes classes)
    ≡ length (interface_bytes x) + length (flat_map interface_bytes xs ++ flat_map class_entry_bytes classes) =
    ap (λ (bs : List ℕ). length (bs ++ flat_map class_entry_bytes classes)) (flat_map-cons interface_bytes x xs)
    ∙ ap length (append_assoc (interface_bytes x) _ _) ∙ length-append _ _ in
    absurd (omega (arith, room, len))
entries_write at (suc n) end done (x ∷ xs) classes fill enough fits behind =
    let room = some_interface x in
    let len : length (flat_map interface_bytes (x ∷ xs) ++ flat_map class_entry_bytes classes)
    ≡ length (interface_bytes x) + length (flat_map interface_bytes xs ++ flat_map class_entry_bytes classes) =
    ap (λ (bs : List ℕ). length (bs ++ flat_map class_entry_bytes classes)) (flat_map-cons interface_bytes x xs)
    ∙ ap length (append_assoc (interface_bytes x) _ _) ∙ length-append _ _ in
    let rest : at + length (interface_bytes x) + length (flat_map interface_bytes xs
    ++ flat_map class_entry_bytes classes) ≡ end = omega (arith, fill, len) in
    let left : end ≤ n + (at + length (interface_bytes x)) = omega (arith, enough, room) in
    let old : ClassInfo = record { interfaces = done; classes = [] } in
    let onward = entries_write (at + length (interface_bytes x)) n end (done ++ x ∷ []) xs classes rest left fits.1
    behind in
    let whole : (done ++ x ∷ []) ++ xs ≡ done ++ x ∷ xs = simp append_assoc in
    let text : flat_map interface_bytes (x ∷ xs) ++ flat_map class_entry_bytes classes ≡ interface_bytes x
    ++ (flat_map interface_bytes xs ++ flat_map class_entry_bytes classes) =
    ap (λ (bs : List ℕ). bs ++ flat_map class_entry_bytes classes) (flat_map-cons interface_bytes x xs)
    ∙ append_assoc (interface_bytes x) _ _ in
    rw (text, ← whole) (
    until_more_writes next_entry n end at old (with_interface old x) (record {
      interfaces = (done ++ x ∷ []) ++ xs;
      classes = classes;
    }) (interface_bytes x) (flat_map interface_bytes xs ++ flat_map class_entry_bytes classes)
    (omega (arith, rest, room))
    (next_interface_writes at done x fits.0) onward)

pub class_info_writes : (at end : ℕ) (x : ClassInfo) → at + length (class_info_bytes x) ≡ end → ClassInfoFits x
    → Writes (class_info end) at x (class_info_bytes x)
unfolding class_info class_info_bytes
class_info_writes at end x fill fits =
    then_writes (table_writes (exactly 0) at 0 0 (omega arith) refl)
    (entries_write (at + 2) end end [] x.interfaces x.classes (omega (arith, fill)) (omega arith) fits.interfaces
    fits.classes)
