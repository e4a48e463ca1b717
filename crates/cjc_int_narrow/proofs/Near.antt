-- What is written in int mode names the same keys in the same order, and has handlers of the same classes, whichever
-- instance fields have an index of one byte: the forms of field instructions alone depend on it.
use Rattle.std.proofs.Common.{◌≡◌, ℕ, ◌+◌, refl, sym, ap, ◌∙◌, Bool, true, false, List, [], ◌∷◌, ◌++◌, length}
use Rattle.std.specs.Prelude.{if◌then◌else◌, map, nat_lt, Option, Some, None, ℤ}
use Rattle.std.proofs.lemmas.List.{length-append}
use Rattle.std.specs.List.{flat_map}
use Rattle.std.proofs.lemmas.List.Concat.{flat_map-append}
use Rattle.cjc_int_mode.specs.Bytes.declared.fault.MemberId.{MemberId}
use Rattle.cjc_int_mode.specs.ClassFile.Code.{CodeTree}
use Rattle.cjc_int_mode.specs.Script.Sorts.{Signature, field_sort, signature_of}
use Rattle.cjc_int_mode.specs.Bytecode.declared.insn.JOp.{JOp}
use Rattle.cjc_int_mode.specs.Bytecode.declared.insn.JOp.TheVariants as jop
use Rattle.cjc_ncode.specs.declared.narrow.NInsn.{NInsn}
use Rattle.cjc_ncode.specs.declared.narrow.NInsn.TheVariants.{Named}
use Rattle.cjc_ncode.specs.declared.narrow.PoolKey.{PoolKey}
use Rattle.cjc_ncode.specs.declared.narrow.PoolKey.TheVariants as keys
use Rattle.cjc_ncode.specs.PoolOrder.{has_catch_type, insn_keys, method_keys}
use Rattle.cjc_ncode.specs.Written.{Resolution, catches_at, field_access}
use Rattle.cjc_ncode.specs.IntCode.IntCode.{Before, Frame, Reached, called_with, int_method, place_from, place_in}
use Rattle.cjc_ncode.specs.IntCode.IntCode.{narrowed, prologue, size, static_get, written, written_from}
use Rattle.cjc_narrow.specs.Rows.Forms.{with_near}
use Rattle.cjc_narrow.proofs.RowsLaws.Handlers.{same_keys, same_types}

module _ (f : Frame) (r : Resolution) (near : MemberId → Bool) where
  abbrev other : Resolution
  other = with_near r near

  -- ---- one instruction: as many, and the same keys

  same_get : (field : MemberId) (value : Option ℤ) → static_get other field value ≡ static_get r field value
  same_get field (Some z) = refl
  same_get field None = refl

  same_call : (op : ℕ) (m : MemberId) (types : Option Signature) → called_with f other op m types
      ≡ called_with f r op m types
  same_call op m None = refl
  same_call op m (Some types) = refl

  put_length : (front : List NInsn) (one two : ℕ) (key : PoolKey) → length (front ++ Named one key ∷ [])
      ≡ length (front ++ Named two key ∷ [])
  put_length front one two key = length-append front (Named one key ∷ [])
      ∙ sym (length-append front (Named two key ∷ []))

  put_keys : (front : List NInsn) (one two : ℕ) (key : PoolKey) → flat_map insn_keys (front ++ Named one key ∷ [])
      ≡ flat_map insn_keys (front ++ Named two key ∷ [])
  put_keys front one two key = flat_map-append insn_keys front (Named one key ∷ [])
      ∙ sym (flat_map-append insn_keys front (Named two key ∷ []))

  same_length : (p : ℕ → ℕ) (b : Before) (here : ℕ) (op : JOp) → length (written f other p b here op)
      ≡ length (written f r p b here op)
  same_length p b here (jop.Field true field) = put_length _ _ _ (keys.Field (r.field field))
  same_length p b here (jop.Field false field) = refl
  same_length p b here (jop.Static true field) = refl
  same_length p b here (jop.Static false field) = ap length (same_get field (r.constant field))
  same_length p b here (jop.Call op m) = ap length (same_call op m (signature_of m.desc))
  same_length p b here op = refl

  one_keys : (p : ℕ → ℕ) (b : Before) (here : ℕ) (op : JOp) → flat_map insn_keys (written f other p b here op)
      ≡ flat_map insn_keys (written f r p b here op)
  one_keys p b here (jop.Field true field) =
      let sort = field_sort field.desc in
      put_keys (narrowed sort) (field_access true (near field) sort) (field_access true (r.is_near field) sort)
      (keys.Field (r.field field))
  one_keys p b here (jop.Field false field) = refl
  one_keys p b here (jop.Static true field) = refl
  one_keys p b here (jop.Static false field) = ap (flat_map insn_keys) (same_get field (r.constant field))
  one_keys p b here (jop.Call op m) = ap (flat_map insn_keys) (same_call op m (signature_of m.desc))
  one_keys p b here op = refl

  -- ---- all instructions

  same_size : (i : Reached) → size f other i ≡ size f r i
  same_size i = let j = i.insn in same_length (λ o. 0) i.before 0 j.op

  same_place : (reached : List Reached) (offset : ℕ) → place_from f other reached offset
      ≡ place_from f r reached offset
  same_place [] offset = refl
  same_place (i ∷ reached) offset =
      ap (λ n. (if nat_lt (let j = i.insn in j.at) offset then n else 0) + place_from f other reached offset)
      (same_size i)
      ∙ ap (λ n. (if nat_lt (let j = i.insn in j.at) offset then size f r i else 0) + n) (same_place reached offset)

  same_places : (reached : List Reached) → place_in f other reached ≡ place_in f r reached
  same_places reached = λ i offset. length (prologue f) + same_place reached offset i

  all_keys : (p : ℕ → ℕ) (here : ℕ) (reached : List Reached) → flat_map insn_keys (written_from f other p here reached)
      ≡ flat_map insn_keys (written_from f r p here reached)
  all_keys p here [] = refl
  all_keys p here (i ∷ reached) =
      let j = i.insn in
      let new : List NInsn = written f other p i.before here j.op in
      let old : List NInsn = written f r p i.before here j.op in
      flat_map-append insn_keys new (written_from f other p (here + length new) reached)
      ∙ ap (λ ks. ks ++ flat_map insn_keys (written_from f other p (here + length new) reached))
      (one_keys p i.before here j.op)
      ∙ ap (λ n. flat_map insn_keys old ++ flat_map insn_keys (written_from f other p (here + n) reached))
      (same_length p i.before here j.op)
      ∙ ap (λ ks. flat_map insn_keys old ++ ks) (all_keys p (here + length old) reached)
      ∙ sym (flat_map-append insn_keys old (written_from f r p (here + length old) reached))

  -- ---- the method

  module _ (code : CodeTree) (reached : List Reached) (places : List ℕ) where
    insns_keys : flat_map insn_keys (let m = int_method f other code reached places in m.insns)
        ≡ flat_map insn_keys (let m = int_method f r code reached places in m.insns)
    insns_keys =
        let n = length (prologue f) in
        flat_map-append insn_keys (prologue f) (written_from f other (place_in f other reached) n reached)
        ∙ ap (λ ks. flat_map insn_keys (prologue f) ++ ks) (ap (λ (p : ℕ → ℕ). flat_map insn_keys
        (written_from f other p n reached)) (same_places reached) ∙ all_keys (place_in f r reached) n reached)
        ∙ sym (flat_map-append insn_keys (prologue f) (written_from f r (place_in f r reached) n reached))

    same_catches : catches_at (place_in f other reached) code.catches ≡ catches_at (place_in f r reached) code.catches
    same_catches = ap (λ (p : ℕ → ℕ). catches_at p code.catches) (same_places reached)

    pub near_keys : method_keys (int_method f other code reached places)
        ≡ method_keys (int_method f r code reached places)
    near_keys = same_keys (int_method f other code reached places) (int_method f r code reached places) insns_keys
        (ap (λ cs. map (λ c. c.class) cs) same_catches)

    pub near_types : has_catch_type (int_method f other code reached places)
        ≡ has_catch_type (int_method f r code reached places)
    near_types = same_types (int_method f other code reached places) (int_method f r code reached places)
        (ap (λ cs. map (λ c. c.class) cs) same_catches)
