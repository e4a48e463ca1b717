-- The narrow code of a method that names no instance field is the same, whichever fields have an index of one byte.
use Rattle.std.proofs.Common.{◌≡◌, ℕ, ◌+◌, ◌-◌, ◌||◌, refl, ap, ◌∙◌, Bool, true, false, List, [], ◌∷◌, ◌++◌, length}
use Rattle.std.specs.Prelude.{if◌then◌else◌, is_some, nat_lt, replicate, Option, Some, None, ℤ}
use Rattle.std.specs.List.{flat_map, list_any}
use Rattle.cjc_bytes.proofs.Bools.{or_left, or_right}
use Rattle.cjc_bytes.specs.declared.fault.MemberId.{MemberId}
use Rattle.cjc_types.specs.ClassFile.Code.{CodeTree}
use Rattle.cjc_types.specs.ClassFile.declared.tree.Catch.{Catch}
use Rattle.cjc_types.specs.Bytecode.declared.insn.JInsn.{JInsn}
use Rattle.cjc_types.specs.Bytecode.declared.insn.JOp.{JOp}
use Rattle.cjc_types.specs.Bytecode.declared.insn.JOp.TheVariants as jop
use Rattle.cjc_types.specs.Flow.{Body}
use Rattle.cjc_types.specs.Marks.{marks_of}
use Rattle.cjc_ncode.specs.declared.narrow.NInsn.{NInsn}
use Rattle.cjc_ncode.specs.declared.narrow.PairRole.{PairRole}
use Rattle.cjc_ncode.specs.declared.narrow.PairRole.TheVariants.{Alone, Opens, Closes}
use Rattle.cjc_ncode.specs.Written.{Access, Resolution, accessed, catches_at, is_load}
use Rattle.cjc_ncode.specs.Written.{narrow_code, narrow_method, on_this}
use Rattle.cjc_ncode.specs.Written.{place_in, reached, sources, static_by, widest_sum, written, written_as, written_for}
use Rattle.cjc_narrow.specs.declared.select.pairs.PairKind.{PairKind}
use Rattle.cjc_narrow.specs.declared.select.pairs.PairStep.{PairStep}
use Rattle.cjc_narrow.specs.Pairs.Roles.{is_joined, keeps_this, kind_if, kind_of, role_in, roles_from, steps_from}
use Rattle.cjc_narrow.specs.Pairs.Roles.{with_pairs}
use Rattle.cjc_narrow.specs.Rows.Forms.{with_near}
use Rattle.cjc_methods.specs.Working.Fields.{names_field}

-- none of them does
abbrev pub NameNone : List JInsn → Type 0
NameNone insns = list_any names_field insns ≡ false

-- nor one of those that are reached
pub reached_none : {A : Type 0} (insns : List JInsn) (rows : List (Option A)) → NameNone insns
    → NameNone (reached insns rows)
reached_none [] rows e = refl
reached_none (i ∷ insns) [] e = refl
reached_none (i ∷ insns) (Some row ∷ rows) e =
    ap (λ b. b || list_any names_field (reached insns rows)) (or_left (names_field i) (list_any names_field insns) e)
    ∙ reached_none insns rows (or_right (names_field i) (list_any names_field insns) e)
reached_none (i ∷ insns) (None ∷ rows) e = reached_none insns rows (or_right (names_field i)
    (list_any names_field insns) e)

-- ---- one instruction

module _ (r : Resolution) (near : MemberId → Bool) where
  abbrev other : Resolution
  other = with_near r near

  kind_same : (keeps : Bool) (op : JOp) → is_some (accessed op) ≡ false → kind_of keeps other op ≡ kind_of keeps r op
  kind_same keeps (jop.Field put f) e = absurd cc
  kind_same keeps op e = refl

  kind_if_same : (is keeps : Bool) (op : JOp) → is_some (accessed op) ≡ false → kind_if is keeps other op
      ≡ kind_if is keeps r op
  kind_if_same true keeps op e = kind_same keeps op e
  kind_if_same false keeps op e = refl

  static_same : (put : Bool) (f : MemberId) (constant : Option ℤ) → static_by other put f constant
      ≡ static_by r put f constant
  static_same put f (Some z) = refl
  static_same put f None = refl

  written_same : (p : ℕ → ℕ) (op : JOp) → is_some (accessed op) ≡ false → written other p op ≡ written r p op
  written_same p (jop.Field put f) e = absurd cc
  written_same p (jop.Static put f) e = static_same put f (r.constant f)
  written_same p (jop.Load false l) e = refl
  written_same p (jop.Load true l) e = refl
  written_same p (jop.Store false l) e = refl
  written_same p (jop.Store true l) e = refl
  written_same p op e = refl

  as_same : (role : PairRole) (p : ℕ → ℕ) (op : JOp) → is_some (accessed op) ≡ false
      → written_as role other p op ≡ written_as role r p op
  as_same Alone p op e = written_same p op e
  as_same Opens p op e = ap (λ (w : List NInsn). if is_load op then [] else w) (written_same p op e)
  as_same Closes p op e = by (accessed op) e
    where
      by : (o : Option Access) → is_some o ≡ false → on_this other p op o ≡ on_this r p op o
      by None f = written_same p op e
      by (Some a) f = absurd cc

  -- ---- all of them

  for_same : (p : ℕ → ℕ) (i : JInsn) → names_field i ≡ false → written_for other p i ≡ written_for r p i
  for_same p i e = as_same (r.role i.at) p i.op e

  all_same : (p : ℕ → ℕ) (insns : List JInsn) → NameNone insns → flat_map (written_for other p) insns
      ≡ flat_map (written_for r p) insns
  all_same p [] e = refl
  all_same p (i ∷ insns) e =
      ap (λ (w : List NInsn). w ++ flat_map (written_for other p) insns) (for_same p i (or_left (names_field i)
      (list_any names_field insns) e))
      ∙ ap (λ (w : List NInsn). written_for r p i ++ w) (all_same p insns (or_right (names_field i)
      (list_any names_field insns) e))

  place_same : (insns : List JInsn) → NameNone insns → (offset : ℕ) → place_in other insns offset
      ≡ place_in r insns offset
  place_same [] e offset = refl
  place_same (i ∷ insns) e offset =
      ap (λ (w : List NInsn). (if nat_lt i.at offset then length w else 0) + place_in other insns offset)
      (for_same (λ o. 0) i (or_left (names_field i) (list_any names_field insns) e))
      ∙ ap (λ n. (if nat_lt i.at offset then length (written_for r (λ o. 0) i) else 0) + n)
      (place_same insns (or_right (names_field i) (list_any names_field insns) e) offset)

  places_same : (insns : List JInsn) → NameNone insns → place_in other insns ≡ place_in r insns
  places_same insns e = λ j offset. place_same insns e offset j

  code_same : (insns : List JInsn) → NameNone insns → narrow_code other insns ≡ narrow_code r insns
  code_same insns e = ap (λ (p : ℕ → ℕ). flat_map (written_for other p) insns) (places_same insns e)
      ∙ all_same (place_in r insns) insns e

  sources_same : {A : Type 0} (k : ℕ) (insns : List JInsn) (rows : List (Option A)) → NameNone insns
      → sources other k insns rows ≡ sources r k insns rows
  sources_same k [] rows e = refl
  sources_same k (i ∷ insns) [] e = refl
  sources_same k (i ∷ insns) (Some row ∷ rows) e =
      ap (λ (w : List NInsn). replicate (length w) k ++ sources other (k + 1) insns rows)
      (for_same (λ o. 0) i (or_left (names_field i) (list_any names_field insns) e))
      ∙ ap (λ from. replicate (length (written_for r (λ o. 0) i)) k ++ from)
      (sources_same (k + 1) insns rows (or_right (names_field i) (list_any names_field insns) e))
  sources_same k (i ∷ insns) (None ∷ rows) e = sources_same (k + 1) insns rows (or_right (names_field i)
      (list_any names_field insns) e)

  -- ---- the method, with any roles

  pub method_same : {A : Type 0} (code : CodeTree) (nargs : ℕ) (insns : List JInsn) (rows : List (Option A))
      → NameNone insns → narrow_method other code nargs insns rows ≡ narrow_method r code nargs insns rows
  method_same code nargs insns rows e =
      let kept = reached insns rows in
      let none = reached_none insns rows e in
      λ j. record {
        insns = code_same kept none j;
        from = sources_same 0 insns rows e j;
        catches = catches_at (places_same kept none j) code.catches;
        max_stack = code.max_stack;
        nargs = nargs;
        max_locals = code.max_locals - nargs;
        widest = widest_sum kept;
      }

  -- ---- the roles

  steps_same : (keeps : Bool) (marks : List ℕ) (catches : List Catch) (at before : ℕ) (insns : List JInsn)
      (hs : List Bool) → NameNone insns → steps_from keeps other marks catches at before insns hs
      ≡ steps_from keeps r marks catches at before insns hs
  steps_same keeps marks catches at before [] hs e = refl
  steps_same keeps marks catches at before (i ∷ insns) [] e = refl
  steps_same keeps marks catches at before (i ∷ insns) (is ∷ hs) e =
      ap (λ (k : PairKind). record { joined = is_joined marks catches at before i.at; kind = k }
      ∷ steps_from keeps other marks catches (at + 1) i.at insns hs)
      (kind_if_same is keeps i.op (or_left (names_field i) (list_any names_field insns) e))
      ∙ ap (λ (ss : List PairStep). record {
        joined = is_joined marks catches at before i.at;
        kind = kind_if is keeps r i.op;
      } ∷ ss)
      (steps_same keeps marks catches (at + 1) i.at insns hs (or_right (names_field i) (list_any names_field insns) e))

  pub pairs_same : (b : Body) (hs : List Bool) → NameNone b.insns → with_pairs other b hs
      ≡ with_near (with_pairs r b hs) near
  unfolding with_pairs
  pairs_same b hs e = ap (λ (ss : List PairStep). record other { role = role_in b.insns (roles_from false ss) })
      (steps_same (keeps_this b hs) (marks_of b) b.catches 0 0 b.insns hs e)
