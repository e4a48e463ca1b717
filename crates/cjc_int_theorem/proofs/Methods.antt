-- The methods of a package by modes come to their code as its consistency and its run by token ask.
use Rattle.std.proofs.Common.{◌≡◌, ℕ, ◌≤◌, arith, refl, sym, ap, subst, ◌∙◌, Bool, true, false, List, [], length}
use Rattle.std.specs.Prelude.{not, Some, slice_get}
use Rattle.std.specs.List.{Contains}
use Rattle.cjc_bytes.specs.declared.fault.MemberId.{MemberId}
use Rattle.cjc_bytes.proofs.Bools.{or_right}
use Rattle.cjc_bytes.proofs.Numbers.{none_at}
use Rattle.cjc_check_proof.proofs.PromisesLaws.Written.{made_abstract, made_selected, made_without}
use Rattle.cjc_check_proof.specs.CapRead.declared.tree.PoolEntry.{PoolEntry}
use Rattle.cjc_check_proof.specs.Made.{by_selection, without_code}
use Rattle.cjc_check_proof.specs.TokenProof.WrittenCalls.Standing.{AreMethods, IsSmall}
use Rattle.cjc_check_proof.specs.TokenProof.WrittenSends.Named.{CodeNamesAsWritten}
use Rattle.cjc_classes.specs.Emit.Emitted.{CanBeWritten, placed_at}
use Rattle.cjc_classes.specs.JvmSemantics.Linked.{Method}
use Rattle.cjc_classes.specs.JvmSemantics.OnePackage.{method_at, method_by}
use Rattle.cjc_classes.specs.Layout.Handlers.{AllLie}
use Rattle.cjc_classes.specs.Layout.Layouts.{IsWhole}
use Rattle.cjc_classes.specs.Layout.Sizes.{AllLead, widest_size}
use Rattle.cjc_classes.specs.List.Listed.{ListTree}
use Rattle.cjc_classes.specs.Narrow.Rows.Resolved.{argument_words, resolution}
use Rattle.cjc_classes.specs.Narrow.Rows.Selected.{near_fields, paired, selected_code}
use Rattle.cjc_classes.specs.Narrow.Written.Rows.{by_rows_there, has_rows, has_rows_by, rows_by}
use Rattle.cjc_classes.specs.Subset.Ints.{code_works_on_int}
use Rattle.cjc_classes.specs.Types.Flow.{body_of}
use Rattle.cjc_classes.specs.Types.Tables.{IsLeastTable}
use Rattle.cjc_components.specs.Bytecode.PackageCodes.{all_codes}
use Rattle.cjc_components.specs.Bytecode.declared.method_code.MethodCode.{MethodCode}
use Rattle.cjc_components.specs.Names.{naming_over}
use Rattle.cjc_components.specs.Package.{LaidMethod, Package, pool}
use Rattle.cjc_narrow_proof.proofs.SelectedLaws.IntFree.{none_without}
use Rattle.cjc_narrow_proof.proofs.SelectedLaws.Run.{same_code}
use Rattle.cjc_narrow_proof.proofs.SelectedLaws.Selectable.{selectable}
use Rattle.cjc_narrow_proof.proofs.SelectedLaws.Whole.{selected_whole}
use Rattle.cjc_narrow_proof.specs.CardSemantics.Machine.Loaded.{Loaded}
use Rattle.cjc_narrow_proof.specs.NCode.Lowering.Naming.{Naming}
use Rattle.cjc_narrow_proof.specs.NCode.Written.{narrow_method}
use Rattle.cjc_narrow_proof.specs.NCode.declared.narrow.NCatch.{NCatch}
use Rattle.cjc_narrow_proof.specs.NCode.declared.narrow.NInsn.{NInsn}
use Rattle.cjc_narrow_proof.specs.Selected.Operands.{NumbersFit}
use Rattle.cjc_int_narrow.specs.LowerIntMode.Room.{IsRoom}
use Rattle.cjc_int_narrow.specs.LowerIntMode.Written.{written_in_int_mode}
use Rattle.cjc_int_narrow.specs.LowerIntMode.declared.modes.Mode.{Mode}
use Rattle.cjc_int_narrow.specs.LowerIntMode.declared.modes.Mode.TheVariants as modes
use Rattle.cjc_int_narrow.proofs.Stands.{int_code_whole}
use Rattle.cjc_int_components.specs.Components.{is_in_int_mode}
use Rattle.cjc_int_components.specs.Limits.{lacks_int_room, word_breaks_by_modes}
use Rattle.cjc_int_components.specs.Made.{AllAreMadeByMode, IsMadeByMode, in_int_mode, in_short_mode}
use Rattle.cjc_int_components.specs.Modes.{AreModes, Tables, is_int}
use Rattle.cjc_int_components.specs.Written.{IsWrittenByMode, code_by_mode, code_in}
use Rattle.cjc_int_components.proofs.ByModes.{written_outside}
use Rattle.cjc_int_components.proofs.ByTables.{insns_are, int_made, int_code_same}
use Rattle.cjc_int_selection.proofs.Constants.{constants_fit}
use Rattle.cjc_int_components.proofs.Operations.{names_by_modes}
use Rattle.cjc_int_components.proofs.Room.{room_in_int_mode, works_in_int_mode}
use Rattle.cjc_int_components.proofs.Words.{methods_are}
use Rattle.cjc_shape.specs.LowerJudge.Rules.{settings_of}
use Rattle.cjc_world.specs.Files.{Files}
use Rattle.cjc_shape_proof.proofs.WrittenLaws.Coded.{ComesFrom, IsCoded, comes_from, from_abstract, from_code}
use Rattle.cjc_shape_proof.proofs.WrittenLaws.Coded.{from_none, own_at}
use Rattle.cjc_shape_proof.proofs.WrittenLaws.Made.{small_by}
use Rattle.cjc_shape_proof.proofs.WrittenLaws.Shaping.{none_broken, none_long}
use Rattle.cjc_int_theorem.specs.ByModes.{IsConvertedByModes}
use Rattle.cjc_int_theorem.proofs.Constants.{puts_none}
use Rattle.cjc_int_theorem.proofs.IntCode.{int_can_be_written}
use Rattle.cjc_int_theorem.proofs.Numbers.{few_keys, numbers_stay, tokens_small, with_low_tokens}
use Rattle.cjc_int_theorem.proofs.ShortCode.{short_written}
use Rattle.cjc_int_theorem.proofs.Tokens.{token_low}

-- ---- methods that come to their code by their modes can be laid out

one_whole : (n : Naming) (files : Files) (m : LaidMethod) → IsMadeByMode n files m → IsWhole m.code
one_whole n files m (in_short_mode (without_code abstract insns catches least)) =
    let none : (is : List NInsn) → [] ≡ is → widest_size is ≤ (let c = m.code in c.widest) =
    λ is e. subst (λ (x : List NInsn). widest_size x ≤ (let c = m.code in c.widest)) e (omega arith) in
    record {
      leads = subst (λ (is : List NInsn). AllLead (length is) is) (sym insns) tt;
      lies = subst (λ (cs : List NCatch). AllLie (length (let c = m.code in c.insns)) cs) (sym catches) tt;
      size = none (let c = m.code in c.insns) (sym insns);
    }
one_whole n files m (in_short_mode (by_selection {code = code} {class = class} {method = method} {tree = tree} is
    {rows = rows} least some near made can)) =
    subst IsWhole (sym made) (selected_whole files code class method tree is rows least near)
one_whole n files m (in_int_mode {code = code} {class = class} {method = method} {tree = tree} is {rows = rows} least
    some near ranges made can) =
    subst IsWhole (sym made) (int_code_whole files code class method tree is rows least ranges (resolution files near
    class.name))

-- ---- a package

module _ (list : ListTree) (codes : List MethodCode) (t : Tables) (p : Package) (is : IsConvertedByModes list codes t p)
  where
    abbrev near : List MemberId
    near = near_fields (pool p)

    pub are_methods : AreMethods p
    are_methods = methods_are list p.files codes t p is.is_package

    pub code_named : CodeNamesAsWritten p (near_fields (pool p))
    code_named = names_by_modes list codes t p is.is_package (puts_none list codes p is.checked are_methods)

    written_at : (k : ℕ) (m : LaidMethod) → slice_get p.methods k ≡ Some m → IsWrittenByMode p.files near t m
    written_at k m e = is.is_package.methods k m e

    -- 415
    short_at : (k : ℕ) (m : LaidMethod) → slice_get p.methods k ≡ Some m → (let c = m.code in c.widest ≤ 32767)
    short_at = none_long p (own_at list codes p is.checked are_methods) is.forms

    -- ---- a method with code

    module _ (k : ℕ) (m : LaidMethod) (e : slice_get p.methods k ≡ Some m) (c : IsCoded p.files codes m) where
      abbrev x : Method
      x = method_by c.class c.method (Some c.tree)

      listed : Contains (all_codes (let w = p.files in w.classes)) c.code
      listed = subst (λ cs. Contains cs c.code) is.checked.codes_are c.listed

      pub least : IsLeastTable (body_of c.class c.method c.tree (let d = c.code in d.insns)) (t.types x)
      least = (is.least c.code c.class c.method c.tree listed c.of).0

      -- outside int mode it works on no int
      pub free : t.mode x ≡ modes.Short → code_works_on_int p.files c.code ≡ false
      free mode = by list.ints refl
        where
          by : (b : Bool) → list.ints ≡ b → code_works_on_int p.files c.code ≡ false
          by true ints = works_in_int_mode p.files t (subst (λ b. AreModes b p.files t) ints is.modes) c.code c.class
              c.method c.tree listed c.of c.plain mode
          by false ints = none_without list.name p.files codes (settings_of list)
              is.checked.checks ints c.code c.class c.method c.tree c.listed c.of c.plain

      -- 417
      pub room : t.mode x ≡ modes.Int → IsRoom (body_of c.class c.method c.tree (let d = c.code in d.insns))
          (t.types x) modes.Int true
      room mode =
          let none = none_broken p (own_at list codes p is.checked are_methods) (word_breaks_by_modes t p) is.words k m
          e
          in
          let off : lacks_int_room t p.files (Some x) ≡ false = ap (lacks_int_room t p.files) (sym c.known)
          ∙ or_right _ (lacks_int_room t p.files (method_at p.files m.member)) (none_at _ _ 417 none) in
          subst (λ b. IsRoom (body_of c.class c.method c.tree (let d = c.code in d.insns)) (t.types x) modes.Int (not
          b))
          off (room_in_int_mode p.files c.code c.class c.method c.tree c.of c.found t mode)

      -- what is written of it
      as_selected : t.mode x ≡ modes.Short → m.code ≡ selected_code p.files near c.class c.method c.tree
          (let d = c.code in d.insns) (rows_by (has_rows (t.types x)))
      as_selected mode =
          let w = written_at k m e in
          let insns = (let d = c.code in d.insns) in
          let rows = t.types x in
          w.code ∙ ap (code_by_mode p.files near t m.member) c.known ∙ ap (λ q. code_in p.files near t q x) mode
          ∙ same_code p.files near t.types c.class c.method c.tree c.found
          ∙ ap (λ is. selected_code p.files near c.class c.method c.tree is rows) (insns_are p.files c.code c.class
          c.method c.tree c.of)
          ∙ by_rows_there (paired p.files near c.class c.method c.tree insns (has_rows rows)) c.tree
          (argument_words (let o = c.method in o.flags) (let o = c.method in o.desc)) insns rows
          ∙ ap (λ hs. narrow_method (paired p.files near c.class c.method c.tree insns hs) c.tree
          (argument_words (let o = c.method in o.flags) (let o = c.method in o.desc)) insns (rows_by (has_rows rows)))
          (sym (has_rows_by (has_rows rows)))

      pub as_int_code : t.mode x ≡ modes.Int → m.code ≡ written_in_int_mode (resolution p.files near
          (let d = c.class in d.name)) c.tree (body_of c.class c.method c.tree (let d = c.code in d.insns)) (t.types x)
          (t.ranges x)
      as_int_code mode =
          let w = written_at k m e in
          w.code ∙ ap (code_by_mode p.files near t m.member) c.known ∙ ap (λ q. code_in p.files near t q x) mode
          ∙ int_code_same p.files c.code c.class c.method c.tree c.of near t c.found

      module _ (loaded : Loaded) (entries : List PoolEntry) where
        abbrev n : Naming
        n = naming_over loaded entries p

        abbrev low : Naming
        low = with_low_tokens loaded entries p

        stay : (j : ℕ) (i : NInsn) → (let d = m.code in slice_get d.insns j ≡ Some i) → NumbersFit low i →
            NumbersFit n i
        stay j i at = numbers_stay loaded entries p i
            (λ nargs id is_call. token_low list codes p is.checked are_methods near code_named k m e j nargs id
            (at ∙ ap Some is_call))

        outside : t.mode x ≡ modes.Short → CanBeWritten n (placed_at 0 m.code m.wide)
        outside mode =
            let w = written_at k m e in
            let at = is.checked.classes (let d = c.code in d.class) c.class (let o = c.of in o.is_class) in
            let able = selectable p.files c.code c.class c.method c.tree c.of at.0 at.1 list.name codes
            (settings_of list) (t.types x) least (record {
              unbroken = is.checked.checks;
              no_int = free mode;
              listed = c.listed;
              typed = is.typed c.code c.class c.method c.tree c.of;
            }) in
            short_written p.files c.code c.class c.method c.tree c.of (t.types x) least able (pool p) low n
            (tokens_small loaded entries p (few_keys p is.forms)) m (as_selected mode) w.wide (short_at k m e) stay

        inside : t.mode x ≡ modes.Int → CanBeWritten n (placed_at 0 m.code m.wide)
        inside mode =
            let w = written_at k m e in
            let at = is.checked.classes (let d = c.code in d.class) c.class (let o = c.of in o.is_class) in
            int_can_be_written p.files c.code c.class c.method c.tree c.of at.0 at.1 (t.types x) least
            (is.typed c.code c.class c.method c.tree c.of) (room mode) (pool p)
            (λ g z h. constants_fit p.files is.checked.classes is.checked.written z near (let d = c.class in d.name)
            g h) (t.ranges x) low n (tokens_small loaded entries p (few_keys p is.forms)) m (as_int_code mode) w.wide
            (short_at k m e) stay

        coded : IsMadeByMode n p.files m
        coded = by (t.mode x) refl
          where
            by : (q : Mode) → t.mode x ≡ q → IsMadeByMode n p.files m
            by modes.Short mode = in_short_mode (made_selected n p.files near t.types m
                (written_outside p.files near t m (written_at k m e) (ap (is_in_int_mode t) c.known ∙ ap is_int mode))
                c.code c.class c.method c.tree c.of c.known c.found least c.some (outside mode))
            by modes.Int mode = int_made p.files c.code c.class c.method c.tree c.of n m near t (written_at k m e)
                c.known mode c.found is.least listed c.some (inside mode)

    -- ---- all methods

    module _ (loaded : Loaded) (entries : List PoolEntry) where
      pub all_made : AllAreMadeByMode (naming_over loaded entries p) p.files p.methods
      all_made k m e = by (comes_from list codes p is.checked are_methods k m e)
        where
          by : ComesFrom p.files codes m → IsMadeByMode (naming_over loaded entries p) p.files m
          by (from_none none) = in_short_mode (made_without (naming_over loaded entries p) p.files near t.types m
              (written_outside p.files near t m (written_at k m e) (ap (is_in_int_mode t) none)) none)
          by (from_abstract class method known) = in_short_mode (made_abstract (naming_over loaded entries p) p.files
              near
              t.types m (written_outside p.files near t m (written_at k m e) (ap (is_in_int_mode t) known
              ∙ ap is_int (is.modes.without_code class method))) class method known)
          by (from_code c) = coded k m e c loaded entries

      pub all_whole : (k : ℕ) (m : LaidMethod) → slice_get p.methods k ≡ Some m → IsWhole m.code
      all_whole k m e = one_whole (naming_over loaded entries p) p.files m (all_made k m e)

      -- 416
      pub all_small : IsSmall p
      all_small = small_by p all_whole is.sizes
