use Rattle.std.proofs.Common.{sym, ap, subst, ◌∙◌, List, length}
use Rattle.std.specs.Prelude.{All, map}
use Rattle.std.specs.List.{list_any}
use Rattle.std.proofs.lemmas.List.{length-map}
use Rattle.std.proofs.lemmas.Result.{err_from_is_err_and}
use Rattle.cjc_narrow_proof.specs.ExportFile.Written.{constants}
use Rattle.cjc_methods.specs.JvmSemantics.OnePackage.{method_at}
use Rattle.cjc_methods.specs.Layout.Layouts.{IsWhole}
use Rattle.cjc_methods.specs.LowerIntPackage.Components.{is_in_int_mode}
use Rattle.cjc_methods.specs.LowerIntPackage.Written.{code_by_mode_at}
use Rattle.cjc_methods.specs.Narrow.Rows.Selected.{near_fields}
use Rattle.cjc_narrow_proof.specs.NCode.PoolOrder.{pool_order}
use Rattle.cjc_narrow_proof.specs.NCode.declared.narrow.NMethod.{NMethod}
use Rattle.cjc_shape.proofs.PreparedLaws.Parts.{listed_own}
use Rattle.cjc_shape.proofs.PreparedLaws.Sound.{are_ready, no_image_break}
use Rattle.cjc_shape.proofs.WholeLaws.Codes.{draft, is_draft}
use Rattle.cjc_shape.proofs.WholeLaws.Ints.{are_free}
use Rattle.cjc_shape.proofs.WholeLaws.Modes.{modes_count, own_has, own_tables, tables_told}
use Rattle.cjc_shape.proofs.WholeLaws.Second.{is_base}
use Rattle.cjc_shape.proofs.WholeLaws.Shapes.{forms_refused, is_narrow, shaped, told, words_refused}
use Rattle.cjc_shape.proofs.whole.shaping.shape.Goals as goal

-- ---- what is asked of the calls

pub test_words-requires-clause-ready : goal.test_words-requires-clause-ready
test_words-requires-clause-ready c = let j = c.args.judged.now in rw (c.items.ensures, c.items-2.ensures)
    (are_ready j.list.now j.files.now j c.requires)

pub test_words-requires-clause-count : goal.test_words-requires-clause-count
test_words-requires-clause-count c = let j = c.args.judged.now in rw (c.items-3.ensures, c.items.ensures)
    (modes_count j.list.now j.files.now j c.requires)

pub test_words-requires-clause-own : goal.test_words-requires-clause-own
test_words-requires-clause-own c = let j = c.args.judged.now in rw c.items-4.ensures
    (listed_own j.world c.in_ok-members.members c.in_ok-members.ensures.listed)

pub is_any_in_int_mode-requires-clause-listed : goal.is_any_in_int_mode-requires-clause-listed
is_any_in_int_mode-requires-clause-listed c = rw c.items-5.ensures c.in_ok-members.ensures.listed

pub image_of-requires : goal.image_of-requires
image_of-requires c = let j = c.args.judged.now in no_image_break j.list.now j.files.now j c.requires

pub narrow_codes-requires-clause-ready : goal.narrow_codes-requires-clause-ready
narrow_codes-requires-clause-ready c = let j = c.args.judged.now in rw (c.items-6.ensures, c.items-7.ensures)
    (are_ready j.list.now j.files.now j c.requires)

pub narrow_codes-requires-clause-count : goal.narrow_codes-requires-clause-count
narrow_codes-requires-clause-count c = let j = c.args.judged.now in rw (c.items-8.ensures, c.items-6.ensures)
    (modes_count j.list.now j.files.now j c.requires)

pub narrow_codes-requires-clause-free : goal.narrow_codes-requires-clause-free
narrow_codes-requires-clause-free c =
    let j = c.args.judged.now in
    let list = j.list.now in
    let files = j.files.now in
    let exist = c.least_ranges_exist.ensures in
    rw (c.items-6.ensures, c.items-8.ensures) (are_free list files j c.requires (own_tables list files j c.requires
    exist) (own_has list files j c.requires exist))

pub narrow_codes-requires-clause-listed : goal.narrow_codes-requires-clause-listed
narrow_codes-requires-clause-listed c = rw c.items-9.ensures c.in_ok-members.ensures.listed

pub narrow_codes-requires-clause-room : goal.narrow_codes-requires-clause-room
narrow_codes-requires-clause-room c =
    let room = rw (c.items.ensures, c.items-2.ensures, c.items-3.ensures, c.items-4.ensures) at
    c.in_ok-test_words.ensures.room in
    rw (c.items-6.ensures, c.items-7.ensures, c.items-8.ensures, c.items-9.ensures) room

pub lay_out-requires-clause-own : goal.lay_out-requires-clause-own
lay_out-requires-clause-own c = let j = c.args.judged.now in rw c.items-11.ensures
    (listed_own j.world c.in_ok-members.members c.in_ok-members.ensures.listed)

pub lay_out-requires-clause-whole : goal.lay_out-requires-clause-whole
lay_out-requires-clause-whole c =
    let j = c.args.judged.now in
    let list = j.list.now in
    let files = j.files.now in
    let members = c.in_ok-members.members in
    let codes = c.in_ok-codes.codes in
    let exist = c.least_ranges_exist.ensures in
    let t = own_tables list files j c.requires exist in
    let are = tables_told list files j c.requires t (own_has list files j c.requires exist) in
    let by = c.in_ok-codes.ensures t (rw (c.items-6.ensures, c.items-7.ensures, c.items-8.ensures) are)
    ∙ ap (map (code_by_mode_at j.world (near_fields (pool_order codes)) t)) c.items-9.ensures in
    subst (λ (cs : List NMethod). All IsWhole cs) (sym by) (c.methods_can_be_laid_out.ensures j.world j.codes j.types
    j.modes (are_ready list files j c.requires) (modes_count list files j c.requires) t are
    (near_fields (pool_order codes)) members (listed_own j.world members c.in_ok-members.ensures.listed))

pub lay_out-requires-clause-count : goal.lay_out-requires-clause-count
lay_out-requires-clause-count c =
    let j = c.args.judged.now in
    let list = j.list.now in
    let files = j.files.now in
    let codes = c.in_ok-codes.codes in
    let exist = c.least_ranges_exist.ensures in
    let t = own_tables list files j c.requires exist in
    let are = tables_told list files j c.requires t (own_has list files j c.requires exist) in
    let by = c.in_ok-codes.ensures t (rw (c.items-6.ensures, c.items-7.ensures, c.items-8.ensures) are) in
    ap length by ∙ length-map c.items-9.result.now (code_by_mode_at j.world (near_fields (pool_order codes)) t)
    ∙ ap length (c.items-9.ensures ∙ sym c.items-11.ensures)

-- ---- refusals

pub returns-in_err-test_words-clause-refused : goal.returns-in_err-test_words-clause-refused
returns-in_err-test_words-clause-refused c =
    let j = c.args.judged.now in
    let list = j.list.now in
    let files = j.files.now in
    let exist = c.least_ranges_exist.ensures in
    let t = own_tables list files j c.requires exist in
    let has = own_has list files j c.requires exist in
    let d = draft list files j c.requires t has in
    let base = is_base list files j c.requires t has d (is_draft list files j c.requires t has) in
    let are = tables_told list files j c.requires t has in
    let e = err_from_is_err_and c.from_residual-in_err-test_words.result c.from_residual-in_err-test_words.ensures.1 in
    rw (e.1, e.2) (words_refused list files j c.requires t has _ (c.in_err-test_words.ensures.refused t d
    (rw (c.items.ensures, c.items-2.ensures, c.items-3.ensures) are) base.by_files (base.by_members
    ∙ sym (c.items-4.ensures ∙ c.in_ok-members.ensures.made))))

pub returns-in_err-methods-clause-refused : goal.returns-in_err-methods-clause-refused
returns-in_err-methods-clause-refused c =
    let j = c.args.judged.now in
    let list = j.list.now in
    let files = j.files.now in
    let exist = c.least_ranges_exist.ensures in
    let t = own_tables list files j c.requires exist in
    let has = own_has list files j c.requires exist in
    let d = draft list files j c.requires t has in
    let base = is_base list files j c.requires t has d (is_draft list files j c.requires t has) in
    let are = tables_told list files j c.requires t has in
    let codes = c.in_ok-codes.codes in
    let by = c.in_ok-codes.ensures t (rw (c.items-6.ensures, c.items-7.ensures, c.items-8.ensures) are) in
    let narrow = is_narrow list files j c.requires t has c.items-9.result.now codes (c.items-9.ensures
    ∙ c.in_ok-members.ensures.made) by in
    let is_told = told list files j c.requires t has c.items-10.result.now c.items-11.result.now codes
    c.in_ok-exported.exported (sym c.items-10.ensures) (c.items-11.ensures ∙ c.in_ok-members.ensures.made) narrow
    (c.in_ok-exported.ensures ∙ ap (λ t. length (constants t)) (c.in_ok-export.ensures d base.by_list base.by_files)) in
    let none = c.in_ok-test_words.ensures.unbroken t d (rw (c.items.ensures, c.items-2.ensures, c.items-3.ensures) are)
    base.by_files (base.by_members ∙ sym (c.items-4.ensures ∙ c.in_ok-members.ensures.made)) in
    let e = err_from_is_err_and c.from_residual-in_err-methods.result c.from_residual-in_err-methods.ensures.1 in
    rw (e.1, e.2) (forms_refused list files j c.requires t has _ none (c.in_err-methods.ensures.refused d is_told))

-- ---- the package

pub returns-clause-shaped : goal.returns-clause-shaped
returns-clause-shaped c =
    let j = c.args.judged.now in
    let list = j.list.now in
    let files = j.files.now in
    let exist = c.least_ranges_exist.ensures in
    let t = own_tables list files j c.requires exist in
    let has = own_has list files j c.requires exist in
    let d = draft list files j c.requires t has in
    let base = is_base list files j c.requires t has d (is_draft list files j c.requires t has) in
    let are = tables_told list files j c.requires t has in
    let codes = c.in_ok-codes.codes in
    let by = c.in_ok-codes.ensures t (rw (c.items-6.ensures, c.items-7.ensures, c.items-8.ensures) are) in
    let narrow = is_narrow list files j c.requires t has c.items-9.result.now codes (c.items-9.ensures
    ∙ c.in_ok-members.ensures.made) by in
    let members = c.items-11.ensures ∙ c.in_ok-members.ensures.made in
    let is_told = told list files j c.requires t has c.items-10.result.now c.items-11.result.now codes
    c.in_ok-exported.exported (sym c.items-10.ensures) members narrow
    (c.in_ok-exported.ensures ∙ ap (λ t. length (constants t)) (c.in_ok-export.ensures d base.by_list base.by_files)) in
    let none = c.in_ok-test_words.ensures.unbroken t d (rw (c.items.ensures, c.items-2.ensures, c.items-3.ensures) are)
    base.by_files (base.by_members ∙ sym (c.items-4.ensures ∙ c.in_ok-members.ensures.made)) in
    let mode = c.in_ok-in_int_mode.ensures t are
    ∙ ap (list_any (λ f. is_in_int_mode t (method_at j.world f))) (c.items-5.ensures ∙ sym c.items-11.ensures) in
    shaped j c.requires t has _ c.items-11.result.now codes members narrow c.tokens_in-tokens.ensures
    c.in_ok-image.ensures c.in_ok-methods.ensures.laid (λ p e f. c.in_ok-export.ensures p e f) mode none
    (c.in_ok-methods.ensures.unbroken d is_told)
