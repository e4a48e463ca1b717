-- The tables of one class.
use Rattle.std.proofs.Common.{◌≡◌, ℕ, ap, ◌∙◌, List}
use Rattle.std.specs.Prelude.{map, Option}
use Rattle.cjc_world.specs.ClassFile.declared.tree.ClassTree.{ClassTree}
use Rattle.cjc_world.specs.declared.found.Found.{Found}
use Rattle.cjc_world.specs.Classes.{Class, declared}
use Rattle.cjc_world.specs.Interfaces.{known}
use Rattle.cjc_tokens.specs.Lines.{line_at}
use Rattle.cjc_tokens.specs.Slots.{shown_token, row, hidden_row}
use Rattle.cjc_tokens.specs.Methods.{interfaces_at}
use Rattle.cjc_vtable.specs.declared.table.ClassTable.{ClassTable}
use Rattle.cjc_vtable.specs.declared.table.InterfaceMap.{InterfaceMap}
use Rattle.cjc_vtable.specs.Tables.{base, entries, methods, interface_map, table_of}

made : ℕ → ℕ → List (Option Found) → ℕ → List Found → List InterfaceMap → ClassTable
made n a b c d e = record { class = n; public_base = a; public = b; package_base = c; «package» = d; maps = e }

pub tabled : (w : List Class) (n : ℕ) (c : ClassTree) (shown hidden : List (Option Found)) (a b : ℕ) (public found :
    List (Option Found)) (listed : List Found) (maps : List InterfaceMap)
    → shown ≡ row (line_at w (declared n c)) → hidden ≡ hidden_row (line_at w (declared n c))
    → a ≡ base n shown → public ≡ entries n shown → b ≡ base n hidden → found ≡ entries n hidden
    → listed ≡ methods found
    → maps ≡ map (interface_map w (shown_token (line_at w (declared n c)))) (known (interfaces_at w (declared n c)))
    → record { class = n; public_base = a; public = public; package_base = b; «package» = listed; maps = maps }
    ≡ table_of w (declared n c)
unfolding made
tabled w n c shown hidden a b public found listed maps s h p q r e l m =
    ap (λ v. made n v public b listed maps) (p ∙ ap (base n) s)
    ∙ ap (λ v. made n (base n (row (line_at w (declared n c)))) v b listed maps) (q ∙ ap (entries n) s)
    ∙ ap (λ v. made n (base n (row (line_at w (declared n c)))) (entries n (row (line_at w (declared n c)))) v listed
    maps) (r ∙ ap (base n) h)
    ∙ ap (λ v. made n (base n (row (line_at w (declared n c)))) (entries n (row (line_at w (declared n c))))
    (base n (hidden_row (line_at w (declared n c)))) v maps) (l ∙ ap methods (e ∙ ap (entries n) h))
    ∙ ap (λ v. made n (base n (row (line_at w (declared n c)))) (entries n (row (line_at w (declared n c))))
    (base n (hidden_row (line_at w (declared n c)))) (methods (entries n (hidden_row (line_at w (declared n c)))))
    v) m
