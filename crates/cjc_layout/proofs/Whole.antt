-- A layout is what its parts are.
use Rattle.std.proofs.Common.{◌≡◌, ℕ, sym, subst, Bool, List, length}
use Rattle.cjc_ncode.specs.declared.narrow.NMethod.{NMethod}
use Rattle.cjc_layout.specs.declared.layout.Handler.{Handler}
use Rattle.cjc_layout.specs.declared.layout.Layout.{Layout}
use Rattle.cjc_layout.specs.Sizes.{bytes_before, code_size}
use Rattle.cjc_layout.specs.Legal.{IsLeast}
use Rattle.cjc_layout.specs.Handlers.{handlers_of, table_order, AllLie}
use Rattle.cjc_layout.specs.Layouts.{HasPlaces, IsLayout}
use Rattle.cjc_layout.specs.Working.{offset_at}
use Rattle.cjc_layout.proofs.Orders.{handlers_same, lie_ordered, offset_same}

abbrev pub layout_of : List ℕ → List Bool → ℕ → List Handler → Layout
layout_of places wide length handlers = record { places = places; wide = wide; length = length; handlers = handlers }

pub is_layout : (m : NMethod) (places : List ℕ) (wide : List Bool) (end : ℕ) → IsLeast m.insns wide
    → HasPlaces m.insns (bytes_before m.insns wide) places → end ≡ code_size m.insns wide
    → AllLie (length m.insns) m.catches
    → IsLayout m (layout_of places wide end (handlers_of (offset_at places end) (table_order m.catches)))
is_layout m places wide end least has last lies = record {
  wide = least;
  places = has;
  length = last;
  handlers = handlers_same (length m.insns) (offset_at places end) (bytes_before m.insns wide)
      (offset_same m.insns (bytes_before m.insns wide) places end has last) (table_order m.catches)
      (lie_ordered (length m.insns) m.catches lies);
}

pub same_layout : (m : NMethod) (places other : List ℕ) (wide wides : List Bool) (end : ℕ) (handlers hs : List Handler)
    → other ≡ places → wides ≡ wide → hs ≡ handlers → IsLayout m (layout_of places wide end handlers)
    → IsLayout m (layout_of other wides end hs)
same_layout m places other wide wides end handlers hs e f g l =
    subst (λ x. IsLayout m (layout_of x wides end hs)) (sym e)
    (subst (λ x. IsLayout m (layout_of places x end hs)) (sym f)
    (subst (λ x. IsLayout m (layout_of places wide end x)) (sym g) l))
