-- The grammar of one line of a script, as a function: what the words of a line say.
use Rattle.std.specs.Prelude.{ℕ, List, [], ◌∷◌, Option, Some, None, option_map, option_and_then, is_some, true, false}
use Rattle.std.specs.Prelude.{if◌then◌else◌, Result, codes}
use Rattle.std.specs.Str.{bytes_eq}
use Rattle.cjc_list.specs.Bytes.Found.{kept}
use Rattle.cjc_list.specs.Bytes.Text.{TextLine, words}
use Rattle.cjc_list.specs.Grammar.{is_name}
use Rattle.cjc_script.specs.declared.script.Act.TheVariants.{Array, Object, Put}
use Rattle.cjc_script.specs.declared.script.Reply.TheVariants.{Give, Throw}
use Rattle.cjc_script_text.specs.declared.item.Item.{Item}
use Rattle.cjc_script_text.specs.declared.item.Item.TheVariants as items
use Rattle.cjc_script_text.specs.Words.{number_of, reference_of, value_of, values_of, method_of, is_array}

-- `CLASS METHOD VALUE*` behind `call`
unfoldable pub call_of : List (List ℕ) → Option Item
call_of (class ∷ method ∷ values) = option_and_then (λ m. option_map (λ args. items.Call false m args)
    (values_of values)) (method_of class method)
call_of _ = None

-- `CLASS METHOD REF VALUE*` behind `send`
unfoldable pub send_of : List (List ℕ) → Option Item
send_of (class ∷ method ∷ receiver ∷ values) =
    if is_some (reference_of receiver)
    then option_and_then (λ m. option_map (λ args. items.Call true m args) (values_of (receiver ∷ values)))
    (method_of class method)
    else None
send_of _ = None

-- nothing or `VALUE` behind `give`
unfoldable pub give_of : List (List ℕ) → Option Item
give_of [] = Some (items.Reply (Give None))
give_of (value ∷ []) = option_map (λ v. items.Reply (Give (Some v))) (value_of value)
give_of _ = None

-- `CLASS` behind `throw`
unfoldable pub throw_of : List (List ℕ) → Option Item
throw_of (class ∷ []) = if is_name class then Some (items.Reply (Throw class)) else None
throw_of _ = None

-- `DESC LENGTH` behind `array`
unfoldable pub array_act : List (List ℕ) → Option Item
array_act (desc ∷ count ∷ []) = if is_array desc then option_map (λ z. items.Act (Array desc z)) (number_of count)
    else None
array_act _ = None

-- `CLASS` behind `object`
unfoldable pub object_act : List (List ℕ) → Option Item
object_act (class ∷ []) = if is_name class then Some (items.Act (Object class)) else None
object_act _ = None

-- `REF INDEX VALUE` behind `put`
unfoldable pub put_act : List (List ℕ) → Option Item
put_act (array ∷ index ∷ value ∷ []) =
    option_and_then (λ k. option_and_then (λ i. option_map (λ v. items.Act (Put k i v)) (value_of value))
    (number_of index)) (reference_of array)
put_act _ = None

-- behind a keyword that begins no call
abbrev pub act_or_reply_of : (keyword : List ℕ) → List (List ℕ) → Option Item
act_or_reply_of keyword ws =
    if bytes_eq keyword (codes "give") then give_of ws
    else if bytes_eq keyword (codes "throw") then throw_of ws
    else if bytes_eq keyword (codes "array") then array_act ws
    else if bytes_eq keyword (codes "object") then object_act ws
    else if bytes_eq keyword (codes "put") then put_act ws
    else None

-- behind a keyword
abbrev pub item_by : (keyword : List ℕ) → List (List ℕ) → Option Item
item_by keyword ws =
    if bytes_eq keyword (codes "call") then call_of ws
    else if bytes_eq keyword (codes "send") then send_of ws
    else act_or_reply_of keyword ws

-- what the words of a line say
abbrev pub item_of : List (List ℕ) → Option Item
item_of [] = None
item_of (keyword ∷ ws) = item_by keyword ws

-- what a line says, or its place
abbrev pub said : TextLine → Result Item ℕ
said l = kept l.at (option_and_then item_of (words l.text))
