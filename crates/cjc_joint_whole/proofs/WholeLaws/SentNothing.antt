-- To an object of a class from outside nothing is sent that is of a package: what is selected on it is an event.
use Rattle.std.proofs.Common.{◌≡◌, ℕ, suc, refl, Bool, true, false, List, [], ◌∷◌, Option, Some, None}
use Rattle.std.specs.Prelude.{slice_get, if◌then◌else◌}
use Rattle.cjc_bytes.specs.declared.fault.MemberId.{MemberId}
use Rattle.cjc_token_proof.specs.CardSemantics.Machine.Calls.{found_token, interface_token, sent_by, sent_to}
use Rattle.cjc_token_proof.specs.CardSemantics.Machine.Calls.{start_selected, through, through_first}
use Rattle.cjc_token_proof.specs.CardSemantics.Machine.Calls.{token_if_interface}
use Rattle.cjc_token_proof.specs.CardSemantics.Machine.Classes.{External, Own, depth, external, names_of, object_class}
use Rattle.cjc_token_proof.specs.CardSemantics.Machine.Classes as card
use Rattle.cjc_token_proof.specs.CardSemantics.Machine.Dispatch.{Hidden, NotFound, Open, Selection, Token, dispatched}
use Rattle.cjc_token_proof.specs.CardSemantics.Machine.Dispatch.{dispatched_outward, exported_line, in_files}
use Rattle.cjc_token_proof.specs.CardSemantics.Machine.Dispatch.{interface_method, named_in, of_file, of_names, outward}
use Rattle.cjc_token_proof.specs.CardSemantics.Machine.Dispatch.{tower}
use Rattle.cjc_token_proof.specs.CardSemantics.Machine.Loaded.{ClassNames, Loaded, MethodName}
use Rattle.cjc_world.specs.ExportFile.Supers.{virtual_method}
use Rattle.cjc_world.specs.ExportFile.declared.tree.ExportClass.{ExportClass}
use Rattle.cjc_world.specs.ExportFile.declared.tree.ExportMethod.{ExportMethod}

module _ (l : Loaded) where
  -- nothing of the group begins
  abbrev Nothing : Selection → Type 0
  Nothing s = start_selected l s ≡ None

  outward_nothing : (name : List ℕ) (o : Option ExportMethod) (s : Selection) → Nothing s → Nothing (outward name o s)
  outward_nothing name None s h = h
  outward_nothing name (Some m) s h = refl

  files_nothing_by : (name : List ℕ) (cs : List ExportClass) (t : ℕ) → Nothing (dispatched_outward name cs t)
  files_nothing_by name [] t = refl
  files_nothing_by name (c ∷ cs) t = outward_nothing name (virtual_method t c) (dispatched_outward name cs t)
      (files_nothing_by name cs t)

  files_nothing : (cs : List ExportClass) (t : ℕ) → Nothing (in_files cs t)
  files_nothing [] t = refl
  files_nothing (c ∷ cs) t = files_nothing_by c.name (c ∷ cs) t

  dispatched_nothing : (tree number : ℕ) (t : Token) → Nothing (dispatched (tower l (External tree number)) t)
  dispatched_nothing tree number (Open t) = files_nothing (exported_line l (external l tree number)) t
  dispatched_nothing tree number (Hidden home t) = refl

  named_nothing : (name : List ℕ) (o : Option MethodName) → Nothing (named_in name o)
  named_nothing name None = refl
  named_nothing name (Some m) = refl

  names_nothing : (o : Option ClassNames) (t : ℕ) → Nothing (of_names o t)
  names_nothing None t = refl
  names_nothing (Some c) t = named_nothing c.name (slice_get c.interface_methods t)

  file_nothing : (o : Option ExportClass) (t : ℕ) → Nothing (of_file o t)
  file_nothing None t = refl
  file_nothing (Some c) t = outward_nothing c.name (virtual_method t c) NotFound refl

  method_nothing : (i : card.Class) (t : ℕ) → Nothing (interface_method l i t)
  method_nothing (External tree number) t = file_nothing (external l tree number) t
  method_nothing (Own part offset) t = names_nothing (names_of l part offset) t

  module _ (tree number : ℕ) where
    abbrev receiving : Option card.Class
    receiving = Some (External tree number)

    through_nothing : (i : card.Class) (o : Option ℕ) (other : Selection) → Nothing other
        → Nothing (through l receiving i o other)
    through_nothing i None other h = h
    through_nothing i (Some t) other h = method_nothing i t

    first_nothing : (cs : List card.Class) (id : MemberId) → Nothing (through_first l receiving cs id)
    first_nothing [] id = refl
    first_nothing (c ∷ cs) id = through_nothing c (token_if_interface l c id) (through_first l receiving cs id)
        (first_nothing cs id)

    by_token : (named : card.Class) (id : MemberId) (o : Option (Option Token))
        → Nothing (sent_by l receiving named id o)
    by_token named id None = first_nothing (card.upwards l named) id
    by_token named id (Some None) = refl
    by_token named id (Some (Some t)) = dispatched_nothing tree number t

    pub sent_nothing : (named : card.Class) (id : MemberId) → Nothing (sent_to l receiving named id)
    sent_nothing named id = by (card.is_interface l named)
      where
        by : (t : Bool) → Nothing (if t then through l receiving named (interface_token l named id)
            (sent_by l receiving named id (found_token l (suc (depth l)) (object_class l) id))
            else sent_by l receiving named id (found_token l (suc (depth l)) (Some named) id))
        by true = through_nothing named (interface_token l named id) (sent_by l receiving named id
            (found_token l (suc (depth l)) (object_class l) id)) (by_token named id
            (found_token l (suc (depth l)) (object_class l) id))
        by false = by_token named id (found_token l (suc (depth l)) (Some named) id)
