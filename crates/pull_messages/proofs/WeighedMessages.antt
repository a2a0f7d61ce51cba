-- The texts of a registration have together no more bytes than the value that it was read of.
use Rattle.std.proofs.Common.{◌≡◌, ℕ, ◌+◌, ◌≤◌, Bool, true, false, cond, List, [], ◌∷◌, length, Option, Some, None, option_and_then, is_some, Result, Ok, refl, sym, ap, ◌∙◌, subst, arith}
use Rattle.std.specs.Prelude.{sum_by}
use Rattle.std.specs.Option.{ok_or, option_map_or}
use Rattle.std.specs.Str.{chars}
use Rattle.std.proofs.lemmas.List.Sums.{sum_by-cons}
use Rattle.std.proofs.lemmas.Str.{encodes-chars}
use Rattle.serde_json.specs.Data.{Data, null, boolean, number, string, array, object, Items, no_items, item}
use Rattle.serde_json.specs.Find.{get, as_null}
use Rattle.json_weight.specs.Weight.{weight, items_weight, found_weight, AreTexts, ItemsAreTexts}
use Rattle.json_weight.proofs.Picking.{IfFound, picked, get_texts}
use Rattle.pull_messages.specs.declared.error.MessageError.{MessageError}
use Rattle.pull_messages.specs.declared.error.MessageError.TheVariants as error
use Rattle.pull_messages.specs.declared.registration.Registration.{Registration}
use Rattle.pull_messages.specs.declared.field.Field.{Field}
use Rattle.pull_messages.specs.declared.field.Field.TheVariants as field
use Rattle.pull_messages.specs.declared.limits.Limit.{Limit}
use Rattle.pull_messages.specs.declared.limits.Limit.TheVariants as limit
use Rattle.pull_messages.specs.Members.{an_object, a_text, each, few, names, not_null, required, optional}
use Rattle.pull_messages.specs.Names.{name_of}
use Rattle.pull_messages.specs.Sizes.{text_size, registration_size}
use Rattle.pull_messages.specs.Tables.{registration_of}
use Rattle.pull_messages.proofs.SizedMessages.{bind_ok, ok_same, guard_ok, within_ok}

text_fits : (size : Limit) (name : Field) (value : Data) (y : List ℕ) → AreTexts value → a_text size name value ≡ Ok y → text_size y ≤ weight value
text_fits size name null y texts is = cc is
text_fits size name (boolean b) y texts is = cc is
text_fits size name (number n) y texts is = cc is
text_fits size name (string s) y texts is =
    let long : text_size (chars s) ≡ length s = ap length (encodes-chars s texts) in
    subst (λ (t : List ℕ). text_size t ≤ length s) (within_ok size name (chars s) y is).1 (omega (arith, long))
text_fits size name (array ds) y texts is = cc is
text_fits size name (object ms) y texts is = cc is

each_fits : (size : Limit) (name : Field) (values : Items) (xs : List (List ℕ)) → ItemsAreTexts values → each (a_text size name) values ≡ Ok xs → sum_by text_size xs ≤ items_weight values
each_fits size name no_items xs texts is = let same : [] ≡ xs = cc is in subst (λ (l : List (List ℕ)). sum_by text_size l ≤ 0) same (omega arith)
each_fits size name (item value values) xs texts is =
    let first = bind_ok (a_text size name value) _ xs is in
    let others = bind_ok (each (a_text size name) values) _ xs first.2 in
    let same : first.0 ∷ others.0 ≡ xs = cc (others.2) in
    subst (λ (l : List (List ℕ)). sum_by text_size l ≤ weight value + items_weight values) same
    (omega (arith, sum_by-cons text_size first.0 others.0, text_fits size name value first.0 texts.0 first.1, each_fits size name values others.0 texts.1 others.1))

names_fit : (name : Field) (value : Data) (xs : List (List ℕ)) → AreTexts value → names name value ≡ Ok xs → sum_by text_size xs ≤ weight value
names_fit name null xs texts is = cc is
names_fit name (boolean b) xs texts is = cc is
names_fit name (number n) xs texts is = cc is
names_fit name (string s) xs texts is = cc is
names_fit name (array ds) xs texts is =
    let small = bind_ok (few name ds) _ xs is in
    let same : ds ≡ small.0 = (guard_ok _ ds (error.Wrong name) small.0 small.1).1 in
    each_fits limit.Name name ds xs texts (subst (λ (v : Items). each (a_text limit.Name name) v ≡ Ok xs) (sym same) small.2)
names_fit name (object ms) xs texts is = cc is

module _ {A : Type 0} (size : A → ℕ) (read : Data → Result A MessageError) (default : A) (nothing : size default ≡ 0)
    (fits : (value : Data) (y : A) → AreTexts value → read value ≡ Ok y → size y ≤ weight value) where
  value_fits : (b : Bool) (d : Data) (y : A) → AreTexts d → option_map_or read (cond b None (Some d)) (Ok default) ≡ Ok y → size y ≤ weight d
  value_fits true d y texts is = let same : default ≡ y = cc is in subst (λ (z : A). size z ≤ weight d) same (omega (arith, nothing))
  value_fits false d y texts is = fits d y texts is

  optional_fits : (found : Option Data) (y : A) → IfFound found → option_map_or read (option_and_then not_null found) (Ok default) ≡ Ok y → size y ≤ found_weight found
  optional_fits None y texts is = let same : default ≡ y = cc is in subst (λ (z : A). size z ≤ 0) same (omega (arith, nothing))
  optional_fits (Some d) y texts is = value_fits (is_some (as_null d)) d y texts is

short_fits : (name : Field) (value : Data) (y : List ℕ) → AreTexts value → optional (a_text limit.Short) [] name value ≡ Ok y → text_size y ≤ found_weight (get (name_of name) value)
short_fits name value y texts is =
    optional_fits text_size (a_text limit.Short name) [] refl (text_fits limit.Short name) (get (name_of name) value) y (get_texts (name_of name) value texts) is

found_by : (b : Bool) (d : Data) (e : MessageError) (y : Data) → ok_or (cond b None (Some d)) e ≡ Ok y → Some d ≡ Some y
found_by true d e y is = cc is
found_by false d e y is = cc is

found_is : (found : Option Data) (e : MessageError) (y : Data) → ok_or (option_and_then not_null found) e ≡ Ok y → found ≡ Some y
found_is None e y is = cc is
found_is (Some d) e y is = found_by (is_some (as_null d)) d e y is

object_found : (name : Field) (value y : Data) → required an_object name value ≡ Ok y → get (name_of name) value ≡ Some y
object_found name value y is =
    let found = bind_ok (ok_or (option_and_then not_null (get (name_of name) value)) (error.Missing name)) _ y is in
    found_is (get (name_of name) value) (error.Missing name) found.0 found.1 ∙ ap Some (guard_ok _ found.0 (error.Wrong name) y found.2).1

pub registration_weighed : (body : Data) (x : Registration) → AreTexts body → registration_of body ≡ Ok x → registration_size x ≤ weight body
unfolding registration_of
registration_weighed body x texts is =
    let top = bind_ok (an_object field.Body body) _ x is in
    let agent = bind_ok (required an_object field.AgentInformation top.0) _ x top.2 in
    let version = bind_ok (optional (a_text limit.Short) [] field.LCMVersion agent.0) _ x agent.2 in
    let node = bind_ok (optional (a_text limit.Short) [] field.NodeName agent.0) _ x version.2 in
    let address = bind_ok (optional (a_text limit.Short) [] field.IPAddress agent.0) _ x node.2 in
    let listed = bind_ok (optional names [] field.ConfigurationNames top.0) _ x address.2 in
    let whole : body ≡ top.0 = (guard_ok _ body (error.Wrong field.Body) top.0 top.1).1 in
    let top_texts : AreTexts top.0 = subst AreTexts whole texts in
    let found = object_found field.AgentInformation top.0 agent.0 agent.1 in
    let agent_texts : AreTexts agent.0 = subst IfFound found (get_texts (name_of field.AgentInformation) top.0 top_texts) in
    let names_small = optional_fits (sum_by text_size) (names field.ConfigurationNames) [] refl (names_fit field.ConfigurationNames) (get (name_of field.ConfigurationNames) top.0) listed.0
    (get_texts (name_of field.ConfigurationNames) top.0 top_texts) listed.1 in
    let of_agent = picked (name_of field.LCMVersion ∷ name_of field.NodeName ∷ name_of field.IPAddress ∷ []) agent.0 (refl, (refl, (refl, tt))) in
    let of_top = picked (name_of field.AgentInformation ∷ name_of field.ConfigurationNames ∷ []) top.0 (refl, (refl, tt)) in
    let made : Registration = record { lcm_version = version.0; node_name = node.0; ip_address = address.0; names = listed.0 } in
    let small : registration_size made ≤ weight body =
    omega (
      arith,
      of_agent,
      of_top,
      names_small,
      ap weight whole,
      ap found_weight found,
      short_fits field.LCMVersion agent.0 version.0 agent_texts version.1,
      short_fits field.NodeName agent.0 node.0 agent_texts node.1,
      short_fits field.IPAddress agent.0 address.0 agent_texts address.1,
    ) in
    subst (λ (r : Registration). registration_size r ≤ weight body) (ok_same made x listed.2) small
