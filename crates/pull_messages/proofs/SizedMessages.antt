-- The sizes of what the tables give.
use Rattle.std.proofs.Common.{◌≡◌, ◌≤◌, ◌&&◌, ℕ, suc, List, [], ◌∷◌, length, Bool, true, false, cond, map, Option, Some, None, Result, Ok, Err, IfOk, refl, ap, subst, arith}
use Rattle.std.proofs.lemmas.List.{length-map}
use Rattle.std.specs.Option.{option_map_or}
use Rattle.std.specs.Str.{encode_utf8_all}
use Rattle.std.specs.List.{zip, AllByRecursion}
use Rattle.std.proofs.lemmas.Bool.{leb-true}
use Rattle.mof_values.specs.declared.limits.TheConstants.{MAX_NAME_BYTES}
use Rattle.serde_json.specs.Data.{Data, Items, no_items, item}
use Rattle.serde_json.specs.Events.{items_len}
use Rattle.pull_messages.specs.declared.error.MessageError.{MessageError}
use Rattle.pull_messages.specs.declared.error.MessageError.TheVariants as error
use Rattle.pull_messages.specs.declared.registration.Registration.{Registration}
use Rattle.pull_messages.specs.declared.query.ActionQuery.{ActionQuery}
use Rattle.pull_messages.specs.declared.field.Field.{Field}
use Rattle.pull_messages.specs.declared.field.Field.TheVariants as field
use Rattle.pull_messages.specs.declared.limits.Limit.{Limit}
use Rattle.pull_messages.specs.declared.limits.Limit.TheVariants as limit
use Rattle.pull_messages.specs.declared.limits.TheConstants.{MAX_LIST_ITEMS, MAX_TEXT_BYTES}
use Rattle.pull_messages.specs.Limits.{is_within}
use Rattle.pull_messages.specs.Members.{an_object, a_list, a_text, each, few, few_objects, objects, names, member_of, present, required, optional, sha256, within}
use Rattle.pull_messages.specs.Results.{◌>>=◌, Gives}
use Rattle.pull_messages.specs.Sizes.{IsShort, IsName, IsSized}
use Rattle.pull_messages.specs.Tables.{registration_of, query_of, client}

pub bind_ok : {A B : Type 0} (r : Result A MessageError) (f : A → Result B MessageError) (y : B) → r >>= f ≡ Ok y → (x : A) × (r ≡ Ok x) × (f x ≡ Ok y)
bind_ok (Ok x) f y is = (x, refl, is)
bind_ok (Err e) f y is = cc is

pub if_gives : {T : Type 0} (P : T → Type 0) (answer given : Result T MessageError) → Gives (λ x. x) answer given → ((x : T) → given ≡ Ok x → P x) → IfOk answer P
if_gives P (Ok x) given gives holds = holds x gives
if_gives P (Err e) given gives holds = tt

pub ok_same : {T : Type 0} (x y : T) → ◌≡◌ {A = Result T MessageError} (Ok x) (Ok y) → x ≡ y
ok_same x y is = cc is

pub guard_ok : {A : Type 0} (b : Bool) (x : A) (e : MessageError) (y : A) → cond b (Ok x) (Err e) ≡ Ok y → (b ≡ true) × (x ≡ y)
guard_ok true x e y is = (refl, cc is)
guard_ok false x e y is = cc is

pub within_ok : (size : Limit) (name : Field) (text y : List ℕ) → within size name text ≡ Ok y → (is_within size (length (encode_utf8_all text)) ≡ true) × (text ≡ y)
unfolding within
within_ok size name text y is = guard_ok (is_within size (length (encode_utf8_all text))) text (error.Wrong name) y is

text_ok : (size : Limit) (name : Field) (value : Data) (y : List ℕ) → a_text size name value ≡ Ok y → is_within size (length (encode_utf8_all y)) ≡ true
text_ok size name value y is =
    let step = bind_ok _ (within size name) y is in
    let fits = within_ok size name step.0 y step.2 in
    rw fits.1 at fits.0

optional_ok : {A : Type 0} (P : A → Type 0) (read : Data → Result A MessageError) (default : A) (found : Option Data) (y : A)
    → P default → ((value : Data) → read value ≡ Ok y → P y) → option_map_or read found (Ok default) ≡ Ok y → P y
optional_ok P read default None y at_default at_value is = let same : default ≡ y = cc is in subst P same at_default
optional_ok P read default (Some value) y at_default at_value is = at_value value is

short_ok : (name : Field) (value : Data) (y : List ℕ) → optional (a_text limit.Short) [] name value ≡ Ok y → IsShort y
short_ok name value y is =
    optional_ok IsShort (a_text limit.Short name) [] (member_of name value) y (omega arith)
    (λ found read. leb-true (length (encode_utf8_all y)) MAX_TEXT_BYTES (text_ok limit.Short name found y read)) is

both_true : (a b : Bool) → a && b ≡ true → (a ≡ true) × (b ≡ true)
both_true true b is = (refl, is)
both_true false b is = cc is

name_ok : (name : Field) (value : Data) (y : List ℕ) → a_text limit.Name name value ≡ Ok y → IsName y
name_ok name value y is =
    let both = both_true _ _ (text_ok limit.Name name value y is) in
    (leb-true 1 (length (encode_utf8_all y)) both.0, leb-true (length (encode_utf8_all y)) MAX_NAME_BYTES both.1)

each_ok : {A : Type 0} (P : A → Type 0) (read : Data → Result A MessageError) → ((value : Data) (x : A) → read value ≡ Ok x → P x)
    → (values : Items) (xs : List A) → each read values ≡ Ok xs → AllByRecursion P xs × (length xs ≡ items_len values)
each_ok {A} P read holds no_items xs is = let same : [] ≡ xs = cc is in subst (λ (l : List A). AllByRecursion P l × (length l ≡ 0)) same (tt, refl)
each_ok {A} P read holds (item value values) xs is =
    let first = bind_ok (read value) _ xs is in
    let others = bind_ok (each read values) _ xs first.2 in
    let rest = each_ok P read holds values others.0 others.1 in
    let same : first.0 ∷ others.0 ≡ xs = cc (others.2) in
    subst (λ (l : List A). AllByRecursion P l × (length l ≡ items_len (item value values))) same
    ((holds value first.0 first.1, rest.0), ap suc rest.1)

few_ok : (name : Field) (values y : Items) → few name values ≡ Ok y → items_len y ≤ MAX_LIST_ITEMS
few_ok name values y is =
    let fits = guard_ok _ values (error.Wrong name) y is in
    let small : items_len values ≤ MAX_LIST_ITEMS = leb-true (items_len values) MAX_LIST_ITEMS fits.0 in
    subst (λ (v : Items). items_len v ≤ MAX_LIST_ITEMS) fits.1 small

abbrev AreNames : List (List ℕ) → Type 0
AreNames xs = AllByRecursion IsName xs × (length xs ≤ MAX_LIST_ITEMS)

names_ok : (name : Field) (value : Data) (xs : List (List ℕ)) → names name value ≡ Ok xs → AreNames xs
names_ok name value xs is =
    let values = bind_ok (a_list name value) _ xs is in
    let small = bind_ok (few name values.0) _ xs values.2 in
    let all = each_ok IsName (a_text limit.Name name) (name_ok name) small.0 xs small.2 in
    (all.0, omega (arith, all.1, few_ok name values.0 small.0 small.1))

pub registration_sized : (body : Data) (x : Registration) → registration_of body ≡ Ok x → IsSized x
unfolding registration_of
registration_sized body x is =
    let top = bind_ok (an_object field.Body body) _ x is in
    let agent = bind_ok (required an_object field.AgentInformation top.0) _ x top.2 in
    let version = bind_ok (optional (a_text limit.Short) [] field.LCMVersion agent.0) _ x agent.2 in
    let node = bind_ok (optional (a_text limit.Short) [] field.NodeName agent.0) _ x version.2 in
    let address = bind_ok (optional (a_text limit.Short) [] field.IPAddress agent.0) _ x node.2 in
    let listed = bind_ok (optional names [] field.ConfigurationNames top.0) _ x address.2 in
    let named = optional_ok AreNames (names field.ConfigurationNames) [] (member_of field.ConfigurationNames top.0) listed.0
    (tt, omega arith) (λ value read. names_ok field.ConfigurationNames value listed.0 read) listed.1 in
    let sized : IsSized (record { lcm_version = version.0; node_name = node.0; ip_address = address.0; names = listed.0 }) = record {
      version = short_ok field.LCMVersion agent.0 version.0 version.1;
      node = short_ok field.NodeName agent.0 node.0 node.1;
      address = short_ok field.IPAddress agent.0 address.0 address.1;
      few = named.1;
      named = named.0;
    } in
    subst IsSized (ok_same _ x listed.2) sized

length-zip : {A B : Type 0} (xs : List A) (ys : List B) → length (zip xs ys) ≤ length xs
length-zip [] ys = omega arith
length-zip (x ∷ xs) [] = omega arith
length-zip (x ∷ xs) (y ∷ ys) = omega (arith, length-zip xs ys)

pub query_few : (body : Data) (x : ActionQuery) → query_of body ≡ Ok x → length x.clients ≤ MAX_LIST_ITEMS
unfolding query_of
query_few body x is =
    let top = bind_ok (an_object field.Body body) _ x is in
    let clients = bind_ok (required few_objects field.ClientStatus top.0) _ x top.2 in
    let checksums = bind_ok (each (optional (a_text limit.Free) [] field.Checksum) clients.0) _ x clients.2 in
    let listed = bind_ok (each (optional (a_text limit.Free) [] field.ConfigurationName) clients.0) _ x checksums.2 in
    let hashes = bind_ok (each (optional sha256 tt field.ChecksumAlgorithm) clients.0) _ x listed.2 in
    let found = bind_ok (present field.ClientStatus top.0) _ clients.0 clients.1 in
    let values = bind_ok (objects field.ClientStatus found.0) _ clients.0 found.2 in
    let small = few_ok field.ClientStatus values.0 clients.0 values.2 in
    let each_one = each_ok (λ _. Unit {0}) (optional (a_text limit.Free) [] field.Checksum) (λ _ _ _. tt) clients.0 checksums.0 checksums.1 in
    let pairs = zip checksums.0 listed.0 in
    let few : length (map client pairs) ≤ MAX_LIST_ITEMS = omega (arith, length-map pairs client, length-zip checksums.0 listed.0, each_one.1, small) in
    subst (λ (q : ActionQuery). length q.clients ≤ MAX_LIST_ITEMS) (ok_same _ x hashes.2) few
