-- What was written is what the tables say of it.
use Rattle.std.proofs.Common.{◌≡◌, ◌≤◌, ℕ, suc, List, [], ◌∷◌, length, map, Result, Ok, refl, ◌∙◌, ap}
use Rattle.std.specs.Str.{encode_utf8_all}
use Rattle.std.specs.List.{zip, AllByRecursion}
use Rattle.std.proofs.lemmas.Bool.{le-leb}
use Rattle.mof_values.specs.declared.limits.TheConstants.{MAX_NAME_BYTES}
use Rattle.serde_json.specs.Data.{Data}
use Rattle.serde_json.specs.Events.{items_len}
use Rattle.serde_json.specs.View.{items_of}
use Rattle.pull_messages.specs.declared.error.MessageError.{MessageError}
use Rattle.pull_messages.specs.declared.registration.Registration.{Registration}
use Rattle.pull_messages.specs.declared.query.ActionQuery.{ActionQuery}
use Rattle.pull_messages.specs.declared.query.Client.{Client}
use Rattle.pull_messages.specs.declared.action.ActionAnswer.{ActionAnswer}
use Rattle.pull_messages.specs.declared.action.Detail.{Detail}
use Rattle.pull_messages.specs.declared.report.ReportMessage.{ReportMessage}
use Rattle.pull_messages.specs.declared.field.Field.{Field}
use Rattle.pull_messages.specs.declared.field.Field.TheVariants as field
use Rattle.pull_messages.specs.declared.limits.TheConstants.{MAX_LIST_ITEMS, MAX_TEXT_BYTES}
use Rattle.pull_messages.specs.declared.limits.Limit.TheVariants as limit
use Rattle.pull_messages.specs.Members.{optional, required, a_text, sha256, each, an_object, within}
use Rattle.pull_messages.specs.Recoding.{recoded, recoded_client, recoded_detail, IsRecodedReport}
use Rattle.pull_messages.specs.Sizes.{IsShort, IsName, IsSized}
use Rattle.pull_messages.proofs.Ids.{id_back}
use Rattle.pull_messages.specs.Tables.{registration_of, query_of, action_of, report_of, client, detail}
use Rattle.pull_messages.specs.Writing.{text_data, client_data, detail_data, registration_data, query_data, action_data, report_data}

-- each element reads as its own value
pub each_back : {X A : Type 0} (read : Data → Result A MessageError) (f : X → Data) (g : X → A) → ((x : X) → read (f x) ≡ Ok (g x))
    → (xs : List X) → each read (items_of (map f xs)) ≡ Ok (map g xs)
each_back read f g back [] = refl
each_back read f g back (x ∷ xs) = rw (back x, each_back read f g back xs) refl

text_back : (name : Field) (text : List ℕ) → a_text limit.Free name (text_data text) ≡ Ok (recoded text)
unfolding within
text_back name text = refl

detail_name : (x : Detail) → optional (a_text limit.Free) [] field.ConfigurationName (detail_data x) ≡ Ok (recoded x.name)
unfolding within
detail_name x = refl

detail_status : (x : Detail) → required (a_text limit.Free) field.Status (detail_data x) ≡ Ok (recoded x.status)
unfolding within
detail_status x = refl

joined_details : (xs : List Detail) → map detail (zip (map (λ (x : Detail). recoded x.name) xs) (map (λ (x : Detail). recoded x.status) xs)) ≡ map recoded_detail xs
joined_details [] = refl
joined_details (x ∷ xs) = rw (joined_details xs) refl

pub action_back : (x : ActionAnswer) → recoded x.node ≡ x.node → map recoded_detail x.details ≡ x.details → action_of (action_data x) ≡ Ok x
unfolding action_of within
action_back x node details =
    rw (
      each_back (an_object field.Details) detail_data detail_data (λ _. refl) x.details,
      each_back (optional (a_text limit.Free) [] field.ConfigurationName) detail_data (λ (d : Detail). recoded d.name) detail_name x.details,
      each_back (required (a_text limit.Free) field.Status) detail_data (λ (d : Detail). recoded d.status) detail_status x.details,
      joined_details x.details,
    ) (λ i. Ok (record { node = node i; details = details i }))

-- ---- queries

client_checksum : (x : Client) → optional (a_text limit.Free) [] field.Checksum (client_data x) ≡ Ok (recoded x.checksum)
unfolding within
client_checksum x = refl

client_name : (x : Client) → optional (a_text limit.Free) [] field.ConfigurationName (client_data x) ≡ Ok (recoded x.name)
unfolding within
client_name x = refl

joined_clients : (xs : List Client) → map client (zip (map (λ (x : Client). recoded x.checksum) xs) (map (λ (x : Client). recoded x.name) xs)) ≡ map recoded_client xs
joined_clients [] = refl
joined_clients (x ∷ xs) = rw (joined_clients xs) refl

items_len-map : {X : Type 0} (f : X → Data) (xs : List X) → items_len (items_of (map f xs)) ≡ length xs
items_len-map f [] = refl
items_len-map f (x ∷ xs) = ap suc (items_len-map f xs)

pub query_back : (x : ActionQuery) → length x.clients ≤ MAX_LIST_ITEMS → map recoded_client x.clients ≡ x.clients → query_of (query_data x) ≡ Ok x
unfolding query_of within
query_back x few clients =
    rw (
      each_back (an_object field.ClientStatus) client_data client_data (λ _. refl) x.clients,
      items_len-map client_data x.clients,
      le-leb (length x.clients) MAX_LIST_ITEMS few,
      each_back (optional (a_text limit.Free) [] field.Checksum) client_data (λ (d : Client). recoded d.checksum) client_checksum x.clients,
      each_back (optional (a_text limit.Free) [] field.ConfigurationName) client_data (λ (d : Client). recoded d.name) client_name x.clients,
      each_back (optional sha256 tt field.ChecksumAlgorithm) client_data (λ (d : Client). tt) (λ _. refl) x.clients,
      joined_clients x.clients,
    ) (λ i. Ok (record { clients = clients i }))

-- ---- registrations

within_short : (name : Field) (text : List ℕ) → recoded text ≡ text → IsShort text → within limit.Short name (recoded text) ≡ Ok text
unfolding within
within_short name text same short = rw (same, le-leb (length (encode_utf8_all text)) MAX_TEXT_BYTES short) refl

within_name : (name : Field) (text : List ℕ) → recoded text ≡ text → IsName text → within limit.Name name (recoded text) ≡ Ok text
unfolding within
within_name name text same fits =
    rw (same, le-leb 1 (length (encode_utf8_all text)) fits.0, le-leb (length (encode_utf8_all text)) MAX_NAME_BYTES fits.1) refl

names_back : (name : Field) (texts : List (List ℕ)) → map recoded texts ≡ texts → AllByRecursion IsName texts
    → each (a_text limit.Name name) (items_of (map text_data texts)) ≡ Ok texts
names_back name [] same fits = refl
names_back name (text ∷ texts) same fits =
    let first : recoded text ≡ text = cc same in
    let others : map recoded texts ≡ texts = cc same in
    rw (within_name name text first fits.0, names_back name texts others fits.1) refl

pub registration_back : (x : Registration) → IsSized x → recoded x.lcm_version ≡ x.lcm_version → recoded x.node_name ≡ x.node_name
    → recoded x.ip_address ≡ x.ip_address → map recoded x.names ≡ x.names → registration_of (registration_data x) ≡ Ok x
unfolding registration_of
registration_back x sized version node address names =
    rw (
      within_short field.LCMVersion x.lcm_version version sized.version,
      within_short field.NodeName x.node_name node sized.node,
      within_short field.IPAddress x.ip_address address sized.address,
      items_len-map text_data x.names,
      le-leb (length x.names) MAX_LIST_ITEMS sized.few,
      names_back field.ConfigurationNames x.names names sized.named,
    ) refl

-- ---- reports

texts_back : (name : Field) (texts : List (List ℕ)) → map recoded texts ≡ texts → each (a_text limit.Free name) (items_of (map text_data texts)) ≡ Ok texts
texts_back name texts same = each_back (a_text limit.Free name) text_data recoded (text_back name) texts ∙ ap Ok same

pub report_back : (x : ReportMessage) → IsRecodedReport x → report_of (report_data x) ≡ Ok x
unfolding report_of within
report_back x same =
    rw (id_back x.job same.job, texts_back field.Errors x.errors same.errors, texts_back field.StatusData x.status_data same.status_data)
    (λ i. Ok (record {
      job = x.job;
      operation = same.operation i;
      refresh = same.refresh i;
      status = same.status i;
      format = same.format i;
      version = same.version i;
      start = same.start i;
      end = same.end i;
      reboot = same.reboot i;
      errors = x.errors;
      status_data = x.status_data;
    }))
