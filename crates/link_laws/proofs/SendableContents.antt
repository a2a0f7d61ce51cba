-- A request for what a target names is sendable.
use Rattle.std.proofs.Common.{◌≡◌, ℕ, suc, ◌+◌, ◌*◌, ◌/◌, ◌%◌, ◌<◌, ◌≤◌, ◌^◌, ◌-◌, ◌&&◌, ◌==◌, nat_le, nat_lt, Bool, true, false, List, [], ◌∷◌, ◌++◌, length, take, drop, get_or, reverse, refl, sym, ◌∙◌, ap, subst, arith, length-append, codes, bytes_eq, cond, if◌then◌else◌, IsUtf8}
use Rattle.std.specs.Prelude.{All, IsTrue, encode_utf8_all}
use Rattle.std.specs.Char.{IsScalar, is_ascii_digit}
use Rattle.std.specs.Fmt.{decimal}
use Rattle.std.specs.List.{AllByRecursion, flat_map, list_all}
use Rattle.std.proofs.Math.Nat.{min-le_right}
use Rattle.std.proofs.Math.Utf8.{encode, low_scalar}
use Rattle.std.proofs.lemmas.List.{length-take}
use Rattle.std.proofs.lemmas.Fmt.{digits_decimal, length-decimal-le}
use Rattle.std.proofs.lemmas.Bool.Decides.{nat_tests}
use Rattle.std.proofs.lemmas.List.Elements.{All-append, All-cons, All-head, All-nil, All-tail, All-take, All-weaker}
use Rattle.std.proofs.lemmas.List.Sums.{AllPass-from_list_all}
use Rattle.std.proofs.lemmas.Str.{IsUtf8-from_ascii, encode_ascii}
use Rattle.std.proofs.lemmas.Str.Ascii.{IsAscii-from_all}
use Rattle.httparse.specs.Grammar.{AllPass, IsToken, is_ows, is_token_byte, is_uri_byte, is_value_byte, skip_ows}
use Rattle.httparse.proofs.TrimLemmas.{AllPass-reverse}
use Rattle.http_frames.specs.declared.message.Request.{Request}
use Rattle.http_frames.specs.Limits.{head_bytes}
use Rattle.http_frames.specs.Sending.{IsPlainHeader, IsPlainValue, IsSendable}
use Rattle.http_frames.specs.Writing.{crlf, header_line, header_text, host_value, request_length, request_line, request_text, without_default_port}
use Rattle.http_frames.proofs.SentLines.{digits_pass, own, token_by}
use Rattle.meta_config.specs.Urls.{is_host_char}
use Rattle.pull_client.specs.Requests.{protocol_version}
use Rattle.pull_messages.specs.declared.target_kinds.Target.{Target}
use Rattle.pull_messages.specs.declared.target_kinds.Target.TheVariants.{Node, Action, Content, Module, SendReport}
use Rattle.pull_messages.specs.Targets.{HasValues, doubled}
use Rattle.pull_messages.specs.TargetText.{HasRanges, agent_path, escaped, escaped_all, is_unreserved, path_of, target_text, upper_digit, value_text}
use Rattle.pull_messages.specs.Writing.{id_text}
use Rattle.uuid.specs.Text.{is_hex_digit, is_hyphen_place}
use Rattle.pull_messages.proofs.Agents.{agent_cells}
use Rattle.pull_messages.proofs.Ids.{agent_back}

-- ---- visible characters of ASCII

abbrev pub is_graphic : ℕ → Bool
is_graphic b = nat_le 33 b && nat_le b 126

abbrev pub Graphic : List ℕ → Type 0
Graphic text = AllPass is_graphic text

graphic_value : (b : ℕ) → is_graphic b ≡ true → is_value_byte b ≡ true
graphic_value b h = grind (arith, h)

graphic_uri : (b : ℕ) → is_graphic b ≡ true → is_uri_byte b ≡ true
graphic_uri b h = grind (arith, h)

graphic_black : (b : ℕ) → is_graphic b ≡ true → is_ows b ≡ false
graphic_black b h = grind (arith, h)

graphic_small : (b : ℕ) → is_graphic b ≡ true → b < 128
graphic_small b h = grind (arith, h)

nothing_skipped : (v : List ℕ) → Graphic v → skip_ows v ≡ v
nothing_skipped [] pass = refl
nothing_skipped (b ∷ bs) pass = rw (graphic_black b (All-head (λ x. IsTrue (is_graphic x)) b bs pass)) refl

graphic_is_plain : (v : List ℕ) → Graphic v → IsPlainValue v
graphic_is_plain v pass = record {
  bytes = All-weaker (λ x. IsTrue (is_graphic x)) (λ x. IsTrue (is_value_byte x)) graphic_value v pass;
  front = nothing_skipped v pass;
  back = nothing_skipped (reverse v) (AllPass-reverse is_graphic v pass);
}

graphic_on : (a b : List ℕ) → Graphic a → Graphic b → Graphic (a ++ b)
graphic_on a b first second = All-append (λ x. IsTrue (is_graphic x)) a b first second

graphic_bytes : (v : List ℕ) → Graphic v → encode_utf8_all v ≡ v
graphic_bytes [] pass = refl
graphic_bytes (b ∷ bs) pass =
    ap (λ (l : List ℕ). l ++ encode_utf8_all bs) (encode_ascii b (graphic_small b (All-head (λ x. IsTrue (is_graphic x)) b bs pass)))
    ∙ ap (λ (l : List ℕ). b ∷ l) (graphic_bytes bs (All-tail (λ x. IsTrue (is_graphic x)) b bs pass))

graphic_take : (n : ℕ) (v : List ℕ) → Graphic v → Graphic (take n v)
graphic_take n v pass = All-take (λ x. IsTrue (is_graphic x)) n v pass

-- ---- texts in a target

all_from : (p : ℕ → Bool) (xs : List ℕ) → ((k : ℕ) → k < length xs → p (get_or xs k 0) ≡ true) → list_all p xs ≡ true
all_from p [] at = refl
all_from p (x ∷ xs) at =
    let here : p x ≡ true = at 0 (omega arith) in
    ap (λ (b : Bool). b && list_all p xs) here ∙ all_from p xs (λ k within. at (suc k) (omega arith))

cell_graphic : (k c : ℕ) → (if is_hyphen_place k then c == 45 else is_hex_digit c) ≡ true → is_graphic c ≡ true
cell_graphic k c is = grind (arith, nat_tests)

id_size : (id : ℕ) → id < 2 ^ 128 → length (id_text id) ≡ 36
id_size id fits = (agent_cells (id_text id) id (agent_back id fits)).1

id_graphic : (id : ℕ) → id < 2 ^ 128 → Graphic (id_text id)
id_graphic id fits =
    let cells = agent_cells (id_text id) id (agent_back id fits) in
    AllPass-from_list_all is_graphic (id_text id)
    (all_from is_graphic (id_text id) (λ k within. cell_graphic k (get_or (id_text id) k 0) (cells.0 k within)))

digit_graphic : (v : ℕ) → v < 16 → is_graphic (upper_digit v) ≡ true
digit_graphic v small = grind (arith, nat_tests)

unreserved_graphic : (b : ℕ) → is_unreserved b ≡ true → is_graphic b ≡ true
unreserved_graphic b is = grind (arith, nat_tests)

escaped_graphic : (b : ℕ) → b < 256 → Graphic (escaped b)
escaped_graphic b small = by (is_unreserved b) refl
  where
    by : (u : Bool) → is_unreserved b ≡ u → Graphic (cond u (b ∷ []) (37 ∷ upper_digit (b / 16) ∷ upper_digit (b % 16) ∷ []))
    by true is = All-cons (λ x. IsTrue (is_graphic x)) b [] (unreserved_graphic b is) (All-nil (λ x. IsTrue (is_graphic x)))
    by false is =
        let high = upper_digit (b / 16) in
        let low = upper_digit (b % 16) in
        All-cons (λ x. IsTrue (is_graphic x)) 37 (high ∷ low ∷ []) refl
        (All-cons (λ x. IsTrue (is_graphic x)) high (low ∷ []) (digit_graphic (b / 16) (omega (arith, small)))
        (All-cons (λ x. IsTrue (is_graphic x)) low [] (digit_graphic (b % 16) (omega arith)) (All-nil (λ x. IsTrue (is_graphic x)))))

escaped_size : (b : ℕ) → length (escaped b) ≤ 3
escaped_size b = by (is_unreserved b)
  where
    by : (u : Bool) → length (cond u (b ∷ []) (37 ∷ upper_digit (b / 16) ∷ upper_digit (b % 16) ∷ [])) ≤ 3
    by true = omega arith
    by false = omega arith

escaped_all_graphic : (bytes : List ℕ) → AllByRecursion (λ b. b < 256) bytes → Graphic (escaped_all bytes)
escaped_all_graphic [] small = All-nil (λ x. IsTrue (is_graphic x))
escaped_all_graphic (b ∷ bytes) small = graphic_on (escaped b) (escaped_all bytes) (escaped_graphic b small.0) (escaped_all_graphic bytes small.1)

escaped_all_size : (bytes : List ℕ) → length (escaped_all bytes) ≤ 3 * length bytes
escaped_all_size [] = omega arith
escaped_all_size (b ∷ bytes) = omega (arith, length-append (escaped b) (escaped_all bytes), escaped_size b, escaped_all_size bytes)

char_bytes : (c : ℕ) → IsScalar c → AllByRecursion (λ b. b < 256) (encode c)
unfolding encode
char_bytes c is = one (nat_lt c 128) refl
  where
    three : (w : Bool) → nat_lt c 65536 ≡ w
        → AllByRecursion (λ b. b < 256) (cond w ((224 + c / 4096) ∷ (128 + (c / 64) % 64) ∷ (128 + c % 64) ∷ []) ((240 + c / 262144) ∷ (128 + (c / 4096) % 64) ∷ (128 + (c / 64) % 64) ∷ (128 + c % 64) ∷ []))
    three true small = (grind (arith, nat_tests), (omega arith, (omega arith, tt)))
    three false large = (grind (arith, nat_tests), (omega arith, (omega arith, (omega arith, tt))))

    two : (w : Bool) → nat_lt c 2048 ≡ w
        → AllByRecursion (λ b. b < 256) (cond w ((192 + c / 64) ∷ (128 + c % 64) ∷ []) (cond (nat_lt c 65536) ((224 + c / 4096) ∷ (128 + (c / 64) % 64) ∷ (128 + c % 64) ∷ []) ((240 + c / 262144) ∷ (128 + (c / 4096) % 64) ∷ (128 + (c / 64) % 64) ∷ (128 + c % 64) ∷ [])))
    two true small = (grind (arith, nat_tests), (omega arith, tt))
    two false large = three (nat_lt c 65536) refl

    one : (w : Bool) → nat_lt c 128 ≡ w
        → AllByRecursion (λ b. b < 256) (cond w (c ∷ []) (cond (nat_lt c 2048) ((192 + c / 64) ∷ (128 + c % 64) ∷ []) (cond (nat_lt c 65536) ((224 + c / 4096) ∷ (128 + (c / 64) % 64) ∷ (128 + c % 64) ∷ []) ((240 + c / 262144) ∷ (128 + (c / 4096) % 64) ∷ (128 + (c / 64) % 64) ∷ (128 + c % 64) ∷ []))))
    one true small = (grind (arith, nat_tests), tt)
    one false large = two (nat_lt c 2048) refl

-- each quote is a byte, which is doubled
doubled_by : (c : ℕ) (name : List ℕ) (quote : Bool) → (c == 39) ≡ quote
    → (doubled (c ∷ name) ≡ cond quote (39 ∷ 39 ∷ doubled name) (c ∷ doubled name))
doubled_by c name quote is = ap (λ (q : Bool). cond q (39 ∷ 39 ∷ doubled name) (c ∷ doubled name)) is

quoted_bytes : (c : ℕ) (name : List ℕ) → IsScalar c → AllByRecursion (λ b. b < 256) (encode_utf8_all (doubled name)) → AllByRecursion (λ b. b < 256) (encode_utf8_all (doubled (c ∷ name)))
quoted_bytes c name is rest = by (c == 39) refl
  where
    joined : (a b : List ℕ) → AllByRecursion (λ b. b < 256) a → AllByRecursion (λ b. b < 256) b → AllByRecursion (λ b. b < 256) (a ++ b)
    joined [] b first second = second
    joined (x ∷ a) b first second = (first.0, joined a b first.1 second)

    quote_bytes : AllByRecursion (λ b. b < 256) (encode 39)
    quote_bytes = char_bytes 39 (low_scalar 39 (omega arith))

    by : (quote : Bool) → (c == 39) ≡ quote → AllByRecursion (λ b. b < 256) (encode_utf8_all (doubled (c ∷ name)))
    by true same =
        subst (λ (l : List ℕ). AllByRecursion (λ b. b < 256) (encode_utf8_all l)) (sym (doubled_by c name true same))
        (joined (encode 39) (encode_utf8_all (39 ∷ doubled name)) quote_bytes (joined (encode 39) (encode_utf8_all (doubled name)) quote_bytes rest))
    by false other =
        subst (λ (l : List ℕ). AllByRecursion (λ b. b < 256) (encode_utf8_all l)) (sym (doubled_by c name false other))
        (joined (encode c) (encode_utf8_all (doubled name)) (char_bytes c is) rest)

doubled_bytes : (name : List ℕ) → All IsScalar name → AllByRecursion (λ b. b < 256) (encode_utf8_all (doubled name))
doubled_bytes [] all = tt
doubled_bytes (c ∷ name) all = quoted_bytes c name (All-head IsScalar c name all) (doubled_bytes name (All-tail IsScalar c name all))

quote_size : length (encode 39) ≡ 1
unfolding encode
quote_size = refl

quoted_size : (c : ℕ) (name : List ℕ) → length (encode_utf8_all (doubled name)) ≤ 2 * length (encode_utf8_all name)
    → length (encode_utf8_all (doubled (c ∷ name))) ≤ 2 * length (encode_utf8_all (c ∷ name))
quoted_size c name rest = by (c == 39) refl
  where
    own : length (encode_utf8_all (c ∷ name)) ≡ length (encode c) + length (encode_utf8_all name)
    own = length-append (encode c) (encode_utf8_all name)

    by : (quote : Bool) → (c == 39) ≡ quote → length (encode_utf8_all (doubled (c ∷ name))) ≤ 2 * length (encode_utf8_all (c ∷ name))
    by true same =
        let is : c ≡ 39 = grind (arith, same) in
        let one : length (encode c) ≡ 1 = ap (λ (d : ℕ). length (encode d)) is ∙ quote_size in
        subst (λ (l : List ℕ). length (encode_utf8_all l) ≤ 2 * length (encode_utf8_all (c ∷ name))) (sym (doubled_by c name true same))
        (omega (arith, own, one, rest, quote_size, length-append (encode 39) (encode_utf8_all (39 ∷ doubled name)), length-append (encode 39) (encode_utf8_all (doubled name))))
    by false other =
        subst (λ (l : List ℕ). length (encode_utf8_all l) ≤ 2 * length (encode_utf8_all (c ∷ name))) (sym (doubled_by c name false other))
        (omega (arith, own, rest, length-append (encode c) (encode_utf8_all (doubled name))))

doubled_size : (name : List ℕ) → length (encode_utf8_all (doubled name)) ≤ 2 * length (encode_utf8_all name)
doubled_size [] = omega arith
doubled_size (c ∷ name) = quoted_size c name (doubled_size name)

value_graphic : (name : List ℕ) → All IsScalar name → Graphic (value_text name)
value_graphic name all = escaped_all_graphic (encode_utf8_all (doubled name)) (doubled_bytes name all)

value_size : (name : List ℕ) → length (value_text name) ≤ 6 * length (encode_utf8_all name)
value_size name = omega (arith, escaped_all_size (encode_utf8_all (doubled name)), doubled_size name)

-- ---- the target

abbrev graphic_word : (text : List ℕ) → list_all is_graphic text ≡ true → Graphic text
graphic_word text is = AllPass-from_list_all is_graphic text is

agent_graphic : (id : ℕ) (end : List ℕ) → id < 2 ^ 128 → Graphic end → Graphic (agent_path id end)
agent_graphic id end fits last =
    let nodes = codes "/Nodes(AgentId='" in
    let close = codes "')" in
    graphic_on ((nodes ++ id_text id) ++ close) end
    (graphic_on (nodes ++ id_text id) close (graphic_on nodes (id_text id) (graphic_word nodes refl) (id_graphic id fits)) (graphic_word close refl)) last

agent_size : (id : ℕ) (end : List ℕ) → id < 2 ^ 128 → length (agent_path id end) ≡ 54 + length end
agent_size id end fits =
    let nodes = codes "/Nodes(AgentId='" in
    let close = codes "')" in
    omega (arith, length-append ((nodes ++ id_text id) ++ close) end, length-append (nodes ++ id_text id) close, length-append nodes (id_text id), id_size id fits)

abbrev content_start : List ℕ
content_start = codes "/Configurations(ConfigurationName='"

abbrev content_end : List ℕ
content_end = codes "')/ConfigurationContent"

abbrev package_start : List ℕ
package_start = codes "/Modules(ModuleName='"

abbrev package_mid : List ℕ
package_mid = codes "',ModuleVersion='"

abbrev package_end : List ℕ
package_end = codes "')/ModuleContent"

path_graphic : (target : Target) → HasRanges target → Graphic (path_of target)
path_graphic (Node id) fits = agent_graphic id [] fits (graphic_word [] refl)
path_graphic (Action id) fits = agent_graphic id (codes "/GetDscAction") fits (graphic_word (codes "/GetDscAction") refl)
path_graphic (SendReport id) fits = agent_graphic id (codes "/SendReport") fits (graphic_word (codes "/SendReport") refl)
path_graphic (Content id name) ranges =
    graphic_on (agent_path id content_start ++ value_text name) content_end
    (graphic_on (agent_path id content_start) (value_text name) (agent_graphic id content_start ranges.0 (graphic_word content_start refl)) (value_graphic name ranges.1))
    (graphic_word content_end refl)
path_graphic (Module name version) ranges =
    let named = graphic_on package_start (value_text name) (graphic_word package_start refl) (value_graphic name ranges.0) in
    graphic_on (((package_start ++ value_text name) ++ package_mid) ++ value_text version) package_end
    (graphic_on ((package_start ++ value_text name) ++ package_mid) (value_text version)
    (graphic_on (package_start ++ value_text name) package_mid named (graphic_word package_mid refl)) (value_graphic version ranges.1))
    (graphic_word package_end refl)

path_size : (target : Target) → HasRanges target → HasValues target → (0 < length (path_of target)) × (length (path_of target) ≤ 3300)
path_size (Node id) fits values = let size = agent_size id [] fits in (omega (arith, size), omega (arith, size))
path_size (Action id) fits values =
    let size = agent_size id (codes "/GetDscAction") fits in
    let end : length (codes "/GetDscAction") ≡ 13 = refl in
    (omega (arith, size, end), omega (arith, size, end))
path_size (SendReport id) fits values =
    let size = agent_size id (codes "/SendReport") fits in
    let end : length (codes "/SendReport") ≡ 11 = refl in
    (omega (arith, size, end), omega (arith, size, end))
path_size (Content id name) ranges value =
    let front = length-append (agent_path id content_start ++ value_text name) content_end in
    let joined = length-append (agent_path id content_start) (value_text name) in
    let agent = agent_size id content_start ranges.0 in
    let sizes : length content_start + length content_end ≡ 58 = refl in
    (omega (arith, front, joined, agent, sizes), omega (arith, front, joined, agent, sizes, value_size name, value.1))
path_size (Module name version) ranges value =
    let whole = length-append (((package_start ++ value_text name) ++ package_mid) ++ value_text version) package_end in
    let versioned = length-append ((package_start ++ value_text name) ++ package_mid) (value_text version) in
    let mid = length-append (package_start ++ value_text name) package_mid in
    let named = length-append package_start (value_text name) in
    let sizes : length package_start + length package_mid + length package_end ≡ 54 = refl in (
      omega (arith, whole, versioned, mid, named, sizes),
      omega (arith, whole, versioned, mid, named, sizes, value_size name, value_size version, value.0.1, value.1.1),
    )

target_graphic : (prefix : List ℕ) (target : Target) → Graphic prefix → HasRanges target → Graphic (target_text prefix target)
unfolding target_text
target_graphic prefix target path ranges =
    graphic_on (encode_utf8_all prefix) (path_of target) (subst Graphic (sym (graphic_bytes prefix path)) path) (path_graphic target ranges)

target_size : (prefix : List ℕ) (target : Target) → Graphic prefix → HasRanges target → HasValues target
    → (0 < length (target_text prefix target)) × (length (target_text prefix target) ≤ length prefix + 3300)
unfolding target_text
target_size prefix target path ranges values =
    let whole = length-append (encode_utf8_all prefix) (path_of target) in
    let own = path_size target ranges values in
    let bytes = ap length (graphic_bytes prefix path) in
    (omega (arith, whole, own.0), omega (arith, whole, own.1, bytes))

-- ---- the host

digit_is_graphic : (c : ℕ) → is_ascii_digit c ≡ true → is_graphic c ≡ true
digit_is_graphic c is = grind (arith, nat_tests)

decimal_graphic : (n : ℕ) → n < 2 ^ 64 → Graphic (decimal n)
decimal_graphic n word =
    All-weaker (λ x. IsTrue (is_ascii_digit x)) (λ x. IsTrue (is_graphic x)) digit_is_graphic (decimal n)
    (AllPass-from_list_all is_ascii_digit (decimal n) (digits_pass (decimal n) (digits_decimal own n word)))

host_graphic_char : (c : ℕ) → is_host_char c ≡ true → is_graphic c ≡ true
host_graphic_char c is = grind (arith, nat_tests)

pub host_is_graphic : (host : List ℕ) → list_all is_host_char host ≡ true → Graphic host
host_is_graphic host is =
    All-weaker (λ x. IsTrue (is_host_char x)) (λ x. IsTrue (is_graphic x)) host_graphic_char host (AllPass-from_list_all is_host_char host is)

abbrev host_of : List ℕ → ℕ → List ℕ
host_of host port = host ++ codes ":" ++ decimal port

host_graphic : (host : List ℕ) (port : ℕ) → Graphic host → port < 2 ^ 64 → Graphic (host_of host port)
host_graphic host port name word = graphic_on (host ++ codes ":") (decimal port) (graphic_on host (codes ":") name (graphic_word (codes ":") refl)) (decimal_graphic port word)

without_port_graphic : (text : List ℕ) → Graphic text → Graphic (without_default_port text)
without_port_graphic text pass = by (bytes_eq (drop (length text - 3) text) (codes ":80"))
  where
    by : (default : Bool) → Graphic (if default then take (length text - 3) text else text)
    by true = graphic_take (length text - 3) text pass
    by false = pass

without_port_size : (text : List ℕ) → length (without_default_port text) ≤ length text
without_port_size text = by (bytes_eq (drop (length text - 3) text) (codes ":80"))
  where
    by : (default : Bool) → length (if default then take (length text - 3) text else text) ≤ length text
    by true = omega (arith, length-take (length text - 3) text, min-le_right (length text - 3) (length text))
    by false = omega arith

host_value_graphic : (host : List ℕ) (port : ℕ) → Graphic host → port < 2 ^ 64 → Graphic (host_value (host_of host port))
host_value_graphic host port name word =
    let all = host_graphic host port name word in
    without_port_graphic (encode_utf8_all (host_of host port)) (subst Graphic (sym (graphic_bytes (host_of host port) all)) all)

host_value_size : (host : List ℕ) (port : ℕ) → Graphic host → port < 2 ^ 16 → length (host_value (host_of host port)) ≤ length host + 6
host_value_size host port name small =
    let all = host_graphic host port name (omega (arith, small)) in
    omega (
      arith,
      without_port_size (encode_utf8_all (host_of host port)),
      ap length (graphic_bytes (host_of host port) all),
      length-append (host ++ codes ":") (decimal port),
      length-append host (codes ":"),
      length-decimal-le 5 port (omega arith) (omega (arith, small)) (omega (arith, small)),
    )

-- ---- the request

version_token : IsToken (codes "ProtocolVersion")
unfolding is_token_byte
version_token = token_by (codes "ProtocolVersion") (omega arith) refl

get_token : IsToken (codes "GET")
unfolding is_token_byte
get_token = token_by (codes "GET") (omega arith) refl

abbrev get_of : List ℕ → Request
get_of target = record { method = codes "GET"; target = target; headers = protocol_version ∷ []; body = [] }

-- the message that asks for what the target names
abbrev pub target_message : List ℕ → Target → Request
target_message prefix target = get_of (target_text prefix target)

joined_size : (r h c f l : List ℕ) (b d : List ℕ) → length (r ++ h ++ c ++ f ++ l ++ (b ++ d)) ≡ length r + length h + length c + length f + length l + (length b + length d)
joined_size r h c f l b d = simp length-append

line_size : (target : List ℕ) → length (request_line (codes "GET") target) ≡ length target + 15
line_size target = simp length-append (omega arith)

host_line_size : (host : List ℕ) → length (header_line (codes "Host") host) ≡ length host + 8
host_line_size host = simp length-append (omega arith)

request_size : (target host : List ℕ) → length target ≤ 8000 → length (host_value host) ≤ 4000 → length (request_text (get_of target) host) ≤ head_bytes
unfolding request_text
request_size target host short few =
    let close = header_line (codes "Connection") (codes "close") in
    let fixed : length close + length (flat_map header_text (protocol_version ∷ [])) + length (request_length (get_of target)) + length crlf ≡ 43 = refl in
    omega (
      arith,
      short,
      few,
      fixed,
      line_size target,
      host_line_size (host_value host),
      joined_size (request_line (codes "GET") target) (header_line (codes "Host") (host_value host)) close (flat_map header_text (protocol_version ∷ [])) (request_length (get_of target)) crlf [],
    )

graphic_ascii : (v : List ℕ) → Graphic v → IsUtf8 v
graphic_ascii v pass = IsUtf8-from_ascii v (IsAscii-from_all v (λ k d within. graphic_small (get_or v k d) (pass k d within)))

pub target_is_sendable : (host prefix : List ℕ) (port : ℕ) (target : Target) → Graphic host → Graphic prefix → length host ≤ 2048 → length prefix ≤ 2048 → port < 2 ^ 16
    → HasRanges target → HasValues target → IsSendable (target_message prefix target) (host_of host port)
target_is_sendable host prefix port target named path host_short path_short small ranges values =
    let text = target_text prefix target in
    let graphic = target_graphic prefix target path ranges in
    let size = target_size prefix target path ranges values in
    let host_size = host_value_size host port named small in
    record {
      method = get_token;
      target = (size.0, All-weaker (λ x. IsTrue (is_graphic x)) (λ x. IsTrue (is_uri_byte x)) graphic_uri text graphic);
      target_text = graphic_ascii text graphic;
      host_plain = graphic_is_plain (host_value (host_of host port)) (host_value_graphic host port named (omega (arith, small)));
      headers_plain = All-cons IsPlainHeader protocol_version [] (record {
        name = version_token;
        value = record { bytes = AllPass-from_list_all is_value_byte (codes "2.0") refl; front = refl; back = refl };
      }) (All-nil IsPlainHeader);
      no_length = refl;
      no_transfer = refl;
      no_content = refl;
      lines = omega arith;
      short = omega (arith, request_size text (host_of host port) (omega (arith, size.1, path_short)) (omega (arith, host_size, host_short)));
      body = omega arith;
      bodied = λ none. refl;
    }
