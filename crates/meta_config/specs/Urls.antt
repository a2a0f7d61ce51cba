-- The URLs of servers: the form `http://host:port/path` of RFC 3986, section 3, in this profile.
use Rattle.std.specs.Prelude.{◌≡◌, ◌≢◌, ℕ, ◌+◌, ◌*◌, ◌<◌, ◌≤◌, Bool, true, false, not, ◌&&◌, ◌||◌, ◌==◌, if◌then◌else◌, nat_le, List, [], ◌∷◌, ◌++◌, length, take, drop, Option, Some, None, option_map, option_and_then, bytes_eq, codes, encode_utf8_all}
use Rattle.std.specs.List.{list_all, prefix_len}
use Rattle.std.specs.Char.{digit_value, is_digit}
use Rattle.std.specs.Fmt.{decimal}
use Rattle.mof_values.specs.Fold.{fold_case, SameName, same_name}
use Rattle.meta_config.specs.declared.server.Site.{Site}
use Rattle.meta_config.specs.declared.limits.TheConstants.{MAX_URL}

-- an ASCII letter or digit, `.` or `-`
abbrev pub is_host_char : ℕ → Bool
is_host_char c =
    (nat_le 97 c && nat_le c 122) || ((nat_le 65 c && nat_le c 90) || ((nat_le 48 c && nat_le c 57) || (c == 46 || c == 45)))

-- U+0021 to U+007E other than `?` and `#`
abbrev pub is_path_char : ℕ → Bool
is_path_char c = nat_le 33 c && (nat_le c 126 && (not (c == 63) && not (c == 35)))

abbrev pub is_slash : ℕ → Bool
is_slash c = c == 47

abbrev pub scheme_of : Bool → List ℕ
scheme_of false = codes "http://"
scheme_of true = codes "https://"

abbrev pub default_port : Bool → ℕ
default_port false = 80
default_port true = 443

-- ---- the grammar

-- nothing, which stands for the default port; or a colon and a port of 1 to 65535, in decimal without leading zeros
pub data SpellsPort (https : Bool) : List ℕ → ℕ → Type 0 where
  default : SpellsPort https [] (default_port https)
  written : (port : ℕ) → 0 < port → port ≤ 65535 → SpellsPort https (codes ":" ++ decimal port) port

-- the last character is no slash
abbrev pub EndsInNoSlash : List ℕ → Type 0
EndsInNoSlash prefix = (front : List ℕ) → prefix ≡ front ++ codes "/" → ⊥

-- the text is a scheme by fold, a host, a port, and a path that is nothing or begins with a slash. The site has the host
-- folded, and the path without the slashes at its end
pub record SpellsUrl (text : List ℕ) (site : Site) : Type 0 where
  pub scheme : List ℕ
  pub host : List ℕ
  pub port : List ℕ
  pub slashes : List ℕ
  pub spelled : text ≡ scheme ++ (host ++ (port ++ (site.prefix ++ slashes)))
  pub by_fold : SameName scheme (scheme_of site.https)
  pub some_host : host ≢ []
  pub host_chars : list_all is_host_char host ≡ true
  pub folded : site.peer.host ≡ fold_case host
  pub port_number : SpellsPort site.https port site.peer.port
  pub path_chars : list_all is_path_char site.prefix ≡ true
  pub rooted : (first : ℕ) (rest : List ℕ) → site.prefix ≡ first ∷ rest → first ≡ 47
  pub ends : EndsInNoSlash site.prefix
  pub all_slashes : list_all is_slash slashes ≡ true

-- ---- the site of a URL

-- the number of at most 65535 that digits write after those of n
abbrev pub number_after : ℕ → List ℕ → Option ℕ
number_after n [] = Some n
number_after n (c ∷ cs) =
    if is_digit c 10 && nat_le (n * 10 + digit_value c) 65535 then number_after (n * 10 + digit_value c) cs else None

-- a port of 1 to 65535 without leading zeros
abbrev pub port_of : List ℕ → Option ℕ
port_of [] = None
port_of (c ∷ cs) = if c == 48 then None else number_after 0 (c ∷ cs)

-- the port of what stands after the host
abbrev pub port_after : Bool → List ℕ → Option ℕ
port_after https [] = Some (default_port https)
port_after https (c ∷ cs) = if c == 58 then port_of cs else None

-- without the slashes at its end
abbrev pub put_before : ℕ → List ℕ → List ℕ
put_before c [] = if is_slash c then [] else c ∷ []
put_before c (d ∷ ds) = c ∷ d ∷ ds

abbrev pub without_slashes : List ℕ → List ℕ
without_slashes [] = []
without_slashes (c ∷ cs) = put_before c (without_slashes cs)

abbrev pub is_in_name : ℕ → Bool
is_in_name c = not (is_slash c)

abbrev pub is_empty_text : List ℕ → Bool
is_empty_text [] = true
is_empty_text (c ∷ cs) = false

-- the site of a host, of what stands after it, and of a path
abbrev pub site_at : Bool → List ℕ → List ℕ → List ℕ → Option Site
site_at https host after path =
    if is_empty_text host then None
    else if list_all is_path_char path
    then option_map (λ port. record { https = https; peer = record { host = fold_case host; port = port }; prefix = without_slashes path }) (port_after https after)
    else None

-- the site of an authority, which is a host and what stands after it, and of a path
abbrev pub site_in : Bool → List ℕ → List ℕ → Option Site
site_in https authority path =
    site_at https (take (prefix_len is_host_char authority) authority) (drop (prefix_len is_host_char authority) authority) path

-- the site of what stands after the scheme
abbrev pub site_after : Bool → List ℕ → Option Site
site_after https rest = site_in https (take (prefix_len is_in_name rest) rest) (drop (prefix_len is_in_name rest) rest)

-- the site that a URL spells
abbrev pub site_of : List ℕ → Option Site
site_of text =
    if same_name (take 7 text) (codes "http://") then site_after false (drop 7 text)
    else if same_name (take 8 text) (codes "https://") then site_after true (drop 8 text)
    else None

-- ---- the canonical URL

abbrev pub url_of : Site → List ℕ
url_of site = scheme_of site.https ++ (site.peer.host ++ (codes ":" ++ (decimal site.peer.port ++ site.prefix)))

-- at most MAX_URL bytes of UTF-8
abbrev pub is_short : List ℕ → Bool
is_short text = nat_le (length (encode_utf8_all text)) MAX_URL

abbrev pub if_short : Site → Option Site
if_short site = if is_short (url_of site) then Some site else None

-- the site of a URL that is short as it is given, and as it is written
abbrev pub site_named : List ℕ → Option Site
site_named text = if is_short text then option_and_then if_short (site_of text) else None

abbrev pub same_truth : Bool → Bool → Bool
same_truth true b = b
same_truth false b = not b

-- the two URLs name one server
abbrev pub same_site : Site → Site → Bool
same_site a b =
    same_truth a.https b.https && (bytes_eq a.peer.host b.peer.host && (a.peer.port == b.peer.port && bytes_eq a.prefix b.prefix))
