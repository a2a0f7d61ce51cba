-- The URL that is written of a site spells that site.
use Rattle.std.proofs.Common.{◌≡◌, ◌≢◌, ℕ, ◌<◌, ◌≤◌, Bool, true, false, cond, ◌&&◌, List, [], ◌∷◌, ◌++◌, Option, Some, None, option_and_then, refl, sym, ap, append-nil, ◌∙◌, arith, codes}
use Rattle.std.specs.List.{list_all}
use Rattle.std.specs.Char.{digit_value, to_ascii_lowercase}
use Rattle.std.specs.Fmt.{decimal}
use Rattle.std.specs.Str.{all_scalars}
use Rattle.std.specs.Str.Parse.{AllDigits}
use Rattle.std.proofs.lemmas.Bool.Decides.{nat_tests}
use Rattle.std.proofs.lemmas.Fmt.{decimal_is_IsNumeral}
use Rattle.std.proofs.lemmas.Option.{none-some, same_Some}
use lib.Utf8.{low_scalar}
use Rattle.mof_values.specs.Fold.{fold_case}
use Rattle.mof_codec.specs.Written.{AreChars}
use Rattle.meta_config.specs.declared.server.Site.{Site}
use Rattle.meta_config.specs.Urls.{SpellsPort, SpellsUrl, if_short, is_host_char, is_path_char, is_short, scheme_of, site_named, site_of, url_of}
use Rattle.meta_config.specs.Urls.SpellsPort.{default, written}
use Rattle.meta_config.proofs.CharsRead.{chars_join}
use Rattle.meta_config.proofs.Pieces.{both}
use Rattle.meta_config.proofs.SitesOfUrls.{site_is_spelled, spelled_is_site}

-- ---- folded hosts

lower_host : (c : ℕ) → is_host_char c ≡ true → is_host_char (to_ascii_lowercase c) ≡ true
lower_host c h = grind (arith, nat_tests)

lower_twice : (c : ℕ) → to_ascii_lowercase (to_ascii_lowercase c) ≡ to_ascii_lowercase c
lower_twice c = grind (arith, nat_tests)

pub fold_twice : (cs : List ℕ) → fold_case (fold_case cs) ≡ fold_case cs
fold_twice [] = refl
fold_twice (c ∷ cs) = λ i. lower_twice c i ∷ fold_twice cs i

host_folded : (cs : List ℕ) → list_all is_host_char cs ≡ true → list_all is_host_char (fold_case cs) ≡ true
host_folded [] all = refl
host_folded (c ∷ cs) all =
    let b = both (is_host_char c) (list_all is_host_char cs) all in
    ap (λ t. t && list_all is_host_char (fold_case cs)) (lower_host c b.0) ∙ host_folded cs b.1

some_folded : (cs : List ℕ) → cs ≢ [] → fold_case cs ≢ []
some_folded [] some e = some refl
some_folded (c ∷ cs) some e = cc

port_is : (https : Bool) (ds : List ℕ) (p : ℕ) → SpellsPort https ds p → (0 < p) × (p ≤ 65535)
port_is false ds p default = (omega arith, omega arith)
port_is true ds p default = (omega arith, omega arith)
port_is https ds p (written q some small) = (some, small)

parts_joined : (scheme host port prefix : List ℕ)
    → scheme ++ (host ++ (codes ":" ++ (port ++ prefix))) ≡ scheme ++ (host ++ ((codes ":" ++ port) ++ (prefix ++ [])))
parts_joined scheme host port prefix = ap (λ l. scheme ++ (host ++ (codes ":" ++ (port ++ l)))) (sym (append-nil prefix))

-- the URL that is written of a site that a text spells
pub url_spells : (text : List ℕ) (site : Site) → SpellsUrl text site → SpellsUrl (url_of site) site
url_spells text site s =
    let port = port_is site.https s.port site.peer.port s.port_number in
    record {
      scheme = scheme_of site.https;
      host = site.peer.host;
      port = codes ":" ++ decimal site.peer.port;
      slashes = [];
      spelled = parts_joined (scheme_of site.https) site.peer.host (decimal site.peer.port) site.prefix;
      by_fold = refl;
      some_host = λ e. some_folded s.host s.some_host (sym s.folded ∙ e);
      host_chars = ap (list_all is_host_char) s.folded ∙ host_folded s.host s.host_chars;
      folded = s.folded ∙ sym (fold_twice s.host) ∙ ap fold_case (sym s.folded);
      port_number = written site.peer.port port.0 port.1;
      path_chars = s.path_chars;
      rooted = s.rooted;
      ends = s.ends;
      all_slashes = refl;
    }

-- ---- characters of a URL

host_scalar : (c : ℕ) → is_host_char c ≡ true → c < 128
host_scalar c h = grind (arith, nat_tests)

path_scalar : (c : ℕ) → is_path_char c ≡ true → c < 128
path_scalar c h = grind (arith, nat_tests)

digit_scalar : (c : ℕ) → digit_value c < 10 → c < 128
digit_scalar c h = grind (arith, nat_tests)

pass_chars : (p : ℕ → Bool) → ((c : ℕ) → p c ≡ true → c < 128) → (cs : List ℕ) → list_all p cs ≡ true → AreChars cs
pass_chars p small [] all = refl
pass_chars p small (c ∷ cs) all =
    let b = both (p c) (list_all p cs) all in
    ap (λ t. t && all_scalars cs) (low_scalar c (omega (arith, small c b.0))) ∙ pass_chars p small cs b.1

digit_chars : (ds : List ℕ) → AllDigits 10 ds → AreChars ds
digit_chars [] all = refl
digit_chars (c ∷ cs) all = ap (λ t. t && all_scalars cs) (low_scalar c (omega (arith, digit_scalar c all.0))) ∙ digit_chars cs all.1

scheme_chars : (https : Bool) → AreChars (scheme_of https)
scheme_chars false = refl
scheme_chars true = refl

url_chars : (text : List ℕ) (site : Site) → SpellsUrl text site → AreChars (url_of site)
unfolding url_spells
url_chars text site s =
    let u = url_spells text site s in
    let port = port_is site.https s.port site.peer.port s.port_number in
    chars_join (scheme_of site.https) (site.peer.host ++ (codes ":" ++ (decimal site.peer.port ++ site.prefix))) (scheme_chars site.https)
    (chars_join site.peer.host (codes ":" ++ (decimal site.peer.port ++ site.prefix)) (pass_chars is_host_char host_scalar site.peer.host u.host_chars)
    (chars_join (codes ":") (decimal site.peer.port ++ site.prefix) refl
    (chars_join (decimal site.peer.port) site.prefix (digit_chars (decimal site.peer.port) (decimal_is_IsNumeral site.peer.port (omega (arith, port.1))).0.1)
    (pass_chars is_path_char path_scalar site.prefix s.path_chars))))

-- ---- sites that are named

-- the URL that is written names the site, and is of characters
pub record IsSite (site : Site) : Type 0 where
  pub named : site_named (url_of site) ≡ Some site
  pub chars : AreChars (url_of site)

short_at : (b : Bool) (o : Option Site) (site : Site) → cond b o None ≡ Some site → (b ≡ true) × (o ≡ Some site)
short_at true o site e = (refl, e)
short_at false o site e = absurd (none-some site e)

some_short : (o : Option Site) (site : Site) → option_and_then if_short o ≡ Some site → (o ≡ Some site) × (is_short (url_of site) ≡ true)
some_short None site e = absurd (none-some site e)
some_short (Some s) site e =
    let a = short_at (is_short (url_of s)) (Some s) site e in
    (a.1, ap (λ (x : Site). is_short (url_of x)) (sym (same_Some s site a.1)) ∙ a.0)

pub site_is : (text : List ℕ) (site : Site) → site_named text ≡ Some site → IsSite site
site_is text site e =
    let short = short_at (is_short text) (option_and_then if_short (site_of text)) site e in
    let found = some_short (site_of text) site short.1 in
    let spells = site_is_spelled text site found.0 in
    record {
      named =
          ap (λ b. cond b (option_and_then if_short (site_of (url_of site))) None) found.1
          ∙ ap (option_and_then if_short) (spelled_is_site (url_of site) site (url_spells text site spells))
          ∙ ap (λ b. cond b (Some site) None) found.1;
      chars = url_chars text site spells;
    }
