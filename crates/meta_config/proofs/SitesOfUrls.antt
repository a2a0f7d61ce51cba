-- A text spells a site by the grammar of URLs exactly where it is the site of the text.
use Rattle.std.proofs.Common.{◌≡◌, ◌≢◌, ℕ, ◌+◌, ◌<◌, Bool, true, false, cond, not, ◌&&◌, List, [], ◌∷◌, ◌++◌, length, take, drop, Option, Some, None, option_map, refl, sym, ap, subst, append_assoc, ◌∙◌, arith, codes}
use Rattle.std.proofs.Math.Seq.{take-append_seam, drop-append_seam}
use Rattle.std.specs.List.{list_all, prefix_len}
use Rattle.std.specs.Char.{digit_value, to_ascii_lowercase}
use Rattle.std.specs.Fmt.{decimal}
use Rattle.std.specs.Str.{bytes_eq}
use Rattle.std.specs.Str.Parse.{AllDigits}
use Rattle.std.proofs.lemmas.Bool.{false≢true}
use Rattle.std.proofs.lemmas.Fmt.{decimal_is_IsNumeral}
use Rattle.std.proofs.lemmas.List.{take-append-drop, take-append-le, length-map, take-map}
use Rattle.std.proofs.lemmas.Slice.Eq.{bytes_eq-Decides}
use Rattle.mof_values.specs.Fold.{fold_case, SameName, same_name}
use Rattle.meta_config.specs.declared.server.Site.{Site}
use Rattle.meta_config.specs.Urls.{SpellsPort, SpellsUrl, is_empty_text, is_host_char, is_in_name, is_path_char, is_slash, port_after, scheme_of, site_at, site_after, site_in, site_of, without_slashes}
use Rattle.meta_config.specs.Urls.SpellsPort.{default, written}
use Rattle.meta_config.proofs.Pieces.{all_front, all_taken, both, prefix_all, stops_after}
use Rattle.meta_config.proofs.Slashes.{cut, ends_in_no_slash, slash, slashes_dropped}
use Rattle.meta_config.proofs.Ports.{after_read, after_spelled}

-- ---- from the site of a text to the grammar

abbrev site_made : Bool → List ℕ → List ℕ → ℕ → Site
site_made https host path port = record { https = https; peer = record { host = fold_case host; port = port }; prefix = without_slashes path }

record MadeOf (empty rooted : Bool) (found : Option ℕ) (make : ℕ → Site) (site : Site) : Type 0 where
  filled : empty ≡ false
  path : rooted ≡ true
  port : ℕ
  is : found ≡ Some port
  made : site ≡ make port

no_site : (site : Site) → ◌≡◌ {A = Option Site} None (Some site) → ⊥
no_site site h = cc

site_of_some : (a b : Site) → Some a ≡ Some b → b ≡ a
site_of_some a b h = cc

made_of : (empty rooted : Bool) (found : Option ℕ) (make : ℕ → Site) (site : Site)
    → cond empty None (cond rooted (option_map make found) None) ≡ Some site → MadeOf empty rooted found make site
made_of true rooted found make site h = absurd (no_site site h)
made_of false false found make site h = absurd (no_site site h)
made_of false true None make site h = absurd (no_site site h)
made_of false true (Some p) make site h = record { filled = refl; path = refl; port = p; is = refl; made = site_of_some (make p) site h }

no_to_yes : (b : Bool) → not b ≡ false → b ≡ true
no_to_yes true h = refl
no_to_yes false h = sym h

spelled_after : (https : Bool) (scheme rest : List ℕ) → SameName scheme (scheme_of https) → (site : Site) → site_after https rest ≡ Some site
    → SpellsUrl (scheme ++ rest) site
spelled_after https scheme rest same site h =
    let n : ℕ = prefix_len is_in_name rest in
    let authority : List ℕ = take n rest in
    let path : List ℕ = drop n rest in
    let m : ℕ = prefix_len is_host_char authority in
    let host : List ℕ = take m authority in
    let port : List ℕ = drop m authority in
    let f = made_of (is_empty_text host) (list_all is_path_char path) (port_after https port) (site_made https host path) site h in
    let c = cut path in
    let whole : rest ≡ host ++ (port ++ (without_slashes path ++ c.slashes)) =
    sym (take-append-drop n rest)
    ∙ ap (λ a. a ++ path) (sym (take-append-drop m authority))
    ∙ append_assoc host port path
    ∙ ap (λ q. host ++ (port ++ q)) c.whole in
    let spells : SpellsUrl (scheme ++ rest) (site_made https host path f.port) = record {
      scheme = scheme;
      host = host;
      port = port;
      slashes = c.slashes;
      spelled = ap (λ r. scheme ++ r) whole;
      by_fold = same;
      some_host = λ e. false≢true (sym f.filled ∙ ap is_empty_text e);
      host_chars = all_taken is_host_char authority;
      folded = refl;
      port_number = after_spelled https port f.port f.is;
      path_chars = all_front is_path_char (without_slashes path) c.slashes (ap (list_all is_path_char) (sym c.whole) ∙ f.path);
      rooted = λ first more e. slash first (no_to_yes (is_slash first) (stops_after is_in_name rest first (more ++ c.slashes) (c.whole ∙ ap (λ p. p ++ c.slashes) e)));
      ends = ends_in_no_slash path;
      all_slashes = c.all;
    } in
    subst (SpellsUrl (scheme ++ rest)) (sym f.made) spells

spelled_at : (text : List ℕ) (site : Site) (one other : Bool) → same_name (take 7 text) (codes "http://") ≡ one → same_name (take 8 text) (codes "https://") ≡ other
    → cond one (site_after false (drop 7 text)) (cond other (site_after true (drop 8 text)) None) ≡ Some site → SpellsUrl text site
spelled_at text site true other e f h =
    subst (λ t. SpellsUrl t site) (take-append-drop 7 text) (spelled_after false (take 7 text) (drop 7 text) ((bytes_eq-Decides _ _).0 e) site h)
spelled_at text site false true e f h =
    subst (λ t. SpellsUrl t site) (take-append-drop 8 text) (spelled_after true (take 8 text) (drop 8 text) ((bytes_eq-Decides _ _).0 f) site h)
spelled_at text site false false e f h = absurd (no_site site h)

pub site_is_spelled : (text : List ℕ) (site : Site) → site_of text ≡ Some site → SpellsUrl text site
site_is_spelled text site h = spelled_at text site (same_name (take 7 text) (codes "http://")) (same_name (take 8 text) (codes "https://")) refl refl h

-- ---- from the grammar to the site of a text

no_digit : 36 < 10 → ⊥
no_digit h = omega arith

implied : (p q : ℕ → Bool) → ((c : ℕ) → p c ≡ true → q c ≡ true) → (xs : List ℕ) → list_all p xs ≡ true → list_all q xs ≡ true
implied p q each [] all = refl
implied p q each (x ∷ xs) all =
    let b = both (p x) (list_all p xs) all in
    ap (λ t. t && list_all q xs) (each x b.0) ∙ implied p q each xs b.1

joined : (p : ℕ → Bool) (xs ys : List ℕ) → list_all p xs ≡ true → list_all p ys ≡ true → list_all p (xs ++ ys) ≡ true
joined p [] ys one other = other
joined p (x ∷ xs) ys one other =
    let b = both (p x) (list_all p xs) one in
    ap (λ t. t && list_all p (xs ++ ys)) b.0 ∙ joined p xs ys b.1 other

in_name_at : (c : ℕ) (b : Bool) → is_slash c ≡ b → (c ≡ 47 → ⊥) → not b ≡ true
in_name_at c true e differs = absurd (differs (slash c e))
in_name_at c false e differs = refl

in_name : (c : ℕ) → (c ≡ 47 → ⊥) → is_in_name c ≡ true
in_name c differs = in_name_at c (is_slash c) refl differs

host_in_name : (c : ℕ) → is_host_char c ≡ true → is_in_name c ≡ true
host_in_name c h = in_name c (λ e. false≢true (sym (ap is_host_char e) ∙ h))

digits_in_name : (ds : List ℕ) → AllDigits 10 ds → list_all is_in_name ds ≡ true
digits_in_name [] all = refl
digits_in_name (c ∷ cs) all =
    let differs : c ≡ 47 → ⊥ = λ e. no_digit (subst (λ d. digit_value d < 10) e all.0) in
    ap (λ t. t && list_all is_in_name cs) (in_name c differs) ∙ digits_in_name cs all.1

port_in_name : (https : Bool) (port : List ℕ) (p : ℕ) → SpellsPort https port p → list_all is_in_name port ≡ true
port_in_name https port p default = refl
port_in_name https port p (written q some small) = digits_in_name (decimal q) (decimal_is_IsNumeral q (omega arith)).0.1

port_stops : (https : Bool) (port : List ℕ) (p : ℕ) → SpellsPort https port p → prefix_len is_host_char port ≡ 0
port_stops https port p default = refl
port_stops https port p (written q some small) = refl

slash_stops : (c : ℕ) (cs : List ℕ) → is_slash c ≡ true → prefix_len is_in_name (c ∷ cs) ≡ 0
slash_stops c cs e = ap (λ t. cond (not t) (1 + prefix_len is_in_name cs) 0) e

path_stops : (prefix slashes : List ℕ) → ((first : ℕ) (more : List ℕ) → prefix ≡ first ∷ more → first ≡ 47) → list_all is_slash slashes ≡ true
    → prefix_len is_in_name (prefix ++ slashes) ≡ 0
path_stops [] [] rooted all = refl
path_stops [] (c ∷ cs) rooted all = slash_stops c cs (both (is_slash c) (list_all is_slash cs) all).0
path_stops (c ∷ cs) slashes rooted all = slash_stops c (cs ++ slashes) (ap is_slash (rooted c cs refl))

slash_in_path : (c : ℕ) → is_slash c ≡ true → is_path_char c ≡ true
slash_in_path c e = ap is_path_char (slash c e)

after_joined : (https : Bool) (authority path : List ℕ) → list_all is_in_name authority ≡ true → prefix_len is_in_name path ≡ 0
    → site_after https (authority ++ path) ≡ site_in https authority path
after_joined https authority path all stops =
    ap (λ n. site_in https (take n (authority ++ path)) (drop n (authority ++ path))) (prefix_all is_in_name authority path all stops)
    ∙ (λ i. site_in https (take-append_seam authority path i) (drop-append_seam authority path i))

in_joined : (https : Bool) (host port path : List ℕ) → list_all is_host_char host ≡ true → prefix_len is_host_char port ≡ 0
    → site_in https (host ++ port) path ≡ site_at https host port path
in_joined https host port path all stops =
    ap (λ n. site_at https (take n (host ++ port)) (drop n (host ++ port)) path) (prefix_all is_host_char host port all stops)
    ∙ (λ i. site_at https (take-append_seam host port i) (drop-append_seam host port i) path)

filled : (host : List ℕ) → host ≢ [] → is_empty_text host ≡ false
filled [] some = absurd (some refl)
filled (c ∷ cs) some = refl

at_parts : (https : Bool) (host port path : List ℕ) (p : ℕ) → is_empty_text host ≡ false → list_all is_path_char path ≡ true → port_after https port ≡ Some p
    → site_at https host port path ≡ Some (site_made https host path p)
at_parts https host port path p some chars is =
    ap (λ t. cond t None (cond (list_all is_path_char path) (option_map (site_made https host path) (port_after https port)) None)) some
    ∙ ap (λ t. cond t (option_map (site_made https host path) (port_after https port)) None) chars
    ∙ ap (option_map (site_made https host path)) is

site_after_spelled : (text : List ℕ) (site : Site) (s : SpellsUrl text site)
    → site_after site.https (s.host ++ (s.port ++ (site.prefix ++ s.slashes))) ≡ Some site
site_after_spelled text site s =
    let path : List ℕ = site.prefix ++ s.slashes in
    ap (site_after site.https) (sym (append_assoc s.host s.port path))
    ∙ after_joined site.https (s.host ++ s.port) path
    (joined is_in_name s.host s.port (implied is_host_char is_in_name host_in_name s.host s.host_chars) (port_in_name site.https s.port site.peer.port s.port_number))
    (path_stops site.prefix s.slashes s.rooted s.all_slashes)
    ∙ in_joined site.https s.host s.port path s.host_chars (port_stops site.https s.port site.peer.port s.port_number)
    ∙ at_parts site.https s.host s.port path site.peer.port (filled s.host s.some_host)
    (joined is_path_char site.prefix s.slashes s.path_chars (implied is_slash is_path_char slash_in_path s.slashes s.all_slashes))
    (after_read site.https s.port site.peer.port s.port_number)
    ∙ (λ i. Some (record {
      https = site.https;
      peer = record { host = sym s.folded i; port = site.peer.port };
      prefix = slashes_dropped site.prefix s.slashes s.ends s.all_slashes i;
    }))

length_of_scheme : (a b : List ℕ) → SameName a b → length a ≡ length b
length_of_scheme a b same = sym (length-map a to_ascii_lowercase) ∙ ap length same ∙ length-map b to_ascii_lowercase

taken : (n : ℕ) (scheme rest : List ℕ) → length scheme ≡ n → take n (scheme ++ rest) ≡ scheme
taken n scheme rest e = ap (λ k. take k (scheme ++ rest)) (sym e) ∙ take-append_seam scheme rest

dropped : (n : ℕ) (scheme rest : List ℕ) → length scheme ≡ n → drop n (scheme ++ rest) ≡ rest
dropped n scheme rest e = ap (λ k. drop k (scheme ++ rest)) (sym e) ∙ drop-append_seam scheme rest

by_scheme : (https : Bool) (scheme rest : List ℕ) → SameName scheme (scheme_of https) → site_of (scheme ++ rest) ≡ site_after https rest
by_scheme false scheme rest same =
    let n : length scheme ≡ 7 = length_of_scheme scheme (codes "http://") same in
    ap (λ t. cond (same_name t (codes "http://")) (site_after false (drop 7 (scheme ++ rest))) (cond (same_name (take 8 (scheme ++ rest)) (codes "https://")) (site_after true (drop 8 (scheme ++ rest))) None)) (taken 7 scheme rest n)
    ∙ ap (λ b. cond b (site_after false (drop 7 (scheme ++ rest))) (cond (same_name (take 8 (scheme ++ rest)) (codes "https://")) (site_after true (drop 8 (scheme ++ rest))) None)) ((bytes_eq-Decides _ _).1 same)
    ∙ ap (site_after false) (dropped 7 scheme rest n)
by_scheme true scheme rest same =
    let n : length scheme ≡ 8 = length_of_scheme scheme (codes "https://") same in
    let front : fold_case (take 7 (scheme ++ rest)) ≡ codes "https:/" =
    ap fold_case (take-append-le 7 scheme rest (omega (arith, n)))
    ∙ sym (take-map to_ascii_lowercase 7 scheme)
    ∙ ap (take 7) same in
    ap (λ f. cond (bytes_eq f (fold_case (codes "http://"))) (site_after false (drop 7 (scheme ++ rest))) (cond (same_name (take 8 (scheme ++ rest)) (codes "https://")) (site_after true (drop 8 (scheme ++ rest))) None)) front
    ∙ ap (λ t. cond (same_name t (codes "https://")) (site_after true (drop 8 (scheme ++ rest))) None) (taken 8 scheme rest n)
    ∙ ap (λ b. cond b (site_after true (drop 8 (scheme ++ rest))) None) ((bytes_eq-Decides _ _).1 same)
    ∙ ap (site_after true) (dropped 8 scheme rest n)

pub spelled_is_site : (text : List ℕ) (site : Site) → SpellsUrl text site → site_of text ≡ Some site
spelled_is_site text site s =
    ap site_of s.spelled
    ∙ by_scheme site.https s.scheme (s.host ++ (s.port ++ (site.prefix ++ s.slashes))) s.by_fold
    ∙ site_after_spelled text site s
