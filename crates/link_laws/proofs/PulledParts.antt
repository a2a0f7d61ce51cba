-- A part that a node pulls of a server in memory is what the server's shelf has.
use Rattle.std.proofs.Common.{◌≡◌, inl, inr, ℕ, ◌<◌, ◌≤◌, ◌^◌, Bool, true, false, ◌&&◌, nat_le, List, [], ◌∷◌, ◌++◌, length, Option, Some, None, option_and_then, refl, sym, ◌∙◌, ap, subst, arith, length-append, codes, if◌then◌else◌}
use Rattle.std.specs.Prelude.{All, Contains, IfSome, IsTrue, encode_utf8_all}
use Rattle.std.specs.Char.{IsScalar, to_ascii_lowercase}
use Rattle.std.specs.Fmt.{decimal}
use Rattle.std.specs.Int.{w128}
use Rattle.std.specs.List.{AllByRecursion, list_all}
use Rattle.std.specs.Str.{all_scalars}
use Rattle.std.proofs.lemmas.Bool.Decides.{nat_tests}
use Rattle.std.proofs.lemmas.List.{append_cancel_left}
use Rattle.std.proofs.lemmas.List.Elements.{All-contains, All-from_recursion, All-weaker}
use Rattle.std.proofs.lemmas.List.Folds.{list_all-map}
use Rattle.std.proofs.lemmas.List.Sums.{AllPass-from_list_all, list_all-from_AllPass}
use Rattle.std.proofs.lemmas.Option.{same_Some}
use Rattle.std.proofs.lemmas.Str.{length-le-encodes}
use Rattle.dsc_outside.specs.declared.disk.Disk as disks
use Rattle.dsc_outside.specs.declared.exchange.Exchange.{Exchange}
use Rattle.dsc_document.specs.Sizes.{Fits}
use Rattle.mof_values.specs.Fold.{fold_case}
use Rattle.mof_values.specs.declared.limits.TheConstants.{MAX_NAME_BYTES}
use Rattle.meta_config.specs.declared.limits.TheConstants.{MAX_URL}
use Rattle.meta_config.specs.declared.server.Server.{Server}
use Rattle.meta_config.specs.declared.server.Site.{Site}
use Rattle.meta_config.specs.Urls.{SpellsPort, SpellsUrl, if_short, is_host_char, is_short, scheme_of, site_of, url_of}
use Rattle.meta_config.specs.Urls.SpellsPort.{default, written}
use Rattle.meta_config.specs.Writing.{site_at_server}
use Rattle.meta_config.proofs.ReadBack.{is_well_formed}
use Rattle.meta_config.proofs.SitesOfUrls.{site_is_spelled}
use Rattle.meta_config.proofs.WellFormed.{HasManagers, IsServer}
use Rattle.partial_merge.specs.declared.part.Part.{Part}
use Rattle.store_fields.specs.Fields.{IsNumber}
use Rattle.node_state.specs.declared.node.Node.{Node}
use Rattle.node_state.specs.Lists.{IsStaged}
use Rattle.node_state.specs.Slots.{IsIn, IsSlot}
use Rattle.node_state.specs.Sound.{Sound}
use Rattle.node_store.specs.Parts.{AreParts, IsPart}
use Rattle.node_store.proofs.Ranges.{InRange, leads_in_range, leads_sound}
use Rattle.pull_client.specs.Requests.{content_request}
use Rattle.pull_outside.specs.declared.shelf.Shelf as shelves
use Rattle.link_laws.specs.PulledParts.{IsKept, PulledPartsAreOfTheShelf}
use Rattle.link_laws.specs.ShelfContents.{AsksForContent, ContentsAreOfTheShelf}

-- ---- where a server is

-- as a meta-configuration says it of the server
record IsAddress (site : Site) : Type 0 where
  host : list_all is_host_char site.peer.host ≡ true
  short : length site.peer.host ≤ MAX_URL
  port : site.peer.port < 2 ^ 16

if_some : (there : Bool) (found : Option Site) (site : Site) → (if there then found else None) ≡ Some site → (there ≡ true) × (found ≡ Some site)
if_some true found site is = (refl, is)
if_some false found site is = absurd (cc is)

if_short_some : (found : Option Site) (site : Site) → option_and_then if_short found ≡ Some site → found ≡ Some site
if_short_some None site is = absurd (cc is)
if_short_some (Some other) site is = (if_some (is_short (url_of other)) (Some other) site is).1

short_is : (n most : ℕ) → nat_le n most ≡ true → n ≤ most
short_is n most is = grind (arith, nat_tests)

host_length : (site : Site) → length site.peer.host ≤ length (url_of site)
host_length site =
    let after = codes ":" ++ (decimal site.peer.port ++ site.prefix) in
    omega (arith, length-append (scheme_of site.https) (site.peer.host ++ after), length-append site.peer.host after)

port_small : (https : Bool) (text : List ℕ) (port : ℕ) → SpellsPort https text port → port < 2 ^ 16
port_small false text port default = omega arith
port_small true text port default = omega arith
port_small https text port (written other some small) = omega (arith, small)

lower_host : (c : ℕ) → is_host_char c ≡ true → is_host_char (to_ascii_lowercase c) ≡ true
lower_host c is = grind (arith, nat_tests)

folded_host : (host : List ℕ) → list_all is_host_char host ≡ true → list_all is_host_char (fold_case host) ≡ true
folded_host host all =
    list_all-map is_host_char to_ascii_lowercase host
    ∙ list_all-from_AllPass (λ c. is_host_char (to_ascii_lowercase c)) host
    (All-weaker (λ c. IsTrue (is_host_char c)) (λ c. IsTrue (is_host_char (to_ascii_lowercase c))) lower_host host (AllPass-from_list_all is_host_char host all))

address_of : (text : List ℕ) (site : Site) → SpellsUrl text site → is_short (url_of site) ≡ true → IsAddress site
address_of text site spells short = record {
  host = ap (list_all is_host_char) spells.folded ∙ folded_host spells.host spells.host_chars;
  short = omega (arith, host_length site, length-le-encodes (url_of site), short_is (length (encode_utf8_all (url_of site))) MAX_URL short);
  port = port_small site.https spells.port site.peer.port spells.port_number;
}

server_of : (kept : Option Server) (pulls reports : Bool) (names : List (List ℕ)) (server : Server) → kept ≡ Some server → HasManagers kept pulls reports names → IsServer server
server_of kept pulls reports names server is has = (subst (λ (o : Option Server). HasManagers o pulls reports names) is has).0

server_address : (server : Server) → IsServer server → IsAddress (site_at_server server)
server_address server is =
    let site = site_at_server server in
    let named = if_some (is_short (url_of site)) (option_and_then if_short (site_of (url_of site))) site is.site.named in
    address_of (url_of site) site (site_is_spelled (url_of site) site (if_short_some (site_of (url_of site)) site named.1)) named.0

-- ---- what a node has

both : (a b : Bool) → (a && b) ≡ true → (a ≡ true) × (b ≡ true)
both a b is = grind arith

are_scalars : (text : List ℕ) → all_scalars text ≡ true → AllByRecursion IsScalar text
are_scalars [] is = tt
are_scalars (c ∷ text) is = (let parts = both _ (all_scalars text) is in (parts.0, are_scalars text parts.1))

in_slot : (P : List Part → Type 0) (Q : Part → Type 0) → ((parts : List Part) (part : Part) → P parts → Contains parts part → Q part)
    → (slot : Option (List Part)) (part : Part) → IfSome slot P → IsIn slot part → Q part
in_slot P Q gives None part all is = absurd is
in_slot P Q gives (Some parts) part all is = gives parts part all is

kept_range : (node : Node) → IsKept node → InRange node
kept_range node (image, stands) = leads_in_range stands.bodies node stands.leads

kept_sound : (node : Node) → IsKept node → Sound node
kept_sound node (image, stands) = leads_sound stands.bodies node stands.leads

-- the name of a part is of characters, and is short
record IsNamed (part : Part) : Type 0 where
  scalars : All IsScalar part.name
  short : Fits MAX_NAME_BYTES part.name

named_in : (parts : List Part) (part : Part) → AreParts parts × IsStaged parts → Contains parts part → IsNamed part
named_in parts part (range, staged) is =
    let text : IsPart part = All-contains IsPart parts part (All-from_recursion IsPart parts range.1) is in
    record {
      scalars = All-from_recursion IsScalar part.name (are_scalars part.name text.0.scalars);
      short = All-contains (λ (p : Part). Fits MAX_NAME_BYTES p.name) parts part staged.named.names is;
    }

pair_some : (slot : Option (List Part)) → IfSome slot AreParts → IfSome slot IsStaged → IfSome slot (λ parts. AreParts parts × IsStaged parts)
pair_some None range staged = tt
pair_some (Some parts) range staged = (range, staged)

named_of : (node : Node) (part : Part) → IsKept node → IsSlot node part → IsNamed part
named_of node part kept slot = by slot where
  range : InRange node
  range = kept_range node kept

  sound : Sound node
  sound = kept_sound node kept

  of : (slot : Option (List Part)) → IfSome slot AreParts → IfSome slot IsStaged → IsIn slot part → IsNamed part
  of slot parts staged is = in_slot (λ parts. AreParts parts × IsStaged parts) IsNamed named_in slot part (pair_some slot parts staged) is

  by : IsSlot node part → IsNamed part
  by (inl is) = of node.pending range.pending sound.pending is
  by (inr (inl is)) = of node.current range.current sound.current is
  by (inr (inr is)) = of node.previous range.previous sound.previous is

-- ---- the law

module _ {D F : Type 0} (d : disks.Ghosts D) (f : shelves.Ghosts F) (law : ContentsAreOfTheShelf d f) where
  asks_for : (node later : Node) (part : Part) → IsKept node → IsKept later → IsSlot later part → (server : Server) (agent : ℕ) → node.meta.server ≡ Some server → node.agent ≡ Some agent
      → (exchange : Exchange) → exchange.request ≡ content_request server agent part.name → server.prefix ≡ codes "/PSDSCPullServer.svc" → 1 ≤ length part.name
      → AsksForContent server agent part.name exchange
  asks_for node later part kept stays slot server agent is_server is_agent exchange request path some =
      let meta = is_well_formed node.meta (kept_sound node kept).meta.is in
      let address = server_address server (server_of node.meta.server node.meta.pulls node.meta.reports node.meta.names server is_server meta.managers) in
      let number : IsNumber w128 agent = subst (λ (o : Option ℕ). IfSome o (IsNumber w128)) is_agent (kept_range node kept).agent in
      let named = named_of later part stays slot in
      record {
        request = request;
        path = path;
        host = address.host;
        short = address.short;
        port = address.port;
        ranges = (number, named.scalars);
        values = (omega (arith, some, length-le-encodes part.name), named.short);
      }

  pub pulled_of_shelf : PulledPartsAreOfTheShelf d f
  pulled_of_shelf old new shelf becomes holds asked heard shown_before shown_after node later part kept stays slot server agent is_server is_agent accepted =
      let found = accepted old.exchanges shown_before in
      let more : found.0 ≡ becomes.more =
      append_cancel_left old.exchanges found.0 becomes.more
      (same_Some (old.exchanges ++ found.0) (old.exchanges ++ becomes.more) (sym found.1 ∙ shown_after ∙ ap (λ (l : List Exchange). Some l) becomes.added)) in
      let any = found.2 in
      let among : Contains becomes.more any.1 = subst (λ (l : List Exchange). Contains l any.1) more (any.0, any.2, any.3) in
      let of = (law old new shelf becomes holds any.1 among).parts part.name part any.4.answer in
      record {
        exchange = any.1;
        made = among;
        item = of.item;
        given = of.given;
        named = λ path some.
            of.named server agent part.name (asks_for node later part kept stays slot server agent is_server is_agent any.1 any.4.request path some);
      }
