-- Laws of the definitions.
use Rattle.std.specs.Prelude.{◌≡◌, ◌≤◌, ◌↔◌, ℕ, List, Some, length}
use Rattle.meta_config.specs.declared.limits.TheConstants.{MAX_META_TEXT}
use Rattle.meta_config.specs.declared.meta.Meta.{Meta}
use Rattle.meta_config.specs.declared.server.Site.{Site}
use Rattle.meta_config.specs.Parts.{IsMeta}
use Rattle.meta_config.specs.Refusals.{Means}
use Rattle.meta_config.specs.Urls.{SpellsUrl, site_of}
use Rattle.meta_config.specs.Writing.{text_of_meta}

-- a text spells a site by the grammar of URLs exactly where it is the site of the text
abbrev pub UrlsHaveTheirSites : Type 0
UrlsHaveTheirSites = (text : List ℕ) (site : Site) → SpellsUrl text site ↔ (site_of text ≡ Some site)

-- the text of a meta-configuration that was read declares that very meta-configuration
abbrev pub MetasReadBack : Type 0
MetasReadBack = (meta : Meta) → IsMeta meta → Means (text_of_meta meta) meta

-- and is within the limit of canonical texts
abbrev pub TextsFit : Type 0
TextsFit = (meta : Meta) → IsMeta meta → length (text_of_meta meta) ≤ MAX_META_TEXT

-- meta-configurations that were read and have one text are equal
abbrev pub TextsTellApart : Type 0
TextsTellApart = (one other : Meta) → IsMeta one → IsMeta other → text_of_meta one ≡ text_of_meta other → one ≡ other

-- bytes declare at most one meta-configuration
abbrev pub BytesMeanOne : Type 0
BytesMeanOne = (bytes : List ℕ) (one other : Meta) → Means bytes one → Means bytes other → one ≡ other
