-- Documents in size.
use Rattle.std.specs.Prelude.{ℕ, ◌≤◌, List, All, encode_utf8_all, length}
use Rattle.dsc_document.specs.declared.document.Document.{Document}
use Rattle.dsc_document.specs.declared.limits.TheConstants.{MAX_ID, MAX_RESOURCES, MAX_VERSION}

-- at most that many bytes of UTF-8
abbrev pub Fits : ℕ → List ℕ → Type 0
Fits limit text = length (encode_utf8_all text) ≤ limit

-- not too many resources, and no id and version that is too long
pub record DocumentInSize (document : Document) : Type 0 where
  pub resources : length document.resources ≤ MAX_RESOURCES
  pub ids : All (λ resource. Fits MAX_ID resource.id) document.resources
  pub version : length document.version ≤ MAX_VERSION
