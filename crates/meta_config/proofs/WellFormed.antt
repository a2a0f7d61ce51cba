-- What holds of each meta-configuration that is read.
use Rattle.std.proofs.Common.{◌≡◌, ℕ, ◌<◌, ◌≤◌, Bool, true, false, nat_le, List, [], length, Option, Some, None}
use Rattle.std.specs.List.{AllByRecursion, list_any}
use Rattle.mof_values.specs.Fold.{same_name}
use Rattle.mof_codec.specs.Written.{AreChars}
use Rattle.meta_config.specs.declared.meta.Meta.{Meta}
use Rattle.meta_config.specs.declared.meta.Partial.{Partial}
use Rattle.meta_config.specs.declared.server.Server.{Server}
use Rattle.meta_config.specs.Making.{with_names}
use Rattle.meta_config.specs.Words.{is_name}
use Rattle.meta_config.specs.Writing.{site_at_server, text_of_meta}
use Rattle.meta_config.proofs.Apart.{AreApart}
use Rattle.meta_config.proofs.WrittenUrls.{IsSite}
use Rattle.meta_config.specs.declared.limits.TheConstants.{MAX_META_TEXT, MAX_NAMES, MAX_PARTIALS}

-- a name of 1 to MAX_NAME_BYTES bytes
pub record IsNameText (name : List ℕ) : Type 0 where
  pub sized : is_name name ≡ true
  pub chars : AreChars name

pub record IsPart (partial : Partial) : Type 0 where
  pub name : IsNameText partial.name
  pub depends : AllByRecursion IsNameText partial.depends
  pub few_depends : length partial.depends ≤ 4096
  pub exclusive : AllByRecursion AreChars partial.exclusive
  pub few_exclusive : length partial.exclusive ≤ 4096

pub record IsServer (server : Server) : Type 0 where
  pub site : IsSite (site_at_server server)
  pub key : AreChars server.key

-- without a server there is no manager, without a download manager no name, and without both managers no key
abbrev pub HasManagers : Option Server → Bool → Bool → List (List ℕ) → Type 0
HasManagers None pulls reports names = (pulls ≡ false) × (reports ≡ false) × (names ≡ [])
HasManagers (Some server) pulls reports names =
    IsServer server × (pulls ≡ false → names ≡ []) × (pulls ≡ false → reports ≡ false → server.key ≡ [])

-- a partial configuration has the name
abbrev pub is_known : List Partial → List ℕ → Bool
is_known partials name = list_any (λ (q : Partial). same_name q.name name) partials

pub record IsWellFormed (meta : Meta) : Type 0 where
  pub mode_mins : meta.mode_mins < 4294967296
  pub refresh_mins : meta.refresh_mins < 4294967296
  pub managers : HasManagers meta.server meta.pulls meta.reports meta.names
  pub names : AllByRecursion IsNameText meta.names
  pub names_once : with_names [] meta.names ≡ meta.names
  pub few_names : nat_le (length meta.names) MAX_NAMES ≡ true
  pub partials : AllByRecursion IsPart meta.partials
  pub few_partials : nat_le (length meta.partials) MAX_PARTIALS ≡ true
  pub apart : AreApart [] meta.partials
  pub known : AllByRecursion (λ (p : Partial). AllByRecursion (λ name. is_known meta.partials name ≡ true) p.depends) meta.partials
  pub short : nat_le (length (text_of_meta meta)) MAX_META_TEXT ≡ true
