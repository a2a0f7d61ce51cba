-- The package of one module, by what the calls on the machine answered.
use Rattle.std.proofs.Common.{◌≡◌, ◌⊎◌, inl, inr, ℕ, ◌<◌, ◌≤◌, Bool, true, false, List, ◌∷◌, length, drop, encode_utf8_all, ◌∙◌, Option, Some, None, Result, Ok, Err, refl, sym, ap, subst}
use Rattle.std.specs.Prelude.{IfSome}
use Rattle.dsc_terms.specs.Counts.{Rose}
use Rattle.dsc_outside.specs.Host.{has_package}
use Rattle.dsc_outside.specs.declared.entries.Package.{Package}
use Rattle.dsc_outside.specs.declared.host.HostError.{HostError}
use Rattle.dsc_outside.specs.declared.host.HostError.TheVariants.{Failed, Memory}
use Rattle.meta_config.specs.declared.server.Server.{Server}
use Rattle.resource_kinds.specs.Packages.{AddsPackage}
use Rattle.node_pull.specs.declared.error.PullFault.{PullFault}
use Rattle.node_pull.specs.declared.modules.Module.{Module}
use Rattle.node_pull.specs.Errors.{host_error}
use Rattle.node_pull.specs.Packages.{Adds, AsksModule, Has, OnePackage, Packages, SamePackages, ended, is_added, is_there, no_memory, no_memory_to_add, no_more, not_added, not_looked, one_more}
use Rattle.dsc_outside.specs.Link.{LinkView}
use Rattle.node_pull.proofs.PartRows.{no_name}

-- ---- the texts that were handed over

has_is : (shown : Option (List Package)) (n v name version : List ℕ) (found there : Bool) → found ≡ there → n ≡ name → v ≡ version
    → IfSome shown (λ list. found ≡ has_package list n v) → IfSome shown (λ list. there ≡ has_package list name version)
has_is None n v name version found there is named versioned has = tt
has_is (Some list) n v name version found there is named versioned has = sym is ∙ has ∙ ap (λ x. has_package list x v) named ∙ ap (λ x. has_package list name x) versioned

adds_is : (before after : Option (List Package)) (n v b name version body : List ℕ) → n ≡ name → v ≡ version → b ≡ body → AddsPackage before after n v b → AddsPackage before after name version body
adds_is before after n v b name version body named versioned full adds =
    subst (λ x. AddsPackage before after name version x) full (subst (λ x. AddsPackage before after name x b) versioned (subst (λ x. AddsPackage before after x v b) named adds))

whole_is : (before after : Option (List Package)) (n v b name version body : List ℕ) → n ≡ name → v ≡ version → b ≡ body → (after ≡ before) ⊎ AddsPackage before after n v b
    → (after ≡ before) ⊎ AddsPackage before after name version body
whole_is before after n v b name version body named versioned full (inl same) = inl same
whole_is before after n v b name version body named versioned full (inr adds) = inr (adds_is before after n v b name version body named versioned full adds)

-- ---- the exits

module _ {S : Type 0} (packages : S → Option (List Package)) (faults : S → ℕ) (server : Server) (wanted : Module) where
  pub ended_looking : (error : HostError) (view : LinkView) (old new : S) → (◌≡◌ {A = Result Bool HostError} (Err error) (Err Failed) → Rose (faults old) (faults new))
      → SamePackages packages old new → OnePackage packages faults server wanted view view old new (Err (host_error error))
  ended_looking Failed view old new rose same = not_looked view old new (rose refl) same
  ended_looking Memory view old new rose same = no_memory view old new same

  pub ended_adding : (error : HostError) (before after : LinkView) (old looked new : S) (body : List ℕ) → Has packages old wanted false → SamePackages packages old looked
      → AsksModule server wanted before after (Ok body) → faults old ≤ faults looked
      → (◌≡◌ {A = Result (Unit {0}) HostError} (Err error) (Err Failed) → Rose (faults looked) (faults new))
      → (SamePackages packages looked new ⊎ Adds packages wanted body looked new)
      → OnePackage packages faults server wanted before after old new (Err (host_error error))
  ended_adding Failed before after old looked new body has same asks later rose whole = not_added before after old looked new body has same asks later (rose refl) whole
  ended_adding Memory before after old looked new body has same asks later rose whole = no_memory_to_add before after old looked new body has same asks whole

  pub there : (view : LinkView) (old new : S) (n v : List ℕ) (found : Bool) → found ≡ true → n ≡ encode_utf8_all wanted.name → v ≡ encode_utf8_all wanted.version
      → IfSome (packages old) (λ list. found ≡ has_package list n v) → SamePackages packages old new → OnePackage packages faults server wanted view view old new (Ok tt)
  there view old new n v found is named versioned has same = is_there view old new (has_is (packages old) n v _ _ found true is named versioned has) same

  pub lacks : (old : S) (n v : List ℕ) (found : Bool) → found ≡ false → n ≡ encode_utf8_all wanted.name → v ≡ encode_utf8_all wanted.version
      → IfSome (packages old) (λ list. found ≡ has_package list n v) → Has packages old wanted false
  lacks old n v found is named versioned has = has_is (packages old) n v _ _ found false is named versioned has

  pub added : (before after : LinkView) (old looked new : S) (n v b body : List ℕ) → n ≡ encode_utf8_all wanted.name → v ≡ encode_utf8_all wanted.version → b ≡ body
      → Has packages old wanted false → SamePackages packages old looked → AsksModule server wanted before after (Ok body) → AddsPackage (packages looked) (packages new) n v b
      → OnePackage packages faults server wanted before after old new (Ok tt)
  added before after old looked new n v b body named versioned full has same asks adds =
      is_added before after old looked new body has same asks (adds_is (packages looked) (packages new) n v b _ _ body named versioned full adds)

  pub not_put : (error : HostError) (before after : LinkView) (old looked new : S) (n v b body : List ℕ) → n ≡ encode_utf8_all wanted.name → v ≡ encode_utf8_all wanted.version → b ≡ body
      → Has packages old wanted false → SamePackages packages old looked → AsksModule server wanted before after (Ok body) → faults old ≤ faults looked
      → (◌≡◌ {A = Result (Unit {0}) HostError} (Err error) (Err Failed) → Rose (faults looked) (faults new))
      → SamePackages packages looked new ⊎ AddsPackage (packages looked) (packages new) n v b
      → OnePackage packages faults server wanted before after old new (Err (host_error error))
  not_put error before after old looked new n v b body named versioned full has same asks later rose whole =
      ended_adding error before after old looked new body has same asks later rose (whole_is (packages looked) (packages new) n v b _ _ body named versioned full whole)

-- ---- of the modules that are left

module _ {S : Type 0} (packages : S → Option (List Package)) (faults : S → ℕ) (server : Server) where
  pub at_end : (modules : List Module) (view : LinkView) (state : S) → length modules < 1 → Packages packages faults server modules view view state state (Ok tt)
  at_end modules view state lt =
      subst (λ (ms : List Module). Packages packages faults server ms view view state state (Ok tt)) (sym (no_name modules lt)) (no_more view state)

  pub at_one : (modules left : List Module) (wanted : Module) (before mid after : LinkView) (old next new : S) (result : Result (Unit {0}) PullFault) → modules ≡ wanted ∷ drop 1 modules
      → left ≡ drop 1 modules → OnePackage packages faults server wanted before mid old next (Ok tt) → faults old ≤ faults next → Packages packages faults server left mid after next new result
      → Packages packages faults server modules before after old new result
  at_one modules left wanted before mid after old next new result first others one later rest =
      subst (λ (ms : List Module). Packages packages faults server ms before after old new result) (sym first)
      (one_more wanted (drop 1 modules) before mid after old next new result one later (subst (λ (ms : List Module). Packages packages faults server ms mid after next new result) others rest))

  pub at_error : (modules : List Module) (wanted : Module) (before after : LinkView) (old new : S) (error : PullFault) → modules ≡ wanted ∷ drop 1 modules
      → OnePackage packages faults server wanted before after old new (Err error) → Packages packages faults server modules before after old new (Err error)
  at_error modules wanted before after old new error first one =
      subst (λ (ms : List Module). Packages packages faults server ms before after old new (Err error)) (sym first) (ended wanted (drop 1 modules) before after old new error one)
