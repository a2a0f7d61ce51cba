-- The packages that came to a machine.
use Rattle.std.proofs.Common.{◌≡◌, ◌⊎◌, inl, inr, ℕ, zero, suc, Bool, true, false, ◌&&◌, ◌||◌, List, [], ◌∷◌, ◌++◌, get_or, Option, Some, None, Result, Ok, Err, refl, sym, ap, subst, ◌∙◌, arith, All, encode_utf8_all, append_assoc, append-nil}
use Rattle.std.proofs.lemmas.List.Elements.{All-append, All-push}
use Rattle.std.proofs.lemmas.List.Folds.{list_any-append}
use Rattle.std.proofs.lemmas.Slice.Eq.{bytes_eq-Decides}
use Rattle.std.specs.List.{Any, list_any}
use Rattle.std.specs.Prelude.{IfSome, IsTrue, bytes_eq}
use Rattle.dsc_outside.specs.Host.{has_package}
use Rattle.dsc_outside.specs.declared.entries.Package.{Package}
use Rattle.meta_config.specs.declared.server.Server.{Server}
use Rattle.resource_kinds.specs.Packages.{AddsPackage}
use Rattle.pull_client.specs.Content.{GivesBody}
use Rattle.pull_client.specs.Requests.{module_request}
use Rattle.node_pull.specs.declared.error.PullFault.{PullFault}
use Rattle.node_pull.specs.declared.modules.Module.{Module}
use Rattle.node_pull.specs.Laws.{PackagesAreAccepted, PackagesAreThere}
use Rattle.node_pull.specs.Packages as rows
use Rattle.node_pull.specs.Packages.{Adds, AddsAccepted, AreLacking, AsksModule, Has, HasAll, OnePackage, Packages, SamePackages, WasGiven}
use Rattle.dsc_outside.specs.Link.{GoesOn, LinkView}
use Rattle.node_pull.specs.Views.{Accepts, MadeSince}
use Rattle.node_pull.proofs.GoingOn.{package_goes_on, packages_go_on}
use Rattle.node_pull.proofs.Since.{asked_since, since_before, since_then}

abbrev pub Told : Type 0
Told = Option (List Package)

-- ---- lists of packages that grow

all_none : {X : Type 0} (P : X → Type 0) → All P []
all_none P k d lt = absurd (omega arith)

all_one : {X : Type 0} (P : X → Type 0) (x : X) → P x → All P (x ∷ [])
all_one P x is = All-push P [] x (all_none P) is

all_also : {X : Type 0} (P Q : X → Type 0) (xs : List X) → ((x : X) → P x → Q x) → All P xs → All Q xs
all_also P Q xs f all k d lt = f (get_or xs k d) (all k d lt)

lacking_both : (there first rest : List Package) → AreLacking there first → AreLacking (there ++ first) rest → AreLacking there (first ++ rest)
lacking_both there [] rest one other = subst (λ (l : List Package). AreLacking l rest) (append-nil there) other
lacking_both there (found ∷ first) rest one other =
    (one.0, lacking_both (there ++ found ∷ []) first rest one.1 (subst (λ (l : List Package). AreLacking l rest) (sym (append_assoc there (found ∷ []) first)) other))

-- the packages that are shown lack that of the module
abbrev pub Lacks : Module → Told → Type 0
Lacks wanted shown = IfSome shown (λ list. false ≡ has_package list (encode_utf8_all wanted.name) (encode_utf8_all wanted.version))

module _ (server : Server) where
  abbrev pub Given : List Module → LinkView → LinkView → Package → Type 0
  Given modules before after found = Any (WasGiven server before after found) modules

  pub adds_same : (modules : List Module) (before after : LinkView) (old new : Told) → new ≡ old → AddsAccepted server modules before after old new
  adds_same modules before after None new is = is
  adds_same modules before after (Some list) new is = ([], is ∙ ap Some (sym (append-nil list)), tt, all_none (Given modules before after))

  adds_both : (modules : List Module) (before after : LinkView) (old mid new : Told) → AddsAccepted server modules before after old mid → AddsAccepted server modules before after mid new
      → AddsAccepted server modules before after old new
  adds_both modules before after None mid new first second = subst (λ (t : Told). AddsAccepted server modules before after t new) first second
  adds_both modules before after (Some list) mid new first second =
      let rest = subst (λ (t : Told). AddsAccepted server modules before after t new) first.1 second in (
        first.0 ++ rest.0,
        rest.1 ∙ ap Some (append_assoc list first.0 rest.0),
        lacking_both list first.0 rest.0 first.2 rest.2,
        All-append (Given modules before after) first.0 rest.0 first.3 rest.3,
      )

  -- packages that were given for some modules between two moments were given for others between others
  adds_also : (modules others : List Module) (before after first last : LinkView) (old new : Told) → ((found : Package) → Given modules before after found → Given others first last found)
      → AddsAccepted server modules before after old new → AddsAccepted server others first last old new
  adds_also modules others before after first last None new also adds = adds
  adds_also modules others before after first last (Some list) new also adds =
      (adds.0, adds.1, adds.2, all_also (Given modules before after) (Given others first last) adds.0 also adds.3)

  any_also : (P Q : Module → Type 0) (modules : List Module) → ((wanted : Module) → P wanted → Q wanted) → Any P modules → Any Q modules
  any_also P Q modules also any = (any.0, any.1, any.2, any.3, also any.1 any.4)

  pub adds_on : (modules : List Module) (before mid after : LinkView) (old new : Told) → GoesOn mid after → AddsAccepted server modules before mid old new → AddsAccepted server modules before after old new
  adds_on modules before mid after old new on =
      adds_also modules modules before mid before after old new
      (λ found. any_also (WasGiven server before mid found) (WasGiven server before after found) modules (λ wanted was. record {
        name = was.name;
        version = was.version;
        accepted = since_then (Accepts server (module_request server wanted.name wanted.version) GivesBody found.bytes) before mid after was.accepted on;
      }))

  adds_from : (modules : List Module) (before mid after : LinkView) (old new : Told) → GoesOn before mid → AddsAccepted server modules mid after old new → AddsAccepted server modules before after old new
  adds_from modules before mid after old new on =
      adds_also modules modules mid after before after old new
      (λ found. any_also (WasGiven server mid after found) (WasGiven server before after found) modules (λ wanted was. record {
        name = was.name;
        version = was.version;
        accepted = since_before (Accepts server (module_request server wanted.name wanted.version) GivesBody found.bytes) before mid after on was.accepted;
      }))

  any_first : (P : Module → Type 0) (wanted : Module) (modules : List Module) → P wanted → Any P (wanted ∷ modules)
  any_first P wanted modules is = (0, wanted, omega arith, refl, is)

  any_later : (P : Module → Type 0) (wanted : Module) (modules : List Module) → Any P modules → Any P (wanted ∷ modules)
  any_later P wanted modules any = (suc any.0, any.1, omega (arith, any.2), any.3, any.4)

  adds_later : (wanted : Module) (modules : List Module) (before after : LinkView) (old new : Told) → AddsAccepted server modules before after old new
      → AddsAccepted server (wanted ∷ modules) before after old new
  adds_later wanted modules before after old new =
      adds_also modules (wanted ∷ modules) before after before after old new (λ found. any_later (WasGiven server before after found) wanted modules)

  adds_one : (wanted : Module) (modules : List Module) (before after : LinkView) (old new : Told) (body : List ℕ)
      → MadeSince (Accepts server (module_request server wanted.name wanted.version) GivesBody body) before after → Lacks wanted old
      → AddsPackage old new (encode_utf8_all wanted.name) (encode_utf8_all wanted.version) body → AddsAccepted server (wanted ∷ modules) before after old new
  adds_one wanted modules before after None new body accepted lacks adds = adds
  adds_one wanted modules before after (Some list) new body accepted lacks adds =
      let found : Package = record { name = encode_utf8_all wanted.name; version = encode_utf8_all wanted.version; bytes = body } in (
        found ∷ [],
        adds,
        (sym lacks, tt),
        all_one (Given (wanted ∷ modules) before after) found
            (any_first (WasGiven server before after found) wanted modules (record { name = refl; version = refl; accepted = accepted })),
      )

-- ---- what came was given

module _ {S : Type 0} (packages : S → Option (List Package)) (faults : S → ℕ) (server : Server) where
  added : (wanted : Module) (modules : List Module) (before after : LinkView) (old looked new : S) (body : List ℕ) → Has packages old wanted false → SamePackages packages old looked
      → AsksModule server wanted before after (Ok body) → Adds packages wanted body looked new → AddsAccepted server (wanted ∷ modules) before after (packages old) (packages new)
  added wanted modules before after old looked new body has same asks adds =
      subst (λ (t : Told). AddsAccepted server (wanted ∷ modules) before after t (packages new)) same
      (adds_one server wanted modules before after (packages looked) (packages new) body
      (asked_since server (module_request server wanted.name wanted.version) GivesBody before after body asks) (subst (Lacks wanted) (sym same) has) adds)

  added_or_not : (wanted : Module) (modules : List Module) (before after : LinkView) (old looked new : S) (body : List ℕ) → Has packages old wanted false → SamePackages packages old looked
      → AsksModule server wanted before after (Ok body) → (SamePackages packages looked new ⊎ Adds packages wanted body looked new)
      → AddsAccepted server (wanted ∷ modules) before after (packages old) (packages new)
  added_or_not wanted modules before after old looked new body has same asks (inl still) = adds_same server (wanted ∷ modules) before after (packages old) (packages new) (still ∙ same)
  added_or_not wanted modules before after old looked new body has same asks (inr adds) = added wanted modules before after old looked new body has same asks adds

  one_accepted : {before after : LinkView} {old new : S} {result : Result (Unit {0}) PullFault} (wanted : Module) (modules : List Module)
      → OnePackage packages faults server wanted before after old new result → AddsAccepted server (wanted ∷ modules) before after (packages old) (packages new)
  one_accepted wanted modules (rows.is_there view old new has same) = adds_same server (wanted ∷ modules) view view (packages old) (packages new) same
  one_accepted wanted modules (rows.is_added before after old looked new body has same asks adds) = added wanted modules before after old looked new body has same asks adds
  one_accepted wanted modules (rows.not_looked view old new rose same) = adds_same server (wanted ∷ modules) view view (packages old) (packages new) same
  one_accepted wanted modules (rows.not_given before after old new error has same asks) = adds_same server (wanted ∷ modules) before after (packages old) (packages new) same
  one_accepted wanted modules (rows.not_added before after old looked new body has same asks later rose whole) =
      added_or_not wanted modules before after old looked new body has same asks whole
  one_accepted wanted modules (rows.no_memory view old new same) = adds_same server (wanted ∷ modules) view view (packages old) (packages new) same
  one_accepted wanted modules (rows.no_memory_to_add before after old looked new body has same asks whole) =
      added_or_not wanted modules before after old looked new body has same asks whole

pub packages_are_accepted : {S : Type 0} (packages : S → Option (List Package)) (faults : S → ℕ) → PackagesAreAccepted packages faults
packages_are_accepted packages faults server [] _ _ _ _ _ (rows.no_more view state) = adds_same server [] view view (packages state) (packages state) refl
packages_are_accepted packages faults server (_ ∷ _) _ _ _ _ _ (rows.one_more wanted modules before mid after old next new result one later rest) =
    adds_both server (wanted ∷ modules) before after (packages old) (packages next) (packages new)
    (adds_on server (wanted ∷ modules) before mid after (packages old) (packages next) (packages_go_on rest) (one_accepted packages faults server wanted modules one))
    (adds_later server wanted modules before after (packages next) (packages new)
    (adds_from server modules before mid after (packages next) (packages new) (package_goes_on one) (packages_are_accepted packages faults server modules mid after next new result rest)))
packages_are_accepted packages faults server (_ ∷ _) _ _ _ _ _ (rows.ended wanted modules before after old new error one) =
    one_accepted packages faults server wanted modules one

-- ---- where all came, they are there

abbrev pub HasOne : Module → Told → Type 0
HasOne wanted shown = IfSome shown (λ list. IsTrue (has_package list (encode_utf8_all wanted.name) (encode_utf8_all wanted.version)))

or_left : (a b : Bool) → IsTrue a → IsTrue (a || b)
or_left true b is = refl
or_left false b is = cc is

or_right : (a b : Bool) → IsTrue b → IsTrue (a || b)
or_right true b is = refl
or_right false b is = is

still_has : (list more : List Package) (name version : List ℕ) → IsTrue (has_package list name version) → IsTrue (has_package (list ++ more) name version)
still_has list more name version is =
    let p = λ (q : Package). bytes_eq q.name name && bytes_eq q.version version in
    list_any-append p list more ∙ or_left (list_any p list) (list_any p more) is

has_last : (list : List Package) (name version bytes : List ℕ) → IsTrue (has_package (list ++ record { name = name; version = version; bytes = bytes } ∷ []) name version)
has_last list name version bytes =
    let p = λ (q : Package). bytes_eq q.name name && bytes_eq q.version version in
    let last : Package = record { name = name; version = version; bytes = bytes } in
    list_any-append p list (last ∷ []) ∙ or_right (list_any p list) (list_any p (last ∷ [])) (itself name version)
  where
    itself : (name version : List ℕ) → IsTrue ((bytes_eq name name && bytes_eq version version) || false)
    itself name version = rw ((bytes_eq-Decides name name).1 refl, (bytes_eq-Decides version version).1 refl) refl

has_on : (server : Server) (modules : List Module) (first last : LinkView) (wanted : Module) (before after : Told) → AddsAccepted server modules first last before after
    → HasOne wanted before → HasOne wanted after
has_on server modules first last wanted None after adds has = subst (HasOne wanted) (sym adds) tt
has_on server modules first last wanted (Some list) after adds has =
    subst (HasOne wanted) (sym adds.1) (still_has list adds.0 (encode_utf8_all wanted.name) (encode_utf8_all wanted.version) has)

has_added : (wanted : Module) (body : List ℕ) (before after : Told) → AddsPackage before after (encode_utf8_all wanted.name) (encode_utf8_all wanted.version) body → HasOne wanted after
has_added wanted body None after adds = subst (HasOne wanted) (sym adds) tt
has_added wanted body (Some list) after adds = subst (HasOne wanted) (sym adds) (has_last list (encode_utf8_all wanted.name) (encode_utf8_all wanted.version) body)

has_one : (wanted : Module) (shown : Told) → IfSome shown (λ list. true ≡ has_package list (encode_utf8_all wanted.name) (encode_utf8_all wanted.version)) → HasOne wanted shown
has_one wanted None has = tt
has_one wanted (Some list) has = sym has

with_one : (wanted : Module) (modules : List Module) (shown : Told) → HasOne wanted shown → HasAll modules shown → HasAll (wanted ∷ modules) shown
with_one wanted modules None one all = tt
with_one wanted modules (Some list) one all = go
  where
    P : Module → Type 0
    P m = IsTrue (has_package list (encode_utf8_all m.name) (encode_utf8_all m.version))

    go : All P (wanted ∷ modules)
    go zero d lt = one
    go (suc k) d lt = all k d (omega arith)

has_none : (shown : Told) → HasAll [] shown
has_none None = tt
has_none (Some list) = all_none (λ (wanted : Module). IsTrue (has_package list (encode_utf8_all wanted.name) (encode_utf8_all wanted.version)))

module _ {S : Type 0} (packages : S → Option (List Package)) (faults : S → ℕ) (server : Server) where
  one_there : {before after : LinkView} {old new : S} (wanted : Module) → OnePackage packages faults server wanted before after old new (Ok tt) → HasOne wanted (packages new)
  one_there wanted (rows.is_there view old new has same) = subst (HasOne wanted) (sym same) (has_one wanted (packages old) has)
  one_there wanted (rows.is_added before after old looked new body has same asks adds) = has_added wanted body (packages looked) (packages new) adds

pub packages_are_there : {S : Type 0} (packages : S → Option (List Package)) (faults : S → ℕ) → PackagesAreThere packages faults
packages_are_there packages faults server [] _ _ _ _ (rows.no_more view state) = has_none (packages state)
packages_are_there packages faults server (_ ∷ _) _ _ _ _ (rows.one_more wanted modules before mid after old next new result one later rest) =
    with_one wanted modules (packages new)
    (has_on server modules mid after wanted (packages next) (packages new) (packages_are_accepted packages faults server modules mid after next new (Ok tt) rest) (one_there packages faults server wanted one))
    (packages_are_there packages faults server modules mid after next new rest)
