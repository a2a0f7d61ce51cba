-- Changes of the packages alone, one after another.
use Rattle.std.proofs.Common.{◌≡◌, Option, Some, None, refl, sym, ◌∙◌, ap, subst}
use Rattle.dsc_outside.specs.Host.{HostState}
use Rattle.resource_kinds.specs.Packages.{ChangesPackages}

-- where nothing changed, nothing but the packages did
pub unchanged : (before after : Option HostState) → before ≡ after → ChangesPackages before after
unchanged None after same = sym same
unchanged (Some host) after same = (host, sym same, refl)

pub changed_again : (before between after : Option HostState) → ChangesPackages before between → ChangesPackages between after → ChangesPackages before after
changed_again None between after first second = subst (λ t. ChangesPackages t after) first second
changed_again (Some host) between after first second = rest (subst (λ t. ChangesPackages t after) first.1 second)
  where
    rest : ChangesPackages (Some first.0) after → ChangesPackages (Some host) after
    rest step = (step.0, step.1, step.2 ∙ ap {A = HostState} (λ h. record h { packages = step.0.packages }) first.2)
