use Rattle.meta_config.proofs.SitesOfUrls.{site_is_spelled, spelled_is_site}
use Rattle.meta_config.proofs.laws.urls_have_their_sites.Goals as goal

pub returns : goal.returns
returns c = λ text site. (spelled_is_site text site, site_is_spelled text site)
