-- Meta-configurations that a node may have.
use Rattle.meta_config.specs.declared.meta.Meta.{Meta}
use Rattle.meta_config.specs.Parts.{IsMeta, HasPartsOrder}

-- one that was read, or the usual one, whose partial configurations have an order
pub record IsNodeMeta (meta : Meta) : Type 0 where
  pub is : IsMeta meta
  pub ordered : HasPartsOrder meta
