use Rattle.std.proofs.Common.{rules}
use Rattle.lcm_program.proofs.merge_words.push_rule.Goals as goal

pub returns-in-DuplicateProperty : goal.returns-in-DuplicateProperty
returns-in-DuplicateProperty c = rw c.in-DuplicateProperty.is (search rules)

pub returns-in-AliasUnknown : goal.returns-in-AliasUnknown
returns-in-AliasUnknown c = rw c.in-AliasUnknown.is (search rules)

pub returns-in-DuplicateId : goal.returns-in-DuplicateId
returns-in-DuplicateId c = rw c.in-DuplicateId.is (search rules)

pub returns-in-BadDependsOn : goal.returns-in-BadDependsOn
returns-in-BadDependsOn c = rw c.in-BadDependsOn.is (search rules)
