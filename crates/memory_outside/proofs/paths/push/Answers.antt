use Rattle.std.proofs.Common.{◌≡◌, ap, rules}
use Rattle.memory_outside.proofs.PathEntries.{kind_pushed}
use Rattle.memory_outside.proofs.paths.push.Goals as goal

pub returns : goal.returns
returns c =
    let same : c.of-path.result ≡ c.args.path.now = search rules in
    kind_pushed _ c.args.path.now c.args.stands c.args.entries.now.items c.push.new.self.items c.in_ok-push.ensures.items (ap (λ p. record { path = p; stands = c.args.stands }) same)
