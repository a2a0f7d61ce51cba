use Rattle.std.proofs.Common.{◌≡◌, ap, not, ◌∙◌, rules}
use Rattle.std.specs.List.{filter}
use Rattle.std.specs.Str.{bytes_eq}
use Rattle.std.proofs.lemmas.Fn.{filter_same}
use Rattle.memory_outside.specs.MemoryHost.{kind_at}
use Rattle.memory_outside.proofs.PathEntries.{kind_made}
use Rattle.memory_outside.proofs.paths.make_folder.Goals as goal

pub returns-clause-ok : goal.returns-clause-ok
returns-clause-ok c =
    let kept : c.retain.new.self.items ≡ filter (λ e. not (bytes_eq e.path c.args.path.now)) c.reserve.new.self.items = filter_same _ _ _ (λ x b f' k. search rules) _ _ c.retain.ensures.filtered in
    let adds = rw c.deref.ensures.value at c.in_ok-added.ensures in
    ap kind_at (rw (kept, c.reserve.ensures.items) at c.append.ensures) ∙ kind_made c.args.path.now c.args.paths.now.items c.in_ok-added.added.items adds
