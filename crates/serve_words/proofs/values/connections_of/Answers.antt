use Rattle.std.proofs.Common.{◌∙◌, ℕ, sym, subst, codes}
use Rattle.std.specs.Str.Parse.{ParsesUnsigned, ExplainsUnsignedError, HasUnsignedDigitsIfOk}
use Rattle.clap.specs.Words.{found_of, rows_of}
use Rattle.clap.proofs.WalkLemmas.{one_text-rows}
use Rattle.serve_words.specs.Words.{HasCount}
use Rattle.serve_words.proofs.Numbers.{none_is_none, same_some}
use Rattle.serve_words.proofs.Reading.{reads_count}
use Rattle.serve_words.proofs.values.connections_of.Goals as goal

pub unreachable-requires : goal.unreachable-requires
unreachable-requires c =
    let given = c.requires.given in
    let one = c.get_one.ensures.value given.1.0 (one_text-rows (found_of c.args.matches.now) (codes "connections") ∙ given.1.2) in
    let read = reads_count _ (λ bs r. ParsesUnsigned 32 10 bs r × ExplainsUnsignedError 10 bs r × HasUnsignedDigitsIfOk bs r) given.1.0 c.get_one.result given.0 one
    (λ u x g. g.0) given.1.3 in
    none_is_none given.0 (sym c.in_default.is ∙ read)

pub returns : goal.returns
returns c =
    let given = c.requires.given in
    let one = c.get_one.ensures.value given.1.0 (one_text-rows (found_of c.args.matches.now) (codes "connections") ∙ given.1.2) in
    let read = reads_count _ (λ bs r. ParsesUnsigned 32 10 bs r × ExplainsUnsignedError 10 bs r × HasUnsignedDigitsIfOk bs r) given.1.0 c.get_one.result given.0 one
    (λ u x g. g.0) given.1.3 in
    subst (λ (n : ℕ). HasCount (rows_of (found_of c.args.matches.now)) n) (same_some _ _ (sym read ∙ c.in-Some.is)) given.1
