use Rattle.std.proofs.Common.{◌∙◌, sym, ap, option_map, Some}
use Rattle.std.proofs.lemmas.Result.{IfOk-weaker}
use Rattle.clap.specs.Words.{found_of}
use Rattle.clap.proofs.WalkLemmas.{first_value-rows}
use Rattle.serve_words.proofs.Numbers.{none_is_none}
use Rattle.serve_words.proofs.values.text_of.Goals as goal

pub unreachable-requires : goal.unreachable-requires
unreachable-requires c =
    none_is_none c.requires.given.0 (ap (option_map (λ s. s.now)) (sym c.in_default.is) ∙ c.get_str.ensures
    ∙ first_value-rows (found_of c.args.matches.now) c.args.name.now ∙ c.requires.given.1)

pub returns : goal.returns
returns c =
    let found = sym (first_value-rows (found_of c.args.matches.now) c.args.name.now) ∙ sym c.get_str.ensures ∙ ap (option_map (λ s. s.now)) c.in-Some.is in
    IfOk-weaker c.from_utf8.result _ _ (λ text is. found ∙ ap Some (sym is)) c.from_utf8.ensures.bytes
