-- The values of an argument in what a parse found, and errors that are handed up.
use Rattle.std.proofs.Common.{◌≡◌, ◌∙◌, ℕ, List, [], sym, ap, map, option_map, Option, Some, None, Result, Ok, Err}
use Rattle.std.specs.Prelude.{IsErrAnd, unwrap_or}
use Rattle.std.specs.Borrow.{Bor}
use Rattle.clap.specs.Matches.{matched_of, raw_values}
use Rattle.clap.specs.declared.parser.matches.Found.{Found}
use Rattle.clap.specs.Words.{rows_of}
use Rattle.clap.proofs.WalkLemmas.{raw_values-rows}
use Rattle.store_lines.specs.declared.words.WordsError.{WordsError}
use Rattle.store_lines.specs.Words.{texts_of}

abbrev pub Texts : Type 0
Texts = Option (Bor (List (Bor (List ℕ))))

abbrev pub texts_seen : Texts → Option (List (List ℕ))
texts_seen texts = option_map (λ s. map (λ v. v.now) s.now) texts

pub given_texts : (f : Found) (name : List ℕ) (texts : Texts) (values : Bor (List (Bor (List ℕ)))) → texts_seen texts ≡ option_map raw_values (matched_of f name)
    → texts ≡ Some values → texts_of name (rows_of f) ≡ map (λ v. v.now) values.now
given_texts f name texts values got is = ap (λ o. unwrap_or o []) (sym (raw_values-rows f name) ∙ sym got ∙ ap texts_seen is)

pub no_texts : (f : Found) (name : List ℕ) (texts : Texts) → texts_seen texts ≡ option_map raw_values (matched_of f name) → texts ≡ None
    → texts_of name (rows_of f) ≡ []
no_texts f name texts got is = ap (λ o. unwrap_or o []) (sym (raw_values-rows f name) ∙ sym got ∙ ap texts_seen is)

-- an error that a `?` hands up as it is
pub handed_up : {T U : Type 0} (result : Result T WordsError) (was : Result U WordsError) (e x : WordsError) → IsErrAnd result (λ y. y ≡ e) → result ≡ Err x → was ≡ Err e
    → was ≡ Err x
handed_up (Ok y) was e x handed is held = absurd handed
handed_up (Err y) was e x handed is held = let same : y ≡ e = handed in cc
