-- The values in what a parse found.
use Rattle.std.proofs.Common.{◌≡◌, ◌∙◌, ℕ, Bool, false, List, [], ◌∷◌, refl, sym, ap, Option, Some, None, arith, bytes_eq, if◌then◌else◌}
use Rattle.std.specs.Prelude.{Err, Ok, Result, find, option_and_then, slice_get, unwrap_or}
use Rattle.std.specs.Str.Parse.{ParsesUnsigned, starts_with_minus}
use Rattle.clap.specs.Lexer.{without_minus}
use Rattle.clap.specs.Faults.{fault_of}
use Rattle.clap.specs.Matches.{ReadsOne}
use Rattle.clap.specs.Simple.{matches_of}
use Rattle.clap.specs.Walk.{Row, Text, first_of, row_text}
use Rattle.serve_words.specs.Words.{HasCount, HasText, SpellsCount, serve_app, value_of}
use Rattle.serve_words.proofs.Options.{Which, connections, name}
use Rattle.serve_words.proofs.Numbers.{no_minus, spelled}
use Rattle.serve_words.proofs.Taken.{taken}

read_whole : (t : Text) → starts_with_minus t ≡ false → without_minus t ≡ t
read_whole [] minus = refl
read_whole (x ∷ xs) minus = ap (λ (b : Bool). unwrap_or (if b then Some xs else None) (x ∷ xs)) minus

module _ (arguments : List Text) (rows : List Row) (same : rows ≡ matches_of serve_app arguments) (whole : fault_of serve_app arguments ≡ []) where
  pub has_text : (o : Which) → HasText (name o) rows
  has_text o =
      let got = taken arguments whole o in
      (got.0, ap (option_and_then (λ r. slice_get r.values 0)) (ap (find (λ r. bytes_eq r.id (name o))) same ∙ got.1))

  pub has_count : (count : ℕ) × HasCount rows count
  has_count =
      let got = taken arguments whole connections in
      let found = ap (find (λ r. bytes_eq r.id (name connections))) same ∙ got.1 in (
        _,
        (
          got.0,
          ap (option_and_then (λ r. slice_get r.values 0)) found,
          ap (option_and_then row_text) found ∙ ap Some (read_whole got.0 (no_minus got.0 got.2)),
          spelled got.0 got.2,
        ),
      )

pub value_is : (id : Text) (arguments : List Text) (rows : List Row) (v : Text) → rows ≡ matches_of serve_app arguments → first_of id rows ≡ Some v
    → value_of id arguments ≡ Some v
unfolding value_of
value_is id arguments rows v same is = ap (first_of id) (sym same) ∙ is

-- `u32` reads the number that the text spells
pub reads_count : (E : Type 0) (G : Text → Result ℕ E → Type 0) (t : Text) (r : Option ℕ) (count : ℕ) → ReadsOne G t r
    → ((u : Text) (x : Result ℕ E) → G u x → ParsesUnsigned 32 10 u x) → SpellsCount t count → r ≡ Some count
reads_count E G t (Some v) count read only spells = ap Some ((only t (Ok v) read).1 ∙ spells.value)
reads_count E G t None count read only spells =
    absurd (only t (Err read.0) read.1 (spells.numeral, omega (arith, spells.value, spells.most)))
