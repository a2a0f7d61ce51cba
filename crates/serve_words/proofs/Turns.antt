-- One argument of a walk without faults.
use Rattle.std.proofs.Common.{◌≡◌, ◌∙◌, ℕ, zero, suc, Bool, true, false, List, [], ◌∷◌, refl, sym, ap, cond, ◌||◌, ◌==◌, Option, Some, None, bytes_eq, length, drop, if◌then◌else◌}
use Rattle.std.specs.Prelude.{slice_get, encode_utf8}
use Rattle.std.specs.Option.{option_map_or}
use Rattle.std.specs.Str.{chars}
use Rattle.std.proofs.lemmas.Slice.Eq.{bytes_eq-Decides}
use Rattle.clap.specs.Lexer.{long_of, short_of}
use Rattle.clap.specs.Faults.{bundle_fault, bundle_step_fault, flag_word_fault, flags_fault, long_fault, settle_fault, short_fault, step_fault, turn_fault, use_fault}
use Rattle.clap.specs.Kinds.{Kinds, or_else}
use Rattle.clap.specs.Walk.{Held, Row, Rule, Step, Text, Waiting, Walk, after_flag, after_step, arg_by_long, arg_by_short, bundle_met, bundle_step, idle, long_met, long_or_other, option, plain, plain_word, settled_rows, short_or_plain, trailing, used, walked}
use Rattle.clap.specs.declared.error.kind.ErrorKind.{ErrorKind}
use Rattle.serve_words.proofs.Options.{Found, Which, connections, found, help, helps, listen, name, nothing, one, rule, rules, shape, shelf, store}

pub first_empty : (a b : Kinds) → or_else a b ≡ [] → (a ≡ []) × (b ≡ [])
first_empty [] b h = (refl, h)
first_empty (k ∷ ks) b h = let bad : k ∷ ks ≡ [] = h in cc

pub some_empty : (k : ErrorKind) (ks : Kinds) → k ∷ ks ≡ [] → ⊥
some_empty k ks h = cc

-- ---- where a walk stands: nothing waits, an option waits for its value, or it has one that is not yet used

pub data Place : Type 0 where
  closed : Place
  opened : Which → Place
  full : Which → Text → Place

abbrev pub pending_at : Place → Option (Text × List Text)
pending_at closed = None
pending_at (opened o) = Some (name o, [])
pending_at (full o v) = Some (name o, v ∷ [])

abbrev pub waiting_at : Place → Waiting
waiting_at closed = idle
waiting_at (opened o) = option (name o)
waiting_at (full o v) = idle

abbrev pub held_at : List Row → Place → Held
held_at rows place = record { rows = rows; pending = pending_at place; skip = 0 }

abbrev pub state : List Row → Place → ℕ → Bool → Walk
state rows place position ended =
    record { held = held_at rows place; waiting = waiting_at place; position = position; is_trailing = ended; stopped = None }

abbrev pub settled_at : List Row → Place → List Row
settled_at rows place = settled_rows rules (pending_at place) rows

-- ---- what an argument without a fault does

abbrev pub dashes : Text
dashes = 45 ∷ 45 ∷ []

pub data Turn (rows : List Row) (place : Place) (position : ℕ) (word : Text) : Walk → Type 0 where
  ends : word ≡ dashes → Turn rows place position word (state rows place position true)
  opens : (o : Which) → long_of word ≡ Some (name o, None) → settle_fault rules false (held_at rows place) ≡ []
      → Turn rows place position word (state (settled_at rows place) (opened o) position false)
  gives : (o : Which) (v : Text) → long_of word ≡ Some (name o, Some v) → settle_fault rules false (held_at rows place) ≡ []
      → use_fault false (rule o) (v ∷ []) (settled_at rows place) ≡ []
      → Turn rows place position word (state (used (rule o) (v ∷ []) (settled_at rows place)) closed position false)
  fills : (o : Which) → place ≡ opened o → long_of word ≡ None → Turn rows place position word (state rows (full o word) position false)

-- every letter of a bundle is a fault
letter_fails : (x : ℕ) (rest : Text) (h : Held) (next : Held → Kinds) → short_fault rules false (arg_by_short rules x) rest h next ≡ [] → ⊥
letter_fails x rest h next = go (104 == x)
  where
    go : (b : Bool) → short_fault rules false (cond (b || false) (Some help) None) rest h next ≡ [] → ⊥
    go true e = some_empty _ _ (first_empty (settle_fault rules false h) _ (first_empty _ _ e).0).1
    go false e = some_empty _ _ e

module _ (rows : List Row) (position : ℕ) (word : Text) where
  abbrev after : Place → Held × Step → Walk
  after place met = after_step rules word (state rows place position false) met.0 met.1

  abbrev fails : Held × Step → Kinds
  fails met = step_fault shape position met.0 met.1

  plain_turn : (place : Place) → long_of word ≡ None → fails (plain_word rules (waiting_at place) word (held_at rows place)) ≡ []
      → Turn rows place position word (after place (plain_word rules (waiting_at place) word (held_at rows place)))
  plain_turn closed e h = absurd (some_empty _ _ h)
  plain_turn (full o v) e h = absurd (some_empty _ _ h)
  plain_turn (opened store) e h = fills store refl e
  plain_turn (opened shelf) e h = fills shelf refl e
  plain_turn (opened listen) e h = fills listen refl e
  plain_turn (opened connections) e h = fills connections refl e

  abbrev lettered : ℕ → Text → Option ℕ → Place → Held × Step
  lettered k flags x place =
      let met = bundle_step rules x flags 0 plain (held_at rows place) (bundle_met rules k) in
      after_flag rules (waiting_at place) word met.0 met.1

  letter_turn : (k : ℕ) (flags : Text) (x : Option ℕ) (place : Place) → long_of word ≡ None
      → or_else (bundle_step_fault rules false x flags 0 (held_at rows place) (flags_fault rules false k)) (fails (lettered k flags x place)) ≡ []
      → Turn rows place position word (after place (lettered k flags x place))
  letter_turn k flags None place e h = plain_turn place e h
  letter_turn k flags (Some x) place e h =
      absurd (letter_fails x (drop (length (encode_utf8 x)) flags) (held_at rows place) (flags_fault rules false k (drop (length (encode_utf8 x)) flags) 0) (first_empty _ _ h).0)

  abbrev bundled : ℕ → Text → Place → Held × Step
  bundled k flags place =
      let met = bundle_met rules k flags 0 plain (held_at rows place) in
      after_flag rules (waiting_at place) word met.0 met.1

  bundle_turn : (k : ℕ) (flags : Text) (place : Place) → long_of word ≡ None
      → or_else (flags_fault rules false k flags 0 (held_at rows place)) (fails (bundled k flags place)) ≡ []
      → Turn rows place position word (after place (bundled k flags place))
  unfolding flags_fault bundle_met
  bundle_turn zero flags place e h = plain_turn place e h
  bundle_turn (suc k) flags place e h = letter_turn k flags (slice_get (chars flags) 0) place e h

  short_turn : (s : Option Text) (place : Place) → long_of word ≡ None
      → or_else (option_map_or (λ flags. bundle_fault rules false flags (held_at rows place)) s [])
      (fails (short_or_plain rules (waiting_at place) word s (held_at rows place))) ≡ []
      → Turn rows place position word (after place (short_or_plain rules (waiting_at place) word s (held_at rows place)))
  short_turn None place e h = plain_turn place e h
  short_turn (Some flags) place e h = bundle_turn (length flags) flags place e h

  abbrev longed : Option Rule → Option Text → Place → Held × Step
  longed r v place =
      let met = long_met rules r v (held_at rows place) in
      after_flag rules (waiting_at place) word met.0 met.1

  long_turn : (n : Text) (r : Option Rule) (v : Option Text) (place : Place) → Found n r → long_of word ≡ Some (n, v)
      → or_else (long_fault rules false r v (held_at rows place)) (fails (longed r v place)) ≡ []
      → Turn rows place position word (after place (longed r v place))
  long_turn n r v place nothing e h = absurd (some_empty _ _ h)
  long_turn n r None place (one o is) e h = opens o (e ∙ ap (λ (t : Text). Some (t, None)) is) (first_empty _ _ h).0
  long_turn n r (Some x) place (one o is) e h =
      let both = first_empty (settle_fault rules false (held_at rows place)) _ (first_empty _ _ h).0 in
      gives o x (e ∙ ap (λ (t : Text). Some (t, Some x)) is) both.0 both.1
  long_turn n r None place helps e h =
      absurd (some_empty _ _ (first_empty (settle_fault rules false (held_at rows place)) _ (first_empty _ _ h).0).1)
  long_turn n r (Some x) place helps e h = absurd (some_empty _ _ h)

  other_turn : (l : Option (Text × Option Text)) (place : Place) → l ≡ long_of word
      → or_else (flag_word_fault rules false l word (held_at rows place))
      (fails (long_or_other rules (waiting_at place) word l (held_at rows place))) ≡ []
      → Turn rows place position word (after place (long_or_other rules (waiting_at place) word l (held_at rows place)))
  other_turn None place e h = short_turn (short_of word) place (sym e) h
  other_turn (Some p) place e h = long_turn p.0 (arg_by_long rules p.0) p.1 place (found p.0) (sym e) h

  abbrev met_at : Bool → Place → Held × Step
  met_at b place =
      if b then (held_at rows place, trailing position) else long_or_other rules (waiting_at place) word (long_of word) (held_at rows place)

  dash_turn : (b : Bool) (place : Place) → b ≡ bytes_eq word dashes
      → or_else (if b then [] else flag_word_fault rules false (long_of word) word (held_at rows place)) (fails (met_at b place)) ≡ []
      → Turn rows place position word (after place (met_at b place))
  dash_turn true place e h = ends ((bytes_eq-Decides word dashes).0 (sym e))
  dash_turn false place e h = other_turn (long_of word) place refl h

  pub turn : (place : Place) → turn_fault shape [] (state rows place position false) word ≡ []
      → Turn rows place position word (walked rules [] (state rows place position false) word)
  unfolding walked
  turn closed h = dash_turn (bytes_eq word dashes) closed refl h
  turn (opened o) h = dash_turn (bytes_eq word dashes) (opened o) refl h
  turn (full o v) h = dash_turn (bytes_eq word dashes) (full o v) refl h

  -- after `--` no argument is without a fault
  pub no_turn : (place : Place) → turn_fault shape [] (state rows place position true) word ≡ [] → ⊥
  no_turn place h = some_empty _ _ h
