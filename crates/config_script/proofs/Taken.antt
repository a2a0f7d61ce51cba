-- What was found and written of the parts that were read goes on with each further one.
use Rattle.std.proofs.Common.{◌≡◌, inl, inr, ◌≤◌, ◌<◌, ℕ, Bool, true, false, ◌||◌, List, [], ◌∷◌, ◌++◌, length, refl, sym, ap, subst, ◌∙◌, append_assoc, append-nil, Option, Some, None, cond, encode_utf8_all, arith}
use Rattle.std.specs.Prelude.{is_none, string_bytes}
use Rattle.std.specs.Str.{chars}
use Rattle.mof_syntax.specs.Canonical.{canonical_instance}
use Rattle.mof_syntax.specs.Limits.{document_limit}
use Rattle.mof_syntax.specs.Scanning.{left_of}
use Rattle.mof_values.specs.Fold.{same_name}
use Rattle.config_script.specs.declared.read.Reading.{Reading}
use Rattle.config_script.specs.Checking.{unknown_in, reserved_in, named_in, or_else}
use Rattle.config_script.specs.Denoting.{header, kind_named, is_reserved}
use Rattle.config_script.specs.Lexing.{first_token, lexed, separated}
use Rattle.config_script.specs.Places.{Event, IsRead, Step, step, with_event}
use Rattle.config_script.specs.Places as events
use Rattle.config_script.specs.declared.place.Place.{Place}
use Rattle.config_script.specs.declared.place.Place.TheVariants.{Start, End}
use Rattle.config_script.specs.Reading.{Continues, IsNew, TakesEvent, Takes, Leaves, IsReadOf}
use Rattle.config_script.specs.Scripts.{IsScript}
use Rattle.config_script.specs.Tokens.{Token}
use Rattle.config_script.specs.Writing.{IsWritten, named_after, named_text, title_after, written}
use Rattle.config_script.proofs.Checked.{or_else_assoc}
use Rattle.config_script.proofs.Pushed.{so_far_next}
use Rattle.config_script.proofs.Stepping.{read_begins, read_goes_on, read_tears}
use Rattle.config_script.proofs.Walked.{ReadSoFar, read_cut, read_stuck, read_whole}

-- ---- the first of the events, and the others

unknown_first : (e : Event) (later : List Event) → unknown_in (e ∷ later) ≡ or_else (unknown_in (e ∷ [])) (unknown_in later)
unknown_first (events.Title n) later = refl
unknown_first (events.Node n) later = refl
unknown_first events.BlockEnd later = refl
unknown_first (events.Kind from word) later = by (is_none (kind_named word))
  where
    by : (b : Bool) → cond b (Some from) (unknown_in later) ≡ or_else (cond b (Some from) None) (unknown_in later)
    by true = refl
    by false = refl
unknown_first (events.ResourceName n) later = refl
unknown_first events.ResourceEnd later = refl
unknown_first (events.Property from n) later = refl
unknown_first (events.One s) later = refl
unknown_first events.ArrayOpen later = refl
unknown_first (events.Element s) later = refl
unknown_first (events.Further s) later = refl
unknown_first events.ArrayShut later = refl

reserved_first : (e : Event) (later : List Event) → reserved_in (e ∷ later) ≡ or_else (reserved_in (e ∷ [])) (reserved_in later)
reserved_first (events.Title n) later = refl
reserved_first (events.Node n) later = refl
reserved_first events.BlockEnd later = refl
reserved_first (events.Kind from word) later = refl
reserved_first (events.ResourceName n) later = refl
reserved_first events.ResourceEnd later = refl
reserved_first (events.Property from name) later = by (is_reserved name)
  where
    by : (b : Bool) → cond b (Some from) (reserved_in later) ≡ or_else (cond b (Some from) None) (reserved_in later)
    by true = refl
    by false = refl
reserved_first (events.One s) later = refl
reserved_first events.ArrayOpen later = refl
reserved_first (events.Element s) later = refl
reserved_first (events.Further s) later = refl
reserved_first events.ArrayShut later = refl

named_first : (node : List ℕ) (e : Event) (later : List Event) → named_in node (e ∷ later) ≡ (named_in node (e ∷ []) || named_in node later)
named_first node (events.Title n) later = refl
named_first node (events.Node n) later = by (same_name n node)
  where
    by : (b : Bool) → (b || named_in node later) ≡ ((b || false) || named_in node later)
    by true = refl
    by false = refl
named_first node events.BlockEnd later = refl
named_first node (events.Kind from word) later = refl
named_first node (events.ResourceName n) later = refl
named_first node events.ResourceEnd later = refl
named_first node (events.Property from n) later = refl
named_first node (events.One s) later = refl
named_first node events.ArrayOpen later = refl
named_first node (events.Element s) later = refl
named_first node (events.Further s) later = refl
named_first node events.ArrayShut later = refl

or_assoc : (a b c : Bool) → ((a || b) || c) ≡ (a || (b || c))
or_assoc true b c = refl
or_assoc false b c = refl

or_none : (a : Option (List ℕ)) → or_else a None ≡ a
or_none (Some x) = refl
or_none None = refl

or_no : (a : Bool) → (a || false) ≡ a
or_no true = refl
or_no false = refl

-- ---- what is left to write

leaves_next : (whole out after title node : List ℕ) (named : Bool) (e : Event) (later : List Event) (title_then : List ℕ) (named_then : Bool)
    → Leaves out (written title node named (e ∷ later)) whole → Continues out after (named_text title named e) → title_then ≡ title_after title e
    → named_then ≡ named_after node named e → Leaves after (written title_then node named_then later) whole
leaves_next whole out after title node named e later title_then named_then (inl s) (inl c) t n =
    inl (so_far_next whole out after title node named e later title_then named_then s c.1 t n)
leaves_next whole out after title node named e later title_then named_then (inl s) (inr c) t n =
    inr (
      encode_utf8_all (written title node named (e ∷ later)),
      sym s ∙ ap (λ (xs : List ℕ). xs ++ encode_utf8_all (written title node named (e ∷ later))) (sym c.1),
      subst (λ (xs : List ℕ). document_limit < length xs) (sym c.1) c.0,
    )
leaves_next whole out after title node named e later title_then named_then (inr l) (inl c) t n = absurd (apart l.2 c.0)
  where
    apart : document_limit < length out → length out ≤ document_limit → ⊥
    apart a b = omega arith
leaves_next whole out after title node named e later title_then named_then (inr l) (inr c) t n =
    inr (l.0, l.1 ∙ ap (λ (xs : List ℕ). xs ++ l.0) (sym c.1), subst (λ (xs : List ℕ). document_limit < length xs) (sym c.1) c.0)

-- with the header all of it is written
pub leaves_none : (whole out after title node : List ℕ) (named : Bool) → Leaves out (written title node named []) whole
    → Continues out after (canonical_instance (header title)) → IsWritten after whole
leaves_none whole out after title node named (inl s) (inl c) = inl (c.1.bytes ∙ s)
leaves_none whole out after title node named (inl s) (inr c) =
    inr (
      encode_utf8_all (written title node named []),
      sym s ∙ ap (λ (xs : List ℕ). xs ++ encode_utf8_all (written title node named [])) (sym c.1),
      subst (λ (xs : List ℕ). document_limit < length xs) (sym c.1) c.0,
    )
leaves_none whole out after title node named (inr l) (inl c) = absurd (apart l.2 c.0)
  where
    apart : document_limit < length out → length out ≤ document_limit → ⊥
    apart a b = omega arith
leaves_none whole out after title node named (inr l) (inr c) =
    inr (l.0, l.1 ∙ ap (λ (xs : List ℕ). xs ++ l.0) (sym c.1), subst (λ (xs : List ℕ). document_limit < length xs) (sym c.1) c.0)

-- ---- what was read, and whatever comes after it

pub record Holds (node : List ℕ) (es : List Event) (reading : Reading) : Type 0 where
  pub unknown : (later : List Event) → unknown_in (es ++ later) ≡ or_else (left_of reading.findings.unknown) (unknown_in later)
  pub reserved : (later : List Event) → reserved_in (es ++ later) ≡ or_else (left_of reading.findings.reserved) (reserved_in later)
  pub named : (later : List Event) → named_in node (es ++ later) ≡ (reading.findings.names_node || named_in node later)
  pub written : (later : List Event)
      → Leaves (string_bytes reading.writer.out) (written (chars reading.writer.title.now) node reading.writer.is_named later) (written [] node false (es ++ later))

pub holds_none : (node : List ℕ) (reading : Reading) → IsNew reading → Holds node [] reading
holds_none node reading n = record {
  unknown = λ later. sym (ap (λ (x : Option (List ℕ)). or_else x (unknown_in later)) n.unknown);
  reserved = λ later. sym (ap (λ (x : Option (List ℕ)). or_else x (reserved_in later)) n.reserved);
  named = λ later. sym (ap (λ (b : Bool). b || named_in node later) n.named);
  written = λ later. inl (
      ap (λ (xs : List ℕ). xs ++ encode_utf8_all (written (chars reading.writer.title.now) node reading.writer.is_named later)) n.out
      ∙ ap (λ (xs : List ℕ). encode_utf8_all (written xs node reading.writer.is_named later)) n.title
      ∙ ap (λ (b : Bool). encode_utf8_all (written [] node b later)) n.is_named
      );
}

holds_event : (node : List ℕ) (es : List Event) (old new : Reading) (e : Event) → Holds node es old → TakesEvent node old new e → Holds node (es ++ e ∷ []) new
holds_event node es old new e h t = record {
  unknown = λ later.
      ap unknown_in (append_assoc es (e ∷ []) later) ∙ h.unknown (e ∷ later) ∙ ap (or_else (left_of old.findings.unknown)) (unknown_first e later)
      ∙ sym (or_else_assoc (left_of old.findings.unknown) (unknown_in (e ∷ [])) (unknown_in later))
      ∙ ap (λ (x : Option (List ℕ)). or_else x (unknown_in later)) (sym t.findings.unknown);
  reserved = λ later.
      ap reserved_in (append_assoc es (e ∷ []) later) ∙ h.reserved (e ∷ later) ∙ ap (or_else (left_of old.findings.reserved)) (reserved_first e later)
      ∙ sym (or_else_assoc (left_of old.findings.reserved) (reserved_in (e ∷ [])) (reserved_in later))
      ∙ ap (λ (x : Option (List ℕ)). or_else x (reserved_in later)) (sym t.findings.reserved);
  named = λ later.
      ap (named_in node) (append_assoc es (e ∷ []) later) ∙ h.named (e ∷ later) ∙ ap (λ (b : Bool). old.findings.names_node || b) (named_first node e later)
      ∙ sym (or_assoc old.findings.names_node (named_in node (e ∷ [])) (named_in node later))
      ∙ ap (λ (b : Bool). b || named_in node later) (sym t.findings.named);
  written = λ later.
      leaves_next (written [] node false ((es ++ e ∷ []) ++ later)) (string_bytes old.writer.out) (string_bytes new.writer.out) (chars old.writer.title.now) node
      old.writer.is_named e later (chars new.writer.title.now) new.writer.is_named
      (subst (λ (xs : List Event). Leaves (string_bytes old.writer.out) (written (chars old.writer.title.now) node old.writer.is_named (e ∷ later)) (written [] node false xs))
      (sym (append_assoc es (e ∷ []) later)) (h.written (e ∷ later)))
      t.writer.out t.writer.title t.writer.is_named;
}

pub holds_next : (node : List ℕ) (es : List Event) (old new : Reading) (e : Option Event) → Holds node es old → Takes node old new e
    → Holds node (es ++ with_event e []) new
holds_next node es old new None h t =
    subst (λ (xs : List Event). Holds node xs new) (sym (append-nil es)) (subst (λ (x : Reading). Holds node es x) (sym t) h)
holds_next node es old new (Some e) h t = holds_event node es old new e h t

pub holds_whole : (text node : List ℕ) (es : List Event) (reading : Reading) → IsRead text es → Holds node es reading → IsReadOf text node reading
holds_whole text node es reading read h = record {
  events = es;
  script = read;
  unknown = sym (ap unknown_in (sym (append-nil es)) ∙ h.unknown [] ∙ or_none (left_of reading.findings.unknown));
  reserved = sym (ap reserved_in (sym (append-nil es)) ∙ h.reserved [] ∙ or_none (left_of reading.findings.reserved));
  named = sym (ap (named_in node) (sym (append-nil es)) ∙ h.named [] ∙ or_no reading.findings.names_node);
  written = subst (λ (xs : List Event). Leaves (string_bytes reading.writer.out) (written (chars reading.writer.title.now) node reading.writer.is_named [])
      (written [] node false xs)) (append-nil es) (h.written []);
}

-- ---- a text

-- the text up to what is left was gone over to the place, and this was found in it and written of it
pub record ReadTo (text node : List ℕ) (fed : Bool) (left : List ℕ) (place : Place) (reading : Reading) : Type 0 where
  pub events : List Event
  pub walked : ReadSoFar text fed left place events
  pub holds : Holds node events reading

pub begins : (text node left : List ℕ) (fed : Bool) (reading : Reading) → fed ≡ (separated false false text).0 → left ≡ (separated false false text).1
    → IsNew reading → ReadTo text node fed left Start reading
begins text node left fed reading a b n = record { events = []; walked = read_begins text left fed [] a b refl; holds = holds_none node reading n }

module _ (text node : List ℕ) (fed : Bool) (left : List ℕ) (place : Place) (reading : Reading) (r : ReadTo text node fed left place reading) where
  pub goes_on : (t : Token) (rest : List ℕ) (s : Step) (fed_after : Bool) (left_after : List ℕ) (new : Reading)
      → first_token left ≡ lexed t rest → step place fed left t ≡ Some s → fed_after ≡ (separated false false rest).0 → left_after ≡ (separated false false rest).1
      → Takes node reading new s.event → ReadTo text node fed_after left_after s.place new
  goes_on t rest s fed_after left_after new found is a b takes = record {
    events = r.events ++ with_event s.event [];
    walked = read_goes_on text fed left place r.events r.walked t rest s fed_after left_after (r.events ++ with_event s.event []) found is a b refl;
    holds = holds_next node r.events reading new s.event r.holds takes;
  }

  pub tears : (left ≡ [] → ⊥) → first_token left ≡ None → IsScript text → ⊥
  tears = read_tears text fed left place r.events r.walked

  pub stuck : (t : Token) (rest : List ℕ) → first_token left ≡ Some (t, rest) → step place fed left t ≡ None → IsScript text → ⊥
  stuck = read_stuck text fed left place r.events r.walked

  pub whole : left ≡ [] → place ≡ End → IsReadOf text node reading
  whole empty ended = holds_whole text node r.events reading (read_whole text fed left place r.events r.walked empty ended) r.holds

  pub cut : left ≡ [] → (place ≡ End → ⊥) → IsScript text → ⊥
  cut = read_cut text fed left place r.events r.walked
