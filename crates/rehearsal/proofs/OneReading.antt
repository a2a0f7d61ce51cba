-- A script has one reading: its lines, from the first on, give steps, or the first that is wrong.
use Rattle.std.proofs.Common.{◌≡◌, inl, inr, ℕ, suc, ◌+◌, List, [], ◌∷◌, ◌++◌, length, get_or, drop, codes, refl, sym, ap, ap₂, ◌∙◌, subst, append_assoc, append-nil, length-append, arith}
use Rattle.std.specs.List.{AllByRecursion}
use Rattle.std.specs.Str.{IsUtf8}
use Rattle.std.proofs.lemmas.Str.{IsUtf8-nil}
use Rattle.rehearsal.specs.OneReading.{FailuresAreOne, NeverBoth, StepsAreOne}
use Rattle.rehearsal.specs.Script.{BreaksOff, Fails, IsLine, IsNoLine, IsOpen, IsTextLine, FailsAt, IsScript, Reads, lines, text_of}
use Rattle.rehearsal.specs.Script as script
use Rattle.rehearsal.specs.declared.line.Line.{Line}
use Rattle.rehearsal.specs.declared.line.Line.TheVariants.{Empty, TextBegins, Does}
use Rattle.rehearsal.specs.declared.step.Step.{Step}
use Rattle.rehearsal.specs.declared.step.Step.TheVariants.{Key}
use Rattle.rehearsal.specs.declared.texts.NamedText.{NamedText}
use Rattle.rehearsal.proofs.OneLine.{same_line}

-- ---- texts

-- the lines of two texts that end are the same, and so is what follows
pub same_ends : (more body rest others left : List (List ℕ)) → AllByRecursion IsTextLine body → AllByRecursion IsTextLine others
    → more ≡ body ++ codes "." ∷ rest → more ≡ others ++ codes "." ∷ left → (body ≡ others) × (rest ≡ left)
same_ends more [] rest [] left own own2 is so = (refl, ap (λ (l : List (List ℕ)). drop 1 l) (sym is ∙ so))
same_ends more [] rest (line ∷ others) left own own2 is so = absurd (own2.0.1 (ap (λ (l : List (List ℕ)). get_or l 0 []) (sym so ∙ is)))
same_ends more (line ∷ body) rest [] left own own2 is so = absurd (own.0.1 (ap (λ (l : List (List ℕ)). get_or l 0 []) (sym is ∙ so)))
same_ends more (line ∷ body) rest (other ∷ others) left own own2 is so =
    let all = sym is ∙ so in
    let tail = same_ends (body ++ codes "." ∷ rest) body rest others left own.1 own2.1 refl (ap (λ (l : List (List ℕ)). drop 1 l) all) in
    (ap₂ (λ (l : List ℕ) (b : List (List ℕ)). l ∷ b) (ap (λ (l : List (List ℕ)). get_or l 0 []) all) tail.0, tail.1)

dot_utf8 : IsUtf8 (codes ".")
unfolding lib.Utf8.encode
dot_utf8 = (46 ∷ [], (refl, refl))

-- a text does not break off at a line in UTF-8
goes_on : (rest more : List (List ℕ)) (line : List ℕ) → BreaksOff rest → rest ≡ line ∷ more → IsUtf8 line → ⊥
goes_on rest more line breaks is = subst BreaksOff is breaks

-- a text that ends does not break off
never_open : (more body rest others left : List (List ℕ)) → AllByRecursion IsTextLine body → AllByRecursion IsTextLine others → BreaksOff left
    → more ≡ body ++ codes "." ∷ rest → more ≡ others ++ left → ⊥
never_open more [] rest [] left own own2 breaks is so = goes_on left rest (codes ".") breaks (sym so ∙ is) dot_utf8
never_open more (line ∷ body) rest [] left own own2 breaks is so = goes_on left (body ++ codes "." ∷ rest) line breaks (sym so ∙ is) own.0.0
never_open more [] rest (line ∷ others) left own own2 breaks is so = own2.0.1 (ap (λ (l : List (List ℕ)). get_or l 0 []) (sym so ∙ is))
never_open more (line ∷ body) rest (other ∷ others) left own own2 breaks is so =
    never_open (body ++ codes "." ∷ rest) body rest others left own.1 own2.1 breaks refl (ap (λ (l : List (List ℕ)). drop 1 l) (sym is ∙ so))

-- one that breaks off does so after as many lines
same_breaks : (more body rest others left : List (List ℕ)) → AllByRecursion IsTextLine body → AllByRecursion IsTextLine others → BreaksOff rest → BreaksOff left
    → more ≡ body ++ rest → more ≡ others ++ left → length body ≡ length others
same_breaks more [] rest [] left own own2 breaks off is so = refl
same_breaks more (line ∷ body) rest [] left own own2 breaks off is so = absurd (goes_on left (body ++ rest) line off (sym so ∙ is) own.0.0)
same_breaks more [] rest (line ∷ others) left own own2 breaks off is so = absurd (goes_on rest (others ++ left) line breaks (sym is ∙ so) own2.0.0)
same_breaks more (line ∷ body) rest (other ∷ others) left own own2 breaks off is so =
    ap (λ n. suc n) (same_breaks (body ++ rest) body rest others left own.1 own2.1 breaks off refl (ap (λ (l : List (List ℕ)). drop 1 l) (sym is ∙ so)))

-- ---- lines

pub data Outcome : Type 0 where
  gave : List Step → Outcome
  failed : ℕ → Outcome

-- so many lines that do these steps stand above
abbrev pub above : ℕ → List Step → Outcome → Outcome
above count steps (gave more) = gave (steps ++ more)
above count steps (failed at) = failed (count + at)

above_two : (count more : ℕ) (steps others : List Step) (out : Outcome) → above count steps (above more others out) ≡ above (count + more) (steps ++ others) out
above_two count more steps others (gave rest) = ap gave (sym (append_assoc steps others rest))
above_two count more steps others (failed at) = ap failed (omega arith)

-- these lines come to that, where these texts stand above them
pub data Gives : List NamedText → List (List ℕ) → Outcome → Type 0 where
  ends : (texts : List NamedText) → Gives texts [] (gave [])
  wrong : (texts : List NamedText) (line : List ℕ) (more : List (List ℕ)) → IsNoLine texts line → Gives texts (line ∷ more) (failed 0)
  opens : (texts : List NamedText) (line : List ℕ) (more : List (List ℕ)) (name : List ℕ) (own : ℕ)
      → IsUtf8 line → IsLine texts line (TextBegins name) → IsOpen more own → Gives texts (line ∷ more) (failed (1 + own))
  passes : (texts : List NamedText) (line : List ℕ) (more : List (List ℕ)) (out : Outcome) → IsUtf8 line → IsLine texts line Empty → Gives texts more out
      → Gives texts (line ∷ more) (above 1 [] out)
  takes : (texts : List NamedText) (line : List ℕ) (more : List (List ℕ)) (out : Outcome) (name : List ℕ) (body rest : List (List ℕ))
      → IsUtf8 line → IsLine texts line (TextBegins name) → AllByRecursion IsTextLine body → more ≡ body ++ codes "." ∷ rest
      → Gives (texts ++ record { name = name; text = text_of body } ∷ []) rest out → Gives texts (line ∷ more) (above (length body + 2) [] out)
  does : (texts : List NamedText) (line : List ℕ) (more : List (List ℕ)) (out : Outcome) (step : Step) → IsUtf8 line → IsLine texts line (Does step) → Gives texts more out
      → Gives texts (line ∷ more) (above 1 (step ∷ []) out)

abbrev form_of : Line → ℕ
form_of Empty = 0
form_of (TextBegins name) = 1
form_of (Does it) = 2

abbrev name_of : Line → List ℕ
name_of Empty = []
name_of (TextBegins name) = name
name_of (Does it) = []

abbrev step_of : Line → Step
step_of Empty = Key []
step_of (TextBegins name) = Key []
step_of (Does it) = it

-- nothing else comes where the first line is wrong, or is read so
module _ (texts : List NamedText) (line : List ℕ) (more : List (List ℕ)) where
  apart : (one other : Line) → IsLine texts line one → IsLine texts line other → form_of one ≡ form_of other
  apart one other is so = ap form_of (same_line texts line one other is so)

  after_wrong : IsNoLine texts line → (out : Outcome) → Gives texts (line ∷ more) out → out ≡ failed 0
  after_wrong none out (wrong t l m bad) = refl
  after_wrong none out (opens t l m name own utf8 is broken) = absurd (none utf8 (TextBegins name) is)
  after_wrong none out (passes t l m o utf8 is g) = absurd (none utf8 Empty is)
  after_wrong none out (takes t l m o name body rest utf8 is own split g) = absurd (none utf8 (TextBegins name) is)
  after_wrong none out (does t l m o step utf8 is g) = absurd (none utf8 (Does step) is)

  module _ (utf8 : IsUtf8 line) where
    after_empty : IsLine texts line Empty → (out : Outcome) → Gives texts (line ∷ more) out → (left : Outcome) × Gives texts more left × (out ≡ above 1 [] left)
    after_empty form out (wrong t l m bad) = absurd (bad utf8 Empty form)
    after_empty form out (opens t l m name own u is broken) = absurd (omega (arith, apart Empty (TextBegins name) form is))
    after_empty form out (passes t l m o u is g) = (o, g, refl)
    after_empty form out (takes t l m o name body rest u is own split g) = absurd (omega (arith, apart Empty (TextBegins name) form is))
    after_empty form out (does t l m o step u is g) = absurd (omega (arith, apart Empty (Does step) form is))

    after_step : (step : Step) → IsLine texts line (Does step) → (out : Outcome) → Gives texts (line ∷ more) out
        → (left : Outcome) × Gives texts more left × (out ≡ above 1 (step ∷ []) left)
    after_step step form out (wrong t l m bad) = absurd (bad utf8 (Does step) form)
    after_step step form out (opens t l m name own u is broken) = absurd (omega (arith, apart (Does step) (TextBegins name) form is))
    after_step step form out (passes t l m o u is g) = absurd (omega (arith, apart (Does step) Empty form is))
    after_step step form out (takes t l m o name body rest u is own split g) = absurd (omega (arith, apart (Does step) (TextBegins name) form is))
    after_step step form out (does t l m o other u is g) =
        (o, g, ap (λ (r : Line). above 1 (step_of r ∷ []) o) (same_line texts line (Does other) (Does step) is form))

    module _ (name : List ℕ) (form : IsLine texts line (TextBegins name)) where
      same_name : (other : List ℕ) → IsLine texts line (TextBegins other) → other ≡ name
      same_name other is = ap name_of (same_line texts line (TextBegins other) (TextBegins name) is form)

      after_open : (count : ℕ) → IsOpen more count → (out : Outcome) → Gives texts (line ∷ more) out → out ≡ failed (1 + count)
      after_open count breaks out (wrong t l m bad) = absurd (bad utf8 (TextBegins name) form)
      after_open count breaks out (opens t l m other own u is broken) =
          let same = same_breaks more broken.body broken.rest breaks.body breaks.rest broken.own breaks.own broken.breaks breaks.breaks broken.is breaks.is in
          ap failed (omega (arith, same, broken.counts, breaks.counts))
      after_open count breaks out (passes t l m o u is g) = absurd (omega (arith, apart (TextBegins name) Empty form is))
      after_open count breaks out (takes t l m o other body rest u is own split g) =
          absurd (never_open more body rest breaks.body breaks.rest own breaks.own breaks.breaks split breaks.is)
      after_open count breaks out (does t l m o step u is g) = absurd (omega (arith, apart (TextBegins name) (Does step) form is))

      after_text : (body rest : List (List ℕ)) → AllByRecursion IsTextLine body → more ≡ body ++ codes "." ∷ rest → (out : Outcome) → Gives texts (line ∷ more) out
          → (left : Outcome) × Gives (texts ++ record { name = name; text = text_of body } ∷ []) rest left × (out ≡ above (length body + 2) [] left)
      after_text body rest all cut out (wrong t l m bad) = absurd (bad utf8 (TextBegins name) form)
      after_text body rest all cut out (opens t l m other own u is broken) = absurd (never_open more body rest broken.body broken.rest all broken.own broken.breaks cut broken.is)
      after_text body rest all cut out (passes t l m o u is g) = absurd (omega (arith, apart (TextBegins name) Empty form is))
      after_text body rest all cut out (takes t l m o other others left u is own split g) =
          let same = same_ends more others left body rest own all split cut in
          let texts_after : List ℕ → List (List ℕ) → List NamedText = λ n b. texts ++ record { name = n; text = text_of b } ∷ [] in
          let named = subst (λ (n : List ℕ). Gives (texts_after n others) left o) (same_name other is) g in
          let bodied = subst (λ (b : List (List ℕ)). Gives (texts_after name b) left o) same.0 named in
          (o, subst (λ (r : List (List ℕ)). Gives (texts_after name body) r o) same.1 bodied, ap (λ (b : List (List ℕ)). above (length b + 2) [] o) same.0)
      after_text body rest all cut out (does t l m o step u is g) = absurd (omega (arith, apart (TextBegins name) (Does step) form is))

after_none : (texts : List NamedText) (out : Outcome) → Gives texts [] out → out ≡ gave []
after_none texts out (ends t) = refl

pub one_outcome : (texts : List NamedText) (all : List (List ℕ)) (one other : Outcome) → Gives texts all one → Gives texts all other → one ≡ other
one_outcome texts all one other (ends t) so = sym (after_none t other so)
one_outcome texts all one other (wrong t line more bad) so = sym (after_wrong t line more bad other so)
one_outcome texts all one other (opens t line more name own utf8 is broken) so = sym (after_open t line more utf8 name is own broken other so)
one_outcome texts all one other (passes t line more out utf8 is g) so =
    let next = after_empty t line more utf8 is other so in
    ap (λ (o : Outcome). above 1 [] o) (one_outcome t more out next.0 g next.1) ∙ sym next.2
one_outcome texts all one other (takes t line more out name body rest utf8 is own split g) so =
    let next = after_text t line more utf8 name is body rest own split other so in
    ap (λ (o : Outcome). above (length body + 2) [] o) (one_outcome (t ++ record { name = name; text = text_of body } ∷ []) rest out next.0 g next.1) ∙ sym next.2
one_outcome texts all one other (does t line more out step utf8 is g) so =
    let next = after_step t line more utf8 step is other so in
    ap (λ (o : Outcome). above 1 (step ∷ []) o) (one_outcome t more out next.0 g next.1) ∙ sym next.2

-- ---- scripts

above_none : (out : Outcome) → out ≡ above 0 [] out
above_none (gave steps) = refl
above_none (failed at) = ap failed (omega arith)

-- lines that go over from those below to those above
moved : (done front rest : List (List ℕ)) (steps others : List Step) (count : ℕ) (out : Outcome) → length front ≡ count
    → Gives [] (done ++ (front ++ rest)) (above (length done) steps (above count others out))
    → Gives [] ((done ++ front) ++ rest) (above (length (done ++ front)) (steps ++ others) out)
moved done front rest steps others count out counts g =
    let size : length done + count ≡ length (done ++ front) = omega (arith, counts, length-append done front) in
    subst (λ (ls : List (List ℕ)). Gives [] ls (above (length (done ++ front)) (steps ++ others) out)) (sym (append_assoc done front rest))
    (subst (λ (o : Outcome). Gives [] (done ++ (front ++ rest)) o)
    (above_two (length done) count steps others out ∙ ap (λ (n : ℕ). above n (steps ++ others) out) size) g)

-- what comes of lines above which others are read
read_above : (done : List (List ℕ)) (steps : List Step) (texts : List NamedText) (rest : List (List ℕ)) (out : Outcome)
    → Reads done steps texts → Gives texts rest out → Gives [] (done ++ rest) (above (length done) steps out)
read_above done steps texts rest out script.nothing g = subst (λ (o : Outcome). Gives [] rest o) (above_none out) g
read_above done steps texts rest out (script.empty d s t reads) g =
    let here = read_above d s t ([] ∷ rest) (above 1 [] out) reads (passes t [] rest out IsUtf8-nil refl g) in
    subst (λ (others : List Step). Gives [] ((d ++ [] ∷ []) ++ rest) (above (length (d ++ [] ∷ [])) others out)) (append-nil s)
    (moved d ([] ∷ []) rest s [] 1 out refl here)
read_above done steps texts rest out (script.text d s t line name body reads utf8 is own) g =
    let end = codes "." ∷ [] in
    let here = read_above d s t (line ∷ (body ++ end) ++ rest) (above (length body + 2) [] out) reads
    (takes t line ((body ++ end) ++ rest) out name body rest utf8 is own (append_assoc body end rest) g) in
    let after = moved d (line ∷ (body ++ end)) rest s [] (length body + 2) out (omega (arith, length-append body end)) here in
    let all : d ++ (line ∷ (body ++ end)) ≡ (d ++ (line ∷ body)) ++ end = sym (append_assoc d (line ∷ body) end) in
    subst (λ (ls : List (List ℕ)). Gives [] (ls ++ rest) (above (length ls) s out)) all
    (subst (λ (others : List Step). Gives [] ((d ++ (line ∷ (body ++ end))) ++ rest) (above (length (d ++ (line ∷ (body ++ end)))) others out)) (append-nil s) after)
read_above done steps texts rest out (script.step d s t line it reads utf8 is) g =
    moved d (line ∷ []) rest s (it ∷ []) 1 out refl (read_above d s t (line ∷ rest) (above 1 (it ∷ []) out) reads (does t line rest out it utf8 is g))

fails_so : (texts : List NamedText) (rest : List (List ℕ)) (count : ℕ) → Fails texts rest count → Gives texts rest (failed count)
fails_so texts [] count fails = absurd fails
fails_so texts (line ∷ more) count (inl (none, wrong_line)) =
    subst (λ (n : ℕ). Gives texts (line ∷ more) (failed n)) (sym none) (wrong texts line more wrong_line)
fails_so texts (line ∷ more) count (inr (name, own, utf8, is, broken, counted)) =
    subst (λ (n : ℕ). Gives texts (line ∷ more) (failed n)) (sym counted) (opens texts line more name own utf8 is broken)

of_script : (script : List ℕ) (steps : List Step) → IsScript script steps → Gives [] (lines script) (gave steps)
of_script script steps is =
    subst (λ (ls : List (List ℕ)). Gives [] ls (gave steps)) (append-nil (lines script))
    (subst (λ (ss : List Step). Gives [] (lines script ++ []) (gave ss)) (append-nil steps)
    (read_above (lines script) steps is.0 [] (gave []) is.1 (ends is.0)))

of_failure : (script : List ℕ) (line : ℕ) → FailsAt script line → Gives [] (lines script) (failed line)
of_failure script line f =
    subst (λ (ls : List (List ℕ)). Gives [] ls (failed line)) (sym f.is)
    (subst (λ (n : ℕ). Gives [] (f.done ++ f.rest) (failed n)) (sym f.place)
    (read_above f.done f.steps f.texts f.rest (failed f.count) f.reads (fails_so f.texts f.rest f.count f.fails)))

abbrev steps_of : Outcome → List Step
steps_of (gave steps) = steps
steps_of (failed at) = []

abbrev place_of : Outcome → ℕ
place_of (gave steps) = 0
place_of (failed at) = 1 + at

pub steps_are_one : StepsAreOne
steps_are_one script one other is so =
    ap steps_of (one_outcome [] (lines script) (gave one) (gave other) (of_script script one is) (of_script script other so))

pub failures_are_one : FailuresAreOne
failures_are_one script one other is so =
    omega (arith, ap place_of (one_outcome [] (lines script) (failed one) (failed other) (of_failure script one is) (of_failure script other so)))

pub never_both : NeverBoth
never_both script steps line is so =
    omega (arith, ap place_of (one_outcome [] (lines script) (gave steps) (failed line) (of_script script steps is) (of_failure script line so)))
