-- How the reading of a script goes on, and where it fails.
use Rattle.std.proofs.Common.{◌≡◌, inl, inr, ℕ, ◌+◌, ◌-◌, ◌<◌, ◌≤◌, List, [], ◌∷◌, ◌++◌, length, take, drop, codes, refl, sym, ap, ◌∙◌, subst, arith, append_assoc, length-append, length-drop}
use Rattle.std.proofs.lemmas.List.{drop-drop}
use Rattle.std.specs.Str.{IsUtf8}
use Rattle.rehearsal.specs.Reading.{BeginsText, IsReadTo, IsTextEnd}
use Rattle.rehearsal.specs.Script.{Fails, FailsAt, IsLine, IsNoLine, IsOpen, Reads, nothing, empty, text, step, line_length, lines, text_of}
use Rattle.rehearsal.specs.declared.line.Line.{Line}
use Rattle.rehearsal.specs.declared.line.Line.TheVariants.{Empty, TextBegins, Does}
use Rattle.rehearsal.specs.declared.step.Step.{Step}
use Rattle.rehearsal.specs.declared.texts.NamedText.{NamedText}
use Rattle.rehearsal.proofs.Places.{line_at, rest_is, sliced}

-- nothing is read at first
pub begins : (script : List ℕ) → IsReadTo script 0 0 [] []
begins script = record { done = []; is = refl; reads = nothing; counts = refl; within = omega arith; few = omega arith }

-- a line, and how many bytes it has
module _ (script : List ℕ) (at count : ℕ) (steps : List Step) (texts : List NamedText) (t : IsReadTo script at count steps texts)
    (n : ℕ) (more : at < length script) (is : n ≡ line_length (sliced script at)) where
  first : (past : ℕ) → drop past script ≡ drop (at + n + 1) script → lines (drop at script) ≡ take n (sliced script at) ∷ lines (drop past script)
  first past same =
      line_at script at n past more (is ∙ ap line_length (rest_is script at)) same ∙ ap (λ l. take n l ∷ lines (drop past script)) (sym (rest_is script at))

  -- the first line that is wrong
  pub line_fails : IsNoLine texts (take n (sliced script at)) → FailsAt script count
  line_fails wrong = record {
    done = t.done;
    rest = lines (drop at script);
    steps = steps;
    texts = texts;
    count = 0;
    is = t.is;
    reads = t.reads;
    fails = subst (λ (r : List (List ℕ)). Fails texts r 0) (sym (first (at + n + 1) refl)) (inl (refl, wrong));
    place = omega (arith, t.counts);
  }

  pub no_form : (given : List NamedText) (line : List ℕ) → given ≡ texts → line ≡ take n (sliced script at) → ((other : Line) → IsLine given line other → ⊥) → FailsAt script count
  no_form given line same spelled none =
      line_fails (λ utf8 read form. none read (subst (λ (ts : List NamedText). IsLine ts line read) (sym same) (subst (λ (l : List ℕ). IsLine texts l read) (sym spelled) form)))

  -- one more line is read
  module _ (past : ℕ) (same : drop past script ≡ drop (at + n + 1) script) (on : at < past) (within : past ≤ length script)
      (given : List NamedText) (line : List ℕ) (texts_are : given ≡ texts) (spelled : line ≡ take n (sliced script at)) (utf8 : IsUtf8 (take n (sliced script at))) where
    -- the form of the line, as the reader has it
    form : (read : Line) → IsLine given line read → IsLine texts (take n (sliced script at)) read
    form read is = subst (λ (l : List ℕ). IsLine texts l read) spelled (subst (λ (ts : List NamedText). IsLine ts line read) texts_are is)

    line_read : (after : List Step) → Reads (t.done ++ take n (sliced script at) ∷ []) after texts → IsReadTo script past (count + 1) after texts
    line_read after reads = record {
      done = t.done ++ take n (sliced script at) ∷ [];
      is = t.is ∙ ap (λ l. t.done ++ l) (first past same) ∙ sym (append_assoc t.done (take n (sliced script at) ∷ []) (lines (drop past script)));
      reads = reads;
      counts = omega (arith, t.counts, length-append t.done (take n (sliced script at) ∷ []));
      within = within;
      few = omega (arith, t.few, on);
    }

    pub empty_read : IsLine given line Empty → IsReadTo script past (count + 1) steps texts
    empty_read none = line_read steps (subst (λ (l : List ℕ). Reads (t.done ++ l ∷ []) steps texts) (sym (form Empty none)) (empty t.done steps texts t.reads))

    pub step_read : (does : Step) (after : List Step) → IsLine given line (Does does) → after ≡ steps ++ does ∷ [] → IsReadTo script past (count + 1) after texts
    step_read does after is pushed =
        line_read after (subst (λ (s : List Step). Reads (t.done ++ take n (sliced script at) ∷ []) s texts) (sym pushed)
        (step t.done steps texts (take n (sliced script at)) does t.reads utf8 (form (Does does) is)))

    pub text_begins : (name : List ℕ) → IsLine given line (TextBegins name) → BeginsText script at past name texts
    text_begins name is = record {
      line = take n (sliced script at);
      is = first past same;
      utf8 = utf8;
      begins = form (TextBegins name) is;
      on = on;
      within = within;
    }

module _ (script : List ℕ) (at count from : ℕ) (name : List ℕ) (steps : List Step) (texts : List NamedText) (t : IsReadTo script at count steps texts) (b : BeginsText script at from name texts) where
  text_at : (used past own : ℕ) → IsTextEnd (drop from script) used past own
      → IsReadTo script (from + past) (count + (1 + own)) steps (texts ++ record { name = name; text = take used (drop from script) } ∷ [])
  text_at used past own e =
      let rest = lines (drop (from + past) script) in
      let front = b.line ∷ e.body in
      let end = codes "." ∷ [] in
      let at_text : lines (drop at script) ≡ front ++ (codes "." ∷ rest)
      = b.is ∙ ap (λ (l : List (List ℕ)). b.line ∷ l) (e.is ∙ ap (λ (l : List ℕ). e.body ++ (codes "." ∷ lines l)) (drop-drop past from script)) in
      record {
        done = (t.done ++ front) ++ end;
        is = t.is ∙ ap (λ (l : List (List ℕ)). t.done ++ l) at_text ∙ sym (append_assoc (t.done ++ front) end rest ∙ append_assoc t.done front (codes "." ∷ rest));
        reads = subst (λ (l : List ℕ). Reads ((t.done ++ front) ++ end) steps (texts ++ record { name = name; text = l } ∷ [])) (sym e.text)
            (text t.done steps texts b.line name e.body t.reads b.utf8 b.begins e.own);
        counts = omega (arith, t.counts, e.counts, length-append (t.done ++ front) end, length-append t.done front);
        within = omega (arith, b.within, e.past_within, length-drop from script);
        few = omega (arith, t.few, b.on, e.few);
      }

  -- a text is read
  pub text_read : (used past own : ℕ) (body : List ℕ) (after : List NamedText) → IsTextEnd (sliced script from) used past own
      → body ≡ take used (sliced script from) → after ≡ texts ++ record { name = name; text = body } ∷ []
      → IsReadTo script (from + past) (count + (1 + own)) steps after
  text_read used past own body after end same pushed =
      let e : IsTextEnd (drop from script) used past own = subst (λ (l : List ℕ). IsTextEnd l used past own) (rest_is script from) end in
      subst (λ (ts : List NamedText). IsReadTo script (from + past) (count + (1 + own)) steps ts) (sym pushed)
      (subst (λ (l : List ℕ). IsReadTo script (from + past) (count + (1 + own)) steps (texts ++ record { name = name; text = l } ∷ []))
      (sym (same ∙ ap (λ l. take used l) (rest_is script from))) (text_at used past own e))

  -- it breaks off
  pub text_fails : (own : ℕ) → IsOpen (lines (sliced script from)) own → FailsAt script (count + 1 + own)
  text_fails own breaks =
      let part = subst (λ (l : List ℕ). IsOpen (lines l) own) (rest_is script from) breaks in record {
        done = t.done;
        rest = lines (drop at script);
        steps = steps;
        texts = texts;
        count = 1 + own;
        is = t.is;
        reads = t.reads;
        fails = subst (λ (r : List (List ℕ)). Fails texts r (1 + own)) (sym b.is) (inr (name, own, b.utf8, b.begins, part, refl));
        place = omega (arith, t.counts);
      }

-- each step has a line of its own
pub few_steps : (done : List (List ℕ)) (steps : List Step) (texts : List NamedText) → Reads done steps texts → length steps ≤ length done
few_steps done steps texts nothing = omega arith
few_steps done steps texts (empty front before given reads) = omega (arith, few_steps front before given reads, length-append front ([] ∷ []))
few_steps done steps texts (text front before given line name body reads utf8 is own) =
    omega (arith, few_steps front before given reads, length-append (front ++ line ∷ body) (codes "." ∷ []), length-append front (line ∷ body))
few_steps done steps texts (step front before given line does reads utf8 is) =
    omega (arith, few_steps front before given reads, length-append front (line ∷ []), length-append before (does ∷ []))

pub read_few : (script : List ℕ) (at count : ℕ) (steps : List Step) (texts : List NamedText) → IsReadTo script at count steps texts → length steps ≤ length script
read_few script at count steps texts t = omega (arith, few_steps t.done steps texts t.reads, t.counts, t.few, t.within)
