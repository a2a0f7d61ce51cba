-- What bodies that lead to a value make of images, of a log and of an opening, whatever the values are.
use Rattle.std.proofs.Common.{◌≡◌, inl, inr, ℕ, false, ◌<◌, ◌^◌, List, [], ◌∷◌, ◌++◌, Option, Some, None, IfSome, Result, Ok, Err, OnOk, refl, sym, ◌∙◌, ap, subst, append_assoc}
use Rattle.std.proofs.lemmas.List.{append-nil}
use Rattle.dsc_outside.specs.declared.disk.Disk.{Ghosts}
use Rattle.dsc_outside.specs.Disk.{From}
use Rattle.dsc_outside.proofs.Moments.{started, weaker}
use Rattle.gate_log.specs.declared.shape.Shape.{Shape}
use Rattle.dsc_outside.specs.declared.failed.Failed.{Failed}
use Rattle.gate_log.specs.declared.error.LogError.{LogError}
use Rattle.gate_log.specs.declared.error.LogError.TheVariants as errors
use Rattle.gate_log.specs.Text.{Gives, need_of}
use Rattle.gate_log.specs.Log.{LogTerm, IsLogOf, AtAnyMoment, BeforeOrAfter, Keeps, OldOrNew, grown}
use Rattle.gate_log.specs.Replay.{FailsFirst, IsRefused, Opened, Unopened, bodies_before, no_text, no_meaning}
use Rattle.gate_log.specs.Standing.{AllStand, StandsFor, StandsAtAnyMoment}
use Rattle.gate_log.specs.Several.{GivesFront, RewrittenTo, grown_by}
use Rattle.gate_log.specs.Kept.{Added, Counts, EndsBy, FailingStandForNone, FailsBy, IsEither, IsKeptBy, IsOpenedBy, IsReadyBy, KeepSound, KeepsValues, LeadFromFront, LeadSomewhere, LeadToOne, ReadsTo, RefusesOnly, Replaced, StandForOne, StandForSound, StandsBy, UnopenedBy, Waits, WroteBy}
use Rattle.gate_log.proofs.Both.{never_refused, one_list}
use Rattle.gate_log.proofs.Cells.{text_gives}

if_shown : (shown : Option (List ℕ)) (P Q : List ℕ → Type 0) → ((held : List ℕ) → P held → Q held) → IfSome shown P → IfSome shown Q
if_shown None P Q to is = tt
if_shown (Some held) P Q to is = to held is

-- a change of one body
pub waits_one : {X : Type 0} (Leads : List (List ℕ) → X → Type 0) (body : List ℕ) (value : X) → Waits Leads (body ∷ []) value
waits_one Leads body value bodies [] rest last is leads = subst (λ (l : List (List ℕ)). Leads l value) (sym (append-nil bodies)) leads
waits_one Leads body value bodies (first ∷ []) rest last is leads = absurd (cc is)
waits_one Leads body value bodies (first ∷ (second ∷ front)) rest last is leads = absurd (cc is)

module _ {X : Type 0} (shape : Shape) (Leads : List (List ℕ) → X → Type 0) where
  -- ---- laws

  pub one_by : shape.largest < 2 ^ 32 → LeadToOne Leads → StandForOne shape Leads
  one_by small lead image one other first second =
      let same = one_list shape image first.bodies second.bodies small first.gives second.gives in
      lead second.bodies one other (subst (λ (bodies : List (List ℕ)). Leads bodies one) same first.leads) second.leads

  -- what leads to a value does not end before
  leads_on : LeadFromFront Leads → (front rest bodies : List (List ℕ)) (body : List ℕ) (value : X) → Leads bodies value → bodies ≡ front ++ body ∷ rest → EndsBy Leads front body → ⊥
  leads_on fronts front rest bodies body value leads is ends =
      let whole = is ∙ sym (append_assoc front (body ∷ []) rest) in
      let first = fronts (front ++ body ∷ []) rest value (subst (λ (l : List (List ℕ)). Leads l value) whole leads) in
      ends.ends first.0 first.1

  pub none_by : shape.largest < 2 ^ 32 → LeadFromFront Leads → FailingStandForNone shape Leads
  none_by small fronts image at value fails stands =
      never_refused shape (LeadSomewhere Leads) (λ front body. EndsBy Leads front body) image stands.bodies at small stands.gives
      (λ front rest body is ends. leads_on fronts front rest stands.bodies body value stands.leads is ends) fails

  -- each body more keeps the value sound
  sound_on : (Sound : X → Type 0) → LeadToOne Leads → LeadFromFront Leads → KeepSound Leads Sound → (done left : List (List ℕ)) (old new : X) → Leads done old → Sound old → Leads (done ++ left) new → Sound new
  sound_on Sound one fronts keep done [] old new before sound after =
      subst Sound (one done old new before (subst (λ (l : List (List ℕ)). Leads l new) (append-nil done) after)) sound
  sound_on Sound one fronts keep done (body ∷ left) old new before sound after =
      let whole = subst (λ (l : List (List ℕ)). Leads l new) (sym (append_assoc done (body ∷ []) left)) after in
      let mid = fronts (done ++ body ∷ []) left new whole in
      sound_on Sound one fronts keep (done ++ body ∷ []) left mid.0 new mid.1 (keep.goes_on done body old mid.0 before mid.1 sound) whole

  pub sound_by : (Sound : X → Type 0) → LeadToOne Leads → LeadFromFront Leads → KeepSound Leads Sound → StandForSound shape Leads Sound
  sound_by Sound one fronts keep image value stands =
      let first = fronts [] stands.bodies value stands.leads in
      sound_on Sound one fronts keep [] stands.bodies first.0 value first.1 (keep.begins first.0 first.1) stands.leads

  -- ---- a change

  -- the old bodies, or the new ones
  pub moved_by : (bodies more : List (List ℕ)) (old new : X) → Leads bodies old → Leads more new → (c : List ℕ) → OldOrNew shape bodies more c → StandsFor (StandsBy shape Leads) (IsEither old new) c
  moved_by bodies more old new before after c (inl gives) = record { value = old; stands = record { bodies = bodies; gives = gives; leads = before }; has = inl refl }
  moved_by bodies more old new before after c (inr gives) = record { value = new; stands = record { bodies = more; gives = gives; leads = after }; has = inr refl }

  -- the bodies with the first of some others: only the last one makes the change count
  pub added_by : (bodies more : List (List ℕ)) (old new : X) → Leads bodies old → Waits Leads more old → Counts Leads more old new → (c : List ℕ) → GivesFront shape bodies more c → StandsFor (StandsBy shape Leads) (IsEither old new) c
  added_by bodies more old new leads waits counts c front = by front.rest front.is
    where
      by : (rest : List (List ℕ)) → more ≡ front.front ++ rest → StandsFor (StandsBy shape Leads) (IsEither old new) c
      by [] is = record {
        value = new;
        stands = record {
          bodies = bodies ++ front.front;
          gives = front.gives;
          leads = subst (λ (l : List (List ℕ)). Leads (bodies ++ l) new) (is ∙ append-nil front.front) (counts bodies leads);
        };
        has = inr refl;
      }
      by (last ∷ rest) is = record { value = old; stands = record { bodies = bodies ++ front.front; gives = front.gives; leads = waits bodies front.front rest last is leads }; has = inl refl }

  module _ {D : Type 0} (d : Ghosts D) where
    pub moment_by : (before now : D) (log : LogTerm) (whole : List (List ℕ)) (old new : X) → (kept : IsKeptBy d before shape Leads log old) → Leads whole new
        → AtAnyMoment d before now (OldOrNew log.shape kept.bodies whole) → StandsAtAnyMoment d before now (StandsBy shape Leads) (IsEither old new)
    moment_by before now log whole old new kept leads any = weaker d.moment d.left_since before now _ (StandsFor (StandsBy shape Leads) (IsEither old new)) any
        (λ c either. moved_by kept.bodies whole old new kept.leads leads c (subst (λ (s : Shape). OldOrNew s kept.bodies whole c) kept.shape either))

    pub moment_added_by : (before now : D) (log : LogTerm) (more : List (List ℕ)) (old new : X) → (kept : IsKeptBy d before shape Leads log old) → Waits Leads more old → Counts Leads more old new
        → AtAnyMoment d before now (GivesFront log.shape kept.bodies more) → StandsAtAnyMoment d before now (StandsBy shape Leads) (IsEither old new)
    moment_added_by before now log more old new kept waits counts any = weaker d.moment d.left_since before now _ (StandsFor (StandsBy shape Leads) (IsEither old new)) any
        (λ c front. added_by kept.bodies more old new kept.leads waits counts c (subst (λ (s : Shape). GivesFront s kept.bodies more c) kept.shape front))

    -- one body
    pub moment_one_by : (before now : D) (log : LogTerm) (body : List ℕ) (old new : X) → (kept : IsKeptBy d before shape Leads log old) → Counts Leads (body ∷ []) old new
        → AtAnyMoment d before now (BeforeOrAfter log.shape kept.bodies body) → StandsAtAnyMoment d before now (StandsBy shape Leads) (IsEither old new)
    moment_one_by before now log body old new kept counts any =
        moment_by before now log (kept.bodies ++ body ∷ []) old new kept (counts kept.bodies kept.leads) any

    -- a log that has grown
    grown_shape : (log : LogTerm) (more : List (List ℕ)) → (grown_by log more).shape ≡ log.shape
    grown_shape log [] = refl
    grown_shape log (body ∷ more) = grown_shape (grown log (need_of body)) more

    grown_unspent : (log : LogTerm) (more : List (List ℕ)) → log.spent ≡ false → (grown_by log more).spent ≡ false
    grown_unspent log [] unspent = unspent
    grown_unspent log (body ∷ more) unspent = grown_unspent (grown log (need_of body)) more refl

    pub kept_grown : (before now : D) (log grew : LogTerm) (more : List (List ℕ)) (old new : X) → (kept : IsKeptBy d before shape Leads log old) → Counts Leads more old new → grew ≡ grown_by log more
        → IsLogOf d now grew (kept.bodies ++ more) → IsKeptBy d now shape Leads grew new
    kept_grown before now log grew more old new kept counts is of = record {
      bodies = kept.bodies ++ more;
      of = of;
      leads = counts kept.bodies kept.leads;
      shape = ap (λ (l : LogTerm). l.shape) is ∙ grown_shape log more ∙ kept.shape;
      unspent = ap (λ (l : LogTerm). l.spent) is ∙ grown_unspent log more kept.unspent;
    }

    pub kept_rewritten : (before now : D) (log new : LogTerm) (whole : List (List ℕ)) (old value : X) → IsKeptBy d before shape Leads log old → Leads whole value → RewrittenTo log whole new
        → IsLogOf d now new whole → IsKeptBy d now shape Leads new value
    kept_rewritten before now log new whole old value kept leads done of = record { bodies = whole; of = of; leads = leads; shape = done.shape ∙ kept.shape; unspent = done.spent }

    pub wrote_added : {T : Type 0} (before now : D) (log new : LogTerm) (more : List (List ℕ)) (value : X) (r : Result T Failed) → Added log more (d.faults before) (d.faults now) r new → OnOk r (IsKeptBy d now shape Leads new value)
        → WroteBy d before now shape Leads value new r
    wrote_added before now log new more value (Ok v) answer kept = kept
    wrote_added before now log new more value (Err e) answer kept = answer

    pub wrote_replaced : {T : Type 0} (before now : D) (log new : LogTerm) (whole : List (List ℕ)) (value : X) (r : Result T Failed) → Replaced log whole (d.faults before) (d.faults now) r new → OnOk r (IsKeptBy d now shape Leads new value)
        → WroteBy d before now shape Leads value new r
    wrote_replaced before now log new whole value (Ok v) answer kept = kept
    wrote_replaced before now log new whole value (Err e) answer kept = answer

    -- every image of a store's disk stands for its value
    pub kept_stands : (disk : D) (log : LogTerm) (value : X) → IsKeptBy d disk shape Leads log value → AllStand d disk (StandsBy shape Leads) (λ other. other ≡ value)
    kept_stands disk log value kept = λ c here. record {
      value = value;
      stands = record {
        bodies = kept.bodies;
        gives = subst (λ (s : Shape). Gives s c kept.bodies) kept.shape (text_gives log.shape log.second log.closed c kept.bodies (kept.of.each c here));
        leads = kept.leads;
      };
      has = refl;
    }

    -- a disk that was not touched
    pub still_by : (disk : D) (log : LogTerm) (old new : X) → ((c : List ℕ) → d.left_since disk (d.moment disk) c → d.images disk c) → IsKeptBy d disk shape Leads log old
        → StandsAtAnyMoment d disk disk (StandsBy shape Leads) (IsEither old new)
    still_by disk log old new now kept = started d.moment d.left_since disk (StandsFor (StandsBy shape Leads) (IsEither old new)) (λ c left.
        let s = kept_stands disk log old kept c (now c left) in
        record { value = s.value; stands = s.stands; has = inl s.has })

    pub is_kept_by : (disk : D) (log : LogTerm) (value : X) → IsReadyBy d disk shape Leads log value → log.spent ≡ false → IsKeptBy d disk shape Leads log value
    is_kept_by disk log value (inl spent) isnt = absurd (cc (spent, isnt))
    is_kept_by disk log value (inr kept) isnt = kept

    -- ---- an opening

    module _ (old new : D) (Took : List (List ℕ) → Type 0) (Refused : List (List ℕ) → List ℕ → Type 0) (value : X) (reads : ReadsTo Leads Took value) where
      pub opened_by : (log : LogTerm) → Opened d old new shape Took log → IsOpenedBy d old new shape Leads log value
      opened_by log opened =
          let leads = reads opened.found opened.took in
          record {
            kept = record { bodies = opened.found; of = opened.of; leads = leads; shape = opened.same_shape; unspent = opened.spent };
            found = if_shown (d.shown old) (λ held. Gives shape held opened.found) (λ held. StandsBy shape Leads held value) (λ held gives. record { bodies = opened.found; gives = gives; leads = leads }) opened.gave;
          }

      module _ (refuses : RefusesOnly Leads Refused) where
        led : (image : List ℕ) (at : ℕ) → IsRefused shape Took Refused image at → FailsBy shape Leads image at
        led image at is = record { long = is.long; fails = by at is.fails }
          where
            by : (place : ℕ) → FailsFirst shape Took Refused image place → FailsFirst shape (LeadSomewhere Leads) (EndsBy Leads) image place
            by place (no_text place' fails took) = no_text place' fails (value, reads (bodies_before fails) took)
            by place (no_meaning second front body live cells refused) = no_meaning second front body live cells (refuses front body refused)

        pub unopened_by : (e : LogError) → Unopened d old new shape Took Refused e → UnopenedBy d old new shape Leads e
        unopened_by errors.Disk unopened = unopened
        unopened_by (errors.NotAStore at) unopened = record {
          fails = if_shown (d.shown old) (λ held. IsRefused shape Took Refused held at) (λ held. FailsBy shape Leads held at) (λ held is. led held at is) unopened.refused;
          still = unopened.still;
        }
        unopened_by errors.Memory unopened = tt

    pub keeps_by : (old new : D) → AtAnyMoment d old new (From (Keeps shape) (d.images old)) → AtAnyMoment d old new (From (KeepsValues (StandsBy shape Leads)) (d.images old))
    keeps_by old new any = weaker d.moment d.left_since old new (From (Keeps shape) (d.images old)) (From (KeepsValues (StandsBy shape Leads)) (d.images old)) any
        (λ c from. (from.0, from.1, λ value stands. record { bodies = stands.bodies; gives = from.2 stands.bodies stands.gives; leads = stands.leads }))
