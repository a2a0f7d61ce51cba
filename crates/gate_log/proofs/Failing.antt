-- Where the grammar fails, as it was shown.
use Rattle.std.proofs.Common.{◌≡◌, ◌≢◌, ◌⊎◌, inl, inr, ℕ, ◌+◌, ◌-◌, ◌≤◌, ◌<◌, ◌^◌, Bool, List, [], ◌∷◌, length, get_or, take, drop, refl, sym, ◌∙◌, ap, subst, arith, length-drop, zero, suc, Option, Some, None}
use Rattle.std.specs.Prelude.{IfSome, min}
use Rattle.std.specs.Int.{w32, to_be_bytes}
use Rattle.std.proofs.lemmas.List.{drop_more, take_all, length-take, get_or-take}
use Rattle.gate_log.specs.declared.shape.Shape.{Shape}
use Rattle.gate_log.specs.Text.{Holds, HasNumber, IsTooLong, FailsFrom, no_gate, no_length, too_long, no_body, wrong_magic, wrong_bank, IsLive, magic}
use Rattle.gate_log.specs.declared.error.LogError.{LogError}
use Rattle.gate_log.specs.declared.error.LogError.TheVariants.{Disk, NotAStore, Memory}
use Rattle.gate_log.specs.Steps.{Unread}
use Rattle.gate_log.specs.Opening.{FailsInHead, FailsInOrder, no_cell, refused_cell}
use Rattle.gate_log.specs.Replay.{FailsFirst, no_text, no_meaning}
use Rattle.dsc_terms.specs.Counts.{Rose}
use Rattle.gate_log.proofs.Holds.{take_take}

-- how much was read
got_of : (at n : ℕ) (held into : List ℕ) → take n into ≡ take (length into) (drop at held) → n ≤ length into → n ≡ min (length into) (length held - at)
got_of at n held into is le = omega (arith, ap length is, length-take n into, length-take (length into) (drop at held), length-drop at held)

pub ends_here : (largest limit at end n : ℕ) (shown : Option (List ℕ)) (head : List ℕ) → length head ≡ 5 → n ≤ length head → IfSome shown (λ held. end ≡ length held)
    → IfSome shown (λ held. take n head ≡ take (length head) (drop at held)) → (n ≡ 0) ⊎ (end ≤ at) → IfSome shown (λ held. FailsFrom largest limit at held end)
ends_here largest limit at end n None head five le is_end read why = tt
ends_here largest limit at end n (Some held) head five le is_end read why = subst (λ (k : ℕ). FailsFrom largest limit at held k) (sym is_end) (no_gate (short why))
  where
    short : (n ≡ 0) ⊎ (end ≤ at) → length held ≤ at
    short (inl none) = omega (arith, none, got_of at n held head read le, five)
    short (inr past) = omega (arith, past, is_end)

-- the length field as it was read
number_here : (at n size : ℕ) (held head : List ℕ) → length head ≡ 5 → 5 ≤ n → size < 2 ^ 32 → get_or head 0 0 ≡ 165 → to_be_bytes w32 size ≡ drop 1 head → take n head ≡ take (length head) (drop at held) → HasNumber at size held
number_here at n size held head five enough small gate is read =
    let is_head : take (length head) (drop at held) ≡ head = sym read ∙ take_all n head (omega arith) in
    let opens : head ≡ 165 ∷ to_be_bytes w32 size = drop_more head 0 0 (omega arith) ∙ ap (λ (g : ℕ). g ∷ drop 1 head) gate ∙ ap (λ (l : List ℕ). 165 ∷ l) (sym is) in
    (small, subst (λ (l : List ℕ). Holds at l held) opens is_head)

-- the open gate as it was read
gate_here : (at n : ℕ) (held head : List ℕ) → length head ≡ 5 → 1 ≤ n → n ≤ length head → get_or head 0 0 ≡ 165 → take n head ≡ take (length head) (drop at held) → Holds at (165 ∷ []) held
gate_here at n held head five some le gate read = one (drop at held) head n some five gate read
  where
    one : (l head : List ℕ) (n : ℕ) → 1 ≤ n → length head ≡ 5 → get_or head 0 0 ≡ 165 → take n head ≡ take (length head) l → take 1 l ≡ 165 ∷ []
    one l [] n some five gate is = absurd (omega arith)
    one [] (x ∷ xs) zero some five gate is = absurd (omega arith)
    one [] (x ∷ xs) (suc n) some five gate is = cc is
    one (y ∷ l) (x ∷ xs) zero some five gate is = absurd (omega arith)
    one (y ∷ l) (x ∷ xs) (suc n) some five gate is = let same : x ≡ y = cc is in ap (λ (z : ℕ). z ∷ []) (sym same ∙ gate)

pub ends_in_length : (largest limit at end n : ℕ) (shown : Option (List ℕ)) (head : List ℕ) → length head ≡ 5 → 1 ≤ n → n ≤ length head → get_or head 0 0 ≡ 165 → IfSome shown (λ held. end ≡ length held)
    → IfSome shown (λ held. take n head ≡ take (length head) (drop at held)) → (n < 5) ⊎ (end < at + 5) → IfSome shown (λ held. FailsFrom largest limit at held end)
ends_in_length largest limit at end n None head five some le gate is_end read why = tt
ends_in_length largest limit at end n (Some held) head five some le gate is_end read why =
    subst (λ (k : ℕ). FailsFrom largest limit at held k) (sym is_end) (no_length (gate_here at n held head five some le gate read) (short why))
  where
    short : (n < 5) ⊎ (end < at + 5) → length held < at + 5
    short (inl few) = omega (arith, few, got_of at n held head read le, five)
    short (inr less) = omega (arith, less, is_end)

pub is_too_long : (largest limit at n size : ℕ) (shown : Option (List ℕ)) (head : List ℕ) → length head ≡ 5 → 5 ≤ n → size < 2 ^ 32 → get_or head 0 0 ≡ 165 → to_be_bytes w32 size ≡ drop 1 head
    → IfSome shown (λ held. take n head ≡ take (length head) (drop at held)) → IsTooLong largest limit at size → IfSome shown (λ held. FailsFrom largest limit at held (at + 1))
is_too_long largest limit at n size None head five enough small gate is read why = tt
is_too_long largest limit at n size (Some held) head five enough small gate is read why = too_long size (number_here at n size held head five enough small gate is read) why

pub ends_in_body : (largest limit at end n size : ℕ) (shown : Option (List ℕ)) (head : List ℕ) → length head ≡ 5 → 5 ≤ n → size < 2 ^ 32 → get_or head 0 0 ≡ 165 → to_be_bytes w32 size ≡ drop 1 head
    → IfSome shown (λ held. take n head ≡ take (length head) (drop at held)) → IfSome shown (λ held. end ≡ length held) → size ≤ largest → at + 6 + size ≤ limit → end < at + 5 + size
    → IfSome shown (λ held. FailsFrom largest limit at held end)
ends_in_body largest limit at end n size None head five enough small gate is read is_end fits within less = tt
ends_in_body largest limit at end n size (Some held) head five enough small gate is read is_end fits within less =
    subst (λ (k : ℕ). FailsFrom largest limit at held k) (sym is_end) (no_body size (number_here at n size held head five enough small gate is read) not_too_long (omega (arith, is_end, less)))
  where
    not_too_long : IsTooLong largest limit at size → ⊥
    not_too_long (inl above) = omega (arith, above, fits)
    not_too_long (inr past) = omega (arith, past, within)

-- less than is there is never read
pub never_less : (P : List ℕ → Type 0) (at end got : ℕ) (shown mid : Option (List ℕ)) (into : List ℕ) → mid ≡ shown → got ≤ length into → IfSome shown (λ held. end ≡ length held)
    → IfSome mid (λ held. take got into ≡ take (length into) (drop at held)) → at + length into ≤ end → got < length into → IfSome shown P
never_less P at end got None mid into same le is_end read within less = tt
never_less P at end got (Some held) mid into same le is_end read within less =
    let here = subst (λ (o : Option (List ℕ)). IfSome o (λ held. take got into ≡ take (length into) (drop at held))) same read in
    absurd (omega (arith, got_of at got held into here le, is_end, within, less))

-- in an image of more than nine bytes the seven are there
pub never_few : (P : List ℕ → Type 0) (n : ℕ) (shown : Option (List ℕ)) (head : List ℕ) → length head ≡ 7 → n ≤ length head → IfSome shown (λ held. 9 < length held)
    → IfSome shown (λ held. take n head ≡ take (length head) (drop 0 held)) → n < 7 → IfSome shown P
never_few P n None head seven le long read few = tt
never_few P n (Some held) head seven le long read few = absurd (omega (arith, got_of 0 n held head read le, seven, long, few))

pub magic_is_wrong : (shape : Shape) (n at : ℕ) (shown : Option (List ℕ)) (head : List ℕ) → length head ≡ 7 → 7 ≤ n → IfSome shown (λ held. 9 < length held) → IfSome shown (λ held. take n head ≡ take (length head) (drop 0 held))
    → (at < 7) × (take at head ≡ take at magic) × (get_or head at 0 ≢ get_or magic at 0) → IfSome shown (λ held. FailsInHead shape held at)
magic_is_wrong shape n at None head seven enough long read wrong = tt
magic_is_wrong shape n at (Some held) head seven enough long read wrong =
    let is : head ≡ take 7 held = sym (take_all n head (omega arith)) ∙ read ∙ ap (λ (k : ℕ). take k held) seven in (
      wrong_magic at wrong.0 (omega (arith, long, wrong.0))
          (sym (take_take at (7 - at) 7 held (omega (arith, wrong.0))) ∙ ap (λ (l : List ℕ). take at l) (sym is) ∙ wrong.1)
          (λ same. wrong.2 (ap (λ (l : List ℕ). get_or l at 0) is ∙ get_or-take 7 held at 0 wrong.0 ∙ same)),
      refl,
    )

-- what is shown of the head is shown of the image, before a body was taken
pub unread_head : (rose later : Type 0) (shown : Option (List ℕ)) (shape : Shape) (Took : List (List ℕ) → Type 0) (Refused : List (List ℕ) → List ℕ → Type 0) (e : LogError) → Took [] → (rose → later) → Unread rose shown (FailsInHead shape) e → Unread later shown (FailsFirst shape Took Refused) e
unread_head rose later shown shape Took Refused Disk first on cause = on cause
unread_head rose later shown shape Took Refused Memory first on cause = tt
unread_head rose later None shape Took Refused (NotAStore at) first on cause = tt
unread_head rose later (Some held) shape Took Refused (NotAStore at) first on cause = no_text at cause.0 (subst (λ (l : List (List ℕ)). Took l) (sym cause.1) first)

-- what is shown of a bank is shown of the image, whose head makes that bank live
pub unread_bank : (rose later : Type 0) (shown mid : Option (List ℕ)) (shape : Shape) (second : Bool) (Took : List (List ℕ) → Type 0) (Refused : List (List ℕ) → List ℕ → Type 0) (e : LogError) → mid ≡ shown → IfSome shown (IsLive second) → (rose → later)
    → Unread rose mid (FailsInOrder shape second Took Refused) e → Unread later shown (FailsFirst shape Took Refused) e
unread_bank rose later shown mid shape second Took Refused Disk same head on cause = on cause
unread_bank rose later shown mid shape second Took Refused Memory same head on cause = tt
unread_bank rose later shown mid shape second Took Refused (NotAStore at) same head on cause = by shown head (subst (λ (o : Option (List ℕ)). IfSome o (λ held. FailsInOrder shape second Took Refused held at)) same cause)
  where
    of_bank : (held : List ℕ) (place : ℕ) → IsLive second held → FailsInOrder shape second Took Refused held place → FailsFirst shape Took Refused held place
    of_bank held place live (no_cell place' fails took) = no_text place' (wrong_bank second place' live fails) took
    of_bank held place live (refused_cell front body cells refused) = no_meaning second front body live cells refused

    by : (o : Option (List ℕ)) → IfSome o (IsLive second) → IfSome o (λ held. FailsInOrder shape second Took Refused held at) → IfSome o (λ held. FailsFirst shape Took Refused held at)
    by None live fails = tt
    by (Some held) live fails = of_bank held at live fails

pub rose_sooner : (before mid after : ℕ) → before ≤ mid → Rose mid after → Rose before after
rose_sooner before mid after le rose = omega (arith, le, rose)
