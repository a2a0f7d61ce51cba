-- Bytes spell one list of instances, and one refusal wins.
use Rattle.std.proofs.Common.{◌≡◌, ◌==◌, if◌then◌else◌, ◌≢◌, ◌≤◌, inl, inr, ℕ, List, [], ◌∷◌, length, take, drop, refl, sym, ◌∙◌, ap, subst, arith, zero, suc, codes, slice_index}
use Rattle.std.specs.Char.{to_ascii_lowercase}
use Rattle.mof_values.specs.Fold.{fold_case}
use Rattle.mof_values.specs.declared.instance.Instance.{Instance}
use Rattle.mof_syntax.specs.declared.mof_error.MofError.{MofError}
use Rattle.mof_syntax.specs.declared.mof_error.MofError.TheVariants.{TooLong, Text, Syntax, OutOfProfile, NumberRange, TooMany, Memory}
use Rattle.mof_syntax.specs.declared.mof_error.Form.{Form}
use Rattle.mof_syntax.specs.declared.mof_error.Form.TheVariants as forms
use Rattle.mof_syntax.specs.Encodings.{Chars}
use Rattle.mof_syntax.specs.Fronts.{IsSyntaxFault}
use Rattle.mof_syntax.specs.Limits.{Spells, document_limit}
use Rattle.mof_syntax.specs.Profile as profile
use Rattle.mof_syntax.specs.Refusals.{Reads, Refuses, RefusesText, Wins, WinsOver, Applies, refusal_place, rank_of}
use Rattle.mof_syntax.proofs.UniqueRules.{spells_same}
use Rattle.mof_syntax.proofs.Decoded.{one_text, one_fault, no_fault}

pub reads_once : (bytes : List ℕ) (is js : List Instance) → Reads bytes is → Reads bytes js → is ≡ js
reads_once bytes is js a b =
    spells_same a.text is js a.spelled.wide
    (subst (λ (t : List ℕ). Spells t js) (sym (one_text bytes a.text b.text a.decoded b.decoded)) b.spelled).wide

-- the characters at the front of the forms

-- with which character a form begins where the text goes wrong, in lower case
abbrev mark_of : Form → ℕ
mark_of forms.Pragma = 35
mark_of forms.Qualifiers = 91
mark_of forms.Class = 99
mark_of forms.Qualifier = 113
mark_of forms.Character = 39
mark_of forms.Real = 46

-- the form that begins with it
abbrev form_of : ℕ → Form
form_of mark =
    if mark == 35 then forms.Pragma
    else if mark == 91 then forms.Qualifiers
    else if mark == 99 then forms.Class
    else if mark == 113 then forms.Qualifier
    else if mark == 39 then forms.Character
    else forms.Real

form_of-mark : (form : Form) → form_of (mark_of form) ≡ form
form_of-mark forms.Pragma = refl
form_of-mark forms.Qualifiers = refl
form_of-mark forms.Class = refl
form_of-mark forms.Qualifier = refl
form_of-mark forms.Character = refl
form_of-mark forms.Real = refl

word_begins : (at n : ℕ) (text : List ℕ) (l : ℕ) (ls : List ℕ) → fold_case (take n (drop at text)) ≡ l ∷ ls → to_ascii_lowercase (slice_index text at) ≡ l
word_begins zero zero [] l ls e = absurd cc
word_begins zero zero (x ∷ xs) l ls e = absurd cc
word_begins zero (suc n) [] l ls e = absurd cc
word_begins zero (suc n) (x ∷ xs) l ls e = cc
word_begins (suc at) zero [] l ls e = absurd cc
word_begins (suc at) (suc n) [] l ls e = absurd cc
word_begins (suc at) n (x ∷ xs) l ls e = word_begins at n xs l ls e

begins_so : (text : List ℕ) (fault at : ℕ) (what : Form) → profile.OutOfProfile text fault at what → to_ascii_lowercase (slice_index text fault) ≡ mark_of what
begins_so text fault at what (profile.pragma b c) = ap to_ascii_lowercase c
begins_so text fault at what (profile.qualifiers b c) = ap to_ascii_lowercase c
begins_so text fault at what (profile.class b w) = word_begins fault _ text 99 (codes "lass") w.same
begins_so text fault at what (profile.qualifier b w) = word_begins fault _ text 113 (codes "ualifier") w.same
begins_so text fault at what (profile.character b c) = ap to_ascii_lowercase c
begins_so text fault at what (profile.real n le b r c) = ap to_ascii_lowercase c

-- where a text goes wrong one form stands
form_once : (text : List ℕ) (fault at other : ℕ) (what form : Form) → profile.OutOfProfile text fault at what → profile.OutOfProfile text fault other form → what ≡ form
form_once text fault at other what form o p =
    sym (form_of-mark what) ∙ ap form_of (sym (begins_so text fault at what o) ∙ begins_so text fault other form p) ∙ form_of-mark form

place_once : (text : List ℕ) (one other : ℕ) → IsSyntaxFault text one → IsSyntaxFault text other → one ≡ other
place_once text one other a b = omega (arith, b.longest one a.within a.front, a.longest other b.within b.front)

-- each wins over the other only at one place and of one rank
pub level : (one other : MofError) → WinsOver one other → WinsOver other one → (refusal_place one ≡ refusal_place other) × (rank_of one ≡ rank_of other)
level one other (inl lt) (inl gt) = absurd (omega (arith, lt, gt))
level one other (inl lt) (inr same) = absurd (omega (arith, lt, same.0))
level one other (inr same) (inl gt) = absurd (omega (arith, same.0, gt))
level one other (inr same) (inr too) = (same.0, omega (arith, same.1, too.1))

-- so they are one
level_once : (text : List ℕ) (one other : MofError) → Applies text one → Applies text other → (refusal_place one ≡ refusal_place other) × (rank_of one ≡ rank_of other) → one ≡ other
level_once text TooLong other a b l = absurd a
level_once text (Text at) other a b l = absurd a
level_once text Memory other a b l = absurd a
level_once text one TooLong a b l = absurd b
level_once text one (Text at) a b l = absurd b
level_once text one Memory a b l = absurd b
level_once text (OutOfProfile at what) (OutOfProfile to form) a b l =
    let same : b.0 ≡ a.0 = place_once text b.0 a.0 b.1 a.1 in
    let there : profile.OutOfProfile text a.0 to form = subst (λ (fault : ℕ). profile.OutOfProfile text fault to form) same b.2 in
    ap (λ (n : ℕ). OutOfProfile n what) l.0 ∙ ap (λ (f : Form). OutOfProfile to f) (form_once text a.0 at to what form a.2 there)
level_once text (NumberRange at) (NumberRange to) a b l = ap (λ (n : ℕ). NumberRange n) l.0
level_once text (TooMany at) (TooMany to) a b l = ap (λ (n : ℕ). TooMany n) l.0
level_once text (Syntax at) (Syntax to) a b l = ap (λ (n : ℕ). Syntax n) l.0
level_once text (OutOfProfile at what) (NumberRange to) a b l = absurd (omega (arith, l.1))
level_once text (OutOfProfile at what) (TooMany to) a b l = absurd (omega (arith, l.1))
level_once text (OutOfProfile at what) (Syntax to) a b l = absurd (omega (arith, l.1))
level_once text (NumberRange at) (OutOfProfile to form) a b l = absurd (omega (arith, l.1))
level_once text (NumberRange at) (TooMany to) a b l = absurd (omega (arith, l.1))
level_once text (NumberRange at) (Syntax to) a b l = absurd (omega (arith, l.1))
level_once text (TooMany at) (OutOfProfile to form) a b l = absurd (omega (arith, l.1))
level_once text (TooMany at) (NumberRange to) a b l = absurd (omega (arith, l.1))
level_once text (TooMany at) (Syntax to) a b l = absurd (omega (arith, l.1))
level_once text (Syntax at) (OutOfProfile to form) a b l = absurd (omega (arith, l.1))
level_once text (Syntax at) (NumberRange to) a b l = absurd (omega (arith, l.1))
level_once text (Syntax at) (TooMany to) a b l = absurd (omega (arith, l.1))

-- of the refusals of a text one wins
pub wins_once : (text : List ℕ) (one other : MofError) → Wins text one → Wins text other → one ≡ other
wins_once text one other a b = level_once text one other a.applies b.applies (level one other (a.first other b.applies) (b.first one a.applies))

-- bytes that are characters are refused for their text alone
pub text_refused : (bytes : List ℕ) (e : MofError) → length bytes ≤ document_limit → (text : List ℕ) → Chars bytes text → e ≢ Memory → Refuses bytes e → Wins text e
text_refused bytes TooLong fits text chars some r = absurd (omega (arith, fits, r))
text_refused bytes (Text at) fits text chars some r = absurd (no_fault bytes text at chars r.1)
text_refused bytes Memory fits text chars some r = absurd (some refl)
text_refused bytes (OutOfProfile at what) fits text chars some r = subst (λ (t : List ℕ). Wins t (OutOfProfile at what)) (one_text bytes r.text text r.decoded chars) r.wins
text_refused bytes (NumberRange at) fits text chars some r = subst (λ (t : List ℕ). Wins t (NumberRange at)) (one_text bytes r.text text r.decoded chars) r.wins
text_refused bytes (TooMany at) fits text chars some r = subst (λ (t : List ℕ). Wins t (TooMany at)) (one_text bytes r.text text r.decoded chars) r.wins
text_refused bytes (Syntax at) fits text chars some r = subst (λ (t : List ℕ). Wins t (Syntax at)) (one_text bytes r.text text r.decoded chars) r.wins

-- where a text is refused for its characters, no other refusal is that of its bytes
after_text : (bytes : List ℕ) (one other : MofError) → RefusesText bytes one → other ≢ Memory → Refuses bytes other → one ≡ other
after_text bytes one other r some s = wins_once r.text one other r.wins (text_refused bytes other r.within r.text r.decoded some s)

-- of the refusals of bytes one wins
pub refuses_once : (bytes : List ℕ) (one other : MofError) → one ≢ Memory → other ≢ Memory → Refuses bytes one → Refuses bytes other → one ≡ other
refuses_once bytes Memory other m n a b = absurd (m refl)
refuses_once bytes one Memory m n a b = absurd (n refl)
refuses_once bytes (OutOfProfile at what) other m n a b = after_text bytes (OutOfProfile at what) other a n b
refuses_once bytes (NumberRange at) other m n a b = after_text bytes (NumberRange at) other a n b
refuses_once bytes (TooMany at) other m n a b = after_text bytes (TooMany at) other a n b
refuses_once bytes (Syntax at) other m n a b = after_text bytes (Syntax at) other a n b
refuses_once bytes one (OutOfProfile at what) m n a b = sym (after_text bytes (OutOfProfile at what) one b m a)
refuses_once bytes one (NumberRange at) m n a b = sym (after_text bytes (NumberRange at) one b m a)
refuses_once bytes one (TooMany at) m n a b = sym (after_text bytes (TooMany at) one b m a)
refuses_once bytes one (Syntax at) m n a b = sym (after_text bytes (Syntax at) one b m a)
refuses_once bytes TooLong TooLong m n a b = refl
refuses_once bytes TooLong (Text at) m n a b = absurd (omega (arith, a, b.0))
refuses_once bytes (Text at) TooLong m n a b = absurd (omega (arith, a.0, b))
refuses_once bytes (Text at) (Text to) m n a b = ap (λ (k : ℕ). Text k) (one_fault bytes at to a.1 b.1)
