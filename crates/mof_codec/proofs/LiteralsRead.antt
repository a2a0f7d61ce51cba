-- String literals, as far as they were read.
use Rattle.std.proofs.Common.{◌≡◌, ◌<◌, ◌≤◌, ℕ, List, [], ◌∷◌, ◌++◌, length, Some, None, Bool, true, false, ◌+◌, ◌==◌, ◌||◌, not, refl, sym, ap, subst, ◌∙◌, arith, append_assoc, append-nil, length-append}
use Rattle.std.proofs.lemmas.List.{append_cancel_right}
use Rattle.mof_syntax.specs.Characters.{quote, backslash}
use Rattle.mof_syntax.specs.Separators.{Separator, Separators}
use Rattle.mof_syntax.specs.Strings.{Quoted, closed}
use Rattle.mof_syntax.specs.Tokens.{Lexeme, Literal, IsToken, literal, Lexes, end, separator, token}
use Rattle.mof_syntax.specs.Grammar.{NoLiteral, StringValue, last, joined}
use Rattle.mof_syntax.specs.Scanning.{separator_rest, StandsQuoted}
use Rattle.mof_syntax.proofs.Scans.{separator-read}
use Rattle.mof_syntax.proofs.FirstTokens.{token_stands}
use Rattle.mof_syntax.proofs.Suffixes.{EndsWith-length, EndsWithin-length, separators_end, token_ends}
use Rattle.mof_syntax.proofs.UniqueRules.{string_same}
use Rattle.mof_codec.specs.Reading.{Begins, Only, BeginsWith, Lacks}
use Rattle.mof_codec.specs.Values.{char_rest, BeginsQuote, NoLiteralFirst, AddsQuoted, NoQuoted, is_plain, IsPlainTo, GoesOnBy, GoesOnByOne, OnlyQuoteFirst, AnyText}
use Rattle.mof_codec.proofs.MarkFronts.{char_rest-split, char_rest-none}
use Rattle.mof_codec.proofs.Escapes.{goes_on_by_plain}
use Rattle.mof_codec.proofs.TokenFronts.{begins_token, begins_as, begins_at, Joined, begins_join, first_of, skip_only}

-- the characters of a literal: what was added so far
pub record QuotedSoFar (before all done left : List ℕ) : Type 0 where
  pub text : List ℕ
  pub added : done ≡ before ++ text
  pub goes : GoesOnBy all text left

pub goes_on_at_start : (cs : List ℕ) → GoesOnBy cs [] cs
goes_on_at_start cs = record { on = λ more after q. q; only = λ whole after q. (whole, q) }

pub goes_on_further : (cs text left more rest : List ℕ) → GoesOnBy cs text left → GoesOnBy left more rest → GoesOnBy cs (text ++ more) rest
goes_on_further cs text left more rest first then = record {
  on = λ others after q. subst (λ (xs : List ℕ). Quoted cs xs after) (sym (append_assoc text more others)) (first.on (more ++ others) after (then.on others after q));
  only = λ whole after q. let x = first.only whole after q in then.only x.0 after x.1;
}

pub quoted_next : (before all done left text rest : List ℕ) → QuotedSoFar before all done left → GoesOnBy left text rest → QuotedSoFar before all (done ++ text) rest
quoted_next before all done left text rest s g = record {
  text = s.text ++ text;
  added = ap (λ (xs : List ℕ). xs ++ text) s.added ∙ append_assoc before s.text text;
  goes = goes_on_further all s.text left text rest s.goes g;
}

pub quoted_end : (before all done left rest : List ℕ) → QuotedSoFar before all done left → char_rest quote left ≡ Some rest → AddsQuoted before all done rest
quoted_end before all done left rest s e =
    let q : Quoted left [] rest = subst (λ (xs : List ℕ). Quoted xs [] rest) (sym (char_rest-split quote left rest e)) (closed rest) in
    (s.text, subst (λ (xs : List ℕ). Quoted all xs rest) (append-nil s.text) (s.goes.on [] rest q), s.added)

pub quoted_stuck : (before all done left : List ℕ) → QuotedSoFar before all done left → char_rest quote left ≡ None → OnlyQuoteFirst left → NoQuoted all
quoted_stuck before all done left s e absent text rest q = let x = s.goes.only text rest q in char_rest-none quote left rest e (absent x.0 rest x.1)

-- the characters that a literal goes on by as they stand

neither : (a b : Bool) → not (a || b) ≡ true → (a ≡ false) × (b ≡ false)
neither false false h = (refl, refl)
neither false true h = absurd cc
neither true b h = absurd cc

pub plain_start : (all : List ℕ) → IsPlainTo all all
plain_start all = record { front = []; split = refl; goes = goes_on_at_start all }

pub plain_next : (all left rest : List ℕ) (c : ℕ) → IsPlainTo all left → left ≡ c ∷ rest → is_plain c ≡ true → IsPlainTo all rest
plain_next all left rest c s e plain =
    let special = neither (c == quote) (c == backslash) plain in
    let one : GoesOnByOne left c rest = goes_on_by_plain left rest c e special.0 special.1 in
    record {
      front = s.front ++ c ∷ [];
      split = s.split ∙ ap (λ (xs : List ℕ). s.front ++ xs) e ∙ sym (append_assoc s.front (c ∷ []) rest);
      goes = goes_on_further all s.front left (c ∷ []) rest s.goes one.0;
    }

-- the characters before the rest are those that the literal goes on by
pub plain_front : (all front left : List ℕ) → IsPlainTo all left → all ≡ front ++ left → GoesOnBy all front left
plain_front all front left p split =
    subst (λ (xs : List ℕ). GoesOnBy all xs left) (append_cancel_right p.front front left (sym p.split ∙ split)) p.goes

pub shorter_after : (left front after rest : List ℕ) → left ≡ front ++ after → length rest < length after → length rest < length left
shorter_after left front after rest split less =
    let long : length left ≡ length front + length after = ap length split ∙ length-append front after in
    omega arith

-- literals as tokens

pub no_literal_first : (cs left : List ℕ) → Separators cs left → separator_rest left ≡ None → char_rest quote left ≡ None → NoLiteralFirst cs
no_literal_first cs left s stops e [] l = tt
no_literal_first cs left s stops e (Literal text ∷ ts) l =
    let f = first_of cs left (Literal text ∷ ts) (Literal text) ts s stops l refl in
    char_rest-none quote left (quoted_of left text f.0 f.1).0 e (quoted_of left text f.0 f.1).1
  where
    quoted_of : (xs text rest : List ℕ) → IsToken xs (Literal text) rest → (us : List ℕ) × (xs ≡ quote ∷ us)
    quoted_of xs text rest (literal us t r q) = (us, refl)
no_literal_first cs left s stops e (t ∷ ts) l = tt

pub begins_literal : (cs after text rest : List ℕ) → BeginsQuote cs after → Quoted after text rest → Begins (λ us ts. us ≡ Literal text ∷ ts) cs rest
begins_literal cs after text rest b q =
    begins_token cs b.left (Literal text) rest b.separators (subst (λ (xs : List ℕ). IsToken xs (Literal text) rest) (sym b.split) (literal after text rest q))

-- an open quote is in no text

open_quote : (cs rest : List ℕ) (us : List Lexeme) → cs ≡ quote ∷ rest → NoQuoted rest → Lexes cs us → ⊥
open_quote cs rest us e absent end = absurd cc
open_quote cs rest us e absent (separator ds r vs s l) = apart r (separator-read (quote ∷ rest) r (subst (λ (xs : List ℕ). Separator xs r) e s))
  where
    apart : (xs : List ℕ) → None ≡ Some xs → ⊥
    apart xs h = cc
open_quote cs rest us e absent (token ds t r vs i l) =
    let q : StandsQuoted rest r = token_stands quote rest t r (subst (λ (xs : List ℕ). IsToken xs t r) e i) in
    absent q.0 r q.1

pub no_tokens : (cs rest : List ℕ) (us : List Lexeme) → BeginsQuote cs rest → NoQuoted rest → Lexes cs us → ⊥
no_tokens cs rest us b absent l = open_quote b.left rest us b.split absent (skip_only cs b.left us b.separators l)

-- literals, as far as they were read

pub record StringsOn (us : List Lexeme) (done : List ℕ) (ts : List Lexeme) : Type 0 where
  pub last : StringValue us done ts
  pub on : (more : List ℕ) (rest : List Lexeme) → StringValue ts more rest → StringValue us (done ++ more) rest

pub StringsSoFar : List ℕ → List ℕ → List ℕ → Type 0
StringsSoFar cs done left = Begins (λ us ts. StringsOn us done ts) cs left

strings_first : (us : List Lexeme) (text : List ℕ) (ts : List Lexeme) → us ≡ Literal text ∷ ts → StringsOn us text ts
strings_first us text ts e = subst (λ (xs : List Lexeme). StringsOn xs text ts) (sym e) (record {
  last = last text ts;
  on = λ more rest s. joined text more ts rest s;
})

strings_more : (us : List Lexeme) (done : List ℕ) (vs : List Lexeme) (text : List ℕ) (ts : List Lexeme) → StringsOn us done vs → vs ≡ Literal text ∷ ts → StringsOn us (done ++ text) ts
strings_more us done vs text ts s e = record {
  last = s.on text ts (subst (λ (xs : List Lexeme). StringValue xs text ts) (sym e) (last text ts));
  on = λ more rest v. subst (λ (xs : List ℕ). StringValue us xs rest) (sym (append_assoc done text more))
      (s.on (text ++ more) rest (subst (λ (xs : List Lexeme). StringValue xs (text ++ more) rest) (sym e) (joined text more ts rest v)));
}

added_to_none : (before after text : List ℕ) → before ≡ [] → after ≡ before ++ text → after ≡ text
added_to_none before after text e f = f ∙ ap (λ (xs : List ℕ). xs ++ text) e

pub strings_start : (cs remaining before after rest : List ℕ) → BeginsQuote cs remaining → before ≡ [] → AddsQuoted before remaining after rest → StringsSoFar cs after rest
unfolding StringsSoFar
strings_start cs remaining before after rest b e a =
    subst (λ (xs : List ℕ). Begins (λ us ts. StringsOn us xs ts) cs rest) (sym (added_to_none before after a.0 e a.2))
    (begins_as (λ us ts. us ≡ Literal a.0 ∷ ts) (λ us ts. StringsOn us a.0 ts) cs rest (λ us ts h. strings_first us a.0 ts h) (begins_literal cs remaining a.0 rest b a.1))

pub strings_next : (cs done left remaining after rest : List ℕ) → StringsSoFar cs done left → BeginsQuote left remaining → AddsQuoted done remaining after rest → StringsSoFar cs after rest
unfolding StringsSoFar
strings_next cs done left remaining after rest s b a =
    subst (λ (xs : List ℕ). Begins (λ us ts. StringsOn us xs ts) cs rest) (sym a.2)
    (begins_as (Joined (λ us ts. StringsOn us done ts) (λ us ts. us ≡ Literal a.0 ∷ ts)) (λ us ts. StringsOn us (done ++ a.0) ts) cs rest
    (λ us ts j. strings_more us done j.0 a.0 ts j.1 j.2)
    (begins_join (λ us ts. StringsOn us done ts) (λ us ts. us ≡ Literal a.0 ∷ ts) cs left rest s (begins_literal left remaining a.0 rest b a.1)))

only_string : (us : List Lexeme) (text : List ℕ) (ts : List Lexeme) → NoLiteral ts → StringValue us text ts → Only StringValue us text ts
only_string us text ts n s = record { holds = s; only = λ b vs m t. string_same us b vs text ts m n t s }

pub reads_string : (cs done left : List ℕ) → StringsSoFar cs done left → NoLiteralFirst left → BeginsWith StringValue AnyText cs done left
unfolding StringsSoFar
reads_string cs done left s absent = record {
  fits = tt;
  begins = begins_at (λ us ts. StringsOn us done ts) (λ us ts. Only StringValue us done ts) cs left (λ us ts l x. only_string us done ts (absent ts l) x.last) s;
}

pub lacks_open : (cs rest : List ℕ) → BeginsQuote cs rest → NoQuoted rest → Lacks StringValue AnyText cs
lacks_open cs rest b absent us ts text n l s fits = no_tokens cs rest us b absent l

pub lacks_open_after : (cs done left rest : List ℕ) → StringsSoFar cs done left → BeginsQuote left rest → NoQuoted rest → Lacks StringValue AnyText cs
unfolding StringsSoFar
lacks_open_after cs done left rest so_far b absent us ts text n l s fits = let x = so_far.only us l in no_tokens left rest x.0 b absent x.1

pub string_shorter : (done left remaining after rest : List ℕ) → BeginsQuote left remaining → AddsQuoted done remaining after rest → length rest < length left
string_shorter done left remaining after rest b a =
    let there : IsToken b.left (Literal a.0) rest = subst (λ (xs : List ℕ). IsToken xs (Literal a.0) rest) (sym b.split) (literal remaining a.0 rest a.1) in
    let less : length rest < length b.left = EndsWithin-length b.left rest (token_ends b.left (Literal a.0) rest there) in
    let most : length b.left ≤ length left = EndsWith-length left b.left (separators_end left b.left b.separators) in
    omega arith
