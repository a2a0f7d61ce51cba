-- What the scanner does not read does not stand there.
use Rattle.std.proofs.Common.{◌≡◌, ℕ, List, ◌∷◌, Some, None, sym, subst, ◌∙◌}
use Rattle.mof_syntax.specs.Strings.{Escape}
use Rattle.mof_syntax.specs.Tokens.{Identifier}
use Rattle.mof_syntax.specs.Walk.{NoToken, NoSeparator}
use Rattle.mof_syntax.specs.Scanning.{identifier_rest, magnitude_rest, escape_rest, separator_rest}
use Rattle.mof_syntax.specs.Leads.{lead_of, StandsBy}
use Rattle.mof_syntax.specs.declared.lead.Lead.{Lead}
use Rattle.mof_syntax.specs.declared.lead.Lead.TheVariants as leads
use Rattle.mof_syntax.proofs.Scans.{identifier-read, magnitude-read, escape-read, separator-read}
use Rattle.mof_syntax.proofs.FirstTokens.{token_stands}

apart : (rest : List ℕ) → None ≡ Some rest → ⊥
apart rest e = cc

pub no_separator : (cs : List ℕ) → separator_rest cs ≡ None → NoSeparator cs
no_separator cs e rest s = apart rest (sym e ∙ separator-read cs rest s)

pub no_identifier : (cs name rest : List ℕ) → identifier_rest cs ≡ None → Identifier cs name rest → ⊥
no_identifier cs name rest e i = apart rest (sym e ∙ identifier-read cs name rest i)

pub no_escape : (cs : List ℕ) (value : ℕ) (rest : List ℕ) → escape_rest cs ≡ None → Escape cs value rest → ⊥
no_escape cs value rest e i = apart rest (sym e ∙ escape-read cs value rest i)

pub no_digit_token : (c : ℕ) (cs : List ℕ) → lead_of c ≡ leads.Digit → magnitude_rest (c ∷ cs) ≡ None → NoToken (c ∷ cs)
no_digit_token c cs is e t rest i =
    let s : StandsBy leads.Digit (c ∷ cs) cs rest = subst (λ (l : Lead). StandsBy l (c ∷ cs) cs rest) is (token_stands c cs t rest i) in
    apart rest (sym e ∙ magnitude-read (c ∷ cs) s.0 rest s.1 s.2)

pub no_sign_token : (c : ℕ) (cs : List ℕ) → lead_of c ≡ leads.Sign → magnitude_rest cs ≡ None → NoToken (c ∷ cs)
no_sign_token c cs is e t rest i =
    let s : StandsBy leads.Sign (c ∷ cs) cs rest = subst (λ (l : Lead). StandsBy l (c ∷ cs) cs rest) is (token_stands c cs t rest i) in
    apart rest (sym e ∙ magnitude-read cs s.0 rest s.1 s.2)

pub no_dollar_token : (c : ℕ) (cs : List ℕ) → lead_of c ≡ leads.Dollar → identifier_rest cs ≡ None → NoToken (c ∷ cs)
no_dollar_token c cs is e t rest i =
    let s : StandsBy leads.Dollar (c ∷ cs) cs rest = subst (λ (l : Lead). StandsBy l (c ∷ cs) cs rest) is (token_stands c cs t rest i) in
    apart rest (sym e ∙ identifier-read cs s.0 rest s.1)
