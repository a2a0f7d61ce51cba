use Rattle.mof_syntax.specs.declared.lead.Lead.TheVariants as leads
use Rattle.mof_syntax.proofs.Scans.{identifier-read, read-identifier, magnitude-read, read-magnitude}
use Rattle.mof_syntax.proofs.FirstTokens.{some_after, none_after, quoted_after, no_quoted_after}
use Rattle.mof_syntax.proofs.lead.token_rest.Goals as goal

pub returns-in-Quote-clause-some : goal.returns-in-Quote-clause-some
returns-in-Quote-clause-some c = quoted_after _ _ _ _ c.in-Quote.is c.literal_rest.ensures.some

pub returns-in-Quote-clause-none : goal.returns-in-Quote-clause-none
returns-in-Quote-clause-none c = no_quoted_after _ _ _ _ c.in-Quote.is c.literal_rest.ensures.none

pub returns-in-Dollar-clause-some : goal.returns-in-Dollar-clause-some
returns-in-Dollar-clause-some c = some_after _ leads.Dollar _ _ _ _ c.in-Dollar.is c.identifier_rest.ensures (λ rest s. identifier-read _ _ _ s.1) (λ rest e. read-identifier _ _ e)

pub returns-in-Dollar-clause-none : goal.returns-in-Dollar-clause-none
returns-in-Dollar-clause-none c = none_after _ leads.Dollar _ _ _ _ c.in-Dollar.is c.identifier_rest.ensures (λ rest s. identifier-read _ _ _ s.1)

pub returns-in-Sign-clause-some : goal.returns-in-Sign-clause-some
returns-in-Sign-clause-some c = some_after _ leads.Sign _ _ _ _ c.in-Sign.is c.magnitude_rest.ensures (λ rest s. magnitude-read _ _ _ s.1 s.2) (λ rest e. read-magnitude _ _ e)

pub returns-in-Sign-clause-none : goal.returns-in-Sign-clause-none
returns-in-Sign-clause-none c = none_after _ leads.Sign _ _ _ _ c.in-Sign.is c.magnitude_rest.ensures (λ rest s. magnitude-read _ _ _ s.1 s.2)

pub returns-in-Digit-clause-some : goal.returns-in-Digit-clause-some
returns-in-Digit-clause-some c = some_after _ leads.Digit _ _ _ _ c.in-Digit.is c.magnitude_rest-in-Digit.ensures (λ rest s. magnitude-read _ _ _ s.1 s.2) (λ rest e. read-magnitude _ _ e)

pub returns-in-Digit-clause-none : goal.returns-in-Digit-clause-none
returns-in-Digit-clause-none c = none_after _ leads.Digit _ _ _ _ c.in-Digit.is c.magnitude_rest-in-Digit.ensures (λ rest s. magnitude-read _ _ _ s.1 s.2)

pub returns-in-Other-clause-some : goal.returns-in-Other-clause-some
returns-in-Other-clause-some c = some_after _ leads.Other _ _ _ _ c.in-Other.is c.identifier_rest-in-Other.ensures (λ rest s. identifier-read _ _ _ s.1) (λ rest e. read-identifier _ _ e)

pub returns-in-Other-clause-none : goal.returns-in-Other-clause-none
returns-in-Other-clause-none c = none_after _ leads.Other _ _ _ _ c.in-Other.is c.identifier_rest-in-Other.ensures (λ rest s. identifier-read _ _ _ s.1)
