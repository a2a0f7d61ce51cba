use Rattle.mof_syntax.proofs.FirstTokens.{StandsToken-by, NoToken-by, NoToken-none}
use Rattle.mof_syntax.proofs.lead.first_token.Goals as goal

pub returns-in_err-c-clause-none : goal.returns-in_err-c-clause-none
returns-in_err-c-clause-none c = rw c.from_residual.ensures (λ t rest i. NoToken-none _ c.in_err-c.ensures.none t rest i)

pub returns-in_err-token_rest-clause-none : goal.returns-in_err-token_rest-clause-none
returns-in_err-token_rest-clause-none c = rw c.from_residual-in_err-token_rest.ensures (λ t rest i. NoToken-by _ _ _ _ c.in_ok-c.ensures.some c.lead_of-lead.ensures c.in_err-token_rest.ensures.none t rest i)

pub returns-clause-some : goal.returns-clause-some
returns-clause-some c = rw c.kind.ensures (StandsToken-by _ _ _ _ _ c.in_ok-c.ensures.some c.lead_of-lead.ensures c.in_ok-token_rest.ensures.some)
