use Rattle.std.proofs.Common.{◌≡◌, sym, ◌∙◌, ap₂, subst, inl, inr}
use Rattle.std.specs.Prelude.{Err}
use Rattle.http_frames.specs.Framing.{request_framing}
use Rattle.http_frames.proofs.PassedOn.{passed_on}
use Rattle.http_frames.proofs.RequestFramings.{IsRequestFraming, request_framing_is}
use Rattle.http_frames.proofs.Walking.{walked_start, request_starts}
use Rattle.http_frames.proofs.reader.start_body.Goals as goal

pub returns : goal.returns
returns c = record {
  head = c.requires;
  framing = ap₂ request_framing (sym c.as_slice.ensures) (sym c.as_slice-2.ensures) ∙ sym c.request_framing.ensures ∙ c.in_ok-framing.was;
  walked = walked_start _ _ _ c.new.result c.new.ensures request_starts;
}

pub returns-in_err-framing : goal.returns-in_err-framing
returns-in_err-framing c =
    let says : request_framing c.args.head.method c.args.head.headers ≡ Err c.in_err-framing.field-0.0 =
    ap₂ request_framing (sym c.as_slice.ensures) (sym c.as_slice-2.ensures) ∙ sym c.request_framing.ensures ∙ c.in_err-framing.was in
    rw (passed_on c.in_err-framing.field-0.0 c.from_residual.result c.from_residual.ensures.1) (
      inr (inl (record { start = c.args.head; head = c.requires; says = says })),
      (subst IsRequestFraming says (request_framing_is c.args.head.method c.args.head.headers)).1,
    )
