use Rattle.mof_codec.proofs.Answered.{reads_or_refuses, reads_not_long, reads_no_fault, reads_in_grammar, reads_in_profile}
use Rattle.mof_codec.proofs.OneRefusal.{reads_once, refuses_once}
use Rattle.mof_examples.proofs.laws.bytes_are_read_or_refused.Goals as goal

pub returns : goal.returns
returns c = record {
  exists = λ bytes. reads_or_refuses bytes;
  one = record {
    one_reading = λ bytes one other a b. reads_once bytes one other a b;
    one_refusal = λ bytes one other m n a b. refuses_once bytes one other m n a b;
  };
  apart = record {
    not_too_long = λ bytes is r long. reads_not_long bytes is r long;
    no_text_fault = λ bytes is at r fault. reads_no_fault bytes is at r fault;
    no_syntax_fault = λ bytes is at r fault. reads_in_grammar bytes is at r fault;
    no_form_left_out = λ bytes is at what r fault. reads_in_profile bytes is at what r fault;
  };
}
