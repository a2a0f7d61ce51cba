-- Before any byte a request is awaited.
use Rattle.std.proofs.Common.{◌≡◌, ℕ, List, [], ◌∷◌, ◌++◌, length, refl, sym, ap, ◌∙◌, arith, append-nil, length-append, true, inl}
use Rattle.std.proofs.lemmas.List.Elements.{All-nil, All-push}
use Rattle.std.proofs.lemmas.Str.{IsUtf8-from_ascii}
use Rattle.std.proofs.lemmas.Str.Ascii.{IsAscii-cons, IsAscii-nil}
use Rattle.httparse.specs.Grammar.{lf, print_blank, IsField, is_token_byte, is_uri_byte, RequestHead, IsRequestHead, print_request}
use Rattle.http_frames.specs.Heads.{BeginsRequest}
use Rattle.http_frames.specs.HeadWalks.{start_line}
use Rattle.http_frames.specs.Frames.{AwaitsRest}
use Rattle.http_frames.proofs.RequestLines.{request_parts}

-- G / HTTP/1.1
abbrev some_head : RequestHead
some_head = record { blank = []; method = 71 ∷ []; target = 47 ∷ []; minor = 1; line_end = lf; fields = []; last = lf }

some_head_is : IsRequestHead some_head
unfolding is_token_byte
some_head_is = record {
  method = (omega arith, All-push (λ v. is_token_byte v ≡ true) [] 71 (All-nil _) refl);
  target = (omega arith, All-push (λ v. is_uri_byte v ≡ true) [] 47 (All-nil _) refl);
  target_text = IsUtf8-from_ascii _ (IsAscii-cons 47 [] (omega arith) IsAscii-nil);
  minor = omega arith;
  fields = All-nil IsField;
}

no_head : (head : RequestHead) (rest : List ℕ) → BeginsRequest [] head rest → ⊥
no_head head rest h =
    let parts : [] ≡ print_blank head.blank ++ (start_line head ++ _) = h.reads.1 ∙ request_parts head rest in
    omega (arith, h.reads.0.method.0, simp length-append at (ap length parts))

pub awaits_first : AwaitsRest []
awaits_first = inl (record {
  short = omega arith;
  is_open = record {
    lacks = no_head;
    can_be = inl (
      print_request some_head,
      some_head,
      record {
        reads = (some_head_is, sym (append-nil (print_request some_head)));
        lines = omega arith;
      },
    );
  };
})
