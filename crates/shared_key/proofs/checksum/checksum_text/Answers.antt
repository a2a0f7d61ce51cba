use Rattle.std.proofs.Common.{◌≡◌, ℕ, ◌*◌, ◌<◌, length, slice_index, arith, ◌∙◌, ap}
use Rattle.std.specs.Result.{result_ok}
use Rattle.hex.specs.Hex.{decode_sized, encode_lower, encode_upper, upper_digits}
use Rattle.hex.proofs.HexLemmas.{decode_of-encode_upper, decode_sized-twice, length-encode_with}
use Rattle.shared_key.specs.Checksum.{checksum_of, spelled_digest}
use Rattle.shared_key.proofs.HexDigits.{encode_lower-raised}
use Rattle.shared_key.proofs.checksum.checksum_text.Goals as goal

pub returns-clause-text : goal.returns-clause-text
unfolding checksum_of
returns-clause-text c =
    let lower : c.encode_to_slice.new.output ≡ encode_lower c.args.digest.now = rw c.unwrap.ensures at c.encode_to_slice.ensures.written in
    let fits : (i : ℕ) → slice_index c.args.digest.now i < 256 = λ i. let byte = c.fits-digest i in omega arith in
    c.make_ascii_uppercase.ensures.after ∙ rw lower (encode_lower-raised c.args.digest.now fits)

pub returns-clause-reads_back : goal.returns-clause-reads_back
unfolding checksum_of spelled_digest
returns-clause-reads_back c =
    let fits : (i : ℕ) → slice_index c.args.digest.now i < 256 = λ i. let byte = c.fits-digest i in omega arith in
    let written : c.make_ascii_uppercase.new.self ≡ encode_upper c.args.digest.now = returns-clause-text c in
    let size = length-encode_with upper_digits c.args.digest.now in
    let whole : length (encode_upper c.args.digest.now) ≡ 2 * 32 = omega (arith, size) in
    ap (λ text. result_ok (decode_sized text 32)) written
    ∙ ap result_ok (decode_sized-twice (encode_upper c.args.digest.now) 32 whole ∙ decode_of-encode_upper c.args.digest.now fits)
