use Rattle.std.proofs.Common.{◌≡◌, ◌<◌, ◌≤◌, true, false, length, ap, arith}
use Rattle.std.specs.Prelude.{string_bytes, vec_items}
use Rattle.std.specs.Str.{chars}
use Rattle.std.proofs.lemmas.Result.{err_from_is_err_and}
use Rattle.mof_syntax.specs.Limits.{document_limit}
use Rattle.config_script.specs.Refused.{Refuses}
use Rattle.config_script.proofs.Compiled.{compiles_found, handed_on, merged_same, merges_same, not_read, read_is, reserved_found, shape_fault, too_long_found, unknown_found, unmerged_found, unnamed_found}
use Rattle.config_script.proofs.compiling.compile_text.Goals as goal

pub returns-in_default-clause-refused : goal.returns-in_default-clause-refused
returns-in_default-clause-refused c =
    shape_fault c.args.text.now (chars c.torn_rest.result.now) c.line_of.result c.utf8.text c.requires
    (not_read _ _ c.in_default.is c.in_ok-reading.ensures.none) c.torn_rest.ensures c.line_of.ensures

pub returns-in-Some-unknown-clause-refused : goal.returns-in-Some-unknown-clause-refused
returns-in-Some-unknown-clause-refused c =
    let r = read_is _ _ _ _ _ c.in-Some.is c.as_slice.ensures.value c.in_ok-reading.ensures.some in
    unknown_found c.args.text.now c.args.node.now c.utf8.text c.requires c.in-Some.reading r c.in-Some-unknown.from c.line_of-in-Some-unknown.result
    c.in-Some-unknown.is c.line_of-in-Some-unknown.ensures

pub returns-in-Some-reserved-clause-refused : goal.returns-in-Some-reserved-clause-refused
returns-in-Some-reserved-clause-refused c =
    let r = read_is _ _ _ _ _ c.in-Some.is c.as_slice.ensures.value c.in_ok-reading.ensures.some in
    reserved_found c.args.text.now c.args.node.now c.utf8.text c.requires c.in-Some.reading r c.in-Some-reserved.from c.line_of-in-Some-reserved.result
    c.in_default-unknown.is c.in-Some-reserved.is c.line_of-in-Some-reserved.ensures

pub returns-then-not-reading-clause-refused : goal.returns-then-not-reading-clause-refused
returns-then-not-reading-clause-refused c =
    let r = read_is _ _ _ _ _ c.in-Some.is c.as_slice.ensures.value c.in_ok-reading.ensures.some in
    let unnamed : c.in-Some.reading.findings.names_node ≡ false = cc in
    unnamed_found c.args.text.now c.args.node.now c.utf8.text c.requires c.in-Some.reading r c.in_default-unknown.is c.in_default-reserved.is unnamed

pub returns-then-len-gt-MAX_DOCUMENT-clause-refused : goal.returns-then-len-gt-MAX_DOCUMENT-clause-refused
returns-then-len-gt-MAX_DOCUMENT-clause-refused c =
    let r = read_is _ _ _ _ _ c.in-Some.is c.as_slice.ensures.value c.in_ok-reading.ensures.some in
    let named : c.in-Some.reading.findings.names_node ≡ true = cc in
    let same : c.into_bytes-document.result.items ≡ string_bytes c.in_ok-finish.field-0 = ap vec_items c.into_bytes-document.ensures.value in
    let long : document_limit < length c.into_bytes-document.result.items = omega arith in
    too_long_found c.args.text.now c.args.node.now c.utf8.text c.requires c.in-Some.reading r c.in_default-unknown.is c.in_default-reserved.is named
    c.into_bytes-document.result.items _ same c.in_ok-finish.ensures long

pub returns-in_err-merged-clause-refused : goal.returns-in_err-merged-clause-refused
returns-in_err-merged-clause-refused c =
    let p = err_from_is_err_and c.from_residual-in_err-merged.result c.from_residual-in_err-merged.ensures.1 in
    let r = read_is _ _ _ _ _ c.in-Some.is c.as_slice.ensures.value c.in_ok-reading.ensures.some in
    let named : c.in-Some.reading.findings.names_node ≡ true = cc in
    let same : c.into_bytes-document.result.items ≡ string_bytes c.in_ok-finish.field-0 = ap vec_items c.into_bytes-document.ensures.value in
    let few : length c.into_bytes-document.result.items ≤ document_limit = omega arith in
    handed_on c.from_residual-in_err-merged.result p.0 c.in_err-merged.field-0.0 (Refuses c.args.text.now c.args.node.now) p.1 p.2
    (unmerged_found c.args.text.now c.args.node.now c.utf8.text c.requires c.in-Some.reading r c.in_default-unknown.is c.in_default-reserved.is named
    c.into_bytes-document.result.items _ same c.in_ok-finish.ensures c.in_err-merged.field-0.0 few
    (merges_same _ _ _ c.deref.ensures.value c.in_err-merged.ensures.refused))

pub returns-clause-compiled : goal.returns-clause-compiled
returns-clause-compiled c =
    let r = read_is _ _ _ _ _ c.in-Some.is c.as_slice.ensures.value c.in_ok-reading.ensures.some in
    let named : c.in-Some.reading.findings.names_node ≡ true = cc in
    let same : c.into_bytes-document.result.items ≡ string_bytes c.in_ok-finish.field-0 = ap vec_items c.into_bytes-document.ensures.value in
    let few : length c.into_bytes-document.result.items ≤ document_limit = omega arith in
    compiles_found c.args.text.now c.args.node.now c.utf8.text c.requires c.in-Some.reading r c.in_default-unknown.is c.in_default-reserved.is named
    c.into_bytes-document.result.items _ same c.in_ok-finish.ensures few
    (merged_same _ _ c.deref.ensures.value c.in_ok-merged.ensures.merged)
