use Rattle.std.proofs.Common.{map, string_bytes}
use Rattle.std.proofs.lemmas.Result.{IfOk-at_ok}
use Rattle.serve_words.proofs.Options.{connections, listen, name, shelf, store}
use Rattle.serve_words.proofs.Reading.{has_count, has_text, value_is}
use Rattle.serve_words.proofs.words.serve_words.Goals as goal

pub text_of-requires : goal.text_of-requires
text_of-requires c =
    let rows = IfOk-at_ok _ c.in_ok-matches.was c.parse.ensures.rows in
    let whole = IfOk-at_ok _ c.in_ok-matches.was c.parse.ensures.taken in
    record { given = has_text (map string_bytes c.args.arguments.now) _ rows whole store }

pub text_of-requires-2 : goal.text_of-requires-2
text_of-requires-2 c =
    let rows = IfOk-at_ok _ c.in_ok-matches.was c.parse.ensures.rows in
    let whole = IfOk-at_ok _ c.in_ok-matches.was c.parse.ensures.taken in
    record { given = has_text (map string_bytes c.args.arguments.now) _ rows whole shelf }

pub text_of-requires-3 : goal.text_of-requires-3
text_of-requires-3 c =
    let rows = IfOk-at_ok _ c.in_ok-matches.was c.parse.ensures.rows in
    let whole = IfOk-at_ok _ c.in_ok-matches.was c.parse.ensures.taken in
    record { given = has_text (map string_bytes c.args.arguments.now) _ rows whole listen }

pub connections_of-requires : goal.connections_of-requires
connections_of-requires c =
    let rows = IfOk-at_ok _ c.in_ok-matches.was c.parse.ensures.rows in
    let whole = IfOk-at_ok _ c.in_ok-matches.was c.parse.ensures.taken in
    record { given = has_count (map string_bytes c.args.arguments.now) _ rows whole }

pub returns-clause-taken : goal.returns-clause-taken
returns-clause-taken c =
    let arguments = map string_bytes c.args.arguments.now in
    let rows = IfOk-at_ok _ c.in_ok-matches.was c.parse.ensures.rows in
    let count = c.connections_of.ensures in
    record {
      taken = IfOk-at_ok _ c.in_ok-matches.was c.parse.ensures.taken;
      store = value_is (name store) arguments _ _ rows (IfOk-at_ok _ c.in_ok-text_of.was c.text_of.ensures);
      shelf = value_is (name shelf) arguments _ _ rows (IfOk-at_ok _ c.in_ok-text_of-2.was c.text_of-2.ensures);
      listen = value_is (name listen) arguments _ _ rows (IfOk-at_ok _ c.in_ok-text_of-3.was c.text_of-3.ensures);
      connections = (count.0, value_is (name connections) arguments _ _ rows count.1, count.3);
    }
