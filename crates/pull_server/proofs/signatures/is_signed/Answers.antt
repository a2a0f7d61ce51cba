use Rattle.std.proofs.Common.{rules, ◌≡◌, ◌∙◌, false, Some, None, codes, sym, ap, is_some, take, List, ℕ}
use Rattle.shared_key.specs.Signature.{first_signer}
use Rattle.pull_server.specs.Signed.{after_front, is_signed, most_keys, single}
use Rattle.pull_server.proofs.Keys.{undated, unauthorized, unshared, signed_by}
use Rattle.pull_server.proofs.Shelves.{of_all, then_of}
use Rattle.pull_server.proofs.signatures.is_signed.Goals as goal

pub returns-in_default-clause-signed : goal.returns-in_default-clause-signed
returns-in_default-clause-signed g c =
    let dated : single (codes "x-ms-date") c.args.request.now.headers ≡ None = search rules in
    of_all (λ contents. false ≡ is_signed contents.keys c.args.request.now) (g.S.Shelf.holds c.args.shelf.now) (λ contents. sym (undated contents.keys c.args.request.now dated))

pub returns-in_default-single-clause-signed : goal.returns-in_default-single-clause-signed
returns-in_default-single-clause-signed g c =
    let dated : single (codes "x-ms-date") c.args.request.now.headers ≡ Some c.in-Some.date.now = search rules in
    let authorized : single (codes "Authorization") c.args.request.now.headers ≡ None = search rules in
    of_all (λ contents. false ≡ is_signed contents.keys c.args.request.now) (g.S.Shelf.holds c.args.shelf.now)
    (λ contents. sym (unauthorized contents.keys c.args.request.now c.in-Some.date.now dated authorized))

pub returns-in_default-after_shared-clause-signed : goal.returns-in_default-after_shared-clause-signed
returns-in_default-after_shared-clause-signed g c =
    let dated : single (codes "x-ms-date") c.args.request.now.headers ≡ Some c.in-Some.date.now = search rules in
    let authorized : single (codes "Authorization") c.args.request.now.headers ≡ Some c.in-Some-single.value.now = search rules in
    let none : after_front (codes "Shared ") c.in-Some-single.value.now ≡ None = search rules in
    of_all (λ contents. false ≡ is_signed contents.keys c.args.request.now) (g.S.Shelf.holds c.args.shelf.now)
    (λ contents. sym (unshared contents.keys c.args.request.now c.in-Some.date.now c.in-Some-single.value.now dated authorized none))

pub returns-clause-signed : goal.returns-clause-signed
returns-clause-signed g c =
    let dated : single (codes "x-ms-date") c.args.request.now.headers ≡ Some c.in-Some.date.now = search rules in
    let authorized : single (codes "Authorization") c.args.request.now.headers ≡ Some c.in-Some-single.value.now = search rules in
    let shared : after_front (codes "Shared ") c.in-Some-single.value.now ≡ Some c.in-Some-after_shared.signature.now = search rules in
    let is : c.is_some.result ≡ is_some (first_signer c.in_ok-keys.keys.items c.args.request.now.body c.in-Some.date.now c.in-Some-after_shared.signature.now) = search rules in
    then_of (λ contents. c.in_ok-keys.keys.items ≡ take most_keys contents.keys) (λ contents. c.is_some.result ≡ is_signed contents.keys c.args.request.now)
    (g.S.Shelf.holds c.args.shelf.now) c.in_ok-keys.ensures.keys
    (λ contents keys. is ∙ ap (λ (ks : List (List ℕ)). is_some (first_signer ks c.args.request.now.body c.in-Some.date.now c.in-Some-after_shared.signature.now)) keys
    ∙ sym (signed_by contents.keys c.args.request.now c.in-Some.date.now c.in-Some-single.value.now c.in-Some-after_shared.signature.now dated authorized shared))
