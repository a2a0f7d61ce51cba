use Rattle.std.proofs.Common.{◌∙◌, ◌∷◌, [], if◌then◌else◌, codes, option_map, ℕ, List, Option, Bool, refl, sym, ap, subst}
use Rattle.std.specs.List.{AllByRecursion}
use Rattle.std.proofs.lemmas.Slice.{pushed}
use Rattle.sha2.specs.Sha256.{sha256}
use Rattle.shared_key.specs.Checksum.{spelled_digest}
use Rattle.pull_server.specs.declared.seen.Seen.{Seen}
use Rattle.pull_server.specs.Actions.{is_digest, status_with}
use Rattle.pull_server.specs.SeenContents.{IsSeen}
use Rattle.pull_server.proofs.Looks.{all_push, is_seen}
use Rattle.pull_server.proofs.acting.status_for.Goals as goal

pub returns-in-Some-clause-status : goal.returns-in-Some-clause-status
returns-in-Some-clause-status g c = λ contents holds all.
    let known = c.in-Some.ensures contents c.args.names.now (subst (AllByRecursion (IsSeen contents c.args.names.now)) (sym c.deref.ensures.value) all) in
    let held = c.read_checksum-held.ensures.value ∙ ap spelled_digest (c.as_bytes.ensures.value ∙ c.in_ok-text.ensures) in
    c.status_of.ensures
    ∙ ap (λ (b : Bool). if b then codes "Ok" else codes "GetConfiguration") (known.2 ∙ ap (λ (h : Option (List ℕ)). is_digest h known.0) held)
    ∙ sym (ap (status_with c.args.client.now.checksum) known.1)

pub returns-clause-seen : goal.returns-clause-seen
returns-clause-seen g c = λ contents holds all.
    let P = IsSeen contents c.args.names.now in
    let content = c.in-Some-2.content.items in
    let found = ap (option_map (λ v. v.items)) (sym c.in-Some-2.is) ∙ c.in_ok-content.ensures.content contents holds in
    let digest = c.digest_for-digest.ensures.digest ∙ ap (λ (bytes : List ℕ). option_map (λ (d : List ℕ). sha256 bytes) c.read_checksum-held.result) c.deref-2.ensures.value in
    let more : Seen = record { name = c.in_ok-name.name; digest = c.digest_for-digest.result } in
    subst (AllByRecursion P) (sym (pushed (more ∷ []) refl c.in_ok-push.was c.push.ensures.items))
    (all_push P c.args.seen.now.items more all
    (is_seen contents c.args.names.now c.in_ok-name.name c.args.client.now.name content c.read_checksum-held.result c.digest_for-digest.result c.in_ok-name.ensures found digest))
