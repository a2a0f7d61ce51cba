-- What is seen of one content more.
use Rattle.std.proofs.Common.{◌≡◌, ◌++◌, ◌∷◌, [], ℕ, List, Option, Some, None, IfSome, option_map, refl, sym, ◌∙◌, ap, subst}
use Rattle.std.specs.List.{AllByRecursion}
use Rattle.sha2.specs.Sha256.{sha256}
use Rattle.pull_outside.specs.Shelf.{Contents}
use Rattle.pull_server.specs.declared.seen.Seen.{Seen}
use Rattle.pull_server.specs.Contents.{content_for}
use Rattle.pull_server.specs.SeenContents.{IsSeen}

pub all_push : (P : Seen → Type 0) (seen : List Seen) (more : Seen) → AllByRecursion P seen → P more → AllByRecursion P (seen ++ more ∷ [])
all_push P [] more all one = (one, tt)
all_push P (first ∷ seen) more all one = (all.0, all_push P seen more all.1 one)

digest_of : (held : Option (List ℕ)) (digest : List ℕ) → IfSome (option_map (λ (d : List ℕ). digest) held) (λ d. d ≡ digest)
digest_of None digest = tt
digest_of (Some held) digest = refl

-- a content that was found, with its digest where one is held
pub is_seen : (contents : Contents) (names : List (List ℕ)) (name other content : List ℕ) (held digest : Option (List ℕ)) → name ≡ other
    → Some content ≡ content_for contents names other → digest ≡ option_map (λ (d : List ℕ). sha256 content) held → IsSeen contents names (record { name = name; digest = digest })
is_seen contents names name other content held digest same found is =
    (content, ap (content_for contents names) same ∙ sym found, subst (λ (o : Option (List ℕ)). IfSome o (λ d. d ≡ sha256 content)) (sym is) (digest_of held (sha256 content)))
