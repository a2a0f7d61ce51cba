-- Where the class of an agent is put.
use Rattle.std.proofs.Common.{◌≡◌, ◌==◌, ℕ, suc, if◌then◌else◌, ◌<◌, ◌≤◌, Bool, true, false, List, [], ◌∷◌, ◌++◌, length, slice_set, ap, refl, arith}
use Rattle.agent_class.specs.declared.class.Class.{Class}
use Rattle.fleet_view.specs.declared.member.Member.{Member}
use Rattle.fleet_view.specs.Members.{place_of, with_class}

set_on : (b : Bool) (n agent : ℕ) (class : Class) (m : Member) (ms : List Member) → (if b then 0 else suc n) < suc (length ms)
    → (n < length ms → with_class agent class ms ≡ slice_set ms n (record { agent = agent; class = class }))
    → (if b then record { agent = agent; class = class } ∷ ms else m ∷ with_class agent class ms)
    ≡ slice_set (m ∷ ms) (if b then 0 else suc n) (record { agent = agent; class = class })
set_on true n agent class m ms less same = refl
set_on false n agent class m ms less same = ap (λ (l : List Member). m ∷ l) (same (omega (arith, less)))

pub placed : (agent : ℕ) (class : Class) (ms : List Member) → place_of agent ms < length ms
    → with_class agent class ms ≡ slice_set ms (place_of agent ms) (record { agent = agent; class = class })
placed agent class [] less = absurd (omega (arith, less))
placed agent class (m ∷ ms) less = set_on (m.agent == agent) (place_of agent ms) agent class m ms less (placed agent class ms)

end_on : (b : Bool) (n agent : ℕ) (class : Class) (m : Member) (ms : List Member) → suc (length ms) ≤ (if b then 0 else suc n)
    → (length ms ≤ n → with_class agent class ms ≡ ms ++ record { agent = agent; class = class } ∷ [])
    → (if b then record { agent = agent; class = class } ∷ ms else m ∷ with_class agent class ms) ≡ m ∷ ms ++ record { agent = agent; class = class } ∷ []
end_on true n agent class m ms many same = absurd (omega (arith, many))
end_on false n agent class m ms many same = ap (λ (l : List Member). m ∷ l) (same (omega (arith, many)))

pub at_end : (agent : ℕ) (class : Class) (ms : List Member) → length ms ≤ place_of agent ms
    → with_class agent class ms ≡ ms ++ record { agent = agent; class = class } ∷ []
at_end agent class [] many = refl
at_end agent class (m ∷ ms) many = end_on (m.agent == agent) (place_of agent ms) agent class m ms many (at_end agent class ms)
