-- Lists of parts that a node holds already, and bytes that are theirs.
use Rattle.std.proofs.Common.{◌≡◌, ◌∙◌, ◌≤◌, ◌-◌, inl, inr, ℕ, Bool, true, List, [], ◌∷◌, ◌++◌, take, drop, get_or, length, arith, Bor, Option, Some, None, is_some, refl, sym, ap, subst, append_assoc}
use Rattle.std.specs.Prelude.{◌≢◌, ◌↔◌, IfSome, MatchOption}
use Rattle.std.specs.List.{flat_map}
use Rattle.std.proofs.lemmas.List.{append_cancel_left, take_all}
use Rattle.std.proofs.lemmas.List.Concat.{flat_map-cons}
use Rattle.std.proofs.lemmas.Option.{none-some}
use Rattle.partial_merge.specs.declared.part.Part.{Part}
use Rattle.node_state.specs.declared.node.Node.{Node}
use Rattle.node_state.specs.declared.event.Event.TheVariants as events
use Rattle.node_state.specs.declared.event.Why.TheVariants.{NoAgent}
use Rattle.node_state.specs.declared.list.Staged.{Staged}
use Rattle.node_state.specs.Lists.{IsStaged}
use Rattle.node_state.specs.Sound.{Sound}
use Rattle.node_state.specs.Table.{check}
use Rattle.node_store.specs.declared.body.Body.TheVariants as bodies
use Rattle.node_store.specs.Held.{AreBytesOf, Holds, StagesHeld}
use Rattle.node_store.specs.Parts.{bytes_of_part, IsPart}
use Rattle.node_store.specs.Split.{front_of_part}
use Rattle.node_store.specs.Taking.{Moves}
use Rattle.node_store.proofs.Split.{part_whole}

-- what is left begins with its first, and goes on with the others
pub left_is : {X : Type 0} (xs : List X) (x : X) → 1 ≤ length xs → x ≡ get_or xs 0 x → xs ≡ x ∷ take (length xs - 1) (drop 1 xs)
left_is [] x some is = absurd (omega (arith, some))
left_is (y ∷ ys) x some is = λ i. sym is i ∷ sym (take_all (length (y ∷ ys) - 1) ys (omega arith)) i

-- ---- a part in front

module _ (part : Part) (bytes : List ℕ) where
  opened : (rest : List ℕ) → bytes ≡ bytes_of_part part ++ rest → bytes ≡ front_of_part part ++ (part.bytes ++ rest)
  opened rest is = is ∙ ap (λ (l : List ℕ). l ++ rest) (sym (part_whole part)) ∙ append_assoc (front_of_part part) part.bytes rest

  pub no_front_of_part : ((rest : List ℕ) → bytes ≢ front_of_part part ++ rest) → (rest : List ℕ) → bytes ≢ bytes_of_part part ++ rest
  no_front_of_part none rest is = none (part.bytes ++ rest) (opened rest is)

  -- the part stands there, where its document follows its front
  pub after_front : (rest : List ℕ) (found : Option (Bor (List ℕ))) → IsPart part → bytes ≡ front_of_part part ++ rest
      → MatchOption found ((more : List ℕ) → rest ≢ part.bytes ++ more) (λ x. rest ≡ part.bytes ++ x.now)
      → MatchOption found ((more : List ℕ) → bytes ≢ bytes_of_part part ++ more) (λ x. IsPart part × (bytes ≡ bytes_of_part part ++ x.now))
  after_front rest None range front none = λ more is.
      none more (append_cancel_left (front_of_part part) rest (part.bytes ++ more) (sym front ∙ opened more is))
  after_front rest (Some x) range front is = (
    range,
    front ∙ ap (λ (l : List ℕ). front_of_part part ++ l) is ∙ sym (append_assoc (front_of_part part) part.bytes x.now) ∙ ap (λ (l : List ℕ). l ++ x.now) (part_whole part),
  )

-- ---- parts, one after the other

pub more_bytes : (part : Part) (parts : List Part) (bytes more : List ℕ) → IsPart part → bytes ≡ bytes_of_part part ++ more → AreBytesOf (part ∷ parts) bytes ↔ AreBytesOf parts more
more_bytes part parts bytes more range is = (
  λ are. (are.0.1, append_cancel_left (bytes_of_part part) more (flat_map bytes_of_part parts) (sym is ∙ are.1 ∙ flat_map-cons bytes_of_part part parts)),
  λ are. ((range, are.0), is ∙ ap (λ (l : List ℕ). bytes_of_part part ++ l) are.1 ∙ sym (flat_map-cons bytes_of_part part parts)),
)

-- ---- the slots of a node

pub held_is_staged : (node : Node) (parts : List Part) → Sound node → Holds node parts → IsStaged parts
held_is_staged node parts sound (inl is) = subst (λ (slot : Option (List Part)). IfSome slot IsStaged) is sound.pending
held_is_staged node parts sound (inr (inl is)) = subst (λ (slot : Option (List Part)). IfSome slot IsStaged) is sound.current
held_is_staged node parts sound (inr (inr is)) = subst (λ (slot : Option (List Part)). IfSome slot IsStaged) is sound.previous

-- a node that holds a list has an agent
held_has_agent : (node : Node) (parts : List Part) → Sound node → Holds node parts → is_some node.agent ≡ true
held_has_agent node parts sound holds = by node.agent refl
  where
    bare : (slot : Option (List Part)) → slot ≡ None → slot ≡ Some parts → ⊥
    bare slot none some = none-some parts (sym none ∙ some)

    none_held : node.agent ≡ None → Holds node parts → ⊥
    none_held is (inl some) = bare node.pending (sound.bare is).pending some
    none_held is (inr (inl some)) = bare node.current (sound.bare is).current some
    none_held is (inr (inr some)) = bare node.previous (sound.bare is).previous some

    by : (agent : Option ℕ) → node.agent ≡ agent → is_some agent ≡ true
    by (Some agent) is = refl
    by None is = absurd (none_held is holds)

-- ---- the step

-- a list that the node holds is staged again
pub moved_again : (old new : Node) (begun after : Bool) (body : List ℕ) (parts : List Part) → Sound old → StagesHeld old body parts → new ≡ record old { pending = Some parts } → after ≡ true
    → Moves old begun body new after
moved_again old new begun after body parts sound again is flag =
    let staged : Staged = record { parts = parts; whole = held_is_staged old parts sound again.held.holds } in
    record {
      of = bodies.Event (events.Stage staged);
      is = (again.is ∙ ap (λ (l : List ℕ). 4 ∷ l) again.held.whole.is, again.held.whole.in_range, tt);
      goes = (record { within = tt; allowed = ap (λ (b : Bool). check b NoAgent None) (held_has_agent old parts sound again.held.holds); is = is }, flag);
    }
