-- The laws of the table.
use Rattle.std.proofs.Common.{◌≡◌, ◌⊎◌, inl, inr, ◌&&◌, ℕ, nat_le, Bool, true, false, is_none, List, [], ◌∷◌, Option, Some, None, refl, sym, ◌∙◌, ap}
use Rattle.std.proofs.lemmas.Bool.{false≢true}
use Rattle.std.proofs.lemmas.Option.{same_Some}
use Rattle.pull_store.specs.Rows.{most_rows}
use Rattle.pull_server.specs.Answers.{reply_of}
use Rattle.pull_server.specs.Asked.{Asked, on}
use Rattle.pull_server.specs.Own.{IsFirst, is_shared, own_outcome}
use Rattle.pull_server.specs.Table.{Outcome, Rule, bad_message, bad_target, first, is_node, no_name, no_place, no_capacity, no_row, not_signed, not_there, or_else, outcome_of, says, spent, table, target, unknown_method, where_, wrong_method, wrong_version}

pub chosen : (x y : Option Outcome) (o : Outcome) → or_else x y ≡ Some o → (x ≡ Some o) ⊎ ((x ≡ None) × (y ≡ Some o))
chosen None y o is = inr (refl, is)
chosen (Some p) y o is = inl is

pub first_is : (rules : List Rule) (a : Asked) (o : Outcome) → first rules a ≡ Some o → IsFirst rules a o
first_is [] a o is = absurd (cc is)
first_is (rule ∷ rules) a o is = elim (chosen (rule a) (first rules a) o is) [
  | inl here ↦ record { before = []; rule = rule; after = rules; split = refl; none = tt; gives = here }
  | inr later ↦ let rest = first_is rules a o later.1 in
      record { before = rule ∷ rest.before; rule = rest.rule; after = rest.after; split = ap (λ (l : List Rule). rule ∷ l) rest.split; none = (later.0, rest.none); gives = rest.gives }
]

pub first_decides : (a : Asked) (o : Outcome) → outcome_of a ≡ Some o → IsFirst table a o
unfolding outcome_of
first_decides a o is = first_is table a o is

-- a row that does not give this outcome may be left out
left_out : (x y : Option Outcome) (o : Outcome) → or_else x y ≡ Some o → (x ≡ Some o → ⊥) → y ≡ Some o
left_out x y o is never = elim (chosen x y o is) [ inl here ↦ absurd (never here) | inr later ↦ later.1 ]

kept_in : (x y z : Option Outcome) (o : Outcome) → or_else x y ≡ Some o → (y ≡ Some o → z ≡ Some o) → or_else x z ≡ Some o
kept_in None y z o is f = f is
kept_in (Some p) y z o is f = is

where_says : (b : Bool) (code : ℕ) (o : Outcome) → where_ b (says code []) ≡ Some o → (reply_of o).code ≡ code
where_says true code o is = ap (λ (p : Outcome). (reply_of p).code) (sym (same_Some _ _ is))
where_says false code o is = absurd (cc is)

on_says : {X : Type 0} (x : Option X) (test : X → Bool) (code : ℕ) (o : Outcome) → on x (λ v. where_ (test v) (says code [])) ≡ Some o → (reply_of o).code ≡ code
on_says None test code o is = absurd (cc is)
on_says (Some v) test code o is = where_says (test v) code o is

never_shared : (o : Outcome) (code : ℕ) → is_shared code ≡ true → is_shared (reply_of o).code ≡ false → (reply_of o).code ≡ code → ⊥
never_shared o code shared isnt same = false≢true (sym isnt ∙ ap is_shared same ∙ shared)

-- where a reply is none of what is shared, it is the agent's own
pub own : (a : Asked) (o : Outcome) → outcome_of a ≡ Some o → is_shared (reply_of o).code ≡ false → own_outcome a.request a.aim a.row a.shelf ≡ Some o
unfolding outcome_of own_outcome
own a o is isnt =
    kept_in (unknown_method a) _ _ o is (λ h1. kept_in (bad_target a) _ _ o h1 (λ h2. kept_in (wrong_method a) _ _ o h2 (λ h3. kept_in (wrong_version a) _ _ o h3 (λ h4.
    kept_in (not_signed a) _ _ o h4 (λ h5. kept_in (no_row a) _ _ o h5 (λ h6. kept_in (bad_message a) _ _ o h6 (λ h7. kept_in (no_name a) _ _ o h7 (λ h8. kept_in (not_there a) _ _ o h8 (λ h9.
    let h10 = left_out (spent a) _ o h9 (λ h. never_shared o 500 refl isnt (where_says a.spent 500 o h)) in
    let h11 = left_out (no_place a) _ o h10 (λ h. never_shared o 503 refl isnt (on_says (target a) (λ t. is_node t && (is_none a.row && nat_le most_rows a.count)) 503 o h)) in
    left_out (no_capacity a) _ o h11 (λ h. never_shared o 507 refl isnt (where_says a.full 507 o h)))))))))))
