-- What was read is what stands there.
use Rattle.std.proofs.Common.{◌≡◌, ◌≢◌, ℕ, Bool, true, false, zero, suc, ◌+◌, ◌-◌, ◌≤◌, ◌<◌, List, [], ◌∷◌, ◌++◌, length, get_or, take, drop, refl, sym, ◌∙◌, ap, subst, arith, Option, Some, None}
use Rattle.std.specs.Prelude.{IfSome, option_map}
use Rattle.std.specs.Int.{w32, to_be_bytes}
use Rattle.std.proofs.lemmas.List.{drop_more, take_all, length-take-le, take-append-le}
use Rattle.gate_log.specs.declared.shape.Shape.{Shape}
use Rattle.gate_log.specs.Text.{Holds, Selects, after_gate, begin, end_of, cells, magic, IsLive, IsBank, FailsFrom}
use Rattle.gate_log.specs.Steps.{StandsAt, ReadUpTo, Unread}
use Rattle.gate_log.specs.Opening.{HandedUpTo, HandedOn, FailsInOrder, no_cell, refused_cell, Untaken}
use Rattle.gate_log.specs.declared.error.LogError.{LogError}
use Rattle.gate_log.specs.declared.error.LogError.TheVariants.{Disk, NotAStore, Memory}
use Rattle.gate_log.proofs.Holds.{holds_both, take_take}
use Rattle.gate_log.proofs.Cells.{cells-push, length-cells-push, fit-push}
use Rattle.std.proofs.Math.Dec.{eqb}
use Rattle.std.proofs.lemmas.Bool.{eqb-true, eqb-false}

cell_here : (largest at : ℕ) (held head body : List ℕ) (n got : ℕ) → length head ≡ 5 → 5 ≤ n → get_or head 0 0 ≡ 165 → to_be_bytes w32 (length body) ≡ drop 1 head → length body ≤ got → length body ≤ largest
    → take n head ≡ take (length head) (drop at held) → take got body ≡ take (length body) (drop (at + 5) held) → StandsAt largest at held (Some body)
unfolding after_gate
cell_here largest at held head body n got five enough gate size all fits first second =
    let is_head : take (length head) (drop at held) ≡ head = sym first ∙ take_all n head (omega arith) in
    let is_body : Holds (at + 5) body held = sym second ∙ take_all got body all in
    let opens : head ≡ 165 ∷ to_be_bytes w32 (length body) = drop_more head 0 0 (omega arith) ∙ ap (λ (g : ℕ). g ∷ drop 1 head) gate ∙ ap (λ (l : List ℕ). 165 ∷ l) (sym size) in
    let there : Holds at (165 ∷ to_be_bytes w32 (length body)) held = subst (λ (l : List ℕ). Holds at l held) opens is_head in
    (fits, holds_both at (165 ∷ to_be_bytes w32 (length body)) body held there is_body)

pub cell_told : (largest at : ℕ) (shown mid : Option (List ℕ)) (head body : List ℕ) (n got : ℕ) → length head ≡ 5 → 5 ≤ n → get_or head 0 0 ≡ 165 → to_be_bytes w32 (length body) ≡ drop 1 head → length body ≤ got → length body ≤ largest
    → IfSome shown (λ held. take n head ≡ take (length head) (drop at held)) → mid ≡ shown → IfSome mid (λ held. take got body ≡ take (length body) (drop (at + 5) held)) → IfSome shown (λ held. StandsAt largest at held (Some body))
cell_told largest at None mid head body n got five enough gate size all fits first same second = tt
cell_told largest at (Some held) mid head body n got five enough gate size all fits first same second =
    cell_here largest at held head body n got five enough gate size all fits first (subst (λ (o : Option (List ℕ)). IfSome o (λ held. take got body ≡ take (length body) (drop (at + 5) held))) same second)

-- the front of a buffer whose items were read anew
pub all_of : (n len : ℕ) (into items : List ℕ) → n ≤ length into → n ≤ len → take n (take len (into ++ drop (length into) items)) ≡ take n into
all_of n len into items enough capacity = take_take n (len - n) len (into ++ drop (length into) items) (omega (arith, capacity)) ∙ take-append-le n into (drop (length into) items) enough

read_more : (shape : Shape) (second : Bool) (at : ℕ) (held : List ℕ) (bodies : List (List ℕ)) (body : List ℕ) → at + 5 + length body < begin shape second + shape.bank → ReadUpTo shape second at held bodies → StandsAt shape.largest at held (Some body)
    → ReadUpTo shape second (at + (length body + 5)) held (bodies ++ body ∷ [])
read_more shape second at held bodies body inside so_far here =
    let from = begin shape second in
    record {
      place = omega (arith, so_far.place, length-cells-push bodies body);
      read = record {
        is = subst (λ (l : List ℕ). Holds from l held) (sym (cells-push bodies body)) (holds_both from (cells bodies) (165 ∷ after_gate body) held so_far.read.is (subst (λ (n : ℕ). Holds n (165 ∷ after_gate body) held) so_far.place here.1));
        within = omega (arith, so_far.place, inside, length-cells-push bodies body);
        fit = fit-push shape.largest bodies body so_far.read.fit here.0;
      };
    }

read_all : (shape : Shape) (second : Bool) (at : ℕ) (held : List ℕ) (bodies : List (List ℕ)) → ReadUpTo shape second at held bodies → StandsAt shape.largest at held None → IsBank shape second at held bodies
read_all shape second at held bodies so_far here = record {
  cells = so_far.read;
  gate = here.0;
  shut = here.1;
  closes = here.2;
  place = so_far.place;
}

told_none : (shape : Shape) (second : Bool) (at : ℕ) (shown : Option (List ℕ)) → 1 ≤ shape.bank → at ≡ begin shape second → IfSome shown (λ held. ReadUpTo shape second at held [])
told_none shape second at None some is = tt
told_none shape second at (Some held) some is = record { place = omega (arith, is); read = record { is = refl; within = some; fit = tt } }

told_more : (shape : Shape) (second : Bool) (at m : ℕ) (shown mid : Option (List ℕ)) (bodies : List (List ℕ)) (body : List ℕ) → length body + 5 ≡ m → at + 5 + length body < begin shape second + shape.bank → IfSome shown (λ held. ReadUpTo shape second at held bodies)
    → mid ≡ shown → IfSome mid (λ held. StandsAt shape.largest at held (Some body)) → IfSome shown (λ held. ReadUpTo shape second (at + m) held (bodies ++ body ∷ []))
told_more shape second at m None mid bodies body size inside so_far same here = tt
told_more shape second at m (Some held) mid bodies body size inside so_far same here =
    let there = subst (λ (o : Option (List ℕ)). IfSome o (λ held. StandsAt shape.largest at held (Some body))) same here in
    let done = read_more shape second at held bodies body inside so_far there in
    subst (λ (n : ℕ). ReadUpTo shape second (at + n) held (bodies ++ body ∷ [])) size done

told_all : (f : ℕ → List ℕ) (shape : Shape) (second : Bool) (at : ℕ) (shown mid : Option (List ℕ)) (bodies : List (List ℕ)) (o : Option ℕ) → o ≡ None → IfSome shown (λ held. ReadUpTo shape second at held bodies)
    → mid ≡ shown → IfSome mid (λ held. StandsAt shape.largest at held (option_map f o)) → IfSome shown (λ held. IsBank shape second at held bodies)
told_all f shape second at None mid bodies o none so_far same here = tt
told_all f shape second at (Some held) mid bodies o none so_far same here =
    let there = subst (λ (m : Option (List ℕ)). IfSome m (λ held. StandsAt shape.largest at held (option_map f o))) same here in
    let gate = subst (λ (p : Option ℕ). StandsAt shape.largest at held (option_map f p)) none there in
    read_all shape second at held bodies so_far gate

-- nothing was handed on at the beginning of a bank
pub handed_none : (shape : Shape) (second : Bool) (at : ℕ) (shown : Option (List ℕ)) (Took : List (List ℕ) → Type 0) → 1 ≤ shape.bank → at ≡ begin shape second → Took [] → HandedUpTo shape second shown Took at
handed_none shape second at shown Took some is took = record { bodies = []; took = took; read = told_none shape second at shown some is }

-- one body more
pub handed_more : (shape : Shape) (second : Bool) (at n : ℕ) (shown mid : Option (List ℕ)) (Took Takes : List (List ℕ) → Type 0) (items body : List ℕ) (so_far : HandedUpTo shape second shown Took at) → body ≡ take n items → n ≤ length items
    → at + 5 + n < begin shape second + shape.bank → mid ≡ shown → IfSome mid (λ held. StandsAt shape.largest at held (Some (take n items))) → Takes (so_far.bodies ++ body ∷ []) → HandedUpTo shape second shown Takes (at + (n + 5))
handed_more shape second at n shown mid Took Takes items body so_far is enough inside same here took =
    let long : length (take n items) ≡ n = length-take-le n items enough in
    record { bodies = so_far.bodies ++ take n items ∷ []; took = subst (λ (l : List ℕ). Takes (so_far.bodies ++ l ∷ [])) is took; read = told_more shape second at (n + 5) shown mid so_far.bodies (take n items) (omega (arith, long)) (omega (arith, long, inside)) so_far.read same here }

-- all of them
pub handed_all : (f : ℕ → List ℕ) (shape : Shape) (second : Bool) (at : ℕ) (shown mid : Option (List ℕ)) (Took : List (List ℕ) → Type 0) (o : Option ℕ) → o ≡ None → HandedUpTo shape second shown Took at
    → mid ≡ shown → IfSome mid (λ held. StandsAt shape.largest at held (option_map f o)) → HandedOn shape second shown Took at
handed_all f shape second at shown mid Took o none so_far same here =
    record { found = so_far.bodies; took = so_far.took; bank = told_all f shape second at shown mid so_far.bodies o none so_far.read same here }

-- ---- where it fails first

-- the grammar, after bodies that were taken
pub unread_cell : (rose later : Type 0) (shape : Shape) (second : Bool) (at limit : ℕ) (shown mid : Option (List ℕ)) (Took : List (List ℕ) → Type 0) (Refused : List (List ℕ) → List ℕ → Type 0) (e : LogError) → HandedUpTo shape second shown Took at
    → mid ≡ shown → limit ≡ begin shape second + shape.bank → (rose → later) → Unread rose mid (FailsFrom shape.largest limit at) e → Unread later shown (FailsInOrder shape second Took Refused) e
unread_cell rose later shape second at limit shown mid Took Refused Disk so_far same is on cause = on cause
unread_cell rose later shape second at limit shown mid Took Refused Memory so_far same is on cause = tt
unread_cell rose later shape second at limit shown mid Took Refused (NotAStore place) so_far same is on cause =
    by shown so_far.read (subst (λ (o : Option (List ℕ)). IfSome o (λ held. FailsFrom shape.largest limit at held place)) same cause)
  where
    by : (o : Option (List ℕ)) → IfSome o (λ held. ReadUpTo shape second at held so_far.bodies) → IfSome o (λ held. FailsFrom shape.largest limit at held place) → IfSome o (λ held. FailsInOrder shape second Took Refused held place)
    by None read fails = tt
    by (Some held) read fails =
        let there = subst (λ (n : ℕ). FailsFrom shape.largest n at held place) is fails in
        no_cell place (record { bodies = so_far.bodies; cells = read.read; fails = subst (λ (n : ℕ). FailsFrom shape.largest (begin shape second + shape.bank) n held place) read.place there }) so_far.took

-- a body that was refused
pub untaken_cell : (later : Type 0) (shape : Shape) (second : Bool) (at n : ℕ) (shown mid : Option (List ℕ)) (Took Takes : List (List ℕ) → Type 0) (Refused : List (List ℕ) → List ℕ → Type 0) (items body : List ℕ) (e : LogError) (so_far : HandedUpTo shape second shown Took at)
    → body ≡ take n items → n ≤ length items → at + 5 + n < begin shape second + shape.bank → mid ≡ shown → IfSome mid (λ held. StandsAt shape.largest at held (Some (take n items))) → Untaken (Refused so_far.bodies body) at e
    → Unread later shown (FailsInOrder shape second Takes Refused) e
untaken_cell later shape second at n shown mid Took Takes Refused items body Disk so_far same_body enough inside same here cause = absurd cause
untaken_cell later shape second at n shown mid Took Takes Refused items body Memory so_far same_body enough inside same here cause = tt
untaken_cell later shape second at n shown mid Took Takes Refused items body (NotAStore place) so_far same_body enough inside same here cause =
    by shown so_far.read (subst (λ (o : Option (List ℕ)). IfSome o (λ held. StandsAt shape.largest at held (Some (take n items)))) same here)
  where
    by : (o : Option (List ℕ)) → IfSome o (λ held. ReadUpTo shape second at held so_far.bodies) → IfSome o (λ held. StandsAt shape.largest at held (Some (take n items))) → IfSome o (λ held. FailsInOrder shape second Takes Refused held place)
    by None read there = tt
    by (Some held) read there =
        let long : length (take n items) ≡ n = length-take-le n items enough in
        let more = read_more shape second at held so_far.bodies (take n items) (omega (arith, long, inside)) read there in
        let is : end_of shape second so_far.bodies + 5 ≡ place = omega (arith, read.place, cause.0) in
        subst (λ (p : ℕ). FailsInOrder shape second Takes Refused held p) is (refused_cell so_far.bodies (take n items) more.read (subst (λ (l : List ℕ). Refused so_far.bodies l) same_body cause.1))

-- the gate that was read
pub gate_told : (largest at : ℕ) (shown : Option (List ℕ)) (head : List ℕ) (n : ℕ) → length head ≡ 5 → 1 ≤ n → get_or head 0 0 ≢ 165
    → IfSome shown (λ held. take n head ≡ take (length head) (drop at held)) → IfSome shown (λ held. StandsAt largest at held None)
gate_told largest at None head n five some shut first = tt
gate_told largest at (Some held) head n five some shut first = (get_or head 0 0, shut, gate_here at held head n five some first)
  where
    gate_here : (at : ℕ) (held head : List ℕ) (n : ℕ) → length head ≡ 5 → 1 ≤ n → take n head ≡ take (length head) (drop at held) → Holds at (get_or head 0 0 ∷ []) held
    gate_here at held [] n five some first = absurd (cc five)
    gate_here at held (x ∷ xs) n five some first = one (drop at held) n some first
      where
        one : (l : List ℕ) (n : ℕ) → 1 ≤ n → take n (x ∷ xs) ≡ take (length (x ∷ xs)) l → take 1 l ≡ x ∷ []
        one [] zero some is = absurd (omega arith)
        one [] (suc n) some is = cc is
        one (y ∷ l) zero some is = absurd (omega arith)
        one (y ∷ l) (suc n) some is = ap (λ (z : ℕ). z ∷ []) (cc is)

-- the head that was read
pub head_told : (shown mid : Option (List ℕ)) (head into : List ℕ) (n m : ℕ) (second : Bool) → head ≡ magic → 7 ≤ n → IfSome shown (λ held. take n head ≡ take (length head) (drop 0 held)) → mid ≡ shown
    → length into ≡ 1 → 1 ≤ m → IfSome mid (λ held. take m into ≡ take (length into) (drop 7 held)) → Selects (get_or into 0 0) second → IfSome shown (IsLive second)
head_told None mid head into n m second is enough first same one some next selects = tt
head_told (Some held) mid head into n m second is enough first same one some next selects =
    let there = subst (λ (o : Option (List ℕ)). IfSome o (λ held. take m into ≡ take (length into) (drop 7 held))) same next in
    let seven : length head ≡ 7 = ap length is in
    let whole : take (length into) (drop 7 held) ≡ into = sym there ∙ take_all m into (omega arith) in
    let single : into ≡ get_or into 0 0 ∷ [] = alone into one in
    record {
      selector = get_or into 0 0;
      head = ap (λ (k : ℕ). take k held) (sym seven) ∙ sym first ∙ take_all n head (omega arith) ∙ is;
      selected = subst (λ (l : List ℕ). Holds 7 l held) single whole;
      selects = selects;
    }
  where
    alone : (l : List ℕ) → length l ≡ 1 → l ≡ get_or l 0 0 ∷ []
    alone [] is = absurd (cc is)
    alone (x ∷ []) is = refl
    alone (x ∷ y ∷ l) is = absurd (omega arith)

selects_by : (selector : ℕ) (test : Bool) → eqb selector 50 ≡ test → Selects selector test
selects_by selector true is = eqb-true selector 50 is
selects_by selector false is = eqb-false selector 50 is

pub selects_tested : (selector : ℕ) → Selects selector (eqb selector 50)
selects_tested selector = selects_by selector (eqb selector 50) refl
