-- A run and one turn more.
use Rattle.std.proofs.Common.{◌≡◌, inl, inr, ⊎_elim, ℕ, ◌+◌, suc, false, List, [], ◌∷◌, ◌++◌, map, length, Option, Some, None, refl, sym, ◌∙◌, ap, subst, arith, append-nil, append_assoc}
use Rattle.std.proofs.lemmas.List.{length-append}
use Rattle.std.specs.Io.KnownBytes.{Appends}
use Rattle.std.proofs.KnownBytes.{Appends-trans}
use Rattle.dsc_outside.specs.declared.disk.Disk.{Ghosts}
use Rattle.dsc_outside.proofs.Moments.{started, then_on, weaker}
use Rattle.gate_log.specs.Standing.{StandsAtAnyMoment, StandsFor}
use Rattle.pull_outside.specs.Door.{GetsBack, HandedBack, Known, TakesFirst}
use Rattle.pull_outside.specs.Shelf.{Contents}
use Rattle.pull_exchange.specs.declared.exchange.Received.{Received}
use Rattle.pull_exchange.specs.declared.exchange.Received.TheVariants as received
use Rattle.dsc_outside.specs.Streams.{AppendsPart}
use Rattle.pull_store.specs.declared.row.Row.{Row}
use Rattle.pull_store.specs.Stands.{Stands}
use Rattle.pull_store.specs.Store.{IsKept, StoreTerm, is_spent}
use Rattle.pull_store.proofs.Committed.{kept_stands}
use Rattle.pull_serving.specs.declared.connection.ConnectionEnd.{ConnectionEnd}
use Rattle.pull_serving.specs.Printing.{IsCutOff, line, lines}
use Rattle.pull_serving.specs.Turn.{Answering, IsTurn, MayLeave, State, Turn, state}
use Rattle.pull_serving.specs.Turns.{Doorway, Gave, GoesWith, IsRun, IsStep, Lasts, Passes, Runs, Took, Visits, came, handed_back}

runs_push : (how : Answering) (shelf : Option Contents) (first : State) (ts : List Turn) (mid : State) (t : Turn) → Runs how shelf first ts mid → t.before ≡ mid → is_spent mid.store ≡ false → IsTurn how shelf t
    → Runs how shelf first (ts ++ t ∷ []) t.after
runs_push how shelf first [] mid t runs before fresh is = (before ∙ runs, subst (λ (s : State). is_spent s.store ≡ false) runs fresh, is, refl)
runs_push how shelf first (u ∷ ts) mid t runs before fresh is = (runs.0, runs.1, runs.2, runs_push how shelf u.after ts mid t runs.3 before fresh is)

map_push : {X Y : Type 0} (f : X → Y) (xs : List X) (x : X) → map f (xs ++ x ∷ []) ≡ map f xs ++ f x ∷ []
map_push f [] x = refl
map_push f (y ∷ xs) x = ap (λ l. f y ∷ l) (map_push f xs x)

from_first : (known rest : List Known) (new : Option (List Known)) (ts : List Turn) (t : Turn) → known ≡ map came ts ++ rest → TakesFirst (Some rest) new t.came → Took (Some known) new (ts ++ t ∷ [])
from_first known [] new ts t is takes = absurd takes
from_first known (k ∷ rest) new ts t is takes = (
  rest,
  is ∙ ap (λ (l : Known). map came ts ++ l ∷ rest) (sym takes.0) ∙ sym (append_assoc (map came ts) (t.came ∷ []) rest)
      ∙ ap (λ (l : List Known). l ++ rest) (sym (map_push came ts t)),
  takes.1,
)

took_push : (old mid new : Option (List Known)) (ts : List Turn) (t : Turn) → Took old mid ts → TakesFirst mid new t.came → Took old new (ts ++ t ∷ [])
took_push None mid new ts t took takes = subst (λ (o : Option (List Known)). TakesFirst o new t.came) took takes
took_push (Some known) mid new ts t took takes =
    let first = subst (λ (o : Option (List Known)). TakesFirst o new t.came) took.2 takes in
    from_first known took.0 new ts t took.1 first

abbrev some_handed_back : List HandedBack → Option (List HandedBack)
some_handed_back l = Some l

gave_push : (old mid new : Option (List HandedBack)) (ts : List Turn) (t : Turn) → Gave old mid ts → GetsBack mid new (handed_back t) → Gave old new (ts ++ t ∷ [])
gave_push None mid new ts t gave gets = subst (λ (o : Option (List HandedBack)). GetsBack o new (handed_back t)) gave gets
gave_push (Some before) mid new ts t gave gets =
    let now : new ≡ Some ((before ++ map handed_back ts) ++ handed_back t ∷ []) = subst (λ (o : Option (List HandedBack)). GetsBack o new (handed_back t)) gave gets in
    now ∙ ap some_handed_back (append_assoc before (map handed_back ts) (handed_back t ∷ []) ∙ ap (λ (l : List HandedBack). before ++ l) (sym (map_push handed_back ts t)))

lines_push : (n : ℕ) (ts : List Turn) (t : Turn) → lines n (ts ++ t ∷ []) ≡ lines n ts ++ line (n + length ts) t.end
lines_push n [] t = append-nil (line n t.end) ∙ ap (λ (m : ℕ). line m t.end) (omega arith)
lines_push n (u ∷ ts) t =
    ap (λ (l : List ℕ). line n u.end ++ l) (lines_push (suc n) ts t) ∙ sym (append_assoc (line n u.end) (lines (suc n) ts) (line (suc n + length ts) t.end))
    ∙ ap (λ (m : ℕ). (line n u.end ++ lines (suc n) ts) ++ line m t.end) (omega arith)

-- whatever was received, the rows may stay
pub may_stay : (shelf : Option Contents) (r : Received) (store : StoreTerm) → MayLeave shelf r store store.rows
may_stay shelf (received.Request request) store = inl refl
may_stay shelf (received.Refused e) store = refl
may_stay shelf (received.Torn at) store = refl
may_stay shelf received.ReadFault store = refl
may_stay shelf received.Memory store = refl

stays : (shelf : Option Contents) (r : Received) (store : StoreTerm) (c : List ℕ) → StandsFor Stands (λ rows. rows ≡ store.rows) c → StandsFor Stands (MayLeave shelf r store) c
stays shelf r store c s = record { value = s.value; stands = s.stands; has = subst (λ (rows : List Row). MayLeave shelf r store rows) (sym s.has) (may_stay shelf r store) }

visits_earlier : (how : Answering) (shelf : Option Contents) (first : State) (ts : List Turn) (mid : State) (t : Turn) (c : List ℕ) → Runs how shelf first ts mid → t.before ≡ mid
    → Visits shelf first ts c → Visits shelf first (ts ++ t ∷ []) c
visits_earlier how shelf first [] mid t c runs before stands = inl (stays shelf t.received t.before.store c (subst (λ (s : State). StandsFor Stands (λ rows. rows ≡ s.store.rows) c) (sym runs ∙ sym before) stands))
visits_earlier how shelf first (u ∷ ts) mid t c runs before (inl here) = inl here
visits_earlier how shelf first (u ∷ ts) mid t c runs before (inr later) = inr (visits_earlier how shelf u.after ts mid t c runs.3 before later)

visits_last : (shelf : Option Contents) (first : State) (ts : List Turn) (t : Turn) (c : List ℕ) → StandsFor Stands (MayLeave shelf t.received t.before.store) c → Visits shelf first (ts ++ t ∷ []) c
visits_last shelf first [] t c stands = inl stands
visits_last shelf first (u ∷ ts) t c stands = inr (visits_last shelf u.after ts t c stands)

lasts_push : {D : Type 0} (how : Answering) (d : Ghosts D) (mid new : D) (shelf : Option Contents) (first half : State) (ts : List Turn) (t : Turn) → Runs how shelf first ts half → t.before ≡ half
    → Lasts shelf (d.moment mid) (d.left_since mid) ts → StandsAtAnyMoment d mid new Stands (MayLeave shelf t.received t.before.store) → t.after.moment ≡ d.moment new
    → (is_spent t.after.store ≡ false → (c : List ℕ) → d.left_since new t.after.moment c → StandsFor Stands (λ rows. rows ≡ t.after.store.rows) c)
    → Lasts shelf (d.moment new) (d.left_since new) (ts ++ t ∷ [])
lasts_push how d mid new shelf first half [] t runs before lasts run ends stands = (omega (arith, ends), stands, tt)
lasts_push how d mid new shelf first half (u ∷ ts) t runs before lasts run ends stands = (
  omega (arith, lasts.0, run.later),
  (λ unspent c here. ⊎_elim (λ past. visits_earlier how shelf u.after ts half t c runs.3 before (lasts.1 unspent c past)) (λ now. visits_last shelf u.after ts t c now) (run.before u.after.moment c lasts.0 here)),
  lasts_push how d mid new shelf u.after half ts t runs.3 before lasts.2 run ends stands,
)

passes_push : {D : Type 0} (d : Ghosts D) (shelf : Option Contents) (old mid new : D) (ts : List Turn) (t : Turn) → Passes d shelf old ts mid → GoesWith d shelf mid new t → Passes d shelf old (ts ++ t ∷ []) new
passes_push d shelf old mid new [] t passes goes = (new, subst (λ x. GoesWith d shelf x new t) passes goes, refl)
passes_push d shelf old mid new (u ∷ ts) t passes goes = (passes.0, passes.1, passes_push d shelf passes.0 mid new ts t passes.2 goes)

took_none : (coming : Option (List Known)) → Took coming coming []
took_none None = refl
took_none (Some known) = (known, refl, refl)

gave_none : (back : Option (List HandedBack)) → Gave back back []
gave_none None = refl
gave_none (Some before) = ap some_handed_back (sym (append-nil before))

-- no turn yet
pub run_start : {D : Type 0} (how : Answering) (d : Ghosts D) (disk : D) (store : StoreTerm) (shelf : Option Contents) (shelf_faults : ℕ) (door : Doorway) (Printed : List Turn → Type 0)
    → ((c : List ℕ) → d.left_since disk (d.moment disk) c → d.images disk c) → IsKept d disk store → Printed []
    → IsRun how d disk disk shelf (state d disk store shelf_faults) (state d disk store shelf_faults) door door Printed
run_start how d disk store shelf shelf_faults door Printed now kept printed = record {
  turns = [];
  runs = refl;
  took = took_none door.coming;
  gave = gave_none door.back;
  none_out = refl;
  printed = printed;
  passes = refl;
  any_moment = started d.moment d.left_since disk (Visits shelf (state d disk store shelf_faults) []) (λ c here. kept_stands d disk store kept c (now c here));
  lasts = tt;
}

-- one turn more
pub run_push : {D : Type 0} (how : Answering) (d : Ghosts D) (old mid new : D) (shelf now : Option Contents) (first half last : State) (door door1 door2 : Doorway) (end : ConnectionEnd) (Before After : List Turn → Type 0)
    → IsRun how d old mid shelf first half door door1 Before → IsStep how d mid new now half last door1 door2 end → now ≡ shelf
    → ((ts : List Turn) (t : Turn) → Before ts → t.end ≡ end → After (ts ++ t ∷ []))
    → IsRun how d old new shelf first last door door2 After
run_push how d old mid new shelf now first half last door door1 door2 end Before After run stepped same printed =
    let step = subst (λ (s : Option Contents). IsStep how d mid new s half last door1 door2 end) same stepped in
    let turns = run.turns ++ step.turn ∷ [] in
    record {
      turns = turns;
      runs = subst (λ (s : State). Runs how shelf first turns s) step.leaves (runs_push how shelf first run.turns half step.turn run.runs step.starts step.fresh step.is_turn);
      took = took_push door.coming door1.coming door2.coming run.turns step.turn run.took step.took;
      gave = gave_push door.back door1.back door2.back run.turns step.turn run.gave step.gave;
      none_out = step.none_out ∙ run.none_out;
      printed = printed run.turns step.turn run.printed step.ends;
      passes = passes_push d shelf old mid new run.turns step.turn run.passes step.goes;
      any_moment = then_on d.moment d.left_since old mid new (Visits shelf first turns) (StandsFor Stands (MayLeave shelf step.turn.received step.turn.before.store))
          (weaker d.moment d.left_since old mid (Visits shelf first run.turns) (Visits shelf first turns) run.any_moment (λ c here. visits_earlier how shelf first run.turns half step.turn c run.runs step.starts here))
          step.goes.any_moment (λ c here. visits_last shelf first run.turns step.turn c here);
      lasts = lasts_push how d mid new shelf first half run.turns step.turn run.runs step.starts run.lasts step.goes.any_moment step.ends_now step.stands;
    }

-- the same turns, of which something else was printed
pub run_printed : {D : Type 0} (how : Answering) (d : Ghosts D) (old new : D) (shelf : Option Contents) (first last : State) (door door1 : Doorway) (Before After : List Turn → Type 0)
    → IsRun how d old new shelf first last door door1 Before → ((ts : List Turn) → Before ts → After ts) → IsRun how d old new shelf first last door door1 After
run_printed how d old new shelf first last door door1 Before After run printed = record {
  turns = run.turns;
  runs = run.runs;
  took = run.took;
  gave = run.gave;
  none_out = run.none_out;
  printed = printed run.turns run.printed;
  passes = run.passes;
  any_moment = run.any_moment;
  lasts = run.lasts;
}

-- ---- the lines

module _ (out0 out1 out2 : Option (List ℕ)) (number : ℕ) (end : ConnectionEnd) (written : List ℕ) (is : written ≡ line (number + 1) end) where
  joined : (ts : List Turn) (t : Turn) → length ts ≡ number → t.end ≡ end → lines 1 ts ++ written ≡ lines 1 (ts ++ t ∷ [])
  joined ts t count same =
      let place : number + 1 ≡ 1 + length ts = omega (arith, count) in
      ap (λ (l : List ℕ). lines 1 ts ++ l) (is ∙ ap (λ (m : ℕ). line m end) place ∙ ap (λ (e : ConnectionEnd). line (1 + length ts) e) (sym same)) ∙ sym (lines_push 1 ts t)

  longer : (ts : List Turn) (t : Turn) → length ts ≡ number → length (ts ++ t ∷ []) ≡ number + 1
  longer ts t count = omega (arith, length-append ts (t ∷ []), count)

  pub prints_more : Appends out1 out2 written → (ts : List Turn) (t : Turn) → (length ts ≡ number) × Appends out0 out1 (lines 1 ts) → t.end ≡ end
      → (length (ts ++ t ∷ []) ≡ number + 1) × Appends out0 out2 (lines 1 (ts ++ t ∷ []))
  prints_more appends ts t so_far same =
      (longer ts t so_far.0, subst (λ (l : List ℕ). Appends out0 out2 l) (joined ts t so_far.0 same) (Appends-trans out0 out1 out2 (lines 1 ts) written so_far.1 appends))

  pub prints_part : AppendsPart out1 out2 written → (ts : List Turn) (t : Turn) → (length ts ≡ number) × Appends out0 out1 (lines 1 ts) → t.end ≡ end
      → (length (ts ++ t ∷ []) ≡ number + 1) × IsCutOff out0 out2 (ts ++ t ∷ [])
  prints_part part ts t so_far same =
      let place : number + 1 ≡ suc (length ts) = omega (arith, so_far.0) in
      let is_line : written ≡ line (suc (length ts)) t.end = is ∙ ap (λ (m : ℕ). line m end) place ∙ ap (λ (e : ConnectionEnd). line (suc (length ts)) e) (sym same) in (
        longer ts t so_far.0,
        record {
          done = ts;
          last = t;
          split = refl;
          mid = out1;
          whole = so_far.1;
          part = subst (λ (l : List ℕ). AppendsPart out1 out2 l) is_line part;
        },
      )
