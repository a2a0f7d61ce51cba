use Rattle.std.proofs.Common.{◌≡◌, ◌≤◌, ◌<◌, ◌+◌, ℕ, suc, Bool, List, [], ◌∷◌, ◌++◌, Option, Some, None, filter_map, get_or, length, option_map, take, sym, ◌∙◌, ap, subst, arith, length-append}
use Rattle.std.specs.List.{enumerate_from}
use Rattle.std.proofs.lemmas.Iterator.Adapters.{YieldsList-from_vec}
use Rattle.std.proofs.lemmas.Iterator.Consumers.{YieldsList-from_enumerate, YieldsList-turn}
use Rattle.std.proofs.lemmas.List.{get_or_default}
use Rattle.std.proofs.lemmas.List.FromFn.{get_or-enumerate_from, length-enumerate_from}
use Rattle.dsc_terms.specs.Lists.{places_below}
use Rattle.report_log.specs.declared.marks.Mark.{Mark}
use Rattle.report_log.specs.declared.marks.Mark.TheVariants.{NotCalled}
use Rattle.report_log.specs.declared.report.Missed.{Missed}
use Rattle.report_log.specs.declared.report.Reason.{Reason}
use Rattle.report_log.specs.Marks.{listed_at, reason_of}
use Rattle.report_log.specs.declared.limits.TheConstants.{LISTED_LIMIT}
use Rattle.report_log.proofs.Grown.{length-first, made_none, made_one, take_grown}
use Rattle.report_log.proofs.making.listed_of.Goals as goal

abbrev missed_of : List ℕ → Reason → Missed
missed_of id reason = record { id = id; reason = reason }

-- what is listed of a place, by what was read there
module _ (rebooting : Bool) (ids : List (List ℕ)) (marks : List Mark) (place k : ℕ) (at : place ≡ k) where
  read_here : reason_of rebooting (get_or marks k NotCalled) ≡ reason_of rebooting (get_or marks place NotCalled)
  read_here = ap (λ (j : ℕ). reason_of rebooting (get_or marks j NotCalled)) (sym at)

  lists_one : (id : List ℕ) (reason : Reason) → id ≡ get_or ids k [] → reason_of rebooting (get_or marks place NotCalled) ≡ Some reason
      → listed_at rebooting ids marks k ≡ Some (record { id = id; reason = reason })
  lists_one id reason same is =
      ap (λ (o : Option Reason). option_map (λ (why : Reason). missed_of (get_or ids k []) why) o) (read_here ∙ is) ∙ ap (λ (i : List ℕ). Some (missed_of i reason)) (sym same)

  lists_none : reason_of rebooting (get_or marks place NotCalled) ≡ None → listed_at rebooting ids marks k ≡ None
  lists_none is = ap (λ (o : Option Reason). option_map (λ (why : Reason). missed_of (get_or ids k []) why) o) (read_here ∙ is)

-- the list after one more place
module _ (f : ℕ → Option Missed) (listed : List Missed) (k n : ℕ) (before : listed ≡ take LISTED_LIMIT (filter_map f (places_below k))) (more : n ≡ suc k) where
  goes_on : take LISTED_LIMIT (filter_map f (places_below (suc k))) ≡ take LISTED_LIMIT (filter_map f (places_below n))
  goes_on = ap (λ (j : ℕ). take LISTED_LIMIT (filter_map f (places_below j))) (sym more)

  one_listed : (missed : Missed) → f k ≡ Some missed → take LISTED_LIMIT (listed ++ missed ∷ []) ≡ take LISTED_LIMIT (filter_map f (places_below n))
  one_listed missed is =
      ap (λ (l : List Missed). take LISTED_LIMIT (l ++ missed ∷ [])) before ∙ take_grown LISTED_LIMIT (filter_map f (places_below k)) missed
      ∙ ap (take LISTED_LIMIT) (sym (made_one f (places_below k) k missed is)) ∙ goes_on

  none_listed : f k ≡ None → listed ≡ take LISTED_LIMIT (filter_map f (places_below n))
  none_listed is = before ∙ ap (take LISTED_LIMIT) (sym (made_none f (places_below k) k is)) ∙ goes_on

-- the id that was read stands at that place
module _ (ids : List (List ℕ)) (k place : ℕ) (id : List ℕ)
    (turn : (k < length (enumerate_from 0 ids)) × (◌≡◌ {A = ℕ × List ℕ} (place, id) (get_or (enumerate_from 0 ids) k (place, id)))) where
  within : k < length ids
  within = omega (arith, turn.0, length-enumerate_from 0 ids)

  same : ◌≡◌ {A = ℕ × List ℕ} (place, id) (0 + k, get_or ids k id)
  same = turn.1 ∙ get_or-enumerate_from 0 ids k (place, id) within

  same_place : place ≡ k
  same_place = omega (arith, ap (λ (p : ℕ × List ℕ). p.0) same)

  same_id : id ≡ get_or ids k []
  same_id = ap (λ (p : ℕ × List ℕ). p.1) same ∙ get_or_default ids k id [] within

pub list-requires-clause-bound : goal.list-requires-clause-bound
list-requires-clause-bound c =
    subst (λ (l : List Missed). length l ≤ LISTED_LIMIT) (sym c.loop-place.invariant.listed)
    (length-first LISTED_LIMIT (filter_map (listed_at c.args.rebooting c.args.ids.items c.args.marks.now) (places_below (length c.loop-place.yielded))))

pub loop-place-preserved-in-Some-reason_of : goal.loop-place-preserved-in-Some-reason_of
loop-place-preserved-in-Some-reason_of c =
    let ids = c.args.ids.items in
    let marks = c.args.marks.now in
    let k = length c.loop-place.yielded in
    let place = c.in-Some.place in
    let turn = YieldsList-turn (YieldsList-from_enumerate (YieldsList-from_vec ids (cc) (cc)) (cc)) c.loop-place.yielded c.loop-place.place-iterator c.loop-place.yielded_by _ c.next.new.self
    (place, c.in-Some.id) c.in-Some.is c.next.ensures.steps in
    record {
      listed =
          c.list.ensures.listed
          ∙ one_listed (listed_at c.args.rebooting ids marks) c.loop-place.listed.items k (length (c.loop-place.yielded ++ (place, c.in-Some.id) ∷ [])) c.loop-place.invariant.listed (omega (arith, length-append c.loop-place.yielded ((place, c.in-Some.id) ∷ [])))
          (missed_of c.in-Some.id c.in-Some-reason_of.reason) (lists_one c.args.rebooting ids marks place k (same_place ids k place c.in-Some.id turn) c.in-Some.id c.in-Some-reason_of.reason (same_id ids k place c.in-Some.id turn)
          (sym c.reason_of.ensures ∙ c.in-Some-reason_of.is));
      spare = c.list.ensures.spare;
    }

pub loop-place-preserved : goal.loop-place-preserved
loop-place-preserved c =
    let ids = c.args.ids.items in
    let marks = c.args.marks.now in
    let k = length c.loop-place.yielded in
    let place = c.in-Some.place in
    let turn = YieldsList-turn (YieldsList-from_enumerate (YieldsList-from_vec ids (cc) (cc)) (cc)) c.loop-place.yielded c.loop-place.place-iterator c.loop-place.yielded_by _ c.next.new.self
    (place, c.in-Some.id) c.in-Some.is c.next.ensures.steps in
    record {
      listed =
          none_listed (listed_at c.args.rebooting ids marks) c.loop-place.listed.items k (length (c.loop-place.yielded ++ (place, c.in-Some.id) ∷ [])) c.loop-place.invariant.listed (omega (arith, length-append c.loop-place.yielded ((place, c.in-Some.id) ∷ [])))
          (lists_none c.args.rebooting ids marks place k (same_place ids k place c.in-Some.id turn) (sym c.reason_of.ensures ∙ c.in_default.is));
      spare = c.loop-place.invariant.spare;
    }
