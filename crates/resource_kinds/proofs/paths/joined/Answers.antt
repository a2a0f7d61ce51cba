use Rattle.std.proofs.Common.{◌≡◌, ◌<◌, ◌++◌, true, rules, tests, arith, length, length-append, sym, ap, ◌∙◌, Result, Ok, Err}
use Rattle.std.specs.Result.{OnErr}
use Rattle.std.proofs.lemmas.Iterator.Consumers.{YieldsList-at, YieldsList-end, YieldsList-from_filter, YieldsList-so_far, YieldsList-turn}
use Rattle.std.proofs.lemmas.Iterator.Splits.{YieldsList-from_slice_split}
use Rattle.std.proofs.lemmas.List.Elements.{All-append, All-same, All-take, filter_passes}
use Rattle.resource_kinds.specs.Paths.{all_segments, drive_segments, is_kept, is_separator, joined_path, kept_segments, segments}
use Rattle.resource_kinds.proofs.JoinedPaths.{drive_kept, kept_after, names_put}
use Rattle.resource_kinds.proofs.paths.joined.Goals as goal

always_err : {T E P : Type 0} (result : Result T E) → P → OnErr result P
always_err (Ok value) holds = tt
always_err (Err error) holds = holds

pub loop-name-preserved : goal.loop-name-preserved
loop-name-preserved c =
    let before = YieldsList-so_far (YieldsList-from_filter {s = c.into_iter-name-iterator.result} _ is_kept
    (YieldsList-at (cc) (YieldsList-from_slice_split {s = c.split.result} _ is_separator c.args.parts.now.rest.now c.split.ensures.rest c.split.ensures.done c.split.ensures.closure (λ x b q k. search (rules, tests))))
    (cc) (λ x b q k. search (rules, tests))) c.loop-name.yielded _ c.loop-name.yielded_by in
    let kept = All-append (λ n. is_kept n ≡ true) (drive_segments c.args.parts.now.drive) _ (drive_kept c.args.parts.now.drive c.requires)
    (All-same (λ n. is_kept n ≡ true) _ _ before (All-take (λ n. is_kept n ≡ true) (length c.loop-name.yielded) _ (filter_passes is_kept (segments c.args.parts.now.rest.now)))) in
    names_put _ _ (drive_segments c.args.parts.now.drive) c.loop-name.yielded c.in-Some.name c.loop-name.invariant kept c.in_ok-put.ensures

pub returns-in_err-put-clause-memory : goal.returns-in_err-put-clause-memory
returns-in_err-put-clause-memory c =
    let turn = YieldsList-turn (YieldsList-from_filter {s = c.into_iter-name-iterator.result} _ is_kept
    (YieldsList-at (cc) (YieldsList-from_slice_split {s = c.split.result} _ is_separator c.args.parts.now.rest.now c.split.ensures.rest c.split.ensures.done c.split.ensures.closure (λ x b q k. search (rules, tests))))
    (cc) (λ x b q k. search (rules, tests))) c.loop-name.yielded _ c.loop-name.yielded_by _ _ c.in-Some.name c.in-Some.is c.next.ensures.steps in
    let all = kept_after c.args.parts.now.drive (segments c.args.parts.now.rest.now) c.requires in
    let some : 0 < length (kept_segments (all_segments c.args.parts.now)) = omega (arith, ap length all, length-append (drive_segments c.args.parts.now.drive) (kept_segments (segments c.args.parts.now.rest.now)), turn.0) in
    always_err c.from_residual-in_err-put.result some

pub returns-clause-path : goal.returns-clause-path
returns-clause-path c =
    let all = YieldsList-end (YieldsList-from_filter {s = c.into_iter-name-iterator.result} _ is_kept
    (YieldsList-at (cc) (YieldsList-from_slice_split {s = c.split.result} _ is_separator c.args.parts.now.rest.now c.split.ensures.rest c.split.ensures.done c.split.ensures.closure (λ x b q k. search (rules, tests))))
    (cc) (λ x b q k. search (rules, tests))) c.loop-name.yielded _ c.loop-name.yielded_by _ _ c.in-None.is c.next.ensures.steps in
    c.loop-name.invariant ∙ ap (λ ss. joined_path (drive_segments c.args.parts.now.drive ++ ss)) all.0
    ∙ ap joined_path (sym (kept_after c.args.parts.now.drive (segments c.args.parts.now.rest.now) c.requires))
