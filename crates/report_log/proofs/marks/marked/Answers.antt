use Rattle.std.proofs.Common.{◌<◌, ◌++◌, ◌∷◌, ◌∙◌, [], List, length, ap, subst, sym, take}
use Rattle.std.proofs.lemmas.List.{take_more}
use Rattle.resource_kinds.specs.declared.entry.Entry.{Entry}
use Rattle.resource_kinds.specs.Trace.{place_of}
use Rattle.resource_kinds.proofs.Marks.{marks_none, marks_push}
use Rattle.report_log.specs.Marks.{mark_of, marks_of}
use Rattle.report_log.proofs.marks.marked.Goals as goal

pub loop-entry-init : goal.loop-entry-init
loop-entry-init c = c.requires.fresh ∙ marks_none mark_of (length c.args.marks.items)

pub loop-entry-preserved : goal.loop-entry-preserved
loop-entry-preserved c =
    let calls = c.args.calls.now in
    let count = length c.args.marks.items in
    let i = c.loop-entry.entry-index in
    let e = c.entry-item.result in
    let lt = c.loop-entry-test.true in
    let within : place_of e < count = subst (λ (x : Entry). place_of x < count) (sym c.entry-item.is) (c.requires.known i e lt) in
    rw (c.loop-entry.invariant, c.place-place.ensures, c.entry_mark-mark.ensures) (
    marks_push mark_of (take i calls) e count within
    ∙ ap (λ (l : List Entry). marks_of l count) (ap (λ (x : Entry). take i calls ++ x ∷ []) c.entry-item.is ∙ sym (take_more calls i e lt))
    )
