-- What arguments without a fault hold: each option once, with a value that its parser takes.
use Rattle.std.proofs.Common.{◌≡◌, ◌∙◌, List, [], sym, ap, subst, Some, bytes_eq, Bool, false}
use Rattle.std.specs.Prelude.{find}
use Rattle.clap.specs.Faults.{check_fault, fault_of}
use Rattle.clap.specs.Simple.{matches_of}
use Rattle.clap.specs.Walk.{Row, Text, finished, nothing_held, walk_from}
use Rattle.serve_words.specs.Words.{serve_app}
use Rattle.serve_words.proofs.Options.{Which, fault_is, name, rules, shape}
use Rattle.serve_words.proofs.Turns.{Place, closed, full, held_at}
use Rattle.serve_words.proofs.Entries.{Each, Entry, Takes, each_adds, each_given, each_push, entry_of, finished_is, row, rows_of, settles}
use Rattle.serve_words.proofs.Steps.{Ends, Step, ended, ends_with, given, named, valued}

-- the value that a parse found of an option, with what holds of each entry
pub found_at_end : (P : Entry → Type 0) (Q : List Entry → Place → Type 0) (arguments : List Text) (end : Ends Q arguments (walk_from nothing_held))
    → Each P end.es → ((o : Which) (v : Text) → end.place ≡ full o v → Takes (o, v) → P (o, v)) → (o : Which)
    → (v : Text) × (find (λ r. bytes_eq r.id (name o)) (matches_of serve_app arguments) ≡ Some (row (o, v))) × P (o, v)
found_at_end P Q arguments end each new o =
    let now = settles end.place end.es end.settles in
    let same = finished_is (held_at (rows_of end.es) end.place) ∙ now.1 in
    let rows : matches_of serve_app arguments ≡ rows_of now.0 = ap (finished rules) end.held ∙ same in
    let checks : check_fault shape (rows_of now.0) false ≡ [] = subst (λ (r : List Row). check_fault shape r false ≡ []) same end.checks in
    let got = entry_of P o now.0 (each_adds P end.place end.es now.0 now.2 each new) (each_given (rows_of now.0) checks o) in
    (got.0, ap (find (λ r. bytes_eq r.id (name o))) rows ∙ got.1, got.2)

each_taken : (word : Text) (es fs : List Entry) (place next : Place) (is_over : Bool) → Unit {0} → Step word es place fs next is_over
    → Each Takes es → Each Takes fs
each_taken word es fs place next is_over q (ended e) all = all
each_taken word es fs place next is_over q (named o gs e adds) all = each_adds Takes place es gs adds all (λ p v at takes. takes)
each_taken word es fs place next is_over q (given o v gs e adds takes) all =
    each_push Takes gs (o, v) (each_adds Takes place es gs adds all (λ p w at t. t)) takes
each_taken word es fs place next is_over q (valued o e plain) all = all

pub taken : (arguments : List Text) → fault_of serve_app arguments ≡ [] → (o : Which)
    → (v : Text) × (find (λ r. bytes_eq r.id (name o)) (matches_of serve_app arguments) ≡ Some (row (o, v))) × Takes (o, v)
taken arguments e o =
    let end = ends_with (λ es place. Each Takes es) (λ word. Unit {0}) each_taken arguments (λ k d lt. tt) [] closed 1 false tt (sym (fault_is arguments) ∙ e) in
    found_at_end Takes (λ es place. Each Takes es) arguments end end.keeps (λ p v at takes. takes) o
