use Rattle.std.proofs.Common.{◌≡◌, ◌∙◌, ◌∷◌, ◌++◌, [], List, sym, ap, arith}
use Rattle.std.specs.Prelude.{slice_set}
use Rattle.pull_store.specs.declared.row.Row.{Row}
use Rattle.pull_store.specs.Steps.{place_in, place_of}
use Rattle.pull_store.proofs.InPlace.{agents_set, place_beside, registered_at, registered_new}
use Rattle.pull_store.proofs.applying.GrowingRows.register.Goals as goal

pub invariant_of-self : goal.invariant_of-self
invariant_of-self c =
    let rows = c.args.self.now.rows.items in
    let d = c.index_mut.result.now in record {
      beside = c.args.self.now.beside ∙ sym (agents_set rows c.place_in-at.result (record d { registration = c.args.registration }) d (omega (arith, c.if-at-len.true, c.len.ensures, c.args.self.now.rows.ok)) (ap (λ (r : Row). r.agent) (sym c.index_mut.ensures.value)));
    }

pub returns-then-at-len : goal.returns-then-at-len
returns-then-at-len c =
    let rows = c.args.self.now.rows.items in
    let d = c.index_mut.result.now in
    let is : c.place_in-at.result ≡ place_of c.args.agent rows = c.place_in-at.ensures.place ∙ ap (place_in c.args.agent) (c.deref.ensures.value ∙ c.args.self.now.beside) ∙ place_beside c.args.agent rows in
    ap (λ (r : Row). slice_set rows c.place_in-at.result (record r { registration = c.args.registration })) c.index_mut.ensures.value
    ∙ rw is (registered_at c.args.agent c.args.registration d rows (omega (arith, is, c.if-at-len.true, c.len.ensures, c.args.self.now.rows.ok)))

pub returns : goal.returns
returns c =
    let rows = c.args.self.now.rows.items in
    let is : c.place_in-at.result ≡ place_of c.args.agent rows = c.place_in-at.ensures.place ∙ ap (place_in c.args.agent) (c.deref.ensures.value ∙ c.args.self.now.beside) ∙ place_beside c.args.agent rows in
    c.add.ensures ∙ ap (λ (l : List Row). l ++ c.new_row.result ∷ []) c.in_ok-reserve.ensures.items ∙ ap (λ (r : Row). rows ++ r ∷ []) c.new_row.ensures
    ∙ registered_new c.args.agent c.args.registration rows (omega (arith, is, c.if-at-len.false, c.len.ensures, c.args.self.now.rows.ok))
