use Rattle.std.proofs.Common.{◌≡◌, ◌∙◌, length, sym, ap, arith}
use Rattle.pull_store.specs.declared.change.Change.{Change}
use Rattle.pull_store.specs.Rows.{refusal}
use Rattle.pull_store.specs.Steps.{place_in, place_of}
use Rattle.pull_store.proofs.InPlace.{length_agents, place_beside, too_many, accepted_new, accepted_old, unknown, reported}
use Rattle.pull_store.proofs.applying.GrowingRows.refusal.Goals as goal
use Rattle.pull_store.proofs.applying.GrowingRows.refusal.Goals.{else-place_in-len-via-then-place_in-len+else-len-ge-MAX_ROWS, else-place_in-len-via-else-place_in-len}

pub returns-then-len-ge-MAX_ROWS : goal.returns-then-len-ge-MAX_ROWS
returns-then-len-ge-MAX_ROWS c =
    let rows = c.args.self.now.rows.items in
    let is : c.place_in.result ≡ place_of c.in-Register.agent rows = c.place_in.ensures.place ∙ ap (place_in c.in-Register.agent) (c.deref.ensures.value ∙ c.args.self.now.beside) ∙ place_beside c.in-Register.agent rows in
    sym (ap (λ (change : Change). refusal change rows) c.in-Register.is ∙ too_many c.in-Register.agent c.in-Register.registration rows
    (omega (arith, is, c.if-place_in-len.true, c.len.ensures, c.args.self.now.rows.ok)) (omega (arith, c.if-len-ge-MAX_ROWS.true, c.len-then-place_in-len.ensures, c.args.self.now.rows.ok)))

pub returns-then-place_in-len-2 : goal.returns-then-place_in-len-2
returns-then-place_in-len-2 c =
    let rows = c.args.self.now.rows.items in
    let is : c.place_in-in-Report.result ≡ place_of c.in-Report.agent rows = c.place_in-in-Report.ensures.place ∙ ap (place_in c.in-Report.agent) (c.deref-in-Report.ensures.value ∙ c.args.self.now.beside) ∙ place_beside c.in-Report.agent rows in
    sym (ap (λ (change : Change). refusal change rows) c.in-Report.is ∙ unknown c.in-Report.agent c.in-Report.job c.in-Report.body rows (omega (arith, is, c.if-place_in-len-2.true, c.len-in-Report.ensures, c.args.self.now.rows.ok)))

pub returns-else-place_in-len : goal.returns-else-place_in-len
returns-else-place_in-len c =
    let rows = c.args.self.now.rows.items in
    let is : c.place_in.result ≡ place_of c.in-Register.agent rows = c.place_in.ensures.place ∙ ap (place_in c.in-Register.agent) (c.deref.ensures.value ∙ c.args.self.now.beside) ∙ place_beside c.in-Register.agent rows in
    elim c.else-place_in-len.branch [
      | else-place_in-len-via-then-place_in-len+else-len-ge-MAX_ROWS w ↦ sym (ap (λ (change : Change). refusal change rows) c.in-Register.is ∙ accepted_new c.in-Register.agent c.in-Register.registration rows (omega (arith, w.if-len-ge-MAX_ROWS.false, w.len-then-place_in-len.ensures, c.args.self.now.rows.ok)))
      | else-place_in-len-via-else-place_in-len w ↦ sym (ap (λ (change : Change). refusal change rows) c.in-Register.is ∙ accepted_old c.in-Register.agent c.in-Register.registration rows (omega (arith, is, c.place_in.ensures.within, ap length (c.deref.ensures.value ∙ c.args.self.now.beside), length_agents rows, w.if-place_in-len.false, c.len.ensures, c.args.self.now.rows.ok)))
    ]

pub returns-else-place_in-len-2 : goal.returns-else-place_in-len-2
returns-else-place_in-len-2 c =
    let rows = c.args.self.now.rows.items in
    let is : c.place_in-in-Report.result ≡ place_of c.in-Report.agent rows = c.place_in-in-Report.ensures.place ∙ ap (place_in c.in-Report.agent) (c.deref-in-Report.ensures.value ∙ c.args.self.now.beside) ∙ place_beside c.in-Report.agent rows in
    sym (ap (λ (change : Change). refusal change rows) c.in-Report.is ∙ reported c.in-Report.agent c.in-Report.job c.in-Report.body rows (omega (arith, is, c.place_in-in-Report.ensures.within, ap length (c.deref-in-Report.ensures.value ∙ c.args.self.now.beside), length_agents rows, c.if-place_in-len-2.false, c.len-in-Report.ensures, c.args.self.now.rows.ok)))
