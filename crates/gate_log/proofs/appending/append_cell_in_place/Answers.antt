use Rattle.std.proofs.Common.{◌≡◌, inl, ◌+◌, ◌≤◌, ◌∷◌, [], ◌++◌, ◌∙◌, ℕ, List, length, refl, ap, subst, max}
use Rattle.std.specs.Prelude.{IfSome, OnOk}
use Rattle.dsc_outside.proofs.Moments.{weaker, then_on}
use Rattle.dsc_outside.specs.Disk.{Each, written}
use Rattle.gate_log.specs.Bytes.{with_cell}
use Rattle.gate_log.specs.Steps.{TextBeforeOrAfter}
use Rattle.gate_log.specs.Text.{IsText, after_gate, body_in}
use Rattle.gate_log.proofs.Cells.{cell_size}
use Rattle.gate_log.proofs.Steps.{second_moment, appended, both_ok, lengths}
use Rattle.gate_log.proofs.Written.{read_both, written_front}
use Rattle.gate_log.proofs.appending.append_cell_in_place.Goals as goal

-- the bytes that are written after the closed gate
closed_cell : (pieces body : List ℕ) → pieces ≡ after_gate body → pieces ++ 0 ∷ [] ≡ after_gate body ++ 0 ∷ []
closed_cell pieces body is = ap (λ (l : List ℕ). l ++ 0 ∷ []) is

pub returns-in_err-stage_cell-clause-any_moment : goal.returns-in_err-stage_cell-clause-any_moment
returns-in_err-stage_cell-clause-any_moment g c = λ shape second bodies le capacity texts.
    weaker g.D.Disk.moment g.D.Disk.left_since c.args.disk.now c.stage_cell.new.disk _ (TextBeforeOrAfter shape second c.args.closed bodies (body_in c.args.head.now c.args.tail.now)) (c.stage_cell.ensures.any_moment shape second bodies texts)
    (λ f t. inl t)

pub returns-clause-any_moment : goal.returns-clause-any_moment
returns-clause-any_moment g c = λ shape second bodies le capacity texts.
    let disk = c.args.disk.now in
    let mid = c.stage_cell.new.disk in
    let body = body_in c.args.head.now c.args.tail.now in
    let P = TextBeforeOrAfter shape second c.args.closed bodies body in
    let is_cell = closed_cell _ body (c.number.ensures c.args.tail.now refl) in
    then_on g.D.Disk.moment g.D.Disk.left_since disk mid c.write_through.new.disk P _
    (weaker g.D.Disk.moment g.D.Disk.left_since disk mid _ P (c.stage_cell.ensures.any_moment shape second bodies texts) (λ f t. inl t)) c.write_through.ensures.any_moment
    (second_moment shape second c.args.closed bodies body _ is_cell le capacity (g.D.Disk.images disk) texts (g.D.Disk.shown disk) (g.D.Disk.shown mid) (g.met.D.Disk.honest disk) (g.D.Disk.images mid)
    c.in_ok-stage_cell.ensures.written c.in_ok-stage_cell.ensures.only)

pub returns-then-head-tail-lt-AT_ONCE-clause-any_moment : goal.returns-then-head-tail-lt-AT_ONCE-clause-any_moment
returns-then-head-tail-lt-AT_ONCE-clause-any_moment g c = λ shape second bodies le capacity texts.
    let body = body_in c.args.head.now c.args.tail.now in
    c.write_cell.ensures.any_moment shape second bodies body texts le capacity (c.join-size.ensures.cell ∙ closed_cell _ body (c.number.ensures c.args.tail.now refl))

pub returns-then-head-tail-lt-AT_ONCE-clause-ok : goal.returns-then-head-tail-lt-AT_ONCE-clause-ok
returns-then-head-tail-lt-AT_ONCE-clause-ok g c = λ shape second bodies le capacity texts.
    let body = body_in c.args.head.now c.args.tail.now in
    let is_cell = c.join-size.ensures.cell ∙ closed_cell _ body (c.number.ensures c.args.tail.now refl) in
    subst (λ (n : ℕ). OnOk c.write_cell.result (Each (g.D.Disk.images c.write_cell.new.disk) (λ f. IsText shape second (c.args.closed + n) f (bodies ++ body ∷ [])))) (cell_size _ body is_cell)
    (c.write_cell.ensures.ok shape second bodies body texts le capacity is_cell)

pub returns-then-head-tail-lt-AT_ONCE-clause-long : goal.returns-then-head-tail-lt-AT_ONCE-clause-long
returns-then-head-tail-lt-AT_ONCE-clause-long g c = λ n long.
    let body = body_in c.args.head.now c.args.tail.now in
    let is_cell = c.join-size.ensures.cell ∙ closed_cell _ body (c.number.ensures c.args.tail.now refl) in
    subst (λ (m : ℕ). OnOk c.write_cell.result (IfSome (g.D.Disk.shown c.write_cell.new.disk) (λ now. max n (c.args.closed + 1 + m) ≡ length now))) (cell_size _ body is_cell)
    (c.write_cell.ensures.long n long)

pub returns-clause-bytes : goal.returns-clause-bytes
returns-clause-bytes g c =
    let closed = c.args.closed in
    let body = body_in c.args.head.now c.args.tail.now in
    let cell = (c.number.new.head ++ c.args.tail.now) ++ 0 ∷ [] in
    let is_cell = closed_cell _ body (c.number.ensures c.args.tail.now refl) in
    both_ok c.write_through.result c.write_through.ensures.written c.write_through.ensures.only (λ is only. record {
      reads = read_both (written (closed + 1) cell) (written closed (165 ∷ [])) (with_cell closed body) (λ held. closed + 1 ≤ length held) (g.D.Disk.shown c.args.disk.now) (g.D.Disk.shown c.stage_cell.new.disk)
          (g.D.Disk.shown c.write_through.new.disk) (λ held le. written_front closed (165 ∷ []) cell held le ∙ ap (λ (l : List ℕ). written closed (165 ∷ l) held) is_cell) c.requires.capacity c.in_ok-stage_cell.ensures.written is;
      only = only;
    })

pub returns-clause-ok : goal.returns-clause-ok
returns-clause-ok g c = λ shape second bodies le capacity texts.
    let disk = c.args.disk.now in
    let mid = c.stage_cell.new.disk in
    let new = c.write_through.new.disk in
    let body = body_in c.args.head.now c.args.tail.now in
    let is_cell = closed_cell _ body (c.number.ensures c.args.tail.now refl) in
    both_ok c.write_through.result c.write_through.ensures.written c.write_through.ensures.only (λ is only.
    subst (λ (n : ℕ). Each (g.D.Disk.images new) (λ f. IsText shape second (c.args.closed + n) f (bodies ++ body ∷ []))) (cell_size _ body is_cell)
    (appended shape second c.args.closed bodies body _ is_cell le capacity (g.D.Disk.images disk) texts (g.D.Disk.shown disk) (g.D.Disk.shown mid) (g.met.D.Disk.honest disk) (g.D.Disk.images mid)
    c.in_ok-stage_cell.ensures.written c.in_ok-stage_cell.ensures.only (g.D.Disk.shown new) (g.D.Disk.images new) (g.met.D.Disk.honest mid) is only))

pub returns-clause-long : goal.returns-clause-long
returns-clause-long g c = λ n long.
    let disk = c.args.disk.now in
    let mid = c.stage_cell.new.disk in
    let new = c.write_through.new.disk in
    let body = body_in c.args.head.now c.args.tail.now in
    let is_cell = closed_cell _ body (c.number.ensures c.args.tail.now refl) in
    both_ok c.write_through.result c.write_through.ensures.written c.write_through.ensures.only (λ is only.
    subst (λ (m : ℕ). IfSome (g.D.Disk.shown new) (λ now. max n (c.args.closed + 1 + m) ≡ length now)) (cell_size _ body is_cell)
    (lengths c.args.closed 165 _ (g.D.Disk.shown disk) (g.D.Disk.shown mid) (g.D.Disk.shown new) n c.in_ok-stage_cell.ensures.written is c.requires.capacity long))
