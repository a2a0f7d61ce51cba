-- A body is of one event or piece at most.
use Rattle.std.proofs.Common.{◌≡◌, ℕ, Bool, List, [], ◌∷◌, ◌++◌, Option, None, refl, sym, ap, ap₂, subst, ◌∙◌}
use Rattle.std.specs.Prelude.{IfNone, ⊤}
use Rattle.std.specs.Int.{w64, w128}
use Rattle.std.proofs.Props.{props}
use Rattle.store_fields.specs.Fields.{bytes_of_number, bytes_of_flag, IsNumber}
use Rattle.store_fields.proofs.Numbers.{wide64, number_unique}
use Rattle.store_fields.proofs.LongNumbers.{long_unique}
use Rattle.store_fields.proofs.Texts.{flag_unique}
use Rattle.store_fields.proofs.Listed.{list_unique}
use Rattle.meta_config.specs.declared.meta.Meta.{Meta}
use Rattle.meta_config.specs.Writing.{text_of_meta}
use Rattle.meta_config.proofs.ReadBack.{texts_tell_apart}
use Rattle.partial_merge.specs.declared.part.Part.{Part}
use Rattle.report_log.specs.declared.report.Report.{Report}
use Rattle.node_state.specs.declared.event.Event.{Event}
use Rattle.node_state.specs.declared.event.Event.TheVariants as events
use Rattle.node_state.specs.declared.event.Stage.{Stage}
use Rattle.node_state.specs.declared.list.Staged.{Staged}
use Rattle.node_state.specs.declared.piece.Piece.{Piece}
use Rattle.node_state.specs.declared.piece.Piece.TheVariants as pieces
use Rattle.node_state.specs.Lists.{IsStaged}
use Rattle.node_state.specs.StagedParts.{parts_of}
use Rattle.node_store.specs.declared.body.Body.{Body}
use Rattle.node_store.specs.declared.body.Body.TheVariants as bodies
use Rattle.node_store.specs.Bodies.{bytes_of_base, bytes_of_stage, IsBody, IsWhole, SpellsMeta}
use Rattle.node_store.specs.Laws.{BodiesAreOfOne}
use Rattle.node_store.specs.Parts.{bytes_of_part, bytes_of_parts, AreParts, IsPart}
use Rattle.node_store.specs.Reports.{bytes_of_report, IsReport}
use Rattle.node_store.proofs.Heads.{base_unique, stage_unique}
use Rattle.node_store.proofs.ByKind.{Agent, Alone, Based, Brings, IsOfKind, Job, Parts, Removed, Run, Slotted, WasKept, base, kept_of, of_kind}
use Rattle.node_store.proofs.PartsRead.{part_unique}
use Rattle.node_store.proofs.Reported.{report_unique}
use Rattle.node_store.proofs.Wholes.{one_whole}

pub parts_unique : (bytes : List ℕ) (x y : List Part) → IsWhole bytes_of_parts AreParts bytes x → IsWhole bytes_of_parts AreParts bytes y → x ≡ y
parts_unique bytes x y a b = one_whole bytes_of_parts AreParts (list_unique bytes_of_part IsPart part_unique) bytes x y a b

pub at_none : (found : Option Staged) (P : Type 0) → found ≡ None → IfNone found P → P
at_none found P is on = subst (λ (o : Option Staged). IfNone o P) is on

one_proof_of_staged : (parts : List Part) → IsProp (IsStaged parts)
one_proof_of_staged parts = Prim.hlevel props

listed : (parts : List Part) → IsStaged parts → Staged
listed p w = record { parts = p; whole = w }

same_listed : (p q : List Part) (v : IsStaged p) (w : IsStaged q) → p ≡ q → listed p v ≡ listed q w
same_listed p q v w same =
    subst (λ (l : List Part). (u : IsStaged l) → listed p v ≡ listed l u) same (λ u. ap (λ (s : IsStaged p). listed p s) (one_proof_of_staged p v u)) w

pub staged_same : (x y : Staged) → parts_of x ≡ parts_of y → x ≡ y
unfolding listed
staged_same x y same = same_listed x.parts y.parts x.whole y.whole same

-- the metas of a text are the same
one_meta : (text : List ℕ) (x y : Meta) → SpellsMeta text x → SpellsMeta text y → x ≡ y
one_meta text x y a b = texts_tell_apart x y a.is.is b.is.is (sym a.spelled ∙ b.spelled)

kind_at : (bytes : List ℕ) (kind : ℕ) (rest : List ℕ) (body : Body) → bytes ≡ kind ∷ rest → IsBody bytes body → IsOfKind kind rest body
kind_at bytes kind rest body is of = of_kind kind rest body (subst (λ (l : List ℕ). IsBody l body) is of)

run_same : (of : Report → Event) (rest : List ℕ) (x y : Report) → IsReport x → rest ≡ bytes_of_report x → IsWhole bytes_of_report IsReport rest y → bodies.Event (of x) ≡ bodies.Event (of y)
run_same of rest x y range is whole =
    ap (λ (r : Report). bodies.Event (of r)) (one_whole bytes_of_report IsReport report_unique rest x y (record { in_range = range; is = is }) whole)

module _ (bytes : List ℕ) where
  one_event : (e : Event) (b : Body) → IsBody bytes (bodies.Event e) → IsBody bytes b → bodies.Event e ≡ b
  one_event (events.Init agent) b is of =
      let p : Agent (bytes_of_number w128 agent) b = kind_at bytes 1 _ b is.0 of in
      ap (λ (n : ℕ). bodies.Event (events.Init n)) (one_whole (bytes_of_number w128) (IsNumber w128) long_unique _ agent p.0 (record { in_range = is.1; is = refl }) p.1.0) ∙ sym p.1.1
  one_event (events.SetMeta meta) b is of =
      let p : Brings (text_of_meta meta) b = kind_at bytes 2 _ b is.0 of in
      ap (λ (m : Meta). bodies.Event (events.SetMeta m)) (one_meta _ meta p.0 (record { is = is.1; spelled = refl }) p.1.0) ∙ sym p.1.1
  one_event events.Registered b is of =
      let p : Alone events.Registered [] b = kind_at bytes 3 _ b is.0 of in
      sym p.1
  one_event (events.Stage staged) b is of =
      let p : Parts (bytes_of_parts (parts_of staged)) b = kind_at bytes 4 _ b is.0 of in
      ap (λ (s : Staged). bodies.Event (events.Stage s)) (staged_same staged p.0 (parts_unique _ (parts_of staged) (parts_of p.0) (record { in_range = is.1; is = refl }) p.1.0)) ∙ sym p.1.1
  one_event (events.Promote report) b is of =
      let p : Run (λ r. events.Promote r) (bytes_of_report report) b = kind_at bytes 5 _ b is.0 of in
      run_same (λ r. events.Promote r) _ report p.0 is.1 refl p.1.0 ∙ sym p.1.1
  one_event (events.Note report) b is of =
      let p : Run (λ r. events.Note r) (bytes_of_report report) b = kind_at bytes 6 _ b is.0 of in
      run_same (λ r. events.Note r) _ report p.0 is.1 refl p.1.0 ∙ sym p.1.1
  one_event (events.AskReboot report) b is of =
      let p : Run (λ r. events.AskReboot r) (bytes_of_report report) b = kind_at bytes 7 _ b is.0 of in
      run_same (λ r. events.AskReboot r) _ report p.0 is.1 refl p.1.0 ∙ sym p.1.1
  one_event events.Boot b is of =
      let p : Alone events.Boot [] b = kind_at bytes 8 _ b is.0 of in
      sym p.1
  one_event (events.Sent job) b is of =
      let p : Job (bytes_of_number w64 job) b = kind_at bytes 9 _ b is.0 of in
      ap (λ (n : ℕ). bodies.Event (events.Sent n)) (one_whole (bytes_of_number w64) (IsNumber w64) (number_unique w64 wide64) _ job p.0 (record { in_range = is.1; is = refl }) p.1.0) ∙ sym p.1.1
  one_event (events.Remove stage) b is of =
      let p : Removed (bytes_of_stage stage) b = kind_at bytes 10 _ b is.0 of in
      ap (λ (s : Stage). bodies.Event (events.Remove s)) (one_whole bytes_of_stage (λ s. ⊤) stage_unique _ stage p.0 (record { in_range = tt; is = refl }) p.1.0) ∙ sym p.1.1
  one_event events.Restore b is of =
      let p : Alone events.Restore [] b = kind_at bytes 11 _ b is.0 of in
      sym p.1

  one_piece : (x : Piece) (b : Body) → IsBody bytes (bodies.Piece x) → IsBody bytes b → bodies.Piece x ≡ b
  one_piece (pieces.Base agent registered reboot next_job meta) b is of =
      let p : Based (bytes_of_base (agent, registered, reboot, next_job) ++ text_of_meta meta) b = kind_at bytes 12 _ b is.0 of in
      let q = base_unique (agent, registered, reboot, next_job) p.0 _ p.1.1.0 is.1.0 p.1.1.1.0 p.1.1.1.1.0 in
      let m = one_meta p.1.1.0 meta p.1.0 (record { is = is.2; spelled = sym q.1 }) p.1.1.1.1.1.0 in
      ap₂ (λ (f : ℕ × Bool × Bool × ℕ) (n : Meta). base f n) q.0 m ∙ sym p.1.1.1.1.1.1
  one_piece (pieces.Slot stage parts) b is of =
      let p : Slotted (bytes_of_stage stage ++ bytes_of_parts parts) b = kind_at bytes 13 _ b is.0 of in
      let q = stage_unique stage p.0 _ p.1.1.0 tt tt p.1.1.1.0 in
      let m = parts_unique p.1.1.0 parts p.1.0 (record { in_range = is.1.0; is = sym q.1 }) p.1.1.1.1.1.0 in
      ap₂ (λ (s : Stage) (l : List Part). bodies.Piece (pieces.Slot s l)) q.0 m ∙ sym p.1.1.1.1.1.1
  one_piece (pieces.Kept kept) b is of =
      let p : WasKept (bytes_of_flag kept.sent ++ bytes_of_report kept.report) b = kind_at bytes 14 _ b is.0 of in
      let q = flag_unique kept.sent p.0 _ p.1.1.0 tt tt p.1.1.1.0 in
      let m = one_whole bytes_of_report IsReport report_unique p.1.1.0 kept.report p.1.0 (record { in_range = is.1; is = sym q.1 }) p.1.1.1.1.0 in
      ap₂ (λ (s : Bool) (r : Report). bodies.Piece (pieces.Kept (kept_of r s))) q.0 m ∙ sym p.1.1.1.1.1

pub one_body : BodiesAreOfOne
one_body bytes (bodies.Event e) b one two = one_event bytes e b one two
one_body bytes (bodies.Piece x) b one two = one_piece bytes x b one two
