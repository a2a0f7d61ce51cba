-- How far a script has been played.
use Rattle.std.proofs.Common.{◌≡◌, ℕ, ◌+◌, ◌-◌, ◌<◌, ◌≤◌, length, take, drop, get_or, take_all, List, [], ◌∷◌, ◌++◌, Option, Some, None, refl, sym, ap, ◌∙◌, subst, arith, append_assoc, append-nil}
use Rattle.std.specs.List.{flat_map}
use Rattle.std.proofs.lemmas.Grind.{flat_map-append}
use Rattle.rehearsal.specs.Playing.{IsPlayedFrom, Plays, Starts, StepLeads, TakesStep, input_of}
use Rattle.rehearsal.specs.Rows.{row_line}
use Rattle.pull_outside.specs.ReliableShelf.{with_configuration}
use Rattle.rehearsal.specs.World.{World, with_shelf}
use Rattle.rehearsal.specs.declared.row.StartRow.{StartRow}
use Rattle.rehearsal.specs.declared.starter.Starter as starters
use Rattle.rehearsal.specs.declared.step.Step.{Step}
use Rattle.rehearsal.specs.declared.step.Step.TheVariants.{Shelf, Key, Wants, Start}
use Rattle.rehearsal.specs.declared.step.StopAt.{StopAt}

-- the text is the lines so far, and what the steps that are left come to is what all come to
pub record IsPlayedTo {S : Type 0} (program : starters.Ghosts S) (first : World) (steps : List Step) (world : World) (left : List Step) (out : List ℕ) : Type 0 where
  pub rows : List StartRow
  pub plays : (more : List StartRow) (last : World) → Plays program world left more last → Plays program first steps (rows ++ more) last
  pub is : out ≡ flat_map row_line rows

module _ {S : Type 0} (program : starters.Ghosts S) where
  pub played_on : (first : World) (steps left : List Step) (step : Step) (world next : World) (out more : List ℕ) → IsPlayedTo program first steps world (step ∷ left) out
      → StepLeads program step world out next more → IsPlayedTo program first steps next left more
  played_on first steps left step world next out more t leads = record {
    rows = t.rows ++ leads.0;
    plays = λ others last plays. subst (λ (l : List StartRow). Plays program first steps l last) (sym (append_assoc t.rows leads.0 others))
        (t.plays (leads.0 ++ others) last (leads.0, others, next, refl, leads.1, plays));
    is = leads.2 ∙ ap (λ (l : List ℕ). l ++ flat_map row_line leads.0) t.is ∙ sym (flat_map-append row_line t.rows leads.0);
  }

  pub played : (first : World) (steps : List Step) (world : World) (out : List ℕ) → IsPlayedTo program first steps world [] out → IsPlayedFrom program first steps out
  played first steps world out t = record {
    last = world;
    rows = t.rows ++ [];
    plays = t.plays [] world (refl, refl);
    is = t.is ∙ ap (flat_map row_line) (sym (append-nil t.rows));
  }

  -- a step that is no start gives no row
  pub no_row : (step : Step) (world next : World) (out : List ℕ) → TakesStep program step world [] next → StepLeads program step world out next out
  no_row step world next out takes = ([], takes, sym (append-nil out))

  pub one_row : (words : List (List ℕ)) (input : Option (List ℕ)) (stop : Option StopAt) (world next : World) (row : StartRow) (out more : List ℕ) → Starts program stop words (input_of input) world row next
      → more ≡ out ++ row_line row → StepLeads program (Start words input stop) world out next more
  one_row words input stop world next row out more starts is =
      (row ∷ [], (row, refl, starts), is ∙ ap (λ (l : List ℕ). out ++ l) (sym (append-nil (row_line row))))

  rises : (stop : Option StopAt) (words : List (List ℕ)) (text : List ℕ) (world next : World) (row : StartRow) → Starts program stop words text world row next → next.starts ≡ world.starts + 1
  rises None words text world next row starts = ap (λ (w : World). w.starts) starts.leaves
  rises (Some stop) words text world next row starts = ap (λ (w : World). w.starts) starts.leaves

  -- a step is one start at most
  pub few_starts : (step : Step) (world next : World) (rows : List StartRow) → TakesStep program step world rows next → next.starts ≤ world.starts + 1
  few_starts (Shelf configuration content) world next rows takes = omega (arith, ap (λ (w : World). w.starts) takes.1)
  few_starts (Key key) world next rows takes = omega (arith, ap (λ (w : World). w.starts) takes.1)
  few_starts (Wants id) world next rows takes = omega (arith, ap (λ (w : World). w.starts) takes.1)
  few_starts (Start words input stop) world next rows takes = omega (arith, rises stop words (input_of input) world next takes.0 takes.2)

  -- a line that puts a configuration
  pub shelf_step : (step : Step) (configuration content name text : List ℕ) (world next : World) (out : List ℕ) → step ≡ Shelf configuration content → name ≡ configuration → text ≡ content
      → next ≡ with_shelf (with_configuration name text) world → StepLeads program step world out next out
  shelf_step step configuration content name text world next out is named same put =
      no_row step world next out (subst (λ (s : Step). TakesStep program s world [] next) (sym is)
      (refl, put ∙ ap (λ (n : List ℕ). with_shelf (with_configuration n text) world) named ∙ ap (λ (t : List ℕ). with_shelf (with_configuration configuration t) world) same))

  -- a line that starts the node
  pub start_step : (step : Step) (words given : List (List ℕ)) (input : Option (List ℕ)) (text : List ℕ) (stop : Option StopAt) (world next : World) (row : StartRow) (out more : List ℕ)
      → step ≡ Start words input stop → given ≡ words → text ≡ input_of input → Starts program stop given text world row next → more ≡ out ++ row_line row → StepLeads program step world out next more
  start_step step words given input text stop world next row out more is asked same starts told =
      subst (λ (s : Step). StepLeads program s world out next more) (sym is)
      (one_row words input stop world next row out more
      (subst (λ (t : List ℕ). Starts program stop words t world row next) same (subst (λ (w : List (List ℕ)). Starts program stop w text world row next) asked starts)) told)

-- the first of the steps that are left, and the others
pub front_of : (xs : List Step) (x : Step) → 1 ≤ length xs → x ≡ get_or xs 0 x → xs ≡ x ∷ take (length xs - 1) (drop 1 xs)
front_of [] x some is = absurd (omega arith)
front_of (y ∷ ys) x some is =
    let all : take (length (y ∷ ys) - 1) ys ≡ ys = take_all (length (y ∷ ys) - 1) ys (omega arith) in
    cc

pub none_left : (xs : List Step) → length xs < 1 → xs ≡ []
none_left [] few = refl
none_left (x ∷ xs) few = absurd (omega (arith, few))

pub few_on : (starts next most : ℕ) (left rest : List Step) (step : Step) → left ≡ step ∷ rest → starts + length left ≤ most → next ≤ starts + 1 → next + length rest ≤ most
few_on starts next most left rest step is few one = omega (arith, ap length is, few, one)
