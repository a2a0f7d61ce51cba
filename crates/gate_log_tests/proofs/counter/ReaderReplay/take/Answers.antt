use Rattle.std.proofs.Common.{◌≡◌, ◌∙◌, ◌<◌, ◌≤◌, ℕ, List, [], ◌∷◌, None, length, get_or, refl, sym, arith}
use Rattle.gate_log_tests.specs.Counting.{count_after, count_by}
use Rattle.gate_log_tests.proofs.Counts.{ended, took}
use Rattle.gate_log_tests.proofs.counter.ReaderReplay.take.Goals as goal

-- a body of another length
short : (count : ℕ) (body : List ℕ) → length body < 2 → count_after count body ≡ None
short count [] less = refl
short count (kind ∷ []) less = refl
short count (kind ∷ (n ∷ body)) less = absurd (omega (arith, less))

long : (count : ℕ) (body : List ℕ) → 3 ≤ length body → count_after count body ≡ None
long count [] more = absurd (omega (arith, more))
long count (kind ∷ []) more = absurd (omega (arith, more))
long count (kind ∷ (n ∷ [])) more = absurd (omega (arith, more))
long count (kind ∷ (n ∷ (m ∷ body))) more = refl

two : (count : ℕ) (body : List ℕ) → 2 ≤ length body → length body < 3 → count_after count body ≡ count_by (get_or body 0 0) count (get_or body 1 0)
two count [] least less = absurd (omega (arith, least))
two count (kind ∷ []) least less = absurd (omega (arith, least))
two count (kind ∷ (n ∷ [])) least less = refl
two count (kind ∷ (n ∷ (m ∷ body))) least less = absurd (omega (arith, less))

pub returns-in_default : goal.returns-in_default
returns-in_default c = λ bodies leads. ended bodies c.args.body.now c.args.self.now.count leads (short c.args.self.now.count c.args.body.now c.in_default.len_below)

pub returns-in_default-2 : goal.returns-in_default-2
returns-in_default-2 c = λ bodies leads. ended bodies c.args.body.now c.args.self.now.count leads (long c.args.self.now.count c.args.body.now c.in_default.len_at_least)

pub returns : goal.returns
returns c = λ bodies leads. took bodies c.args.body.now c.args.self.now.count c.in-Some.count leads (two c.args.self.now.count c.args.body.now c.in-len2.len_at_least c.in-len2.len_below ∙ sym c.after.ensures ∙ c.in-Some.is)

pub returns-in-None : goal.returns-in-None
returns-in-None c = λ bodies leads. ended bodies c.args.body.now c.args.self.now.count leads (two c.args.self.now.count c.args.body.now c.in-len2.len_at_least c.in-len2.len_below ∙ sym c.after.ensures ∙ c.in-None.is)
