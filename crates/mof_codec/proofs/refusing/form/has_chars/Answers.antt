use Rattle.std.proofs.Common.{rules, ◌≡◌, ◌≤◌, ◌<◌, ◌+◌, ◌-◌, ℕ, true, false, List, [], ◌∷◌, drop, length, refl, ap, ◌∙◌, length-drop, arith}
use Rattle.std.specs.Str.{chars}
use Rattle.mof_syntax.proofs.Texts.{drop_next}
use Rattle.mof_codec.proofs.refusing.form.has_chars.Goals as goal

-- a character comes after the first n, so there is one more
one_more : (cs left rest : List ℕ) (c n : ℕ) → left ≡ drop n cs → left ≡ c ∷ rest → (rest ≡ drop (n + 1) cs) × (n + 1 ≤ length cs)
one_more cs left rest c n is next =
    let tail : rest ≡ drop 1 left = rw next refl in
    let long : length left ≡ length cs - n = ap length is ∙ length-drop n cs in
    let some : length left ≡ length (c ∷ rest) = ap length next in
    (drop_next cs left rest n is tail, omega (arith, long, some))

-- no character comes after the first n, so there are no more
no_more : (cs left : List ℕ) (n count : ℕ) → left ≡ drop n cs → left ≡ [] → n < count → count ≤ length cs → false ≡ true
no_more cs left n count is none lt enough =
    let long : length left ≡ length cs - n = ap length is ∙ length-drop n cs in
    let empty : length left ≡ 0 = ap length none in
    absurd (omega (arith, long, empty, lt, enough))

pub returns-in_default : goal.returns-in_default
returns-in_default c =
    (λ is. absurd cc, no_more (chars c.args.text.now) (chars c.loop.left.now) c.loop.counter c.args.count c.loop.invariant.1 c.in_default.ensures.none c.loop-test.true)

pub loop-preserved : goal.loop-preserved
loop-preserved c =
    let more = one_more (chars c.args.text.now) (chars c.loop.left.now) (chars c.in-Some.rest.now) c.in-Some.field-0-0 c.loop.counter c.loop.invariant.1 c.in-Some.ensures.some in
    (search rules, more.0, more.1)
